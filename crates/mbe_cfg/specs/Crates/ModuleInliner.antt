-- The trees of a crate. `mod name;` becomes `mod name { .. }` with the trees of the file that holds
-- the module. The trees of its file follow an `include!("..");`.
use Rattle.std.specs.Prelude.{ℕ, zero, suc, List, [], ◌∷◌, ◌++◌, Option, Some, None, Result, Ok}
use Rattle.std.specs.Prelude.{Err}
use Rattle.mbe_tt.specs.Trees.Leaf.{ident}
use Rattle.mbe_tt.specs.Trees.Tree.{Forest, none, leaf, group, append, tree, Tree, first, rest_of}
use Rattle.mbe_tt.specs.Trees.Tree.{flat_len}
use Rattle.mbe_tt.specs.Trees.Top.{Top}
use Rattle.mbe_tt.specs.declared.span.Span.{Span}
use Rattle.mbe_tt.specs.declared.tt.Delimiter.{Delimiter}
use Rattle.mbe_tt.specs.declared.tt.DelimiterKind.TheVariants.{Brace}
use Rattle.mbe_cfg.specs.Files.ModuleDirs.{ModuleDir, Candidates, candidates, included, inside}
use Rattle.mbe_cfg.specs.declared.crates.file_lookup.FileLookupError.{FileLookupError}
use Rattle.mbe_cfg.specs.Crates.ModuleItems.{Module, ModuleBody, Outside, Braces, module_of}
use Rattle.mbe_cfg.specs.Crates.ModuleItems.{Included, ModuleCursor, after, at_item_start}
use Rattle.mbe_cfg.specs.Crates.ModuleItems.{finished_include}
use Rattle.mbe_cfg.specs.Crates.FileLookup.{CrateFile, FoundFile, found_file}

-- The surroundings of trees: the folder of the modules in them, and the numbers of the files around
-- them.
pub record InlineContext : Type 0 where
  pub module_dir : ModuleDir
  pub around : List ℕ

-- A module without its file: the span of its name, the files that may hold it, and why none of them
-- does. An `include!` without its file has its text as the name.
pub record UnresolvedFile : Type 0 where
  pub at : Span
  pub name : List ℕ
  pub candidates : Candidates
  pub reason : FileLookupError

-- What trees become, and the modules in them without their files.
pub record InlinedTrees : Type 0 where
  pub kept : Forest
  pub unresolved : List UnresolvedFile

abbrev pub unchanged : Forest → InlinedTrees
unchanged f = record { kept = f; unresolved = [] }

-- What a front becomes, the modules in it without their files, and what is left.
pub record Step : Type 0 where
  pub kept : Forest
  pub unresolved : List UnresolvedFile
  pub cursor : ModuleCursor

abbrev pub alone : Option Tree → Forest
alone None = none
alone (Some t) = tree t none

abbrev pub after_first : ModuleCursor → Option Tree → ModuleCursor
after_first l None = l
after_first l (Some t) = after l t (rest_of l.rest)

-- A tree is unchanged.
abbrev pub one_tree : ModuleCursor → List UnresolvedFile → Step
one_tree l unresolved =
    record {
      kept = alone (first l.rest);
      unresolved = unresolved;
      cursor = after_first l
          (first l.rest);
    }

-- A module with its content.
abbrev pub module_with : Module → Delimiter → Forest → Forest
module_with m d content = leaf (ident m.word) (leaf (ident m.name) (group d content none))

abbrev pub in_braces : Module → Delimiter → InlinedTrees → Step
in_braces m d content = record {
  kept = module_with m d content.kept;
  unresolved = content.unresolved;
  cursor = at_item_start m.rest;
}

-- Braces in place of a `;`.
abbrev pub braces : Span → Delimiter
braces semicolon = record { opening = semicolon; close = semicolon; kind = Brace }

-- A file is around its own trees.
abbrev pub in_found_file : List ℕ → FoundFile → InlineContext
in_found_file around t = record { module_dir = t.module_dir; around = around ++ t.number ∷ [] }

abbrev pub unresolved_of : Span → List ℕ → Candidates → FileLookupError → UnresolvedFile
unresolved_of at name c reason = record { at = at; name = name; candidates = c; reason = reason }

-- The trees of its file are a module's content. Without its file, `mod name;` is unchanged.
abbrev pub outside_step : (InlineContext → Forest → InlinedTrees) → InlineContext → ModuleCursor
    → Module → Span → Candidates → Result FoundFile FileLookupError → Step
outside_step within at l m semicolon c (Ok t) =
    in_braces m (braces semicolon) (within (in_found_file at.around t) t.trees)
outside_step within at l m semicolon c (Err reason) =
    one_tree l (unresolved_of m.name.span m.name.sym c reason ∷ [])

abbrev pub body_step : (InlineContext → Forest → InlinedTrees) → List CrateFile → InlineContext
    → ModuleCursor → Module → ModuleBody → Step
body_step within files at l m (Braces d content) =
    in_braces m d
    (within (record { module_dir = inside at.module_dir m.name.sym l.path; around = at.around })
    content)
body_step within files at l m (Outside semicolon) =
    let c = candidates at.module_dir m.name.sym l.path in
    outside_step within at l m semicolon c (found_file files at.around m.name.sym c)

-- The trees of its file follow the tree that ends an `include!`.
abbrev pub with_file : Step → InlinedTrees → Step
with_file one more =
    record {
      kept = append one.kept more.kept;
      unresolved = one.unresolved
          ++ more.unresolved;
      cursor = one.cursor;
    }

abbrev pub included_by : (InlineContext → Forest → InlinedTrees) → InlineContext → ModuleCursor
    → Included → Candidates → Result FoundFile FileLookupError → Step
included_by within at l i c (Ok t) =
    with_file (one_tree l []) (within (in_found_file at.around t) t.trees)
included_by within at l i c (Err reason) = one_tree l (unresolved_of i.at i.path c reason ∷ [])

abbrev pub included_step : (InlineContext → Forest → InlinedTrees) → List CrateFile → InlineContext
    → ModuleCursor → Included → Step
included_step within files at l i =
    let c = included at.module_dir i.path in included_by within at l i c
    (found_file files at.around i.path c)

abbrev pub tree_step : (InlineContext → Forest → InlinedTrees) → List CrateFile → InlineContext
    → ModuleCursor → Option Included → Step
tree_step within files at l None = one_tree l []
tree_step within files at l (Some i) = included_step within files at l i

abbrev pub step_by : (InlineContext → Forest → InlinedTrees) → List CrateFile → InlineContext
    → ModuleCursor → Option Module → Step
step_by within files at l None = tree_step within files at l (finished_include l)
step_by within files at l (Some m) = body_step within files at l m m.body

-- One front.
abbrev pub step : (InlineContext → Forest → InlinedTrees) → List CrateFile → InlineContext
    → ModuleCursor → Step
step within files at l = step_by within files at l (module_of l.rest)

abbrev pub before : Step → InlinedTrees → InlinedTrees
before one more = record {
  kept = append one.kept more.kept;
  unresolved = one.unresolved
      ++ more.unresolved;
}

-- At most `n` fronts, one after another.
unfoldable pub steps : (InlineContext → Forest → InlinedTrees) → List CrateFile → InlineContext → ℕ
    → ModuleCursor → InlinedTrees
steps within files at zero l = unchanged none
steps within files at (suc n) l =
    before (step within files at l) (steps within files at n (step within files at l).cursor)

-- What trees become, in which modules may be nested `levels` deep. Each front has at least one flat
-- token.
unfoldable pub inlined : List CrateFile → ℕ → InlineContext → Forest → InlinedTrees
inlined files zero at f = unchanged f
inlined files (suc levels) at f =
    steps (inlined files levels) files at (flat_len f) (at_item_start f)

-- Where the trees of a crate's root are: the file of that number.
abbrev pub root_context : ℕ → ModuleDir → InlineContext
root_context number module_dir = record { module_dir = module_dir; around = number ∷ [] }

-- The tree of the crate with that root.
abbrev pub crate_tree : List CrateFile → ℕ → ModuleDir → Top → Top
crate_tree files number module_dir t =
    (t.0, (inlined files 1001 (root_context number module_dir) t.1).kept)

-- The modules in it without their files.
abbrev pub unresolved_in : List CrateFile → ℕ → ModuleDir → Top → List UnresolvedFile
unresolved_in files number module_dir t =
    (inlined files 1001 (root_context number module_dir) t.1).unresolved
