-- What is left to be written, as trees are followed one front after another.
use Rattle.std.proofs.Common.{ℕ, zero, suc, ◌-◌, ◌≡◌, ◌<◌, List, [], ◌∷◌, ◌++◌, length, None, refl, ap, sym, ◌∙◌}
use Rattle.std.proofs.Common.{append_assoc, append-nil, arith}
use Rattle.std.specs.Prelude.{true, Option, Result, Ok, Err, OnOk}
use Rattle.mbe_tt.specs.Buffers.GroupStack.{GroupStack, put, closed}
use Rattle.mbe_tt.specs.Trees.Leaf.{ident}
use Rattle.mbe_tt.specs.Trees.Tree.{Forest, Tree, none, leaf, group, append, flat_len, one_leaf}
use Rattle.mbe_tt.specs.declared.tt.Delimiter.{Delimiter}
use Rattle.mbe_tt.proofs.Buffers.Built.{length-put}
use Rattle.mbe_tt.proofs.Buffers.Grown.{put-none, put-put}
use Rattle.mbe_cfg.specs.Crates.ModuleInliner as spec
use Rattle.mbe_cfg.specs.Crates.ModuleInliner.{InlineContext, InlinedTrees, Step, UnresolvedFile, unchanged, step}
use Rattle.mbe_cfg.specs.Crates.ModuleInliner.{before, steps, inlined, alone}
use Rattle.mbe_cfg.specs.Crates.ModuleItems.{Included, Module, ModuleCursor, at_item_start}
use Rattle.mbe_cfg.specs.Crates.InlinerSteps.{Writes}
use Rattle.mbe_cfg.specs.Crates.FileLookup.{CrateFile}
use Rattle.mbe_cfg.specs.TreeFront.{is_empty}

pub one_more : (n : ℕ) → 0 < n → n ≡ suc (n - 1)
one_more n h = omega (arith, h)

-- a file's trees after a tree
pub file_written : (one more : Forest) (old b new : GroupStack) → b ≡ put one old → new ≡ put more b
    → new ≡ put (append one more) old
file_written one more old b new hb hn = hn ∙ ap (put more) hb ∙ put-put one more old

-- where there is no tree, nothing is written
pub nothing_alone : (t : Option Tree) (old : GroupStack) → t ≡ None → old ≡ put (alone t) old
nothing_alone t old is = put-none old ∙ ap (λ x. put (alone x) old) (sym is)

-- ---- fronts

-- what is written of some trees, once what the others become is, is what is to be written of all; and so for modules
-- without their files
pub record Going (within : InlineContext → Forest
    → InlinedTrees) (files : List CrateFile) (at : InlineContext) (all : ℕ) (f : Forest) (old : GroupStack)
    (noted : List UnresolvedFile) (most : ℕ) (cursor : ModuleCursor) (now : GroupStack)
    (found : List UnresolvedFile) : Type 0 where
  pub same : put (steps within files at most cursor).kept now
      ≡ put (steps within files at all (at_item_start f)).kept old
  pub said : found ++ (steps within files at most cursor).unresolved
      ≡ noted ++ (steps within files at all (at_item_start f)).unresolved
  pub groups : length now ≡ length old

steps_suc : (within : InlineContext → Forest
    → InlinedTrees) (files : List CrateFile) (at : InlineContext) (n : ℕ) (l : ModuleCursor)
    → before (step within files at l) (steps within files at n (step within files at l).cursor)
    ≡ steps within files at (suc n) l
unfolding steps
steps_suc within files at n l = refl

steps_none : (within : InlineContext → Forest
    → InlinedTrees) (files : List CrateFile) (at : InlineContext) (l : ModuleCursor)
    → unchanged none ≡ steps within files at 0 l
unfolding steps
steps_none within files at l = refl

-- one front more, where some are left
steps_more : (within : InlineContext → Forest
    → InlinedTrees) (files : List CrateFile) (at : InlineContext) (most : ℕ) (l : ModuleCursor) → 0 < most
    → before (step within files at l) (steps within files at (most - 1) (step within files at l).cursor)
    ≡ steps within files at most l
steps_more within files at most l some =
    steps_suc within files at (most - 1) l ∙ ap (λ n. steps within files at n l) (sym (one_more most some))

-- one front on
pub front_on : (within : InlineContext → Forest
    → InlinedTrees) (files : List CrateFile) (at : InlineContext) (all : ℕ) (f : Forest) (old : GroupStack)
    (noted : List UnresolvedFile) (most : ℕ) (cursor after : ModuleCursor) (now next : GroupStack)
    (found more : List UnresolvedFile)
    → 0 < most
    → Going within files at all f old noted most cursor now found
    → next ≡ put (step within files at cursor).kept now → more ≡ found ++ (step within files at cursor).unresolved
    → after ≡ (step within files at cursor).cursor
    → Going within files at all f old noted (most - 1) after next more
front_on within files at all f old noted most cursor after now next found more some h e m r =
    let one = step within files at cursor in
    let others = steps within files at (most - 1) in
    let whole = steps_more within files at most cursor some in
    record {
      same = ap (λ x. put (others x).kept next) r ∙ ap (put (others one.cursor).kept) e
          ∙ put-put one.kept (others one.cursor).kept now ∙ ap (λ x. put x.kept now) whole ∙ h.same;
      said = ap (λ x. more ++ (others x).unresolved) r ∙ ap (λ x. x ++ (others one.cursor).unresolved) m
          ∙ append_assoc found one.unresolved (others one.cursor).unresolved ∙ ap (λ x. found ++ x.unresolved) whole
          ∙ h.said;
      groups = ap length e ∙ length-put now one.kept ∙ h.groups;
    }

-- nothing is left
pub no_steps : (within : InlineContext → Forest
    → InlinedTrees) (files : List CrateFile) (at : InlineContext) (most : ℕ) (l : ModuleCursor) → most ≡ 0
    → unchanged none ≡ steps within files at most l
no_steps within files at most l e = steps_none within files at l ∙ ap (λ n. steps within files at n l) (sym e)

-- without trees, a front is nothing, and nothing more is left
abbrev nothing_at : ModuleCursor → Step
nothing_at l = record { kept = none; unresolved = []; cursor = l }

abbrev cursor_of : Forest → Option (List ℕ) → Option Included → ModuleCursor
cursor_of f path included = record { rest = f; path = path; included = included }

empty_step : (within : InlineContext → Forest → InlinedTrees) (files : List CrateFile) (at : InlineContext)
    (f : Forest) (path : Option (List ℕ)) (included : Option Included) → is_empty f ≡ true
    → nothing_at (cursor_of f path included) ≡ step within files at (cursor_of f path included)
empty_step within files at none path included e = refl
empty_step within files at (leaf l rest) path included e = cc
empty_step within files at (group d inside rest) path included e = cc

-- no trees are left
pub no_trees : (within : InlineContext → Forest → InlinedTrees) (files : List CrateFile) (at : InlineContext)
    (most : ℕ) (l : ModuleCursor) → is_empty l.rest ≡ true → unchanged none ≡ steps within files at most l
unfolding steps
no_trees within files at zero l e = refl
no_trees within files at (suc most) l e =
    no_trees within files at most l e
    ∙ ap (λ x. before x (steps within files at most x.cursor)) (empty_step within files at l.rest l.path l.included e)

pub ended : (within : InlineContext → Forest
    → InlinedTrees) (files : List CrateFile) (at : InlineContext) (all : ℕ) (f : Forest) (old : GroupStack)
    (noted : List UnresolvedFile) (most : ℕ) (cursor : ModuleCursor) (now : GroupStack) (found : List UnresolvedFile)
    → unchanged none ≡ steps within files at most cursor
    → Going within files at all f old noted most cursor now found
    → now ≡ put (steps within files at all (at_item_start f)).kept old
ended within files at all f old noted most cursor now found e h =
    put-none now ∙ ap (λ x. put x.kept now) e ∙ h.same

pub ended_unfound : (within : InlineContext → Forest
    → InlinedTrees) (files : List CrateFile) (at : InlineContext) (all : ℕ) (f : Forest)
    (old : GroupStack) (noted : List UnresolvedFile) (most : ℕ) (cursor : ModuleCursor) (now : GroupStack)
    (found : List UnresolvedFile) → unchanged none ≡ steps within files at most cursor
    → Going within files at all f old noted most cursor now found
    → found ≡ noted ++ (steps within files at all (at_item_start f)).unresolved
ended_unfound within files at all f old noted most cursor now found e h =
    sym (append-nil found) ∙ ap (λ x. found ++ x.unresolved) e ∙ h.said

pub followed_suc : (files : List CrateFile) (levels : ℕ) (at : InlineContext) (f : Forest)
    → steps (inlined files levels) files at (flat_len f) (at_item_start f) ≡ inlined files (suc levels) at f
unfolding inlined
followed_suc files levels at f = refl

followed_zero : (files : List CrateFile) (at : InlineContext) (f : Forest) → unchanged f ≡ inlined files 0 at f
unfolding inlined
followed_zero files at f = refl

-- too deep
pub followed_none : (files : List CrateFile) (levels : ℕ) (at : InlineContext) (f : Forest) → levels ≡ 0
    → unchanged f ≡ inlined files levels at f
followed_none files levels at f e = followed_zero files at f ∙ ap (λ n. inlined files n at f) (sym e)

-- ---- groups

-- a module is written once its words and its group are
pub module_put : (m : Module) (d : Delimiter) (content : Forest) (old : GroupStack)
    → put (group d content none) (put (one_leaf (ident m.name)) (put (one_leaf (ident m.word)) old))
    ≡ put (spec.module_with m d content) old
module_put m d content old =
    put-put (one_leaf (ident m.name)) (group d content none) (put (one_leaf (ident m.word)) old)
    ∙ put-put (one_leaf (ident m.word)) (leaf (ident m.name) (group d content none)) old

-- a group is open in the whole
pub one_open : (a b c e n : GroupStack) (f g h : Forest) (d : Delimiter) → 0 < length a → b ≡ put f a → c ≡ put g b
    → e ≡ (d, none) ∷ c → n ≡ put h e → 1 < length n
one_open a b c e n f g h d some hb hc he hn =
    omega (
      arith,
      some,
      ap length hb,
      length-put a f,
      ap length hc,
      length-put b g,
      ap length he,
      ap length hn,
      length-put e h,
    )

abbrev pub not_closed : Delimiter → Delimiter
not_closed d = record { opening = d.opening; close = d.opening; kind = d.kind }

-- a module is written once its words, and its group with that content, are
pub module_written : (m : Module) (d : Delimiter) (content : Forest) (old b c e n z : GroupStack)
    → b ≡ put (one_leaf (ident m.word)) old → c ≡ put (one_leaf (ident m.name)) b → e ≡ (not_closed d, none) ∷ c
    → n ≡ put content e → z ≡ closed d.close n → z ≡ put (spec.module_with m d content) old
module_written m d content old b c e n z hb hc he hn hz =
    hz ∙ ap (closed d.close) (hn ∙ ap (put content) he)
    ∙ ap (put (group d content none)) (hc ∙ ap (put (one_leaf (ident m.name))) hb) ∙ module_put m d content old

-- ---- what is written in all

-- trees that are too deep
pub all_kept : {T E : Type 0} (r : Result T E) (files : List CrateFile) (levels : ℕ) (at : InlineContext) (f : Forest)
    (old new : GroupStack) (noted : List UnresolvedFile) → levels ≡ 0 → OnOk r (new ≡ put f old)
    → OnOk r (Writes (inlined files levels at f) old noted new noted)
all_kept (Ok x) files levels at f old new noted e k = record {
  kept = k ∙ ap (λ y. put y.kept old) (followed_none files levels at f e);
  unresolved = sym (append-nil noted) ∙ ap (λ y. noted ++ y.unresolved) (followed_none files levels at f e);
}
all_kept (Err x) files levels at f old new noted e k = tt

-- trees none of which is left
pub all_written : (files : List CrateFile) (levels : ℕ) (at : InlineContext) (f : Forest) (old : GroupStack)
    (noted : List UnresolvedFile)
    (most : ℕ) (cursor : ModuleCursor) (now : GroupStack) (found : List UnresolvedFile)
    → unchanged none ≡ steps (inlined files levels) files at most cursor
    → Going (inlined files levels) files at (flat_len f) f old noted most cursor now found
    → Writes (inlined files (suc levels) at f) old noted now found
all_written files levels at f old noted most cursor now found e h = record {
  kept = ended (inlined files levels) files at (flat_len f) f old noted most cursor now found e h
      ∙ ap (λ y. put y.kept old) (followed_suc files levels at f);
  unresolved = ended_unfound (inlined files levels) files at (flat_len f) f old noted most cursor now found e h
      ∙ ap (λ y. noted ++ y.unresolved) (followed_suc files levels at f);
}
