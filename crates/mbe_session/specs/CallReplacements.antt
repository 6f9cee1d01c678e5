-- The replacements for the calls of a file.
use Rattle.std.specs.Prelude.{◌≡◌, ◌-◌, ℕ, zero, suc, Bool, true, false, not, nat_lt, if◌then◌else◌}
use Rattle.std.specs.Prelude.{◌&&◌, codes, List, [], ◌∷◌, ◌++◌, length, Option, Some, None, option_map}
use Rattle.std.specs.Prelude.{unwrap_or}
use Rattle.std.specs.List.{list_any}
use Rattle.std.specs.Str.{bytes_eq}
use Rattle.mbe_tt.specs.declared.tt.Delimiter.{Delimiter}
use Rattle.mbe_tt.specs.declared.tt.DelimiterKind.{DelimiterKind}
use Rattle.mbe_tt.specs.declared.span.Span.{Span}
use Rattle.mbe_tt.specs.Trees.Tree.{Forest, Tree, Leaf_tree, Group_tree, none, group, append, first}
use Rattle.mbe_tt.specs.Trees.Tree.{first_span, flat_len}
use Rattle.mbe_tt.specs.Trees.Top.{Top}
use Rattle.mbe_rewriter.specs.Surroundings.{is_standard_macro}
use Rattle.mbe_rewriter.specs.MacroItems.{MacroCall, MacroDefinition, Definition, CallItem, Other}
use Rattle.mbe_rewriter.specs.MacroItems.{front, is_item}
use Rattle.mbe_rewriter.specs.AttributedCalls.{front_item_with_attributes}
use Rattle.mbe_rewriter.specs.Splice.{SplicedPart}
use Rattle.mbe_text.specs.RustText.Printer.{text_of}
use Rattle.mbe_tt.specs.declared.grammar.Dialect.{Dialect}
use Rattle.mbe_tt.specs.declared.grammar.Dialect.TheVariants.{RustAnalyzer, Rustc}
use Rattle.mbe_rewriter.specs.WholeFragments.FragmentGroups.{open_all}
use Rattle.mbe_session.specs.NestedExpansion.{ExpandsTo, ReplacesCall, after_group}
use Rattle.mbe_session.specs.CallExpansion.{Setting, State, StaysUnexpanded, IsReplaced, after_step}
use Rattle.mbe_session.specs.Adjustment.{IsRest}
use Rattle.mbe_session.specs.Budgets.{is_spent}
use Rattle.mbe_rewriter.specs.Hygiene.Contexts.{apply_hygiene}
use Rattle.mbe_session.specs.Scopes.{Scope, Definition as AMacro, is_placed_by_path, placed}
use Rattle.mbe_session.specs.Resolution.{is_unclaimed}
use Rattle.mbe_session.specs.Scopes.{with_left, with_shown}
use Rattle.mbe_rewriter.specs.declared.whole_fragments.builtin_calls.Builtins.{Builtins}
use Rattle.mbe_rewriter.specs.WholeFragments.BuiltinCalls.{expand_builtins}

-- ---- definitions of the file, which were read before

-- A definition is visible from here on, if it was read.
abbrev pub shown_at : Option ℕ → Scope → Scope
shown_at None s = s
shown_at (Some n) s = with_shown n s

abbrev pub shown : MacroDefinition → State → State
shown d s = record s { scope = shown_at (placed s.scope d.name.span) s.scope }

-- A `macro` item of a block is visible in all of the block: no path finds it.
abbrev pub is_block_item : MacroDefinition → State → Bool
is_block_item d s = is_item d.form && not (is_placed_by_path s.scope d.name.span)

abbrev pub item_shown : MacroDefinition → State → State
item_shown d s = if is_block_item d s then shown d s else s

-- A `macro_rules!` definition is visible after it.

abbrev pub rules_shown : MacroDefinition → State → State
rules_shown d s = if is_item d.form then s else shown d s

-- The `macro` items of a block become visible, one after another.
pub data ShowsItems : Forest → State → State → Type 0 where
  no_more : (s : State) → ShowsItems none s s
  at_definition : (f : Forest) (d : MacroDefinition) (s t : State) → front f ≡ Definition d
      → ShowsItems d.rest (item_shown d s) t → ShowsItems f s t
  at_call : (f : Forest) (c : MacroCall) (s t : State) → front f ≡ CallItem c
      → ShowsItems c.rest s t → ShowsItems f s t
  at_tree : (f rest : Forest) (tree : Tree) (s t : State) → front f ≡ Other tree rest
      → ShowsItems rest s t
      → ShowsItems f s t

-- After a group, the definitions in it are no longer visible, unless `#[macro_use]` precedes it.
pub data LeavesGroup (k : DelimiterKind) (s t : State) : State → Type 0 where
  is_left : LeavesGroup k s t (after_group k (length s.scope.visible) t)
  is_used : LeavesGroup k s t t

-- ---- replacements

-- The replacements for the calls of trees, from one state to another.
abbrev pub Parts : Type 1
Parts = Forest → State → List SplicedPart → State → Type 0

abbrev pub NoPart : Parts
NoPart f s parts t = (parts ≡ []) × (t ≡ s)

abbrev pub PartsOfTree : Parts → Tree → State → List SplicedPart → State → Type 0
PartsOfTree within (Leaf_tree l) s parts u = (parts ≡ []) × (u ≡ s)
PartsOfTree within (Group_tree d inside) s parts u =
    (t : State) × within inside s parts t × LeavesGroup d.kind s t u

-- In the argument of a macro of the standard library, calls are expanded.
abbrev pub PartsOfArgument : Parts → Bool → Forest → State → List SplicedPart → State → Type 0
PartsOfArgument within false f s parts t = (parts ≡ []) × (t ≡ s)
PartsOfArgument within true f s parts t = within f s parts t

-- The last token of a call, by the trees that are left after it: the closing delimiter, or the `;`
-- that is removed with the call.
abbrev pub last_span : MacroCall → Forest → Span
last_span c left =
    if nat_lt (flat_len left) (flat_len c.rest) then unwrap_or
    (option_map first_span (first c.rest)) c.delimiter.close
    else c.delimiter.close

-- No definition may have that name, so the name is the built-in macro's.
abbrev pub is_builtin : State → List ℕ → Bool
is_builtin s name = is_unclaimed s.scope name

abbrev pub number_if : Bool → ℕ → Option ℕ
number_if true n = Some n
number_if false n = None

-- What calls of built-in macros expand to, where the outermost call is at that line and column.
abbrev pub builtins : State → ℕ → ℕ → Builtins
builtins s line column = record {
  line = number_if (is_builtin s (codes "line")) line;
  column = number_if (is_builtin s (codes "column")) column;
  stringify = is_builtin s (codes "stringify");
  concat = is_builtin s (codes "concat");
}

-- In rustc's dialect, no group of a fragment is left in the text.
abbrev pub all_opened_in : Dialect → Forest → Forest
all_opened_in RustAnalyzer f = f
all_opened_in Rustc f = open_all f

-- The replacement for a call: the text of the expansion, in which calls are expanded too. It is
-- adjusted to what is beside the call, its locals are renamed apart, and calls of built-in macros
-- are expanded. The first `mark` contexts are of earlier calls.
pub record IsPartOf (e : Setting) (levels depth mark : ℕ) (c : MacroCall) (tree : Forest)
    (s : State) (part : SplicedPart)
    (left : Forest) (t : State) : Type 0 where
  pub out : Forest
  pub placed : ReplacesCall (ExpandsTo e levels depth) c.delimiter tree s out t
  pub indentation : ℕ
  pub line : ℕ
  pub column : ℕ
  pub written : part.text
      ≡ text_of indentation (expand_builtins (builtins t line column)
      (apply_hygiene t.contexts mark left (all_opened_in e.grammar.dialect out)))
  pub leaves : IsRest c.rest left
  pub in_file : part.file ≡ c.start.file
  pub starts : part.start ≡ c.start.start
  pub ends : part.end ≡ (last_span c left).end

-- The attributes of a call are replaced by nothing.
abbrev pub attribute_part : MacroCall → SplicedPart
attribute_part c =
    record { file = c.begin.file; start = c.begin.start; end = c.start.start; text = [] }

abbrev pub has_attributes : MacroCall → Bool
has_attributes c = nat_lt c.begin.start c.start.start

abbrev pub attribute_parts : MacroCall → List SplicedPart
attribute_parts c = if has_attributes c then attribute_part c ∷ [] else []

-- The replacements for a call, and the trees that are left after it. A call whose expansion asks for
-- more than the limits of calls and tokens allow is not replaced, and uses nothing of the limits.
pub data PartsOfCall (e : Setting) (levels : ℕ) (within : Parts) (c : MacroCall) (s : State) : List
    SplicedPart → Forest → State
    → Type 0 where
  of_kept : (parts : List SplicedPart) (t u : State) → StaysUnexpanded e c e.depth s levels t
      → PartsOfArgument within (is_standard_macro c.name.sym) c.argument t parts u
      → PartsOfCall e levels within c s parts c.rest u
  of_replaced : (tree : Top) (part : SplicedPart) (left : Forest) (t : State)
      → IsReplaced e c levels e.depth s tree
      → IsPartOf e levels (e.depth - 1) (length s.contexts) c tree.1 (after_step c tree s)
      part left t
      → is_spent t.fuel ≡ false
      → PartsOfCall e levels within c s (attribute_parts c ++ part ∷ []) left t
  of_spent : (tree : Top) (part : SplicedPart) (left : Forest) (t : State)
      → IsReplaced e c levels e.depth s tree
      → IsPartOf e levels (e.depth - 1) (length s.contexts) c tree.1 (after_step c tree s)
      part left t
      → is_spent t.fuel ≡ true
      → PartsOfCall e levels within c s [] c.rest (record t { fuel = s.fuel })

-- The replacements for the front, and the trees that are left after it.
pub data FrontParts (e : Setting) (levels : ℕ) (within : Parts) (f : Forest) (s : State) : List
    SplicedPart → Forest → State
    → Type 0 where
  of_definition : (d : MacroDefinition) → front_item_with_attributes f ≡ Definition d
      → FrontParts e levels within f s [] d.rest (rules_shown d s)
  of_tree : (tree : Tree) (rest : Forest) (parts : List SplicedPart) (t : State)
      → front_item_with_attributes f ≡ Other tree rest
      → PartsOfTree within tree s parts t
      → FrontParts e levels within f s parts rest t
  of_call : (c : MacroCall) (parts : List SplicedPart) (rest : Forest) (t : State)
      → front_item_with_attributes f ≡ CallItem c
      → PartsOfCall e levels within c s parts rest t
      → FrontParts e levels within f s parts rest t

-- One front after another, to the end.
pub data AllParts (e : Setting) (levels : ℕ) (within : Parts) : Forest → State → List SplicedPart
    → State → Type 0 where
  ends : (s : State) → AllParts e levels within none s [] s
  goes_on : (f rest : Forest) (parts more : List SplicedPart) (s t u : State)
      → FrontParts e levels within f s parts rest t
      → AllParts e levels within rest t more u → AllParts e levels within f s (parts ++ more) u

-- The replacements for trees. The `macro` items of a block are visible from its first tree on.
abbrev pub PartsIn : Setting → ℕ → Parts → Parts
PartsIn e levels within f s parts u =
    (t : State) × ShowsItems f s t × AllParts e levels within f t parts u

-- The replacements for what is in a group, where groups and calls may still be nested that deep.
unfoldable pub PartsWithin : Setting → ℕ → Parts
PartsWithin e zero = NoPart
PartsWithin e (suc levels) = PartsIn e levels (PartsWithin e levels)

-- The replacements for a file, whose definitions are visible up to its end.
abbrev pub PartsOfFile : Setting → ℕ → Parts
PartsOfFile e levels f s parts u =
    (t : State) × PartsWithin e (suc levels) f s parts t
    × (u ≡ record t { scope = with_left (length s.scope.visible) t.scope })

-- ---- what follows for each replacement, and for files that call no known macro

-- Trees that are in `whole`: the trees after some of it, or the content of a group in it.
pub data IsIn (whole : Forest) : Forest → Type 0 where
  all_of_it : IsIn whole whole
  after_some : (kept rest : Forest) → IsIn whole (append kept rest) → IsIn whole rest
  in_group : (d : Delimiter) (inside rest : Forest) → IsIn whole (group d inside rest)
      → IsIn whole inside

-- A replacement for a call: of its attributes, or of all from its path on.
pub data IsOf (e : Setting) (levels mark : ℕ) (c : MacroCall) (tree : Forest) (s : State)
    (part : SplicedPart) (left : Forest)
    (t : State) : Type 0 where
  of_attributes : has_attributes c ≡ true → part ≡ attribute_part c
      → IsOf e levels mark c tree s part left t
  of_expansion : IsPartOf e levels (e.depth - 1) mark c tree s part left t
      → IsOf e levels mark c tree s part left t

-- A replacement for a call that is in the trees.
pub record IsOfCall (e : Setting) (whole : Forest) (part : SplicedPart) : Type 0 where
  pub from : Forest
  pub call : MacroCall
  pub is_in : IsIn whole from
  pub is_called : front_item_with_attributes from ≡ CallItem call
  pub levels : ℕ
  pub before : State
  pub after : State
  pub tree : Top
  pub left : Forest
  pub is_replaced : IsReplaced e call levels e.depth before tree
  pub is_part : IsOf e levels (length before.contexts) call tree.1 (after_step call tree before) part
      left after

-- None of these definitions has that name.
abbrev pub NoneHas : List ℕ → List AMacro → Type 0
NoneHas name ds = list_any (λ (d : AMacro). bytes_eq d.name name) ds ≡ false

-- No call that is in the trees has the name of one of these definitions.
abbrev pub NoneCalled : List AMacro → Forest → Type 0
NoneCalled ds whole = (f : Forest) (c : MacroCall) → IsIn whole f → front_item_with_attributes f
    ≡ CallItem c → NoneHas c.name.sym ds

-- A change of trees, whose replacements come after others.
abbrev pub Adds : (List SplicedPart → State → Type 0) → List SplicedPart → List SplicedPart → State
    → Type 0
Adds change before after t = (more : List SplicedPart) × change more t × (after ≡ before ++ more)
