-- The expansion of the calls in trees, step by step.
use Rattle.std.specs.Prelude.{◌≡◌, ◌-◌, ℕ, zero, suc, Bool, false, true, length}
use Rattle.mbe_tt.specs.declared.tt.Delimiter.{Delimiter}
use Rattle.mbe_tt.specs.declared.tt.DelimiterKind.{DelimiterKind}
use Rattle.mbe_tt.specs.declared.tt.DelimiterKind.TheVariants.{Parenthesis, Brace, Bracket}
use Rattle.mbe_tt.specs.declared.tt.DelimiterKind.TheVariants.{Invisible}
use Rattle.mbe_tt.specs.Buffers.GroupStack.{GroupStack, put}
use Rattle.mbe_tt.specs.Trees.Tree.{Forest, Tree, Leaf_tree, Group_tree, none, group, append}
use Rattle.mbe_tt.specs.Trees.Tree.{one_leaf, flat_len}
use Rattle.mbe_tt.specs.Trees.Top.{Top}
use Rattle.mbe_rewriter.specs.MacroItems.{MacroCall, MacroDefinition}
use Rattle.mbe_rewriter.specs.Surroundings.{is_standard_macro}
use Rattle.mbe_session.specs.CallExpansion.{Setting, State, after_step, StaysUnexpanded, IsReplaced}
use Rattle.mbe_cfg.specs.CfgStrip.{up_to}
use Rattle.mbe_session.specs.Adjustment.{IsTrimmed, IsWrapped, IsEnded, IsRest}
use Rattle.mbe_session.specs.CfgFront.{disabled, definition, call, tree, piece}
use Rattle.mbe_session.specs.Scopes.{Scope, IsRead, with_shown, with_left}
use Rattle.mbe_session.specs.declared.scope.Visibility.TheVariants.{Text}

-- A relation: these trees in this state are rewritten to those trees, and leave that state.
abbrev pub Change : Type 1
Change = Forest → State → Forest → State → Type 0

-- The trees are unchanged.
abbrev pub Unchanged : Change
Unchanged f s out t = (out ≡ f) × (t ≡ s)

-- After braces, only that many definitions stay visible: those from before the group.
abbrev pub after_group : DelimiterKind → ℕ → State → State
after_group Brace mark s = record s { scope = with_left mark s.scope }
after_group Parenthesis mark s = s
after_group Bracket mark s = s
after_group Invisible mark s = s

-- A definition that was read is visible from here on.
abbrev pub shows : State → Scope → State
shows s read = record s { scope = with_shown (length s.scope.definitions) read }

-- A group keeps its delimiters, and its content changes.
pub record ChangesGroup (inner : Change) (d : Delimiter) (inside : Forest) (s : State)
    (out : Forest)
    (u : State) : Type 0 where
  pub content : Forest
  pub state : State
  pub changes : inner inside s content state
  pub is_group : out ≡ group d content none
  pub is_after : u ≡ after_group d.kind (length s.scope.visible) state

-- A leaf is unchanged.
abbrev pub ChangesTree : Change → Tree → State → Forest → State → Type 0
ChangesTree inner (Leaf_tree l) s out u = (out ≡ one_leaf l) × (u ≡ s)
ChangesTree inner (Group_tree d inside) s out u = ChangesGroup inner d inside s out u

-- Trees are changed. They stay bare, or are put in parentheses or braces.
abbrev pub ChangesWrapped : Change → Delimiter → Forest → State → Forest → State → Type 0
ChangesWrapped inner d f s out u =
    (changed : Forest) × inner f s changed u × IsWrapped d changed out

-- An expansion replaces its call: its trees are changed, and adjusted to what is beside them.
pub record ReplacesCall (inner : Change) (d : Delimiter) (tree : Forest) (s : State) (out : Forest)
    (u : State) : Type 0 where
  pub part : Forest
  pub wrapped : Forest
  pub is_part : IsTrimmed tree part
  pub changes : ChangesWrapped inner d part s wrapped u
  pub ended : IsEnded d.close wrapped out

-- A definition is unchanged. It is read, and is visible from here on.
abbrev pub KeepsDefinition : Setting → Forest → MacroDefinition → State → Forest → State → Type 0
KeepsDefinition e f d s out u = (f ≡ append out d.rest) × (read : Scope)
    × IsRead e.language d Text s.scope read
    × (u ≡ shows s read)

-- A call is not expanded, and keeps its attributes. If its macro is one of the standard library,
-- the calls in its argument are expanded.
abbrev pub KeepsCall : Change → Bool → Forest → MacroCall → State → Forest → State → Type 0
KeepsCall inner false f c s out u = (f ≡ append out c.rest) × (u ≡ s)
KeepsCall inner true f c s out u =
    (head content : Forest) × (f ≡ append head (group c.delimiter c.argument c.rest))
    × (out ≡ append head content)
    × ChangesGroup inner c.delimiter c.argument s content u

-- What a call at the front changes to, and the trees that are left after it. The content of a group
-- or of an expansion changes as `within` says for a depth, so the calls of an expansion are
-- expanded in turn.
pub data ChangesCall (e : Setting) (levels depth : ℕ) (within : ℕ
    → Change) (f : Forest) (c : MacroCall) (s : State)
    : Forest → Forest → State → Type 0 where
  stays : (out : Forest) (t u : State) → StaysUnexpanded e c depth s levels t
      → KeepsCall (within depth) (is_standard_macro c.name.sym) f c t out u
      → ChangesCall e levels depth within f c s out c.rest u
  is_replaced : (tree : Top) (out rest : Forest) (t : State) → IsReplaced e c levels depth s tree
      → ReplacesCall (within (depth - 1)) c.delimiter tree.1 (after_step c tree s) out t
      → IsRest c.rest rest
      → ChangesCall e levels depth within f c s out rest t

-- What the front changes to, and the trees that are left after it. Disabled code is unchanged, and
-- nothing in it counts.
pub data Step (e : Setting) (levels depth : ℕ) (within : ℕ
    → Change) (f : Forest) (s : State) : Forest → Forest → State
    → Type 0 where
  of_disabled : (rest : Forest) → piece e f ≡ disabled rest
      → Step e levels depth within f s (up_to (flat_len rest) f) rest s
  of_definition : (d : MacroDefinition) (out : Forest) (t : State) → piece e f ≡ definition d
      → KeepsDefinition e f d s out t
      → Step e levels depth within f s out d.rest t
  of_tree : (t : Tree) (rest out : Forest) (u : State) → piece e f ≡ tree t rest
      → ChangesTree (within depth) t s out u
      → Step e levels depth within f s out rest u
  of_call : (c : MacroCall) (rest out : Forest) (t : State) → piece e f ≡ call c
      → ChangesCall e levels depth within f c s out rest t
      → Step e levels depth within f s out rest t

-- One step after another, to the end.
pub data Steps (e : Setting) (levels depth : ℕ) (within : ℕ → Change) : Forest → State → Forest
    → State → Type 0 where
  ends : (s : State) → Steps e levels depth within none s none s
  goes_on : (f out rest more : Forest) (s t u : State) → Step e levels depth within f s out rest t
      → Steps e levels depth within rest t more u
      → Steps e levels depth within f s (append out more) u

-- What trees change to at a depth of expansions, where groups and calls may still be nested
-- `levels` deep.
unfoldable pub ExpandsTo : Setting → ℕ → ℕ → Change
ExpandsTo e zero depth = Unchanged
ExpandsTo e (suc levels) depth = Steps e levels depth (ExpandsTo e levels)

-- ---- what is emitted into a builder

-- A change, whose trees are emitted.
abbrev pub Writes : (Forest → State → Type 0) → GroupStack → GroupStack → State → Type 0
Writes change before after u = (out : Forest) × change out u × (after ≡ put out before)
