-- The modules and `include!`s that an expansion declares, and trees with such modules after calls.
use Rattle.std.specs.Prelude.{ℕ, zero, suc, Bool, true, false, ◌==◌, if◌then◌else◌, codes}
use Rattle.std.specs.Prelude.{List, [], ◌∷◌, Option, Some, None, option_map, option_and_then}
use Rattle.std.specs.Prelude.{unwrap_or}
use Rattle.mbe_tt.specs.Trees.Leaf.{Leaf, literal, punct, ident, is_text, span_of}
use Rattle.mbe_tt.specs.Trees.Top.{Top}
use Rattle.mbe_tt.specs.Trees.Tree.{Forest, none, leaf, group, append, flat_len, front_ident}
use Rattle.mbe_tt.specs.Trees.Tree.{rest_of}
use Rattle.mbe_tt.specs.declared.span.Span.{Span}
use Rattle.mbe_tt.specs.declared.tt.Delimiter.{Delimiter}
use Rattle.mbe_tt.specs.declared.tt.DelimiterKind.TheVariants.{Brace, Parenthesis}
use Rattle.mbe_cfg.specs.CfgStrip.{up_to}
use Rattle.mbe_cfg.specs.TreeFront.{Group, after_char, attribute_group, group_at}
use Rattle.mbe_cfg.specs.Crates.ModuleItems.{Module, ModuleBody, Outside, Braces}
use Rattle.mbe_cfg.specs.Crates.ModuleItems.{include_at, module_of}

-- ---- modules of an expansion

abbrev pub past_group : (Forest → Forest) → Forest → Option Group → Forest
past_group more f None = f
past_group more f (Some g) = more g.rest

-- The trees after at most `n` attributes.
unfoldable pub past_attributes : ℕ → Forest → Forest
past_attributes zero f = f
past_attributes (suc n) f = past_group (past_attributes n) f (attribute_group f)

abbrev pub after_attributes : Forest → Forest
after_attributes f = past_attributes (flat_len f) f

abbrev pub after_pub : Forest → Option Forest
after_pub f =
    option_and_then (λ i. if is_text i.sym (codes "pub") then Some (rest_of f) else None)
    (front_ident f)

abbrev pub after_parentheses : Forest → Forest
after_parentheses f = past_group (λ rest. rest) f (group_at Parenthesis f)

-- The trees after a `pub` or `pub(..)`.
abbrev pub after_visibility : Forest → Forest
after_visibility f = unwrap_or (option_map after_parentheses (after_pub f)) f

abbrev pub after_first : Forest → Forest
after_first f = rest_of f

abbrev pub after_group_by : Forest → Option Group → Option Forest
after_group_by f None = after_char 59 (after_first f)
after_group_by f (Some g) = Some g.rest

-- The trees after a group in braces, or after a group and a `;`.
abbrev pub after_group : Forest → Option Forest
after_group f = after_group_by f (group_at Brace f)

-- The trees after the item `include!("..");` at the front.
abbrev pub after_include : Forest → Option Forest
after_include f = option_and_then (λ i. after_group (after_first (after_first f))) (include_at f)

-- What is kept of a front, and the trees that are left after it.
pub record Step : Type 0 where
  pub kept : Forest
  pub rest : Forest

-- A module in braces with the modules of its content. Its attributes and its visibility are the
-- trees of `f` before `item`.
abbrev pub inline_module : (Forest → Forest) → Forest → Forest → Module → Delimiter → Forest → Forest
inline_module within f item m d content =
    append (up_to (flat_len item) f)
    (leaf (ident m.word) (leaf (ident m.name) (group d (within content) none)))

abbrev pub kept_by : (Forest → Forest) → Forest → Forest → Module → ModuleBody → Forest
kept_by within f item m (Outside semicolon) = up_to (flat_len m.rest) f
kept_by within f item m (Braces d content) = inline_module within f item m d content

abbrev pub module_kept : (Forest → Forest) → Forest → Forest → Module → Forest
module_kept within f item m = kept_by within f item m m.body

abbrev pub include_step_by : Forest → Option Forest → Step
include_step_by f None = record { kept = none; rest = after_first f }
include_step_by f (Some rest) = record { kept = up_to (flat_len rest) f; rest = rest }

abbrev pub include_step : Forest → Forest → Step
include_step f item = include_step_by f (after_include item)

abbrev pub front_step_by : (Forest → Forest) → Forest → Forest → Option Module → Step
front_step_by within f item None = include_step f item
front_step_by within f item (Some m) =
    record { kept = module_kept within f item m; rest = m.rest }

-- A module or an `include!` is kept with its attributes and its visibility. Any other tree is left
-- out.
abbrev pub front_step : (Forest → Forest) → Forest → Step
front_step within f =
    let item = after_visibility (after_attributes f) in front_step_by within f item (module_of item)

-- At most `n` fronts, one after another.
unfoldable pub front_steps : (Forest → Forest) → ℕ → Forest → Forest
front_steps within zero f = none
front_steps within (suc n) f =
    append (front_step within f).kept (front_steps within n (front_step within f).rest)

-- The modules and `include!`s among trees, down to so many nested modules.
unfoldable pub modules_in : ℕ → Forest → Forest
modules_in zero f = none
modules_in (suc levels) f = front_steps (modules_in levels) (flat_len f) f

-- ---- their span

abbrev pub leaf_at : Span → Leaf → Leaf
leaf_at at (literal l) = literal (record l { span = at })
leaf_at at (punct p) = punct (record p { span = at })
leaf_at at (ident i) = ident (record i { span = at })

abbrev pub at_span_by : (Forest → Forest) → Span → Forest → Forest
at_span_by inner at none = none
at_span_by inner at (leaf l rest) = leaf (leaf_at at l) (at_span_by inner at rest)
at_span_by inner at (group d inside rest) =
    group (record { opening = at; close = at; kind = d.kind }) (inner inside)
    (at_span_by inner at rest)

-- Trees at one span, down to so many nested groups.
unfoldable pub at_span : ℕ → Span → Forest → Forest
at_span zero at f = f
at_span (suc levels) at f = at_span_by (at_span levels at) at f

-- The modules and `include!`s that an expansion declares, at one span.
abbrev pub expansion_modules : Span → Forest → Forest
expansion_modules at f = at_span 1000 at (modules_in 1000 f)

-- ---- trees with insertions

-- Trees that are put after the tree that ends at byte `end`.
pub record Insertion : Type 0 where
  pub end : ℕ
  pub trees : Forest

abbrev pub trees_if : Bool → Forest → Forest
trees_if true f = f
trees_if false f = none

-- The trees that are put after that byte.
abbrev pub inserted_at : List Insertion → ℕ → Forest
inserted_at [] end = none
inserted_at (i ∷ is) end = append (trees_if (i.end == end) i.trees) (inserted_at is end)

abbrev pub inserted_by : (Forest → Forest) → List Insertion → Forest → Forest
inserted_by inner is none = none
inserted_by inner is (leaf l rest) =
    leaf l (append (inserted_at is (span_of l).end) (inserted_by inner is rest))
inserted_by inner is (group d inside rest) =
    group d (inner inside) (append (inserted_at is d.close.end) (inserted_by inner is rest))

-- Trees with their insertions, down to so many nested groups.
unfoldable pub inserted_in : ℕ → List Insertion → Forest → Forest
inserted_in zero is f = f
inserted_in (suc levels) is f = inserted_by (inserted_in levels is) is f

abbrev pub with_insertions : List Insertion → Top → Top
with_insertions is tree = (tree.0, inserted_in 1000 is tree.1)
