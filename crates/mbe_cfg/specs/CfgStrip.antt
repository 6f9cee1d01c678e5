-- Trees without what attributes are on whose `cfg` doesn't hold, and without `cfg_attr`s that add
-- nothing.
use Rattle.std.specs.Prelude.{◌≡◌, ◌<◌, ℕ, zero, suc, Bool, true, false, not, ◌&&◌, nat_lt}
use Rattle.std.specs.Prelude.{if◌then◌else◌}
use Rattle.std.specs.Result.{result_err, is_err}
use Rattle.std.specs.Prelude.{List, [], ◌∷◌, ◌++◌, Option, Some, None, option_and_then, Result, Ok}
use Rattle.std.specs.Prelude.{Err, codes}
use Rattle.mbe_tt.specs.Grammars.Grammar.{Grammar}
use Rattle.mbe_tt.specs.Trees.Top.{Top}
use Rattle.mbe_tt.specs.Trees.Leaf.{is_text}
use Rattle.mbe_tt.specs.Trees.Tree.{Forest, Tree, Leaf_tree, Group_tree, none, leaf, group, append}
use Rattle.mbe_tt.specs.Trees.Tree.{one_leaf, flat_len, skip}
use Rattle.mbe_tt.specs.Trees.Tree.{front_ident, rest_of}
use Rattle.mbe_tt.specs.declared.tt.Delimiter.{Delimiter}
use Rattle.mbe_tt.specs.declared.tt.DelimiterKind.TheVariants.{Bracket, Parenthesis}
use Rattle.mbe_rewriter.specs.MacroItems as calls
use Rattle.mbe_rewriter.specs.AttributedCalls.{front_item_with_attributes}
use Rattle.mbe_cfg.specs.declared.cfg_fault.CfgFault.{CfgFault}
use Rattle.mbe_cfg.specs.declared.predicate.TheConstants.{DEPTH}
use Rattle.mbe_cfg.specs.declared.cfg_options.CfgOptions.{CfgOptions}
use Rattle.mbe_cfg.specs.Attributes.{attribute, attributes}
use Rattle.mbe_cfg.specs.TreeFront.{Group, after_char, group_at, attribute_group}
use Rattle.mbe_cfg.specs.Predicates.{ValueResult, predicate}
use Rattle.mbe_cfg.specs.AttributeTarget.{after_attribute_target}

-- ---- whether attributes hold

-- the brackets of the inner attribute at the front: `#![..]`
abbrev pub inner_attribute : Forest → Option Group
inner_attribute f =
    option_and_then (group_at Bracket) (option_and_then (after_char 33) (after_char 35 f))

abbrev pub holds_in : ValueResult → Result Bool CfgFault
holds_in (Ok v) = Ok v.holds
holds_in (Err fault) = Err fault

abbrev pub is_enabled_by : CfgOptions → Forest → Option Group → Result Bool CfgFault
is_enabled_by s f None = holds_in (attributes s (flat_len f) true f)
is_enabled_by s f (Some g) = attribute s DEPTH g.close g.inside

-- whether the inner attribute at the front, or the attributes in a row there, let what they are on
-- be compiled
abbrev pub is_enabled : CfgOptions → Forest → Result Bool CfgFault
is_enabled s f = is_enabled_by s f (inner_attribute f)

-- attributes with a fault leave what they are on
abbrev pub is_disabled_by : Result Bool CfgFault → Bool
is_disabled_by (Ok holds) = not holds
is_disabled_by (Err fault) = false

-- the attributes at the front have a fault
abbrev pub has_fault : CfgOptions → Forest → Bool
has_fault s f = is_err (is_enabled s f)

abbrev pub is_disabled : CfgOptions → Forest → Bool
is_disabled s f = is_disabled_by (is_enabled s f)

-- an inner attribute is on all that comes after it
abbrev pub after_inner : Grammar → Forest → Option Group → Forest
after_inner g f None = after_attribute_target g f
after_inner g f (Some attribute) = none

abbrev pub after_disabled_target : Grammar → Forest → Forest
after_disabled_target g f = after_inner g f (inner_attribute f)

-- No front with more than `n` flat tokens is off.
abbrev pub IsEnabledTo : CfgOptions → ℕ → Forest → Type 0
IsEnabledTo s n f =
    (k : ℕ) → n < flat_len (skip k f) → is_disabled s (skip k f) ≡ false

-- ---- `cfg_attr`s that add nothing

abbrev pub is_false_by : ValueResult → Bool
is_false_by (Ok v) = not v.holds
is_false_by (Err fault) = false

-- a predicate with a fault doesn't fail
abbrev pub is_false : CfgOptions → Group → Bool
is_false s argument = is_false_by (predicate s DEPTH argument.close argument.inside)

-- the parentheses of a `cfg_attr`
abbrev pub cfg_attr_argument : Forest → Option Group
cfg_attr_argument f =
    option_and_then (λ i. if is_text i.sym (codes "cfg_attr") then group_at Parenthesis (rest_of f)
    else None)
    (front_ident f)

abbrev pub is_false_of : CfgOptions → Option Group → Bool
is_false_of s None = false
is_false_of s (Some argument) = is_false s argument

-- an attribute in these brackets is a `cfg_attr` whose predicate doesn't hold
abbrev pub is_inert : CfgOptions → Group → Bool
is_inert s g = is_false_of s (cfg_attr_argument g.inside)

-- the attributes at the front are on a call, to which they belong
abbrev pub is_call : calls.FrontItem → Bool
is_call (calls.CallItem c) = true
is_call (calls.Definition d) = false
is_call (calls.Other t rest) = false
is_call calls.End = false

abbrev pub without : CfgOptions → Forest → Group → Option Forest
without s f g =
    if is_inert s g && not (is_call (front_item_with_attributes f)) then Some g.rest else None

-- what is after the attribute at the front, where that adds nothing, and isn't on a call
abbrev pub after_inert_attribute : CfgOptions → Forest → Option Forest
after_inert_attribute s f = option_and_then (without s f) (attribute_group f)

-- ---- what is wrong in attributes

-- what is wrong in the one attribute at the front
abbrev pub fault_at : CfgOptions → Forest → Option CfgFault
fault_at s f =
    option_and_then (λ g. result_err (attribute s DEPTH g.close g.inside)) (attribute_group f)

abbrev pub as_list : Option CfgFault → List CfgFault
as_list None = []
as_list (Some fault) = fault ∷ []

-- ---- what stays

-- what stays of trees, and what is wrong in the attributes that stay
pub record Stripped : Type 0 where
  pub kept : Forest
  pub faults : List CfgFault

-- the first trees, down to so many flat tokens that are left
abbrev pub up_to : ℕ → Forest → Forest
up_to n none = none
up_to n (leaf l rest) = if nat_lt n (flat_len (leaf l rest)) then leaf l (up_to n rest) else none
up_to n (group d inside rest) =
    if nat_lt n (flat_len (group d inside rest)) then group d inside (up_to n rest) else none

-- trees that stay as they are
abbrev pub unchanged : Forest → Stripped
unchanged f = record { kept = f; faults = [] }

abbrev pub in_group : Delimiter → Stripped → Stripped
in_group d inside = record { kept = group d inside.kept none; faults = inside.faults }

abbrev pub tree_stripped : (Forest → Stripped) → Tree → Stripped
tree_stripped within (Leaf_tree l) = unchanged (one_leaf l)
tree_stripped within (Group_tree d inside) = in_group d (within inside)

-- what stays of a front, what is wrong in its attributes, and what is left after it
pub record Step : Type 0 where
  pub kept : Forest
  pub faults : List CfgFault
  pub rest : Forest

abbrev pub whole : Forest → Forest → Step
whole f rest = record { kept = up_to (flat_len rest) f; faults = []; rest = rest }

abbrev pub with_fault : List CfgFault → Stripped → Forest → Step
with_fault faults t rest = record { kept = t.kept; faults = faults ++ t.faults; rest = rest }

-- An attribute that adds nothing is left out. Its faults are kept.
abbrev pub inert_or_tree : (Forest → Stripped) → CfgOptions → Forest → Tree → Forest → Option Forest
    → Step
inert_or_tree within s f t rest (Some after) =
    with_fault (as_list (fault_at s f)) (unchanged none) after
inert_or_tree within s f t rest None =
    with_fault (as_list (fault_at s f)) (tree_stripped within t) rest

abbrev pub other_step : (Forest → Stripped) → CfgOptions → Forest → Tree → Forest → Step
other_step within s f t rest = inert_or_tree within s f t rest (after_inert_attribute s f)

abbrev pub disabled_or_tree : (Forest → Stripped) → CfgOptions → Grammar → Forest → Tree → Forest
    → Bool → Step
disabled_or_tree within s g f t rest true =
    record { kept = none; faults = []; rest = after_disabled_target g f }
disabled_or_tree within s g f t rest false = other_step within s f t rest

-- the front is no definition and no call
abbrev pub is_tree : calls.FrontItem → Bool
is_tree (calls.Other t rest) = true
is_tree (calls.Definition d) = false
is_tree (calls.CallItem c) = false
is_tree calls.End = false

-- A definition and a call stay whole. Any other tree stays with what stays of what it holds, unless
-- it begins something
-- that is off, or an attribute that adds nothing.
abbrev pub step_by : (Forest → Stripped) → CfgOptions → Grammar → Forest → calls.FrontItem → Step
step_by within s g f calls.End = record { kept = none; faults = []; rest = f }
step_by within s g f (calls.Definition d) = whole f d.rest
step_by within s g f (calls.CallItem c) = whole f c.rest
step_by within s g f (calls.Other t rest) = disabled_or_tree within s g f t rest (is_disabled s f)

abbrev pub step : (Forest → Stripped) → CfgOptions → Grammar → Forest → Step
step within s g f = step_by within s g f (calls.front f)

abbrev pub step_then : Step → Stripped → Stripped
step_then one more = record { kept = append one.kept more.kept; faults = one.faults ++ more.faults }

-- what stays of trees, one front after another, so many at most
unfoldable pub steps : (Forest → Stripped) → CfgOptions → Grammar → ℕ → Forest → Stripped
steps within s g zero f = unchanged none
steps within s g (suc n) f =
    step_then (step within s g f) (steps within s g n (step within s g f).rest)

-- What stays of trees in which so many groups may be in one another. Each front has a flat token at
-- least.
unfoldable pub stripped : CfgOptions → Grammar → ℕ → Forest → Stripped
stripped s g zero f = unchanged f
stripped s g (suc levels) f = steps (stripped s g levels) s g (flat_len f) f

-- a tree without what is off in it
abbrev pub enabled_tree : CfgOptions → Grammar → Top → Top
enabled_tree s g t = (t.0, (stripped s g 1001 t.1).kept)

-- what is wrong in its attributes, in their order
abbrev pub faults_of_tree : CfgOptions → Grammar → Top → List CfgFault
faults_of_tree s g t = (stripped s g 1001 t.1).faults
