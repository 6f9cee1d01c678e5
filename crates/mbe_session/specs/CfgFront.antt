-- What the trees of an expansion begin with.
use Rattle.std.specs.Prelude.{◌≡◌, nat_lt, if◌then◌else◌, Option, Some, None}
use Rattle.mbe_tt.specs.Grammars.Grammar.{Grammar}
use Rattle.mbe_tt.specs.Trees.Tree.{Forest, Tree, append, group, flat_len}
use Rattle.mbe_rewriter.specs.MacroItems.{MacroCall, MacroDefinition, FrontItem, Definition}
use Rattle.mbe_rewriter.specs.MacroItems.{CallItem, Other, End, front}
use Rattle.mbe_rewriter.specs.AttributedCalls.{front_item_with_attributes}
use Rattle.mbe_cfg.specs.declared.cfg_options.CfgOptions.{CfgOptions}
use Rattle.mbe_cfg.specs.CfgStrip.{is_disabled, has_fault, after_disabled_target}
use Rattle.mbe_session.specs.CallExpansion.{Setting}

pub data CfgFront : Type 0 where
  -- what attributes are on whose `cfg`s don't hold, up to these trees
  disabled : Forest → CfgFront
  definition : MacroDefinition → CfgFront
  call : MacroCall → CfgFront
  tree : Tree → Forest → CfgFront
  end : CfgFront

-- the trees that are left, if they are fewer
abbrev pub if_fewer : Forest → Forest → Option Forest
if_fewer f rest = if nat_lt (flat_len rest) (flat_len f) then Some rest else None

-- what is after the attributes at the front whose `cfg`s don't hold, and after what they are on
abbrev pub disabled_by : Grammar → CfgOptions → Forest → Option Forest
disabled_by g s f = if is_disabled s f then if_fewer f (after_disabled_target g f) else None

abbrev pub of_front : FrontItem → CfgFront
of_front (Definition d) = definition d
of_front (CallItem c) = call c
of_front (Other t rest) = tree t rest
of_front End = end

-- attributes with a fault stay before what they are on, so that the fault is reported there
abbrev pub sound_front : CfgOptions → Forest → FrontItem
sound_front s f = if has_fault s f then front f else front_item_with_attributes f

abbrev pub unless_disabled : FrontItem → Option Forest → CfgFront
unless_disabled x (Some rest) = disabled rest
unless_disabled x None = of_front x

-- what is at the front: something disabled, or else a definition, a call with its attributes, or
-- any other tree
abbrev pub cfg_front_by : Grammar → CfgOptions → Forest → CfgFront
cfg_front_by g s f = unless_disabled (sound_front s f) (disabled_by g s f)

abbrev pub piece : Setting → Forest → CfgFront
piece e f = cfg_front_by e.grammar e.conditions f

-- the trees end with those
abbrev pub EndsIn : Forest → Forest → Type 0
EndsIn f rest = (kept : Forest) × (f ≡ append kept rest)

-- the trees end with the group of a call and with what follows it
abbrev pub EndsInCall : Forest → MacroCall → Type 0
EndsInCall f c = EndsIn f (group c.delimiter c.argument c.rest)
