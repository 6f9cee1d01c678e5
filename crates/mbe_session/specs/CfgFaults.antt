-- Faults of `cfg` attributes in an expansion, and where they are reported.
use Rattle.std.specs.Prelude.{List, [], ◌∷◌, Option, Some, None}
use Rattle.mbe_tt.specs.Trees.Tree.{Forest}
use Rattle.mbe_cfg.specs.CfgFaults.{message}
use Rattle.mbe_cfg.specs.CfgStrip as stripping
use Rattle.mbe_cfg.specs.declared.cfg_fault.CfgFault.{CfgFault}
use Rattle.mbe_cfg.specs.declared.cfg_options.CfgOptions.{CfgOptions}
use Rattle.mbe_session.specs.Explanation.{Note}
use Rattle.mbe_session.specs.Faults.{error_at}

abbrev pub noted : Option CfgFault → List Note
noted None = []
noted (Some fault) = error_at fault.at (message fault.fault_kind) ∷ []

-- the fault of the one attribute at the front is reported at that attribute
abbrev pub attribute_noted : CfgOptions → Forest → List Note
attribute_noted s f = noted (stripping.fault_at s f)
