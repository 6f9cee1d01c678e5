-- The conditions under which the `cfg`s of a session are evaluated.
use Rattle.std.specs.Prelude.{◌≡◌, ℕ, List, Bool, map}
use Rattle.mbe_cfg.specs.declared.cfg_options.CfgOption.{CfgOption}
use Rattle.mbe_cfg.specs.declared.cfg_options.CfgOptions.{CfgOptions}
use Rattle.mbe_cfg.specs.declared.targets.Target.{Target}
use Rattle.mbe_cfg.specs.Targets.{options, rows}

-- A target, the options that are given in addition to the target's, the crate's features, and
-- whether `test` is set.
pub record Conditions : Type 0 where
  pub target : Target
  pub given : List CfgOption
  pub features : List (List ℕ)
  pub is_test : Bool

-- The settings stand for these conditions.
pub record IsUnder (c : Conditions) (s : CfgOptions) : Type 0 where
  pub target : rows s.target.now ≡ options c.target
  pub given : s.given.now ≡ c.given
  pub features : map (λ f. f.now) s.features.now ≡ c.features
  pub test : s.test ≡ c.is_test
