-- When an option is set.
use Rattle.std.specs.Prelude.{ℕ, Bool, false, ◌&&◌, ◌||◌, List, codes, Option, Some, None, is_none}
use Rattle.std.specs.List.{list_any}
use Rattle.std.specs.Str.{bytes_eq}
use Rattle.mbe_cfg.specs.declared.cfg_options.CfgOption.{CfgOption}
use Rattle.mbe_cfg.specs.declared.cfg_options.CfgOptions.{CfgOptions}

-- The option is that name, without a value.
abbrev pub is_name : List ℕ → CfgOption → Bool
is_name name c = is_none c.value && bytes_eq c.name.now name

-- The option is that name with that value.
abbrev pub is_name_with_value : List ℕ → List ℕ → CfgOption → Bool
is_name_with_value name value c =
    elim c.value as (λ _. Bool) [
      | None ↦ false
      | Some own ↦ bytes_eq c.name.now name
          && bytes_eq own.now value
    ]

-- A name, or a name with a value, is an option of the target, a given option, `test`, or a feature.
abbrev pub is_set : CfgOptions → List ℕ → Option (List ℕ) → Bool
is_set s name None =
    list_any (is_name name) s.target.now
    || (list_any (is_name name) s.given.now || (s.test && bytes_eq name (codes "test")))
is_set s name (Some value) =
    list_any (is_name_with_value name value) s.target.now
    || (list_any (is_name_with_value name value) s.given.now
    || (bytes_eq name (codes "feature") && list_any (λ f. bytes_eq value f.now) s.features.now))
