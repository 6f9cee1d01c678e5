-- The options of each target.
use Rattle.std.specs.Prelude.{List, map, option_map}
use Rattle.mbe_cfg.specs.declared.cfg_options.CfgOption.{CfgOption}
use Rattle.mbe_cfg.specs.declared.targets.Target.{Target}
use Rattle.mbe_cfg.specs.declared.targets.Target.TheVariants as t
use Rattle.mbe_cfg.specs.TargetTables.{Row, x86_64_linux, x86_64_windows, x86_64_mac, aarch64_mac}
use Rattle.mbe_cfg.specs.TargetTables.{wasm32}

abbrev pub options : Target → List Row
options t.X86_64Linux = x86_64_linux
options t.X86_64Windows = x86_64_windows
options t.X86_64Mac = x86_64_mac
options t.Aarch64Mac = aarch64_mac
options t.Wasm32 = wasm32

-- The rows of a table.
abbrev pub rows : List CfgOption → List Row
rows cfgs = map (λ c. (c.name.now, option_map (λ v. v.now) c.value)) cfgs
