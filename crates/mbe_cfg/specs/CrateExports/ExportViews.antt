-- The values of exports in the specification, independent of their allocator.
use Rattle.std.specs.Prelude.{option_map}
use Rattle.std.specs.String.{string_bytes}
use Rattle.mbe_cfg.specs.CrateExports.Exports as spec
use Rattle.mbe_cfg.specs.declared.exports.export.Export.{Export}
use Rattle.mbe_cfg.specs.declared.exports.export.ExportedMacros.{ExportedMacros}
use Rattle.mbe_cfg.specs.declared.exports.export.ExportedMacros.TheVariants as w
use Rattle.mbe_cfg.specs.declared.exports.use_paths.UsePath.{UsePath}

abbrev pub exported_macros_of : {A : Type 0} → ExportedMacros A → spec.ExportedMacros
exported_macros_of w.All = spec.All
exported_macros_of (w.One name other) = spec.One (string_bytes name) (string_bytes other)

abbrev pub export_of : {A : Type 0} → Export A → spec.Export
export_of e =
    record {
      by = string_bytes e.by;
      from = string_bytes e.from;
      exported_macros =
          exported_macros_of e.exported_macros;
    }

abbrev pub use_path_of : UsePath → spec.UsePath
use_path_of w =
    record {
      from = option_map (λ s. s.now) w.from;
      has_more_names = w.has_more_names;
      skipped =
          w.skipped;
    }
