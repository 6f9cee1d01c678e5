-- The values of the code in the specification, independent of their allocator.
use Rattle.std.specs.Prelude.{option_map}
use Rattle.std.specs.String.{string_bytes}
use Rattle.mbe_cfg.specs.declared.files.module_dir.ModuleDir.{ModuleDir}
use Rattle.mbe_cfg.specs.declared.files.module_dir.Candidates.{Candidates}
use Rattle.mbe_cfg.specs.declared.files.module_dir.Candidates.TheVariants as c
use Rattle.mbe_cfg.specs.Files.ModuleDirs as spec

abbrev pub module_dir_shown : {A : Type 0} → ModuleDir A → spec.ModuleDir
module_dir_shown p = record {
  file_folder = string_bytes p.file_folder;
  folder = string_bytes p.folder;
  own = option_map string_bytes p.own;
}

abbrev pub candidates_shown : {A : Type 0} → Candidates A → spec.Candidates
candidates_shown (c.Included path) = spec.Included (string_bytes path)
candidates_shown (c.Given path) = spec.Given (string_bytes path)
candidates_shown (c.Usual one other) = spec.Usual (string_bytes one) (string_bytes other)
