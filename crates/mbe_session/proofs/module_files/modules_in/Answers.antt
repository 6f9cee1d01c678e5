use Rattle.std.proofs.Common.{◌∙◌, ◌++◌, [], ap, map, sym}
use Rattle.mbe_cfg.specs.Crates.ModuleInliner.{unresolved_in}
use Rattle.mbe_cfg.specs.Crates.CrateViews.{unresolved_shown}
use Rattle.mbe_cfg.specs.Files.ModuleDirViews.{module_dir_shown}
use Rattle.mbe_session.specs.ModuleFiles.{modules_of}
use Rattle.mbe_session.proofs.CrateLemmas.{none_is}
use Rattle.mbe_session.proofs.module_files.modules_in.Goals as goal

pub returns-in_default : goal.returns-in_default
returns-in_default c = (
  c.in_ok-file.file.tree,
  c.in_ok-file.ensures.trees,
  ap (map unresolved_shown) c.new.ensures.items
      ∙ sym (ap (modules_of (module_dir_shown c.args.place.now))
      (none_is c.in_ok-file.file.tree c.in_default.not-Some)),
)

pub returns : goal.returns
returns c = (
  c.in_ok-file.file.tree,
  c.in_ok-file.ensures.trees,
  c.in_ok-_tree.ensures.unresolved
      ∙ ap (λ us. map unresolved_shown us ++ unresolved_in [] 0 (module_dir_shown c.args.place.now) c.in-Some.tree)
      c.new-unresolved.ensures.items
      ∙ sym (ap (modules_of (module_dir_shown c.args.place.now)) c.in-Some.is),
)
