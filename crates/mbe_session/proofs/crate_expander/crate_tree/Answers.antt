use Rattle.std.proofs.Common.{◌≡◌, ◌∙◌, ap, sym, map, List}
use Rattle.std.proofs.lemmas.Simd.{map-map}
use Rattle.mbe_cfg.specs.Crates.ModuleInliner as following
use Rattle.mbe_cfg.specs.Crates.CrateViews.{file_shown}
use Rattle.mbe_cfg.specs.Crates.FileLookup.{CrateFile}
use Rattle.mbe_cfg.specs.Files.ModuleDirViews.{module_dir_shown}
use Rattle.mbe_session.specs.CrateTrees.{file_of}
use Rattle.mbe_session.specs.FileViews.{source_of}
use Rattle.mbe_session.proofs.crate_expander.crate_tree.Goals as goal

pub returns : goal.returns
returns c =
    let found : map file_shown c.as_slice.result.now ≡ map file_of (map source_of c.args.files.now) =
    ap (map file_shown) c.as_slice.ensures.value ∙ c.in_ok-found.ensures
    ∙ sym (map-map file_of source_of c.args.files.now) in
    c.in_ok-tree.ensures.tree
    ∙ ap (λ (fs : List CrateFile). following.crate_tree fs c.args.number (module_dir_shown c.in_ok-place.place)
    c.args.tree.now)
    found
    ∙ ap (λ p. following.crate_tree (map file_of (map source_of c.args.files.now)) c.args.number p c.args.tree.now)
    c.in_ok-place.ensures
