use Rattle.std.proofs.Common.{◌∙◌, ◌++◌, ap, map, sym}
use Rattle.mbe_session.specs.SessionViews.{setting_of, state_of}
use Rattle.mbe_cfg.specs.CrateExports.Exports.{exports_of}
use Rattle.mbe_cfg.specs.CrateExports.ExportViews.{export_of}
use Rattle.mbe_session.proofs.CrateLemmas.{no_others, none_exported, some_exported, some_others}
use Rattle.mbe_session.proofs.crate_expander.define_extern.Goals as goal

pub returns-in_ok-add_exports-in-Some-clause-defines : goal.returns-in_ok-add_exports-in-Some-clause-defines
returns-in_ok-add_exports-in-Some-clause-defines c =
    some_others c.define_extern_tree.result _ c.in-Some.tree (setting_of c.args.expander.now).language 1001
    c.args.name.now
    (state_of c.args.expander.now).scope (state_of c.define_extern_tree.new.expander).scope
    (sym c.in-Some.is ∙ c.in_ok-tree.ensures) c.define_extern_tree.ensures.defines

pub returns-in-None-clause-defines : goal.returns-in-None-clause-defines
returns-in-None-clause-defines c =
    no_others _ (setting_of c.args.expander.now).language 1001 c.args.name.now (state_of c.args.expander.now).scope
    (sym c.in-None.is ∙ c.in_ok-tree.ensures)

pub returns-in_ok-add_exports-in-Some-clause-exports : goal.returns-in_ok-add_exports-in-Some-clause-exports
returns-in_ok-add_exports-in-Some-clause-exports c =
    let old = map export_of c.args.exports.now.items in
    some_exported c.define_extern_tree.result _ c.in-Some.tree c.args.name.now old
    (map export_of c.add_exports.new.exports.items) (sym c.in-Some.is ∙ c.in_ok-tree.ensures)
    (c.in_ok-add_exports-in-Some.ensures
    ∙ ap (λ f. old ++ exports_of c.args.name.now f) (c.remaining.ensures ∙ c.iter.ensures))

pub returns-in-None-clause-exports : goal.returns-in-None-clause-exports
returns-in-None-clause-exports c =
    none_exported _ c.args.name.now (map export_of c.args.exports.now.items) (sym c.in-None.is ∙ c.in_ok-tree.ensures)
