use Rattle.std.proofs.Common.{◌∙◌, ◌++◌, ap, length, map, sym}
use Rattle.std.proofs.lemmas.List.{length-map}
use Rattle.mbe_cfg.specs.CrateExports.ExportViews.{export_of}
use Rattle.mbe_session.specs.SessionViews.{setting_of, state_of}
use Rattle.mbe_session.specs.FileExpansion.{exports_from}
use Rattle.mbe_session.specs.FileViews.{source_of}
use Rattle.mbe_session.proofs.CrateLemmas.{others_known}
use Rattle.mbe_session.proofs.crate_expander.load_externs.Goals as goal

pub returns-clause-knows : goal.returns-clause-knows
returns-clause-knows c =
    let names = map (λ x. x.name.now) c.args.externs.now in
    let files = map source_of c.args.files.now in
    others_known (setting_of c.args.expander.now).language 1001 c.args.with_modules files c.args.root_count
    (state_of c.args.expander.now).scope (state_of c.define_externs.new.expander).scope
    (state_of c.link.new.self).scope names c.link.result (length c.args.externs.now)
    (map export_of c.as_slice.result.now) c.in_ok-define_externs.ensures.defines
    (sym (length-map c.args.externs.now (λ x. x.name.now)))
    (ap (map export_of) c.as_slice.ensures.value ∙ (c.in_ok-define_externs.ensures.exports
    ∙ ap (λ es. es ++ exports_from c.args.with_modules files c.args.root_count names)
    (ap (map export_of) c.new-exports.ensures.items)))
    c.link.ensures.linked
