use Rattle.std.proofs.Common.{◌≡◌, ◌++◌, ap, map, subst}
use Rattle.mbe_session.specs.CallExpansion.{Setting}
use Rattle.mbe_session.specs.SessionViews.{setting_of, state_of}
use Rattle.mbe_session.specs.CrateTrees.{crate_at}
use Rattle.mbe_session.specs.FileExpansion.{DefinesExtern, exports_at}
use Rattle.mbe_session.specs.FileViews.{source_of}
use Rattle.mbe_cfg.specs.CrateExports.ExportViews.{export_of}
use Rattle.mbe_session.proofs.CrateLemmas.{first_from, first_other, none_from, none_other}
use Rattle.mbe_session.proofs.crate_expander.+define_externs.Goals as goal

pub returns-in-empty-clause-defines : goal.returns-in-empty-clause-defines
returns-in-empty-clause-defines t c =
    none_other (setting_of c.args.expander.now).language 1001 c.args.with_modules (map source_of c.args.files.now)
    c.args.root_count (state_of c.args.expander.now).scope (λ x. x.name.now) c.args.externs.now c.in-empty.len_below

pub returns-in_ok-define_extern-in-len1-up-clause-defines : goal.returns-in_ok-define_extern-in-len1-up-clause-defines
returns-in_ok-define_extern-in-len1-up-clause-defines t c =
    first_other (setting_of c.args.expander.now).language (setting_of c.define_extern.new.expander).language 1001
    c.args.with_modules (map source_of c.args.files.now) c.args.root_count (state_of c.args.expander.now).scope
    (state_of c.define_extern.new.expander).scope (state_of c.define_externs.new.expander).scope (λ x. x.name.now)
    c.define_externs.result c.args.externs.now c.one-item.result
    (ap (λ (e : Setting). e.language) c.in_ok-define_extern-in-len1-up.ensures.setting)
    c.in-len1-up.len_at_least
    (subst (λ x. DefinesExtern (setting_of c.args.expander.now).language 1001 x.name.now
    (crate_at c.args.with_modules (map source_of c.args.files.now) c.args.root_count)
    (state_of c.args.expander.now).scope (state_of c.define_extern.new.expander).scope) c.one-item.is
    c.in_ok-define_extern-in-len1-up.ensures.defines)
    c.define_externs.ensures.defines

pub returns-in-empty-clause-exports : goal.returns-in-empty-clause-exports
returns-in-empty-clause-exports t c =
    none_from c.args.with_modules (map source_of c.args.files.now) c.args.root_count (λ x. x.name.now)
    c.args.externs.now
    (map export_of c.args.exports.now.items) c.in-empty.len_below

pub returns-in_ok-define_extern-in-len1-up-clause-exports : goal.returns-in_ok-define_extern-in-len1-up-clause-exports
returns-in_ok-define_extern-in-len1-up-clause-exports t c =
    first_from c.args.with_modules (map source_of c.args.files.now) c.args.root_count (λ x. x.name.now)
    c.define_externs.result
    c.args.externs.now c.one-item.result (map export_of c.args.exports.now.items)
    (map export_of c.define_extern.new.exports.items)
    (map export_of c.define_externs.new.exports.items) c.in-len1-up.len_at_least
    (subst (λ x. map export_of c.define_extern.new.exports.items ≡ map export_of c.args.exports.now.items
    ++ exports_at x.name.now (crate_at c.args.with_modules (map source_of c.args.files.now) c.args.root_count))
    c.one-item.is c.in_ok-define_extern-in-len1-up.ensures.exports) c.define_externs.ensures.exports
