use Rattle.std.proofs.Common.{◌≡◌, arith, length, map, subst}
use Rattle.std.specs.Prelude.{IfOk}
use Rattle.mbe_rewriter.specs.ReplacementViews.{part_of}
use Rattle.mbe_session.specs.SessionViews.{setting_of, state_of}
use Rattle.mbe_session.specs.FileExpansion.{CratesParts}
use Rattle.mbe_session.specs.FileViews.{source_of, sources_of}
use Rattle.mbe_session.proofs.session.Session.expand_crates.Goals as goal

pub returns-clause-parts : goal.returns-clause-parts
returns-clause-parts c =
    let e = setting_of c.args.self.now.expander in
    let s = state_of c.args.self.now.expander in
    let t = state_of c.crates_replacements.new.expander in
    let options = c.args.options.now in
    let n : c.len-root_count.result ≡ length options.names.items =
    omega (arith, c.len-root_count.ensures, options.names.ok.0) in
    subst (λ n. IfOk c.crates_replacements.result (λ v. CratesParts e 1000 options.with_modules
    (sources_of c.args.self.now) s n (map part_of v.items) t)) n
    (subst (λ fs. IfOk c.crates_replacements.result (λ v. CratesParts e 1000 options.with_modules (map source_of fs) s
    c.len-root_count.result (map part_of v.items) t)) c.deref.ensures.value c.crates_replacements.ensures)
