use Rattle.std.proofs.Common.{◌≡◌, ◌∙◌, ap, arith, map, refl, subst, sym}
use Rattle.mbe_session.specs.CallExpansion.{Setting}
use Rattle.mbe_session.specs.SessionViews.{setting_of, state_of}
use Rattle.mbe_session.specs.FileExpansion.{DefinesCrates, no_definition}
use Rattle.mbe_session.specs.FileViews.{source_of}
use Rattle.mbe_session.proofs.CrateLemmas.{one_more_defined}
use Rattle.mbe_session.proofs.crate_expander.define_crates.Goals as goal

pub loop-number-init : goal.loop-number-init
loop-number-init c = (no_definition, refl, refl, refl)

pub loop-number-preserved : goal.loop-number-preserved
loop-number-preserved c = (
  one_more_defined (setting_of c.args.expander.now).language (setting_of c.loop-number.expander).language 1001
      c.args.with_modules (map source_of c.args.files.now) c.loop-number.number (state_of c.args.expander.now).scope
      (state_of c.loop-number.expander).scope (state_of c.define_crate.new.expander).scope c.loop-number.invariant.0
      (sym (ap (λ (e : Setting). e.language) c.loop-number.invariant.3)) c.in_ok-define_crate.ensures.defines,
  c.in_ok-define_crate.ensures.fuel ∙ c.loop-number.invariant.1,
  c.in_ok-define_crate.ensures.contexts ∙ c.loop-number.invariant.2,
  c.in_ok-define_crate.ensures.setting ∙ c.loop-number.invariant.3,
)

pub returns-clause-defines : goal.returns-clause-defines
returns-clause-defines c =
    let all : c.loop-number.number ≡ c.args.root_count = omega arith in
    subst (λ n. DefinesCrates (setting_of c.args.expander.now).language 1001 c.args.with_modules
    (map source_of c.args.files.now) (state_of c.args.expander.now).scope n (state_of c.loop-number.expander).scope)
    all c.loop-number.invariant.0
