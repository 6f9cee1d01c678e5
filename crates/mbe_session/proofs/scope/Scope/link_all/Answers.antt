use Rattle.std.proofs.Common.{◌∙◌, refl, arith}
use Rattle.mbe_session.specs.SessionViews.{scope_of}
use Rattle.mbe_session.proofs.LinkLemmas.{all_on, first_on, none_first}
use Rattle.mbe_session.proofs.scope.Scope.link_all.Goals as goal

pub loop-number-init : goal.loop-number-init
loop-number-init g c = (none_first c.args.by.now c.args.from.now (scope_of c.args.self.now), refl)

pub loop-number-preserved : goal.loop-number-preserved
loop-number-preserved g c = (
  first_on c.args.by.now c.args.from.now c.loop-number.number (scope_of c.args.self.now) (scope_of c.loop-number.self)
      (scope_of c.link_number.new.self) c.loop-number.invariant.0 c.in_ok-link_number.ensures.linked,
  c.in_ok-link_number.ensures.edition ∙ c.loop-number.invariant.1,
)

pub returns-clause-linked : goal.returns-clause-linked
returns-clause-linked g c =
    all_on c.args.by.now c.args.from.now c.loop-number.number (scope_of c.args.self.now) (scope_of c.loop-number.self)
    c.loop-number.invariant.0 (omega (arith, c.count-number-end.ensures))
