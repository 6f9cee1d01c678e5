use Rattle.std.proofs.Common.{◌≡◌, ◌∙◌, true, ap, subst, sym}
use Rattle.mbe_cargo.specs.LeastSet.{AllHold, is_closed}
use Rattle.mbe_cargo.proofs.LeastSetLemmas.{all_marked, blank_hold}
use Rattle.mbe_cargo.proofs.least_set.least_set.Goals as goal
use Rattle.mbe_cargo.proofs.least_set.least_set.Goals.{else-loop-round-test, then-loop-round-test+then-not-apply_rules}

pub loop-round-init : goal.loop-round-init
loop-round-init c =
    blank_hold c.args.rules.now c.in_ok-marks.marks.items c.mark_first.new.marks.items c.in_ok-marks.ensures
    c.mark_first.ensures

pub loop-round-preserved : goal.loop-round-preserved
loop-round-preserved c = c.apply_rules.ensures c.loop-round.invariant

pub returns : goal.returns
returns c = record {
  holds = elim c.loop-round-test.branch [
    | else-loop-round-test w ↦ subst (AllHold c.args.rules.now) (sym (ap (λ v. v.items) w.marks-is))
        c.loop-round.invariant
    | then-loop-round-test+then-not-apply_rules w ↦ subst (AllHold c.args.rules.now)
        (sym (ap (λ v. v.items) w.marks-is))
        (w.apply_rules.ensures c.loop-round.invariant)
  ];
  marked = all_marked c.args.rules.now c.loop-round-test.marks.items
      (subst (λ marks. is_closed c.args.rules.now marks ≡ true) c.deref.ensures.value
      (sym c.is_closed.ensures ∙ c.if-not-is_closed.false));
}
