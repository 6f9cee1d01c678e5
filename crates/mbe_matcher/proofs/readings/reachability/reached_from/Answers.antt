use Rattle.std.proofs.Common.{◌≡◌, ◌<◌, ◌++◌, true, false, length, take, drop, sym, ◌∙◌, ap, subst, arith, rules}
use Rattle.std.proofs.Math.ListN.{replicate}
use Rattle.std.proofs.lemmas.List.{length-replicate}
use Rattle.mbe_matcher.specs.Readings.Graph.{is_marked, AreFrom, AreReached, unmarked}
use Rattle.mbe_matcher.proofs.Divergence.Marking.{written-back, start-alone, start-marked, set-length}
use Rattle.mbe_matcher.proofs.readings.reachability.reached_from.Goals as goal
use Rattle.mbe_matcher.proofs.readings.reachability.reached_from.Goals.{After-sweep}

module _ (g : _) (c : After-sweep g) where
  same_size : length c.sweep.new.marks ≡ length c.sweeps.marks.items
  same_size = c.sweep.ensures.size ∙ ap length c.deref_mut.ensures.value

  -- the marks are those that the sweep left
  back : take c.sweeps.marks.len (c.sweep.new.marks ++ drop (length c.sweep.new.marks) c.sweeps.marks.items)
      ≡ c.sweep.new.marks
  back = written-back c.sweeps.marks.len c.sweep.new.marks c.sweeps.marks.items same_size
      (omega (arith, c.sweeps.marks.ok.0))

pub sweeps-init : goal.sweeps-init
sweeps-init g c =
    let items : c.in_ok-marks.marks.items ≡ replicate c.args.count false =
    c.in_ok-marks.ensures.items_if_clones_equal (λ y h. search rules) in
    let size : length c.in_ok-marks.marks.items ≡ c.args.count = ap length items ∙ length-replicate c.args.count
    false in
    let within = c.requires in
    record {
      size = set-length c.in_ok-marks.marks.items c.args.start ∙ size;
      started = start-marked c.in_ok-marks.marks.items c.args.start (omega (arith, size, within));
      from = start-alone c.args.edges.now c.args.count c.args.start c.in_ok-marks.marks.items items;
    }

pub sweeps-smaller : goal.sweeps-smaller
sweeps-smaller g c =
    let here = (goal.at.sweeps-smaller g c).After-sweep in
    let value = c.deref_mut.ensures.value in
    subst (λ v. unmarked v < unmarked c.sweeps.marks.items) (sym (back g here))
    (subst (λ v. unmarked c.sweep.new.marks < unmarked v) value (c.sweep.ensures.fewer c.sweeps-test.true))

pub sweeps-preserved : goal.sweeps-preserved
sweeps-preserved g c =
    let inv = c.sweeps.invariant in
    let here = (goal.at.sweeps-preserved g c).After-sweep in
    let value = c.deref_mut.ensures.value in
    record {
      size = ap length (back g here) ∙ same_size g here ∙ inv.size;
      started = subst (λ v. is_marked v c.args.start ≡ true) (sym (back g here))
          (c.sweep.ensures.kept c.args.start (subst (λ v. is_marked v c.args.start ≡ true) (sym value) inv.started));
      from = subst (λ v. AreFrom c.args.edges.now c.args.start v) (sym (back g here))
          (c.sweep.ensures.from c.args.start
          (subst (λ v. AreFrom c.args.edges.now c.args.start v) (sym value) inv.from));
    }

pub returns : goal.returns
returns g c =
    let inv = c.sweeps.invariant in
    let here = (goal.at.returns g c).After-sweep in
    let value = c.deref_mut.ensures.value in
    subst (λ v. AreReached c.args.edges.now c.args.start c.args.count v) (sym (back g here))
    (record {
      size = same_size g here ∙ inv.size;
      started = c.sweep.ensures.kept c.args.start (subst (λ v. is_marked v c.args.start ≡ true) (sym value)
          inv.started);
      from = c.sweep.ensures.from c.args.start
          (subst (λ v. AreFrom c.args.edges.now c.args.start v) (sym value) inv.from);
      closed = c.sweep.ensures.closed c.sweeps-test.false;
    })
