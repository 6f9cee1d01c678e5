use Rattle.std.proofs.Common.{◌≡◌, ◌+◌, ◌<◌, false, true, get_or, drop, refl, ◌∙◌, arith}
use Rattle.mbe_matcher.specs.declared.readings.edges.Edge.{Edge}
use Rattle.mbe_matcher.specs.Readings.Graph.{unmarked}
use Rattle.std.proofs.Math.ListN.{set}
use Rattle.mbe_matcher.proofs.Divergence.Marking.{unmarked-set, marked-kept, from-set, closed-more, closed-none}
use Rattle.mbe_matcher.proofs.Divergence.Marking.{set-length, drop-none, edge-next, edge-in}
use Rattle.mbe_matcher.proofs.readings.reachability.sweep.Goals as goal

pub loop-edge-init : goal.loop-edge-init
loop-edge-init c = record {
  size = refl;
  kept = λ n h. h;
  from = λ s h. h;
  closed = λ e. (refl, λ h. h);
  fewer = λ e. cc;
  no_more = omega arith;
}

pub loop-edge-preserved-then-not-leads_on : goal.loop-edge-preserved-then-not-leads_on
loop-edge-preserved-then-not-leads_on c =
    let inv = c.loop-edge.invariant in
    let es = c.args.edges.now in
    let k = c.loop-edge.edge-index in
    record {
      size = inv.size;
      kept = inv.kept;
      from = inv.from;
      closed = λ f. (
        (inv.closed f).0,
        λ r. (inv.closed f).1
            (closed-more (drop (k + 1) es) c.loop-edge.marks (get_or es k (record { source = 0; target = 0 }))
            (drop k es) (edge-next es k (record { source = 0; target = 0 }) c.loop-edge-test.true)
            (c.leads_on.ensures.not c.if-not-leads_on.true) r),
      );
      fewer = inv.fewer;
      no_more = inv.no_more;
    }

pub loop-edge-preserved : goal.loop-edge-preserved
loop-edge-preserved c =
    let inv = c.loop-edge.invariant in
    let es = c.args.edges.now in
    let ms = c.loop-edge.marks in
    let k = c.loop-edge.edge-index in
    let e : Edge = get_or es k (record { source = 0; target = 0 }) in
    let on = c.leads_on.ensures.on c.if-not-leads_on.false in
    let less : unmarked (set ms e.target true) < unmarked ms = unmarked-set ms e.target on.1.0 on.1.1 in
    let most = inv.no_more in
    record {
      size = set-length ms e.target ∙ inv.size;
      kept = λ n h. marked-kept ms e.target n on.1.0 (inv.kept n h);
      from = λ s h. from-set es s ms e (edge-in es k (record { source = 0; target = 0 }) c.loop-edge-test.true) on.0
          (inv.from s h);
      closed = λ f. let g : true ≡ false = f in cc;
      fewer = λ f. omega (arith, less, most);
      no_more = omega (arith, less, most);
    }

pub returns-clause-size : goal.returns-clause-size
returns-clause-size c = c.loop-edge.invariant.size

pub returns-clause-kept : goal.returns-clause-kept
returns-clause-kept c = c.loop-edge.invariant.kept

pub returns-clause-from : goal.returns-clause-from
returns-clause-from c = c.loop-edge.invariant.from

pub returns-clause-closed : goal.returns-clause-closed
returns-clause-closed c = λ f.
    (c.loop-edge.invariant.closed f).1
    (closed-none c.loop-edge.marks (drop c.loop-edge.edge-index c.args.edges.now)
    (drop-none c.args.edges.now c.loop-edge.edge-index c.loop-edge-test.false))

pub returns-clause-fewer : goal.returns-clause-fewer
returns-clause-fewer c = c.loop-edge.invariant.fewer
