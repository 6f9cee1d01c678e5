use Rattle.std.proofs.Common.{◌≡◌, false, true, map, length, ap, sym, ◌∙◌, arith}
use Rattle.mbe_tt.specs.Trees.Tree.{flat_len}
use Rattle.mbe_tt.specs.Views.View.{trees}
use Rattle.mbe_matcher.specs.Readings.Views.{state_seen}
use Rattle.mbe_matcher.proofs.Divergence.OffsetLemmas.{steps-first, steps-next}
use Rattle.mbe_matcher.proofs.readings.step_table.all_steps.Goals as goal

pub loop-source-init : goal.loop-source-init
loop-source-init g c = record {
  whole = c.new-source.ensures.whole;
  steps = steps-first _ _ _ _ _ c.new-steps.ensures.items c.new-source.ensures.offset;
}

pub passed-requires : goal.passed-requires
passed-requires g c =
    let s = c.loop-source.source in
    let within = s.within in
    let before : s.offset ≡ flat_len (trees s.whole) → ⊥ =
    λ e. let k : false ≡ true = sym c.if-is_at_end.false ∙ c.is_at_end.ensures.1 e in cc in
    omega (arith, within, before)

pub loop-source-smaller : goal.loop-source-smaller
loop-source-smaller g c =
    let s = c.loop-source.source in
    let at = c.in_ok-source.ensures.offset in
    let same = ap (λ x. flat_len (trees x)) c.in_ok-source.ensures.whole in
    let within = s.within in
    let before : s.offset ≡ flat_len (trees s.whole) → ⊥ =
    λ e. let k : false ≡ true = sym c.if-is_at_end.false ∙ c.is_at_end.ensures.1 e in cc in
    omega (arith, at, same, within, before)

pub loop-source-preserved : goal.loop-source-preserved
loop-source-preserved g c =
    let inv = c.loop-source.invariant in
    record {
      whole = c.in_ok-source.ensures.whole ∙ inv.whole;
      steps = steps-next (g.G.FragmentGrammar.grammar c.args.grammar.now) (trees c.loop-source.source.whole)
          (trees c.args.argument) (length c.args.states.now) c.loop-source.source.offset c.in_ok-source.source.offset
          (map state_seen c.args.states.now) c.loop-source.steps.items c.push_steps.new.steps.items
          (ap trees inv.whole) inv.steps c.in_ok-push_steps.ensures c.in_ok-source.ensures.offset;
    }

pub returns-then-is_at_end : goal.returns-then-is_at_end
returns-then-is_at_end g c =
    let inv = c.loop-source.invariant in
    let at : c.loop-source.source.offset ≡ flat_len (trees c.loop-source.source.whole) =
    c.is_at_end.ensures.0 c.if-is_at_end.true in
    let same = ap (λ x. flat_len (trees x)) inv.whole in
    steps-next (g.G.FragmentGrammar.grammar c.args.grammar.now) (trees c.loop-source.source.whole)
    (trees c.args.argument) (length c.args.states.now) c.loop-source.source.offset _
    (map state_seen c.args.states.now) c.loop-source.steps.items c.push_steps.new.steps.items
    (ap trees inv.whole) inv.steps c.in_ok-push_steps.ensures (omega (arith, at, same))
