use Rattle.std.proofs.Common.{◌≡◌, Some, length, ap, subst, ◌∙◌, arith}
use Rattle.std.specs.Prelude.{option_map, IfSome}
use Rattle.mbe_tt.specs.Trees.Tree.{flat_len}
use Rattle.mbe_tt.specs.Views.View.{trees}
use Rattle.mbe_semantics.specs.Readings.Input.{input_of}
use Rattle.mbe_ops.specs.Views.{template_of}
use Rattle.mbe_matcher.specs.Expected.{expected_seen}
use Rattle.mbe_matcher.specs.Readings.Graph.{node}
use Rattle.mbe_matcher.specs.Readings.Continuation.{live_edges, IsContinuation}
use Rattle.mbe_matcher.proofs.Divergence.ContinuationLemmas.{PartSome}
use Rattle.mbe_matcher.proofs.Divergence.Whole.{parted-by, step-inside, some-both}
use Rattle.mbe_matcher.proofs.readings.divergence.continuations.Goals as goal
use Rattle.mbe_matcher.proofs.readings.divergence.continuations.Goals.{In_ok-other, in_default-2-via-in-Some+in_default}
use Rattle.mbe_matcher.proofs.readings.divergence.continuations.Goals.{in_default-2-via-in_default}

pub continuation_after-requires-clause-offset : goal.continuation_after-requires-clause-offset
continuation_after-requires-clause-offset g c =
    step-inside (g.G.FragmentGrammar.grammar c.args.grammar.now) c.args.graph.now c.requires.graph c.args.step
    c.requires.step

pub continuation_after-requires-2-clause-offset : goal.continuation_after-requires-2-clause-offset
continuation_after-requires-2-clause-offset g c =
    step-inside (g.G.FragmentGrammar.grammar c.args.grammar.now) c.args.graph.now c.requires.graph c.args.step
    c.requires.step

-- two readings go on by these two
parted : (g : _) (c : In_ok-other g) → PartSome
    (input_of (g.G.FragmentGrammar.grammar c.args.grammar.now) (trees c.args.graph.now.argument))
    (template_of c.args.graph.now.pattern.now) (flat_len (trees c.args.graph.now.argument)) c.args.step.offset
    (option_map expected_seen c.in_ok-one.one) (option_map expected_seen c.in_ok-other.other)
parted g c =
    let h = g.G.FragmentGrammar.grammar c.args.grammar.now in
    let x = c.args.graph.now in
    let s = c.args.step in
    let size : c.len-size.result ≡ length x.states.items =
    c.len-size.ensures ∙ (let e : x.states.len ≡ length x.states.items = omega (arith, x.states.ok.0) in e) in
    let last : c.in_ok-last.last ≡ node (length x.states.items) s.offset (length x.states.items) =
    subst (λ r. IfSome r (λ n. n ≡ node c.len-size.result s.offset c.len-size.result)) c.in_ok-last.ensures.ok_part
    c.node.ensures ∙ ap (λ v. node v s.offset v) size in
    let edges : c.in_ok-edges.edges.items ≡ live_edges x.live.items c.in_ok-last.last x.edges.items =
    c.in_ok-edges.ensures ∙ ap (λ v. live_edges v c.in_ok-last.last c.deref.result.now) c.deref-2.ensures.value
    ∙ ap (live_edges x.live.items c.in_ok-last.last) c.deref.ensures.value in
    let one = subst (λ v. IsContinuation h x s.offset c.in_ok-last.last s.source c.in-Some-Some.one v
    (option_map expected_seen c.in_ok-one.one)) c.deref-3.ensures.value c.in_ok-one.ensures in
    let other = subst (λ v. IsContinuation h x s.offset c.in_ok-last.last s.source c.in-Some-Some.other v
    (option_map expected_seen c.in_ok-other.other)) c.deref-4.ensures.value c.in_ok-other.ensures in
    parted-by h x c.requires.graph s c.requires.step c.requires.parted c.in-Some-Some.one c.in-Some-Some.other
    c.in-Some-Some.is-0 c.in-Some-Some.is-1 c.in_ok-last.last last c.in_ok-edges.edges.items edges
    (option_map expected_seen c.in_ok-one.one) (option_map expected_seen c.in_ok-other.other) one other

pub unreachable-requires-in_default-2 : goal.unreachable-requires-in_default-2
unreachable-requires-in_default-2 g c =
    let x = c.args.graph.now in
    let both =
    some-both (input_of (g.G.FragmentGrammar.grammar c.args.grammar.now) (trees x.argument)) (template_of x.pattern.now)
    (flat_len (trees x.argument)) c.args.step.offset (option_map expected_seen c.in_ok-one.one)
    (option_map expected_seen c.in_ok-other.other)
    (parted g (goal.at.unreachable-requires-in_default-2 g c).In_ok-other) in
    elim c.in_default-2.branch [
      | in_default-2-via-in-Some+in_default w ↦ both.1 (ap (option_map expected_seen) w.in_default-2.is-1)
      | in_default-2-via-in_default w ↦ both.0 (ap (option_map expected_seen) w.in_default-2.is-0)
    ]

pub returns : goal.returns
returns g c =
    let x = c.args.graph.now in
    let i = input_of (g.G.FragmentGrammar.grammar c.args.grammar.now) (trees x.argument) in
    let pattern = template_of x.pattern.now in
    let size = flat_len (trees x.argument) in
    subst (PartSome i pattern size c.args.step.offset (Some (expected_seen c.in-Some-Some-2.one)))
    (ap (option_map expected_seen) c.in-Some-Some-2.is-1)
    (subst (λ v. PartSome i pattern size c.args.step.offset v (option_map expected_seen c.in_ok-other.other))
    (ap (option_map expected_seen) c.in-Some-Some-2.is-0) (parted g (goal.at.returns g c).In_ok-other))
