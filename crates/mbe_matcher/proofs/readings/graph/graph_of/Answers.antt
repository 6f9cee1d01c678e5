use Rattle.std.proofs.Common.{◌≡◌, ◌+◌, ◌<◌, List, map, length, ap, subst, ◌∙◌, arith, rules}
use Rattle.std.specs.Prelude.{IfSome}
use Rattle.mbe_tt.specs.Trees.Tree.{flat_len}
use Rattle.mbe_tt.specs.Views.View.{trees}
use Rattle.mbe_semantics.specs.Readings.Input.{input_of}
use Rattle.mbe_ops.specs.Views.{template_of}
use Rattle.mbe_matcher.specs.Readings.Views.{state_seen}
use Rattle.mbe_matcher.specs.declared.readings.state.PatternState as declared
use Rattle.mbe_matcher.specs.Readings.Graph.{AreReached, node, steps_before, edges_in, flipped}
use Rattle.mbe_matcher.proofs.Divergence.Whole.{spots-some}
use Rattle.mbe_matcher.proofs.readings.graph.graph_of.Goals as goal
use Rattle.mbe_matcher.proofs.readings.graph.graph_of.Goals.{In_ok-count}

-- the numbers of the graph
module _ (g : _) (c : In_ok-count g) where
  is_size : c.len-size.result ≡ length c.in_ok-states.states.items
  is_size = c.len-size.ensures ∙ (let e : c.in_ok-states.states.len ≡ length c.in_ok-states.states.items =
      omega (arith, c.in_ok-states.states.ok.0) in e)

  is_last : c.in_ok-end.end ≡ node c.len-size.result c.flat_len-length.result 1
  is_last = subst (λ r. IfSome r (λ n. n ≡ node c.len-size.result c.flat_len-length.result 1))
      c.in_ok-end.ensures.ok_part c.node.ensures

  is_most : c.in_ok-most.most ≡ node c.len-size.result c.flat_len-length.result c.len-size.result
  is_most = subst (λ r. IfSome r (λ n. n ≡ node c.len-size.result c.flat_len-length.result c.len-size.result))
      c.in_ok-most.ensures.ok_part c.node-2.ensures

  is_count : c.in_ok-count.count ≡ c.in_ok-most.most + 1
  is_count = search rules

pub reached_from-requires-2 : goal.reached_from-requires-2
reached_from-requires-2 g c =
    let some : 0 < length c.in_ok-states.states.items =
    spots-some c.in_ok-states.states.items (template_of c.args.pattern.now) c.in_ok-states.ensures in
    let here = (goal.at.reached_from-requires-2 g c).In_ok-count in
    let size = is_size g here in
    let last = is_last g here in
    let most = is_most g here in
    let count = is_count g here in
    omega (arith, some, size, last, most, count)

pub returns-clause-graph : goal.returns-clause-graph
returns-clause-graph g c =
    let here = (goal.at.returns-clause-graph g c).In_ok-count in
    let size = is_size g here in
    let last = is_last g here in
    let len : c.flat_len-length.result ≡ flat_len (trees c.args.argument) = c.flat_len-length.ensures in
    let spots_are : c.deref.result.now ≡ c.in_ok-states.states.items = c.deref.ensures.value in
    record {
      states = c.in_ok-states.ensures;
      steps = subst (λ (v : List (declared.PatternState g.row.A.Denot)). c.in_ok-steps.steps.items
          ≡ steps_before (input_of (g.G.FragmentGrammar.grammar c.args.grammar.now) (trees c.args.argument)) (length v)
          (map state_seen v) (flat_len (trees c.args.argument) + 1)) spots_are c.in_ok-steps.ensures;
      edges = c.in_ok-edges.ensures ∙ ap edges_in c.deref-2.ensures.value;
      end = last ∙ ap (λ v. node v c.flat_len-length.result 1) size
          ∙ ap (λ v. node (length c.in_ok-states.states.items) v 1) len;
      count = is_count g here ∙ ap (λ v. v + 1) (is_most g here ∙ ap (λ v. node v c.flat_len-length.result v) size
          ∙ ap (λ v. node (length c.in_ok-states.states.items) v (length c.in_ok-states.states.items)) len);
      reached = subst (λ v. AreReached c.in_ok-edges.edges.items v c.in_ok-count.count c.in_ok-reached.reached.items)
          size
          (subst (λ v. AreReached v c.len-size.result c.in_ok-count.count c.in_ok-reached.reached.items)
          c.deref-3.ensures.value c.in_ok-reached.ensures);
      live = subst (λ v. AreReached v c.in_ok-end.end c.in_ok-count.count c.in_ok-live.live.items)
          (c.deref-5.ensures.value ∙ c.in_ok-back.ensures ∙ ap flipped c.deref-4.ensures.value) c.in_ok-live.ensures;
    }
