use Rattle.std.proofs.Common.{◌≡◌, ap, sym, ◌∙◌}
use Rattle.mbe_matcher.specs.Readings.Graph.{first_divergence}
use Rattle.mbe_matcher.proofs.Divergence.Whole.{none-parts, first-parted, none-before-first}
use Rattle.mbe_matcher.proofs.readings.divergence.first_divergence.Goals as goal
use Rattle.mbe_matcher.proofs.readings.divergence.first_divergence.Goals.{After-first_divergence}

-- what was found is the graph's
found : (g : _) (c : After-first_divergence g) → first_divergence c.in_ok-graph.graph.reached.items
    c.in_ok-graph.graph.live.items c.in_ok-graph.graph.steps.items ≡ c.first_divergence.result
found g c =
    let x = c.in_ok-graph.graph in
    sym (c.first_divergence.ensures
    ∙ ap (λ v. first_divergence v c.deref-2.result.now c.deref-3.result.now) c.deref.ensures.value
    ∙ ap (λ v. first_divergence x.reached.items v c.deref-3.result.now) c.deref-2.ensures.value
    ∙ ap (first_divergence x.reached.items x.live.items) c.deref-3.ensures.value)

pub returns-in_default : goal.returns-in_default
returns-in_default g c =
    let none = none-parts {A = g.row.A.Denot} (g.G.FragmentGrammar.grammar c.args.grammar.now) c.in_ok-graph.graph
    c.in_ok-graph.ensures.graph (found g (goal.at.returns-in_default g c).After-first_divergence ∙ c.in_default.is) in
    rw (c.in_ok-graph.ensures.argument, c.in_ok-graph.ensures.pattern) at none

pub continuations-requires : goal.continuations-requires
continuations-requires g c =
    first-parted {A = g.row.A.Denot} (g.G.FragmentGrammar.grammar c.args.grammar.now) c.in_ok-graph.graph
    c.in_ok-graph.ensures.graph c.in-Some.step
    (found g (goal.at.continuations-requires g c).After-first_divergence ∙ c.in-Some.is)

pub returns : goal.returns
returns g c =
    let two = rw (c.in_ok-graph.ensures.argument, c.in_ok-graph.ensures.pattern) at c.in_ok-one.ensures in
    let none_before =
    none-before-first {A = g.row.A.Denot} (g.G.FragmentGrammar.grammar c.args.grammar.now) c.in_ok-graph.graph
    c.in_ok-graph.ensures.graph c.in-Some.step (found g (goal.at.returns g c).After-first_divergence ∙ c.in-Some.is) in
    (two, rw (c.in_ok-graph.ensures.argument, c.in_ok-graph.ensures.pattern) at none_before)
