use Rattle.std.proofs.Common.{◌≡◌, List, ap, sym, ◌∙◌, subst}
use Rattle.std.specs.Prelude.{IfOk, Result, Ok, Err}
use Rattle.mbe_ops.specs.Views.{template_of}
use Rattle.mbe_tt.specs.Views.View.{trees}
use Rattle.mbe_matcher.specs.declared.readings.reached_states.ReachedState.{ReachedState}
use Rattle.mbe_matcher.specs.Readings.ReachedStates.{reached_in, AreReachedStates}
use Rattle.mbe_matcher.proofs.Divergence.Whole.{reached-states}
use Rattle.mbe_matcher.proofs.readings.reached_states.reached_states.Goals as goal

ok-map : {X Y : Type 0} (r : Result X Y) (P Q : X → Type 0) → ((x : X) → P x → Q x) → IfOk r P → IfOk r Q
ok-map (Ok x) P Q f h = f x h
ok-map (Err e) P Q f h = h

pub returns : goal.returns
returns g c =
    let all = reached-states {A = g.row.A.Denot} (g.G.FragmentGrammar.grammar c.args.grammar.now) c.in_ok-graph.graph
    c.in_ok-graph.ensures.graph in
    let here = rw (c.in_ok-graph.ensures.argument, c.in_ok-graph.ensures.pattern) at all in
    ok-map c.reached_in.result (λ found. found.items ≡ reached_in c.deref.result.now c.deref-2.result.now)
    (λ found. AreReachedStates (g.G.FragmentGrammar.grammar c.args.grammar.now) (template_of c.args.pattern.now)
    (trees c.args.argument) found.items)
    (λ found e. subst (λ (l : List ReachedState). AreReachedStates (g.G.FragmentGrammar.grammar c.args.grammar.now)
    (template_of c.args.pattern.now) (trees c.args.argument) l)
    (sym (e ∙ ap (λ v. reached_in v c.deref-2.result.now) c.deref.ensures.value
    ∙ ap (reached_in c.in_ok-graph.graph.reached.items) c.deref-2.ensures.value)) here)
    c.reached_in.ensures
