use Rattle.std.proofs.Common.{Some, ◌-◌, refl}
use Rattle.mbe_tt.specs.Views.View.{trees}
use Rattle.mbe_tt.specs.Trees.Tree.{rest_at}
use Rattle.mbe_semantics.specs.Readings.Input.{input_of}
use Rattle.mbe_semantics.specs.Fragments.Kinds.{style_of}
use Rattle.mbe_semantics.specs.Readings.Item.{Fragment}
use Rattle.mbe_semantics.proofs.FrontLemmas.{takes_cut}
use Rattle.mbe_ops.specs.Views.{ops_of}
use Rattle.mbe_threads.specs.declared.thread.Thread.{Thread}
use Rattle.mbe_matcher.specs.Threads.{AreSteps, over_steps}
use Rattle.mbe_matcher.proofs.Keeping.{keeps_not, kept_only}
use Rattle.mbe_matcher.proofs.StepLemmas.{as_model, none_steps, over_alone, not_taken, taken_is, variable_none}
use Rattle.mbe_matcher.proofs.StepLemmas.{variable_over, variable_past}
use Rattle.mbe_matcher.proofs.steps.variable_steps.Goals as goal

pub returns-in_default-clause-steps : goal.returns-in_default-clause-steps
returns-in_default-clause-steps g c = λ frames o s.
    let src = c.args.source.now in
    let h = g.G.FragmentGrammar.grammar c.args.grammar.now in
    let taken = rw (c.in_default.is, c.here-beyond.ensures) at c.in_ok-tree.ensures in
    rw c.no_steps.ensures
    (as_model c.args.log.now frames (λ x. AreSteps (input_of h (trees src.whole)) (trees src.whole) src.offset
    c.args.log.now c.args.log.now frames frames x none_steps)
    c.args.thread _ o s c.requires.tail.1
    (λ a up t. record {
      now = variable_none (trees src.whole) src.offset c.args.log.now frames (input_of h (trees src.whole))
          c.args.name.now c.args.kind c.requires.tail.0 (ops_of c.args.rest.now) a up
          (not_taken g.row.A.Denot h.dialect _ _ c.args.kind taken);
      kept = keeps_not c.args.log.now frames;
    }))

pub returns-clause-steps : goal.returns-clause-steps
returns-clause-steps g c = λ frames o s.
    let src = c.args.source.now in
    let h = g.G.FragmentGrammar.grammar c.args.grammar.now in
    let b = c.args.thread in
    let tree = c.in-Some.tree in
    let old = c.args.log.now in
    let new = c.push_fragment.new.self in
    let left = c.eat_fragment.new.src in
    let x : Fragment = record { trees = trees tree; style = style_of h.dialect c.args.kind } in
    let p : Thread g.row.A.Denot = record {
      tail = c.args.rest;
      number = b.number - 1;
      up = b.up;
      handle = c.push_fragment.new.handle;
    } in
    let taken = taken_is h.dialect tree _ left (rest_at (trees src.whole) src.offset) c.args.kind
    (takes_cut h c.args.kind (rest_at (trees src.whole) src.offset))
    (rw (c.in-Some.is, c.here-beyond.ensures) at c.in_ok-tree.ensures) in
    let pushed = rw (c.fragment_of_kind-fragment.ensures, c.dialect.ensures) at c.in_ok-push_fragment.ensures.ok in
    rw c.over.ensures
    (as_model old frames (λ y. AreSteps (input_of h (trees src.whole)) (trees src.whole) src.offset old new frames
    frames y (over_steps c.flat_len.result (Some left) p))
    b _ o s c.requires.tail.1
    (λ a up t. record {
      now = rw c.flat_len.ensures (variable_over (trees src.whole) src.offset new frames (input_of h (trees src.whole))
          c.args.name.now c.args.kind c.requires.tail.0 (ops_of c.args.rest.now) a up x _ left p
          taken.is refl taken.beyond
          (variable_past old new frames b c.args.name.now c.args.kind c.requires.tail.0 a up x c.args.rest
          c.push_fragment.new.handle pushed t));
      kept = kept_only old new frames pushed.kept;
    }))

pub returns-clause-over : goal.returns-clause-over
returns-clause-over g c = rw c.over.ensures (over_alone c.flat_len.result _ _)
