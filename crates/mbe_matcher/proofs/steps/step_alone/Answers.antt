use Rattle.std.proofs.Common.{◌≡◌, ◌<◌, ◌∙◌, ◌∷◌, false, true, [], sym, ap, subst, arith}
use Rattle.std.specs.Prelude.{Ok, IsSome}
use Rattle.std.proofs.Math.Arith.{lt_of_le-ne}
use Rattle.mbe_tt.specs.Trees.Tree.{flat_len}
use Rattle.mbe_tt.specs.Views.View.{trees}
use Rattle.mbe_ops.specs.Views.{ops_of}
use Rattle.mbe_threads.specs.declared.thread.Thread.{Thread}
use Rattle.mbe_matcher.specs.Threads.{IsThread, GivesAlone}
use Rattle.mbe_matcher.proofs.StepLemmas.{first_op, no_op}
use Rattle.mbe_matcher.proofs.Alone.{only_one, only_shown, if_ok, steps_alone, kept_alone}
use Rattle.mbe_matcher.proofs.steps.step_alone.Goals as goal
use Rattle.mbe_matcher.proofs.steps.step_alone.Goals.{Else-is_at_end}

only : (g : _) (c : Else-is_at_end g) → c.args.todo.now ≡ c.thread-item.result ∷ []
only g c = only_one c.args.todo.now c.thread-item.result (omega (arith, c.in-len1.len_at_least))
    (omega (arith, c.in-len1.len_below)) c.thread-item.is

shown : (g : _) (c : Else-is_at_end g) → IsThread c.args.log.now c.args.frames.now.items c.thread-item.result
shown g c = only_shown (g.G.FragmentGrammar.grammar c.args.grammar.now) c.args.source.now c.requires.stack.0
    c.args.log.now c.args.frames.now.items c.args.todo.now c.thread-item.result c.requires.stack.1 (only g c)

within : (g : _) (c : Else-is_at_end g) → c.args.source.now.offset < flat_len (trees c.args.source.now.whole)
within g c = lt_of_le-ne c.args.source.now.within
    (λ e. let k : false ≡ true = sym c.if-is_at_end.false ∙ c.is_at_end.ensures.1 e in cc)

pub end_alone-requires-clause-placed : goal.end_alone-requires-clause-placed
end_alone-requires-clause-placed g c =
    let here = goal.at.end_alone-requires-clause-placed g c in (
      c.args.log.now,
      subst (λ l. IsThread c.args.log.now l c.again.result) (sym c.deref.ensures.value)
          (subst (IsThread c.args.log.now c.args.frames.now.items) (sym c.again.ensures)
          (shown g here.Else-is_at_end)),
    )

pub end_alone-requires-clause-tail : goal.end_alone-requires-clause-tail
end_alone-requires-clause-tail g c =
    ap (λ (x : Thread g.row.A.Denot). ops_of x.tail.now) c.again.ensures
    ∙ no_op c.thread-item.result.tail.now (omega (arith, c.in-empty.len_below))

pub op_alone-requires-clause-placed : goal.op_alone-requires-clause-placed
op_alone-requires-clause-placed g c =
    subst (IsThread c.args.log.now c.args.frames.now.items) (sym c.again-in-len1-up.ensures)
    (shown g (goal.at.op_alone-requires-clause-placed g c).Else-is_at_end)

pub op_alone-requires-clause-tail : goal.op_alone-requires-clause-tail
op_alone-requires-clause-tail g c =
    ap (λ (x : Thread g.row.A.Denot). ops_of x.tail.now) c.again-in-len1-up.ensures
    ∙ first_op c.thread-item.result.tail.now c.op-item.result c.in-len1-up.len_at_least c.op-item.is

pub returns-in-empty-clause-within : goal.returns-in-empty-clause-within
returns-in-empty-clause-within g c = λ some. within g (goal.at.returns-in-empty-clause-within g c).Else-is_at_end

pub returns-in-empty-clause-alone : goal.returns-in-empty-clause-alone
returns-in-empty-clause-alone g c =
    let h = g.G.FragmentGrammar.grammar c.args.grammar.now in
    let log = c.args.log.now in
    steps_alone h c.args.source.now log log c.args.frames.now.items c.args.frames.now.items c.args.todo.now
    c.thread-item.result (only g (goal.at.returns-in-empty-clause-alone g c).Else-is_at_end) (Ok c.end_alone.result)
    (subst (λ x. GivesAlone h c.args.source.now log log c.args.frames.now.items c.args.frames.now.items x
    (Ok c.end_alone.result)) c.again.ensures
    (subst (λ l. GivesAlone h c.args.source.now log log l l c.again.result (Ok c.end_alone.result))
    c.deref.ensures.value (c.end_alone.ensures h log)))

pub returns-in-len1-up-clause-within : goal.returns-in-len1-up-clause-within
returns-in-len1-up-clause-within g c =
    let here = goal.at.returns-in-len1-up-clause-within g c in
    if_ok c.op_alone.result
    (λ n. IsSome n → c.args.source.now.offset < flat_len (trees c.args.source.now.whole))
    (λ n some. within g here.Else-is_at_end)

pub returns-in-len1-up-clause-alone : goal.returns-in-len1-up-clause-alone
returns-in-len1-up-clause-alone g c =
    let h = g.G.FragmentGrammar.grammar c.args.grammar.now in
    steps_alone h c.args.source.now c.args.log.now c.op_alone.new.log c.args.frames.now.items
    c.op_alone.new.frames.items c.args.todo.now
    c.thread-item.result (only g (goal.at.returns-in-len1-up-clause-alone g c).Else-is_at_end) c.op_alone.result
    (subst (λ x. GivesAlone h c.args.source.now c.args.log.now c.op_alone.new.log c.args.frames.now.items
    c.op_alone.new.frames.items x c.op_alone.result) c.again-in-len1-up.ensures c.op_alone.ensures)

pub returns-in-len1-up-clause-kept : goal.returns-in-len1-up-clause-kept
returns-in-len1-up-clause-kept g c =
    kept_alone (g.G.FragmentGrammar.grammar c.args.grammar.now) c.args.source.now c.args.log.now c.op_alone.new.log
    c.args.frames.now.items c.op_alone.new.frames.items c.again-in-len1-up.result
    (subst (IsThread c.args.log.now c.args.frames.now.items) (sym c.again-in-len1-up.ensures)
    (shown g (goal.at.returns-in-len1-up-clause-kept g c).Else-is_at_end))
    c.op_alone.result c.op_alone.ensures
