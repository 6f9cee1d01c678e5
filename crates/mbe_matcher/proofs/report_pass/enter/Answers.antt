use Rattle.mbe_tt.specs.Views.View.{trees}
use Rattle.mbe_semantics.specs.Readings.Input.{input_of}
use Rattle.mbe_matcher.proofs.LastWalk.{enters}
use Rattle.mbe_matcher.proofs.report_pass.enter.Goals as goal

pub returns : goal.returns
returns g c = λ o shows.
    let s = c.args.source.now in
    let i = input_of (g.G.FragmentGrammar.grammar c.args.grammar.now) (trees s.whole) in
    let f = c.in_ok-found.found in
    enters i (trees s.whole) s.offset c.args.log.now c.steps.new.log c.args.frames.now.items c.steps.new.frames.items
    c.args.thread f o shows (c.in_ok-found.ensures o shows)
    c.if_failed.result c.is_some.result c.again-handle.result c.is_some.ensures c.again-handle.ensures
    c.if_failed.ensures
    c.args.todo.now.items c.push.new.self.items c.push_entered.new.todo.items c.push_entered-2.new.todo.items
    c.in_ok-push.ensures.items c.in_ok-push_entered.ensures c.in_ok-push_entered-2.ensures
