use Rattle.mbe.specs.MacroViews.{macro_of}
use Rattle.mbe_session.specs.CallFailure.{FailsFrom, CallFails}
use Rattle.mbe_session.specs.declared.call_failure.CallFailure.{CallFailure}
use Rattle.mbe_session.proofs.call_failure.call_failure.Given as goal

-- However the rules from here on fail, all of them fail so.
abbrev pub invariant-loop-index : goal.invariant-loop-index
invariant-loop-index g l =
    let h = g.G.FragmentGrammar.grammar l.grammar in
    let rs = (macro_of l.rules).rules in
    (why : CallFailure) → FailsFrom h rs l.argument.1 l.index l.furthest why → CallFails h rs l.argument.1 why
