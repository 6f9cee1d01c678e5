use Rattle.std.proofs.Common.{◌≡◌, sym, ap, subst, arith}
use Rattle.std.specs.Prelude.{IfOk}
use Rattle.mbe_ops.specs.Errors.ErrorViews.{errors_of}
use Rattle.mbe_matcher.specs.Fronts.{first_match_error}
use Rattle.mbe_matcher.proofs.StepLemmas.{first_op, no_op}
use Rattle.mbe_matcher.proofs.prefilter.first_match_error.Goals as goal

pub returns-in-empty : goal.returns-in-empty
returns-in-empty g c =
    ap (λ os. first_match_error (g.G.FragmentGrammar.grammar c.args.grammar.now) os c.args.here.now c.args.around)
    (sym (no_op c.args.ops.now (omega (arith, c.in-empty.len_below))))

pub returns-in-len1-up : goal.returns-in-len1-up
returns-in-len1-up g c =
    subst (λ os. IfOk c.match_error.result (λ e. errors_of e
    ≡ first_match_error (g.G.FragmentGrammar.grammar c.args.grammar.now) os c.args.here.now c.args.around))
    (sym (first_op c.args.ops.now c.op-item.result c.in-len1-up.len_at_least c.op-item.is)) c.match_error.ensures
