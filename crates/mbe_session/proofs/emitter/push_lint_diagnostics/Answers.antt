use Rattle.std.proofs.Common.{rules, ◌+◌, drop, map, subst}
use Rattle.mbe_diagnostics.proofs.LoopLemmas.{one_less}
use Rattle.mbe_diagnostics.specs.Lints.Lint.{lint_seen}
use Rattle.mbe_session.specs.EmittedNotes.{AreLintDiagnostics}
use Rattle.mbe_session.proofs.emitter.push_lint_diagnostics.Goals as goal

pub loop-lint-preserved : goal.loop-lint-preserved
loop-lint-preserved c =
    let left = drop (c.loop-lint.lint-index + 1) c.args.lints.now in
    one_less (λ ns before after. AreLintDiagnostics c.args.files.now (map lint_seen ns) before after)
    c.args.lints.now _ _ c.lint-item.result c.loop-lint.lint-index _ c.loop-lint-test.true c.lint-item.is
    (λ end rest. (
      c.diagnostic-diag.result,
      search rules,
      subst (λ b. AreLintDiagnostics c.args.files.now (map lint_seen left) b end) c.in_ok-push.ensures.items rest,
    )) c.loop-lint.invariant
