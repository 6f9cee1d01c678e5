use Rattle.std.proofs.Common.{map}
use Rattle.mbe_diagnostics.specs.Lints.Lint.{lint_seen}
use Rattle.mbe_session.proofs.EmitterLemmas.{lints_emitted}
use Rattle.mbe_session.proofs.emitter.add_lints.Goals as goal

pub returns : goal.returns
returns c =
    lints_emitted c.args.form c.args.files.now (map lint_seen c.args.lints.now) _ _ _ _ _
    c.new-diagnostics.ensures.items
    c.in_ok-push_lint_diagnostics.ensures c.as_slice.ensures.value c.in_ok-add_all.ensures
