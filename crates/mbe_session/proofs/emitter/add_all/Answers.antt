use Rattle.std.proofs.Common.{◌≤◌, ◌++◌, ◌∙◌, ap, arith, length}
use Rattle.std.specs.Prelude.{◌==◌}
use Rattle.std.specs.String.{string_bytes}
use Rattle.mbe_session.specs.EmittedNotes.{first_written}
use Rattle.mbe_session.proofs.EmitterLemmas.{all_are_written, one_written}
use Rattle.mbe_session.proofs.emitter.add_all.Goals as goal

pub loop-at-preserved : goal.loop-at-preserved
loop-at-preserved c =
    one_written c.args.form c.args.diagnostics.now c.loop-at.at (string_bytes c.loop-at.text) _ _ c.loop-at.invariant
    (c.in_ok-add_first.ensures
    ∙ ap (λ ds. string_bytes c.loop-at.text ++ first_written c.args.form (c.loop-at.at == 0) ds)
    c.split_at.ensures.back)

pub returns : goal.returns
returns c =
    let past : length c.args.diagnostics.now ≤ c.loop-at.at = omega (arith, c.loop-at-test.false) in
    all_are_written c.args.form (c.loop-at.at == 0) c.args.diagnostics.now c.loop-at.at (string_bytes c.loop-at.text) _
    past c.loop-at.invariant
