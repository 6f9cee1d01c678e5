use Rattle.std.proofs.Common.{List, ℕ, ◌++◌, ap, sym, subst}
use Rattle.std.specs.Io.KnownBytes.{Appends}
use Rattle.std.proofs.lemmas.Result.{err_from_is_err_and}
use Rattle.mbe_text.proofs.WriterLemmas.{writes_failed, fails_more, writes_then}
use Rattle.mbe_text.proofs.output.overflow.Goals as goal

pub returns-in_err-write_whole-clause-written : goal.returns-in_err-write_whole-clause-written
returns-in_err-write_whole-clause-written g c =
    let p = err_from_is_err_and c.from_residual.result c.from_residual.ensures.1 in
    writes_failed _ _ _ _ _ p.1 (fails_more _ _ c.as_slice.result.now c.args.bytes.now _
    (ap (λ (l : List ℕ). l ++ c.args.bytes.now) (sym c.as_slice.ensures.value)) c.in_err-write_whole.ensures)

pub returns-clause-written : goal.returns-clause-written
returns-clause-written g c =
    writes_then _ _ _ _ c.args.line.now.items c.args.bytes.now
    (subst (Appends _ _) c.as_slice.ensures.value c.in_ok-write_whole.ensures) c.write_whole-2.ensures
