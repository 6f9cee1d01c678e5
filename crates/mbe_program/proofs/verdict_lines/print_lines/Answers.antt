use Rattle.std.proofs.Common.{List, ℕ, [], sym, ◌∙◌, subst, append-nil}
use Rattle.std.proofs.lemmas.Result.{err_from_is_err_and}
use Rattle.std.specs.Io.KnownBytes.{Appends}
use Rattle.mbe_text.proofs.WriterLemmas.{writes_failed, fails_more}
use Rattle.mbe_program.proofs.OutcomeLemmas.{flushed}
use Rattle.mbe_program.proofs.verdict_lines.print_lines.Goals as goal

pub returns-in_err-write_whole : goal.returns-in_err-write_whole
returns-in_err-write_whole g c =
    let p = err_from_is_err_and c.from_residual.result c.from_residual.ensures.1 in
    writes_failed _ _ _ _ _ p.1 (fails_more _ _ c.as_bytes.result.now [] c.args.lines.now
    (sym (append-nil c.as_bytes.result.now ∙ c.as_bytes.ensures.value)) c.in_err-write_whole.ensures)

pub returns : goal.returns
returns g c =
    let before = g.W.Write.contents c.args.out.now in
    let middle = g.W.Write.contents c.write_whole.new.out in
    let all = subst (λ (l : List ℕ). Appends before middle l) c.as_bytes.ensures.value c.in_ok-write_whole.ensures in
    flushed before middle _ c.flush.result c.args.lines.now all c.flush.ensures.bytes
