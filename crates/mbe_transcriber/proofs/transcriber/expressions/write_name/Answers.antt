use Rattle.std.proofs.Common.{◌≡◌, ◌∙◌, ap, sym}
use Rattle.mbe_semantics.specs.Transcription.Substitution.{rawness}
use Rattle.mbe_variables.proofs.FragmentLemmas.{if_ok}
use Rattle.mbe_transcriber.proofs.WroteLemmas.{name_written}
use Rattle.mbe_transcriber.proofs.transcriber.expressions.write_name.Goals as goal
use Rattle.mbe_transcriber.proofs.transcriber.expressions.write_name.Goals.{then-is_keyword, else-is_keyword}

pub returns : goal.returns
returns g c =
    let raw : c.if-is_keyword.is_raw ≡ rawness c.is_keyword.result =
    elim c.if-is_keyword.branch [
      | then-is_keyword w ↦ w.is_raw-is ∙ ap rawness (sym w.if-is_keyword.true)
      | else-is_keyword w ↦ w.is_raw-is ∙ ap rawness (sym w.if-is_keyword.false)
    ] in
    if_ok c.push.result
    (name_written (g.G.FragmentGrammar.grammar c.args.ctx.now.grammar.now) _ c.args.span c.args.text.now
    c.in_ok-intern.field-0 c.if-is_keyword.is_raw c.mark.result c.args.builder.now c.push.new.self
    c.in_ok-intern.ensures (raw ∙ ap rawness c.is_keyword.ensures) c.mark.ensures)
    c.push.ensures.ok
