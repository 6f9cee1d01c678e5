use Rattle.std.proofs.Common.{map, sym, ap, ◌∙◌, List}
use Rattle.std.proofs.lemmas.Simd.{map-map}
use Rattle.mbe_matcher.specs.declared.matcher.Verdict.{Verdict}
use Rattle.mbe_matcher.specs.MatchResults.{verdict_seen}
use Rattle.mbe_program.specs.Replies.Answers.{answer_of}
use Rattle.mbe_program.specs.Replies.Requests.{flat_verdict}
use Rattle.mbe_program.proofs.ReplyLemmas.CallLemmas.{unread_by}
use Rattle.mbe_program.proofs.replies.requests.explain_by.Goals as goal

pub returns-in-Err-clause-refused : goal.returns-in-Err-clause-refused
returns-in-Err-clause-refused g c =
    unread_by c.args.asked.edition c.args.definition.now.1 c.in-Err.error (answer_of c.unread.result)
    c.in-Err.ensures.refused
    c.unread.ensures

pub returns-in-Ok-flat_verdicts-clause-explains : goal.returns-in-Ok-flat_verdicts-clause-explains
returns-in-Ok-flat_verdicts-clause-explains g c = record {
  verdicts = map verdict_seen c.in-Ok.verdicts.items;
  explains = c.in-Ok.ensures.explains;
  flat = c.in-Ok-flat_verdicts.ensures ∙ (ap (λ (vs : List Verdict). map (λ v. flat_verdict (verdict_seen v)) vs)
      c.as_slice.ensures.value
      ∙ sym (map-map flat_verdict verdict_seen c.in-Ok.verdicts.items));
}
