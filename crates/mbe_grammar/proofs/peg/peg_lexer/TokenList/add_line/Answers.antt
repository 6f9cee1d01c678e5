use Rattle.std.proofs.Common.{Option, Ok, None, Some, option_map, rules, arith, refl, ap, ◌∙◌}
use Rattle.mbe_grammar.specs.declared.peg.peg_error.PegErrorKind.{PegErrorKind}
use Rattle.mbe_grammar.specs.Peg.Views.{tokens_model, token_result_model, plain_reason}
use Rattle.mbe_grammar.specs.Peg.Tokens.{and_more, location_of, tokenize_line}
use Rattle.mbe_grammar.proofs.ReadText.WordLemmas.{word_more, end_of_line, end_of_words, end_of_right, ended}
use Rattle.mbe_grammar.proofs.peg.peg_lexer.TokenList.add_line.Goals as goal
use Rattle.mbe_grammar.proofs.peg.peg_lexer.TokenList.add_line.Goals.{else-words-test}
use Rattle.mbe_grammar.proofs.peg.peg_lexer.TokenList.add_line.Goals.{then-words-test+in-Ok-None}
use Rattle.mbe_grammar.proofs.peg.peg_lexer.TokenList.add_line.Goals.{then-words-test+in-Err}

pub words-preserved : goal.words-preserved
words-preserved g c =
    let items = c.words.self.words.items in
    let all = and_more (tokens_model c.args.self.now) (tokenize_line c.args.number c.args.line.now) in
    record {
      whole =
          rw c.trim_start-rest-in-Ok-Some.ensures.trim
          (word_more items c.words.left c.args.number c.args.line.now c.words.rest.now all c.words.invariant.whole
          c.push.new.self.items c.in-Ok-Some.after.now c.in-Ok-Some.token (token_result_model (Ok c.in-Ok-Some.field-0))
          c.words-test.true c.in-Ok-Some.ensures (rw c.in-Ok-Some.field-0-is refl)
          (rw (← c.location_of-location.ensures) c.in_ok-push-in-Ok-Some.ensures.items));
      right = c.words.invariant.right;
      text = search rules;
    }

pub returns : goal.returns
returns g c =
    let items = c.words.self.words.items in
    let n = c.words.left in
    let line = c.args.line.now in
    let rest = c.words.rest.now in
    let all = and_more (tokens_model c.args.self.now) (tokenize_line c.args.number line) in
    let location = location_of c.args.number line rest in
    let wrong : Option PegErrorKind → Option PegErrorKind = λ o. option_map plain_reason o in
    let at_end = c.location_of-self.ensures in
    let whole = c.words.invariant.whole in
    elim c.words-test.branch [
      | else-words-test w ↦
          ended items _ location c.words-test.wrong None all at_end
          (ap wrong (w.wrong-is ∙ c.words.invariant.right))
          (end_of_line items n c.args.number line rest all whole (omega (arith, w.words-test.false)))
      | then-words-test+in-Ok-None w ↦
          ended items _ location c.words-test.wrong None all at_end
          (ap wrong (w.wrong-is ∙ c.words.invariant.right))
          (end_of_words items n c.args.number line rest all whole _ w.words-test.true w.in-Ok-None.ensures
          (rw w.in-Ok-None.field-0-is refl))
      | then-words-test+in-Err w ↦
          let reason = plain_reason w.in-Err.reason in
          ended items _ location c.words-test.wrong (Some reason) all at_end (ap wrong w.wrong-is)
          (end_of_right items n c.args.number line rest all whole _ reason w.words-test.true w.in-Err.ensures refl)
    ]
