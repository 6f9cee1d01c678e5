use Rattle.std.proofs.lemmas.Result.{err_from_is_err_and}
use Rattle.mbe_grammar.specs.Peg.Grammar.{words}
use Rattle.mbe_grammar.specs.Peg.Views.{reader_model}
use Rattle.mbe_grammar.proofs.ReadText.ReadingLemmas.{words_read, fault_of_one, after_one, after_all}
use Rattle.mbe_grammar.proofs.peg.peg_grammar.read_tokens.Goals as goal

pub returns-in_err-read_token : goal.returns-in_err-read_token
returns-in_err-read_token g c =
    let p = err_from_is_err_and c.from_residual.result c.from_residual.ensures.1 in
    rw (p.1, p.2)
    (fault_of_one words _ words_read c.args.words.now c.loop-location.location-index
    (reader_model c.loop-location.reader) _
    c.loop-location.invariant _ _ c.loop-location-test.true c.in_err-read_token.ensures)

pub loop-location-preserved : goal.loop-location-preserved
loop-location-preserved g c =
    after_one words _ words_read c.args.words.now c.loop-location.location-index (reader_model c.loop-location.reader) _
    c.loop-location.invariant _ _ c.loop-location-test.true c.in_ok-read_token.ensures

pub returns : goal.returns
returns g c =
    after_all words _ words_read c.args.words.now c.loop-location.location-index (reader_model c.loop-location.reader) _
    c.loop-location.invariant c.loop-location-test.false
