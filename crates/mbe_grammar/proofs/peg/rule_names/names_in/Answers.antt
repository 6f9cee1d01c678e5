use Rattle.std.proofs.lemmas.Result.{err_from_is_err_and}
use Rattle.mbe_grammar.specs.Peg.Grammar.{names_in}
use Rattle.mbe_grammar.specs.Peg.Views.{names_model}
use Rattle.mbe_grammar.proofs.ReadText.ReadingLemmas.{names_read, fault_of_one, after_one, after_all}
use Rattle.mbe_grammar.proofs.peg.rule_names.names_in.Goals as goal

pub returns-in_err-add_definition : goal.returns-in_err-add_definition
returns-in_err-add_definition g c =
    let p = err_from_is_err_and c.from_residual.result c.from_residual.ensures.1 in
    rw (p.1, p.2)
    (fault_of_one names_in _ names_read c.args.words.now c.loop-location.location-index
    (names_model c.loop-location.names) _
    c.loop-location.invariant _ _ c.loop-location-test.true c.in_err-add_definition.ensures)

pub loop-location-preserved : goal.loop-location-preserved
loop-location-preserved g c =
    after_one names_in _ names_read c.args.words.now c.loop-location.location-index (names_model c.loop-location.names)
    _
    c.loop-location.invariant _ _ c.loop-location-test.true c.in_ok-add_definition.ensures

pub returns : goal.returns
returns g c =
    after_all names_in _ names_read c.args.words.now c.loop-location.location-index (names_model c.loop-location.names)
    _
    c.loop-location.invariant c.loop-location-test.false
