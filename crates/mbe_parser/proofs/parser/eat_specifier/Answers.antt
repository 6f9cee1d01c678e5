use Rattle.mbe_tt.specs.Views.LeafViews.{ident_of}
use Rattle.mbe_parser.proofs.ReaderLemmas.{common, a_word}
use Rattle.mbe_parser.proofs.parser.eat_specifier.Goals as goal

pub returns-in-Some-clause-specifier : goal.returns-in-Some-clause-specifier
returns-in-Some-clause-specifier g c =
    a_word c.args.src.now (ident_of c.in-Ok.specifier.now) c.as_str-text.result.now c.in-Ok.ensures.value
    c.as_str-text.ensures c.in-Some.ensures.1

pub returns-in-Some-clause-kind : goal.returns-in-Some-clause-kind
returns-in-Some-clause-kind g c = common _ _ _ _ c.as_str-text.ensures c.in-Some.ensures
