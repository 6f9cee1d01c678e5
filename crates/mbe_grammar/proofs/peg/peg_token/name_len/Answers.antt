use Rattle.std.proofs.Common.{rules, tests, ◌≡◌, ap, ◌∙◌, not, length, Option, ℕ}
use Rattle.std.specs.List.{position}
use Rattle.std.specs.Prelude.{unwrap_or}
use Rattle.std.proofs.lemmas.Iterator.{YieldsList-from_slice}
use Rattle.std.proofs.lemmas.Iterator.Search.{position_from_yields_List}
use Rattle.mbe_grammar.specs.Peg.Tokens.{is_of_name}
use Rattle.mbe_grammar.proofs.ReadText.CharLemmas.{name_end}
use Rattle.mbe_grammar.proofs.peg.peg_token.name_len.Goals as goal

pub returns : goal.returns
returns c =
    let bytes = c.args.text.now in
    let found : c.position.result ≡ position (λ b. not (is_of_name b)) bytes =
    position_from_yields_List (λ b. not (is_of_name b)) _ _ _ c.position.ensures.ran
    (YieldsList-from_slice bytes cc) (λ x b q k. search (rules, tests)) in
    c.unwrap_or.ensures ∙ (ap (λ (o : Option ℕ). unwrap_or o (length bytes)) found ∙ name_end bytes)
