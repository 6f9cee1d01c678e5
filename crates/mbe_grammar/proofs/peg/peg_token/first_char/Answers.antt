use Rattle.std.proofs.Common.{ℕ, List, ◌++◌, length, sym, ap, ◌∙◌, encode_utf8}
use Rattle.mbe_grammar.proofs.ReadText.CharLemmas.{first_char_is, no_first_char}
use Rattle.mbe_grammar.proofs.peg.peg_token.first_char.Goals as goal

pub returns-in_err-char : goal.returns-in_err-char
returns-in_err-char c =
    let nothing = ap (λ (t : List ℕ). length t) (sym c.chars-chars.ensures.rest) ∙ c.in_err-char.ensures.steps.0.0 in
    rw c.from_residual.ensures (no_first_char c.args.text.now nothing)

pub returns : goal.returns
returns c =
    first_char_is c.args.text.now _ c.in_ok-char.char c.utf8.text
    (sym c.chars-chars.ensures.rest
    ∙ (c.in_ok-char.ensures.steps.0 ∙ ap (λ (r : List ℕ). encode_utf8 c.in_ok-char.char ++ r) (sym c.as_str.ensures)))
