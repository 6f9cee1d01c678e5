use Rattle.std.proofs.Common.{◌≡◌, chars, length}
use denote.Text.{Utf8}
use denote.Shadow.{shadow}
use Rattle.mbe_text.specs.RustTokens as spec
use Rattle.mbe_text.proofs.rust_tokens.has_digit.Given as goal

abbrev pub invariant-digits : goal.invariant-digits
invariant-digits l = record {
  utf8 : shadow (Utf8 l.rest);
  exact : spec.has_digit l.base (chars l.rest) ≡ spec.has_digit l.base (chars l.text);
}

abbrev pub decreases-digits : goal.decreases-digits
decreases-digits l = length l.rest
