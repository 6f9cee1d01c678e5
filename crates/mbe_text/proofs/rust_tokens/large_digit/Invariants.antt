use Rattle.std.proofs.Common.{◌≡◌, chars, length}
use denote.Text.{Utf8}
use denote.Shadow.{shadow}
use Rattle.mbe_text.specs.Rests.{IsEnd}
use Rattle.mbe_text.specs.RustTokens as spec
use Rattle.mbe_text.proofs.rust_tokens.large_digit.Given as goal

abbrev pub invariant-digits : goal.invariant-digits
invariant-digits l = record {
  utf8 : shadow (Utf8 l.rest);
  exact : spec.large_digit l.base (chars l.rest) ≡ spec.large_digit l.base (chars l.digits);
  end : IsEnd l.digits l.rest;
}

abbrev pub decreases-digits : goal.decreases-digits
decreases-digits l = length l.rest
