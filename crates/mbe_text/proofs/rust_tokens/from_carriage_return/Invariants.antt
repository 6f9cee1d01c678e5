use Rattle.std.proofs.Common.{◌≡◌, chars, length}
use denote.Text.{Utf8}
use denote.Shadow.{shadow}
use Rattle.mbe_text.specs.Rests.{IsEnd}
use Rattle.mbe_text.specs.RustTokens as spec
use Rattle.mbe_text.proofs.rust_tokens.from_carriage_return.Given as goal

abbrev pub invariant-chars : goal.invariant-chars
invariant-chars l = record {
  utf8 : shadow (Utf8 l.rest);
  exact : spec.from_carriage_return (chars l.rest) ≡ spec.from_carriage_return (chars l.text);
  end : IsEnd l.text l.rest;
}

abbrev pub decreases-chars : goal.decreases-chars
decreases-chars l = length l.rest
