use Rattle.std.proofs.Common.{◌≡◌, ◌≤◌, chars, length}
use denote.Text.{Utf8}
use denote.Shadow.{shadow}
use Rattle.mbe_text.specs.Escapes as spec
use Rattle.mbe_text.specs.Rests.{IsEnd}
use Rattle.mbe_text.proofs.escapes.past_digits.Given as goal

abbrev pub invariant-digits : goal.invariant-digits
invariant-digits l = record {
  utf8 : shadow (Utf8 l.rest);
  few : l.count ≤ 7;
  small : l.value ≤ 1114112;
  exact : spec.past_digits l.mode (chars l.from) l.value l.count (chars l.rest)
      ≡ spec.past_digits l.mode (chars l.from) l.first 1 (chars l.text);
  end : IsEnd l.from l.text → IsEnd l.from l.rest;
  fewer : length l.rest ≤ length l.text;
}

abbrev pub decreases-digits : goal.decreases-digits
decreases-digits l = length l.rest
