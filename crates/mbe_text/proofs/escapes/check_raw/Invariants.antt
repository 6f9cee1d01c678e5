use Rattle.std.proofs.Common.{◌≡◌, chars, length}
use denote.Text.{Utf8}
use denote.Shadow.{shadow}
use Rattle.mbe_text.specs.Escapes as spec
use Rattle.mbe_text.specs.Rests.{IsEnd}
use Rattle.mbe_text.proofs.escapes.check_raw.Given as goal

abbrev pub invariant-chars : goal.invariant-chars
invariant-chars l = record {
  utf8 : shadow (Utf8 l.rest);
  exact : spec.check_raw l.mode (chars l.rest) ≡ spec.check_raw l.mode (chars l.text);
  end : IsEnd l.text l.rest;
}

abbrev pub decreases-chars : goal.decreases-chars
decreases-chars l = length l.rest
