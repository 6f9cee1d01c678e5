use Rattle.std.proofs.Common.{◌≡◌, chars, length}
use denote.Text.{Utf8}
use denote.Shadow.{shadow}
use Rattle.mbe_text.specs.Escapes as spec
use Rattle.mbe_text.specs.Rests.{IsEnd}
use Rattle.mbe_text.proofs.escapes.check_string.Given as goal

abbrev pub invariant-parts : goal.invariant-parts
invariant-parts l = record {
  utf8 : shadow (Utf8 l.rest);
  exact : spec.check_string l.mode 0 (chars l.rest) ≡ spec.check_string l.mode 0 (chars l.text);
  end : IsEnd l.text l.rest;
}

abbrev pub decreases-parts : goal.decreases-parts
decreases-parts l = length l.rest
