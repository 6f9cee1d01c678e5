use Rattle.std.proofs.Common.{◌≡◌, chars, drop}
use Rattle.std.specs.Str.{IsUtf8}
use Rattle.mbe_text.specs.Characters as spec
use Rattle.mbe_text.proofs.characters.ascii_count.Given as goal

abbrev pub invariant-bytes : goal.invariant-bytes
invariant-bytes l = record {
  at : l.count ≡ l.byte-index;
  utf8 : IsUtf8 (drop l.count l.text);
  exact : spec.past l.class (chars (drop l.count l.text)) ≡ spec.past l.class (chars l.text);
}
