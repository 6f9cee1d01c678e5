use Rattle.std.proofs.Common.{◌≡◌, chars, length, false}
use denote.Text.{Utf8}
use denote.Shadow.{shadow}
use Rattle.mbe_text.specs.QuoteEnds as extents
use Rattle.mbe_text.specs.Rests.{IsEnd}
use Rattle.mbe_text.proofs.escapes.find_later_quote.Given as goal

abbrev pub invariant-chars : goal.invariant-chars
invariant-chars l = record {
  utf8 : shadow (Utf8 l.rest);
  exact : extents.from_later_quote false (chars l.rest) ≡ extents.from_later_quote false (chars l.text);
  end : IsEnd l.text l.rest;
}

abbrev pub decreases-chars : goal.decreases-chars
decreases-chars l = length l.rest
