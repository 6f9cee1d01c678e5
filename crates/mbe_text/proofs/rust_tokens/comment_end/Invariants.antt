use Rattle.std.proofs.Common.{◌≡◌, ◌+◌, ◌≤◌, false, chars, length}
use denote.Text.{Utf8}
use denote.Shadow.{shadow}
use Rattle.mbe_text.specs.Rests.{IsEnd}
use Rattle.mbe_text.specs.QuoteEnds.{from_comment_end}
use Rattle.mbe_text.proofs.rust_tokens.comment_end.Given as goal

abbrev pub invariant-chars : goal.invariant-chars
invariant-chars l = record {
  utf8 : shadow (Utf8 l.rest);
  exact : from_comment_end false l.depth (chars l.rest) ≡ from_comment_end false 0 (chars l.text);
  end : IsEnd l.text l.rest;
  few : l.depth + length l.rest ≤ length l.text;
}

abbrev pub decreases-chars : goal.decreases-chars
decreases-chars l = length l.rest
