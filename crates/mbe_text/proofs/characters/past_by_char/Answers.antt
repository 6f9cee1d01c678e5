use Rattle.std.proofs.Common.{sym, ◌∙◌}
use Rattle.std.proofs.lemmas.Str.{IsUtf8-past_char}
use Rattle.mbe_text.proofs.CharacterLemmas.{shorter, end_after, past_such}
use Rattle.mbe_text.proofs.characters.past_by_char.Goals as goal

pub chars-smaller : goal.chars-smaller
chars-smaller c = shorter c.chars.rest.now c.in-Some.after.now c.in-Some.char c.in-Some.ensures.bytes

pub chars-preserved : goal.chars-preserved
chars-preserved c =
    let next = c.in-Some.ensures in
    record {
      utf8 = IsUtf8-past_char c.chars.rest.now c.in-Some.after.now c.in-Some.char c.chars.invariant.utf8 next.bytes;
      exact = past_such c.args.class c.in-Some.char _ _ (sym c.if-has.ensures) next.chars ∙ c.chars.invariant.exact;
      end = end_after c.args.text.now c.chars.rest.now c.in-Some.after.now c.in-Some.char c.chars.invariant.end
          next.bytes;
    }
