use Rattle.mbe_text.proofs.CharacterLemmas.{letter_starts, other_starts}
use Rattle.mbe_text.proofs.characters.is_start.Goals as goal

pub returns-then-is_ascii_alphabetic : goal.returns-then-is_ascii_alphabetic
returns-then-is_ascii_alphabetic c =
    letter_starts c.args.char c.is_ascii.result c.is_ascii_alphabetic.result c.is_ascii.ensures c.if-is_ascii.true
    c.is_ascii_alphabetic.ensures.value c.if-is_ascii_alphabetic.true

pub returns-else-is_ascii_alphabetic : goal.returns-else-is_ascii_alphabetic
returns-else-is_ascii_alphabetic c =
    other_starts c.args.char c.is_ascii.result c.is_ascii_alphabetic.result c.is_ascii.ensures c.if-is_ascii.true
    c.is_ascii_alphabetic.ensures.value c.if-is_ascii_alphabetic.false
