use Rattle.mbe_text.proofs.CharacterLemmas.{letter_continues, other_continues}
use Rattle.mbe_text.proofs.characters.is_continue.Goals as goal

pub returns-then-is_ascii_alphanumeric : goal.returns-then-is_ascii_alphanumeric
returns-then-is_ascii_alphanumeric c =
    letter_continues c.args.char c.is_ascii.result c.is_ascii_alphanumeric.result c.is_ascii.ensures c.if-is_ascii.true
    c.is_ascii_alphanumeric.ensures.value c.if-is_ascii_alphanumeric.true

pub returns-else-is_ascii_alphanumeric : goal.returns-else-is_ascii_alphanumeric
returns-else-is_ascii_alphanumeric c =
    other_continues c.args.char c.is_ascii.result c.is_ascii_alphanumeric.result c.is_ascii.ensures c.if-is_ascii.true
    c.is_ascii_alphanumeric.ensures.value c.if-is_ascii_alphanumeric.false
