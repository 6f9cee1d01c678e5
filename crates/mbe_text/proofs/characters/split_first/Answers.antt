use Rattle.std.proofs.Common.{rules}
use Rattle.std.proofs.lemmas.Str.{chars_past_char}
use Rattle.mbe_text.proofs.CharacterLemmas.{shorter, is_rest}
use Rattle.mbe_text.proofs.characters.split_first.Goals as goal

pub returns-clause-chars : goal.returns-clause-chars
returns-clause-chars c =
    chars_past_char c.args.text.now c.as_str.result.now c.in_ok-char.char c.utf8.text (search rules)

pub returns-clause-shorter : goal.returns-clause-shorter
returns-clause-shorter c = shorter c.args.text.now c.as_str.result.now c.in_ok-char.char (search rules)

pub returns-clause-end : goal.returns-clause-end
returns-clause-end c = is_rest c.args.text.now c.as_str.result.now c.in_ok-char.char (search rules)
