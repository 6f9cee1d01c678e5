use Rattle.mbe_tt.proofs.inline_str.InlineStr.as_str.Goals as goal
use Rattle.std.proofs.lemmas.Str.{IsUtf8-had}

pub from_utf8_unchecked-requires : goal.from_utf8_unchecked-requires
from_utf8_unchecked-requires c = IsUtf8-had _ c.self.invariant.1
