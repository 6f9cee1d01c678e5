use Rattle.mbe.proofs.StyleLemmas.{style_bits}
use Rattle.mbe.proofs.laws.style_bits.Goals as goal

pub returns : goal.returns
returns c = style_bits
