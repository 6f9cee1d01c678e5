use Rattle.std.proofs.Common.{refl}
use Rattle.mbe_ops.specs.Views.{separator_seen}
use Rattle.mbe_tt.specs.Views.LeafViews.{literal_of}
use Rattle.mbe_parser.proofs.SuffixLemmas.{literal_alone}
use Rattle.mbe_parser.proofs.parser.with_leaf.Goals as goal

pub returns-in-Some-clause-fault : goal.returns-in-Some-clause-fault
returns-in-Some-clause-fault g c =
    rw (c.in-Literal.is, c.in-Some.is) (
      refl,
      literal_alone (separator_seen c.in-Some._whole) (literal_of c.in-Literal.literal),
    )
