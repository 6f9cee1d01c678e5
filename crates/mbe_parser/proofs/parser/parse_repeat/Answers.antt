use Rattle.std.proofs.Common.{rules}
use Rattle.mbe_parser.proofs.SuffixLemmas.{so_far_with}
use Rattle.mbe_parser.proofs.parser.parse_repeat.Goals as goal

pub leaves-preserved : goal.leaves-preserved
leaves-preserved g c = record {
  so_far = so_far_with _ _ _ _ _ _ c.leaves.invariant.so_far (search rules) c.next.ensures.rest
      c.in_default-repeat_kind.ensures.goes_on c.in_ok-with_leaf.ensures.separator;
  no_longer = search rules;
}
