use Rattle.std.proofs.Common.{sym, arith}
use Rattle.mbe_tt.proofs.Offsets.OffsetLemmas.{depth_at-zero}
use Rattle.mbe_tt.proofs.view.TokenTreesView.cursor.Goals as goal

pub invariant_of-result : goal.invariant_of-result
invariant_of-result g c = record {
  spelled = c.args.self.now.spelled;
  within = omega arith;
  depth_is = sym (depth_at-zero _);
}
