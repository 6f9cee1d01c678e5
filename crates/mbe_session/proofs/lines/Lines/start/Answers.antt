use Rattle.std.proofs.Common.{arith, ◌-◌}
use Rattle.mbe_session.proofs.PlaceLemmas.{feed_short}
use Rattle.mbe_session.proofs.lines.Lines.start.Goals as goal

pub overflow_add-result : goal.overflow_add-result
overflow_add-result g c =
    omega (
      arith,
      c.index.ensures,
      c.in_default,
      feed_short _ _ (c.args.before - 1) c.index.result.now c.args.self.now.table (omega (
        arith,
        c.requires,
        c.in_default,
      )),
      c.args.self.now.text.bytes.small,
      c.args.self.now.text.bytes.ok,
    )
