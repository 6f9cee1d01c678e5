-- How many ops there are, at any depth: a measure.
use Rattle.std.specs.Prelude.{ℕ, suc, ◌+◌}
use Rattle.mbe_semantics.specs.Syntax.Op.{Op, Ops, no_ops, op, group, repetition}

abbrev mutual
  pub op_size : Op → ℕ
  op_size (group d body) = suc (ops_size body)
  op_size (repetition body s k) = suc (ops_size body)
  op_size _ = 0

  pub ops_size : Ops → ℕ
  ops_size no_ops = 0
  ops_size (op o os) = suc (op_size o + ops_size os)
