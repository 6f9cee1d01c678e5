use Rattle.std.proofs.Common.{◌≡◌, ◌∙◌, ap, sym, arith}
use Rattle.std.specs.Prelude.{◌&&◌}
use Rattle.mbe_semantics.specs.Syntax.Nullable.{is_nullable}
use Rattle.mbe_ops.specs.Views.{op_of, ops_of}
use Rattle.mbe_ops.proofs.OpSizes.{ops_size}
use Rattle.mbe_ops.proofs.OpViews.{view-repeat}
use Rattle.mbe_parser.proofs.empty_repetition.+nullable.Goals as goal

pub op_is_nullable-returns-in-OneOrMore : goal.op_is_nullable-returns-in-OneOrMore
op_is_nullable-returns-in-OneOrMore g t c =
    rw (c.in-Repeat.is, c.in-OneOrMore.is, view-repeat)
    (rw c.deref.ensures.value at c.ops_are_nullable.ensures)

pub ops_are_nullable-ops-preserved : goal.ops_are_nullable-ops-preserved
ops_are_nullable-ops-preserved g t c =
    let others = ops_of c.in-Some.others.now in
    let cut = c.in-Some.ensures.cases.0 in
    let size = ap (λ xs. ops_size (ops_of xs)) cut in
    record {
      same = c.ops.invariant.same ∙ (ap (λ xs. is_nullable (ops_of xs)) cut
          ∙ ap (λ b. b && is_nullable others) (sym c.op_is_nullable.ensures ∙ c.if-not-op_is_nullable.false));
      smaller = omega (arith, size, c.ops.invariant.smaller);
    }
