use Rattle.std.proofs.Common.{◌≡◌, None, IsOk, IsErr, rules}
use Rattle.mbe_tt.specs.Trees.Top.{top_group}
use Rattle.mbe_ops.specs.Errors.ErrorViews.{errors_of}
use Rattle.mbe_program.specs.ExpansionText.{head}
use Rattle.mbe_program.proofs.OutcomeLemmas.{printed_all, printed_some}
use Rattle.mbe_program.proofs.program.run_expand.Goals as goal

pub returns-then-is_err-clause-ended : goal.returns-then-is_err-clause-ended
returns-then-is_err-clause-ended g c =
    let r = c.in-Ok.expansion in
    let text : c.as_str.result.now ≡ head (errors_of r.err) r.value.1 = search rules in
    let failed : IsErr c.print_expansion.result = search rules in
    let some = printed_some _ _ c.print_expansion.result c.as_str.result.now (top_group r.value.0) r.value.1
    (errors_of r.err) text failed
    c.print_expansion.ensures in
    (top_group r.value.0, r.value.1, errors_of r.err, some.0, c.in-Ok.ensures.expands, some.1)

pub returns-clause-ended : goal.returns-clause-ended
returns-clause-ended g c =
    let r = c.in-Ok.expansion in
    let text : c.as_str.result.now ≡ head None r.value.1 = search rules in
    let done : IsOk c.print_expansion.result = search rules in (
      top_group r.value.0,
      r.value.1,
      search rules,
      printed_all _ _ c.print_expansion.result c.as_str.result.now (top_group r.value.0) r.value.1 None text done
          c.print_expansion.ensures,
    )
