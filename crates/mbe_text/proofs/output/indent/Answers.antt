use Rattle.std.proofs.Common.{◌-◌, ◌+◌, codes}
use Rattle.std.proofs.lemmas.Result.{err_from_is_err_and}
use Rattle.mbe_text.specs.TreeDump.{indentation}
use Rattle.mbe_text.proofs.Lines.{indentation-next}
use Rattle.mbe_text.proofs.WriterLemmas.{holds_failed, grows_off, grows_on}
use Rattle.mbe_text.proofs.output.indent.Goals as goal

pub returns-in_err-push : goal.returns-in_err-push
returns-in_err-push g c =
    let p = err_from_is_err_and c.from_residual.result c.from_residual.ensures.1 in
    holds_failed _ _ _ _ _ _ p.1 (grows_off _ _ _ _ _ _ (codes "  ")
    (indentation (c.args.depth - (c.groups._group + 1)))
    c.groups.invariant (indentation-next c.args.depth c.groups._group c.groups-test.true) c.in_err-push.ensures)

pub groups-preserved : goal.groups-preserved
groups-preserved g c =
    grows_on _ _ _ _ _ _ _ (codes "  ") _
    c.groups.invariant (indentation-next c.args.depth c.groups._group c.groups-test.true) c.in_ok-push.ensures
