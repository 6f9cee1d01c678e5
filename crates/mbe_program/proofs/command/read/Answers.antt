use Rattle.std.proofs.Common.{ℕ, List, subst}
use Rattle.std.specs.IoError.{error_kind}
use Rattle.mbe_program.specs.FileFailures.{IsUnread}
use Rattle.mbe_program.proofs.command.read.Goals as goal

pub returns-in-Err-clause-named : goal.returns-in-Err-clause-named
returns-in-Err-clause-named g c =
    let kind = error_kind c.in-Err.error in (
      kind,
      subst (λ (file : List ℕ). IsUnread kind file c.read_failure.result) c.name_of-name.ensures
          c.read_failure.ensures,
    )
