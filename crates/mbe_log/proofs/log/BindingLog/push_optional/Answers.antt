use Rattle.std.proofs.Common.{◌≡◌, ap, sym, rules}
use Rattle.mbe_semantics.specs.Bindings.Account.{Command}
use Rattle.mbe_log.proofs.log.BindingLog.push_optional.Goals as goal

pub returns-clause-ok : goal.returns-clause-ok
returns-clause-ok g c =
    let same : c.in_ok-clone.field-0 ≡ c.args.name.now = search rules in
    c.in_ok-push.ensures.ok (Command.binds_nothing c.args.name.now) (ap (λ n. Command.binds_nothing n) (sym same))
