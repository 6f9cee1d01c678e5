use Rattle.std.proofs.Common.{◌≡◌, ap, sym, rules}
use Rattle.mbe_semantics.specs.Bindings.Account.{Command}
use Rattle.mbe_log.proofs.log.BindingLog.push_missing.Goals as goal

pub returns-clause-ok : goal.returns-clause-ok
returns-clause-ok g c =
    let same : c.in_ok-clone.field-0 ≡ c.args.name.now = search rules in
    c.in_ok-push.ensures.ok (Command.misses c.args.name.now c.args.kind)
    (ap (λ n. Command.misses n c.args.kind) (sym same))
