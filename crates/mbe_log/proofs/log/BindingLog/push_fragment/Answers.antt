use Rattle.std.proofs.Common.{◌≡◌, ap, sym, rules}
use Rattle.mbe_semantics.specs.Bindings.Account.{Command}
use Rattle.mbe_log.proofs.log.BindingLog.push_fragment.Goals as goal
use Rattle.mbe_log.specs.FragmentViews.{fragment_seen}

pub returns-clause-ok : goal.returns-clause-ok
returns-clause-ok g c =
    let same : c.in_ok-clone.field-0 ≡ c.args.name.now = search rules in
    c.in_ok-push.ensures.ok (Command.binds c.args.name.now (fragment_seen c.args.fragment))
    (ap (λ n. Command.binds n (fragment_seen c.args.fragment)) (sym same))
