use Rattle.mbe_log.proofs.CodeLemmas.{order-seen}
use Rattle.mbe_log.proofs.log.BindingLog.keeps_order.Goals as goal

pub returns : goal.returns
returns g c = order-seen c.self.inside.commands.items c.self.inside.rounds.items c.args.self.now c.self.inside.nested
    c.self.view_is c.self.invariant
