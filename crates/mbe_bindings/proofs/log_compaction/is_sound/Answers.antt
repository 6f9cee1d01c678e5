use Rattle.std.proofs.Common.{refl, subst}
use Rattle.mbe_bindings.specs.KeptLists.{AreUnmoved}
use Rattle.mbe_bindings.proofs.log_compaction.is_sound.Goals as goal

pub returns : goal.returns
returns g c = λ t. record {
  commands_stay = subst (λ t. AreUnmoved t c.args.commands.now c.args.extent.commands) c.deref.ensures.value
      (c.if-not-are_unmoved.ensures refl);
  rounds_stay = subst (λ t. AreUnmoved t c.args.rounds.now c.args.extent.rounds) c.deref-2.ensures.value
      (c.if-not-are_unmoved-2.ensures refl);
  commands_kept = c.if-not-are_kept.ensures refl;
  rounds_kept = c.are_kept-2.ensures t;
}
