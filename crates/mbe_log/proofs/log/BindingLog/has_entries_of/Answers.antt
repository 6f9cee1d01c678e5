use Rattle.std.proofs.Common.{subst, sym}
use Rattle.mbe_log.proofs.CodeLemmas.{current_within, finished_within, has-entries}
use Rattle.mbe_log.proofs.log.BindingLog.has_entries_of.Goals as goal
use Rattle.mbe_log.specs.Chain.{IsWithin}

pub returns-then-is_within : goal.returns-then-is_within
returns-then-is_within g c =
    let first : IsWithin c.self.inside.commands.items c.handle.inside.current =
    subst (λ D. IsWithin D c.handle.inside.current) c.deref.ensures.value
    (c.is_within.ensures.0 (c.if-is_within.true)) in (
      λ t. has-entries c.self.inside.commands.items c.self.inside.rounds.items c.args.self.now c.self.view_is
          c.handle.inside.current c.handle.inside.finished c.args.handle.now c.handle.view_is first
          (subst (λ S. IsWithin S c.handle.inside.finished) c.deref-then-is_within.ensures.value
          (c.is_within-then-is_within.ensures.0 t)),
      λ l. c.is_within-then-is_within.ensures.1
          (subst (λ S. IsWithin S c.handle.inside.finished) (sym c.deref-then-is_within.ensures.value)
          (finished_within c.self.inside.commands.items c.self.inside.rounds.items c.args.self.now c.self.view_is
          c.handle.inside.current c.handle.inside.finished c.args.handle.now c.handle.view_is l)),
    )

pub returns-else-is_within : goal.returns-else-is_within
returns-else-is_within g c = (
  λ t. absurd (let f = c.if-is_within.false in let e : ⊥ = cc in e),
  λ l. c.is_within.ensures.1 (subst (λ D. IsWithin D c.handle.inside.current) (sym c.deref.ensures.value)
      (current_within c.self.inside.commands.items c.self.inside.rounds.items c.args.self.now c.self.view_is
      c.handle.inside.current c.handle.inside.finished c.args.handle.now c.handle.view_is l)),
)
