use Rattle.std.proofs.Common.{ap, map, ◌∙◌}
use Rattle.mbe_cfg.specs.Crates.CrateViews.{insertion_shown}
use Rattle.mbe_cfg.specs.Crates.ExpansionModules.{with_insertions}
use Rattle.mbe_session.proofs.call_modules.with_modules.Goals as goal

pub returns : goal.returns
returns c = (
  map insertion_shown c.in_ok-insertions.insertions.items,
  c.in_ok-insertions.ensures,
  c.in_ok-whole.ensures
      ∙ ap (λ is. with_insertions (map insertion_shown is) c.args.tree.now) c.as_slice.ensures.value,
)
