use Rattle.std.proofs.Common.{◌≡◌, map}
use Rattle.mbe_session.specs.SessionViews.{setting_of, state_of}
use Rattle.mbe_session.specs.FileExpansion.{DefinesCrates}
use Rattle.mbe_session.specs.FileViews.{source_of}
use Rattle.mbe_session.proofs.crate_expander.define_crates.Given as goal

abbrev pub invariant-loop-number : goal.invariant-loop-number
invariant-loop-number l =
    DefinesCrates (setting_of l.initial.expander).language 1001 l.with_modules (map source_of l.files)
    (state_of l.initial.expander).scope l.number (state_of l.expander).scope
    × ((state_of l.expander).fuel ≡ (state_of l.initial.expander).fuel)
    × ((state_of l.expander).contexts ≡ (state_of l.initial.expander).contexts)
    × (setting_of l.expander ≡ setting_of l.initial.expander)
