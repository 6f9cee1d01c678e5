use Rattle.std.proofs.Common.{◌≡◌, map}
use Rattle.mbe_rewriter.specs.ReplacementViews.{part_of}
use Rattle.mbe_session.specs.SessionViews.{setting_of, state_of}
use Rattle.mbe_session.specs.FileExpansion.{CratesParts}
use Rattle.mbe_session.specs.FileViews.{source_of}
use Rattle.mbe_session.proofs.crate_expander.crates_replacements.Given as goal

abbrev pub invariant-loop-number : goal.invariant-loop-number
invariant-loop-number l =
    CratesParts (setting_of l.initial.expander) 1000 l.with_modules (map source_of l.files)
    (state_of l.initial.expander)
    l.number (map part_of l.parts.items) (state_of l.expander)
    × (setting_of l.expander ≡ setting_of l.initial.expander)
