use Rattle.std.proofs.Common.{◌≡◌, length, map, take}
use Rattle.mbe_session.specs.FileViews.{source_of, text_of}
use Rattle.mbe_session.specs.OptionViews.{conditions_of, own_of}
use Rattle.mbe_session.specs.CrateSettings.{AreFileSettings}
use Rattle.mbe_session.specs.Sources.{AreSources, source_text}
use Rattle.mbe_session.proofs.session.sources.Given as goal

abbrev pub invariant-loop-number : goal.invariant-loop-number
invariant-loop-number l =
    (map (λ f. source_text (source_of f)) l.files.items ≡ map text_of (take l.number l.texts))
    × AreSources (AreFileSettings l.grammar l.options.edition (conditions_of l.options) (own_of l.options l.roots))
    (map source_of l.files.items)
    × (length l.files.items ≡ l.number)
