use Rattle.std.proofs.Common.{◌-◌, map}
use Rattle.mbe_rewriter.specs.Hygiene.EventViews.{word_of, naming_of}
use Rattle.mbe_rewriter.specs.Hygiene.LocalNames as spec
use Rattle.mbe_rewriter.proofs.Renaming.FreshLemmas.{Trying}
use Rattle.mbe_rewriter.proofs.hygiene.new_names.fresh.Given as goal

abbrev pub invariant-numbers : goal.invariant-numbers
invariant-numbers g l =
    Trying (spec.is_taken (map word_of l.words) l.names (map naming_of l.given)) l.text l.number
    (spec.fresh (map word_of l.words) l.names (map naming_of l.given) l.text)

abbrev pub decreases-numbers : goal.decreases-numbers
decreases-numbers g l = 18446744073709551615 - l.number
