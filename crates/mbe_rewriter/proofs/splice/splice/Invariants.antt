use Rattle.std.proofs.Common.{◌≡◌, ℕ, List, ◌++◌, map, drop}
use Rattle.std.specs.Str.{IsCharBoundary}
use Rattle.std.specs.String.{string_bytes}
use Rattle.mbe_rewriter.specs.Splice.{SplicedPart, spliced_from, spliced}
use Rattle.mbe_rewriter.specs.ReplacementViews.{part_of}
use Rattle.mbe_rewriter.proofs.splice.splice.Given as goal

-- what is done, and what is still to be done
pub record Halfway (text done : List ℕ) (copied : ℕ) (left all : List SplicedPart) : Type 0 where
  pub whole : done ++ spliced_from text copied left ≡ spliced text all
  pub cut : IsCharBoundary text copied

abbrev pub invariant-loop-replacement : goal.invariant-loop-replacement
invariant-loop-replacement g l =
    Halfway l.text (string_bytes l.spliced) l.copied (map part_of (drop l.replacement-index l.replacements))
    (map part_of l.fn.replacements)
