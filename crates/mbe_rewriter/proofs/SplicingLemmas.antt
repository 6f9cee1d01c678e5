-- One replacement more.
use Rattle.std.proofs.Common.{◌≡◌, ℕ, suc, ◌+◌, ◌<◌, true, false, List, ◌∷◌, ◌++◌, map, drop, length, get_or, refl, ap}
use Rattle.std.proofs.Common.{sym, ◌∙◌, append_assoc, drop-cons, add-one}
use Rattle.std.specs.Prelude.{slice_range}
use Rattle.mbe_rewriter.specs.ReplacementViews.{part_of}
use Rattle.mbe_rewriter.specs.declared.splice.Replacement.{Replacement}
use Rattle.mbe_rewriter.specs.Splice.{SplicedPart, can_replace, spliced_from, Adds}

-- a replacement that is made
pub adds_part : (text done more : List ℕ) (part : SplicedPart) (at : ℕ) → can_replace text at part ≡ true
    → more ≡ (done ++ slice_range text at part.start) ++ part.text → Adds text part at done part.end more
unfolding Adds
adds_part text done more part at h e parts = rw e (rw h (simp append_assoc))

-- one that isn't
pub adds_nothing : (text done : List ℕ) (part : SplicedPart) (at : ℕ) → can_replace text at part ≡ false
    → Adds text part at done at done
unfolding Adds
adds_nothing text done part at h parts = rw h refl

-- all that is to be done, one part on
pub adds_on : (text done more whole : List ℕ) (part : SplicedPart) (at next : ℕ) (parts : List SplicedPart)
    → Adds text part at done next more → done ++ spliced_from text at (part ∷ parts) ≡ whole
    → more ++ spliced_from text next parts ≡ whole
unfolding Adds
adds_on text done more whole part at next parts a h = a parts ∙ h

-- the parts that are left, the next one first
pub next_part : {A : Type 0} (rs : List (Replacement A)) (i : ℕ) (r : Replacement A) → i < length rs → r ≡ get_or rs i r
    → map part_of (drop i rs) ≡ part_of r ∷ map part_of (drop (i + 1) rs)
next_part rs i r h e =
    ap (map part_of) (drop-cons rs i r h)
    ∙ (ap (λ x. part_of x ∷ map part_of (drop (suc i) rs)) (sym e)
    ∙ ap (λ k. part_of r ∷ map part_of (drop k rs)) (sym (add-one i)))

-- the same, where the replacements are read from memory
pub adds_next : {A : Type 0} (text done more whole : List ℕ) (rs : List (Replacement A)) (i at next : ℕ)
    (r : Replacement A)
    → i < length rs → r ≡ get_or rs i r → Adds text (part_of r) at done next more
    → done ++ spliced_from text at (map part_of (drop i rs)) ≡ whole
    → more ++ spliced_from text next (map part_of (drop (i + 1) rs)) ≡ whole
adds_next text done more whole rs i at next r h e a w =
    adds_on text done more whole (part_of r) at next (map part_of (drop (i + 1) rs)) a
    (ap (λ ps. done ++ spliced_from text at ps) (sym (next_part rs i r h e)) ∙ w)
