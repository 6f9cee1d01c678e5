-- Buckets of words, by their contexts and by their last bytes.
use Rattle.std.specs.Prelude.{◌≡◌, ℕ, zero, suc, ◌-◌, ◌%◌, Bool, ◌==◌, ◌&&◌, ◌||◌, nat_le, length}
use Rattle.std.specs.Prelude.{get_or, if◌then◌else◌, List, [], ◌∷◌, ◌++◌, Some, map}
use Rattle.std.specs.List.{slice_get}
use Rattle.std.specs.declared.vec.Vec.{Vec}
use Rattle.mbe_rewriter.specs.declared.hygiene.local_names.Word as code_word
use Rattle.mbe_rewriter.specs.Hygiene.LocalNames.{Word, context, is_edge}
use Rattle.mbe_rewriter.specs.Hygiene.EventViews.{word_of}

-- ---- by contexts

-- The number of a context's bucket.
abbrev pub bucket_of : ℕ → ℕ
bucket_of c = c % 64

-- A word of one of the bucket's contexts, or a point where a value, an arm or a group begins or
-- ends.
abbrev pub is_in_bucket : ℕ → Word → Bool
is_in_bucket n w = bucket_of (context w) == n || is_edge w.role

abbrev pub bucket_word : ℕ → Word → List Word
bucket_word n w = if is_in_bucket n w then w ∷ [] else []

-- The bucket of that number.
abbrev pub bucket : ℕ → List Word → List Word
bucket n [] = []
bucket n (w ∷ ws) = bucket_word n w ++ bucket n ws

-- The first buckets, as many as the number says.
abbrev pub buckets : List Word → ℕ → List (List Word)
buckets ws zero = []
buckets ws (suc n) = buckets ws n ++ (bucket n ws ∷ [])

-- Each of these is the bucket of its number.
abbrev pub AreBuckets : List Word → List (List Word) → Type 0
AreBuckets ws ls = (n : ℕ) (l : List Word) → slice_get ls n ≡ Some l → l ≡ bucket n ws

-- The meaning of the program's buckets.
abbrev pub buckets_of : {A : Type 0} → List (Vec code_word.Word A) → List (List Word)
buckets_of vs = map (λ v. map word_of v.items) vs

-- ---- by their last byte

abbrev pub is_digit : ℕ → Bool
is_digit b = nat_le 48 b && nat_le b 57

abbrev pub ends_in_digit : List ℕ → Bool
ends_in_digit text = is_digit (get_or text (length text - 1) 0)

abbrev pub numbered_word : Word → List Word
numbered_word w = if ends_in_digit w.text then w ∷ [] else []

-- The words that may be names such as `a_1`.
abbrev pub numbered_words : List Word → List Word
numbered_words [] = []
numbered_words (w ∷ ws) = numbered_word w ++ numbered_words ws
