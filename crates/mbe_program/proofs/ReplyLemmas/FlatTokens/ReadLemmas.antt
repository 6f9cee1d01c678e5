-- One token more.
use Rattle.std.proofs.Common.{◌<◌, ◌≤◌, ◌+◌, ℕ, zero, suc, List, [], ◌∷◌, take, length, slice_index_or, refl, subst}
use Rattle.std.proofs.Common.{arith, add-one}
use Rattle.std.proofs.lemmas.List.{take_all}
use Rattle.mbe_tt.specs.Buffers.GroupStack.{GroupStack}
use Rattle.mbe_program.specs.declared.replies.flat.flat_token.FlatToken.{FlatToken}
use Rattle.mbe_program.specs.Replies.Flat.Decoder.{Adds, AddAll}

-- a token after the others
added_at : (text : List ℕ) (ts : List FlatToken) (n : ℕ) (other : FlatToken) (old middle new : GroupStack)
    → n < length ts
    → AddAll text (take n ts) old middle → Adds text (slice_index_or ts n other) middle new
    → AddAll text (take (suc n) ts) old new
added_at text [] n other old middle new l h a = absurd (omega (arith, l))
added_at text (t ∷ ts) zero other old middle new l h a = (new, subst (λ (b : GroupStack). Adds text t b new) h a, refl)
added_at text (t ∷ ts) (suc n) other old middle new l (between, first, rest) a =
    (between, first, added_at text ts n other between middle new (omega (arith, l)) rest a)

pub one_more : (text : List ℕ) (ts : List FlatToken) (n : ℕ) (other : FlatToken) (old middle new : GroupStack)
    → n < length ts
    → AddAll text (take n ts) old middle → Adds text (slice_index_or ts n other) middle new
    → AddAll text (take (n + 1) ts) old new
one_more text ts n other old middle new l h a = rw add-one (added_at text ts n other old middle new l h a)

-- those of all tokens
pub all_added : (text : List ℕ) (ts : List FlatToken) (n : ℕ) (old new : GroupStack) → length ts ≤ n
    → AddAll text (take n ts) old new → AddAll text ts old new
all_added text ts n old new l h = subst (λ (xs : List FlatToken). AddAll text xs old new) (take_all n ts l) h
