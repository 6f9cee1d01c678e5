-- The first token that can't be added.
use Rattle.std.proofs.Common.{◌≡◌, ◌<◌, ◌≤◌, ◌+◌, ℕ, zero, suc, List, [], ◌∷◌, take, length, slice_index_or, refl, subst, sym, ◌∙◌, add-one}
use Rattle.std.proofs.Common.{inl, inr}
use Rattle.std.proofs.Common.{arith}
use Rattle.mbe_tt.specs.Buffers.GroupStack.{GroupStack}
use Rattle.mbe_program.specs.declared.replies.flat.flat_token.FlatToken.{FlatToken}
use Rattle.mbe_tt.specs.Trees.Tree.{none}
use Rattle.mbe_program.specs.declared.replies.flat.decoder.FlatFault.{FlatFault}
use Rattle.mbe_program.specs.declared.replies.flat.decoder.FlatFault.TheVariants.{Open}
use Rattle.mbe_program.specs.declared.replies.flat.decoder.FlatError.{FlatError}
use Rattle.mbe_program.specs.declared.replies.flat.decoder.FlatError.TheVariants as errors
use Rattle.mbe_program.specs.declared.replies.flat.decoder.Refusal.{Refusal}
use Rattle.mbe_program.specs.declared.replies.flat.decoder.Refusal.TheVariants as refusals
use Rattle.mbe_program.specs.Replies.Flat.Decoder.{Adds, AddAll}
use Rattle.mbe_program.specs.Replies.Flat.TokenFaults.{HasFault, IsFirstFault, IsRefused, AreRefused, AreRefusedInside}
use Rattle.mbe_program.specs.Replies.Flat.TokenFaults.{Grouped, error_at}

-- the token after those that were added has a fault
pub first_fault : (text : List ℕ) (ts : List FlatToken) (n : ℕ) (other : FlatToken) (old middle : GroupStack)
    (f : FlatFault)
    → n < length ts
    → AddAll text (take n ts) old middle → HasFault text (slice_index_or ts n other) middle f
    → IsFirstFault text ts old n f
first_fault text [] n other old middle f l h a = absurd (omega (arith, l))
first_fault text (t ∷ ts) zero other old middle f l h a =
    subst (λ (b : GroupStack). HasFault text t b f) h a
first_fault text (t ∷ ts) (suc n) other old middle f l (between, first, rest) a =
    (between, first, first_fault text ts n other between middle f (omega (arith, l)) rest a)

-- the error for that token
pub refused_inside : (text : List ℕ) (ts : List FlatToken) (n index : ℕ) (other : FlatToken) (old middle : GroupStack)
    (r : Refusal) (e : FlatError)
    → n < length ts → index ≡ n + 1
    → AddAll text (take n ts) old middle → IsRefused text (slice_index_or ts n other) middle r
    → e ≡ error_at index r
    → AreRefusedInside text ts old e
refused_inside text ts n index other old middle r e l i h a same =
    subst (AreRefusedInside text ts old) (sym same) (go r a)
  where
    go : (r : Refusal) → IsRefused text (slice_index_or ts n other) middle r
        → AreRefusedInside text ts old (error_at index r)
    go (refusals.FlatFault f) a = (n, i ∙ add-one n, first_fault text ts n other old middle f l h a)
    go refusals.OutOfMemory a = a

-- inside the group that the tokens are
pub refused_trees : (text : List ℕ) (tokens : List FlatToken) (g : Grouped tokens) (e : FlatError)
    → AreRefusedInside text g.middle ((g.whole, none) ∷ []) e
    → AreRefused text tokens e
refused_trees text tokens g (errors.Fault index f) h = inr (g, inl h)
refused_trees text tokens g errors.OutOfMemory h = h

-- a group is open at the end
pub left_open : (text : List ℕ) (tokens : List FlatToken) (g : Grouped tokens) (groups : GroupStack) (index : ℕ)
    → index ≡ length g.middle + 1
    → AddAll text g.middle ((g.whole, none) ∷ []) groups → 1 < length groups
    → AreRefused text tokens (errors.Fault index Open)
left_open text tokens g groups index i h l = inr (g, inr (refl, i ∙ add-one (length g.middle), (groups, h, l)))
