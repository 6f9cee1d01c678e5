-- The entries of a part of a list. Each link is replaced by the entries that it stands for.
use Rattle.std.specs.Prelude.{◌≡◌, ℕ, zero, suc, List, [], ◌∷◌, ◌++◌, map, take, slice_get, Option}
use Rattle.std.specs.Prelude.{Some, None}
use Rattle.mbe_semantics.specs.declared.list_prefix.ListPrefix.{ListPrefix}
use Rattle.mbe_log.specs.Chain.{Chain, link_in, own_in}

-- the list's own entry at the index
abbrev pub own_of : {T : Type 0} → Option (Chain T) → ℕ → Option T
own_of None i = None
own_of (Some l) i = slice_get l.own i

module _ {T : Type 0} (lists : List (Chain T)) where
  -- the entries of a part, where each link is replaced by the entries that it stands for
  pub data Flat : ListPrefix → List T → Type 0 where
    ends : (part : ListPrefix) (l : Chain T) (xs : List T) → slice_get lists part.list ≡ Some l
        → link_in l.link part.first ≡ None →
        xs ≡ take (own_in l.link part.first) l.own → Flat part xs
    continues : (part : ListPrefix) (l : Chain T) (link : ListPrefix) (ys xs : List T)
        → slice_get lists part.list ≡ Some l
        → link_in l.link part.first ≡ Some link →
        Flat link ys → xs ≡ ys ++ take (own_in l.link part.first) l.own → Flat part xs

  -- the entry at a slot: a list, and an index among its own entries
  abbrev pub entry_at : ListPrefix → Option T
  entry_at slot = own_of (slice_get lists slot.list) slot.first

  -- the slots hold the entries of the part
  abbrev pub AreSlots : ListPrefix → List ListPrefix → Type 0
  AreSlots part slots = (xs : List T) × Flat part xs × (map entry_at slots ≡ map Some xs)

-- the slots of the list's first own entries, last first
abbrev pub slots_down : ℕ → ℕ → List ListPrefix
slots_down list zero = []
slots_down list (suc n) = record { list = list; first = n } ∷ slots_down list n
