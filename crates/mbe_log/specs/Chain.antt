-- Lists that share a prefix: a list may begin with the first entries of another.
use Rattle.std.specs.Prelude.{◌≡◌, ◌<◌, ◌≤◌, ◌⊎◌, ◌+◌, ◌-◌, ℕ, zero, suc, List, [], ◌∷◌, ◌++◌}
use Rattle.std.specs.Prelude.{length, slice_get, Option, Some, None, refl}
use Rattle.std.proofs.Common.{set}
use Rattle.std.specs.Coded.{Coded, code_by, coded_ℕ, coded×, coded_list, coded_option}
use Rattle.mbe_semantics.specs.declared.list_prefix.ListPrefix.{ListPrefix}

-- a link, if there is one, and the list's own entries
pub record Chain (T : Type 0) : Type 0 where
  pub link : Option ListPrefix
  pub own : List T

-- the first entry and those after it; without a first entry there are none
abbrev pub own_entries : {T : Type 0} → Option T → List T → List T
own_entries None more = []
own_entries (Some x) more = x ∷ more

-- only a first entry has more after it
abbrev pub AreAfter : {T : Type 0} → Option T → List T → Type 0
AreAfter None more = more ≡ []
AreAfter (Some x) more = Unit {0}

abbrev pub part_code : Coded ListPrefix
part_code =
    code_by (ℕ × ℕ) (coded× coded_ℕ coded_ℕ) (λ p. (p.list, p.first))
    (λ p. record { list = p.0; first = p.1 })
    (λ _. refl)

abbrev pub chain_code : {T : Type 0} → Coded T → Coded (Chain T)
chain_code {T} c =
    code_by (Option ListPrefix × List T) (coded× (coded_option part_code) (coded_list c))
    (λ l. (l.link, l.own))
    (λ p. record { link = p.0; own = p.1 }) (λ _. refl)

-- a link counts as one entry
abbrev pub link_len : Option ListPrefix → ℕ
link_len None = 0
link_len (Some p) = 1

abbrev pub chain_len : {T : Type 0} → Chain T → ℕ
chain_len l = link_len l.link + length l.own

-- the link, if it is among the first n entries
abbrev pub link_in : Option ListPrefix → ℕ → Option ListPrefix
link_in None n = None
link_in (Some p) zero = None
link_in (Some p) (suc n) = Some p

-- how many of the first n entries are the list's own
abbrev pub own_in : Option ListPrefix → ℕ → ℕ
own_in None n = n
own_in (Some p) n = n - 1

-- The link that stands for a part of a list in another list: the part, or the part's own link if it
-- has no own entry.
abbrev pub link_or : ListPrefix → ℕ → Option ListPrefix → Option ListPrefix
link_or part zero link = link
link_or part (suc n) link = Some part

abbrev pub link_to : {T : Type 0} → ListPrefix → Chain T → Option ListPrefix
link_to part l = link_or part (own_in l.link part.first) (link_in l.link part.first)

abbrev pub longer : {T : Type 0} → Chain T → T → Chain T
longer l x = record l { own = l.own ++ x ∷ [] }

-- a new list that continues a part of another list
abbrev pub forked : {T : Type 0} → ListPrefix → Chain T → T → Chain T
forked part l x = record { link = link_to part l; own = x ∷ [] }

-- the lists, and a new one that has only this link
abbrev pub with_link : {T : Type 0} → List (Chain T) → Option ListPrefix → List (Chain T)
with_link lists link = lists ++ record { link = link; own = [] } ∷ []

-- all of that new list
abbrev pub last_part : {T : Type 0} → List (Chain T) → Option ListPrefix → ListPrefix
last_part lists link = record { list = length lists; first = link_len link }

module _ {T : Type 0} (lists : List (Chain T)) where
  -- the list exists and has that many entries
  abbrev pub IsWithin : ListPrefix → Type 0
  IsWithin part = (l : Chain T) × (slice_get lists part.list ≡ Some l) × (part.first ≤ chain_len l)

  -- each link stands for first entries of an earlier list
  abbrev pub IsChained : Type 0
  IsChained = (i : ℕ) (l : Chain T) (link : ListPrefix) → slice_get lists i ≡ Some l → l.link
      ≡ Some link
      → (link.list < i) × IsWithin link

  -- A part gets one entry more: in the same list if the part ends where the list ends, else in a
  -- new list.
  abbrev pub IsExtended : List (Chain T) → ListPrefix → ListPrefix → T → Type 0
  IsExtended new part next x =
      (l : Chain T) × (slice_get lists part.list ≡ Some l)
      × (((part.first ≡ chain_len l) × (new ≡ set lists part.list (longer l x))
      × (next ≡ record { list = part.list; first = chain_len (longer l x) }))
      ⊎ ((part.first < chain_len l) × (new ≡ lists ++ forked part l x ∷ [])
      × (next ≡ record { list = length lists; first = chain_len (forked part l x) })))
