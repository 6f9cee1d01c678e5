-- What a compacted log keeps.
use Rattle.std.specs.Prelude.{◌≡◌, ◌≤◌, ◌<◌, ◌+◌, ◌-◌, ℕ, zero, suc, List, [], ◌∷◌, ◌++◌, length, map, take, slice_get}
use Rattle.std.specs.Prelude.{Option, Some, None, option_map, refl}
use Rattle.std.proofs.Common.{arith, sym, ap, subst, ◌∙◌}
use Rattle.std.proofs.lemmas.List.{length-take-le, take-map, take_all}
use Rattle.mbe_semantics.specs.declared.list_prefix.ListPrefix.{ListPrefix}
use Rattle.mbe_semantics.specs.Bindings.Account.{Commands, CommandRounds, no_commands, no_command_rounds, Entry}
use Rattle.mbe_semantics.specs.Bindings.Account.{RoundEntry, Log, Handle, Order, IsIn, HasEntriesOf, IsLive, Gives}
use Rattle.mbe_semantics.specs.Bindings.Account.{GivesRounds, PartGives, PartGivesRounds, gives_nothing, gives_binding}
use Rattle.mbe_semantics.specs.Bindings.Account.{gives_empty, gives_skip, gives_missing, gives_nested, gives_link}
use Rattle.mbe_semantics.specs.Bindings.Account.{gives_no_rounds, gives_round, gives_linked_rounds, part_gives}
use Rattle.mbe_semantics.specs.Bindings.Account.{part_gives_rounds, IsBelow, AreRoundsBelow, NamesLower}
use Rattle.mbe_semantics.specs.Bindings.Account.{RoundNamesLower, IsOrdered}
use Rattle.mbe_log.specs.declared.log.Command as code
use Rattle.mbe_log.specs.Chain.{Chain, IsChained, IsWithin, chain_len, link_len, link_in, own_in}
use Rattle.mbe_log.specs.LogEntries.{commands_seen, rounds_seen, first_link, first_round_link, entry_seen, log_of}
use Rattle.mbe_log.specs.Accounts.{Every}
use Rattle.mbe_log.specs.HandleChanges.{KeepsHandles}
use Rattle.mbe_log.specs.Sound.{depth, rounds_depth, IsGrounded, IsSound}
use Rattle.mbe_bindings.specs.LogCompaction.{Table, moved, number_in, IsKeptIn, IsMoved, Maps, HasAtMost}
use Rattle.mbe_bindings.specs.KeptLists.{moved_entry, moved_round, RefersToKept, RoundRefersToKept, moved_command}
use Rattle.mbe_bindings.specs.KeptLists.{CommandRefersToKept, cut_list, IsCutKept, kept_lists, AreCutKept, IsNumbered}
use Rattle.mbe_bindings.specs.KeptLists.{AreUnmoved, IsSoundCompaction}
use Rattle.mbe_log.specs.declared.log.LogSize.{LogSize}
use Rattle.mbe_bindings.specs.declared.log_compaction.HandleMap.{HandleMap}
use Rattle.mbe_log.proofs.ChainLemmas.{in_range, link_some}
use Rattle.mbe_log.proofs.SeenLemmas.{get-map, map-get, take-none, commands_len, rounds_len}
use Rattle.mbe_log.proofs.CallLemmas.{grounded-part, grounded-rounds-part}
use Rattle.mbe_log.proofs.ClientLemmas.{lists_there, has_entries}

-- ---- tables

-- where the list of that new number was
abbrev origin : Table → ℕ → ℕ
origin [] m = 0
origin (None ∷ t) m = suc (origin t m)
origin (Some k ∷ t) zero = 0
origin (Some k ∷ t) (suc m) = suc (origin t m)

abbrev IsAt : {T : Type 0} → Table → (T → T) → Table → List (Chain T) → ℕ → ℕ → ListPrefix → Chain T → Type 0
IsAt all f t ls n i k l =
    (m : ℕ) × (k.list ≡ n + m) × (slice_get (kept_lists all f t ls) m ≡ Some (cut_list all f k.first l))
    × (origin t m ≡ i)

-- where a list that is kept is found
kept_at : {T : Type 0} (all : Table) (f : T
    → T) (t : Table) (ls : List (Chain T)) (n i : ℕ) (k : ListPrefix) (l : Chain T)
    → IsNumbered n t → slice_get t i ≡ Some (Some k) → slice_get ls i ≡ Some l → IsAt all f t ls n i k l
kept_at all f [] ls n i k l w s e = absurd (let z : ⊥ = cc in z)
kept_at all f (o ∷ t) [] n i k l w s e = absurd (let z : ⊥ = cc in z)
kept_at all f (None ∷ t) (x ∷ ls) n zero k l w s e = absurd (let z : ⊥ = cc in z)
kept_at all f (None ∷ t) (x ∷ ls) n (suc i) k l w s e =
    let a = kept_at all f t ls n i k l w s e in (a.0, a.1, a.2, ap suc a.3)
kept_at all f (Some q ∷ t) (x ∷ ls) n zero k l w s e =
    let p : q ≡ k = cc in
    let y : x ≡ l = cc in (
      0,
      (let u = w.0 in let v = ap (λ (z : ListPrefix). z.list) p in omega (arith, u, v)),
      ap (λ z. Some (cut_list all f z.first x)) p ∙ ap (λ z. Some (cut_list all f k.first z)) y,
      refl,
    )
kept_at all f (Some q ∷ t) (x ∷ ls) n (suc i) k l w s e =
    let a = kept_at all f t ls (suc n) i k l w.1 s e in
    (suc a.0, (let u = a.1 in omega (arith, u)), a.2, ap suc a.3)

abbrev ComesFrom : {T : Type 0} → Table → (T → T) → Table → List (Chain T) → ℕ → ℕ → Chain T → Type 0
ComesFrom {T} all f t ls n m new =
    (k : ListPrefix) × (l : Chain T) × (slice_get t (origin t m) ≡ Some (Some k)) × (slice_get ls (origin t m) ≡ Some l)
    × (k.list ≡ n + m) × (new ≡ cut_list all f k.first l)

-- what a new list was
comes_from : {T : Type 0} (all : Table) (f : T → T) (t : Table) (ls : List (Chain T)) (n m : ℕ) (new : Chain T)
    → IsNumbered n t → slice_get (kept_lists all f t ls) m ≡ Some new → ComesFrom all f t ls n m new
comes_from all f [] ls n m new w s = absurd (let z : ⊥ = cc in z)
comes_from all f (o ∷ t) [] n m new w s = absurd (none_there o)
  where
    none_there : (o : Option ListPrefix) → ⊥
    none_there o = cc
comes_from all f (None ∷ t) (x ∷ ls) n m new w s = comes_from all f t ls n m new w s
comes_from all f (Some k ∷ t) (x ∷ ls) n zero new w s =
    (k, x, refl, refl, (let u = w.0 in omega (arith, u)), (let e : new ≡ cut_list all f k.first x = cc in e))
comes_from all f (Some k ∷ t) (x ∷ ls) n (suc m) new w s =
    let a = comes_from all f t ls (suc n) m new w.1 s in
    (a.0, a.1, a.2, a.3, (let u = a.4 in omega (arith, u)), a.5)

no_less : (t : Table) (n i : ℕ) (k : ListPrefix) → IsNumbered n t → slice_get t i ≡ Some (Some k) → n ≤ k.list
no_less [] n i k w s = absurd (let z : ⊥ = cc in z)
no_less (None ∷ t) n zero k w s = absurd (let z : ⊥ = cc in z)
no_less (None ∷ t) n (suc i) k w s = no_less t n i k w s
no_less (Some q ∷ t) n zero k w s =
    let p : q ≡ k = cc in let u = w.0 in let v = ap (λ (z : ListPrefix). z.list) p in omega (arith, u, v)
no_less (Some q ∷ t) n (suc i) k w s = let u = no_less t (suc n) i k w.1 s in omega (arith, u)

-- the order stays
rises : (t : Table) (n i j : ℕ) (k q : ListPrefix) → IsNumbered n t → slice_get t i ≡ Some (Some k)
    → slice_get t j ≡ Some (Some q) → i < j → k.list < q.list
rises [] n i j k q w s e h = absurd (let z : ⊥ = cc in z)
rises (o ∷ t) n i zero k q w s e h = absurd (omega (arith, h))
rises (None ∷ t) n zero (suc j) k q w s e h = absurd (let z : ⊥ = cc in z)
rises (None ∷ t) n (suc i) (suc j) k q w s e h = rises t n i j k q w s e (omega (arith, h))
rises (Some p ∷ t) n zero (suc j) k q w s e h =
    let a : p ≡ k = cc in
    let u = w.0 in let v = ap (λ (z : ListPrefix). z.list) a in let x =
    no_less t (suc n) j q w.1 e in omega (arith, u, v, x)
rises (Some p ∷ t) n (suc i) (suc j) k q w s e h = rises t (suc n) i j k q w.1 s e (omega (arith, h))

-- the new number of a list that is kept
number_of : (table : Table) (p : ListPrefix) (k : ListPrefix) → slice_get table p.list ≡ Some (Some k)
    → (moved table p).list
    ≡ k.list
number_of table p k s = ap number_in s

-- ---- a list's first entries

take-fewer : {X : Type 0} (n m : ℕ) (xs : List X) → n ≤ m → take n (take m xs) ≡ take n xs
take-fewer zero m xs h = take-none (take m xs) ∙ sym (take-none xs)
take-fewer (suc n) zero xs h = absurd (omega (arith, h))
take-fewer (suc n) (suc m) [] h = refl
take-fewer (suc n) (suc m) (x ∷ xs) h = ap (λ t. x ∷ t) (take-fewer n m xs (omega (arith, h)))

cut_len : {T : Type 0} (table : Table) (f : T → T) (first : ℕ) (l : Chain T) → first ≤ chain_len l
    → chain_len (cut_list table f first l) ≡ first
cut_len {T} table f first l h = go l.link l.own first h
  where
    lens : (xs : List T) → length (map f xs) ≡ length xs
    lens [] = refl
    lens (x ∷ xs) = ap suc (lens xs)

    go : (k : Option ListPrefix) (own : List T) (first : ℕ) → first ≤ link_len k + length own
        → link_len (option_map (moved table) (link_in k first)) + length (map f (take (own_in k first) own)) ≡ first
    go None own first h =
        let a = lens (take first own) ∙ length-take-le first own (omega (arith, h)) in
        omega (arith, a)
    go (Some p) own zero h =
        let a = lens (take 0 own) ∙ length-take-le 0 own (omega arith) in
        omega (arith, a)
    go (Some p) own (suc n) h =
        let m : suc n - 1 ≡ n = omega arith in
        let a = lens (take (suc n - 1) own) ∙ ap (λ j. length (take j own)) m
        ∙ length-take-le n own (omega (arith, h)) in
        omega (arith, a)

module _ (c r : Table) where
  module _ {A : Type 0} where
    seen-moved : (x : code.Command A) → entry_seen (moved_command c r x) ≡ moved_entry c r (entry_seen x)
    seen-moved (code.TheVariants.Fragment name x) = refl
    seen-moved (code.TheVariants.Optional name) = refl
    seen-moved (code.TheVariants.Empty name) = refl
    seen-moved (code.TheVariants.Missing name kind) = refl
    seen-moved (code.TheVariants.Nested finished current) = refl

    fused : (xs : List (code.Command A)) → map entry_seen (map (moved_command c r) xs)
        ≡ map (moved_entry c r) (map entry_seen xs)
    fused [] = refl
    fused (x ∷ xs) = ap (λ y. y ∷ map entry_seen (map (moved_command c r) xs)) (seen-moved x)
        ∙ ap (λ t. moved_entry c r (entry_seen x) ∷ t) (fused xs)

    pub cut_seen : (first : ℕ) (l : Chain (code.Command A))
        → commands_seen (cut_list c (moved_command c r) first l) ≡ map (moved_entry c r) (take first (commands_seen l))
    cut_seen first l = go l.link l.own first
      where
        go : (k : Option ListPrefix) (own : List (code.Command A)) (first : ℕ)
            → first_link (option_map (moved c) (link_in k first)) ++ map entry_seen (map (moved_command c r) (take
            (own_in k first) own))
            ≡ map (moved_entry c r) (take first (first_link k ++ map entry_seen own))
        go None own first = fused (take first own) ∙ ap (map (moved_entry c r)) (sym (take-map entry_seen first own))
        go (Some p) own zero = ap (λ t. map entry_seen (map (moved_command c r) t)) (take-none own)
        go (Some p) own (suc n) =
            let m : suc n - 1 ≡ n = omega arith in
            ap (λ t. Entry.links (moved c p) ∷ t)
            (ap (λ j. map entry_seen (map (moved_command c r) (take j own))) m ∙ fused (take n own)
            ∙ ap (map (moved_entry c r)) (sym (take-map entry_seen n own)))

    -- what its first entries stand for is kept
    pub cut_kept : (first : ℕ) (l : Chain (code.Command A)) → IsCutKept c (CommandRefersToKept c r) first l
        → Every (RefersToKept c r) (take first (commands_seen l))
    cut_kept first l w = go l.link l.own first w.link w.own
      where
        all : (own : List (code.Command A)) (n : ℕ)
            → ((j : ℕ) (x : code.Command A) → j < n → slice_get own j ≡ Some x → CommandRefersToKept c r x)
            → Every (RefersToKept c r) (take n (map entry_seen own))
        all own zero h = subst (Every (RefersToKept c r)) (sym (take-none (map entry_seen own))) tt
        all [] (suc n) h = tt
        all (x ∷ own) (suc n) h = (h 0 x (omega arith) refl, all own n (λ j y a s. h (suc j) y (omega (arith, a)) s))

        go : (k : Option ListPrefix) (own : List (code.Command A)) (first : ℕ)
            → ((q : ListPrefix) → link_in k first ≡ Some q → IsKeptIn c q)
            → ((j : ℕ) (x : code.Command A) → j < own_in k first → slice_get own j ≡ Some x
            → CommandRefersToKept c r x)
            → Every (RefersToKept c r) (take first (first_link k ++ map entry_seen own))
        go None own first a b = all own first b
        go (Some p) own zero a b = tt
        go (Some p) own (suc n) a b = (a p refl, all own n (λ j x e s. b j x (omega (arith, e)) s))

  fused_rounds : (xs : List ListPrefix) → map RoundEntry.finishes (map (moved c) xs)
      ≡ map (moved_round c r) (map RoundEntry.finishes xs)
  fused_rounds [] = refl
  fused_rounds (x ∷ xs) = ap (λ t. RoundEntry.finishes (moved c x) ∷ t) (fused_rounds xs)

  pub cut_rounds_seen : (first : ℕ) (l : Chain ListPrefix)
      → rounds_seen (cut_list r (moved c) first l) ≡ map (moved_round c r) (take first (rounds_seen l))
  cut_rounds_seen first l = go l.link l.own first
    where
      go : (k : Option ListPrefix) (own : List ListPrefix) (first : ℕ)
          → first_round_link (option_map (moved r) (link_in k first)) ++ map RoundEntry.finishes (map (moved c)
          (take (own_in k first) own))
          ≡ map (moved_round c r) (take first (first_round_link k ++ map RoundEntry.finishes own))
      go None own first = fused_rounds (take first own)
          ∙ ap (map (moved_round c r)) (sym (take-map RoundEntry.finishes first own))
      go (Some p) own zero = ap (λ t. map RoundEntry.finishes (map (moved c) t)) (take-none own)
      go (Some p) own (suc n) =
          let m : suc n - 1 ≡ n = omega arith in
          ap (λ t. RoundEntry.links (moved r p) ∷ t)
          (ap (λ j. map RoundEntry.finishes (map (moved c) (take j own))) m ∙ fused_rounds (take n own)
          ∙ ap (map (moved_round c r)) (sym (take-map RoundEntry.finishes n own)))

  pub cut_rounds_kept : (first : ℕ) (l : Chain ListPrefix) → IsCutKept r (IsKeptIn c) first l
      → Every (RoundRefersToKept c r) (take first (rounds_seen l))
  cut_rounds_kept first l w = go l.link l.own first w.link w.own
    where
      all : (own : List ListPrefix) (n : ℕ)
          → ((j : ℕ) (x : ListPrefix) → j < n → slice_get own j ≡ Some x → IsKeptIn c x)
          → Every (RoundRefersToKept c r) (take n (map RoundEntry.finishes own))
      all own zero h = subst (Every (RoundRefersToKept c r)) (sym (take-none (map RoundEntry.finishes own))) tt
      all [] (suc n) h = tt
      all (x ∷ own) (suc n) h = (h 0 x (omega arith) refl, all own n (λ j y a s. h (suc j) y (omega (arith, a)) s))

      go : (k : Option ListPrefix) (own : List ListPrefix) (first : ℕ)
          → ((q : ListPrefix) → link_in k first ≡ Some q → IsKeptIn r q)
          → ((j : ℕ) (x : ListPrefix) → j < own_in k first → slice_get own j ≡ Some x → IsKeptIn c x)
          → Every (RoundRefersToKept c r) (take first (first_round_link k ++ map RoundEntry.finishes own))
      go None own first a b = all own first b
      go (Some p) own zero a b = tt
      go (Some p) own (suc n) a b = (a p refl, all own n (λ j x e s. b j x (omega (arith, e)) s))

every-fewer : {X : Type 0} (P : X → Type 0) (n m : ℕ) (xs : List X) → n ≤ m → Every P (take m xs) → Every P (take n xs)
every-fewer P zero m xs h e = subst (Every P) (sym (take-none xs)) tt
every-fewer P (suc n) zero xs h e = absurd (omega (arith, h))
every-fewer P (suc n) (suc m) [] h e = tt
every-fewer P (suc n) (suc m) (x ∷ xs) h e = (e.0, every-fewer P n m xs (omega (arith, h)) e.1)

every-here : {X : Type 0} (P : X → Type 0) (xs : List X) (i : ℕ) (x : X) → Every P xs → slice_get xs i ≡ Some x → P x
every-here P [] i x h s = absurd (let z : ⊥ = cc in z)
every-here P (y ∷ xs) zero x h s = subst P (let e : y ≡ x = cc in e) h.0
every-here P (y ∷ xs) (suc i) x h s = every-here P xs i x h.1 s

taken-there : {X : Type 0} (n : ℕ) (xs : List X) (i : ℕ) (x : X) → slice_get (take n xs) i ≡ Some x → slice_get xs i
    ≡ Some x
taken-there zero xs i x s =
    absurd (let t = subst (λ ys. slice_get ys i ≡ Some x) (take-none xs) s in let z : ⊥ = cc in z)
taken-there (suc n) [] i x s = s
taken-there (suc n) (y ∷ xs) zero x s = s
taken-there (suc n) (y ∷ xs) (suc i) x s = taken-there n xs i x s

-- ---- what parts give

-- The parts that are kept have in the new log the moved entries.
pub record IsRenumbered (c r : Table) (old new : Log) : Type 0 where
  pub commands : (p : ListPrefix) (es : List Entry) → IsKeptIn c p → slice_get old.commands p.list ≡ Some es
      → (fs : List Entry) × (slice_get new.commands (moved c p).list ≡ Some fs) × (p.first ≤ length fs)
      × (take p.first fs ≡ map (moved_entry c r) (take p.first es)) × Every (RefersToKept c r) (take p.first es)
  pub rounds : (p : ListPrefix) (es : List RoundEntry) → IsKeptIn r p → slice_get old.rounds p.list ≡ Some es
      → (fs : List RoundEntry) × (slice_get new.rounds (moved r p).list ≡ Some fs) × (p.first ≤ length fs)
      × (take p.first fs ≡ map (moved_round c r) (take p.first es)) × Every (RoundRefersToKept c r) (take p.first es)

module _ (c r : Table) (old new : Log) (w : IsRenumbered c r old new) where
  mutual
    gives : {cs all : Commands} {es : List Entry} → Gives old cs es all → Every (RefersToKept c r) es
        → Gives new cs (map (moved_entry c r) es) all
    gives (gives_nothing cs) k = gives_nothing cs
    gives (gives_binding cs name x es all h) k = gives_binding cs name x (map (moved_entry c r) es) all (gives h k.1)
    gives (gives_empty cs name es all h) k = gives_empty cs name (map (moved_entry c r) es) all (gives h k.1)
    gives (gives_skip cs name es all h) k = gives_skip cs name (map (moved_entry c r) es) all (gives h k.1)
    gives (gives_missing cs name kind es all h) k = gives_missing cs name kind (map (moved_entry c r) es) all (gives
        h k.1)
    gives (gives_nested cs finished current es rs ds all p q h) k =
        gives_nested cs (moved r finished) (moved c current) (map (moved_entry c r) es) rs ds all (rounds_part p k.0.0)
        (part q k.0.1) (gives h k.1)
    gives (gives_link cs p es ds all q h) k =
        gives_link cs (moved c p) (map (moved_entry c r) es) ds all (part q k.0) (gives h k.1)

    gives_of_rounds : {rs all : CommandRounds} {es : List RoundEntry} → GivesRounds old rs es all
        → Every (RoundRefersToKept c r) es → GivesRounds new rs (map (moved_round c r) es) all
    gives_of_rounds (gives_no_rounds rs) k = gives_no_rounds rs
    gives_of_rounds (gives_round rs p es cs all q h) k =
        gives_round rs (moved c p) (map (moved_round c r) es) cs all (part q k.0) (gives_of_rounds h k.1)
    gives_of_rounds (gives_linked_rounds rs p es qs all q h) k =
        gives_linked_rounds rs (moved r p) (map (moved_round c r) es) qs all (rounds_part q k.0) (gives_of_rounds h k.1)

    pub part : {cs all : Commands} {p : ListPrefix} → PartGives old cs p all → IsKeptIn c p
        → PartGives new cs (moved c p) all
    part (part_gives cs p all es s l h) k =
        let a = w.commands p es k s in
        part_gives cs (moved c p) all a.0 a.1 a.2 (subst (λ x. Gives new cs x all) (sym a.3) (gives h a.4))

    pub rounds_part : {rs all : CommandRounds} {p : ListPrefix} → PartGivesRounds old rs p all → IsKeptIn r p
        → PartGivesRounds new rs (moved r p) all
    rounds_part (part_gives_rounds rs p all es s l h) k =
        let a = w.rounds p es k s in
        part_gives_rounds rs (moved r p) all a.0 a.1 a.2
        (subst (λ x. GivesRounds new rs x all) (sym a.3) (gives_of_rounds h a.4))

  in_new : (p : ListPrefix) → IsKeptIn c p → IsIn old.commands p → IsIn new.commands (moved c p)
  in_new p k i = let a = w.commands p i.0 k i.1 in (a.0, a.1, a.2)

  in_new_rounds : (p : ListPrefix) → IsKeptIn r p → IsIn old.rounds p → IsIn new.rounds (moved r p)
  in_new_rounds p k i = let a = w.rounds p i.0 k i.1 in (a.0, a.1, a.2)

  -- a handle whose entries are kept
  pub is_moved : (h k : Handle) → IsKeptIn c h.current → IsKeptIn r h.finished
      → k ≡ record { current = moved c h.current; finished = moved r h.finished } → IsMoved old new h k
  is_moved h k a b e = subst (IsMoved old new h) (sym e) (record {
    entries = λ i. (in_new h.current a i.0, in_new_rounds h.finished b i.1);
    account = λ x i. record { current = part i.current a; finished = rounds_part i.finished b };
  })

-- ---- links

module _ {T : Type 0} (f : T → T) (P : T → Type 0) (t : Table) (L : List (Chain T)) (n : IsNumbered 0 t)
    (w : AreCutKept t P L) where
  -- a part that is kept is in its new list
  within_new : (q : ListPrefix) → IsKeptIn t q → IsWithin (kept_lists t f t L) (moved t q)
  within_new q k =
      let l = w q.list k.0 k.1 in
      let a = kept_at t f t L 0 q.list k.0 l.0 n k.1 l.1 in
      let at : (moved t q).list ≡ a.0 = (let u = number_of t q k.0 k.1 in let v = a.1 in omega (arith, u, v)) in (
        cut_list t f k.0.first l.0,
        ap (slice_get (kept_lists t f t L)) at ∙ a.2,
        (let u = cut_len t f k.0.first l.0 l.2.fits in let v = k.2 in omega (arith, u, v)),
      )

  chained : IsChained L → IsChained (kept_lists t f t L)
  chained h j new link s e =
      let a = comes_from t f t L 0 j new n s in
      let b = w (origin t j) a.0 a.2 in
      let same : b.0 ≡ a.1 = (let u = b.1 in let v = a.3 in cc) in
      by a.0 a.1 a.2 a.3 (let u = a.4 in omega (arith, u)) (subst (IsCutKept t P a.0.first) same b.2)
      (link_in a.1.link a.0.first) refl (ap (λ (x : Chain T). x.link) (sym a.5) ∙ e)
    where
      by : (k : ListPrefix) (l : Chain T) → slice_get t (origin t j) ≡ Some (Some k) → slice_get L (origin t j) ≡ Some l
          → k.list ≡ j → IsCutKept t P k.first l → (o : Option ListPrefix) → link_in l.link k.first ≡ o
          → option_map (moved t) o ≡ Some link → (link.list < j) × IsWithin (kept_lists t f t L) link
      by k l st sl at prefix None here o = absurd (let z : ⊥ = cc in z)
      by k l st sl at prefix (Some q) here o =
          let m : moved t q ≡ link = cc in
          let c = h (origin t j) l q sl (link_some l.link k.first q here) in
          let kq = prefix.link q here in
          let less = rises t 0 q.list (origin t j) kq.0 k n kq.1 st c.0 in
          let number = number_of t q kq.0 kq.1 in
          subst (λ p. (p.list < j) × IsWithin (kept_lists t f t L) p) m
          ((let u = at in omega (arith, less, number, u)), within_new q kq)

-- ---- the lists

module _ {A : Type 0} (C : List (Chain (code.Command A))) (R : List (Chain ListPrefix)) (c r : Table)
    (cn : IsNumbered 0 c) (rn : IsNumbered 0 r) (ck : AreCutKept c (CommandRefersToKept c r) C)
    (rk : AreCutKept r (IsKeptIn c) R) where
  abbrev new_commands : List (Chain (code.Command A))
  new_commands = kept_lists c (moved_command c r) c C

  abbrev new_rounds : List (Chain ListPrefix)
  new_rounds = kept_lists r (moved c) r R

  abbrev old_log : Log
  old_log = log_of C R

  abbrev new_log : Log
  new_log = log_of new_commands new_rounds

  renumbered_commands : (p : ListPrefix) (es : List Entry) → IsKeptIn c p → slice_get old_log.commands p.list ≡ Some es
      → (fs : List Entry) × (slice_get new_log.commands (moved c p).list ≡ Some fs) × (p.first ≤ length fs)
      × (take p.first fs ≡ map (moved_entry c r) (take p.first es)) × Every (RefersToKept c r) (take p.first es)
  renumbered_commands p es k s =
      let l = ck p.list k.0 k.1 in
      let a = kept_at c (moved_command c r) c C 0 p.list k.0 l.0 cn k.1 l.1 in
      let n : (moved c p).list ≡ a.0 = (let u = number_of c p k.0 k.1 in let v = a.1 in omega (arith, u, v)) in
      let e : es ≡ commands_seen l.0 = (let t = map-get commands_seen C p.list l.0 l.1 in cc) in
      let fs = commands_seen (cut_list c (moved_command c r) k.0.first l.0) in
      let seen : fs ≡ map (moved_entry c r) (take k.0.first (commands_seen l.0)) = cut_seen c r k.0.first l.0 in
      let len : length fs ≡ k.0.first =
      commands_len new_commands new_rounds (cut_list c (moved_command c r) k.0.first l.0)
      ∙ cut_len c (moved_command c r) k.0.first l.0 l.2.fits in (
        fs,
        ap (slice_get new_log.commands) n
            ∙ map-get commands_seen new_commands a.0 (cut_list c (moved_command c r) k.0.first l.0) a.2,
        (let u = k.2 in omega (arith, len, u)),
        ap (take p.first) seen ∙ take-map (moved_entry c r) p.first (take k.0.first (commands_seen l.0))
            ∙ ap (map (moved_entry c r)) (take-fewer p.first k.0.first (commands_seen l.0) k.2
            ∙ ap (take p.first) (sym e)),
        subst (λ xs. Every (RefersToKept c r) (take p.first xs)) (sym e)
            (every-fewer (RefersToKept c r) p.first k.0.first (commands_seen l.0) k.2 (cut_kept c r k.0.first l.0
            l.2)),
      )

  renumbered_rounds : (p : ListPrefix) (es : List RoundEntry) → IsKeptIn r p → slice_get old_log.rounds p.list ≡ Some es
      → (fs : List RoundEntry) × (slice_get new_log.rounds (moved r p).list ≡ Some fs) × (p.first ≤ length fs)
      × (take p.first fs ≡ map (moved_round c r) (take p.first es)) × Every (RoundRefersToKept c r) (take p.first es)
  renumbered_rounds p es k s =
      let l = rk p.list k.0 k.1 in
      let a = kept_at r (moved c) r R 0 p.list k.0 l.0 rn k.1 l.1 in
      let n : (moved r p).list ≡ a.0 = (let u = number_of r p k.0 k.1 in let v = a.1 in omega (arith, u, v)) in
      let e : es ≡ rounds_seen l.0 = (let t = map-get rounds_seen R p.list l.0 l.1 in cc) in
      let fs = rounds_seen (cut_list r (moved c) k.0.first l.0) in
      let seen : fs ≡ map (moved_round c r) (take k.0.first (rounds_seen l.0)) = cut_rounds_seen c r k.0.first l.0 in
      let len : length fs ≡ k.0.first =
      rounds_len new_commands new_rounds (cut_list r (moved c) k.0.first l.0)
      ∙ cut_len r (moved c) k.0.first l.0 l.2.fits in (
        fs,
        ap (slice_get new_log.rounds) n
            ∙ map-get rounds_seen new_rounds a.0 (cut_list r (moved c) k.0.first l.0) a.2,
        (let u = k.2 in omega (arith, len, u)),
        ap (take p.first) seen ∙ take-map (moved_round c r) p.first (take k.0.first (rounds_seen l.0))
            ∙ ap (map (moved_round c r)) (take-fewer p.first k.0.first (rounds_seen l.0) k.2
            ∙ ap (take p.first) (sym e)),
        subst (λ xs. Every (RoundRefersToKept c r) (take p.first xs)) (sym e)
            (every-fewer (RoundRefersToKept c r) p.first k.0.first (rounds_seen l.0) k.2
            (cut_rounds_kept c r k.0.first l.0 l.2)),
      )

  pub renumbered : IsRenumbered c r old_log new_log
  renumbered = record { commands = renumbered_commands; rounds = renumbered_rounds }

  -- ---- what lists give

  is_kept_itself : (t : Table) (i : ℕ) (k : ListPrefix) → slice_get t i ≡ Some (Some k)
      → IsKeptIn t (record { list = i; first = k.first })
  is_kept_itself t i k s = (k, s, omega arith)

  grounded_commands : (most : ℕ) → IsGrounded old_log most → (j : ℕ) (fs : List Entry)
      → slice_get new_log.commands j ≡ Some fs → (cs : Commands) × Gives new_log no_commands fs cs × (depth cs ≤ most)
  grounded_commands most g j fs s =
      let m = get-map commands_seen new_commands j fs s in
      let a = comes_from c (moved_command c r) c C 0 j m.0 cn m.1 in
      let l = ck (origin c j) a.0 a.2 in
      let p : ListPrefix = record { list = origin c j; first = a.0.first } in
      let at = map-get commands_seen C (origin c j) l.0 l.1 in
      let fits : p.first ≤ length (commands_seen l.0) =
      (let u = commands_len C R l.0 in let v = l.2.fits in omega (arith, u, v)) in
      let d = grounded-part old_log most g p (commands_seen l.0, at, fits) in
      let kept = is_kept_itself c (origin c j) a.0 a.2 in
      let new = renumbered_commands p (commands_seen l.0) kept at in
      let number : (moved c p).list ≡ j =
      (let u = number_of c p a.0 a.2 in let v = a.4 in omega (arith, u, v)) in
      let same : new.0 ≡ fs = (let u = new.1 in let v = ap (slice_get new_log.commands) number in cc) in
      let x = entries_of_new (part c r old_log new_log renumbered d.1 kept) in
      let y : x.0 ≡ fs = (let u = x.1 in let v = ap (slice_get new_log.commands) number in cc) in
      let long : length fs ≤ p.first =
      (let u = ap length (sym m.2) ∙ ap (λ q. length (commands_seen q)) a.5
      ∙ commands_len new_commands new_rounds (cut_list c (moved_command c r) a.0.first a.1) in
      let same_list : l.0 ≡ a.1 = (let p = l.1 in let q = a.3 in cc) in
      let v = cut_len c (moved_command c r) a.0.first a.1
      (subst (λ q. a.0.first ≤ chain_len q) same_list l.2.fits) in
      omega (arith, u, v)) in
      (d.0, subst (λ xs. Gives new_log no_commands xs d.0) (ap (take p.first) y ∙ take_all p.first fs long) x.2, d.2)
    where
      entries_of_new : {cs : Commands} {q : ListPrefix} → PartGives new_log no_commands q cs
          → (es : List Entry) × (slice_get new_log.commands q.list ≡ Some es)
          × Gives new_log no_commands (take q.first es) cs
      entries_of_new (part_gives ds q all es s l h) = (es, s, h)

  grounded_rounds : (most : ℕ) → IsGrounded old_log most → (j : ℕ) (fs : List RoundEntry)
      → slice_get new_log.rounds j ≡ Some fs
      → (rs : CommandRounds) × GivesRounds new_log no_command_rounds fs rs × (rounds_depth rs ≤ most)
  grounded_rounds most g j fs s =
      let m = get-map rounds_seen new_rounds j fs s in
      let a = comes_from r (moved c) r R 0 j m.0 rn m.1 in
      let l = rk (origin r j) a.0 a.2 in
      let p : ListPrefix = record { list = origin r j; first = a.0.first } in
      let at = map-get rounds_seen R (origin r j) l.0 l.1 in
      let fits : p.first ≤ length (rounds_seen l.0) =
      (let u = rounds_len C R l.0 in let v = l.2.fits in omega (arith, u, v)) in
      let d = grounded-rounds-part old_log most g p (rounds_seen l.0, at, fits) in
      let kept = is_kept_itself r (origin r j) a.0 a.2 in
      let number : (moved r p).list ≡ j =
      (let u = number_of r p a.0 a.2 in let v = a.4 in omega (arith, u, v)) in
      let x = entries_of_new (rounds_part c r old_log new_log renumbered d.1 kept) in
      let y : x.0 ≡ fs = (let u = x.1 in let v = ap (slice_get new_log.rounds) number in cc) in
      let long : length fs ≤ p.first =
      (let u = ap length (sym m.2) ∙ ap (λ q. length (rounds_seen q)) a.5
      ∙ rounds_len new_commands new_rounds (cut_list r (moved c) a.0.first a.1) in
      let same_list : l.0 ≡ a.1 = (let p = l.1 in let q = a.3 in cc) in
      let v = cut_len r (moved c) a.0.first a.1
      (subst (λ q. a.0.first ≤ chain_len q) same_list l.2.fits) in
      omega (arith, u, v)) in (
        d.0,
        subst (λ xs. GivesRounds new_log no_command_rounds xs d.0)
            (ap (take p.first) y ∙ take_all p.first fs long) x.2,
        d.2,
      )
    where
      entries_of_new : {rs : CommandRounds} {q : ListPrefix} → PartGivesRounds new_log no_command_rounds q rs
          → (es : List RoundEntry) × (slice_get new_log.rounds q.list ≡ Some es)
          × GivesRounds new_log no_command_rounds (take q.first es) rs
      entries_of_new (part_gives_rounds ds q all es s l h) = (es, s, h)

  -- ---- the order of writing

  module _ (order : Order) (o : IsOrdered old_log order) where
    abbrev new_order : Order
    new_order = record {
      commands = λ i j. order.commands (origin c i) j;
      rounds = λ i j. order.rounds (origin r i) j;
    }

    below : (n : ℕ) (p : ListPrefix) → IsKeptIn c p → IsBelow old_log order n p
        → IsBelow new_log new_order n (moved c p)
    below n p k b = (
      in_new c r old_log new_log renumbered p k b.0,
      λ j l. subst (λ i. order.commands i j < n) (sym (was p k)) (b.1 j l),
    )
      where
        was : (p : ListPrefix) → IsKeptIn c p → origin c (moved c p).list ≡ p.list
        was p k =
            let l = ck p.list k.0 k.1 in
            let a = kept_at c (moved_command c r) c C 0 p.list k.0 l.0 cn k.1 l.1 in
            let n : (moved c p).list ≡ a.0 = (let u = number_of c p k.0 k.1 in let v = a.1 in omega (arith, u, v)) in
            ap (origin c) n ∙ a.3

    rounds_below : (n : ℕ) (p : ListPrefix) → IsKeptIn r p → AreRoundsBelow old_log order n p
        → AreRoundsBelow new_log new_order n (moved r p)
    rounds_below n p k b = (
      in_new_rounds c r old_log new_log renumbered p k b.0,
      λ j l. subst (λ i. order.rounds i j < n) (sym (was p k)) (b.1 j l),
    )
      where
        was : (p : ListPrefix) → IsKeptIn r p → origin r (moved r p).list ≡ p.list
        was p k =
            let l = rk p.list k.0 k.1 in
            let a = kept_at r (moved c) r R 0 p.list k.0 l.0 rn k.1 l.1 in
            let n : (moved r p).list ≡ a.0 = (let u = number_of r p k.0 k.1 in let v = a.1 in omega (arith, u, v)) in
            ap (origin r) n ∙ a.3

    lower : (n : ℕ) (e : Entry) → RefersToKept c r e → NamesLower old_log order n e
        → NamesLower new_log new_order n (moved_entry c r e)
    lower n (Entry.nests finished current) k b = (rounds_below n finished k.0 b.0, below n current k.1 b.1)
    lower n (Entry.links p) k b = below n p k b
    lower n (Entry.binds name x) k b = tt
    lower n (Entry.binds_nothing name) k b = tt
    lower n (Entry.skips name) k b = tt
    lower n (Entry.misses name kind) k b = tt

    round_lower : (n : ℕ) (e : RoundEntry) → RoundRefersToKept c r e → RoundNamesLower old_log order n e
        → RoundNamesLower new_log new_order n (moved_round c r e)
    round_lower n (RoundEntry.finishes p) k b = below n p k b
    round_lower n (RoundEntry.links p) k b = rounds_below n p k b

    commands_ordered : (j x : ℕ) (fs : List Entry) (e : Entry) → slice_get new_log.commands j ≡ Some fs
        → slice_get fs x ≡ Some e → NamesLower new_log new_order (new_order.commands j x) e
    commands_ordered j x fs e s h =
        let m = get-map commands_seen new_commands j fs s in
        let a = comes_from c (moved_command c r) c C 0 j m.0 cn m.1 in
        let l = ck (origin c j) a.0 a.2 in
        let same : l.0 ≡ a.1 = (let p = l.1 in let q = a.3 in cc) in
        let es = commands_seen a.1 in
        let seen : fs ≡ map (moved_entry c r) (take a.0.first es) =
        sym m.2 ∙ ap commands_seen a.5 ∙ cut_seen c r a.0.first a.1 in
        let b = get-map (moved_entry c r) (take a.0.first es) x e (subst (λ y. slice_get y x ≡ Some e) seen h) in
        let old = o.commands (origin c j) x es b.0 (map-get commands_seen C (origin c j) a.1 a.3)
        (taken-there a.0.first es x b.0 b.1) in
        let kept = every-here (RefersToKept c r) (take a.0.first es) x b.0
        (cut_kept c r a.0.first a.1 (subst (IsCutKept c (CommandRefersToKept c r) a.0.first) same l.2)) b.1 in
        subst (NamesLower new_log new_order (new_order.commands j x)) b.2
        (lower (order.commands (origin c j) x) b.0 kept old)

    rounds_ordered : (j x : ℕ) (fs : List RoundEntry) (e : RoundEntry) → slice_get new_log.rounds j ≡ Some fs
        → slice_get fs x ≡ Some e → RoundNamesLower new_log new_order (new_order.rounds j x) e
    rounds_ordered j x fs e s h =
        let m = get-map rounds_seen new_rounds j fs s in
        let a = comes_from r (moved c) r R 0 j m.0 rn m.1 in
        let l = rk (origin r j) a.0 a.2 in
        let same : l.0 ≡ a.1 = (let p = l.1 in let q = a.3 in cc) in
        let es = rounds_seen a.1 in
        let seen : fs ≡ map (moved_round c r) (take a.0.first es) =
        sym m.2 ∙ ap rounds_seen a.5 ∙ cut_rounds_seen c r a.0.first a.1 in
        let b = get-map (moved_round c r) (take a.0.first es) x e (subst (λ y. slice_get y x ≡ Some e) seen h) in
        let old = o.rounds (origin r j) x es b.0 (map-get rounds_seen R (origin r j) a.1 a.3)
        (taken-there a.0.first es x b.0 b.1) in
        let kept = every-here (RoundRefersToKept c r) (take a.0.first es) x b.0
        (cut_rounds_kept c r a.0.first a.1 (subst (IsCutKept r (IsKeptIn c) a.0.first) same l.2)) b.1 in
        subst (RoundNamesLower new_log new_order (new_order.rounds j x)) b.2
        (round_lower (order.rounds (origin r j) x) b.0 kept old)

  -- ---- all of it

  pub sound_new : (most : ℕ) → IsSound C R most → IsSound new_commands new_rounds most
  sound_new most s = record {
    links = chained (moved_command c r) (CommandRefersToKept c r) c C cn ck s.links;
    round_links = chained (moved c) (IsKeptIn c) r R rn rk s.round_links;
    grounded = record {
      commands = grounded_commands most s.grounded;
      rounds = grounded_rounds most s.grounded;
      ordered = (
        new_order s.grounded.ordered.0 s.grounded.ordered.1,
        record {
          commands = commands_ordered s.grounded.ordered.0 s.grounded.ordered.1;
          rounds = rounds_ordered s.grounded.ordered.0 s.grounded.ordered.1;
        },
      );
    };
  }

  -- what was before an extent whose lists stay is there as it was
  module _ (extent : LogSize) (cs : AreUnmoved c C extent.commands) (rs : AreUnmoved r R extent.rounds) (first : Log)
      (k : KeepsHandles first old_log) (f : HasAtMost extent first) where
    still : (p : ListPrefix) → p.list < extent.commands → IsIn old_log.commands p → IsKeptIn c p × (moved c p ≡ p)
    still p h i =
        let s = cs p.list h in
        let at = map-get commands_seen C p.list s.0 s.1 in
        let e : i.0 ≡ commands_seen s.0 = (let u = i.1 in cc) in
        let len = commands_len C R s.0 in
        let same = ap length e in
        let room = i.2 in
        let whole : ListPrefix = record { list = p.list; first = chain_len s.0 } in (
          (whole, s.2, omega (arith, len, same, room)),
          ap (λ n. record { list = n; first = p.first }) (number_of c p whole s.2),
        )

    still_rounds : (p : ListPrefix) → p.list < extent.rounds → IsIn old_log.rounds p → IsKeptIn r p × (moved r p ≡ p)
    still_rounds p h i =
        let s = rs p.list h in
        let at = map-get rounds_seen R p.list s.0 s.1 in
        let e : i.0 ≡ rounds_seen s.0 = (let u = i.1 in cc) in
        let len = rounds_len C R s.0 in
        let same = ap length e in
        let room = i.2 in
        let whole : ListPrefix = record { list = p.list; first = chain_len s.0 } in (
          (whole, s.2, omega (arith, len, same, room)),
          ap (λ n. record { list = n; first = p.first }) (number_of r p whole s.2),
        )

    there_new : (i : ℕ) → i < extent.commands → i < length new_log.commands
    there_new i h =
        let s = cs i h in
        let q : ListPrefix = record { list = i; first = chain_len s.0 } in
        let a = kept_at c (moved_command c r) c C 0 i q s.0 cn s.2 s.1 in
        let m = map-get commands_seen new_commands a.0 (cut_list c (moved_command c r) q.first s.0) a.2 in
        let n = in_range new_log.commands a.0 (commands_seen (cut_list c (moved_command c r) q.first s.0)) m in
        let u = a.1 in omega (arith, n, u)

    there_new_rounds : (i : ℕ) → i < extent.rounds → i < length new_log.rounds
    there_new_rounds i h =
        let s = rs i h in
        let q : ListPrefix = record { list = i; first = chain_len s.0 } in
        let a = kept_at r (moved c) r R 0 i q s.0 rn s.2 s.1 in
        let m = map-get rounds_seen new_rounds a.0 (cut_list r (moved c) q.first s.0) a.2 in
        let n = in_range new_log.rounds a.0 (rounds_seen (cut_list r (moved c) q.first s.0)) m in
        let u = a.1 in omega (arith, n, u)

    -- a handle of that log is the same one in the new log
    same_handle : (h : Handle) → IsLive first h → HasEntriesOf old_log h → IsMoved old_log new_log h h
    same_handle h live i =
        let a = still h.current (let u = live.0 in let v = f.0 in omega (arith, u, v)) i.0 in
        let b = still_rounds h.finished (let u = live.1 in let v = f.1 in omega (arith, u, v)) i.1 in
        is_moved c r old_log new_log renumbered h h a.0 b.0
        (ap (λ p. record { current = p; finished = h.finished }) (sym a.1)
        ∙ ap (λ p. record { current = moved c h.current; finished = p }) (sym b.1))

    pub kept_new : KeepsHandles first new_log
    kept_new = record {
      stays = λ h live. (
        there_new h.current.list (let u = live.0 in let v = f.0 in omega (arith, u, v)),
        there_new_rounds h.finished.list (let u = live.1 in let v = f.1 in omega (arith, u, v)),
      );
      entries = λ h i. let live = lists_there first h i in let j = k.entries h i in (same_handle h live j).entries j;
      others = λ h a i. let e = has_entries first h a i in
          (same_handle h (lists_there first h e) (k.entries h e)).account a (k.others h a i);
    }

  -- what the tables send is moved
  pub sent : (h k : Handle) → IsKeptIn c h.current × IsKeptIn r h.finished
      × (k ≡ record { current = moved c h.current; finished = moved r h.finished }) → IsMoved old_log new_log h k
  sent h k s = is_moved c r old_log new_log renumbered h k s.0 s.1 s.2

-- ---- a log that is written by what was looked through

module _ {A : Type 0} (C : List (Chain (code.Command A))) (R : List (Chain ListPrefix)) (extent : LogSize)
    (moves : HandleMap A)
    (cn : IsNumbered 0 moves.commands.items) (rn : IsNumbered 0 moves.rounds.items)
    (w : IsSoundCompaction C R extent moves)
    (K : List (Chain (code.Command A))) (L : List (Chain ListPrefix))
    (kept : K ≡ kept_lists moves.commands.items (moved_command moves.commands.items moves.rounds.items)
    moves.commands.items C)
    (kept_rounds : L ≡ kept_lists moves.rounds.items (moved moves.commands.items) moves.rounds.items R) where
  pub written_sound : (most : ℕ) → IsSound C R most → IsSound K L most
  written_sound most s = subst (λ x. IsSound x L most) (sym kept)
      (subst (λ x. IsSound (new_commands C R moves.commands.items moves.rounds.items cn rn w.commands_kept
      w.rounds_kept) x most)
      (sym kept_rounds)
      (sound_new C R moves.commands.items moves.rounds.items cn rn w.commands_kept w.rounds_kept most s))

  is_new : new_log C R moves.commands.items moves.rounds.items cn rn w.commands_kept w.rounds_kept ≡ log_of K L
  is_new = ap (λ x. log_of x (new_rounds C R moves.commands.items moves.rounds.items cn rn w.commands_kept
      w.rounds_kept))
      (sym kept) ∙ ap (log_of K) (sym kept_rounds)

  module _ (old new : Log) (seen : log_of C R ≡ old) (written : new ≡ log_of K L) where
    pub written_moved : (h k : Handle) → Maps moves h k → IsMoved old new h k
    written_moved h k s =
        subst (λ x. IsMoved x new h k) seen
        (subst (λ x. IsMoved (log_of C R) x h k) (is_new ∙ sym written)
        (sent C R moves.commands.items moves.rounds.items cn rn w.commands_kept w.rounds_kept h k s))

    pub written_kept : (first : Log) → KeepsHandles first old → HasAtMost extent first → KeepsHandles first new
    written_kept first k f =
        subst (KeepsHandles first) (is_new ∙ sym written)
        (kept_new C R moves.commands.items moves.rounds.items cn rn w.commands_kept w.rounds_kept extent
        w.commands_stay w.rounds_stay first (subst (KeepsHandles first) (sym seen) k) f)
