-- A log that grows stays in the order of writing: what is written stands for what was there.
use Rattle.std.specs.Prelude.{◌≡◌, ◌<◌, ◌+◌, ℕ, zero, suc, List, [], ◌∷◌, ◌++◌, length, slice_get, Option, Some, None}
use Rattle.std.specs.Prelude.{refl}
use Rattle.std.proofs.Common.{arith, sym, ap, subst, ◌∙◌, ◌⊎◌, inl, inr}
use Rattle.mbe_semantics.specs.declared.list_prefix.ListPrefix.{ListPrefix}
use Rattle.mbe_semantics.specs.Bindings.Account.{Command, Commands, CommandRounds, Entry, RoundEntry, Log, Order, IsIn}
use Rattle.mbe_semantics.specs.Bindings.Account.{Gives, GivesRounds, gives_nothing, gives_binding, gives_empty}
use Rattle.mbe_semantics.specs.Bindings.Account.{gives_skip, gives_missing, gives_nested, gives_link, gives_no_rounds}
use Rattle.mbe_semantics.specs.Bindings.Account.{gives_round, gives_linked_rounds, IsBelow, AreRoundsBelow, NamesLower}
use Rattle.mbe_semantics.specs.Bindings.Account.{RoundNamesLower, IsOrdered}
use Rattle.mbe_log.specs.Accounts.{Every}
use Rattle.mbe_log.specs.HandleChanges.{appended}
use Rattle.mbe_log.specs.Sound.{HasOrder, GivesCommand}
use Rattle.mbe_log.proofs.ClientLemmas.{in_of, in_of_rounds}
use Rattle.mbe_log.proofs.LogLemmas.{get-more, there, get-appended, HasMore, in-more}

-- ---- places

abbrev in_list : {E : Type 0} → Option (List E) → ℕ → Option E
in_list None j = None
in_list (Some es) j = slice_get es j

-- what is at a place: in which list, and where there
abbrev entry_in : {E : Type 0} → List (List E) → ℕ → ℕ → Option E
entry_in ess i j = in_list (slice_get ess i) j

entry_found : {E : Type 0} (ess : List (List E)) (i j : ℕ) (es : List E) (e : E) → slice_get ess i ≡ Some es
    → slice_get es j ≡ Some e → entry_in ess i j ≡ Some e
entry_found ess i j es e h k = ap (λ o. in_list o j) h ∙ k

list_of : {E : Type 0} (ess : List (List E)) (i j : ℕ) (e : E) → entry_in ess i j ≡ Some e
    → (es : List E) × (slice_get ess i ≡ Some es) × (slice_get es j ≡ Some e)
list_of {E} ess i j e h = go (slice_get ess i) refl h
  where
    go : (o : Option (List E)) → slice_get ess i ≡ o → in_list o j ≡ Some e
        → (es : List E) × (slice_get ess i ≡ Some es) × (slice_get es j ≡ Some e)
    go None s k = absurd (let z : ⊥ = cc in z)
    go (Some es) s k = (es, s, k)

none_after : {X : Type 0} (xs : List X) → slice_get xs (length xs) ≡ None
none_after [] = refl
none_after (x ∷ xs) = none_after xs

every-at : {X : Type 0} (P : X → Type 0) (xs : List X) → Every P xs → (j : ℕ) (x : X) → slice_get xs j ≡ Some x → P x
every-at P [] h j x k = absurd (let z : ⊥ = cc in z)
every-at P (y ∷ xs) h zero x k = subst P (let e : y ≡ x = cc in e) h.0
every-at P (y ∷ xs) h (suc j) x k = every-at P xs h.1 j x k

-- a number above those of all entries of a list
above_list : {E : Type 0} (es : List E) (number : ℕ → ℕ)
    → (n : ℕ) × ((j : ℕ) (e : E) → slice_get es j ≡ Some e → number j < n)
above_list [] number = (0, λ j e h. absurd (let z : ⊥ = cc in z))
above_list {E} (x ∷ es) number = let p = above_list es (λ j. number (suc j)) in (1 + number 0 + p.0, go p)
  where
    go : (p : (n : ℕ) × ((j : ℕ) (e : E) → slice_get es j ≡ Some e → number (suc j) < n)) (j : ℕ) (e : E)
        → slice_get (x ∷ es) j ≡ Some e → number j < 1 + number 0 + p.0
    go p zero e h = omega arith
    go p (suc j) e h = let a = p.1 j e h in omega (arith, a)

-- and of all lists
above_lists : {E : Type 0} (ess : List (List E)) (number : ℕ → ℕ → ℕ)
    → (n : ℕ) × ((i j : ℕ) (e : E) → entry_in ess i j ≡ Some e → number i j < n)
above_lists [] number = (0, λ i j e h. absurd (let z : ⊥ = cc in z))
above_lists {E} (es ∷ ess) number = let p = above_list es (number 0) in let q =
    above_lists ess (λ i. number (suc i)) in (p.0 + q.0, go p q)
  where
    go : (p : (n : ℕ) × ((j : ℕ) (e : E) → slice_get es j ≡ Some e → number 0 j < n))
        (q : (n : ℕ) × ((i j : ℕ) (e : E) → entry_in ess i j ≡ Some e → number (suc i) j < n))
        (i j : ℕ) (e : E) → entry_in (es ∷ ess) i j ≡ Some e → number i j < p.0 + q.0
    go p q zero j e h = let a = p.1 j e h in omega (arith, a)
    go p q (suc i) j e h = let a = q.1 i j e h in omega (arith, a)

-- ---- what is added

-- what the entry stands for is in the log
abbrev NamesWithin : Log → Entry → Type 0
NamesWithin log (Entry.nests finished current) = IsIn log.rounds finished × IsIn log.commands current
NamesWithin log (Entry.links part) = IsIn log.commands part
NamesWithin log _ = Unit {0}

abbrev RoundNamesWithin : Log → RoundEntry → Type 0
RoundNamesWithin log (RoundEntry.finishes part) = IsIn log.commands part
RoundNamesWithin log (RoundEntry.links part) = IsIn log.rounds part

-- an entry of the new lists is in its place in the old ones, where nothing else is, or it is added and meets the
-- condition
abbrev Adds : {E : Type 0} → (E → Type 0) → List (List E) → List (List E) → Type 0
Adds {E} P old new =
    (i j : ℕ) (es : List E) (e : E) → slice_get new i ≡ Some es → slice_get es j ≡ Some e
    → (entry_in old i j ≡ Some e) ⊎ ((entry_in old i j ≡ None) × P e)

pub adds-none : {E : Type 0} (P : E → Type 0) (ess : List (List E)) → Adds P ess ess
adds-none P ess i j es e h k = inl (entry_found ess i j es e h k)

pub adds-list : {E : Type 0} (P : E → Type 0) (ess : List (List E)) (new : List E) → Every P new
    → Adds P ess (ess ++ new ∷ [])
adds-list {E} P ess new w i j es e h k = go (get-more ess new es i h)
  where
    go : (slice_get ess i ≡ Some es) ⊎ ((i ≡ length ess) × (new ≡ es))
        → (entry_in ess i j ≡ Some e) ⊎ ((entry_in ess i j ≡ None) × P e)
    go (inl s) = inl (entry_found ess i j es e s k)
    go (inr s) = inr (
      ap (λ n. entry_in ess n j) s.0 ∙ ap (λ o. in_list o j) (none_after ess),
      every-at P new w j e (ap (λ xs. slice_get xs j) s.1 ∙ k),
    )

pub adds-entry : {E : Type 0} (P : E → Type 0) (ess : List (List E)) (at : ℕ) (new : E) → P new
    → Adds P ess (appended ess at new)
adds-entry {E} P ess at new w i j es e h k = go (get-appended ess at i new es h)
  where
    last : (xs : List E) → slice_get ess i ≡ Some xs → (slice_get xs j ≡ Some e) ⊎ ((j ≡ length xs) × (new ≡ e))
        → (entry_in ess i j ≡ Some e) ⊎ ((entry_in ess i j ≡ None) × P e)
    last xs s (inl t) = inl (entry_found ess i j xs e s t)
    last xs s (inr t) = inr (ap (λ o. in_list o j) s ∙ ap (slice_get xs) t.0 ∙ none_after xs, subst P t.1 w)

    go : (slice_get ess i ≡ Some es) ⊎ ((xs : List E) × (slice_get ess i ≡ Some xs) × (at ≡ i) × (es ≡ xs ++ new ∷ []))
        → (entry_in ess i j ≡ Some e) ⊎ ((entry_in ess i j ≡ None) × P e)
    go (inl s) = inl (entry_found ess i j es e s k)
    go (inr s) = last s.0 s.1 (get-more s.0 new e j (ap (λ xs. slice_get xs j) (sym s.3) ∙ k))

-- entries that give something stand for what is there
pub within : (log : Log) {cs all : Commands} {es : List Entry} → Gives log cs es all → Every (NamesWithin log) es
within log (gives_nothing cs) = tt
within log (gives_binding cs name x es all h) = (tt, within log h)
within log (gives_empty cs name es all h) = (tt, within log h)
within log (gives_skip cs name es all h) = (tt, within log h)
within log (gives_missing cs name kind es all h) = (tt, within log h)
within log (gives_nested cs finished current es rs ds all p q h) = ((in_of_rounds log p, in_of log q), within log h)
within log (gives_link cs part es ds all q h) = (in_of log q, within log h)

pub rounds-within : (log : Log) {rs all : CommandRounds} {es : List RoundEntry} → GivesRounds log rs es all
    → Every (RoundNamesWithin log) es
rounds-within log (gives_no_rounds rs) = tt
rounds-within log (gives_round rs part es cs all q h) = (in_of log q, rounds-within log h)
rounds-within log (gives_linked_rounds rs part es qs all q h) = (in_of_rounds log q, rounds-within log h)

pub command-within : (log : Log) (e : Entry) (c : Command) → GivesCommand log e c → NamesWithin log e
command-within log (Entry.binds name x) c h = tt
command-within log (Entry.binds_nothing name) c h = tt
command-within log (Entry.skips name) c h = tt
command-within log (Entry.misses name kind) c h = tt
command-within log (Entry.nests finished current) c h = (in_of_rounds log h.2, in_of log h.3)
command-within log (Entry.links part) c h = absurd h

-- ---- the order

module _ (old new : Log) (order : Order) (o : IsOrdered old order) (c : HasMore old.commands new.commands)
    (r : HasMore old.rounds new.rounds)
    (added : Adds (NamesWithin old) old.commands new.commands)
    (rounds_added : Adds (RoundNamesWithin old) old.rounds new.rounds) where
  commands_above : (n : ℕ) × ((i j : ℕ) (e : Entry) → entry_in old.commands i j ≡ Some e → order.commands i j < n)
  commands_above = above_lists old.commands order.commands

  rounds_above : (n : ℕ) × ((i j : ℕ) (e : RoundEntry) → entry_in old.rounds i j ≡ Some e → order.rounds i j < n)
  rounds_above = above_lists old.rounds order.rounds

  -- the number of what is added: greater than all
  abbrev latest : ℕ
  latest = commands_above.0 + rounds_above.0

  abbrev numbered : {E : Type 0} → Option E → ℕ → ℕ
  numbered None n = latest
  numbered (Some e) n = n

  abbrev later : Order
  later = record {
    commands = λ i j. numbered (entry_in old.commands i j) (order.commands i j);
    rounds = λ i j. numbered (entry_in old.rounds i j) (order.rounds i j);
  }

  below : (n : ℕ) (p : ListPrefix) → IsIn old.commands p
      → ((j : ℕ) (e : Entry) → j < p.first → entry_in old.commands p.list j ≡ Some e → order.commands p.list j < n)
      → IsBelow new later n p
  below n p i b = (in-more c p i, λ j l. go j l)
    where
      go : (j : ℕ) → j < p.first → later.commands p.list j < n
      go j l =
          let t = there i.0 j (let m = i.2 in omega (arith, l, m)) in
          let f = entry_found old.commands p.list j i.0 t.0 i.1 t.1 in
          let s : later.commands p.list j ≡ order.commands p.list j =
          ap (λ x. numbered x (order.commands p.list j)) f in
          let a = b j t.0 l f in omega (arith, s, a)

  rounds_below : (n : ℕ) (p : ListPrefix) → IsIn old.rounds p
      → ((j : ℕ) (e : RoundEntry) → j < p.first → entry_in old.rounds p.list j ≡ Some e → order.rounds p.list j < n)
      → AreRoundsBelow new later n p
  rounds_below n p i b = (in-more r p i, λ j l. go j l)
    where
      go : (j : ℕ) → j < p.first → later.rounds p.list j < n
      go j l =
          let t = there i.0 j (let m = i.2 in omega (arith, l, m)) in
          let f = entry_found old.rounds p.list j i.0 t.0 i.1 t.1 in
          let s : later.rounds p.list j ≡ order.rounds p.list j = ap (λ x. numbered x (order.rounds p.list j)) f in
          let a = b j t.0 l f in omega (arith, s, a)

  -- what was below a number is so still, and all that was there is below the latest
  still : (n : ℕ) (p : ListPrefix) → IsBelow old order n p → IsBelow new later n p
  still n p b = below n p b.0 (λ j e l f. b.1 j l)

  rounds_still : (n : ℕ) (p : ListPrefix) → AreRoundsBelow old order n p → AreRoundsBelow new later n p
  rounds_still n p b = rounds_below n p b.0 (λ j e l f. b.1 j l)

  before : (p : ListPrefix) → IsIn old.commands p → IsBelow new later latest p
  before p i = below latest p i (λ j e l f. let a = commands_above.1 p.list j e f in omega (arith, a))

  rounds_before : (p : ListPrefix) → IsIn old.rounds p → AreRoundsBelow new later latest p
  rounds_before p i = rounds_below latest p i (λ j e l f. let a = rounds_above.1 p.list j e f in omega (arith, a))

  still_lower : (n : ℕ) (e : Entry) → NamesLower old order n e → NamesLower new later n e
  still_lower n (Entry.nests finished current) s = (rounds_still n finished s.0, still n current s.1)
  still_lower n (Entry.links part) s = still n part s
  still_lower n (Entry.binds name x) s = tt
  still_lower n (Entry.binds_nothing name) s = tt
  still_lower n (Entry.skips name) s = tt
  still_lower n (Entry.misses name kind) s = tt

  round_still_lower : (n : ℕ) (e : RoundEntry) → RoundNamesLower old order n e → RoundNamesLower new later n e
  round_still_lower n (RoundEntry.finishes part) s = still n part s
  round_still_lower n (RoundEntry.links part) s = rounds_still n part s

  lower : (e : Entry) → NamesWithin old e → NamesLower new later latest e
  lower (Entry.nests finished current) s = (rounds_before finished s.0, before current s.1)
  lower (Entry.links part) s = before part s
  lower (Entry.binds name x) s = tt
  lower (Entry.binds_nothing name) s = tt
  lower (Entry.skips name) s = tt
  lower (Entry.misses name kind) s = tt

  round_lower : (e : RoundEntry) → RoundNamesWithin old e → RoundNamesLower new later latest e
  round_lower (RoundEntry.finishes part) s = before part s
  round_lower (RoundEntry.links part) s = rounds_before part s

  commands_ordered : (i j : ℕ) (e : Entry)
      → (entry_in old.commands i j ≡ Some e) ⊎ ((entry_in old.commands i j ≡ None) × NamesWithin old e)
      → NamesLower new later (later.commands i j) e
  commands_ordered i j e (inl s) =
      let l = list_of old.commands i j e s in
      subst (λ x. NamesLower new later (numbered x (order.commands i j)) e) (sym s)
      (still_lower (order.commands i j) e (o.commands i j l.0 e l.1 l.2))
  commands_ordered i j e (inr s) = subst (λ x. NamesLower new later (numbered x (order.commands i j)) e) (sym s.0)
      (lower e s.1)

  rounds_ordered : (i j : ℕ) (e : RoundEntry)
      → (entry_in old.rounds i j ≡ Some e) ⊎ ((entry_in old.rounds i j ≡ None) × RoundNamesWithin old e)
      → RoundNamesLower new later (later.rounds i j) e
  rounds_ordered i j e (inl s) =
      let l = list_of old.rounds i j e s in
      subst (λ x. RoundNamesLower new later (numbered x (order.rounds i j)) e) (sym s)
      (round_still_lower (order.rounds i j) e (o.rounds i j l.0 e l.1 l.2))
  rounds_ordered i j e (inr s) = subst (λ x. RoundNamesLower new later (numbered x (order.rounds i j)) e) (sym s.0)
      (round_lower e s.1)

  stays_ordered : HasOrder new
  stays_ordered = (
    later,
    record {
      commands = λ i j es e h k. commands_ordered i j e (added i j es e h k);
      rounds = λ i j es e h k. rounds_ordered i j e (rounds_added i j es e h k);
    },
  )

-- a log that grows by entries which stand for what was there
pub order-stays : (old new : Log) → HasOrder old → HasMore old.commands new.commands → HasMore old.rounds new.rounds →
    Adds (NamesWithin old) old.commands new.commands → Adds (RoundNamesWithin old) old.rounds new.rounds
    → HasOrder new
order-stays old new h c r a b = stays_ordered old new h.0 h.1 c r a b
