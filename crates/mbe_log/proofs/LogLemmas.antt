-- What stays and what changes when a log grows.
use Rattle.std.specs.Prelude.{◌≡◌, ◌≢◌, ◌<◌, ◌≤◌, ℕ, zero, suc, List, [], ◌∷◌, ◌++◌, length, take, slice_get, Some}
use Rattle.std.specs.Prelude.{refl}
use Rattle.std.proofs.Common.{arith, sym, ap, subst, ◌∙◌, ◌⊎◌, inl, inr, append-nil, length-append}
use Rattle.mbe_semantics.specs.declared.list_prefix.ListPrefix.{ListPrefix}
use Rattle.mbe_semantics.specs.Bindings.Account.{Command, Commands, CommandRounds, command, Entry, RoundEntry, Log}
use Rattle.mbe_semantics.specs.Bindings.Account.{IsIn, Gives, GivesRounds, PartGives, PartGivesRounds, gives_nothing}
use Rattle.mbe_semantics.specs.Bindings.Account.{gives_binding, gives_empty, gives_skip, gives_missing, gives_nested}
use Rattle.mbe_semantics.specs.Bindings.Account.{gives_link, gives_no_rounds, gives_round, gives_linked_rounds}
use Rattle.mbe_semantics.specs.Bindings.Account.{part_gives, part_gives_rounds}
use Rattle.mbe_log.specs.HandleChanges.{KeepsHandles, appended}
use Rattle.mbe_log.specs.Sound.{GivesCommand}
use Rattle.mbe_log.proofs.ChainLemmas.{in_range}

-- ---- lists

pub take-front : {X : Type 0} (n : ℕ) (xs ys : List X) → n ≤ length xs → take n (xs ++ ys) ≡ take n xs
take-front zero [] [] h = refl
take-front zero [] (y ∷ ys) h = refl
take-front zero (x ∷ xs) ys h = refl
take-front (suc n) [] ys h = absurd (omega (arith, h))
take-front (suc n) (x ∷ xs) ys h = ap (λ t. x ∷ t) (take-front n xs ys (omega (arith, h)))

pub take-whole : {X : Type 0} (xs : List X) → take (length xs) xs ≡ xs
take-whole [] = refl
take-whole (x ∷ xs) = ap (λ t. x ∷ t) (take-whole xs)

pub get-front : {X : Type 0} (xs ys : List X) (i : ℕ) (x : X) → slice_get xs i ≡ Some x
    → slice_get (xs ++ ys) i ≡ Some x
get-front [] ys i x h = cc
get-front (y ∷ xs) ys zero x h = h
get-front (y ∷ xs) ys (suc i) x h = get-front xs ys i x h

pub get-last : {X : Type 0} (xs : List X) (y : X) → slice_get (xs ++ y ∷ []) (length xs) ≡ Some y
get-last [] y = refl
get-last (x ∷ xs) y = get-last xs y

-- what is in a list with one more at its end
pub get-more : {X : Type 0} (xs : List X) (y x : X) (i : ℕ) → slice_get (xs ++ y ∷ []) i ≡ Some x →
    (slice_get xs i ≡ Some x) ⊎ ((i ≡ length xs) × (y ≡ x))
get-more [] y x zero h = inr (refl, cc)
get-more [] y x (suc i) h = absurd (let e : ⊥ = cc in e)
get-more (z ∷ xs) y x zero h = inl h
get-more (z ∷ xs) y x (suc i) h = go (get-more xs y x i h)
  where
    go : (slice_get xs i ≡ Some x) ⊎ ((i ≡ length xs) × (y ≡ x))
        → (slice_get xs i ≡ Some x) ⊎ ((suc i ≡ suc (length xs)) × (y ≡ x))
    go (inl k) = inl k
    go (inr k) = inr (ap suc k.0, k.1)

pub there : {X : Type 0} (xs : List X) (i : ℕ) → i < length xs → (x : X) × (slice_get xs i ≡ Some x)
there [] i h = absurd (omega (arith, h))
there (x ∷ xs) zero h = (x, refl)
there (x ∷ xs) (suc i) h = there xs i (omega (arith, h))

pub length-appended : {E : Type 0} (ess : List (List E)) (i : ℕ) (e : E) → length (appended ess i e) ≡ length ess
length-appended [] i e = refl
length-appended (es ∷ ess) zero e = refl
length-appended (es ∷ ess) (suc i) e = ap suc (length-appended ess i e)

pub appended-same : {E : Type 0} (ess : List (List E)) (i : ℕ) (e : E) (es : List E) → slice_get ess i ≡ Some es
    → slice_get (appended ess i e) i ≡ Some (es ++ e ∷ [])
appended-same [] i e es h = cc
appended-same (fs ∷ ess) zero e es h = let k : fs ≡ es = cc in ap (λ x. Some (x ++ e ∷ [])) k
appended-same (fs ∷ ess) (suc i) e es h = appended-same ess i e es h

pub appended-other : {E : Type 0} (ess : List (List E)) (i j : ℕ) (e : E) → i ≢ j
    → slice_get (appended ess i e) j ≡ slice_get ess j
appended-other [] i j e n = refl
appended-other (fs ∷ ess) zero zero e n = absurd (n refl)
appended-other (fs ∷ ess) zero (suc j) e n = refl
appended-other (fs ∷ ess) (suc i) zero e n = refl
appended-other (fs ∷ ess) (suc i) (suc j) e n = appended-other ess i j e (λ k. n (ap suc k))

pub same_or_not : (i j : ℕ) → (i ≡ j) ⊎ (i ≢ j)
same_or_not zero zero = inl refl
same_or_not zero (suc j) = inr (λ h. omega (arith, h))
same_or_not (suc i) zero = inr (λ h. omega (arith, h))
same_or_not (suc i) (suc j) = go (same_or_not i j)
  where
    go : (i ≡ j) ⊎ (i ≢ j) → (suc i ≡ suc j) ⊎ (suc i ≢ suc j)
    go (inl e) = inl (ap suc e)
    go (inr n) = inr (λ h. n (omega (arith, h)))

-- what is in a list of lists where one has one entry more
pub get-appended : {E : Type 0} (ess : List (List E)) (i j : ℕ) (e : E) (fs : List E)
    → slice_get (appended ess i e) j ≡ Some fs →
    (slice_get ess j ≡ Some fs) ⊎ ((es : List E) × (slice_get ess j ≡ Some es) × (i ≡ j) × (fs ≡ es ++ e ∷ []))
get-appended {E} ess i j e fs h = go (same_or_not i j)
  where
    j_there : j < length ess
    j_there = let k = in_range (appended ess i e) j fs h in let l = length-appended ess i e in omega (arith, k, l)

    go : (i ≡ j) ⊎ (i ≢ j) → (slice_get ess j ≡ Some fs)
        ⊎ ((es : List E) × (slice_get ess j ≡ Some es) × (i ≡ j) × (fs ≡ es ++ e ∷ []))
    go (inl k) =
        let t = there ess j j_there in
        let u : slice_get (appended ess i e) j ≡ Some (t.0 ++ e ∷ []) =
        subst (λ x. slice_get (appended ess i e) x ≡ Some (t.0 ++ e ∷ [])) k
        (appended-same ess i e t.0 (subst (λ x. slice_get ess x ≡ Some t.0) (sym k) t.1)) in
        let v : fs ≡ t.0 ++ e ∷ [] = cc in
        inr (t.0, t.1, k, v)
    go (inr n) = inl (sym (appended-other ess i j e n) ∙ h)

-- ---- a log that has more

-- each list begins with what it was
pub record HasMore {E : Type 0} (old new : List (List E)) : Type 0 where
  pub more : (i : ℕ) (es : List E) → slice_get old i ≡ Some es → (fs : List E) × (slice_get new i ≡ Some (es ++ fs))

pub more-itself : {E : Type 0} (ess : List (List E)) → HasMore ess ess
more-itself ess = record { more = λ i es h. ([], h ∙ ap Some (sym (append-nil es))) }

pub more-list : {E : Type 0} (ess : List (List E)) (es : List E) → HasMore ess (ess ++ es ∷ [])
more-list ess es = record { more = λ i fs h. ([], get-front ess (es ∷ []) i fs h ∙ ap Some (sym (append-nil fs))) }

pub more-entry : {E : Type 0} (ess : List (List E)) (i : ℕ) (e : E) → HasMore ess (appended ess i e)
more-entry {E} ess i e = record { more = λ j es h. go j es h (same_or_not i j) }
  where
    go : (j : ℕ) (es : List E) → slice_get ess j ≡ Some es → (i ≡ j) ⊎ (i ≢ j)
        → (fs : List E) × (slice_get (appended ess i e) j ≡ Some (es ++ fs))
    go j es h (inl k) = (
      e ∷ [],
      subst (λ x. slice_get (appended ess i e) x ≡ Some (es ++ e ∷ [])) k
          (appended-same ess i e es (subst (λ x. slice_get ess x ≡ Some es) (sym k) h)),
    )
    go j es h (inr n) = ([], appended-other ess i j e n ∙ h ∙ ap Some (sym (append-nil es)))

pub in-more : {E : Type 0} {old new : List (List E)} → HasMore old new → (p : ListPrefix) → IsIn old p → IsIn new p
in-more m p i = let k = m.more p.list i.0 i.1 in
    (i.0 ++ k.0, k.1, let l = length-append i.0 k.0 in let b = i.2 in omega (arith, l, b))

-- no list goes
longer : {E : Type 0} {old new : List (List E)} → HasMore old new → length old ≤ length new
longer {E} {old} {new} m = go (length old) (omega arith)
  where
    go : (n : ℕ) → n ≤ length old → n ≤ length new
    go zero h = omega arith
    go (suc n) h = let t = there old n (omega (arith, h)) in let k = m.more n t.0 t.1 in let a =
        in_range new n (t.0 ++ k.0) k.1 in omega (arith, a)

module _ (old new : Log) (c : HasMore old.commands new.commands) (r : HasMore old.rounds new.rounds) where
  mutual
    pub gives : {cs all : Commands} {es : List Entry} → Gives old cs es all → Gives new cs es all
    gives (gives_nothing cs) = gives_nothing cs
    gives (gives_binding cs name x es all h) = gives_binding cs name x es all (gives h)
    gives (gives_empty cs name es all h) = gives_empty cs name es all (gives h)
    gives (gives_skip cs name es all h) = gives_skip cs name es all (gives h)
    gives (gives_missing cs name kind es all h) = gives_missing cs name kind es all (gives h)
    gives (gives_nested cs finished current es rs ds all p q h) =
        gives_nested cs finished current es rs ds all (part_rounds p) (part q) (gives h)
    gives (gives_link cs p es ds all q h) = gives_link cs p es ds all (part q) (gives h)

    pub rounds : {rs all : CommandRounds} {es : List RoundEntry} → GivesRounds old rs es all → GivesRounds new rs es all
    rounds (gives_no_rounds rs) = gives_no_rounds rs
    rounds (gives_round rs p es cs all q h) = gives_round rs p es cs all (part q) (rounds h)
    rounds (gives_linked_rounds rs p es qs all q h) = gives_linked_rounds rs p es qs all (part_rounds q) (rounds h)

    pub part : {cs all : Commands} {p : ListPrefix} → PartGives old cs p all → PartGives new cs p all
    part (part_gives cs p all es e l h) =
        let m = c.more p.list es e in
        part_gives cs p all (es ++ m.0) m.1 (let k = length-append es m.0 in omega (arith, l, k))
        (subst (λ x. Gives new cs x all) (sym (take-front p.first es m.0 l)) (gives h))

    pub part_rounds : {rs all : CommandRounds} {p : ListPrefix} → PartGivesRounds old rs p all
        → PartGivesRounds new rs p all
    part_rounds (part_gives_rounds rs p all es e l h) =
        let m = r.more p.list es e in
        part_gives_rounds rs p all (es ++ m.0) m.1 (let k = length-append es m.0 in omega (arith, l, k))
        (subst (λ x. GivesRounds new rs x all) (sym (take-front p.first es m.0 l)) (rounds h))

  -- all handles are as they were
  pub kept : KeepsHandles old new
  kept = record {
    stays = λ k l. (
      let a = l.0 in let b = longer c in omega (arith, a, b),
      let a = l.1 in let b = longer r in
          omega (arith, a, b),
    );
    entries = λ k l. (in-more c k.current l.0, in-more r k.finished l.1);
    others = λ k a h. record { current = part h.current; finished = part_rounds h.finished };
  }

-- one entry that isn't a link
pub gives_one : (log : Log) (cs : Commands) (e : Entry) (c : Command) → GivesCommand log e c
    → Gives log cs (e ∷ []) (command cs c)
gives_one log cs (Entry.binds name x) c h =
    subst (λ d. Gives log cs (Entry.binds name x ∷ []) (command cs d)) (sym h)
    (gives_binding cs name x [] _ (gives_nothing _))
gives_one log cs (Entry.binds_nothing name) c h =
    subst (λ d. Gives log cs (Entry.binds_nothing name ∷ []) (command cs d)) (sym h)
    (gives_empty cs name [] _ (gives_nothing _))
gives_one log cs (Entry.skips name) c h =
    subst (λ d. Gives log cs (Entry.skips name ∷ []) (command cs d)) (sym h) (gives_skip cs name [] _ (gives_nothing _))
gives_one log cs (Entry.misses name kind) c h =
    subst (λ d. Gives log cs (Entry.misses name kind ∷ []) (command cs d)) (sym h)
    (gives_missing cs name kind [] _ (gives_nothing _))
gives_one log cs (Entry.nests finished current) c (rs, ds, p, q, h) =
    subst (λ d. Gives log cs (Entry.nests finished current ∷ []) (command cs d)) (sym h)
    (gives_nested cs finished current [] rs ds _ p q (gives_nothing _))
gives_one log cs (Entry.links part) c h = absurd h

-- the whole of a list
pub whole : (log : Log) (i : ℕ) (es : List Entry) (cs all : Commands) → slice_get log.commands i ≡ Some es
    → Gives log cs es all →
    PartGives log cs (record { list = i; first = length es }) all
whole log i es cs all e h = part_gives cs _ all es e (omega arith)
    (subst (λ x. Gives log cs x all) (sym (take-whole es)) h)

pub whole_rounds : (log : Log) (i : ℕ) (es : List RoundEntry) (rs all : CommandRounds)
    → slice_get log.rounds i ≡ Some es → GivesRounds log rs es all →
    PartGivesRounds log rs (record { list = i; first = length es }) all
whole_rounds log i es rs all e h = part_gives_rounds rs _ all es e (omega arith)
    (subst (λ x. GivesRounds log rs x all) (sym (take-whole es)) h)
