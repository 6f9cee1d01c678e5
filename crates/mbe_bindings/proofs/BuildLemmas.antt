-- What building goes through.
use Rattle.std.specs.Prelude.{◌≡◌, ◌≤◌, ◌-◌, ℕ, zero, suc, List, [], ◌∷◌, ◌++◌, length, map, take, drop, slice_get}
use Rattle.std.specs.Prelude.{Option, Some, None, Result, Ok, Err, IfOk, refl}
use Rattle.std.proofs.Common.{arith, sym, ap, subst, ◌∙◌}
use Rattle.std.proofs.lemmas.List.{map-append}
use Rattle.mbe_semantics.specs.declared.list_prefix.ListPrefix.{ListPrefix}
use Rattle.mbe_log.specs.declared.log.Command as code
use Rattle.mbe_log.specs.Chain.{Chain, link_in, own_in}
use Rattle.mbe_log.specs.LogEntries.{commands_seen, rounds_seen, first_link, first_round_link, entry_seen, log_of}
use Rattle.mbe_log.specs.Sound.{IsSound, GivesCommand}
use Rattle.mbe_semantics.specs.Bindings.Account.{Account, Command, Commands, CommandRounds, no_commands, command}
use Rattle.mbe_semantics.specs.Bindings.Account.{command_round, Entry, RoundEntry, Log, Handle, HasEntriesOf, IsAccount}
use Rattle.mbe_semantics.specs.Bindings.Account.{Gives, GivesRounds, PartGives, PartGivesRounds, run, gives_nothing}
use Rattle.mbe_semantics.specs.Bindings.Account.{gives_binding, gives_empty, gives_skip, gives_missing, gives_nested}
use Rattle.mbe_semantics.specs.Bindings.Account.{gives_link, gives_no_rounds, gives_round, gives_linked_rounds}
use Rattle.mbe_semantics.specs.Bindings.Account.{part_gives, part_gives_rounds}
use Rattle.mbe_bindings.specs.declared.bindings.Bindings.{Bindings}
use Rattle.mbe_bindings.specs.BindingViews.{env_of}
use Rattle.mbe_bindings.specs.Replay.{IsPartGrounded}
use Rattle.mbe_bindings.specs.FlatEntries.{Flat, ends, continues}
use Rattle.mbe_log.proofs.SeenLemmas.{get-map, take-none}
use Rattle.mbe_log.proofs.CallLemmas.{grounded-part}
use Rattle.mbe_semantics.proofs.GivesLemmas.{follow, rounds_follow}

-- ---- lists

take-mapped : {X Y : Type 0} (f : X → Y) (n : ℕ) (xs : List X) → take n (map f xs) ≡ map f (take n xs)
take-mapped f zero xs = take-none (map f xs) ∙ ap (map f) (sym (take-none xs))
take-mapped f (suc n) [] = refl
take-mapped f (suc n) (x ∷ xs) = ap (λ t. f x ∷ t) (take-mapped f n xs)

pub drop-at : {X : Type 0} (xs : List X) (i : ℕ) (x : X) → slice_get xs i ≡ Some x → drop i xs ≡ x ∷ drop (suc i) xs
drop-at [] i x h = cc
drop-at (y ∷ xs) zero x h = let k : y ≡ x = cc in ap (λ z. z ∷ drop 1 (y ∷ xs)) k
drop-at (y ∷ xs) (suc i) x h = drop-at xs i x h

pub drop-end : {X : Type 0} (xs : List X) (i : ℕ) → length xs ≤ i → drop i xs ≡ []
drop-end [] zero h = refl
drop-end [] (suc i) h = refl
drop-end (x ∷ xs) zero h = absurd (omega (arith, h))
drop-end (x ∷ xs) (suc i) h = drop-end xs i (omega (arith, h))

-- ---- heads

link_head : {log : Log} {ds all : Commands} {p : ListPrefix} {es : List Entry} → Gives log ds (Entry.links p ∷ es) all
    → (mid : Commands) × PartGives log ds p mid × Gives log mid es all
link_head (gives_link cs p es ds all q h) = (ds, q, h)

link_rounds_head : {log : Log} {ds all : CommandRounds} {p : ListPrefix} {es : List RoundEntry}
    → GivesRounds log ds (RoundEntry.links p ∷ es) all →
    (mid : CommandRounds) × PartGivesRounds log ds p mid × GivesRounds log mid es all
link_rounds_head (gives_linked_rounds rs p es qs all q h) = (qs, q, h)

pub round_head : {log : Log} {ds all : CommandRounds} {p : ListPrefix} {es : List RoundEntry}
    → GivesRounds log ds (RoundEntry.finishes p ∷ es) all →
    (cs : Commands) × PartGives log no_commands p cs × GivesRounds log (command_round ds cs) es all
round_head (gives_round rs p es cs all q h) = (cs, q, h)

pub end_of : {log : Log} {ds all : Commands} → Gives log ds [] all → ds ≡ all
end_of (gives_nothing cs) = refl

pub rounds_end_of : {log : Log} {ds all : CommandRounds} → GivesRounds log ds [] all → ds ≡ all
rounds_end_of (gives_no_rounds rs) = refl

-- the command of an entry that isn't a link
abbrev Head : Log → Commands → Entry → List Entry → Commands → Type 0
Head log ds e es all = (c : Command) × GivesCommand log e c × Gives log (command ds c) es all

pub command_head : {A : Type 0} {log : Log} {ds all : Commands} (x : code.Command A) {es : List Entry}
    → Gives log ds (entry_seen x ∷ es) all → Head log ds (entry_seen x) es all
command_head (code.TheVariants.Fragment name x) (gives_binding cs n y es all h) = (Command.binds _ _, refl, h)
command_head (code.TheVariants.Optional name) (gives_empty cs n es all h) = (Command.binds_nothing _, refl, h)
command_head (code.TheVariants.Empty name) (gives_skip cs n es all h) = (Command.skips _, refl, h)
command_head (code.TheVariants.Missing name kind) (gives_missing cs n k es all h) = (Command.misses _ _, refl, h)
command_head (code.TheVariants.Nested finished current) (gives_nested cs f c es rs ds all p q h) =
    (Command.nests (command_round rs ds), (rs, ds, p, q, refl), h)

module _ {A : Type 0} (C : List (Chain (code.Command A))) (R : List (Chain ListPrefix)) where
  -- ---- the flat entries of a part give the same

  no_link : (k : Option ListPrefix) (own : List (code.Command A)) (n : ℕ) → link_in k n ≡ None
      → take n (first_link k ++ map entry_seen own) ≡ map entry_seen (take (own_in k n) own)
  no_link None own n h = take-mapped entry_seen n own
  no_link (Some p) own zero h = ap (map entry_seen) (sym (take-none own))
  no_link (Some p) own (suc n) h = cc

  after_link : (k : Option ListPrefix) (own : List (code.Command A)) (n : ℕ) (p : ListPrefix) → link_in k n ≡ Some p →
      take n (first_link k ++ map entry_seen own) ≡ Entry.links p ∷ map entry_seen (take (own_in k n) own)
  after_link None own n p h = cc
  after_link (Some q) own zero p h = cc
  after_link (Some q) own (suc n) p h =
      let e : q ≡ p = cc in
      let m : suc n - 1 ≡ n = omega arith in
      ap (λ t. Entry.links q ∷ t) (take-mapped entry_seen n own ∙ ap (λ j. map entry_seen (take j own)) (sym m))
      ∙ ap (λ r. Entry.links r ∷ map entry_seen (take (suc n - 1) own)) e

  pub flat_gives : {part : ListPrefix} {xs : List (code.Command A)} → Flat C part xs → (ds all : Commands)
      → PartGives (log_of C R) ds part all → Gives (log_of C R) ds (map entry_seen xs) all
  flat_gives (ends part l xs s n e) ds all (part_gives cs p _ es f m h) =
      let k = get-map commands_seen C part.list es f in
      let w : k.0 ≡ l = let q = k.1 in cc in
      subst (λ ys. Gives (log_of C R) ds (map entry_seen ys) all) (sym e)
      (subst (λ ys. Gives (log_of C R) ds ys all)
      (ap (take part.first) (sym k.2 ∙ ap commands_seen w) ∙ no_link l.link l.own part.first n) h)
  flat_gives (continues part l link ys xs s n g e) ds all (part_gives cs p _ es f m h) =
      let k = get-map commands_seen C part.list es f in
      let w : k.0 ≡ l = let q = k.1 in cc in
      let j = link_head (subst (λ ys. Gives (log_of C R) ds ys all)
      (ap (take part.first) (sym k.2 ∙ ap commands_seen w) ∙ after_link l.link l.own part.first link n) h) in
      subst (λ zs. Gives (log_of C R) ds zs all)
      (sym (ap (map entry_seen) e ∙ map-append entry_seen ys (take (own_in l.link part.first) l.own)))
      (follow (log_of C R) (flat_gives g ds j.0 j.1) (map entry_seen (take (own_in l.link part.first) l.own)) all j.2)

  no_round_link : (k : Option ListPrefix) (own : List ListPrefix) (n : ℕ) → link_in k n ≡ None →
      take n (first_round_link k ++ map RoundEntry.finishes own) ≡ map RoundEntry.finishes (take (own_in k n) own)
  no_round_link None own n h = take-mapped RoundEntry.finishes n own
  no_round_link (Some p) own zero h = ap (map RoundEntry.finishes) (sym (take-none own))
  no_round_link (Some p) own (suc n) h = cc

  after_round_link : (k : Option ListPrefix) (own : List ListPrefix) (n : ℕ) (p : ListPrefix) → link_in k n ≡ Some p →
      take n (first_round_link k ++ map RoundEntry.finishes own)
      ≡ RoundEntry.links p ∷ map RoundEntry.finishes (take (own_in k n) own)
  after_round_link None own n p h = cc
  after_round_link (Some q) own zero p h = cc
  after_round_link (Some q) own (suc n) p h =
      let e : q ≡ p = cc in
      let m : suc n - 1 ≡ n = omega arith in
      ap (λ t. RoundEntry.links q ∷ t) (take-mapped RoundEntry.finishes n own
      ∙ ap (λ j. map RoundEntry.finishes (take j own)) (sym m))
      ∙ ap (λ r. RoundEntry.links r ∷ map RoundEntry.finishes (take (suc n - 1) own)) e

  pub flat_rounds : {part : ListPrefix} {xs : List ListPrefix} → Flat R part xs → (ds all : CommandRounds)
      → PartGivesRounds (log_of C R) ds part all →
      GivesRounds (log_of C R) ds (map RoundEntry.finishes xs) all
  flat_rounds (ends part l xs s n e) ds all (part_gives_rounds cs p _ es f m h) =
      let k = get-map rounds_seen R part.list es f in
      let w : k.0 ≡ l = let q = k.1 in cc in
      subst (λ ys. GivesRounds (log_of C R) ds (map RoundEntry.finishes ys) all) (sym e)
      (subst (λ ys. GivesRounds (log_of C R) ds ys all)
      (ap (take part.first) (sym k.2 ∙ ap rounds_seen w) ∙ no_round_link l.link l.own part.first n) h)
  flat_rounds (continues part l link ys xs s n g e) ds all (part_gives_rounds cs p _ es f m h) =
      let k = get-map rounds_seen R part.list es f in
      let w : k.0 ≡ l = let q = k.1 in cc in
      let j = link_rounds_head (subst (λ ys. GivesRounds (log_of C R) ds ys all)
      (ap (take part.first) (sym k.2 ∙ ap rounds_seen w) ∙ after_round_link l.link l.own part.first link n) h) in
      subst (λ zs. GivesRounds (log_of C R) ds zs all)
      (sym (ap (map RoundEntry.finishes) e
      ∙ map-append RoundEntry.finishes ys (take (own_in l.link part.first) l.own)))
      (rounds_follow (log_of C R) (flat_rounds g ds j.0 j.1)
      (map RoundEntry.finishes (take (own_in l.link part.first) l.own)) all j.2)

-- ---- what a handle stands for

module _ {A : Type 0} (C : List (Chain (code.Command A))) (R : List (Chain ListPrefix)) (log : Log)
    (seen : log_of C R ≡ log) (h : Handle) (part : ListPrefix) (is : part ≡ h.current) where
  pub build-grounded : (n : ℕ) → IsSound C R n → HasEntriesOf log h → IsPartGrounded (log_of C R) part n
  build-grounded n s l =
      subst (λ p. IsPartGrounded (log_of C R) p n) (sym is)
      (grounded-part (log_of C R) n s.grounded h.current (subst (λ x. HasEntriesOf x h) (sym seen) l).0)

  pub build-returns : {E : Type 0} (r : Result (Bindings A) E) →
      IfOk r (λ b. (cs : Commands) → PartGives (log_of C R) no_commands part cs → env_of b ≡ run cs []) →
      IfOk r (λ b. (a : Account) → IsAccount log h a → env_of b ≡ run a.current [])
  build-returns (Err x) k = k
  build-returns (Ok b) k = λ a m. k a.current
      (subst (λ p. PartGives (log_of C R) no_commands p a.current) (sym is)
      (subst (λ x. IsAccount x h a) (sym seen) m).current)
