-- What the code's lists are seen as: how long they are, and how deep what they give nests.
use Rattle.std.specs.Prelude.{◌≡◌, ◌≤◌, ◌+◌, ℕ, zero, suc, List, [], ◌∷◌, ◌++◌, length, map, take, slice_get, Option}
use Rattle.std.specs.Prelude.{Some, None, refl}
use Rattle.std.proofs.Common.{arith, ap}
use Rattle.mbe_semantics.specs.declared.list_prefix.ListPrefix.{ListPrefix}
use Rattle.mbe_log.specs.declared.log.Command as code
use Rattle.mbe_log.specs.Chain.{Chain, IsWithin, chain_len, link_len}
use Rattle.mbe_log.specs.LogEntries.{commands_seen, rounds_seen, first_link, first_round_link, entry_seen, log_of}
use Rattle.mbe_semantics.specs.Bindings.Account.{Commands, CommandRounds, Entry, RoundEntry, Log, Gives, GivesRounds}
use Rattle.mbe_semantics.specs.Bindings.Account.{PartGives, PartGivesRounds, gives_nothing, gives_binding, gives_empty}
use Rattle.mbe_semantics.specs.Bindings.Account.{gives_skip, gives_missing, gives_nested, gives_link, gives_no_rounds}
use Rattle.mbe_semantics.specs.Bindings.Account.{gives_round, gives_linked_rounds, part_gives, part_gives_rounds}
use Rattle.mbe_log.specs.Sound.{depth, rounds_depth}

-- ---- lists

pub get-map : {X Y : Type 0} (f : X → Y) (xs : List X) (i : ℕ) (y : Y) → slice_get (map f xs) i ≡ Some y
    → (x : X) × (slice_get xs i ≡ Some x) × (f x ≡ y)
get-map f [] i y h = cc
get-map f (x ∷ xs) zero y h = (x, refl, cc)
get-map f (x ∷ xs) (suc i) y h = get-map f xs i y h

pub map-get : {X Y : Type 0} (f : X → Y) (xs : List X) (i : ℕ) (x : X) → slice_get xs i ≡ Some x
    → slice_get (map f xs) i ≡ Some (f x)
map-get f [] i x h = cc
map-get f (y ∷ xs) zero x h = let k : y ≡ x = cc in ap (λ z. Some (f z)) k
map-get f (y ∷ xs) (suc i) x h = map-get f xs i x h

pub take-none : {X : Type 0} (xs : List X) → take zero xs ≡ []
take-none [] = refl
take-none (x ∷ xs) = refl

-- ---- depth grows

mutual
  pub deeper : {log : Log} {ds all : Commands} {es : List Entry} → Gives log ds es all → depth ds ≤ depth all
  deeper (gives_nothing cs) = omega arith
  deeper (gives_binding cs name x es all h) = let k = deeper h in omega (arith, k)
  deeper (gives_empty cs name es all h) = let k = deeper h in omega (arith, k)
  deeper (gives_skip cs name es all h) = let k = deeper h in omega (arith, k)
  deeper (gives_missing cs name kind es all h) = let k = deeper h in omega (arith, k)
  deeper (gives_nested cs finished current es rs ds all p q h) = let k = deeper h in omega (arith, k)
  deeper (gives_link cs p es ds all q h) = let k = deeper_part q in let l = deeper h in omega (arith, k, l)

  deeper_part : {log : Log} {ds all : Commands} {p : ListPrefix} → PartGives log ds p all → depth ds ≤ depth all
  deeper_part (part_gives cs p all es e l h) = deeper h

mutual
  pub deeper_rounds : {log : Log} {ds all : CommandRounds} {es : List RoundEntry} → GivesRounds log ds es all
      → rounds_depth ds ≤ rounds_depth all
  deeper_rounds (gives_no_rounds rs) = omega arith
  deeper_rounds (gives_round rs p es cs all q h) = let k = deeper_rounds h in omega (arith, k)
  deeper_rounds (gives_linked_rounds rs p es qs all q h) = let k = deeper_rounds_part q in let l =
      deeper_rounds h in omega (arith, k, l)

  deeper_rounds_part : {log : Log} {ds all : CommandRounds} {p : ListPrefix} → PartGivesRounds log ds p all
      → rounds_depth ds ≤ rounds_depth all
  deeper_rounds_part (part_gives_rounds rs p all es e l h) = deeper_rounds h

module _ {A : Type 0} (C : List (Chain (code.Command A))) (R : List (Chain ListPrefix)) where
  pub commands_len : (l : Chain (code.Command A)) → length (commands_seen l) ≡ chain_len l
  commands_len l = go l.link l.own
    where
      lens : (xs : List (code.Command A)) → length (map entry_seen xs) ≡ length xs
      lens [] = refl
      lens (x ∷ xs) = ap suc (lens xs)

      go : (k : Option ListPrefix) (own : List (code.Command A))
          → length (first_link k ++ map entry_seen own) ≡ link_len k + length own
      go None own = let k = lens own in omega (arith, k)
      go (Some p) own = let k = lens own in omega (arith, k)

  pub rounds_len : (l : Chain ListPrefix) → length (rounds_seen l) ≡ chain_len l
  rounds_len l = go l.link l.own
    where
      lens : (xs : List ListPrefix) → length (map RoundEntry.finishes xs) ≡ length xs
      lens [] = refl
      lens (x ∷ xs) = ap suc (lens xs)

      go : (k : Option ListPrefix) (own : List ListPrefix)
          → length (first_round_link k ++ map RoundEntry.finishes own) ≡ link_len k + length own
      go None own = let k = lens own in omega (arith, k)
      go (Some p) own = let k = lens own in omega (arith, k)

  pub is_within : {ds all : Commands} {p : ListPrefix} → PartGives (log_of C R) ds p all → IsWithin C p
  is_within (part_gives cs p all es e l h) =
      let k = get-map commands_seen C p.list es e in
      (k.0, k.1, let a = ap length k.2 in let b = commands_len k.0 in omega (arith, l, a, b))

  pub is_rounds_within : {ds all : CommandRounds} {p : ListPrefix} → PartGivesRounds (log_of C R) ds p all
      → IsWithin R p
  is_rounds_within (part_gives_rounds cs p all es e l h) =
      let k = get-map rounds_seen R p.list es e in
      (k.0, k.1, let a = ap length k.2 in let b = rounds_len k.0 in omega (arith, l, a, b))
