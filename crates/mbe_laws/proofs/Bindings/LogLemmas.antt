-- Each live handle of an ordered log has an account.
use Rattle.std.specs.Prelude.{◌≡◌, ◌<◌, ◌≤◌, ◌+◌, ℕ, zero, suc, List, [], ◌∷◌, ◌++◌, take, slice_get, Some, refl}
use Rattle.std.proofs.Common.{arith}
use Rattle.mbe_semantics.specs.declared.list_prefix.ListPrefix.{ListPrefix}
use Rattle.mbe_semantics.specs.Bindings.Account.{Command, Commands, CommandRounds, no_commands, command}
use Rattle.mbe_semantics.specs.Bindings.Account.{no_command_rounds, command_round, Entry, RoundEntry, Log, Order, Gives}
use Rattle.mbe_semantics.specs.Bindings.Account.{GivesRounds, PartGives, PartGivesRounds, gives_nothing, gives_binding}
use Rattle.mbe_semantics.specs.Bindings.Account.{gives_empty, gives_skip, gives_missing, gives_nested, gives_link}
use Rattle.mbe_semantics.specs.Bindings.Account.{gives_no_rounds, gives_round, gives_linked_rounds, part_gives}
use Rattle.mbe_semantics.specs.Bindings.Account.{part_gives_rounds, IsBelow, AreRoundsBelow, NamesLower}
use Rattle.mbe_semantics.specs.Bindings.Account.{RoundNamesLower, IsOrdered}
use Rattle.mbe_semantics.specs.Laws.Laws.{EntriesHaveAccounts, EntriesFollow}
use Rattle.mbe_semantics.proofs.GivesLemmas.{follow, rounds_follow}

module _ (log : Log) (order : Order) where
  -- each entry has a number below n, and stands for lower ones
  abbrev AreReady : ℕ → List Entry → Type 0
  AreReady n [] = Unit {0}
  AreReady n (e ∷ es) = ((k : ℕ) × (k < n) × NamesLower log order k e) × AreReady n es

  -- the same, of rounds
  abbrev AreRoundsReady : ℕ → List RoundEntry → Type 0
  AreRoundsReady n [] = Unit {0}
  AreRoundsReady n (e ∷ es) = ((k : ℕ) × (k < n) × RoundNamesLower log order k e) × AreRoundsReady n es

  -- the first m entries, whose numbers are those of places from i on
  ready_list : (n m : ℕ) (number : ℕ → ℕ) (es : List Entry) → ((j : ℕ) → j < m → number j < n)
      → ((j : ℕ) (e : Entry) → slice_get es j ≡ Some e → NamesLower log order (number j) e) → AreReady n (take m es)
  ready_list n zero number [] b h = tt
  ready_list n zero number (e ∷ es) b h = tt
  ready_list n (suc m) number [] b h = tt
  ready_list n (suc m) number (e ∷ es) b h = (
    (number 0, b 0 (omega arith), h 0 e refl),
    ready_list n m (λ j. number (suc j)) es (λ j k. b (suc j) (omega (arith, k))) (λ j x k. h (suc j) x k),
  )

  ready_rounds : (n m : ℕ) (number : ℕ → ℕ) (es : List RoundEntry) → ((j : ℕ) → j < m → number j < n)
      → ((j : ℕ) (e : RoundEntry) → slice_get es j ≡ Some e → RoundNamesLower log order (number j) e)
      → AreRoundsReady n (take m es)
  ready_rounds n zero number [] b h = tt
  ready_rounds n zero number (e ∷ es) b h = tt
  ready_rounds n (suc m) number [] b h = tt
  ready_rounds n (suc m) number (e ∷ es) b h = (
    (number 0, b 0 (omega arith), h 0 e refl),
    ready_rounds n m (λ j. number (suc j)) es (λ j k. b (suc j) (omega (arith, k))) (λ j x k. h (suc j) x k),
  )

  -- lists of entries with numbers below n give something
  abbrev ListsGive : ℕ → Type 0
  ListsGive n = (es : List Entry) → AreReady n es → (cs : Commands) → (all : Commands) × Gives log cs es all

  abbrev RoundsGive : ℕ → Type 0
  RoundsGive n = (es : List RoundEntry) → AreRoundsReady n es → (rs : CommandRounds)
      → (all : CommandRounds) × GivesRounds log rs es all

  part_some : IsOrdered log order → (n k : ℕ) (part : ListPrefix) → k ≤ n → ListsGive n → IsBelow log order k part
      → (cs : Commands) → (all : Commands) × PartGives log cs part all
  part_some o n k part h give b cs =
      let p = give (take part.first b.0.0) (ready_list n part.first (order.commands part.list) b.0.0
      (λ j l. let a = b.1 j l in omega (arith, h, a)) (λ j e x. o.commands part.list j b.0.0 e b.0.1 x)) cs in
      (p.0, part_gives cs part p.0 b.0.0 b.0.1 b.0.2 p.1)

  rounds_part_some : IsOrdered log order → (n k : ℕ) (part : ListPrefix) → k ≤ n → RoundsGive n
      → AreRoundsBelow log order k part → (rs : CommandRounds) →
      (all : CommandRounds) × PartGivesRounds log rs part all
  rounds_part_some o n k part h give b rs =
      let p = give (take part.first b.0.0) (ready_rounds n part.first (order.rounds part.list) b.0.0
      (λ j l. let a = b.1 j l in omega (arith, h, a)) (λ j e x. o.rounds part.list j b.0.0 e b.0.1 x)) rs in
      (p.0, part_gives_rounds rs part p.0 b.0.0 b.0.1 b.0.2 p.1)

  list_step : IsOrdered log order → (n : ℕ) → ListsGive n → RoundsGive n → ListsGive (suc n)
  list_step o n f r [] b cs = (cs, gives_nothing cs)
  list_step o n f r (Entry.binds name x ∷ es) b cs =
      let p = list_step o n f r es b.1 (command cs (Command.binds name x)) in (p.0, gives_binding cs name x es p.0 p.1)
  list_step o n f r (Entry.binds_nothing name ∷ es) b cs =
      let p = list_step o n f r es b.1 (command cs (Command.binds_nothing name)) in
      (p.0, gives_empty cs name es p.0 p.1)
  list_step o n f r (Entry.skips name ∷ es) b cs =
      let p = list_step o n f r es b.1 (command cs (Command.skips name)) in (p.0, gives_skip cs name es p.0 p.1)
  list_step o n f r (Entry.misses name kind ∷ es) b cs =
      let p = list_step o n f r es b.1 (command cs (Command.misses name kind)) in
      (p.0, gives_missing cs name kind es p.0 p.1)
  list_step o n f r (Entry.nests finished current ∷ es) b cs =
      let q = rounds_part_some o n (b.0).0 finished (let a = (b.0).1 in omega (arith, a)) r ((b.0).2).0
      no_command_rounds in
      let c = part_some o n (b.0).0 current (let a = (b.0).1 in omega (arith, a)) f ((b.0).2).1 no_commands in
      let p = list_step o n f r es b.1 (command cs (Command.nests (command_round q.0 c.0))) in
      (p.0, gives_nested cs finished current es q.0 c.0 p.0 q.1 c.1 p.1)
  list_step o n f r (Entry.links part ∷ es) b cs =
      let c = part_some o n (b.0).0 part (let a = (b.0).1 in omega (arith, a)) f (b.0).2 cs in
      let p = list_step o n f r es b.1 c.0 in
      (p.0, gives_link cs part es c.0 p.0 c.1 p.1)

  rounds_step : IsOrdered log order → (n : ℕ) → ListsGive n → RoundsGive n → RoundsGive (suc n)
  rounds_step o n f r [] b rs = (rs, gives_no_rounds rs)
  rounds_step o n f r (RoundEntry.finishes part ∷ es) b rs =
      let c = part_some o n (b.0).0 part (let a = (b.0).1 in omega (arith, a)) f (b.0).2 no_commands in
      let p = rounds_step o n f r es b.1 (command_round rs c.0) in
      (p.0, gives_round rs part es c.0 p.0 c.1 p.1)
  rounds_step o n f r (RoundEntry.links part ∷ es) b rs =
      let q = rounds_part_some o n (b.0).0 part (let a = (b.0).1 in omega (arith, a)) r (b.0).2 rs in
      let p = rounds_step o n f r es b.1 q.0 in
      (p.0, gives_linked_rounds rs part es q.0 p.0 q.1 p.1)

  both_give : IsOrdered log order → (n : ℕ) → ListsGive n × RoundsGive n
  both_give o zero = (no_list, no_rounds)
    where
      no_list : ListsGive 0
      no_list [] b cs = (cs, gives_nothing cs)
      no_list (e ∷ es) b cs = let a = (b.0).1 in absurd (omega (arith, a))

      no_rounds : RoundsGive 0
      no_rounds [] b rs = (rs, gives_no_rounds rs)
      no_rounds (e ∷ es) b rs = let a = (b.0).1 in absurd (omega (arith, a))
  both_give o (suc n) = let p = both_give o n in (list_step o n p.0 p.1, rounds_step o n p.0 p.1)

-- a number above those of the first places
above : (number : ℕ → ℕ) (m : ℕ) → (n : ℕ) × ((j : ℕ) → j < m → number j < n)
above number zero = (0, λ j h. omega (arith, h))
above number (suc m) = let p = above (λ j. number (suc j)) m in (1 + number 0 + p.0, go p)
  where
    go : (p : (n : ℕ) × ((j : ℕ) → j < m → number (suc j) < n)) (j : ℕ) → j < suc m → number j < 1 + number 0 + p.0
    go p zero h = omega arith
    go p (suc j) h = let a = p.1 j (omega (arith, h)) in omega (arith, a)

pub entries_have_accounts : EntriesHaveAccounts
entries_have_accounts log order h o l =
    let b = above (order.commands h.current.list) h.current.first in
    let d = above (order.rounds h.finished.list) h.finished.first in
    let p = part_some log order o b.0 b.0 h.current (omega arith) (both_give log order o b.0).0 (l.0, b.1)
    no_commands in
    let q = rounds_part_some log order o d.0 d.0 h.finished (omega arith) (both_give log order o d.0).1 (l.1, d.1)
    no_command_rounds in
    (record { finished = q.0; current = p.0 }, record { current = p.1; finished = q.1 })

pub entries_follow : EntriesFollow
entries_follow = record {
  commands = λ log cs middle all es more a b. follow log a more all b;
  rounds = λ log rs middle all es more a b. rounds_follow log a more all b;
}
