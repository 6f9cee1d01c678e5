-- Building, step by step.
use Rattle.std.specs.Prelude.{◌≡◌, ◌<◌, ◌≤◌, ◌+◌, ◌-◌, ℕ, suc, List, [], ◌∷◌, length, map, drop, slice_get, Option}
use Rattle.std.specs.Prelude.{Some, None, Result, Ok, Err, OnOk, refl, if◌then◌else◌, Bool, true, false, not}
use Rattle.std.proofs.Common.{arith, sym, ap, subst, ◌∙◌, get_or}
use Rattle.std.specs.Str.{bytes_eq}
use Rattle.mbe_semantics.specs.declared.list_prefix.ListPrefix.{ListPrefix}
use Rattle.mbe_log.specs.declared.log.Command as code
use Rattle.mbe_log.specs.Chain.{Chain}
use Rattle.mbe_bindings.specs.FlatEntries.{Flat, own_of, entry_at, AreSlots}
use Rattle.mbe_log.specs.LogEntries.{entry_seen, log_of}
use Rattle.mbe_semantics.specs.Bindings.Environment.{Environment, fragment, value_of}
use Rattle.mbe_semantics.specs.Bindings.Account.{Command, Commands, CommandRounds, no_commands, command}
use Rattle.mbe_semantics.specs.Bindings.Account.{no_command_rounds, command_round, RoundEntry, Gives, GivesRounds}
use Rattle.mbe_semantics.specs.Bindings.Account.{PartGives, PartGivesRounds, run, run_command, run_rounds, round_count}
use Rattle.mbe_semantics.specs.Bindings.Account.{add_round_in, grown_in}
use Rattle.mbe_semantics.specs.Syntax.Op.{Name}
use Rattle.mbe_log.specs.declared.fragment.Fragment.{Fragment}
use Rattle.mbe_log.specs.FragmentViews.{fragment_seen}
use Rattle.mbe_bindings.specs.Replay.{BindsRound, IsBuiltSoFar, AreBoundSoFar}
use Rattle.mbe_log.specs.Sound.{command_depth, rounds_depth, GivesCommand}
use Rattle.mbe_bindings.specs.Replay.{IsPartGrounded, IsCommandGrounded, AreRoundsGrounded}
use Rattle.mbe_log.proofs.ChainLemmas.{got, in_range}
use Rattle.mbe_log.proofs.LogLemmas.{there}
use Rattle.mbe_log.proofs.SeenLemmas.{get-map, map-get, deeper, deeper_rounds}
use Rattle.mbe_bindings.proofs.BuildLemmas.{drop-at, drop-end, round_head, command_head, end_of, rounds_end_of}
use Rattle.mbe_bindings.proofs.BuildLemmas.{flat_gives, flat_rounds}

length-mapped : {X Y : Type 0} (f : X → Y) (xs : List X) → length (map f xs) ≡ length xs
length-mapped f [] = refl
length-mapped f (x ∷ xs) = ap suc (length-mapped f xs)

module _ {T : Type 0} (lists : List (Chain T)) where
  own_there : (o : Option (Chain T)) (i : ℕ) (x : T) → own_of o i ≡ Some x
      → (l : Chain T) × (o ≡ Some l) × (slice_get l.own i ≡ Some x)
  own_there None i x h = cc
  own_there (Some l) i x h = (l, refl, h)

  -- what is at the place of this index
  pub at_place : (items : List ListPrefix) (xs : List T) → map (entry_at lists) items ≡ map Some xs
      → (i : ℕ) (d : ListPrefix)
      → i < length items →
      (x : T) × (slice_get xs i ≡ Some x) × (l : Chain T) × (slice_get lists (get_or items i d).list ≡ Some l)
      × (slice_get l.own (get_or items i d).first ≡ Some x)
  at_place items xs e i d h =
      let p = there items i h in
      let q : get_or items i d ≡ p.0 = got items i p.0 d p.1 in
      let m = get-map Some xs i (entry_at lists p.0)
      (ap (λ ys. slice_get ys i) (sym e) ∙ map-get (entry_at lists) items i p.0 p.1) in
      let o = own_there (slice_get lists p.0.list) p.0.first m.0 (sym m.2) in (
        m.0,
        m.1,
        o.0,
        subst (λ r. slice_get lists r.list ≡ Some o.0) (sym q) o.1,
        subst (λ r. slice_get o.0.own r.first ≡ Some m.0) (sym q) o.2,
      )

  module _ (part : ListPrefix) (found items : List ListPrefix) (a : AreSlots lists part found) (same : items
      ≡ found) (i : ℕ) where
    pub alike : map (entry_at lists) items ≡ map Some a.0
    alike = ap (map (entry_at lists)) same ∙ a.2

    pub list_there : (d : ListPrefix) → i < length items → (get_or items i d).list < length lists
    list_there d h = let p = at_place items a.0 alike i d h in in_range lists (get_or items i d).list p.2 p.3

    pub own_in_list : (d : ListPrefix) (l : Chain T) → i < length items → l ≡ get_or lists (get_or items i d).list l
        → (get_or items i d).first < length l.own
    own_in_list d l h e =
        let p = at_place items a.0 alike i d h in
        let q : l ≡ p.2 = e ∙ got lists (get_or items i d).list p.2 l p.3 in
        subst (λ m. (get_or items i d).first < length m.own) (sym q) (in_range p.2.own (get_or items i d).first p.0 p.4)

    -- the entry that was found is the one of this index, whichever entries are meant
    pub same_entry : (d : ListPrefix) (l : Chain T) (x : T) → i < length items → l
        ≡ get_or lists (get_or items i d).list l
        → slice_get l.own (get_or items i d).first ≡ Some x →
        (xs : List T) → map (entry_at lists) items ≡ map Some xs → slice_get xs i ≡ Some x
    same_entry d l x h e s xs m =
        let p = at_place items xs m i d h in
        let q : l ≡ p.2 = e ∙ got lists (get_or items i d).list p.2 l p.3 in
        let r : p.0 ≡ x = let u = subst (λ m. slice_get m.own (get_or items i d).first ≡ Some x) q s in let v =
        p.4 in cc in
        p.1 ∙ ap Some r

module _ {A : Type 0} (C : List (Chain (code.Command A))) (R : List (Chain ListPrefix)) (items : List ListPrefix)
    (i : ℕ) where
  -- ---- commands

  module _ (env : Environment) (x : code.Command A) (built : IsBuiltSoFar C R items i env)
      (here : (xs : List (code.Command A)) → map (entry_at C) items ≡ map Some xs → slice_get xs i ≡ Some x) where
    next_command : (xs : List (code.Command A)) → map (entry_at C) items ≡ map Some xs → (cs : Commands)
        → Gives (log_of C R) no_commands (map entry_seen xs) cs →
        (mid : Commands) × (c : Command) × GivesCommand (log_of C R) (entry_seen x) c
        × Gives (log_of C R) (command mid c) (map entry_seen (drop (suc i) xs)) cs × (env ≡ run mid [])
    next_command xs m cs h =
        let b = built xs m cs h in
        let k = command_head x (subst (λ ys. Gives (log_of C R) b.0 (map entry_seen ys) cs) (drop-at xs i x (here xs m))
        b.1) in
        (b.0, k.0, k.1, k.2, b.2)

    pub grounded_command : (part : ListPrefix) (found : List ListPrefix) (most : ℕ) → AreSlots C part found → items
        ≡ found
        → IsPartGrounded (log_of C R) part most →
        IsCommandGrounded (log_of C R) (entry_seen x) most
    grounded_command part found most a same g =
        let k = next_command a.0 (ap (map (entry_at C)) same ∙ a.2) g.0 (flat_gives C R a.1 no_commands g.0 g.1) in
        (k.1, k.2, let u = deeper k.3 in let v = g.2 in omega (arith, u, v))

    pub built-step : (after : Environment)
        → ((c : Command) → GivesCommand (log_of C R) (entry_seen x) c → after ≡ run_command c env)
        → IsBuiltSoFar C R items (i + 1) after
    built-step after s = λ xs m cs h.
        let k = next_command xs m cs h in
        let j : suc i ≡ i + 1 = omega arith in (
          command k.0 k.1,
          subst (λ n. Gives (log_of C R) (command k.0 k.1) (map entry_seen (drop n xs)) cs) j k.3,
          s k.1 k.2 ∙ ap (run_command k.1) k.4,
        )

  pub built-end : (env : Environment) (part : ListPrefix) (found : List ListPrefix) → IsBuiltSoFar C R items i env
      → AreSlots C part found → items ≡ found → length items ≤ i →
      (cs : Commands) → PartGives (log_of C R) no_commands part cs → env ≡ run cs []
  built-end env part found built a same long cs p =
      let m : map (entry_at C) items ≡ map Some a.0 = ap (map (entry_at C)) same ∙ a.2 in
      let b = built a.0 m cs (flat_gives C R a.1 no_commands cs p) in
      let n : length a.0 ≤ i = (let u = length-mapped (entry_at C) items in let v = length-mapped Some a.0 in
      let w = ap length m in omega (arith, u, v, w, long)) in
      let e : b.0 ≡ cs = end_of (subst (λ ys. Gives (log_of C R) b.0 (map entry_seen ys) cs) (drop-end a.0 i n) b.1) in
      b.2 ∙ ap (λ ds. run ds []) e

  -- ---- rounds

  module _ (before env : Environment) (x : ListPrefix) (bound : AreBoundSoFar C R items i before env)
      (here : (xs : List ListPrefix) → map (entry_at R) items ≡ map Some xs → slice_get xs i ≡ Some x) where
    next_round : (xs : List ListPrefix) → map (entry_at R) items ≡ map Some xs → (rs : CommandRounds)
        → GivesRounds (log_of C R) no_command_rounds (map RoundEntry.finishes xs) rs →
        (mid : CommandRounds) × (cs : Commands) × PartGives (log_of C R) no_commands x cs
        × GivesRounds (log_of C R) (command_round mid cs) (map RoundEntry.finishes (drop (suc i) xs)) rs
        × (round_count mid ≡ i) × (env ≡ run_rounds mid before)
    next_round xs m rs h =
        let b = bound xs m rs h in
        let k = round_head (subst (λ ys. GivesRounds (log_of C R) b.0 (map RoundEntry.finishes ys) rs)
        (drop-at xs i x (here xs m)) b.1) in
        (b.0, k.0, k.1, k.2, b.2, b.3)

    pub grounded_round : (finished last : ListPrefix) (found : List ListPrefix) (most : ℕ) → AreSlots R finished found
        → items ≡ found → AreRoundsGrounded (log_of C R) finished last most →
        IsPartGrounded (log_of C R) x most
    grounded_round finished last found most a same g =
        let k = next_round a.0 (ap (map (entry_at R)) same ∙ a.2) g.0 (flat_rounds C R a.1 no_command_rounds g.0 g.2) in
        (k.1, k.2, let u = deeper_rounds k.3 in let v = g.4 in omega (arith, u, v))

    pub bound-step : (after : Environment) → BindsRound C R x i env after → AreBoundSoFar C R items (i + 1) before after
    bound-step after s = λ xs m rs h.
        let k = next_round xs m rs h in
        let j : suc i ≡ i + 1 = omega arith in (
          command_round k.0 k.1,
          subst (λ n. GivesRounds (log_of C R) (command_round k.0 k.1) (map RoundEntry.finishes (drop n xs)) rs) j k.3,
          ap suc k.4 ∙ j,
          s k.1 k.2 ∙ ap (λ n. add_round_in n (run k.1 []) env) (sym k.4)
              ∙ ap (add_round_in (round_count k.0) (run k.1 [])) k.5,
        )

  pub bound-end : (before env after : Environment) (finished last : ListPrefix) (found : List ListPrefix)
      → AreBoundSoFar C R items i before env → AreSlots R finished found →
      items ≡ found → length items ≤ i → i ≡ length found → BindsRound C R last (length found) env after →
      (rs : CommandRounds) (ds : Commands) → PartGivesRounds (log_of C R) no_command_rounds finished rs
      → PartGives (log_of C R) no_commands last ds →
      after ≡ run_rounds (command_round rs ds) before
  bound-end before env after finished last found bound a same long count s rs ds p q =
      let m : map (entry_at R) items ≡ map Some a.0 = ap (map (entry_at R)) same ∙ a.2 in
      let b = bound a.0 m rs (flat_rounds C R a.1 no_command_rounds rs p) in
      let n : length a.0 ≤ i = (let u = length-mapped (entry_at R) items in let v = length-mapped Some a.0 in
      let w = ap length m in omega (arith, u, v, w, long)) in
      let e : b.0 ≡ rs = rounds_end_of (subst (λ ys. GivesRounds (log_of C R) b.0 (map RoundEntry.finishes ys) rs)
      (drop-end a.0 i n) b.1) in
      s ds q ∙ ap (λ n. add_round_in n (run ds []) env) (sym count ∙ sym b.2 ∙ ap round_count e)
      ∙ ap (add_round_in (round_count rs) (run ds [])) (b.3 ∙ ap (λ t. run_rounds t before) e)

-- a round of one variable: its list gets that value
pub bound_alone : {A : Type 0} (C : List (Chain (code.Command A))) (R : List (Chain ListPrefix)) (part : ListPrefix)
    (number : ℕ)
    (before after : Environment)
    (name : Name) (x : Fragment A) → Flat C part (code.TheVariants.Fragment name x ∷ []) →
    after ≡ grown_in number before name (fragment (fragment_seen x)) (value_of before name)
    → BindsRound C R part number before after
bound_alone C R part number before after name x flat s cs p =
    let k = command_head (code.TheVariants.Fragment name x) (flat_gives C R flat no_commands cs p) in
    let e : command no_commands (Command.binds name (fragment_seen x)) ≡ cs =
    subst (λ c. command no_commands c ≡ cs) k.1 (end_of k.2) in
    s ∙ ap (λ ds. add_round_in number (run ds []) before) e

pub is_false : (b : Bool) → not b ≡ true → b ≡ false
is_false true h = cc
is_false false h = refl

-- a round of two variables: the list of each gets its value
pub bound_pair : {A : Type 0} (C : List (Chain (code.Command A))) (R : List (Chain ListPrefix)) (part : ListPrefix)
    (number : ℕ)
    (before middle after : Environment) (name other : Name) (x y : Fragment A)
    → Flat C part (code.TheVariants.Fragment name x ∷ (code.TheVariants.Fragment other y ∷ []))
    → bytes_eq name other ≡ false
    → middle ≡ grown_in number before name (fragment (fragment_seen x)) (value_of before name)
    → after ≡ grown_in number middle other (fragment (fragment_seen y)) (value_of middle other)
    → BindsRound C R part number before after
bound_pair {A} C R part number before middle after name other x y flat differ s t cs p =
    let first = command_head (code.TheVariants.Fragment name x) (flat_gives C R flat no_commands cs p) in
    let one : Commands = command no_commands (Command.binds name (fragment_seen x)) in
    let rest : Gives (log_of C R) one (entry_seen {A = A} (code.TheVariants.Fragment other y) ∷ []) cs =
    subst (λ c. Gives (log_of C R) (command no_commands c)
    (entry_seen {A = A} (code.TheVariants.Fragment other y) ∷ []) cs) first.1 first.2 in
    let second = command_head (code.TheVariants.Fragment other y) rest in
    let e : command one (Command.binds other (fragment_seen y)) ≡ cs =
    subst (λ c. command one c ≡ cs) second.1 (end_of second.2) in
    t ∙ ap (λ env. grown_in number env other (fragment (fragment_seen y)) (value_of env other)) s
    ∙ ap (λ b. add_round_in number (if b then (other, fragment (fragment_seen y)) ∷ []
    else (name, fragment (fragment_seen x)) ∷ ((other, fragment (fragment_seen y)) ∷ [])) before) (sym differ)
    ∙ ap (λ ds. add_round_in number (run ds []) before) e

-- a round that is built by itself
pub bound_apart : {A : Type 0} (C : List (Chain (code.Command A))) (R : List (Chain ListPrefix)) (part : ListPrefix)
    (number : ℕ)
    (before after round : Environment) →
    ((cs : Commands) → PartGives (log_of C R) no_commands part cs → round ≡ run cs [])
    → after ≡ add_round_in number round before →
    BindsRound C R part number before after
bound_apart C R part number before after round r s cs p = s ∙ ap (λ e. add_round_in number e before) (r cs p)

-- a command that only one is given by
pub written_by : {R E : Type 0} (r : Result R E) (P : Command → Type 0) (c : Command) (before after : Environment)
    → OnOk r (after ≡ run_command c before) →
    ((d : Command) → P d → d ≡ c) → OnOk r ((d : Command) → P d → after ≡ run_command d before)
written_by (Ok x) P c before after h only = λ d p. h ∙ ap (λ e. run_command e before) (sym (only d p))
written_by (Err e) P c before after h only = h

-- a nested command: its rounds are a level less deep, and it binds what they do
module _ {A : Type 0} (C : List (Chain (code.Command A))) (R : List (Chain ListPrefix)) (x : code.Command A)
    (finished current : ListPrefix) (is : x ≡ code.TheVariants.Nested finished current) where
  pub nested_grounded : (most : ℕ) → IsCommandGrounded (log_of C R) (entry_seen x) most
      → AreRoundsGrounded (log_of C R) finished current (most - 1) × (1 ≤ most)
  nested_grounded most g =
      let k = subst (λ y. IsCommandGrounded (log_of C R) (entry_seen y) most) is g in
      let n = k.1 in
      let e : command_depth k.0 ≡ suc (rounds_depth (command_round n.0 n.1)) = ap command_depth n.4 in
      let d = k.2 in ((n.0, n.1, n.2, n.3, omega (arith, d, e)), omega (arith, d, e))

  pub nested_returns : {U E : Type 0} (r : Result U E) (before after : Environment)
      → OnOk r ((rs : CommandRounds) (ds : Commands) → PartGivesRounds (log_of C R) no_command_rounds finished rs
      → PartGives (log_of C R) no_commands current ds → after ≡ run_rounds (command_round rs ds) before) →
      OnOk r ((c : Command) → GivesCommand (log_of C R) (entry_seen x) c → after ≡ run_command c before)
  nested_returns (Err e) before after h = h
  nested_returns (Ok u) before after h = λ c g.
      let n = subst (λ y. GivesCommand (log_of C R) (entry_seen y) c) is g in
      h n.0 n.1 n.2 n.3 ∙ ap (λ d. run_command d before) (sym n.4)
