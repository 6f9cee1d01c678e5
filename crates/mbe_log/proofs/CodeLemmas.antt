-- The calls of a log, on the code's lists.
use Rattle.std.specs.Prelude.{◌≡◌, ◌≤◌, ◌+◌, ℕ, suc, List, [], ◌∷◌, ◌++◌, length, map, slice_get, Option, Some, None}
use Rattle.std.specs.Prelude.{refl}
use Rattle.std.proofs.Common.{arith, sym, ap, subst, ◌∙◌, get_or}
use Rattle.mbe_semantics.specs.declared.list_prefix.ListPrefix.{ListPrefix}
use Rattle.mbe_log.specs.declared.log.Command as code
use Rattle.mbe_log.specs.Chain.{Chain, IsChained, IsWithin, IsExtended, chain_len, link_len, link_to, with_link}
use Rattle.mbe_log.specs.Chain.{last_part}
use Rattle.mbe_log.specs.LogEntries.{commands_seen, rounds_seen, first_link, first_round_link, entry_seen, log_of}
use Rattle.mbe_semantics.specs.Bindings.Account.{Account, pushed, pushed_nested, pushed_default, Command, no_commands}
use Rattle.mbe_semantics.specs.Bindings.Account.{no_command_rounds, command_round, Log, Handle, IsIn, HasEntriesOf}
use Rattle.mbe_semantics.specs.Bindings.Account.{Gives, GivesRounds, IsAccount, HasOneListMore}
use Rattle.mbe_log.specs.HandleChanges.{IsNewHandle, IsUpdatedHandle, IsAtEnd, IsWhole, WritesOne, WritesRound}
use Rattle.mbe_log.specs.HandleChanges.{current_len, finished_len, len_at, IsPlain}
use Rattle.mbe_log.specs.Sound.{IsSound, HasOrder, IsGrounded, GivesCommand, command_depth}
use Rattle.mbe_log.proofs.ChainLemmas.{got}
use Rattle.mbe_log.proofs.SeenLemmas.{map-get, get-map, commands_len, rounds_len}
use Rattle.mbe_log.proofs.CallLemmas.{grounded-part, grounded-rounds-part, with_lists, next_handle, given}
use Rattle.mbe_log.proofs.CallLemmas.{given-account, step-changes, step-grounded, default-changes, default-grounded}
use Rattle.mbe_log.proofs.SoundLemmas.{sound-copy, seen-lists, from_link, linked_rounds, plain_command, chained-more}
use Rattle.mbe_log.proofs.SoundLemmas.{chained-extended, at-end, step-of, step-of-rounds}

length-mapped : {X Y : Type 0} (f : X → Y) (xs : List X) → length (map f xs) ≡ length xs
length-mapped f [] = refl
length-mapped f (x ∷ xs) = ap suc (length-mapped f xs)

within-at : {T : Type 0} (lists : List (Chain T)) (p : ListPrefix) (x : Chain T) → IsWithin lists p
    → x ≡ get_or lists p.list x → slice_get lists p.list ≡ Some x
within-at lists p x w e = w.1 ∙ ap Some (sym (e ∙ got lists p.list w.0 x w.1))

module _ {A : Type 0} (C : List (Chain (code.Command A))) (R : List (Chain ListPrefix)) where
  in-within : (p : ListPrefix) → IsIn (map commands_seen C) p → IsWithin C p
  in-within p i =
      let k = get-map commands_seen C p.list i.0 i.1 in
      (k.0, k.1, let a = ap length k.2 in let b = commands_len C R k.0 in let c = i.2 in omega (arith, a, b, c))

  in-rounds-within : (p : ListPrefix) → IsIn (map rounds_seen R) p → IsWithin R p
  in-rounds-within p i =
      let k = get-map rounds_seen R p.list i.0 i.1 in
      (k.0, k.1, let a = ap length k.2 in let b = rounds_len C R k.0 in let c = i.2 in omega (arith, a, b, c))

  within-in : (p : ListPrefix) → IsWithin C p → IsIn (map commands_seen C) p
  within-in p w = (
    commands_seen w.0,
    map-get commands_seen C p.list w.0 w.1,
    let a = commands_len C R w.0 in
        let b = w.2 in omega (arith, a, b),
  )

  within-in-rounds : (p : ListPrefix) → IsWithin R p → IsIn (map rounds_seen R) p
  within-in-rounds p w = (
    rounds_seen w.0,
    map-get rounds_seen R p.list w.0 w.1,
    let a = rounds_len C R w.0 in
        let b = w.2 in omega (arith, a, b),
  )

  whole-len : (p : ListPrefix) (l : Chain (code.Command A)) → IsWhole (map commands_seen C) p → slice_get C p.list
      ≡ Some l
      → p.first ≡ chain_len l
  whole-len p l w s = let a = map-get commands_seen C p.list l s in let b = w.1 in let k : w.0 ≡ commands_seen l =
      cc in w.2 ∙ ap length k ∙ commands_len C R l

  whole-rounds-len : (p : ListPrefix) (l : Chain ListPrefix) → IsWhole (map rounds_seen R) p → slice_get R p.list
      ≡ Some l
      → p.first ≡ chain_len l
  whole-rounds-len p l w s = let a = map-get rounds_seen R p.list l s in let b = w.1 in let k : w.0 ≡ rounds_seen l =
      cc in w.2 ∙ ap length k ∙ rounds_len C R l

  -- a handle's parts, as the code holds them
  module _ (log : Log) (seen : log_of C R ≡ log) (current finished : ListPrefix) (h : Handle)
      (view : record { current = current; finished = finished } ≡ h) where
    entries_held : HasEntriesOf log h → HasEntriesOf (log_of C R) (record { current = current; finished = finished })
    entries_held l = subst (λ x. HasEntriesOf x (record { current = current; finished = finished })) (sym seen)
        (subst (HasEntriesOf log) (sym view) l)

    account_held : (a : Account) → IsAccount log h a
        → IsAccount (log_of C R) (record { current = current; finished = finished }) a
    account_held a k = subst (λ x. IsAccount x (record { current = current; finished = finished }) a) (sym seen)
        (subst (λ x. IsAccount log x a) (sym view) k)

    pub current_within : HasEntriesOf log h → IsWithin C current
    current_within l = in-within current (entries_held l).0

    pub finished_within : HasEntriesOf log h → IsWithin R finished
    finished_within l = in-rounds-within finished (entries_held l).1

    pub has-entries : IsWithin C current → IsWithin R finished → HasEntriesOf log h
    has-entries c r = subst (λ x. HasEntriesOf x h) seen
        (subst (HasEntriesOf (log_of C R)) view (within-in current c, within-in-rounds finished r))

    -- one entry more
    pub push-changes : (new : List (Chain (code.Command A))) (q : ListPrefix) (x : code.Command A)
        → IsExtended C new current q x → HasEntriesOf log h → (c : Command) → GivesCommand log (entry_seen x) c →
        IsUpdatedHandle log (log_of new R) h (record { current = q; finished = finished }) (pushed c)
    push-changes new q x e l c g =
        subst (λ k. IsUpdatedHandle log (log_of new R) k (record { current = q; finished = finished }) (pushed c)) view
        (subst (λ y. IsUpdatedHandle y (log_of new R) (record { current = current; finished = finished })
        (record { current = q; finished = finished }) (pushed c)) seen
        (step-changes (log_of C R) (record { current = current; finished = finished }) (map commands_seen new) q
        (first_link (link_to current e.0)) (entry_seen x) (step-of C R new current q x e) c
        (subst (λ y. GivesCommand y (entry_seen x) c) (sym seen) g) (λ cs k. from_link C R current e.0 cs e.1 k)
        (entries_held l)))

    pub push-sound : (n m : ℕ) (new : List (Chain (code.Command A))) (q : ListPrefix) (x : code.Command A)
        → IsSound C R n
        → n ≤ m → IsExtended C new current q x → HasEntriesOf log h →
        (c : Command) → GivesCommand (log_of C R) (entry_seen x) c → command_depth c ≤ m → IsSound new R m
    push-sound n m new q x s w e l c g d = record {
      links = chained-extended C new current q x s.links (current_within l) e;
      round_links = s.round_links;
      grounded = step-grounded (log_of C R) (record { current = current; finished = finished }) (map commands_seen new)
          q (first_link (link_to current e.0)) (entry_seen x) (step-of C R new current q x e)
          c g (λ cs k. from_link C R current e.0 cs e.1 k) n m s.grounded w d (entries_held l).0;
    }

    pub plain-sound : (n : ℕ) (new : List (Chain (code.Command A))) (q : ListPrefix) (x : code.Command A)
        → IsSound C R n
        → IsExtended C new current q x → HasEntriesOf log h → IsPlain (entry_seen x) → IsSound new R n
    plain-sound n new q x s e l p = let k =
        plain_command C R x p in push-sound n n new q x s (omega arith) e l k.0 k.1 (let z = k.2 in omega (arith, z))

    -- a nested command, whose child has these parts
    pub nested-sound : (n m : ℕ) (new : List (Chain (code.Command A))) (q : ListPrefix)
        (child-current child-finished : ListPrefix)
        → IsSound C R n → m ≡ n + 1 →
        IsExtended C new current q (code.TheVariants.Nested child-finished child-current) → HasEntriesOf log h
        → IsIn (map commands_seen C) child-current → IsIn (map rounds_seen R) child-finished → IsSound new R m
    nested-sound n m new q cc cf s w e l ic ir =
        let p = grounded-part (log_of C R) n s.grounded cc ic in
        let r = grounded-rounds-part (log_of C R) n s.grounded cf ir in
        push-sound n m new q (code.TheVariants.Nested cf cc) s (omega (arith, w)) e l
        (Command.nests (command_round r.0 p.0)) (r.0, p.0, r.1, p.1, refl)
        (let f = p.2 in let g = r.2 in omega (arith, w, f, g))

    pub nested-changes : (new : List (Chain (code.Command A))) (q cc cf : ListPrefix) (child : Handle)
        → record { current = cc; finished = cf } ≡ child →
        IsExtended C new current q (code.TheVariants.Nested cf cc) → HasEntriesOf log h → (b : Account)
        → IsAccount log child b → IsUpdatedHandle log (log_of new R) h (record { current = q; finished = finished })
        (λ a. pushed_nested a b)
    nested-changes new q cc cf child v e l b k =
        let m = subst (λ x. IsAccount log x b) (sym v) k in
        push-changes new q (code.TheVariants.Nested cf cc) e l (Command.nests (command_round b.finished b.current))
        (b.finished, b.current, m.finished, m.current, refl)

    pub child-current : HasEntriesOf log h → IsIn (map commands_seen C) current
    child-current l = (entries_held l).0

    pub child-finished : HasEntriesOf log h → IsIn (map rounds_seen R) finished
    child-finished l = (entries_held l).1

    -- a finished round
    pub default-changed : (D : List (Chain (code.Command A))) (S : List (Chain ListPrefix)) (q : ListPrefix) (i : ℕ)
        → D ≡ C ++ record { link = None; own = [] } ∷ [] → i ≡ length C → IsExtended R S finished q current
        → HasEntriesOf log h →
        IsUpdatedHandle log (log_of D S) h (record { current = record { list = i; first = 0 }; finished = q })
        pushed_default
    default-changed D S q i d j e l =
        subst (λ k. IsUpdatedHandle log (log_of D S) k
        (record { current = record { list = i; first = 0 }; finished = q })
        pushed_default) view
        (subst (λ y. IsUpdatedHandle y (log_of D S) (record { current = current; finished = finished })
        (record { current = record { list = i; first = 0 }; finished = q }) pushed_default) seen
        (subst (λ y. IsUpdatedHandle (log_of C R) y (record { current = current; finished = finished })
        (record { current = record { list = i; first = 0 }; finished = q }) pushed_default)
        (ap (λ x. record { commands = x; rounds = map rounds_seen S }) (sym (default_commands D d)))
        (subst (λ n. IsUpdatedHandle (log_of C R) (record {
          commands = map commands_seen C
              ++ [] ∷ [];
          rounds = map rounds_seen S;
        }) (record { current = current; finished = finished })
        (record { current = record { list = n; first = 0 }; finished = q }) pushed_default)
        (length-mapped commands_seen C ∙ sym j)
        (default-changes (log_of C R) (record { current = current; finished = finished }) (map rounds_seen S) q
        (first_round_link (link_to finished e.0)) (step-of-rounds C R S finished q current e)
        (λ rs k. linked_rounds C R finished e.0 rs e.1 k) (entries_held l)))))
      where
        default_commands : (D : List (Chain (code.Command A))) → D ≡ C ++ record { link = None; own = [] } ∷ []
            → map commands_seen D ≡ map commands_seen C ++ [] ∷ []
        default_commands D d = ap (map commands_seen) d ∙ ap (λ x. x.commands) (seen-lists C R None None)

    pub default-sound : (n : ℕ) (D : List (Chain (code.Command A))) (S : List (Chain ListPrefix)) (q : ListPrefix)
        → D ≡ C ++ record { link = None; own = [] } ∷ [] → IsExtended R S finished q current → HasEntriesOf log h →
        IsSound C R n → IsSound D S n
    default-sound n D S q d e l k = record {
      links = subst (λ y. IsChained y) (sym d)
          (chained-more C (record { link = None; own = [] }) k.links (λ q e. absurd (let z : ⊥ = cc in z)));
      round_links = chained-extended R S finished q current k.round_links (finished_within l) e;
      grounded = subst (λ y. IsGrounded (record { commands = y; rounds = map rounds_seen S }) n)
          (sym (ap (map commands_seen) d ∙ ap (λ x. x.commands) (seen-lists C R None None)))
          (default-grounded (log_of C R) (record { current = current; finished = finished }) (map rounds_seen S) q
          (first_round_link (link_to finished e.0)) (step-of-rounds C R S finished q current e)
          (λ rs k. linked_rounds C R finished e.0 rs e.1 k) n k.grounded (entries_held l));
    }

    -- each live handle has an account
    pub account-there : (n : ℕ) → IsSound C R n → HasEntriesOf log h → (a : Account) × IsAccount log h a
    account-there n s l =
        let p = grounded-part (log_of C R) n s.grounded current (entries_held l).0 in
        let q = grounded-rounds-part (log_of C R) n s.grounded finished (entries_held l).1 in
        let a : Account = record { finished = q.0; current = p.0 } in
        let k : IsAccount (log_of C R) (record { current = current; finished = finished }) a =
        record { current = p.1; finished = q.1 } in
        (a, subst (λ x. IsAccount x h a) seen (subst (λ x. IsAccount (log_of C R) x a) view k))

    -- where it is at the end, its numbers are the lengths of its lists
    pub lengths : IsAtEnd log h → (current.first ≡ current_len log h) × (finished.first ≡ finished_len log h)
    lengths w = (
      ap (λ k. k.current.first) view ∙ w.0.2 ∙ sym (ap len_at w.0.1),
      ap (λ k. k.finished.first) view ∙ w.1.2 ∙ sym (ap len_at w.1.1),
    )

    at_end_held : IsAtEnd log h → IsAtEnd (log_of C R) (record { current = current; finished = finished })
    at_end_held l = subst (λ x. IsAtEnd x (record { current = current; finished = finished })) (sym seen)
        (subst (IsAtEnd log) (sym view) l)

    pub push-writes : (new : List (Chain (code.Command A))) (q : ListPrefix) (x : code.Command A)
        → IsExtended C new current q x → WritesOne log h (record { current = q; finished = finished })
    push-writes new q x e w =
        subst (λ k. (q ≡ record { list = k.current.list; first = k.current.first + 1 }) × (finished ≡ k.finished)) view
        (at-end C new current q x e (whole-len current e.0 (at_end_held w).0 e.1), refl)

    pub default-writes : (S : List (Chain ListPrefix)) (q x : ListPrefix) (i : ℕ) → IsExtended R S finished q x
        → WritesRound log h (record { current = record { list = i; first = 0 }; finished = q })
    default-writes S q x i e w = (
      refl,
      subst (λ k. q ≡ record { list = k.finished.list; first = k.finished.first + 1 }) view
          (at-end R S finished q x e (whole-rounds-len finished e.0 (at_end_held w).1 e.1)),
    )

    -- a copy, which links to what is there
    module _ (l : Chain (code.Command A)) (r : Chain ListPrefix) (live : HasEntriesOf log h)
        (at : l ≡ get_or C current.list l) (round_at : r ≡ get_or R finished.list r)
        (link round_link : Option ListPrefix) (is : link ≡ link_to current l)
        (round_is : round_link ≡ link_to finished r) where
      pub copy-sound : (n : ℕ) (D : List (Chain (code.Command A))) (S : List (Chain ListPrefix)) → IsSound C R n
          → D ≡ with_link C link → S ≡ with_link R round_link → IsSound D S n
      copy-sound n D S s d e =
          subst (λ x. IsSound x S n) (sym (d ∙ ap (with_link C) is))
          (subst (λ x. IsSound (with_link C (link_to current l)) x n) (sym (e ∙ ap (with_link R) round_is))
          (sound-copy C R n (record { current = current; finished = finished }) l r s
          (entries_held live) (within-at C current l (current_within live) at)
          (within-at R finished r (finished_within live) round_at)))

      pub copy-gives : (a : Account) → IsAccount log h a →
          Gives (log_of C R) no_commands (first_link link) a.current
          × GivesRounds (log_of C R) no_command_rounds (first_round_link round_link) a.finished
      copy-gives a k = let m = account_held a k in (
        subst (λ x. Gives (log_of C R) no_commands (first_link x) a.current) (sym is)
            (from_link C R current l a.current (within-at C current l (current_within live) at) m.current),
        subst (λ x. GivesRounds (log_of C R) no_command_rounds (first_round_link x) a.finished) (sym round_is)
            (linked_rounds C R finished r a.finished (within-at R finished r (finished_within live) round_at)
            m.finished),
      )

-- the order of a log, as clients see it
pub order-seen : {A : Type 0} (C : List (Chain (code.Command A))) (R : List (Chain ListPrefix)) (log : Log) (n : ℕ)
    → log_of C R ≡ log → IsSound C R n → HasOrder log
order-seen C R log n seen s = subst HasOrder seen s.grounded.ordered

link-few : (k : Option ListPrefix) → link_len k ≤ 3
link-few None = omega arith
link-few (Some p) = omega arith

-- ---- two lists more

module _ {A : Type 0} (C : List (Chain (code.Command A))) (R : List (Chain ListPrefix)) (log : Log) (seen : log_of C R
    ≡ log)
    (l r : Option ListPrefix) (D : List (Chain (code.Command A))) (S : List (Chain ListPrefix))
    (d : D ≡ with_link C l) (e : S ≡ with_link R r) where
  new_log : log_of D S ≡ with_lists (log_of C R) (first_link l) (first_round_link r)
  new_log = ap (λ x. log_of x S) d ∙ ap (log_of (C ++ record { link = l; own = [] } ∷ [])) e ∙ seen-lists C R l r

  link_short : (k : Option ListPrefix) → length (first_link k) ≤ 3
  link_short None = omega arith
  link_short (Some p) = omega arith

  round_link_short : (k : Option ListPrefix) → length (first_round_link k) ≤ 3
  round_link_short None = omega arith
  round_link_short (Some p) = omega arith

  pub lists-commands : HasOneListMore log.commands (map commands_seen D)
  lists-commands = (
    first_link l,
    link_short l,
    ap (λ x. x.commands) new_log
        ∙ ap (λ x. x.commands ++ first_link l ∷ []) seen,
  )

  pub lists-rounds : HasOneListMore log.rounds (map rounds_seen S)
  lists-rounds = (
    first_round_link r,
    round_link_short r,
    ap (λ x. x.rounds) new_log
        ∙ ap (λ x. x.rounds ++ first_round_link r ∷ []) seen,
  )

  first_len : (k : Option ListPrefix) → length (first_link k) ≡ link_len k
  first_len None = refl
  first_len (Some p) = refl

  first_round_len : (k : Option ListPrefix) → length (first_round_link k) ≡ link_len k
  first_round_len None = refl
  first_round_len (Some p) = refl

  part_is : (p : ListPrefix) (n m : ℕ) → p.list ≡ n → p.first ≡ m → p ≡ record { list = n; first = m }
  part_is p n m a b = ap (λ x. record { list = x; first = p.first }) a ∙ ap (λ x. record { list = n; first = x }) b

  current_is : record { list = length (map commands_seen C); first = length (first_link l) } ≡ last_part C l
  current_is = part_is (record { list = length (map commands_seen C); first = length (first_link l) }) (length C)
      (link_len l) (length-mapped commands_seen C) (first_len l)

  finished_is : record { list = length (map rounds_seen R); first = length (first_round_link r) } ≡ last_part R r
  finished_is = part_is (record { list = length (map rounds_seen R); first = length (first_round_link r) }) (length R)
      (link_len r) (length-mapped rounds_seen R) (first_round_len r)

  module _ (h : Handle) (is : h ≡ record { current = last_part C l; finished = last_part R r }) where
    new_handle : next_handle (log_of C R) (first_link l) (first_round_link r) ≡ h
    new_handle = ap (λ p. record {
      current = p;
      finished = record { list = length (map rounds_seen R); first = length (first_round_link r) };
    }) current_is
        ∙ ap (λ p. record { current = last_part C l; finished = p }) finished_is ∙ sym is

    pub lists-given : IsNewHandle log (log_of D S) h
    lists-given =
        subst (λ x. IsNewHandle x (log_of D S) h) seen
        (subst (λ x. IsNewHandle (log_of C R) x h) (sym new_log)
        (subst (λ k. IsNewHandle (log_of C R) (with_lists (log_of C R) (first_link l) (first_round_link r)) k)
        new_handle
        (given (log_of C R) (first_link l) (first_round_link r))))

    pub lists-account : (a : Account) → Gives (log_of C R) no_commands (first_link l) a.current
        × GivesRounds (log_of C R) no_command_rounds (first_round_link r) a.finished → IsAccount (log_of D S) h a
    lists-account a g =
        subst (λ x. IsAccount x h a) (sym new_log)
        (subst (λ k. IsAccount (with_lists (log_of C R) (first_link l) (first_round_link r)) k a) new_handle
        (given-account (log_of C R) (first_link l) (first_round_link r) a g.0 g.1))

    -- a link is few entries
    pub lists-few : (h.current.first ≤ 3) × (h.finished.first ≤ 3)
    lists-few =
        let a = ap (λ k. k.current.first) is in
        let b = ap (λ k. k.finished.first) is in
        let c = link-few l in
        let d = link-few r in
        (omega (arith, a, c), omega (arith, b, d))
