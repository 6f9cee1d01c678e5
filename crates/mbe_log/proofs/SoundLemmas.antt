-- The lists of a log stay sound.
use Rattle.std.specs.Prelude.{◌≡◌, ◌<◌, ◌≤◌, ◌+◌, ℕ, zero, suc, List, [], ◌∷◌, ◌++◌, length, map, take, slice_get}
use Rattle.std.specs.Prelude.{Option, Some, None, refl}
use Rattle.std.proofs.Common.{arith, sym, ap, subst, ◌∙◌, ◌⊎◌, inl, inr, append-nil, length-append, append_assoc, set}
use Rattle.std.proofs.lemmas.List.{map-append}
use Rattle.mbe_semantics.specs.declared.list_prefix.ListPrefix.{ListPrefix}
use Rattle.mbe_log.specs.declared.log.Command as code
use Rattle.mbe_log.specs.Chain.{Chain, IsChained, IsWithin, IsExtended, chain_len, link_len, link_in, own_in, link_or}
use Rattle.mbe_log.specs.Chain.{link_to, longer, forked}
use Rattle.mbe_log.specs.LogEntries.{commands_seen, rounds_seen, first_link, first_round_link, entry_seen, log_of}
use Rattle.mbe_semantics.specs.Bindings.Account.{Command, Commands, CommandRounds, no_commands, no_command_rounds}
use Rattle.mbe_semantics.specs.Bindings.Account.{Entry, RoundEntry, Log, Handle, HasEntriesOf, Gives, GivesRounds}
use Rattle.mbe_semantics.specs.Bindings.Account.{PartGives, PartGivesRounds, gives_nothing, gives_link, gives_no_rounds}
use Rattle.mbe_semantics.specs.Bindings.Account.{gives_linked_rounds, part_gives, part_gives_rounds}
use Rattle.mbe_log.specs.HandleChanges.{appended, IsPlain}
use Rattle.mbe_log.specs.Sound.{depth, command_depth, rounds_depth, IsGrounded, IsSound, GivesCommand}
use Rattle.mbe_log.proofs.ChainLemmas.{in_range, link_some}
use Rattle.mbe_log.proofs.LogLemmas.{get-front, get-more}
use Rattle.mbe_log.proofs.SeenLemmas.{take-none, commands_len, rounds_len, map-get, is_within, is_rounds_within}
use Rattle.mbe_log.proofs.CallLemmas.{with_lists, grounded-lists, grounded-part, grounded-rounds-part, IsStep}

-- ---- no lists

pub sound-none : {A : Type 0} → IsSound {A = A} [] [] 0
sound-none {A} = record {
  links = λ i l p h e. absurd (let z : ⊥ = cc in z);
  round_links = λ i l p h e. absurd (let z : ⊥ = cc in z);
  grounded = record {
    commands = λ i es h. absurd (let z : ⊥ = cc in z);
    rounds = λ i es h. absurd (let z : ⊥ = cc in z);
    ordered = (
      record { commands = λ i j. 0; rounds = λ i j. 0 },
      record {
        commands = λ i j es e h k. absurd (let z : ⊥ = cc in z);
        rounds = λ i j es e h k. absurd (let z : ⊥ = cc in z);
      },
    );
  };
}

-- ---- links

module _ {T : Type 0} where
  within-more : (lists : List (Chain T)) (l : Chain T) (p : ListPrefix) → IsWithin lists p
      → IsWithin (lists ++ l ∷ []) p
  within-more lists l p w = (w.0, get-front lists (l ∷ []) p.list w.0 w.1, w.2)

  -- one list more, whose link goes to one of the others
  pub chained-more : (lists : List (Chain T)) (l : Chain T) → IsChained lists
      → ((p : ListPrefix) → l.link ≡ Some p → (p.list < length lists) × IsWithin lists p) → IsChained (lists ++ l ∷ [])
  chained-more lists l ch new i k p h e = go (get-more lists l k i h)
    where
      go : (slice_get lists i ≡ Some k) ⊎ ((i ≡ length lists) × (l ≡ k)) → (p.list < i) × IsWithin (lists ++ l ∷ []) p
      go (inl s) = let a = ch i k p s e in (a.0, within-more lists l p a.1)
      go (inr s) =
          let a = new p (ap (λ x. x.link) s.1 ∙ e) in
          (let u = a.0 in let v = s.0 in omega (arith, u, v), within-more lists l p a.1)

  -- where the link to a part goes
  pub link_to-within : (lists : List (Chain T)) (p : ListPrefix) (l : Chain T) → IsChained lists
      → slice_get lists p.list ≡ Some l → IsWithin lists p → (q : ListPrefix) → link_to p l ≡ Some q →
      (q.list < length lists) × IsWithin lists q
  link_to-within lists p l ch s w q h = go (own_in l.link p.first) h
    where
      go : (n : ℕ) → link_or p n (link_in l.link p.first) ≡ Some q → (q.list < length lists) × IsWithin lists q
      go zero e = let a = ch p.list l q s (link_some l.link p.first q e) in
          (let u = a.0 in let v = in_range lists p.list l s in omega (arith, u, v), a.1)
      go (suc n) e = let r : p ≡ q = cc in subst (λ k. (k.list < length lists) × IsWithin lists k) r
          (in_range lists p.list l s, w)

-- ---- what stands for a part gives the same

-- a part without entries of its own
front_of : {A : Type 0} (k : Option ListPrefix) (own : List (code.Command A)) (n : ℕ) → own_in k n ≡ 0
    → take n (first_link k ++ map entry_seen own) ≡ first_link (link_in k n)
front_of None own zero h = take-none (map entry_seen own)
front_of None own (suc n) h = absurd (omega (arith, h))
front_of (Some p) own zero h = take-none (Entry.links p ∷ map entry_seen own)
front_of (Some p) own (suc n) h =
    let m : n ≡ 0 = omega (arith, h) in ap (λ j. Entry.links p ∷ take j (map entry_seen own)) m
    ∙ ap (λ t. Entry.links p ∷ t) (take-none (map entry_seen own))

front_of_rounds : (k : Option ListPrefix) (own : List ListPrefix) (n : ℕ) → own_in k n ≡ 0
    → take n (first_round_link k ++ map RoundEntry.finishes own) ≡ first_round_link (link_in k n)
front_of_rounds None own zero h = take-none (map RoundEntry.finishes own)
front_of_rounds None own (suc n) h = absurd (omega (arith, h))
front_of_rounds (Some p) own zero h = take-none (RoundEntry.links p ∷ map RoundEntry.finishes own)
front_of_rounds (Some p) own (suc n) h =
    let m : n ≡ 0 = omega (arith, h) in
    ap (λ j. RoundEntry.links p ∷ take j (map RoundEntry.finishes own)) m
    ∙ ap (λ t. RoundEntry.links p ∷ t) (take-none (map RoundEntry.finishes own))

entries_of_part : (log : Log) {p : ListPrefix} {cs : Commands} (es : List Entry) → slice_get log.commands p.list
    ≡ Some es
    → PartGives log no_commands p cs → Gives log no_commands (take p.first es) cs
entries_of_part log {p} {cs} es i (part_gives _ _ _ fs j l h) = let k : fs ≡ es =
    cc in subst (λ x. Gives log no_commands (take p.first x) cs) k h

rounds_of_part : (log : Log) {p : ListPrefix} {rs : CommandRounds} (es : List RoundEntry)
    → slice_get log.rounds p.list ≡ Some es → PartGivesRounds log no_command_rounds p rs →
    GivesRounds log no_command_rounds (take p.first es) rs
rounds_of_part log {p} {rs} es i (part_gives_rounds _ _ _ fs j l h) = let k : fs ≡ es =
    cc in subst (λ x. GivesRounds log no_command_rounds (take p.first x) rs) k h

module _ {A : Type 0} (C : List (Chain (code.Command A))) (R : List (Chain ListPrefix)) where
  pub from_link : (p : ListPrefix) (l : Chain (code.Command A)) (cs : Commands) → slice_get C p.list ≡ Some l
      → PartGives (log_of C R) no_commands p cs →
      Gives (log_of C R) no_commands (first_link (link_to p l)) cs
  from_link p l cs s h = go (own_in l.link p.first) refl
    where
      go : (n : ℕ) → own_in l.link p.first ≡ n
          → Gives (log_of C R) no_commands (first_link (link_or p n (link_in l.link p.first))) cs
      go zero e = subst (λ x. Gives (log_of C R) no_commands x cs) (front_of l.link l.own p.first e)
          (entries_of_part (log_of C R) (commands_seen l) (map-get commands_seen C p.list l s) h)
      go (suc n) e = gives_link no_commands p [] cs cs h (gives_nothing cs)

  pub linked_rounds : (p : ListPrefix) (l : Chain ListPrefix) (rs : CommandRounds) → slice_get R p.list ≡ Some l
      → PartGivesRounds (log_of C R) no_command_rounds p rs →
      GivesRounds (log_of C R) no_command_rounds (first_round_link (link_to p l)) rs
  linked_rounds p l rs s h = go (own_in l.link p.first) refl
    where
      go : (n : ℕ) → own_in l.link p.first ≡ n
          → GivesRounds (log_of C R) no_command_rounds (first_round_link (link_or p n (link_in l.link p.first))) rs
      go zero e = subst (λ x. GivesRounds (log_of C R) no_command_rounds x rs) (front_of_rounds l.link l.own p.first e)
          (rounds_of_part (log_of C R) (rounds_seen l) (map-get rounds_seen R p.list l s) h)
      go (suc n) e = gives_linked_rounds no_command_rounds p [] rs rs h (gives_no_rounds rs)

  -- ---- two lists more

  pub seen-lists : (l : Option ListPrefix) (r : Option ListPrefix)
      → log_of (C ++ record { link = l; own = [] } ∷ []) (R ++ record { link = r; own = [] } ∷ [])
      ≡ with_lists (log_of C R) (first_link l) (first_round_link r)
  seen-lists l r =
      ap (λ x. record { commands = x; rounds = map rounds_seen (R ++ record { link = r; own = [] } ∷ []) })
      (map-append commands_seen C (record { link = l; own = [] } ∷ [])
      ∙ ap (λ es. map commands_seen C ++ es ∷ []) (append-nil (first_link l)))
      ∙ ap (λ x. record { commands = map commands_seen C ++ first_link l ∷ []; rounds = x })
      (map-append rounds_seen R (record { link = r; own = [] } ∷ [])
      ∙ ap (λ es. map rounds_seen R ++ es ∷ []) (append-nil (first_round_link r)))

  pub sound-lists : (n : ℕ) (l r : Option ListPrefix) → IsSound C R n
      → ((p : ListPrefix) → l ≡ Some p → (p.list < length C) × IsWithin C p)
      → ((p : ListPrefix) → r ≡ Some p → (p.list < length R) × IsWithin R p) →
      (cs : Commands) → Gives (log_of C R) no_commands (first_link l) cs → depth cs ≤ n → (rs : CommandRounds)
      → GivesRounds (log_of C R) no_command_rounds (first_round_link r) rs → rounds_depth rs ≤ n →
      IsSound (C ++ record { link = l; own = [] } ∷ []) (R ++ record { link = r; own = [] } ∷ []) n
  sound-lists n l r s wl wr cs h d rs k e = record {
    links = chained-more C (record { link = l; own = [] }) s.links wl;
    round_links = chained-more R (record { link = r; own = [] }) s.round_links wr;
    grounded = subst (λ x. IsGrounded x n) (sym (seen-lists l r))
        (grounded-lists (log_of C R) (first_link l) (first_round_link r) n s.grounded cs h d rs k e);
  }

  pub sound-empty : (n : ℕ) → IsSound C R n
      → IsSound (C ++ record { link = None; own = [] } ∷ []) (R ++ record { link = None; own = [] } ∷ []) n
  sound-empty n s = sound-lists n None None s (λ p h. absurd (let e : ⊥ = cc in e))
      (λ p h. absurd (let e : ⊥ = cc in e))
      no_commands (gives_nothing no_commands) (omega arith) no_command_rounds (gives_no_rounds no_command_rounds)
      (omega arith)

  pub sound-copy : (n : ℕ) (h : Handle) (l : Chain (code.Command A)) (r : Chain ListPrefix) → IsSound C R n
      → HasEntriesOf (log_of C R) h → slice_get C h.current.list ≡ Some l → slice_get R h.finished.list ≡ Some r →
      IsSound (C ++ record { link = link_to h.current l; own = [] } ∷ [])
      (R ++ record { link = link_to h.finished r; own = [] } ∷ []) n
  sound-copy n h l r s live a b =
      let c = grounded-part (log_of C R) n s.grounded h.current live.0 in
      let d = grounded-rounds-part (log_of C R) n s.grounded h.finished live.1 in
      sound-lists n (link_to h.current l) (link_to h.finished r) s
      (link_to-within C h.current l s.links a (is_within C R c.1))
      (link_to-within R h.finished r s.round_links b (is_rounds_within C R d.1))
      c.0 (from_link h.current l c.0 a c.1) c.2 d.0 (linked_rounds h.finished r d.0 b d.1) d.2

-- ---- one entry more

get-set : {X : Type 0} (xs : List X) (i j : ℕ) (y k : X) → slice_get (set xs i y) j ≡ Some k
    → (slice_get xs j ≡ Some k) ⊎ ((i ≡ j) × (y ≡ k))
get-set [] i j y k h = inl h
get-set (x ∷ xs) zero zero y k h = inr (refl, cc)
get-set (x ∷ xs) zero (suc j) y k h = inl h
get-set (x ∷ xs) (suc i) zero y k h = inl h
get-set (x ∷ xs) (suc i) (suc j) y k h = go (get-set xs i j y k h)
  where
    go : (slice_get xs j ≡ Some k) ⊎ ((i ≡ j) × (y ≡ k)) → (slice_get xs j ≡ Some k) ⊎ ((suc i ≡ suc j) × (y ≡ k))
    go (inl e) = inl e
    go (inr e) = inr (ap suc e.0, e.1)

set-get : {X : Type 0} (xs : List X) (i j : ℕ) (y k : X) → slice_get xs j ≡ Some k
    → (slice_get (set xs i y) j ≡ Some k) ⊎ ((i ≡ j) × (slice_get (set xs i y) j ≡ Some y))
set-get [] i j y k h = cc
set-get (x ∷ xs) zero zero y k h = inr (refl, refl)
set-get (x ∷ xs) zero (suc j) y k h = inl h
set-get (x ∷ xs) (suc i) zero y k h = inl h
set-get (x ∷ xs) (suc i) (suc j) y k h = go (set-get xs i j y k h)
  where
    go : (slice_get (set xs i y) j ≡ Some k) ⊎ ((i ≡ j) × (slice_get (set xs i y) j ≡ Some y)) →
        (slice_get (set xs i y) j ≡ Some k) ⊎ ((suc i ≡ suc j) × (slice_get (set xs i y) j ≡ Some y))
    go (inl e) = inl e
    go (inr e) = inr (ap suc e.0, e.1)

module _ {T : Type 0} where
  longer-len : (l : Chain T) (x : T) → chain_len l ≤ chain_len (longer l x)
  longer-len l x = let k = length-append l.own (x ∷ []) in omega (arith, k)

  pub chained-longer : (lists : List (Chain T)) (i : ℕ) (l : Chain T) (x : T) → IsChained lists
      → slice_get lists i ≡ Some l → IsChained (set lists i (longer l x))
  chained-longer lists i l x ch s j k p h e = go (get-set lists i j (longer l x) k h)
    where
      within : IsWithin lists p → IsWithin (set lists i (longer l x)) p
      within w = by (set-get lists i p.list (longer l x) w.0 w.1)
        where
          by : (slice_get (set lists i (longer l x)) p.list ≡ Some w.0)
              ⊎ ((i ≡ p.list) × (slice_get (set lists i (longer l x)) p.list ≡ Some (longer l x)))
              → IsWithin (set lists i (longer l x)) p
          by (inl a) = (w.0, a, w.2)
          by (inr a) =
              let b : slice_get lists p.list ≡ Some l = subst (λ n. slice_get lists n ≡ Some l) a.0 s in
              let c : w.0 ≡ l = let d = w.1 in cc in (
                longer l x,
                a.1,
                let u = longer-len l x in let v = subst (λ m. p.first ≤ chain_len m) c w.2 in
                    omega (arith, u, v),
              )

      go : (slice_get lists j ≡ Some k) ⊎ ((i ≡ j) × (longer l x ≡ k))
          → (p.list < j) × IsWithin (set lists i (longer l x)) p
      go (inl a) = let b = ch j k p a e in (b.0, within b.1)
      go (inr a) =
          let f : l.link ≡ Some p = ap (λ m. m.link) a.1 ∙ e in
          let b = ch i l p s f in
          (subst (λ n. p.list < n) a.0 b.0, within b.1)

module _ {A : Type 0} where
  pub seen-longer : (C : List (Chain (code.Command A))) (i : ℕ) (l : Chain (code.Command A)) (x : code.Command A)
      → slice_get C i ≡ Some l →
      map commands_seen (set C i (longer l x)) ≡ appended (map commands_seen C) i (entry_seen x)
  seen-longer [] i l x h = cc
  seen-longer (k ∷ C) zero l x h =
      let e : k ≡ l = cc in
      ap (λ es. es ∷ map commands_seen C)
      (ap (λ xs. first_link l.link ++ xs) (map-append entry_seen l.own (x ∷ []))
      ∙ sym (append_assoc (first_link l.link) (map entry_seen l.own) (entry_seen x ∷ []))
      ∙ ap (λ m. commands_seen m ++ entry_seen x ∷ []) (sym e))
  seen-longer (k ∷ C) (suc i) l x h = ap (λ es. commands_seen k ∷ es) (seen-longer C i l x h)

length-mapped : {X Y : Type 0} (f : X → Y) (xs : List X) → length (map f xs) ≡ length xs
length-mapped f [] = refl
length-mapped f (x ∷ xs) = ap suc (length-mapped f xs)

pub seen-round : (R : List (Chain ListPrefix)) (i : ℕ) (l : Chain ListPrefix) (x : ListPrefix) → slice_get R i ≡ Some l
    →
    map rounds_seen (set R i (longer l x)) ≡ appended (map rounds_seen R) i (RoundEntry.finishes x)
seen-round [] i l x h = cc
seen-round (k ∷ R) zero l x h =
    let e : k ≡ l = cc in
    ap (λ es. es ∷ map rounds_seen R)
    (ap (λ xs. first_round_link l.link ++ xs) (map-append RoundEntry.finishes l.own (x ∷ []))
    ∙ sym (append_assoc (first_round_link l.link) (map RoundEntry.finishes l.own) (RoundEntry.finishes x ∷ []))
    ∙ ap (λ m. rounds_seen m ++ RoundEntry.finishes x ∷ []) (sym e))
seen-round (k ∷ R) (suc i) l x h = ap (λ es. rounds_seen k ∷ es) (seen-round R i l x h)

module _ {A : Type 0} (C : List (Chain (code.Command A))) (R : List (Chain ListPrefix)) where
  -- a plain entry gives a command by itself
  pub plain_command : (x : code.Command A) → IsPlain (entry_seen x)
      → (c : Command) × GivesCommand (log_of C R) (entry_seen x) c × (command_depth c ≡ 0)
  plain_command (code.TheVariants.Fragment name x) p = (Command.binds _ _, refl, refl)
  plain_command (code.TheVariants.Optional name) p = (Command.binds_nothing _, refl, refl)
  plain_command (code.TheVariants.Empty name) p = (Command.skips _, refl, refl)
  plain_command (code.TheVariants.Missing name kind) p = (Command.misses _ _, refl, refl)
  plain_command (code.TheVariants.Nested finished current) p = absurd p

-- ---- a part has one entry more

pub chained-extended : {T : Type 0} (lists new : List (Chain T)) (p q : ListPrefix) (x : T) → IsChained lists
    → IsWithin lists p → IsExtended lists new p q x → IsChained new
chained-extended lists new p q x ch w (l, s, inl k) =
    subst (λ y. IsChained y) (sym k.1) (chained-longer lists p.list l x ch s)
chained-extended lists new p q x ch w (l, s, inr k) =
    subst (λ y. IsChained y) (sym k.1) (chained-more lists (forked p l x) ch (link_to-within lists p l ch s w))

fork_len : (k : Option ListPrefix) → link_len k + 1 ≡ suc (length (first_link k))
fork_len None = refl
fork_len (Some p) = refl

fork_round_len : (k : Option ListPrefix) → link_len k + 1 ≡ suc (length (first_round_link k))
fork_round_len None = refl
fork_round_len (Some p) = refl

longer_len : {T : Type 0} (l : Chain T) (x : T) (n : ℕ) → n ≡ chain_len l → chain_len (longer l x) ≡ suc n
longer_len l x n h = let k = length-append l.own (x ∷ []) in omega (arith, h, k)

-- at the end of its list it is longer by one in place
pub at-end : {T : Type 0} (lists new : List (Chain T)) (p q : ListPrefix) (x : T) (e : IsExtended lists new p q x)
    → p.first ≡ chain_len e.0 → q ≡ record { list = p.list; first = p.first + 1 }
at-end lists new p q x (l, s, inl k) h =
    let m : chain_len (longer l x) ≡ p.first + 1 = let a =
    longer_len l x p.first k.0 in omega (arith, a) in k.2 ∙ ap (λ n. record { list = p.list; first = n }) m
at-end lists new p q x (l, s, inr k) h = absurd (let a = k.0 in omega (arith, a, h))

pub step-of : {A : Type 0} (C : List (Chain (code.Command A))) (R : List (Chain ListPrefix))
    (new : List (Chain (code.Command A))) (p q : ListPrefix) (x : code.Command A) (e : IsExtended C new p q x) →
    IsStep (map commands_seen C) (map commands_seen new) p q (first_link (link_to p e.0)) (entry_seen x)
step-of C R new p q x (l, s, inl k) = inl (
  (commands_seen l, map-get commands_seen C p.list l s, k.0 ∙ sym (commands_len C R l)),
  ap (map commands_seen) k.1 ∙ seen-longer C p.list l x s,
  k.2 ∙ ap (λ n. record { list = p.list; first = n }) (longer_len l x p.first k.0),
)
step-of C R new p q x (l, s, inr k) = inr (
  ap (map commands_seen) k.1 ∙ map-append commands_seen C (forked p l x ∷ []),
  k.2 ∙ ap (λ n. record { list = n; first = chain_len (forked p l x) }) (sym (length-mapped commands_seen C))
      ∙ ap (λ n. record { list = length (map commands_seen C); first = n }) (fork_len (link_to p l)),
)

pub step-of-rounds : {A : Type 0} (C : List (Chain (code.Command A))) (R new : List (Chain ListPrefix))
    (p q x : ListPrefix)
    (e : IsExtended R new p q x) →
    IsStep (map rounds_seen R) (map rounds_seen new) p q (first_round_link (link_to p e.0)) (RoundEntry.finishes x)
step-of-rounds C R new p q x (l, s, inl k) = inl (
  (rounds_seen l, map-get rounds_seen R p.list l s, k.0 ∙ sym (rounds_len C R l)),
  ap (map rounds_seen) k.1 ∙ seen-round R p.list l x s,
  k.2 ∙ ap (λ n. record { list = p.list; first = n }) (longer_len l x p.first k.0),
)
step-of-rounds C R new p q x (l, s, inr k) = inr (
  ap (map rounds_seen) k.1 ∙ map-append rounds_seen R (forked p l x ∷ []),
  k.2 ∙ ap (λ n. record { list = n; first = chain_len (forked p l x) }) (sym (length-mapped rounds_seen R))
      ∙ ap (λ n. record { list = length (map rounds_seen R); first = n }) (fork_round_len (link_to p l)),
)
