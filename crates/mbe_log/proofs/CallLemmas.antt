-- What the calls of a log do, on its lists.
use Rattle.std.specs.Prelude.{◌≡◌, ◌≢◌, ◌<◌, ◌≤◌, ℕ, zero, suc, List, [], ◌∷◌, ◌++◌, length, take, slice_get, Some}
use Rattle.std.specs.Prelude.{refl}
use Rattle.std.proofs.Common.{arith, sym, ap, subst, ◌∙◌, ◌⊎◌, inl, inr, length-append}
use Rattle.mbe_semantics.specs.declared.list_prefix.ListPrefix.{ListPrefix}
use Rattle.mbe_semantics.specs.Bindings.Account.{Account, pushed, pushed_default, Command, Commands, CommandRounds}
use Rattle.mbe_semantics.specs.Bindings.Account.{no_commands, command, no_command_rounds, command_round, Entry}
use Rattle.mbe_semantics.specs.Bindings.Account.{RoundEntry, Log, Handle, IsIn, HasEntriesOf, Gives, GivesRounds}
use Rattle.mbe_semantics.specs.Bindings.Account.{PartGives, PartGivesRounds, gives_nothing, gives_binding, gives_empty}
use Rattle.mbe_semantics.specs.Bindings.Account.{gives_skip, gives_missing, gives_nested, gives_link, gives_no_rounds}
use Rattle.mbe_semantics.specs.Bindings.Account.{gives_round, gives_linked_rounds, part_gives, part_gives_rounds}
use Rattle.mbe_semantics.specs.Bindings.Account.{IsAccount}
use Rattle.mbe_log.specs.HandleChanges.{IsWhole, IsNewHandle, IsUpdatedHandle, appended, with_list, with_round_list}
use Rattle.mbe_log.specs.Sound.{depth, command_depth, rounds_depth, IsGrounded, GivesCommand}
use Rattle.mbe_semantics.proofs.GivesLemmas.{follow, rounds_follow}
use Rattle.mbe_log.proofs.LogLemmas.{get-front, get-last, get-more, get-appended, take-whole, appended-same}
use Rattle.mbe_log.proofs.LogLemmas.{appended-other, HasMore, more-itself, more-list, more-entry, gives, rounds}
use Rattle.mbe_log.proofs.LogLemmas.{part_rounds, kept, gives_one, whole, whole_rounds}
use Rattle.mbe_log.proofs.SeenLemmas.{take-none, deeper, deeper_rounds}
use Rattle.mbe_log.proofs.ClientLemmas.{in_of, lists_there}
use Rattle.mbe_log.proofs.OrderLemmas.{adds-none, adds-list, adds-entry, within, rounds-within, command-within}
use Rattle.mbe_log.proofs.OrderLemmas.{order-stays}

-- ---- the first entries of a list give something where the list does

pub prefix : {log : Log} {ds all : Commands} {es : List Entry} → Gives log ds es all → (n : ℕ)
    → (mid : Commands) × Gives log ds (take n es) mid × (depth mid ≤ depth all)
prefix {log} {ds} {all} {es} h zero = (
  ds,
  subst (λ x. Gives log ds x ds) (sym (take-none es)) (gives_nothing ds),
  deeper h,
)
prefix (gives_nothing cs) (suc n) = (cs, gives_nothing cs, omega arith)
prefix (gives_binding cs name x es all h) (suc n) = let k =
    prefix h n in (k.0, gives_binding cs name x (take n es) k.0 k.1, k.2)
prefix (gives_empty cs name es all h) (suc n) = let k =
    prefix h n in (k.0, gives_empty cs name (take n es) k.0 k.1, k.2)
prefix (gives_skip cs name es all h) (suc n) = let k = prefix h n in (k.0, gives_skip cs name (take n es) k.0 k.1, k.2)
prefix (gives_missing cs name kind es all h) (suc n) = let k =
    prefix h n in (k.0, gives_missing cs name kind (take n es) k.0 k.1, k.2)
prefix (gives_nested cs finished current es rs ds all p q h) (suc n) = let k =
    prefix h n in (k.0, gives_nested cs finished current (take n es) rs ds k.0 p q k.1, k.2)
prefix (gives_link cs p es ds all q h) (suc n) = let k =
    prefix h n in (k.0, gives_link cs p (take n es) ds k.0 q k.1, k.2)

pub cut_rounds : {log : Log} {ds all : CommandRounds} {es : List RoundEntry} → GivesRounds log ds es all → (n : ℕ) →
    (mid : CommandRounds) × GivesRounds log ds (take n es) mid × (rounds_depth mid ≤ rounds_depth all)
cut_rounds {log} {ds} {all} {es} h zero =
    (ds, subst (λ x. GivesRounds log ds x ds) (sym (take-none es)) (gives_no_rounds ds), deeper_rounds h)
cut_rounds (gives_no_rounds rs) (suc n) = (rs, gives_no_rounds rs, omega arith)
cut_rounds (gives_round rs p es cs all q h) (suc n) = let k =
    cut_rounds h n in (k.0, gives_round rs p (take n es) cs k.0 q k.1, k.2)
cut_rounds (gives_linked_rounds rs p es qs all q h) (suc n) = let k =
    cut_rounds h n in (k.0, gives_linked_rounds rs p (take n es) qs k.0 q k.1, k.2)

module _ (log : Log) (n : ℕ) (g : IsGrounded log n) where
  pub grounded-part : (p : ListPrefix) → IsIn log.commands p
      → (cs : Commands) × PartGives log no_commands p cs × (depth cs ≤ n)
  grounded-part p i =
      let a = g.commands p.list i.0 i.1 in
      let k = prefix a.1 p.first in
      (k.0, part_gives no_commands p k.0 i.0 i.1 i.2 k.1, let b = a.2 in let c = k.2 in omega (arith, b, c))

  pub grounded-rounds-part : (p : ListPrefix) → IsIn log.rounds p
      → (rs : CommandRounds) × PartGivesRounds log no_command_rounds p rs × (rounds_depth rs ≤ n)
  grounded-rounds-part p i =
      let a = g.rounds p.list i.0 i.1 in
      let k = cut_rounds a.1 p.first in (
        k.0,
        part_gives_rounds no_command_rounds p k.0 i.0 i.1 i.2 k.1,
        let b = a.2 in let c = k.2 in
            omega (arith, b, c),
      )

  grounded-up : (m : ℕ) → n ≤ m → IsGrounded log m
  grounded-up m w = record {
    commands = λ i xs s. let a = g.commands i xs s in (a.0, a.1, let b = a.2 in omega (arith, b, w));
    rounds = λ i xs s. let a = g.rounds i xs s in (a.0, a.1, let b = a.2 in omega (arith, b, w));
    ordered = g.ordered;
  }

-- ---- parts that are whole

pub whole-in : {E : Type 0} (ess : List (List E)) (p : ListPrefix) → IsWhole ess p → IsIn ess p
whole-in ess p w = (w.0, w.1, let e = w.2 in omega (arith, e))

module _ (log : Log) (p : ListPrefix) where
  of-whole : (es : List Entry) (cs : Commands) → slice_get log.commands p.list ≡ Some es → p.first ≡ length es
      → PartGives log no_commands p cs → Gives log no_commands es cs
  of-whole es cs i w (part_gives _ _ _ fs j l h) = let k : fs ≡ es = cc in
      subst (λ x. Gives log no_commands x cs) (ap (take p.first) k ∙ ap (λ n. take n es) w ∙ take-whole es) h

  to-whole : (es : List Entry) (cs : Commands) → slice_get log.commands p.list ≡ Some es → p.first ≡ length es
      → Gives log no_commands es cs → PartGives log no_commands p cs
  to-whole es cs i w h = part_gives no_commands p cs es i (omega (arith, w))
      (subst (λ x. Gives log no_commands x cs) (sym (ap (λ n. take n es) w ∙ take-whole es)) h)

  of-whole-rounds : (es : List RoundEntry) (rs : CommandRounds) → slice_get log.rounds p.list ≡ Some es
      → p.first ≡ length es → PartGivesRounds log no_command_rounds p rs →
      GivesRounds log no_command_rounds es rs
  of-whole-rounds es rs i w (part_gives_rounds _ _ _ fs j l h) = let k : fs ≡ es = cc in
      subst (λ x. GivesRounds log no_command_rounds x rs) (ap (take p.first) k ∙ ap (λ n. take n es) w ∙ take-whole es)
      h

  to-whole-rounds : (es : List RoundEntry) (rs : CommandRounds) → slice_get log.rounds p.list ≡ Some es
      → p.first ≡ length es → GivesRounds log no_command_rounds es rs →
      PartGivesRounds log no_command_rounds p rs
  to-whole-rounds es rs i w h = part_gives_rounds no_command_rounds p rs es i (omega (arith, w))
      (subst (λ x. GivesRounds log no_command_rounds x rs) (sym (ap (λ n. take n es) w ∙ take-whole es)) h)

-- ---- one list more

module _ (log : Log) (es : List Entry) (n : ℕ) where
  pub grounded-list : IsGrounded log n → (cs : Commands) → Gives log no_commands es cs → depth cs ≤ n
      → IsGrounded (with_list log es) n
  grounded-list g cs h d = record {
    commands = λ i xs s. go i xs (get-more log.commands es xs i s);
    rounds = λ i xs s. let a = g.rounds i xs s in
        (a.0, rounds log (with_list log es) (more-list log.commands es) (more-itself log.rounds) a.1, a.2);
    ordered = order-stays log (with_list log es) g.ordered (more-list log.commands es) (more-itself log.rounds)
        (adds-list _ log.commands es (within log h)) (adds-none _ log.rounds);
  }
    where
      up : {ds all : Commands} {xs : List Entry} → Gives log ds xs all → Gives (with_list log es) ds xs all
      up x = gives log (with_list log es) (more-list log.commands es) (more-itself log.rounds) x

      go : (i : ℕ) (xs : List Entry) → (slice_get log.commands i ≡ Some xs) ⊎ ((i ≡ length log.commands) × (es ≡ xs)) →
          (all : Commands) × Gives (with_list log es) no_commands xs all × (depth all ≤ n)
      go i xs (inl s) = let a = g.commands i xs s in (a.0, up a.1, a.2)
      go i xs (inr s) = (cs, subst (λ x. Gives (with_list log es) no_commands x cs) s.1 (up h), d)

module _ (log : Log) (fs : List RoundEntry) (n : ℕ) where
  pub grounded-round-list : IsGrounded log n → (rs : CommandRounds) → GivesRounds log no_command_rounds fs rs
      → rounds_depth rs ≤ n → IsGrounded (with_round_list log fs) n
  grounded-round-list g rs h d = record {
    commands = λ i xs s. let a = g.commands i xs s in
        (a.0, gives log (with_round_list log fs) (more-itself log.commands) (more-list log.rounds fs) a.1, a.2);
    rounds = λ i xs s. go i xs (get-more log.rounds fs xs i s);
    ordered = order-stays log (with_round_list log fs) g.ordered (more-itself log.commands) (more-list log.rounds fs)
        (adds-none _ log.commands) (adds-list _ log.rounds fs (rounds-within log h));
  }
    where
      up : {ds all : CommandRounds} {xs : List RoundEntry} → GivesRounds log ds xs all
          → GivesRounds (with_round_list log fs) ds xs all
      up x = rounds log (with_round_list log fs) (more-itself log.commands) (more-list log.rounds fs) x

      go : (i : ℕ) (xs : List RoundEntry) → (slice_get log.rounds i ≡ Some xs) ⊎ ((i ≡ length log.rounds) × (fs ≡ xs)) →
          (all : CommandRounds) × GivesRounds (with_round_list log fs) no_command_rounds xs all × (rounds_depth all ≤ n)
      go i xs (inl s) = let a = g.rounds i xs s in (a.0, up a.1, a.2)
      go i xs (inr s) = (rs, subst (λ x. GivesRounds (with_round_list log fs) no_command_rounds x rs) s.1 (up h), d)

-- ---- a new handle

module _ (log : Log) (es : List Entry) (fs : List RoundEntry) where
  abbrev pub with_lists : Log
  with_lists = with_round_list (with_list log es) fs

  abbrev pub next_handle : Handle
  next_handle = record {
    current = record { list = length log.commands; first = length es };
    finished = record { list = length log.rounds; first = length fs };
  }

  given_entries : HasEntriesOf with_lists next_handle
  given_entries = ((es, get-last log.commands es, omega arith), (fs, get-last log.rounds fs, omega arith))

  pub given : IsNewHandle log with_lists next_handle
  given = record {
    live = lists_there with_lists next_handle given_entries;
    entries = given_entries;
    ends = ((es, get-last log.commands es, refl), (fs, get-last log.rounds fs, refl));
    apart = λ k l. (
      λ e. let a = l.0 in omega (arith, a, e),
      λ e. let a = l.1 in omega (arith, a, e),
    );
    kept = kept log with_lists (more-list log.commands es) (more-list log.rounds fs);
    still = λ k w. (
      (w.0.0, get-front log.commands (es ∷ []) k.current.list w.0.0 w.0.1, w.0.2),
      (w.1.0, get-front log.rounds (fs ∷ []) k.finished.list w.1.0 w.1.1, w.1.2),
    );
  }

  pub given-account : (a : Account) → Gives log no_commands es a.current
      → GivesRounds log no_command_rounds fs a.finished → IsAccount with_lists next_handle a
  given-account a h k = record {
    current = whole with_lists (length log.commands) es no_commands a.current (get-last log.commands es)
        (gives log with_lists (more-list log.commands es) (more-list log.rounds fs) h);
    finished = whole_rounds with_lists (length log.rounds) fs no_command_rounds a.finished (get-last log.rounds fs)
        (rounds log with_lists (more-list log.commands es) (more-list log.rounds fs) k);
  }

  pub grounded-lists : (n : ℕ) → IsGrounded log n → (cs : Commands) → Gives log no_commands es cs → depth cs ≤ n →
      (rs : CommandRounds) → GivesRounds log no_command_rounds fs rs → rounds_depth rs ≤ n → IsGrounded with_lists n
  grounded-lists n g cs h d rs k e = grounded-round-list (with_list log es) fs n (grounded-list log es n g cs h d) rs
      (rounds log (with_list log es) (more-list log.commands es) (more-itself log.rounds) k) e

-- ---- one entry more at the end of a list

module _ (log : Log) (at : ℕ) (e : Entry) where
  abbrev with_entry : Log
  with_entry = record log { commands = appended log.commands at e }

  grounded-entry : (n : ℕ) → IsGrounded log n → (c : Command) → GivesCommand log e c → command_depth c ≤ n
      → IsGrounded with_entry n
  grounded-entry n g c k d = record {
    commands = λ i xs s. go i xs (get-appended log.commands at i e xs s);
    rounds = λ i xs s. let a = g.rounds i xs s in
        (a.0, rounds log with_entry (more-entry log.commands at e) (more-itself log.rounds) a.1, a.2);
    ordered = order-stays log with_entry g.ordered (more-entry log.commands at e) (more-itself log.rounds)
        (adds-entry _ log.commands at e (command-within log e c k)) (adds-none _ log.rounds);
  }
    where
      up : {ds all : Commands} {xs : List Entry} → Gives log ds xs all → Gives with_entry ds xs all
      up x = gives log with_entry (more-entry log.commands at e) (more-itself log.rounds) x

      go : (i : ℕ) (xs : List Entry) →
          (slice_get log.commands i ≡ Some xs)
          ⊎ ((es : List Entry) × (slice_get log.commands i ≡ Some es) × (at ≡ i) × (xs ≡ es ++ e ∷ [])) →
          (all : Commands) × Gives with_entry no_commands xs all × (depth all ≤ n)
      go i xs (inl s) = let a = g.commands i xs s in (a.0, up a.1, a.2)
      go i xs (inr s) =
          let a = g.commands i s.0 s.1 in (
            command a.0 c,
            subst (λ x. Gives with_entry no_commands x (command a.0 c)) (sym s.3)
                (up (follow log a.1 (e ∷ []) (command a.0 c) (gives_one log a.0 e c k))),
            let b = a.2 in omega (arith, b, d),
          )

-- one round by itself
round_one : (log : Log) (rs : CommandRounds) (p : ListPrefix) (cs : Commands) → PartGives log no_commands p cs
    → GivesRounds log rs (RoundEntry.finishes p ∷ []) (command_round rs cs)
round_one log rs p cs q = gives_round rs p [] cs (command_round rs cs) q (gives_no_rounds (command_round rs cs))

module _ (log : Log) (at : ℕ) (p : ListPrefix) where
  abbrev with_round : Log
  with_round = record log { rounds = appended log.rounds at (RoundEntry.finishes p) }

  grounded-round : (n : ℕ) → IsGrounded log n → (cs : Commands) → PartGives log no_commands p cs → depth cs ≤ n
      → IsGrounded with_round n
  grounded-round n g cs q d = record {
    commands = λ i xs s. let a = g.commands i xs s in (
      a.0,
      gives log with_round (more-itself log.commands) (more-entry log.rounds at (RoundEntry.finishes p)) a.1,
      a.2,
    );
    rounds = λ i xs s. go i xs (get-appended log.rounds at i (RoundEntry.finishes p) xs s);
    ordered = order-stays log with_round g.ordered (more-itself log.commands)
        (more-entry log.rounds at (RoundEntry.finishes p)) (adds-none _ log.commands)
        (adds-entry _ log.rounds at (RoundEntry.finishes p) (in_of log q));
  }
    where
      up : {ds all : CommandRounds} {xs : List RoundEntry} → GivesRounds log ds xs all
          → GivesRounds with_round ds xs all
      up x = rounds log with_round (more-itself log.commands) (more-entry log.rounds at (RoundEntry.finishes p)) x

      go : (i : ℕ) (xs : List RoundEntry) →
          (slice_get log.rounds i ≡ Some xs) ⊎ ((es : List RoundEntry) × (slice_get log.rounds i ≡ Some es) × (at ≡ i)
          × (xs ≡ es ++ RoundEntry.finishes p ∷ [])) →
          (all : CommandRounds) × GivesRounds with_round no_command_rounds xs all × (rounds_depth all ≤ n)
      go i xs (inl s) = let a = g.rounds i xs s in (a.0, up a.1, a.2)
      go i xs (inr s) =
          let a = g.rounds i s.0 s.1 in (
            command_round a.0 cs,
            subst (λ x. GivesRounds with_round no_command_rounds x (command_round a.0 cs)) (sym s.3)
                (up (rounds_follow log a.1 (RoundEntry.finishes p ∷ []) (command_round a.0 cs)
                (round_one log a.0 p cs q))),
            let b = a.2 in omega (arith, b, d),
          )

-- ---- a part has one entry more

-- in place at the end of its list, or in a new list, which begins with what stands for the part
abbrev pub IsStep : {E : Type 0} → List (List E) → List (List E) → ListPrefix → ListPrefix → List E → E → Type 0
IsStep {E} old new p q front e =
    (IsWhole old p × (new ≡ appended old p.list e) × (q ≡ record { list = p.list; first = suc p.first }))
    ⊎ ((new ≡ old ++ (front ++ e ∷ []) ∷ []) × (q ≡ record { list = length old; first = suc (length front) }))

module _ {E : Type 0} (old new : List (List E)) (p q : ListPrefix) (front : List E) (e : E) where
  pub step-more : IsStep old new p q front e → HasMore old new
  step-more (inl s) = subst (HasMore old) (sym s.1) (more-entry old p.list e)
  step-more (inr s) = subst (HasMore old) (sym s.0) (more-list old (front ++ e ∷ []))

  -- the new part is all of its list, and ends with the entry
  abbrev Tip : List E → Type 0
  Tip es = (slice_get new q.list ≡ Some (es ++ e ∷ [])) × (q.first ≡ length (es ++ e ∷ []))

  step-in-place : (w : IsWhole old p) → new ≡ appended old p.list e → q ≡ record { list = p.list; first = suc p.first }
      → Tip w.0
  step-in-place w n i =
      subst (λ r. (slice_get new r.list ≡ Some (w.0 ++ e ∷ [])) × (r.first ≡ length (w.0 ++ e ∷ []))) (sym i) (
        ap (λ ess. slice_get ess p.list) n ∙ appended-same old p.list e w.0 w.1,
        let k = length-append w.0 (e ∷ []) in
            let f = w.2 in omega (arith, k, f),
      )

  step-forked : new ≡ old ++ (front ++ e ∷ []) ∷ [] → q ≡ record { list = length old; first = suc (length front) }
      → Tip front
  step-forked n i =
      subst (λ r. (slice_get new r.list ≡ Some (front ++ e ∷ [])) × (r.first ≡ length (front ++ e ∷ []))) (sym i) (
        ap (λ ess. slice_get ess (length old)) n
            ∙ get-last old (front ++ e ∷ []),
        let k = length-append front (e ∷ []) in omega (arith, k),
      )

  pub step-whole : IsStep old new p q front e → IsWhole new q
  step-whole (inl s) = let t = step-in-place s.0 s.1 s.2 in (s.0.0 ++ e ∷ [], t.0, t.1)
  step-whole (inr s) = let t = step-forked s.0 s.1 in (front ++ e ∷ [], t.0, t.1)

  pub step-far : IsStep old new p q front e → (k : ListPrefix) → k.list < length old → p.list ≢ k.list → q.list ≢ k.list
  step-far (inl s) k i n = λ h. n (sym (ap (λ r. r.list) s.2) ∙ h)
  step-far (inr s) k i n = λ h. let b = ap (λ r. r.list) s.1 in omega (arith, i, b, h)

  pub step-still : IsStep old new p q front e → (k : ListPrefix) → p.list ≢ k.list → IsWhole old k → IsWhole new k
  step-still (inl s) k n w = (
    w.0,
    ap (λ ess. slice_get ess k.list) s.1 ∙ appended-other old p.list k.list e n
        ∙ w.1,
    w.2,
  )
  step-still (inr s) k n w = (
    w.0,
    ap (λ ess. slice_get ess k.list) s.0
        ∙ get-front old ((front ++ e ∷ []) ∷ []) k.list w.0 w.1,
    w.2,
  )

module _ (log : Log) (h : Handle) (more : List (List Entry)) (q : ListPrefix) (front : List Entry) (e : Entry)
    (s : IsStep log.commands more h.current q front e) (c : Command)
    (g : GivesCommand log e c) (f : (cs : Commands) → PartGives log no_commands h.current cs
    → Gives log no_commands front cs) where
  abbrev pub with_more : Log
  with_more = record log { commands = more }

  longer_one : (es : List Entry) (cs : Commands) → Gives log no_commands es cs
      → Gives with_more no_commands (es ++ e ∷ []) (command cs c)
  longer_one es cs h = gives log with_more (step-more log.commands more _ q front e s) (more-itself log.rounds)
      (follow log h (e ∷ []) (command cs c) (gives_one log cs e c g))

  step-gives : (cs : Commands) → PartGives log no_commands h.current cs
      → PartGives with_more no_commands q (command cs c)
  step-gives cs a = go s
    where
      go : IsStep log.commands more h.current q front e → PartGives with_more no_commands q (command cs c)
      go (inl r) = let t = step-in-place log.commands more h.current q front e r.0 r.1 r.2 in
          to-whole with_more q (r.0.0 ++ e ∷ []) (command cs c) t.0 t.1
          (longer_one r.0.0 cs (of-whole log h.current r.0.0 cs r.0.1 r.0.2 a))
      go (inr r) = let t = step-forked log.commands more h.current q front e r.0 r.1 in
          to-whole with_more q (front ++ e ∷ []) (command cs c) t.0 t.1 (longer_one front cs (f cs a))

  step-entries : HasEntriesOf log h → HasEntriesOf with_more (record h { current = q })
  step-entries l = (whole-in more q (step-whole log.commands more h.current q front e s), l.1)

  pub step-changes : HasEntriesOf log h → IsUpdatedHandle log with_more h (record h { current = q }) (pushed c)
  step-changes l = record {
    live = lists_there with_more (record h { current = q }) (step-entries l);
    entries = step-entries l;
    account = λ a k. record {
      current = step-gives a.current k.current;
      finished = part_rounds log with_more (step-more log.commands more h.current q front e s) (more-itself log.rounds)
          k.finished;
    };
    ends = λ w. (step-whole log.commands more h.current q front e s, w.1);
    apart = λ k m n. (step-far log.commands more h.current q front e s k.current m.0 n.0, n.1);
    kept = kept log with_more (step-more log.commands more h.current q front e s) (more-itself log.rounds);
    still = λ k n w. (step-still log.commands more h.current q front e s k.current n.0 w.0, w.1);
  }

  pub step-grounded : (n m : ℕ) → IsGrounded log n → n ≤ m → command_depth c ≤ m → IsIn log.commands h.current
      → IsGrounded with_more m
  step-grounded n m k w d i = go s
    where
      u : IsGrounded log m
      u = grounded-up log n k m w

      go : IsStep log.commands more h.current q front e → IsGrounded with_more m
      go (inl r) = subst (λ ess. IsGrounded (record log { commands = ess }) m) (sym r.1)
          (grounded-entry log h.current.list e m u c g d)
      go (inr r) =
          let a = grounded-part log m u h.current i in
          subst (λ ess. IsGrounded (record log { commands = ess }) m) (sym r.0)
          (grounded-list log (front ++ e ∷ []) m u (command a.0 c)
          (follow log (f a.0 a.1) (e ∷ []) (command a.0 c) (gives_one log a.0 e c g))
          (let b = a.2 in omega (arith, b, d)))

-- ---- a round more, and an empty list

module _ (log : Log) (h : Handle) (more : List (List RoundEntry)) (q : ListPrefix) (front : List RoundEntry)
    (s : IsStep log.rounds more h.finished q front (RoundEntry.finishes h.current))
    (f : (rs : CommandRounds) → PartGivesRounds log no_command_rounds h.finished rs
    → GivesRounds log no_command_rounds front rs) where
  abbrev pub with_default : Log
  with_default = record { commands = log.commands ++ [] ∷ []; rounds = more }

  rounds_more : HasMore log.rounds more
  rounds_more = step-more log.rounds more h.finished q front (RoundEntry.finishes h.current) s

  longer_round : (es : List RoundEntry) (rs : CommandRounds) (cs : Commands) → GivesRounds log no_command_rounds es rs
      → PartGives log no_commands h.current cs →
      GivesRounds with_default no_command_rounds (es ++ RoundEntry.finishes h.current ∷ []) (command_round rs cs)
  longer_round es rs cs k p =
      rounds log with_default (more-list log.commands []) rounds_more
      (rounds_follow log k (RoundEntry.finishes h.current ∷ []) (command_round rs cs)
      (round_one log rs h.current cs p))

  step-rounds : (rs : CommandRounds) (cs : Commands) → PartGivesRounds log no_command_rounds h.finished rs
      → PartGives log no_commands h.current cs →
      PartGivesRounds with_default no_command_rounds q (command_round rs cs)
  step-rounds rs cs a p = go s
    where
      go : IsStep log.rounds more h.finished q front (RoundEntry.finishes h.current)
          → PartGivesRounds with_default no_command_rounds q (command_round rs cs)
      go (inl r) = let t = step-in-place log.rounds more h.finished q front (RoundEntry.finishes h.current) r.0 r.1
          r.2 in
          to-whole-rounds with_default q (r.0.0 ++ RoundEntry.finishes h.current ∷ []) (command_round rs cs) t.0 t.1
          (longer_round r.0.0 rs cs (of-whole-rounds log h.finished r.0.0 rs r.0.1 r.0.2 a) p)
      go (inr r) = let t = step-forked log.rounds more h.finished q front (RoundEntry.finishes h.current) r.0 r.1 in
          to-whole-rounds with_default q (front ++ RoundEntry.finishes h.current ∷ []) (command_round rs cs) t.0 t.1
          (longer_round front rs cs (f rs a) p)

  abbrev default_handle : Handle
  default_handle = record { current = record { list = length log.commands; first = 0 }; finished = q }

  default-entries : HasEntriesOf with_default default_handle
  default-entries = (
    ([], get-last log.commands [], omega arith),
    whole-in more q (step-whole log.rounds more h.finished q front (RoundEntry.finishes h.current) s),
  )

  pub default-changes : HasEntriesOf log h → IsUpdatedHandle log with_default h default_handle pushed_default
  default-changes l = record {
    live = lists_there with_default default_handle default-entries;
    entries = default-entries;
    account = λ a k. record {
      current = whole with_default (length log.commands) [] no_commands no_commands (get-last log.commands [])
          (gives_nothing no_commands);
      finished = step-rounds a.finished a.current k.finished k.current;
    };
    ends = λ w. (
      ([], get-last log.commands [], refl),
      step-whole log.rounds more h.finished q front (RoundEntry.finishes h.current) s,
    );
    apart = λ k m n. (
      λ e. let a = m.0 in omega (arith, a, e),
      step-far log.rounds more h.finished q front (RoundEntry.finishes h.current) s k.finished m.1 n.1,
    );
    kept = kept log with_default (more-list log.commands []) rounds_more;
    still = λ k n w. (
      (w.0.0, get-front log.commands ([] ∷ []) k.current.list w.0.0 w.0.1, w.0.2),
      step-still log.rounds more h.finished q front (RoundEntry.finishes h.current) s k.finished n.1 w.1,
    );
  }

  pub default-grounded : (n : ℕ) → IsGrounded log n → HasEntriesOf log h → IsGrounded with_default n
  default-grounded n k l =
      grounded-list (record log { rounds = more }) [] n (go s) no_commands (gives_nothing no_commands) (omega arith)
    where
      p : (cs : Commands) × PartGives log no_commands h.current cs × (depth cs ≤ n)
      p = grounded-part log n k h.current l.0

      go : IsStep log.rounds more h.finished q front (RoundEntry.finishes h.current)
          → IsGrounded (record log { rounds = more }) n
      go (inl r) = subst (λ ess. IsGrounded (record log { rounds = ess }) n) (sym r.1)
          (grounded-round log h.finished.list h.current n k p.0 p.1 p.2)
      go (inr r) =
          let a = grounded-rounds-part log n k h.finished l.1 in
          subst (λ ess. IsGrounded (record log { rounds = ess }) n) (sym r.0)
          (grounded-round-list log (front ++ RoundEntry.finishes h.current ∷ []) n k (command_round a.0 p.0)
          (rounds_follow log (f a.0 a.1) (RoundEntry.finishes h.current ∷ []) (command_round a.0 p.0)
          (round_one log a.0 h.current p.0 p.1)) (let b = a.2 in let c = p.2 in omega (arith, b, c)))
