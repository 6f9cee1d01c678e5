-- What is next after beginnings, and two of them that clash.
use Rattle.std.proofs.Common.{ℕ, ◌≡◌, inl, inr, Bool, true, false, ◌||◌, not, nat_eq, Option, Some, None, option_map}
use Rattle.std.proofs.Common.{List, [], ◌∷◌, map, reverse, refl, sym, ap, subst, ◌∙◌}
use Rattle.std.specs.Prelude.{◌↔◌, ◌==◌, if◌then◌else◌, IsSome, IfSome}
use Rattle.std.specs.List.{filter_map, cons_option}
use Rattle.std.proofs.lemmas.Bool.{eqb-false}
use Rattle.mbe_tt.specs.Trees.Tree.{Forest, flat_len, rest_at}
use Rattle.mbe_tt.specs.Grammars.Grammar.{Grammar, IsLawful}
use Rattle.mbe_semantics.specs.declared.fragment_kinds.RepeatKind.{RepeatKind}
use Rattle.mbe_semantics.specs.declared.fragment_kinds.RepeatKind.TheVariants.{ZeroOrMore, OneOrMore, ZeroOrOne}
use Rattle.mbe_semantics.specs.Syntax.Op.{Separator, token, group, variable, repetition, expression, Ops, no_ops, op}
use Rattle.mbe_semantics.specs.Syntax.Nullable.{Checked}
use Rattle.mbe_semantics.specs.Laws.Lawful.{Lawful}
use Rattle.mbe_semantics.specs.Readings.Ambiguity.{Conflict}
use Rattle.mbe_semantics.specs.Readings.Input.{Input, input_of}
use Rattle.mbe_semantics.specs.Readings.Item.{Items, Rounds}
use Rattle.mbe_semantics.specs.Readings.Reading.{Frame, inside, within, PartialReading, partial, offset, EndsAt}
use Rattle.mbe_semantics.specs.Readings.Steps.{Move, move, round_move, separator_move, next}
use Rattle.mbe_semantics.specs.Readings.Verdict.{Verdict, ambiguous, stop_of}
use Rattle.mbe_semantics.specs.Bindings.Account.{Log, Handle}
use Rattle.mbe_semantics.specs.Matching.States.{state_count}
use Rattle.mbe_semantics.specs.Matching.Closure.{closure, moves_of, has_ambiguity_with, has_ambiguity}
use Rattle.mbe_semantics.specs.Matching.Lists.{In, Distinct, NoneAt}
use Rattle.mbe_semantics.specs.Matching.ThreadModel.{ThreadModel, erase, erase_move}
use Rattle.mbe_semantics.specs.Matching.Trace.{trace}
use Rattle.mbe_laws.proofs.Matching.Ambiguities.{from_filter, in_filter}
use Rattle.mbe_laws.proofs.Matching.ThreadModels.{erase_next}
use Rattle.mbe_laws.specs.Bounded.States.{state_of}
use Rattle.mbe_laws.specs.Bounded.ClosureTwoEach.{first_two_each}
use Rattle.mbe_laws.specs.Loop.StackClosure.{kept, stack_moves}
use Rattle.mbe_laws.proofs.Run.Moves.{same-clash}
use Rattle.mbe_laws.proofs.Run.BoundedRun.{two_each-is, holds_two_each}
use Rattle.mbe_laws.proofs.Loop.BoundedOffsets.{erase_closed, ambiguity_is}
use Rattle.mbe_laws.proofs.Loop.TurnedOffsets.{ComesTo}
use Rattle.mbe_threads.specs.declared.thread.ThreadFrame.{ThreadFrame}
use Rattle.mbe_threads.specs.declared.thread.TokenStep.{TokenStep}
use Rattle.mbe_matcher.specs.declared.expectations.StepWidth.{StepWidth}
use Rattle.mbe_matcher.specs.declared.expectations.NextStep.{NextStep}
use Rattle.mbe_matcher.specs.MatchResults.{IsFrontier}
use Rattle.mbe_threads.specs.Stops.{is_ambiguity, verdict_at_end, stuck_at, stop_at}
use Rattle.mbe_matcher.specs.Expected.{Expected, closing, separating, reading, before_round, expected, IsExpected}
use Rattle.mbe_matcher.specs.Expected.{AreAmbiguous, Continuation, step_of_move, continuation_of, are_ambiguous, both}
use Rattle.mbe_matcher.specs.Expected.{ambiguous_with, ambiguity_if, first_ambiguity, thread_expects, step_of_advance}
use Rattle.mbe_matcher.specs.Expected.{thread_continuation, next_step_seen, next_in, AreContinuations, AreExpected}
use Rattle.mbe_matcher.specs.Expected.{HasAmbiguousPair}
use Rattle.mbe_matcher.proofs.MatchEnds.{same_ambiguity}

-- ---- outlines want what their beginnings do

pub same_expects : (x : PartialReading) → thread_expects (erase x) ≡ expected x
same_expects (partial no_ops is []) = refl
same_expects (partial no_ops is (inside d b rest js ∷ up)) = refl
same_expects (partial no_ops is (within b s k rest js rs ∷ up)) = refl
same_expects (partial (op o rest) is up) = refl

same_step : (o : Option Move) → step_of_advance (option_map erase_move o) ≡ step_of_move o
same_step None = refl
same_step (Some (move n f y)) = refl

abbrev on : Option Expected → Option StepWidth → Continuation
on n s = record { next = n; step = s }

same_continuation : (i : Input) (q : ℕ) (x : PartialReading) → offset x ≡ q → thread_continuation i q (erase x)
    ≡ continuation_of i q x
same_continuation i q x e =
    ap (λ n. on n (thread_continuation i q (erase x)).step) (same_expects x)
    ∙ ap (λ o. on (expected x) (step_of_advance o)) (sym (erase_next i q x e))
    ∙ ap (on (expected x)) (same_step (next i q x))

same_steps : (i : Input) (pattern : Ops) (q : ℕ) (xs : List PartialReading)
    → ((x : PartialReading) → In x xs → EndsAt i pattern q x) →
    map (thread_continuation i q) (map erase xs) ≡ map (continuation_of i q) xs
same_steps i pattern q [] a = refl
same_steps i pattern q (x ∷ xs) a =
    ap (λ w. w ∷ map (thread_continuation i q) (map erase xs)) (same_continuation i q x (a x (inl refl)).1)
    ∙ ap (λ l. continuation_of i q x ∷ l) (same_steps i pattern q xs (λ y m. a y (inr m)))

-- ---- a dot determines what is next

state_expects : (x : PartialReading) → expected (state_of x) ≡ expected x
state_expects (partial no_ops is []) = refl
state_expects (partial no_ops is (inside d b rest js ∷ up)) = refl
state_expects (partial no_ops is (within b s k rest js rs ∷ up)) = refl
state_expects (partial (op o rest) is up) = refl

alike : (x y : PartialReading) → state_of y ≡ state_of x → expected y ≡ expected x
alike x y e = sym (state_expects y) ∙ ap expected e ∙ state_expects x

next_all : (i : Input) (q : ℕ) (xs : List PartialReading) → next_in (map (continuation_of i q) xs)
    ≡ filter_map expected xs
next_all i q [] = refl
next_all i q (x ∷ xs) = ap (cons_option (expected x)) (next_all i q xs)

pub expected_all : {A : Type 0} (i : Input) (pattern : Ops) (q : ℕ) (v : Verdict) (next_steps : List (NextStep A))
    (r : AreContinuations i pattern q v next_steps) →
    (w : Expected) → In w (next_in (map next_step_seen next_steps)) ↔ IsExpected i pattern q w
expected_all i pattern q v next_steps r w = (λ m. there (subst (In w) same m), λ k. subst (In w) (sym same) (back k))
  where
    same : next_in (map next_step_seen next_steps) ≡ filter_map expected r.of
    same = ap next_in r.are ∙ next_all i q r.of

    there : In w (filter_map expected r.of) → IsExpected i pattern q w
    there m = let f = from_filter expected w r.of m in (f.0, r.here f.0 f.1, f.2)

    back : IsExpected i pattern q w → In w (filter_map expected r.of)
    back k = let y = r.every k.0 k.1 in in_filter expected y.0 w r.of y.1 (alike k.0 y.0 y.2 ∙ k.2)

-- ---- where a beginning goes on, something is next

no_second_round : (i : Input) (b : Ops) (s : Option Separator) (rest : Ops) (js : Items) (rs : Rounds) (up : List Frame)
    (is : Items) (m : Move) (w : Option ℕ) →
    round_move ZeroOrOne w b s rest js rs up is ≡ Some m → ⊥
no_second_round i b s rest js rs up is m None e = cc
no_second_round i b s rest js rs up is m (Some w) e = cc

round_expects : (i : Input) (q : ℕ) (s : Option Separator) (k : RepeatKind) (b rest : Ops) (js : Items) (rs : Rounds)
    (up : List Frame) (is : Items) (m : Move) →
    separator_move i q s k b rest js rs up is ≡ Some m → (w : Expected) × (before_round k s ≡ Some w)
round_expects i q None k b rest js rs up is m e = cc
round_expects i q (Some s) ZeroOrMore b rest js rs up is m e = (separating s, refl)
round_expects i q (Some s) OneOrMore b rest js rs up is m e = (separating s, refl)
round_expects i q (Some s) ZeroOrOne b rest js rs up is m e =
    absurd (no_second_round i b (Some s) rest js rs up is m (i.separator_at s q) e)

moved_expects : (i : Input) (q : ℕ) (x : PartialReading) (m : Move) → next i q x ≡ Some m → (w : Expected)
    × (expected x ≡ Some w)
moved_expects i q (partial no_ops is []) m e = cc
moved_expects i q (partial no_ops is (inside d b rest js ∷ up)) m e = (closing, refl)
moved_expects i q (partial no_ops is (within b s k rest js rs ∷ up)) m e = round_expects i q s k b rest js rs up is m e
moved_expects i q (partial (op (token t) rest) is up) m e = (reading (token t), refl)
moved_expects i q (partial (op (variable name kind span) rest) is up) m e = (reading (variable name kind span), refl)
moved_expects i q (partial (op (group d b) rest) is up) m e = (reading (group d b), refl)
moved_expects i q (partial (op (repetition b s k) rest) is up) m e = cc
moved_expects i q (partial (op (expression o) rest) is up) m e = cc

-- ---- two that clash

not_true : (b : Bool) → not b ≡ true → b ≡ false
not_true true e = cc
not_true false e = refl

ambiguity_of : (n m : ℕ) (f g : Bool) → (f || g || not (nat_eq n m)) ≡ true → Conflict n f m g
ambiguity_of n m true g e = inl refl
ambiguity_of n m false true e = inr (inl refl)
ambiguity_of n m false false e = inr (inr (eqb-false n m (not_true (nat_eq n m) e)))

module _ (i : Input) (pattern : Ops) (q : ℕ) where
  abbrev Clashing : Expected × Expected → Type 0
  Clashing p = AreAmbiguous i pattern q p.0 p.1

  module _ (x : PartialReading) (here : EndsAt i pattern q x) (n : ℕ) (f : Bool) (y : PartialReading)
      (goes : next i q x ≡ Some (move n f y)) where
    s : StepWidth
    s = record { width = n; by_fragment = f }

    first : (w : Expected) × (expected x ≡ Some w)
    first = moved_expects i q x (move n f y) goes

    with_two : (xs : List PartialReading) → ((z : PartialReading) → In z xs → EndsAt i pattern q z)
        → NoneAt trace (trace x) xs →
        IfSome (ambiguous_with (record { width = n; by_fragment = f }) (expected x) (map (continuation_of i q) xs))
        Clashing
    with_two [] a d = tt
    with_two (z ∷ zs) a d = turn (next i q z) refl (with_two zs (λ v m. a v (inr m)) (λ v m. d v (inr m)))
      where
        rest : Option (Expected × Expected)
        rest = ambiguous_with (record { width = n; by_fragment = f }) (expected x) (map (continuation_of i q) zs)

        pair : (m : ℕ) (g : Bool) (v : PartialReading) → next i q z ≡ Some (move m g v) → (f || g || not (nat_eq n m))
            ≡ true
            → IfSome (both (expected x) (expected z)) Clashing
        pair m g v e c =
            let second = moved_expects i q z (move m g v) e in
            subst (λ a. IfSome (both a (expected z)) Clashing) (sym first.1)
            (subst (λ b. IfSome (both (Some first.0) b) Clashing) (sym second.1) (
              record {
                one = x;
                other = z;
                one_at = here;
                other_at = a z (inl refl);
                differ = λ t. d z (inl refl) (ap trace t);
                n = n;
                m = m;
                f = f;
                g = g;
                one_steps = (y, goes);
                other_steps = (v, e);
                ambiguity = ambiguity_of n m f g c;
              },
              first.1,
              second.1,
            ))

        by : (m : ℕ) (g : Bool) (v : PartialReading) → next i q z ≡ Some (move m g v) → (b : Bool)
            → (f || g || not (nat_eq n m)) ≡ b → IfSome rest Clashing →
            IfSome (if b then both (expected x) (expected z) else rest) Clashing
        by m g v e true c r = pair m g v e c
        by m g v e false c r = r

        turn : (o : Option Move) → next i q z ≡ o → IfSome rest Clashing →
            IfSome (if are_ambiguous (record { width = n; by_fragment = f }) (step_of_move o) then both (expected x)
            (expected z)
            else rest) Clashing
        turn None e r = r
        turn (Some (move m g v)) e r = by m g v e (f || g || not (nat_eq n m)) refl r

    with_some : (xs : List PartialReading) → has_ambiguity_with n f (moves_of i q xs) ≡ true
        → IsSome (ambiguous_with (record { width = n; by_fragment = f }) (expected x) (map (continuation_of i q) xs))
    with_some [] e = cc
    with_some (z ∷ zs) e = turn (next i q z) refl e (λ c. with_some zs c)
      where
        rest : Option (Expected × Expected)
        rest = ambiguous_with (record { width = n; by_fragment = f }) (expected x) (map (continuation_of i q) zs)

        pair : (m : ℕ) (g : Bool) (v : PartialReading) → next i q z ≡ Some (move m g v)
            → IsSome (both (expected x) (expected z))
        pair m g v e =
            let second = moved_expects i q z (move m g v) e in
            subst (λ a. IsSome (both a (expected z))) (sym first.1)
            (subst (λ b. IsSome (both (Some first.0) b)) (sym second.1) refl)

        by : (m : ℕ) (g : Bool) (v : PartialReading) → next i q z ≡ Some (move m g v) → (b : Bool)
            → (b || has_ambiguity_with n f (moves_of i q zs)) ≡ true →
            (has_ambiguity_with n f (moves_of i q zs) ≡ true → IsSome rest)
            → IsSome (if b then both (expected x) (expected z) else rest)
        by m g v e true c r = pair m g v e
        by m g v e false c r = r c

        turn : (o : Option Move) → next i q z ≡ o → has_ambiguity_with n f (cons_option o (moves_of i q zs)) ≡ true →
            (has_ambiguity_with n f (moves_of i q zs) ≡ true → IsSome rest) →
            IsSome (if are_ambiguous (record { width = n; by_fragment = f }) (step_of_move o) then both (expected x)
            (expected z)
            else rest)
        turn None e c r = r c
        turn (Some (move m g v)) e c r = by m g v e (f || g || not (nat_eq n m)) c r

  -- those that the program finds clash
  pub ambiguity_two : (xs : List PartialReading) → ((x : PartialReading) → In x xs → EndsAt i pattern q x)
      → Distinct trace xs
      → IfSome (first_ambiguity (map (continuation_of i q) xs)) Clashing
  ambiguity_two [] a d = tt
  ambiguity_two (x ∷ xs) a d = turn (next i q x) refl (ambiguity_two xs (λ v m. a v (inr m)) d.1)
    where
      turn : (o : Option Move) → next i q x ≡ o → IfSome (first_ambiguity (map (continuation_of i q) xs)) Clashing →
          IfSome (ambiguity_if (step_of_move o) (expected x) (map (continuation_of i q) xs)
          (first_ambiguity (map (continuation_of i q) xs)))
          Clashing
      turn None e r = r
      turn (Some (move n f y)) e r = with_two x (a x (inl refl)) n f y e xs (λ v m. a v (inr m)) d.0

  -- and it finds two where there are any
  pub ambiguity_some : (xs : List PartialReading) → ((x : PartialReading) → In x xs → EndsAt i pattern q x)
      → has_ambiguity (moves_of i q xs) ≡ true → IsSome (first_ambiguity (map (continuation_of i q) xs))
  ambiguity_some [] a e = cc
  ambiguity_some (x ∷ xs) a e = turn (next i q x) refl e (λ c. ambiguity_some xs (λ v m. a v (inr m)) c)
    where
      turn : (o : Option Move) → next i q x ≡ o → has_ambiguity (cons_option o (moves_of i q xs)) ≡ true →
          (has_ambiguity (moves_of i q xs) ≡ true → IsSome (first_ambiguity (map (continuation_of i q) xs))) →
          IsSome (ambiguity_if (step_of_move o) (expected x) (map (continuation_of i q) xs)
          (first_ambiguity (map (continuation_of i q) xs)))
      turn None e c r = r c
      turn (Some (move n f y)) e c r = with_some x (a x (inl refl)) n f y e xs c

-- ---- what is looked at where the match stops

same_some : {X : Type 0} (x y : X) → Some x ≡ Some y → x ≡ y
same_some x y e = cc

-- an ambiguity is that of two that wait
module _ {A : Type 0} (q len p : ℕ) (ws : List (TokenStep A)) (hs : List Handle) where
  not_ended : (ks : List Handle) → verdict_at_end q ks ≡ ambiguous p → ⊥
  not_ended [] e = cc
  not_ended (h ∷ []) e = cc
  not_ended (h ∷ k ∷ ks) e = cc

  not_stuck : (xs : List (TokenStep A)) → Some (ambiguous p) ≡ stuck_at q xs → ⊥
  not_stuck [] e = cc
  not_stuck (x ∷ xs) e = cc

  clash_by : (b c : Bool) → is_ambiguity ws ≡ c
      → Some (ambiguous p) ≡ (if b then Some (verdict_at_end q hs) else if c then Some (ambiguous q) else stuck_at q ws)
      → is_ambiguity ws ≡ true
  clash_by true c d e = absurd (not_ended hs (sym (same_some (ambiguous p) (verdict_at_end q hs) e)))
  clash_by false true d e = d
  clash_by false false d e = absurd (not_stuck ws e)

  stopped_ambiguity : Some (ambiguous p) ≡ stop_at q len ws hs → is_ambiguity ws ≡ true
  stopped_ambiguity e = clash_by (q == len) (is_ambiguity ws) refl e

pub continuations_are : {A : Type 0} (g : Grammar) (pattern : Ops) (argument : Forest) → IsLawful g
    → (lawful : Lawful (input_of g argument) (flat_len argument)) (checked : Checked pattern) (q : ℕ)
    (thread_stack : List ThreadModel) →
    ComesTo (input_of g argument) pattern (flat_len argument) lawful checked q thread_stack →
    (log : Log) (frames : List (ThreadFrame A)) (ws : List (TokenStep A)) (hs : List Handle)
    → IsFrontier (input_of g argument) q pattern thread_stack log frames (rest_at argument q) ws hs →
    (v : Verdict) → Some v ≡ stop_at q (flat_len argument) ws hs → (next_steps : List (NextStep A)) →
    map next_step_seen next_steps ≡ map (thread_continuation (input_of g argument) q)
    (kept (input_of g argument) (state_count pattern) q (reverse thread_stack)) →
    AreContinuations (input_of g argument) pattern q v next_steps
continuations_are g pattern argument law lawful checked q thread_stack c log frames ws hs st v stop next_steps e =
    let i = input_of g argument in
    let holds = holds_two_each g pattern argument law checked q c.xs c.zs lawful checked c.mirrors in
    let kept_is : kept i (state_count pattern) q (reverse thread_stack)
    ≡ map erase (first_two_each (closure i q c.zs)) =
    ap (kept i (state_count pattern) q) (sym c.same)
    ∙ sym (erase_closed i pattern q (state_count pattern) c.xs c.mirrors.sound)
    ∙ ap (map erase) (two_each-is i pattern (flat_len argument) lawful checked q c.xs c.zs c.mirrors) in
    record {
      of = first_two_each (closure i q c.zs);
      are = e ∙ ap (map (thread_continuation i q)) kept_is
          ∙ same_steps i pattern q (first_two_each (closure i q c.zs)) holds.partial_readings;
      here = holds.partial_readings;
      once = holds.once;
      every = holds.one;
      ambiguity = λ p d.
          same-clash i pattern (flat_len argument) lawful checked q c.zs c.mirrors.inv
          ∙ sym (ambiguity_is i pattern (flat_len argument) lawful checked q (reverse thread_stack) c)
          ∙ same_ambiguity log frames (rest_at argument q) ws
          (stack_moves i (state_count pattern) q (reverse thread_stack)) st.continues
          ∙ stopped_ambiguity q (flat_len argument) p ws hs (ap Some (sym d) ∙ stop);
    }

-- ---- what is reported

pub are_wanted : {A : Type 0} (g : Grammar) (pattern : Ops) (argument : Forest) (v : Verdict)
    (next_steps : List (NextStep A))
    → AreContinuations (input_of g argument) pattern (stop_of argument v) v next_steps →
    AreExpected g pattern argument v (next_in (map next_step_seen next_steps))
are_wanted g pattern argument v next_steps r =
    λ w. expected_all (input_of g argument) pattern (stop_of argument v) v next_steps r w

pub ambiguity_there : {A : Type 0} (g : Grammar) (pattern : Ops) (argument : Forest) (v : Verdict)
    (next_steps : List (NextStep A))
    → AreContinuations (input_of g argument) pattern (stop_of argument v) v next_steps →
    HasAmbiguousPair g pattern argument v (first_ambiguity (map next_step_seen next_steps))
ambiguity_there g pattern argument v next_steps r =
    let i = input_of g argument in
    let q = stop_of argument v in
    record {
      two = subst (λ l. IfSome (first_ambiguity l) (λ p. AreAmbiguous i pattern q p.0 p.1)) (sym r.are)
          (ambiguity_two i pattern q r.of r.here r.once);
      some = λ p e. subst (λ l. IsSome (first_ambiguity l)) (sym r.are)
          (ambiguity_some i pattern q r.of r.here (r.ambiguity p e));
    }
