-- An only position that goes on over some tokens.
use Rattle.std.proofs.Common.{ℕ, ◌≡◌, ◌<◌, ◌≤◌, ◌∷◌, true, false, Option, Some, None, List, [], length, get_or, reverse}
use Rattle.std.proofs.Common.{refl, sym, ap, subst, ◌∙◌, arith}
use Rattle.std.specs.Prelude.{IfSome, Result, Ok, Err, IfOk, OnOk, is_some}
use Rattle.std.specs.declared.alloc.AllocError.{AllocError}
use Rattle.std.specs.List.{filter_map}
use Rattle.std.proofs.lemmas.Bool.{ne_eqb}
use Rattle.mbe_tt.specs.Trees.Tree.{Forest, flat_len, rest_at}
use Rattle.mbe_tt.specs.Views.View.{trees}
use Rattle.mbe_tt.specs.Grammars.Grammar.{Grammar}
use Rattle.mbe_semantics.specs.Readings.Input.{Input, input_of}
use Rattle.mbe_semantics.specs.Bindings.Account.{Log}
use Rattle.mbe_semantics.specs.Matching.States.{state_count}
use Rattle.mbe_semantics.specs.Matching.ThreadModel.{ThreadModel, finished_of}
use Rattle.mbe_semantics.proofs.InputLemmas.{lawful_input}
use Rattle.mbe_laws.specs.Loop.StackClosure.{kept}
use Rattle.mbe_threads.specs.declared.source.Source.{Source}
use Rattle.mbe_threads.specs.declared.thread.ThreadFrame.{ThreadFrame}
use Rattle.mbe_threads.specs.declared.thread.Thread.{Thread}
use Rattle.mbe_threads.specs.declared.thread.Steps.{Steps}
use Rattle.mbe_threads.specs.declared.thread.TokenStep.{TokenStep}
use Rattle.mbe_threads.specs.Stops.{stop_at}
use Rattle.mbe_matcher.specs.Threads.{Each, Shows, IsThread, Holds, AreStepsNow, AreSteps, GivesSteps, Keeps}
use Rattle.mbe_matcher.specs.Threads.{GivesAlone, IsAtMostOver, only_step}
use Rattle.mbe_matcher.specs.MatchResults.{IsStackOf}
use Rattle.mbe_matcher.specs.Failures.{Notes, mismatch, or_first, noted_with}
use Rattle.mbe_matcher.specs.Reports.{AdvancesAlone, StepsAlone}
use Rattle.mbe_matcher.proofs.Frontiers.{Walked, walked_start, walked_take, walked_done, walked_end, misfits_start}
use Rattle.mbe_matcher.proofs.Frontiers.{misfits_take, fills_begin, fills_next, fills_done, each_none}

-- ---- what is noted of nothing

or_first_none : {X : Type 0} (x : Option X) → or_first x [] ≡ x
or_first_none None = refl
or_first_none (Some x) = refl

pub nothing_noted : (n : Notes) → noted_with [] [] n ≡ n
nothing_noted n = ap (λ x. let m : Notes = record { first = x; last = n.last } in m) (or_first_none n.first)

-- ---- one position

pub only_one : {X : Type 0} (xs : List X) (x : X) → 1 ≤ length xs → length xs < 2 → x ≡ get_or xs 0 x → xs ≡ x ∷ []
only_one [] x l m e = absurd (omega arith)
only_one (y ∷ []) x l m e = ap (λ z. z ∷ []) (sym e)
only_one (y ∷ z ∷ xs) x l m e = absurd (omega arith)

-- ---- a step with no other one

pub if_ok : {X Y : Type 0} (r : Result X Y) (P : X → Type 0) → ((x : X) → P x) → IfOk r P
if_ok (Ok x) P h = h x
if_ok (Err y) P h = tt

-- before the end, one that waits is no stop
pub waits_on : {A : Type 0} (q len : ℕ) (w : TokenStep A) → q < len → None ≡ stop_at q len (w ∷ []) []
waits_on q len w l = rw (ne_eqb q len (λ e. omega (arith, l, e))) refl

module _ {A : Type 0} (g : Grammar) (source : Source A) (size : ℕ) (log new : Log) (frames after : List (ThreadFrame A))
    (p : Thread A) (s : IsStackOf g source size log frames (p ∷ [])) (w : TokenStep A)
    (gives : (o : ThreadModel) → Shows log frames p o
    → AreSteps (input_of g (trees source.whole)) (trees source.whole) source.offset log new frames after o
    (only_step w)) where
  abbrev f : Forest
  f = trees source.whole

  abbrev i : Input
  i = input_of g f

  abbrev q : ℕ
  q = source.offset

  abbrev all : List ThreadModel
  all = kept i (state_count s.pattern) q (reverse s.thread_stack)

  begun : Walked i s.pattern q all [] log frames (rest_at f q) (p ∷ []) [] []
  begun = walked_start i q size log frames (rest_at f q) (p ∷ []) [] [] s refl refl

  gone : Walked i s.pattern q all (p.number ∷ []) new after (rest_at f q) [] (w ∷ []) []
  gone = walked_take i s.pattern f q all [] log frames [] (p ∷ []) p [] [] refl begun new after (only_step w) []
      (w ∷ []) [] gives refl refl refl refl

  done : gone.out ≡ all
  done = walked_done i q size log new frames after (rest_at f q) (p ∷ []) [] (p.number ∷ []) (w ∷ []) [] s refl gone

  no_misfits : filter_map (mismatch i q) gone.out ≡ []
  unfolding begun gone
  no_misfits = misfits_take i s.pattern f q all [] log frames [] (p ∷ []) p [] [] refl begun new after (only_step w) []
      (w ∷ []) [] gives refl refl refl refl refl
      (misfits_start i q size log frames (rest_at f q) (p ∷ []) [] [] s refl refl)

  pub goes_alone : AdvancesAlone g source s.pattern s.thread_stack new after w
  unfolding begun gone
  goes_alone = record {
    steps = walked_end i q size log new frames after (rest_at f q) (p ∷ []) [] (p.number ∷ []) (w ∷ []) [] s refl gone;
    notes = λ n.
        ap (λ l. noted_with l (filter_map finished_of all) n)
        (sym (ap (λ l. filter_map (mismatch i q) l) done) ∙ no_misfits)
        ∙ ap (λ l. noted_with [] l n) (sym (ap (λ l. filter_map finished_of l) done)
        ∙ each_none (Holds new) (filter_map finished_of gone.out) gone.ended)
        ∙ nothing_noted n;
    all = λ lawful.
        let l = lawful_input g f lawful in
        fills_done i q size log new frames after (rest_at f q) (p ∷ []) [] (p.number ∷ []) (w ∷ []) [] s refl gone
        (flat_len f) l
        (fills_next i s.pattern f q all [] log frames [] (p ∷ []) p [] [] refl begun new after (only_step w) []
        (w ∷ []) [] gives refl refl refl refl s.thread_stack (flat_len f)
        l (fills_begin i q size log frames (rest_at f q) (p ∷ []) [] [] s refl refl (flat_len f) l));
  }

-- the only position of a stack is of some outline
pub only_shown : {A : Type 0} (g : Grammar) (source : Source A) (size : ℕ) (log : Log) (frames : List (ThreadFrame A))
    (todo : List (Thread A)) (p : Thread A) → IsStackOf g source size log frames todo → todo ≡ p ∷ []
    → IsThread log frames p
only_shown {A} g source size log frames todo p s e =
    go s.thread_stack (subst (λ l. Each (Shows log frames) l s.thread_stack) e s.shown)
  where
    go : (os : List ThreadModel) → Each (Shows log frames) (p ∷ []) os → IsThread log frames p
    go [] h = absurd h
    go (o ∷ os) h = (o, h.0)

-- so goes an only position by the step that it has alone
pub steps_alone : {A : Type 0} (g : Grammar) (source : Source A) (log new : Log) (frames after : List (ThreadFrame A))
    (todo : List (Thread A)) (p : Thread A) → todo ≡ p ∷ [] → (answer : Result (Option (TokenStep A)) AllocError)
    → GivesAlone g source log new frames after p answer
    → IfOk answer (λ n. IfSome n (StepsAlone g source log new frames after todo))
steps_alone g source log new frames after todo p e (Err err) gives = tt
steps_alone g source log new frames after todo p e (Ok None) gives = tt
steps_alone {A} g source log new frames after todo p e (Ok (Some w)) gives = λ size.
    subst (λ l. (s : IsStackOf g source size log frames l)
    → AdvancesAlone g source s.pattern s.thread_stack new after w) (sym e)
    (λ s. goes_alone g source size log new frames after p s w
    (λ o h. let all = gives o h in record { now = all.1; kept = all.0 }))

-- and nothing that was written is lost
pub kept_alone : {A : Type 0} (g : Grammar) (source : Source A) (log new : Log) (frames after : List (ThreadFrame A))
    (p : Thread A) → IsThread log frames p → (answer : Result (Option (TokenStep A)) AllocError)
    → GivesAlone g source log new frames after p answer → OnOk answer (Keeps log new frames after)
kept_alone g source log new frames after p is (Err err) gives = tt
kept_alone g source log new frames after p is (Ok n) gives = (gives is.0 is.1).0

-- ---- one step alone

pub is_none : {X : Type 0} (x : Option X) → is_some x ≡ false → x ≡ None
is_none None e = refl
is_none (Some x) e = absurd (let k : true ≡ false = e in cc)

-- what has at most one step over some tokens has that alone
pub only_next : {A : Type 0} (g : Grammar) (source : Source A) (log new : Log) (frames after : List (ThreadFrame A))
    (p : Thread A) (s : Steps A) → IsAtMostOver s → GivesSteps g source log new frames after p (Ok s)
    → GivesAlone g source log new frames after p (Ok s.next)
only_next {A} g source log new frames after p s most gives = λ o h.
    let all = gives o h in
    (all.kept, go o s.next most all.now)
  where
    go : (o : ThreadModel) (n : Option (TokenStep A)) → IfSome n (λ w. s ≡ only_step w)
        → AreStepsNow (input_of g (trees source.whole)) (trees source.whole) source.offset new after o s
        → IfSome n (λ w.
        AreStepsNow (input_of g (trees source.whole)) (trees source.whole) source.offset new after o (only_step w))
    go o None m now = tt
    go o (Some w) m now =
        subst (AreStepsNow (input_of g (trees source.whole)) (trees source.whole) source.offset new after o) m now
