-- Where the loop over places stops, and how it goes on.
use Rattle.std.proofs.Common.{ℕ, suc, ◌+◌, ◌≡◌, ◌<◌, ◌≤◌, Bool, true, false, ◌||◌, not, nat_eq, Option, Some, None}
use Rattle.std.proofs.Common.{List, [], ◌∷◌, map, reverse, length, refl, sym, ap, subst, ◌∙◌, arith, eqb-true}
use Rattle.std.specs.Prelude.{◌==◌, if◌then◌else◌, is_some, IfSome, Result, Ok, Err, IfOk}
use Rattle.std.proofs.lemmas.Bool.{eqb-false}
use Rattle.mbe_tt.specs.Trees.Tree.{Forest, flat_len, rest_at}
use Rattle.mbe_tt.specs.Grammars.Grammar.{Grammar}
use Rattle.mbe_semantics.specs.Syntax.Op.{Ops}
use Rattle.mbe_semantics.specs.Syntax.Nullable.{Checked}
use Rattle.mbe_semantics.specs.Readings.Input.{Input, input_of}
use Rattle.mbe_semantics.specs.Readings.Verdict.{Verdict, one_reading, ambiguous, stuck, IsVerdict, verdict_at, stop_of}
use Rattle.mbe_semantics.specs.Bindings.Account.{Commands, Log, Handle, HasEntriesOf}
use Rattle.mbe_semantics.specs.Laws.Lawful.{Lawful}
use Rattle.mbe_semantics.specs.Matching.States.{state_count}
use Rattle.mbe_semantics.specs.Matching.ThreadModel.{ThreadModel, Advance, advance}
use Rattle.mbe_semantics.specs.Matching.Frontier.{ambiguous_with, ambiguity, after_of, first_width}
use Rattle.mbe_laws.specs.Loop.StackClosure.{stack_moves, stack_ends}
use Rattle.mbe_laws.proofs.Loop.TurnedOffsets.{ComesTo, turned_ambiguity, turned_none, turned_end, turned_binds}
use Rattle.mbe_laws.proofs.Loop.TurnedOffsets.{turned_next}
use Rattle.mbe_log.proofs.ClientLemmas.{has_entries}
use Rattle.mbe_threads.specs.declared.stops.Stop.{Stop}
use Rattle.mbe_threads.specs.declared.stops.Stop.TheVariants as variants
use Rattle.mbe_threads.specs.declared.thread.ThreadFrame.{ThreadFrame}
use Rattle.mbe_threads.specs.declared.thread.TokenStep.{TokenStep}
use Rattle.mbe_matcher.specs.Threads.{Each, Shows, LeadsTo, Holds}
use Rattle.mbe_threads.specs.Remainder.{IsRemainder}
use Rattle.mbe_matcher.specs.MatchResults.{IsFrontier, Binds}
use Rattle.mbe_threads.specs.Stops.{is_ambiguous_with, is_ambiguity, width_first, thread_after, verdict_at_end}
use Rattle.mbe_threads.specs.Stops.{stuck_at, stop_at, verdict_in, reading_in}

-- ---- the positions that go on

module _ {A : Type 0} (log : Log) (frames : List (ThreadFrame A)) (here : Forest) where
  same_with : (n : ℕ) (f : Bool) (ws : List (TokenStep A)) (goes : List Advance)
      → Each (LeadsTo log frames here) ws goes
      → ambiguous_with n f goes ≡ is_ambiguous_with n f ws
  same_with n f [] [] e = refl
  same_with n f [] (a ∷ goes) e = absurd e
  same_with n f (w ∷ ws) [] e = absurd e
  same_with n f (w ∷ ws) (advance m g o ∷ goes) e =
      ap (λ h. (f || h || not (nat_eq n m)) || ambiguous_with n f goes) (sym e.0.fragment_is)
      ∙ ap (λ k. (f || is_some w.beyond || not (nat_eq n k)) || ambiguous_with n f goes) (sym e.0.width_is)
      ∙ ap (λ b. (f || is_some w.beyond || not (nat_eq n w.width)) || b) (same_with n f ws goes e.1)

  pub same_ambiguity : (ws : List (TokenStep A)) (goes : List Advance) → Each (LeadsTo log frames here) ws goes
      → ambiguity goes ≡ is_ambiguity ws
  same_ambiguity [] [] e = refl
  same_ambiguity [] (a ∷ goes) e = absurd e
  same_ambiguity (w ∷ ws) [] e = absurd e
  same_ambiguity (w ∷ ws) (advance m g o ∷ goes) e =
      same_with m g ws goes e.1 ∙ ap (λ n. is_ambiguous_with n g ws) (sym e.0.width_is)
      ∙ ap (λ h. is_ambiguous_with w.width h ws) (sym e.0.fragment_is)

  pub same_width : (ws : List (TokenStep A)) (goes : List Advance) → Each (LeadsTo log frames here) ws goes
      → first_width goes ≡ width_first ws
  same_width [] [] e = refl
  same_width [] (a ∷ goes) e = absurd e
  same_width (w ∷ ws) [] e = absurd e
  same_width (w ∷ ws) (advance m g o ∷ goes) e = ap (λ n. Some n) (sym e.0.width_is)

  pub shown_after : (ws : List (TokenStep A)) (goes : List Advance) → Each (LeadsTo log frames here) ws goes
      → Each (Shows log frames) (map thread_after ws) (map after_of goes)
  shown_after [] [] e = tt
  shown_after [] (a ∷ goes) e = absurd e
  shown_after (w ∷ ws) [] e = absurd e
  shown_after (w ∷ ws) (advance m g o ∷ goes) e = (e.0.after, shown_after ws goes e.1)

  pub first_left : (w : TokenStep A) (ws : List (TokenStep A)) (goes : List Advance)
      → Each (LeadsTo log frames here) (w ∷ ws) goes → IsRemainder here w.width w.beyond
  first_left w ws [] e = absurd e
  first_left w ws (advance m g o ∷ goes) e = e.0.left

pub each_length : {X Y : Type 0} (R : X → Y → Type 0) (xs : List X) (ys : List Y) → Each R xs ys → length xs ≡ length ys
each_length R [] [] e = refl
each_length R [] (y ∷ ys) e = absurd e
each_length R (x ∷ xs) [] e = absurd e
each_length R (x ∷ xs) (y ∷ ys) e = ap suc (each_length R xs ys e.1)

ends_verdict : (q : ℕ) (hs : List Handle) → verdict_at_end q hs ≡ verdict_at q (length hs)
ends_verdict q [] = refl
ends_verdict q (h ∷ []) = refl
ends_verdict q (h ∷ k ∷ hs) = refl

same_some : {X : Type 0} (x y : X) → Some x ≡ Some y → x ≡ y
same_some x y e = cc

-- ---- the place

module _ {A : Type 0} (g : Grammar) (pattern : Ops) (argument : Forest)
    (lawful : Lawful (input_of g argument) (flat_len argument)) (checked : Checked pattern) (q : ℕ)
    (thread_stack : List ThreadModel)
    (comes : ComesTo (input_of g argument) pattern (flat_len argument) lawful checked q thread_stack)
    (within : q ≤ flat_len argument)
    (log : Log) (frames : List (ThreadFrame A)) (ws : List (TokenStep A)) (hs : List Handle)
    (st : IsFrontier (input_of g argument) q pattern thread_stack log frames (rest_at argument q) ws hs) where
  i : Input
  i = input_of g argument

  len : ℕ
  len = flat_len argument

  abbrev stop_by : Bool → Bool → Option Verdict
  stop_by b c = if b then Some (verdict_at_end q hs) else if c then Some (ambiguous q) else stuck_at q ws

  right_end : q ≡ flat_len argument → IsVerdict g pattern argument (verdict_at_end q hs)
  right_end e = subst (IsVerdict g pattern argument)
      (sym (ends_verdict q hs ∙ ap (λ n. verdict_at n (length hs)) e
      ∙ ap (verdict_at (flat_len argument))
      (each_length (Holds log) hs (stack_ends (input_of g argument) (state_count pattern) q (reverse thread_stack))
      st.ended)))
      (turned_end (input_of g argument) pattern (flat_len argument) lawful checked q thread_stack comes e)

  right_stuck : (xs : List (TokenStep A)) (v : Verdict) → ws ≡ xs → q < flat_len argument → Some v ≡ stuck_at q xs
      → IsVerdict g pattern argument v
  right_stuck [] v e l f = subst (IsVerdict g pattern argument) (sym (same_some v (stuck q) f))
      (turned_none (input_of g argument) pattern (flat_len argument) lawful checked q thread_stack comes
      (same_width log frames (rest_at argument q) ws
      (stack_moves (input_of g argument) (state_count pattern) q (reverse thread_stack))
      st.continues ∙ ap width_first e) l)
  right_stuck (x ∷ xs) v e l f = cc

  right_by : (b c : Bool) (v : Verdict) → (q == flat_len argument) ≡ b → is_ambiguity ws ≡ c → Some v ≡ stop_by b c
      → IsVerdict g pattern argument v
  right_by true c v e d f = subst (IsVerdict g pattern argument) (sym (same_some v (verdict_at_end q hs) f))
      (right_end (eqb-true q (flat_len argument) e))
  right_by false true v e d f = subst (IsVerdict g pattern argument) (sym (same_some v (ambiguous q) f))
      (turned_ambiguity (input_of g argument) pattern (flat_len argument) lawful checked q thread_stack comes
      (same_ambiguity log frames (rest_at argument q) ws
      (stack_moves (input_of g argument) (state_count pattern) q (reverse thread_stack))
      st.continues ∙ d))
  right_by false false v e d f =
      let not_end : q ≡ flat_len argument → ⊥ = eqb-false q (flat_len argument) e in
      let l : q < flat_len argument = omega (arith, within, not_end) in
      right_stuck ws v refl l f

  -- what it stops with is the verdict
  pub right_stop : (v : Verdict) → Some v ≡ stop_at q (flat_len argument) ws hs → IsVerdict g pattern argument v
  right_stop v e = right_by (q == flat_len argument) (is_ambiguity ws) v refl refl e

  ends_offset : (ks : List Handle) → q ≡ flat_len argument → stop_of argument (verdict_at_end q ks) ≡ q
  ends_offset [] e = refl
  ends_offset (h ∷ []) e = sym e
  ends_offset (h ∷ k ∷ ks) e = sym e

  stuck_offset : (xs : List (TokenStep A)) (v : Verdict) → Some v ≡ stuck_at q xs → stop_of argument v ≡ q
  stuck_offset [] v f = ap (stop_of argument) (same_some v (stuck q) f)
  stuck_offset (x ∷ xs) v f = cc

  offset_by : (b c : Bool) (v : Verdict) → (q == flat_len argument) ≡ b → Some v ≡ stop_by b c → stop_of argument v ≡ q
  offset_by true c v e f = ap (stop_of argument) (same_some v (verdict_at_end q hs) f)
      ∙ ends_offset hs (eqb-true q (flat_len argument) e)
  offset_by false true v e f = ap (stop_of argument) (same_some v (ambiguous q) f)
  offset_by false false v e f = stuck_offset ws v f

  pub stop_offset : (v : Verdict) → Some v ≡ stop_at q (flat_len argument) ws hs → stop_of argument v ≡ q
  stop_offset v e = offset_by (q == flat_len argument) (is_ambiguity ws) v refl e

  not_stuck : (xs : List (TokenStep A)) → Some one_reading ≡ stuck_at q xs → ⊥
  not_stuck [] f = let e : one_reading ≡ stuck q = same_some one_reading (stuck q) f in cc
  not_stuck (x ∷ xs) f = cc

  end_by : (b c : Bool) → (q == flat_len argument) ≡ b → Some one_reading ≡ stop_by b c → q ≡ flat_len argument
  end_by true c e f = eqb-true q (flat_len argument) e
  end_by false true e f = let d : one_reading ≡ ambiguous q = same_some one_reading (ambiguous q) f in cc
  end_by false false e f = absurd (not_stuck ws f)

  only_one : (h : Handle) (cs : List Commands) → Each (Holds log) (h ∷ []) cs
      → (c : Commands) × (cs ≡ c ∷ []) × Holds log h c
  only_one h [] e = absurd e
  only_one h (c ∷ []) e = (c, refl, e.0)
  only_one h (c ∷ d ∷ cs) e = absurd e.1

  binds_one : (h : Handle) → Some one_reading ≡ stop_at q (flat_len argument) ws hs → hs ≡ h ∷ []
      → Binds g pattern argument log h
  binds_one h e f =
      let at : q ≡ flat_len argument = end_by (q == flat_len argument) (is_ambiguity ws) refl e in
      let o = only_one h (stack_ends (input_of g argument) (state_count pattern) q (reverse thread_stack))
      (subst (λ l. Each (Holds log) l (stack_ends (input_of g argument) (state_count pattern) q (reverse thread_stack)))
      f
      st.ended) in
      let b = turned_binds (input_of g argument) pattern (flat_len argument) lawful checked q thread_stack comes o.0
      at o.1 in
      let r = right_stop one_reading e in
      (b.0, (r.0, (b.1, λ js k. r.1.1.1 js k ∙ sym (r.1.1.1 b.0 b.1))), subst (Holds log h) b.2 o.2)

  pub binds_stop : (s : Stop) → Some (verdict_in s) ≡ stop_at q (flat_len argument) ws hs
      → IfSome (reading_in s) (λ h. hs ≡ h ∷ []) → IfSome (reading_in s) (Binds g pattern argument log)
  binds_stop (variants.OneReading h) e f = binds_one h e f
  binds_stop variants.ManyReadings e f = tt
  binds_stop (variants.Ambiguous p) e f = tt
  binds_stop (variants.Stuck p) e f = tt

  -- how it goes on
  pub record Next : Type 0 where
    pub first : TokenStep A
    pub rest : List (TokenStep A)
    pub is : ws ≡ first ∷ rest
    pub left : IsRemainder (rest_at argument q) first.width first.beyond
    pub reaches_next : ComesTo (input_of g argument) pattern (flat_len argument) lawful checked (q + first.width)
        (map after_of (stack_moves (input_of g argument) (state_count pattern) q (reverse thread_stack)))
    pub goes_over : first_width (stack_moves (input_of g argument) (state_count pattern) q (reverse thread_stack))
        ≡ Some first.width
    pub agrees : ambiguity (stack_moves (input_of g argument) (state_count pattern) q (reverse thread_stack)) ≡ false
    pub some : 0 < first.width
    pub fits : q + first.width ≤ flat_len argument

  next_of_list : (xs : List (TokenStep A)) → ws ≡ xs → is_ambiguity ws ≡ false → None ≡ stuck_at q xs → Next
  next_of_list [] e d f = cc
  next_of_list (x ∷ xs) e d f =
      let goes = stack_moves (input_of g argument) (state_count pattern) q (reverse thread_stack) in
      let over = same_width log frames (rest_at argument q) ws goes st.continues ∙ ap width_first e in
      let agree = same_ambiguity log frames (rest_at argument q) ws goes st.continues ∙ d in
      let r = turned_next (input_of g argument) pattern (flat_len argument) lawful checked q thread_stack comes x.width
      (map after_of goes) over agree refl in
      record {
        first = x;
        rest = xs;
        is = e;
        left = first_left log frames (rest_at argument q) x xs goes
            (subst (λ l. Each (LeadsTo log frames (rest_at argument q)) l goes) e st.continues);
        reaches_next = r.0;
        goes_over = over;
        agrees = agree;
        some = r.1;
        fits = r.2;
      }

  next_by : (b c : Bool) → is_ambiguity ws ≡ c → None ≡ stop_by b c → Next
  next_by true c d f = cc
  next_by false true d f = cc
  next_by false false d f = next_of_list ws refl d f

  pub next : None ≡ stop_at q (flat_len argument) ws hs → Next
  next e = next_by (q == flat_len argument) (is_ambiguity ws) refl e

-- who binds has its entries
pub stop_has_entries : (g : Grammar) (pattern : Ops) (argument : Forest) (log : Log) (s : Stop)
    → IfSome (reading_in s) (Binds g pattern argument log) → IfSome (reading_in s) (HasEntriesOf log)
stop_has_entries g pattern argument log (variants.OneReading h) b = has_entries log h b.2.0 b.2.1
stop_has_entries g pattern argument log variants.ManyReadings b = tt
stop_has_entries g pattern argument log (variants.Ambiguous p) b = tt
stop_has_entries g pattern argument log (variants.Stuck p) b = tt

-- ---- what follows of clauses

-- what no only reading's handle says
pub no_reading : (s : Stop) → ((h : Handle) → s ≡ variants.OneReading h → ⊥) → verdict_in s ≡ one_reading → ⊥
no_reading (variants.OneReading h) n e = n h refl
no_reading variants.ManyReadings n e = cc
no_reading (variants.Ambiguous p) n e = cc
no_reading (variants.Stuck p) n e = cc

-- two clauses on one result
pub both_ok : {X E : Type 0} (r : Result X E) (P Q R : X → Type 0) → ((x : X) → P x → Q x → R x) → IfOk r P → IfOk r Q
    → IfOk r R
both_ok (Ok x) P Q R f p q = f x p q
both_ok (Err e) P Q R f p q = tt
