-- A pattern whose first op doesn't fit what the argument begins with: the match is stuck at its start.
use Rattle.std.proofs.Common.{ℕ, ◌≡◌, Bool, true, false, Option, Some, None, option_to_list, List, [], ◌∷◌, map}
use Rattle.std.proofs.Common.{reverse, refl, sym, ap, subst, ◌∙◌, arith, inl, inr}
use Rattle.std.specs.Prelude.{◌==◌, if◌then◌else◌, not, is_some, ◌||◌, unwrap_or, IfSome}
use Rattle.std.specs.List.{filter_map}
use Rattle.mbe_tt.specs.declared.span.DelimSpan.{DelimSpan}
use Rattle.mbe_tt.specs.Trees.Tree.{Forest, Cut, flat_len, rest_at}
use Rattle.mbe_tt.specs.Grammars.Grammar.{Grammar, IsLawful}
use Rattle.mbe_tt.proofs.Offsets.OffsetLemmas.{rest_at-zero}
use Rattle.mbe_semantics.specs.Syntax.Op as ops
use Rattle.mbe_semantics.specs.Syntax.Op.{Op, token, group, variable, repetition, expression, Ops, no_ops, op, Token}
use Rattle.mbe_semantics.specs.Syntax.Nullable.{Checked}
use Rattle.mbe_semantics.specs.Expansion.Error.{ExpandError}
use Rattle.mbe_semantics.specs.Expansion.MatchError.{match_error}
use Rattle.mbe_semantics.specs.Fragments.FragmentFront.{fragment_front}
use Rattle.mbe_semantics.specs.Laws.Lawful.{Lawful}
use Rattle.mbe_semantics.specs.Readings.Fit.{token_front_in}
use Rattle.mbe_semantics.specs.Readings.Input.{Input, input_of, length_of, fragment_of, is_opening_in}
use Rattle.mbe_semantics.specs.Readings.Reading.{PartialReading, EndsAt}
use Rattle.mbe_semantics.specs.Readings.Verdict.{stuck, IsVerdict}
use Rattle.mbe_semantics.specs.Bindings.Account.{Account, Handle, no_account, no_commands, no_lists}
use Rattle.mbe_semantics.specs.Matching.States.{state_count, thread_state}
use Rattle.mbe_semantics.specs.Matching.Closure.{closure}
use Rattle.mbe_semantics.specs.Matching.Lists.{In}
use Rattle.mbe_semantics.specs.Matching.ThreadModel.{ModelFrame, group_frame, ThreadModel, thread_model, advance, erase}
use Rattle.mbe_semantics.specs.Matching.ThreadModel.{epsilons_of, next_of, finished_of, empty_token, over_advance}
use Rattle.mbe_semantics.specs.Matching.ThreadModel.{empty_bound, bound_advance, when_advance}
use Rattle.mbe_semantics.proofs.InputLemmas.{lawful_input}
use Rattle.mbe_laws.specs.Loop.StackClosure.{kept, stack_moves, stack_ends}
use Rattle.mbe_laws.proofs.Loop.TurnedLoop.{KeepsTo, turned_keeps, turned_done, turned_take}
use Rattle.mbe_laws.proofs.Loop.TurnedOffsets.{turned_start}
use Rattle.mbe_matcher.specs.Fronts.{Mismatches, StartsWithMismatch, is_wrong_token, starts_with_wrong_token}
use Rattle.mbe_matcher.specs.Fronts.{first_match_error}
use Rattle.mbe_matcher.specs.Threads.{Each, LeadsTo, Holds}
use Rattle.mbe_threads.specs.declared.stops.Stop.{Stop}
use Rattle.mbe_threads.specs.declared.stops.Stop.TheVariants as variants
use Rattle.mbe_matcher.specs.MatchResults.{IsFrontier}
use Rattle.mbe_threads.specs.Stops.{verdict_in, reading_in}
use Rattle.mbe_matcher.specs.Failures.{Mismatch, no_notes, noted_at, noted_with, mismatch, mismatch_unless, has_step}
use Rattle.mbe_matcher.specs.Failures.{is_any, AreNotes, stop_kind, Reports}
use Rattle.mbe_matcher.proofs.MatchEnds.{right_stop}
use Rattle.mbe_matcher.proofs.Whole.{WholeWith, whole_first, whole_sound, whole_all, whole_notes, FillsAll, fills_first}
use Rattle.mbe_matcher.proofs.Whole.{fills_more, fills_whole}

-- ---- what doesn't fit has no step

pub no_cut : (c : Option Cut) → length_of c ≡ None → c ≡ None
no_cut None e = refl
no_cut (Some c) e = cc

none_of : {A : Type 0} (o : Option A) → not (is_some o) ≡ true → o ≡ None
none_of None e = refl
none_of (Some x) e = cc

module _ (g : Grammar) (f : Forest) (rest : Ops) (a : Account) (up : List ModelFrame) where
  i : Input
  i = input_of g f

  pub no_epsilon : (o : Op) → Mismatches g o f → epsilons_of (input_of g f) 0 (thread_model (op o rest) a up) ≡ []
  no_epsilon (token t) u =
      ap (λ c. empty_token (length_of c) (thread_model rest a up)) (ap (token_front_in g.dialect t) (rest_at-zero f)
      ∙ u)
  no_epsilon (variable name kind span) u = ap (λ c. empty_bound name (fragment_of g.dialect kind c) rest a up)
      (ap (fragment_front g kind) (rest_at-zero f) ∙ u)
  no_epsilon (group d b) u = refl
  no_epsilon (repetition b s k) u = absurd u
  no_epsilon (expression e) u = absurd u

  pub no_next : (o : Op) → Mismatches g o f → next_of (input_of g f) 0 (thread_model (op o rest) a up) ≡ None
  no_next (token t) u = ap (λ c. over_advance (length_of c) (thread_model rest a up))
      (ap (token_front_in g.dialect t) (rest_at-zero f) ∙ u)
  no_next (variable name kind span) u = ap (λ c. bound_advance name (fragment_of g.dialect kind c) rest a up)
      (ap (fragment_front g kind) (rest_at-zero f) ∙ u)
  no_next (group d b) u = ap (λ t. when_advance t (advance 1 false (thread_model b a (group_frame rest ∷ up))))
      (ap (is_opening_in g.dialect d.kind) (rest_at-zero f) ∙ u)
  no_next (repetition b s k) u = absurd u
  no_next (expression e) u = absurd u

one_kept : {A B : Type 0} (h : A → Option B) (x : A) (y : Option B) → h x ≡ y → filter_map h (x ∷ []) ≡ option_to_list y
one_kept h x None e = rw e refl
one_kept h x (Some y) e = rw e refl

stops_there : (b : Bool) → Some (stuck 0) ≡ (if b then Some (stuck 0) else Some (stuck 0))
stops_there true = refl
stops_there false = refl

in_map : {A B : Type 0} (h : A → B) (x : A) (xs : List A) → In x xs → In (h x) (map h xs)
in_map h x [] m = absurd m
in_map h x (y ∷ ys) (inl e) = inl (ap h e)
in_map h x (y ∷ ys) (inr m) = inr (in_map h x ys m)

-- ---- where the first op doesn't fit

module _ (g : Grammar) (f : Forest) (law : IsLawful g) (o : Op) (rest : Ops) (checked : Checked (op o rest))
    (unlike : Mismatches g o f) where
  abbrev pattern : Ops
  pattern = op o rest

  abbrev first : ThreadModel
  first = thread_model (op o rest) no_account []

  lawful : Lawful (input_of g f) (flat_len f)
  lawful = lawful_input g f law

  begun : WholeWith (input_of g f) (op o rest) 0 (first ∷ []) no_notes
  begun = whole_first (input_of g f) (op o rest) 0 first refl refl

  sound : (x : PartialReading) → In x begun.xs → EndsAt (input_of g f) (op o rest) 0 x
  sound = whole_sound (input_of g f) (op o rest) (flat_len f) lawful checked 0 (first ∷ []) no_notes begun

  epsilon_none : epsilons_of (input_of g f) 0 first ≡ []
  epsilon_none = no_epsilon g f rest no_account [] o unlike

  abbrev all : List ThreadModel
  all = kept (input_of g f) (state_count (op o rest)) 0 (reverse (first ∷ []))

  -- it alone is looked at
  first_alone : first ∷ [] ≡ all
  first_alone =
      let k = turned_keeps (input_of g f) (op o rest) 0 begun.xs (first ∷ []) sound begun.same in
      let t = (turned_take (input_of g f) (op o rest) 0 all [] [] first [] k (omega arith)).0 in
      turned_done (input_of g f) (op o rest) 0 all (thread_state first ∷ []) (first ∷ [])
      (subst (λ l. KeepsTo (input_of g f) (op o rest) 0 all (reverse l) (thread_state first ∷ []) (first ∷ []))
      epsilon_none t)

  all_closed : all ≡ map erase (closure (input_of g f) 0 begun.xs)
  all_closed =
      let s = fills_more (input_of g f) (op o rest) 0 (flat_len f) lawful (first ∷ []) (first ∷ []) [] [] first refl
      (fills_first (input_of g f) (op o rest) 0 (flat_len f) lawful (first ∷ [])) in
      fills_whole (input_of g f) (op o rest) 0 (flat_len f) lawful (first ∷ []) [] (first ∷ []) all refl first_alone
      (subst (λ l. FillsAll (input_of g f) (op o rest) 0 (first ∷ []) (reverse l) (first ∷ [])) epsilon_none s) checked
      begun.xs sound begun.same

  -- no other partial reading ends there
  pub alone_there : (x : PartialReading) → EndsAt (input_of g f) (op o rest) 0 x → erase x ≡ first
  alone_there x a =
      at (subst (In (erase x)) (sym all_closed ∙ sym first_alone)
      (in_map erase x (closure (input_of g f) 0 begun.xs)
      (whole_all (input_of g f) (op o rest) (flat_len f) lawful checked 0 (first ∷ []) no_notes begun x a)))
    where
      at : In (erase x) (first ∷ []) → erase x ≡ first
      at (inl e) = e
      at (inr n) = absurd n

  no_moves : [] ≡ stack_moves (input_of g f) (state_count (op o rest)) 0 (reverse (first ∷ []))
  no_moves =
      sym (one_kept (next_of (input_of g f) 0) first None (no_next g f rest no_account [] o unlike))
      ∙ ap (filter_map (next_of (input_of g f) 0)) first_alone

  no_ends : [] ≡ stack_ends (input_of g f) (state_count (op o rest)) 0 (reverse (first ∷ []))
  no_ends = ap (filter_map finished_of) first_alone

  frontier : IsFrontier {A = ℕ} (input_of g f) 0 (op o rest) (first ∷ []) no_lists [] (rest_at f 0) [] []
  frontier = record {
    continues = subst (Each (LeadsTo {A = ℕ} no_lists [] (rest_at f 0)) []) no_moves tt;
    ended = subst (Each (Holds no_lists) []) no_ends tt;
  }

  pub stuck_verdict : IsVerdict g (op o rest) f (stuck 0)
  stuck_verdict =
      right_stop g (op o rest) f lawful checked 0 (first ∷ [])
      (turned_start (input_of g f) (op o rest) (flat_len f) lawful checked first refl) (omega arith) no_lists [] [] []
      frontier
      (stuck 0) (stops_there (0 == flat_len f))

  fails : has_step (input_of g f) 0 first ≡ false
  fails =
      ap (λ l. is_any l || (is_some (next_of (input_of g f) 0 first) || false)) epsilon_none
      ∙ ap (λ n. is_some n || false) (no_next g f rest no_account [] o unlike)

  abbrev pub failed_first : Option Mismatch
  failed_first = mismatch_unless false 0 (thread_model (op o rest) no_account [])

  pub stuck_notes : AreNotes (input_of g f) (op o rest) 0 (noted_with (option_to_list failed_first) [] no_notes)
  stuck_notes =
      let n = whole_notes (input_of g f) (op o rest) (flat_len f) lawful checked 0 (first ∷ []) no_notes begun
      all_closed in
      let one = one_kept (mismatch (input_of g f) 0) first failed_first (ap (λ b. mismatch_unless b 0 first) fails) in
      subst (AreNotes (input_of g f) (op o rest) 0)
      (ap (λ l. noted_at (input_of g f) 0 l no_notes) (sym first_alone) ∙ ap (λ ms. noted_with ms [] no_notes) one) n

-- the same of a pattern
pub begins_stuck : (g : Grammar) (pattern : Ops) (f : Forest) → IsLawful g → Checked pattern
    → StartsWithMismatch g pattern f
    → IsVerdict g pattern f (stuck 0)
begins_stuck g no_ops f law checked u = absurd u
begins_stuck g (op o rest) f law checked u = stuck_verdict g f law o rest checked u

pub begins_notes : (g : Grammar) (pattern : Ops) (f : Forest) → IsLawful g → Checked pattern
    → StartsWithMismatch g pattern f
    →
    AreNotes (input_of g f) pattern 0 (noted_with
    (option_to_list (mismatch_unless false 0 (thread_model pattern no_account []))) [] no_notes)
begins_notes g no_ops f law checked u = absurd u
begins_notes g (op o rest) f law checked u = stuck_notes g f law o rest checked u

-- ---- a token that isn't in front

pub other_mismatched : (g : Grammar) (o : Op) (f : Forest) → is_wrong_token g.dialect o f ≡ true → Mismatches g o f
other_mismatched g (token t) f e = no_cut (token_front_in g.dialect t f)
    (none_of (length_of (token_front_in g.dialect t f)) e)
other_mismatched g (variable name kind span) f e = cc
other_mismatched g (group d b) f e = cc
other_mismatched g (repetition b s k) f e = cc
other_mismatched g (expression x) f e = cc

pub otherwise_mismatched : (g : Grammar) (pattern : Ops) (f : Forest)
    → starts_with_wrong_token g.dialect pattern f ≡ true
    → StartsWithMismatch g pattern f
otherwise_mismatched g no_ops f e = cc
otherwise_mismatched g (op o rest) f e = other_mismatched g o f e

-- so the match is stuck at its start
pub otherwise_stuck : (g : Grammar) (pattern : Ops) (f : Forest) → IsLawful g → Checked pattern
    → starts_with_wrong_token g.dialect pattern f ≡ true → IsVerdict g pattern f (stuck 0)
otherwise_stuck g pattern f law checked e = begins_stuck g pattern f law checked (otherwise_mismatched g pattern f e)

token_fails : (g : Grammar) (t : Token) (f : Forest) (around : DelimSpan) → match_error g (token t) f around ≡ None → ⊥
token_fails g (ops.literal l) f around e = cc
token_fails g (ops.ident i) f around e = cc
token_fails g (ops.puncts ps) f around e = cc

pub otherwise_fails : (g : Grammar) (pattern : Ops) (f : Forest) (around : DelimSpan)
    → starts_with_wrong_token g.dialect pattern f ≡ true → first_match_error g pattern f around ≡ None → ⊥
otherwise_fails g no_ops f around e n = cc
otherwise_fails g (op (token t) rest) f around e n = token_fails g t f around n
otherwise_fails g (op (variable name kind span) rest) f around e n = cc
otherwise_fails g (op (group d b) rest) f around e n = cc
otherwise_fails g (op (repetition b s k) rest) f around e n = cc
otherwise_fails g (op (expression x) rest) f around e n = cc

-- it is what the match reports, with nothing bound
pub otherwise_reports : (g : Grammar) (pattern : Ops) (f : Forest) (around : DelimSpan) → IsLawful g → Checked pattern
    → starts_with_wrong_token g.dialect pattern f ≡ true →
    (err : ExpandError) → first_match_error g pattern f around ≡ Some err
    → Reports g pattern f around (stuck 0) err no_commands
otherwise_reports g no_ops f around law checked e err n = cc
otherwise_reports g (op (token t) rest) f around law checked e err n = record {
  notes = noted_with (option_to_list (mismatch_unless false 0 (thread_model (op (token t) rest) no_account []))) []
      no_notes;
  error_at = begins_notes g (op (token t) rest) f law checked (otherwise_mismatched g (op (token t) rest) f e);
  error = sym (ap (λ x. unwrap_or x (let d : ExpandError =
      record { span = around.opening; kind = stop_kind (0 == flat_len f) } in d))
      (ap (λ h. match_error g (token t) h around) (rest_at-zero f) ∙ n));
  bindings = refl;
}
otherwise_reports g (op (variable name kind span) rest) f around law checked e err n = cc
otherwise_reports g (op (group d b) rest) f around law checked e err n = cc
otherwise_reports g (op (repetition b s k) rest) f around law checked e err n = cc
otherwise_reports g (op (expression x) rest) f around law checked e err n = cc

-- where it is stuck there is no reading
pub stuck_reads_nothing : (P : Handle → Type 0) (s : Stop) → verdict_in s ≡ stuck 0 → IfSome (reading_in s) P
stuck_reads_nothing P (variants.OneReading h) e = cc
stuck_reads_nothing P variants.ManyReadings e = tt
stuck_reads_nothing P (variants.Ambiguous q) e = tt
stuck_reads_nothing P (variants.Stuck q) e = tt
