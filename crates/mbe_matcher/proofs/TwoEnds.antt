-- The first and the last beginning of each dot note what all beginnings do.
use Rattle.std.proofs.Common.{ℕ, zero, suc, ◌+◌, ◌≡◌, ◌<◌, ◌≤◌, inl, Option, Some, None, Bool, true, false, List, []}
use Rattle.std.proofs.Common.{◌∷◌, ◌++◌, map, reverse, refl, sym, ◌∙◌, ap, subst, arith, ◌||◌}
use Rattle.std.specs.Prelude.{is_some, not, if◌then◌else◌}
use Rattle.std.specs.List.{filter_map, cons_option}
use Rattle.std.specs.Option.{option_and_then}
use Rattle.std.proofs.lemmas.List.{reverse-append}
use Rattle.mbe_tt.specs.Trees.Tree.{Forest, flat_len}
use Rattle.mbe_tt.specs.Grammars.Grammar.{Grammar, IsLawful}
use Rattle.mbe_semantics.specs.declared.fragment_kinds.RepeatKind.{RepeatKind}
use Rattle.mbe_semantics.specs.declared.fragment_kinds.RepeatKind.TheVariants.{ZeroOrMore, OneOrMore, ZeroOrOne}
use Rattle.mbe_semantics.specs.Syntax.Op.{Op, token, group, variable, repetition, expression, Ops, no_ops, op}
use Rattle.mbe_semantics.specs.Syntax.Op.{Separator, Name}
use Rattle.mbe_semantics.specs.Syntax.Nullable.{Checked}
use Rattle.mbe_semantics.specs.Laws.Lawful.{Lawful}
use Rattle.mbe_semantics.specs.Readings.Item.{Fragment, Items, no_items, Rounds, no_rounds}
use Rattle.mbe_semantics.specs.Readings.Input.{Input, input_of}
use Rattle.mbe_semantics.specs.Readings.Reading.{Frame, inside, within, PartialReading, partial, IsPartialReading}
use Rattle.mbe_semantics.specs.Readings.Reading.{EndsAt, start}
use Rattle.mbe_semantics.specs.Readings.Steps.{Move, move, next, when, if_none, if_some, over_of, round_move}
use Rattle.mbe_semantics.specs.Readings.Steps.{separator_move, matched_item, bound_item}
use Rattle.mbe_semantics.specs.Readings.Verdict.{Verdict, one_reading, many_readings, ambiguous, stuck, IsVerdict}
use Rattle.mbe_semantics.specs.Readings.Verdict.{stop_of}
use Rattle.mbe_semantics.specs.Readings.Ambiguity.{Ambiguous}
use Rattle.mbe_semantics.specs.Bindings.Account.{Account, Commands, binds, pushed}
use Rattle.mbe_semantics.specs.Matching.Lists.{In}
use Rattle.mbe_semantics.specs.Matching.States.{state_count}
use Rattle.mbe_semantics.specs.Matching.Closure.{closure, moves_of, targets, has_ambiguity}
use Rattle.mbe_semantics.specs.Matching.ThreadModel.{ModelFrame, group_frame, ThreadModel, thread_model, Advance}
use Rattle.mbe_semantics.specs.Matching.ThreadModel.{advance, erase, frames_of, base_of, written, empty_token}
use Rattle.mbe_semantics.specs.Matching.ThreadModel.{empty_bound, if_some_advance, over_advance, bound_advance}
use Rattle.mbe_semantics.specs.Matching.ThreadModel.{when_advance, finished_of}
use Rattle.mbe_semantics.proofs.InputLemmas.{lawful_input}
use Rattle.mbe_laws.proofs.Matching.Ambiguities.{from_filter}
use Rattle.mbe_laws.proofs.Matching.Moves.{next-takes}
use Rattle.mbe_laws.proofs.Matching.Law.{Inv, held-sound}
use Rattle.mbe_laws.proofs.Matching.Advance.{inv-start, inv-next, right-ambiguous}
use Rattle.mbe_laws.specs.Bounded.States.{state_of, without_items}
use Rattle.mbe_laws.specs.Orders.Order.{ReachesUnbounded, whole_start, whole_next, reversed_order}
use Rattle.mbe_laws.specs.Reports.Ends.{firsts, lasts, first_if, first_that, reversed_targets}
use Rattle.mbe_laws.specs.Reports.Backward.{closure_first, closure_back, BothDirections, Swap}
use Rattle.mbe_laws.proofs.Orders.Spare.{turning}
use Rattle.mbe_laws.proofs.Orders.DropLemmas.{whole-inv}
use Rattle.mbe_laws.proofs.Reports.EndLemmas.{ends_preserved}
use Rattle.mbe_laws.proofs.Reports.BackwardLemmas.{both_directions, swap_law}
use Rattle.mbe_matcher.specs.Failures.{Mismatch, Source, failed, ended, Notes, is_any, has_step, reports_error}
use Rattle.mbe_matcher.specs.Failures.{or_first, last_of, source_of, mismatch, mismatch_unless, noted_with, noted_at}
use Rattle.mbe_matcher.specs.Failures.{ReachesWith, at_start, at_next, AreNotes}
use Rattle.mbe_matcher.proofs.Reporting.{source_snoc}
use Rattle.mbe_matcher.specs.FirstAndLast.{only_first, ends_noted, ends_noted_at, EndsReach, ends_start, ends_next}
use Rattle.mbe_matcher.specs.FirstAndLast.{AreEndNotes, SecondPassLaw}

-- ---- heads of lists

abbrev pub head : {A : Type 0} → List A → Option A
head [] = None
head (x ∷ xs) = Some x

pub head_some : {A : Type 0} (xs : List A) (x : A) → head xs ≡ Some x → (ys : List A) × (xs ≡ x ∷ ys)
head_some [] x e = cc
head_some (y ∷ ys) x e = (ys, let f : y ≡ x = cc in ap (λ z. z ∷ ys) f)

-- the first that is given is that of the first where there is one
module _ {B : Type 0} (f : PartialReading → Option B) where
  given : PartialReading → Bool
  given x = is_some (f x)

  heads : (xs : List PartialReading) → head (filter_map f xs) ≡ option_and_then f (first_that given xs)
  unfolding given
  heads [] = refl
  heads (x ∷ xs) = go (f x) refl (heads xs)
    where
      go : (o : Option B) → f x ≡ o → head (filter_map f xs) ≡ option_and_then f (first_that given xs) →
          head (cons_option o (filter_map f xs)) ≡ option_and_then f (first_if (is_some o) x (first_that given xs))
      go None e r = r
      go (Some b) e r = sym e

  module _ (i : Input) (pattern : Ops) (alike : (x y : PartialReading) → state_of x ≡ state_of y → is_some (f x)
      ≡ is_some (f y))
      (xs : List PartialReading)
      (begins : (x : PartialReading) → In x xs → IsPartialReading i pattern x) where
    pub head_firsts : head (filter_map f (firsts xs)) ≡ head (filter_map f xs)
    unfolding given
    head_firsts = heads (firsts xs) ∙ ap (option_and_then f) (ends_preserved.first i pattern given xs begins alike)
        ∙ sym (heads xs)

    pub head_lasts : head (filter_map f (reverse (lasts xs))) ≡ head (filter_map f (reverse xs))
    unfolding given
    head_lasts = heads (reverse (lasts xs))
        ∙ ap (option_and_then f) (ends_preserved.last i pattern given xs begins alike) ∙ sym (heads (reverse xs))

cons_append : {A : Type 0} (o : Option A) (xs ys : List A) → cons_option o (xs ++ ys) ≡ cons_option o xs ++ ys
cons_append None xs ys = refl
cons_append (Some x) xs ys = refl

filter_append : {A B : Type 0} (f : A → Option B) (xs ys : List A)
    → filter_map f (xs ++ ys) ≡ filter_map f xs ++ filter_map f ys
filter_append f [] ys = refl
filter_append f (x ∷ xs) ys = ap (cons_option (f x)) (filter_append f xs ys)
    ∙ cons_append (f x) (filter_map f xs) (filter_map f ys)

nil_append : {A : Type 0} (xs : List A) → xs ++ [] ≡ xs
nil_append [] = refl
nil_append (x ∷ xs) = ap (λ l. x ∷ l) (nil_append xs)

reverse_cons : {A : Type 0} (o : Option A) (xs : List A) → reverse xs ++ cons_option o [] ≡ reverse (cons_option o xs)
reverse_cons None xs = nil_append (reverse xs)
reverse_cons (Some x) xs = sym (reverse-append (x ∷ []) xs)

filter_reverse : {A B : Type 0} (f : A → Option B) (xs : List A) → filter_map f (reverse xs) ≡ reverse (filter_map f xs)
filter_reverse f [] = refl
filter_reverse f (x ∷ xs) =
    ap (filter_map f) (reverse-append (x ∷ []) xs) ∙ filter_append f (reverse xs) (x ∷ [])
    ∙ ap (λ l. l ++ cons_option (f x) []) (filter_reverse f xs) ∙ reverse_cons (f x) (filter_map f xs)

filter_through : {A B C : Type 0} (f : B → Option C) (g : A → B) (xs : List A)
    → filter_map f (map g xs) ≡ filter_map (λ x. f (g x)) xs
filter_through f g [] = refl
filter_through f g (x ∷ xs) = ap (cons_option (f (g x))) (filter_through f g xs)

head_append : {A : Type 0} (xs ys : List A) (x : A) → head xs ≡ Some x → head (xs ++ ys) ≡ Some x
head_append [] ys x e = cc
head_append (z ∷ xs) ys x e = e

-- the last is the head of the list turned round
head_reverse : {A : Type 0} (x : A) (xs : List A) → head (reverse (x ∷ xs)) ≡ Some (last_of x xs)
head_reverse x [] = refl
head_reverse x (y ∷ ys) = ap head (reverse-append (x ∷ []) (y ∷ ys))
    ∙ head_append (reverse (y ∷ ys)) (x ∷ []) (last_of y ys) (head_reverse y ys)

-- ---- what is noted asks for heads alone

first_heads : {A : Type 0} (o : Option A) (xs ys : List A) → head xs ≡ head ys → or_first o xs ≡ or_first o ys
first_heads (Some x) xs ys e = refl
first_heads None [] [] e = refl
first_heads None [] (y ∷ ys) e = e
first_heads None (x ∷ xs) [] e = e
first_heads None (x ∷ xs) (y ∷ ys) e = e

end_heads : (cs ds : List Commands) (before : Option Source) → head ds ≡ head cs
    → source_of [] ds before ≡ source_of [] cs before
end_heads [] [] b e = refl
end_heads [] (d ∷ ds) b e = cc
end_heads (c ∷ cs) [] b e = cc
end_heads (c ∷ cs) (d ∷ ds) b e = let f : d ≡ c = cc in ap (λ x. Some (ended x)) f

no_head : {A : Type 0} (xs : List A) → head xs ≡ None → xs ≡ []
no_head [] e = refl
no_head (x ∷ xs) e = cc

same_notes : (a b : Option Mismatch) (c d : Option Source) → a ≡ b → c ≡ d
    → (let n : Notes = record { first = a; last = c } in n) ≡ record { first = b; last = d }
same_notes a b c d e f = rw (e, f) refl

-- of the first that fails and the last that does comes what comes of all that do
notes_heads : (ms fs ls : List Mismatch) (cs ds : List Commands) (before : Notes) → head fs ≡ head ms
    → head ls ≡ head (reverse ms) → head ds ≡ head cs →
    noted_with (fs ++ only_first ls) ds before ≡ noted_with ms cs before
notes_heads [] fs ls cs ds before e f h =
    ap (λ l. noted_with (l ++ only_first ls) ds before) (no_head fs e)
    ∙ ap (λ l. noted_with (only_first l) ds before) (no_head ls f)
    ∙ same_notes (or_first before.first []) (or_first before.first []) (source_of [] ds before.last)
    (source_of [] cs before.last) refl (end_heads cs ds before.last h)
notes_heads (m ∷ ms) fs ls cs ds before e f h =
    let r : (rest : List Mismatch) × (ls ≡ last_of m ms ∷ rest) = head_some ls (last_of m ms) (f ∙ head_reverse m ms) in
    same_notes (or_first before.first (fs ++ only_first ls)) (or_first before.first (m ∷ ms))
    (source_of (fs ++ only_first ls) ds before.last) (Some (failed (last_of m ms)))
    (first_heads before.first (fs ++ only_first ls) (m ∷ ms) (head_append fs (only_first ls) m e))
    (ap (λ l. source_of (fs ++ only_first l) ds before.last) r.1 ∙ source_snoc fs (last_of m ms) ds before.last)

-- ---- what asks for the dot alone

when_some : (b : Bool) (m : Move) → is_some (when b m) ≡ b
when_some true m = refl
when_some false m = refl

some_if : (f : Bool) (n : ℕ) (x y : PartialReading) → is_some (if_some f n x) ≡ is_some (if_some f n y)
some_if f zero x y = refl
some_if f (suc n) x y = refl

over_token : (o : Option ℕ) (rest : Ops) (is js : Items) (up vp : List Frame) →
    is_some (over_of false (matched_item o) rest is up) ≡ is_some (over_of false (matched_item o) rest js vp)
over_token None rest is js up vp = refl
over_token (Some zero) rest is js up vp = refl
over_token (Some (suc n)) rest is js up vp = refl

over_variable : (name : Name) (o : Option Fragment) (rest : Ops) (is js : Items) (up vp : List Frame) →
    is_some (over_of true (bound_item name o) rest is up) ≡ is_some (over_of true (bound_item name o) rest js vp)
over_variable name None rest is js up vp = refl
over_variable name (Some x) rest is js up vp = some_if true (flat_len x.trees) _ _

round_some : (k : RepeatKind) (w : Option ℕ) (b : Ops) (s : Option Separator) (rest : Ops) (js ks : Items)
    (rs ts : Rounds) (up vp : List Frame) (is ls : Items) →
    is_some (round_move k w b s rest js rs up is) ≡ is_some (round_move k w b s rest ks ts vp ls)
round_some k None b s rest js ks rs ts up vp is ls = refl
round_some ZeroOrMore (Some w) b s rest js ks rs ts up vp is ls = refl
round_some OneOrMore (Some w) b s rest js ks rs ts up vp is ls = refl
round_some ZeroOrOne (Some w) b s rest js ks rs ts up vp is ls = refl

separator_some : (i : Input) (q : ℕ) (s : Option Separator) (k : RepeatKind) (b rest : Ops) (js ks : Items)
    (rs ts : Rounds) (up vp : List Frame) (is ls : Items) →
    is_some (separator_move i q s k b rest js rs up is) ≡ is_some (separator_move i q s k b rest ks ts vp ls)
separator_some i q None k b rest js ks rs ts up vp is ls = refl
separator_some i q (Some s) k b rest js ks rs ts up vp is ls =
    round_some k (i.separator_at s q) b (Some s) rest js ks rs ts up vp is ls

-- whether it goes on
next_some : (i : Input) (q : ℕ) (x : PartialReading) → is_some (next i q x) ≡ is_some (next i q (state_of x))
next_some i q (partial no_ops is []) = refl
next_some i q (partial no_ops is (inside d b rest js ∷ up)) =
    when_some (i.closes_at q) _ ∙ sym (when_some (i.closes_at q) _)
next_some i q (partial no_ops is (within b s k rest js rs ∷ up)) =
    separator_some i q s k b rest js no_items rs no_rounds up (without_items up) is no_items
next_some i q (partial (op (token t) rest) is up) = over_token (i.token_at t q) rest is no_items up (without_items up)
next_some i q (partial (op (variable name kind span) rest) is up) =
    over_variable name (i.fragment_at kind q) rest is no_items up (without_items up)
next_some i q (partial (op (group d b) rest) is up) =
    when_some (i.opens_at d.kind q) _ ∙ sym (when_some (i.opens_at d.kind q) _)
next_some i q (partial (op (repetition b s k) rest) is up) = refl
next_some i q (partial (op (expression e) rest) is up) = refl

-- whether it is at the pattern's end
finished_some : (x : PartialReading) → is_some (finished_of (erase x)) ≡ is_some (finished_of (erase (state_of x)))
finished_some (partial no_ops is []) = refl
finished_some (partial no_ops is (inside d b rest js ∷ up)) = refl
finished_some (partial no_ops is (within b s k rest js rs ∷ up)) = refl
finished_some (partial (op o rest) is up) = refl

-- ---- an op fits or not, whatever was bound before it and is open around it

token_step : (w : Option ℕ) (o u : ThreadModel) →
    (is_any (empty_token w o) || (is_some (over_advance w o) || false))
    ≡ (is_any (empty_token w u) || (is_some (over_advance w u) || false))
token_step None o u = refl
token_step (Some zero) o u = refl
token_step (Some (suc n)) o u = refl

width_step : (n : ℕ) (f : Bool) (o u v w : ThreadModel) →
    (is_any (if_none n o) || (is_some (if_some_advance f n v) || false))
    ≡ (is_any (if_none n u) || (is_some (if_some_advance f n w) || false))
width_step zero f o u v w = refl
width_step (suc n) f o u v w = refl

variable_step : (name : Name) (x : Option Fragment) (rest : Ops) (a c : Account) (up vp : List ModelFrame) →
    (is_any (empty_bound name x rest a up) || (is_some (bound_advance name x rest a up) || false))
    ≡ (is_any (empty_bound name x rest c vp) || (is_some (bound_advance name x rest c vp) || false))
variable_step name None rest a c up vp = refl
variable_step name (Some x) rest a c up vp =
    width_step (flat_len x.trees) true (thread_model rest (pushed (binds name x) a) up)
    (thread_model rest (pushed (binds name x) c) vp)
    (thread_model rest (pushed (binds name x) a) up) (thread_model rest (pushed (binds name x) c) vp)

group_step : (b : Bool) (x y : Advance) → (is_some (when_advance b x) || false) ≡ (is_some (when_advance b y) || false)
group_step true x y = refl
group_step false x y = refl

step_alike : (i : Input) (q : ℕ) (o : Op) (rest : Ops) (a c : Account) (up vp : List ModelFrame)
    → has_step i q (thread_model (op o rest) a up) ≡ has_step i q (thread_model (op o rest) c vp)
step_alike i q (token t) rest a c up vp = token_step (i.token_at t q) (thread_model rest a up) (thread_model rest c vp)
step_alike i q (variable name kind span) rest a c up vp = variable_step name (i.fragment_at kind q) rest a c up vp
step_alike i q (expression e) rest a c up vp = refl
step_alike i q (group d b) rest a c up vp =
    group_step (i.opens_at d.kind q) (advance 1 false (thread_model b a (group_frame rest ∷ up)))
    (advance 1 false (thread_model b c (group_frame rest ∷ vp)))
step_alike i q (repetition b s k) rest a c up vp = refl

unless_alike : (b n : Bool) (x y : Mismatch)
    → is_some (if b || n then None else Some x) ≡ is_some (if b || n then None else Some y)
unless_alike true n x y = refl
unless_alike false true x y = refl
unless_alike false false x y = refl

op_mismatch : (i : Input) (q : ℕ) (o : Op) (rest : Ops) (a c : Account) (up vp : List ModelFrame) →
    is_some (mismatch i q (thread_model (op o rest) a up)) ≡ is_some (mismatch i q (thread_model (op o rest) c vp))
op_mismatch i q o rest a c up vp =
    unless_alike (has_step i q (thread_model (op o rest) a up)) (not (reports_error o))
    (record { op = o; offset = q; bound = a.current }) (record { op = o; offset = q; bound = c.current })
    ∙ ap (λ b. is_some (mismatch_unless b q (thread_model (op o rest) c vp))) (step_alike i q o rest a c up vp)

mismatch_some : (i : Input) (q : ℕ) (x : PartialReading)
    → is_some (mismatch i q (erase x)) ≡ is_some (mismatch i q (erase (state_of x)))
mismatch_some i q (partial no_ops is up) = refl
mismatch_some i q (partial (op o rest) is up) =
    op_mismatch i q o rest (written is (base_of up)) (written no_items (base_of (without_items up))) (frames_of up)
    (frames_of (without_items up))

-- what the dot decides is alike where the dots are
by_state : (p : PartialReading → Bool) → ((x : PartialReading) → p x ≡ p (state_of x)) → (x y : PartialReading)
    → state_of x ≡ state_of y
    → p x ≡ p y
by_state p e x y d = e x ∙ ap p d ∙ sym (e y)

-- ---- at a place

module _ (i : Input) (pattern : Ops) (q : ℕ) (ys : List PartialReading)
    (begins : (y : PartialReading) → In y ys → IsPartialReading i pattern y) where
  abbrev mismatch_of : PartialReading → Option Mismatch
  mismatch_of x = mismatch i q (erase x)

  abbrev finished_by : PartialReading → Option Commands
  finished_by x = finished_of (erase x)

  first_misfits : head (filter_map (mismatch i q) (map erase (firsts ys)))
      ≡ head (filter_map (mismatch i q) (map erase ys))
  first_misfits =
      ap head (filter_through (mismatch i q) erase (firsts ys))
      ∙ head_firsts mismatch_of i pattern (by_state (λ x. is_some (mismatch_of x)) (mismatch_some i q)) ys begins
      ∙ sym (ap head (filter_through (mismatch i q) erase ys))

  last_misfits : head (filter_map (mismatch i q) (map erase (reverse (lasts ys))))
      ≡ head (reverse (filter_map (mismatch i q) (map erase ys)))
  last_misfits =
      ap head (filter_through (mismatch i q) erase (reverse (lasts ys)))
      ∙ head_lasts mismatch_of i pattern (by_state (λ x. is_some (mismatch_of x)) (mismatch_some i q)) ys begins
      ∙ ap head (filter_reverse mismatch_of ys)
      ∙ sym (ap (λ l. head (reverse l)) (filter_through (mismatch i q) erase ys))

  first_ends : head (filter_map finished_of (map erase (firsts ys))) ≡ head (filter_map finished_of (map erase ys))
  first_ends =
      ap head (filter_through finished_of erase (firsts ys))
      ∙ head_firsts finished_by i pattern (by_state (λ x. is_some (finished_by x)) finished_some) ys begins
      ∙ sym (ap head (filter_through finished_of erase ys))

  -- the ends note what all do
  pub ends_note : (before : Notes) → ends_noted i q (map erase (firsts ys)) (map erase (reverse (lasts ys))) before
      ≡ noted_at i q (map erase ys) before
  ends_note before =
      notes_heads (filter_map (mismatch i q) (map erase ys)) (filter_map (mismatch i q) (map erase (firsts ys)))
      (filter_map (mismatch i q) (map erase (reverse (lasts ys))))
      (filter_map finished_of (map erase ys)) (filter_map finished_of (map erase (firsts ys))) before first_misfits
      last_misfits first_ends

  -- the first that goes on is that of the first of each dot
  pub first_move : head (moves_of i q (firsts ys)) ≡ head (moves_of i q ys)
  first_move = head_firsts (next i q) i pattern (by_state (λ x. is_some (next i q x)) (next_some i q)) ys begins

-- ---- from place to place

module _ (g : Grammar) (pattern : Ops) (argument : Forest) (w : IsLawful g) (checked : Checked pattern) where
  abbrev i : Input
  i = input_of g argument

  abbrev lawful : Lawful (input_of g argument) (flat_len argument)
  lawful = lawful_input g argument w

  whole : {q : ℕ} {xs : List PartialReading} {before : Notes} → ReachesWith i pattern q xs before
      → ReachesUnbounded reversed_order i pattern q xs
  whole at_start = whole_start
  whole (at_next q m n f y ms xs before h e c k) = whole_next q m n f y ms xs (whole h) e c k

  pub known : {q : ℕ} {xs : List PartialReading} {before : Notes} → ReachesWith i pattern q xs before
      → Inv i pattern q xs
  known h = whole-inv i pattern (flat_len argument) lawful checked reversed_order turning (whole h)

  pub here : {q : ℕ} {xs : List PartialReading} {before : Notes} → ReachesWith i pattern q xs before
      → (y : PartialReading)
      → In y (closure i q xs) → EndsAt i pattern q y
  here {q} {xs} h y m = held-sound i pattern (flat_len argument) lawful checked q xs (known h) y m

  -- the walks hold the ends of what is held there
  abbrev pub Ends : ℕ → List PartialReading → List PartialReading → List PartialReading → Type 0
  Ends q xs fs bs =
      (closure_first i (state_count pattern) q fs ≡ firsts (closure i q xs))
      × (closure_back i (state_count pattern) q bs ≡ reverse (lasts (closure i q xs)))

  pub ends_at_start : Ends 0 (start pattern ∷ []) (start pattern ∷ []) (start pattern ∷ [])
  ends_at_start =
      let b : BothDirections g pattern argument 0 (start pattern ∷ []) =
      both_directions g pattern argument w checked 0 (start pattern ∷ [])
      (inv-start i pattern (flat_len argument) lawful checked).sound in
      (b.forward, b.backward)

  -- they note the same
  pub ends_same : (q : ℕ) (xs fs bs : List PartialReading) (before : Notes) → ReachesWith i pattern q xs before
      → Ends q xs fs bs →
      ends_noted_at i pattern q fs bs before ≡ noted_at i q (map erase (closure i q xs)) before
  ends_same q xs fs bs before h e =
      ap (λ l. ends_noted i q (map erase l) (map erase (closure_back i (state_count pattern) q bs)) before) e.0
      ∙ ap (λ l. ends_noted i q (map erase (firsts (closure i q xs))) (map erase l) before) e.1
      ∙ ends_note i pattern q (closure i q xs) (λ y m. (here h y m).0) before

  -- the same goes on first
  pub same_move : (q : ℕ) (xs fs bs : List PartialReading) (before : Notes) → ReachesWith i pattern q xs before
      → Ends q xs fs bs →
      head (moves_of i q (closure_first i (state_count pattern) q fs)) ≡ head (moves_of i q (closure i q xs))
  same_move q xs fs bs before h e =
      ap (λ l. head (moves_of i q l)) e.0 ∙ first_move i pattern q (closure i q xs) (λ y m. (here h y m).0)

  -- where they lead
  pub led : (q m n : ℕ) (f : Bool) (y : PartialReading) (ms : List Move) (xs : List PartialReading) (before : Notes) →
      ReachesWith i pattern q xs before → moves_of i q (closure i q xs) ≡ move n f y ∷ ms
      → has_ambiguity (move n f y ∷ ms) ≡ false → m ≡ q + n →
      (z : PartialReading) → In z (targets (moves_of i q (closure i q xs))) → EndsAt i pattern m z
  led q m n f y ms xs before h is c k z a =
      let v : Inv i pattern (q + n) (targets (move n f y ∷ ms)) =
      inv-next i pattern (flat_len argument) lawful checked q xs (known h) n f y ms is c in
      subst (λ p. EndsAt i pattern p z) (sym k) (v.sound z (subst (λ l. In z (targets l)) is a))

  -- at the next place
  pub ends_go : (q m n : ℕ) (f : Bool) (y : PartialReading) (ms : List Move) (xs fs bs : List PartialReading)
      (before : Notes) →
      ReachesWith i pattern q xs before → Ends q xs fs bs → moves_of i q (closure i q xs) ≡ move n f y ∷ ms
      → has_ambiguity (move n f y ∷ ms) ≡ false → m ≡ q + n →
      Ends m (reverse (targets (move n f y ∷ ms)))
      (targets (moves_of i q (closure_back i (state_count pattern) q bs)))
      (targets (moves_of i q (closure_first i (state_count pattern) q fs)))
  ends_go q m n f y ms xs fs bs before h e is c k = (
    ap (λ l. closure_first i (state_count pattern) m (targets (moves_of i q l))) e.1 ∙ s.first
        ∙ ap (λ l. firsts (closure i m l)) turns,
    ap (λ l. closure_back i (state_count pattern) m (targets (moves_of i q l))) e.0 ∙ s.last
        ∙ ap (λ l. reverse (lasts (closure i m l))) turns,
  )
    where
      turns : reversed_targets i q (closure i q xs) ≡ reverse (targets (move n f y ∷ ms))
      turns = ap (λ l. reverse (targets l)) is

      s : Swap g pattern argument q m (closure i q xs)
      s = swap_law g pattern argument w checked q m (closure i q xs) (here h) (led q m n f y ms xs before h is c k)

  -- ---- where all come, the ends do

  abbrev Followed : ℕ → List PartialReading → Notes → Type 0
  Followed q xs before = (fs : List PartialReading) × (bs : List PartialReading) × EndsReach i pattern q fs bs before
      × Ends q xs fs bs

  followed : {q : ℕ} {xs : List PartialReading} {before : Notes} → ReachesWith i pattern q xs before
      → Followed q xs before
  followed at_start = (start pattern ∷ [], start pattern ∷ [], ends_start, ends_at_start)
  followed (at_next q m n f y ms xs before h e c k) = go (followed h)
    where
      go : Followed q xs before → Followed m (reverse (targets (move n f y ∷ ms)))
          (noted_at i q (map erase (closure i q xs)) before)
      go (fs, bs, come, ends) =
          let l : (ns : List Move) × (moves_of i q (closure_first i (state_count pattern) q fs) ≡ move n f y ∷ ns) =
          head_some (moves_of i q (closure_first i (state_count pattern) q fs)) (move n f y)
          (same_move q xs fs bs before h ends ∙ ap head e) in (
            targets (moves_of i q (closure_back i (state_count pattern) q bs)),
            targets (moves_of i q (closure_first i (state_count pattern) q fs)),
            subst (λ t. EndsReach i pattern m (targets (moves_of i q (closure_back i (state_count pattern) q bs)))
                (targets (moves_of i q (closure_first i (state_count pattern) q fs))) t)
                (ends_same q xs fs bs before h ends) (ends_next q m n f y l.0 fs bs before come l.1 k),
            ends_go q m n f y ms xs fs bs before h ends e c k,
          )

  -- ---- where the ends come up to the stop, all do

  abbrev Among : ℕ → List PartialReading → List PartialReading → Notes → Type 0
  Among q fs bs before = (xs : List PartialReading) × ReachesWith i pattern q xs before × Ends q xs fs bs

  -- before the stop nothing is ambiguous
  clear_before : (v : Verdict) → IsVerdict g pattern argument v → (q : ℕ) → q < stop_of argument v
      → Ambiguous i pattern q → ⊥
  clear_before one_reading is q l a = is.0 q a
  clear_before many_readings is q l a = is.0 q a
  clear_before (ambiguous p) is q l a = is.1 q l a
  clear_before (stuck p) is q l a = is.0 q a

  pub clear_moves : (v : Verdict) → IsVerdict g pattern argument v → (q : ℕ) (xs : List PartialReading)
      → Inv i pattern q xs
      → q < stop_of argument v →
      (b : Bool) → has_ambiguity (moves_of i q (closure i q xs)) ≡ b → b ≡ false
  clear_moves v is q xs known l false e = refl
  clear_moves v is q xs known l true e = absurd
      (clear_before v is q l (right-ambiguous i pattern (flat_len argument) lawful checked q xs known e).0)

  among : (v : Verdict) → IsVerdict g pattern argument v → {q : ℕ} {fs bs : List PartialReading} {before : Notes}
      → EndsReach i pattern q fs bs before →
      q ≤ stop_of argument v → Among q fs bs before
  among v is ends_start l = (start pattern ∷ [], at_start, ends_at_start)
  among v is (ends_next q m n f y ms fs bs before h e k) l = go (λ a. among v is h a)
    where
      some : 0 < n
      some =
          let s : (z : PartialReading) × In z (closure_first i (state_count pattern) q fs)
          × (next i q z ≡ Some (move n f y)) =
          from_filter (next i q) (move n f y) (closure_first i (state_count pattern) q fs)
          (subst (λ t. In (move n f y) t) (sym e) (inl refl)) in
          (next-takes i (flat_len argument) q n f s.0 y lawful s.2).0

      go : (q ≤ stop_of argument v → Among q fs bs before) →
          Among m (targets (moves_of i q (closure_back i (state_count pattern) q bs)))
          (targets (moves_of i q (closure_first i (state_count pattern) q fs))) (ends_noted_at i pattern q fs bs before)
      go r = on (r (let p = some in omega (arith, p, k, l)))
        where
          on : Among q fs bs before →
              Among m (targets (moves_of i q (closure_back i (state_count pattern) q bs)))
              (targets (moves_of i q (closure_first i (state_count pattern) q fs)))
              (ends_noted_at i pattern q fs bs before)
          on (xs, come, ends) =
              let t : (ns : List Move) × (moves_of i q (closure i q xs) ≡ move n f y ∷ ns) =
              head_some (moves_of i q (closure i q xs)) (move n f y)
              (sym (same_move q xs fs bs before come ends) ∙ ap head e) in
              let c : has_ambiguity (moves_of i q (closure i q xs)) ≡ false =
              clear_moves v is q xs (known come) (let p = some in omega (arith, p, k, l))
              (has_ambiguity (moves_of i q (closure i q xs))) refl in
              let d : has_ambiguity (move n f y ∷ t.0) ≡ false = sym (ap has_ambiguity t.1) ∙ c in (
                reverse (targets (move n f y ∷ t.0)),
                subst (λ u. ReachesWith i pattern m (reverse (targets (move n f y ∷ t.0))) u)
                    (sym (ends_same q xs fs bs before come ends))
                    (at_next q m n f y t.0 xs before come t.1 d k),
                ends_go q m n f y t.0 xs fs bs before come ends t.1 d k,
              )

pub second_pass : SecondPassLaw
second_pass g pattern argument w checked v is q l notes = (there, back)
  where
    there : AreNotes (input_of g argument) pattern q notes → AreEndNotes (input_of g argument) pattern q notes
    there (xs, before, come, e) =
        let r : Followed g pattern argument w checked q xs before = followed g pattern argument w checked come in
        (r.0, r.1, before, r.2, e ∙ sym (ends_same g pattern argument w checked q xs r.0 r.1 before come r.3))

    back : AreEndNotes (input_of g argument) pattern q notes → AreNotes (input_of g argument) pattern q notes
    back (fs, bs, before, come, e) =
        let r : Among g pattern argument w checked q fs bs before = among g pattern argument w checked v is come l in
        (r.0, before, r.1, e ∙ ends_same g pattern argument w checked q r.0 fs bs before r.1 r.2)
