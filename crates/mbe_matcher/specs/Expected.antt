-- What partial readings expect next at an offset, and which two make a local ambiguity there.
use Rattle.std.specs.Prelude.{ℕ, ◌≡◌, ◌||◌, not, nat_eq, Bool, true, false, if◌then◌else◌, Option}
use Rattle.std.specs.Prelude.{Some, None, option_map, List, [], ◌∷◌, map, reverse, ◌↔◌, IsSome}
use Rattle.std.specs.Prelude.{IfSome}
use Rattle.std.specs.List.{filter_map}
use Rattle.mbe_tt.specs.Trees.Tree.{Forest}
use Rattle.mbe_semantics.specs.declared.fragment_kinds.RepeatKind.{RepeatKind}
use Rattle.mbe_semantics.specs.declared.fragment_kinds.RepeatKind.TheVariants.{ZeroOrMore}
use Rattle.mbe_semantics.specs.declared.fragment_kinds.RepeatKind.TheVariants.{OneOrMore, ZeroOrOne}
use Rattle.mbe_semantics.specs.Syntax.Op.{Separator, Op, token, group, variable, repetition}
use Rattle.mbe_semantics.specs.Syntax.Op.{expression, Ops, no_ops, op}
use Rattle.mbe_semantics.specs.Readings.Ambiguity.{Ambiguous}
use Rattle.mbe_semantics.specs.Readings.Input.{Input, input_of}
use Rattle.mbe_semantics.specs.Readings.Reading.{inside, within, PartialReading, partial, EndsAt}
use Rattle.mbe_semantics.specs.Readings.Steps.{Move, move, next}
use Rattle.mbe_semantics.specs.Readings.Verdict.{Verdict, ambiguous, stop_of}
use Rattle.mbe_semantics.specs.Matching.Closure.{moves_of, has_ambiguity}
use Rattle.mbe_semantics.specs.Matching.Lists.{In, Distinct}
use Rattle.mbe_semantics.specs.Matching.ThreadModel.{group_frame, repetition_frame, ThreadModel}
use Rattle.mbe_semantics.specs.Matching.ThreadModel.{thread_model, Advance, advance, next_of}
use Rattle.mbe_semantics.specs.Matching.Trace.{trace}
use Rattle.mbe_laws.specs.Bounded.States.{state_of}
use Rattle.mbe_ops.specs.Views.{op_of, separator_seen}
use Rattle.mbe_matcher.specs.declared.expectations.StepWidth.{StepWidth}
use Rattle.mbe_matcher.specs.declared.expectations.NextStep as declared
use Rattle.mbe_matcher.specs.declared.expectations.Expected as code
use Rattle.mbe_matcher.specs.declared.expectations.Expected.TheVariants as variants
use Rattle.mbe_threads.specs.declared.thread.ThreadFrame.{ThreadFrame}
use Rattle.mbe_threads.specs.declared.thread.Thread.{Thread}
use Rattle.mbe_matcher.specs.MatchResults.{IsStack}
use Rattle.mbe_semantics.specs.Bindings.Account.{Log}
use Rattle.mbe_semantics.specs.Matching.States.{state_count}
use Rattle.mbe_laws.specs.Loop.StackClosure.{kept}
use Rattle.mbe_tt.specs.Grammars.Grammar.{Grammar}

-- ---- what is expected

-- what is expected after a partial reading
pub data Expected : Type 0 where
  -- the argument's end
  ending : Expected
  -- a group's end
  closing : Expected
  -- a separator, and another round
  separating : Separator → Expected
  -- a token, a variable or a group of the pattern
  reading : Op → Expected

-- the separator that is expected after a round, if another round may follow
abbrev pub before_round : RepeatKind → Option Separator → Option Expected
before_round ZeroOrMore s = option_map separating s
before_round OneOrMore s = option_map separating s
before_round ZeroOrOne s = None

-- the op as an expected item; none for a repetition
abbrev pub read_next : Op → Option Expected
read_next (token t) = Some (reading (token t))
read_next (group d b) = Some (reading (group d b))
read_next (variable name kind span) = Some (reading (variable name kind span))
read_next (repetition b s k) = None
read_next (expression e) = None

-- What is expected after a partial reading. Nothing is expected before a repetition, which is gone
-- into or past, or at the end of a round that no separator may follow.
abbrev pub expected : PartialReading → Option Expected
expected (partial no_ops is []) = Some ending
expected (partial no_ops is (inside d b rest js ∷ up)) = Some closing
expected (partial no_ops is (within b s k rest js rs ∷ up)) = before_round k s
expected (partial (op o rest) is up) = read_next o

-- the item is expected after some partial reading that ends at the offset
abbrev pub IsExpected : Input → Ops → ℕ → Expected → Type 0
IsExpected i pattern q w = (x : PartialReading) × EndsAt i pattern q x × (expected x ≡ Some w)

-- the items are expected after two partial readings that are a local ambiguity at the offset
abbrev pub AreAmbiguous : Input → Ops → ℕ → Expected → Expected → Type 0
AreAmbiguous i pattern q v w = (a : Ambiguous i pattern q) × (expected a.one ≡ Some v)
    × (expected a.other ≡ Some w)

-- ---- how a partial reading goes on

-- the width of a step over tokens, and whether it is by fragment
abbrev pub step_of_move : Option Move → Option StepWidth
step_of_move None = None
step_of_move (Some (move n f y)) = Some (record { width = n; by_fragment = f })

-- what is expected, and the step over it, if the tokens are there
pub record Continuation : Type 0 where
  pub next : Option Expected
  pub step : Option StepWidth

abbrev pub continuation_of : Input → ℕ → PartialReading → Continuation
continuation_of i q x = record { next = expected x; step = step_of_move (next i q x) }

-- two steps are a local ambiguity
abbrev pub are_ambiguous : StepWidth → Option StepWidth → Bool
are_ambiguous s None = false
are_ambiguous s (Some t) = s.by_fragment || t.by_fragment || not (nat_eq s.width t.width)

abbrev pub both : {A : Type 0} → Option A → Option A → Option (A × A)
both (Some a) (Some b) = Some (a, b)
both None b = None
both (Some a) None = None

-- the step's item `n`, and the item of the first other step that makes a local ambiguity with it
abbrev pub ambiguous_with : StepWidth → Option Expected → List Continuation
    → Option (Expected × Expected)
ambiguous_with s n [] = None
ambiguous_with s n (w ∷ ws) =
    if are_ambiguous s w.step then both n w.next else ambiguous_with s n ws

abbrev pub ambiguity_if : Option StepWidth → Option Expected → List Continuation
    → Option (Expected × Expected) → Option (Expected × Expected)
ambiguity_if None n ws more = more
ambiguity_if (Some s) n ws more = ambiguous_with s n ws

-- the items of the first step, and of the first other step that makes a local ambiguity with it
abbrev pub first_ambiguity : List Continuation → Option (Expected × Expected)
first_ambiguity [] = None
first_ambiguity (w ∷ ws) = ambiguity_if w.step w.next ws (first_ambiguity ws)

-- ---- the same for thread models, which the program keeps

abbrev pub thread_expects : ThreadModel → Option Expected
thread_expects (thread_model no_ops e []) = Some ending
thread_expects (thread_model no_ops e (group_frame rest ∷ up)) = Some closing
thread_expects (thread_model no_ops e (repetition_frame b s k rest p frame ∷ up)) = before_round k s
thread_expects (thread_model (op o rest) e up) = read_next o

abbrev pub step_of_advance : Option Advance → Option StepWidth
step_of_advance None = None
step_of_advance (Some (advance n f o)) = Some (record { width = n; by_fragment = f })

abbrev pub thread_continuation : Input → ℕ → ThreadModel → Continuation
thread_continuation i q o =
    record { next = thread_expects o; step = step_of_advance (next_of i q o) }

-- ---- what the program's values stand for

abbrev pub expected_seen : {A : Type 0} → code.Expected A → Expected
expected_seen variants.End = ending
expected_seen variants.Closing = closing
expected_seen (variants.Separator s) = separating (separator_seen s.now)
expected_seen (variants.Op o) = reading (op_of o.now)

abbrev pub pair_seen : {A : Type 0} → code.Expected A × code.Expected A → Expected × Expected
pair_seen p = (expected_seen p.0, expected_seen p.1)

abbrev pub next_step_seen : {A : Type 0} → declared.NextStep A → Continuation
next_step_seen w = record { next = option_map expected_seen w.next; step = w.step }

-- the expected items
abbrev pub next_in : List Continuation → List Expected
next_in ws = filter_map (λ w. w.next) ws

-- how the thread models of the stack's closure go on, if two threads of each state are followed
abbrev pub AreContinuationsAt : {A : Type 0} (i : Input) (q : ℕ) {size : ℕ} {log : Log}
    {frames : List (ThreadFrame A)}
    {todo : List (Thread A)} → IsStack i q size log frames todo → List (declared.NextStep A)
    → Type 0
AreContinuationsAt i q s next_steps =
    map next_step_seen next_steps
    ≡ map (thread_continuation i q) (kept i (state_count s.pattern) q (reverse s.thread_stack))

-- How partial readings that end at an offset go on. The list has at least one partial reading for
-- each state.
pub record AreContinuations {A : Type 0} (i : Input) (pattern : Ops) (q : ℕ) (v : Verdict)
    (next_steps : List (declared.NextStep A)) : Type 0 where
  pub of : List PartialReading
  pub are : map next_step_seen next_steps ≡ map (continuation_of i q) of
  pub here : (x : PartialReading) → In x of → EndsAt i pattern q x
  pub once : Distinct trace of
  pub every : (x : PartialReading) → EndsAt i pattern q x → (y : PartialReading) × In y of
      × (state_of y ≡ state_of x)
  pub ambiguity : (p : ℕ) → v ≡ ambiguous p → has_ambiguity (moves_of i q of) ≡ true

-- ---- what is reported

-- These items are exactly what partial readings expect where the match stops.
abbrev pub AreExpected : Grammar → Ops → Forest → Verdict → List Expected → Type 0
AreExpected g pattern argument v ws = (w : Expected)
    → In w ws ↔ IsExpected (input_of g argument) pattern (stop_of argument v) w

-- A local ambiguity has a pair. A pair belongs to two partial readings that are ambiguous there.
pub record HasAmbiguousPair (g : Grammar) (pattern : Ops) (argument : Forest) (v : Verdict)
    (pair : Option (Expected × Expected)) : Type 0 where
  pub two : IfSome pair (λ p. AreAmbiguous (input_of g argument) pattern (stop_of argument v) p.0
      p.1)
  pub some : (q : ℕ) → v ≡ ambiguous q → IsSome pair
