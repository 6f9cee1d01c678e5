-- Where rustc ends a call: at the verdicts other than stuck, and where a fragment that is expected there fails inside.
use Rattle.std.proofs.Common.{ℕ, ◌≡◌, ◌⊎◌, inl, inr, Bool, true, false, Option, Some, None, List, [], ◌∷◌, refl, sym}
use Rattle.std.proofs.Common.{ap, subst, ◌∙◌, arith}
use Rattle.std.specs.Prelude.{◌↔◌, IsTrue}
use Rattle.std.specs.List.{list_any}
use Rattle.std.proofs.lemmas.Bool.{false≢true, or_left, or_right, or_cases}
use Rattle.std.proofs.lemmas.Option.{none-some, same_Some}
use Rattle.mbe_tt.specs.declared.grammar.Dialect.{Dialect}
use Rattle.mbe_tt.specs.declared.grammar.Dialect.TheVariants.{RustAnalyzer, Rustc}
use Rattle.mbe_tt.specs.Grammars.Grammar.{Grammar, IsLawful}
use Rattle.mbe_tt.specs.Trees.Tree.{Forest, flat_len, rest_at}
use Rattle.mbe_semantics.specs.declared.fragment_kinds.RepeatKind.{RepeatKind}
use Rattle.mbe_semantics.specs.declared.fragment_kinds.RepeatKind.TheVariants.{ZeroOrMore, OneOrMore, ZeroOrOne}
use Rattle.mbe_semantics.specs.Expansion.Commitment.{FailsInside, IsBeforeFault, EndsBy, Commits}
use Rattle.mbe_semantics.specs.Fragments.FragmentFront.{is_rustc}
use Rattle.mbe_semantics.specs.Readings.Ambiguity.{Fits}
use Rattle.mbe_semantics.specs.Readings.Input.{input_of}
use Rattle.mbe_semantics.specs.Readings.Item.{Items}
use Rattle.mbe_semantics.specs.Readings.Reading.{inside, within, PartialReading, partial}
use Rattle.mbe_semantics.specs.Readings.Verdict.{Verdict, one_reading, many_readings, ambiguous, stuck, IsVerdict}
use Rattle.mbe_semantics.specs.Readings.Verdict.{stop_of}
use Rattle.mbe_semantics.specs.Syntax.Nullable.{Checked}
use Rattle.mbe_semantics.specs.Syntax.Op.{Separator, Op, token, group, variable, repetition, expression, Ops, no_ops, op}
use Rattle.mbe_semantics.specs.Matching.Closure.{closure}
use Rattle.mbe_semantics.specs.Matching.Lists.{In}
use Rattle.mbe_semantics.specs.Matching.ThreadModel.{ThreadModel}
use Rattle.mbe_semantics.proofs.InputLemmas.{lawful_input}
use Rattle.mbe_laws.proofs.Matching.Law.{Inv, held-all, held-sound}
use Rattle.mbe_laws.proofs.Matching.RunLemmas.{one_verdict}
use Rattle.mbe_matcher.specs.Commitment.{op_fails_inside, next_fails_inside, any_fails_inside}
use Rattle.mbe_matcher.specs.Failures.{Notes}
use Rattle.mbe_matcher.specs.FirstAndLast.{EndsFollow}
use Rattle.mbe_matcher.specs.Fronts.{starts_with_wrong_token}
use Rattle.mbe_matcher.proofs.ExpectedLemmas.{same_expects}
use Rattle.mbe_matcher.proofs.KeptEnds.{passes}
use Rattle.mbe_matcher.proofs.Starts.{alone_there, other_mismatched, otherwise_stuck}
use Rattle.mbe_matcher.proofs.TwoEnds.{known}
use Rattle.mbe_matcher.specs.Expected.{Expected, ending, closing, separating, reading, before_round, read_next, expected}
use Rattle.mbe_matcher.specs.Expected.{AreExpected, thread_expects}

-- ---- dialects

-- in rust-analyzer's dialect, no rule ends a call
pub open_goes_on : (g : Grammar) (pattern : Ops) (argument : Forest) → g.dialect ≡ RustAnalyzer
    → Commits g pattern argument → ⊥
open_goes_on g pattern argument e c = false≢true (sym (ap is_rustc e) ∙ c.rustc)

pub other_dialect : (d : Dialect) → (d ≡ RustAnalyzer → ⊥) → is_rustc d ≡ true
other_dialect RustAnalyzer n = absurd (n refl)
other_dialect Rustc n = refl

-- ---- members that pass a test

pub any_in : {A : Type 0} (test : A → Bool) (x : A) (xs : List A) → In x xs → test x ≡ true → list_any test xs ≡ true
any_in test x [] m t = absurd m
any_in test x (y ∷ ys) (inl e) t = or_left (test y) (list_any test ys) (ap test (sym e) ∙ t)
any_in test x (y ∷ ys) (inr m) t = or_right (test y) (list_any test ys) (any_in test x ys m t)

abbrev pub Passing : {A : Type 0} → (A → Bool) → List A → Type 0
Passing {A} test xs = (x : A) × In x xs × (test x ≡ true)

first_or_later : {A : Type 0} (test : A → Bool) (y : A) (ys : List A)
    → (test y ≡ true) ⊎ (list_any test ys ≡ true) → (list_any test ys ≡ true → Passing test ys)
    → Passing test (y ∷ ys)
first_or_later test y ys (inl t) later = (y, inl refl, t)
first_or_later test y ys (inr t) later = let r = later t in (r.0, inr r.1, r.2)

pub from_any : {A : Type 0} (test : A → Bool) (xs : List A) → list_any test xs ≡ true → Passing test xs
from_any test [] e = absurd (false≢true e)
from_any test (y ∷ ys) e = first_or_later test y ys (or_cases (test y) (list_any test ys) e) (from_any test ys)

-- ---- a partial reading before a fragment that fails inside

module _ (g : Grammar) (here : Forest) where
  round_goes_on : (k : RepeatKind) (s : Option Separator) (w : Expected) → before_round k s ≡ Some w
      → next_fails_inside g here w ≡ false
  round_goes_on ZeroOrMore None w e = absurd (none-some w e)
  round_goes_on OneOrMore None w e = absurd (none-some w e)
  round_goes_on ZeroOrOne s w e = absurd (none-some w e)
  round_goes_on ZeroOrMore (Some s) w e = sym (ap (next_fails_inside g here) (same_Some (separating s) w e))
  round_goes_on OneOrMore (Some s) w e = sym (ap (next_fails_inside g here) (same_Some (separating s) w e))

  op_before_fault : (o : Op) (w : Expected) → read_next o ≡ Some w → next_fails_inside g here w ≡ true
      → FailsInside g o here
  op_before_fault (token t) w e h =
      absurd (false≢true (ap (next_fails_inside g here) (same_Some (reading (token t)) w e) ∙ h))
  op_before_fault (group d b) w e h =
      absurd (false≢true (ap (next_fails_inside g here) (same_Some (reading (group d b)) w e) ∙ h))
  op_before_fault (variable name kind span) w e h =
      ap (next_fails_inside g here) (same_Some (reading (variable name kind span)) w e) ∙ h
  op_before_fault (repetition b s k) w e h = absurd (none-some w e)
  op_before_fault (expression x) w e h = absurd (none-some w e)

  before_fault : (x : PartialReading) (w : Expected) → expected x ≡ Some w → next_fails_inside g here w ≡ true
      → IsBeforeFault g x here
  before_fault (partial no_ops is []) w e h =
      absurd (false≢true (ap (next_fails_inside g here) (same_Some ending w e) ∙ h))
  before_fault (partial no_ops is (inside d b rest js ∷ up)) w e h =
      absurd (false≢true (ap (next_fails_inside g here) (same_Some closing w e) ∙ h))
  before_fault (partial no_ops is (within b s k rest js rs ∷ up)) w e h =
      absurd (false≢true (sym (round_goes_on k s w e) ∙ h))
  before_fault (partial (op o rest) is up) w e h = op_before_fault o w e h

  op_fault : (o : Op) → FailsInside g o here → (w : Expected) × (read_next o ≡ Some w)
      × (next_fails_inside g here w ≡ true)
  op_fault (token t) h = absurd h
  op_fault (group d b) h = absurd h
  op_fault (variable name kind span) h = (reading (variable name kind span), refl, h)
  op_fault (repetition b s k) h = absurd h
  op_fault (expression x) h = absurd h

  fault_expected : (x : PartialReading) → IsBeforeFault g x here → (w : Expected) × (expected x ≡ Some w)
      × (next_fails_inside g here w ≡ true)
  fault_expected (partial no_ops is up) h = absurd h
  fault_expected (partial (op o rest) is up) h = op_fault o h

  -- the same as a test
  abbrev is_before_fault : PartialReading → Bool
  is_before_fault (partial no_ops is up) = false
  is_before_fault (partial (op o rest) is up) = op_fails_inside g here o

  op_test : (o : Op) → op_fails_inside g here o ≡ true → FailsInside g o here
  op_test (token t) h = absurd (false≢true h)
  op_test (group d b) h = absurd (false≢true h)
  op_test (variable name kind span) h = h
  op_test (repetition b s k) h = absurd (false≢true h)
  op_test (expression x) h = absurd (false≢true h)

  test_op : (o : Op) → FailsInside g o here → op_fails_inside g here o ≡ true
  test_op (token t) h = absurd h
  test_op (group d b) h = absurd h
  test_op (variable name kind span) h = h
  test_op (repetition b s k) h = absurd h
  test_op (expression x) h = absurd h

  from_test : (x : PartialReading) → is_before_fault x ≡ true → IsBeforeFault g x here
  from_test (partial no_ops is up) h = absurd (false≢true h)
  from_test (partial (op o rest) is up) h = op_test o h

  in_test : (x : PartialReading) → IsBeforeFault g x here → is_before_fault x ≡ true
  in_test (partial no_ops is up) h = absurd h
  in_test (partial (op o rest) is up) h = test_op o h

-- ---- by the verdict

pub stuck_commits : (g : Grammar) (pattern : Ops) (argument : Forest) (q : ℕ) (ws : List Expected)
    → is_rustc g.dialect ≡ true → IsVerdict g pattern argument (stuck q) → AreExpected g pattern argument (stuck q) ws
    → (b : Bool) → b ≡ any_fails_inside g (rest_at argument q) ws → IsTrue b ↔ Commits g pattern argument
stuck_commits g pattern argument q ws r judged all b e = (λ t. ends (sym e ∙ t), λ c. e ∙ fails c)
  where
    ends : any_fails_inside g (rest_at argument q) ws ≡ true → Commits g pattern argument
    ends t =
        let f = from_any (next_fails_inside g (rest_at argument q)) ws t in
        let x = (all f.0).0 f.1 in
        record {
          rustc = r;
          verdict = stuck q;
          judged = judged;
          ends = (x.0, x.1, before_fault g (rest_at argument q) x.0 f.0 x.2 f.2);
        }

    fails : Commits g pattern argument → any_fails_inside g (rest_at argument q) ws ≡ true
    fails c =
        let same = one_verdict g pattern argument c.verdict (stuck q) c.judged judged in
        let x = subst (EndsBy g pattern argument) same c.ends in
        let w = fault_expected g (rest_at argument q) x.0 x.2 in
        any_in (next_fails_inside g (rest_at argument q)) w.0 ws ((all w.0).1 (x.0, x.1, w.1)) w.2

pub commits_by : (g : Grammar) (pattern : Ops) (argument : Forest) (v : Verdict) → is_rustc g.dialect ≡ true
    → IsVerdict g pattern argument v → ((q : ℕ) → v ≡ stuck q → ⊥) → Commits g pattern argument
commits_by g pattern argument v r judged n =
    record { rustc = r; verdict = v; judged = judged; ends = at v n }
  where
    at : (u : Verdict) → ((q : ℕ) → u ≡ stuck q → ⊥) → EndsBy g pattern argument u
    at one_reading m = tt
    at many_readings m = tt
    at (ambiguous q) m = tt
    at (stuck q) m = absurd (m q refl)

-- a pattern that begins with a token that isn't in front doesn't end a call
pub otherwise_goes_on : (g : Grammar) (pattern : Ops) (f : Forest) → IsLawful g → Checked pattern
    → starts_with_wrong_token g.dialect pattern f ≡ true → Commits g pattern f → ⊥
otherwise_goes_on g no_ops f law checked e c = false≢true e
otherwise_goes_on g (op (group d b) rest) f law checked e c = false≢true e
otherwise_goes_on g (op (variable name kind span) rest) f law checked e c = false≢true e
otherwise_goes_on g (op (repetition b s k) rest) f law checked e c = false≢true e
otherwise_goes_on g (op (expression x) rest) f law checked e c = false≢true e
otherwise_goes_on g (op (token t) rest) f law checked e c =
    let same = one_verdict g (op (token t) rest) f c.verdict (stuck 0) c.judged
    (otherwise_stuck g (op (token t) rest) f law checked e) in
    let x = subst (EndsBy g (op (token t) rest) f) same c.ends in
    let w = fault_expected g (rest_at f 0) x.0 x.2 in
    let alone = alone_there g f law (token t) rest checked (other_mismatched g (token t) f e) x.0 x.1 in
    let there : Some (reading (token t)) ≡ Some w.0 =
    sym (ap thread_expects alone) ∙ same_expects x.0 ∙ w.1 in
    false≢true (ap (next_fails_inside g (rest_at f 0)) (same_Some (reading (token t)) w.0 there) ∙ w.2)

-- ---- whether a pattern ends a call is decided

stuck_or_not : (g : Grammar) (pattern : Ops) (argument : Forest) → IsLawful g → Checked pattern → (q : ℕ)
    → is_rustc g.dialect ≡ true → IsVerdict g pattern argument (stuck q) → (xs : List PartialReading)
    → Inv (input_of g argument) pattern q xs → Commits g pattern argument ⊎ (Commits g pattern argument → ⊥)
stuck_or_not g pattern argument w checked q r judged xs inv =
    go (list_any (is_before_fault g (rest_at argument q)) (closure (input_of g argument) q xs)) refl
  where
    go : (b : Bool) → list_any (is_before_fault g (rest_at argument q)) (closure (input_of g argument) q xs) ≡ b
        → Commits g pattern argument ⊎ (Commits g pattern argument → ⊥)
    go true e =
        let f = from_any (is_before_fault g (rest_at argument q)) (closure (input_of g argument) q xs) e in
        inl (record {
          rustc = r;
          verdict = stuck q;
          judged = judged;
          ends = (
            f.0,
            held-sound (input_of g argument) pattern (flat_len argument) (lawful_input g argument w) checked q xs inv
                f.0 f.1,
            from_test g (rest_at argument q) f.0 f.2,
          );
        })
    go false e = inr (λ c.
        let same = one_verdict g pattern argument c.verdict (stuck q) c.judged judged in
        let x = subst (EndsBy g pattern argument) same c.ends in
        let m = held-all (input_of g argument) pattern (flat_len argument) (lawful_input g argument w) checked q xs inv
        x.0 x.1 in
        false≢true (sym e ∙ any_in (is_before_fault g (rest_at argument q)) x.0 (closure (input_of g argument) q xs) m
        (in_test g (rest_at argument q) x.0 x.2)))

pub commits_or_not : (g : Grammar) (pattern : Ops) (argument : Forest) (w : IsLawful g) (checked : Checked pattern)
    (v : Verdict) (right : IsVerdict g pattern argument v) (os ps : List ThreadModel) (before : Notes)
    → EndsFollow (input_of g argument) pattern (stop_of argument v) os ps before
    → Commits g pattern argument ⊎ (Commits g pattern argument → ⊥)
commits_or_not g pattern argument w checked v right os ps before follows = by (is_rustc g.dialect) refl
  where
    at : (u : Verdict) → IsVerdict g pattern argument u → is_rustc g.dialect ≡ true
        → EndsFollow (input_of g argument) pattern (stop_of argument u) os ps before
        → Commits g pattern argument ⊎ (Commits g pattern argument → ⊥)
    at one_reading u r f = inl (record { rustc = r; verdict = one_reading; judged = u; ends = tt })
    at many_readings u r f = inl (record { rustc = r; verdict = many_readings; judged = u; ends = tt })
    at (ambiguous q) u r f = inl (record { rustc = r; verdict = ambiguous q; judged = u; ends = tt })
    at (stuck q) u r f =
        let p = passes g pattern argument w checked (stuck q) u f (omega arith) in
        stuck_or_not g pattern argument w checked q r u p.xs (known g pattern argument w checked p.comes)

    by : (b : Bool) → is_rustc g.dialect ≡ b → Commits g pattern argument ⊎ (Commits g pattern argument → ⊥)
    by true r = at v right r follows
    by false r = inr (λ c. false≢true (sym r ∙ c.rustc))

-- in rustc's dialect, a pattern that fits ends a call
pub fitting_commits : (g : Grammar) (pattern : Ops) (argument : Forest) (is : Items) → Fits g pattern argument is
    → (b : Bool) → b ≡ is_rustc g.dialect → IsTrue b ↔ Commits g pattern argument
fitting_commits g pattern argument is fits b e = (
  λ t. record {
    rustc = sym e ∙ t;
    verdict = one_reading;
    judged = (fits.0, (is, fits.1));
    ends = tt;
  },
  λ c. e ∙ c.rustc,
)
