-- The steps of a beginning, by the numbers of its dot.
use Rattle.std.proofs.Common.{ℕ, zero, suc, ◌+◌, ◌-◌, ◌≡◌, Option, Some, None, Bool, true, false, List, [], ◌∷◌, ◌++◌}
use Rattle.std.proofs.Common.{map, refl, sym, ◌∙◌, ap, arith, ◌<◌, ◌≤◌}
use Rattle.std.proofs.lemmas.Option.{none-some, same_Some}
use Rattle.mbe_tt.specs.Trees.Tree.{flat_len}
use Rattle.mbe_semantics.specs.declared.fragment_kinds.RepeatKind.{RepeatKind}
use Rattle.mbe_semantics.specs.declared.fragment_kinds.RepeatKind.TheVariants.{ZeroOrMore, OneOrMore, ZeroOrOne}
use Rattle.mbe_semantics.specs.Syntax.Op.{Name, Separator, token, group, variable, repetition, expression, Ops, no_ops}
use Rattle.mbe_semantics.specs.Syntax.Op.{op, names_of}
use Rattle.mbe_semantics.specs.Readings.Item.{Fragment, matched, bound, skipped, rounds, Items, no_items, item, Rounds}
use Rattle.mbe_semantics.specs.Readings.Item.{no_rounds, round}
use Rattle.mbe_semantics.specs.Readings.Input.{Input}
use Rattle.mbe_semantics.specs.Readings.Reading.{Frame, inside, within, PartialReading, partial}
use Rattle.mbe_semantics.specs.Readings.Steps.{matched_item, bound_item, skip_of, another_round, if_none, empty_item}
use Rattle.mbe_semantics.specs.Readings.Steps.{epsilons, Move, move, if_some, over_of, when, round_move, next}
use Rattle.mbe_semantics.specs.Matching.States.{state_count, states_after, state_number}
use Rattle.mbe_matcher.specs.Readings.Divergence.{moved, steps}
use Rattle.mbe_matcher.specs.Readings.States.{state_at, Transition, listed, over, over_one, over_fragment, again, past}
use Rattle.mbe_matcher.specs.Readings.States.{round_transitions, transitions}

-- the number of the dot that a step leads to, and its place
abbrev pub named : ℕ × PartialReading → ℕ × ℕ
named s = (state_number s.1, s.0)

-- the dot that a way leads to, and the place
abbrev pub reached : ℕ → ℕ × ℕ → ℕ × ℕ
reached q w = (w.0, q + w.1)

-- the steps over no token and the one over some are these
abbrev Alike : ℕ → List PartialReading → Option Move → Option Transition × Option Transition → Type 0
Alike q ys m ws = map named (map (λ y. (q, y)) ys ++ moved q m) ≡ map (reached q) (listed ws)

pair : (a b c d : ℕ) → a ≡ c → b ≡ d → ◌≡◌ {A = ℕ × ℕ} (a, b) (c, d)
pair a b c d e f = cc

here : (q n : ℕ) (y : PartialReading) → state_number y ≡ n → named (q, y) ≡ reached q (n, 0)
here q n y e = pair (state_number y) q n (q + 0) e (omega arith)

there : (q n w : ℕ) (y : PartialReading) → state_number y ≡ n → named (q + w, y) ≡ reached q (n, w)
there q n w y e = pair (state_number y) (q + w) n (q + w) e refl

one : (a b : ℕ × ℕ) → a ≡ b → a ∷ [] ≡ b ∷ []
one a b e = ap (λ v. v ∷ []) e

two : (a b c d : ℕ × ℕ) → a ≡ b → c ≡ d → a ∷ c ∷ [] ≡ b ∷ d ∷ []
two a b c d e f = cc

when_alike : (q n : ℕ) (b : Bool) (y : PartialReading) → state_number y ≡ n
    → Alike q [] (when b (move 1 false y)) (over_one n b, None)
when_alike q n true y e = one _ _ (there q n 1 y e)
when_alike q n false y e = refl

-- a token or a variable, over some flat tokens or none
over_item : (q n w : ℕ) (f : Bool) (y : PartialReading) → state_number y ≡ n
    → Alike q (if_none w y) (if_some f w y) (Some (n, w), None)
over_item q n zero f y e = one _ _ (here q n y e)
over_item q n (suc w) f y e = one _ _ (there q n (suc w) y e)

over_token : (q n : ℕ) (w : Option ℕ) (rest : Ops) (is : Items) (up : List Frame) → state_count rest + states_after up
    ≡ n →
    Alike q (empty_item (matched_item w) rest is up) (over_of false (matched_item w) rest is up) (over n w, None)
over_token q n None rest is up e = refl
over_token q n (Some w) rest is up e = over_item q n w false (partial rest (item is (matched w)) up) e

over_variable : (q n : ℕ) (name : Name) (w : Option Fragment) (rest : Ops) (is : Items) (up : List Frame)
    → state_count rest + states_after up ≡ n →
    Alike q (empty_item (bound_item name w) rest is up) (over_of true (bound_item name w) rest is up)
    (over_fragment n w, None)
over_variable q n name None rest is up e = refl
over_variable q n name (Some x) rest is up e =
    over_item q n (flat_len x.trees) true (partial rest (item is (bound name x)) up) e

skip_alike : (q n m : ℕ) (k : RepeatKind) (x y : PartialReading) → state_number x ≡ n → state_number y ≡ m →
    Alike q (x ∷ skip_of k y) None (Some (n, 0), past k (Some (m, 0)))
skip_alike q n m ZeroOrMore x y e f = two _ _ _ _ (here q n x e) (here q m y f)
skip_alike q n m OneOrMore x y e f = one _ _ (here q n x e)
skip_alike q n m ZeroOrOne x y e f = two _ _ _ _ (here q n x e) (here q m y f)

again_alike : (q n m : ℕ) (k : RepeatKind) (x y : PartialReading) → state_number x ≡ n → state_number y ≡ m →
    Alike q (another_round None k x ++ (y ∷ [])) None (again k (Some (n, 0)), Some (m, 0))
again_alike q n m ZeroOrMore x y e f = two _ _ _ _ (here q n x e) (here q m y f)
again_alike q n m OneOrMore x y e f = two _ _ _ _ (here q n x e) (here q m y f)
again_alike q n m ZeroOrOne x y e f = one _ _ (here q m y f)

separated_alike : (q n m : ℕ) (w : Option ℕ) (b : Ops) (s : Separator) (k : RepeatKind) (rest : Ops) (js : Items)
    (rs : Rounds) (up : List Frame) (is : Items) (y : PartialReading) →
    state_count b + (state_count rest + states_after up) ≡ n → state_number y ≡ m →
    Alike q (y ∷ []) (round_move k w b (Some s) rest js rs up is) (Some (m, 0), again k (over n w))
separated_alike q n m None b s ZeroOrMore rest js rs up is y e f = one _ _ (here q m y f)
separated_alike q n m None b s OneOrMore rest js rs up is y e f = one _ _ (here q m y f)
separated_alike q n m None b s ZeroOrOne rest js rs up is y e f = one _ _ (here q m y f)
separated_alike q n m (Some w) b s ZeroOrMore rest js rs up is y e f = two _ _ _ _ (here q m y f)
    (there q n w (partial b no_items (within b (Some s) ZeroOrMore rest js (round rs is w) ∷ up)) e)
separated_alike q n m (Some w) b s OneOrMore rest js rs up is y e f = two _ _ _ _ (here q m y f)
    (there q n w (partial b no_items (within b (Some s) OneOrMore rest js (round rs is w) ∷ up)) e)
separated_alike q n m (Some w) b s ZeroOrOne rest js rs up is y e f = one _ _ (here q m y f)

-- at the end of a round
round_alike : (i : Input) (q m : ℕ) (s : Option Separator) (k : RepeatKind) (b rest : Ops) (js : Items) (rs : Rounds)
    (up : List Frame) (is : Items) → m ≡ state_count rest + states_after up →
    Alike q (epsilons i q (partial no_ops is (within b s k rest js rs ∷ up)))
    (next i q (partial no_ops is (within b s k rest js rs ∷ up))) (round_transitions i q s k (state_count b) m)
round_alike i q m None k b rest js rs up is e =
    again_alike q (m + state_count b) m k _ _ (omega (arith, e)) (omega (arith, e))
round_alike i q m (Some s) k b rest js rs up is e =
    separated_alike q (m + state_count b) m (i.separator_at s q) b s k rest js rs up is
    (partial rest (item js (rounds rs is)) up) (omega (arith, e)) (omega (arith, e))

-- The steps of a beginning are those of its dot.
pub steps-ways : (i : Input) (q : ℕ) (x : PartialReading)
    → map named (steps i q x) ≡ map (reached q) (listed (transitions i q (state_at x) (state_number x - 1)))
unfolding transitions
steps-ways i q (partial no_ops is []) = refl
steps-ways i q (partial no_ops is (inside d b rest js ∷ up)) = when_alike q _ (i.closes_at q) _ (omega arith)
steps-ways i q (partial no_ops is (within b s k rest js rs ∷ up)) =
    round_alike i q (state_number (partial no_ops is (within b s k rest js rs ∷ up)) - 1) s k b rest js rs up is
    (omega arith)
steps-ways i q (partial (op (token t) rest) is up) = over_token q _ (i.token_at t q) rest is up (omega arith)
steps-ways i q (partial (op (variable name kind span) rest) is up) =
    over_variable q _ name (i.fragment_at kind q) rest is up (omega arith)
steps-ways i q (partial (op (expression e) rest) is up) = refl
steps-ways i q (partial (op (group d b) rest) is up) = when_alike q _ (i.opens_at d.kind q) _ (omega arith)
steps-ways i q (partial (op (repetition b s k) rest) is up) =
    skip_alike q (state_number (partial (op (repetition b s k) rest) is up) - 1)
    (state_number (partial (op (repetition b s k) rest) is up) - 1 - state_count b) k
    (partial b no_items (within b s k rest is no_rounds ∷ up))
    (partial rest (item is (skipped (names_of b))) up) (omega arith) (omega arith)

second_none : (o : Option Transition) (a b : Transition)
    → ◌≡◌ {A = Option Transition × Option Transition} (o, None) (Some a, Some b) → ⊥
second_none o a b e = none-some b (ap (λ v. v.1) e)

first_none : (o : Option Transition) (a b : Transition)
    → ◌≡◌ {A = Option Transition × Option Transition} (None, o) (Some a, Some b) → ⊥
first_none o a b e = none-some a (ap (λ v. v.0) e)

pub some-dots : (os : Ops) → 0 < state_count os
some-dots no_ops = omega arith
some-dots (op o os) = omega arith

different : (n m v w : ℕ) (p r : Transition)
    → ◌≡◌ {A = Option Transition × Option Transition} (Some (n, v), Some (m, w)) (Some p, Some r) → p.0 ≡ r.0 → n ≡ m
different n m v w p r e f =
    let a : ◌≡◌ {A = Transition} (n, v) p =
    same_Some (n, v) p (ap (λ (o : Option Transition × Option Transition). o.0) e) in
    let b : ◌≡◌ {A = Transition} (m, w) r =
    same_Some (m, w) r (ap (λ (o : Option Transition × Option Transition). o.1) e) in
    ap (λ (o : Transition). o.0) a ∙ f ∙ sym (ap (λ (o : Transition). o.0) b)

apart_round : (i : Input) (q : ℕ) (s : Option Separator) (k : RepeatKind) (m n : ℕ) (a b : Transition) → 0 < m
    → ◌≡◌ {A = Option Transition × Option Transition} (round_transitions i q s k m n) (Some a, Some b) → a.0 ≡ b.0 → ⊥
apart_round i q None ZeroOrMore m n a b l e f =
    let d = different (n + m) n 0 0 a b e f in absurd (omega (arith, d))
apart_round i q None OneOrMore m n a b l e f =
    let d = different (n + m) n 0 0 a b e f in absurd (omega (arith, d))
apart_round i q None ZeroOrOne m n a b l e f = first_none (Some (n, 0)) a b e
apart_round i q (Some s) ZeroOrMore m n a b l e f = go (i.separator_at s q) e
  where
    go : (w : Option ℕ) → ◌≡◌ {A = Option Transition × Option Transition} (Some (n, 0), over (n + m) w) (Some a, Some b)
        → ⊥
    go None g = second_none (Some (n, 0)) a b g
    go (Some w) g = let d = different n (n + m) 0 w a b g f in absurd (omega (arith, d))
apart_round i q (Some s) OneOrMore m n a b l e f = go (i.separator_at s q) e
  where
    go : (w : Option ℕ) → ◌≡◌ {A = Option Transition × Option Transition} (Some (n, 0), over (n + m) w) (Some a, Some b)
        → ⊥
    go None g = second_none (Some (n, 0)) a b g
    go (Some w) g = let d = different n (n + m) 0 w a b g f in absurd (omega (arith, d))
apart_round i q (Some s) ZeroOrOne m n a b l e f = second_none (Some (n, 0)) a b e

apart_past : (k : RepeatKind) (n m : ℕ) (a b : Transition) → 0 < m → m ≤ n
    → ◌≡◌ {A = Option Transition × Option Transition} (Some (n, 0), past k (Some (n - m, 0))) (Some a, Some b) → a.0
    ≡ b.0 → ⊥
apart_past ZeroOrMore n m a b l g e f =
    let d = different n (n - m) 0 0 a b e f in absurd (omega (arith, d))
apart_past OneOrMore n m a b l g e f = second_none (Some (n, 0)) a b e
apart_past ZeroOrOne n m a b l g e f =
    let d = different n (n - m) 0 0 a b e f in absurd (omega (arith, d))

-- where there are two, they lead to different dots
pub ways-apart : (i : Input) (q : ℕ) (x : PartialReading) (a b : Transition)
    → ◌≡◌ {A = Option Transition × Option Transition} (transitions i q (state_at x) (state_number x - 1))
    (Some a, Some b)
    → a.0 ≡ b.0 → ⊥
unfolding transitions
ways-apart i q (partial no_ops is []) a b e f = second_none _ a b e
ways-apart i q (partial no_ops is (inside d o rest js ∷ up)) a b e f = second_none _ a b e
ways-apart i q (partial no_ops is (within o s k rest js rs ∷ up)) a b e f =
    apart_round i q s k (state_count o) (state_number (partial no_ops is (within o s k rest js rs ∷ up)) - 1) a b
    (some-dots o) e f
ways-apart i q (partial (op (token t) rest) is up) a b e f = second_none _ a b e
ways-apart i q (partial (op (variable name kind span) rest) is up) a b e f = second_none _ a b e
ways-apart i q (partial (op (expression x) rest) is up) a b e f = second_none _ a b e
ways-apart i q (partial (op (group d o) rest) is up) a b e f = second_none _ a b e
ways-apart i q (partial (op (repetition o s k) rest) is up) a b e f =
    apart_past k (state_number (partial (op (repetition o s k) rest) is up) - 1) (state_count o) a b (some-dots o)
    (omega arith) e f
