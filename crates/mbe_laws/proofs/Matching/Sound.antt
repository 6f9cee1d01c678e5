-- A step leads from a beginning to a beginning.
use Rattle.std.proofs.Common.{ℕ, zero, suc, ◌+◌, ◌≡◌, inl, inr, Option, Some, None, List, [], ◌∷◌, ◌++◌, refl, sym}
use Rattle.std.proofs.Common.{subst, arith}
use Rattle.mbe_semantics.specs.declared.fragment_kinds.RepeatKind.{RepeatKind}
use Rattle.mbe_semantics.specs.declared.fragment_kinds.RepeatKind.TheVariants.{ZeroOrMore, OneOrMore, ZeroOrOne}
use Rattle.mbe_semantics.specs.Syntax.Op.{Separator, token, group, variable, repetition, expression, Ops, no_ops, op}
use Rattle.mbe_semantics.specs.Readings.Item.{Item, Items, item, item_width, items_width, rounds_width}
use Rattle.mbe_semantics.specs.Readings.Input.{Input}
use Rattle.mbe_semantics.specs.Readings.Reading.{MaySkip, MayRepeat, Between, Reads, Frame, inside, within}
use Rattle.mbe_semantics.specs.Readings.Reading.{PartialReading, partial, start_of, EndsAt}
use Rattle.mbe_semantics.specs.Readings.Steps.{matched_item, bound_item, skip_of, another_round, if_none, empty_item}
use Rattle.mbe_semantics.specs.Readings.Steps.{epsilons}
use Rattle.mbe_semantics.specs.Matching.Lists.{In}
use Rattle.mbe_semantics.proofs.Taken.{matched-reads, bound-reads}

abbrev AllAt : Input → Ops → ℕ → List PartialReading → Type 0
AllAt i pat q ys = (y : PartialReading) → In y ys → EndsAt i pat q y

all_none : (i : Input) (pat : Ops) (q : ℕ) → AllAt i pat q []
all_none i pat q y h = absurd h

all_one : (i : Input) (pat : Ops) (q : ℕ) (x : PartialReading) → EndsAt i pat q x → AllAt i pat q (x ∷ [])
all_one i pat q x a y (inl e) = subst (EndsAt i pat q) (sym e) a
all_one i pat q x a y (inr h) = absurd h

all_cons : (i : Input) (pat : Ops) (q : ℕ) (x : PartialReading) (xs : List PartialReading) → EndsAt i pat q x
    → AllAt i pat q xs
    → AllAt i pat q (x ∷ xs)
all_cons i pat q x xs a b y (inl e) = subst (EndsAt i pat q) (sym e) a
all_cons i pat q x xs a b y (inr h) = b y h

all_skip : (i : Input) (pat : Ops) (q : ℕ) (k : RepeatKind) (x : PartialReading) → (MaySkip k → EndsAt i pat q x)
    → AllAt i pat q (skip_of k x)
all_skip i pat q ZeroOrMore x a = all_one i pat q x (a tt)
all_skip i pat q OneOrMore x a = all_none i pat q
all_skip i pat q ZeroOrOne x a = all_one i pat q x (a tt)

all_again : (i : Input) (pat : Ops) (q : ℕ) (s : Option Separator) (k : RepeatKind) (x z : PartialReading) →
    ((s ≡ None) → MayRepeat k → EndsAt i pat q x) → EndsAt i pat q z → AllAt i pat q (another_round s k x ++ (z ∷ []))
all_again i pat q None ZeroOrMore x z a b = all_cons i pat q x (z ∷ []) (a refl tt) (all_one i pat q z b)
all_again i pat q None OneOrMore x z a b = all_cons i pat q x (z ∷ []) (a refl tt) (all_one i pat q z b)
all_again i pat q None ZeroOrOne x z a b = all_one i pat q z b
all_again i pat q (Some c) k x z a b = all_one i pat q z b

all_empty : (i : Input) (pat : Ops) (q : ℕ) (w : Option Item) (rest : Ops) (is : Items) (up : List Frame) →
    ((x : Item) → w ≡ Some x → item_width x ≡ 0 → EndsAt i pat q (partial rest (item is x) up))
    → AllAt i pat q (empty_item w rest is up)
all_empty i pat q None rest is up a = all_none i pat q
all_empty i pat q (Some x) rest is up a = go (item_width x) refl
  where
    go : (n : ℕ) → item_width x ≡ n → AllAt i pat q (if_none n (partial rest (item is x) up))
    go zero e = all_one i pat q (partial rest (item is x) up) (a x refl e)
    go (suc n) e = all_none i pat q

pub idle-sound : (i : Input) (pat : Ops) (q : ℕ) (x : PartialReading) → EndsAt i pat q x → (y : PartialReading)
    → In y (epsilons i q x)
    → EndsAt i pat q y
idle-sound i pat q (partial no_ops is []) h = all_none i pat q
idle-sound i pat q (partial no_ops is (inside d b rest js ∷ up)) h = all_none i pat q
idle-sound i pat q (partial no_ops is (within b s k rest js rs ∷ up)) h =
    all_again i pat q s k _ _
    (λ e r. (
      (
        (
          h.0.0.0,
          h.0.0.1,
          (
            r,
            h.0.0.2,
            h.0.1,
            subst (λ v. Between i v (start_of up + items_width js + rounds_width rs + items_width is) 0) (sym e) refl,
          ),
        ),
        refl,
      ),
      omega (arith, h.1),
    ))
    ((h.0.0.0, (repetition b s k, h.0.0.1, (h.0.0.2, h.0.1))), omega (arith, h.1))
idle-sound i pat q (partial (op (token t) rest) is up) h =
    all_empty i pat q (matched_item (i.token_at t q)) rest is up
    (λ x e z. (
      (h.0.0, (token t, h.0.1, subst (λ p. Reads x i (token t) p) (sym h.1) (matched-reads i t q x e))),
      omega (arith, h.1, z),
    ))
idle-sound i pat q (partial (op (variable name kind span) rest) is up) h =
    all_empty i pat q (bound_item name (i.fragment_at kind q)) rest is up
    (λ x e z. (
      (
        h.0.0,
        (
          variable name kind span,
          h.0.1,
          subst (λ p. Reads x i (variable name kind span) p) (sym h.1) (bound-reads i name kind span q x e),
        ),
      ),
      omega (arith, h.1, z),
    ))
idle-sound i pat q (partial (op (expression e) rest) is up) h = all_none i pat q
idle-sound i pat q (partial (op (group d b) rest) is up) h = all_none i pat q
idle-sound i pat q (partial (op (repetition b s k) rest) is up) h =
    all_cons i pat q _ _
    (((h.0.0, h.0.1, tt), refl), omega (arith, h.1))
    (all_skip i pat q k _ (λ m. ((h.0.0, (repetition b s k, h.0.1, (m, refl))), omega (arith, h.1))))
