-- The step that takes tokens leads from a beginning to a beginning; and each beginning but the first comes from one by
-- a step.
use Rattle.std.proofs.Common.{ℕ, zero, suc, ◌+◌, ◌≡◌, ◌⊎◌, inl, inr, Option, Some, None, Bool, true, false, List, []}
use Rattle.std.proofs.Common.{◌∷◌, ◌++◌, refl, sym, ◌∙◌, ap, subst, arith}
use Rattle.mbe_semantics.specs.declared.fragment_kinds.RepeatKind.{RepeatKind}
use Rattle.mbe_semantics.specs.declared.fragment_kinds.RepeatKind.TheVariants.{ZeroOrMore, OneOrMore, ZeroOrOne}
use Rattle.mbe_semantics.specs.declared.fragment_kinds.MetaVarKind.{MetaVarKind}
use Rattle.mbe_tt.specs.declared.span.Span.{Span}
use Rattle.mbe_semantics.specs.Syntax.Op.{Name, Token, Separator, Op, token, group, variable, repetition, expression}
use Rattle.mbe_semantics.specs.Syntax.Op.{Ops, no_ops, op}
use Rattle.mbe_semantics.specs.Readings.Item.{Item, matched, bound, grouped, skipped, rounds, Items, no_items, item}
use Rattle.mbe_semantics.specs.Readings.Item.{Rounds, no_rounds, round, item_width, items_width, rounds_width}
use Rattle.mbe_semantics.specs.Readings.Input.{Input}
use Rattle.mbe_semantics.specs.Readings.Reading.{MaySkip, MayRepeat, Between, Reads, Frame, inside, within}
use Rattle.mbe_semantics.specs.Readings.Reading.{PartialReading, partial, body_of, start_of, offset, AreOpen}
use Rattle.mbe_semantics.specs.Readings.Reading.{IsPartialReading, EndsAt, start}
use Rattle.mbe_semantics.specs.Readings.Steps.{matched_item, bound_item, skip_of, another_round, if_none, empty_item}
use Rattle.mbe_semantics.specs.Readings.Steps.{epsilons, Move, move, if_some, over_of, when, round_move, separator_move}
use Rattle.mbe_semantics.specs.Readings.Steps.{next}
use Rattle.mbe_semantics.specs.Matching.Lists.{In}
use Rattle.mbe_semantics.proofs.Taken.{matched-reads, bound-reads}

-- the parts of a move
abbrev pub Goes : Input → Ops → ℕ → Option Move → Type 0
Goes i pat q None = Unit {0}
Goes i pat q (Some (move n f y)) = EndsAt i pat (q + n) y

when-goes : (i : Input) (pat : Ops) (q : ℕ) (b : Bool) (y : PartialReading) → ((b ≡ true) → EndsAt i pat (q + 1) y)
    → Goes i pat q (when b (move 1 false y))
when-goes i pat q true y a = a refl
when-goes i pat q false y a = tt

over-goes : (i : Input) (pat : Ops) (q : ℕ) (f : Bool) (w : Option Item) (rest : Ops) (is : Items) (up : List Frame) →
    ((x : Item) → w ≡ Some x → EndsAt i pat (q + item_width x) (partial rest (item is x) up))
    → Goes i pat q (over_of f w rest is up)
over-goes i pat q f None rest is up a = tt
over-goes i pat q f (Some x) rest is up a = go (item_width x) refl
  where
    go : (n : ℕ) → item_width x ≡ n → Goes i pat q (if_some f n (partial rest (item is x) up))
    go zero e = tt
    go (suc n) e = subst (λ m. EndsAt i pat (q + m) (partial rest (item is x) up)) e (a x refl)

round-goes : (i : Input) (pat : Ops) (q : ℕ) (k : RepeatKind) (w : Option ℕ) (b : Ops) (s : Option Separator)
    (rest : Ops) (js : Items) (rs : Rounds) (up : List Frame) (is : Items) →
    ((n : ℕ) → w ≡ Some n → MayRepeat k → EndsAt i pat (q + n) (partial b no_items (within b s k rest js (round rs is n)
    ∷ up)))
    → Goes i pat q (round_move k w b s rest js rs up is)
round-goes i pat q k None b s rest js rs up is a = tt
round-goes i pat q ZeroOrMore (Some n) b s rest js rs up is a = a n refl tt
round-goes i pat q OneOrMore (Some n) b s rest js rs up is a = a n refl tt
round-goes i pat q ZeroOrOne (Some n) b s rest js rs up is a = tt

separator-goes : (i : Input) (pat : Ops) (q : ℕ) (s : Option Separator) (k : RepeatKind) (b rest : Ops) (js : Items)
    (rs : Rounds) (up : List Frame) (is : Items) →
    EndsAt i pat q (partial no_ops is (within b s k rest js rs ∷ up))
    → Goes i pat q (separator_move i q s k b rest js rs up is)
separator-goes i pat q None k b rest js rs up is h = tt
separator-goes i pat q (Some c) k b rest js rs up is h =
    round-goes i pat q k (i.separator_at c q) b (Some c) rest js rs up is
    (λ n e r. (
      ((h.0.0.0, h.0.0.1, (r, h.0.0.2, h.0.1, subst (λ p. i.separator_at c p ≡ Some n) (sym h.1) e)), refl),
      omega (arith, h.1),
    ))

pub next-goes : (i : Input) (pat : Ops) (q : ℕ) (x : PartialReading) → EndsAt i pat q x → Goes i pat q (next i q x)
next-goes i pat q (partial no_ops is []) h = tt
next-goes i pat q (partial no_ops is (inside d b rest js ∷ up)) h =
    when-goes i pat q (i.closes_at q) _
    (λ e. (
      (h.0.0.0, (group d b, h.0.0.1, (h.0.0.2, h.0.1, subst (λ p. i.closes_at p ≡ true) (sym h.1) e))),
      omega (arith, h.1),
    ))
next-goes i pat q (partial no_ops is (within b s k rest js rs ∷ up)) h = separator-goes i pat q s k b rest js rs up is h
next-goes i pat q (partial (op (token t) rest) is up) h =
    over-goes i pat q false (matched_item (i.token_at t q)) rest is up
    (λ x e. (
      (h.0.0, (token t, h.0.1, subst (λ p. Reads x i (token t) p) (sym h.1) (matched-reads i t q x e))),
      omega (arith, h.1),
    ))
next-goes i pat q (partial (op (variable name kind span) rest) is up) h =
    over-goes i pat q true (bound_item name (i.fragment_at kind q)) rest is up
    (λ x e. (
      (
        h.0.0,
        (
          variable name kind span,
          h.0.1,
          subst (λ p. Reads x i (variable name kind span) p) (sym h.1) (bound-reads i name kind span q x e),
        ),
      ),
      omega (arith, h.1),
    ))
next-goes i pat q (partial (op (expression e) rest) is up) h = tt
next-goes i pat q (partial (op (group d b) rest) is up) h =
    when-goes i pat q (i.opens_at d.kind q) _
    (λ e. (((h.0.0, h.0.1, subst (λ p. i.opens_at d.kind p ≡ true) (sym h.1) e), refl), omega (arith, h.1)))
next-goes i pat q (partial (op (repetition b s k) rest) is up) h = tt

pub next-sound : (i : Input) (pat : Ops) (q n : ℕ) (f : Bool) (x y : PartialReading) → EndsAt i pat q x
    → next i q x ≡ Some (move n f y) → EndsAt i pat (q + n) y
next-sound i pat q n f x y h e = let P : Option Move → Type 0 = λ m. Goes i pat q m in subst P e (next-goes i pat q x h)

abbrev pub Idles : Input → PartialReading → PartialReading → Type 0
Idles i x y = In y (epsilons i (offset x) x) × (offset y ≡ offset x)

abbrev pub Moves : Input → PartialReading → PartialReading → Type 0
Moves i x y = (n : ℕ) × (f : Bool) × (next i (offset x) x ≡ Some (move n f y)) × (offset y ≡ offset x + n)

-- y comes by a step from a beginning
abbrev pub From : Input → Ops → PartialReading → Type 0
From i pat y = (x : PartialReading) × IsPartialReading i pat x × (Idles i x y ⊎ Moves i x y)

in_last : (s : Option Separator) (k : RepeatKind) (x y : PartialReading) → In y (another_round s k x ++ (y ∷ []))
in_last (Some c) k x y = inl refl
in_last None ZeroOrMore x y = inr (inl refl)
in_last None OneOrMore x y = inr (inl refl)
in_last None ZeroOrOne x y = inl refl

in_again : (k : RepeatKind) (x y : PartialReading) → MayRepeat k → In x (another_round None k x ++ (y ∷ []))
in_again ZeroOrMore x y m = inl refl
in_again OneOrMore x y m = inl refl
in_again ZeroOrOne x y m = absurd m

in_skip : (k : RepeatKind) (x : PartialReading) → MaySkip k → In x (skip_of k x)
in_skip ZeroOrMore x m = inl refl
in_skip OneOrMore x m = absurd m
in_skip ZeroOrOne x m = inl refl

-- the item was read by a token or a variable
in_empty : (w : Option Item) (rest : Ops) (is : Items) (up : List Frame) (x : Item) → w ≡ Some x → item_width x ≡ 0
    → In (partial rest (item is x) up) (empty_item w rest is up)
in_empty w rest is up x e z =
    let P : Option Item → Type 0 = λ v. In (partial rest (item is x) up) (empty_item v rest is up) in
    subst P (sym e) (let Q : ℕ → Type 0 = λ n. In (partial rest (item is x) up)
    (if_none n (partial rest (item is x) up)) in
    subst Q (sym z) (inl refl))

over_some : (f : Bool) (w : Option Item) (rest : Ops) (is : Items) (up : List Frame) (x : Item) (n : ℕ) → w ≡ Some x
    → item_width x ≡ suc n →
    over_of f w rest is up ≡ Some (move (suc n) f (partial rest (item is x) up))
over_some f w rest is up x n e z = ap (λ v. over_of f v rest is up) e
    ∙ ap (λ m. if_some f m (partial rest (item is x) up)) z

by_token : (i : Input) (pat : Ops) (t : Token) (rest : Ops) (is : Items) (up : List Frame) (x : Item) →
    IsPartialReading i pat (partial (op (token t) rest) is up)
    → matched_item (i.token_at t (start_of up + items_width is)) ≡ Some x →
    From i pat (partial rest (item is x) up)
by_token i pat t rest is up x h e = go (item_width x) refl
  where
    go : (n : ℕ) → item_width x ≡ n → From i pat (partial rest (item is x) up)
    go zero z = (
      partial (op (token t) rest) is up,
      h,
      inl (in_empty (matched_item (i.token_at t (start_of up + items_width is))) rest is up x e z, omega (arith, z)),
    )
    go (suc n) z = (
      partial (op (token t) rest) is up,
      h,
      inr (
        suc n,
        false,
        over_some false (matched_item (i.token_at t (start_of up + items_width is))) rest is up x n e
            z,
        omega (arith, z),
      ),
    )

by_variable : (i : Input) (pat : Ops) (name : Name) (kind : Option MetaVarKind) (span : Span) (rest : Ops) (is : Items)
    (up : List Frame) (x : Item) →
    IsPartialReading i pat (partial (op (variable name kind span) rest) is up)
    → bound_item name (i.fragment_at kind (start_of up + items_width is)) ≡ Some x →
    From i pat (partial rest (item is x) up)
by_variable i pat name kind span rest is up x h e = go (item_width x) refl
  where
    go : (n : ℕ) → item_width x ≡ n → From i pat (partial rest (item is x) up)
    go zero z = (
      partial (op (variable name kind span) rest) is up,
      h,
      inl (
        in_empty (bound_item name (i.fragment_at kind (start_of up + items_width is))) rest is up x e z,
        omega (arith, z),
      ),
    )
    go (suc n) z = (
      partial (op (variable name kind span) rest) is up,
      h,
      inr (
        suc n,
        true,
        over_some true (bound_item name (i.fragment_at kind (start_of up + items_width is))) rest is up
            x n e z,
        omega (arith, z),
      ),
    )

-- a further round was begun
by_round : (i : Input) (pat : Ops) (b : Ops) (s : Option Separator) (k : RepeatKind) (rest : Ops) (js : Items)
    (rs : Rounds) (up : List Frame) (is : Items) (w : ℕ) →
    IsPartialReading i pat (partial no_ops is (within b s k rest js rs ∷ up)) → MayRepeat k →
    Between i s (start_of up + items_width js + rounds_width rs + items_width is) w →
    From i pat (partial b no_items (within b s k rest js (round rs is w) ∷ up))
by_round i pat b None k rest js rs up is w h m e = (
  partial no_ops is (within b None k rest js rs ∷ up),
  h,
  inl (
    (let P : ℕ → Type 0 = λ v. In (partial b no_items (within b None k rest js (round rs is v) ∷ up))
        (epsilons i (offset (partial no_ops is (within b None k rest js rs ∷ up)))
        (partial no_ops is (within b None k rest js rs ∷ up)))
        in subst P (sym e) (in_again k _ _ m)),
    omega arith,
  ),
)
by_round i pat b (Some c) ZeroOrMore rest js rs up is w h m e = (
  partial no_ops is (within b (Some c) ZeroOrMore rest js rs ∷ up),
  h,
  inr (w, false, ap (λ v. round_move ZeroOrMore v b (Some c) rest js rs up is) e, omega arith),
)
by_round i pat b (Some c) OneOrMore rest js rs up is w h m e = (
  partial no_ops is (within b (Some c) OneOrMore rest js rs ∷ up),
  h,
  inr (w, false, ap (λ v. round_move OneOrMore v b (Some c) rest js rs up is) e, omega arith),
)
by_round i pat b (Some c) ZeroOrOne rest js rs up is w h m e = absurd m

by_item : (i : Input) (pat : Ops) (o : Op) (rest : Ops) (is : Items) (x : Item) (up : List Frame) →
    IsPartialReading i pat (partial (op o rest) is up) → Reads x i o (start_of up + items_width is)
    → From i pat (partial rest (item is x) up)
by_item i pat (token t) rest is (matched n) up h e = by_token i pat t rest is up (matched n) h (ap matched_item e)
by_item i pat (variable n kind span) rest is (bound name x) up h e =
    by_variable i pat n kind span rest is up (bound name x) h
    (ap (bound_item n) e.1 ∙ ap (λ v. Some (bound v x)) (sym e.0))
by_item i pat (group d b) rest is (grouped inner) up h e = (
  partial no_ops inner (inside d b rest is ∷ up),
  ((h.0, h.1, e.0), e.1),
  inr (1, false, ap (λ v. when v (move 1 false (partial rest (item is (grouped inner)) up))) e.2, omega arith),
)
by_item i pat (repetition b s k) rest is (skipped names) up h e = (
  partial (op (repetition b s k) rest) is up,
  h,
  inl (
    (let P : List Name → Type 0 = λ v. In (partial rest (item is (skipped v)) up)
        (epsilons i (offset (partial (op (repetition b s k) rest) is up)) (partial (op (repetition b s k) rest) is up))
        in subst P (sym e.1) (inr (in_skip k _ e.0))),
    omega arith,
  ),
)
by_item i pat (repetition b s k) rest is (rounds rs last) up h e =
    (partial no_ops last (within b s k rest is rs ∷ up), ((h.0, h.1, e.0), e.1), inl (in_last s k _ _, omega arith))
by_item i pat (expression x) rest is (matched n) up h e = absurd e
by_item i pat (expression x) rest is (bound name v) up h e = absurd e
by_item i pat (expression x) rest is (grouped inner) up h e = absurd e
by_item i pat (expression x) rest is (skipped names) up h e = absurd e
by_item i pat (expression x) rest is (rounds rs last) up h e = absurd e
by_item i pat _ rest is _ up h e = absurd e

-- what comes first in a body
by_frame : (i : Input) (pat : Ops) (f : Frame) (up : List Frame) → AreOpen i pat (f ∷ up)
    → From i pat (partial (body_of pat (f ∷ up)) no_items (f ∷ up))
by_frame i pat (inside d b rest js) up h = (
  partial (op (group d b) rest) js up,
  (h.0, h.1),
  inr (1, false, ap (λ v. when v (move 1 false (partial b no_items (inside d b rest js ∷ up)))) h.2, omega arith),
)
by_frame i pat (within b s k rest js no_rounds) up h =
    (partial (op (repetition b s k) rest) js up, (h.0, h.1), inl (inl refl, omega arith))
by_frame i pat (within b s k rest js (round rs is w)) up h =
    by_round i pat b s k rest js rs up is w ((h.0, h.1, h.2.1), h.2.2) h.2.0 h.2.3

pub parents : (i : Input) (pat : Ops) (y : PartialReading) → IsPartialReading i pat y → (y ≡ start pat) ⊎ From i pat y
parents i pat (partial rest no_items []) h = inl (ap (λ r. partial r no_items []) (sym h.1))
parents i pat (partial rest no_items (f ∷ up)) h =
    let P : Ops → Type 0 = λ r. From i pat (partial r no_items (f ∷ up)) in inr (subst P h.1 (by_frame i pat f up h.0))
parents i pat (partial rest (item is x) up) h = inr (by_item i pat h.1.0 rest is x up (h.0, h.1.1) h.1.2)
