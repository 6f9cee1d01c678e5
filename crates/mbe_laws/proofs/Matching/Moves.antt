-- A step over tokens takes at least one, and none past the end.
use Rattle.std.proofs.Common.{ℕ, zero, suc, ◌+◌, ◌≡◌, ◌<◌, ◌≤◌, Option, Some, None, Bool, true, false, List, [], ◌∷◌}
use Rattle.std.proofs.Common.{refl, subst, arith}
use Rattle.mbe_semantics.specs.declared.fragment_kinds.RepeatKind.{RepeatKind}
use Rattle.mbe_semantics.specs.declared.fragment_kinds.RepeatKind.TheVariants.{ZeroOrMore, OneOrMore, ZeroOrOne}
use Rattle.mbe_semantics.specs.declared.fragment_kinds.MetaVarKind.{MetaVarKind}
use Rattle.mbe_semantics.specs.Syntax.Op.{Name, Token, Separator, token, group, variable, repetition, expression, Ops}
use Rattle.mbe_semantics.specs.Syntax.Op.{no_ops, op}
use Rattle.mbe_semantics.specs.Readings.Item.{Fragment, Item, matched, bound, Items, item, Rounds, item_width}
use Rattle.mbe_semantics.specs.Readings.Input.{Input}
use Rattle.mbe_semantics.specs.Readings.Reading.{Frame, inside, within, PartialReading, partial}
use Rattle.mbe_semantics.specs.Readings.Steps.{matched_item, bound_item, Move, move, if_some, over_of, when, round_move}
use Rattle.mbe_semantics.specs.Readings.Steps.{separator_move, next}
use Rattle.mbe_semantics.specs.Laws.Lawful.{Lawful}
use Rattle.mbe_semantics.proofs.Taken.{matched-from, bound-from}

abbrev Takes : ℕ → ℕ → Option Move → Type 0
Takes len q None = Unit {0}
Takes len q (Some (move n f y)) = (0 < n) × (q + n ≤ len)

when_takes : (len q : ℕ) (b : Bool) (y : PartialReading) → (b ≡ true → q + 1 ≤ len)
    → Takes len q (when b (move 1 false y))
when_takes len q true y h = (omega arith, h refl)
when_takes len q false y h = tt

over_takes : (len q : ℕ) (f : Bool) (w : Option Item) (rest : Ops) (is : Items) (up : List Frame) →
    ((x : Item) → w ≡ Some x → 0 < item_width x → q + item_width x ≤ len) → Takes len q (over_of f w rest is up)
over_takes len q f None rest is up h = tt
over_takes len q f (Some x) rest is up h = go (item_width x) refl
  where
    go : (n : ℕ) → item_width x ≡ n → Takes len q (if_some f n (partial rest (item is x) up))
    go zero e = tt
    go (suc n) e = (omega arith, let l : q + item_width x ≤ len = h x refl (omega (arith, e)) in omega (arith, l, e))

token_takes : (i : Input) (len q : ℕ) → Lawful i len → (t : Token) (x : Item) → matched_item (i.token_at t q) ≡ Some x
    → q + item_width x ≤ len
token_takes i len q w t x e =
    let r : (n : ℕ) × (i.token_at t q ≡ Some n) × (matched n ≡ x) = matched-from (i.token_at t q) x e in
    subst (λ v. q + item_width v ≤ len) r.2 (w.token_end t q r.0 r.1)

variable_takes : (i : Input) (len q : ℕ) → Lawful i len → (name : Name) (kind : Option MetaVarKind) (x : Item)
    → bound_item name (i.fragment_at kind q) ≡ Some x → 0 < item_width x → q + item_width x ≤ len
variable_takes i len q w name kind x e l =
    let r : (v : Fragment) × (i.fragment_at kind q ≡ Some v) × (bound name v ≡ x) =
    bound-from name (i.fragment_at kind q) x e in
    (subst (λ v. 0 < item_width v → q + item_width v ≤ len) r.2 (λ m. w.fragment_end kind q r.0 r.1 m)) l

round_takes : (len q : ℕ) (k : RepeatKind) (w : Option ℕ) (b : Ops) (s : Option Separator) (rest : Ops) (js : Items)
    (rs : Rounds) (up : List Frame) (is : Items) →
    ((n : ℕ) → w ≡ Some n → (0 < n) × (q + n ≤ len)) → Takes len q (round_move k w b s rest js rs up is)
round_takes len q k None b s rest js rs up is h = tt
round_takes len q ZeroOrMore (Some n) b s rest js rs up is h = h n refl
round_takes len q OneOrMore (Some n) b s rest js rs up is h = h n refl
round_takes len q ZeroOrOne (Some n) b s rest js rs up is h = tt

separator_takes : (i : Input) (len q : ℕ) → Lawful i len
    → (s : Option Separator) (k : RepeatKind) (b rest : Ops) (js : Items) (rs : Rounds) (up : List Frame) (is : Items) →
    Takes len q (separator_move i q s k b rest js rs up is)
separator_takes i len q w None k b rest js rs up is = tt
separator_takes i len q w (Some c) k b rest js rs up is =
    round_takes len q k (i.separator_at c q) b (Some c) rest js rs up is
    (λ n e. (w.separator_some c q n e, w.separator_end c q n e))

next_takes : (i : Input) (len q : ℕ) → Lawful i len → (x : PartialReading) → Takes len q (next i q x)
next_takes i len q w (partial no_ops is []) = tt
next_takes i len q w (partial no_ops is (inside d b rest js ∷ up)) = when_takes len q (i.closes_at q) _ (w.closes_end q)
next_takes i len q w (partial no_ops is (within b s k rest js rs ∷ up)) =
    separator_takes i len q w s k b rest js rs up is
next_takes i len q w (partial (op (token t) rest) is up) =
    over_takes len q false (matched_item (i.token_at t q)) rest is up (λ x e l. token_takes i len q w t x e)
next_takes i len q w (partial (op (variable name kind span) rest) is up) =
    over_takes len q true (bound_item name (i.fragment_at kind q)) rest is up
    (λ x e l. variable_takes i len q w name kind x e l)
next_takes i len q w (partial (op (expression e) rest) is up) = tt
next_takes i len q w (partial (op (group d b) rest) is up) =
    when_takes len q (i.opens_at d.kind q) _ (w.opens_end d.kind q)
next_takes i len q w (partial (op (repetition b s k) rest) is up) = tt

pub next-takes : (i : Input) (len q n : ℕ) (f : Bool) (x y : PartialReading) → Lawful i len → next i q x
    ≡ Some (move n f y)
    → (0 < n) × (q + n ≤ len)
next-takes i len q n f x y w e = let P : Option Move → Type 0 = λ m. Takes len q m in subst P e (next_takes i len q w x)
