-- A beginning of a reading ends in the argument.
use Rattle.std.specs.Prelude.{◌≡◌, ◌≤◌, ◌<◌, ◌+◌, ℕ, zero, suc, true, Option, Some, None, List, [], ◌∷◌, refl}
use Rattle.std.proofs.Common.{arith}
use Rattle.mbe_semantics.specs.declared.fragment_kinds.MetaVarKind.{MetaVarKind}
use Rattle.mbe_semantics.specs.declared.fragment_kinds.RepeatKind.{RepeatKind}
use Rattle.mbe_tt.specs.declared.tt.DelimiterKind.{DelimiterKind}
use Rattle.mbe_tt.specs.Trees.Tree.{flat_len}
use Rattle.mbe_semantics.specs.Syntax.Op.{Token, Separator, Op, token, group, variable, repetition, expression, Ops}
use Rattle.mbe_semantics.specs.Syntax.Op.{no_ops, op}
use Rattle.mbe_semantics.specs.Readings.Item.{Fragment, Item, matched, bound, grouped, skipped, rounds, Items, no_items}
use Rattle.mbe_semantics.specs.Readings.Item.{item, Rounds, no_rounds, round, item_width, items_width, rounds_width}
use Rattle.mbe_semantics.specs.Readings.Input.{Input}
use Rattle.mbe_semantics.specs.Readings.Reading.{Reads, ReadsFirst, ReadsRounds, Between, Frame, inside, within}
use Rattle.mbe_semantics.specs.Readings.Reading.{PartialReading, partial, body_of, start_of, offset, AreOpen}
use Rattle.mbe_semantics.specs.Readings.Reading.{IsPartialReading}
use Rattle.mbe_semantics.specs.Laws.Laws.{PartialReadingsEndInside}
use Rattle.mbe_semantics.proofs.InputLemmas as inputs

module _ (i : Input) (n : ℕ)
    (token_end : (t : Token) (p w : ℕ) → i.token_at t p ≡ Some w → p + w ≤ n)
    (fragment_end : (kind : Option MetaVarKind) (p : ℕ) (x : Fragment) → i.fragment_at kind p ≡ Some x
    → 0 < flat_len x.trees → p + flat_len x.trees ≤ n)
    (separator_end : (s : Separator) (p w : ℕ) → i.separator_at s p ≡ Some w → p + w ≤ n)
    (opens_end : (kind : DelimiterKind) (p : ℕ) → i.opens_at kind p ≡ true → p + 1 ≤ n)
    (closes_end : (p : ℕ) → i.closes_at p ≡ true → p + 1 ≤ n) where
  fragment_ends : (kind : Option MetaVarKind) (p : ℕ) (x : Fragment) (w : ℕ) → flat_len x.trees ≡ w
      → i.fragment_at kind p ≡ Some x → p ≤ n → p + w ≤ n
  fragment_ends kind p x zero e f h = omega (arith, h)
  fragment_ends kind p x (suc w) e f h = let k = fragment_end kind p x f (omega (arith, e)) in omega (arith, e, k)

  between_ends : (s : Option Separator) (p w : ℕ) → Between i s p w → p ≤ n → p + w ≤ n
  between_ends None p w b h = omega (arith, b, h)
  between_ends (Some s) p w b h = separator_end s p w b

  mutual
    item_ends : (x : Item) (o : Op) (p : ℕ) → Reads x i o p → p ≤ n → p + item_width x ≤ n
    item_ends (matched m) (token t) p r h = token_end t p m r
    item_ends (matched m) (group d body) p r h = absurd r
    item_ends (matched m) (variable name kind span) p r h = absurd r
    item_ends (matched m) (repetition body s k) p r h = absurd r
    item_ends (matched m) (expression e) p r h = absurd r
    item_ends (bound name x) (variable m kind span) p r h = fragment_ends kind p x (flat_len x.trees) refl r.1 h
    item_ends (bound name x) (token t) p r h = absurd r
    item_ends (bound name x) (group d body) p r h = absurd r
    item_ends (bound name x) (repetition body s k) p r h = absurd r
    item_ends (bound name x) (expression e) p r h = absurd r
    item_ends (grouped is) (group d body) p r h = let k = closes_end (suc p + items_width is) r.2 in omega (arith, k)
    item_ends (grouped is) (token t) p r h = absurd r
    item_ends (grouped is) (variable name kind span) p r h = absurd r
    item_ends (grouped is) (repetition body s k) p r h = absurd r
    item_ends (grouped is) (expression e) p r h = absurd r
    item_ends (skipped names) o p r h = omega (arith, h)
    item_ends (rounds rs last) (repetition body s k) p r h =
        let a = rounds_end rs body s k p r.0 h in
        let b = items_end last body (p + rounds_width rs) no_ops r.1 a in
        omega (arith, b)
    item_ends (rounds rs last) (token t) p r h = absurd r
    item_ends (rounds rs last) (group d body) p r h = absurd r
    item_ends (rounds rs last) (variable name kind span) p r h = absurd r
    item_ends (rounds rs last) (expression e) p r h = absurd r

    items_end : (is : Items) (os : Ops) (p : ℕ) (rest : Ops) → ReadsFirst is i os p rest → p ≤ n
        → p + items_width is ≤ n
    items_end no_items os p rest r h = omega (arith, h)
    items_end (item is x) os p rest (o, r, s) h =
        let a = items_end is os p (op o rest) r h in
        let b = item_ends x o (p + items_width is) s a in
        omega (arith, b)

    rounds_end : (rs : Rounds) (body : Ops) (s : Option Separator) (k : RepeatKind) (p : ℕ)
        → ReadsRounds rs i body s k p → p ≤ n → p + rounds_width rs ≤ n
    rounds_end no_rounds body s k p r h = omega (arith, h)
    rounds_end (round rs is w) body s k p (m, r, q, b) h =
        let a = rounds_end rs body s k p r h in
        let c = items_end is body (p + rounds_width rs) no_ops q a in
        let d = between_ends s (p + rounds_width rs + items_width is) w b c in
        omega (arith, d)

  start_ends : (pat : Ops) (up : List Frame) → AreOpen i pat up → start_of up ≤ n
  start_ends pat [] v = omega arith
  start_ends pat (inside d b rest is ∷ up) (v, r, o) = let k =
      opens_end d.kind (start_of up + items_width is) o in omega (arith, k)
  start_ends pat (within b s k rest is rs ∷ up) (v, r, q) =
      let a = start_ends pat up v in
      let c = items_end is (body_of pat up) (start_of up) (op (repetition b s k) rest) r a in
      rounds_end rs b s k (start_of up + items_width is) q c

  pub ends : (pat : Ops) (y : PartialReading) → IsPartialReading i pat y → offset y ≤ n
  ends pat (partial rest is up) (v, r) = items_end is (body_of pat up) (start_of up) rest r (start_ends pat up v)

pub partial_readings_end_inside : PartialReadingsEndInside
partial_readings_end_inside g pattern argument y b =
    ends _ (flat_len argument) (inputs.token_end g argument) (inputs.fragment_end g argument)
    (inputs.separator_end g argument)
    (inputs.opens_end g argument) (inputs.closes_end g argument) pattern y b
