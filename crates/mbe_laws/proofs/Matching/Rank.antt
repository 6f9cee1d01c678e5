-- A number that falls at each idle step.
use Rattle.std.proofs.Common.{ℕ, zero, suc, ◌+◌, ◌-◌, ◌≡◌, ◌<◌, inl, inr, Option, Some, None, Bool, true, false, ◌&&◌}
use Rattle.std.proofs.Common.{List, [], ◌∷◌, ◌++◌, refl, sym, ◌∙◌, ap, subst, arith}
use Rattle.std.proofs.lemmas.Bool.{or_parts}
use Rattle.mbe_semantics.specs.declared.fragment_kinds.RepeatKind.{RepeatKind}
use Rattle.mbe_semantics.specs.declared.fragment_kinds.RepeatKind.TheVariants.{ZeroOrMore, OneOrMore, ZeroOrOne}
use Rattle.mbe_semantics.specs.Syntax.Op.{Separator, Op, token, group, variable, repetition, expression, Ops, no_ops}
use Rattle.mbe_semantics.specs.Syntax.Op.{op}
use Rattle.mbe_semantics.specs.Readings.Item.{Item, matched, bound, grouped, skipped, rounds, Items, no_items, item}
use Rattle.mbe_semantics.specs.Readings.Item.{Rounds, item_width, items_width, rounds_width}
use Rattle.mbe_semantics.specs.Readings.Input.{Input}
use Rattle.mbe_semantics.specs.Readings.Reading.{MaySkip, Reads, ReadsFirst, Frame, inside, within, PartialReading}
use Rattle.mbe_semantics.specs.Readings.Reading.{partial, body_of, start_of, AreOpen, EndsAt}
use Rattle.mbe_semantics.specs.Readings.Steps.{matched_item, bound_item, skip_of, another_round, if_none, empty_item}
use Rattle.mbe_semantics.specs.Readings.Steps.{epsilons, tree}
use Rattle.mbe_semantics.specs.Matching.Lists.{In}
use Rattle.mbe_semantics.specs.Syntax.Nullable.{may_skip, is_nullable_op, is_nullable, is_unseparated, is_refused_op}
use Rattle.mbe_semantics.specs.Syntax.Nullable.{is_refused, Checked}
use Rattle.mbe_semantics.specs.Laws.Lawful.{Lawful}
use Rattle.mbe_semantics.specs.Matching.Closure.{whole, closure}
use Rattle.mbe_semantics.specs.Matching.ThreadModel.{frames_of, ops_size, spare, frames_rank, rank}
use Rattle.mbe_semantics.specs.Readings.Steps.{matched_item, bound_item, skip_of, another_round, if_none, empty_item}
use Rattle.mbe_semantics.specs.Readings.Steps.{epsilons, tree}
use Rattle.std.specs.List.{flat_map}
use Rattle.mbe_laws.proofs.Matching.Forest.{tree-steady}
use Rattle.mbe_laws.proofs.Matching.Sound.{idle-sound}

and_false : (a b : Bool) → (a && b) ≡ false → a ≡ true → b ≡ false
and_false true b e f = e
and_false false b e f = cc

checked_rest : (is : Items) (i : Input) (os : Ops) (p : ℕ) (rest : Ops) → ReadsFirst is i os p rest → Checked os
    → Checked rest
checked_rest no_items i os p rest h c = subst Checked h c
checked_rest (item is x) i os p rest h c =
    (or_parts (is_refused_op h.0) (is_refused rest) (checked_rest is i os p (op h.0 rest) h.1 c)).1

checked_op : (is : Items) (i : Input) (os : Ops) (p : ℕ) (o : Op) (rest : Ops) → ReadsFirst is i os p (op o rest)
    → Checked os → is_refused_op o ≡ false
checked_op is i os p o rest h c =
    (or_parts (is_refused_op o) (is_refused rest) (checked_rest is i os p (op o rest) h c)).0

checked_body : (i : Input) (pat : Ops) (up : List Frame) → AreOpen i pat up → Checked pat → Checked (body_of pat up)
checked_body i pat [] h c = c
checked_body i pat (inside d b rest js ∷ up) h c =
    checked_op js i (body_of pat up) (start_of up) (group d b) rest h.1 (checked_body i pat up h.0 c)
checked_body i pat (within b s k rest js rs ∷ up) h c =
    (or_parts (is_unseparated s && is_nullable b) (is_refused b)
    (checked_op js i (body_of pat up) (start_of up) (repetition b s k) rest h.1 (checked_body i pat up h.0 c))).1

checked_frame : (i : Input) (pat : Ops) (b : Ops) (s : Option Separator) (k : RepeatKind) (rest : Ops) (js : Items)
    (rs : Rounds) (up : List Frame) →
    AreOpen i pat (within b s k rest js rs ∷ up) → Checked pat → s ≡ None → is_nullable b ≡ false
checked_frame i pat b s k rest js rs up h c e =
    and_false (is_unseparated s) (is_nullable b)
    (or_parts (is_unseparated s && is_nullable b) (is_refused b)
    (checked_op js i (body_of pat up) (start_of up) (repetition b s k) rest h.1 (checked_body i pat up h.0 c))).0
    (ap is_unseparated e)

null_and : (a b : Bool) → a ≡ true → b ≡ true → (a && b) ≡ true
null_and a b e f = rw (e, f) refl

null_repeat : (k : RepeatKind) (b : Bool) → (k ≡ OneOrMore → b ≡ true) → may_skip k b ≡ true
null_repeat ZeroOrMore b h = refl
null_repeat OneOrMore b h = h refl
null_repeat ZeroOrOne b h = refl

null_skip : (k : RepeatKind) (b : Bool) → MaySkip k → may_skip k b ≡ true
null_skip ZeroOrMore b h = refl
null_skip OneOrMore b h = absurd h
null_skip ZeroOrOne b h = refl

-- what was read over no token can be read over none
mutual
  null_item : (x : Item) (i : Input) (o : Op) (p : ℕ) → {len : ℕ} → Lawful i len → Reads x i o p → item_width x ≡ 0
      → is_nullable_op o ≡ true
  null_item (matched n) i (token t) p w h e = let l : 0 < n = w.token_some t p n h in absurd (omega (arith, l, e))
  null_item (bound name x) i (variable n kind span) p w h e = w.fragment_empty kind p x h.1 e
  null_item (grouped is) i (group d b) p w h e = absurd (omega (arith, e))
  null_item (skipped names) i (repetition b s k) p w h e = null_skip k (is_nullable b) h.0
  null_item (rounds rs last) i (repetition b s k) p w h e =
      null_repeat k (is_nullable b) (λ f. null_first last i b (p + rounds_width rs) no_ops w h.1 (omega (arith, e))
      refl)
  null_item _ i _ p w h e = absurd h

  null_first : (is : Items) (i : Input) (ops : Ops) (p : ℕ) (rest : Ops) → {len : ℕ} → Lawful i len
      → ReadsFirst is i ops p rest → items_width is ≡ 0 → is_nullable rest ≡ true → is_nullable ops ≡ true
  null_first no_items i ops p rest w h e n = ap is_nullable h ∙ n
  null_first (item is x) i ops p rest w h e n =
      null_first is i ops p (op h.0 rest) w h.1 (omega arith)
      (null_and (is_nullable_op h.0) (is_nullable rest) (null_item x i h.0 (p + items_width is) w h.2 (omega arith)) n)

spare_positive : (u n : ℕ) → (u ≡ 0 → ⊥) → spare u n ≡ suc n
spare_positive zero n h = absurd (h refl)
spare_positive (suc u) n h = refl

spare_none : (u n : ℕ) → u ≡ 0 → spare u n ≡ 0
spare_none u n e = ap (λ v. spare v n) e

AllBelow : ℕ → ℕ → List PartialReading → Type 0
AllBelow q n ys = (y : PartialReading) → In y ys → rank q y < n

below_one : (q n : ℕ) (x : PartialReading) → rank q x < n → AllBelow q n (x ∷ [])
unfolding AllBelow
below_one q n x a y (inl e) = subst (λ v. rank q v < n) (sym e) a
below_one q n x a y (inr h) = absurd h

below_two : (q n : ℕ) (x z : PartialReading) → rank q x < n → rank q z < n → AllBelow q n (x ∷ z ∷ [])
unfolding AllBelow
below_two q n x z a b y (inl e) = subst (λ v. rank q v < n) (sym e) a
below_two q n x z a b y (inr h) = below_one q n z b y h

below_empty : (q n : ℕ) (w : Option Item) (rest : Ops) (is : Items) (up : List Frame)
    → ops_size rest + frames_rank q (frames_of up) < n → AllBelow q n (empty_item w rest is up)
unfolding AllBelow
below_empty q n None rest is up a = λ y h. absurd h
below_empty q n (Some x) rest is up a = go (item_width x)
  where
    go : (m : ℕ) → AllBelow q n (if_none m (partial rest (item is x) up))
    go zero = below_one q n (partial rest (item is x) up) a
    go (suc m) = λ y h. absurd h

below_skip : (q n : ℕ) (k : RepeatKind) (x z : PartialReading) → rank q x < n → rank q z < n
    → AllBelow q n (x ∷ skip_of k z)
below_skip q n ZeroOrMore x z a b = below_two q n x z a b
below_skip q n OneOrMore x z a b = below_one q n x a
below_skip q n ZeroOrOne x z a b = below_two q n x z a b

below_again : (q n : ℕ) (s : Option Separator) (k : RepeatKind) (x z : PartialReading) → (s ≡ None → rank q x < n)
    → rank q z < n → AllBelow q n (another_round s k x ++ (z ∷ []))
below_again q n (Some c) k x z a b = below_one q n z b
below_again q n None ZeroOrMore x z a b = below_two q n x z (a refl) b
below_again q n None OneOrMore x z a b = below_two q n x z (a refl) b
below_again q n None ZeroOrOne x z a b = below_one q n z b

epsilon_below : (i : Input) (pat : Ops) (q : ℕ) (x : PartialReading) → {len : ℕ} → Lawful i len → Checked pat
    → EndsAt i pat q x
    → AllBelow q (rank q x) (epsilons i q x)
unfolding AllBelow
epsilon_below i pat q (partial no_ops is []) w c h = λ y m. absurd m
epsilon_below i pat q (partial no_ops is (inside d b rest js ∷ up)) w c h = λ y m. absurd m
epsilon_below i pat q (partial no_ops is (within b s k rest js rs ∷ up)) w c h =
    below_again q _ s k _ _
    (λ e.
    let read : items_width is ≡ 0 → ⊥ = λ z.
    let t : is_nullable b ≡ true = null_first is i b (start_of up + items_width js + rounds_width rs) no_ops w h.0.1 z
    refl in
    let f : is_nullable b ≡ false = checked_frame i pat b s k rest js rs up h.0.0 c e in
    let g : true ≡ false = sym t ∙ f in
    cc in
    let p : start_of up + items_width js + rounds_width rs + items_width is ≡ q = h.1 in
    let old : spare (q - (start_of up + items_width js + rounds_width rs)) (ops_size b) ≡ suc (ops_size b) =
    spare_positive (q - (start_of up + items_width js + rounds_width rs)) (ops_size b) (λ z. read (omega arith)) in
    let new : spare (q - (start_of up + items_width js + (rounds_width rs + items_width is + 0))) (ops_size b) ≡ 0 =
    spare_none (q - (start_of up + items_width js + (rounds_width rs + items_width is + 0))) (ops_size b)
    (omega arith) in
    omega arith)
    (omega arith)
epsilon_below i pat q (partial (op (token t) rest) is up) w c h =
    below_empty q _ (matched_item (i.token_at t q)) rest is up (omega arith)
epsilon_below i pat q (partial (op (variable name kind span) rest) is up) w c h =
    below_empty q _ (bound_item name (i.fragment_at kind q)) rest is up (omega arith)
epsilon_below i pat q (partial (op (expression e) rest) is up) w c h = λ y m. absurd m
epsilon_below i pat q (partial (op (group d b) rest) is up) w c h = λ y m. absurd m
epsilon_below i pat q (partial (op (repetition b s k) rest) is up) w c h =
    let p : start_of up + items_width is ≡ q = h.1 in
    let new : spare (q - (start_of up + items_width is + 0)) (ops_size b) ≡ 0 =
    spare_none (q - (start_of up + items_width is + 0)) (ops_size b) (omega arith) in
    below_skip q _ k _ _ (omega arith) (omega arith)

pub idle-falls : (i : Input) (pat : Ops) (q : ℕ) → {len : ℕ} → Lawful i len → Checked pat → (x y : PartialReading)
    → EndsAt i pat q x → In y (epsilons i q x) → EndsAt i pat q y × (rank q y < rank q x)
unfolding AllBelow
idle-falls i pat q w c x y h m = (idle-sound i pat q x h y m, epsilon_below i pat q x w c h y m)

-- what is held from one position, by one step
pub whole-step : (i : Input) (pat : Ops) (q : ℕ) → {len : ℕ} → Lawful i len → Checked pat → (x : PartialReading)
    → EndsAt i pat q x → whole i q x ≡ x ∷ closure i q (epsilons i q x)
unfolding tree
whole-step i pat q w c x h = ap (λ v. x ∷ v) (same (epsilons i q x) (λ y m. idle-falls i pat q w c x y h m))
  where
    same : (ys : List PartialReading) → ((y : PartialReading) → In y ys → EndsAt i pat q y × (rank q y < rank q x))
        → flat_map (tree (epsilons i q) (rank q x)) ys ≡ closure i q ys
    same [] f = refl
    same (y ∷ ys) f =
        let e : tree (epsilons i q) (rank q x) y ≡ whole i q y =
        tree-steady (epsilons i q) (EndsAt i pat q) (rank q) (idle-falls i pat q w c) (rank q x) (suc (rank q y)) y
        (f y (inl refl)).0 (f y (inl refl)).1 (omega arith) in
        rw (e, same ys (λ z m. f z (inr m))) refl
