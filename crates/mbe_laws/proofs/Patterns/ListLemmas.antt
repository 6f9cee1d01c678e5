-- A pattern that is one repetition: inside it, beginnings follow one another in one row.
use Rattle.std.proofs.Common.{ℕ, zero, suc, ◌+◌, ◌≡◌, ◌⊎◌, ◌<◌, ◌≤◌, inl, inr, Option, Some, None, Bool, true, false}
use Rattle.std.proofs.Common.{List, [], ◌∷◌, ◌++◌, refl, sym, ◌∙◌, ap, subst, arith}
use Rattle.std.specs.Prelude.{IsTrue}
use Rattle.std.proofs.lemmas.Option.{none-some}
use Rattle.mbe_semantics.specs.declared.fragment_kinds.RepeatKind.{RepeatKind}
use Rattle.mbe_semantics.specs.declared.fragment_kinds.RepeatKind.TheVariants.{ZeroOrMore, OneOrMore, ZeroOrOne}
use Rattle.mbe_tt.specs.Trees.Tree.{Forest, rest_at}
use Rattle.mbe_tt.specs.Grammars.Grammar.{Grammar}
use Rattle.mbe_tt.proofs.Offsets.CutLemmas.{no_true}
use Rattle.mbe_semantics.specs.Readings.Fit.{separator_front_in}
use Rattle.mbe_semantics.specs.Syntax.Op.{Separator, Op, token, group, variable, repetition, expression, Ops, no_ops}
use Rattle.mbe_semantics.specs.Syntax.Op.{op, has_no_repetition, names_of}
use Rattle.mbe_semantics.specs.Readings.Item.{Item, matched, bound, grouped, skipped, rounds, Items, no_items, item}
use Rattle.mbe_semantics.specs.Readings.Item.{Rounds, no_rounds, round, item_width, items_width, rounds_width}
use Rattle.mbe_semantics.specs.Readings.Input.{Input, input_of}
use Rattle.mbe_semantics.specs.Readings.Reading.{ReadsFirst, Frame, inside, within, PartialReading, partial, body_of}
use Rattle.mbe_semantics.specs.Readings.Reading.{start_of, offset, AreOpen, IsPartialReading, EndsAt, start, Reads}
use Rattle.mbe_semantics.specs.Readings.Reading.{ReadsRounds}
use Rattle.mbe_semantics.specs.Readings.Steps.{matched_item, bound_item, skip_of, another_round, if_none, empty_item}
use Rattle.mbe_semantics.specs.Readings.Steps.{epsilons, Move, move, if_some, over_of, when, round_move, separator_move}
use Rattle.mbe_semantics.specs.Readings.Steps.{next}
use Rattle.mbe_semantics.specs.Matching.Lists.{In}
use Rattle.mbe_semantics.specs.Matching.Trace.{trace, steps}
use Rattle.mbe_semantics.specs.Readings.Ambiguity.{Ambiguous, StepsOver}
use Rattle.mbe_semantics.specs.Laws.Laws.{one_repetition, ListsFitOnce}
use Rattle.mbe_semantics.proofs.Parents.{From, parents}
use Rattle.mbe_semantics.proofs.PlainLemmas.{plain_op, empty_same, empty_over, Steps, steps_one, same_move}
use Rattle.mbe_semantics.proofs.MoveLemmas.{separator_moves_in}
use Rattle.mbe_semantics.proofs.InputLemmas.{length_from}

abbrev op_count : Ops → ℕ
op_count no_ops = 0
op_count (op o os) = suc (op_count os)

fewer : (is : Items) (i : Input) (os : Ops) (p : ℕ) (rest : Ops) → ReadsFirst is i os p rest
    → op_count rest ≤ op_count os
fewer no_items i os p rest h = subst (λ v. op_count v ≤ op_count os) h (omega arith)
fewer (item is x) i os p rest h = let k : suc (op_count rest) ≤ op_count os =
    fewer is i os p (op h.0 rest) h.1 in omega (arith, k)

abbrev is_repetition : Ops → Bool
is_repetition (op (repetition b s k) rest) = true
is_repetition _ = false

-- it is inside the repetition
abbrev Main : PartialReading → Type 0
Main (partial rest is []) = ⊥
Main (partial rest is (f ∷ up)) = Unit {0}

-- the number of complete rounds
abbrev round_number : Rounds → ℕ
round_number no_rounds = 0
round_number (round rs is w) = suc (round_number rs)

abbrev outer : List Frame → ℕ
outer [] = 0
outer (inside d b rest js ∷ []) = 0
outer (within b s k rest js rs ∷ []) = round_number rs
outer (inside d b rest js ∷ g ∷ up) = outer (g ∷ up)
outer (within b s k rest js rs ∷ g ∷ up) = outer (g ∷ up)

abbrev count : PartialReading → ℕ
count (partial rest is up) = outer up

again_only : (s : Option Separator) (k : RepeatKind) (u : PartialReading) (rest : Ops) (is : Items) (y : PartialReading)
    → In y (another_round s k u ++ (partial rest is [] ∷ [])) → Main y → y ≡ u
again_only (Some c) k u rest is y (inl e) m = absurd (subst (λ v. Main v) e m)
again_only (Some c) k u rest is y (inr e) m = absurd e
again_only None ZeroOrOne u rest is y (inl e) m = absurd (subst (λ v. Main v) e m)
again_only None ZeroOrOne u rest is y (inr e) m = absurd e
again_only None ZeroOrMore u rest is y (inl e) m = e
again_only None ZeroOrMore u rest is y (inr (inl e)) m = absurd (subst (λ v. Main v) e m)
again_only None ZeroOrMore u rest is y (inr (inr e)) m = absurd e
again_only None OneOrMore u rest is y (inl e) m = e
again_only None OneOrMore u rest is y (inr (inl e)) m = absurd (subst (λ v. Main v) e m)
again_only None OneOrMore u rest is y (inr (inr e)) m = absurd e

enter_only : (k : RepeatKind) (u : PartialReading) (rest : Ops) (is : Items) (y : PartialReading)
    → In y (u ∷ skip_of k (partial rest is [])) → Main y → y ≡ u
enter_only k u rest is y (inl e) m = e
enter_only ZeroOrMore u rest is y (inr (inl e)) m = absurd (subst (λ v. Main v) e m)
enter_only ZeroOrMore u rest is y (inr (inr e)) m = absurd e
enter_only OneOrMore u rest is y (inr e) m = absurd e
enter_only ZeroOrOne u rest is y (inr (inl e)) m = absurd (subst (λ v. Main v) e m)
enter_only ZeroOrOne u rest is y (inr (inr e)) m = absurd e

again_move : {A : Type 0} (i : Input) (q : ℕ) (s : Option Separator) (k : RepeatKind) (u : PartialReading) (rest : Ops)
    (is : Items) (y : PartialReading) (b : Ops) (js last : Items) (rs : Rounds) (mv : Move) →
    In y (another_round s k u ++ (partial rest is [] ∷ [])) → Main y → separator_move i q s k b rest js rs [] last
    ≡ Some mv → A
again_move i q None k u rest is y b js last rs mv a m e = absurd (none-some mv e)
again_move i q (Some c) k u rest is y b js last rs mv (inl a) m e = absurd (subst (λ v. Main v) a m)
again_move i q (Some c) k u rest is y b js last rs mv (inr a) m e = absurd a

empty_up : (w : Option Item) (rest : Ops) (is : Items) (up : List Frame) (y : PartialReading)
    → In y (empty_item w rest is up)
    → count y ≡ outer up
empty_up None rest is up y a = absurd a
empty_up (Some x) rest is up y a = go (item_width x) a
  where
    go : (n : ℕ) → In y (if_none n (partial rest (item is x) up)) → count y ≡ outer up
    go zero (inl e) = ap (λ v. count v) e
    go zero (inr e) = absurd e
    go (suc n) e = absurd e

-- a step over tokens takes some, and loses no round
Fine : ℕ → Option Move → Type 0
Fine c None = Unit {0}
Fine c (Some (move n f y)) = (0 < n) × (c ≤ count y)

when_fine : (c : ℕ) (b : Bool) (y : PartialReading) → c ≤ count y → Fine c (when b (move 1 false y))
unfolding Fine
when_fine c true y h = (omega arith, h)
when_fine c false y h = tt

over_fine : (f : Bool) (w : Option Item) (rest : Ops) (is : Items) (up : List Frame)
    → Fine (outer up) (over_of f w rest is up)
unfolding Fine
over_fine f None rest is up = tt
over_fine f (Some x) rest is up = go (item_width x)
  where
    go : (n : ℕ) → Fine (outer up) (if_some f n (partial rest (item is x) up))
    go zero = tt
    go (suc n) = (omega arith, omega arith)

round_fine : (k : RepeatKind) (w : Option ℕ) (b : Ops) (s : Option Separator) (rest : Ops) (js : Items) (rs : Rounds)
    (is : Items) →
    ((n : ℕ) → w ≡ Some n → 0 < n) → Fine (round_number rs) (round_move k w b s rest js rs [] is)
unfolding Fine
round_fine k None b s rest js rs is h = tt
round_fine ZeroOrMore (Some n) b s rest js rs is h = (h n refl, omega arith)
round_fine OneOrMore (Some n) b s rest js rs is h = (h n refl, omega arith)
round_fine ZeroOrOne (Some n) b s rest js rs is h = tt

fine_move : (c : ℕ) (m : Option Move) (n : ℕ) (f : Bool) (y : PartialReading) → m ≡ Some (move n f y) → Fine c m
    → (0 < n) × (c ≤ count y)
unfolding Fine
fine_move c m n f y e h = let P : Option Move → Type 0 = λ v. Fine c v in subst P e h

-- so many rounds are complete after the step
Counted : ℕ → Option Move → Type 0
Counted c None = Unit {0}
Counted c (Some (move n f y)) = count y ≡ c

separator_counted : (i : Input) (q : ℕ) (s : Option Separator) (k : RepeatKind) (b rest : Ops) (js : Items)
    (rs : Rounds) (is : Items) →
    Counted (suc (round_number rs)) (separator_move i q s k b rest js rs [] is)
unfolding Counted
separator_counted i q None k b rest js rs is = tt
separator_counted i q (Some c) k b rest js rs is = go k (i.separator_at c q)
  where
    go : (k' : RepeatKind) (w : Option ℕ)
        → Counted (suc (round_number rs)) (round_move k' w b (Some c) rest js rs [] is)
    go ZeroOrMore None = tt
    go OneOrMore None = tt
    go ZeroOrOne None = tt
    go ZeroOrMore (Some n) = refl
    go OneOrMore (Some n) = refl
    go ZeroOrOne (Some n) = tt

counted_move : (c : ℕ) (m : Option Move) (n : ℕ) (f : Bool) (y : PartialReading) → m ≡ Some (move n f y) → Counted c m
    → count y ≡ c
unfolding Counted
counted_move c m n f y e h = let P : Option Move → Type 0 = λ v. Counted c v in subst P e h

-- the rounds of a beginning whose open item is a repetition
abbrev rounds_here : PartialReading → Item
rounds_here (partial rest is (within b s k after js rs ∷ up)) = rounds rs is
rounds_here _ = matched 0

same_body : (body b : Ops) (s s' : Option Separator) (k k' : RepeatKind) (rest : Ops)
    → op (repetition body s k) no_ops ≡ op (repetition b s' k') rest → body ≡ b
same_body body b s s' k k' rest e = cc

three : (a b : ℕ) → (a ≡ b) ⊎ ((a < b) ⊎ (b < a))
three a b = grind arith

module _ (i : Input) (body : Ops) (s : Option Separator) (k : RepeatKind) (plain : IsTrue (has_no_repetition body))
    (some : (c : Separator) (p w : ℕ) → i.separator_at c p ≡ Some w → 0 < w) where
  abbrev pat : Ops
  pat = one_repetition body s k

  none_before : (is : Items) (p : ℕ) (o : Op) (rest : Ops) → ReadsFirst is i pat p (op o rest)
      → (is ≡ no_items) × (pat ≡ op o rest)
  none_before no_items p o rest h = (refl, h)
  none_before (item is x) p o rest h = let e : suc (suc (op_count rest)) ≤ 1 =
      fewer is i pat p (op h.0 (op o rest)) h.1 in absurd (omega (arith, e))

  no_outer_group : {A : Type 0} (d : _) (b rest : Ops) (js : Items) → AreOpen i pat (inside d b rest js ∷ []) → A
  no_outer_group d b rest js h = no_true (sym (ap is_repetition (none_before js 0 (group d b) rest h.1).1))

  plain_inside : (up : List Frame) (f : Frame) → AreOpen i pat (f ∷ up)
      → IsTrue (has_no_repetition (body_of pat (f ∷ up)))
  plain_inside [] (inside d b rest js) h = no_outer_group d b rest js h
  plain_inside [] (within b s' k' rest js rs) h =
      subst (λ v. IsTrue (has_no_repetition v))
      (same_body body b s s' k k' rest (none_before js 0 (repetition b s' k') rest h.1).1) plain
  plain_inside (g ∷ up) (inside d b rest js) h =
      plain_op js i (body_of pat (g ∷ up)) (start_of (g ∷ up)) (group d b) rest h.1 (plain_inside up g h.0)
  plain_inside (g ∷ up) (within b s' k' rest js rs) h =
      no_true (plain_op js i (body_of pat (g ∷ up)) (start_of (g ∷ up)) (repetition b s' k') rest h.1
      (plain_inside up g h.0))

  no_deep : {A : Type 0} (b : Ops) (s' : Option Separator) (k' : RepeatKind) (rest : Ops) (js : Items) (rs : Rounds)
      (g : Frame) (up : List Frame) → AreOpen i pat (within b s' k' rest js rs ∷ g ∷ up) → A
  no_deep b s' k' rest js rs g up h = no_true
      (plain_op js i (body_of pat (g ∷ up)) (start_of (g ∷ up)) (repetition b s' k') rest h.1 (plain_inside up g h.0))

  no_inner : {A : Type 0} (b : Ops) (s' : Option Separator) (k' : RepeatKind) (rest : Ops) (is : Items) (f : Frame)
      (up : List Frame) → IsPartialReading i pat (partial (op (repetition b s' k') rest) is (f ∷ up)) → A
  no_inner b s' k' rest is f up h = no_true
      (plain_op is i (body_of pat (f ∷ up)) (start_of (f ∷ up)) (repetition b s' k') rest h.1 (plain_inside up f h.0))

  epsilon_once : (q : ℕ) (x y z : PartialReading) → IsPartialReading i pat x → Main x → In y (epsilons i q x) → Main y
      → In z (epsilons i q x)
      → Main z → y ≡ z
  epsilon_once q (partial rest is []) y z h m a c b d = absurd m
  epsilon_once q (partial no_ops is (inside _ b' rest js ∷ up)) y z h m a c b d = absurd a
  epsilon_once q (partial no_ops is (within b' s' k' rest js rs ∷ [])) y z h m a c b d =
      again_only s' k' _ rest _ y a c ∙ sym (again_only s' k' _ rest _ z b d)
  epsilon_once q (partial no_ops is (within b' s' k' rest js rs ∷ g ∷ up)) y z h m a c b d =
      no_deep b' s' k' rest js rs g up h.0
  epsilon_once q (partial (op (token t) rest) is (f ∷ up)) y z h m a c b d =
      empty_same (matched_item (i.token_at t q)) rest is (f ∷ up) y z a b
  epsilon_once q (partial (op (variable name kind span) rest) is (f ∷ up)) y z h m a c b d =
      empty_same (bound_item name (i.fragment_at kind q)) rest is (f ∷ up) y z a b
  epsilon_once q (partial (op (group _ b') rest) is (f ∷ up)) y z h m a c b d = absurd a
  epsilon_once q (partial (op (repetition b' s' k') rest) is (f ∷ up)) y z h m a c b d =
      no_inner b' s' k' rest is f up h
  epsilon_once q (partial (op (expression e) rest) is (f ∷ up)) y z h m a c b d = absurd a

  epsilon_or_next : {A : Type 0} (q : ℕ) (x y : PartialReading) (mv : Move) → IsPartialReading i pat x → Main x
      → In y (epsilons i q x)
      → Main y → next i q x ≡ Some mv → A
  epsilon_or_next q (partial rest is []) y mv h m a c e = absurd m
  epsilon_or_next q (partial no_ops is (inside _ b' rest js ∷ up)) y mv h m a c e = absurd a
  epsilon_or_next q (partial no_ops is (within b' s' k' rest js rs ∷ [])) y mv h m a c e =
      again_move i q s' k' _ rest _ y b' js is rs mv a c e
  epsilon_or_next q (partial no_ops is (within b' s' k' rest js rs ∷ g ∷ up)) y mv h m a c e =
      no_deep b' s' k' rest js rs g up h.0
  epsilon_or_next q (partial (op (token t) rest) is (f ∷ up)) y mv h m a c e =
      empty_over false (matched_item (i.token_at t q)) rest is (f ∷ up) y mv a e
  epsilon_or_next q (partial (op (variable name kind span) rest) is (f ∷ up)) y mv h m a c e =
      empty_over true (bound_item name (i.fragment_at kind q)) rest is (f ∷ up) y mv a e
  epsilon_or_next q (partial (op (group _ b') rest) is (f ∷ up)) y mv h m a c e = absurd a
  epsilon_or_next q (partial (op (repetition b' s' k') rest) is (f ∷ up)) y mv h m a c e =
      no_inner b' s' k' rest is f up h
  epsilon_or_next q (partial (op (expression _) rest) is (f ∷ up)) y mv h m a c e = absurd a

  separator_fine : (q : ℕ) (s' : Option Separator) (k' : RepeatKind) (b rest : Ops) (js : Items) (rs : Rounds)
      (is : Items) → Fine (round_number rs) (separator_move i q s' k' b rest js rs [] is)
  unfolding Fine
  separator_fine q None k' b rest js rs is = tt
  separator_fine q (Some c) k' b rest js rs is =
      round_fine k' (i.separator_at c q) b (Some c) rest js rs is (λ n e. some c q n e)

  next_fine : (q : ℕ) (x : PartialReading) → IsPartialReading i pat x → Main x → Fine (count x) (next i q x)
  unfolding Fine
  next_fine q (partial rest is []) h m = absurd m
  next_fine q (partial no_ops is (inside d b rest js ∷ [])) h m = no_outer_group d b rest js h.0
  next_fine q (partial no_ops is (inside d b rest js ∷ g ∷ up)) h m =
      when_fine (outer (g ∷ up)) (i.closes_at q) _ (omega arith)
  next_fine q (partial no_ops is (within b s' k' rest js rs ∷ [])) h m = separator_fine q s' k' b rest js rs is
  next_fine q (partial no_ops is (within b s' k' rest js rs ∷ g ∷ up)) h m = no_deep b s' k' rest js rs g up h.0
  next_fine q (partial (op (token t) rest) is (f ∷ up)) h m =
      over_fine false (matched_item (i.token_at t q)) rest is (f ∷ up)
  next_fine q (partial (op (variable name kind span) rest) is (f ∷ up)) h m =
      over_fine true (bound_item name (i.fragment_at kind q)) rest is (f ∷ up)
  next_fine q (partial (op (group d b) rest) is (f ∷ up)) h m =
      when_fine (outer (f ∷ up)) (i.opens_at d.kind q) _ (omega arith)
  next_fine q (partial (op (repetition b s' k') rest) is (f ∷ up)) h m = tt
  next_fine q (partial (op (expression e) rest) is (f ∷ up)) h m = tt

  again_count : (s' : Option Separator) (k' : RepeatKind) (b rest : Ops) (js is last : Items) (rs : Rounds)
      (y : PartialReading) →
      In y (another_round s' k' (partial b no_items (within b s' k' rest js (round rs last 0) ∷ []))
      ++ (partial rest is [] ∷ []))
      → Main y → round_number rs ≤ count y
  again_count s' k' b rest js is last rs y a m =
      let e : count y ≡ suc (round_number rs) =
      ap (λ v. count v) (again_only s' k' (partial b no_items (within b s' k' rest js (round rs last 0) ∷ [])) rest is y
      a m) in
      omega (arith, e)

  epsilon_count : (q : ℕ) (x y : PartialReading) → IsPartialReading i pat x → Main x → In y (epsilons i q x) → Main y
      → count x ≤ count y
  epsilon_count q (partial rest is []) y h m a c = absurd m
  epsilon_count q (partial no_ops is (inside _ b' rest js ∷ up)) y h m a c = absurd a
  epsilon_count q (partial no_ops is (within b' s' k' rest js rs ∷ [])) y h m a c =
      again_count s' k' b' rest js _ is rs y a c
  epsilon_count q (partial no_ops is (within b' s' k' rest js rs ∷ g ∷ up)) y h m a c =
      no_deep b' s' k' rest js rs g up h.0
  epsilon_count q (partial (op (token t) rest) is (f ∷ up)) y h m a c = let e =
      empty_up (matched_item (i.token_at t q)) rest is (f ∷ up) y a in omega (arith, e)
  epsilon_count q (partial (op (variable name kind span) rest) is (f ∷ up)) y h m a c = let e =
      empty_up (bound_item name (i.fragment_at kind q)) rest is (f ∷ up) y a in omega (arith, e)
  epsilon_count q (partial (op (group _ b') rest) is (f ∷ up)) y h m a c = absurd a
  epsilon_count q (partial (op (repetition b' s' k') rest) is (f ∷ up)) y h m a c = no_inner b' s' k' rest is f up h
  epsilon_count q (partial (op (expression e) rest) is (f ∷ up)) y h m a c = absurd a

  abbrev entered : PartialReading
  entered = partial body no_items (within body s k no_ops no_items no_rounds ∷ [])

  start_step : (y : PartialReading) → Steps i (start pat) y → Main y → y ≡ entered
  start_step y (inl a) m = enter_only k entered no_ops (item no_items (skipped (names_of body))) y a.0 m
  start_step y (inr a) m = absurd (none-some (move a.0 a.1 y) a.2)

  from_root : (x y : PartialReading) → IsPartialReading i pat x → Steps i x y → Main y → Main x ⊎ (y ≡ entered)
  from_root (partial rest is (f ∷ up)) y h t m = inl tt
  from_root (partial no_ops is []) y h (inl a) m = absurd a.0
  from_root (partial no_ops is []) y h (inr a) m = absurd (none-some (move a.0 a.1 y) a.2)
  from_root (partial (op o rest) is []) y h t m =
      let e = none_before is 0 o rest h.1 in
      inr (start_step y (subst (λ v. Steps i v y) (ap (λ v. partial v is []) (sym e.1)
      ∙ ap (λ v. partial pat v []) e.0) t) m)

  abbrev Parent : PartialReading → Type 0
  Parent y = (y ≡ entered) ⊎ ((x : PartialReading) × IsPartialReading i pat x × Main x × Steps i x y)

  main_parent : (y : PartialReading) → IsPartialReading i pat y → Main y → Parent y
  main_parent y h m = turn (parents i pat y h)
    where
      turn : (y ≡ start pat) ⊎ From i pat y → Parent y
      turn (inl e) = absurd (subst (λ v. Main v) e m)
      turn (inr (x, g, t)) = go (from_root x y g t m)
        where
          go : Main x ⊎ (y ≡ entered) → Parent y
          go (inl n) = inr (x, g, n, t)
          go (inr e) = inl e

  entered_steps : (y : PartialReading) → y ≡ entered → steps (trace y) ≡ 1
  entered_steps y e = ap (λ v. steps (trace v)) e

  main_some : (y : PartialReading) → IsPartialReading i pat y → Main y → 0 < steps (trace y)
  main_some y h m = turn (main_parent y h m)
    where
      turn : Parent y → 0 < steps (trace y)
      turn (inl e) = let u = entered_steps y e in omega (arith, u)
      turn (inr (x, g, n, t)) = let u = steps_one i x y t in omega (arith, u)

  one_step : (x y z : PartialReading) → IsPartialReading i pat x → Main x → Steps i x y → Main y → Steps i x z → Main z
      → y ≡ z
  one_step x y z h m (inl a) c (inl b) d = epsilon_once (offset x) x y z h m a.0 c b.0 d
  one_step x y z h m (inl a) c (inr b) d = epsilon_or_next (offset x) x y (move b.0 b.1 z) h m a.0 c b.2
  one_step x y z h m (inr a) c (inl b) d = epsilon_or_next (offset x) x z (move a.0 a.1 y) h m b.0 d a.2
  one_step x y z h m (inr a) c (inr b) d = same_move a.0 b.0 a.1 b.1 y z (sym a.2 ∙ b.2)

  unique : (n : ℕ) (y z : PartialReading) → IsPartialReading i pat y → Main y → IsPartialReading i pat z → Main z
      → steps (trace y) ≡ n
      → steps (trace z) ≡ n → y ≡ z
  unique zero y z a c b d e f = let u = main_some y a c in absurd (omega (arith, u, e))
  unique (suc n) y z a c b d e f = turn (λ u v g m h l p q. unique n u v g m h l p q) (main_parent y a c)
      (main_parent z b d)
    where
      turn : ((u v : PartialReading) → IsPartialReading i pat u → Main u → IsPartialReading i pat v → Main v
          → steps (trace u) ≡ n
          → steps (trace v) ≡ n → u ≡ v) → Parent y → Parent z → y ≡ z
      turn ih (inl u) (inl v) = u ∙ sym v
      turn ih (inl u) (inr (x, h, m, t)) =
          let p = entered_steps y u in let r = main_some x h m in let w =
          steps_one i x z t in absurd (omega (arith, p, r, w, e, f))
      turn ih (inr (x, h, m, t)) (inl u) =
          let p = entered_steps z u in let r = main_some x h m in let w =
          steps_one i x y t in absurd (omega (arith, p, r, w, e, f))
      turn ih (inr (x, h, m, t)) (inr (w, g, l, v)) =
          let p = steps_one i x y t in
          let r = steps_one i w z v in
          let o : x ≡ w = ih x w h m g l (omega (arith, p, e)) (omega (arith, r, f)) in
          one_step w y z g l (subst (λ r. Steps i r y) o t) c v d

  no_back : (x y : PartialReading) → Steps i x y → IsPartialReading i pat x → Main x → Main y
      → (offset x ≤ offset y) × (count x ≤ count y)
  no_back x y (inl a) h m c = let e : offset y ≡ offset x =
      a.1 in (omega (arith, e), epsilon_count (offset x) x y h m a.0 c)
  no_back x y (inr a) h m c =
      let e : offset y ≡ offset x + a.0 = a.3 in
      (omega (arith, e), (fine_move (count x) (next i (offset x) x) a.0 a.1 y a.2 (next_fine (offset x) x h m)).1)

  abbrev Later : PartialReading → PartialReading → Type 0
  Later x y = (z : PartialReading) × Steps i x z × Main z × (offset z ≤ offset y) × (count z ≤ count y)

  -- after more steps, the step from x was one of them
  later : (n : ℕ) (x y : PartialReading) → IsPartialReading i pat x → Main x → IsPartialReading i pat y → Main y
      → steps (trace y) ≡ n
      → steps (trace x) < n → Later x y
  later zero x y a c b d e l = absurd (omega (arith, l))
  later (suc n) x y a c b d e l = turn (λ v g m o r. later n x v a c g m o r) (main_parent y b d)
    where
      split : (m : ℕ) → m < suc n → (m ≡ n) ⊎ (m < n)
      split m j = grind (arith, j)

      turn : ((v : PartialReading) → IsPartialReading i pat v → Main v → steps (trace v) ≡ n → steps (trace x) < n
          → Later x v)
          → Parent y → Later x y
      turn ih (inl u) = let p = entered_steps y u in let r = main_some x a c in absurd (omega (arith, p, r, e, l))
      turn ih (inr (p, h, m, u)) = go (split (steps (trace x)) l)
        where
          t : steps (trace p) ≡ n
          t = let r = steps_one i p y u in omega (arith, r, e)

          go : (steps (trace x) ≡ n) ⊎ (steps (trace x) < n) → Later x y
          go (inl j) = (y, subst (λ r. Steps i r y) (sym (unique n x p a c h m j t)) u, d, omega arith, omega arith)
          go (inr j) =
              let r : Later x p = ih p h m t j in
              let o = no_back p y u h m d in
              let r3 = r.3 in
              let r4 = r.4 in
              let o0 = o.0 in
              let o1 = o.1 in
              (r.0, r.1, r.2, omega (arith, r3, o0), omega (arith, r4, o1))

  past : {A : Type 0} (q n : ℕ) (f : Bool) (x y : PartialReading) → EndsAt i pat q x → Main x → EndsAt i pat q y
      → Main y
      → StepsOver i q n f x → steps (trace x) < steps (trace y) → A
  past {A} q n f x y a c b d g l = turn (later (steps (trace y)) x y a.0 c b.0 d refl l)
    where
      here : next i (offset x) x ≡ Some (move n f g.0)
      here = subst (λ p. next i p x ≡ Some (move n f g.0)) (sym a.1) g.1

      turn : Later x y → A
      turn (z, inl t, m, o, r) = epsilon_or_next (offset x) x z (move n f g.0) a.0 c t.0 m here
      turn (z, inr t, m, o, r) =
          let e : offset z ≡ offset x + t.0 = t.3 in
          let j : 0 < t.0 =
          (fine_move (count x) (next i (offset x) x) t.0 t.1 z t.2 (next_fine (offset x) x a.0 c)).0 in
          let u : offset x ≡ q = a.1 in
          let v : offset y ≡ q = b.1 in
          absurd (omega (arith, e, j, u, v, o))

  -- what goes on is inside the repetition
  goes_inside : (q n : ℕ) (f : Bool) (x : PartialReading) → IsPartialReading i pat x → StepsOver i q n f x → Main x
  goes_inside q n f (partial rest is (g ∷ up)) h e = tt
  goes_inside q n f (partial no_ops is []) h e = absurd (none-some (move n f e.0) e.1)
  goes_inside q n f (partial (op o rest) is []) h e =
      let c = none_before is 0 o rest h.1 in
      absurd (none-some (move n f e.0) (subst (λ v. next i q v ≡ Some (move n f e.0))
      (ap (λ v. partial v is []) (sym c.1) ∙ ap (λ v. partial pat v []) c.0) e.1))

  pub lists_clear : (q : ℕ) → Ambiguous i pat q → ⊥
  lists_clear q w = turn (three (steps (trace w.one)) (steps (trace w.other)))
    where
      c : Main w.one
      c = goes_inside q w.n w.f w.one w.one_at.0 w.one_steps

      d : Main w.other
      d = goes_inside q w.m w.g w.other w.other_at.0 w.other_steps

      turn : (steps (trace w.one) ≡ steps (trace w.other))
          ⊎ ((steps (trace w.one) < steps (trace w.other)) ⊎ (steps (trace w.other) < steps (trace w.one))) → ⊥
      turn (inl e) = w.differ (unique (steps (trace w.other)) w.one w.other w.one_at.0 c w.other_at.0 d e refl)
      turn (inr (inl l)) = past q w.n w.f w.one w.other w.one_at c w.other_at d w.one_steps l
      turn (inr (inr l)) = past q w.m w.g w.other w.one w.other_at d w.one_at c w.other_steps l

  -- ---- rounds to the end

  abbrev end_of : Rounds → Items → PartialReading
  end_of rs last = partial no_ops last (within body s k no_ops no_items rs ∷ [])

  abbrev begin_of : Rounds → PartialReading
  begin_of rs = partial body no_items (within body s k no_ops no_items rs ∷ [])

  -- the items are all rounds
  abbrev AreRounds : Item → Type 0
  AreRounds x = (rs : Rounds) × (last : Items) × (x ≡ rounds rs last) × ReadsRounds rs i body s k 0
      × ReadsFirst last i body (0 + rounds_width rs) no_ops

  item_shape : (x : Item) → Reads x i (repetition body s k) 0 → (x ≡ skipped (names_of body)) ⊎ AreRounds x
  item_shape (matched n) r = absurd r
  item_shape (bound name x) r = absurd r
  item_shape (grouped is) r = absurd r
  item_shape (skipped names) r = inl (ap skipped r.1)
  item_shape (rounds rs last) r = inr (rs, last, refl, r.0, r.1)

  same_op : (o : Op) → pat ≡ op o no_ops → repetition body s k ≡ o
  same_op o e = cc

  shape : (is : Items) → ReadsFirst is i pat 0 no_ops
      → (x : Item) × (is ≡ item no_items x) × ((x ≡ skipped (names_of body)) ⊎ AreRounds x)
  shape no_items h = no_true (sym (ap is_repetition h))
  shape (item is x) h =
      let e = none_before is 0 h.0 no_ops h.1 in
      let r : Reads x i h.0 0 = subst (λ v. Reads x i h.0 (0 + items_width v)) e.0 h.2 in
      (x, ap (λ v. item v x) e.0, item_shape x (subst (λ v. Reads x i v 0) (sym (same_op h.0 e.1)) r))

  end_step : (rs : Rounds) (last : Items) (z : PartialReading) → Steps i (end_of rs last) z → Main z
      → count z ≡ suc (round_number rs)
  end_step rs last z (inl a) m = ap (λ v. count v)
      (again_only s k (partial body no_items (within body s k no_ops no_items (round rs last 0) ∷ [])) no_ops
      (item no_items (rounds rs last)) z a.0 m)
  end_step rs last z (inr a) m = counted_move (suc (round_number rs)) _ a.0 a.1 z a.2
      (separator_counted i (offset (end_of rs last)) s k body no_ops no_items rs last)

  module _ (moves : (p : ℕ) (is : Items) → ReadsFirst is i body p no_ops → 0 < items_width is) where
    shorter : {A : Type 0} (rs qs : Rounds) (last final : Items) → IsPartialReading i pat (end_of rs last)
        → IsPartialReading i pat (end_of qs final) →
        offset (end_of rs last) ≡ offset (end_of qs final)
        → steps (trace (end_of rs last)) < steps (trace (end_of qs final)) → A
    shorter {A} rs qs last final a b e l = turn (three (steps (trace x)) (steps (trace y)))
      where
        x : PartialReading
        x = end_of rs last

        y : PartialReading
        y = begin_of qs

        c : IsPartialReading i pat (begin_of qs)
        c = (b.0, refl)

        wide : 0 < items_width final
        wide = moves (0 + rounds_width qs) final b.1

        below : offset (begin_of qs) < offset (end_of rs last)
        below = let w = wide in omega (arith, w, e)

        more : round_number rs < round_number qs
        more =
            let r : Later (end_of rs last) (end_of qs final) =
            later (steps (trace (end_of qs final))) (end_of rs last) (end_of qs final) a tt b tt refl l in
            let n = end_step rs last r.0 r.1 r.2 in
            let r4 = r.4 in
            omega (arith, n, r4)

        turn : (steps (trace x) ≡ steps (trace y))
            ⊎ ((steps (trace x) < steps (trace y)) ⊎ (steps (trace y) < steps (trace x))) → A
        turn (inl f) =
            let o : offset (end_of rs last) ≡ offset (begin_of qs) =
            ap (λ v. offset v) (unique (steps (trace (begin_of qs))) (end_of rs last) (begin_of qs) a tt c tt f
            refl) in
            let w = below in
            absurd (omega (arith, o, w))
        turn (inr (inl f)) =
            let r : Later (end_of rs last) (begin_of qs) =
            later (steps (trace (begin_of qs))) (end_of rs last) (begin_of qs) a tt c tt refl f in
            let o = (no_back (end_of rs last) r.0 r.1 a tt r.2).0 in
            let r3 = r.3 in
            let w = below in
            absurd (omega (arith, o, r3, w))
        turn (inr (inr f)) =
            let r : Later (begin_of qs) (end_of rs last) =
            later (steps (trace (end_of rs last))) (begin_of qs) (end_of rs last) c tt a tt refl f in
            let o = (no_back (begin_of qs) r.0 r.1 c tt r.2).1 in
            let r4 = r.4 in
            let w = more in
            absurd (omega (arith, o, r4, w))

    same_rounds : (rs qs : Rounds) (last final : Items) → IsPartialReading i pat (end_of rs last)
        → IsPartialReading i pat (end_of qs final)
        →
        offset (end_of rs last) ≡ offset (end_of qs final) → rounds rs last ≡ rounds qs final
    same_rounds rs qs last final a b e = turn (three (steps (trace (end_of rs last))) (steps (trace (end_of qs final))))
      where
        turn : (steps (trace (end_of rs last)) ≡ steps (trace (end_of qs final)))
            ⊎ ((steps (trace (end_of rs last)) < steps (trace (end_of qs final)))
            ⊎ (steps (trace (end_of qs final)) < steps (trace (end_of rs last)))) → rounds rs last ≡ rounds qs final
        turn (inl f) = ap rounds_here (unique (steps (trace (end_of qs final))) (end_of rs last) (end_of qs final) a tt
            b tt f refl)
        turn (inr (inl f)) = shorter rs qs last final a b e f
        turn (inr (inr f)) = shorter qs rs final last b a (sym e) f

    some_width : (x y : Item) → item_width x ≡ item_width y → x ≡ skipped (names_of body) → AreRounds y → ⊥
    some_width x y e a b =
        let w = moves (0 + rounds_width b.0) b.1 b.4 in
        let f : 0 ≡ rounds_width b.0 + items_width b.1 =
        sym (ap (λ v. item_width v) a) ∙ (e ∙ ap (λ v. item_width v) b.2) in
        omega (arith, w, f)

    same_item : (x y : Item) → item_width x ≡ item_width y → (x ≡ skipped (names_of body)) ⊎ AreRounds x
        → (y ≡ skipped (names_of body)) ⊎ AreRounds y → x ≡ y
    same_item x y e (inl a) (inl b) = a ∙ sym b
    same_item x y e (inl a) (inr b) = absurd (some_width x y e a b)
    same_item x y e (inr a) (inl b) = absurd (some_width y x (sym e) b a)
    same_item x y e (inr a) (inr b) =
        let f : item_width (rounds a.0 a.1) ≡ item_width (rounds b.0 b.1) =
        sym (ap (λ v. item_width v) a.2) ∙ (e ∙ ap (λ v. item_width v) b.2) in
        a.2 ∙ (same_rounds a.0 b.0 a.1 b.1 ((tt, refl, a.3), a.4) ((tt, refl, b.3), b.4) (omega (arith, f)) ∙ sym b.2)

    pub one_list : (is js : Items) → ReadsFirst is i pat 0 no_ops → ReadsFirst js i pat 0 no_ops
        → items_width is ≡ items_width js → is ≡ js
    one_list is js a b e =
        let x = shape is a in
        let y = shape js b in
        let d : 0 + item_width x.0 ≡ 0 + item_width y.0 =
        sym (ap (λ v. items_width v) x.1) ∙ (e ∙ ap (λ v. items_width v) y.1) in
        let f : item_width x.0 ≡ item_width y.0 = omega (arith, d) in
        x.1 ∙ (ap (λ v. item no_items v) (same_item x.0 y.0 f x.2 y.2) ∙ sym y.1)

separators_move : (g : Grammar) (argument : Forest) (c : Separator) (p w : ℕ)
    → (input_of g argument).separator_at c p ≡ Some w → 0 < w
separators_move g argument c p w e =
    let r = length_from (separator_front_in g.dialect c (rest_at argument p)) w e in
    let m = separator_moves_in g.dialect c (rest_at argument p) r.0 r.1 in
    let n = r.2 in
    omega (arith, m, n)

pub lists_fit_once : ListsFitOnce
lists_fit_once = record {
  unambiguous = λ g body s repeat argument q h w. lists_clear (input_of g argument) body s repeat h
      (separators_move g argument) q w;
  only = λ g body s repeat argument is others h m a b.
      one_list (input_of g argument) body s repeat h (separators_move g argument) m is others a.0 b.0 (a.1 ∙ sym b.1);
}
