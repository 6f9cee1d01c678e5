-- What is the same has one code, and lists that are the same are so one by one.
use Rattle.std.specs.Prelude.{◌≡◌, ◌++◌, map, take, ◌↔◌, ◌==◌, ◌+◌, ◌<◌, ◌≤◌, ◌&&◌, ℕ, zero, suc, Bool, true, false}
use Rattle.std.specs.Prelude.{nat_eq, length, get_or, drop, List, [], ◌∷◌, Option, Some, None, option_map, IsTrue, refl}
use Rattle.std.specs.Coded.{coded_option}
use Rattle.std.specs.Cmp.Lexicographic.{pointwise}
use Rattle.std.proofs.Common.{ap, sym, ◌∙◌, subst, true≢false, eq-eqb, arith}
use Rattle.std.proofs.lemmas.Option.{none-some, same_Some}
use Rattle.std.proofs.lemmas.Bool.{and_parts, ne_eqb}
use Rattle.std.proofs.lemmas.List.{drop_more, drop_all, take_more, map-append}
use base.Stored.{Gv, gnum, gcons}
use Rattle.mbe_tt.specs.Laws.CodeEquality.{same_is, is_same}
use Rattle.mbe_tt.specs.declared.span.Span.{Span}
use Rattle.mbe_tt.specs.contracts.tt.Delimiter as delimiter
use Rattle.mbe_semantics.specs.contracts.fragment_kinds.RepeatKind as repeat
use Rattle.mbe_semantics.specs.contracts.macro_call_style.MacroCallStyle as style
use Rattle.mbe_semantics.specs.declared.fragment_kinds.MetaVarKind.{MetaVarKind}
use Rattle.mbe_semantics.specs.declared.fragment_kinds.RepeatKind.{RepeatKind}
use Rattle.mbe_tt.specs.declared.tt.Delimiter.{Delimiter}
use Rattle.mbe_semantics.specs.Syntax.Op as ops
use Rattle.mbe_semantics.specs.Syntax.Op.{Name, Separator, Op, Ops, no_ops, op}
use Rattle.mbe_semantics.specs.Syntax.Definition.{Rule}
use Rattle.mbe_semantics.specs.Expansion.Macro.{Macro}
use Rattle.mbe_ops.specs.declared.ops.Op as code
use Rattle.mbe_ops.specs.declared.expression.ConcatMetaVarExprElem as part
use Rattle.mbe_ops.specs.Expressions.{element_seen, elements_seen, expression_code, element_code, element_eq}
use Rattle.mbe_ops.specs.Views.{op_of, ops_of}
use Rattle.mbe_ops.specs.Equality.{text_of, text_code, AreSameSeparators, IsSameOp, AreSameOps, AreSameRules}
use Rattle.mbe_ops.specs.Equality.{IsSameMacro}
use Rattle.mbe_ops.specs.Codes.{token_code, variable_code, fault_code, key_code, op_key, ops_key, rules_key, macro_key}
use Rattle.mbe_ops.specs.Codes.{macro_eq}

-- ---- codes

pub first_of : {a b c d : Gv} → gcons a b ≡ gcons c d → a ≡ c
first_of e = cc

pub second_of : {a b c d : Gv} → gcons a b ≡ gcons c d → b ≡ d
second_of e = cc

number_of : (m n : ℕ) → gnum m ≡ gnum n → m ≡ n
number_of m n e = cc

-- codes with different numbers in front
tags_differ : (m n : ℕ) (b d : Gv) → nat_eq m n ≡ false → gcons (gnum m) b ≡ gcons (gnum n) d → ⊥
tags_differ m n b d f e = true≢false (sym (eq-eqb m n (number_of m n (first_of e))) ∙ f)

texts_same : (s t : Option Separator) → option_map text_of s ≡ option_map text_of t → AreSameSeparators s t
texts_same None None e = tt
texts_same None (Some t) e = absurd (none-some _ e)
texts_same (Some s) None e = absurd (none-some _ (sym e))
texts_same (Some s) (Some t) e = same_Some _ _ e

same_texts : (s t : Option Separator) → AreSameSeparators s t → option_map text_of s ≡ option_map text_of t
same_texts None None h = refl
same_texts None (Some t) h = absurd h
same_texts (Some s) None h = absurd h
same_texts (Some s) (Some t) h = ap Some h

-- ops of one code are the same
mutual
  pub key_same_op : (o p : Op) → op_key o ≡ op_key p → IsSameOp o p
  key_same_op (ops.token t) (ops.token u) h = ap ops.token (token_code.inj t u (second_of h))
  key_same_op (ops.token t) (ops.group f other) h = absurd (tags_differ 0 1 _ _ refl h)
  key_same_op (ops.token t) (ops.variable n l r) h = absurd (tags_differ 0 2 _ _ refl h)
  key_same_op (ops.token t) (ops.repetition other r l) h = absurd (tags_differ 0 3 _ _ refl h)
  key_same_op (ops.token t) (ops.expression f) h = absurd (tags_differ 0 4 _ _ refl h)
  key_same_op (ops.group d body) (ops.token u) h = absurd (tags_differ 1 0 _ _ refl h)
  key_same_op (ops.group d body) (ops.group f other) h =
      (delimiter.the_row.coded.inj d f (first_of (second_of h)), key_same_ops body other (second_of (second_of h)))
  key_same_op (ops.group d body) (ops.variable n l r) h = absurd (tags_differ 1 2 _ _ refl h)
  key_same_op (ops.group d body) (ops.repetition other r l) h = absurd (tags_differ 1 3 _ _ refl h)
  key_same_op (ops.group d body) (ops.expression f) h = absurd (tags_differ 1 4 _ _ refl h)
  key_same_op (ops.variable name k s) (ops.token u) h = absurd (tags_differ 2 0 _ _ refl h)
  key_same_op (ops.variable name k s) (ops.group f other) h = absurd (tags_differ 2 1 _ _ refl h)
  key_same_op (ops.variable name k s) (ops.variable n l r) h =
      ap (λ (v : Name × (Option MetaVarKind × Span)). ops.variable v.0 v.1.0 v.1.1)
      (variable_code.inj (name, (k, s)) (n, (l, r)) (second_of h))
  key_same_op (ops.variable name k s) (ops.repetition other r l) h = absurd (tags_differ 2 3 _ _ refl h)
  key_same_op (ops.variable name k s) (ops.expression f) h = absurd (tags_differ 2 4 _ _ refl h)
  key_same_op (ops.repetition body s k) (ops.token u) h = absurd (tags_differ 3 0 _ _ refl h)
  key_same_op (ops.repetition body s k) (ops.group f other) h = absurd (tags_differ 3 1 _ _ refl h)
  key_same_op (ops.repetition body s k) (ops.variable n l r) h = absurd (tags_differ 3 2 _ _ refl h)
  key_same_op (ops.repetition body s k) (ops.repetition other r l) h = let parts = second_of h in
      let following = second_of parts in (
        key_same_ops body other (second_of following),
        texts_same s r ((coded_option text_code).inj (option_map text_of s) (option_map text_of r) (first_of parts)),
        repeat.the_row.coded.inj k l (first_of following),
      )
  key_same_op (ops.repetition body s k) (ops.expression f) h = absurd (tags_differ 3 4 _ _ refl h)
  key_same_op (ops.expression e) (ops.token u) h = absurd (tags_differ 4 0 _ _ refl h)
  key_same_op (ops.expression e) (ops.group f other) h = absurd (tags_differ 4 1 _ _ refl h)
  key_same_op (ops.expression e) (ops.variable n l r) h = absurd (tags_differ 4 2 _ _ refl h)
  key_same_op (ops.expression e) (ops.repetition other r l) h = absurd (tags_differ 4 3 _ _ refl h)
  key_same_op (ops.expression e) (ops.expression f) h = ap ops.expression (expression_code.inj e f (second_of h))

  pub key_same_ops : (os ps : Ops) → ops_key os ≡ ops_key ps → AreSameOps os ps
  key_same_ops no_ops no_ops h = tt
  key_same_ops no_ops (op p ps) h = absurd (cc)
  key_same_ops (op o os) no_ops h = absurd (cc)
  key_same_ops (op o os) (op p ps) h = (key_same_op o p (first_of h), key_same_ops os ps (second_of h))

-- ops that are the same have one code
mutual
  pub same_key_op : (o p : Op) → IsSameOp o p → op_key o ≡ op_key p
  same_key_op (ops.token t) p h = ap op_key h
  same_key_op (ops.group d body) (ops.token u) h = absurd (cc)
  same_key_op (ops.group d body) (ops.group f other) h =
      λ i. gcons (gnum 1) (gcons (delimiter.the_row.coded.code (h.0 i)) (same_key_ops body other h.1 i))
  same_key_op (ops.group d body) (ops.variable n l r) h = absurd (cc)
  same_key_op (ops.group d body) (ops.repetition other r l) h = absurd (cc)
  same_key_op (ops.group d body) (ops.expression f) h = absurd (cc)
  same_key_op (ops.variable name k s) p h = ap op_key h
  same_key_op (ops.repetition body s k) (ops.token u) h = absurd (cc)
  same_key_op (ops.repetition body s k) (ops.group f other) h = absurd (cc)
  same_key_op (ops.repetition body s k) (ops.variable n l r) h = absurd (cc)
  same_key_op (ops.repetition body s k) (ops.repetition other r l) h =
      let texts = same_texts s r h.1 in
      λ i. gcons (gnum 3) (gcons ((coded_option text_code).code (texts i))
      (gcons (repeat.the_row.coded.code (h.2 i)) (same_key_ops body other h.0 i)))
  same_key_op (ops.repetition body s k) (ops.expression f) h = absurd (cc)
  same_key_op (ops.expression e) p h = ap op_key h

  pub same_key_ops : (os ps : Ops) → AreSameOps os ps → ops_key os ≡ ops_key ps
  same_key_ops no_ops no_ops h = refl
  same_key_ops no_ops (op p ps) h = absurd h
  same_key_ops (op o os) no_ops h = absurd h
  same_key_ops (op o os) (op p ps) h = λ i. gcons (same_key_op o p h.0 i) (same_key_ops os ps h.1 i)

key_same_rules : (rs qs : List Rule) → rules_key rs ≡ rules_key qs → AreSameRules rs qs
key_same_rules [] [] h = tt
key_same_rules [] (q ∷ qs) h = absurd (cc)
key_same_rules (r ∷ rs) [] h = absurd (cc)
key_same_rules (r ∷ rs) (q ∷ qs) h =
    let following = second_of h in
    let further = second_of following in (
      style.the_row.coded.inj r.style q.style (first_of h),
      key_same_ops r.reads q.reads (first_of following),
      key_same_ops r.writes q.writes (first_of further),
      key_same_rules rs qs (second_of further),
    )

same_key_rules : (rs qs : List Rule) → AreSameRules rs qs → rules_key rs ≡ rules_key qs
same_key_rules [] [] h = refl
same_key_rules [] (q ∷ qs) h = absurd h
same_key_rules (r ∷ rs) [] h = absurd h
same_key_rules (r ∷ rs) (q ∷ qs) h =
    let reads = same_key_ops r.reads q.reads h.1 in
    let writes = same_key_ops r.writes q.writes h.2 in
    let following = same_key_rules rs qs h.3 in
    λ i. gcons (style.the_row.coded.code (h.0 i)) (gcons (reads i) (gcons (writes i) (following i)))

-- macros of one code are the same, and those alone
pub macros_by_key : (m n : Macro) → (macro_key m ≡ macro_key n) ↔ IsSameMacro m n
macros_by_key m n = (
  λ h. (key_same_rules m.rules n.rules (first_of h), (coded_option fault_code).inj m.err n.err (second_of h)),
  λ h. let rules = same_key_rules m.rules n.rules h.0 in λ i. gcons (rules i) ((coded_option fault_code).code (h.1 i)),
)

-- the test of macros
pub macros_tell : (m n : Macro) → IsTrue (macro_eq m n) ↔ IsSameMacro m n
macros_tell m n =
    let by_key = macros_by_key m n in (
      λ h. by_key.0 (same_is key_code _ _ h),
      λ h. is_same key_code _ _ (by_key.1 h),
    )

-- ---- sameness of macros is an equivalence

pub same_itself : (m : Macro) → IsSameMacro m m
same_itself m = (macros_by_key m m).0 refl

pub same_back : (m n : Macro) → IsSameMacro m n → IsSameMacro n m
same_back m n h = (macros_by_key n m).0 (sym ((macros_by_key m n).1 h))

pub same_through : (m n o : Macro) → IsSameMacro m n → IsSameMacro n o → IsSameMacro m o
same_through m n o h k = (macros_by_key m o).0 ((macros_by_key m n).1 h ∙ (macros_by_key n o).1 k)

-- ---- one op

-- how many groups and repetitions are one inside the other, or side by side: a measure
abbrev mutual
  pub op_weight : Op → ℕ
  op_weight (ops.group d body) = suc (ops_weight body)
  op_weight (ops.repetition body s k) = suc (ops_weight body)
  op_weight _ = 0

  pub ops_weight : Ops → ℕ
  ops_weight no_ops = 0
  ops_weight (op o os) = op_weight o + ops_weight os

pub op_no_heavier : {A : Type 0} (xs : List (code.Op A)) (i : ℕ) (x : code.Op A) → i < length xs → x ≡ get_or xs i x
    → op_weight (op_of x) ≤ ops_weight (ops_of xs)
op_no_heavier [] i x l e = absurd (omega (arith, l))
op_no_heavier (y ∷ ys) zero x l e = let same = ap (λ o. op_weight (op_of o)) e in omega arith
op_no_heavier (y ∷ ys) (suc i) x l e = let following = op_no_heavier ys i x (omega arith) e in omega arith

pub groups_tell : (o p : Op) (d e : Delimiter) (body other : Ops) (a r : Bool) → o ≡ ops.group d body
    → p ≡ ops.group e other
    → IsTrue a ↔ (d ≡ e) → a ≡ true → IsTrue r ↔ AreSameOps body other → IsTrue r ↔ IsSameOp o p
groups_tell o p d e body other a r ho hp alike holds inside =
    rw (ho, hp) (λ h. (alike.0 holds, inside.0 h), λ h. inside.1 h.1)

pub repetitions_tell : (o p : Op) (body other : Ops) (s t : Option Separator) (k l : RepeatKind) (a r : Bool)
    → o ≡ ops.repetition body s k → p ≡ ops.repetition other t l
    → IsTrue a ↔ (AreSameSeparators s t × (k ≡ l)) → a ≡ true → IsTrue r ↔ AreSameOps body other
    → IsTrue r ↔ IsSameOp o p
repetitions_tell o p body other s t k l a r ho hp alike holds inside =
    let both = alike.0 holds in
    rw (ho, hp) (λ h. (inside.0 h, both.0, both.1), λ h. inside.1 h.0)

pub inside_tells : (a b body other : Ops) (r : Bool) → a ≡ body → b ≡ other → IsTrue r ↔ AreSameOps a b
    → IsTrue r ↔ AreSameOps body other
inside_tells a b body other r ha hb h =
    subst (λ os. IsTrue r ↔ AreSameOps body os) hb (subst (λ os. IsTrue r ↔ AreSameOps os b) ha h)

-- ---- elements of `${concat(..)}`

module _ {A : Type 0} where
  elements_same : (xs ys : List (part.ConcatMetaVarExprElem A)) → pointwise element_eq xs ys ≡ true
      → elements_seen xs ≡ elements_seen ys
  elements_same [] [] h = refl
  elements_same [] (y ∷ ys) h = absurd (true≢false (sym h))
  elements_same (x ∷ xs) [] h = absurd (true≢false (sym h))
  elements_same (x ∷ xs) (y ∷ ys) h =
      let both = and_parts (element_eq x y) _ h in
      let here = same_is element_code (element_seen x) (element_seen y) both.0 in
      let following = elements_same xs ys both.1 in
      λ i. here i ∷ following i

  same_elements : (xs ys : List (part.ConcatMetaVarExprElem A)) → elements_seen xs ≡ elements_seen ys
      → pointwise element_eq xs ys ≡ true
  same_elements [] [] h = refl
  same_elements [] (y ∷ ys) h = absurd (cc)
  same_elements (x ∷ xs) [] h = absurd (cc)
  same_elements (x ∷ xs) (y ∷ ys) h =
      let here : element_seen x ≡ element_seen y = cc in
      let following : elements_seen xs ≡ elements_seen ys = cc in
      ap (λ (b : Bool). b && pointwise element_eq xs ys) (is_same element_code (element_seen x) (element_seen y) here)
      ∙ same_elements xs ys following

  pub elements_tell : (xs ys : List (part.ConcatMetaVarExprElem A)) (r : Bool) → r ≡ pointwise element_eq xs ys
      → IsTrue r ↔ (elements_seen xs ≡ elements_seen ys)
  elements_tell xs ys r e = (λ h. elements_same xs ys (sym e ∙ h), λ h. e ∙ same_elements xs ys h)

-- ---- lists, walked through side by side

-- lists are related exactly where they are so one by one
pub record IsOneByOne {X : Type 0} (R : X → X → Type 0) (Rs : List X → List X → Type 0) : Type 0 where
  pub none : Rs [] []
  pub both : (x y : X) (xs ys : List X) → R x y → Rs xs ys → Rs (x ∷ xs) (y ∷ ys)
  pub here : (x y : X) (xs ys : List X) → Rs (x ∷ xs) (y ∷ ys) → R x y
  pub following : (x y : X) (xs ys : List X) → Rs (x ∷ xs) (y ∷ ys) → Rs xs ys
  pub longer : (x : X) (xs : List X) → Rs (x ∷ xs) [] → ⊥
  pub shorter : (y : X) (ys : List X) → Rs [] (y ∷ ys) → ⊥

module _ {X : Type 0} (R : X → X → Type 0) (Rs : List X → List X → Type 0) (o : IsOneByOne R Rs) (P : Type 0) where
  -- the first i of them are related, so that what is left decides
  abbrev pub AsFarAs : List X → ℕ → List X → Type 0
  AsFarAs xs i ys = P ↔ Rs (drop i xs) ys

  at_next : (xs : List X) (i : ℕ) (x : X) (ys : List X) → i < length xs → x ≡ get_or xs i x → AsFarAs xs i ys
      → P ↔ Rs (x ∷ drop (i + 1) xs) ys
  at_next xs i x ys l e h =
      let here = drop_more xs i x l ∙ ap (λ y. y ∷ drop (i + 1) xs) (sym e) in
      (λ p. subst (λ zs. Rs zs ys) here (h.0 p), λ r. h.1 (subst (λ zs. Rs zs ys) (sym here) r))

  -- the next two differ
  pub other_differs : (xs : List X) (i : ℕ) (x y : X) (ys zs : List X) (r : Bool) → i < length xs → x ≡ get_or xs i x
      → ys ≡ y ∷ zs → IsTrue r ↔ R x y → r ≡ false
      → AsFarAs xs i ys → IsTrue false ↔ P
  other_differs xs i x y ys zs r l e n t f h =
      let next = at_next xs i x ys l e h in (
        λ b. absurd (true≢false (sym b)),
        λ p. absurd (true≢false (sym (t.1 (o.here x y (drop (i + 1) xs) zs
            (subst (Rs (x ∷ drop (i + 1) xs)) n (next.0 p)))) ∙ f)),
      )

  -- the next two are related
  pub one_more : (xs : List X) (i : ℕ) (x y : X) (ys zs : List X) (r : Bool) → i < length xs → x ≡ get_or xs i x
      → ys ≡ y ∷ zs → IsTrue r ↔ R x y → r ≡ true
      → AsFarAs xs i ys → AsFarAs xs (i + 1) zs
  one_more xs i x y ys zs r l e n t b h =
      let next = at_next xs i x ys l e h in (
        λ p. o.following x y (drop (i + 1) xs) zs (subst (Rs (x ∷ drop (i + 1) xs)) n (next.0 p)),
        λ s. next.1 (subst (Rs (x ∷ drop (i + 1) xs)) (sym n) (o.both x y (drop (i + 1) xs) zs (t.0 b) s)),
      )

  -- all are consumed
  pub at_the_end : (xs : List X) (i : ℕ) (ys : List X) (r : Bool) → length xs ≤ i → IsTrue r ↔ (ys ≡ [])
      → AsFarAs xs i ys → IsTrue r ↔ P
  at_the_end xs i ys r l e h =
      let all = drop_all i xs l in (
        λ b. h.1 (subst (λ zs. Rs zs ys) (sym all) (subst (Rs []) (sym (e.0 b)) o.none)),
        λ p. e.1 (nothing_left ys (subst (λ zs. Rs zs ys) all (h.0 p))),
      )
    where
      nothing_left : (zs : List X) → Rs [] zs → zs ≡ []
      nothing_left [] q = refl
      nothing_left (z ∷ zs) q = absurd (o.shorter z zs q)

pub empty_tells : {X : Type 0} (ys : List X) (r : Bool) → r ≡ (length ys == 0) → IsTrue r ↔ (ys ≡ [])
empty_tells [] r e = (λ h. refl, λ h. e)
empty_tells (y ∷ ys) r e = (
  λ h. absurd (true≢false (sym h ∙ (e ∙ ne_eqb (length (y ∷ ys)) 0 (λ n. omega (arith, n))))),
  λ h. absurd (cc),
)

pub ops_one_by_one : {A : Type 0} → IsOneByOne (λ (x y : code.Op A). IsSameOp (op_of x) (op_of y))
    (λ xs ys. AreSameOps (ops_of xs) (ops_of ys))
ops_one_by_one = record {
  none = tt;
  both = λ x y xs ys r rs. (r, rs);
  here = λ x y xs ys h. h.0;
  following = λ x y xs ys h. h.1;
  longer = λ x xs h. h;
  shorter = λ y ys h. h;
}

-- ---- lists that are copied

-- the copies of one more, as they are seen
pub one_copied : {X Y : Type 0} (seen : X → Y) (copy new xs : List X) (i : ℕ) (x o : X) → i < length xs
    → x ≡ get_or xs i x → new ≡ copy ++ o ∷ [] → seen o ≡ seen x
    → map seen copy ≡ map seen (take i xs) → map seen new ≡ map seen (take (i + 1) xs)
one_copied seen copy new xs i x o l e n h so_far =
    let more = take_more xs i x l ∙ ap (λ y. take i xs ++ y ∷ []) (sym e) in
    ap (map seen) n
    ∙ (map-append seen copy (o ∷ [])
    ∙ ((λ k. so_far k ++ h k ∷ [])
    ∙ (sym (map-append seen (take i xs) (x ∷ [])) ∙ ap (map seen) (sym more))))
