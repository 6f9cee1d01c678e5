-- The closest of the rules that were tried so far.
use Rattle.std.specs.Prelude.{◌≡◌, ◌<◌, ◌≤◌, ◌+◌, ◌⊎◌, ℕ, zero, suc, true, false, ◌&&◌, nat_lt, nat_eq, if◌then◌else◌}
use Rattle.std.specs.Prelude.{List, [], ◌∷◌, slice_get, slice_index_or, length, Contains, Option, Some, None}
use Rattle.std.specs.Prelude.{option_map, Result, Ok, Err, IfOk, IfSome, refl}
use Rattle.std.specs.List.{list_any}
use Rattle.std.proofs.Common.{ap, sym, subst, ◌∙◌, arith, inl, inr}
use Rattle.std.proofs.lemmas.Bool.{cases_lt, cases_Bool, ltb-true, ltb-false, eqb-true, eqb-false, eq-eqb, ne_eqb}
use Rattle.std.proofs.lemmas.Bool.{or_parts, and_cases, and_parts, or_cases}
use Rattle.std.proofs.lemmas.Option.{none-some, same_Some}
use Rattle.mbe_tt.specs.declared.span.Span.{Span}
use Rattle.mbe_tt.specs.Trees.Top.{Top}
use Rattle.mbe_tt.specs.Grammars.Grammar.{Grammar}
use Rattle.mbe_semantics.specs.declared.macro_call_style.MacroCallStyle.{MacroCallStyle}
use Rattle.mbe_semantics.specs.Syntax.Definition.{Rule}
use Rattle.mbe_semantics.specs.Syntax.Nullable.{Checked, is_refused}
use Rattle.mbe_semantics.specs.Expansion.Macro.{Macro, ReportsRefusal, IsChecked}
use Rattle.mbe_semantics.specs.Expansion.Recovery.{HasStyle, IsStyledAt, IsCloser, IsClosest}
use Rattle.mbe_parser.specs.RuleViews.{rule_of}
use Rattle.mbe.specs.declared.expander.Candidate.{Candidate}
use Rattle.mbe.specs.declared.expander.Nearness.{Nearness}
use Rattle.mbe.specs.ClosestRule.{ComesNear, IsNearest}
use Rattle.mbe.specs.RuleChoice.{AreChecked, candidate_seen, is_nearer, nearer_of, IsNearness, IsRuleFailure}
use Rattle.mbe.specs.RuleChoice.{IsCandidate}
use Rattle.mbe.proofs.TriedLemmas.{bound_as_fit}

-- a number of each place, with another one at one place
abbrev put : (ℕ → ℕ) → ℕ → ℕ → ℕ → ℕ
put f k v m = if nat_eq m k then v else f m

put_here : (f : ℕ → ℕ) (k v : ℕ) → put f k v k ≡ v
put_here f k v = rw (eq-eqb k k refl) refl

put_before : (f : ℕ → ℕ) (k v m : ℕ) → m < k → put f k v m ≡ f m
put_before f k v m l = rw (ne_eqb m k (λ e. omega (arith, l, e))) refl

-- the order of two rules by their numbers
abbrev Before : ℕ → ℕ → ℕ → ℕ → ℕ → ℕ → Type 0
Before left other bound held n m = (left < other) ⊎ ((left ≡ other) × ((held < bound) ⊎ ((held ≡ bound) × (n ≤ m))))

-- a place with a rule is a place of the list
within : (xs : List Rule) (m : ℕ) (r : Rule) → slice_get xs m ≡ Some r → m < length xs
within [] m r e = absurd (none-some r e)
within (x ∷ xs) zero r e = omega arith
within (x ∷ xs) (suc m) r e = let l = within xs m r e in omega (arith, l)

-- a rule at a place is one of the rules
pub at_place : (xs : List Rule) (m : ℕ) (r : Rule) → slice_get xs m ≡ Some r → Contains xs r
at_place [] m r e = absurd (none-some r e)
at_place (x ∷ xs) zero r e = (0, omega arith, same_Some x r e)
at_place (x ∷ xs) (suc m) r e = let c = at_place xs m r e in (suc c.0, let l = c.1 in omega (arith, l), c.2)

-- and one of the rules is at a place
placed : (xs : List Rule) (m : ℕ) (r : Rule) → m < length xs → slice_index_or xs m r ≡ r → slice_get xs m ≡ Some r
placed [] m r l e = absurd (omega (arith, l))
placed (x ∷ xs) zero r l e = ap Some e
placed (x ∷ xs) (suc m) r l e = placed xs m r (omega (arith, l)) e

-- the same by other names of the numbers
moved : (g : Grammar) (call_site : Span) (input : Top) (r : Rule) (left bound other more : ℕ) → left ≡ other
    → bound ≡ more
    → ComesNear g call_site input r other more → ComesNear g call_site input r left bound
moved g call_site input r left bound other more e f x = rw (e, f) x

module _ (g : Grammar) (call_site : Span) (input : Top) (style : MacroCallStyle) (rs : List Rule) where
  -- the closest of the first so many rules, by its place and how near it comes
  pub record IsClosestSoFar (k n : ℕ) (near : Nearness) : Type 0 where
    pub left : ℕ → ℕ
    pub bound : ℕ → ℕ
    pub before : n < k
    pub its_left : left n ≡ near.unmatched
    pub its_bound : bound n ≡ near.bound
    pub near_all : (m : ℕ) (r : Rule) → m < k → IsStyledAt rs style m r
        → ComesNear g call_site input r (left m) (bound m)
    pub first : (m : ℕ) (r : Rule) → m < k → IsStyledAt rs style m r → IsCloser left bound n m

  -- it is known, if some of them is of the style
  abbrev pub IsSoFar : ℕ → Option (ℕ × Nearness) → Type 0
  IsSoFar k None = (m : ℕ) (r : Rule) → m < k → IsStyledAt rs style m r → ⊥
  IsSoFar k (Some (n, near)) = IsClosestSoFar k n near

  pub so_far_start : IsSoFar 0 None
  so_far_start m r l s = omega (arith, l)

  module _ (k : ℕ) (r : Rule) (here : slice_get rs k ≡ Some r) where
    -- what holds of the rules before, and of this one, holds of one more
    one_more : (P : ℕ → Rule → Type 0) → ((m : ℕ) (s : Rule) → m < k → IsStyledAt rs style m s → P m s)
        → (r.style ≡ style → P k r)
        → (m : ℕ) (s : Rule) → m < k + 1 → IsStyledAt rs style m s → P m s
    one_more P f p m s l a = go (cases_lt m k)
      where
        go : (m < k) ⊎ (k ≤ m) → P m s
        go (inl b) = f m s b a
        go (inr b) =
            let e : m ≡ k = omega (arith, b, l) in
            let q : s ≡ r = same_Some s r (sym a.0 ∙ (ap (slice_get rs) e ∙ here)) in
            subst (λ (i : ℕ). P i s) (sym e) (subst (P k) (sym q) (p (ap (λ (x : Rule). x.style) (sym q) ∙ a.1)))

    pub so_far_skipped : (best : Option (ℕ × Nearness)) → IsSoFar k best → (r.style ≡ style → ⊥) → IsSoFar (k + 1) best
    so_far_skipped None h other = one_more (λ m s. ⊥) h other
    so_far_skipped (Some (n, near)) h other = record {
      left = h.left;
      bound = h.bound;
      before = let b = h.before in omega (arith, b);
      its_left = h.its_left;
      its_bound = h.its_bound;
      near_all = one_more (λ m s. ComesNear g call_site input s (h.left m) (h.bound m)) h.near_all
          (λ e. absurd (other e));
      first = one_more (λ m s. IsCloser h.left h.bound n m) h.first (λ e. absurd (other e));
    }

    module _ (near : Nearness) (is_near : IsNearness g call_site input r near) where
      pub so_far_first : IsSoFar k None → IsSoFar (k + 1) (Some (k, near))
      so_far_first h = record {
        left = λ m. near.unmatched;
        bound = λ m. near.bound;
        before = omega arith;
        its_left = refl;
        its_bound = refl;
        near_all = one_more (λ m s. ComesNear g call_site input s near.unmatched near.bound)
            (λ m s l a. absurd (h m s l a)) (λ e. is_near);
        first = one_more (λ m s. IsCloser (λ i. near.unmatched) (λ i. near.bound) k m) (λ m s l a. absurd (h m s l a))
            (λ e. inr (refl, inr (refl, omega arith)));
      }

      module _ (n : ℕ) (best : Nearness) (h : IsClosestSoFar k n best) where
        all_near : (m : ℕ) (s : Rule) → m < k + 1 → IsStyledAt rs style m s
            → ComesNear g call_site input s (put h.left k near.unmatched m) (put h.bound k near.bound m)
        all_near = one_more (λ m s. ComesNear g call_site input s (put h.left k near.unmatched m)
            (put h.bound k near.bound m))
            (λ m s l a. moved g call_site input s (put h.left k near.unmatched m) (put h.bound k near.bound m)
            (h.left m) (h.bound m)
            (put_before h.left k near.unmatched m l) (put_before h.bound k near.bound m l) (h.near_all m s l a))
            (λ e. moved g call_site input r (put h.left k near.unmatched k) (put h.bound k near.bound k) near.unmatched
            near.bound
            (put_here h.left k near.unmatched) (put_here h.bound k near.bound) is_near)

        -- the order by the numbers as they were put
        order : (i m a b c d : ℕ) → put h.left k near.unmatched i ≡ a → put h.left k near.unmatched m ≡ b
            → put h.bound k near.bound i ≡ c → put h.bound k near.bound m ≡ d
            → Before a b c d i m → IsCloser (put h.left k near.unmatched) (put h.bound k near.bound) i m
        order i m a b c d e f p q x = rw (e, f, p, q) x

        was_left : put h.left k near.unmatched n ≡ best.unmatched
        was_left = put_before h.left k near.unmatched n h.before ∙ h.its_left

        was_bound : put h.bound k near.bound n ≡ best.bound
        was_bound = put_before h.bound k near.bound n h.before ∙ h.its_bound

        -- the best stays before what it was before, by its own numbers
        known : (m : ℕ) (s : Rule) → m < k → IsStyledAt rs style m s
            → Before best.unmatched (h.left m) best.bound (h.bound m) n m
        known m s l a = let x : Before (h.left n) (h.left m) (h.bound n) (h.bound m) n m =
            h.first m s l a in rw (← h.its_left, ← h.its_bound) x

        not_nearer : is_nearer near best ≡ false → Before best.unmatched near.unmatched best.bound near.bound n k
        not_nearer far = go (cases_lt best.unmatched near.unmatched) (cases_lt near.bound best.bound)
          where
            parts : (nat_lt near.unmatched best.unmatched ≡ false)
                × ((nat_eq near.unmatched best.unmatched && nat_lt best.bound near.bound) ≡ false)
            parts = or_parts _ _ far

            less : best.unmatched ≤ near.unmatched
            less = ltb-false near.unmatched best.unmatched parts.0

            more : near.unmatched ≡ best.unmatched → near.bound ≤ best.bound
            more e = use_case (and_cases _ _ parts.1)
              where
                use_case : (nat_eq near.unmatched best.unmatched ≡ false) ⊎ (nat_lt best.bound near.bound ≡ false)
                    → near.bound ≤ best.bound
                use_case (inl x) = absurd (eqb-false near.unmatched best.unmatched x e)
                use_case (inr x) = ltb-false best.bound near.bound x

            go : (best.unmatched < near.unmatched) ⊎ (near.unmatched ≤ best.unmatched)
                → (near.bound < best.bound) ⊎ (best.bound ≤ near.bound)
                → Before best.unmatched near.unmatched best.bound near.bound n k
            go (inl l) b = inl l
            go (inr l) (inl b) = inr (same, inl b)
              where
                same : best.unmatched ≡ near.unmatched
                same = omega (arith, l, less)
            go (inr l) (inr b) = inr (
              same,
              inr
                  (let no_more = more (sym same) in omega (arith, b, no_more), let c = h.before in omega (arith, c)),
            )
              where
                same : best.unmatched ≡ near.unmatched
                same = omega (arith, l, less)

        pub so_far_kept : is_nearer near best ≡ false → IsSoFar (k + 1) (Some (n, best))
        so_far_kept far = record {
          left = put h.left k near.unmatched;
          bound = put h.bound k near.bound;
          before = let b = h.before in omega (arith, b);
          its_left = was_left;
          its_bound = was_bound;
          near_all = all_near;
          first = one_more (λ m s. IsCloser (put h.left k near.unmatched) (put h.bound k near.bound) n m)
              (λ m s l a. order n m best.unmatched (h.left m) best.bound (h.bound m) was_left
              (put_before h.left k near.unmatched m l) was_bound (put_before h.bound k near.bound m l)
              (known m s l a))
              (λ e. order n k best.unmatched near.unmatched best.bound near.bound was_left
              (put_here h.left k near.unmatched) was_bound (put_here h.bound k near.bound) (not_nearer far));
        }

        -- as many unmatched trees, and more bindings
        as_near : (nat_eq near.unmatched best.unmatched && nat_lt best.bound near.bound) ≡ true
            → (near.unmatched ≡ best.unmatched) × (best.bound < near.bound)
        as_near l =
            let both = and_parts (nat_eq near.unmatched best.unmatched) (nat_lt best.bound near.bound) l in
            (eqb-true near.unmatched best.unmatched both.0, ltb-true best.bound near.bound both.1)

        -- what is nearer than the best goes before all that the best goes before
        nearer_goes : is_nearer near best ≡ true → (m : ℕ) (b d : ℕ) → Before best.unmatched b best.bound d n m
            → Before near.unmatched b near.bound d k m
        nearer_goes closer m b d x = go (or_cases _ _ closer) x
          where
            go : (nat_lt near.unmatched best.unmatched ≡ true)
                ⊎ ((nat_eq near.unmatched best.unmatched && nat_lt best.bound near.bound) ≡ true)
                → Before best.unmatched b best.bound d n m → Before near.unmatched b near.bound d k m
            go (inl l) (inl y) = let p = ltb-true near.unmatched best.unmatched l in inl (omega (arith, p, y))
            go (inl l) (inr y) = let p = ltb-true near.unmatched best.unmatched l in
                inl (let e = y.0 in omega (arith, p, e))
            go (inr l) (inl y) = let p = (as_near l).0 in inl (omega (arith, p, y))
            go (inr l) (inr (e, inl y)) =
                let p = as_near l in inr (p.0 ∙ e, inl (let q = p.1 in omega (arith, q, y)))
            go (inr l) (inr (e, inr y)) =
                let p = as_near l in inr (p.0 ∙ e, inl (let q = p.1 in let z = y.0 in omega (arith, q, z)))

        pub so_far_nearer : is_nearer near best ≡ true → IsSoFar (k + 1) (Some (k, near))
        so_far_nearer closer = record {
          left = put h.left k near.unmatched;
          bound = put h.bound k near.bound;
          before = omega arith;
          its_left = put_here h.left k near.unmatched;
          its_bound = put_here h.bound k near.bound;
          near_all = all_near;
          first = one_more (λ m s. IsCloser (put h.left k near.unmatched) (put h.bound k near.bound) k m)
              (λ m s l a. order k m near.unmatched (h.left m) near.bound (h.bound m) (put_here h.left k near.unmatched)
              (put_before h.left k near.unmatched m l) (put_here h.bound k near.bound)
              (put_before h.bound k near.bound m l) (nearer_goes closer m (h.left m) (h.bound m) (known m s l a)))
              (λ e. order k k near.unmatched near.unmatched near.bound near.bound (put_here h.left k near.unmatched)
              (put_here h.left k near.unmatched) (put_here h.bound k near.bound) (put_here h.bound k near.bound)
              (inr (refl, inr (refl, omega arith))));
        }

  -- the nearer of the best and one more
  pub so_far_tried : {A : Type 0} (k : ℕ) (r : Rule) → slice_get rs k ≡ Some r
      → (best : Option (Candidate A)) (next : Candidate A) → next.idx ≡ k
      → IsNearness g call_site input r next.nearness → IsSoFar k (option_map candidate_seen best)
      → IsSoFar (k + 1) (Some (candidate_seen (nearer_of best next)))
  so_far_tried k r here None next e near h =
      subst (λ i. IsSoFar (k + 1) (Some (i, next.nearness))) (sym e) (so_far_first k r here next.nearness near h)
  so_far_tried k r here (Some best) next e near h = go (cases_Bool (is_nearer next.nearness best.nearness))
    where
      go : (is_nearer next.nearness best.nearness ≡ true) ⊎ (is_nearer next.nearness best.nearness ≡ false)
          → IsSoFar (k + 1) (Some (candidate_seen (nearer_of (Some best) next)))
      go (inl t) = rw t (subst (λ i. IsSoFar (k + 1) (Some (i, next.nearness))) (sym e)
          (so_far_nearer k r here next.nearness near best.idx best.nearness h t))
      go (inr f) = rw f (so_far_kept k r here next.nearness near best.idx best.nearness h f)

  -- after all rules it is the closest of them
  pub nearest : (k n : ℕ) (near : Nearness) (r : Rule) → length rs ≤ k → IsStyledAt rs style n r
      → IsSoFar k (Some (n, near))
      → IsNearest g call_site input style rs n r
  nearest k n near r all at h = record {
    left = h.left;
    bound = h.bound;
    styled = at;
    near = λ m s a. let l = within rs m s a.0 in h.near_all m s (omega (arith, l, all)) a;
    first = λ m s a. let l = within rs m s a.0 in h.first m s (omega (arith, l, all)) a;
  }

  -- what is bound is that of the only reading, where there is one
  pub closest : (n : ℕ) (r : Rule) → IsNearest g call_site input style rs n r → IsClosest g style input.1 rs n
  closest n r h = record {
    left = h.left;
    bound = h.bound;
    rule = r;
    styled = h.styled;
    unmatched_trees = λ m s a. (h.near m s a).trees;
    bindings = λ m s is a f. bound_as_fit g call_site input s (h.left m) (h.bound m) (h.near m s a) is f;
    first = h.first;
  }

  -- without one of the style, there is none
  pub no_style : (k : ℕ) → length rs ≤ k → IsSoFar k None → HasStyle rs style → ⊥
  no_style k all h (r, c, e) = let l = c.1 in h c.0 r (omega (arith, l, all)) (placed rs c.0 r c.1 c.2, e)

-- ---- the candidate that is kept

pub kept_tried : {A : Type 0} (P : Candidate A → Type 0) (best : Option (Candidate A)) (next : Candidate A)
    → IfSome best P → P next → P (nearer_of best next)
kept_tried P None next h p = p
kept_tried P (Some best) next h p = go (cases_Bool (is_nearer next.nearness best.nearness))
  where
    go : (is_nearer next.nearness best.nearness ≡ true) ⊎ (is_nearer next.nearness best.nearness ≡ false)
        → P (nearer_of (Some best) next)
    go (inl t) = rw t p
    go (inr f) = rw f h

-- a rule that was tried, as a candidate
pub candidate : {A : Type 0} (g : Grammar) (Marks : Span → Span → Type 0) (call_site : Span) (input : Top)
    (style : MacroCallStyle) (rs : List Rule) (k : ℕ) (r : Rule)
    → slice_get rs k ≡ Some r → (c : Candidate A) → r.style ≡ style → IsRuleFailure g Marks call_site input r c.failure
    → rule_of c.rule.now ≡ r → c.idx ≡ k
    → IsCandidate g Marks call_site input style rs c
candidate g Marks call_site input style rs k r here c own left same at = record {
  styled = (ap (slice_get rs) at ∙ here ∙ ap Some (sym same), ap (λ (x : Rule). x.style) same ∙ own);
  failure = subst (λ x. IsRuleFailure g Marks call_site input x c.failure) (sym same) left;
}

-- ---- checked rules

none_refused : (rs : List Rule) → list_any (λ (r : Rule). is_refused r.reads) rs ≡ false → AreChecked rs
none_refused [] h n r e = absurd (none-some r e)
none_refused (x ∷ xs) h zero r e = subst (λ (y : Rule). Checked y.reads) (same_Some x r e) (or_parts _ _ h).0
none_refused (x ∷ xs) h (suc n) r e = none_refused xs (or_parts _ _ h).1 n r e

-- a macro whose error says no refusal has checked rules alone
pub all_checked : (m : Macro) → ReportsRefusal m → IsChecked m → AreChecked m.rules
all_checked m tells (inl other) = go (cases_Bool (list_any (λ (r : Rule). is_refused r.reads) m.rules))
  where
    go : (list_any (λ (r : Rule). is_refused r.reads) m.rules ≡ true)
        ⊎ (list_any (λ (r : Rule). is_refused r.reads) m.rules ≡ false) → AreChecked m.rules
    go (inl x) = absurd (other (tells x))
    go (inr x) = none_refused m.rules x
all_checked m tells (inr e) = subst AreChecked (sym e) (λ n r x. absurd (none-some r x))

-- ---- results

-- two facts of a value make a third
pub ok_both : {X E : Type 0} (r : Result X E) (P Q R : X → Type 0) → ((x : X) → P x → Q x → R x) → IfOk r P → IfOk r Q
    → IfOk r R
ok_both (Ok x) P Q R f p q = f x p q
ok_both (Err e) P Q R f p q = tt
