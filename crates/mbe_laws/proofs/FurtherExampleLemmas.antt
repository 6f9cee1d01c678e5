-- More expansions, whole: signs, invisible groups, names that come twice, and the closest of two rules that fault.
use Rattle.std.specs.Prelude.{◌≡◌, ◌⊎◌, ◌-◌, ◌^◌, ◌<◌, ◌≤◌, ℕ, zero, suc, min, List, [], ◌∷◌, codes, None, refl}
use Rattle.std.proofs.Common.{arith, ap, sym, ◌∙◌, subst}
use Rattle.std.proofs.lemmas.Option.{none-some, same_Some}
use Rattle.mbe_tt.specs.Trees.Tree.{Forest, none, group}
use Rattle.mbe_tt.specs.Grammars.Grammar.{Grammar, IsLawful}
use Rattle.mbe_semantics.specs.declared.macro_call_style.MacroCallStyle.TheVariants.{FnLike}
use Rattle.mbe_semantics.specs.Syntax.Template.{nothing, token, variable, repeated, undated}
use Rattle.mbe_semantics.specs.Syntax.Definition.{Rule, ended, separated}
use Rattle.mbe_semantics.specs.Fragments.Kinds as styles
use Rattle.mbe_semantics.specs.Readings.Item.{Item, matched, bound, grouped, skipped, rounds, Items, no_items, item}
use Rattle.mbe_semantics.specs.Readings.Item.{no_rounds, round}
use Rattle.mbe_semantics.specs.Readings.Ambiguity.{IsReading, Fits}
use Rattle.mbe_semantics.specs.Bindings.Environment.{environment_of, binding_total}
use Rattle.mbe_semantics.specs.Expansion.Expansion.{Applies, this_one, a_later_one}
use Rattle.mbe_semantics.specs.Expansion.Recovery.{IsClosest, IsStyledAt, IsCloser}
use Rattle.mbe_semantics.specs.Readings.Verdict as verdicts
use Rattle.mbe_semantics.specs.Readings.Verdict.{Verdict, IsVerdict, unmatched}
use Rattle.mbe_semantics.specs.Matching.Run.{run, verdict}
use Rattle.mbe_semantics.specs.Readings.Steps.{tree}
use Rattle.mbe_semantics.specs.Examples.Sample.{open_grammar}
use Rattle.mbe_semantics.specs.Examples.Sample.{taken, text_at, number_at, alone_at, delimiter_of, at}
use Rattle.std.specs.Fmt.{digits}
use Rattle.mbe_tt.specs.declared.tt.DelimiterKind.TheVariants.{Parenthesis}
use Rattle.mbe_semantics.specs.Examples.FurtherExamples.{SignExample, one_rule, two_rule, three_rule, any_literal_rule}
use Rattle.mbe_semantics.specs.Examples.FurtherExamples.{signed_argument, spaced_argument, PlusExample, plus_rule}
use Rattle.mbe_semantics.specs.Examples.FurtherExamples.{star_argument, InvisibleExample, tree_rule, ident_rule}
use Rattle.mbe_semantics.specs.Examples.FurtherExamples.{hidden_rule, hidden_a, NamesExample, one_then_list}
use Rattle.mbe_semantics.specs.Examples.FurtherExamples.{list_then_one, two_lists, a_at, MostBindingsExample}
use Rattle.mbe_semantics.specs.Examples.FurtherExamples.{one_binding, two_bindings, pq_argument, beside_rule}
use Rattle.mbe_semantics.specs.Examples.FurtherExamples.{EarliestExample, earlier_rule, later_rule, p_argument}
use Rattle.mbe_semantics.specs.Examples.FurtherExamples.{MarkedExample}
use Rattle.mbe_laws.proofs.RuleLemmas.{by_run, fits_once, applies_once, applies_by_run, parts, defines_one}
use Rattle.mbe_laws.proofs.RuleLemmas.{never_final}
use Rattle.mbe_laws.proofs.Matching.RunLemmas.{one_verdict}

-- ---- a literal and its sign

never_at : (g : Grammar) → IsLawful (open_grammar g) → (r : Rule) (argument : Forest)
    → IsVerdict (open_grammar g) r.reads argument (verdicts.stuck 0)
    → Applies (open_grammar g) FnLike argument r → ⊥
never_at g w r argument v a = v.1 a.items (a.fits).1.0

no_one : (g : Grammar) → IsLawful (open_grammar g)
    → IsVerdict (open_grammar g) one_rule.reads signed_argument (verdicts.stuck 0)
unfolding verdict run tree
no_one g w = by_run (open_grammar g) one_rule.reads signed_argument (verdicts.stuck 0) w refl refl

no_two : (g : Grammar) → IsLawful (open_grammar g)
    → IsVerdict (open_grammar g) two_rule.reads signed_argument (verdicts.stuck 0)
unfolding verdict run tree
no_two g w = by_run (open_grammar g) two_rule.reads signed_argument (verdicts.stuck 0) w refl refl

no_three : (g : Grammar) → IsLawful (open_grammar g)
    → IsVerdict (open_grammar g) three_rule.reads signed_argument (verdicts.stuck 0)
unfolding verdict run tree
no_three g w = by_run (open_grammar g) three_rule.reads signed_argument (verdicts.stuck 0) w refl refl

pub sign_example : SignExample
sign_example = record {
  defines = (
    None,
    separated _ _ _ _ _ None refl
        (parts refl (token _ _ _ _ refl (token _ _ _ _ refl (nothing _ refl)))
        (token _ _ _ _ refl (token _ _ _ _ refl (nothing _ refl)))) refl
        (separated _ _ _ _ _ None refl
        (parts refl (token _ _ _ _ refl (token _ _ _ _ refl (nothing _ refl)))
        (token _ _ _ _ refl (token _ _ _ _ refl (nothing _ refl)))) refl
        (separated _ _ _ _ _ None refl
        (parts refl (token _ _ _ _ refl (token _ _ _ _ refl (nothing _ refl)))
        (token _ _ _ _ refl (token _ _ _ _ refl (nothing _ refl)))) refl
        (separated _ none _ _ [] None refl
        (parts refl (token _ _ _ _ refl (variable _ _ _ _ _ _ _ refl (undated refl refl) (nothing _ refl)))
        (token _ _ _ _ refl (nothing _ refl)))
        refl ended))),
    refl,
  );
  taken = λ g w. (
    any_literal_rule,
    applies_once (open_grammar g) FnLike signed_argument any_literal_rule
        (item (item no_items (matched 1)) (taken (codes "lit") styles.stripped
        (alone_at 1 1 45 (number_at 1 2 (codes "1") none)))) refl refl
        ((_, (_, refl, refl), (refl, refl)), refl) refl,
    a_later_one _ _ _ 2 3 _ (never_at g w one_rule signed_argument (no_one g w))
        (never_final g FnLike signed_argument one_rule)
        (a_later_one _ _ _ 1 2 _ (never_at g w two_rule signed_argument (no_two g w))
        (never_final g FnLike signed_argument two_rule)
        (a_later_one _ _ _ 0 1 _ (never_at g w three_rule signed_argument (no_three g w))
        (never_final g FnLike signed_argument three_rule)
        (this_one _ _ _) refl) refl)
        refl,
    (_, (_, _, refl, refl, refl), refl),
  );
  spaced = λ g. (
    one_rule,
    applies_once (open_grammar g) FnLike spaced_argument one_rule (item (item no_items (matched 1)) (matched 1)) refl
        refl
        ((_, (_, refl, refl), refl), refl) refl,
    this_one _ _ _,
    (_, (_, _, (_, _, refl, refl, refl), (_, _, (_, refl, refl), refl, refl), refl), refl),
  );
}

-- ---- `+`, and then a token `*`

abbrev plus_items : Items
plus_items =
    item (item no_items (rounds no_rounds (item no_items (matched 1)))) (matched 1)

plus_read : (g : Grammar) → IsReading (open_grammar g) plus_rule.reads star_argument plus_items
plus_read g = ((_, (_, refl, (tt, (_, refl, refl))), refl), refl)

plus_applies : (g : Grammar) → IsLawful (open_grammar g) → Applies (open_grammar g) FnLike star_argument plus_rule
unfolding verdict run tree
plus_applies g w = applies_by_run (open_grammar g) FnLike star_argument plus_rule plus_items w refl refl refl
    (plus_read g)
    refl

pub plus_example : PlusExample
unfolding plus_applies
plus_example = record {
  defines = defines_one _ _ _ refl
      (parts refl (repeated _ _ _ _ _ _ _ refl (token _ _ _ _ refl (nothing _ refl)) (token _ _ _ _ refl
      (nothing _ refl)))
      (nothing _ refl)) refl refl;
  expands = λ g w. (plus_rule, plus_applies g w, this_one _ _ _, (_, refl, refl));
}

-- ---- invisible groups

closed_verdict : (g : Grammar) → IsLawful (open_grammar g)
    → IsVerdict (open_grammar g) ident_rule.reads hidden_a (verdicts.stuck 0)
unfolding verdict run tree
closed_verdict g w = by_run (open_grammar g) ident_rule.reads hidden_a (verdicts.stuck 0) w refl refl

pub invisible_example : InvisibleExample
invisible_example = record {
  opened = λ g. (
    tree_rule,
    applies_once (open_grammar g) FnLike hidden_a tree_rule
        (item no_items (taken (codes "x") styles.stripped hidden_a)) refl refl
        ((_, refl, (refl, refl)), refl) refl,
    this_one _ _ _,
    (_, (_, _, refl, refl, refl), refl),
  );
  closed = closed_verdict;
  entered = λ g. (
    hidden_rule,
    applies_once (open_grammar g) FnLike hidden_a hidden_rule
        (item no_items (grouped (item no_items (taken (codes "x") styles.stripped (text_at 1 0 (codes "a") none)))))
        refl refl
        ((_, refl, (refl, (_, refl, (refl, refl)), refl)), refl) refl,
    this_one _ _ _,
    (_, (_, _, refl, refl, refl), refl),
  );
}

-- ---- a name that comes twice

abbrev word_item : ℕ → List ℕ → Item
word_item start text = taken (codes "x") styles.stripped (text_at 1 start text none)

abbrev stays_argument : Forest
stays_argument = a_at 0 (text_at 1 2 (codes "b") (text_at 1 4 (codes "c") none))

abbrev stays_items : Items
stays_items =
    item (item no_items (word_item 0 (codes "a")))
    (rounds (round no_rounds (item no_items (word_item 2 (codes "b"))) 0) (item no_items (word_item 4 (codes "c"))))

stays_read : (g : Grammar) → IsReading (open_grammar g) one_then_list.reads stays_argument stays_items
stays_read g = (
  (
    _,
    (_, refl, (refl, refl)),
    (
      (tt, tt, (_, refl, (refl, refl)), refl),
      (
        _,
        refl,
        (refl, refl),
      ),
    ),
  ),
  refl,
)

stays_applies : (g : Grammar) → IsLawful (open_grammar g) → Applies (open_grammar g) FnLike stays_argument one_then_list
unfolding verdict run tree
stays_applies g w = applies_by_run (open_grammar g) FnLike stays_argument one_then_list stays_items w refl refl refl
    (stays_read g) refl

abbrev replaces_argument : Forest
replaces_argument = a_at 0 (text_at 1 2 (codes "b") (alone_at 1 4 59 (text_at 1 6 (codes "c") none)))

abbrev replaces_items : Items
replaces_items =
    item (item (item no_items (rounds (round no_rounds (item no_items (word_item 0 (codes "a"))) 0)
    (item no_items (word_item 2 (codes "b"))))) (matched 1)) (word_item 6 (codes "c"))

replaces_read : (g : Grammar) → IsReading (open_grammar g) list_then_one.reads replaces_argument replaces_items
replaces_read g = (
  (
    _,
    (_, (_, refl, ((tt, tt, (_, refl, (refl, refl)), refl), (_, refl, (refl, refl)))), refl),
    (refl, refl),
  ),
  refl,
)

replaces_applies : (g : Grammar) → IsLawful (open_grammar g)
    → Applies (open_grammar g) FnLike replaces_argument list_then_one
unfolding verdict run tree
replaces_applies g w = applies_by_run (open_grammar g) FnLike replaces_argument list_then_one replaces_items w refl
    refl refl
    (replaces_read g) refl

abbrev appended_argument : Forest
appended_argument = a_at 0 (alone_at 1 2 59 (text_at 1 4 (codes "b") (alone_at 1 5 44 (text_at 1 7 (codes "c") none))))

abbrev appended_items : Items
appended_items =
    item (item (item no_items (rounds no_rounds (item no_items (word_item 0 (codes "a"))))) (matched 1))
    (rounds (round no_rounds (item no_items (word_item 4 (codes "b"))) 1) (item no_items (word_item 7 (codes "c"))))

appended_read : (g : Grammar) → IsReading (open_grammar g) two_lists.reads appended_argument appended_items
appended_read g = (
  (
    _,
    (_, (_, refl, (tt, (_, refl, (refl, refl)))), refl),
    ((tt, tt, (_, refl, (refl, refl)), refl), (_, refl, (refl, refl))),
  ),
  refl,
)

appended_applies : (g : Grammar) → IsLawful (open_grammar g)
    → Applies (open_grammar g) FnLike appended_argument two_lists
unfolding verdict run tree
appended_applies g w = applies_by_run (open_grammar g) FnLike appended_argument two_lists appended_items w refl refl
    refl
    (appended_read g) refl

abbrev skipped_argument : Forest
skipped_argument = alone_at 1 0 59 (text_at 1 2 (codes "b") none)

abbrev skipped_items : Items
skipped_items =
    item (item (item no_items (skipped (codes "x" ∷ []))) (matched 1))
    (rounds no_rounds (item no_items (word_item 2 (codes "b"))))

skipped_read : (g : Grammar) → IsReading (open_grammar g) two_lists.reads skipped_argument skipped_items
skipped_read g = ((_, (_, (_, refl, (tt, refl)), refl), (tt, (_, refl, (refl, refl)))), refl)

skipped_applies : (g : Grammar) → IsLawful (open_grammar g) → Applies (open_grammar g) FnLike skipped_argument two_lists
unfolding verdict run tree
skipped_applies g w = applies_by_run (open_grammar g) FnLike skipped_argument two_lists skipped_items w refl refl refl
    (skipped_read g) refl

pub names_example : NamesExample
unfolding stays_applies replaces_applies appended_applies skipped_applies
names_example = record {
  stays = λ g w. (one_then_list, stays_applies g w, this_one _ _ _, (_, (_, _, refl, refl, refl), refl));
  replaces = λ g w. (list_then_one, replaces_applies g w, this_one _ _ _, (_, (_, _, refl, refl, refl), refl));
  appended = λ g w. (
    two_lists,
    appended_applies g w,
    this_one _ _ _,
    (
      _,
      (
        _,
        _,
        (_, _, (_, _, (_, _, refl, refl, refl), (_, _, refl, refl, refl), refl), (_, _, refl, refl, refl), refl),
        refl,
        refl,
      ),
      refl,
    ),
  );
  beside = λ g. (
    beside_rule,
    applies_once (open_grammar g) FnLike
        (a_at 0 (group (delimiter_of Parenthesis (at 1 2 3) (at 1 4 5)) (text_at 1 3 (codes "b") none)
        none)) beside_rule
        (item (item no_items (word_item 0 (codes "a")))
        (grouped (item no_items (taken (codes "y") styles.stripped (text_at 1 3 (codes "b") none))))) refl refl
        ((_, (_, refl, (refl, refl)), (refl, (_, refl, (refl, refl)), refl)), refl) refl,
    this_one _ _ _,
    (_, (_, _, refl, (_, _, refl, refl, refl), refl), refl),
  );
  skipped = λ g w. (two_lists, skipped_applies g w, this_one _ _ _, (_, (_, _, refl, refl, refl), refl));
}

-- ---- of two rules that fit and fault

abbrev number_of : Items → ℕ
number_of is = min (binding_total (environment_of is)) (2 ^ 64 - 1)

abbrev bound_in_rule : ℕ → ℕ → ℕ → ℕ
bound_in_rule a b zero = a
bound_in_rule a b (suc n) = b

module _ (g : Grammar) (argument : Forest) (r q : Rule) (is js : Items) (r_fits : Fits g r.reads argument is)
    (q_fits : Fits g q.reads argument js)
    (r_styled : r.style ≡ FnLike) (q_styled : q.style ≡ FnLike) where
  abbrev all_left : ℕ
  all_left = unmatched argument verdicts.one_reading

  r_verdict : IsVerdict g r.reads argument verdicts.one_reading
  r_verdict = (r_fits.0, (is, r_fits.1))

  q_verdict : IsVerdict g q.reads argument verdicts.one_reading
  q_verdict = (q_fits.0, (js, q_fits.1))

  left_at : (m : ℕ) (s : Rule) → IsStyledAt (r ∷ q ∷ []) FnLike m s
      → (v : Verdict) × IsVerdict g s.reads argument v × (all_left ≡ unmatched argument v)
  left_at zero s p = (
    verdicts.one_reading,
    subst (λ x. IsVerdict g x.reads argument verdicts.one_reading) (same_Some r s p.0) r_verdict,
    refl,
  )
  left_at (suc zero) s p = (
    verdicts.one_reading,
    subst (λ x. IsVerdict g x.reads argument verdicts.one_reading) (same_Some q s p.0) q_verdict,
    refl,
  )
  left_at (suc (suc m)) s p = absurd (none-some s p.0)

  bound_number : (m : ℕ) (s : Rule) (ks : Items) → IsStyledAt (r ∷ q ∷ []) FnLike m s → Fits g s.reads argument ks
      → bound_in_rule (number_of is) (number_of js) m ≡ number_of ks
  bound_number zero s ks p f = ap number_of
      ((subst (λ x. Fits g x.reads argument ks) (sym (same_Some r s p.0)) f).1.1 is r_fits.1.0)
  bound_number (suc zero) s ks p f = ap number_of
      ((subst (λ x. Fits g x.reads argument ks) (sym (same_Some q s p.0)) f).1.1 js q_fits.1.0)
  bound_number (suc (suc m)) s ks p f = absurd (none-some s p.0)

  first_closest : number_of js ≤ number_of is → IsClosest g FnLike argument (r ∷ q ∷ []) 0
  first_closest h =
      record {
        left = λ m. all_left;
        bound = bound_in_rule (number_of is) (number_of js);
        rule = r;
        styled = (refl, r_styled);
        unmatched_trees = left_at;
        bindings = bound_number;
        first = goes_before;
      }
    where
      either : (a b : ℕ) → b ≤ a → (b < a) ⊎ (b ≡ a)
      either a b l = grind (arith, l)

      goes_before : (m : ℕ) (s : Rule) → IsStyledAt (r ∷ q ∷ []) FnLike m s
          → IsCloser (λ x. all_left) (bound_in_rule (number_of is) (number_of js)) 0 m
      goes_before zero s p = ◌⊎◌.inr (refl, ◌⊎◌.inr (refl, omega arith))
      goes_before (suc m) s p = elim (either (number_of is) (number_of js) h)
          [ ◌⊎◌.inl l ↦ ◌⊎◌.inr (refl, ◌⊎◌.inl l) | ◌⊎◌.inr e ↦ ◌⊎◌.inr (refl, ◌⊎◌.inr (e, omega arith)) ]

  second_closest : number_of is < number_of js → IsClosest g FnLike argument (r ∷ q ∷ []) 1
  second_closest h =
      record {
        left = λ m. all_left;
        bound = bound_in_rule (number_of is) (number_of js);
        rule = q;
        styled = (refl, q_styled);
        unmatched_trees = left_at;
        bindings = bound_number;
        first = goes_before;
      }
    where
      goes_before : (m : ℕ) (s : Rule) → IsStyledAt (r ∷ q ∷ []) FnLike m s
          → IsCloser (λ x. all_left) (bound_in_rule (number_of is) (number_of js)) 1 m
      goes_before zero s p = ◌⊎◌.inr (refl, ◌⊎◌.inl h)
      goes_before (suc m) s p = ◌⊎◌.inr (refl, ◌⊎◌.inr (refl, omega arith))

  module _ (n : ℕ) (c : IsClosest g FnLike argument (r ∷ q ∷ []) n) where
    same_left : c.left 0 ≡ c.left 1
    same_left =
        let a = c.unmatched_trees 0 r (refl, r_styled) in
        let b = c.unmatched_trees 1 q (refl, q_styled) in
        (a.2 ∙ ap (unmatched argument) (one_verdict g r.reads argument a.0 verdicts.one_reading a.1 r_verdict))
        ∙ sym (b.2 ∙ ap (unmatched argument) (one_verdict g q.reads argument b.0 verdicts.one_reading b.1 q_verdict))

    r_bound : c.bound 0 ≡ number_of is
    r_bound = c.bindings 0 r is (refl, r_styled) r_fits

    q_bound : c.bound 1 ≡ number_of js
    q_bound = c.bindings 1 q js (refl, q_styled) q_fits

  first_not : number_of is < number_of js → IsClosest g FnLike argument (r ∷ q ∷ []) 0 → ⊥
  first_not h c = go (c.first 1 q (refl, q_styled)) (same_left 0 c) (r_bound 0 c) (q_bound 0 c)
    where
      go : IsCloser c.left c.bound 0 1 → c.left 0 ≡ c.left 1 → c.bound 0 ≡ number_of is → c.bound 1 ≡ number_of js → ⊥
      go (◌⊎◌.inl l) e x y = omega (arith, l, e)
      go (◌⊎◌.inr (d, ◌⊎◌.inl l)) e x y = omega (arith, l, x, y, h)
      go (◌⊎◌.inr (d, ◌⊎◌.inr l)) e x y = let z = l.0 in omega (arith, z, x, y, h)

  second_not : number_of js ≤ number_of is → IsClosest g FnLike argument (r ∷ q ∷ []) 1 → ⊥
  second_not h c = go (c.first 0 r (refl, r_styled)) (same_left 1 c) (r_bound 1 c) (q_bound 1 c)
    where
      go : IsCloser c.left c.bound 1 0 → c.left 0 ≡ c.left 1 → c.bound 0 ≡ number_of is → c.bound 1 ≡ number_of js → ⊥
      go (◌⊎◌.inl l) e x y = omega (arith, l, e)
      go (◌⊎◌.inr (d, ◌⊎◌.inl l)) e x y = omega (arith, l, x, y, h)
      go (◌⊎◌.inr (d, ◌⊎◌.inr l)) e x y = let z = l.1 in omega (arith, z)

abbrev first_items : Items
first_items = item (item no_items (matched 1)) (taken (codes "x") styles.stripped (text_at 1 2 (codes "q") none))

abbrev second_items : Items
second_items = item (item no_items (taken (codes "x") styles.stripped (text_at 1 0 (codes "p") none)))
    (taken (codes "y") styles.stripped (text_at 1 2 (codes "q") none))

first_fits : (g : Grammar) → Fits (open_grammar g) one_binding.reads pq_argument first_items
first_fits g = fits_once (open_grammar g) one_binding.reads pq_argument first_items refl
    ((_, (_, refl, refl), (refl, refl)), refl)

second_fits : (g : Grammar) → Fits (open_grammar g) two_bindings.reads pq_argument second_items
second_fits g = fits_once (open_grammar g) two_bindings.reads pq_argument second_items refl
    ((_, (_, refl, (refl, refl)), (refl, refl)), refl)

pub most_bindings_example : MostBindingsExample
most_bindings_example = record {
  closest = λ g. second_closest (open_grammar g) pq_argument one_binding two_bindings first_items second_items
      (first_fits g)
      (second_fits g) refl refl (omega arith);
  only = λ g. first_not (open_grammar g) pq_argument one_binding two_bindings first_items second_items (first_fits g)
      (second_fits g)
      refl refl (omega arith);
}

abbrev p_items : List ℕ → Items
p_items name = item no_items (taken name styles.stripped p_argument)

earlier_fits : (g : Grammar) → Fits (open_grammar g) earlier_rule.reads p_argument (p_items (codes "x"))
earlier_fits g = fits_once (open_grammar g) earlier_rule.reads p_argument (p_items (codes "x")) refl (
  (
    _,
    refl,
    (refl, refl),
  ),
  refl,
)

later_fits : (g : Grammar) → Fits (open_grammar g) later_rule.reads p_argument (p_items (codes "y"))
later_fits g = fits_once (open_grammar g) later_rule.reads p_argument (p_items (codes "y")) refl
    ((_, refl, (refl, refl)), refl)

pub earliest_example : EarliestExample
earliest_example = record {
  closest = λ g. first_closest (open_grammar g) p_argument earlier_rule later_rule (p_items (codes "x"))
      (p_items (codes "y"))
      (earlier_fits g) (later_fits g) refl refl (omega arith);
  only = λ g. second_not (open_grammar g) p_argument earlier_rule later_rule (p_items (codes "x")) (p_items (codes "y"))
      (earlier_fits g) (later_fits g) refl refl (omega arith);
}

-- ---- a marker that sets a context

pub marked_example : MarkedExample
unfolding digits
marked_example = record {
  tokens = λ g. (
    _,
    (
      _,
      _,
      (_, refl, refl),
      (_, _, (_, _, _, refl, refl, (_, _, refl, refl, refl), refl), refl, refl),
      refl,
    ),
    refl,
  );
  separator = λ g. (
    _,
    (
      _,
      _,
      (
        _,
        _,
        (_, _, refl, (_, _, refl, refl, refl), refl),
        (_, _, refl, (_, _, refl, refl, refl), refl),
        refl,
      ),
      refl,
      refl,
    ),
    refl,
  );
  unbound = λ g. (_, (_, _, refl, refl, refl), refl);
  parentheses = (_, refl, refl);
}
