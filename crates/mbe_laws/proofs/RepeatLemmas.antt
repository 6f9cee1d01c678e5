-- Whole expansions of small definitions whose patterns repeat.
use Rattle.std.specs.Prelude.{◌≡◌, ◌≢◌, ◌≤◌, ◌+◌, ℕ, Bool, true, false, [], ◌∷◌, codes, Some, None, refl, ◌<◌}
use Rattle.std.proofs.Common.{arith, ap, sym, ◌∙◌}
use Rattle.std.proofs.Math.Bool.{false≢true}
use Rattle.std.specs.Fmt.{digits}
use Rattle.mbe_tt.specs.Trees.Tree.{none}
use Rattle.mbe_tt.specs.Grammars.Grammar.{Grammar}
use Rattle.mbe_semantics.specs.declared.macro_call_style.MacroCallStyle.TheVariants.{FnLike}
use Rattle.mbe_semantics.specs.declared.fragment_kinds.MetaVarKind.TheVariants as kinds
use Rattle.mbe_semantics.specs.Syntax.Template.{nothing, token, variable, repeated, undated}
use Rattle.mbe_tt.specs.declared.grammar.PrefixEntryPoint.TheVariants.{Vis}
use Rattle.mbe_semantics.specs.Expansion.Expansion.{Applies, this_one, a_later_one}
use Rattle.mbe_semantics.specs.Examples.Sample.{open_grammar}
use Rattle.mbe_semantics.specs.Examples.Sample.{taken, text_at}
use Rattle.mbe_semantics.specs.Examples.Examples.{ListExample, list_rule, list_argument, IndexExample, index_rule}
use Rattle.mbe_semantics.specs.Examples.Examples.{two_words, UnknownExample, unknown_rule, any_rule, one_a}
use Rattle.mbe_semantics.specs.Examples.Examples.{EmptyExample, empty_rule, ZipExample, zip_rule, zip_argument}
use Rattle.mbe_semantics.specs.Examples.Examples.{CountExample, count_rule, count_argument}
use Rattle.mbe_laws.proofs.RuleLemmas.{answer_fragment, fits_by_run, applies_by_run, by_run, closest_alone, parts}
use Rattle.mbe_laws.proofs.RuleLemmas.{never_final}
use Rattle.mbe_laws.proofs.RuleLemmas.{defines_one, defines_two}
use Rattle.mbe_semantics.specs.Fragments.Kinds as styles
use Rattle.mbe_semantics.specs.Readings.Item.{Fragment, Item, matched, bound, skipped, rounds, Items, no_items, item}
use Rattle.mbe_semantics.specs.Readings.Item.{no_rounds, round, items_width}
use Rattle.mbe_semantics.specs.Readings.Ambiguity.{IsReading}
use Rattle.mbe_semantics.specs.Readings.Input.{input_of}
use Rattle.mbe_semantics.specs.Readings.Reading.{PartialReading}
use Rattle.mbe_semantics.specs.Readings.Verdict as verdicts
use Rattle.mbe_semantics.specs.Readings.Verdict.{IsVerdict, many_readings}
use Rattle.mbe_semantics.specs.Matching.Run.{run, verdict}
use Rattle.mbe_semantics.specs.Readings.Steps.{tree}
use Rattle.mbe_semantics.specs.Readings.Ambiguity.{StepsOver}
use Rattle.mbe_laws.proofs.Matching.Moves.{next-takes}
use Rattle.mbe_semantics.proofs.InputLemmas.{lawful_input}
use Rattle.mbe_tt.specs.Grammars.Grammar.{IsLawful}

-- ---- lists

abbrev list_items : Items
list_items = item no_items (rounds (round no_rounds
    (item no_items (taken (codes "x") styles.stripped (text_at 1 0 (codes "a") none))) 1)
    (item no_items (taken (codes "x") styles.stripped (text_at 1 3 (codes "b") none))))

list_applies : (g : Grammar) → IsLawful (open_grammar g) → Applies (open_grammar g) FnLike list_argument list_rule
unfolding verdict run tree
list_applies g w = applies_by_run (open_grammar g) FnLike list_argument list_rule list_items w refl refl refl (
  (
    _,
    refl,
    ((tt, tt, (_, refl, (refl, refl)), refl), (_, refl, (refl, refl))),
  ),
  refl,
) refl

pub list_example : ListExample
unfolding list_applies
list_example = record {
  defines = defines_one _ _ _ refl
      (parts refl (repeated _ _ _ _ _ _ _ refl (variable _ _ _ _ _ _ _ refl (undated refl refl)
      (nothing _ refl)) (nothing _ refl))
      (repeated _ _ _ _ _ _ _ refl (token _ _ _ _ refl (nothing _ refl)) (nothing _ refl))) refl refl;
  expands = λ g w. (
    list_rule,
    list_applies g w,
    this_one _ _ _,
    (_, (_, _, (_, _, (_, _, refl, refl, refl), (_, _, refl, refl, refl), refl), refl, refl), refl),
  );
}

index_applies_run : (g : Grammar) → verdict (open_grammar g) index_rule.reads two_words ≡ verdicts.one_reading
unfolding verdict run tree
index_applies_run g = refl

index_applies : (g : Grammar) → IsLawful (open_grammar g) → Applies (open_grammar g) FnLike two_words index_rule
index_applies g w = record {
  styled = refl;
  items = (item no_items (rounds (round no_rounds
      (item no_items (taken (codes "x") styles.stripped (text_at 1 0 (codes "a") none))) 0)
      (item no_items (taken (codes "x") styles.stripped (text_at 1 2 (codes "b") none)))));
  fits = fits_by_run (open_grammar g) index_rule.reads two_words
      (item no_items (rounds (round no_rounds
      (item no_items (taken (codes "x") styles.stripped (text_at 1 0 (codes "a") none))) 0)
      (item no_items (taken (codes "x") styles.stripped (text_at 1 2 (codes "b") none))))) w refl
      (index_applies_run g) (
        (_, refl, ((tt, tt, (_, refl, (refl, refl)), refl), (_, refl, (refl, refl)))),
        refl,
      );
  faultless = refl;
}

pub index_example : IndexExample
unfolding index_applies digits
index_example = record {
  defines = defines_one _ _ _ refl
      (parts refl (repeated _ _ _ _ _ _ _ refl (variable _ _ _ _ _ _ _ refl (undated refl refl)
      (nothing _ refl)) (nothing _ refl))
      (repeated _ _ _ _ _ _ _ refl (token _ _ _ _ refl (token _ _ _ _ refl (token _ _ _ _ refl
      (nothing _ refl)))) (nothing _ refl))) refl refl;
  expands = λ g w. (
    index_rule,
    index_applies g w,
    this_one _ _ _,
    (
      _,
      (
        _,
        _,
        (
          _,
          _,
          (_, _, refl, (_, _, refl, (_, _, refl, refl, refl), refl), refl),
          (_, _, refl, (_, _, refl, (_, _, refl, refl, refl), refl), refl),
          refl,
        ),
        refl,
        refl,
      ),
      refl,
    ),
  );
}

unknown_run : (g : Grammar) → verdict (open_grammar g) unknown_rule.reads one_a ≡ verdicts.stuck 0
unfolding verdict run tree
unknown_run g = refl

no_unknown : (g : Grammar) → IsLawful (open_grammar g) → (is : Items)
    → IsReading (open_grammar g) unknown_rule.reads one_a is → ⊥
no_unknown g w = (by_run (open_grammar g) unknown_rule.reads one_a (verdicts.stuck 0) w refl (unknown_run g)).1

any_applies_run : (g : Grammar) → verdict (open_grammar g) any_rule.reads one_a ≡ verdicts.one_reading
unfolding verdict run tree
any_applies_run g = refl

any_applies : (g : Grammar) → IsLawful (open_grammar g) → Applies (open_grammar g) FnLike one_a any_rule
any_applies g w = record {
  styled = refl;
  items = (item no_items (rounds no_rounds (item no_items (taken (codes "t") styles.stripped one_a))));
  fits = fits_by_run (open_grammar g) any_rule.reads one_a
      (item no_items (rounds no_rounds (item no_items (taken (codes "t") styles.stripped one_a)))) w refl
      (any_applies_run g) ((_, refl, (tt, (_, refl, (refl, refl)))), refl);
  faultless = refl;
}

pub unknown_example : UnknownExample
unknown_example = record {
  defines = defines_two _ _ _ _ _ _ refl
      (parts refl (variable _ _ _ _ _ _ _ refl (undated refl refl) (nothing _ refl))
      (nothing _ refl)) refl refl
      (parts refl (repeated _ _ _ _ _ _ _ refl (variable _ _ _ _ _ _ _ refl (undated refl refl)
      (nothing _ refl)) (nothing _ refl))
      (nothing _ refl)) refl refl;
  expands = λ g w. (
    any_rule,
    any_applies g w,
    a_later_one _ _ _ 0 1 _ (λ a. no_unknown g w a.items (a.fits).1.0)
        (never_final g FnLike one_a unknown_rule) (this_one _ _ _) refl,
    (_, refl, refl),
  );
}

abbrev zip_items : Items
zip_items =
    item (item (item no_items (rounds (round
    (round no_rounds (item no_items (taken (codes "a") styles.stripped (text_at 1 0 (codes "p") none))) 0)
    (item no_items (taken (codes "a") styles.stripped (text_at 1 2 (codes "q") none))) 0)
    (item no_items (taken (codes "a") styles.stripped (text_at 1 4 (codes "r") none))))) (matched 1))
    (rounds (round no_rounds (item no_items (taken (codes "b") styles.stripped (text_at 1 8 (codes "s") none))) 0)
    (item no_items (taken (codes "b") styles.stripped (text_at 1 10 (codes "t") none))))

zip_read : (g : Grammar) → IsReading (open_grammar g) zip_rule.reads zip_argument zip_items
zip_read g = (
  (
    _,
    (
      _,
      (
        _,
        refl,
        (
          (tt, (tt, tt, (_, refl, (refl, refl)), refl), (_, refl, (refl, refl)), refl),
          (_, refl, (refl, refl)),
        ),
      ),
      refl,
    ),
    ((tt, tt, (_, refl, (refl, refl)), refl), (_, refl, (refl, refl))),
  ),
  refl,
)

zip_applies : (g : Grammar) → IsLawful (open_grammar g) → Applies (open_grammar g) FnLike zip_argument zip_rule
unfolding verdict run tree
zip_applies g w = applies_by_run (open_grammar g) FnLike zip_argument zip_rule zip_items w refl refl refl (zip_read g)
    refl

pub zip_example : ZipExample
unfolding zip_applies
zip_example = record {
  items = zip_items;
  defines = defines_one _ _ _ refl
      (parts refl (repeated _ _ _ _ _ _ _ refl (variable _ _ _ _ _ _ _ refl (undated refl refl)
      (nothing _ refl)) (token _ _ _ _ refl (repeated _ _ _ _ _ _ _ refl (variable _ _ _ _ _ _ _ refl
      (undated refl refl) (nothing _ refl)) (nothing _ refl))))
      (repeated _ _ _ _ _ _ _ refl (token _ _ _ _ refl (token _ _ _ _ refl (nothing _ refl)))
      (nothing _ refl))) refl refl;
  reads = zip_read;
  expands = λ g w. (
    zip_rule,
    zip_applies g w,
    this_one _ _ _,
    (
      _,
      (
        _,
        _,
        (
          _,
          _,
          (_, _, refl, (_, _, refl, refl, refl), refl),
          (_, _, refl, (_, _, refl, refl, refl), refl),
          refl,
        ),
        refl,
        refl,
      ),
      refl,
    ),
  );
}

abbrev count_items : Items
count_items =
    item no_items (rounds (round no_rounds
    (item no_items (rounds (round no_rounds
    (item no_items (taken (codes "x") styles.stripped (text_at 1 0 (codes "a") none))) 0)
    (item no_items (taken (codes "x") styles.stripped (text_at 1 2 (codes "b") none))))) 1)
    (item no_items (rounds no_rounds (item no_items
    (taken (codes "x") styles.stripped (text_at 1 5 (codes "c") none))))))

count_read : (g : Grammar) → IsReading (open_grammar g) count_rule.reads count_argument count_items
count_read g = (
  (
    _,
    refl,
    (
      (
        tt,
        tt,
        (_, refl, ((tt, tt, (_, refl, (refl, refl)), refl), (_, refl, (refl, refl)))),
        refl,
      ),
      (_, refl, (tt, (_, refl, (refl, refl)))),
    ),
  ),
  refl,
)

count_applies : (g : Grammar) → IsLawful (open_grammar g) → Applies (open_grammar g) FnLike count_argument count_rule
unfolding verdict run tree
count_applies g w = applies_by_run (open_grammar g) FnLike count_argument count_rule count_items w refl refl refl
    (count_read g) refl

pub count_example : CountExample
unfolding digits count_applies
count_example = record {
  items = count_items;
  defines = defines_one _ _ _ refl
      (parts refl (repeated _ _ _ _ _ _ _ refl (repeated _ _ _ _ _ _ _ refl (variable _ _ _ _ _ _ _ refl
      (undated refl refl) (nothing _ refl)) (nothing _ refl)) (nothing _ refl))
      (token _ _ _ _ refl (token _ _ _ _ refl (nothing _ refl)))) refl refl;
  reads = count_read;
  expands = λ g w. (
    count_rule,
    count_applies g w,
    this_one _ _ _,
    (_, (_, _, refl, (_, _, refl, refl, refl), refl), refl),
  );
}

-- ---- two readings of nothing

skipped_round : Items
skipped_round = item no_items (skipped (codes "v" ∷ []))

empty_round : Items
empty_round = item no_items (rounds no_rounds (item no_items (taken (codes "v") styles.plain none)))

abbrev has_round : Items → Bool
has_round (item is (rounds rs last)) = true
has_round _ = false

empty_differ : skipped_round ≢ empty_round
unfolding skipped_round empty_round
empty_differ e = false≢true (ap has_round e)

-- nothing goes on in front of no trees
never_goes : (g : Grammar) → IsLawful (open_grammar g) → (q n : ℕ) (f : Bool) (x : PartialReading)
    → StepsOver (input_of (open_grammar g) none) q n f x → ⊥
never_goes g w q n f x h =
    let l : (0 < n) × (q + n ≤ 0) = next-takes (input_of (open_grammar g) none) 0 q n f x h.0
    (lawful_input (open_grammar g) none w) h.1 in
    let a = l.0 in let b = l.1 in omega (arith, a, b)

empty_skipped : (g : Grammar) → IsReading (open_grammar g) empty_rule.reads none skipped_round
unfolding skipped_round
empty_skipped g = ((_, refl, (tt, refl)), refl)

empty_read : (g : Grammar) → g.parse Vis [] ≡ record { count = 0; fault = false }
    → IsReading (open_grammar g) empty_rule.reads none empty_round
unfolding empty_round
empty_read g e = ((_, refl, (tt, (_, refl, (refl, ap (answer_fragment (Some kinds.Vis) none) e)))), refl)

empty_verdict : (g : Grammar) → IsLawful (open_grammar g) → g.parse Vis [] ≡ record { count = 0; fault = false }
    → IsVerdict (open_grammar g) empty_rule.reads none many_readings
empty_verdict g w e = (
  (λ q a. never_goes g w q a.n a.f a.one a.one_steps),
  (skipped_round, empty_round, empty_skipped g, empty_read g e, empty_differ),
)

pub empty_example : EmptyExample
empty_example = record {
  defines = defines_one _ _ _ refl
      (parts refl (repeated _ _ _ _ _ _ _ refl (variable _ _ _ _ _ _ _ refl (undated refl refl)
      (nothing _ refl)) (nothing _ refl))
      (nothing _ refl)) refl refl;
  verdict = empty_verdict;
  closest = λ g w e. closest_alone (open_grammar g) FnLike none empty_rule many_readings 0 refl (empty_verdict g w e)
      (λ is f. absurd (empty_differ (f.1.1 skipped_round (empty_skipped g)
      ∙ sym (f.1.1 empty_round (empty_read g e)))));
}
