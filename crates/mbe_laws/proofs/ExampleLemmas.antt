-- Whole expansions of small definitions.
use Rattle.std.specs.Prelude.{◌≡◌, ◌≢◌, ◌-◌, ◌^◌, ℕ, min, nat_le, Bool, true, false, [], ◌∷◌, None, refl, not, ◌&&◌}
use Rattle.std.specs.Prelude.{◌==◌, if◌then◌else◌, codes, Option, Some}
use Rattle.std.proofs.Common.{arith, ap, sym, ◌∙◌}
use Rattle.std.proofs.Math.Bool.{false≢true}
use Rattle.mbe_tt.specs.Trees.Tree.{Forest, none, flat_len, Cut, cut_flat}
use Rattle.mbe_tt.specs.Grammars.Grammar.{Grammar, IsLawful}
use Rattle.mbe_tt.specs.declared.grammar.Front.{Front}
use Rattle.mbe_semantics.specs.Expansion.Error.{ExpandError, binding_error}
use Rattle.mbe_semantics.specs.declared.macro_call_style.MacroCallStyle.{MacroCallStyle}
use Rattle.mbe_semantics.specs.declared.macro_call_style.MacroCallStyle.TheVariants.{FnLike, Attr}
use Rattle.mbe_semantics.specs.Syntax.Template.{nothing, token, variable, repeated, undated, dated_expr}
use Rattle.mbe_semantics.specs.Syntax.Definition.{separated, unseparated, no_rule}
use Rattle.mbe_semantics.specs.Bindings.Environment.{environment_of, binding_total}
use Rattle.mbe_semantics.specs.Expansion.Expansion.{Applies, FirstThatApplies, this_one, a_later_one}
use Rattle.mbe_semantics.specs.Examples.Sample.{open_grammar}
use Rattle.mbe_semantics.specs.Examples.Sample.{taken, at, text_at, joint_at, alone_at}
use Rattle.mbe_semantics.specs.Examples.Examples.{EndlessExample, endless_rule, simple_rule, one_a, StyledExample}
use Rattle.mbe_semantics.specs.Examples.Examples.{attr_rule, plain_rule, PathExample, path_rule, path_argument}
use Rattle.mbe_semantics.specs.Examples.Examples.{TextExample, literal_rule, raw_rule, UnboundExample, unbound_rule}
use Rattle.mbe_semantics.specs.Examples.Examples.{RefusedExample, TwiceExample, twice_rule, PunctsExample, puncts_rule}
use Rattle.mbe_semantics.specs.Examples.Examples.{DoubleExample, double_rule, sum_argument, LetExample, FrontExample}
use Rattle.mbe_semantics.specs.Examples.Examples.{front_argument, NoRuleExample, let_rule, let_argument}
use Rattle.mbe_laws.proofs.RuleLemmas.{answer_cut, answer_fragment, by_run, fits_once, applies_once, faulty_once}
use Rattle.mbe_laws.proofs.RuleLemmas.{never_final}
use Rattle.mbe_laws.proofs.RuleLemmas.{closest_alone, parts, defines_one, defines_two}
use Rattle.mbe_semantics.specs.Fragments.Kinds as styles
use Rattle.mbe_semantics.specs.Readings.Item.{Fragment, Item, matched, bound, skipped, rounds, Items, no_items, item}
use Rattle.mbe_semantics.specs.Readings.Item.{no_rounds, round, items_width}
use Rattle.mbe_semantics.specs.Readings.Ambiguity.{IsReading}
use Rattle.mbe_semantics.specs.declared.fragment_kinds.MetaVarKind.TheVariants as kinds
use Rattle.mbe_semantics.specs.declared.fragment_kinds.ExprKind.TheVariants as exprs
use Rattle.mbe_semantics.specs.Readings.Verdict as verdicts
use Rattle.mbe_semantics.specs.Readings.Verdict.{IsVerdict, stuck}
use Rattle.mbe_semantics.specs.Matching.Run.{run, verdict}
use Rattle.mbe_semantics.specs.Readings.Steps.{tree}
use Rattle.mbe_semantics.proofs.PlainLemmas.{one_reading}

-- ---- a template without an end

abbrev a_items : Items
a_items = item no_items (taken (codes "x") styles.stripped one_a)

endless_read : (g : Grammar) → IsReading (open_grammar g) endless_rule.reads one_a a_items
endless_read g = ((_, refl, (refl, refl)), refl)

simple_read : (g : Grammar) → IsReading (open_grammar g) simple_rule.reads one_a a_items
simple_read g = ((_, refl, (refl, refl)), refl)

endless_refused : (g : Grammar) → Applies (open_grammar g) FnLike one_a endless_rule → ⊥
endless_refused g = faulty_once (open_grammar g) FnLike one_a endless_rule a_items refl (endless_read g)
    (λ e. false≢true (sym e))

pub endless_example : EndlessExample
endless_example = record {
  defines = defines_two _ _ _ _ _ _ refl
      (parts refl (variable _ _ _ _ _ _ _ refl (undated refl refl) (nothing _ refl))
      (repeated _ _ _ _ _ _ _ refl (token _ _ _ _ refl (nothing _ refl)) (nothing _ refl))) refl refl
      (parts refl (variable _ _ _ _ _ _ _ refl (undated refl refl) (nothing _ refl))
      (token _ _ _ _ refl (nothing _ refl))) refl refl;
  expands = λ g. (
    simple_rule,
    applies_once (open_grammar g) FnLike one_a simple_rule a_items refl refl (simple_read g) refl,
    a_later_one _ _ _ 0 1 _ (endless_refused g) (never_final g FnLike one_a endless_rule) (this_one _ _ _) refl,
    (_, (_, _, refl, refl, refl), refl),
  );
  alone = λ g. closest_alone (open_grammar g) FnLike one_a endless_rule verdicts.one_reading 1 refl (
    (fits_once (open_grammar g) endless_rule.reads one_a a_items refl (endless_read g)).0,
    (a_items, (fits_once (open_grammar g) endless_rule.reads one_a a_items refl (endless_read g)).1),
  )
      (λ is f. ap (λ x. min (binding_total (environment_of x)) (2 ^ 64 - 1))
      (one_reading (open_grammar g) endless_rule.reads one_a a_items is refl (endless_read g) f.1.0));
  refused = λ g inside e. none_first g 0 e.0 e.1 e.2;
}
  where
    none_first : (g : Grammar) (n : ℕ) (r : _) (a : Applies (open_grammar g) FnLike one_a r)
        → FirstThatApplies (open_grammar g) FnLike one_a (endless_rule ∷ []) n r a → ⊥
    none_first g _ _ a (this_one _ _ _) = endless_refused g a
    none_first g _ _ a (a_later_one _ _ _ _ _ _ _ _ t _) = elim t [ ]

-- ---- rules of another style

pub styled_example : StyledExample
styled_example = record {
  defines = defines_two _ _ _ _ _ _ refl
      (parts refl (nothing _ refl) (token _ _ _ _ refl (nothing _ refl))) refl refl
      (parts refl (nothing _ refl) (token _ _ _ _ refl (nothing _ refl))) refl refl;
  styles = refl;
  expands = λ g. (
    plain_rule,
    applies_once (open_grammar g) FnLike none plain_rule no_items refl refl (refl, refl) refl,
    a_later_one _ _ _ 0 1 _ (λ a. attr_is_other a.styled) (never_final g FnLike none attr_rule) (this_one _ _ _) refl,
    (_, (_, _, (_, refl, refl), refl, refl), refl),
  );
}
  where
    is_attr : MacroCallStyle → Bool
    is_attr Attr = true
    is_attr _ = false

    attr_is_other : attr_rule.style ≡ FnLike → ⊥
    attr_is_other e = false≢true (sym (ap is_attr e))

-- ---- paths

pub path_example : PathExample
path_example = record {
  defines = defines_one _ _ _ refl
      (parts refl (variable _ _ _ _ _ _ _ refl (undated refl refl) (nothing _ refl))
      (token _ _ _ _ refl (nothing _ refl))) refl refl;
  expands = λ g e. (
    path_rule,
    applies_once (open_grammar g) FnLike path_argument path_rule
        (item no_items (taken (codes "p") styles.as_path path_argument)) refl
        refl
        (((_, refl, (refl, ap (answer_fragment (Some kinds.Path) path_argument) e)), refl)) refl,
    this_one _ _ _,
    (_, (_, _, refl, refl, refl), refl),
  );
}

-- ---- texts

pub text_example : TextExample
text_example = record {
  defines_literal = defines_one _ _ _ refl
      (parts refl (token _ _ _ _ refl (nothing _ refl)) (nothing _ refl)) refl refl;
  expands_literal = λ g. (
    literal_rule,
    applies_once (open_grammar g) FnLike _ literal_rule (item no_items (matched 1)) refl refl
        (((_, refl, refl), refl)) refl,
    this_one _ _ _,
    (_, refl, refl),
  );
  defines_raw = defines_one _ _ _ refl
      (parts refl (token _ _ _ _ refl (nothing _ refl)) (nothing _ refl)) refl refl;
  expands_raw = λ g. (
    raw_rule,
    applies_once (open_grammar g) FnLike _ raw_rule (item no_items (matched 1)) refl refl
        (((_, refl, refl), refl)) refl,
    this_one _ _ _,
    (_, refl, refl),
  );
}

pub unbound_example : UnboundExample
unbound_example = record {
  defines = defines_one _ _ _ refl
      (parts refl (nothing _ refl) (token _ _ _ _ refl (nothing _ refl))) refl refl;
  expands = λ g. (
    unbound_rule,
    applies_once (open_grammar g) FnLike none unbound_rule no_items refl refl (refl, refl) refl,
    this_one _ _ _,
    (_, (_, _, refl, refl, refl), refl),
  );
}

-- ---- definitions that are refused

pub refused_example : RefusedExample
refused_example = record {
  stray = (
    _,
    unseparated _ _ _ refl (parts refl (nothing _ refl) (nothing _ refl)) refl,
    refl,
  );
  nullable = defines_one _ _ _ refl
      (parts refl (repeated _ _ _ _ _ _ _ refl (repeated _ _ _ _ _ _ _ refl (variable _ _ _ _ _ _ _ refl
      (undated refl refl) (nothing _ refl)) (nothing _ refl)) (nothing _ refl))
      (nothing _ refl)) refl refl;
  cut_off = (_, no_rule _ _ (has_trees _ refl) refl, refl);
  unclosed = (_, no_rule _ _ (has_trees _ refl) refl, refl);
  doubled = (
    _,
    separated _ _ _ _ [] _ refl (parts refl (nothing _ refl) (nothing _ refl)) refl
        (no_rule _ _ (has_trees _ refl) refl),
    refl,
  );
  groups_first = (_, no_rule _ _ (has_trees _ refl) refl, refl);
}
  where
    has_trees : (f : Forest) → nat_le 1 (flat_len f) ≡ true → f ≢ none
    has_trees f h e = false≢true (sym (ap (λ x. nat_le 1 (flat_len x)) e) ∙ h)

-- ---- names bound twice

pub twice_example : TwiceExample
twice_example = record {
  defines = defines_one _ _ _ refl
      (parts refl (variable _ _ _ _ _ _ _ refl (undated refl refl) (variable _ _ _ _ _ _ _ refl
      (undated refl refl) (nothing _ refl)))
      (token _ _ _ _ refl (nothing _ refl))) refl refl;
  expands = λ g. (
    twice_rule,
    applies_once (open_grammar g) FnLike _ twice_rule (item
        (item no_items (taken (codes "x") styles.stripped (text_at 1 0 (codes "a") none)))
        (taken (codes "x") styles.stripped (text_at 1 2 (codes "b") none))) refl refl
        (((_, (_, refl, (refl, refl)), (refl, refl)), refl)) refl,
    this_one _ _ _,
    (_, (_, _, refl, refl, refl), refl),
  );
}

pub puncts_example : PunctsExample
puncts_example = record {
  defines = defines_one _ _ _ refl
      (parts refl (variable _ _ _ _ _ _ _ refl (undated refl refl) (variable _ _ _ _ _ _ _ refl
      (undated refl refl) (nothing _ refl)))
      (token _ _ _ _ refl (token _ _ _ _ refl (nothing _ refl)))) refl refl;
  expands = λ g. (
    puncts_rule,
    applies_once (open_grammar g) FnLike _ puncts_rule
        (item (item no_items (taken (codes "a") styles.stripped (joint_at 1 0 59 none)))
        (taken (codes "b") styles.stripped (alone_at 1 1 43 none))) refl refl
        (((_, (_, refl, (refl, refl)), (refl, refl)), refl)) refl,
    this_one _ _ _,
    (_, (_, _, refl, (_, _, refl, refl, refl), refl), refl),
  );
}

-- ---- expressions

pub double_example : DoubleExample
double_example = record {
  defines = defines_one _ _ _ refl
      (parts refl (variable _ _ _ _ _ _ _ refl (dated_expr _ refl refl) (nothing _ refl))
      (token _ _ _ _ refl (token _ _ _ _ refl (token _ _ _ _ refl (nothing _ refl))))) refl refl;
  expands = λ g e. (
    double_rule,
    applies_once (open_grammar g) FnLike sum_argument double_rule
        (item no_items (taken (codes "e") styles.as_expression sum_argument))
        refl refl
        (((_, refl, (refl, ap (answer_fragment (Some (kinds.Expr exprs.Expr)) sum_argument) e)), refl)) refl,
    this_one _ _ _,
    (
      _,
      (_, _, (_, refl, refl), (_, _, (_, _, refl, refl, refl), (_, _, (_, refl, refl), refl, refl), refl), refl),
      refl,
    ),
  );
}

let_verdict : (g : Grammar) → IsLawful (open_grammar g)
    → IsVerdict (open_grammar g) let_rule.reads let_argument (stuck 0)
unfolding verdict run tree
let_verdict g w = by_run (open_grammar g) let_rule.reads let_argument (stuck 0) w refl refl

pub let_example : LetExample
let_example = record {
  defines = defines_one _ _ _ refl
      (parts refl (variable _ _ _ _ _ _ _ refl (dated_expr _ refl refl) (nothing _ refl))
      (nothing _ refl)) refl refl;
  verdict = let_verdict;
  closest = λ g w. closest_alone (open_grammar g) FnLike let_argument let_rule (stuck 0) 0 refl (let_verdict g w)
      (λ is f. absurd ((let_verdict g w).1 is f.1.0));
}

-- ---- fronts

pub front_example : FrontExample
front_example = record {
  taken = λ g e. ap (λ a. cut_flat a.count front_argument) e;
  reported = λ g around e. ap reported_of e;
  refused = λ g e. ap taken_of e;
  faulty = λ g e. ap taken_of e;
  good = λ g e. ap taken_of e ∙ sym (ap (λ a. Some (cut_flat a.count front_argument)) e);
}
  where
    taken_of : Front → Option Cut
    taken_of = answer_cut front_argument

    reported_of : Front → Option ExpandError
    reported_of a =
        if not a.fault && (flat_len (cut_flat a.count front_argument).front == a.count) then None
        else Some (record { span = at 1 0 1; kind = binding_error (codes "expected Expr") })

pub no_rule_example : NoRuleExample
no_rule_example = record {
  styles = refl;
  text = refl;
  none_of_style = λ h. let k = (h.1).1 in
      absurd (omega (arith, k));
}
