-- What the definitions say of small definitions and arguments.
use Rattle.std.specs.Prelude.{nat_le, not, ◌&&◌, ◌==◌, if◌then◌else◌, codes, ◌≡◌, ◌≢◌, ◌⊎◌, Bool, true, false, [], ◌∷◌}
use Rattle.std.specs.Prelude.{Option, Some, None, refl}
use Rattle.std.proofs.Common.{arith, ap, sym, ◌∙◌}
use Rattle.std.specs.Fmt.{digits}
use Rattle.std.proofs.Math.Bool.{false≢true}
use Rattle.mbe_tt.specs.Trees.Tree.{none, group, cut_flat, flat_len}
use Rattle.mbe_semantics.specs.Syntax.Op as ops
use Rattle.mbe_semantics.specs.declared.fragment_kinds.MetaVarKind.TheVariants.{Vis}
use Rattle.mbe_semantics.specs.Readings.Item.{Fragment, Item, matched, grouped, skipped, rounds, Items, no_items, item}
use Rattle.mbe_semantics.specs.Readings.Item.{no_rounds}
use Rattle.mbe_semantics.specs.Readings.Input.{fragment_of}
use Rattle.mbe_semantics.specs.Readings.Reading.{within, PartialReading, partial}
use Rattle.mbe_semantics.specs.Readings.Steps.{tree}
use Rattle.mbe_semantics.specs.Readings.Ambiguity.{IsReading, IsAmbiguousAt, Fits}
use Rattle.mbe_semantics.specs.Readings.Verdict.{IsVerdict, one_reading, many_readings, ambiguous}
use Rattle.mbe_semantics.specs.Matching.Run.{run, verdict}
use Rattle.mbe_semantics.proofs.PlainLemmas as plain
use Rattle.mbe_laws.proofs.Patterns.WordLemmas.{words_never_ambiguous}
use Rattle.mbe_laws.proofs.RuleLemmas.{by_run, fits_by_run, closest_alone, parts, defines_one}
use Rattle.mbe_semantics.specs.Syntax.Op.{Op, Ops, no_ops, op}
use Rattle.mbe_tt.specs.Grammars.Grammar.{Grammar, IsLawful}
use Rattle.mbe_semantics.specs.Syntax.Template.{pattern, template, Template, nothing, token, variable, grouped}
use Rattle.mbe_semantics.specs.Syntax.Template.{repeated, undated}
use Rattle.mbe_semantics.specs.Examples.Sample.{open_grammar}
use Rattle.mbe_semantics.specs.Examples.FirstExamples.{pair_reads, pair_writes, PairExample, pair_rule, pair_argument}
use Rattle.mbe_semantics.specs.Examples.FirstExamples.{pair_items, CastExample, cast_pattern, cast_argument, cast_rule}
use Rattle.mbe_semantics.specs.Examples.FirstExamples.{OptionalExample, twice_pattern, twice_argument, twice_rule}
use Rattle.mbe_semantics.specs.Examples.FirstExamples.{QuoteExample, quote_pattern, quote_argument, quote_rule}
use Rattle.mbe_semantics.specs.Examples.FirstExamples.{RoundsExample, bx_pattern, bx_argument, bx_rule}
use Rattle.mbe_semantics.specs.Examples.FirstExamples.{TemplateExamples, DefinitionExamples, VerdictExamples}
use Rattle.mbe_semantics.specs.Examples.FirstExamples.{group_pattern, list_pattern, x_variable, token_of, comma}
use Rattle.mbe_semantics.specs.Examples.FirstExamples.{in_parentheses, a_then, comma_then, bx_items, of_kind}
use Rattle.mbe_semantics.specs.Examples.FirstExamples.{list_between, quote_then, arrow_pattern}
use Rattle.mbe_semantics.specs.Examples.Sample.{is_2024, delimiter_of, at, word, mark, punct_of}
use Rattle.mbe_semantics.specs.declared.fragment_kinds.MetaVarKind.TheVariants as kinds
use Rattle.mbe_semantics.specs.declared.fragment_kinds.ExprKind.TheVariants as exprs
use Rattle.mbe_tt.specs.declared.tt.LitKind.TheVariants.{Str}
use Rattle.mbe_tt.specs.declared.tt.Spacing.TheVariants.{Alone, Joint}
use Rattle.mbe_semantics.specs.declared.fragment_kinds.RepeatKind.TheVariants.{ZeroOrOne, ZeroOrMore, OneOrMore}
use Rattle.mbe_tt.specs.declared.tt.DelimiterKind.TheVariants.{Parenthesis, Brace}
use Rattle.mbe_semantics.specs.Expansion.Expansion.{Applies, this_one}
use Rattle.mbe_semantics.specs.declared.macro_call_style.MacroCallStyle.TheVariants.{FnLike}
use Rattle.mbe_tt.specs.declared.grammar.Dialect.TheVariants.{RustAnalyzer}
use Rattle.mbe_tt.specs.declared.grammar.Front.{Front}
use Rattle.mbe_semantics.specs.Syntax.Definition.{unseparated, no_rule}

pair_read : (g : Grammar) → IsReading (open_grammar g) pair_rule.reads pair_argument pair_items
pair_read g = ((_, (_, (_, (_, refl, (refl, refl)), refl), (refl, refl)), refl), refl)

pair_pattern : Template is_2024 pattern pair_reads pair_rule.reads
pair_pattern =
    variable _ _ _ _ _ _ _ refl (undated refl refl) (token _ _ _ _ refl
    (variable _ _ _ _ _ _ _ refl (undated refl refl) (token _ _ _ _ refl (nothing _ refl))))

pair_template : Template is_2024 template pair_writes pair_rule.writes
pair_template =
    token _ _ _ _ refl
    (grouped _ _ _ _ _ _ refl (token _ _ _ _ refl (nothing _ refl))
    (token _ _ _ _ refl (nothing _ refl)))

pair_applies : (g : Grammar) → Applies (open_grammar g) FnLike pair_argument pair_rule
pair_applies g = record {
  styled = refl;
  items = pair_items;
  fits = (
    (λ q. plain.never_ambiguous (open_grammar g) pair_rule.reads pair_argument q refl),
    (
      pair_read g,
      λ others r. plain.one_reading (open_grammar g) pair_rule.reads pair_argument others pair_items refl r
          (pair_read g),
    ),
  );
  faultless = refl;
}

pub pair_example : PairExample
unfolding pair_applies
pair_example = record {
  parsed = defines_one _ _ _ refl
      (parts refl (pair_pattern) (pair_template)) refl refl;
  read = pair_read;
  written = λ g. (
    _,
    (
      _,
      _,
      (_, refl, refl),
      (_, _, (_, _, _, refl, refl, (_, _, refl, refl, refl), refl), (_, _, refl, refl, refl), refl),
      refl,
    ),
    refl,
  );
  expands = λ g. (
    pair_rule,
    pair_applies g,
    this_one _ _ _,
    (
      _,
      (
        _,
        _,
        (_, refl, refl),
        (
          _,
          _,
          (_, _, _, refl, refl, (_, _, refl, refl, refl), refl),
          (_, _, refl, refl, refl),
          refl,
        ),
        refl,
      ),
      refl,
    ),
  );
}

-- ---- two readings

abbrev first_a : Items
first_a = item (item no_items (rounds no_rounds (item no_items (matched 1)))) (skipped [])

abbrev second_a : Items
second_a = item (item no_items (skipped [])) (rounds no_rounds (item no_items (matched 1)))

read_first : (g : Grammar) → IsReading (open_grammar g) twice_pattern twice_argument first_a
read_first g = ((_, (_, refl, (tt, (_, refl, refl))), (tt, refl)), refl)

read_second : (g : Grammar) → IsReading (open_grammar g) twice_pattern twice_argument second_a
read_second g = ((_, (_, refl, (tt, refl)), (tt, (_, refl, refl))), refl)

abbrev is_skipped : Item → Bool
is_skipped (skipped names) = true
is_skipped _ = false

abbrev ends_skipped : Items → Bool
ends_skipped (item is x) = is_skipped x
ends_skipped no_items = false

differ : first_a ≢ second_a
differ e = false≢true (sym (ap ends_skipped e))

twice_verdict : (g : Grammar) → IsVerdict (open_grammar g) twice_pattern twice_argument many_readings
twice_verdict g = (
  (λ q. words_never_ambiguous (open_grammar g) twice_pattern twice_argument q refl),
  (first_a, second_a, read_first g, read_second g, differ),
)

pub optional_example : OptionalExample
optional_example = record {
  defines = defines_one _ _ _ refl
      (parts refl (repeated _ _ _ _ _ _ _ refl (token _ _ _ _ refl (nothing _ refl))
      (repeated _ _ _ _ _ _ _ refl (token _ _ _ _ refl (nothing _ refl)) (nothing _ refl)))
      (nothing _ refl)) refl refl;
  one = first_a;
  other = second_a;
  different = differ;
  read_one = read_first;
  read_other = read_second;
  verdict = twice_verdict;
  closest = λ g. closest_alone (open_grammar g) FnLike twice_argument twice_rule many_readings 0 refl (twice_verdict g)
      (λ is f. absurd (differ (f.1.1 first_a (read_first g) ∙ sym (f.1.1 second_a (read_second g)))));
}

-- ---- ambiguous places

abbrev is_open : PartialReading → Bool
is_open (partial rest is []) = false
is_open (partial rest is (f ∷ up)) = true

abbrev is_twice_open : PartialReading → Bool
is_twice_open (partial rest is (f ∷ (h ∷ up))) = true
is_twice_open _ = false

cast_verdict : (g : Grammar) → IsVerdict (open_grammar g) cast_pattern cast_argument (ambiguous 0)
cast_verdict g = (
  record {
    one = partial _ no_items (within _ _ _ _ no_items no_rounds ∷ []);
    other = partial _ (item no_items (skipped _)) [];
    one_at = ((((tt, refl, tt), refl), refl));
    other_at = ((tt, (_, refl, (tt, refl))), refl);
    differ = λ e. false≢true (sym (ap is_open e));
    n = 1;
    m = 1;
    f = true;
    g = false;
    one_steps = (_, refl);
    other_steps = (_, refl);
    ambiguity = ◌⊎◌.inl refl;
  },
  λ p below w. omega (arith, below),
)

pub cast_example : CastExample
cast_example = record {
  defines = defines_one _ _ _ refl
      (parts refl (repeated _ _ _ _ _ _ _ refl (variable _ _ _ _ _ _ _ refl (undated refl refl)
      (nothing _ refl)) (token _ _ _ _ refl (variable _ _ _ _ _ _ _ refl (undated refl refl) (nothing _ refl))))
      (nothing _ refl)) refl refl;
  verdict = cast_verdict;
  closest = λ g. closest_alone (open_grammar g) FnLike cast_argument cast_rule (ambiguous 0) 0 refl (cast_verdict g)
      (λ is f. absurd (f.0 0 (cast_verdict g).0));
}

quote_offset : (g : Grammar) → IsAmbiguousAt (open_grammar g) quote_pattern quote_argument 1
quote_offset g = record {
  one = partial _ no_items (within _ _ _ _ (item no_items (matched 1)) no_rounds ∷ within _ _ _ _ no_items no_rounds
      ∷ []);
  other = partial _ (item (item no_items (matched 1)) (skipped [])) (within _ _ _ _ no_items no_rounds ∷ []);
  one_at = ((((tt, refl, tt), (_, refl, refl), tt), refl), refl);
  other_at = (((tt, refl, tt), (_, (_, refl, refl), (tt, refl))), refl);
  differ = λ e. false≢true (sym (ap is_twice_open e));
  n = 1;
  m = 2;
  f = false;
  g = false;
  one_steps = (_, refl);
  other_steps = (_, refl);
  ambiguity = ◌⊎◌.inr (◌⊎◌.inr (λ e. omega (arith, e)));
}

quote_verdict : (g : Grammar) → IsLawful (open_grammar g)
    → IsVerdict (open_grammar g) quote_pattern quote_argument (ambiguous 1)
unfolding verdict run tree
quote_verdict g w = by_run (open_grammar g) quote_pattern quote_argument (ambiguous 1) w refl refl

pub quote_example : QuoteExample
quote_example = record {
  defines = defines_one _ _ _ refl
      (parts refl (repeated _ _ _ _ _ _ _ refl (token _ _ _ _ refl (repeated _ _ _ _ _ _ _ refl
      (token _ _ _ _ refl (nothing _ refl)) (nothing _ refl))) (nothing _ refl))
      (nothing _ refl)) refl refl;
  offset = quote_offset;
  verdict = quote_verdict;
  closest = λ g w. closest_alone (open_grammar g) FnLike quote_argument quote_rule (ambiguous 1) 0 refl
      (quote_verdict g w)
      (λ is f. absurd (f.0 1 (quote_offset g)));
}

-- ---- one reading, by a run

bx_read : (g : Grammar) → IsReading (open_grammar g) bx_pattern bx_argument bx_items
bx_read g = ((_, refl, ((tt, tt, (_, (_, refl, refl), (tt, refl)), refl), (_, (_, refl, refl), (tt, refl)))), refl)

bx_verdict : (g : Grammar) → verdict (open_grammar g) bx_pattern bx_argument ≡ one_reading
unfolding verdict run tree
bx_verdict g = refl

bx_fits : (g : Grammar) → IsLawful (open_grammar g) → Fits (open_grammar g) bx_pattern bx_argument bx_items
bx_fits g w = fits_by_run (open_grammar g) bx_pattern bx_argument bx_items w refl (bx_verdict g) (bx_read g)

bx_applies : (g : Grammar) → IsLawful (open_grammar g) → Applies (open_grammar g) FnLike bx_argument bx_rule
bx_applies g w = record { styled = refl; items = bx_items; fits = bx_fits g w; faultless = refl }

pub rounds_example : RoundsExample
rounds_example = record {
  defines = defines_one _ _ _ refl
      (parts refl (repeated _ _ _ _ _ _ _ refl (token _ _ _ _ refl (repeated _ _ _ _ _ _ _ refl
      (token _ _ _ _ refl (nothing _ refl)) (nothing _ refl))) (nothing _ refl))
      (nothing _ refl)) refl refl;
  fits = bx_fits;
  expands = λ g w. (bx_rule, bx_applies g w, this_one _ _ _, (_, refl, refl));
}

pub template_examples : TemplateExamples
unfolding digits
template_examples = record {
  endless = refl;
  once = refl;
  faultless = refl;
  nested = refl;
  no_round = refl;
  shorter = λ g. (
    _,
    (
      _,
      _,
      (
        _,
        _,
        (_, _, refl, (_, _, refl, refl, refl), refl),
        (_, _, refl, (_, _, refl, refl, refl), refl),
        refl,
      ),
      refl,
      refl,
    ),
    refl,
  );
  counts = λ g. (_, (_, _, refl, (_, _, refl, refl, refl), refl), refl);
  indexes = λ g. (
    _,
    (
      _,
      _,
      (
        _,
        _,
        (_, _, refl, (_, _, refl, refl, refl), refl),
        (_, _, refl, (_, _, refl, refl, refl), refl),
        refl,
      ),
      refl,
      refl,
    ),
    refl,
  );
  far_index = λ g. (
    _,
    (
      _,
      _,
      (
        _,
        _,
        (_, _, refl, (_, _, refl, refl, refl), refl),
        (_, _, refl, (_, _, refl, refl, refl), refl),
        refl,
      ),
      refl,
      refl,
    ),
    refl,
  );
  first_only = λ g. (_, (_, _, (_, _, refl, refl, refl), refl, refl), refl);
  below_limit = refl;
  limit = refl;
  listed = refl;
  ignored = refl;
  none_counted = refl;
  bindings = refl;
  opened = (_, refl, refl);
  plain_path = refl;
  unbound = λ g. (_, (_, _, refl, refl, refl), refl);
  sum = (_, refl, refl);
  negative = refl;
  path = refl;
}

pub definition_examples : DefinitionExamples
definition_examples = record {
  stray = (
    _,
    unseparated _ _ _ refl (parts refl (nothing _ refl) (nothing _ refl)) refl,
    refl,
  );
  no_template = (_, no_rule _ _ (λ e. false≢true (sym (ap (λ f. nat_le 1 (flat_len f)) e))) refl, refl);
  refused = refl;
  any_literal = λ rest. refl;
  raw_ident = refl;
  apart = refl;
  together = refl;
  first_two = refl;
  twice = refl;
  nothing_bound = refl;
  lists = refl;
  empty_rounds = λ g e. ((_, refl, (tt, (_, refl, (refl, ap taken_by_vis e)))), refl);
}
  where
    taken_by_vis : Front → Option Fragment
    taken_by_vis a = fragment_of RustAnalyzer (Some Vis)
        (if not a.fault && (flat_len (cut_flat a.count none).front == a.count) then Some (cut_flat a.count none) else
        None)

-- ---- verdicts, by runs

pub verdict_examples : (g : Grammar) → IsLawful (open_grammar g) → VerdictExamples g
unfolding verdict run tree
verdict_examples g w = record {
  group_one = by_run (open_grammar g) group_pattern (in_parentheses (a_then none) none) _ w refl refl;
  group_none = by_run (open_grammar g) group_pattern (in_parentheses none none) _ w refl refl;
  group_two = by_run (open_grammar g) group_pattern (in_parentheses (a_then (a_then none)) none) _ w refl refl;
  group_more = by_run (open_grammar g) group_pattern (in_parentheses (a_then none) (a_then none)) _ w refl refl;
  group_other = by_run (open_grammar g) group_pattern
      (group (delimiter_of Brace (at 1 0 1) (at 1 0 1)) (a_then none) none) _ w refl
      refl;
  list_none = by_run (open_grammar g) list_pattern none _ w refl refl;
  list_two = by_run (open_grammar g) list_pattern (a_then (comma_then (a_then none))) _ w refl refl;
  list_comma = by_run (open_grammar g) list_pattern (a_then (comma_then none)) _ w refl refl;
  list_missing = by_run (open_grammar g) list_pattern (a_then (a_then none)) _ w refl refl;
  or_variable = by_run (open_grammar g)
      (op (ops.repetition (op (token_of (codes "a")) no_ops) None ZeroOrMore) (op x_variable no_ops))
      (a_then none) _ w refl refl;
  then_b = by_run (open_grammar g) (op (ops.repetition (op (token_of (codes "a")) no_ops) None ZeroOrMore)
      (op (token_of (codes "b")) no_ops)) (a_then (a_then (word (codes "b") (at 1 0 1) none))) _ w refl refl;
  two_lists = by_run (open_grammar g) (op (ops.repetition (op (token_of (codes "a")) no_ops) None ZeroOrMore)
      (op (ops.repetition (op (token_of (codes "a")) no_ops) None ZeroOrMore) no_ops)) (a_then none) _ w refl refl;
  at_least_one = by_run (open_grammar g) (op (ops.repetition (op (token_of (codes "a")) no_ops) None OneOrMore) no_ops)
      none _ w refl
      refl;
  at_most_one = by_run (open_grammar g) (op (ops.repetition (op (token_of (codes "a")) no_ops) None ZeroOrOne) no_ops)
      (a_then (a_then none)) _ w refl refl;
  empty_body = by_run (open_grammar g) (op (ops.repetition no_ops comma ZeroOrMore) no_ops) none _ w refl refl;
  empty_bodies = by_run (open_grammar g) (op (ops.repetition no_ops comma ZeroOrMore) no_ops) (comma_then none) _ w
      refl refl;
  two_fragments = by_run (open_grammar g)
      (op (ops.repetition (op x_variable no_ops) None ZeroOrMore) (op x_variable no_ops))
      (a_then none) _ w refl refl;
  group_inside = by_run (open_grammar g) (op (ops.group (delimiter_of Parenthesis (at 0 0 1) (at 0 0 1))
      (op (token_of (codes "a")) (op (token_of (codes "b")) no_ops))) no_ops)
      (in_parentheses (a_then (word (codes "c") (at 1 0 1) none)) none) _ w refl refl;
  old_underscore = by_run (open_grammar g) (op (of_kind (kinds.Expr exprs.Expr2021)) no_ops)
      (word (codes "_") (at 1 0 1) none) _ w
      refl refl;
  old_const = by_run (open_grammar g) (op (of_kind (kinds.Expr exprs.Expr2021)) no_ops)
      (word (codes "const") (at 1 0 5) none) _ w refl
      refl;
  no_underscore = by_run (open_grammar g) (op x_variable no_ops) (word (codes "_") (at 1 0 1) none) _ w refl refl;
  lifetime = by_run (open_grammar g) (op (of_kind kinds.Lifetime) no_ops) (quote_then (a_then none)) _ w refl refl;
  tree_lifetime = by_run (open_grammar g) (op (of_kind kinds.Tt) no_ops) (quote_then (a_then none)) _ w refl refl;
  tree_quote = by_run (open_grammar g) (op (of_kind kinds.Tt) no_ops) (quote_then none) _ w refl refl;
  signed_truth = by_run (open_grammar g) (op (of_kind kinds.Literal) no_ops)
      (mark 45 Alone (at 1 0 1) (word (codes "true") (at 1 1 5) none)) _ w refl refl;
  truth_separator = by_run (open_grammar g)
      (op (list_between (ops.literal_separator
      (record { text_and_suffix = codes "true"; suffix_len = 0; kind = Str; span = at 0 0 1 })) ZeroOrMore) no_ops)
      (a_then (word (codes "true") (at 1 2 6) (a_then none))) _ w refl refl;
  never_glued = by_run (open_grammar g) (op (list_between
      (ops.punct_separator (punct_of 59 Joint (at 0 0 1) ∷ punct_of 59 Alone (at 0 1 2) ∷ [])) ZeroOrMore) no_ops)
      (a_then (mark 59 Joint (at 1 1 2) (mark 59 Alone (at 1 2 3) (a_then none)))) _ w refl refl;
  one_round = by_run (open_grammar g)
      (op (list_between (ops.punct_separator (punct_of 44 Joint (at 0 0 1) ∷ [])) ZeroOrOne) no_ops)
      (a_then (comma_then none)) _ w refl refl;
  arrow = by_run (open_grammar g) arrow_pattern (mark 61 Joint (at 1 0 1) (mark 62 Alone (at 1 1 2) none)) _ w refl
      refl;
  no_arrow = by_run (open_grammar g) arrow_pattern (mark 61 Alone (at 1 0 1) (mark 62 Alone (at 1 2 3) none)) _ w refl
      refl;
}
