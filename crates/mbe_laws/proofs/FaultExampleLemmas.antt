-- What the grammar of definitions says of definitions with a fault.
use Rattle.std.specs.Prelude.{None, [], refl}
use Rattle.mbe_tt.specs.Trees.Tree.{none}
use Rattle.mbe_semantics.specs.Syntax.Template.{nothing, token, repeated, here}
use Rattle.mbe_semantics.specs.Syntax.Definition.{no_rule, faulty_rule, unseparated, separated, in_pattern, in_template}
use Rattle.mbe_semantics.specs.Syntax.Definition.{faulty}
use Rattle.mbe_semantics.specs.Examples.FurtherExamples.{FaultExamples, SpecifierExamples}
use Rattle.mbe_laws.proofs.RuleLemmas.{parts, defines_one}

pub fault_examples : FaultExamples
fault_examples = record {
  no_specifier = (_, faulty_rule _ _ _ refl (in_pattern (here _ refl)), refl);
  underscore_specifier = (_, faulty_rule _ _ _ refl (in_pattern (here _ refl)), refl);
  second_dollar = (_, faulty_rule _ _ _ refl (in_pattern (here _ refl)), refl);
  expression = (_, faulty_rule _ _ _ refl (in_pattern (here _ refl)), refl);
  bracket = (_, faulty_rule _ _ _ refl (in_pattern (here _ refl)), refl);
  number = (_, faulty_rule _ _ _ refl (in_pattern (here _ refl)), refl);
  no_suffix = (_, faulty_rule _ _ _ refl (in_pattern (here _ refl)), refl);
  suffix_first = (_, faulty_rule _ _ _ refl (in_pattern (here _ refl)), refl);
  four_puncts = (_, faulty_rule _ _ _ refl (in_pattern (here _ refl)), refl);
  two_words = (_, faulty_rule _ _ _ refl (in_pattern (here _ refl)), refl);
  no_style = (_, no_rule _ _ (λ e. cc) refl, refl);
  no_equals = (_, no_rule _ _ (λ e. cc) refl, refl);
  no_greater = (_, no_rule _ _ (λ e. cc) refl, refl);
  one_element = (_, faulty_rule _ _ _ refl (in_template _ (nothing _ refl) (here _ refl)), refl);
  suffixed = (_, faulty_rule _ _ _ refl (in_template _ (nothing _ refl) (here _ refl)), refl);
  text_depth = defines_one _ _ _ refl
      (parts refl (nothing _ refl) (token _ _ _ _ refl (nothing _ refl))) refl refl;
  more_in_braces = defines_one _ _ _ refl
      (parts refl (nothing _ refl) (token _ _ _ _ refl (nothing _ refl))) refl refl;
  later = (
    _,
    separated _ _ _ _ _ _ refl (parts refl (nothing _ refl) (nothing _ refl)) refl
        (faulty_rule _ _ _ refl (in_pattern (here _ refl))),
    refl,
  );
  over_stray = (
    _,
    unseparated _ _ _ refl
        (parts refl (repeated _ _ _ _ _ _ _ refl (nothing _ refl) (nothing _ refl)) (nothing _ refl)) refl,
    refl,
  );
  body = (
    _,
    separated _ _ _ _ _ _ refl (parts refl (nothing _ refl) (nothing _ refl)) refl
        (unseparated _ _ _ refl (parts refl (nothing _ refl) (nothing _ refl)) refl),
    refl,
  );
  arguments = faulty _ (in_pattern (here _ refl));
}

pub specifier_examples : SpecifierExamples
specifier_examples = record {
  old_pat = refl;
  pat = refl;
  old_expr = refl;
  expr = refl;
  pat_param = refl;
  expr_2021 = refl;
  meta = refl;
  unknown = refl;
  asked_pat = λ g. refl;
  asked_pat_param = λ g. refl;
  asked_meta = λ g. refl;
}
