-- A repetition that can read nothing has its place with the editions of another answer that allows them too, and so has
-- why a definition is refused.
use Rattle.std.specs.Prelude.{ℕ, List}
use Rattle.mbe_tt.specs.declared.span.Edition.{Edition}
use Rattle.mbe_tt.specs.declared.span.SyntaxContext.{SyntaxContext}
use Rattle.mbe_tt.specs.Trees.Tree.{Forest}
use Rattle.mbe_semantics.specs.Syntax.Template.{Mode, Fault}
use Rattle.mbe_parser.specs.RefusedRepetitions.{EmptyAt, here, in_group, in_repetition, after_token}
use Rattle.mbe_parser.specs.RefusedRepetitions.{after_variable, after_group}
use Rattle.mbe_parser.specs.RefusedRepetitions.{after_repetition, RulesEmptyAt, in_rule, separated}
use Rattle.mbe_parser.specs.RefusedRepetitions.{RefusedAt, by_fault, by_empty}
use Rattle.mbe_parser.specs.RefusedRepetitions.{OneRefusedAt, by_fault_of, by_empty_of}
use Rattle.mbe_session.proofs.PlaceEditions.{ops_read, parts_read, rules_place, one_rule_place}

module _ {A B : SyntaxContext → Edition → Type 0} (more : (c : SyntaxContext) (e : Edition) → A c e → B c e) where
  empty_read : {mode : Mode} {f : Forest} {n : ℕ} → EmptyAt A mode f n → EmptyAt B mode f n
  empty_read (here f inside rest separator repeat body e b is) =
      here f inside rest separator repeat body e (ops_read more b) is
  empty_read (in_group f inside rest d n e w) = in_group f inside rest d n e (empty_read w)
  empty_read (in_repetition f inside rest separator repeat body n e b is w) =
      in_repetition f inside rest separator repeat body n e (ops_read more b) is (empty_read w)
  empty_read (after_token f rest o n e w) = after_token f rest o n e (empty_read w)
  empty_read (after_variable f rest name span specifier n e w) =
      after_variable f rest name span specifier n e (empty_read w)
  empty_read (after_group f inside rest d body n e b is w) =
      after_group f inside rest d body n e (ops_read more b) is (empty_read w)
  empty_read (after_repetition f inside rest separator repeat body n e b is w) =
      after_repetition f inside rest separator repeat body n e (ops_read more b) is (empty_read w)

  rules_empty : {separators : List ℕ} {f : Forest} {rule n : ℕ} → RulesEmptyAt A separators f rule n
      → RulesEmptyAt B separators f rule n
  rules_empty (in_rule f o r n e p w) = in_rule f o r n e (parts_read more p) (empty_read w)
  rules_empty (separated f rest o r rule n e p is b w) =
      separated f rest o r rule n e (parts_read more p) is b (rules_empty w)

  pub refused_place : {separators : List ℕ} {missing : Fault} {f : Forest} {fault : Fault} {rule n : ℕ}
      → RefusedAt A separators missing f fault rule n → RefusedAt B separators missing f fault rule n
  refused_place (by_fault fault rule n w) = by_fault fault rule n (rules_place more w)
  refused_place (by_empty rule n w) = by_empty rule n (rules_empty w)

  pub one_refused_place : {arguments body : Forest} {fault : Fault} {part : Mode} {n : ℕ}
      → OneRefusedAt A arguments body fault part n → OneRefusedAt B arguments body fault part n
  one_refused_place {arguments = arguments} {body = body} (by_fault_of fault part n w) =
      by_fault_of fault part n (one_rule_place more arguments body fault part n w)
  one_refused_place (by_empty_of reads writes n r t w) =
      by_empty_of reads writes n (ops_read more r) (ops_read more t) (empty_read w)
