-- A fault that has a place with the editions of one answer has it with those of another answer that allows them.
use Rattle.std.specs.Prelude.{ℕ, List, Option}
use Rattle.mbe_tt.specs.declared.span.Edition.{Edition}
use Rattle.mbe_tt.specs.declared.span.SyntaxContext.{SyntaxContext}
use Rattle.mbe_tt.specs.Trees.Leaf.{Ident}
use Rattle.mbe_tt.specs.Trees.Tree.{Forest}
use Rattle.mbe_semantics.specs.declared.fragment_kinds.MetaVarKind.{MetaVarKind}
use Rattle.mbe_semantics.specs.Syntax.Op.{Ops}
use Rattle.mbe_semantics.specs.Syntax.Template as ops
use Rattle.mbe_semantics.specs.Syntax.Template.{Mode, pattern, template, Fault, Specifies, dated_pat, dated_expr}
use Rattle.mbe_semantics.specs.Syntax.Template.{undated, Template}
use Rattle.mbe_semantics.specs.Syntax.Definition.{Rule, RuleTrees, AreParts}
use Rattle.mbe_parser.specs.FaultOffsets.{TemplateFaultAt, here, in_group, in_repetition, after_token}
use Rattle.mbe_parser.specs.FaultOffsets.{after_variable, after_group, after_repetition, RuleFaultAt}
use Rattle.mbe_parser.specs.FaultOffsets.{in_trees, in_pattern, in_template, RulesFaultAt, in_rule}
use Rattle.mbe_parser.specs.FaultOffsets.{unseparated, separated, OneRuleFaultAt}

module _ {A B : SyntaxContext → Edition → Type 0} (more : (c : SyntaxContext) (e : Edition) → A c e → B c e) where
  specifies : {i : Ident} {kind : Option MetaVarKind} → Specifies A i kind → Specifies B i kind
  specifies (dated_pat e is asked) = dated_pat e is (more _ e asked)
  specifies (dated_expr e is asked) = dated_expr e is (more _ e asked)
  specifies (undated a b) = undated a b

  pub ops_read : {mode : Mode} {f : Forest} {os : Ops} → Template A mode f os → Template B mode f os
  ops_read (ops.nothing f e) = ops.nothing f e
  ops_read (ops.token f rest o os e t) = ops.token f rest o os e (ops_read t)
  ops_read (ops.variable f rest name span specifier kind os e s t) =
      ops.variable f rest name span specifier kind os e (specifies s) (ops_read t)
  ops_read (ops.grouped f inside rest d body os e b t) =
      ops.grouped f inside rest d body os e (ops_read b) (ops_read t)
  ops_read (ops.repeated f inside rest separator repeat body os e b t) =
      ops.repeated f inside rest separator repeat body os e (ops_read b) (ops_read t)

  place_read : {mode : Mode} {fault : Fault} {f : Forest} {n : ℕ} → TemplateFaultAt A mode fault f n
      → TemplateFaultAt B mode fault f n
  place_read (here f e) = here f e
  place_read (in_group f inside rest d n e w) = in_group f inside rest d n e (place_read w)
  place_read (in_repetition f inside rest separator repeat n e w) =
      in_repetition f inside rest separator repeat n e (place_read w)
  place_read (after_token f rest o n e w) = after_token f rest o n e (place_read w)
  place_read (after_variable f rest name span specifier n e w) =
      after_variable f rest name span specifier n e (place_read w)
  place_read (after_group f inside rest d body n e b w) =
      after_group f inside rest d body n e (ops_read b) (place_read w)
  place_read (after_repetition f inside rest separator repeat body n e b w) =
      after_repetition f inside rest separator repeat body n e (ops_read b) (place_read w)

  pub parts_read : {o : RuleTrees} {r : Rule} → AreParts A o r → AreParts B o r
  parts_read p = record { style = p.style; reads = ops_read p.reads; writes = ops_read p.writes }

  rule_place : {fault : Fault} {f : Forest} {n : ℕ} → RuleFaultAt A fault f n → RuleFaultAt B fault f n
  rule_place (in_trees e) = in_trees e
  rule_place (in_pattern o n e w) = in_pattern o n e (place_read w)
  rule_place (in_template o reads n e t w) = in_template o reads n e (ops_read t) (place_read w)

  pub rules_place : {separators : List ℕ} {missing fault : Fault} {f : Forest} {rule n : ℕ}
      → RulesFaultAt A separators missing fault f rule n → RulesFaultAt B separators missing fault f rule n
  rules_place (in_rule f n some w) = in_rule f n some (rule_place w)
  rules_place (unseparated f o r e p b m) = unseparated f o r e (parts_read p) b m
  rules_place (separated f rest o r rule n e p b w) = separated f rest o r rule n e (parts_read p) b (rules_place w)

  pub one_rule_place : (arguments body : Forest) (fault : Fault) (part : Mode) (n : ℕ)
      → OneRuleFaultAt A arguments body fault part n → OneRuleFaultAt B arguments body fault part n
  one_rule_place arguments body fault pattern n w = place_read w
  one_rule_place arguments body fault template n w = (w.0, ops_read w.1, place_read w.2)
