-- A definition that is read with the editions of one answer is read so with those of another answer that allows them.
use Rattle.std.proofs.Common.{ℕ, List, Option, Some, None}
use Rattle.mbe_tt.specs.declared.span.Edition.{Edition}
use Rattle.mbe_tt.specs.declared.span.SyntaxContext.{SyntaxContext}
use Rattle.mbe_tt.specs.Trees.Tree.{Forest}
use Rattle.mbe_tt.specs.Trees.Leaf.{Ident}
use Rattle.mbe_semantics.specs.declared.fragment_kinds.MetaVarKind.{MetaVarKind}
use Rattle.mbe_semantics.specs.Syntax.Op.{Ops}
use Rattle.mbe_semantics.specs.Syntax.Template.{Mode, Fault, Specifies, dated_pat, dated_expr, undated, Template}
use Rattle.mbe_semantics.specs.Syntax.Template.{nothing, token, variable, grouped, repeated, TemplateFault, here}
use Rattle.mbe_semantics.specs.Syntax.Template.{in_group, in_repetition, after_token, after_variable, following_group}
use Rattle.mbe_semantics.specs.Syntax.Template.{after_repetition}
use Rattle.mbe_semantics.specs.Syntax.Definition.{Rule, RuleTrees, AreParts, PartsFault, in_pattern, in_template, Rules}
use Rattle.mbe_semantics.specs.Syntax.Definition.{ended, no_rule, faulty_rule, unseparated, separated}
use Rattle.mbe_semantics.specs.Syntax.Definition.{IsMacroOfArguments, one_rule, faulty}
use Rattle.mbe_semantics.specs.Expansion.Macro.{Macro}
use Rattle.mbe_semantics.specs.Expansion.ParsedMacro.{IsParsedRules, IsParsedMacro}

module _ {A B : SyntaxContext → Edition → Type 0} (more : (c : SyntaxContext) (e : Edition) → A c e → B c e) where
  specifies : {i : Ident} {kind : Option MetaVarKind} → Specifies A i kind → Specifies B i kind
  specifies (dated_pat e is asked) = dated_pat e is (more _ e asked)
  specifies (dated_expr e is asked) = dated_expr e is (more _ e asked)
  specifies (undated a b) = undated a b

  ops_read : {mode : Mode} {f : Forest} {os : Ops} → Template A mode f os → Template B mode f os
  ops_read (nothing f e) = nothing f e
  ops_read (token f rest o os e t) = token f rest o os e (ops_read t)
  ops_read (variable f rest name span specifier kind os e s t) =
      variable f rest name span specifier kind os e (specifies s) (ops_read t)
  ops_read (grouped f inside rest d body os e b t) = grouped f inside rest d body os e (ops_read b) (ops_read t)
  ops_read (repeated f inside rest separator repeat body os e b t) =
      repeated f inside rest separator repeat body os e (ops_read b) (ops_read t)

  fault_read : {mode : Mode} {fault : Fault} {f : Forest} → TemplateFault A mode fault f → TemplateFault B mode fault f
  fault_read (here f e) = here f e
  fault_read (in_group f inside rest d e t) = in_group f inside rest d e (fault_read t)
  fault_read (in_repetition f inside rest separator repeat e t) =
      in_repetition f inside rest separator repeat e (fault_read t)
  fault_read (after_token f rest o e t) = after_token f rest o e (fault_read t)
  fault_read (after_variable f rest name span specifier e t) =
      after_variable f rest name span specifier e (fault_read t)
  fault_read (following_group f inside rest d body e b t) =
      following_group f inside rest d body e (ops_read b) (fault_read t)
  fault_read (after_repetition f inside rest separator repeat body e b t) =
      after_repetition f inside rest separator repeat body e (ops_read b) (fault_read t)

  parts_read : {o : RuleTrees} {r : Rule} → AreParts A o r → AreParts B o r
  parts_read p = record { style = p.style; reads = ops_read p.reads; writes = ops_read p.writes }

  parts_fault : {o : RuleTrees} {fault : Fault} → PartsFault A o fault → PartsFault B o fault
  parts_fault (in_pattern t) = in_pattern (fault_read t)
  parts_fault (in_template reads t u) = in_template reads (ops_read t) (fault_read u)

  rules_read : {separators : List ℕ} {missing : Fault} {f : Forest} {rs : List Rule} {fault : Option Fault}
      → Rules A separators missing f rs fault → Rules B separators missing f rs fault
  rules_read ended = ended
  rules_read (no_rule l fault some e) = no_rule l fault some e
  rules_read (faulty_rule f o fault e p) = faulty_rule f o fault e (parts_fault p)
  rules_read (unseparated f o r e p b) = unseparated f o r e (parts_read p) b
  rules_read (separated f rest o r rs fault e p b t) = separated f rest o r rs fault e (parts_read p) b (rules_read t)

  pub read_as : (f : Forest) (m : Macro) → IsParsedRules A f m → IsParsedRules B f m
  read_as f m (first, read, refusal) = (first, rules_read read, refusal)

  arguments_read : {arguments body : Forest} {rs : List Rule} {fault : Option Fault}
      → IsMacroOfArguments A arguments body rs fault
      → IsMacroOfArguments B arguments body rs fault
  arguments_read (one_rule r p) = one_rule r (parts_read p)
  arguments_read (faulty fault p) = faulty fault (parts_fault p)

  pub read_as_macro : (arguments : Option Forest) (body : Forest) (m : Macro) → IsParsedMacro A arguments body m
      → IsParsedMacro B arguments body m
  read_as_macro None body m (first, read, refusal) = (first, rules_read read, refusal)
  read_as_macro (Some arguments) body m h = arguments_read h
