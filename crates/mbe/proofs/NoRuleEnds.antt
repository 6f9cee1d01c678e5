-- In rust-analyzer's dialect, no rule ends a call.
use Rattle.std.specs.Prelude.{◌≡◌, ℕ, List}
use Rattle.mbe_tt.specs.declared.grammar.Dialect.TheVariants.{RustAnalyzer}
use Rattle.mbe_tt.specs.Grammars.Grammar.{Grammar}
use Rattle.mbe_tt.specs.Trees.Tree.{Forest}
use Rattle.mbe_semantics.specs.declared.macro_call_style.MacroCallStyle.{MacroCallStyle}
use Rattle.mbe_semantics.specs.Syntax.Definition.{Rule}
use Rattle.mbe_semantics.specs.Expansion.Expansion.{FirstThatEnds, this_ends, a_later_ends}
use Rattle.mbe_matcher.proofs.Commitments.{open_goes_on}
use Rattle.mbe.specs.OneAnswer.{NoRuleEnds}

ends_not : (g : Grammar) → g.dialect ≡ RustAnalyzer → (style : MacroCallStyle) (argument : Forest) (rs : List Rule)
    (n : ℕ) (r : Rule) → FirstThatEnds g style argument rs n r → ⊥
ends_not g e style argument _ _ _ (this_ends r rs fails ends) = open_goes_on g r.reads argument e ends.1
ends_not g e style argument _ _ _ (a_later_ends r s rs n m fails goes_on f d) = ends_not g e style argument rs n s f

pub no_rule_ends : NoRuleEnds
no_rule_ends g e style argument rs n r f = ends_not g e style argument rs n r f
