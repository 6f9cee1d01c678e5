-- From the clauses of the public calls to the expansion theorem from three trees.
use Rattle.std.specs.Prelude.{◌≡◌, ℕ, List, [], ◌∷◌, Contains, Some, None}
use Rattle.std.proofs.lemmas.List.Elements.{Contains-push, Contains-append_left, Contains-append_right}
use Rattle.mbe_tt.specs.declared.span.Span.{Span}
use Rattle.mbe_tt.specs.declared.span.SyntaxContext.{SyntaxContext}
use Rattle.mbe_tt.specs.declared.span.Edition.{Edition}
use Rattle.mbe_tt.specs.Trees.Tree.{Forest}
use Rattle.mbe_tt.specs.Grammars.Grammar.{Grammar}
use Rattle.mbe_semantics.specs.declared.macro_call_style.MacroCallStyle.{MacroCallStyle}
use Rattle.mbe_semantics.specs.Syntax.Definition.{Rule}
use Rattle.mbe_semantics.specs.Expansion.Expansion.{Applies, FirstThatApplies, this_one, a_later_one}
use Rattle.mbe_semantics.specs.Expansion.FromTrees.{Definition, macro_rules, declaration, IsMacroOf, ExpandsFromTrees}
use Rattle.mbe_semantics.specs.Expansion.Macro.{Macro}
use Rattle.mbe_semantics.specs.Laws.Laws.{HasOneEdition}
use Rattle.mbe_laws.proofs.Definitions.TemplateLemmas.{one_definition}

-- the first rule that applies is one of the rules
first_contained : {g : Grammar} {style : MacroCallStyle} {argument : Forest} {rs : List Rule} {n : ℕ} {r : Rule}
    {a : Applies g style argument r}
    → FirstThatApplies g style argument rs n r a → Contains rs r
first_contained (this_one r rs a) = Contains-append_left (r ∷ []) rs r (Contains-push [] r)
first_contained (a_later_one r s rs n m a not_r not_last f e) = Contains-append_right (r ∷ []) rs s (first_contained f)

module _ (Asked : SyntaxContext → Edition → Type 0) where
  only_one : (definition : Definition) (m other : Macro) → HasOneEdition Asked → IsMacroOf Asked definition m
      → IsMacroOf Asked definition other
      → other.rules ≡ m.rules
  only_one (macro_rules f) m other one read k =
      ((one_definition Asked).rules one f other.rules m.rules other.err m.err k read).0
  only_one (declaration None body) m other one read k =
      ((one_definition Asked).body one body other.rules m.rules other.err m.err k read).0
  only_one (declaration (Some arguments) body) m other one read k =
      ((one_definition Asked).arguments one arguments body other.rules m.rules other.err m.err k read).0

module _ (Asked : SyntaxContext → Edition → Type 0) (Marks : Span → Span → Type 0) where
  pub expands_from_trees : ExpandsFromTrees Asked Marks
  expands_from_trees g definition argument m style call_site out index err read checked a = record {
    rules = m.rules;
    fault = m.err;
    read = read;
    only = λ one other k. only_one Asked definition m other one read k;
    exactly = λ h. (
      λ n. let s = a.sound n in (s.1.0, first_contained s.1.2, s.1.1),
      λ p. a.complete h p.0 p.1 p.2,
    );
    expands = a;
  }
