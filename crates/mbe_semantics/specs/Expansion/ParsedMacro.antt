-- The macro that the grammar of definitions reads from trees.
use Rattle.std.specs.Prelude.{Option, Some, None}
use Rattle.mbe_tt.specs.Trees.Tree.{Forest}
use Rattle.mbe_tt.specs.declared.span.SyntaxContext.{SyntaxContext}
use Rattle.mbe_tt.specs.declared.span.Edition.{Edition}
use Rattle.mbe_semantics.specs.Expansion.Macro.{Macro}
use Rattle.mbe_semantics.specs.Syntax.Definition.{IsMacroRules, IsMacroBody, IsMacroOfArguments}

module _ (HasEdition : SyntaxContext → Edition → Type 0) where
  -- the rules and the error of `macro_rules`
  abbrev pub IsParsedRules : Forest → Macro → Type 0
  IsParsedRules f m = IsMacroRules HasEdition f m.rules m.err

  -- the rules and the error of `macro`, from its body and its arguments, if it has some
  abbrev pub IsParsedMacro : Option Forest → Forest → Macro → Type 0
  IsParsedMacro None body m = IsMacroBody HasEdition body m.rules m.err
  IsParsedMacro (Some arguments) body m = IsMacroOfArguments HasEdition arguments body m.rules m.err
