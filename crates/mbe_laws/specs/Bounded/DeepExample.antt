-- A pattern with very many readings of a short argument.
use Rattle.std.specs.Prelude.{◌≡◌, ℕ, zero, suc, Some, [], ◌∷◌}
use Rattle.mbe_tt.specs.declared.tt.Spacing.TheVariants.{Alone}
use Rattle.mbe_tt.specs.Trees.Tree.{Forest, none}
use Rattle.mbe_tt.specs.Grammars.Grammar.{Grammar}
use Rattle.mbe_semantics.specs.declared.fragment_kinds.RepeatKind.TheVariants.{ZeroOrMore}
use Rattle.mbe_semantics.specs.declared.fragment_kinds.RepeatKind.TheVariants.{OneOrMore}
use Rattle.mbe_semantics.specs.Syntax.Op.{Ops, no_ops, op, repetition, Separator, punct_separator}
use Rattle.mbe_semantics.specs.Examples.Sample.{at, punct_of, alone_at, open_grammar}
use Rattle.mbe_semantics.specs.Readings.Verdict.{many_readings}
use Rattle.mbe_semantics.specs.Matching.States.{state_count}
use Rattle.mbe_laws.specs.Bounded.Run.{verdict_bounded}

abbrev pub semicolon : Separator
semicolon = punct_separator (punct_of 59 Alone (at 0 0 1) ∷ [])

-- `$($($();*);+);*`
abbrev pub deep : Ops
deep = op
    (repetition (op (repetition (op (repetition no_ops (Some semicolon) ZeroOrMore) no_ops)
    (Some semicolon)
    OneOrMore) no_ops) (Some semicolon) ZeroOrMore) no_ops

-- n semicolons
abbrev pub semicolons : ℕ → Forest
semicolons zero = none
semicolons (suc n) = alone_at 1 n 59 (semicolons n)

pub record DeepExample : Type 0 where
  pub places : state_count deep ≡ 7
  pub many : (g : Grammar) → verdict_bounded (open_grammar g) deep (semicolons 15) ≡ many_readings
