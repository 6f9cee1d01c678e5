-- Separators of repetitions with `?`, step by step.
use Rattle.std.proofs.Common.{◌≡◌, ◌++◌, Option, List, ap, sym, ◌∙◌, append_assoc}
use Rattle.mbe_semantics.specs.declared.fragment_kinds.RepeatKind.{RepeatKind}
use Rattle.mbe_semantics.specs.Syntax.Op.{Separator, Op, Ops, repetition}
use Rattle.mbe_diagnostics.specs.RuleChecks.OptionalSeparators.{if_optional, optional_separators}
use Rattle.mbe_diagnostics.specs.RuleChecks.OptionalSeparators.{optional_separators_op}

-- the separator of a repetition, and then those of its body
pub optional_added : (o : Op) (body held : Ops) (s : Option Separator) (k : RepeatKind) (before mid : List Separator)
    → o ≡ repetition body s k → held ≡ body → mid ≡ before ++ if_optional k s
    → mid ++ optional_separators held ≡ before ++ optional_separators_op o
optional_added o body held s k before mid ho hh hm =
    ap (λ l. l ++ optional_separators held) hm
    ∙ (append_assoc before (if_optional k s) (optional_separators held)
    ∙ (ap (λ b. before ++ (if_optional k s ++ optional_separators b)) hh
    ∙ ap (λ p. before ++ optional_separators_op p) (sym ho)))
