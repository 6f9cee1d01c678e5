-- Equality of definitions. Separators are compared by their texts, everything else with spans
-- (rust-analyzer's behaviour).
use Rattle.std.specs.Prelude.{◌≡◌, ◌⊎◌, ℕ, Bool, List, [], ◌∷◌, Option, Some, None}
use Rattle.std.specs.Coded.{Coded, coded_list, coded_ℕ, coded⊎}
use Rattle.std.specs.Cmp.{IsEquivalence}
use Rattle.std.proofs.Common.{inl, inr}
use Rattle.std.proofs.lemmas.Cmp.{on_equiv}
use Rattle.mbe_tt.specs.Laws.CodeEquality.{same, same_equiv}
use Rattle.mbe_ops.specs.declared.ops.Separator as code
use Rattle.mbe_ops.specs.Views.{separator_seen}
use Rattle.mbe_tt.specs.Trees.Glue.{chars_of}
use Rattle.mbe_semantics.specs.Syntax.Op as ops
use Rattle.mbe_semantics.specs.Syntax.Op.{Separator, ident_separator, literal_separator}
use Rattle.mbe_semantics.specs.Syntax.Op.{punct_separator, lifetime_separator, Op, Ops, no_ops, op}
use Rattle.mbe_semantics.specs.Syntax.Definition.{Rule}
use Rattle.mbe_semantics.specs.Expansion.Macro.{Macro}

-- the kind and the text of a separator: identifier, literal, puncts or lifetime
abbrev pub SeparatorText : Type 0
SeparatorText = List ℕ ⊎ (List ℕ ⊎ (List ℕ ⊎ List ℕ))

abbrev pub text_of : Separator → SeparatorText
text_of (ident_separator i) = inl i.sym
text_of (literal_separator l) = inr (inl l.text_and_suffix)
text_of (punct_separator ps) = inr (inr (inl (chars_of ps)))
text_of (lifetime_separator p i) = inr (inr (inr i.sym))

-- two separators of the same kind with the same text
abbrev pub IsSameSeparator : Separator → Separator → Type 0
IsSameSeparator s t = text_of s ≡ text_of t

-- codes of such texts, which decide their equality
abbrev pub text_code : Coded SeparatorText
text_code =
    let texts = coded_list coded_ℕ in
    coded⊎ texts (coded⊎ texts (coded⊎ texts texts))

-- equality of separators
abbrev pub separator_eq : {A : Type 0} → code.Separator A → code.Separator A → Bool
separator_eq x y = same text_code (text_of (separator_seen x)) (text_of (separator_seen y))

pub separator_eq_laws : {A : Type 0} → IsEquivalence (separator_eq {A = A})
separator_eq_laws = on_equiv (λ x. text_of (separator_seen x)) (same_equiv text_code)

-- both have no separator, or both the same
abbrev pub AreSameSeparators : Option Separator → Option Separator → Type 0
AreSameSeparators None None = Unit {0}
AreSameSeparators (Some s) (Some t) = IsSameSeparator s t
AreSameSeparators _ _ = ⊥

abbrev mutual
  pub IsSameOp : Op → Op → Type 0
  IsSameOp (ops.group d body) (ops.group e other) = (d ≡ e) × AreSameOps body other
  IsSameOp (ops.repetition body s repeat) (ops.repetition other t more) =
      AreSameOps body other × AreSameSeparators s t × (repeat ≡ more)
  IsSameOp o p = o ≡ p

  pub AreSameOps : Ops → Ops → Type 0
  AreSameOps no_ops no_ops = Unit {0}
  AreSameOps (op o os) (op p ps) = IsSameOp o p × AreSameOps os ps
  AreSameOps _ _ = ⊥

-- the same rules, one by one
abbrev pub AreSameRules : List Rule → List Rule → Type 0
AreSameRules [] [] = Unit {0}
AreSameRules (r ∷ rs) (q ∷ qs) = (r.style ≡ q.style) × AreSameOps r.reads q.reads
    × AreSameOps r.writes q.writes
    × AreSameRules rs qs
AreSameRules _ _ = ⊥

-- what `==` of macros decides
abbrev pub IsSameMacro : Macro → Macro → Type 0
IsSameMacro m n = AreSameRules m.rules n.rules × (m.err ≡ n.err)
