-- What a rule makes of an argument that was copied, with the marks of a step.
use Rattle.std.proofs.Common.{◌≡◌, ℕ, Option, subst}
use Rattle.mbe_tt.specs.declared.span.Span.{Span}
use Rattle.mbe_tt.specs.Trees.Top.{Top, top_group}
use Rattle.mbe_semantics.specs.declared.macro_call_style.MacroCallStyle.TheVariants.{FnLike}
use Rattle.mbe_semantics.specs.Expansion.Error.{ExpandError}
use Rattle.mbe_semantics.specs.Expansion.Macro.{Macro, Expands}
use Rattle.mbe.proofs.MarkLemmas.{expands_so}
use Rattle.mbe_rewriter.specs.MacroItems.{MacroCall}
use Rattle.mbe_rewriter.specs.PunctSpacing.{spaced}
use Rattle.mbe_session.specs.CallExpansion.{Setting, State, Marks, Makes, settled_in}

-- what the rules make of an argument that was copied, with the marks of a step
pub makes : {A : Span → Span → Type 0} (e : Setting) (s : State) (c : MacroCall) (m : Macro) (buffer out tree : Top)
    (i : Option ℕ) (err is : Option ExpandError)
    → Expands e.grammar A m.rules FnLike buffer.1 c.name.span (top_group out) i err
    → ((x y : Span) → A x y → Marks s c x y)
    → buffer ≡ (c.delimiter, spaced c.argument) → err ≡ is → tree ≡ settled_in e.grammar.dialect out
    → Makes e s c m tree is
makes e s c m buffer out tree i err is h only b k w = (
  i,
  out,
  subst (λ x. Expands e.grammar (Marks s c) m.rules FnLike (spaced c.argument) c.name.span (top_group out) i x) k
      (subst (λ (x : Top). Expands e.grammar (Marks s c) m.rules FnLike x.1 c.name.span (top_group out) i err) b
      (expands_so e.grammar only c.name.span m.rules FnLike buffer.1 (top_group out) i err h)),
  w,
)
