-- Where a definition is refused with the editions of one answer it is with those of another answer that allows them.
use Rattle.std.specs.Prelude.{Option}
use Rattle.mbe_tt.specs.declared.span.Edition.{Edition}
use Rattle.mbe_tt.specs.declared.span.Span.{Span}
use Rattle.mbe_tt.specs.declared.span.SyntaxContext.{SyntaxContext}
use Rattle.mbe_tt.specs.Trees.Tree.{Forest}
use Rattle.mbe_semantics.specs.Expansion.Macro.{Macro}
use Rattle.mbe_rewriter.specs.MacroItems.{DefinitionForm}
use Rattle.mbe_session.proofs.EmptyEditions.{refused_place, one_refused_place}
use Rattle.mbe_diagnostics.specs.declared.lints.error_location.ErrorLocation.{ErrorLocation}
use Rattle.mbe_diagnostics.specs.Lints.ErrorLocation.{RefusedAt, not_refused, in_rules, in_body, in_part}

pub refused_read : {A B : SyntaxContext → Edition → Type 0}
    (more : (c : SyntaxContext) (e : Edition) → A c e → B c e) {close : Span} {rules : Forest} {m : Macro}
    {form : DefinitionForm} {location : Option ErrorLocation} → RefusedAt A close rules m form location
    → RefusedAt B close rules m form location
refused_read more (not_refused form e) = not_refused form e
refused_read more (in_rules why rule n e w) = in_rules why rule n e (refused_place more w)
refused_read more (in_body why rule n e w) = in_body why rule n e (refused_place more w)
refused_read more (in_part k arguments why part n e w) = in_part k arguments why part n e (one_refused_place more w)
