-- The location at which a definition is refused.
use Rattle.std.specs.Prelude.{◌≡◌, ℕ, [], ◌∷◌, codes, Option, Some, None}
use Rattle.mbe_tt.specs.declared.span.Edition.{Edition}
use Rattle.mbe_tt.specs.declared.span.Span.{Span}
use Rattle.mbe_tt.specs.declared.span.SyntaxContext.{SyntaxContext}
use Rattle.mbe_tt.specs.declared.tt.Delimiter.{Delimiter}
use Rattle.mbe_tt.specs.Trees.Tree.{Forest}
use Rattle.mbe_semantics.specs.Syntax.Template.{Mode, pattern, template, Fault, expected}
use Rattle.mbe_semantics.specs.Expansion.Macro.{Macro}
use Rattle.mbe_rewriter.specs.MacroItems.{DefinitionForm, Rules, Body, Arguments}
use Rattle.mbe_diagnostics.specs.SpanAt.{span_at}
use Rattle.mbe_parser.specs.RefusedRepetitions as refused
use Rattle.mbe_diagnostics.specs.declared.lints.error_location.ErrorLocation.{ErrorLocation}

-- The token at an offset among rules. `close` closes their group.
abbrev pub rules_location : Span → Forest → ℕ → ℕ → ErrorLocation
rules_location close rules rule n = record { rule = rule; span = span_at close rules n }

-- The token at an offset in the pattern or in the body.
abbrev pub part_location : Span → Forest → Span → Forest → Mode → ℕ → ErrorLocation
part_location pattern_close arguments close body pattern n =
    record { rule = 0; span = span_at pattern_close arguments n }
part_location pattern_close arguments close body template n =
    record { rule = 0; span = span_at close body n }

module _ (HasEdition : SyntaxContext → Edition → Type 0) where
  -- The location at which a parsed definition is refused: the first token that can't be parsed, or
  -- the opening of the first repetition that can match nothing. `close` closes the rules. A
  -- definition that isn't refused has no location.
  pub data RefusedAt (close : Span) (rules : Forest) (m : Macro) : DefinitionForm
      → Option ErrorLocation → Type 0 where
    not_refused : (form : DefinitionForm) → m.err ≡ None → RefusedAt close rules m form None
    in_rules : (why : Fault) (rule n : ℕ) → m.err ≡ Some why
        → refused.RefusedAt HasEdition (59 ∷ []) (expected (codes "expected `;`")) rules why rule n
        → RefusedAt close rules m Rules (Some (rules_location close rules rule n))
    in_body : (why : Fault) (rule n : ℕ) → m.err ≡ Some why
        → refused.RefusedAt HasEdition (59 ∷ 44
        ∷ []) (expected (codes "expected `;` or `,` to delimit rules"))
        rules why rule n
        → RefusedAt close rules m Body (Some (rules_location close rules rule n))
    in_part : (k : Delimiter) (arguments : Forest) (why : Fault) (part : Mode) (n : ℕ) → m.err
        ≡ Some why
        → refused.OneRefusedAt HasEdition arguments rules why part n
        → RefusedAt close rules m (Arguments k arguments)
        (Some (part_location k.close arguments close rules part n))
