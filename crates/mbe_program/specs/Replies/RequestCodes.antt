-- What the numbers of a request stand for.
use Rattle.std.specs.Prelude.{ℕ, ◌==◌, if◌then◌else◌, Option, Some, None}
use Rattle.mbe_tt.specs.declared.span.Edition.{Edition}
use Rattle.mbe_tt.specs.declared.span.Edition.TheVariants.{Edition2015, Edition2018, Edition2021}
use Rattle.mbe_tt.specs.declared.span.Edition.TheVariants.{Edition2024}
use Rattle.mbe_text.specs.declared.dialect.Dialect.{Dialect}
use Rattle.mbe_text.specs.declared.dialect.Dialect.TheVariants as dialects
use Rattle.mbe_semantics.specs.declared.macro_call_style.MacroCallStyle.{MacroCallStyle}
use Rattle.mbe_semantics.specs.declared.macro_call_style.MacroCallStyle.TheVariants.{FnLike, Attr}
use Rattle.mbe_semantics.specs.declared.macro_call_style.MacroCallStyle.TheVariants.{Derive}
use Rattle.mbe_program.specs.declared.replies.request_codes.GrammarKind.{GrammarKind}
use Rattle.mbe_program.specs.declared.replies.request_codes.GrammarKind.TheVariants as grammars
use Rattle.mbe_program.specs.declared.replies.request_codes.TreeForm.{TreeForm}
use Rattle.mbe_program.specs.declared.replies.request_codes.TreeForm.TheVariants as forms

-- The number of an edition is its year.
abbrev pub edition_of : ℕ → Option Edition
edition_of year =
    if year == 2015 then Some Edition2015
    else if year == 2018 then Some Edition2018
    else if year == 2021 then Some Edition2021
    else if year == 2024 then Some Edition2024
    else None

abbrev pub dialect_of : ℕ → Edition → Option Dialect
dialect_of number edition =
    if number == 0 then Some dialects.Sample
    else if number == 1 then Some (dialects.Rust edition)
    else None

abbrev pub style_of : ℕ → Option MacroCallStyle
style_of number =
    if number == 0 then Some FnLike
    else if number == 1 then Some Attr
    else if number == 2 then Some Derive
    else None

abbrev pub grammar_of : ℕ → Option GrammarKind
grammar_of number =
    if number == 0 then Some grammars.Sample
    else if number == 1 then Some grammars.Rust
    else if number == 2 then Some grammars.Text
    else None

abbrev pub form_of : ℕ → Option TreeForm
form_of number =
    if number == 0 then Some forms.Tokens
    else if number == 1 then Some forms.Lines
    else if number == 2 then Some forms.Rust
    else None
