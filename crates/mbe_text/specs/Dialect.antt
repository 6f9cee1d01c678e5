-- Which token is at the front of a text: a table of cases for each dialect. Another dialect would
-- have other cases of the same parts.
use Rattle.std.specs.Prelude.{ℕ, if◌then◌else◌, List, codes, Option, Some, None, Ok, Err}
use Rattle.mbe_tt.specs.declared.tt.LitKind.TheVariants.{Str}
use Rattle.mbe_text.specs.declared.characters.CharClass.TheVariants.{IdentStart, Decimal}
use Rattle.mbe_text.specs.declared.dialect.Dialect.{Dialect}
use Rattle.mbe_text.specs.declared.dialect.Dialect.TheVariants.{Sample, Rust}
use Rattle.mbe_text.specs.Characters.{begins, begins_with, quotation_mark}
use Rattle.mbe_text.specs.Shapes.{ReadResult}
use Rattle.mbe_text.specs.Identifiers.{read_identifier}
use Rattle.mbe_text.specs.SampleLiterals.{read_number, read_quoted, read_quote}
use Rattle.mbe_text.specs.Punctuation.{read_punctuation}
use Rattle.mbe_text.specs.LexFaults.{fault_at}
use Rattle.mbe_text.specs.RustTokens as rust
use Rattle.mbe_tt.specs.declared.span.Edition.{Edition}

abbrev pub read_sample : ℕ → List ℕ → ReadResult
read_sample total cs =
    if begins IdentStart cs then read_identifier total cs
    else if begins Decimal cs then read_number total cs
    else if begins_with (codes "\"") cs then read_quoted total Str quotation_mark cs
    else if begins_with (codes "'") cs then read_quote total cs
    else read_punctuation total cs

-- the token of Rust, with the fault as a byte offset; without one, a punct or a delimiter
abbrev pub or_punctuation : ℕ → List ℕ → Option rust.RustTokenResult → ReadResult
or_punctuation total cs None = read_punctuation total cs
or_punctuation total cs (Some (Ok read)) = Ok read
or_punctuation total cs (Some (Err at)) = Err (fault_at at.0 total at.1)

abbrev pub read_rust : Edition → ℕ → List ℕ → ReadResult
read_rust edition total cs = or_punctuation total cs (rust.read_rust edition cs)

abbrev pub read_shape : Dialect → ℕ → List ℕ → ReadResult
read_shape Sample total cs = read_sample total cs
read_shape (Rust edition) total cs = read_rust edition total cs
