-- The numbers of flat tokens, and what each stands for.
use Rattle.std.specs.Prelude.{◌≡◌, ℕ, ◌==◌, if◌then◌else◌, Option, Some, None}
use Rattle.mbe_tt.specs.declared.span.Span.{Span}
use Rattle.mbe_tt.specs.declared.tt.LitKind.{LitKind}
use Rattle.mbe_tt.specs.declared.tt.LitKind.TheVariants.{Byte, Char, Integer, Float, Str, StrRaw}
use Rattle.mbe_tt.specs.declared.tt.LitKind.TheVariants.{ByteStr, ByteStrRaw, CStr, CStrRaw, Err}
use Rattle.mbe_tt.specs.declared.tt.DelimiterKind.{DelimiterKind}
use Rattle.mbe_tt.specs.declared.tt.DelimiterKind.TheVariants.{Parenthesis, Brace, Bracket}
use Rattle.mbe_tt.specs.declared.tt.DelimiterKind.TheVariants.{Invisible}
use Rattle.mbe_tt.specs.declared.tt.IdentIsRaw.{IdentIsRaw}
use Rattle.mbe_tt.specs.declared.tt.IdentIsRaw.TheVariants.{No, Yes}
use Rattle.mbe_tt.specs.declared.tt.Spacing.{Spacing}
use Rattle.mbe_tt.specs.declared.tt.Spacing.TheVariants.{Alone, Joint}
use Rattle.mbe_program.specs.declared.replies.flat.flat_token.FlatSpan.{FlatSpan}
use Rattle.mbe_tt.specs.Trees.Literals as literals

-- A span in numbers.
abbrev pub flat_span : Span → FlatSpan
flat_span s =
    record { file = s.file; ast = s.ast; start = s.start; end = s.end; context = (s.ctx).0 }

-- The span of these numbers.
abbrev pub span_of : FlatSpan → Span
span_of s =
    record {
      file = s.file;
      ast = s.ast;
      start = s.start;
      end = s.end;
      ctx = record
          { 0 = s.context };
    }

abbrev pub literal_sort : LitKind → ℕ
literal_sort Byte = 0
literal_sort Char = 1
literal_sort Integer = 2
literal_sort Float = 3
literal_sort Str = 4
literal_sort (StrRaw n) = 5
literal_sort ByteStr = 6
literal_sort (ByteStrRaw n) = 7
literal_sort CStr = 8
literal_sort (CStrRaw n) = 9
literal_sort Err = 10

-- The number of `#` around a literal.
abbrev pub hashes : LitKind → ℕ
hashes k = literals.hashes k

abbrev pub delimiter_sort : DelimiterKind → ℕ
delimiter_sort Parenthesis = 0
delimiter_sort Brace = 1
delimiter_sort Bracket = 2
delimiter_sort Invisible = 3

abbrev pub spacing_sort : Spacing → ℕ
spacing_sort Alone = 0
spacing_sort Joint = 1

abbrev pub raw_sort : IdentIsRaw → ℕ
raw_sort No = 0
raw_sort Yes = 1

-- The kind of a literal with that many `#`.
abbrev pub literal_of : ℕ → ℕ → Option LitKind
literal_of sort n =
    if sort == 0 then Some Byte
    else if sort == 1 then Some Char
    else if sort == 2 then Some Integer
    else if sort == 3 then Some Float
    else if sort == 4 then Some Str
    else if sort == 5 then Some (StrRaw n)
    else if sort == 6 then Some ByteStr
    else if sort == 7 then Some (ByteStrRaw n)
    else if sort == 8 then Some CStr
    else if sort == 9 then Some (CStrRaw n)
    else if sort == 10 then Some Err
    else None

abbrev pub delimiter_of : ℕ → Option DelimiterKind
delimiter_of sort =
    if sort == 0 then Some Parenthesis
    else if sort == 1 then Some Brace
    else if sort == 2 then Some Bracket
    else if sort == 3 then Some Invisible
    else None

abbrev pub spacing_of : ℕ → Option Spacing
spacing_of sort = if sort == 0 then Some Alone else if sort == 1 then Some Joint else None

abbrev pub raw_of : ℕ → Option IdentIsRaw
raw_of sort = if sort == 0 then Some No else if sort == 1 then Some Yes else None

-- The value is found again.
abbrev pub IsBack : {T : Type 0} → Option T → T → Type 0
IsBack found x = found ≡ Some x
