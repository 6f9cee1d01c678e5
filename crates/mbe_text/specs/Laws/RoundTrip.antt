-- Trees come back: the trees of the text that is written for them are these trees, without spans.
use Rattle.std.specs.Prelude.{◌≡◌, ℕ, ◌==◌, Bool, true, false, List, [], ◌∷◌, Ok, chars}
use Rattle.std.specs.Str.{IsUtf8}
use Rattle.mbe_tt.specs.declared.span.Edition.{Edition}
use Rattle.mbe_tt.specs.declared.tt.Delimiter.{Delimiter}
use Rattle.mbe_tt.specs.Trees.Leaf.{Leaf, Literal, literal, punct, ident}
use Rattle.mbe_tt.specs.Trees.Literals.{literal_output}
use Rattle.mbe_tt.specs.declared.tt.LitKind.{LitKind}
use Rattle.mbe_tt.specs.declared.tt.LitKind.TheVariants.{Byte, Char, Integer, Str, StrRaw, ByteStr}
use Rattle.mbe_tt.specs.declared.tt.LitKind.TheVariants.{ByteStrRaw, CStr, CStrRaw}
use Rattle.mbe_tt.specs.Trees.Top.{Top, no_span}
use Rattle.mbe_tt.specs.Trees.Tree.{Forest, none, leaf, group}
use Rattle.mbe_text.specs.RustText.Printer.{text_of}
use Rattle.mbe_text.specs.declared.dialect.Dialect.TheVariants.{Rust}
use Rattle.mbe_text.specs.LexedTrees.{lexed_trees}
use Rattle.mbe_text.specs.Laws.RustTrees.{begins_number, IsRust, IsLiteral, IsReadBefore}
use Rattle.mbe_text.specs.Laws.RustTrees.{MayHaveFields, MayPrecedeDots}

-- ---- without spans

abbrev pub bare_leaf : Leaf → Leaf
bare_leaf (literal l) = literal (record l { span = no_span })
bare_leaf (punct p) = punct (record p { span = no_span })
bare_leaf (ident i) = ident (record i { span = no_span })

abbrev pub bare_delimiter : Delimiter → Delimiter
bare_delimiter d = record { opening = no_span; close = no_span; kind = d.kind }

abbrev pub bare : Forest → Forest
bare none = none
bare (leaf l rest) = leaf (bare_leaf l) (bare rest)
bare (group d inside rest) = group (bare_delimiter d) (bare inside) (bare rest)

-- ---- the law

-- the text that is written for trees of Rust is read as these trees
pub record RoundTrips (edition : Edition) (file depth : ℕ) (f : Forest) : Type 0 where
  pub top : Top
  pub read : lexed_trees (Rust edition) file (text_of depth f) ≡ Ok top
  pub same : bare top.1 ≡ bare f

abbrev pub TreesRoundTrip : Type 0
TreesRoundTrip = (edition : Edition) (file depth : ℕ) (f : Forest) → IsRust edition f
    → RoundTrips edition file depth f

-- ---- strings and chars

-- a string that may have escapes
abbrev pub is_string : LitKind → Bool
is_string Str = true
is_string ByteStr = true
is_string CStr = true
is_string _ = false

-- a string that is read whole by itself is a literal, and a `.` may follow it
abbrev pub StringsAreRead : Type 0
StringsAreRead = (edition : Edition) (l : Literal) → is_string l.kind ≡ true
    → IsUtf8 (literal_output l)
    → IsReadBefore edition l []
    → IsLiteral edition l × MayPrecedeDots edition l

-- a char or a byte
abbrev pub is_char : LitKind → Bool
is_char Char = true
is_char Byte = true
is_char _ = false

-- a string without escapes
abbrev pub is_raw : LitKind → Bool
is_raw (StrRaw n) = true
is_raw (ByteStrRaw n) = true
is_raw (CStrRaw n) = true
is_raw _ = false

-- the same for a char or a byte
abbrev pub CharsAreRead : Type 0
CharsAreRead = (edition : Edition) (l : Literal) → is_char l.kind ≡ true → IsUtf8 (literal_output l)
    → IsReadBefore edition l []
    → IsLiteral edition l × MayPrecedeDots edition l

-- the same for a raw string
abbrev pub RawStringsAreRead : Type 0
RawStringsAreRead = (edition : Edition) (l : Literal) → is_raw l.kind ≡ true
    → IsUtf8 (literal_output l)
    → IsReadBefore edition l []
    → IsLiteral edition l × MayPrecedeDots edition l

-- ---- numbers

-- a `.` is the last character
abbrev pub ends_with_dot : List ℕ → Bool
ends_with_dot [] = false
ends_with_dot (c ∷ []) = c == 46
ends_with_dot (c ∷ (d ∷ cs)) = ends_with_dot (d ∷ cs)

-- an integer without a suffix
abbrev pub is_bare_integer : LitKind → ℕ → Bool
is_bare_integer Integer suffix_len = suffix_len == 0
is_bare_integer _ suffix_len = false

-- A number that is read whole by itself is a literal. The `.` of a field or a range may follow it,
-- unless it ends with a `.`. Any `.` may, unless it is an integer without a suffix.
abbrev pub NumbersAreRead : Type 0
NumbersAreRead = (edition : Edition) (l : Literal) → begins_number (chars (literal_output l)) ≡ true
    → IsUtf8 (literal_output l) → IsReadBefore edition l []
    → IsLiteral edition l × (ends_with_dot (chars (literal_output l)) ≡ false
    → MayHaveFields edition l × (is_bare_integer l.kind l.suffix_len ≡ false
    → MayPrecedeDots edition l))
