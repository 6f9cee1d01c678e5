-- Which tokens of the argument match a token or a separator of the pattern (as in rust-analyzer).
-- In rustc's dialect, fewer do.
use Rattle.std.specs.Prelude.{ℕ, Bool, true, false, not, ◌&&◌, ◌==◌, if◌then◌else◌, List, [], ◌∷◌}
use Rattle.std.specs.Prelude.{length, Option, Some, None}
use Rattle.std.specs.Str.{bytes_eq}
use Rattle.mbe_tt.specs.declared.grammar.Dialect.{Dialect}
use Rattle.mbe_tt.specs.declared.grammar.Dialect.TheVariants.{RustAnalyzer, Rustc}
use Rattle.mbe_tt.specs.declared.tt.IdentIsRaw.{IdentIsRaw}
use Rattle.mbe_tt.specs.declared.tt.IdentIsRaw.TheVariants.{No, Yes}
use Rattle.mbe_tt.specs.Laws.CodeEquality.{same}
use Rattle.mbe_tt.specs.Trees.Leaf.{Literal, ident, literal, punct, literal_code}
use Rattle.mbe_tt.specs.Trees.Tree.{Forest, none, leaf, Cut, cut, cut_trees, is_bool_text}
use Rattle.mbe_tt.specs.Trees.Glue.{glue, chars_of}
use Rattle.mbe_semantics.specs.Syntax.Op as ops
use Rattle.mbe_semantics.specs.Syntax.Op.{Token, Separator, ident_separator, literal_separator}
use Rattle.mbe_semantics.specs.Syntax.Op.{punct_separator, lifetime_separator}

-- a literal with this text and suffix, whatever its kind
abbrev pub literal_text_front : List ℕ → Forest → Option Cut
literal_text_front text (leaf (literal l) rest) =
    if bytes_eq l.text_and_suffix text then Some (cut_trees 1 (leaf (literal l) rest)) else None
literal_text_front text _ = None

-- an identifier with this text, raw or not
abbrev pub ident_text_front : List ℕ → Forest → Option Cut
ident_text_front text (leaf (ident i) rest) =
    if bytes_eq i.sym text then Some (cut_trees 1 (leaf (ident i) rest)) else None
ident_text_front text _ = None

-- An operator with exactly these chars. No chars match nothing.
abbrev pub puncts_front : List ℕ → Forest → Option Cut
puncts_front [] f = None
puncts_front (c ∷ chars) f =
    if bytes_eq (chars_of (glue f)) (c ∷ chars) then Some (cut_trees (length (c ∷ chars)) f)
    else None

-- the punct `'` and an identifier with this text
abbrev pub lifetime_text_front : List ℕ → Forest → Option Cut
lifetime_text_front text (leaf (punct p) (leaf (ident i) rest)) =
    if (p.char == 39) && bytes_eq i.sym text then Some
    (cut_trees 2 (leaf (punct p) (leaf (ident i) rest))) else None
lifetime_text_front text _ = None

-- the tokens that a token of the pattern matches
abbrev pub token_front : Token → Forest → Option Cut
token_front (ops.literal l) f = literal_text_front l.text_and_suffix f
token_front (ops.ident i) f = ident_text_front i.sym f
token_front (ops.puncts ps) f = puncts_front (chars_of ps) f

-- A literal separator also matches the identifier `true` or `false` with its text.
abbrev pub literal_separator_front : List ℕ → Forest → Option Cut
literal_separator_front text (leaf (ident i) rest) =
    if is_bool_text text then ident_text_front text (leaf (ident i) rest) else None
literal_separator_front text f = literal_text_front text f

-- the tokens that a separator matches
abbrev pub separator_front : Separator → Forest → Option Cut
separator_front (ident_separator i) f = ident_text_front i.sym f
separator_front (literal_separator l) f = literal_separator_front l.text_and_suffix f
separator_front (punct_separator ps) f = puncts_front (chars_of ps) f
separator_front (lifetime_separator p i) f = lifetime_text_front i.sym f

-- ---- rustc's dialect

-- both identifiers are raw, or neither is
abbrev pub is_as_raw : IdentIsRaw → IdentIsRaw → Bool
is_as_raw No No = true
is_as_raw No Yes = false
is_as_raw Yes No = false
is_as_raw Yes Yes = true

-- the literals are equal, except for their spans
abbrev pub is_same_literal : Literal → Literal → Bool
is_same_literal l k = same literal_code (record l { span = k.span }) k

-- the first tree is an identifier that is raw although the other isn't, or the other way round
abbrev pub differs_in_rawness : IdentIsRaw → Forest → Bool
differs_in_rawness is_raw (leaf (ident i) rest) = not (is_as_raw is_raw i.is_raw)
differs_in_rawness is_raw _ = false

-- the same for the second tree, after a first leaf
abbrev pub second_differs_in_rawness : IdentIsRaw → Forest → Bool
second_differs_in_rawness is_raw (leaf l rest) = differs_in_rawness is_raw rest
second_differs_in_rawness is_raw _ = false

-- the first tree is another literal
abbrev pub is_other_literal : Literal → Forest → Bool
is_other_literal l (leaf (literal k) rest) = not (is_same_literal l k)
is_other_literal l _ = false

-- In rustc's dialect, the first trees differ from the token in what rust-analyzer doesn't compare:
-- whether an identifier is raw, and the kind and the suffix of a literal.
abbrev pub is_other_token : Dialect → Token → Forest → Bool
is_other_token RustAnalyzer t f = false
is_other_token Rustc (ops.literal l) f = is_other_literal l f
is_other_token Rustc (ops.ident i) f = differs_in_rawness i.is_raw f
is_other_token Rustc (ops.puncts ps) f = false

-- the same for a separator
abbrev pub is_other_separator : Dialect → Separator → Forest → Bool
is_other_separator RustAnalyzer s f = false
is_other_separator Rustc (ident_separator i) f = differs_in_rawness i.is_raw f
is_other_separator Rustc (literal_separator l) f = is_other_literal l f
is_other_separator Rustc (punct_separator ps) f = false
is_other_separator Rustc (lifetime_separator p i) f = second_differs_in_rawness i.is_raw f

-- nothing, if the test is true
abbrev pub unless : Bool → Option Cut → Option Cut
unless true o = None
unless false o = o

-- the tokens that a token of the pattern matches in the dialect
abbrev pub token_front_in : Dialect → Token → Forest → Option Cut
token_front_in d t f = unless (is_other_token d t f) (token_front t f)

-- the tokens that a separator matches in the dialect
abbrev pub separator_front_in : Dialect → Separator → Forest → Option Cut
separator_front_in d s f = unless (is_other_separator d s f) (separator_front s f)

-- what is between two rounds: a separator, or nothing
abbrev pub between_front : Dialect → Option Separator → Forest → Option Cut
between_front d None f = Some (cut none f)
between_front d (Some s) f = separator_front_in d s f
