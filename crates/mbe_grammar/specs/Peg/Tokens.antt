-- The tokens of a grammar's text, with their locations. Texts are bytes of UTF-8.
use Rattle.std.specs.Prelude.{ℕ, zero, suc, ◌+◌, ◌-◌, ◌^◌, Bool, not, ◌||◌, ◌==◌, if◌then◌else◌}
use Rattle.std.specs.Prelude.{min, List, [], ◌∷◌, ◌++◌, length, take, drop, codes, Option, Some}
use Rattle.std.specs.Prelude.{None, Result, Ok, Err}
use Rattle.std.specs.Borrow.{Bor}
use Rattle.std.specs.Char.{is_ascii_alphanumeric, len_utf8}
use Rattle.std.specs.List.{list_any, position_or_len, before_first, after_first}
use Rattle.std.specs.Str.{bytes_eq, chars, trim_start}
use Rattle.std.specs.Str.Lines.{lines}
use Rattle.mbe_tt.specs.declared.tt.DelimiterKind.{DelimiterKind}
use Rattle.mbe_tt.specs.declared.tt.DelimiterKind.TheVariants.{Parenthesis, Brace, Bracket}
use Rattle.mbe_tt.specs.declared.tt.DelimiterKind.TheVariants.{Invisible}
use Rattle.mbe_grammar.specs.declared.peg.peg_error.PegLocation.{PegLocation}
use Rattle.mbe_grammar.specs.declared.peg.peg_error.PegErrorKind.{PegErrorKind}
use Rattle.mbe_grammar.specs.declared.peg.peg_error.PegErrorKind.TheVariants.{InvalidToken}
use Rattle.mbe_grammar.specs.declared.peg.peg_error.PegErrorKind.TheVariants.{Unclosed, Empty}
use Rattle.mbe_grammar.specs.declared.peg.peg_error.PegErrorKind.TheVariants.{ExpectedSign}
use Rattle.mbe_grammar.specs.declared.peg.peg_token.PegToken.{PegToken}
use Rattle.mbe_grammar.specs.declared.peg.peg_token.PegToken.TheVariants.{Define, Name, Word}
use Rattle.mbe_grammar.specs.declared.peg.peg_token.PegToken.TheVariants.{Operator, Sign, Inside}
use Rattle.mbe_grammar.specs.declared.peg.peg_token.PegToken.TheVariants.{Mark}

-- a borrowed value at a fixed address
abbrev pub borrowed : {A : Type 0} → A → Bor A
borrowed x = record { ref_ptr = (0, 0); now = x }

-- ---- one token

abbrev pub is_of_name : ℕ → Bool
is_of_name c = is_ascii_alphanumeric c || (c == 95)

abbrev pub is_mark : ℕ → Bool
is_mark c = list_any (λ mark. c == mark) (codes "|&~?*+!()]")

-- the first character of a text, and the text after it
abbrev pub first_of : List ℕ → List ℕ → Option (ℕ × List ℕ)
first_of [] text = None
first_of (c ∷ cs) text = Some (c, drop (len_utf8 c) text)

unfoldable pub first_char : List ℕ → Option (ℕ × List ℕ)
first_char text = first_of (chars text) text

-- the text after this byte, if the text begins with it
abbrev pub after_byte : ℕ → List ℕ → Option (List ℕ)
after_byte c [] = None
after_byte c (b ∷ bs) = if b == c then Some bs else None

-- A token and the text after it, or nothing at a comment or the end of the line, or an error.
abbrev pub TokenResult : Type 0
TokenResult = Result (Option (PegToken × List ℕ)) PegErrorKind

-- the text up to a quote, and the text after the quote
abbrev pub up_to_quote : List ℕ → List ℕ → Result (List ℕ × List ℕ) PegErrorKind
up_to_quote [] rest = Err Empty
up_to_quote (b ∷ bs) rest = Ok (b ∷ bs, rest)

unfoldable pub quoted : ℕ → List ℕ → Result (List ℕ × List ℕ) PegErrorKind
quoted quote after =
    if position_or_len (λ b. b == quote) after == length after then Err Unclosed
    else up_to_quote (before_first (λ b. b == quote) after) (after_first (λ b. b == quote) after)

abbrev pub token_of : (List ℕ → PegToken) → Result (List ℕ × List ℕ) PegErrorKind → TokenResult
token_of kind (Ok (text, rest)) = Ok (Some (kind text, rest))
token_of kind (Err reason) = Err reason

-- a character between two "`"
abbrev pub closed_sign : ℕ → Option (ℕ × List ℕ) → TokenResult
closed_sign c None = Err ExpectedSign
closed_sign c (Some (d, rest)) = if d == 96 then Ok (Some (Sign c, rest)) else Err ExpectedSign

abbrev pub sign_of : Option (ℕ × List ℕ) → TokenResult
sign_of None = Err ExpectedSign
sign_of (Some (c, after)) = closed_sign c (first_char after)

unfoldable pub sign_at : List ℕ → TokenResult
sign_at after = sign_of (first_char after)

-- the kind of groups with this name
abbrev pub kind_named : List ℕ → Option DelimiterKind
kind_named name =
    if bytes_eq name (codes "PAREN") then Some Parenthesis
    else if bytes_eq name (codes "BRACE") then Some Brace
    else if bytes_eq name (codes "BRACKET") then Some Bracket
    else if bytes_eq name (codes "INVISIBLE") then Some Invisible
    else None

-- A name with the `[` that belongs to it, or without. `rest` is the text after the name.
abbrev pub inside_or_name : List ℕ → List ℕ → Option DelimiterKind → Option (List ℕ) → PegToken
    × List ℕ
inside_or_name name rest (Some kind) (Some more) = (Inside kind, more)
inside_or_name name rest _ _ = (Name (borrowed name), rest)

-- a name with the `=` that belongs to it, or without
abbrev pub define_or_name : List ℕ → List ℕ → Option (List ℕ) → PegToken × List ℕ
define_or_name name rest None = inside_or_name name rest (kind_named name) (after_byte 91 rest)
define_or_name name rest (Some more) = (Define (borrowed name), more)

-- white space may come before a `=`
abbrev pub name_token : List ℕ → List ℕ → PegToken × List ℕ
name_token name rest = define_or_name name rest (after_byte 61 (trim_start rest))

abbrev pub name_len : List ℕ → ℕ
name_len text = position_or_len (λ b. not (is_of_name b)) text

unfoldable pub name_at : List ℕ → PegToken × List ℕ
name_at text = name_token (take (name_len text) text) (drop (name_len text) text)

-- The token at the front of a text. Its first character decides: `#`, `"`, `'`, "`", a mark, or the
-- first character of a name.
abbrev pub token_of_first : List ℕ → Option (ℕ × List ℕ) → TokenResult
token_of_first text None = Ok None
token_of_first text (Some (c, after)) =
    if c == 35 then Ok None
    else if c == 34 then token_of (λ t. Word (borrowed t)) (quoted 34 after)
    else if c == 39 then token_of (λ t. Operator (borrowed t)) (quoted 39 after)
    else if c == 96 then sign_at after
    else if is_mark c then Ok (Some (Mark c, after))
    else if is_of_name c then Ok (Some (name_at text))
    else Err InvalidToken

unfoldable pub token_at : List ℕ → TokenResult
token_at text = token_of_first text (first_char text)

-- ---- locations

-- The number that comes after n others, counted from 1. It doesn't exceed the greatest number of 64
-- bits.
abbrev pub number_after : ℕ → ℕ
number_after n = min (n + 1) (2 ^ 64 - 1)

-- the location where the rest of a line begins; columns count characters
abbrev pub location_of : ℕ → List ℕ → List ℕ → PegLocation
location_of number line rest =
    record { line = number; column = number_after (length (chars line) - length (chars rest)) }

-- ---- all tokens

-- tokens, the location of the end, and the error there, if there is one
pub record TokenList : Type 0 where
  pub words : List (PegLocation × PegToken)
  pub end : PegLocation
  pub wrong : Option PegErrorKind

-- a token, if one begins here, and the tokens of the text after it
abbrev pub token_and_more : PegLocation → TokenResult → (List ℕ → TokenList) → TokenList
token_and_more location (Ok None) more = record { words = []; end = location; wrong = None }
token_and_more location (Err reason) more =
    record { words = []; end = location; wrong = Some reason }
token_and_more location (Ok (Some (token, rest))) more =
    let others = more (trim_start rest) in record others {
      words = (location, token)
          ∷ others.words;
    }

-- the tokens of the rest of a line, at most n of them
unfoldable pub tokenize_from : ℕ → ℕ → List ℕ → List ℕ → TokenList
tokenize_from zero number line rest =
    record { words = []; end = location_of number line rest; wrong = None }
tokenize_from (suc n) number line rest =
    token_and_more (location_of number line rest) (token_at rest) (tokenize_from n number line)

-- The tokens of a line. Each has at least one byte.
abbrev pub tokenize_line : ℕ → List ℕ → TokenList
tokenize_line number line = tokenize_from (length line) number line (trim_start line)

-- the tokens after some others
abbrev pub and_more : TokenList → TokenList → TokenList
and_more first more = record more { words = first.words ++ more.words }

-- unless the first ones end with an error
abbrev pub followed_by : TokenList → Option PegErrorKind → TokenList → TokenList
followed_by first None more = and_more first more
followed_by first (Some reason) more = first

-- The tokens of lines, with the number of the first line. The text before them ends at `end`.
unfoldable pub tokenize_lines : ℕ → PegLocation → List (List ℕ) → TokenList
tokenize_lines number end [] = record { words = []; end = end; wrong = None }
tokenize_lines number end (line ∷ more) =
    let first = tokenize_line number line in
    followed_by first first.wrong (tokenize_lines (number_after number) first.end more)

abbrev pub tokenize : List ℕ → TokenList
tokenize text = tokenize_lines 1 (record { line = 1; column = 1 }) (lines text)
