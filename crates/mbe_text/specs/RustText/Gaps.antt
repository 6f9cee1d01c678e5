-- The gap between a token and what was written before it: nothing, a space, or a new line.
use Prim.Native.String.{String}
use Rattle.std.specs.Prelude.{ℕ, zero, suc, Bool, true, false, not, ◌&&◌, ◌||◌, ◌==◌, nat_lt}
use Rattle.std.specs.Prelude.{if◌then◌else◌, codes, List, [], ◌∷◌, ◌++◌, map, Option, Some, None}
use Rattle.std.specs.List.{list_any}
use Rattle.mbe_tt.specs.declared.span.Span.{Span}
use Rattle.mbe_tt.specs.declared.tt.Spacing.{Spacing}
use Rattle.mbe_tt.specs.declared.tt.Spacing.TheVariants as spacing
use Rattle.mbe_tt.specs.Trees.Leaf.{is_text}
use Rattle.mbe_text.specs.declared.gaps.LastToken.{LastToken}
use Rattle.mbe_text.specs.declared.gaps.LastToken.TheVariants.{Start, Word, Keyword, Literal, Joint}
use Rattle.mbe_text.specs.declared.gaps.LastToken.TheVariants.{Alone, Colons, Open, OpenBrace}
use Rattle.mbe_text.specs.declared.gaps.LastToken.TheVariants.{Close, CloseBrace, Semicolon}
use Rattle.mbe_text.specs.declared.gaps.Gap.{Gap}
use Rattle.mbe_text.specs.declared.gaps.Gap.TheVariants.{Nothing, Space, Line}

-- whether two tokens are adjacent in one file
abbrev pub are_adjacent : Span → Span → Bool
are_adjacent last next = last.file == next.file
    && (last.end == next.start && nat_lt last.start last.end)

-- whether a token is adjacent to the last written one, if there is one
abbrev pub is_adjacent : Option Span → Span → Bool
is_adjacent None next = false
is_adjacent (Some last) next = are_adjacent last next

-- whether a token has the same span as the last written one
abbrev pub has_same_span : Option Span → Span → Bool
has_same_span None next = false
has_same_span (Some last) next =
    last.file == next.file && (last.ast == next.ast
    && (last.start == next.start && (last.end == next.end && (last.ctx).0 == (next.ctx).0)))

-- a new line if one must begin; else a space if the tokens must be kept apart and aren't adjacent
-- in one file; else nothing
abbrev pub gap : Bool → Bool → Bool → Gap
gap begins_line is_apart is_adjacent =
    if begins_line then Line else if is_apart && not is_adjacent then Space else Nothing

-- four spaces, n times
unfoldable pub indent : ℕ → List ℕ
indent zero = []
indent (suc n) = codes "    " ++ indent n

-- the text of a gap, with that many open braces
abbrev pub gap_text : Gap → ℕ → List ℕ
gap_text Nothing depth = []
gap_text Space depth = codes " "
gap_text Line depth = codes "\n" ++ indent depth

-- whether a line ends here; after a `}` that depends on what follows
abbrev pub ends_line : LastToken → Bool → Bool
ends_line OpenBrace ends_brace = true
ends_line Semicolon ends_brace = true
ends_line CloseBrace ends_brace = ends_brace
ends_line _ ends_brace = false

abbrev pub is_one_of : ℕ → List ℕ → Bool
is_one_of c chars = list_any (λ d. c == d) chars

-- ---- words

-- words that a space follows
abbrev pub keywords : List String
keywords =
    "as" ∷ "async" ∷ "await" ∷ "break" ∷ "const" ∷ "dyn" ∷ "else" ∷ "enum" ∷ "extern" ∷ "fn" ∷ "for"
    ∷ "if" ∷ "impl"
    ∷ "in" ∷ "let"
    ∷ "loop" ∷ "match" ∷ "mod" ∷ "move" ∷ "mut" ∷ "pub" ∷ "ref" ∷ "return" ∷ "static" ∷ "struct"
    ∷ "trait" ∷ "type"
    ∷ "unsafe"
    ∷ "use" ∷ "where" ∷ "while" ∷ "yield" ∷ []

-- what a word is to the token after it
abbrev pub last_word : List ℕ → LastToken
last_word text = if list_any (is_text text) (map codes keywords) then Keyword else Word

-- Tokens that would be read as one token, or as others, are never adjacent. A word would continue
-- a word or a literal.
abbrev pub merges_with_word : LastToken → Bool
merges_with_word Word = true
merges_with_word Keyword = true
merges_with_word Literal = true
merges_with_word _ = false

-- puncts that belong to what a template has right after them, as in `&$x` or `Vec<$t>`
abbrev pub is_prefix : ℕ → Bool
is_prefix c = is_one_of c (codes "&*-!:<")

-- whether a word is kept apart from the last token
abbrev pub separates_word : LastToken → Bool
separates_word Start = false
separates_word Open = false
separates_word Colons = false
separates_word (Alone c) = not (is_one_of c (codes ".#$'"))
separates_word (Joint c) = not (is_one_of c (codes ".#$'") || is_prefix c)
separates_word _ = true

-- words that continue what a `}` closes
abbrev pub continues_block : List ℕ → Bool
continues_block text = is_text text (codes "else") || is_text text (codes "as")

-- ---- literals

abbrev pub separates_literal : LastToken → Bool
separates_literal Start = false
separates_literal Open = false
separates_literal (Alone c) = not (c == 46)
separates_literal (Joint c) = not (c == 46 || is_prefix c)
separates_literal _ = true

-- a literal would continue a word or a literal too, and a `#` right before a string would guard it
abbrev pub merges_with_literal : LastToken → Bool
merges_with_literal Word = true
merges_with_literal Keyword = true
merges_with_literal Literal = true
merges_with_literal (Joint c) = c == 35
merges_with_literal (Alone c) = c == 35
merges_with_literal _ = false

-- ---- puncts

abbrev pub is_joint : Spacing → Bool
is_joint spacing.Joint = true
is_joint spacing.Alone = false

-- Whether a punct is kept apart from the last token. A separator is joint to what the definition
-- has after it, which isn't what is written after it. Two puncts with one span were made together,
-- as the `::` of a path. A joint `#` at the front could be read as the `#!` of a shebang.
abbrev pub separates_punct : LastToken → Bool → ℕ → Spacing → Bool
separates_punct Start same_span char spacing = is_joint spacing && char == 35
separates_punct Open same_span char spacing = false
separates_punct (Joint c) same_span char spacing = not same_span
separates_punct Word same_span char spacing = not (is_one_of char (codes ",;?.:!"))
separates_punct Close same_span char spacing = not (is_one_of char (codes ",;?."))
separates_punct CloseBrace same_span char spacing = not (is_one_of char (codes ",;?."))
separates_punct Literal same_span char spacing = not (is_one_of char (codes ",;?"))
separates_punct _ same_span char spacing = true

-- whether a token with that span is adjacent to the next one
abbrev pub is_adjacent_to_next : Span → Option Span → Bool
is_adjacent_to_next token_span None = false
is_adjacent_to_next token_span (Some next) = are_adjacent token_span next

-- Whether a punct may stay next to the token that it is adjacent to in a file. After a word, a `#`
-- or a `'` may not: the word would be a prefix. After a number, a `.` may only if the token after
-- it is adjacent too: `1.` alone is another number. After a punct that is alone, only a `'` may:
-- it begins a lifetime, and the punct stays alone.
abbrev pub may_touch_punct : LastToken → ℕ → Bool → Bool
may_touch_punct Word char beside_next = not (is_one_of char (codes "#'"))
may_touch_punct Keyword char beside_next = not (is_one_of char (codes "#'"))
may_touch_punct Literal char beside_next = beside_next || not (char == 46)
may_touch_punct (Alone c) char beside_next = char == 39
may_touch_punct Colons char beside_next = char == 39
may_touch_punct Semicolon char beside_next = char == 39
may_touch_punct _ char beside_next = true

-- whether a `:` here makes a `::`
abbrev pub is_colon : LastToken → Bool
is_colon (Joint c) = c == 58
is_colon _ = false

-- what a punct is to the token after it
abbrev pub last_punct : Spacing → ℕ → Bool → LastToken
last_punct spacing.Joint char after_colon = Joint char
last_punct spacing.Alone char after_colon =
    if char == 59 then Semicolon else if char == 58 && after_colon then Colons else Alone char

-- ---- groups

-- whether an opening is kept apart from the last token
abbrev pub separates_opening : LastToken → Bool → Bool
separates_opening Start is_brace = false
separates_opening Open is_brace = false
separates_opening (Joint c) is_brace = false
separates_opening OpenBrace is_brace = false
separates_opening Word is_brace = is_brace
separates_opening Close is_brace = is_brace
separates_opening (Alone c) is_brace = is_brace || not (is_one_of c (codes "!#."))
separates_opening _ is_brace = true

-- whether the last token is a `{`, so that nothing is between the braces
abbrev pub is_open_brace : LastToken → Bool
is_open_brace OpenBrace = true
is_open_brace _ = false

-- ---- doc comments

-- whether a line begins here
abbrev pub is_line_start : LastToken → Bool
is_line_start Start = true
is_line_start _ = false

-- whether a doc comment may be next; a joint punct before one would become alone
abbrev pub may_precede_comment : LastToken → Bool
may_precede_comment (Joint c) = false
may_precede_comment _ = true
