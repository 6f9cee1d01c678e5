-- Doc comments among trees: the attributes `#[doc = r".."]` and `#![doc = r".."]` that the lexer
-- makes of `/// ..` and `//! ..`, and of `/** .. */` and `/*! .. */`.
use Rattle.std.specs.Prelude.{ℕ, suc, ◌-◌, ◌==◌, Bool, true, false, not, ◌&&◌, ◌||◌, if◌then◌else◌}
use Rattle.std.specs.Prelude.{codes, chars, List, [], ◌∷◌, Option, Some, None, option_and_then}
use Rattle.std.specs.List.{list_any}
use Rattle.mbe_tt.specs.declared.tt.Punct.{Punct}
use Rattle.mbe_tt.specs.declared.tt.DelimiterKind.{DelimiterKind}
use Rattle.mbe_tt.specs.declared.tt.DelimiterKind.TheVariants.{Parenthesis, Brace, Bracket}
use Rattle.mbe_tt.specs.declared.tt.DelimiterKind.TheVariants.{Invisible}
use Rattle.mbe_tt.specs.declared.tt.IdentIsRaw.{IdentIsRaw}
use Rattle.mbe_tt.specs.declared.tt.IdentIsRaw.TheVariants.{No, Yes}
use Rattle.mbe_tt.specs.declared.tt.LitKind.{LitKind}
use Rattle.mbe_tt.specs.declared.tt.LitKind.TheVariants.{StrRaw}
use Rattle.mbe_tt.specs.Trees.Leaf.{Ident, Literal, literal, punct, ident, is_text}
use Rattle.mbe_tt.specs.Trees.Tree.{Forest, none, leaf, group, rest_of, any_ident, front_punct}
use Rattle.mbe_tt.specs.Trees.Tree.{front_group}
use Rattle.mbe_text.specs.Characters.{slash, star}
use Rattle.mbe_text.specs.Tokens.{most_guards}
use Rattle.mbe_text.specs.RustText.Gaps.{is_joint, has_same_span}

-- a doc comment: whether it documents what is around it, whether it is `/** .. */` or `/*! .. */`,
-- and the text between its marks
pub record DocComment : Type 0 where
  pub is_inner : Bool
  pub is_block : Bool
  pub text : List ℕ

abbrev pub is_line_end : ℕ → Bool
is_line_end byte = byte == 10 || byte == 13

abbrev pub has_line_end : List ℕ → Bool
has_line_end text = list_any is_line_end text

abbrev pub begins_with_slash : List ℕ → Bool
begins_with_slash [] = false
begins_with_slash (byte ∷ bytes) = byte == 47

-- The text may be that of a line doc comment: no line ends in it. `////` doesn't begin a doc
-- comment.
abbrev pub is_line : Bool → List ℕ → Bool
is_line is_inner text = not (has_line_end text) && (is_inner || not (begins_with_slash text))

-- ---- block comments

-- the text and the `*/` after it begin with a `*` or a `/`
abbrev pub begins_with_mark : List ℕ → Bool
begins_with_mark [] = true
begins_with_mark (byte ∷ bytes) = byte == star || byte == slash

abbrev pub opens_comment : ℕ → ℕ → Bool
opens_comment last c = last == slash && c == star

abbrev pub closes_comment : ℕ → ℕ → Bool
closes_comment last c = last == star && c == slash

-- A block comment ends right after these characters. `depth` nested comments are open before them;
-- each of these ends in the characters, and no other comment does. `last` is the character before,
-- unless that belongs to a mark. No character is a carriage return.
abbrev pub is_closed : ℕ → ℕ → List ℕ → Bool
is_closed last depth [] = depth == 0 && not (last == slash)
is_closed last depth (c ∷ cs) =
    if c == 13 then false
    else if opens_comment last c then is_closed 0 (suc depth) cs
    else if closes_comment last c then not (depth == 0) && is_closed 0 (depth - 1) cs
    else is_closed c depth cs

-- The text may be that of a block doc comment, which ends right after the text. `/***` and `/**/`
-- don't begin a doc comment.
abbrev pub is_block : Bool → List ℕ → Bool
is_block is_inner text = (is_inner || not (begins_with_mark text)) && is_closed 0 0 (chars text)

-- the text may be that of a doc comment: a line comment, or a block comment if the flag says so
abbrev pub is_comment : Bool → Bool → List ℕ → Bool
is_comment is_inner false text = is_line is_inner text
is_comment is_inner true text = is_block is_inner text

-- ---- `doc = r".."`

abbrev pub is_not_raw : IdentIsRaw → Bool
is_not_raw No = true
is_not_raw Yes = false

-- a raw string with that many `#`s
abbrev pub is_raw_string : ℕ → LitKind → Bool
is_raw_string hashes (StrRaw n) = n == hashes
is_raw_string hashes _ = false

-- the tokens `doc = r".."` as the lexer makes them of a comment, all with its span; the spans of
-- the `#` and the brackets around them don't matter
abbrev pub is_doc_assignment : Ident → Punct → Literal → Bool
is_doc_assignment name equals l =
    (is_text name.sym (codes "doc") && is_not_raw name.is_raw)
    && (equals.char == 61 && not (is_joint equals.spacing))
    && (l.suffix_len == 0 && is_raw_string (most_guards 0 l.text_and_suffix) l.kind)
    && (has_same_span (Some name.span) equals.span && has_same_span (Some name.span) l.span)

-- the comment of these tokens, if the lexer makes them of one
abbrev pub assigned_comment : Bool → Ident → Punct → Literal → Option DocComment
assigned_comment is_inner name equals l =
    let is_block = has_line_end l.text_and_suffix in
    if is_doc_assignment name equals l && is_comment is_inner is_block l.text_and_suffix
    then Some (record { is_inner = is_inner; is_block = is_block; text = l.text_and_suffix })
    else None

-- the literal, if it is the only tree
abbrev pub only_literal : Forest → Option Literal
only_literal none = None
only_literal (leaf (literal l) none) = Some l
only_literal (leaf (literal l) (leaf m rest)) = None
only_literal (leaf (literal l) (group d inside rest)) = None
only_literal (leaf (punct p) rest) = None
only_literal (leaf (ident i) rest) = None
only_literal (group d inside rest) = None

-- the comment of exactly three trees `doc = r".."`
abbrev pub comment_inside : Bool → Forest → Option DocComment
comment_inside is_inner f =
    option_and_then (λ name. option_and_then (λ equals.
    option_and_then (assigned_comment is_inner name equals) (only_literal (rest_of (rest_of f))))
    (front_punct (rest_of f)))
    (any_ident f)

-- ---- `#[..]` and `#![..]`

abbrev pub is_bracket : DelimiterKind → Bool
is_bracket Bracket = true
is_bracket Parenthesis = false
is_bracket Brace = false
is_bracket Invisible = false

-- the comment of a group in brackets at the front
abbrev pub bracketed_comment : Bool → Forest → Option DocComment
bracketed_comment is_inner f =
    option_and_then (λ g. if is_bracket g.0.kind then comment_inside is_inner g.1 else None)
    (front_group f)

-- the comment after a joint `#`
abbrev pub comment_after_hash : Forest → Option DocComment
comment_after_hash f =
    option_and_then (λ p. if p.char == 33
    && not (is_joint p.spacing) then bracketed_comment true (rest_of f) else None)
    (front_punct f)

-- the comment that begins with that punct
abbrev pub after_punct : Punct → Forest → Option DocComment
after_punct p f =
    if not (p.char == 35) then None else if is_joint p.spacing then comment_after_hash f
    else bracketed_comment false f

-- the doc comment at the front of trees
abbrev pub front_comment : Forest → Option DocComment
front_comment f = option_and_then (λ p. after_punct p (rest_of f)) (front_punct f)

-- the number of trees of a comment after the first
abbrev pub more_trees : Bool → ℕ
more_trees false = 1
more_trees true = 2
