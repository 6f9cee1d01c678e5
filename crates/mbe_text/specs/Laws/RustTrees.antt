-- Which tokens and trees are Rust's in an edition: those whose written text can be read again. All
-- that the lexer makes are among them.
use Rattle.std.specs.Prelude.{◌≡◌, ◌≢◌, ◌⊎◌, ⊤, ℕ, zero, suc, if◌then◌else◌, ◌==◌, Bool, true}
use Rattle.std.specs.Prelude.{false, not, ◌&&◌, ◌||◌, Option, Some, None, List, [], ◌∷◌, ◌++◌}
use Rattle.std.specs.Prelude.{chars, codes, drop, Ok}
use Rattle.std.specs.Str.{IsUtf8}
use Rattle.std.specs.Char.{is_ascii_digit}
use Rattle.unicode_ident.specs.Ident.{is_xid_start, is_xid_continue}
use Rattle.mbe_tt.specs.declared.span.Edition.{Edition}
use Rattle.mbe_tt.specs.declared.span.Span.{Span}
use Rattle.mbe_tt.specs.declared.tt.Punct.{Punct}
use Rattle.mbe_tt.specs.declared.tt.Spacing.{Spacing}
use Rattle.mbe_tt.specs.declared.tt.Spacing.TheVariants.{Alone, Joint}
use Rattle.mbe_tt.specs.declared.tt.IdentIsRaw.{IdentIsRaw}
use Rattle.mbe_tt.specs.declared.tt.IdentIsRaw.TheVariants.{No, Yes}
use Rattle.mbe_tt.specs.declared.tt.DelimiterKind.TheVariants.{Invisible}
use Rattle.mbe_tt.specs.Trees.Editions.{at_least_2021, at_least_2024}
use Rattle.mbe_tt.specs.Trees.Leaf.{Leaf, Ident, Literal, literal, punct, ident, span_of}
use Rattle.mbe_tt.specs.Trees.Literals.{literal_output}
use Rattle.mbe_tt.specs.Trees.Tree.{Forest, FlatToken, token, opening, closing, flat}
use Rattle.mbe_text.specs.RustText.DocComments.{DocComment, assigned_comment, is_bracket}
use Rattle.mbe_text.specs.RustText.Gaps.{are_adjacent, has_same_span, is_adjacent_to_next, is_joint}
use Rattle.mbe_text.specs.Characters.{begins_with, apostrophe, low_line, slash, star, number_sign}
use Rattle.mbe_text.specs.RustTokens.{may_be_raw, read_rust}
use Rattle.mbe_text.specs.Shapes.{literal_of}
use Rattle.mbe_text.specs.Identifiers.{past_identifier}
use Rattle.mbe_text.specs.Laws.Gaps.{is_punct}

-- ---- characters

-- the character may begin an identifier
abbrev pub is_start : ℕ → Bool
is_start c = is_xid_start c || c == low_line

abbrev pub begins_word : List ℕ → Bool
begins_word [] = false
begins_word (c ∷ cs) = is_start c

-- the text begins with a character that would continue an identifier or a literal
abbrev pub continues_word : List ℕ → Bool
continues_word [] = false
continues_word (c ∷ cs) = is_xid_continue c

abbrev pub begins_number : List ℕ → Bool
begins_number [] = false
begins_number (c ∷ cs) = is_ascii_digit c

-- ---- words

-- the text of an identifier, or of a lifetime after its `'`
abbrev pub IsWord : List ℕ → Type 0
IsWord name = IsUtf8 name × (begins_word (chars name) ≡ true) × (past_identifier (chars name) ≡ [])

abbrev pub may_be : IdentIsRaw → List ℕ → Bool
may_be No name = true
may_be Yes name = may_be_raw name

abbrev pub IsIdent : Ident → Type 0
IsIdent i = IsWord i.sym × (may_be i.is_raw i.sym ≡ true)

-- ---- literals

-- the text continues no literal, whatever the literal is
abbrev pub ends_literal : List ℕ → Bool
ends_literal rest = not (continues_word rest || begins_with (codes ".") rest)

-- the text begins with the `.` of a range, of a field or of a method
abbrev pub begins_field : List ℕ → Bool
begins_field rest =
    begins_with (codes ".") rest && (begins_with (codes ".") (drop 1 rest)
    || begins_word (drop 1 rest))

-- how a literal begins: with a letter, a digit or a quote
abbrev pub begins_literal : List ℕ → Bool
begins_literal cs = begins_word cs || begins_number cs
    || begins_with (codes "\"") cs || begins_with (codes "'") cs

-- before that text, the literal is read, and nothing more
pub record IsReadBefore (edition : Edition) (l : Literal) (rest : List ℕ) : Type 0 where
  pub text : List ℕ
  pub suffix : List ℕ
  pub parts : text ++ suffix ≡ l.text_and_suffix
  pub read : read_rust edition (chars (literal_output l) ++ rest) ≡ Some (Ok
      (literal_of text suffix l.suffix_len l.kind, rest))

-- the literal is one of that edition
pub record IsLiteral (edition : Edition) (l : Literal) : Type 0 where
  pub utf8 : IsUtf8 (literal_output l)
  pub front : begins_literal (chars (literal_output l)) ≡ true
  pub whole : (rest : List ℕ) → ends_literal rest ≡ true → IsReadBefore edition l rest

-- how a literal is spelled
abbrev pub IsSpelled : Literal → Type 0
IsSpelled l = IsUtf8 (literal_output l) × (begins_literal (chars (literal_output l)) ≡ true)

-- the literal may stand right before any `.`, as `1.0` may and `1` may not
abbrev pub MayPrecedeDots : Edition → Literal → Type 0
MayPrecedeDots edition l = (rest : List ℕ) → begins_with (codes ".") rest ≡ true
    → IsReadBefore edition l rest

-- the literal may stand right before the `.` of a range, a field or a method, as `1` may and `1.`
-- may not
abbrev pub MayHaveFields : Edition → Literal → Type 0
MayHaveFields edition l = (rest : List ℕ) → begins_field rest ≡ true → IsReadBefore edition l rest

-- ---- tokens in a row

-- the span at which the next tree begins, if one follows in the same group
abbrev pub next_place : List FlatToken → Option Span
next_place [] = None
next_place (token l ∷ ts) = Some (span_of l)
next_place (opening d ∷ ts) = Some d.opening
next_place (closing d ∷ ts) = None

-- what may follow the `.` of a range, a field or a method: another `.` that it is joint to, a
-- name, or a literal that begins with a letter
abbrev pub may_follow_dot : Spacing → List FlatToken → Bool
may_follow_dot Joint (token (punct p) ∷ ts) = p.char == 46
may_follow_dot Alone (token (ident i) ∷ ts) = true
may_follow_dot Alone (token (literal l) ∷ ts) = begins_word (chars (literal_output l))
may_follow_dot _ _ = false

-- A `.` that is adjacent to the literal before it and to the token after it is no part of a
-- number.
abbrev pub IsBeforeDot : Edition → Literal → List FlatToken → Type 0
IsBeforeDot edition l (token (punct p) ∷ ts) =
    (p.char == 46 && (are_adjacent l.span p.span && is_adjacent_to_next p.span (next_place ts)))
    ≡ true
    → MayPrecedeDots edition l ⊎ (MayHaveFields edition l × (may_follow_dot p.spacing ts ≡ true))
IsBeforeDot edition l _ = ⊤

-- the two puncts in a row would be another token: a comment, or since edition 2024 a guard
abbrev pub make_another : Edition → ℕ → ℕ → Bool
make_another edition c d =
    (c == slash && (d == slash || d == star))
    || (at_least_2024 edition && (c == number_sign && d == number_sign))

-- two tokens are adjacent in one file, or have the same span
abbrev pub are_together : Span → Span → Bool
are_together one other = has_same_span (Some one) other || are_adjacent one other

-- the joint punct stands right before another one
abbrev pub IsJoined : Edition → Punct → List FlatToken → Type 0
IsJoined edition p (token (punct q) ∷ ts) =
    (is_punct q.char ≡ true) × (are_together p.span q.span ≡ true)
    × (make_another edition p.char q.char ≡ false)
IsJoined edition p _ = ⊥

abbrev pub HasSpacing : Edition → Spacing → Punct → List FlatToken → Type 0
HasSpacing edition Alone p ts = ⊤
HasSpacing edition Joint p ts = IsJoined edition p ts

-- a lifetime may be raw since edition 2021
abbrev pub may_be_lifetime : Edition → IdentIsRaw → Bool
may_be_lifetime edition No = true
may_be_lifetime edition Yes = at_least_2021 edition

-- the name of a lifetime follows
abbrev pub IsLifetime : Edition → Spacing → List FlatToken → Type 0
IsLifetime edition Joint (token (ident i) ∷ ts) = may_be_lifetime edition i.is_raw ≡ true
IsLifetime edition _ _ = ⊥

-- a `'`, or another punct
abbrev pub IsSign : Bool → Edition → Punct → List FlatToken → Type 0
IsSign true edition p ts = IsLifetime edition p.spacing ts
IsSign false edition p ts = (is_punct p.char ≡ true) × HasSpacing edition p.spacing p ts

abbrev pub IsPunct : Edition → Punct → List FlatToken → Type 0
IsPunct edition p ts = IsSign (p.char == apostrophe) edition p ts

-- the leaf is one of Rust before these tokens
abbrev pub IsLeaf : Edition → Leaf → List FlatToken → Type 0
IsLeaf edition (ident i) ts = IsIdent i
IsLeaf edition (literal l) ts = IsSpelled l × IsBeforeDot edition l ts
IsLeaf edition (punct p) ts = IsPunct edition p ts

abbrev pub AreRust : Edition → List FlatToken → Type 0
AreRust edition [] = ⊤
AreRust edition (token l ∷ ts) = IsLeaf edition l ts × AreRust edition ts
AreRust edition (opening d ∷ ts) = (d.kind ≢ Invisible) × AreRust edition ts
AreRust edition (closing d ∷ ts) = (d.kind ≢ Invisible) × AreRust edition ts

-- ---- doc comments

-- the doc comment of the tokens `doc = r".."`
abbrev pub set_flat : Bool → List FlatToken → Option DocComment
set_flat is_inner (token (ident i) ∷ (token (punct q) ∷ (token (literal l) ∷ (closing d ∷ ts)))) =
    assigned_comment is_inner i q l
set_flat is_inner _ = None

abbrev pub brackets_flat : Bool → List FlatToken → Option DocComment
brackets_flat is_inner (opening d ∷ ts) = if is_bracket d.kind then set_flat is_inner ts else None
brackets_flat is_inner _ = None

abbrev pub hash_flat : List FlatToken → Option DocComment
hash_flat (token (punct q) ∷ ts) =
    if q.char == 33 && not (is_joint q.spacing) then brackets_flat true ts else None
hash_flat _ = None

-- the doc comment that begins with this punct
abbrev pub punct_flat : Punct → List FlatToken → Option DocComment
punct_flat p ts =
    if not (p.char == 35) then None else if is_joint p.spacing then hash_flat ts else brackets_flat
    false ts

-- the number of tokens of a doc comment after the first
abbrev pub more_tokens : Bool → ℕ
more_tokens false = 5
more_tokens true = 6

-- the doc comment that is written as a comment; none if a joint punct is before it
abbrev pub comment_after : Bool → Punct → List FlatToken → Option DocComment
comment_after joint p ts = if joint then None else punct_flat p ts

-- the number of tokens after that punct that belong to a comment, and whether a joint punct is
-- before the tokens that follow these
abbrev pub skipped : Option DocComment → ℕ
skipped None = 0
skipped (Some c) = more_tokens c.is_inner

abbrev pub joint_after : Option DocComment → Punct → Bool
joint_after None p = is_joint p.spacing
joint_after (Some c) p = false

-- Each literal is read whole, except for the text of a doc comment that is written as one. The
-- first n tokens belong to such a comment; the flag says whether a joint punct is right before the
-- tokens.
abbrev pub AreRead : Edition → ℕ → Bool → List FlatToken → Type 0
AreRead edition n joint [] = ⊤
AreRead edition (suc n) joint (t ∷ ts) = AreRead edition n false ts
AreRead edition zero joint (token (ident i) ∷ ts) = AreRead edition 0 false ts
AreRead edition zero joint (token (literal l) ∷ ts) =
    IsLiteral edition l × AreRead edition 0 false ts
AreRead edition zero joint (token (punct p) ∷ ts) =
    AreRead edition (skipped (comment_after joint p ts)) (joint_after (comment_after joint p ts) p)
    ts
AreRead edition zero joint (opening d ∷ ts) = AreRead edition 0 false ts
AreRead edition zero joint (closing d ∷ ts) = AreRead edition 0 false ts

-- ---- trees

abbrev pub IsRust : Edition → Forest → Type 0
IsRust edition f = AreRust edition (flat f) × AreRead edition 0 false (flat f)
