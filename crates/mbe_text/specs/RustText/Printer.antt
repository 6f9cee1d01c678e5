-- The Rust text of trees: a fold over their tokens, with a state that says what was written last.
use Rattle.std.specs.Prelude.{ℕ, zero, suc, ◌+◌, ◌-◌, ◌^◌, Bool, true, false, not, min, ◌&&◌}
use Rattle.std.specs.Prelude.{if◌then◌else◌, codes, List, [], ◌∷◌, ◌++◌, Option, Some, None}
use Rattle.std.specs.Prelude.{option_map, option_and_then}
use Rattle.std.specs.Char.{encode_utf8}
use Rattle.mbe_tt.specs.declared.span.Span.{Span}
use Rattle.mbe_tt.specs.declared.tt.Punct.{Punct}
use Rattle.mbe_tt.specs.declared.tt.Delimiter.{Delimiter}
use Rattle.mbe_tt.specs.declared.tt.DelimiterKind.{DelimiterKind}
use Rattle.mbe_tt.specs.declared.tt.DelimiterKind.TheVariants.{Parenthesis, Brace, Bracket}
use Rattle.mbe_tt.specs.declared.tt.DelimiterKind.TheVariants.{Invisible}
use Rattle.mbe_tt.specs.Trees.Leaf.{Leaf, Ident, Literal, literal, punct, ident, is_text}
use Rattle.mbe_tt.specs.Trees.Literals.{raw_prefix, literal_output}
use Rattle.mbe_tt.specs.Trees.Tree.{Forest, none, leaf, group, first, first_span}
use Rattle.mbe_text.specs.declared.gaps.LastToken.{LastToken}
use Rattle.mbe_text.specs.declared.gaps.LastToken.TheVariants as last
use Rattle.mbe_text.specs.declared.gaps.Gap.{Gap}
use Rattle.mbe_text.specs.declared.gaps.Gap.TheVariants as gaps
use Rattle.mbe_text.specs.RustText.Gaps.{gap, gap_text, is_adjacent, has_same_span}
use Rattle.mbe_text.specs.RustText.Gaps.{is_adjacent_to_next, ends_line, last_word, separates_word}
use Rattle.mbe_text.specs.RustText.Gaps.{continues_block, separates_literal, separates_punct}
use Rattle.mbe_text.specs.RustText.Gaps.{may_touch_punct, merges_with_word, merges_with_literal}
use Rattle.mbe_text.specs.RustText.Gaps.{is_colon, last_punct, is_one_of, separates_opening}
use Rattle.mbe_text.specs.RustText.Gaps.{is_open_brace, is_line_start, may_precede_comment}
use Rattle.mbe_text.specs.RustText.DocComments.{DocComment, front_comment, more_trees}

-- the state of the printer: the written text, its last token and the span of that token, and the
-- number of open braces
pub record PrinterState : Type 0 where
  pub text : List ℕ
  pub last : LastToken
  pub token_span : Option Span
  pub depth : ℕ

-- the state after one more gap and token
abbrev pub token : Gap → List ℕ → LastToken → Span → PrinterState → PrinterState
token g t l p s = record {
  text = s.text
      ++ (gap_text g s.depth ++ t);
  last = l;
  token_span = Some p;
  depth = s.depth;
}

-- ---- words

-- `$crate` is written as `crate`, which is right within one crate
abbrev pub name_text : List ℕ → List ℕ
name_text sym = if is_text sym (codes "$crate") then codes "crate" else sym

abbrev pub word_gap : PrinterState → List ℕ → Span → Gap
word_gap s name token_span =
    gap (ends_line s.last (not (continues_block name))) (separates_word s.last)
    (is_adjacent s.token_span token_span && not (merges_with_word s.last))

abbrev pub word : PrinterState → Ident → PrinterState
word s i = token (word_gap s (name_text i.sym) i.span) (raw_prefix i.is_raw ++ name_text i.sym)
    (last_word (name_text i.sym)) i.span s

-- ---- literals

abbrev pub literal_gap : PrinterState → Span → Gap
literal_gap s token_span = gap (ends_line s.last true) (separates_literal s.last)
    (is_adjacent s.token_span token_span && not (merges_with_literal s.last))

abbrev pub with_literal : PrinterState → Literal → PrinterState
with_literal s l = token (literal_gap s l.span) (literal_output l) last.Literal l.span s

-- ---- puncts

-- `next` is the span at which the next tree begins
abbrev pub punct_gap : PrinterState → Punct → Option Span → Gap
punct_gap s p next =
    gap (ends_line s.last (is_one_of p.char (codes "#'")))
    (separates_punct s.last (has_same_span s.token_span p.span) p.char p.spacing)
    (is_adjacent s.token_span p.span
    && may_touch_punct s.last p.char (is_adjacent_to_next p.span next))

abbrev pub with_punct : PrinterState → Punct → Option Span → PrinterState
with_punct s p next =
    token (punct_gap s p next) (encode_utf8 p.char) (last_punct p.spacing p.char (is_colon s.last))
    p.span s

abbrev pub with_leaf : PrinterState → Leaf → Option Span → PrinterState
with_leaf s (ident i) next = word s i
with_leaf s (literal l) next = with_literal s l
with_leaf s (punct p) next = with_punct s p next

-- ---- groups

abbrev pub opening_gap : PrinterState → Bool → Span → Gap
opening_gap s is_brace token_span =
    gap (ends_line s.last false) (separates_opening s.last is_brace)
    (is_adjacent s.token_span token_span)

-- one more open brace, up to the greatest number of 64 bits
abbrev pub deeper : PrinterState → PrinterState
deeper s = record s { depth = min (s.depth + 1) (2 ^ 64 - 1) }

abbrev pub shallower : PrinterState → PrinterState
shallower s = record s { depth = s.depth - 1 }

abbrev pub opened : PrinterState → DelimiterKind → Span → PrinterState
opened s Parenthesis token_span =
    token (opening_gap s false token_span) (codes "(") last.Open token_span s
opened s Bracket token_span =
    token (opening_gap s false token_span) (codes "[") last.Open token_span s
opened s Brace token_span =
    deeper (token (opening_gap s true token_span) (codes "{") last.OpenBrace token_span s)
opened s Invisible token_span = s

-- a `}` begins a line, unless it follows its `{` directly
abbrev pub brace_gap : PrinterState → Gap
brace_gap s = gap (not (is_open_brace s.last)) false false

abbrev pub closed : PrinterState → DelimiterKind → Span → PrinterState
closed s Parenthesis token_span = token (gap false false false) (codes ")") last.Close token_span s
closed s Bracket token_span = token (gap false false false) (codes "]") last.Close token_span s
closed s Brace token_span = token (brace_gap s) (codes "}") last.CloseBrace token_span (shallower s)
closed s Invisible token_span = s

-- ---- doc comments

-- a comment begins on a new line
abbrev pub comment_gap : PrinterState → Gap
comment_gap s = gap (not (is_line_start s.last)) false false

-- the opening marks of a comment; the flags say whether it is an inner one, and a block
abbrev pub comment_opener : Bool → Bool → List ℕ
comment_opener false false = codes "///"
comment_opener true false = codes "//!"
comment_opener false true = codes "/**"
comment_opener true true = codes "/*!"

abbrev pub comment_closer : Bool → List ℕ
comment_closer false = []
comment_closer true = codes "*/"

-- the text of a comment, up to the end of its line
abbrev pub comment_text : DocComment → ℕ → List ℕ
comment_text c depth =
    comment_opener c.is_inner c.is_block
    ++ (c.text ++ (comment_closer c.is_block ++ gap_text gaps.Line depth))

abbrev pub with_comment : PrinterState → DocComment → PrinterState
with_comment s c = record {
  text = s.text ++ (gap_text (comment_gap s) s.depth ++ comment_text c s.depth);
  last = last.Start;
  token_span = None;
  depth = s.depth;
}

-- the doc comment at the front of the trees, unless what was written last forbids a comment
abbrev pub next_comment : PrinterState → Forest → Option DocComment
next_comment s f =
    option_and_then (λ c. if may_precede_comment s.last then Some c else None) (front_comment f)

-- ---- trees

-- the span at which the next tree begins
abbrev pub next_span : Forest → Option Span
next_span f = option_map first_span (first f)

-- the state after these trees are written, except for the first n, which are written already
unfoldable pub written_after : ℕ → Forest → PrinterState → PrinterState
written_after n none s = s
written_after (suc n) (leaf l rest) s = written_after n rest s
written_after (suc n) (group d inside rest) s = written_after n rest s
written_after zero (leaf l rest) s = elim (next_comment s (leaf l rest)) [
  | Some c ↦ written_after (more_trees c.is_inner) rest (with_comment s c)
  | None ↦ written_after zero rest (with_leaf s l (next_span rest))
]
written_after zero (group d inside rest) s =
    written_after zero rest (closed (written_after zero inside (opened s d.kind d.opening)) d.kind
    d.close)

-- the state after these trees are written
abbrev pub written : Forest → PrinterState → PrinterState
written f s = written_after 0 f s

-- the state after, for each group from the innermost one on, its closing and the trees that follow
-- the group are written
unfoldable pub written_around : List (Delimiter × Forest) → PrinterState → PrinterState
written_around [] s = s
written_around (g ∷ around) s = written_around around (written g.1 (closed s g.0.kind g.0.close))

-- the state before anything is written, with that many open braces
abbrev pub start : ℕ → PrinterState
start depth = record { text = []; last = last.Start; token_span = None; depth = depth }

-- the Rust text of these trees
abbrev pub text_of : ℕ → Forest → List ℕ
text_of depth f = (written f (start depth)).text
