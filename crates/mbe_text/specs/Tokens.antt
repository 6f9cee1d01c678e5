-- What the tokens of a text make: leaves and groups. The closing of a group must be of the group's
-- kind.
use Rattle.std.specs.Prelude.{◌≡◌, ◌≢◌, ℕ, ◌+◌, ◌<◌, ◌≤◌, ◌==◌, ◌&&◌, nat_lt, max, min, ⊤, Bool}
use Rattle.std.specs.Prelude.{true, false, if◌then◌else◌, Some, List, [], ◌∷◌, ◌++◌, length, codes}
use Rattle.std.specs.Prelude.{encode_utf8, slice_range}
use Rattle.mbe_tt.specs.Trees.Leaf.{Leaf, literal, punct, ident, span_of}
use Rattle.mbe_tt.specs.Trees.Literals.{ident_text, literal_output}
use Rattle.mbe_tt.specs.Trees.Tree.{Forest, none, leaf, group, append, one_leaf}
use Rattle.mbe_tt.specs.Trees.Top.{Top, top_of}
use Rattle.mbe_tt.specs.Buffers.GroupStack.{GroupStack, put, closed, innermost_kind}
use Rattle.mbe_tt.specs.declared.span.Span.{Span}
use Rattle.mbe_tt.specs.declared.tt.Delimiter.{Delimiter}
use Rattle.mbe_tt.specs.declared.tt.DelimiterKind.{DelimiterKind}
use Rattle.mbe_tt.specs.declared.tt.DelimiterKind.TheVariants.{Parenthesis, Brace, Bracket}
use Rattle.mbe_tt.specs.declared.tt.DelimiterKind.TheVariants.{Invisible}
use Rattle.mbe_tt.specs.declared.tt.IdentIsRaw.{IdentIsRaw}
use Rattle.mbe_tt.specs.declared.tt.IdentIsRaw.TheVariants as raw
use Rattle.mbe_tt.specs.declared.tt.LitKind.TheVariants.{StrRaw}
use Rattle.mbe_tt.specs.declared.tt.Spacing.{Spacing}
use Rattle.mbe_tt.specs.declared.tt.Spacing.TheVariants.{Alone, Joint}
use Rattle.mbe_text.specs.declared.scanner.LexFault.{LexFault}
use Rattle.mbe_text.specs.declared.fault_kind.LexFaultKind.TheVariants as fault_kind
use Rattle.mbe_text.specs.Characters.{apostrophe, quotation_mark, exclamation_mark, number_sign}
use Rattle.mbe_text.specs.Characters.{equals_sign}
use Rattle.mbe_text.specs.declared.scanner.SourceToken.{SourceToken}
use Rattle.mbe_text.specs.declared.scanner.Lexeme.{Lexeme}
use Rattle.mbe_text.specs.declared.scanner.Lexeme.TheVariants.{Ident, Literal, Punct, Open, Close}
use Rattle.mbe_text.specs.declared.scanner.Lexeme.TheVariants.{Lifetime, Doc}
use Rattle.mbe_text.specs.declared.lexer.LexError.{LexError}
use Rattle.mbe_text.specs.declared.lexer.LexError.TheVariants as errors

-- the span of those bytes of a file
abbrev pub bytes_of : ℕ → ℕ → ℕ → Span
bytes_of file start end =
    record { file = file; ast = 0; start = start; end = end; ctx = record { 0 = 0 } }

-- ---- tokens of the Rust dialect that make several trees

abbrev pub punct_leaf : Span → ℕ → Spacing → Leaf
punct_leaf span char spacing = punct (record { char = char; spacing = spacing; span = span })

abbrev pub ident_leaf : Span → List ℕ → IdentIsRaw → Leaf
ident_leaf span name is_raw = ident (record { sym = name; is_raw = is_raw; span = span })

-- a lifetime: a joint `'`, and the identifier right after it
abbrev pub lifetime_trees : Span → List ℕ → IdentIsRaw → Forest
lifetime_trees span name is_raw =
    leaf (punct_leaf (record span { end = span.start + 1 }) apostrophe Joint)
    (leaf (ident_leaf (record span { start = span.start + 1 }) name is_raw) none)

-- the length of the run of a `"` and `#`s after it that ends with this byte, at most 255, given
-- the length before the byte
abbrev pub guards_after : ℕ → ℕ → ℕ
guards_after guards byte =
    if byte == quotation_mark then 1
    else if byte == number_sign && nat_lt 0 guards then min (guards + 1) 255
    else 0

-- the greatest such length at any byte of a text, given the length before the text
abbrev pub most_guards : ℕ → List ℕ → ℕ
most_guards guards [] = 0
most_guards guards (byte ∷ bytes) = let now =
    guards_after guards byte in max now (most_guards now bytes)

-- a raw string with that many `#`s
abbrev pub raw_string_leaf : Span → List ℕ → ℕ → Leaf
raw_string_leaf span text hashes = literal
    (record { text_and_suffix = text; suffix_len = 0; kind = StrRaw hashes; span = span })

-- `doc = r".."`; the raw string has as many `#`s as its text needs
abbrev pub doc_assignment : Span → List ℕ → Forest
doc_assignment span text =
    leaf (ident_leaf span (codes "doc") raw.No) (leaf (punct_leaf span equals_sign Alone)
    (leaf (raw_string_leaf span text (most_guards 0 text)) none))

-- `[doc = r".."]`
abbrev pub doc_group : Span → List ℕ → Forest
doc_group span text =
    group (record { opening = span; close = span; kind = Bracket }) (doc_assignment span text) none

-- `#`, or `#!` for an inner comment, which documents what is around it
abbrev pub doc_marks : Span → Bool → Forest
doc_marks span false = leaf (punct_leaf span number_sign Alone) none
doc_marks span true =
    leaf (punct_leaf span number_sign Joint) (leaf (punct_leaf span exclamation_mark Alone) none)

-- A doc comment: `#[doc = r".."]`, or `#![doc = r".."]` for an inner one. Each token has the
-- comment's span.
abbrev pub doc_trees : Span → List ℕ → Bool → Forest
doc_trees span text is_inner = append (doc_marks span is_inner) (doc_group span text)

-- ---- tokens

-- a token without the memory of its texts: a leaf, trees that one token makes, or a delimiter
pub data TokenItem : Type 0 where
  leaf_item : Leaf → TokenItem
  trees_item : Span → Forest → TokenItem
  open_item : DelimiterKind → Span → TokenItem
  close_item : DelimiterKind → Span → TokenItem

-- the item of a lexeme with that span
abbrev pub lexeme_item : Span → Lexeme → TokenItem
lexeme_item span (Ident name is_raw) =
    leaf_item (ident (record { sym = name.now; is_raw = is_raw; span = span }))
lexeme_item span (Literal text suffix suffix_len kind) =
    leaf_item (literal (record {
      text_and_suffix = text.now
          ++ suffix.now;
      suffix_len = suffix_len;
      kind = kind;
      span = span;
    }))
lexeme_item span (Punct char spacing) =
    leaf_item (punct (record { char = char; spacing = spacing; span = span }))
lexeme_item span (Lifetime name is_raw) = trees_item span (lifetime_trees span name.now is_raw)
lexeme_item span (Doc text is_inner) = trees_item span (doc_trees span text.now is_inner)
lexeme_item span (Open kind) = open_item kind span
lexeme_item span (Close kind) = close_item kind span

abbrev pub token_item : SourceToken → TokenItem
token_item t = lexeme_item t.span t.lexeme

-- the span of an item
abbrev pub item_span : TokenItem → Span
item_span (leaf_item l) = span_of l
item_span (trees_item span trees) = span
item_span (open_item kind span) = span
item_span (close_item kind span) = span

-- the texts of delimiters
abbrev pub opening_text : DelimiterKind → List ℕ
opening_text Parenthesis = codes "("
opening_text Brace = codes "{"
opening_text Bracket = codes "["
opening_text Invisible = []

abbrev pub closing_text : DelimiterKind → List ℕ
closing_text Parenthesis = codes ")"
closing_text Brace = codes "}"
closing_text Bracket = codes "]"
closing_text Invisible = []

-- an item's text, with the quotes and the suffix of a literal, and the `r#` of a raw identifier.
-- The text of trees is left out: the sample dialect doesn't have them.
abbrev pub item_text : TokenItem → List ℕ
item_text (leaf_item (ident i)) = ident_text i
item_text (leaf_item (punct p)) = encode_utf8 p.char
item_text (leaf_item (literal l)) = literal_output l
item_text (trees_item span trees) = []
item_text (open_item kind span) = opening_text kind
item_text (close_item kind span) = closing_text kind

-- the text of a lexeme, whatever its span
abbrev pub lexeme_text : Lexeme → List ℕ
lexeme_text l = item_text (lexeme_item (bytes_of 0 0 0) l)

-- the text has each item's text at the item's span
abbrev pub AreSpelled : List ℕ → List TokenItem → Type 0
AreSpelled text [] = ⊤
AreSpelled text (x ∷ xs) = (slice_range text (item_span x).start (item_span x).end ≡ item_text x)
    × AreSpelled text xs

-- How an item changes the open groups. A closing must be of the innermost group's kind.
abbrev pub Adds : TokenItem → GroupStack → GroupStack → Type 0
Adds (leaf_item l) old new = new ≡ put (one_leaf l) old
Adds (trees_item span trees) old new = new ≡ put trees old
Adds (open_item kind span) old new =
    new ≡ (record { opening = span; close = span; kind = kind }, none) ∷ old
Adds (close_item kind span) old new = (innermost_kind old ≡ Some kind) × (new ≡ closed span old)

-- a closing that isn't of the innermost group's kind, or closes none
abbrev pub IsMismatched : TokenItem → GroupStack → Type 0
IsMismatched (leaf_item l) old = ⊥
IsMismatched (trees_item span trees) old = ⊥
IsMismatched (open_item kind span) old = ⊥
IsMismatched (close_item kind span) old = innermost_kind old ≢ Some kind

-- the fault of a closing that doesn't match
abbrev pub closing_fault : TokenItem → LexFault
closing_fault item = record { offset = (item_span item).start; fault_kind = fault_kind.Closing }

-- the error is a fault at the item's first byte, and the item is a closing that doesn't match
abbrev pub FaultsAt : TokenItem → GroupStack → LexError → Type 0
FaultsAt item old (errors.Fault fault) = (fault ≡ closing_fault item) × IsMismatched item old
FaultsAt item old errors.OutOfMemory = ⊤

-- how the items change the open groups, one after another
abbrev pub Makes : GroupStack → List TokenItem → GroupStack → Type 0
Makes old [] new = new ≡ old
Makes old (x ∷ xs) new = (mid : GroupStack) × Adds x old mid × Makes mid xs new

-- the outermost group, after every other open group is closed with that span; `d` and `f` are the
-- innermost one
abbrev pub gathered : Span → Delimiter → Forest → GroupStack → Top
gathered end d f [] = (d, f)
gathered end d f (g ∷ outer) =
    gathered end g.0 (append g.1 (group (record d { close = end }) f none)) outer

-- the outermost group after all other open groups are closed with that span
abbrev pub ended : Span → GroupStack → Top
ended end [] = top_of none
ended end (g ∷ outer) = gathered end g.0 g.1 outer

-- each item has at least one byte of that file, and the items stand one after another between
-- those two offsets
abbrev pub AreInOrder : ℕ → ℕ → List TokenItem → ℕ → Type 0
AreInOrder file from [] to = from ≤ to
AreInOrder file from (x ∷ xs) to =
    (item_span x ≡ bytes_of file (item_span x).start (item_span x).end)
    × (from ≤ (item_span x).start)
    × ((item_span x).start < (item_span x).end) × AreInOrder file (item_span x).end xs to

-- the open groups before the first token of a file of that length: the outermost group alone
abbrev pub whole : ℕ → ℕ → GroupStack
whole file len =
    (record { opening = bytes_of file 0 len; close = bytes_of file 0 len; kind = Invisible }, none)
    ∷ []

-- The trees of a file's text. Items make them that stand in the text one after another and are
-- spelled as the text has them. The groups that are open at the end are closed there.
pub record IsLexed (file : ℕ) (text : List ℕ) (trees : Top) : Type 0 where
  pub items : List TokenItem
  pub in_order : AreInOrder file 0 items (length text)
  pub spelled : AreSpelled text items
  pub levels : GroupStack
  pub made : Makes (whole file (length text)) items levels
  pub closed_at_end : trees ≡ ended (bytes_of file (length text) (length text)) levels
