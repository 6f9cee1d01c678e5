-- What a token is, whatever its span.
use Rattle.std.specs.Prelude.{◌≡◌, ℕ, Bool, List, ◌++◌, Result, Ok, Err}
use Rattle.mbe_tt.specs.declared.span.Span.{Span}
use Rattle.mbe_tt.specs.Trees.Leaf.{literal, punct, ident}
use Rattle.mbe_tt.specs.declared.tt.DelimiterKind.{DelimiterKind}
use Rattle.mbe_tt.specs.declared.tt.IdentIsRaw.{IdentIsRaw}
use Rattle.mbe_tt.specs.declared.tt.LitKind.{LitKind}
use Rattle.mbe_tt.specs.declared.tt.Spacing.{Spacing}
use Rattle.mbe_text.specs.declared.scanner.LexFault.{LexFault}
use Rattle.mbe_text.specs.declared.scanner.Lexeme.{Lexeme}
use Rattle.mbe_text.specs.declared.scanner.Lexeme.TheVariants.{Ident, Literal, Punct, Open, Close}
use Rattle.mbe_text.specs.declared.scanner.Lexeme.TheVariants.{Lifetime, Doc}
use Rattle.mbe_text.specs.Tokens.{TokenItem, leaf_item, open_item, close_item, trees_item}
use Rattle.mbe_text.specs.Tokens.{lifetime_trees, doc_trees}

-- a token without its span; texts are bytes
pub data Shape : Type 0 where
  identifier : (name : List ℕ) → IdentIsRaw → Shape
  literal_of : (text suffix : List ℕ) (suffix_len : ℕ) → LitKind → Shape
  punct_of : (char : ℕ) → Spacing → Shape
  lifetime_of : (name : List ℕ) → IdentIsRaw → Shape
  doc_of : (text : List ℕ) (is_inner : Bool) → Shape
  opening : DelimiterKind → Shape
  closing : DelimiterKind → Shape

-- the item of a token of that shape at that span
abbrev pub item_of : Span → Shape → TokenItem
item_of span (identifier name is_raw) =
    leaf_item (ident (record { sym = name; is_raw = is_raw; span = span }))
item_of span (literal_of text suffix suffix_len kind) =
    leaf_item (literal (record {
      text_and_suffix = text
          ++ suffix;
      suffix_len = suffix_len;
      kind = kind;
      span = span;
    }))
item_of span (punct_of char spacing) =
    leaf_item (punct (record { char = char; spacing = spacing; span = span }))
item_of span (lifetime_of name is_raw) = trees_item span (lifetime_trees span name is_raw)
item_of span (doc_of text is_inner) = trees_item span (doc_trees span text is_inner)
item_of span (opening kind) = open_item kind span
item_of span (closing kind) = close_item kind span

-- What is read from the front of a text: a token and what is left after it, or the fault.
abbrev pub ReadResult : Type 0
ReadResult = Result (Shape × List ℕ) LexFault

-- the shape of a lexeme
abbrev pub shape_of : Lexeme → Shape
shape_of (Ident name is_raw) = identifier name.now is_raw
shape_of (Literal text suffix suffix_len kind) = literal_of text.now suffix.now suffix_len kind
shape_of (Punct char spacing) = punct_of char spacing
shape_of (Open kind) = opening kind
shape_of (Close kind) = closing kind
shape_of (Lifetime name is_raw) = lifetime_of name.now is_raw
shape_of (Doc text is_inner) = doc_of text.now is_inner

-- a call read that token and left that rest
abbrev pub ReadsAs : ReadResult → Result Lexeme LexFault → List ℕ → Type 0
ReadsAs read (Ok l) rest = read ≡ Ok (shape_of l, rest)
ReadsAs read (Err fault) rest = read ≡ Err fault
