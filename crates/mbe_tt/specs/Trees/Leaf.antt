-- The leaves of token trees, as values that own no memory. A text is the list of its bytes.
use Rattle.std.specs.Prelude.{◌≡◌, ℕ, Bool, List, codes, refl, ◌⊎◌}
use Rattle.std.specs.Str.{bytes_eq}
use Rattle.std.proofs.Common.{inl, inr}
use Rattle.std.specs.Coded.{Coded, code_by, coded_list, coded_ℕ, coded×, coded⊎}
use Rattle.mbe_tt.specs.declared.span.Span.{Span}
use Rattle.mbe_tt.specs.declared.tt.Punct.{Punct}
use Rattle.mbe_tt.specs.declared.tt.LitKind.{LitKind}
use Rattle.mbe_tt.specs.declared.tt.IdentIsRaw.{IdentIsRaw}
use Rattle.mbe_tt.specs.contracts.tt.Punct as p
use Rattle.mbe_tt.specs.contracts.tt.LitKind as k
use Rattle.mbe_tt.specs.contracts.tt.IdentIsRaw as r
use Rattle.mbe_tt.specs.contracts.span.Span as s

-- a literal: the text between the quotes with its suffix, and the suffix's length in bytes
pub record Literal : Type 0 where
  pub text_and_suffix : List ℕ
  pub suffix_len : ℕ
  pub kind : LitKind
  pub span : Span

-- an identifier: `sym` is the text without `r#`
pub record Ident : Type 0 where
  pub sym : List ℕ
  pub is_raw : IdentIsRaw
  pub span : Span

-- a literal, a punct or an identifier
pub data Leaf : Type 0 where
  literal : Literal → Leaf
  punct : Punct → Leaf
  ident : Ident → Leaf

-- Two texts are equal. A definition that names an identifier by its text means any identifier with
-- that text, raw or not.
abbrev pub is_text : List ℕ → List ℕ → Bool
is_text a b = bytes_eq a b

-- the text is `_`
abbrev pub is_underscore : List ℕ → Bool
is_underscore s = is_text s (codes "_")

-- the span of a leaf
abbrev pub span_of : Leaf → Span
span_of (literal l) = l.span
span_of (punct p) = p.span
span_of (ident i) = i.span

-- ---- codes, by which values are compared

-- a literal, an identifier and a leaf as the values that are compared
abbrev pub LiteralRow : Type 0
LiteralRow = List ℕ × (ℕ × (LitKind × Span))

abbrev pub IdentRow : Type 0
IdentRow = List ℕ × (IdentIsRaw × Span)

abbrev pub LeafRow : Type 0
LeafRow = Literal ⊎ (Punct ⊎ Ident)

abbrev pub literal_code : Coded Literal
literal_code =
    code_by LiteralRow (coded× (coded_list coded_ℕ)
    (coded× coded_ℕ (coded× k.the_row.coded s.the_row.coded)))
    (λ l. (l.text_and_suffix, (l.suffix_len, (l.kind, l.span))))
    (λ r. record { text_and_suffix = r.0; suffix_len = r.1.0; kind = r.1.1.0; span = r.1.1.1 })
    (λ _. refl)

abbrev pub ident_code : Coded Ident
ident_code =
    code_by IdentRow (coded× (coded_list coded_ℕ) (coded× r.the_row.coded s.the_row.coded))
    (λ i. (i.sym, (i.is_raw, i.span)))
    (λ r. record { sym = r.0; is_raw = r.1.0; span = r.1.1 })
    (λ _. refl)

abbrev pub leaf_row : Leaf → LeafRow
leaf_row (literal l) = inl l
leaf_row (punct p) = inr (inl p)
leaf_row (ident i) = inr (inr i)

abbrev pub row_leaf : LeafRow → Leaf
row_leaf (inl l) = literal l
row_leaf (inr (inl p)) = punct p
row_leaf (inr (inr i)) = ident i

pub row_leaf-leaf_row : (l : Leaf) → row_leaf (leaf_row l) ≡ l
row_leaf-leaf_row (literal l) = refl
row_leaf-leaf_row (punct p) = refl
row_leaf-leaf_row (ident i) = refl

abbrev pub leaf_code : Coded Leaf
leaf_code =
    code_by LeafRow (coded⊎ literal_code (coded⊎ p.the_row.coded ident_code)) leaf_row row_leaf
    row_leaf-leaf_row
