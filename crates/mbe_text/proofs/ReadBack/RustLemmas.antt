-- Each token that the lexer makes is one of Rust.
use Rattle.std.proofs.Common.{◌≡◌, ℕ, ◌&&◌, Bool, true, false, List, [], ◌∷◌, ◌++◌, refl, sym, ap, ◌∙◌, arith, codes}
use Rattle.std.proofs.Common.{encode_utf8_all, chars}
use Rattle.unicode_ident.proofs.Computing.{unicode_ident}
use Rattle.std.proofs.lemmas.Str.{chars-encodes}
use Rattle.mbe_tt.specs.Trees.Editions.{at_least_2024}
use Rattle.mbe_tt.specs.Trees.Leaf.{Literal}
use Rattle.mbe_tt.specs.Trees.Tree.{Forest, none, leaf, group, append, one_leaf, FlatToken, token, flat, is_same_kind}
use Rattle.mbe_tt.specs.Trees.Tree as tree
use Rattle.mbe_tt.specs.Trees.Top.{no_span}
use Rattle.mbe_tt.specs.declared.span.Edition.{Edition}
use Rattle.mbe_tt.specs.declared.span.Span.{Span}
use Rattle.mbe_tt.specs.declared.tt.DelimiterKind.TheVariants.{Bracket}
use Rattle.mbe_tt.specs.declared.tt.IdentIsRaw.TheVariants.{No}
use Rattle.mbe_tt.specs.declared.tt.LitKind.TheVariants.{StrRaw}
use Rattle.mbe_tt.specs.declared.tt.Spacing.TheVariants.{Alone}
use Rattle.mbe_text.specs.Characters.{offset}
use Rattle.mbe_text.specs.Shapes.{Shape, identifier, literal_of, punct_of, lifetime_of, doc_of, opening, closing}
use Rattle.mbe_text.specs.Tokens.{bytes_of, punct_leaf, ident_leaf, raw_string_leaf, most_guards}
use Rattle.mbe_text.specs.Identifiers.{past_identifier}
use Rattle.mbe_text.specs.Laws.RustTrees.{is_start, begins_word, are_together, IsWord, AreRust}
use Rattle.mbe_text.proofs.ReadBack.DocTextLemmas.{doc_literal, doc_spelled}
use Rattle.mbe_text.proofs.ReadBack.LiteralLemmas.{the_literal, one_byte}
use Rattle.mbe_text.proofs.ReadBack.ShapeLemmas.{Lexed, IsDocText}
use Rattle.mbe_text.proofs.ReadBack.TokenLemmas.{tokens_of, Tokens, last, more, next_cut, next_tail, Fits, fits_tail}
use Rattle.mbe_text.proofs.ReadBack.AfterLemmas.{before_dot, punct_is, self}

-- ---- doc comments

d_is_start : is_start 100 ≡ true
unfolding unicode_ident
d_is_start = refl

doc_past : past_identifier (codes "doc") ≡ []
unfolding unicode_ident
doc_past = refl

doc_bytes : encode_utf8_all (codes "doc") ≡ codes "doc"
doc_bytes =
    one_byte 100 (111 ∷ (99 ∷ [])) (omega arith) (one_byte 111 (99 ∷ []) (omega arith) (one_byte 99 [] (omega arith)
    refl))

doc_word : IsWord (codes "doc")
doc_word =
    let known : chars (codes "doc") ≡ codes "doc" = ap chars (sym doc_bytes) ∙ chars-encodes (codes "doc") refl in
    ((codes "doc", (refl, doc_bytes)), ap begins_word known ∙ d_is_start, ap past_identifier known ∙ doc_past)

self_place : (file a b : ℕ) → are_together (bytes_of file a b) (bytes_of file a b) ≡ true
self_place file a b = rw (self file, self a, self b) refl

no_and : (b : Bool) → (b && false) ≡ false
no_and true = refl
no_and false = refl

-- the raw string of a doc comment
abbrev pub doc_leaf : Span → List ℕ → Literal
doc_leaf span text =
    record { text_and_suffix = text; suffix_len = 0; kind = StrRaw (most_guards 0 text); span = span }

doc_parts : (span : Span) (text : List ℕ) (inner : Bool) (from : List ℕ) (d : IsDocText text inner from)
    → doc_literal d.cs (doc_leaf span text)
doc_parts span text inner from d = (d.bytes, refl, ap (λ (x : List ℕ). StrRaw (most_guards 0 x)) d.bytes)

-- the group of a doc comment
doc_setting_is : (e : Edition) (span : Span) (text : List ℕ) (inner : Bool) (from : List ℕ) (ts : List FlatToken)
    → IsDocText text inner from → AreRust e ts
    → AreRust e (token (ident_leaf span (codes "doc") No) ∷ (token (punct_leaf span 61 Alone) ∷ (token
    (raw_string_leaf span text (most_guards 0 text)) ∷ (tree.closing (record {
      opening = no_span;
      close = no_span;
      kind = Bracket;
    }) ∷ ts))))
doc_setting_is e span text inner from ts d r =
    let spelled = doc_spelled (doc_leaf span text) d.cs (doc_parts span text inner from d) d.right in
    ((doc_word, refl), ((refl, tt), ((spelled, tt), (λ z. cc, r))))

doc_is : (e : Edition) (file a b : ℕ) (inner : Bool) (text from : List ℕ) (ts : List FlatToken)
    → IsDocText text inner from → AreRust e ts
    → AreRust e (tokens_of (bytes_of file a b) (doc_of text inner) ++ ts)
doc_is e file a b true text from ts d r = (
  (refl, (refl, self_place file a b, no_and (at_least_2024 e))),
  (
    (refl, tt),
    (
      λ z. cc,
      doc_setting_is e (bytes_of file a b) text true from ts d r,
    ),
  ),
)
doc_is e file a b false text from ts d r =
    ((refl, tt), (λ z. cc, doc_setting_is e (bytes_of file a b) text false from ts d r))

-- ---- all tokens

shape_is : (e : Edition) (file total : ℕ) (from rest : List ℕ) (shape : Shape) (ts : List FlatToken)
    → Lexed e shape from rest → Tokens e file total rest ts → Fits total from → Fits total rest → AreRust e ts
    → AreRust e (tokens_of (bytes_of file (offset total from) (offset total rest)) shape ++ ts)
shape_is e file total from rest (identifier name r) ts l tokens f g are = (l, are)
shape_is e file total from rest (literal_of text suffix n kind) ts l tokens f g are =
    let span = bytes_of file (offset total from) (offset total rest) in
    let right = l.right span in (
      (
        (right.utf8, right.front),
        before_dot e file total (the_literal text suffix n kind span) rest ts tokens g refl
            (l.dots span),
      ),
      are,
    )
shape_is e file total from rest (punct_of c sp) ts l tokens f g are =
    (punct_is e file total c sp from rest ts l tokens f, are)
shape_is e file total from rest (lifetime_of name r) ts l tokens f g are =
    (l.new, ((l.word, l.may), are))
shape_is e file total from rest (doc_of text inner) ts l tokens f g are =
    doc_is e file (offset total from) (offset total rest) inner text from ts l are
shape_is e file total from rest (opening k) ts l tokens f g are = (l.0, are)
shape_is e file total from rest (closing k) ts l tokens f g are = (l.0, are)

pub are_rust : (e : Edition) (file total : ℕ) (cs : List ℕ) (ts : List FlatToken) → Tokens e file total cs ts
    → Fits total cs → AreRust e ts
are_rust e file total _ _ (last cs n) f = tt
are_rust e file total _ _ (more cs t us n tokens) f =
    let x = next_cut e total cs t f.right n in
    let from = fits_tail total cs t.from x.whitespace f in
    let rest = fits_tail total cs t.rest (next_tail e total cs t x) f in
    shape_is e file total t.from t.rest t.shape us x.step.lexed tokens from rest
    (are_rust e file total t.rest us tokens rest)
