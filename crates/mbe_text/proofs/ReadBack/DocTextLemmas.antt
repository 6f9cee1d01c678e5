-- The raw string of a doc comment is spelled as a literal.
use Rattle.std.proofs.Common.{◌≡◌, ℕ, zero, suc, List, [], ◌∷◌, ◌++◌, refl, sym, ap, ◌∙◌, arith, true, encode_utf8_all}
use Rattle.std.proofs.Common.{chars, IsUtf8, subst}
use Rattle.std.proofs.Math.Utf8.{scalars}
use Rattle.std.proofs.lemmas.Str.{chars-encodes, chars-append, chars-nil, IsUtf8-append, IsUtf8-nil}
use Rattle.mbe_tt.specs.Trees.Leaf.{Literal}
use Rattle.mbe_tt.specs.Trees.Literals as marks
use Rattle.mbe_tt.specs.declared.tt.LitKind.TheVariants.{StrRaw}
use Rattle.mbe_text.specs.Tokens.{most_guards}
use Rattle.mbe_text.specs.Laws.RustTrees.{IsSpelled, begins_literal}
use Rattle.mbe_text.proofs.ReadBack.EndLemmas.{r_is_start}
use Rattle.mbe_text.proofs.ReadBack.TextLemmas.{ascii_utf8}
use Rattle.mbe_text.proofs.ReadBack.QuoteLemmas.{one_char, letter_begins}
use Rattle.mbe_text.proofs.ReadBack.RawLemmas.{marked, marked_chars}
use Rattle.mbe_text.proofs.ReadBack.DocLemmas.{hashes_utf8, raw_written}

chars_marked : (n : ℕ) → chars (marked n ++ []) ≡ marked n
chars_marked zero = chars-nil
chars_marked (suc n) = one_char 35 (marked n ++ []) (omega arith) ∙ ap (λ (x : List ℕ). 35 ∷ x) (chars_marked n)

-- the literal of such a text
abbrev pub doc_literal : List ℕ → Literal → Type 0
doc_literal cs l =
    (l.text_and_suffix ≡ encode_utf8_all cs) × (l.suffix_len ≡ 0)
    × (l.kind ≡ StrRaw (most_guards 0 (encode_utf8_all cs)))

spelled_chars : (n : ℕ) (cs : List ℕ) → scalars cs ≡ true
    → chars (marks.opening (StrRaw n) ++ (encode_utf8_all cs ++ (marks.closing (StrRaw n) ++ [])))
    ≡ 114 ∷ (marked n ++ (34 ∷ (cs ++ (34 ∷ marked n))))
spelled_chars n cs s =
    let end : List ℕ = (34 ∷ marked n) ++ [] in
    let body : List ℕ = encode_utf8_all cs ++ end in
    one_char 114 ((marked n ++ (34 ∷ [])) ++ body) (omega arith)
    ∙ ap (λ (x : List ℕ). 114 ∷ x) (marked_chars n body
    ∙ ap (λ (x : List ℕ). marked n ++ (34 ∷ x)) (chars-append (encode_utf8_all cs) end (cs, (s, refl))
    ∙ (ap (λ (x : List ℕ). x ++ chars end) (chars-encodes cs s)
    ∙ ap (λ (x : List ℕ). cs ++ x) (one_char 34 (marked n ++ []) (omega arith)
    ∙ ap (λ (x : List ℕ). 34 ∷ x) (chars_marked n)))))

spelled_utf8 : (n : ℕ) (cs : List ℕ) → scalars cs ≡ true
    → IsUtf8 (marks.opening (StrRaw n) ++ (encode_utf8_all cs ++ (marks.closing (StrRaw n) ++ [])))
spelled_utf8 n cs s =
    let quote = ascii_utf8 34 (omega arith) in
    let hashes = hashes_utf8 n in
    let end : IsUtf8 ((34 ∷ marked n) ++ []) =
    IsUtf8-append (34 ∷ marked n) [] (IsUtf8-append (34 ∷ []) (marked n) quote hashes) IsUtf8-nil in
    IsUtf8-append (marks.opening (StrRaw n)) (encode_utf8_all cs ++ ((34 ∷ marked n) ++ []))
    (IsUtf8-append (114 ∷ []) (marked n ++ (34 ∷ [])) (ascii_utf8 114 (omega arith))
    (IsUtf8-append (marked n) (34 ∷ []) hashes quote))
    (IsUtf8-append (encode_utf8_all cs) ((34 ∷ marked n) ++ []) (cs, (s, refl)) end)

doc_output : (l : Literal) (cs : List ℕ) → doc_literal cs l
    → marks.literal_output l
    ≡ marks.opening (StrRaw (most_guards 0 (encode_utf8_all cs))) ++ (encode_utf8_all cs ++ (marks.closing
    (StrRaw (most_guards 0 (encode_utf8_all cs))) ++ []))
doc_output l cs is =
    let n : ℕ = most_guards 0 (encode_utf8_all cs) in
    raw_written l n is.1 is.2
    ∙ ap (λ (x : List ℕ). marks.opening (StrRaw n) ++ (x ++ (marks.closing (StrRaw n) ++ []))) is.0

doc_chars : (l : Literal) (cs : List ℕ) → doc_literal cs l → scalars cs ≡ true
    → chars (marks.literal_output l)
    ≡ 114 ∷ (marked (most_guards 0 (encode_utf8_all cs)) ++ (34 ∷ (cs ++ (34 ∷ marked (most_guards 0
    (encode_utf8_all cs))))))
doc_chars l cs is s = ap chars (doc_output l cs is) ∙ spelled_chars (most_guards 0 (encode_utf8_all cs)) cs s

doc_utf8 : (l : Literal) (cs : List ℕ) → doc_literal cs l → scalars cs ≡ true → IsUtf8 (marks.literal_output l)
doc_utf8 l cs is s =
    subst IsUtf8 (sym (doc_output l cs is)) (spelled_utf8 (most_guards 0 (encode_utf8_all cs)) cs s)

-- the raw string of a doc comment is spelled as a literal
pub doc_spelled : (l : Literal) (cs : List ℕ) → doc_literal cs l → scalars cs ≡ true → IsSpelled l
doc_spelled l cs is s =
    let n : ℕ = most_guards 0 (encode_utf8_all cs) in (
      doc_utf8 l cs is s,
      ap begins_literal (doc_chars l cs is s)
          ∙ letter_begins 114 (marked n ++ (34 ∷ (cs ++ (34 ∷ marked n)))) r_is_start,
    )
