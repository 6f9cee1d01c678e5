-- What a scanner reads, one piece after another.
use Rattle.std.proofs.Common.{◌≡◌, ℕ, ◌+◌, ◌-◌, ◌<◌, ◌≤◌, true, false, List, ◌∷◌, ◌++◌, length, take, drop, Option}
use Rattle.std.proofs.Common.{Some, None, IsSome, IfSome, Result, Ok, Err, refl, sym, ap, ◌∙◌, arith, subst}
use Rattle.std.proofs.Common.{append_assoc, take-append-drop, length-append, length-drop, drop-drop, Bor, nat_lt}
use Rattle.std.specs.Prelude.{◌↔◌, MatchOption, unwrap_or, IfOk, encode_utf8, slice_range}
use Rattle.std.specs.Str.{IsUtf8, IsCharBoundary}
use Rattle.std.specs.Str.Pattern.{GetsRange}
use Rattle.std.proofs.lemmas.Bool.{false≢true}
use Rattle.std.proofs.lemmas.Bool.Decides.{nat_tests}
use Rattle.std.proofs.lemmas.Str.{encode_same, encode_ascii, IsCharBoundary-start, IsCharBoundary-at_seam}
use Rattle.std.proofs.lemmas.Str.{IsCharBoundary-from_drop, length-encode, len_utf8_bounds}
use Rattle.std.proofs.Math.Seq.{take-append_seam, drop-append_seam}
use Rattle.mbe_tt.specs.Trees.Literals.{is_char_boundary, text_len, literal_output, opening, closing}
use Rattle.mbe_tt.specs.declared.span.Span.{Span}
use Rattle.mbe_tt.specs.declared.tt.LitKind.{LitKind}
use Rattle.mbe_text.specs.declared.scanner.Lexeme.{Lexeme}
use Rattle.mbe_text.specs.Rests.{IsRest}
use Rattle.mbe_text.specs.declared.scanner.Lexeme.TheVariants.{Ident, Literal, Punct, Open, Close, Lifetime, Doc}
use Rattle.mbe_text.specs.Tokens.{lexeme_item, item_text, lexeme_text}

-- ---- what is left of a text

-- after something more is passed, what is left is the end of the text still
pub rest_after : (text rest own after : List ℕ) → IsRest text rest → rest ≡ own ++ after → IsRest text after
rest_after text rest own after h e =
    let l : length rest ≡ length own + length after = ap (λ (l : List ℕ). length l) e ∙ length-append own after in
    let d : length rest ≡ length text - (length text - length rest) =
    ap (λ (l : List ℕ). length l) h ∙ length-drop (length text - length rest) text in
    sym (ap (λ (n : ℕ). drop n text) (omega (arith, l, d))
    ∙ (sym (drop-drop (length own) (length text - length rest) text)
    ∙ (ap (λ (l : List ℕ). drop (length own) l) (sym h ∙ e) ∙ drop-append_seam own after)))

-- what is before the end
pub before_rest : (text rest : List ℕ) → IsRest text rest → text ≡ take (length text - length rest) text ++ rest
before_rest text rest h =
    sym (take-append-drop (length text - length rest) text)
    ∙ ap (λ (l : List ℕ). take (length text - length rest) text ++ l) (sym h)

-- the bytes that `get` finds before the end
pub got_before : (text rest : List ℕ) (got other : Bor (List ℕ)) (n : ℕ) (r : Option (Bor (List ℕ)))
    → n ≡ length text - length rest → IsUtf8 text → IsUtf8 rest
    → GetsRange text 0 n r → got ≡ unwrap_or r other → IsRest text rest → text ≡ got.now ++ rest
got_before text rest got other n None len utf8 rest_utf8 g h p =
    let n_le : n ≤ length text = omega arith in
    absurd (g (omega arith) (IsCharBoundary-start text utf8)
    (IsCharBoundary-from_drop text n n_le (subst IsUtf8 (p ∙ ap (λ (k : ℕ). drop k text) (sym len)) rest_utf8)))
got_before text rest got other n (Some x) len utf8 rest_utf8 g h p =
    before_rest text rest p
    ∙ ap (λ (l : List ℕ). l ++ rest) (sym
    (ap (λ (b : Bor (List ℕ)). b.now) h ∙ (g.0 ∙ ap (λ (k : ℕ). take k text) (omega arith))))

-- a character is passed, or nothing
pub passed : (r : Option ℕ) (text a b : List ℕ) (N : Type 0) → IsRest text a
    → MatchOption r N (λ c. a ≡ encode_utf8 c ++ b) → (N → b ≡ a) → IsRest text b
passed (Some c) text a b N h s n = rest_after text a (encode_utf8 c) b h s
passed None text a b N h s n = subst (IsRest text) (sym (n s)) h

-- ---- one character

-- the character that is passed is the one that is there
pub bumped : (o : Option ℕ) (text rest : List ℕ) (c : ℕ) (after : List ℕ) → IfSome o (λ d. text ≡ encode_utf8 d ++ rest)
    → (IsSome o ↔ (0 < length text))
    → text ≡ encode_utf8 c ++ after → rest ≡ after
bumped (Some d) text rest c after h some e = (encode_same d c rest after (sym h ∙ e)).1
bumped None text rest c after h some e =
    absurd (false≢true (some.1 (omega (
      arith,
      ap (λ (l : List ℕ). length l) e,
      length-append (encode_utf8 c) after,
      length-encode c,
      (len_utf8_bounds c).0,
    ))))

pub bumped_ascii : (o : Option ℕ) (text rest : List ℕ) (c : ℕ) (after : List ℕ)
    → IfSome o (λ d. text ≡ encode_utf8 d ++ rest) → (IsSome o ↔ (0 < length text))
    → c < 128 → text ≡ c ∷ after → rest ≡ after
bumped_ascii o text rest c after h some small e =
    bumped o text rest c after h some (e ∙ ap (λ (l : List ℕ). l ++ after) (sym (encode_ascii c small)))

-- ---- literals

boundary_is_cut : (text : List ℕ) (n : ℕ) → IsCharBoundary text n → is_char_boundary text n ≡ true
boundary_is_cut text n h = let f = h.1 in grind (arith, nat_tests)

text_len-append : (text suffix : List ℕ) → IsUtf8 suffix → text_len (text ++ suffix) (length suffix) ≡ length text
text_len-append text suffix utf8 =
    let l = length-append text suffix in
    let n : length (text ++ suffix) - length suffix ≡ length text = omega arith in
    let c = boundary_is_cut (text ++ suffix) (length text)
    (IsCharBoundary-at_seam (text ++ suffix) text suffix refl utf8) in
    let b : nat_lt (length (text ++ suffix)) (length suffix) ≡ false = grind (arith, nat_tests) in
    rw (b, n, c) refl

-- how a literal of a text and a suffix is written
pub literal_written : (text suffix : List ℕ) (len : ℕ) (kind : LitKind) (span : Span) → len ≡ length suffix
    → IsUtf8 suffix
    → literal_output (record { text_and_suffix = text ++ suffix; suffix_len = len; kind = kind; span = span })
    ≡ opening kind ++ (text ++ (closing kind ++ suffix))
literal_written text suffix len kind span e utf8 =
    let n : text_len (text ++ suffix) len ≡ length text =
    ap (λ (k : ℕ). text_len (text ++ suffix) k) e ∙ text_len-append text suffix utf8 in
    let t : take (text_len (text ++ suffix) len) (text ++ suffix) ≡ text =
    ap (λ (k : ℕ). take k (text ++ suffix)) n ∙ take-append_seam text suffix in
    let s : drop (text_len (text ++ suffix) len) (text ++ suffix) ≡ suffix =
    ap (λ (k : ℕ). drop k (text ++ suffix)) n ∙ drop-append_seam text suffix in
    ap (λ (x : List ℕ). opening kind ++ (x ++ (closing kind ++ drop (text_len (text ++ suffix) len) (text ++ suffix))))
    t
    ∙ ap (λ (x : List ℕ). opening kind ++ (text ++ (closing kind ++ x))) s

-- a literal is read, whose quotes and text are passed and then its suffix
pub reads_literal : {E : Type 0} (r : Result Lexeme E) (all text rest after : List ℕ) (kind : LitKind)
    → all ≡ opening kind ++ (text ++ (closing kind ++ rest))
    → IfOk r (λ l. (suffix : List ℕ) × (rest ≡ suffix ++ after)
    × (lexeme_text l ≡ opening kind ++ (text ++ (closing kind ++ suffix))))
    → IfOk r (λ l. all ≡ lexeme_text l ++ after)
reads_literal (Ok l) all text rest after kind e h =
    e ∙ (ap (λ (x : List ℕ). opening kind ++ (text ++ (closing kind ++ x))) h.1
    ∙ (sym (simp append_assoc) ∙ ap (λ (x : List ℕ). x ++ after) (sym h.2)))
reads_literal (Err f) all text rest after kind e h = h

-- ---- places

-- what is read between two ends of a text is the bytes between their places
pub spelled_at : (text rest after own : List ℕ) (total start end : ℕ) → total ≡ length text → IsRest text rest
    → IsRest text after
    → start + length rest ≡ total → end + length after ≡ total → rest ≡ own ++ after → slice_range text start end ≡ own
spelled_at text rest after own total start end whole h k s e r =
    let l : length rest ≡ length own + length after = ap (λ (l : List ℕ). length l) r ∙ length-append own after in
    let d : drop start text ≡ own ++ after = ap (λ (n : ℕ). drop n text) (omega (arith, s, whole)) ∙ (sym h ∙ r) in
    ap (λ (n : ℕ). take n (drop start text)) (omega (arith, l, s, e))
    ∙ (ap (λ (x : List ℕ). take (length own) x) d ∙ take-append_seam own after)

-- a token's text is its lexeme's
pub text_of_lexeme : (span : Span) (l : Lexeme) → lexeme_text l ≡ item_text (lexeme_item span l)
text_of_lexeme span (Ident name is_raw) = refl
text_of_lexeme span (Literal text suffix suffix_len kind) = refl
text_of_lexeme span (Punct char spacing) = refl
text_of_lexeme span (Lifetime name is_raw) = refl
text_of_lexeme span (Doc text is_inner) = refl
text_of_lexeme span (Open kind) = refl
text_of_lexeme span (Close kind) = refl
