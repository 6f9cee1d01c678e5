-- A doc comment is read.
use Rattle.std.proofs.Common.{◌≡◌, ℕ, zero, suc, ◌==◌, ◌<◌, not, ◌&&◌, ◌||◌, Bool, true, false, List, [], ◌∷◌, ◌++◌}
use Rattle.std.proofs.Common.{length, refl, sym, ap, ◌∙◌, arith, Option, Some, None, Ok, IsUtf8, IsAscii, chars}
use Rattle.std.proofs.Common.{encode_utf8, encode_utf8_all, subst, append_assoc, append-nil}
use Rattle.std.specs.Prelude.{replicate}
use Rattle.std.specs.List.{list_any}
use Rattle.std.proofs.lemmas.Bool.Decides.{nat_tests}
use Rattle.std.proofs.lemmas.List.Folds.{list_any-append}
use Rattle.std.proofs.lemmas.Str.{chars-append, chars-IsAscii, encodes-chars, encode_ascii, IsUtf8-append, IsUtf8-nil}
use Rattle.std.proofs.lemmas.Str.{IsUtf8-past_char, IsUtf8-take, IsUtf8-from_ascii, IsCharBoundary-at_seam}
use Rattle.std.proofs.Math.Seq.{take-append_seam}
use Rattle.unicode_ident.proofs.Computing.{unicode_ident}
use Rattle.mbe_tt.specs.declared.span.Edition.{Edition}
use Rattle.mbe_tt.specs.declared.tt.LitKind.{LitKind}
use Rattle.mbe_tt.specs.declared.tt.LitKind.TheVariants.{StrRaw}
use Rattle.mbe_tt.specs.Trees.Editions.{at_least_2024}
use Rattle.mbe_tt.specs.Trees.Leaf.{Literal}
use Rattle.mbe_tt.specs.Trees.Literals as marks
use Rattle.mbe_text.specs.RustText.DocComments.{DocComment, is_comment, is_closed, is_line_end, begins_with_mark}
use Rattle.mbe_text.specs.RustText.DocComments.{begins_with_slash}
use Rattle.mbe_text.specs.RustText.Gaps.{indent}
use Rattle.mbe_text.specs.RustText.Printer.{comment_closer, comment_opener, comment_text}
use Rattle.mbe_text.specs.declared.dialect.Dialect.TheVariants.{Rust}
use Rattle.mbe_text.specs.Dialect.{or_punctuation}
use Rattle.mbe_text.specs.RustTokens.{RustTokenResult, read_rust, is_guard, begins_doc, block_doc, doc_until}
use Rattle.mbe_text.specs.RustTokens.{from_carriage_return}
use Rattle.mbe_text.specs.Shapes.{doc_of}
use Rattle.mbe_text.specs.Trivia.{past_trivia}
use Rattle.mbe_text.proofs.LineDocs.{last_mark, line_doc_is}
use Rattle.mbe_text.proofs.Reading.{literal_written}
use Rattle.mbe_text.specs.Laws.Gaps.{before}
use Rattle.mbe_text.specs.Laws.RustTrees.{is_start}
use Rattle.mbe_text.proofs.ReadBack.BlockLemmas.{closed_no_return, ends_after, mark_is_byte}
use Rattle.mbe_text.proofs.ReadBack.GapLemmas.{nothing_is_ascii, one_more, gap_is_ascii}
use Rattle.mbe_text.proofs.ReadBack.QuoteLemmas.{front_of}
use Rattle.mbe_text.proofs.ReadBack.StepLemmas.{bytes_front, read_here, or_right}
use Rattle.mbe_text.proofs.ReadBack.ReadLemmas.{Reads, reads_same}
use Rattle.mbe_text.proofs.ReadBack.TextLemmas.{ascii_utf8}

-- ---- characters of a line

abbrev ends : List ℕ → Bool
ends cs = list_any is_line_end cs

-- a line's end is one byte
end_is_byte : (c : ℕ) (rest : List ℕ) → is_line_end c ≡ true → ends (encode_utf8_all (c ∷ rest)) ≡ true
end_is_byte c rest h =
    let small : c < 128 = grind (arith, nat_tests, h) in
    ap (λ (x : List ℕ). ends (x ++ encode_utf8_all rest)) (encode_ascii c small) ∙ rw h refl

char_no_end : (c : ℕ) (rest : List ℕ) (b : Bool) → is_line_end c ≡ b → ends (encode_utf8_all (c ∷ rest)) ≡ false
    → (is_line_end c ≡ false) × (ends (encode_utf8_all rest) ≡ false)
char_no_end c rest true e h = absurd (let z : true ≡ false = sym (end_is_byte c rest e) ∙ h in cc)
char_no_end c rest false e h = (
  e,
  or_right (ends (encode_utf8 c)) (ends (encode_utf8_all rest))
      (sym (list_any-append is_line_end (encode_utf8 c) (encode_utf8_all rest)) ∙ h),
)

-- no character ends the line where no byte does
no_end : (cs : List ℕ) → ends (encode_utf8_all cs) ≡ false → ends cs ≡ false
no_end [] h = refl
no_end (c ∷ cs) h = let k = char_no_end c cs (is_line_end c) refl h in rw (k.0) (no_end cs k.1)

-- ---- the comment

-- after the marks of a comment
abbrev begins_right : Bool → List ℕ → Bool
begins_right is_inner cs = is_inner || not (begins_with_slash cs)

slash_not_start : is_start 47 ≡ false
unfolding unicode_ident
slash_not_start = refl

no_guard : (e : Edition) (cs : List ℕ) → is_guard e (47 ∷ cs) ≡ false
no_guard e cs = and_no (at_least_2024 e)
  where
    and_no : (b : Bool) → (b && false) ≡ false
    and_no true = refl
    and_no false = refl

is_a_doc : (b : Bool) (cs tail : List ℕ) → begins_right b cs ≡ true
    → begins_doc (47 ∷ (47 ∷ (last_mark b ∷ (cs ++ (10 ∷ tail))))) ≡ true
is_a_doc true cs tail h = refl
is_a_doc false [] tail h = refl
is_a_doc false (c ∷ cs) tail h = grind (arith, nat_tests, h)

doc_read : (e : Edition) (b : Bool) (cs tail : List ℕ) → begins_right b cs ≡ true → ends cs ≡ false
    → read_rust e (47 ∷ (47 ∷ (last_mark b ∷ (cs ++ (10 ∷ tail)))))
    ≡ Some (Ok (doc_of (encode_utf8_all cs) b, 10 ∷ tail))
doc_read e b cs tail h k =
    let all : List ℕ = 47 ∷ (last_mark b ∷ (cs ++ (10 ∷ tail))) in
    let guard = no_guard e all in
    let is = is_a_doc b cs tail h in
    rw (slash_not_start, guard, is) (ap (λ (t : RustTokenResult). Some t) (line_doc_is b cs tail k))

not_blank : (e : Edition) (total : ℕ) (cs : List ℕ) → begins_doc (47 ∷ cs) ≡ true
    → past_trivia (Rust e) total (length (47 ∷ cs)) (47 ∷ cs) ≡ Ok (47 ∷ cs)
not_blank e total cs h = rw h refl

doc_reads : (e : Edition) (total : ℕ) (b : Bool) (cs tail : List ℕ) → begins_right b cs ≡ true → ends cs ≡ false
    → Reads e total (47 ∷ (47 ∷ (last_mark b ∷ (cs ++ (10 ∷ tail))))) (doc_of (encode_utf8_all cs) b) (10 ∷ tail)
doc_reads e total b cs tail h k =
    let all : List ℕ = 47 ∷ (last_mark b ∷ (cs ++ (10 ∷ tail))) in record {
      from = 47 ∷ all;
      is = read_here e total 47 all (10 ∷ tail) (doc_of (encode_utf8_all cs) b)
          (not_blank e total all (is_a_doc b cs tail h))
          (ap (λ (o : Option RustTokenResult). or_punctuation total (47 ∷ all) o) (doc_read e b cs tail h k));
    }

-- ---- one of several lines

-- the third character of its mark
abbrev block_mark : Bool → ℕ
block_mark false = 42
block_mark true = 33

-- after the marks of such a comment
abbrev begins_block : Bool → List ℕ → Bool
begins_block is_inner cs = is_inner || not (begins_with_mark cs)

is_a_block : (b : Bool) (cs tail : List ℕ) → begins_block b cs ≡ true
    → begins_doc (47 ∷ (42 ∷ (block_mark b ∷ (cs ++ (42 ∷ (47 ∷ tail)))))) ≡ true
is_a_block true cs tail h = refl
is_a_block false [] tail h = absurd (cc)
is_a_block false (c ∷ cs) tail h = grind (arith, nat_tests, h)

text_until : (b : Bool) (cs end rest : List ℕ) → from_carriage_return cs ≡ None
    → doc_until b (cs ++ end) end rest ≡ Ok (doc_of (encode_utf8_all cs) b, rest)
text_until b cs end rest h = rw (doc_until, front_of cs end, h, bytes_front cs end) refl

block_of : (b : Bool) (cs tail : List ℕ) → is_closed 0 0 cs ≡ true
    → block_doc (47 ∷ (42 ∷ (block_mark b ∷ (cs ++ (42 ∷ (47 ∷ tail))))))
    ≡ doc_until b (cs ++ (42 ∷ (47 ∷ tail))) (42 ∷ (47 ∷ tail)) tail
block_of true cs tail h = let e = ends_after cs tail h in rw (block_doc, e) refl
block_of false cs tail h = let e = ends_after cs tail h in rw (block_doc, e) refl

block_read : (e : Edition) (b : Bool) (cs tail : List ℕ) → begins_block b cs ≡ true → is_closed 0 0 cs ≡ true
    → read_rust e (47 ∷ (42 ∷ (block_mark b ∷ (cs ++ (42 ∷ (47 ∷ tail))))))
    ≡ Some (Ok (doc_of (encode_utf8_all cs) b, tail))
block_read e b cs tail h k =
    let all : List ℕ = 42 ∷ (block_mark b ∷ (cs ++ (42 ∷ (47 ∷ tail)))) in
    let guard = no_guard e all in
    let is = is_a_block b cs tail h in
    rw (slash_not_start, guard, is) (ap (λ (t : RustTokenResult). Some t) (block_of b cs tail k
    ∙ text_until b cs (42 ∷ (47 ∷ tail)) tail (closed_no_return 0 0 cs k)))

block_reads : (e : Edition) (total : ℕ) (b : Bool) (cs tail : List ℕ) → begins_block b cs ≡ true
    → is_closed 0 0 cs ≡ true
    → Reads e total (47 ∷ (42 ∷ (block_mark b ∷ (cs ++ (42 ∷ (47 ∷ tail)))))) (doc_of (encode_utf8_all cs) b) tail
block_reads e total b cs tail h k =
    let all : List ℕ = 42 ∷ (block_mark b ∷ (cs ++ (42 ∷ (47 ∷ tail)))) in record {
      from = 47 ∷ all;
      is = read_here e total 47 all tail (doc_of (encode_utf8_all cs) b)
          (not_blank e total all (is_a_block b cs tail h))
          (ap (λ (o : Option RustTokenResult). or_punctuation total (47 ∷ all) o) (block_read e b cs tail h k));
    }

-- ---- bytes

-- the second and the third character of a mark
abbrev second_mark : Bool → ℕ
second_mark false = 47
second_mark true = 42

abbrev third_mark : Bool → Bool → ℕ
third_mark is_inner false = last_mark is_inner
third_mark is_inner true = block_mark is_inner

three_ascii : (b c : ℕ) → b < 128 → c < 128 → IsAscii (47 ∷ (b ∷ (c ∷ [])))
three_ascii b c h k =
    one_more 47 (b ∷ (c ∷ [])) (omega arith) (one_more b (c ∷ []) h (one_more c [] k nothing_is_ascii))

marks_are_ascii : (inner block : Bool) → IsAscii (comment_opener inner block)
marks_are_ascii true false = three_ascii 47 33 (omega arith) (omega arith)
marks_are_ascii false false = three_ascii 47 47 (omega arith) (omega arith)
marks_are_ascii true true = three_ascii 42 33 (omega arith) (omega arith)
marks_are_ascii false true = three_ascii 42 42 (omega arith) (omega arith)

marks_are : (inner block : Bool)
    → chars (comment_opener inner block) ≡ 47 ∷ (second_mark block ∷ (third_mark inner block ∷ []))
marks_are true false = chars-IsAscii (comment_opener true false) (marks_are_ascii true false)
marks_are false false = chars-IsAscii (comment_opener false false) (marks_are_ascii false false)
marks_are true true = chars-IsAscii (comment_opener true true) (marks_are_ascii true true)
marks_are false true = chars-IsAscii (comment_opener false true) (marks_are_ascii false true)

end_is_ascii : (block : Bool) → IsAscii (comment_closer block)
end_is_ascii false = nothing_is_ascii
end_is_ascii true = one_more 42 (47 ∷ []) (omega arith) (one_more 47 [] (omega arith) nothing_is_ascii)

abbrev pub line_gap : ℕ → List ℕ
line_gap depth = before true false false depth

line_is_ascii : (depth : ℕ) → IsAscii (line_gap depth)
line_is_ascii depth = gap_is_ascii depth true false false

-- what follows a comment's text
abbrev after_text : Bool → ℕ → List ℕ
after_text block depth = comment_closer block ++ line_gap depth

after_utf8 : (block : Bool) (depth : ℕ) → IsUtf8 (after_text block depth)
after_utf8 block depth =
    IsUtf8-append (comment_closer block) (line_gap depth)
    (IsUtf8-from_ascii (comment_closer block) (end_is_ascii block))
    (IsUtf8-from_ascii (line_gap depth) (line_is_ascii depth))

after_chars : (block : Bool) (depth : ℕ) → chars (after_text block depth) ≡ after_text block depth
after_chars block depth =
    chars-append (comment_closer block) (line_gap depth) (IsUtf8-from_ascii (comment_closer block) (end_is_ascii block))
    ∙ (ap (λ (x : List ℕ). x ++ chars (line_gap depth)) (chars-IsAscii (comment_closer block) (end_is_ascii block))
    ∙ ap (λ (x : List ℕ). comment_closer block ++ x) (chars-IsAscii (line_gap depth) (line_is_ascii depth)))

pub comment_utf8 : (c : DocComment) (depth : ℕ) → IsUtf8 c.text → IsUtf8 (comment_text c depth)
comment_utf8 c depth h =
    IsUtf8-append (comment_opener c.is_inner c.is_block) (c.text ++ after_text c.is_block depth)
    (IsUtf8-from_ascii (comment_opener c.is_inner c.is_block) (marks_are_ascii c.is_inner c.is_block))
    (IsUtf8-append c.text (after_text c.is_block depth) h (after_utf8 c.is_block depth))

pub comment_chars : (c : DocComment) (depth : ℕ) (rest : List ℕ) → IsUtf8 c.text
    → chars (comment_text c depth) ++ rest
    ≡ 47 ∷ (second_mark c.is_block ∷ (third_mark c.is_inner c.is_block ∷ (chars c.text
    ++ (comment_closer c.is_block ++ (line_gap depth ++ rest)))))
comment_chars c depth rest h =
    let marks : List ℕ = comment_opener c.is_inner c.is_block in
    let end : List ℕ = after_text c.is_block depth in
    let second : ℕ = second_mark c.is_block in
    let third : ℕ = third_mark c.is_inner c.is_block in
    let shown : chars (comment_text c depth) ≡ 47 ∷ (second ∷ (third ∷ (chars c.text ++ end))) =
    chars-append marks (c.text ++ end) (IsUtf8-from_ascii marks (marks_are_ascii c.is_inner c.is_block))
    ∙ (ap (λ (x : List ℕ). x ++ chars (c.text ++ end)) (marks_are c.is_inner c.is_block)
    ∙ ap (λ (x : List ℕ). 47 ∷ (second ∷ (third ∷ x))) (chars-append c.text end h
    ∙ ap (λ (x : List ℕ). chars c.text ++ x) (after_chars c.is_block depth))) in
    ap (λ (x : List ℕ). x ++ rest) shown
    ∙ ap (λ (x : List ℕ). 47 ∷ (second ∷ (third ∷ x))) (append_assoc (chars c.text) end rest
    ∙ ap (λ (x : List ℕ). chars c.text ++ x) (append_assoc (comment_closer c.is_block) (line_gap depth) rest))

-- a `/` is one byte
slash_is_byte : (cs : List ℕ) → begins_with_slash (encode_utf8_all cs) ≡ false → begins_with_slash cs ≡ false
slash_is_byte [] h = refl
slash_is_byte (c ∷ cs) h = by (c == 47) refl
  where
    by : (b : Bool) → (c == 47) ≡ b → (c == 47) ≡ false
    by false e = e
    by true e = absurd (
        let small : c < 128 = grind (arith, nat_tests, e) in
        let is : begins_with_slash (encode_utf8_all (c ∷ cs)) ≡ (c == 47) =
        ap (λ (x : List ℕ). begins_with_slash (x ++ encode_utf8_all cs)) (encode_ascii c small) in
        let z : true ≡ false = sym e ∙ (sym is ∙ h) in cc)

or_not : (b x y : Bool) → (x ≡ false → y ≡ false) → (b || not x) ≡ true → (b || not y) ≡ true
or_not true x y f h = refl
or_not false true y f h = absurd (cc)
or_not false false y f h = ap not (f refl)

and_left : (x y : Bool) → (not x && y) ≡ true → (x ≡ false) × (y ≡ true)
and_left true y h = absurd (cc)
and_left false y h = (refl, h)

both : (x y : Bool) → (x && y) ≡ true → (x ≡ true) × (y ≡ true)
both true y h = (refl, h)
both false y h = absurd (cc)

-- the characters of a comment's text
abbrev IsRead : Edition → ℕ → Bool → Bool → List ℕ → ℕ → List ℕ → Type 0
IsRead e total inner block cs depth rest =
    Reads e total (47 ∷ (second_mark block ∷ (third_mark inner block ∷ (cs ++ (comment_closer block ++ (line_gap
    depth ++ rest)))))) (doc_of (encode_utf8_all cs) inner) (line_gap depth ++ rest)

text_reads : (e : Edition) (total : ℕ) (inner block : Bool) (text cs : List ℕ) (depth : ℕ) (rest : List ℕ)
    → encode_utf8_all cs ≡ text → chars text ≡ cs → is_comment inner block text ≡ true
    → IsRead e total inner block cs depth rest
text_reads e total inner false text cs depth rest same shown h =
    let two = and_left _ _ h in
    let no : ends cs ≡ false = no_end cs (ap ends same ∙ two.0) in
    let right : begins_right inner cs ≡ true =
    or_not inner (begins_with_slash text) (begins_with_slash cs)
    (λ f. slash_is_byte cs (ap begins_with_slash same ∙ f)) two.1 in
    doc_reads e total inner cs (indent depth ++ rest) right no
text_reads e total inner true text cs depth rest same shown h =
    let two = both _ _ h in
    let right : begins_block inner cs ≡ true =
    or_not inner (begins_with_mark text) (begins_with_mark cs)
    (λ f. mark_is_byte cs (ap begins_with_mark same ∙ f)) two.0 in
    block_reads e total inner cs (line_gap depth ++ rest) right
    (ap (λ (x : List ℕ). is_closed 0 0 x) (sym shown) ∙ two.1)

-- a comment that is written is read, up to its line's end
pub comment_reads : (e : Edition) (total : ℕ) (c : DocComment) (depth : ℕ) (rest : List ℕ) → IsUtf8 c.text
    → is_comment c.is_inner c.is_block c.text ≡ true
    → Reads e total (chars (comment_text c depth) ++ rest) (doc_of c.text c.is_inner) (line_gap depth ++ rest)
comment_reads e total c depth rest u h =
    let cs = chars c.text in
    let same : encode_utf8_all cs ≡ c.text = encodes-chars c.text u in
    subst (λ (x : List ℕ). Reads e total (chars (comment_text c depth) ++ rest) (doc_of x c.is_inner)
    (line_gap depth ++ rest)) same
    (reads_same e total (chars (comment_text c depth) ++ rest) (47 ∷ (second_mark c.is_block ∷ (third_mark
    c.is_inner c.is_block ∷ (cs ++ (comment_closer c.is_block ++ (line_gap depth ++ rest))))))
    (line_gap depth ++ rest) (doc_of (encode_utf8_all cs) c.is_inner) (comment_chars c depth rest u)
    (text_reads e total c.is_inner c.is_block c.text cs depth rest same refl h))

-- ---- the text of a raw string

after_one : (c : ℕ) (bytes : List ℕ) → c < 128 → IsUtf8 (c ∷ bytes) → IsUtf8 bytes
after_one c bytes small u =
    IsUtf8-past_char (c ∷ bytes) bytes c u (sym (ap (λ (x : List ℕ). x ++ bytes) (encode_ascii c small)))

after_hashes : (n : ℕ) (bytes : List ℕ) → IsUtf8 (replicate n 35 ++ bytes) → IsUtf8 bytes
after_hashes zero bytes u = u
after_hashes (suc n) bytes u = after_hashes n bytes (after_one 35 (replicate n 35 ++ bytes) (omega arith) u)

pub hashes_utf8 : (n : ℕ) → IsUtf8 (replicate n 35)
hashes_utf8 zero = IsUtf8-nil
hashes_utf8 (suc n) = IsUtf8-append (35 ∷ []) (replicate n 35) (ascii_utf8 35 (omega arith)) (hashes_utf8 n)

before_utf8 : (text end : List ℕ) → IsUtf8 (text ++ end) → IsUtf8 end → IsUtf8 text
before_utf8 text end u k =
    subst IsUtf8 (take-append_seam text end)
    (IsUtf8-take (text ++ end) (length text) u (IsCharBoundary-at_seam (text ++ end) text end refl k))

raw_utf8_of : (n : ℕ) (text : List ℕ) → IsUtf8 (marks.opening (StrRaw n) ++ (text ++ (marks.closing
    (StrRaw n) ++ []))) → IsUtf8 text
raw_utf8_of n text u =
    let close : List ℕ = 34 ∷ replicate n 35 in
    let one : IsUtf8 ((replicate n 35 ++ (34 ∷ [])) ++ (text ++ (close ++ []))) = after_one 114 _ (omega arith) u in
    let two : IsUtf8 (replicate n 35 ++ (34 ∷ (text ++ (close ++ [])))) =
    subst IsUtf8 (append_assoc (replicate n 35) (34 ∷ []) (text ++ (close ++ []))) one in
    let three = after_one 34 (text ++ (close ++ [])) (omega arith) (after_hashes n _ two) in
    let end : IsUtf8 (close ++ []) =
    subst IsUtf8 (sym (append-nil close)) (IsUtf8-append (34 ∷ []) (replicate n 35) (ascii_utf8 34 (omega arith))
    (hashes_utf8 n)) in
    before_utf8 text (close ++ []) three end

pub raw_written : (l : Literal) (n : ℕ) → l.suffix_len ≡ 0 → l.kind ≡ StrRaw n
    → marks.literal_output l ≡ marks.opening (StrRaw n) ++ (l.text_and_suffix ++ (marks.closing (StrRaw n) ++ []))
raw_written l n s k =
    ap (λ (x : List ℕ). marks.literal_output (record l { text_and_suffix = x })) (sym (append-nil l.text_and_suffix))
    ∙ (literal_written l.text_and_suffix [] l.suffix_len l.kind l.span s IsUtf8-nil
    ∙ ap (λ (x : LitKind). marks.opening x ++ (l.text_and_suffix ++ (marks.closing x ++ []))) k)

pub raw_text_utf8 : (l : Literal) (n : ℕ) → l.suffix_len ≡ 0 → l.kind ≡ StrRaw n → IsUtf8 (marks.literal_output l)
    → IsUtf8 l.text_and_suffix
raw_text_utf8 l n s k u = raw_utf8_of n l.text_and_suffix (subst IsUtf8 (raw_written l n s k) u)
