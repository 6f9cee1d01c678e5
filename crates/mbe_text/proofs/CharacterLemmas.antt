-- What is left of a text, in characters and in bytes.
use Rattle.std.proofs.Common.{◌≡◌, ℕ, ◌<◌, ◌≤◌, ◌-◌, Bool, true, false, List, [], ◌∷◌, ◌++◌, length, take, drop, refl}
use Rattle.std.proofs.Common.{sym, ap, ◌∙◌, arith, subst, MatchBool, MatchOption, Option, Some, None, IfSome, Bor}
use Rattle.std.proofs.Common.{chars, encode_utf8_all, IsUtf8, IsAscii, IsTrue, encode_utf8, length-append, get_or, suc}
use Rattle.std.proofs.Common.{zero}
use Rattle.std.specs.Str.Pattern.{HasPrefixMatch, FindsTextPrefix, StripsPrefix}
use Rattle.std.proofs.lemmas.Str.{chars-nil, encode_ascii, chars_past_char, IsUtf8-drop, IsCharBoundary-before_ascii}
use Rattle.std.proofs.lemmas.Str.{IsCharBoundary-after_ascii, chars-append, encodes-chars, encodes-append}
use Rattle.std.proofs.lemmas.Str.{length-encode, len_utf8_bounds, chars-IsAscii, IsUtf8-take, IsCharBoundary-from_drop}
use Rattle.std.proofs.lemmas.Bool.{false≢true}
use Rattle.std.proofs.lemmas.Bool.Decides.{nat_tests}
use Rattle.std.proofs.Math.Seq.{take-append_seam, drop-append_seam}
use Rattle.std.proofs.Common.{nat_lt, nat_le, not, codes, ◌&&◌, ◌||◌, ◌==◌, ◌+◌}
use Rattle.std.specs.Char.{is_ascii_alphabetic, is_ascii_alphanumeric, char_set_contains}
use Rattle.std.proofs.lemmas.List.{at_drop_all, at_drop_more, take-append-drop}
use Rattle.unicode_ident.specs.Ident.{is_xid_start, is_xid_continue}
use Rattle.unicode_ident.proofs.IdentLemmas.{is_xid_start-ascii, is_xid_continue-ascii}
use Rattle.mbe_text.specs.declared.characters.CharClass.{CharClass}
use Rattle.mbe_text.specs.declared.characters.CharClass.TheVariants.{IdentStart, Decimal, Punct}
use Rattle.mbe_text.specs.Characters.{begins, begins_with, has, past, are_ascii, bytes_before}
use Rattle.mbe_text.specs.Rests.{IsEnd, IsRest}
use Rattle.mbe_text.proofs.Reading.{rest_after}

-- ---- one character more

pub shorter : (text after : List ℕ) (c : ℕ) → text ≡ encode_utf8 c ++ after → length after < length text
shorter text after c e =
    omega (
      arith,
      ap (λ (l : List ℕ). length l) e,
      length-append (encode_utf8 c) after,
      length-encode c,
      (len_utf8_bounds c).0,
    )

pub end_after : (whole text after : List ℕ) (c : ℕ) → IsEnd whole text → text ≡ encode_utf8 c ++ after
    → IsEnd whole after
end_after whole text after c h e =
    (omega (arith, h.0, shorter text after c e), rest_after whole text (encode_utf8 c) after h.1 e)

pub is_rest : (text after : List ℕ) (c : ℕ) → text ≡ encode_utf8 c ++ after → IsRest text after
is_rest text after c e =
    let none : 0 ≡ length text - length text = omega arith in
    let same : IsRest text text = ap (λ (n : ℕ). drop n text) none in
    rest_after text text (encode_utf8 c) after same e

pub past_such : (k : CharClass) (c : ℕ) (cs all : List ℕ) → has k c ≡ true → all ≡ c ∷ cs → past k cs ≡ past k all
past_such k c cs all h e = rw (e, h) refl

-- ---- a front of more characters

begins_with-append : (ds cs : List ℕ) → begins_with ds (ds ++ cs) ≡ true
begins_with-append [] cs = refl
begins_with-append (d ∷ ds) cs = grind (arith, nat_tests, begins_with-append ds cs)

begins_with-is : (ds cs : List ℕ) → begins_with ds cs ≡ true → cs ≡ ds ++ drop (length ds) cs
begins_with-is [] cs h = refl
begins_with-is (d ∷ ds) [] h = cc
begins_with-is (d ∷ ds) (c ∷ cs) h =
    let i : (begins_with ds cs ≡ true → cs ≡ ds ++ drop (length ds) cs) =
    begins_with-is ds cs in grind (arith, nat_tests, i)

is_false : (b : Bool) → (b ≡ true → ⊥) → false ≡ b
is_false true h = absurd (h refl)
is_false false h = refl

starts_with_chars : (r : Bool) (n s : List ℕ) → IsUtf8 n → IsUtf8 s
    → MatchBool r (HasPrefixMatch (FindsTextPrefix n) s) (FindsTextPrefix n s None)
    → r ≡ begins_with (chars n) (chars s)
starts_with_chars true n s un us h =
    sym (ap (begins_with (chars n)) (ap chars h.1.1 ∙ chars-append n (drop h.0 s) un)
    ∙ begins_with-append (chars n) (chars (drop h.0 s)))
starts_with_chars false n s un us h =
    is_false (begins_with (chars n) (chars s)) (λ b.
    let cut = drop (length (chars n)) (chars s) in
    h (encode_utf8_all cut) (sym (encodes-chars s us) ∙ (ap encode_utf8_all (begins_with-is (chars n) (chars s) b)
    ∙ (encodes-append (chars n) cut ∙ ap (λ (l : List ℕ). l ++ encode_utf8_all cut) (encodes-chars n un)))))

is_ascii : (cs : List ℕ) → IsTrue (are_ascii cs) → IsAscii cs
is_ascii [] h = λ i. omega arith
is_ascii (c ∷ cs) h = λ i. elim i as (λ j. get_or (c ∷ cs) j 0 < 128) [
  | zero ↦ grind (arith, nat_tests, h)
  | suc k ↦ is_ascii cs (grind (arith, nat_tests, h)) k
]

-- the first characters are those of a front, where the first bytes are
pub starts_with_front : (r : Bool) (n s : List ℕ) → IsTrue (are_ascii n) → IsUtf8 n → IsUtf8 s
    → MatchBool r (HasPrefixMatch (FindsTextPrefix n) s) (FindsTextPrefix n s None) → r ≡ begins_with n (chars s)
starts_with_front r n s small un us h =
    starts_with_chars r n s un us h ∙ ap (λ (l : List ℕ). begins_with l (chars s)) (chars-IsAscii n (is_ascii n small))

-- ---- what is before a rest

before_is : (text rest got : List ℕ) → IsUtf8 text → IsUtf8 rest → text ≡ got ++ rest
    → got ≡ bytes_before (chars text) (chars rest)
before_is text rest got ut ur e =
    let le : length got ≤ length text = omega (arith, ap (λ (l : List ℕ). length l) e, length-append got rest) in
    let own : take (length got) text ≡ got = ap (λ (l : List ℕ). take (length got) l) e ∙ take-append_seam got rest in
    let after : drop (length got) text ≡ rest = ap (λ (l : List ℕ). drop (length got) l) e
    ∙ drop-append_seam got rest in
    let u : IsUtf8 got = subst IsUtf8 own (IsUtf8-take text (length got) ut
    (IsCharBoundary-from_drop text (length got) le (subst IsUtf8 (sym after) ur))) in
    let all : chars text ≡ chars got ++ chars rest = ap chars e ∙ chars-append got rest u in
    let n : length (chars text) - length (chars rest) ≡ length (chars got) =
    omega (arith, ap (λ (l : List ℕ). length l) all, length-append (chars got) (chars rest)) in
    sym (ap encode_utf8_all (ap (λ (k : ℕ). take k (chars text)) n
    ∙ (ap (λ (l : List ℕ). take (length (chars got)) l) all ∙ take-append_seam (chars got) (chars rest)))
    ∙ encodes-chars got u)

pub got_bytes_before : (text rest got : List ℕ) → IsUtf8 text → IsUtf8 rest → (IsRest text rest → text ≡ got ++ rest)
    → IsRest text rest → got ≡ bytes_before (chars text) (chars rest)
got_bytes_before text rest got ut ur h p = before_is text rest got ut ur (h p)

pub front_fits : (r : Bool) (n s : List ℕ)
    → MatchBool r (HasPrefixMatch (FindsTextPrefix n) s) (FindsTextPrefix n s None) → IsTrue r → length n ≤ length s
front_fits true n s h t = let k = h.1.0 in let l = h.2.0 in omega (arith, k, l)
front_fits false n s h t = absurd (false≢true t)

-- ---- a front that is passed

front_and : (n s rest : List ℕ) → IsTrue (are_ascii n) → IsUtf8 n → s ≡ n ++ rest
    → (begins_with n (chars s) ≡ true) × (chars rest ≡ drop (length n) (chars s))
front_and n s rest small un e =
    let all : chars s ≡ n ++ chars rest =
    ap chars e ∙ (chars-append n rest un ∙ ap (λ (l : List ℕ). l ++ chars rest) (chars-IsAscii n (is_ascii n small)))
    in (
      ap (begins_with n) all ∙ begins_with-append n (chars rest),
      sym (ap (λ (l : List ℕ). drop (length n) l) all ∙ drop-append_seam n (chars rest)),
    )

pub stripped_whole : (o : Option (Bor (List ℕ))) (n s : List ℕ)
    → MatchOption o (FindsTextPrefix n s None) (λ x. StripsPrefix (FindsTextPrefix n) s x.now)
    → IfSome o (λ x. s ≡ n ++ x.now)
stripped_whole None n s h = tt
stripped_whole (Some x) n s h = h.1.1 ∙ ap (λ (l : List ℕ). n ++ l) (sym h.2)

-- what is after a front is an end
end_of : (text own rest : List ℕ) → text ≡ own ++ rest → IsEnd text rest
end_of text own rest e =
    let none : 0 ≡ length text - length text = omega arith in
    let same : IsRest text text = ap (λ (n : ℕ). drop n text) none in
    (omega (arith, ap (λ (l : List ℕ). length l) e, length-append own rest), rest_after text text own rest same e)

pub front_end : (o : Option (Bor (List ℕ))) (n s : List ℕ) → IfSome o (λ x. s ≡ n ++ x.now)
    → IfSome o (λ x. IsEnd s x.now)
front_end None n s h = tt
front_end (Some x) n s h = end_of s n x.now h

pub stripped : (o : Option (Bor (List ℕ))) (n s : List ℕ) → IsTrue (are_ascii n) → IsUtf8 n → IsUtf8 s
    → MatchOption o (FindsTextPrefix n s None) (λ x. StripsPrefix (FindsTextPrefix n) s x.now)
    → MatchOption o (begins_with n (chars s) ≡ false)
    (λ x. (begins_with n (chars s) ≡ true) × (chars x.now ≡ drop (length n) (chars s)))
stripped None n s small un us h = sym (starts_with_front false n s small un us h)
stripped (Some x) n s small un us h = front_and n s x.now small un (stripped_whole (Some x) n s h)

-- ---- two that are passed one after the other

pub drop_two : (cs mid rest : List ℕ) → mid ≡ drop 1 cs → rest ≡ drop 1 mid → rest ≡ drop 2 cs
drop_two [] mid rest e f = rw (f, e) refl
drop_two (c ∷ cs) mid rest e f = rw (f, e) refl

-- ---- ASCII

is_small : (c : ℕ) (r : Bool) → r ≡ nat_lt c 128 → r ≡ true → c < 128
is_small c r i t = let e : nat_lt c 128 ≡ true = sym i ∙ t in grind (arith, nat_tests)

pub letter_starts : (c : ℕ) (r a : Bool) → r ≡ nat_lt c 128 → r ≡ true → a ≡ is_ascii_alphabetic c → a ≡ true
    → a ≡ has IdentStart c
letter_starts c r a i t e h =
    let x : is_xid_start c ≡ true = is_xid_start-ascii c (is_small c r i t) ∙ (sym e ∙ h) in
    h ∙ sym (ap (λ (b : Bool). b || (c == 95)) x)

pub other_starts : (c : ℕ) (r a : Bool) → r ≡ nat_lt c 128 → r ≡ true → a ≡ is_ascii_alphabetic c → a ≡ false
    → (c == 95) ≡ has IdentStart c
other_starts c r a i t e h =
    let x : is_xid_start c ≡ false = is_xid_start-ascii c (is_small c r i t) ∙ (sym e ∙ h) in
    sym (ap (λ (b : Bool). b || (c == 95)) x)

pub letter_continues : (c : ℕ) (r a : Bool) → r ≡ nat_lt c 128 → r ≡ true → a ≡ is_ascii_alphanumeric c → a ≡ true
    → a ≡ is_xid_continue c
letter_continues c r a i t e h =
    h ∙ sym (is_xid_continue-ascii c (is_small c r i t) ∙ ap (λ (b : Bool). b || (c == 95)) (sym e ∙ h))

pub other_continues : (c : ℕ) (r a : Bool) → r ≡ nat_lt c 128 → r ≡ true → a ≡ is_ascii_alphanumeric c → a ≡ false
    → (c == 95) ≡ is_xid_continue c
other_continues c r a i t e h =
    sym (is_xid_continue-ascii c (is_small c r i t) ∙ ap (λ (b : Bool). b || (c == 95)) (sym e ∙ h))

-- a byte of ASCII is a character
ascii_first : (text : List ℕ) (i : ℕ) → IsUtf8 text → i < length text → get_or text i 0 < 128
    → chars (drop i text) ≡ get_or text i 0 ∷ chars (drop (i + 1) text)
ascii_first text i u l s =
    let cut : IsUtf8 (drop i text) = IsUtf8-drop text i u (IsCharBoundary-before_ascii text i l s) in
    let e : drop i text ≡ encode_utf8 (get_or text i 0) ++ drop (i + 1) text =
    at_drop_more (λ (k : List ℕ). k) text i 0 l
    ∙ ap (λ (k : List ℕ). k ++ drop (i + 1) text) (sym (encode_ascii (get_or text i 0) s)) in
    chars_past_char (drop i text) (drop (i + 1) text) (get_or text i 0) cut e

both_true : (a b : Bool) → (a && b) ≡ true → (a ≡ true) × (b ≡ true)
both_true true b h = (refl, h)
both_true false b h = cc

-- one such byte more
pub counts_more : (k : CharClass) (text : List ℕ) (n b : ℕ) (r : Bool) → IsUtf8 text → n < length text
    → b ≡ get_or text n 0 → r ≡ (nat_lt b 128 && has k b) → r ≡ true
    → past k (chars (drop n text)) ≡ past k (chars text)
    → IsUtf8 (drop (n + 1) text) × (past k (chars (drop (n + 1) text)) ≡ past k (chars text))
counts_more k text n b r u l e i t p =
    let w : (nat_lt b 128 ≡ true) × (has k b ≡ true) = both_true (nat_lt b 128) (has k b) (sym i ∙ t) in
    let low : nat_lt b 128 ≡ true = w.0 in
    let small : b < 128 = grind (arith, nat_tests) in
    let s : get_or text n 0 < 128 = omega (arith, e, small) in
    let h : has k (get_or text n 0) ≡ true = ap (has k) (sym e) ∙ w.1 in (
      IsUtf8-drop text (n + 1) u (IsCharBoundary-after_ascii text n u l s),
      past_such k (get_or text n 0) (chars (drop (n + 1) text)) (chars (drop n text)) h (ascii_first text n u l s) ∙ p,
    )

-- a byte of ASCII that isn't such a character
pub stops_there : (k : CharClass) (text : List ℕ) (n b : ℕ) (r : Bool) → IsUtf8 text → n < length text
    → b ≡ get_or text n 0 → r ≡ (nat_lt b 128 && has k b) → r ≡ false → get_or text n 0 < 128
    → begins k (chars (drop n text)) ≡ false
stops_there k text n b r u l e i t s =
    let small : b < 128 = omega (arith, e, s) in
    let low : nat_lt b 128 ≡ true = grind (arith, nat_tests) in
    ap (begins k) (ascii_first text n u l s)
    ∙ (ap (has k) (sym e) ∙ (sym (ap (λ (x : Bool). x && has k b) low) ∙ (sym i ∙ t)))

-- no byte is left
pub stops_at_end : (k : CharClass) (text : List ℕ) (n : ℕ) → length text ≤ n → begins k (chars (drop n text)) ≡ false
stops_at_end k text n h = at_drop_all (λ (l : List ℕ). begins k (chars l)) text n h ∙ ap (begins k) chars-nil

-- nothing is passed
past_none : (k : CharClass) (cs : List ℕ) → begins k cs ≡ false → past k cs ≡ cs
past_none k [] h = refl
past_none k (c ∷ cs) h = rw h refl

pub past_near : (k : CharClass) (text rest : List ℕ) (n : ℕ) (r : Bool) → rest ≡ drop n text
    → r ≡ nat_le 128 (get_or text n 0) → r ≡ false → past k (chars (drop n text)) ≡ past k (chars text)
    → (get_or text n 0 < 128 → begins k (chars (drop n text)) ≡ false) → chars rest ≡ past k (chars text)
past_near k text rest n r e i t p s =
    let far : nat_le 128 (get_or text n 0) ≡ false = sym i ∙ t in
    let near : get_or text n 0 < 128 = grind (arith, nat_tests) in
    ap chars e ∙ (sym (past_none k (chars (drop n text)) (s near)) ∙ p)

pub past_far : (k : CharClass) (text rest got : List ℕ) (n : ℕ) → rest ≡ drop n text
    → past k (chars (drop n text)) ≡ past k (chars text) → chars got ≡ past k (chars rest)
    → chars got ≡ past k (chars text)
past_far k text rest got n e p g = g ∙ (ap (λ (l : List ℕ). past k (chars l)) e ∙ p)

pub end_of_drop : (text rest : List ℕ) (n : ℕ) → rest ≡ drop n text → IsEnd text rest
end_of_drop text rest n e =
    end_of text (take n text) rest (sym (take-append-drop n text) ∙ ap (λ (l : List ℕ). take n text ++ l) (sym e))

-- ---- one character of a front

and_true : (b : Bool) → (b && true) ≡ b
and_true true = refl
and_true false = refl

pub not_first : (c d : ℕ) (cs : List ℕ) → begins_with (d ∷ []) (c ∷ cs) ≡ false → (c == d) ≡ false
not_first c d cs h = sym (and_true (c == d)) ∙ h

-- a character that begins an identifier is no slash
pub start_no_slash : (c : ℕ) (r : Bool) → r ≡ has IdentStart c → r ≡ true → (c == 47) ≡ false
start_no_slash c r e t = sym (is_false (c == 47) (λ s.
    let same : c ≡ 47 = grind (arith, nat_tests) in
    let x : is_xid_start 47 ≡ false = is_xid_start-ascii 47 (omega arith) in
    let no : has IdentStart 47 ≡ false = ap (λ (b : Bool). b || (47 == 95)) x in
    false≢true (sym no ∙ (ap (has IdentStart) (sym same) ∙ (sym e ∙ t)))))

-- none of these is such
abbrev none_is : (ℕ → Bool) → List ℕ → Bool
none_is p [] = true
none_is p (d ∷ ds) = not (p d) && none_is p ds

not_true : (b : Bool) → not b ≡ true → b ≡ false
not_true true h = cc
not_true false h = refl

first_or : (p : ℕ → Bool) (d c : ℕ) (ds : List ℕ) (b : Bool) → (d == c) ≡ b → (b || char_set_contains ds c) ≡ true
    → not (p d) ≡ true → (char_set_contains ds c ≡ true → p c ≡ false) → p c ≡ false
first_or p d c ds true e t n i = let same : d ≡ c = grind (arith, nat_tests) in ap p (sym same) ∙ not_true (p d) n
first_or p d c ds false e t n i = i t

not_among : (p : ℕ → Bool) (ds : List ℕ) (c : ℕ) → none_is p ds ≡ true → char_set_contains ds c ≡ true → p c ≡ false
not_among p [] c n h = absurd (false≢true h)
not_among p (d ∷ ds) c n h =
    let these = both_true (not (p d)) (none_is p ds) n in
    first_or p d c ds (d == c) refl h these.0 (not_among p ds c these.1)

-- a punct is no digit and no quote
pub punct_other : (c : ℕ) (r : Bool) → r ≡ has Punct c → r ≡ true
    → (has Decimal c ≡ false) × ((c == 34) ≡ false) × ((c == 39) ≡ false)
punct_other c r e t =
    let puncts = codes "=<>!&|~@.,;:#$?+-*/%^" in
    let is : char_set_contains puncts c ≡ true = sym e ∙ t in (
      not_among (λ (d : ℕ). has Decimal d) puncts c refl is,
      not_among (λ (d : ℕ). d == 34) puncts c refl is,
      not_among (λ (d : ℕ). d == 39) puncts c refl is,
    )
