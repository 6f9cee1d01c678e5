-- What the readers leave is what is left of the text after some characters.
use Rattle.std.proofs.Common.{◌≡◌, ℕ, zero, suc, ◌==◌, ◌+◌, ◌-◌, ◌<◌, ◌≤◌, not, ◌&&◌, ◌||◌, nat_lt, Bool, true, false}
use Rattle.std.proofs.Common.{List, [], ◌∷◌, ◌++◌, length, take, drop, refl, sym, ap, ◌∙◌, arith, subst, if◌then◌else◌}
use Rattle.std.proofs.Common.{Ok, Err, chars, encode_utf8_all, IsUtf8, Bor, IfOk, codes}
use Rattle.std.proofs.Common.{length-append, append_assoc, drop-drop, length-drop, Option, Some, None, IfSome}
use Rattle.std.specs.Prelude.{unwrap_or}
use Rattle.std.specs.Str.{IsCharBoundary}
use Rattle.std.specs.Str.Pattern.{GetsRange}
use Rattle.mbe_text.proofs.Reading.{before_rest}
use Rattle.std.proofs.lemmas.Str.{chars-append, encode_ascii, IsUtf8-append, IsCharBoundary-from_drop}
use Rattle.std.proofs.lemmas.Str.{IsCharBoundary-end}
use Rattle.std.proofs.lemmas.Bool.Decides.{nat_tests}
use Rattle.std.proofs.Math.Seq.{take-append_seam, drop-append_seam, take-length}
use Rattle.mbe_text.specs.Rests.{IsEnd, IsRest}
use Rattle.mbe_text.specs.QuoteEnds.{front}
use Rattle.std.specs.Char.{digit_value, char_set_contains}
use Rattle.mbe_text.specs.declared.characters.CharClass.{CharClass}
use Rattle.mbe_text.specs.declared.characters.CharClass.TheVariants.{Blank, Hash}
use Rattle.mbe_text.specs.declared.escapes.EscapeMode.{EscapeMode}
use Rattle.mbe_text.specs.declared.fault_kind.LexFaultKind.{LexFaultKind}
use Rattle.mbe_text.specs.Characters.{has, past, are_ascii, bytes_before, low_line, backslash}
use Rattle.mbe_text.specs.Escapes.{RestResult, is_hex, is_c, is_bytes, is_single, is_scalar, past_second_digit}
use Rattle.mbe_text.specs.Escapes.{past_hex, past_value, past_digits, past_braces, past_unicode, past_escape}
use Rattle.mbe_text.specs.Escapes.{past_plain_char, past_char_or_escape, check_string}

-- what is left of a text after some characters
pub record Tail (cs rest : List ℕ) : Type 0 where
  pub own : List ℕ
  pub is : cs ≡ own ++ rest

pub here : (cs : List ℕ) → Tail cs cs
here cs = record { own = []; is = refl }

pub one : (c : ℕ) (cs rest : List ℕ) → Tail cs rest → Tail (c ∷ cs) rest
one c cs rest t = record { own = c ∷ t.own; is = ap (λ (l : List ℕ). c ∷ l) t.is }

pub on : (a b c : List ℕ) → Tail a b → Tail b c → Tail a c
on a b c s t = record {
  own = s.own ++ t.own;
  is = s.is ∙ (ap (λ (l : List ℕ). s.own ++ l) t.is ∙ sym (append_assoc s.own t.own c));
}

-- so many characters are before it
pub tail_is : (cs rest : List ℕ) → Tail cs rest → drop (length cs - length rest) cs ≡ rest
tail_is cs rest t =
    let n : length cs - length rest ≡ length t.own =
    omega (arith, ap (λ (l : List ℕ). length l) t.is, length-append t.own rest) in
    ap (λ (k : ℕ). drop k cs) n ∙ (ap (λ (l : List ℕ). drop (length t.own) l) t.is ∙ drop-append_seam t.own rest)

pub past_tail : (k : CharClass) (cs : List ℕ) → Tail cs (past k cs)
past_tail k [] = here []
past_tail k (c ∷ cs) = elim (has k c) as (λ b. Tail (c ∷ cs) (if b then past k cs else c ∷ cs)) [
  | true ↦ one c cs (past k cs) (past_tail k cs)
  | false ↦ here (c ∷ cs)
]

pub end_here : (a : List ℕ) → IsEnd a a
end_here a =
    let none : 0 ≡ length a - length a = omega arith in
    (omega arith, ap (λ (n : ℕ). drop n a) none)

-- an end of an end
pub end_on : (a b c : List ℕ) → IsEnd a b → IsEnd b c → IsEnd a c
end_on a b c p q =
    let h = p.0 in
    let k = q.0 in
    let n : (length a - length b) + (length b - length c) ≡ length a - length c = omega arith in (
      omega arith,
      q.1 ∙ (ap (λ (l : List ℕ). drop (length b - length c) l) p.1
          ∙ (drop-drop (length b - length c) (length a - length b) a ∙ ap (λ (m : ℕ). drop m a) n)),
    )

-- an end of an end, after its first character
pub end_after : (a b c : List ℕ) → IsEnd a b → length c < length b → IsRest b c → IsEnd a c
end_after a b c p n q = end_on a b c p (omega arith, q)

-- an end of what is left of a whole text, of so many bytes
pub end_of_rest : (text rest end : List ℕ) (total : ℕ) → length rest ≤ total → total ≡ length text → IsRest text rest
    → IsEnd rest end → IsEnd text end
end_of_rest text rest end total n w r e = end_on text rest end (omega arith, r) e

-- what is passed may not be there
pub end_or : (text : List ℕ) (r : Option (Bor (List ℕ))) (other got : Bor (List ℕ))
    → IfSome r (λ end. IsEnd text end.now) → IsEnd text other.now → got ≡ unwrap_or r other → IsEnd text got.now
end_or text (Some end) other got h e g = subst (λ (b : Bor (List ℕ)). IsEnd text b.now) (sym g) h
end_or text None other got h e g = subst (λ (b : Bor (List ℕ)). IsEnd text b.now) (sym g) e

-- ---- escapes

-- what is left is of the second text, and a fault's place of the first
pub data LeftEnds (from cs : List ℕ) : RestResult → Type 0 where
  left : {rest : List ℕ} → Tail cs rest → LeftEnds from cs (Ok rest)
  place : {w : LexFaultKind} {at : List ℕ} → Tail from at → LeftEnds from cs (Err (w, at))

left_if : {from cs : List ℕ} {x y : RestResult} (b : Bool) → LeftEnds from cs x → LeftEnds from cs y
    → LeftEnds from cs (if b then x else y)
left_if true p q = p
left_if false p q = q

more : {from cs : List ℕ} {x : RestResult} (c : ℕ) → LeftEnds from cs x → LeftEnds from (c ∷ cs) x
more c (left t) = left (one c _ _ t)
more c (place t) = place t

second_ends : (q : EscapeMode) (from : List ℕ) (high : ℕ) (cs : List ℕ) → Tail from cs
    → LeftEnds from cs (past_second_digit q from high cs)
second_ends q from high [] t = place (here from)
second_ends q from high (c ∷ cs) t =
    left_if (not (is_hex c)) (place t) (left_if (nat_lt 7 high && not (is_bytes q || is_c q)) (place (here from))
    (left_if (is_c q && (high == 0 && digit_value c == 0)) (place (here from)) (left (one c cs cs (here cs)))))

hex_ends : (q : EscapeMode) (from cs : List ℕ) → Tail from cs → LeftEnds from cs (past_hex q from cs)
hex_ends q from [] t = place (here from)
hex_ends q from (c ∷ cs) t =
    left_if (is_hex c) (more c (second_ends q from (digit_value c) cs (on _ _ _ t (one c cs cs (here cs))))) (place t)

value_ends : (q : EscapeMode) (from : List ℕ) (value count : ℕ) (cs : List ℕ)
    → LeftEnds from cs (past_value q from value count cs)
value_ends q from value count cs =
    left_if (nat_lt 6 count) (place (here from)) (left_if (is_bytes q) (place (here from))
    (left_if (not (is_scalar value)) (place (here from))
    (left_if (is_c q && value == 0) (place (here from)) (left (here cs)))))

digits_ends : (q : EscapeMode) (from cs : List ℕ) (value count : ℕ) → Tail from cs
    → LeftEnds from cs (past_digits q from value count cs)
digits_ends q from [] value count t = place (here from)
digits_ends q from (c ∷ cs) value count t =
    let s : Tail from cs = on _ _ _ t (one c cs cs (here cs)) in
    left_if (char_set_contains (codes "}") c) (more c (value_ends q from value count cs))
    (left_if (c == low_line) (more c (digits_ends q from cs value count s))
    (left_if (is_hex c) (more c (digits_ends q from cs _ _ s)) (place t)))

braces_ends : (q : EscapeMode) (from cs : List ℕ) → Tail from cs → LeftEnds from cs (past_braces q from cs)
braces_ends q from [] t = place (here from)
braces_ends q from (c ∷ cs) t =
    left_if (c == low_line) (place t) (left_if (char_set_contains (codes "}") c) (place (here from))
    (left_if (is_hex c) (more c (digits_ends q from cs _ _ (on _ _ _ t (one c cs cs (here cs))))) (place t)))

unicode_ends : (q : EscapeMode) (from cs : List ℕ) → Tail from cs → LeftEnds from cs (past_unicode q from cs)
unicode_ends q from [] t = place (here from)
unicode_ends q from (c ∷ cs) t =
    left_if (char_set_contains (codes "{") c) (more c (braces_ends q from cs (on _ _ _ t (one c cs cs (here cs)))))
    (place (here from))

escape_ends : (q : EscapeMode) (from cs : List ℕ) → Tail from cs → LeftEnds from cs (past_escape q from cs)
escape_ends q from [] t = place (here from)
escape_ends q from (c ∷ cs) t =
    let s : Tail from cs = on _ _ _ t (one c cs cs (here cs)) in
    let next : LeftEnds from (c ∷ cs) (Ok cs) = left (one c cs cs (here cs)) in
    left_if (char_set_contains (codes "nrt\\'\"") c) next
    (left_if (char_set_contains (codes "0") c) (left_if (is_c q) (place (here from)) next)
    (left_if (char_set_contains (codes "x") c) (more c (hex_ends q from cs s))
    (left_if (char_set_contains (codes "u") c) (more c (unicode_ends q from cs s))
    (left_if (char_set_contains (codes "\n") c && not (is_single q)) (left (one c cs _ (past_tail Blank cs)))
    (place t)))))

pub plain_ends : (q : EscapeMode) (c : ℕ) (cs : List ℕ) → LeftEnds (c ∷ cs) cs (past_plain_char q c cs)
plain_ends q c cs =
    let at = here (c ∷ cs) in
    left_if (is_single q && char_set_contains (codes "\n\r\t'") c) (place at)
    (left_if (char_set_contains (codes "\r") c) (place at) (left_if (is_c q && c == 0) (place at)
    (left_if (is_bytes q && not (nat_lt c 128)) (place at) (left (here cs)))))

pub unit_ends : (q : EscapeMode) (c : ℕ) (cs : List ℕ) → LeftEnds (c ∷ cs) cs (past_char_or_escape q c cs)
unit_ends q c cs = left_if (c == backslash) (escape_ends q (c ∷ cs) cs (one c cs cs (here cs))) (plain_ends q c cs)

-- ---- what calls returned

ok_tail : (from cs : List ℕ) (l : RestResult) → LeftEnds from cs l → IfOk l (λ rest. Tail cs rest)
ok_tail from cs l (left t) = t
ok_tail from cs l (place t) = tt

-- ---- a string's text

skipped : (q : EscapeMode) (n : ℕ) (cs : List ℕ) → check_string q n cs ≡ check_string q 0 (drop n cs)
skipped q zero cs = refl
skipped q (suc n) [] = refl
skipped q (suc n) (c ∷ cs) = skipped q n cs

pub string_on : (q : EscapeMode) (c : ℕ) (text cs rest : List ℕ) → text ≡ c ∷ cs → Ok rest ≡ past_char_or_escape q c cs
    → check_string q 0 rest ≡ check_string q 0 text
string_on q c text cs rest e f =
    let t : Tail cs rest =
    subst (λ (l : RestResult). IfOk l (λ (r : List ℕ). Tail cs r)) (sym f)
    (ok_tail (c ∷ cs) cs (past_char_or_escape q c cs) (unit_ends q c cs)) in
    let skip = skipped q (length cs - length rest) cs in
    sym (ap (check_string q 0) e ∙ (rw (← f, check_string) (skip ∙ ap (check_string q 0) (tail_is cs rest t))))

-- ---- what is before an end

pub front_chars : (text end content : List ℕ) → IsUtf8 text → IsUtf8 end → IsUtf8 content → text ≡ content ++ end
    → chars content ≡ front (chars text) (chars end)
front_chars text end content u v w e =
    let all : chars text ≡ chars content ++ chars end = ap chars e ∙ chars-append content end w in
    let n : length (chars text) - length (chars end) ≡ length (chars content) =
    omega (arith, ap (λ (l : List ℕ). length l) all, length-append (chars content) (chars end)) in
    sym (ap (λ (k : ℕ). take k (chars text)) n
    ∙ (ap (λ (l : List ℕ). take (length (chars content)) l) all ∙ take-append_seam (chars content) (chars end)))

-- ---- the `#` of a raw string

hash_small : (c : ℕ) → has Hash c ≡ true → nat_lt c 128 ≡ true
hash_small c h = grind (arith, nat_tests)

hashes_step : (c : ℕ) (cs : List ℕ) (b : Bool) → has Hash c ≡ b → are_ascii (front cs (past Hash cs)) ≡ true
    → are_ascii (front (c ∷ cs) (if b then past Hash cs else c ∷ cs)) ≡ true
hashes_step c cs true h i =
    let t = past_tail Hash cs in
    let n : length (c ∷ cs) - length (past Hash cs) ≡ suc (length cs - length (past Hash cs)) =
    omega (arith, ap (λ (l : List ℕ). length l) t.is, length-append t.own (past Hash cs)) in
    ap (λ (k : ℕ). are_ascii (take k (c ∷ cs))) n ∙ rw (hash_small c h) i
hashes_step c cs false h i =
    let n : length (c ∷ cs) - length (c ∷ cs) ≡ 0 = omega arith in
    ap (λ (k : ℕ). are_ascii (take k (c ∷ cs))) n

hashes_small : (cs : List ℕ) → are_ascii (front cs (past Hash cs)) ≡ true
hashes_small [] = refl
hashes_small (c ∷ cs) = hashes_step c cs (has Hash c) refl (hashes_small cs)

encodes_small : (cs : List ℕ) → are_ascii cs ≡ true → encode_utf8_all cs ≡ cs
encodes_small [] h = refl
encodes_small (c ∷ cs) h =
    let small : c < 128 = grind (arith, nat_tests) in
    let rest : are_ascii cs ≡ true = grind (arith, nat_tests) in
    rw (encode_ascii c small, encodes_small cs rest) refl

pub hashes_ascii : (text rest own : List ℕ) → rest ≡ past Hash text → own ≡ bytes_before text rest
    → are_ascii own ≡ true
hashes_ascii text rest own e f =
    let same : own ≡ front text (past Hash text) =
    f ∙ (ap (bytes_before text) e ∙ encodes_small (front text (past Hash text)) (hashes_small text)) in
    ap are_ascii same ∙ hashes_small text

-- ---- a fault between quotes

got_rest : (body : List ℕ) (start j : ℕ) (got other : Bor (List ℕ)) (r : Option (Bor (List ℕ))) → IsUtf8 body
    → start ≤ length body → j ≡ length body → IsUtf8 (drop start body) → GetsRange body start j r
    → got ≡ unwrap_or r other
    → (rest : List ℕ) → drop start body ≡ rest → chars got.now ≡ chars rest
got_rest body start j got other None u le k text g h rest e =
    absurd (g (omega (arith, le, k)) (IsCharBoundary-from_drop body start le text)
    (subst (IsCharBoundary body) (sym k) (IsCharBoundary-end body)))
got_rest body start j got other (Some x) u le k text g h rest e =
    let l : j - start ≡ length (drop start body) = omega (arith, k, length-drop start body) in
    ap (λ (b : Bor (List ℕ)). chars b.now) h ∙ ap chars (g.0 ∙ (ap (λ (m : ℕ). take m (drop start body)) l
    ∙ (take-length (drop start body) ∙ e)))

-- the bytes from where a fault is in what is before an end
pub got_inside : (body end at content : List ℕ) (start j : ℕ) (got other : Bor (List ℕ)) (r : Option (Bor (List ℕ)))
    → IsUtf8 body → IsUtf8 end → IsUtf8 at → start ≡ length body - length end - length at → j ≡ length body
    → GetsRange body start j r → got ≡ unwrap_or r other → body ≡ content ++ end → IsEnd content at
    → chars got.now ≡ chars at ++ chars end
got_inside body end at content start j got other r u v w s k g h e p =
    let own : List ℕ = take (length content - length at) content in
    let parts : content ≡ own ++ at = before_rest content at p.1 in
    let whole : body ≡ own ++ (at ++ end) = e ∙ (ap (λ (l : List ℕ). l ++ end) parts ∙ append_assoc own at end) in
    let a = ap (λ (l : List ℕ). length l) parts in
    let b = ap (λ (l : List ℕ). length l) e in
    let n : start ≡ length own = omega (arith, a, b, length-append own at, length-append content end) in
    let rest : drop start body ≡ at ++ end =
    ap (λ (m : ℕ). drop m body) n
    ∙ (ap (λ (l : List ℕ). drop (length own) l) whole ∙ drop-append_seam own (at ++ end)) in
    let text : IsUtf8 (drop start body) = subst IsUtf8 (sym rest) (IsUtf8-append at end w v) in
    let le : start ≤ length body = omega arith in
    got_rest body start j got other r u le k text g h (at ++ end) rest ∙ chars-append at end w
