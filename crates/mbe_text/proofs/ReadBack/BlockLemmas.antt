-- Where a block doc comment ends: its text is one that is closed.
use Rattle.std.proofs.Common.{◌≡◌, ℕ, suc, ◌==◌, ◌+◌, ◌-◌, ◌<◌, ◌≤◌, not, ◌&&◌, ◌||◌, if◌then◌else◌, Bool, true, false}
use Rattle.std.proofs.Common.{List, [], ◌∷◌, ◌++◌, length, get_or, refl, sym, ap, ◌∙◌, arith, codes, Option, Some, None}
use Rattle.std.proofs.Common.{length-append, chars, encode_utf8_all}
use Rattle.std.specs.Char.{char_set_contains}
use Rattle.std.specs.List.{list_any}
use Rattle.std.specs.Str.{NonePass}
use Rattle.std.proofs.Math.Utf8.{scalars}
use Rattle.std.proofs.lemmas.Bool.Decides.{nat_tests}
use Rattle.std.proofs.lemmas.Str.{NoCharPasses-byte, char_from_byte, chars-encodes, encode_ascii}
use Rattle.mbe_text.specs.RustText.DocComments.{has_line_end, is_line_end, begins_with_slash, begins_with_mark}
use Rattle.mbe_text.specs.RustText.DocComments.{is_closed, is_block, is_comment}
use Rattle.mbe_text.specs.Characters.{begins_with, has, past}
use Rattle.mbe_text.specs.QuoteEnds.{from_comment_end}
use Rattle.mbe_text.specs.RustTokens.{from_carriage_return}

-- ---- two characters

-- what a comment's end is searched for in, after one mark or none
abbrev two_on : Bool → Bool → ℕ → ℕ → ℕ → List ℕ → Option (List ℕ)
two_on opens closes depth c d cs =
    if opens then from_comment_end false (depth + 1) cs
    else if not closes then from_comment_end false depth (d ∷ cs)
    else if depth == 0 then Some (c ∷ (d ∷ cs))
    else from_comment_end false (depth - 1) cs

one_mark : (a b : Bool) → (a && (b && true)) ≡ (a && b)
one_mark true true = refl
one_mark true false = refl
one_mark false b = refl

two_are : (opens closes : Bool) (depth c d : ℕ) (cs : List ℕ) → (c == 47 && (d == 42 && true)) ≡ opens
    → (c == 42 && (d == 47 && true)) ≡ closes
    → from_comment_end false depth (c ∷ (d ∷ cs)) ≡ two_on opens closes depth c d cs
two_are true closes depth c d cs o l = rw (from_comment_end, o) refl
two_are false true depth c d cs o l = rw (from_comment_end, o, l) refl
two_are false false depth c d cs o l = rw (from_comment_end, o, l) refl

two : (depth c d : ℕ) (cs : List ℕ)
    → from_comment_end false depth (c ∷ (d ∷ cs)) ≡ two_on (c == 47 && d == 42) (c == 42 && d == 47) depth c d cs
two depth c d cs =
    two_are (c == 47 && d == 42) (c == 42 && d == 47) depth c d cs (one_mark (c == 47) (d == 42))
    (one_mark (c == 42) (d == 47))

-- the same of a text that is closed
abbrev closed_on : Bool → Bool → ℕ → ℕ → List ℕ → Bool
closed_on opens closes depth d cs =
    if opens then is_closed 0 (suc depth) cs
    else if closes then not (depth == 0) && is_closed 0 (depth - 1) cs
    else is_closed d depth cs

both : (a b : Bool) → (a && b) ≡ true → (a ≡ true) × (b ≡ true)
both true b h = (refl, h)
both false b h = absurd (cc)

closed_then : (return : Bool) (c depth d : ℕ) (cs : List ℕ) → (d == 13) ≡ return → is_closed c depth (d ∷ cs) ≡ true
    → (return ≡ false) × (closed_on (c == 47 && d == 42) (c == 42 && d == 47) depth d cs ≡ true)
closed_then true c depth d cs r h =
    absurd (let w : is_closed c depth (d ∷ cs) ≡ false = rw (is_closed, r) refl in
    let z : false ≡ true = sym w ∙ h in cc)
closed_then false c depth d cs r h = (
  refl,
  let w : is_closed c depth (d ∷ cs) ≡ closed_on (c == 47 && d == 42) (c == 42 && d == 47) depth d cs =
      rw (is_closed, r) refl in sym w ∙ h,
)

-- ---- a comment with a closed text ends after it

not_zero : (n : ℕ) → not (n == 0) ≡ true → (n == 0) ≡ false
not_zero n h = grind (arith, nat_tests, h)

more_is : (n : ℕ) → suc n ≡ n + 1
more_is n = omega arith

at_its_end : (depth last : ℕ) (tail : List ℕ) → (depth == 0) ≡ true → (last == 47) ≡ false
    → from_comment_end false depth (last ∷ (42 ∷ (47 ∷ tail))) ≡ Some (42 ∷ (47 ∷ tail))
at_its_end depth last tail z n =
    let closes : (last == 42 && false) ≡ false = grind (arith, nat_tests) in
    let opens : (last == 47 && true) ≡ false = ap (λ (b : Bool). b && true) n in
    two depth last 42 (47 ∷ tail)
    ∙ (ap (λ (b : Bool). two_on b (last == 42 && false) depth last 42 (47 ∷ tail)) opens
    ∙ (ap (λ (b : Bool). two_on false b depth last 42 (47 ∷ tail)) closes
    ∙ (two depth 42 47 tail ∙ rw z refl)))

-- `last` is right before these characters
abbrev EndsAfter : ℕ → ℕ → List ℕ → List ℕ → Type 0
EndsAfter last depth cs tail =
    from_comment_end false depth (last ∷ (cs ++ (42 ∷ (47 ∷ tail)))) ≡ Some (42 ∷ (47 ∷ tail))

ends_on : (opens closes : Bool) (last depth d : ℕ) (cs tail : List ℕ) → (last == 47 && d == 42) ≡ opens
    → (last == 42 && d == 47) ≡ closes → closed_on opens closes depth d cs ≡ true
    → ((l n : ℕ) → is_closed l n cs ≡ true → EndsAfter l n cs tail) → EndsAfter last depth (d ∷ cs) tail
ends_on true closes last depth d cs tail o l h go =
    let rest : List ℕ = cs ++ (42 ∷ (47 ∷ tail)) in
    two depth last d rest
    ∙ (ap (λ (b : Bool). two_on b (last == 42 && d == 47) depth last d rest) o
    ∙ (ap (λ (n : ℕ). from_comment_end false n rest) (sym (more_is depth)) ∙ go 0 (suc depth) h))
ends_on false true last depth d cs tail o l h go =
    let rest : List ℕ = cs ++ (42 ∷ (47 ∷ tail)) in
    let some = both (not (depth == 0)) (is_closed 0 (depth - 1) cs) h in
    two depth last d rest
    ∙ (ap (λ (b : Bool). two_on b (last == 42 && d == 47) depth last d rest) o
    ∙ (ap (λ (b : Bool). two_on false b depth last d rest) l
    ∙ (ap (λ (b : Bool). if b then Some (last ∷ (d ∷ rest)) else from_comment_end false (depth - 1) rest)
    (not_zero depth some.0) ∙ go 0 (depth - 1) some.1)))
ends_on false false last depth d cs tail o l h go =
    let rest : List ℕ = cs ++ (42 ∷ (47 ∷ tail)) in
    two depth last d rest
    ∙ (ap (λ (b : Bool). two_on b (last == 42 && d == 47) depth last d rest) o
    ∙ (ap (λ (b : Bool). two_on false b depth last d rest) l ∙ go d depth h))

no_mark : (last : ℕ) → not (last == 47) ≡ true → (last == 47) ≡ false
no_mark last h = grind (arith, nat_tests, h)

ends_from : (cs tail : List ℕ) (last depth : ℕ) → is_closed last depth cs ≡ true → EndsAfter last depth cs tail
ends_from [] tail last depth h =
    let t = both (depth == 0) (not (last == 47)) h in at_its_end depth last tail t.0 (no_mark last t.1)
ends_from (d ∷ cs) tail last depth h =
    ends_on (last == 47 && d == 42) (last == 42 && d == 47) last depth d cs tail refl refl
    (closed_then (d == 13) last depth d cs refl h).1
    (λ l n k. ends_from cs tail l n k)

pub ends_after : (cs tail : List ℕ) → is_closed 0 0 cs ≡ true
    → from_comment_end false 0 (cs ++ (42 ∷ (47 ∷ tail))) ≡ Some (42 ∷ (47 ∷ tail))
ends_after [] tail h = refl
ends_after (c ∷ cs) tail h = ends_from (c ∷ cs) tail 0 0 h

-- it has no carriage return
no_carriage : (c : ℕ) → (c == 13) ≡ false → char_set_contains (codes "\r") c ≡ false
no_carriage c h = grind (arith, nat_tests, h)

later_closed : (opens closes : Bool) (depth d : ℕ) (cs : List ℕ) → closed_on opens closes depth d cs ≡ true
    → (l : ℕ) × (n : ℕ) × (is_closed l n cs ≡ true)
later_closed true closes depth d cs h = (0, suc depth, h)
later_closed false true depth d cs h = (0, depth - 1, (both (not (depth == 0)) (is_closed 0 (depth - 1) cs) h).1)
later_closed false false depth d cs h = (d, depth, h)

pub closed_no_return : (last depth : ℕ) (cs : List ℕ) → is_closed last depth cs ≡ true → from_carriage_return cs ≡ None
closed_no_return last depth [] h = refl
closed_no_return last depth (c ∷ cs) h =
    let t = closed_then (c == 13) last depth c cs refl h in
    let k = later_closed (last == 47 && c == 42) (last == 42 && c == 47) depth c cs t.1 in
    rw (no_carriage c t.0) (closed_no_return k.0 k.1 cs k.2)

-- ---- the text of a comment that ends is closed

abbrev Found : List ℕ → List ℕ → Type 0
Found cs end = (let x : Option (List ℕ) = Some cs in x) ≡ Some end

same_length : (cs end : List ℕ) → Found cs end → length cs ≡ length end
same_length cs end h = ap (λ (x : List ℕ). length x) (same h)
  where
    same : Found cs end → cs ≡ end
    same h = cc

short_by : (c : ℕ) (cs end : List ℕ) (depth : ℕ) (opens closes none : Bool) → begins_with (codes "/*") (c ∷ cs) ≡ opens
    → begins_with (codes "*/") (c ∷ cs) ≡ closes → (depth == 0) ≡ none
    → from_comment_end false depth (c ∷ cs) ≡ Some end
    → ((taken : Bool) (n : ℕ) → from_comment_end taken n cs ≡ Some end → length end ≤ length cs)
    → length end ≤ length (c ∷ cs)
short_by c cs end depth true closes none o l z h go =
    let w : from_comment_end false depth (c ∷ cs) ≡ from_comment_end true (depth + 1) cs =
    rw (from_comment_end, o) refl in
    let k = go true (depth + 1) (sym w ∙ h) in omega (arith, k)
short_by c cs end depth false false none o l z h go =
    let w : from_comment_end false depth (c ∷ cs) ≡ from_comment_end false depth cs =
    rw (from_comment_end, o, l) refl in
    let k = go false depth (sym w ∙ h) in omega (arith, k)
short_by c cs end depth false true true o l z h go =
    let w : from_comment_end false depth (c ∷ cs) ≡ Some (c ∷ cs) = rw (from_comment_end, o, l, z) refl in
    let k = same_length (c ∷ cs) end (sym w ∙ h) in omega (arith, k)
short_by c cs end depth false true false o l z h go =
    let w : from_comment_end false depth (c ∷ cs) ≡ from_comment_end true (depth - 1) cs =
    rw (from_comment_end, o, l, z) refl in
    let k = go true (depth - 1) (sym w ∙ h) in omega (arith, k)

-- what is left is no longer
left_short : (cs end : List ℕ) (taken : Bool) (depth : ℕ) → from_comment_end taken depth cs ≡ Some end
    → length end ≤ length cs
left_short [] end true depth h = absurd (cc)
left_short [] end false depth h = absurd (cc)
left_short (c ∷ cs) end true depth h = omega (arith, left_short cs end false depth h)
left_short (c ∷ cs) end false depth h =
    short_by c cs end depth (begins_with (codes "/*") (c ∷ cs)) (begins_with (codes "*/") (c ∷ cs)) (depth == 0)
    refl refl refl h (λ taken n k. left_short cs end taken n k)

-- the end of a comment is the one of its own marks
at_end : (c : ℕ) (cs : List ℕ) (depth : ℕ) (opens closes none : Bool) → begins_with (codes "/*") (c ∷ cs) ≡ opens
    → begins_with (codes "*/") (c ∷ cs) ≡ closes → (depth == 0) ≡ none
    → from_comment_end false depth (c ∷ cs) ≡ Some (c ∷ cs) → (closes ≡ true) × (none ≡ true)
at_end c cs depth true closes none o l z h =
    absurd (let w : from_comment_end false depth (c ∷ cs) ≡ from_comment_end true (depth + 1) cs =
    rw (from_comment_end, o) refl in
    let k = left_short cs (c ∷ cs) true (depth + 1) (sym w ∙ h) in omega (arith, k))
at_end c cs depth false false none o l z h =
    absurd (let w : from_comment_end false depth (c ∷ cs) ≡ from_comment_end false depth cs =
    rw (from_comment_end, o, l) refl in
    let k = left_short cs (c ∷ cs) false depth (sym w ∙ h) in omega (arith, k))
at_end c cs depth false true true o l z h = (refl, refl)
at_end c cs depth false true false o l z h =
    absurd (let w : from_comment_end false depth (c ∷ cs) ≡ from_comment_end true (depth - 1) cs =
    rw (from_comment_end, o, l, z) refl in
    let k = left_short cs (c ∷ cs) true (depth - 1) (sym w ∙ h) in omega (arith, k))

opens_not : (a b : Bool) → (a && b) ≡ false → b ≡ true → a ≡ false
opens_not true true h e = absurd (cc)
opens_not true false h e = absurd (cc)
opens_not false b h e = refl

nothing_open : (last depth e : ℕ) (es : List ℕ) (opens closes none : Bool) → (last == 47 && e == 42) ≡ opens
    → (last == 42 && e == 47) ≡ closes → (depth == 0) ≡ none
    → two_on opens closes depth last e es ≡ Some (e ∷ es) → is_closed last depth [] ≡ true
nothing_open last depth e es true closes none o l z h =
    absurd (let k = left_short es (e ∷ es) false (depth + 1) h in omega (arith, k))
nothing_open last depth e es false true none o l z h = absurd (by none z)
  where
    by : (none : Bool) → (depth == 0) ≡ none → ⊥
    by true z =
        let w : Found (last ∷ (e ∷ es)) (e ∷ es) =
        sym (ap (λ (b : Bool). if b then Some (last ∷ (e ∷ es)) else from_comment_end false (depth - 1) es) z) ∙ h in
        let k = same_length (last ∷ (e ∷ es)) (e ∷ es) w in omega (arith, k)
    by false z =
        let w : from_comment_end false (depth - 1) es ≡ Some (e ∷ es) =
        sym (ap (λ (b : Bool). if b then Some (last ∷ (e ∷ es)) else from_comment_end false (depth - 1) es) z) ∙ h in
        let k = left_short es (e ∷ es) false (depth - 1) w in omega (arith, k)
nothing_open last depth e es false false none o l z h =
    let t = at_end e es depth (begins_with (codes "/*") (e ∷ es)) (begins_with (codes "*/") (e ∷ es)) (depth == 0)
    refl refl refl h in
    let mark = both (e == 42) (begins_with (codes "/") es) t.0 in
    let n = opens_not (last == 47) (e == 42) o mark.0 in
    rw (t.1, n) refl

closed_here : (last depth : ℕ) (end : List ℕ) → from_comment_end false depth (last ∷ end) ≡ Some end
    → is_closed last depth [] ≡ true
closed_here last depth [] h = absurd (
    let o : (last == 47 && false) ≡ false = grind (arith, nat_tests) in
    let l : (last == 42 && false) ≡ false = grind (arith, nat_tests) in
    let w : from_comment_end false depth (last ∷ []) ≡ None = rw (from_comment_end, o, l) refl in
    let z : None ≡ Some [] = sym w ∙ h in cc)
closed_here last depth (e ∷ es) h =
    nothing_open last depth e es (last == 47 && e == 42) (last == 42 && e == 47) (depth == 0) refl refl refl
    (sym (two depth last e es) ∙ h)

closed_by : (return : Bool) (c depth d : ℕ) (cs : List ℕ) → (d == 13) ≡ return → return ≡ false
    → closed_on (c == 47 && d == 42) (c == 42 && d == 47) depth d cs ≡ true → is_closed c depth (d ∷ cs) ≡ true
closed_by true c depth d cs r f h = absurd (cc)
closed_by false c depth d cs r f h =
    let w : is_closed c depth (d ∷ cs) ≡ closed_on (c == 47 && d == 42) (c == 42 && d == 47) depth d cs =
    rw (is_closed, r) refl in w ∙ h

-- what is left of the characters is closed
closes_on : (opens closes none : Bool) (last depth d : ℕ) (cs end : List ℕ) → (depth == 0) ≡ none
    → two_on opens closes depth last d (cs ++ end) ≡ Some end
    → ((l n : ℕ) → from_comment_end false n (l ∷ (cs ++ end)) ≡ Some end → is_closed l n cs ≡ true)
    → closed_on opens closes depth d cs ≡ true
closes_on true closes none last depth d cs end z h go =
    go 0 (suc depth) (ap (λ (n : ℕ). from_comment_end false n (cs ++ end)) (more_is depth) ∙ h)
closes_on false true true last depth d cs end z h go =
    absurd (let w : Found (last ∷ (d ∷ (cs ++ end))) end =
    sym (ap (λ (b : Bool). if b then Some (last ∷ (d ∷ (cs ++ end))) else from_comment_end false (depth - 1)
    (cs ++ end)) z) ∙ h in
    let k = same_length (last ∷ (d ∷ (cs ++ end))) end w in omega (arith, k, length-append cs end))
closes_on false true false last depth d cs end z h go =
    let w : from_comment_end false (depth - 1) (cs ++ end) ≡ Some end =
    sym (ap (λ (b : Bool). if b then Some (last ∷ (d ∷ (cs ++ end))) else from_comment_end false (depth - 1)
    (cs ++ end)) z) ∙ h in
    ap (λ (b : Bool). not b && is_closed 0 (depth - 1) cs) z ∙ go 0 (depth - 1) w
closes_on false false none last depth d cs end z h go = go d depth h

no_return_at : (c : ℕ) (cs : List ℕ) (b : Bool) → char_set_contains (codes "\r") c ≡ b → from_carriage_return (c ∷ cs)
    ≡ None
    → (char_set_contains (codes "\r") c ≡ false) × (from_carriage_return cs ≡ None)
no_return_at c cs true e h =
    absurd (let w : from_carriage_return (c ∷ cs) ≡ Some (c ∷ cs) = rw (from_carriage_return, e) refl in
    let z : Some (c ∷ cs) ≡ None = sym w ∙ h in cc)
no_return_at c cs false e h = (
  e,
  let w : from_carriage_return (c ∷ cs) ≡ from_carriage_return cs = rw (from_carriage_return, e) refl in sym w
      ∙ h,
)

no_thirteen : (c : ℕ) → char_set_contains (codes "\r") c ≡ false → (c == 13) ≡ false
no_thirteen c h = grind (arith, nat_tests, h)

closed_from : (own end : List ℕ) (last depth : ℕ) → from_carriage_return own ≡ None
    → from_comment_end false depth (last ∷ (own ++ end)) ≡ Some end → is_closed last depth own ≡ true
closed_from [] end last depth r h = closed_here last depth end h
closed_from (d ∷ own) end last depth r h =
    let t = no_return_at d own (char_set_contains (codes "\r") d) refl r in
    closed_by (d == 13) last depth d own refl (no_thirteen d t.0)
    (closes_on (last == 47 && d == 42) (last == 42 && d == 47) (depth == 0) last depth d own end refl
    (sym (two depth last d (own ++ end)) ∙ h)
    (λ l n k. closed_from own end l n t.1 k))

pub text_closed : (own end : List ℕ) → from_carriage_return own ≡ None → from_comment_end false 0 (own ++ end)
    ≡ Some end
    → is_closed 0 0 own ≡ true
text_closed own end r h = closed_from own end 0 0 r h

-- ---- line ends

record PassesAt (p : ℕ → Bool) (xs : List ℕ) : Type 0 where
  index : ℕ
  within : index < length xs
  passes : p (get_or xs index 0) ≡ true

any_at : (p : ℕ → Bool) (x : ℕ) (xs : List ℕ) (b : Bool) → p x ≡ b → (b || list_any p xs) ≡ true
    → (list_any p xs ≡ true → PassesAt p xs) → PassesAt p (x ∷ xs)
any_at p x xs true e h go = record { index = 0; within = omega arith; passes = e }
any_at p x xs false e h go =
    let k = go h in record { index = suc k.index; within = omega (arith, k.within); passes = k.passes }

any_passes : (p : ℕ → Bool) (xs : List ℕ) → list_any p xs ≡ true → PassesAt p xs
any_passes p [] h = absurd (cc)
any_passes p (x ∷ xs) h = any_at p x xs (p x) refl h (λ k. any_passes p xs k)

neither : (a b : Bool) → (a || b) ≡ false → (a ≡ false) × (b ≡ false)
neither true b h = absurd (cc)
neither false b h = (refl, h)

none_pass : (cs : List ℕ) → has_line_end cs ≡ false → NonePass is_line_end cs
none_pass [] h = tt
none_pass (c ∷ cs) h = let t = neither (is_line_end c) (has_line_end cs) h in (t.0, none_pass cs t.1)

end_small : (c : ℕ) → is_line_end c ≡ true → c < 128
end_small c h = grind (arith, nat_tests, h)

-- the bytes of a line end no line
pub no_byte_ends : (cs : List ℕ) → has_line_end cs ≡ false → has_line_end (encode_utf8_all cs) ≡ false
no_byte_ends cs h = by (has_line_end (encode_utf8_all cs)) refl
  where
    by : (b : Bool) → has_line_end (encode_utf8_all cs) ≡ b → has_line_end (encode_utf8_all cs) ≡ false
    by false e = e
    by true e = absurd (
        let k = any_passes is_line_end (encode_utf8_all cs) e in
        let no = NoCharPasses-byte is_line_end (encode_utf8_all cs) k.index (cs, refl, none_pass cs h) k.within
        (end_small (get_or (encode_utf8_all cs) k.index 0) k.passes) in
        let z : true ≡ false = sym k.passes ∙ no in cc)

-- what is passed up to a line's end
pub feed_of : (c : ℕ) → not (char_set_contains (codes "\n") c) ≡ true → (c == 10) ≡ false
feed_of c h = grind (arith, nat_tests, h)

neither_end : (c : ℕ) (cs : List ℕ) → (c == 10) ≡ false → (c == 13) ≡ false → has_line_end (c ∷ cs) ≡ has_line_end cs
neither_end c cs feed return = rw (feed, return) refl

line_on : (k : _) (d c : ℕ) (cs own : List ℕ) (b : Bool) → ((c : ℕ) → has k c ≡ true → (c == 10) ≡ false)
    → has k d ≡ b
    → d ∷ cs ≡ (c ∷ own) ++ past k (d ∷ cs) → from_carriage_return (c ∷ own) ≡ None
    → (cs ≡ own ++ past k cs → from_carriage_return own ≡ None → has_line_end own ≡ false) → has_line_end (c ∷ own)
    ≡ false
line_on k d c cs own false n e h r go = absurd (
    let w : past k (d ∷ cs) ≡ d ∷ cs = rw (past, e) refl in
    let l = ap (λ (x : List ℕ). length x) (h ∙ ap (λ (x : List ℕ). (c ∷ own) ++ x) w) in
    omega (arith, l, length-append own (d ∷ cs)))
line_on k d c cs own true n e h r go =
    let w : past k (d ∷ cs) ≡ past k cs = rw (past, e) refl in
    let all : d ∷ cs ≡ c ∷ (own ++ past k cs) = h ∙ ap (λ (x : List ℕ). (c ∷ own) ++ x) w in
    let first : d ≡ c = cc in
    let more : cs ≡ own ++ past k cs = cc in
    let t = no_return_at c own (char_set_contains (codes "\r") c) refl r in
    neither_end c own (ap (λ (x : ℕ). x == 10) (sym first) ∙ n d e) (no_thirteen c t.0) ∙ go more t.1

pub line_has_none : (k : _) (cs own : List ℕ) → ((c : ℕ) → has k c ≡ true → (c == 10) ≡ false)
    → cs ≡ own ++ past k cs → from_carriage_return own ≡ None → has_line_end own ≡ false
line_has_none k cs [] n h r = refl
line_has_none k [] (c ∷ own) n h r = absurd (cc)
line_has_none k (d ∷ cs) (c ∷ own) n h r =
    line_on k d c cs own (has k d) n refl h r (λ more s. line_has_none k cs own n more s)

-- ---- its first byte

is_mark_small : (b : ℕ) → (b == 42 || b == 47) ≡ true → b < 128
is_mark_small b h = grind (arith, nat_tests, h)

-- what is after a comment's first marks begins with one
abbrev pub mark_is_first : List ℕ → Bool
mark_is_first [] = false
mark_is_first (c ∷ cs) = c == 42 || c == 47

-- `*` and `/` are one byte
mark_byte : (c : ℕ) (cs bytes : List ℕ) → bytes ≡ encode_utf8_all (c ∷ cs) → (c == 42 || c == 47) ≡ false
    → has_line_end bytes ≡ true → begins_with_mark bytes ≡ false
mark_byte c cs [] i n several = absurd (cc)
mark_byte c cs (b ∷ bytes) i n several = by (b == 42 || b == 47) refl
  where
    by : (is : Bool) → (b == 42 || b == 47) ≡ is → (b == 42 || b == 47) ≡ false
    by false e = e
    by true e = absurd (
        let same : c ≡ b =
        char_from_byte (b ∷ bytes) (encode_utf8_all cs) c i (is_mark_small b e) (omega arith) in
        let z : true ≡ false = sym e ∙ (ap (λ (x : ℕ). x == 42 || x == 47) (sym same) ∙ n) in cc)

-- where lines end in it
pub own_mark : (own end body : List ℕ) → has_line_end (encode_utf8_all own) ≡ true → body ≡ own ++ end
    → mark_is_first body ≡ false → begins_with_mark (encode_utf8_all own) ≡ false
own_mark [] end body several i n = absurd (cc)
own_mark (c ∷ own) end body several i n =
    mark_byte c own (encode_utf8_all (c ∷ own)) refl (sym (ap mark_is_first i) ∙ n) several

pub mark_is_byte : (cs : List ℕ) → begins_with_mark (encode_utf8_all cs) ≡ false → begins_with_mark cs ≡ false
mark_is_byte [] h = absurd (cc)
mark_is_byte (c ∷ cs) h = by (c == 42 || c == 47) refl
  where
    by : (b : Bool) → (c == 42 || c == 47) ≡ b → (c == 42 || c == 47) ≡ false
    by false e = e
    by true e = absurd (
        let is : begins_with_mark (encode_utf8_all (c ∷ cs)) ≡ (c == 42 || c == 47) =
        ap (λ (x : List ℕ). begins_with_mark (x ++ encode_utf8_all cs)) (encode_ascii c (is_mark_small c e)) in
        let z : true ≡ false = sym e ∙ (sym is ∙ h) in cc)

-- ---- the text of a doc comment is written as one

line_right : (inner slash : Bool) → (inner ≡ false → slash ≡ false) → (inner || not slash) ≡ true
line_right true slash s = refl
line_right false slash s = ap not (s refl)

pub comment_is : (inner ended : Bool) (text : List ℕ) → has_line_end text ≡ ended
    → (inner ≡ false → begins_with_slash text ≡ false) → (ended ≡ true → is_block inner text ≡ true)
    → is_comment inner ended text ≡ true
comment_is inner true text e s b = b refl
comment_is inner false text e s b =
    ap (λ (x : Bool). not x && (inner || not (begins_with_slash text))) e
    ∙ line_right inner (begins_with_slash text) s

pub block_is : (inner : Bool) (own end : List ℕ) → (inner ≡ false → begins_with_mark (encode_utf8_all own) ≡ false)
    → scalars own ≡ true → from_carriage_return own ≡ None → from_comment_end false 0 (own ++ end) ≡ Some end
    → is_block inner (encode_utf8_all own) ≡ true
block_is inner own end m u r h =
    let text : List ℕ = encode_utf8_all own in
    ap (λ (x : Bool). x && is_closed 0 0 (chars text)) (line_right inner (begins_with_mark text) m)
    ∙ (ap (λ (x : List ℕ). is_closed 0 0 x) (chars-encodes own u) ∙ text_closed own end r h)
