-- What ends a token.
use Rattle.std.proofs.Common.{◌≡◌, ℕ, ◌==◌, ◌<◌, not, ◌||◌, Bool, true, false, List, [], ◌∷◌, refl, arith}
use Rattle.std.proofs.lemmas.Bool.Decides.{nat_tests}
use Rattle.std.specs.Char.{is_ascii_digit}
use Rattle.unicode_ident.specs.Ident.{is_xid_continue}
use Rattle.unicode_ident.proofs.IdentLemmas.{is_xid_start-ascii, is_xid_continue-ascii}
use Rattle.unicode_ident.proofs.Computing.{unicode_ident}
use Rattle.mbe_text.specs.Characters.{is_space}
use Rattle.mbe_text.specs.RustTokens.{begins_reserved}
use Rattle.mbe_text.specs.Laws.RustTrees.{is_start, continues_word, ends_literal}
use Rattle.mbe_text.specs.Laws.Gaps.{is_punct}

-- nothing, a space or a line feed
abbrev pub begins_gap : List ℕ → Bool
begins_gap [] = true
begins_gap (c ∷ cs) = c == 32 || c == 10

-- a word ends there, in each edition
abbrev pub ends_word : List ℕ → Bool
ends_word rest = not (continues_word rest || begins_reserved rest)

abbrev pub begins_punct : List ℕ → Bool
begins_punct [] = false
begins_punct (c ∷ cs) = is_punct c

-- no punct is there
abbrev pub ends_punct : List ℕ → Bool
ends_punct rest = not (begins_punct rest)

-- ---- classes

pub punct_small : (c : ℕ) → is_punct c ≡ true → c < 128
punct_small c h = grind (arith, nat_tests, h)

pub punct_not_continue : (c : ℕ) → is_punct c ≡ true → is_xid_continue c ≡ false
punct_not_continue c h = let small = punct_small c h in let a = is_xid_continue-ascii c small in grind
    (arith, nat_tests, a, h)

pub punct_not_start : (c : ℕ) → is_punct c ≡ true → is_start c ≡ false
punct_not_start c h = let small = punct_small c h in let a = is_xid_start-ascii c small in grind
    (arith, nat_tests, a, h)

blank_small : (c : ℕ) → (c == 32 || c == 10) ≡ true → c < 128
blank_small c h = grind (arith, nat_tests, h)

blank_not_continue : (c : ℕ) → (c == 32 || c == 10) ≡ true → is_xid_continue c ≡ false
blank_not_continue c h = let a = is_xid_continue-ascii c (blank_small c h) in grind (arith, nat_tests, a, h)

-- ---- a gap

spaces : (c : ℕ) → (c == 32) ≡ false → (c == 9) ≡ false → (c == 10) ≡ false → (c == 13) ≡ false → (c == 11) ≡ false
    → (c == 12) ≡ false
    → (c == 133) ≡ false → (c == 8206) ≡ false → (c == 8207) ≡ false → (c == 8232) ≡ false → (c == 8233) ≡ false
    → is_space c ≡ false
spaces c a b d e f g i j k l m = grind (arith, nat_tests, a, b, d, e, f, g, i, j, k, l, m)

pub gap_ends_word : (cs : List ℕ) → begins_gap cs ≡ true → ends_word cs ≡ true
gap_ends_word [] h = refl
gap_ends_word (c ∷ cs) h = let b = blank_not_continue c h in grind (arith, nat_tests, b, h)

pub gap_ends_literal : (cs : List ℕ) → begins_gap cs ≡ true → ends_literal cs ≡ true
gap_ends_literal [] h = refl
gap_ends_literal (c ∷ cs) h = let b = blank_not_continue c h in grind (arith, nat_tests, b, h)

is_other : (c d : ℕ) → is_start d ≡ false → is_start c ≡ true → (c == d) ≡ false
is_other c d out in_it = grind (arith, nat_tests, out, in_it)

pub space_not_start : (c : ℕ) → is_start c ≡ true → is_space c ≡ false
unfolding unicode_ident
space_not_start c h =
    let a = is_other c 32 refl h in
    let b = is_other c 9 refl h in
    let d = is_other c 10 refl h in
    let e = is_other c 13 refl h in
    let f = is_other c 11 refl h in
    let g = is_other c 12 refl h in
    let i = is_other c 133 refl h in
    let j = is_other c 8206 refl h in
    let k = is_other c 8207 refl h in
    let l = is_other c 8232 refl h in
    let m = is_other c 8233 refl h in
    spaces c a b d e f g i j k l m

pub mark_not_start : (c : ℕ) → is_start c ≡ true → (c == 65279) ≡ false
unfolding unicode_ident
mark_not_start c h = is_other c 65279 refl h

-- what is no letter
pub quote_not_start : is_start 39 ≡ false
unfolding unicode_ident
quote_not_start = refl

pub r_is_start : is_start 114 ≡ true
unfolding unicode_ident
r_is_start = refl

pub is_not : (c d : ℕ) → is_start d ≡ false → is_start c ≡ true → (c == d) ≡ false
is_not c d out in_it = is_other c d out in_it

pub start_not_slash : (c : ℕ) → is_start c ≡ true → (c == 47) ≡ false
unfolding unicode_ident
start_not_slash c h = is_other c 47 refl h

pub start_not_hash : (c : ℕ) → is_start c ≡ true → (c == 35) ≡ false
unfolding unicode_ident
start_not_hash c h = is_other c 35 refl h

pub start_not_dollar : is_start 36 ≡ false
unfolding unicode_ident
start_not_dollar = refl

digit_small : (c : ℕ) → is_ascii_digit c ≡ true → c < 128
digit_small c h = grind (arith, nat_tests, h)

digit_of_start : (c : ℕ) (b : Bool) → is_ascii_digit c ≡ b → is_start c ≡ true → is_ascii_digit c ≡ false
digit_of_start c false e h = e
digit_of_start c true e h = let a = is_xid_start-ascii c (digit_small c e) in grind (arith, nat_tests, a, e, h)

pub start_not_digit : (c : ℕ) → is_start c ≡ true → is_ascii_digit c ≡ false
start_not_digit c h = digit_of_start c (is_ascii_digit c) refl h

-- what goes on with a word is no quote and no `#`
pub continue_not_reserved : (c : ℕ) → is_xid_continue c ≡ true → ((c == 35) || ((c == 34) || (c == 39))) ≡ false
continue_not_reserved c h =
    let a : is_xid_continue 35 ≡ false = is_xid_continue-ascii 35 (omega arith) in
    let b : is_xid_continue 34 ≡ false = is_xid_continue-ascii 34 (omega arith) in
    let d : is_xid_continue 39 ≡ false = is_xid_continue-ascii 39 (omega arith) in
    grind (arith, nat_tests, a, b, d, h)

pub r_continues : is_xid_continue 114 ≡ true
r_continues = is_xid_continue-ascii 114 (omega arith)

pub not_r : (c : ℕ) → is_xid_continue c ≡ false → (c == 114) ≡ false
not_r c h = let a = r_continues in grind (arith, nat_tests, a, h)

pub quotes_not_start : is_start 34 ≡ false
unfolding unicode_ident
quotes_not_start = refl
