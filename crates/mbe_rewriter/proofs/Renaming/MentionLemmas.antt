-- Names that a text mentions: what is at its front, and its runs, one after another.
use Rattle.std.proofs.Common.{◌≡◌, ℕ, suc, ◌<◌, ◌≤◌, Bool, true, false, cond, not, List, []}
use Rattle.std.proofs.Common.{◌∷◌, ◌++◌, length, take, drop, get_or, Option, Some, None, option_map, MatchOption, Bor}
use Rattle.std.proofs.Common.{refl, sym, ap, ◌∙◌, inl, inr, subst, arith, ltb, append_assoc, append-nil}
use Rattle.std.proofs.Common.{length-drop}
use Rattle.std.specs.Prelude.{◌==◌, if◌then◌else◌}
use Rattle.std.specs.Prelude.{unwrap_or}
use Rattle.std.specs.List.{position}
use Rattle.std.specs.Str.{IsUtf8, IsCharBoundary}
use Rattle.std.specs.Str.Pattern.{FindsTextPrefix, StripsPrefix}
use Rattle.std.proofs.Math.Nat.{eq-or-lt_of_le}
use Rattle.std.proofs.lemmas.Bool.Decides.{nat_tests}
use Rattle.std.proofs.lemmas.List.Sums.{prefix_len-le-length, prefix_len_stops}
use Rattle.std.proofs.lemmas.Str.{IsCharBoundary-end, IsCharBoundary-before_ascii, IsCharBoundary-after_ascii}
use Rattle.mbe_rewriter.specs.Hygiene.FormatNames.{after_prefix, is_name_byte, run_len, first_byte, found_at}
use Rattle.mbe_rewriter.specs.Hygiene.FormatNames.{next_before, names_from}
use Rattle.mbe_rewriter.proofs.Renaming.SameLemmas.{true_or_false}

-- ---- a prefix

same : (c : ℕ) → (c == c) ≡ true
same c = grind (arith, nat_tests)

prefix_at : (n rest : List ℕ) → after_prefix n (n ++ rest) ≡ Some rest
prefix_at [] rest = refl
prefix_at (c ∷ cs) rest = rw (same c) (prefix_at cs rest)

same_byte : (c d : ℕ) → (d == c) ≡ true → d ≡ c
same_byte c d e = grind (arith, nat_tests)

prefix_of : (n s rest : List ℕ) → after_prefix n s ≡ Some rest → s ≡ n ++ rest
prefix_of [] s rest e = cc
prefix_of (c ∷ cs) [] rest e = cc
prefix_of (c ∷ cs) (d ∷ ds) rest e = elim (true_or_false (d == c)) [
  | inl h ↦ let more : ds ≡ cs ++ rest = prefix_of cs ds rest (rw h at e) in let one = same_byte c d h in cc
  | inr h ↦ let none = rw h at e in cc
]

none_of : (o : Option (List ℕ)) → ((x : List ℕ) → o ≡ Some x → ⊥) → None ≡ o
none_of None h = refl
none_of (Some x) h = absurd (h x refl)

pub after_prefix_is : (n s : List ℕ) (r : Option (Bor (List ℕ)))
    → MatchOption r (FindsTextPrefix n s None) (λ x. StripsPrefix (FindsTextPrefix n) s x.now)
    → option_map (λ t. t.now) r ≡ after_prefix n s
after_prefix_is n s None h = none_of (after_prefix n s) (λ x e. h x (prefix_of n s x e))
after_prefix_is n s (Some x) h =
    let parts : s ≡ n ++ x.now = h.1.1 ∙ ap (λ t. n ++ t) (sym h.2) in
    sym (ap (after_prefix n) parts ∙ prefix_at n x.now)

-- ---- where a run ends

found_or_end : (k n : ℕ) → k ≤ n → unwrap_or (cond (ltb k n) (Some k) None) n ≡ k
found_or_end k n h = grind (arith, nat_tests)

-- the place where a run ends
pub run_end : (text : List ℕ) → unwrap_or (position (λ b. not (is_name_byte b)) text) (length text) ≡ run_len text
run_end text =
    found_or_end (run_len text) (length text) (prefix_len-le-length (λ b. not (not (is_name_byte b))) text)

stopped : (b : Bool) → not (not b) ≡ false → b ≡ false
stopped true h = h
stopped false h = refl

ascii : (c : ℕ) → is_name_byte c ≡ false → c < 128
ascii c h = grind (arith, nat_tests)

pub run_boundary : (text : List ℕ) → IsCharBoundary text (run_len text)
run_boundary text = elim (eq-or-lt_of_le (prefix_len-le-length (λ b. not (not (is_name_byte b))) text)) [
  | inl e ↦ subst (IsCharBoundary text) (sym e) (IsCharBoundary-end text)
  | inr l ↦ IsCharBoundary-before_ascii text (run_len text) l
      (ascii (get_or text (run_len text) 0) (stopped (is_name_byte (get_or text (run_len text) 0))
      (prefix_len_stops (λ b. not (not (is_name_byte b))) text 0 l)))
]

pub byte_boundary : (c : ℕ) (text more : List ℕ) → IsUtf8 text → text ≡ c ∷ more → is_name_byte c ≡ false
    → IsCharBoundary text 1
byte_boundary c text more u e h =
    let some : 0 < length text = rw e (omega arith) in
    let first : get_or text 0 0 ≡ c = ap (λ t. get_or t 0 0) e in
    IsCharBoundary-after_ascii text 0 u some (subst (λ b. b < 128) (sym first) (ascii c h))

-- ---- one run after another

one_more : (c : ℕ) (cs : List ℕ) → is_name_byte c ≡ true → run_len (c ∷ cs) ≡ suc (run_len cs)
one_more c cs h = rw h (omega arith)

none_here : (c : ℕ) (cs : List ℕ) → is_name_byte c ≡ false → run_len (c ∷ cs) ≡ 0
none_here c cs h = rw h refl

run_taken : (found : List (List ℕ)) (before : ℕ) (run text : List ℕ)
    → names_from found before run text
    ≡ names_from found before (run ++ take (run_len text) text) (drop (run_len text) text)
run_taken found before run [] = ap (λ r. names_from found before r []) (sym (append-nil run))
run_taken found before run (c ∷ cs) = elim (true_or_false (is_name_byte c)) [
  | inl h ↦ ap (λ b. if b then names_from found before (run ++ (c ∷ [])) cs
      else names_from (found_at found before run (c ∷ cs)) (next_before run c) [] cs) h
      ∙ run_taken found before (run ++ (c ∷ [])) cs
      ∙ ap (λ r. names_from found before r (drop (run_len cs) cs)) (append_assoc run (c ∷ []) (take (run_len cs) cs))
      ∙ ap (λ n. names_from found before (run ++ take n (c ∷ cs)) (drop n (c ∷ cs))) (sym (one_more c cs h))
  | inr h ↦ ap (λ r. names_from found before r (c ∷ cs)) (sym (append-nil run))
      ∙ ap (λ n. names_from found before (run ++ take n (c ∷ cs)) (drop n (c ∷ cs))) (sym (none_here c cs h))
]

parts_of : (a c : ℕ) (b d : List ℕ) → ◌≡◌ {A = Option (ℕ × List ℕ)} (Some (a, b)) (Some (c, d)) → (a ≡ c) × (b ≡ d)
parts_of a c b d e =
    let p : ◌≡◌ {A = ℕ × List ℕ} (a, b) (c, d) = cc in
    (ap (λ (x : ℕ × List ℕ). x.0) p, ap (λ (x : ℕ × List ℕ). x.1) p)

goes_past : (found : List (List ℕ)) (before : ℕ) (run text : List ℕ) (byte : ℕ) (more : List ℕ)
    → Some (byte, more) ≡ first_byte text
    → names_from found before run text ≡ names_from (found_at found before run text) (next_before run byte) [] more
goes_past found before run [] byte more e = cc
goes_past found before run (c ∷ cs) byte more e = elim (true_or_false (is_name_byte c)) [
  | inl h ↦ let none = rw h at e in cc
  | inr h ↦ let parts = parts_of byte c more cs (rw h at e) in
      rw h (ap (λ b. names_from (found_at found before run (c ∷ cs)) (next_before run b) [] cs) (sym parts.0)
      ∙ ap (names_from (found_at found before run (c ∷ cs)) (next_before run byte) []) (sym parts.1))
]

pub names_on : (found next : List (List ℕ)) (before byte : ℕ) (rest run after more : List ℕ)
    → run ≡ take (run_len rest) rest → after ≡ drop (run_len rest) rest → Some (byte, more) ≡ first_byte after
    → next ≡ found_at found before run after
    → names_from next (next_before run byte) [] more ≡ names_from found before [] rest
names_on found next before byte rest run after more r a e n =
    ap (λ f. names_from f (next_before run byte) [] more) n
    ∙ sym (goes_past found before run after byte more e)
    ∙ ap (λ x. names_from found before x after) r
    ∙ ap (names_from found before (take (run_len rest) rest)) a
    ∙ sym (run_taken found before [] rest)

stops_at : (text : List ℕ) → None ≡ first_byte (drop (run_len text) text) → drop (run_len text) text ≡ []
stops_at [] e = refl
stops_at (c ∷ cs) e = elim (true_or_false (is_name_byte c)) [
  | inl h ↦ rw (one_more c cs h) (stops_at cs (rw (one_more c cs h) at e))
  | inr h ↦ let one = rw (none_here c cs h) at e in let two = rw h at one in cc
]

pub names_end : (found next : List (List ℕ)) (before : ℕ) (rest run after : List ℕ)
    → run ≡ take (run_len rest) rest → after ≡ drop (run_len rest) rest → None ≡ first_byte after
    → next ≡ found_at found before run after
    → next ≡ names_from found before [] rest
names_end found next before rest run after r a e n =
    let nothing : drop (run_len rest) rest ≡ [] = stops_at rest (e ∙ ap first_byte a) in
    n ∙ ap (found_at found before run) (a ∙ nothing) ∙ ap (λ x. found_at found before x []) r
    ∙ ap (names_from found before (take (run_len rest) rest)) (sym nothing)
    ∙ sym (run_taken found before [] rest)

-- the bytes that `more` has are fewer
pub fewer : (rest after more : List ℕ) (byte : ℕ) → after ≡ drop (run_len rest) rest
    → Some (byte, more) ≡ first_byte after → length more < length rest
fewer rest [] more byte a e = cc
fewer rest (c ∷ cs) more byte a e = elim (true_or_false (is_name_byte c)) [
  | inl h ↦ let none = rw h at e in cc
  | inr h ↦ let tail : more ≡ cs = (parts_of byte c more cs (rw h at e)).1 in
      let lens : length (c ∷ cs) ≡ length (drop (run_len rest) rest) = ap (λ t. length t) a in
      let dropped = length-drop (run_len rest) rest in
      rw tail (omega (arith, lens, dropped))
]
