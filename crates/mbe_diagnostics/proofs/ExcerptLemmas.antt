-- An excerpt, character by character.
use Rattle.std.proofs.Common.{◌≡◌, ◌++◌, ◌∙◌, ℕ, ◌+◌, ◌-◌, ◌<◌, ◌≤◌, Bool, true, false, nat_lt, List, drop, length}
use Rattle.std.proofs.Common.{get_or, sym, ap, arith}
use Rattle.std.specs.Prelude.{◌==◌, if◌then◌else◌}
use Rattle.std.specs.Char.{encode_utf8}
use Rattle.std.proofs.lemmas.Bool.Decides.{nat_tests}
use Rattle.std.proofs.lemmas.List.{at_drop_more}
use Rattle.mbe_diagnostics.specs.Excerpt.{columns, in_line, is_indent, excerpt_in}

less : (a b : ℕ) → a < b → nat_lt a b ≡ true
less a b h = grind (arith, nat_tests)

not_less : (a b : ℕ) → b ≤ a → nat_lt a b ≡ false
not_less a b h = grind (arith, nat_tests)

module _ (room : ℕ) (at_start : Bool) (cs : List ℕ) (n c : ℕ) (here : (n < length cs) × (c ≡ get_or cs n c)) where
  -- what a character comes to that isn't passed over
  abbrev shown : Bool → ℕ → List ℕ
  shown full x = if full then encode_utf8 8230 else in_line x
      ++ excerpt_in (room - columns x) (x == 10) (drop (n + 1) cs)

  opened : excerpt_in room at_start (drop n cs)
      ≡ (if is_indent at_start c then excerpt_in room at_start (drop (n + 1) cs) else shown (nat_lt room (columns c)) c)
  opened =
      at_drop_more (excerpt_in room at_start) cs n c here.0
      ∙ ap (λ x. if is_indent at_start x then excerpt_in room at_start (drop (n + 1) cs) else shown
      (nat_lt room (columns x)) x)
      (sym here.1)

  pub passed_over : is_indent at_start c ≡ true
      → excerpt_in room at_start (drop n cs) ≡ excerpt_in room at_start (drop (n + 1) cs)
  passed_over t = opened
      ∙ ap (λ b. if b then excerpt_in room at_start (drop (n + 1) cs) else shown (nat_lt room (columns c)) c) t

  module _ (stays : is_indent at_start c ≡ false) where
    looked : excerpt_in room at_start (drop n cs) ≡ shown (nat_lt room (columns c)) c
    looked = opened
        ∙ ap (λ b. if b then excerpt_in room at_start (drop (n + 1) cs) else shown (nat_lt room (columns c)) c) stays

    pub no_room : room < columns c → excerpt_in room at_start (drop n cs) ≡ encode_utf8 8230
    no_room l = looked ∙ ap (λ b. shown b c) (less room (columns c) l)

    pub one_more : columns c ≤ room
        → excerpt_in room at_start (drop n cs) ≡ in_line c ++ excerpt_in (room - columns c) (c == 10) (drop (n + 1) cs)
    one_more l = looked ∙ ap (λ b. shown b c) (not_less room (columns c) l)
