-- The words of a line, one after another.
use Rattle.std.proofs.Common.{◌≡◌, ℕ, suc, ◌-◌, ◌<◌, List, [], ◌∷◌, ◌++◌, map, Option, None, Some, option_map, Ok, Err}
use Rattle.std.proofs.Common.{refl, sym, ap, ◌∙◌, arith, append-nil}
use Rattle.std.specs.Str.{trim_start}
use Rattle.mbe_grammar.specs.declared.peg.peg_error.PegLocation.{PegLocation}
use Rattle.mbe_grammar.specs.declared.peg.peg_error.PegErrorKind.{PegErrorKind}
use Rattle.mbe_grammar.specs.declared.peg.peg_token.PegToken.{PegToken}
use Rattle.mbe_grammar.specs.Peg.Views.{plain_reason, plain_token, plain_word}
use Rattle.mbe_grammar.specs.Peg.Tokens.{TokenList, TokenResult, location_of, token_at, token_and_more, tokenize_from}

map-push : {A B : Type 0} (f : A → B) (xs : List A) (x : A) (ys : List B)
    → map f (xs ++ x ∷ []) ++ ys ≡ map f xs ++ (f x ∷ ys)
map-push f [] x ys = refl
map-push f (y ∷ xs) x ys = ap (λ l. f y ∷ l) (map-push f xs x ys)

one_more : (n : ℕ) → 0 < n → n ≡ suc (n - 1)
one_more n h = omega (arith, h)

abbrev pub Placed : Type 0
Placed = List (PegLocation × PegToken)

-- some words, and more after them
abbrev pub after : Placed → TokenList → TokenList
after items more = record more { words = map plain_word items ++ more.words }

-- no words, which end at a place
abbrev pub none_at : PegLocation → Option PegErrorKind → TokenList
none_at location wrong = record { words = []; end = location; wrong = wrong }

-- the rest of a line, of which at most so many words are read
module _ (n number : ℕ) (line rest : List ℕ) where
  abbrev location : PegLocation
  location = location_of number line rest

  abbrev more : List ℕ → TokenList
  more = tokenize_from (n - 1) number line

  words_suc : tokenize_from (suc n) number line rest
      ≡ token_and_more location (token_at rest) (tokenize_from n number line)
  unfolding tokenize_from
  words_suc = refl

  words_zero : tokenize_from 0 number line rest ≡ none_at location None
  unfolding tokenize_from
  words_zero = refl

words_left : (n number : ℕ) (line rest : List ℕ) (start : TokenResult) → 0 < n → start ≡ token_at rest
    → tokenize_from n number line rest ≡ token_and_more (location n number line rest) start (more n number line rest)
words_left n number line rest start h e =
    ap (λ k. tokenize_from k number line rest) (one_more n h)
    ∙ (words_suc (n - 1) number line rest
    ∙ ap (λ s. token_and_more (location n number line rest) s (more n number line rest)) (sym e))

module _ (items : Placed) (n number : ℕ) (line rest : List ℕ) (all : TokenList)
    (whole : after items (tokenize_from n number line rest) ≡ all) where
  -- a turn that finds a word
  pub word_more : (new : Placed) (left : List ℕ) (token : PegToken) (start : TokenResult) → 0 < n → start
      ≡ token_at rest
      → start ≡ Ok (Some (plain_token token, left)) → new ≡ items ++ (location_of number line rest, token) ∷ []
      → after new (tokenize_from (n - 1) number line (trim_start left)) ≡ all
  word_more new left token start h s found pushed =
      let others = more n number line rest (trim_start left) in
      let one = words_left n number line rest start h s
      ∙ ap (λ (o : TokenResult). token_and_more (location n number line rest) o (more n number line rest)) found in
      let put : List (PegLocation × PegToken) → TokenList = λ ws. record others { words = ws } in
      ap (λ (ws : Placed). after ws others) pushed
      ∙ (ap put (map-push plain_word items (location n number line rest, token) others.words)
      ∙ (ap (after items) (sym one) ∙ whole))

  -- no word more
  words_end : (wrong : Option PegErrorKind) → tokenize_from n number line rest
      ≡ none_at (location n number line rest) wrong
      → after items (none_at (location n number line rest) wrong) ≡ all
  words_end wrong e = ap (after items) (sym e) ∙ whole

  -- since so many are read, since there is none, or since what is there is no word
  pub end_of_line : n ≡ 0 → after items (none_at (location_of number line rest) None) ≡ all
  end_of_line e = words_end None (ap (λ k. tokenize_from k number line rest) e ∙ words_zero n number line rest)

  pub end_of_words : (start : TokenResult) → 0 < n → start ≡ token_at rest → start ≡ Ok None
      → after items (none_at (location_of number line rest) None) ≡ all
  end_of_words start h s e =
      words_end None
      (words_left n number line rest start h s
      ∙ ap (λ (o : TokenResult). token_and_more (location n number line rest) o (more n number line rest)) e)

  pub end_of_right : (start : TokenResult) (reason : PegErrorKind) → 0 < n → start ≡ token_at rest → start ≡ Err reason
      → after items (none_at (location_of number line rest) (Some reason)) ≡ all
  end_of_right start reason h s e =
      words_end (Some reason)
      (words_left n number line rest start h s
      ∙ ap (λ (o : TokenResult). token_and_more (location n number line rest) o (more n number line rest)) e)

-- what the words are where a line ends
pub ended : (items : Placed) (end location : PegLocation) (wrong : Option PegErrorKind)
    (result_model : Option PegErrorKind) (all : TokenList)
    → end ≡ location → option_map plain_reason wrong ≡ result_model → after items (none_at location result_model) ≡ all
    → record { words = map plain_word items; end = end; wrong = option_map plain_reason wrong } ≡ all
ended items end location wrong result_model all e w whole =
    let put : List (PegLocation × PegToken) → TokenList =
    λ ws. record { words = ws; end = location; wrong = result_model } in
    rw (e, w) (ap put (sym (append-nil (map plain_word items))) ∙ whole)
