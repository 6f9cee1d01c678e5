-- The words of a text, line by line.
use Rattle.std.proofs.Common.{◌≡◌, ℕ, ◌+◌, ◌<◌, ◌≤◌, true, false, List, [], ◌∷◌, length, drop, get_or, Option, None}
use Rattle.std.proofs.Common.{Some, is_some, option_map, refl, sym, ap, ◌∙◌, append_assoc, append-nil}
use Rattle.std.proofs.lemmas.List.{at_drop_more, at_drop_all}
use Rattle.mbe_grammar.specs.declared.peg.peg_error.PegLocation.{PegLocation}
use Rattle.mbe_grammar.specs.declared.peg.peg_error.PegErrorKind.{PegErrorKind}
use Rattle.mbe_grammar.specs.declared.peg.peg_token.PegToken.{PegToken}
use Rattle.mbe_grammar.specs.Peg.Views.{plain_reason}
use Rattle.mbe_grammar.specs.Peg.Tokens.{TokenList, and_more, followed_by, number_after, tokenize_line, tokenize_lines}

words_of_lines_cons : (number : ℕ) (end : PegLocation) (line : List ℕ) (more : List (List ℕ))
    → tokenize_lines number end (line ∷ more)
    ≡ followed_by (tokenize_line number line) (tokenize_line number line).wrong
    (tokenize_lines (number_after number) (tokenize_line number line).end more)
unfolding tokenize_lines
words_of_lines_cons number end line more = refl

words_of_lines_nil : (number : ℕ) (end : PegLocation)
    → tokenize_lines number end [] ≡ record { words = []; end = end; wrong = None }
unfolding tokenize_lines
words_of_lines_nil number end = refl

-- the words of the lines from one on
turn : (number : ℕ) (end : PegLocation) (ls : List (List ℕ)) (n : ℕ) (line : List ℕ)
    → (n < length ls) × (line ≡ get_or ls n line)
    → tokenize_lines number end (drop n ls)
    ≡ followed_by (tokenize_line number line) (tokenize_line number line).wrong
    (tokenize_lines (number_after number) (tokenize_line number line).end (drop (n + 1) ls))
turn number end ls n line h =
    at_drop_more (tokenize_lines number end) ls n line h.0
    ∙ (ap (λ (l : List ℕ). tokenize_lines number end (l ∷ drop (n + 1) ls)) (sym h.1)
    ∙ words_of_lines_cons number end line (drop (n + 1) ls))

and_more_assoc : (old first more : TokenList) → and_more (and_more old first) more ≡ and_more old (and_more first more)
and_more_assoc old first more =
    ap (λ (ws : List (PegLocation × PegToken)). record more { words = ws })
    (append_assoc old.words first.words more.words)

right : (o : Option PegErrorKind) → is_some o ≡ false → option_map plain_reason o ≡ None
right None e = refl
right (Some reason) e = cc

pub is_right : (o : Option PegErrorKind) → is_some o ≡ false → o ≡ None
is_right None e = refl
is_right (Some reason) e = cc

goes_on_right : (old first more all : TokenList)
    → and_more old (followed_by first first.wrong more) ≡ all → first.wrong ≡ None
    → and_more (and_more old first) more ≡ all
goes_on_right old first more all h e =
    and_more_assoc old first more ∙ (ap (λ (w : Option PegErrorKind). and_more old (followed_by first w more)) (sym e)
    ∙ h)

-- a line that is right
pub lines_go_on : (old new all : TokenList) (wrong : Option PegErrorKind)
    (number : ℕ) (ls : List (List ℕ)) (n : ℕ) (line : List ℕ)
    → (n < length ls) × (line ≡ get_or ls n line) → new ≡ and_more old (tokenize_line number line)
    → new.wrong ≡ option_map plain_reason wrong → is_some wrong ≡ false
    → and_more old (tokenize_lines number old.end (drop n ls)) ≡ all
    → and_more new (tokenize_lines (number_after number) new.end (drop (n + 1) ls)) ≡ all
lines_go_on old new all wrong number ls n line t e w r whole =
    let first = tokenize_line number line in
    ap (λ (x : TokenList). and_more x (tokenize_lines (number_after number) x.end (drop (n + 1) ls))) e
    ∙ goes_on_right old first (tokenize_lines (number_after number) first.end (drop (n + 1) ls)) all
    (ap (and_more old) (sym (turn number old.end ls n line t)) ∙ whole)
    (sym (ap (λ (x : TokenList). x.wrong) e) ∙ (w ∙ right wrong r))

stops : (old first more all : TokenList) (wrong : Option PegErrorKind)
    → and_more old (followed_by first first.wrong more) ≡ all
    → first.wrong ≡ option_map plain_reason wrong → is_some wrong ≡ true → and_more old first ≡ all
stops old first more all None h e s = cc
stops old first more all (Some reason) h e s =
    ap (λ (w : Option PegErrorKind). and_more old (followed_by first w more)) (sym e) ∙ h

-- a line that is wrong
pub lines_stop : (old new all : TokenList) (wrong : Option PegErrorKind)
    (number : ℕ) (ls : List (List ℕ)) (n : ℕ) (line : List ℕ)
    → (n < length ls) × (line ≡ get_or ls n line) → new ≡ and_more old (tokenize_line number line)
    → new.wrong ≡ option_map plain_reason wrong → is_some wrong ≡ true
    → and_more old (tokenize_lines number old.end (drop n ls)) ≡ all → new ≡ all
lines_stop old new all wrong number ls n line t e w s whole =
    let first = tokenize_line number line in
    e ∙ stops old first (tokenize_lines (number_after number) first.end (drop (n + 1) ls)) all wrong
    (ap (and_more old) (sym (turn number old.end ls n line t)) ∙ whole)
    (sym (ap (λ (x : TokenList). x.wrong) e) ∙ w) s

nothing_more : (old : TokenList) → old.wrong ≡ None
    → old ≡ and_more old (record { words = []; end = old.end; wrong = None })
nothing_more old r =
    let last : List (PegLocation × PegToken) → Option PegErrorKind → TokenList =
    λ ws w. record { words = ws; end = old.end; wrong = w } in
    ap (last old.words) r ∙ ap (λ (ws : List (PegLocation × PegToken)). last ws None) (sym (append-nil old.words))

-- no line more
pub lines_end : (old all : TokenList) (number : ℕ) (ls : List (List ℕ)) (n : ℕ) → length ls ≤ n → old.wrong ≡ None
    → and_more old (tokenize_lines number old.end (drop n ls)) ≡ all → old ≡ all
lines_end old all number ls n h r whole =
    let last = at_drop_all (tokenize_lines number old.end) ls n h ∙ words_of_lines_nil number old.end in
    nothing_more old r ∙ (ap (and_more old) (sym last) ∙ whole)
