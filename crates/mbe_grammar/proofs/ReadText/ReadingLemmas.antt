-- Nodes that are seen, and words of a list that are read one after another.
use Rattle.std.proofs.Common.{◌≡◌, ℕ, zero, suc, ◌+◌, ◌<◌, ◌≤◌, List, [], ◌∷◌, map, length, drop, get_or, set}
use Rattle.std.proofs.Common.{replicate, Ok, refl, sym, ap, ◌∙◌, subst}
use Rattle.std.proofs.lemmas.List.{at_drop_more, at_drop_all, map-set}
use Rattle.mbe_grammar.specs.declared.tables.node.Node.{Node}
use Rattle.mbe_grammar.specs.declared.peg.peg_error.PegLocation.{PegLocation}
use Rattle.mbe_grammar.specs.declared.peg.peg_error.PegError.{PegError}
use Rattle.mbe_grammar.specs.declared.peg.peg_token.PegToken.{PegToken}
use Rattle.mbe_grammar.specs.Peg.Grammar.{RuleNames, Read, ReaderState, ◌>>=◌, named_by, names_in, read_token, words}
use Rattle.mbe_grammar.specs.Peg.Views.{Faults, plain_node, plain_word}
use Rattle.mbe_grammar.proofs.ReadText.StepLemmas.{faults_on, goes_on}

pub map_replicate : {A B : Type 0} (f : A → B) (n : ℕ) (x : A) → map f (replicate n x) ≡ replicate n (f x)
map_replicate f zero x = refl
map_replicate f (suc n) x = ap (λ l. f x ∷ l) (map_replicate f n x)

-- a node in place of another
pub nodes_set : (nodes : List Node) (i : ℕ) (node : Node)
    → map plain_node (set nodes i node) ≡ set (map plain_node nodes) i (plain_node node)
nodes_set nodes i node = map-set plain_node nodes i node

-- ---- what is read of all words, by what is read of one

abbrev pub TokenList : Type 0
TokenList = List (PegLocation × PegToken)

pub record Reads {S : Type 0} (all : TokenList → S → Read S) (one : PegLocation × PegToken → S → Read S) : Type 0 where
  pub nothing : (s : S) → all [] s ≡ Ok s
  pub first : (w : PegLocation × PegToken) (more : TokenList) (s : S) → all (w ∷ more) s ≡ one w s >>= all more

-- of the words from the one of number `n` on
module _ {S : Type 0} (all : TokenList → S → Read S) (one : PegLocation × PegToken → S → Read S) (reads : Reads all one)
    (ws : TokenList) (n : ℕ) (s : S) (whole : Read S) (is_whole : all (map plain_word (drop n ws)) s ≡ whole) where
  abbrev first : PegLocation × PegToken → Read S
  first d = one (plain_word (get_or ws n d)) s

  abbrev others : S → Read S
  others = all (map plain_word (drop (n + 1) ws))

  turn : (d : PegLocation × PegToken) → n < length ws → first d >>= others ≡ whole
  turn d h =
      sym (reads.first (plain_word (get_or ws n d)) (map plain_word (drop (n + 1) ws)) s)
      ∙ (sym (at_drop_more (λ (l : TokenList). all (map plain_word l) s) ws n d h) ∙ is_whole)

  pub fault_of_one : (d : PegLocation × PegToken) (fault : PegError) → n < length ws
      → Faults fault (one (plain_word (get_or ws n d)) s) → Faults fault whole
  fault_of_one d fault h f =
      subst (λ (o : Read S). Faults fault o) (turn d h) (faults_on fault (first d) others f)

  pub after_one : (d : PegLocation × PegToken) (new : S) → n < length ws → one (plain_word (get_or ws n d)) s ≡ Ok new
      → all (map plain_word (drop (n + 1) ws)) new ≡ whole
  after_one d new h e = sym (goes_on (first d) others new e) ∙ turn d h

  pub after_all : length ws ≤ n → whole ≡ Ok s
  after_all h = sym is_whole ∙ (at_drop_all (λ (l : TokenList). all (map plain_word l) s) ws n h ∙ reads.nothing s)

-- of names

names_nil : (names : RuleNames) → names_in [] names ≡ Ok names
unfolding names_in
names_nil names = refl

names_cons : (w : PegLocation × PegToken) (more : TokenList) (names : RuleNames)
    → names_in (w ∷ more) names ≡ named_by w.0 w.1 names >>= names_in more
unfolding names_in
names_cons w more names = refl

pub names_read : Reads names_in (λ w. named_by w.0 w.1)
names_read = record { nothing = names_nil; first = names_cons }

-- of rules

words_nil : (r : ReaderState) → words [] r ≡ Ok r
unfolding words
words_nil r = refl

words_cons : (w : PegLocation × PegToken) (more : TokenList) (r : ReaderState) → words (w ∷ more) r
    ≡ read_token w.0 w.1 r >>= words more
unfolding words
words_cons w more r = refl

pub words_read : Reads words (λ w. read_token w.0 w.1)
words_read = record { nothing = words_nil; first = words_cons }
