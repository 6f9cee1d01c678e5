-- What the first tree decides: which rules don't stand there.
use Rattle.std.proofs.Common.{◌≡◌, ℕ, Bool, true, false, not, List, [], ◌∷◌, take, Option, Some, None, Ok, Err, ◌⊎◌}
use Rattle.std.proofs.Common.{inl, inr, refl, sym}
use Rattle.std.specs.Prelude.{◌==◌, ◌||◌, if◌then◌else◌}
use Rattle.std.specs.List.{list_any, list_all}
use Rattle.std.specs.Str.{bytes_eq}
use Rattle.std.proofs.lemmas.Bool.{false≢true, eqb-true, or_cases, and_parts, not-true, or_left, or_right}
use Rattle.std.proofs.lemmas.Slice.Eq.{bytes_eq-Decides}
use Rattle.mbe_tt.specs.Trees.Leaf.{punct, literal, ident, is_text}
use Rattle.mbe_tt.specs.Trees.Tree.{Forest, none, leaf, group, Tree, Leaf_tree, Group_tree}
use Rattle.mbe_tt.specs.Trees.Glue.{glue, chars_of, if_joint, joined}
use Rattle.mbe_tt.specs.declared.tt.Punct.{Punct}
use Rattle.mbe_tt.specs.declared.tt.IdentIsRaw.{IdentIsRaw}
use Rattle.mbe_tt.specs.declared.tt.IdentIsRaw.TheVariants.{No, Yes}
use Rattle.mbe_tt.specs.declared.tt.DelimiterKind.{DelimiterKind}
use Rattle.mbe_grammar.specs.declared.tables.parse_result.ParseFailure.TheVariants.{NoMatch, Fault}
use Rattle.mbe_grammar.specs.Rule.{may_begin}
use Rattle.mbe_grammar.specs.Tables.Terminals.{ParseResult, or_no_match, after_one, after_operator}
use Rattle.mbe_grammar.specs.Tables.Rule.{◌>>=◌, or_else}
use Rattle.mbe_grammar.specs.SingleTrees.{is_name}
use Rattle.mbe_grammar.specs.Tables.SingleTrees.{is_word, is_one_of, is_literal, is_punct, is_group}

-- the first tree passes the test
abbrev pub Begins : (Tree → Bool) → Forest → Type 0
Begins p none = ⊥
Begins p (leaf l rest) = p (Leaf_tree l) ≡ true
Begins p (group d inside rest) = p (Group_tree d inside) ≡ true

-- what passes the one fails the other
abbrev pub Apart : (Tree → Bool) → (Tree → Bool) → Type 0
Apart p q = (t : Tree) → p t ≡ true → q t ≡ false

if_false : (b : Bool) (x : Option Forest) → b ≡ false → (if b then x else None) ≡ None
if_false b x e = rw e

pub one_absent : (p q : Tree → Bool) → Apart p q → (f : Forest) → Begins p f → after_one q f ≡ None
one_absent p q apart none h = absurd h
one_absent p q apart (leaf l rest) h = if_false _ (Some rest) (apart (Leaf_tree l) h)
one_absent p q apart (group d inside rest) h = if_false _ (Some rest) (apart (Group_tree d inside) h)

-- puncts that are taken together begin with the first
longest_other : (b c : Bool) (p : Punct) (ps : List Punct) (char : ℕ) (chars : List ℕ) → (p.char == char) ≡ false
    → bytes_eq (chars_of (if b then p ∷ ps else if c then take 2 (p ∷ ps) else take 1 (p ∷ ps))) (char ∷ chars) ≡ false
longest_other true c p ps char chars e = rw e
longest_other false true p ps char chars e = rw e
longest_other false false p ps char chars e = rw e

glue_other : (p : Punct) (rest : Forest) (char : ℕ) (chars : List ℕ) → (p.char == char) ≡ false
    → list_any (bytes_eq (chars_of (glue (leaf (punct p) rest)))) ((char ∷ chars) ∷ []) ≡ false
glue_other p rest char chars e = rw (longest_other _ _ p (if_joint p.spacing (joined 2 rest)) char chars e)

pub puncts_absent : (p : Tree → Bool) (char : ℕ) (chars : List ℕ) → Apart p (is_punct char) → (f : Forest) → Begins p f
    → after_operator ((char ∷ chars) ∷ []) f ≡ None
puncts_absent p char chars apart none h = absurd h
puncts_absent p char chars apart (group d inside rest) h = refl
puncts_absent p char chars apart (leaf (literal x) rest) h = refl
puncts_absent p char chars apart (leaf (ident i) rest) h = refl
puncts_absent p char chars apart (leaf (punct q) rest) h =
    if_false _ _ (glue_other q rest char chars (apart (Leaf_tree (punct q)) h))

pub absent_unless : (chars : List ℕ) (f : Forest) → may_begin chars f ≡ false → after_operator (chars ∷ []) f ≡ None
absent_unless [] f e = absurd (false≢true (sym e))
absent_unless (char ∷ chars) none e = refl
absent_unless (char ∷ chars) (group d inside rest) e = refl
absent_unless (char ∷ chars) (leaf (literal x) rest) e = refl
absent_unless (char ∷ chars) (leaf (ident i) rest) e = refl
absent_unless (char ∷ chars) (leaf (punct p) rest) e = if_false _ _ (glue_other p rest char chars e)

-- ---- words

-- none of the texts is one of the others
abbrev pub are_apart : List (List ℕ) → List (List ℕ) → Bool
are_apart texts others = list_all (λ t. not (list_any (is_text t) others)) texts

other_text : (sym : List ℕ) (texts others : List (List ℕ)) → are_apart texts others ≡ true
    → list_any (is_text sym) texts ≡ true → list_any (is_text sym) others ≡ false
other_text sym [] others apart h = cc
other_text sym (t ∷ ts) others apart h =
    let (here, later) = and_parts (not (list_any (is_text t) others)) (are_apart ts others) apart in
    elim (or_cases (is_text sym t) (list_any (is_text sym) ts) h) [
      | inl e ↦ rw ((bytes_eq-Decides sym t).0 e) (not-true (list_any (is_text t) others) here)
      | inr e ↦ other_text sym ts others later e
    ]

other_word : (texts others : List (List ℕ)) (raw : IdentIsRaw) (sym : List ℕ) → are_apart texts others ≡ true
    → is_word texts raw sym ≡ true → is_word others raw sym ≡ false
other_word texts others No sym apart h = other_text sym texts others apart h
other_word texts others Yes sym apart h = refl

pub words_apart : (texts others : List (List ℕ)) → are_apart texts others ≡ true
    → Apart (is_one_of texts) (is_one_of others)
words_apart texts others apart (Leaf_tree (ident i)) h = other_word texts others i.is_raw i.sym apart h
words_apart texts others apart (Leaf_tree (punct p)) h = refl
words_apart texts others apart (Leaf_tree (literal x)) h = refl
words_apart texts others apart (Group_tree d inside) h = refl

pub word_is_no_literal : (texts : List (List ℕ)) → Apart (is_one_of texts) is_literal
word_is_no_literal texts (Leaf_tree (ident i)) h = refl
word_is_no_literal texts (Leaf_tree (punct p)) h = refl
word_is_no_literal texts (Leaf_tree (literal x)) h = cc
word_is_no_literal texts (Group_tree d inside) h = refl

pub word_is_no_punct : (texts : List (List ℕ)) (char : ℕ) → Apart (is_one_of texts) (is_punct char)
word_is_no_punct texts char (Leaf_tree (ident i)) h = refl
word_is_no_punct texts char (Leaf_tree (punct p)) h = cc
word_is_no_punct texts char (Leaf_tree (literal x)) h = refl
word_is_no_punct texts char (Group_tree d inside) h = refl

pub word_is_no_group : (texts : List (List ℕ)) (kinds : List DelimiterKind) → Apart (is_one_of texts) (is_group kinds)
word_is_no_group texts kinds (Leaf_tree x) h = refl
word_is_no_group texts kinds (Group_tree d inside) h = cc

-- ---- signs

pub signs_apart : (char other : ℕ) → (char == other) ≡ false → Apart (is_punct char) (is_punct other)
signs_apart char other apart (Leaf_tree (punct p)) h = rw (eqb-true p.char char h) apart
signs_apart char other apart (Leaf_tree (ident i)) h = refl
signs_apart char other apart (Leaf_tree (literal x)) h = refl
signs_apart char other apart (Group_tree d inside) h = refl

pub sign_is_no_word : (char : ℕ) (texts : List (List ℕ)) → Apart (is_punct char) (is_one_of texts)
sign_is_no_word char texts (Leaf_tree (punct p)) h = refl
sign_is_no_word char texts (Leaf_tree (ident i)) h = cc
sign_is_no_word char texts (Leaf_tree (literal x)) h = refl
sign_is_no_word char texts (Group_tree d inside) h = refl

pub sign_is_no_name : (char : ℕ) → Apart (is_punct char) is_name
sign_is_no_name char (Leaf_tree (punct p)) h = refl
sign_is_no_name char (Leaf_tree (ident i)) h = cc
sign_is_no_name char (Leaf_tree (literal x)) h = refl
sign_is_no_name char (Group_tree d inside) h = refl

pub sign_is_no_literal : (char : ℕ) → Apart (is_punct char) is_literal
sign_is_no_literal char (Leaf_tree (punct p)) h = refl
sign_is_no_literal char (Leaf_tree (ident i)) h = refl
sign_is_no_literal char (Leaf_tree (literal x)) h = cc
sign_is_no_literal char (Group_tree d inside) h = refl

pub sign_is_no_group : (char : ℕ) (kinds : List DelimiterKind) → Apart (is_punct char) (is_group kinds)
sign_is_no_group char kinds (Leaf_tree x) h = refl
sign_is_no_group char kinds (Group_tree d inside) h = cc

-- ---- one of two tests

abbrev pub either_of : (Tree → Bool) → (Tree → Bool) → Tree → Bool
either_of p q t = p t || q t

pub either_apart : (p q r : Tree → Bool) → Apart p r → Apart q r → Apart (either_of p q) r
either_apart p q r a b t h = elim (or_cases (p t) (q t) h) [ inl e ↦ a t e | inr e ↦ b t e ]

-- ---- what comes first where a rule fits

first_placed : (a : Bool) (rest g : Forest) → or_no_match (if a then Some rest else None) ≡ Ok g → a ≡ true
first_placed true rest g e = refl
first_placed false rest g e = cc

pub one_placed : (p : Tree → Bool) (f g : Forest) → or_no_match (after_one p f) ≡ Ok g → Begins p f
one_placed p none g e = cc
one_placed p (leaf l rest) g e = first_placed _ rest g e
one_placed p (group d inside rest) g e = first_placed _ rest g e

pub then_placed : (s : ParseResult) (next : Forest → ParseResult) (g : Forest) → (s >>= next) ≡ Ok g
    → (h : Forest) × (s ≡ Ok h) × (next h ≡ Ok g)
then_placed (Ok h) next g e = (h, refl, e)
then_placed (Err miss) next g e = cc

pub or_placed : (s t : ParseResult) (g : Forest) → or_else s t ≡ Ok g → (s ≡ Ok g) ⊎ (t ≡ Ok g)
or_placed (Ok h) t g e = inl e
or_placed (Err NoMatch) t g e = inr e
or_placed (Err Fault) t g e = cc

pub either_left : (p q : Tree → Bool) (f : Forest) → Begins p f → Begins (either_of p q) f
either_left p q none h = absurd h
either_left p q (leaf l rest) h = or_left _ _ h
either_left p q (group d inside rest) h = or_left _ _ h

pub either_right : (p q : Tree → Bool) (f : Forest) → Begins q f → Begins (either_of p q) f
either_right p q none h = absurd h
either_right p q (leaf l rest) h = or_right _ _ h
either_right p q (group d inside rest) h = or_right _ _ h

pub absent_last : (s t : ParseResult) → t ≡ Err NoMatch → or_else s t ≡ s
absent_last (Ok g) t e = refl
absent_last (Err NoMatch) t e = e
absent_last (Err Fault) t e = refl
