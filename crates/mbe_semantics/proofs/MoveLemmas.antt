-- What is read at a place takes at least one flat token; only a fragment of kind `vis` may take none.
use Rattle.std.specs.Prelude.{codes, ◌≡◌, ◌≤◌, ◌<◌, ◌+◌, ◌==◌, ◌&&◌, ◌||◌, not, ℕ, zero, suc, Bool, true, false}
use Rattle.std.specs.Prelude.{if◌then◌else◌, List, [], ◌∷◌, length, take, Option, Some, None, refl}
use Rattle.std.proofs.Common.{arith, ap, subst, eqb-true}
use Rattle.std.specs.Str.{bytes_eq}
use Rattle.std.proofs.lemmas.Option.{same_Some}
use Rattle.mbe_tt.specs.declared.grammar.Dialect.{Dialect}
use Rattle.mbe_semantics.specs.declared.fragment_kinds.MetaVarKind.{MetaVarKind}
use Rattle.mbe_semantics.specs.declared.fragment_kinds.FragmentParser.{FragmentParser}
use Rattle.mbe_semantics.specs.declared.fragment_kinds.FragmentParser.TheVariants as fragment_parsers
use Rattle.mbe_semantics.specs.Fragments.Kinds.{facts}
use Rattle.mbe_tt.specs.declared.tt.Punct.{Punct}
use Rattle.mbe_tt.specs.declared.grammar.PrefixEntryPoint.{PrefixEntryPoint}
use Rattle.mbe_tt.specs.declared.grammar.PrefixEntryPoint.TheVariants as entries
use Rattle.mbe_tt.specs.Trees.Leaf.{Leaf, ident, literal, punct, is_text, is_underscore}
use Rattle.mbe_tt.specs.Trees.Tree.{Forest, none, leaf, group, flat, flat_len, Cut, cut_trees, is_bool_text}
use Rattle.mbe_tt.specs.Trees.Glue.{glue, chars_of, if_joint, joined, longest_operator, is_operator}
use Rattle.mbe_tt.specs.Grammars.Grammar.{Grammar, IsLawful, front, is_accepted, accepted_front}
use Rattle.mbe_tt.proofs.Offsets.CutLemmas.{no_cut, if_moves, no_true, both_left, both_right}
use Rattle.mbe_semantics.specs.Syntax.Op as ops
use Rattle.mbe_semantics.specs.Syntax.Nullable.{is_vis, may_find_nothing}
use Rattle.mbe_semantics.specs.Fragments.FragmentFront.{fragment_front, fragment_front_by, is_refused, ident_front}
use Rattle.mbe_semantics.specs.Fragments.FragmentFront.{lifetime_front, unsigned_front, literal_front, tree_front}
use Rattle.mbe_semantics.specs.Fragments.FragmentFront.{with_leaf, is_literal_in}
use Rattle.mbe_semantics.specs.Readings.Fit.{token_front, literal_text_front, ident_text_front, puncts_front}
use Rattle.mbe_semantics.specs.Readings.Fit.{lifetime_text_front, literal_separator_front, separator_front}
use Rattle.mbe_semantics.specs.Readings.Fit.{is_other_token, is_other_separator, token_front_in, separator_front_in}
use Rattle.mbe_semantics.proofs.FrontLemmas.{unless_some}

pub leaf_moves : (n : ℕ) (l : Leaf) (rest : Forest) → 0 < n → 1 ≤ flat_len (cut_trees n (leaf l rest)).front
leaf_moves zero l rest h = absurd (omega (arith, h))
leaf_moves (suc n) l rest h = let e : 1 ≤ 1 + flat_len (cut_trees n rest).front = omega arith in e

literal_moves : (text : List ℕ) (f : Forest) (c : Cut) → literal_text_front text f ≡ Some c → 1 ≤ flat_len c.front
literal_moves text (leaf (literal l) rest) c e =
    if_moves (bytes_eq l.text_and_suffix text) _ c (leaf_moves 1 (literal l) rest (omega arith)) e
literal_moves text _ c e = no_cut e

ident_moves : (text : List ℕ) (f : Forest) (c : Cut) → ident_text_front text f ≡ Some c → 1 ≤ flat_len c.front
ident_moves text (leaf (ident i) rest) c e =
    if_moves (bytes_eq i.sym text) _ c (leaf_moves 1 (ident i) rest (omega arith)) e
ident_moves text _ c e = no_cut e

puncts_move : (chars : List ℕ) (f : Forest) (c : Cut) → puncts_front chars f ≡ Some c → 1 ≤ flat_len c.front
puncts_move [] f c e = no_cut e
puncts_move (x ∷ chars) none c e = no_cut e
puncts_move (x ∷ chars) (group d inside rest) c e = no_cut e
puncts_move (x ∷ chars) (leaf l rest) c e =
    if_moves (bytes_eq (chars_of (glue (leaf l rest))) (x ∷ chars)) _ c
    (let h : 1 ≤ 1 + flat_len (cut_trees (length chars) rest).front = omega arith in h) e

pub token_moves : (t : ops.Token) (f : Forest) (c : Cut) → token_front t f ≡ Some c → 1 ≤ flat_len c.front
token_moves (ops.literal l) f c e = literal_moves l.text_and_suffix f c e
token_moves (ops.ident i) f c e = ident_moves i.sym f c e
token_moves (ops.puncts ps) f c e = puncts_move (chars_of ps) f c e

pub token_moves_in : (d : Dialect) (t : ops.Token) (f : Forest) (c : Cut) → token_front_in d t f ≡ Some c
    → 1 ≤ flat_len c.front
token_moves_in d t f c e = token_moves t f c (unless_some (is_other_token d t f) (token_front t f) c e)

lifetime_text_moves : (text : List ℕ) (f : Forest) (c : Cut) → lifetime_text_front text f ≡ Some c
    → 1 ≤ flat_len c.front
lifetime_text_moves text (leaf (punct p) (leaf (ident i) rest)) c e =
    if_moves ((p.char == 39) && bytes_eq i.sym text) _ c (leaf_moves 2 (punct p) (leaf (ident i) rest) (omega arith)) e
lifetime_text_moves text _ c e = no_cut e

literal_separator_moves : (text : List ℕ) (f : Forest) (c : Cut) → literal_separator_front text f ≡ Some c
    → 1 ≤ flat_len c.front
literal_separator_moves text (leaf (ident i) rest) c e = go (is_bool_text text) e
  where
    go : (b : Bool) → (if b then ident_text_front text (leaf (ident i) rest) else None) ≡ Some c → 1 ≤ flat_len c.front
    go true h = ident_moves text (leaf (ident i) rest) c h
    go false h = no_cut h
literal_separator_moves text (leaf (literal l) rest) c e = literal_moves text (leaf (literal l) rest) c e
literal_separator_moves text (leaf (punct p) rest) c e = no_cut e
literal_separator_moves text none c e = no_cut e
literal_separator_moves text (group d inside rest) c e = no_cut e

pub separator_moves : (s : ops.Separator) (f : Forest) (c : Cut) → separator_front s f ≡ Some c → 1 ≤ flat_len c.front
separator_moves (ops.ident_separator i) f c e = ident_moves i.sym f c e
separator_moves (ops.literal_separator l) f c e = literal_separator_moves l.text_and_suffix f c e
separator_moves (ops.punct_separator ps) f c e = puncts_move (chars_of ps) f c e
separator_moves (ops.lifetime_separator p i) f c e = lifetime_text_moves i.sym f c e

pub separator_moves_in : (d : Dialect) (s : ops.Separator) (f : Forest) (c : Cut) → separator_front_in d s f ≡ Some c
    → 1 ≤ flat_len c.front
separator_moves_in d s f c e = separator_moves s f c (unless_some (is_other_separator d s f) (separator_front s f) c e)

-- ---- variables

if_not_moves : (b : Bool) (x c : Cut) → 1 ≤ flat_len x.front → (if b then None else Some x) ≡ Some c
    → 1 ≤ flat_len c.front
if_not_moves true x c h e = no_cut e
if_not_moves false x c h e = subst (λ y. 1 ≤ flat_len y.front) (same_Some x c e) h

some_moves : (x c : Cut) → 1 ≤ flat_len x.front → Some x ≡ Some c → 1 ≤ flat_len c.front
some_moves x c h e = subst (λ y. 1 ≤ flat_len y.front) (same_Some x c e) h

name_moves : (f : Forest) (c : Cut) → ident_front f ≡ Some c → 1 ≤ flat_len c.front
name_moves (leaf (ident i) rest) c e = if_not_moves (is_underscore i.sym) _ c
    (leaf_moves 1 (ident i) rest (omega arith)) e
name_moves _ c e = no_cut e

lifetime_moves : (f : Forest) (c : Cut) → lifetime_front f ≡ Some c → 1 ≤ flat_len c.front
lifetime_moves (leaf (punct p) (leaf (ident i) rest)) c e =
    if_moves (p.char == 39) _ c (leaf_moves 2 (punct p) (leaf (ident i) rest) (omega arith)) e
lifetime_moves _ c e = no_cut e

unsigned_moves : (d : Dialect) (f : Forest) (c : Cut) → unsigned_front d f ≡ Some c → 1 ≤ flat_len c.front
unsigned_moves d (leaf (literal l) rest) c e = some_moves _ c (leaf_moves 1 (literal l) rest (omega arith)) e
unsigned_moves d (leaf (ident i) rest) c e =
    if_moves (is_text i.sym (codes "true") || is_text i.sym (codes "false")) _ c
    (leaf_moves 1 (ident i) rest (omega arith)) e
unsigned_moves d (leaf (punct p) rest) c e = no_cut e
unsigned_moves d (group k inside rest) c e =
    if_moves (is_literal_in d k) _ c
    (let h : 1 ≤ 2 + flat_len inside + flat_len (cut_trees 0 rest).front = omega arith in h) e
unsigned_moves d none c e = no_cut e

number_moves : (d : Dialect) (f : Forest) (c : Cut) → literal_front d f ≡ Some c → 1 ≤ flat_len c.front
number_moves d (leaf (punct p) rest) c e = go (p.char == 45) (unsigned_front d rest) e
  where
    go : (b : Bool) (r : Option Cut) → (if b then with_leaf (leaf (punct p) rest) r else None) ≡ Some c
        → 1 ≤ flat_len c.front
    go true (Some x) h = some_moves _ c (leaf_moves 2 (punct p) rest (omega arith)) h
    go true None h = no_cut h
    go false r h = no_cut h
number_moves d (leaf (literal l) rest) c e = unsigned_moves d (leaf (literal l) rest) c e
number_moves d (leaf (ident i) rest) c e = unsigned_moves d (leaf (ident i) rest) c e
number_moves d none c e = no_cut e
number_moves d (group k inside rest) c e = unsigned_moves d (group k inside rest) c e

pub some_operator : (p : Punct) (more : List Punct) → 0 < length (longest_operator (p ∷ more))
some_operator p more = go (is_operator (chars_of (p ∷ more))) (is_operator (chars_of (take 2 (p ∷ more))))
  where
    go : (a b : Bool) → 0 < length (if a then (p ∷ more) else (if b then take 2 (p ∷ more) else take 1 (p ∷ more)))
    go true b = omega arith
    go false true = two more
      where
        two : (m : List Punct) → 0 < length (take 2 (p ∷ m))
        two [] = omega arith
        two (x ∷ m) = omega arith
    go false false = omega arith

tree_moves : (f : Forest) (c : Cut) → tree_front f ≡ Some c → 1 ≤ flat_len c.front
tree_moves (leaf (punct p) rest) c e = go (p.char == 39) e
  where
    f : Forest
    f = leaf (punct p) rest

    go : (b : Bool) → (if b then lifetime_front f else Some (cut_trees (length (glue f)) f)) ≡ Some c
        → 1 ≤ flat_len c.front
    go true h = lifetime_moves f c h
    go false h = some_moves _ c (leaf_moves (length (glue f)) (punct p) rest
        (some_operator p (if_joint p.spacing (joined 2 rest)))) h
tree_moves none c e = no_cut e
tree_moves (leaf (literal l) rest) c e = some_moves _ c (leaf_moves 1 (literal l) rest (omega arith)) e
tree_moves (leaf (ident i) rest) c e = some_moves _ c (leaf_moves 1 (ident i) rest (omega arith)) e
tree_moves (group d inside rest) c e = some_moves _ c
    (let h : 1 ≤ 2 + flat_len inside + flat_len (cut_trees 0 rest).front = omega arith in h) e

not_true : (b : Bool) → not b ≡ true → b ≡ false
not_true true e = no_true e
not_true false e = refl

-- a good front of no flat token was asked for at the entry of `vis`
good_empty : (g : Grammar) → IsLawful g → (entry : PrefixEntryPoint) (f : Forest) (c : Cut)
    → accepted_front g entry f ≡ Some c → flat_len c.front ≡ 0 → entry ≡ entries.Vis
good_empty g w entry f c e z = go (is_accepted g entry f) refl e
  where
    go : (b : Bool) → is_accepted g entry f ≡ b → (if b then Some (front g entry f) else None) ≡ Some c
        → entry ≡ entries.Vis
    go true h k =
        let same : flat_len (front g entry f).front ≡ (g.parse entry (flat f)).count =
        eqb-true (flat_len (front g entry f).front) (g.parse entry (flat f)).count
        (both_right (not (g.parse entry (flat f)).fault) _ h) in
        let length : flat_len (front g entry f).front ≡ flat_len c.front =
        ap (λ x. flat_len x.front) (same_Some (front g entry f) c k) in
        w.nothing_for_vis entry (flat f) (not_true (g.parse entry (flat f)).fault
        (both_left (not (g.parse entry (flat f)).fault) _ h)) (omega (arith, same, length, z))
    go false h k = no_cut k

some_taken : {A : Type 0} (c : Cut) → 1 ≤ flat_len c.front → flat_len c.front ≡ 0 → A
some_taken c l z = absurd (omega (arith, l, z))

takes_by_empty : (g : Grammar) → IsLawful g
    → (kind : MetaVarKind) (fragment_parser : FragmentParser) (f : Forest) (c : Cut)
    → fragment_front_by g kind fragment_parser f ≡ Some c → flat_len c.front ≡ 0 → may_find_nothing fragment_parser
    ≡ true
takes_by_empty g w kind (fragment_parsers.Grammar entry) f c e z = go (is_refused kind f) e
  where
    go : (b : Bool) → (if b then None else accepted_front g entry f) ≡ Some c
        → may_find_nothing (fragment_parsers.Grammar entry) ≡ true
    go true h = no_cut h
    go false h = ap (λ x. may_find_nothing (fragment_parsers.Grammar x)) (good_empty g w entry f c h z)
takes_by_empty g w kind fragment_parsers.Identifier f c e z = some_taken c (name_moves f c e) z
takes_by_empty g w kind fragment_parsers.Lifetime f c e z = some_taken c (lifetime_moves f c e) z
takes_by_empty g w kind fragment_parsers.Tree f c e z = some_taken c (tree_moves f c e) z
takes_by_empty g w kind fragment_parsers.Literal f c e z = some_taken c (number_moves g.dialect f c e) z

-- what a variable takes over no flat token, it takes as a `vis`
pub takes_empty : (g : Grammar) → IsLawful g → (kind : Option MetaVarKind) (f : Forest) (c : Cut)
    → fragment_front g kind f ≡ Some c → flat_len c.front ≡ 0 → is_vis kind ≡ true
takes_empty g w None f c e z = no_cut e
takes_empty g w (Some kind) f c e z = takes_by_empty g w kind (facts kind).fragment_parser f c e z
