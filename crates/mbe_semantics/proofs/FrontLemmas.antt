-- What is read is cut from the front of the trees.
use Rattle.mbe_tt.specs.Laws.TreeLaws.{IsCut}
use Rattle.mbe_tt.proofs.Offsets.CutLemmas.{cut_trees-append, no_cut, if_cut, good_cut}
use Rattle.std.specs.Prelude.{codes, ◌≡◌, ◌==◌, ◌&&◌, ◌||◌, ℕ, Bool, true, false, if◌then◌else◌, List, [], ◌∷◌, length}
use Rattle.std.specs.Prelude.{Option, Some, None, refl}
use Rattle.std.proofs.Common.{subst}
use Rattle.std.specs.Str.{bytes_eq}
use Rattle.std.proofs.lemmas.Option.{none-some, same_Some}
use Rattle.mbe_tt.specs.declared.grammar.Dialect.{Dialect}
use Rattle.mbe_semantics.specs.declared.fragment_kinds.MetaVarKind.{MetaVarKind}
use Rattle.mbe_semantics.specs.declared.fragment_kinds.FragmentParser.{FragmentParser}
use Rattle.mbe_semantics.specs.declared.fragment_kinds.FragmentParser.TheVariants as fragment_parsers
use Rattle.mbe_semantics.specs.Fragments.Kinds.{facts}
use Rattle.mbe_tt.specs.Trees.Leaf.{ident, literal, punct}
use Rattle.mbe_tt.specs.Trees.Tree.{Forest, none, leaf, group, Cut, cut, cut_trees, is_bool_text}
use Rattle.mbe_tt.specs.Trees.Glue.{glue, chars_of}
use Rattle.mbe_semantics.specs.Syntax.Op as ops
use Rattle.mbe_semantics.specs.Syntax.Op.{Op, Ops, no_ops, op}
use Rattle.mbe_tt.specs.Grammars.Grammar.{Grammar, accepted_front}
use Rattle.mbe_tt.specs.Trees.Leaf.{is_text, is_underscore}
use Rattle.mbe_semantics.specs.Fragments.FragmentFront.{fragment_front, fragment_front_by, is_refused, ident_front}
use Rattle.mbe_semantics.specs.Fragments.FragmentFront.{lifetime_front, unsigned_front, literal_front, tree_front}
use Rattle.mbe_semantics.specs.Fragments.FragmentFront.{with_leaf, is_literal_in}
use Rattle.mbe_semantics.specs.Readings.Fit.{token_front, literal_text_front, ident_text_front, puncts_front}
use Rattle.mbe_semantics.specs.Readings.Fit.{lifetime_text_front, literal_separator_front, separator_front}
use Rattle.mbe_semantics.specs.Readings.Fit.{between_front, is_other_token, is_other_separator, unless}
use Rattle.mbe_semantics.specs.Readings.Fit.{token_front_in, separator_front_in}

literal_text_cut : (text : List ℕ) (f : Forest) (c : Cut) → literal_text_front text f ≡ Some c → IsCut f c
literal_text_cut text (leaf (literal l) rest) c e =
    if_cut _ (bytes_eq l.text_and_suffix text) _ c (cut_trees-append 1 (leaf (literal l) rest)) e
literal_text_cut text (leaf (punct p) rest) c e = no_cut e
literal_text_cut text (leaf (ident i) rest) c e = no_cut e
literal_text_cut text none c e = no_cut e
literal_text_cut text (group d inside rest) c e = no_cut e

ident_text_cut : (text : List ℕ) (f : Forest) (c : Cut) → ident_text_front text f ≡ Some c → IsCut f c
ident_text_cut text (leaf (ident i) rest) c e =
    if_cut _ (bytes_eq i.sym text) _ c (cut_trees-append 1 (leaf (ident i) rest)) e
ident_text_cut text (leaf (punct p) rest) c e = no_cut e
ident_text_cut text (leaf (literal l) rest) c e = no_cut e
ident_text_cut text none c e = no_cut e
ident_text_cut text (group d inside rest) c e = no_cut e

puncts_cut : (chars : List ℕ) (f : Forest) (c : Cut) → puncts_front chars f ≡ Some c → IsCut f c
puncts_cut [] f c e = no_cut e
puncts_cut (x ∷ chars) f c e = if_cut f (bytes_eq (chars_of (glue f)) (x ∷ chars)) _ c
    (cut_trees-append (length (x ∷ chars)) f) e

pub token_cut : (t : ops.Token) (f : Forest) (c : Cut) → token_front t f ≡ Some c → IsCut f c
token_cut (ops.literal l) f c e = literal_text_cut l.text_and_suffix f c e
token_cut (ops.ident i) f c e = ident_text_cut i.sym f c e
token_cut (ops.puncts ps) f c e = puncts_cut (chars_of ps) f c e

-- what a dialect takes is taken by texts
pub unless_some : (b : Bool) (o : Option Cut) (c : Cut) → unless b o ≡ Some c → o ≡ Some c
unless_some true o c e = absurd (none-some c e)
unless_some false o c e = e

pub token_cut_in : (d : Dialect) (t : ops.Token) (f : Forest) (c : Cut) → token_front_in d t f ≡ Some c → IsCut f c
token_cut_in d t f c e = token_cut t f c (unless_some (is_other_token d t f) (token_front t f) c e)

lifetime_text_cut : (text : List ℕ) (f : Forest) (c : Cut) → lifetime_text_front text f ≡ Some c → IsCut f c
lifetime_text_cut text (leaf (punct p) (leaf (ident i) rest)) c e =
    if_cut _ ((p.char == 39) && bytes_eq i.sym text) _ c (cut_trees-append 2 (leaf (punct p) (leaf (ident i) rest))) e
lifetime_text_cut text _ c e = no_cut e

literal_separator_cut : (text : List ℕ) (f : Forest) (c : Cut) → literal_separator_front text f ≡ Some c → IsCut f c
literal_separator_cut text (leaf (ident i) rest) c e = go (is_bool_text text) e
  where
    go : (b : Bool) → (if b then ident_text_front text (leaf (ident i) rest) else None) ≡ Some c
        → IsCut (leaf (ident i) rest) c
    go true h = ident_text_cut text (leaf (ident i) rest) c h
    go false h = no_cut h
literal_separator_cut text (leaf (literal l) rest) c e = literal_text_cut text (leaf (literal l) rest) c e
literal_separator_cut text (leaf (punct p) rest) c e = no_cut e
literal_separator_cut text none c e = no_cut e
literal_separator_cut text (group d inside rest) c e = no_cut e

pub separator_cut : (s : ops.Separator) (f : Forest) (c : Cut) → separator_front s f ≡ Some c → IsCut f c
separator_cut (ops.ident_separator i) f c e = ident_text_cut i.sym f c e
separator_cut (ops.literal_separator l) f c e = literal_separator_cut l.text_and_suffix f c e
separator_cut (ops.punct_separator ps) f c e = puncts_cut (chars_of ps) f c e
separator_cut (ops.lifetime_separator p i) f c e = lifetime_text_cut i.sym f c e

pub separator_cut_in : (d : Dialect) (s : ops.Separator) (f : Forest) (c : Cut) → separator_front_in d s f ≡ Some c
    → IsCut f c
separator_cut_in d s f c e = separator_cut s f c (unless_some (is_other_separator d s f) (separator_front s f) c e)

ident_cut : (f : Forest) (c : Cut) → ident_front f ≡ Some c → IsCut f c
ident_cut (leaf (ident i) rest) c e = go (is_underscore i.sym) e
  where
    go : (b : Bool) → (if b then None else Some (cut_trees 1 (leaf (ident i) rest))) ≡ Some c
        → IsCut (leaf (ident i) rest) c
    go true h = no_cut h
    go false h = subst (IsCut (leaf (ident i) rest)) (same_Some _ c h) (cut_trees-append 1 (leaf (ident i) rest))
ident_cut _ c e = no_cut e

lifetime_cut : (f : Forest) (c : Cut) → lifetime_front f ≡ Some c → IsCut f c
lifetime_cut (leaf (punct p) (leaf (ident i) rest)) c e =
    if_cut _ (p.char == 39) _ c (cut_trees-append 2 (leaf (punct p) (leaf (ident i) rest))) e
lifetime_cut _ c e = no_cut e

unsigned_cut : (d : Dialect) (f : Forest) (c : Cut) → unsigned_front d f ≡ Some c → IsCut f c
unsigned_cut d (leaf (literal l) rest) c e =
    subst (IsCut (leaf (literal l) rest)) (same_Some _ c e) (cut_trees-append 1 (leaf (literal l) rest))
unsigned_cut d (leaf (ident i) rest) c e =
    if_cut _ (is_text i.sym (codes "true") || is_text i.sym (codes "false")) _ c
    (cut_trees-append 1 (leaf (ident i) rest)) e
unsigned_cut d (leaf (punct p) rest) c e = no_cut e
unsigned_cut d (group k inside rest) c e =
    if_cut _ (is_literal_in d k) _ c (cut_trees-append 1 (group k inside rest)) e
unsigned_cut d none c e = no_cut e

pub literal_cut : (d : Dialect) (f : Forest) (c : Cut) → literal_front d f ≡ Some c → IsCut f c
literal_cut d (leaf (punct p) rest) c e = go (p.char == 45) (unsigned_front d rest) e
  where
    go : (b : Bool) (r : Option Cut) → (if b then with_leaf (leaf (punct p) rest) r else None) ≡ Some c
        → IsCut (leaf (punct p) rest) c
    go true (Some x) h = subst (IsCut (leaf (punct p) rest)) (same_Some _ c h)
        (cut_trees-append 2 (leaf (punct p) rest))
    go true None h = no_cut h
    go false r h = no_cut h
literal_cut d (leaf (literal l) rest) c e = unsigned_cut d (leaf (literal l) rest) c e
literal_cut d (leaf (ident i) rest) c e = unsigned_cut d (leaf (ident i) rest) c e
literal_cut d none c e = no_cut e
literal_cut d (group k inside rest) c e = unsigned_cut d (group k inside rest) c e

tree_cut : (f : Forest) (c : Cut) → tree_front f ≡ Some c → IsCut f c
tree_cut (leaf (punct p) rest) c e = go (p.char == 39) e
  where
    f : Forest
    f = leaf (punct p) rest

    go : (b : Bool) → (if b then lifetime_front f else Some (cut_trees (length (glue f)) f)) ≡ Some c → IsCut f c
    go true h = lifetime_cut f c h
    go false h = subst (IsCut f) (same_Some _ c h) (cut_trees-append (length (glue f)) f)
tree_cut none c e = no_cut e
tree_cut (leaf (literal l) rest) c e = subst (IsCut (leaf (literal l) rest)) (same_Some _ c e)
    (cut_trees-append 1 (leaf (literal l) rest))
tree_cut (leaf (ident i) rest) c e = subst (IsCut (leaf (ident i) rest)) (same_Some _ c e)
    (cut_trees-append 1 (leaf (ident i) rest))
tree_cut (group d inside rest) c e = subst (IsCut (group d inside rest)) (same_Some _ c e)
    (cut_trees-append 1 (group d inside rest))

takes_by_cut : (g : Grammar) (kind : MetaVarKind) (fragment_parser : FragmentParser) (f : Forest) (c : Cut)
    → fragment_front_by g kind fragment_parser f ≡ Some c → IsCut f c
takes_by_cut g kind (fragment_parsers.Grammar entry) f c e = go (is_refused kind f) e
  where
    go : (b : Bool) → (if b then None else accepted_front g entry f) ≡ Some c → IsCut f c
    go true h = no_cut h
    go false h = good_cut g entry f c h
takes_by_cut g kind fragment_parsers.Identifier f c e = ident_cut f c e
takes_by_cut g kind fragment_parsers.Lifetime f c e = lifetime_cut f c e
takes_by_cut g kind fragment_parsers.Tree f c e = tree_cut f c e
takes_by_cut g kind fragment_parsers.Literal f c e = literal_cut g.dialect f c e

pub takes_cut : (g : Grammar) (kind : Option MetaVarKind) (f : Forest) (c : Cut) → fragment_front g kind f ≡ Some c
    → IsCut f c
takes_cut g None f c e = no_cut e
takes_cut g (Some kind) f c e = takes_by_cut g kind (facts kind).fragment_parser f c e
