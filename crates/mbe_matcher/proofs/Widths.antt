-- What was consumed, as the number of its flat tokens.
use Rattle.std.proofs.Common.{◌≡◌, ◌-◌, ℕ, Bool, true, false, List, Option, Some, None, if◌then◌else◌, refl, sym, ap}
use Rattle.std.proofs.Common.{subst, ◌∙◌, arith}
use Rattle.std.specs.Str.{bytes_eq}
use Rattle.std.proofs.lemmas.Slice.Eq.{bytes_eq-Decides}
use Rattle.std.proofs.lemmas.Option.{none-some, same_Some}
use Rattle.std.proofs.lemmas.Bool.{false≢true}
use Rattle.mbe_tt.specs.Trees.Leaf.{Leaf, Ident, ident, literal, punct}
use Rattle.mbe_tt.specs.Trees.Tree.{Forest, none, leaf, group, flat_len, rest_of, front_literal, is_bool_text, Cut}
use Rattle.mbe_tt.specs.Trees.Tree.{cut_trees}
use Rattle.mbe_tt.specs.Laws.TreeLaws.{IsCut}
use Rattle.mbe_tt.proofs.Offsets.CutLemmas.{flat_len-append}
use Rattle.mbe_tt.specs.declared.grammar.Dialect.TheVariants.{RustAnalyzer, Rustc}
use Rattle.mbe_semantics.specs.Syntax.Op.{Token, Separator, Op, token, group, variable, repetition, expression}
use Rattle.mbe_semantics.specs.Readings.Fit.{token_front, literal_separator_front, separator_front, unless}
use Rattle.mbe_semantics.specs.Readings.Fit.{is_other_separator, separator_front_in}
use Rattle.mbe_semantics.specs.Readings.Input.{length_of}
use Rattle.mbe_matcher.specs.Fronts.{HasPassed}
use Rattle.mbe_matcher.specs.Fronts.{has_text, op_width, width_by_text, is_other_op}
use Rattle.mbe_semantics.proofs.FrontLemmas.{token_cut, separator_cut}
use Rattle.mbe_ops.proofs.Fragments.{left_following}
use Rattle.mbe_matcher.proofs.FrontLemmas.{passed_if}

-- the flat tokens between an iterator and what it has become
abbrev pub width : Bool → Forest → Forest → Option ℕ
width r f left = if r then Some (flat_len f - flat_len left) else None

pub passed_width : (r : Bool) (o : Option Cut) (f left : Forest) → HasPassed r o left
    → ((c : Cut) → o ≡ Some c → IsCut f c) → width r f left ≡ length_of o
passed_width true (Some c) f left h cut =
    let len = flat_len-append c.front c.back in
    let whole = ap flat_len (cut c refl) in
    let back = ap flat_len h in
    ap Some (omega (arith, len, whole, back))
passed_width true None f left h cut = absurd h
passed_width false (Some c) f left h cut = absurd h
passed_width false None f left h cut = refl

pub token_width : (r : Bool) (t : Token) (f left : Forest) → HasPassed r (token_front t f) left
    → width r f left ≡ length_of (token_front t f)
token_width r t f left h = passed_width r (token_front t f) f left h (token_cut t f)

pub separator_width : (r : Bool) (s : Separator) (f left : Forest) → HasPassed r (separator_front s f) left
    → width r f left ≡ length_of (separator_front s f)
separator_width r s f left h = passed_width r (separator_front s f) f left h (separator_cut s f)

-- ---- dialects

pub open_width : (o : Op) (f : Forest) → width_by_text o f ≡ op_width RustAnalyzer o f
open_width (token t) f = refl
open_width (group d b) f = refl
open_width (variable name kind span) f = refl
open_width (repetition b s k) f = refl
open_width (expression e) f = refl

pub other_width : (o : Op) (f : Forest) → is_other_op o f ≡ true → None ≡ op_width Rustc o f
other_width (token t) f e = sym (ap (λ b. length_of (unless b (token_front t f))) e)
other_width (group d b) f e = refl
other_width (variable name kind span) f e = refl
other_width (repetition b s k) f e = refl
other_width (expression x) f e = refl

pub same_width : (o : Op) (f : Forest) → is_other_op o f ≡ false → width_by_text o f ≡ op_width Rustc o f
same_width (token t) f e = sym (ap (λ b. length_of (unless b (token_front t f))) e)
same_width (group d b) f e = refl
same_width (variable name kind span) f e = refl
same_width (repetition b s k) f e = refl
same_width (expression x) f e = refl

pub other_separator : (s : Separator) (f : Forest) → is_other_separator Rustc s f ≡ true
    → None ≡ length_of (separator_front_in Rustc s f)
other_separator s f e = sym (ap (λ b. length_of (unless b (separator_front s f))) e)

pub same_separator : (s : Separator) (f : Forest) → is_other_separator Rustc s f ≡ false
    → length_of (separator_front s f) ≡ length_of (separator_front_in Rustc s f)
same_separator s f e = sym (ap (λ b. length_of (unless b (separator_front s f))) e)

-- ---- a literal between two rounds

truth_of : (i : Ident) (l : Leaf) → Some l ≡ (if is_bool_text i.sym then Some (ident i) else None)
    → (l ≡ ident i) × (is_bool_text i.sym ≡ true)
truth_of i l e = go (is_bool_text i.sym) refl e
  where
    go : (b : Bool) → is_bool_text i.sym ≡ b → Some l ≡ (if b then Some (ident i) else None)
        → (l ≡ ident i) × (is_bool_text i.sym ≡ true)
    go true t h = (same_Some l (ident i) h, t)
    go false t h = absurd (none-some l (sym h))

pub literal_separator_passed : (f left : Forest) (l : Leaf) (text : List ℕ) → Some l ≡ front_literal f
    → left ≡ rest_of f →
    HasPassed (has_text l text) (literal_separator_front text f) left
literal_separator_passed none left l text e r = absurd (none-some l (sym e))
literal_separator_passed (leaf (literal k) rest) left l text e r =
    subst (λ (m : Leaf). HasPassed (has_text m text) (literal_separator_front text (leaf (literal k) rest)) left)
    (sym (same_Some l (literal k) e))
    (passed_if (bytes_eq k.text_and_suffix text) (cut_trees 1 (leaf (literal k) rest)) left
    (left_following 1 (leaf (literal k) rest) left r))
literal_separator_passed (leaf (punct p) rest) left l text e r = absurd (none-some l (sym e))
literal_separator_passed (group d inside rest) left l text e r = absurd (none-some l (sym e))
literal_separator_passed (leaf (ident i) rest) left l text e r =
    let t : (l ≡ ident i) × (is_bool_text i.sym ≡ true) = truth_of i l e in
    subst (λ (m : Leaf). HasPassed (has_text m text) (literal_separator_front text (leaf (ident i) rest)) left)
    (sym t.0)
    (go (bytes_eq i.sym text) refl (is_bool_text text) (λ h. sym (ap is_bool_text ((bytes_eq-Decides i.sym text).0 h))
    ∙ t.1))
  where
    go : (b : Bool) → bytes_eq i.sym text ≡ b → (t : Bool) → (b ≡ true → t ≡ true) →
        HasPassed b (if t then (if b then Some (cut_trees 1 (leaf (ident i) rest)) else None) else None) left
    go true h true k = left_following 1 (leaf (ident i) rest) left r
    go true h false k = absurd (false≢true (k refl))
    go false h true k = tt
    go false h false k = tt
