-- Literals in front, after a sign or not, and groups of literals.
use Rattle.std.proofs.Common.{◌≡◌, Bool, true, false, Option, Some, None, if◌then◌else◌, refl, sym, ap, subst, ◌∙◌}
use Rattle.std.specs.Prelude.{Result, Ok, Err, IsOk, is_ok, ◌↔◌, option_map}
use Rattle.std.specs.Result.{result_ok}
use Rattle.std.proofs.lemmas.Option.{none-some, same_Some}
use Rattle.std.proofs.lemmas.Bool.{eq-eqb, ne_eqb}
use Rattle.mbe_tt.specs.declared.grammar.Dialect.{Dialect}
use Rattle.mbe_tt.specs.declared.tt.Delimiter.{Delimiter}
use Rattle.mbe_tt.specs.declared.tt.Punct.{Punct}
use Rattle.mbe_tt.specs.Trees.Leaf.{Leaf, ident, literal, punct}
use Rattle.mbe_tt.specs.Trees.Tree.{Forest, none, leaf, group, append, rest_of, front_char, front_literal, front_group}
use Rattle.mbe_tt.specs.Trees.Tree.{is_bool_text, Cut, cut_trees}
use Rattle.mbe_semantics.specs.Fragments.FragmentFront.{unsigned_front, literal_front, with_leaf, is_literal_in}
use Rattle.mbe_semantics.proofs.FrontLemmas.{literal_cut}
use Rattle.mbe_ops.specs.Views.{MatchesCut}
use Rattle.mbe_ops.proofs.Fragments.{left_following, unsigned_in_front}
use Rattle.mbe_matcher.specs.Fronts.{HasPassed}
use Rattle.mbe_matcher.proofs.FrontLemmas.{passed_if}

-- ---- without a sign

-- a literal that was consumed
pub literal_passes : {T E : Type 0} (d : Dialect) (r : Result T E) (h : T → Leaf) (f left : Forest)
    → option_map h (result_ok r) ≡ front_literal f → left ≡ (if is_ok r then rest_of f else f) → is_ok r ≡ true
    → HasPassed true (unsigned_front d f) left
literal_passes d (Ok x) h f left v l t =
    subst (λ o. HasPassed true o left) (sym (unsigned_in_front d f (h x) (sym v))) (left_following 1 f left l)
literal_passes d (Err x) h f left v l t = let e : false ≡ true = t in absurd cc

-- no literal is in front: the iterator is where it was
pub no_literal : {T E : Type 0} (r : Result T E) (h : T → Leaf) (f left : Forest)
    → option_map h (result_ok r) ≡ front_literal f → left ≡ (if is_ok r then rest_of f else f) → is_ok r ≡ false
    → (front_literal f ≡ None) × (left ≡ f)
no_literal (Ok x) h f left v l t = let e : true ≡ false = t in absurd cc
no_literal (Err x) h f left v l t = (sym v, l)

-- a group that was consumed, of a literal or not
pub group_passes : (d : Dialect) (f left : Forest) (k : Delimiter) (inside : Forest) (b : Bool)
    → b ≡ is_literal_in d k → Some (k, inside) ≡ front_group f → left ≡ rest_of f
    → HasPassed b (unsigned_front d f) left
group_passes d none left k inside b e g l = absurd (none-some _ (sym g))
group_passes d (leaf m rest) left k inside b e g l = absurd (none-some _ (sym g))
group_passes d (group j more rest) left k inside b e g l =
    let same : k ≡ j = ap (λ (p : Delimiter × Forest). p.0) (same_Some _ _ g) in
    subst (λ (x : Bool). HasPassed x (unsigned_front d (group j more rest)) left)
    (sym (e ∙ ap (is_literal_in d) same))
    (passed_if (is_literal_in d j) (cut_trees 1 (group j more rest)) left
    (left_following 1 (group j more rest) left l))

if_no : {X Y : Type 0} (b : Bool) (x : X) (z : Y) → (if b then Some x else None) ≡ None
    → (if b then Some z else None) ≡ None
if_no true x z e = absurd (none-some x (sym e))
if_no false x z e = refl

-- neither a literal nor a group is in front
pub nothing_passes : (d : Dialect) (f left : Forest) → front_literal f ≡ None → None ≡ front_group f
    → HasPassed false (unsigned_front d f) left
nothing_passes d none left e g = tt
nothing_passes d (leaf (literal l) rest) left e g = absurd (none-some _ (sym e))
nothing_passes d (leaf (punct p) rest) left e g = tt
nothing_passes d (leaf (ident i) rest) left e g =
    subst (λ o. HasPassed false o left)
    (sym (if_no (is_bool_text i.sym) (ident i) (cut_trees 1 (leaf (ident i) rest)) e)) tt
nothing_passes d (group k inside rest) left e g = absurd (none-some _ g)

-- ---- with an optional sign

if_cut : (b : Bool) (x c : Cut) → (if b then Some x else None) ≡ Some c → x ≡ c
if_cut true x c e = same_Some x c e
if_cut false x c e = absurd (none-some c e)

unsigned_is : (d : Dialect) (f : Forest) (c : Cut) → unsigned_front d f ≡ Some c → cut_trees 1 f ≡ c
unsigned_is d none c e = absurd (none-some c e)
unsigned_is d (leaf (literal l) rest) c e = same_Some (cut_trees 1 (leaf (literal l) rest)) c e
unsigned_is d (leaf (punct p) rest) c e = absurd (none-some c e)
unsigned_is d (leaf (ident i) rest) c e = if_cut (is_bool_text i.sym) (cut_trees 1 (leaf (ident i) rest)) c e
unsigned_is d (group k inside rest) c e = if_cut (is_literal_in d k) (cut_trees 1 (group k inside rest)) c e

with_sign : (p : Punct) (rest left : Forest) (b : Bool) (o : Option Cut)
    → ((c : Cut) → o ≡ Some c → cut_trees 1 rest ≡ c) → HasPassed b o left
    → HasPassed b (with_leaf (leaf (punct p) rest) o) left
with_sign p rest left true (Some c) is h = h ∙ ap (λ (x : Cut). x.back) (sym (is c refl))
with_sign p rest left true None is h = absurd h
with_sign p rest left false (Some c) is h = absurd h
with_sign p rest left false None is h = tt

after_sign : (d : Dialect) (f left : Forest) (b : Bool) → front_char f ≡ Some 45
    → HasPassed b (unsigned_front d (rest_of f)) left → HasPassed b (literal_front d f) left
after_sign d none left b q h = absurd (none-some 45 q)
after_sign d (leaf (literal l) rest) left b q h = absurd (none-some 45 q)
after_sign d (leaf (punct p) rest) left b q h =
    rw (eq-eqb p.char 45 (same_Some p.char 45 q))
    (with_sign p rest left b (unsigned_front d rest) (unsigned_is d rest) h)
after_sign d (leaf (ident i) rest) left b q h = absurd (none-some 45 q)
after_sign d (group k inside rest) left b q h = absurd (none-some 45 q)

without_sign : (d : Dialect) (f : Forest) → (front_char f ≡ Some 45 → ⊥) → literal_front d f ≡ unsigned_front d f
without_sign d none n = refl
without_sign d (leaf (literal l) rest) n = refl
without_sign d (leaf (punct p) rest) n = rw (ne_eqb p.char 45 (λ e. n (ap Some e))) refl
without_sign d (leaf (ident i) rest) n = refl
without_sign d (group k inside rest) n = refl

-- a sign that was consumed if it is there, and then a literal
pub signed_passes : {T E : Type 0} (d : Dialect) (r : Result T E) (f mid left : Forest) (b : Bool)
    → (IsOk r ↔ (front_char f ≡ Some 45)) → mid ≡ (if is_ok r then rest_of f else f)
    → HasPassed b (unsigned_front d mid) left → HasPassed b (literal_front d f) left
signed_passes d (Ok x) f mid left b h m w =
    after_sign d f left b (h.0 refl) (subst (λ (y : Forest). HasPassed b (unsigned_front d y) left) m w)
signed_passes d (Err x) f mid left b h m w =
    subst (λ o. HasPassed b o left)
    (ap (unsigned_front d) m ∙ sym (without_sign d f (λ q. let e : false ≡ true = h.1 q in absurd cc))) w

-- what was consumed and what is left
pub record ConsumedLiteral (d : Dialect) (f left : Forest) : Type 0 where
  pub cut : Cut
  pub is : literal_front d f ≡ Some cut
  pub whole : f ≡ append cut.front left
  pub left_is : left ≡ cut.back

pub consumed_literal : (d : Dialect) (f left : Forest) → HasPassed true (literal_front d f) left
    → ConsumedLiteral d f left
consumed_literal d f left h = go (literal_front d f) refl h
  where
    go : (o : Option Cut) → literal_front d f ≡ o → HasPassed true o left → ConsumedLiteral d f left
    go (Some c) e w = record {
      cut = c;
      is = e;
      whole = sym (literal_cut d f c e) ∙ ap (append c.front) (sym w);
      left_is = w;
    }
    go None e w = absurd w

pub not_consumed : (A : Type 0) (o : Option Cut) (left : Forest) → HasPassed false o left
    → MatchesCut {A = A} None o left
not_consumed A None left h = tt
not_consumed A (Some c) left h = absurd h
