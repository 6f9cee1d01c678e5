-- Tokens before trees, consumed.
use Rattle.std.proofs.Common.{◌≡◌, ◌<◌, ℕ, Bool, true, false, List, [], ◌∷◌, length, Some, None, if◌then◌else◌, refl}
use Rattle.std.proofs.Common.{sym, ap, subst, ◌∙◌, arith}
use Rattle.std.specs.Str.{bytes_eq}
use Rattle.std.proofs.lemmas.Option.{none-some, same_Some}
use Rattle.std.proofs.lemmas.Slice.Eq.{bytes_eq-Decides}
use Rattle.std.proofs.lemmas.List.{length-map}
use Rattle.mbe_tt.specs.Trees.Leaf.{Ident, Literal, literal, punct, ident}
use Rattle.mbe_tt.specs.Trees.Tree.{Forest, none, leaf, group, flat_len, rest_of, skip, front_leaf, any_ident, Cut}
use Rattle.mbe_tt.specs.Trees.Tree.{cut_trees}
use Rattle.mbe_tt.specs.Trees.Glue.{glue, glued, chars_of}
use Rattle.mbe_tt.specs.declared.tt.Punct.{Punct}
use Rattle.mbe_semantics.specs.Readings.Fit.{literal_text_front, ident_text_front, puncts_front}
use Rattle.mbe_matcher.specs.Fronts.{HasPassed}
use Rattle.mbe_ops.proofs.Fragments.{left_following}
use Rattle.mbe_ops.proofs.Fragments.{glued_is, puncts_longer}

-- ---- tokens

pub passed_if : (b : Bool) (c : Cut) (left : Forest) → left ≡ c.back → HasPassed b (if b then Some c else None) left
passed_if true c left l = l
passed_if false c left l = tt

same_literal : (l k : Literal) → Some (literal l) ≡ Some (literal k) → l ≡ k
same_literal l k e = cc

pub literal_passed : (f left : Forest) (l : Literal) (text : List ℕ) → Some (literal l) ≡ front_leaf f
    → left ≡ rest_of f →
    HasPassed (bytes_eq l.text_and_suffix text) (literal_text_front text f) left
literal_passed none left l text e r = absurd (none-some (literal l) (sym e))
literal_passed (leaf (literal k) rest) left l text e r =
    subst (λ (m : Literal). HasPassed (bytes_eq m.text_and_suffix text)
    (literal_text_front text (leaf (literal k) rest)) left) (sym (same_literal l k e))
    (passed_if (bytes_eq k.text_and_suffix text) (cut_trees 1 (leaf (literal k) rest)) left
    (left_following 1 (leaf (literal k) rest) left r))
literal_passed (leaf (punct p) rest) left l text e r = let s : Some (literal l) ≡ Some (punct p) = e in absurd cc
literal_passed (leaf (ident i) rest) left l text e r = let s : Some (literal l) ≡ Some (ident i) = e in absurd cc
literal_passed (group d inside rest) left l text e r = absurd (none-some (literal l) (sym e))

pub ident_passed : (f left : Forest) (i : Ident) (text : List ℕ) → Some i ≡ any_ident f → left ≡ rest_of f →
    HasPassed (bytes_eq i.sym text) (ident_text_front text f) left
ident_passed none left i text e r = absurd (none-some i (sym e))
ident_passed (leaf (literal l) rest) left i text e r = absurd (none-some i (sym e))
ident_passed (leaf (punct p) rest) left i text e r = absurd (none-some i (sym e))
ident_passed (leaf (ident j) rest) left i text e r =
    subst (λ (k : Ident). HasPassed (bytes_eq k.sym text) (ident_text_front text (leaf (ident j) rest)) left)
    (sym (same_Some i j e))
    (passed_if (bytes_eq j.sym text) (cut_trees 1 (leaf (ident j) rest)) left
    (left_following 1 (leaf (ident j) rest) left r))
ident_passed (group d inside rest) left i text e r = absurd (none-some i (sym e))

some_glued : (f : Forest) (ps : List Punct) → Some ps ≡ glued f → ps ≡ [] → ⊥
some_glued none ps e n = absurd (none-some ps (sym e))
some_glued (leaf (literal l) rest) ps e n = absurd (none-some ps (sym e))
some_glued (leaf (punct p) rest) ps e n =
    let f = leaf (punct p) rest in
    let shorter : flat_len (skip (length (glue f)) f) < flat_len f =
    puncts_longer f rest (skip (length (glue f)) f) p refl refl in
    let same : flat_len (skip (length (glue f)) f) ≡ flat_len f =
    ap (λ (xs : List Punct). flat_len (skip (length xs) f)) (glued_is f ps e ∙ n) in
    omega (arith, shorter, same)
some_glued (leaf (ident i) rest) ps e n = absurd (none-some ps (sym e))
some_glued (group d inside rest) ps e n = absurd (none-some ps (sym e))

pub puncts_passed : (f left : Forest) (ps : List Punct) (chars : List ℕ) (r : Bool) → Some ps ≡ glued f
    → left ≡ skip (length (glue f)) f →
    r ≡ bytes_eq (chars_of ps) chars → HasPassed r (puncts_front chars f) left
puncts_passed f left [] [] r g l e = absurd (some_glued f [] g refl)
puncts_passed f left (p ∷ ps) [] r g l e = subst (λ (b : Bool). HasPassed b None left) (sym e) tt
puncts_passed f left ps (c ∷ cs) r g l e =
    go (bytes_eq (chars_of (glue f)) (c ∷ cs)) r
    (e ∙ ap (λ (xs : List Punct). bytes_eq (chars_of xs) (c ∷ cs)) (sym (glued_is f ps g))) long
  where
    long : bytes_eq (chars_of (glue f)) (c ∷ cs) ≡ true → left ≡ (cut_trees (length (c ∷ cs)) f).back
    long t =
        let same : length (chars_of (glue f)) ≡ length (c ∷ cs) =
        ap length ((bytes_eq-Decides (chars_of (glue f)) (c ∷ cs)).0 t) in
        let count : length (glue f) ≡ length (c ∷ cs) = sym (length-map (glue f) (λ (p : Punct). p.char)) ∙ same in
        left_following (length (c ∷ cs)) f left (l ∙ ap (λ (n : ℕ). skip n f) count)

    go : (b q : Bool) → q ≡ b → (b ≡ true → left ≡ (cut_trees (length (c ∷ cs)) f).back) →
        HasPassed q (if b then Some (cut_trees (length (c ∷ cs)) f) else None) left
    go true q s h = subst (λ (x : Bool). HasPassed x (Some (cut_trees (length (c ∷ cs)) f)) left) (sym s) (h refl)
    go false q s h = subst (λ (x : Bool). HasPassed x None left) (sym s) tt
