-- Definitions by fronts, one after another.
use Rattle.std.proofs.Common.{◌≡◌, ◌+◌, ℕ, zero, suc, List, [], ◌∷◌, ◌++◌, refl, ap, sym, ◌∙◌, append_assoc, append-nil}
use Rattle.std.proofs.Common.{arith}
use Rattle.mbe_tt.specs.Trees.Tree.{Forest, Tree, flat_len}
use Rattle.mbe_rewriter.specs.MacroItems.{MacroCall, MacroDefinition, FrontItem, Definition, CallItem, Other, End}
use Rattle.mbe_rewriter.specs.MacroItems.{front}
use Rattle.mbe_diagnostics.specs.Lints.Definitions.{defined_in_tree, defined_at, defined_by_fronts, definitions}

-- the front that a value shows
pub front_is : {X : Type 0} (shown : X → FrontItem) (r x : X) (f : Forest) → shown r ≡ front f → r ≡ x → front f
    ≡ shown x
front_is shown r x f e h = sym e ∙ ap shown h

pub too_deep : (levels : ℕ) (f : Forest) → levels ≡ 0 → definitions levels f ≡ []
unfolding definitions
too_deep levels f e = ap (λ n. definitions n f) e

pub deeper : (levels less : ℕ) (f : Forest) → levels ≡ less + 1
    → definitions levels f ≡ defined_by_fronts (defined_in_tree (definitions less)) (flat_len f) f
unfolding definitions
deeper levels less f e = let more : levels ≡ suc less = omega (arith, e) in ap (λ n. definitions n f) more

one_front : (within : Tree → List MacroDefinition) (n m : ℕ) (f : Forest) (x : FrontItem) → n ≡ m + 1 → front f ≡ x
    → defined_by_fronts within n f ≡ defined_at within (defined_by_fronts within m) x
unfolding defined_by_fronts
one_front within n m f x e h =
    let more : n ≡ suc m = omega (arith, e) in
    ap (λ k. defined_by_fronts within k f) more ∙ ap (defined_at within (defined_by_fronts within m)) h

no_front : (within : Tree → List MacroDefinition) (n : ℕ) (f : Forest) → n ≡ 0 → defined_by_fronts within n f ≡ []
unfolding defined_by_fronts
no_front within n f e = ap (λ k. defined_by_fronts within k f) e

-- Of the definitions that were found and those that are left, all.

pub at_end : (within : Tree → List MacroDefinition) (n m : ℕ) (f : Forest) (xs all : List MacroDefinition) → n ≡ m + 1
    → front f ≡ End → xs ++ defined_by_fronts within n f ≡ all → xs ≡ all
at_end within n m f xs all e h is =
    sym (append-nil xs) ∙ (sym (ap (λ l. xs ++ l) (one_front within n m f End e h)) ∙ is)

pub none_left : (within : Tree → List MacroDefinition) (n : ℕ) (f : Forest) (xs all : List MacroDefinition) → n ≡ 0
    → xs ++ defined_by_fronts within n f ≡ all → xs ≡ all
none_left within n f xs all e is = sym (append-nil xs) ∙ (sym (ap (λ l. xs ++ l) (no_front within n f e)) ∙ is)

pub at_definition : (within : Tree → List MacroDefinition) (n m : ℕ) (f : Forest) (d : MacroDefinition)
    (xs ys all : List MacroDefinition)
    → n ≡ m + 1 → front f ≡ Definition d → ys ≡ xs ++ d ∷ [] → xs ++ defined_by_fronts within n f ≡ all
    → ys ++ defined_by_fronts within m d.rest ≡ all
at_definition within n m f d xs ys all e h added is =
    ap (λ l. l ++ defined_by_fronts within m d.rest) added
    ∙ (append_assoc xs (d ∷ []) (defined_by_fronts within m d.rest)
    ∙ (sym (ap (λ l. xs ++ l) (one_front within n m f (Definition d) e h)) ∙ is))

pub at_call : (within : Tree → List MacroDefinition) (n m : ℕ) (f : Forest) (c : MacroCall)
    (xs all : List MacroDefinition)
    → n ≡ m + 1 → front f ≡ CallItem c → xs ++ defined_by_fronts within n f ≡ all
    → xs ++ defined_by_fronts within m c.rest ≡ all
at_call within n m f c xs all e h is = sym (ap (λ l. xs ++ l) (one_front within n m f (CallItem c) e h)) ∙ is

pub at_tree : (within : Tree → List MacroDefinition) (n m : ℕ) (f rest : Forest) (t : Tree)
    (xs ys all : List MacroDefinition)
    → n ≡ m + 1 → front f ≡ Other t rest → ys ≡ xs ++ within t → xs ++ defined_by_fronts within n f ≡ all
    → ys ++ defined_by_fronts within m rest ≡ all
at_tree within n m f rest t xs ys all e h added is =
    ap (λ l. l ++ defined_by_fronts within m rest) added
    ∙ (append_assoc xs (within t) (defined_by_fronts within m rest)
    ∙ (sym (ap (λ l. xs ++ l) (one_front within n m f (Other t rest) e h)) ∙ is))
