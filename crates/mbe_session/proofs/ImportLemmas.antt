-- Names and `use`s that are looked for, and names that are declared, one tree after another.
use Rattle.std.proofs.Common.{◌≡◌, ◌<◌, ◌-◌, ℕ, zero, suc, true, false, List, [], ◌++◌, Some, None, refl, ap, sym, ◌∙◌}
use Rattle.std.proofs.Common.{arith, append_assoc, append-nil}
use Rattle.std.specs.Prelude.{◌||◌, ◌&&◌, not, if◌then◌else◌}
use Rattle.mbe_tt.specs.Trees.Leaf.{Leaf}
use Rattle.mbe_tt.specs.Trees.Tree.{Forest, Leaf_tree, Group_tree, none, leaf, group, first, rest_of}
use Rattle.mbe_tt.specs.declared.tt.Delimiter.{Delimiter}
use Rattle.mbe_tt.proofs.Trees.Firsts.{whole, nothing}
use Rattle.mbe_cfg.specs.CrateExports.Exports.{ends_use}
use Rattle.mbe_session.specs.Scopes.{DeclaredName}
use Rattle.mbe_session.specs.Imports.{is_name, has_name, is_rules_of, is_use, is_imported_in}
use Rattle.mbe_session.specs.Imports.{UsedPath, declared_at, next_path, names_by, used_names}

pub name_here : (name : List ℕ) (f : Forest) → is_name name f ≡ true → has_name name f ≡ true
unfolding has_name
name_here name none h = h
name_here name (leaf l rest) h = ap (λ b. b || has_name name rest) h
name_here name (group d inside rest) h = absurd (cc)

pub name_nowhere : (name : List ℕ) (f : Forest) → None ≡ first f → has_name name f ≡ false
unfolding has_name
name_nowhere name none h = refl
name_nowhere name (leaf l rest) h = absurd (cc)
name_nowhere name (group d inside rest) h = absurd (cc)

name_skipped : (name : List ℕ) (f : Forest) → is_name name f ≡ false → has_name name (rest_of f) ≡ has_name name f
unfolding has_name
name_skipped name none h = refl
name_skipped name (leaf l rest) h = sym (ap (λ b. b || has_name name rest) h)
name_skipped name (group d inside rest) h = refl

pub name_further : (name : List ℕ) (f rest : Forest) → is_name name f ≡ false → rest ≡ rest_of f
    → has_name name rest ≡ has_name name f
name_further name f rest h is = ap (has_name name) is ∙ name_skipped name f h

pub use_here : (name : List ℕ) (f : Forest) → is_use name f ≡ true → is_imported_in name f ≡ true
unfolding is_imported_in
use_here name none h = h
use_here name (leaf l rest) h =
    ap (λ b. b || (not (is_rules_of name (leaf l rest)) && is_imported_in name rest)) h
use_here name (group d inside rest) h = absurd (cc)

pub use_nowhere : (name : List ℕ) (f : Forest) → None ≡ first f → is_imported_in name f ≡ false
unfolding is_imported_in
use_nowhere name none h = refl
use_nowhere name (leaf l rest) h = absurd (cc)
use_nowhere name (group d inside rest) h = absurd (cc)

pub rules_here : (name : List ℕ) (f : Forest) → is_use name f ≡ false → is_rules_of name f ≡ true
    → is_imported_in name f ≡ false
unfolding is_imported_in
rules_here name none h k = refl
rules_here name (leaf l rest) h k =
    ap (λ b. b || (not (is_rules_of name (leaf l rest)) && is_imported_in name rest)) h
    ∙ ap (λ b. not b && is_imported_in name rest) k
rules_here name (group d inside rest) h k = absurd (cc)

use_skipped : (name : List ℕ) (f : Forest) → is_use name f ≡ false → is_rules_of name f ≡ false
    → is_imported_in name (rest_of f) ≡ is_imported_in name f
unfolding is_imported_in
use_skipped name none h k = refl
use_skipped name (leaf l rest) h k = sym
    (ap (λ b. b || (not (is_rules_of name (leaf l rest)) && is_imported_in name rest)) h
    ∙ ap (λ b. not b && is_imported_in name rest) k)
use_skipped name (group d inside rest) h k = refl

pub use_further : (name : List ℕ) (f rest : Forest) → is_use name f ≡ false → is_rules_of name f ≡ false
    → rest ≡ rest_of f
    → is_imported_in name rest ≡ is_imported_in name f
use_further name f rest h k is = ap (is_imported_in name) is ∙ use_skipped name f h k

-- ---- names that are declared

-- what some trees declare, after what was added, is what is to be added of all
pub record Declaring (levels : ℕ) (start : UsedPath) (f : Forest) (old : List DeclaredName) (p : UsedPath)
    (rest : Forest) (now : List DeclaredName) : Type 0 where
  pub same : now ++ names_by (used_names (levels - 1)) start p rest ≡ old ++ used_names levels start f

pub no_levels : (levels : ℕ) (start : UsedPath) (f : Forest) (old : List DeclaredName) → levels ≡ 0
    → old ≡ old ++ used_names levels start f
unfolding used_names
no_levels levels start f old e = sym (ap (λ n. old ++ used_names n start f) e ∙ append-nil old)

pub begins : (levels : ℕ) (start : UsedPath) (f : Forest) (old : List DeclaredName) → 0 < levels
    → Declaring levels start f old start f old
unfolding used_names
begins zero start f old h = absurd (omega (arith, h))
begins (suc n) start f old h =
    let one : suc n - 1 ≡ n = omega arith in
    record { same = ap (λ k. old ++ names_by (used_names k) start start f) one }

module _ (levels : ℕ) (start : UsedPath) (f : Forest) (old : List DeclaredName) (p : UsedPath)
    (rest : Forest) (now : List DeclaredName) (h : Declaring levels start f old p rest now) where
  abbrev more : UsedPath → Forest → List DeclaredName
  more q g = names_by (used_names (levels - 1)) start q g

  pub at_end : (l : Leaf) → first rest ≡ Some (Leaf_tree l) → ends_use l ≡ true
      → now ≡ old ++ used_names levels start f
  at_end l is e =
      sym (ap (λ g. now ++ more p g) (whole rest (Leaf_tree l) is)
      ∙ (ap (λ b. now ++ (if b then [] else declared_at p l (rest_of rest)
      ++ more (next_path start p l (rest_of rest)) (rest_of rest))) e ∙ append-nil now)) ∙ h.same

  pub leaf_on : (l : Leaf) (q : UsedPath) (after_it : List DeclaredName) → first rest ≡ Some (Leaf_tree l)
      → ends_use l ≡ false
      → after_it ≡ now ++ declared_at p l (rest_of rest) → q ≡ next_path start p l (rest_of rest)
      → Declaring levels start f old q (rest_of rest) after_it
  leaf_on l q after_it is e added walked =
      let after = next_path start p l (rest_of rest) in
      record {
        same = ap (λ x. after_it ++ more x (rest_of rest)) walked
            ∙ (ap (λ xs. xs ++ more after (rest_of rest)) added
            ∙ (append_assoc now (declared_at p l (rest_of rest)) (more after (rest_of rest))
            ∙ (sym (ap (λ b. now ++ (if b then [] else declared_at p l (rest_of rest) ++ more after (rest_of rest))) e)
            ∙ (sym (ap (λ g. now ++ more p g) (whole rest (Leaf_tree l) is)) ∙ h.same))));
      }

  pub group_on : (d : Delimiter) (inside : Forest) (after_it : List DeclaredName)
      → first rest ≡ Some (Group_tree d inside)
      → after_it ≡ now ++ used_names (levels - 1) p inside
      → Declaring levels start f old p (rest_of rest) after_it
  group_on d inside after_it is added = record {
    same = ap (λ xs. xs ++ more p (rest_of rest)) added
        ∙ (append_assoc now (used_names (levels - 1) p inside) (more p (rest_of rest))
        ∙ (sym (ap (λ g. now ++ more p g) (whole rest (Group_tree d inside) is)) ∙ h.same));
  }

  pub all_added : None ≡ first rest → now ≡ old ++ used_names levels start f
  all_added e = sym (ap (λ g. now ++ more p g) (nothing rest (sym e)) ∙ append-nil now) ∙ h.same
