-- What is left to be added, as trees are read one after another.
use Rattle.std.proofs.Common.{ℕ, zero, suc, ◌-◌, ◌≡◌, ◌<◌, true, false, List, [], ◌++◌, Some, None, refl, ap, sym, ◌∙◌}
use Rattle.std.proofs.Common.{arith, append_assoc, append-nil}
use Rattle.std.specs.Prelude.{if◌then◌else◌, unwrap_or}
use Rattle.mbe_tt.specs.Trees.Leaf.{Leaf}
use Rattle.mbe_tt.specs.Trees.Tree.{Forest, Leaf_tree, Group_tree, none, leaf, group, first, rest_of}
use Rattle.mbe_tt.specs.declared.tt.Delimiter.{Delimiter}
use Rattle.mbe_tt.proofs.Trees.Firsts.{whole, nothing}
use Rattle.mbe_cfg.specs.CrateExports.Exports.{Export, UsePath, crate_at, crate_of, ends_use, exported, exports_at}
use Rattle.mbe_cfg.specs.CrateExports.Exports.{exports_in, next, uses_by, uses_in}

-- ---- names of crates

crate_by : (name : List ℕ) (f : Forest) → crate_of name f ≡ unwrap_or (crate_at name f) (crate_of name (rest_of f))
unfolding crate_of
crate_by name none = refl
crate_by name (leaf l rest) = refl
crate_by name (group d inside rest) = refl

pub crate_here : (name found : List ℕ) (f : Forest) → crate_at name f ≡ Some found → found ≡ crate_of name f
crate_here name found f e =
    sym (crate_by name f ∙ ap (λ o. unwrap_or o (crate_of name (rest_of f))) e)

pub crate_further : (name : List ℕ) (f rest : Forest) → crate_at name f ≡ None → rest ≡ rest_of f
    → crate_of name rest ≡ crate_of name f
crate_further name f rest e is =
    ap (crate_of name) is ∙ sym (crate_by name f ∙ ap (λ o. unwrap_or o (crate_of name (rest_of f))) e)

pub crate_last : (name : List ℕ) (f : Forest) → None ≡ first f → name ≡ crate_of name f
unfolding crate_of
crate_last name f e = sym (ap (crate_of name) (nothing f (sym e)))

-- ---- paths

-- what some trees name, after what was added, is what is to be added of all
pub record ModuleCursor (levels : ℕ) (by : List ℕ) (root : Forest) (start : UsePath) (f : Forest) (old : List Export)
    (w : UsePath)
    (rest : Forest) (now : List Export) : Type 0 where
  pub same : now ++ uses_by (uses_in (levels - 1) by root) by root start w rest ≡ old ++ uses_in levels by root start f

pub no_levels : (levels : ℕ) (by : List ℕ) (root : Forest) (start : UsePath) (f : Forest) (old : List Export)
    → levels ≡ 0 → old ≡ old ++ uses_in levels by root start f
unfolding uses_in
no_levels levels by root start f old e =
    sym (ap (λ n. old ++ uses_in n by root start f) e ∙ append-nil old)

pub begins : (levels : ℕ) (by : List ℕ) (root : Forest) (start : UsePath) (f : Forest) (old : List Export) → 0 < levels
    → ModuleCursor levels by root start f old start f old
unfolding uses_in
begins zero by root start f old h = absurd (omega (arith, h))
begins (suc n) by root start f old h =
    let one : suc n - 1 ≡ n = omega arith in
    record { same = ap (λ k. old ++ uses_by (uses_in k by root) by root start start f) one }

module _ (levels : ℕ) (by : List ℕ) (root : Forest) (start : UsePath) (f : Forest) (old : List Export) (w : UsePath)
    (rest : Forest) (now : List Export) (h : ModuleCursor levels by root start f old w rest now) where
  abbrev more : UsePath → Forest → List Export
  more v g = uses_by (uses_in (levels - 1) by root) by root start v g

  pub at_end : (l : Leaf) → first rest ≡ Some (Leaf_tree l) → ends_use l ≡ true
      → now ≡ old ++ uses_in levels by root start f
  at_end l is e =
      sym (ap (λ g. now ++ more w g) (whole rest (Leaf_tree l) is)
      ∙ (ap (λ b. now ++ (if b then [] else exported by w l (rest_of rest)
      ++ more (next root start w l (rest_of rest)) (rest_of rest))) e ∙ append-nil now)) ∙ h.same

  pub leaf_on : (l : Leaf) (v : UsePath) (after_it : List Export) → first rest ≡ Some (Leaf_tree l) → ends_use l ≡ false
      → after_it ≡ now ++ exported by w l (rest_of rest) → v ≡ next root start w l (rest_of rest)
      → ModuleCursor levels by root start f old v (rest_of rest) after_it
  leaf_on l v after_it is e added walked =
      let after = next root start w l (rest_of rest) in
      record {
        same = ap (λ x. after_it ++ more x (rest_of rest)) walked
            ∙ (ap (λ xs. xs ++ more after (rest_of rest)) added
            ∙ (append_assoc now (exported by w l (rest_of rest)) (more after (rest_of rest))
            ∙ (sym (ap (λ b. now ++ (if b then [] else exported by w l (rest_of rest) ++ more after (rest_of rest))) e)
            ∙ (sym (ap (λ g. now ++ more w g) (whole rest (Leaf_tree l) is)) ∙ h.same))));
      }

  pub group_on : (d : Delimiter) (inside : Forest) (after_it : List Export) → first rest ≡ Some (Group_tree d inside)
      → after_it ≡ now ++ uses_in (levels - 1) by root w inside
      → ModuleCursor levels by root start f old w (rest_of rest) after_it
  group_on d inside after_it is added = record {
    same = ap (λ xs. xs ++ more w (rest_of rest)) added
        ∙ (append_assoc now (uses_in (levels - 1) by root w inside) (more w (rest_of rest))
        ∙ (sym (ap (λ g. now ++ more w g) (whole rest (Group_tree d inside) is)) ∙ h.same));
  }

  pub all_added : None ≡ first rest → now ≡ old ++ uses_in levels by root start f
  all_added e = sym (ap (λ g. now ++ more w g) (nothing rest (sym e)) ∙ append-nil now) ∙ h.same

-- ---- roots

exports_by : (by : List ℕ) (root f : Forest)
    → exports_in by root f ≡ exports_at by root f ++ exports_in by root (rest_of f)
unfolding exports_in
exports_by by root none = refl
exports_by by root (leaf l rest) = refl
exports_by by root (group d inside rest) = refl

pub exports_on : (by : List ℕ) (root f rest : Forest) (old now after_it whole : List Export) → rest ≡ rest_of f
    → now ++ exports_in by root f ≡ whole → after_it ≡ now ++ exports_at by root f
    → after_it ++ exports_in by root rest ≡ whole
exports_on by root f rest old now after_it whole is h added =
    ap (λ g. after_it ++ exports_in by root g) is
    ∙ (ap (λ xs. xs ++ exports_in by root (rest_of f)) added
    ∙ (append_assoc now (exports_at by root f) (exports_in by root (rest_of f))
    ∙ (sym (ap (λ xs. now ++ xs) (exports_by by root f)) ∙ h)))

pub exports_last : (by : List ℕ) (root f : Forest) (now after_it whole : List Export) → None ≡ first f
    → now ++ exports_in by root f ≡ whole → after_it ≡ now ++ exports_at by root f → after_it ≡ whole
unfolding exports_in
exports_last by root f now after_it whole e h added =
    added ∙ (ap (λ g. now ++ exports_at by root g) (nothing f (sym e))
    ∙ (sym (ap (λ g. now ++ exports_in by root g) (nothing f (sym e))) ∙ h))
