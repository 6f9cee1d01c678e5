-- What is left to be written, as the trees of an argument are written one after another.
use Rattle.std.proofs.Common.{ℕ, zero, suc, ◌-◌, ◌≡◌, ◌<◌, ◌∷◌, length, Some, None, refl, ap, sym, ◌∙◌, arith}
use Rattle.mbe_tt.specs.Buffers.GroupStack.{GroupStack, put, closed}
use Rattle.mbe_tt.specs.Trees.Leaf.{Leaf}
use Rattle.mbe_tt.specs.Trees.Tree.{Forest, Leaf_tree, Group_tree, none, leaf, group, first, rest_of, one_leaf}
use Rattle.mbe_tt.specs.declared.tt.Delimiter.{Delimiter}
use Rattle.mbe_tt.proofs.Buffers.Built.{length-put}
use Rattle.mbe_tt.proofs.Buffers.Grown.{put-none, put_one}
use Rattle.mbe_tt.proofs.Trees.Firsts.{whole, nothing}
use Rattle.mbe_rewriter.specs.PunctSpacing.{spaced_by, spaced_in, spaced_leaf}

-- what is written of some trees, once the others are, is what is to be written of all
pub record Left (levels : ℕ) (f : Forest) (old : GroupStack) (rest : Forest) (now : GroupStack) : Type 0 where
  pub same : put (spaced_by (spaced_in (levels - 1)) rest) now ≡ put (spaced_in levels f) old
  pub groups : length now ≡ length old

pub as_they_are : (levels : ℕ) (f : Forest) → levels ≡ 0 → spaced_in levels f ≡ f
unfolding spaced_in
as_they_are levels f e = ap (λ n. spaced_in n f) e

pub begins : (levels : ℕ) (f : Forest) (b : GroupStack) → 0 < levels → Left levels f b f b
unfolding spaced_in
begins zero f b h = absurd (omega (arith, h))
begins (suc n) f b h =
    let one : suc n - 1 ≡ n = omega arith in
    record { same = ap (λ k. put (spaced_by (spaced_in k) f) b) one; groups = refl }

pub leaf_on : (levels : ℕ) (f rest : Forest) (old now next : GroupStack) (l k : Leaf) → Left levels f old rest now
    → first rest ≡ Some (Leaf_tree l)
    → k ≡ spaced_leaf l (rest_of rest) → next ≡ put (one_leaf k) now → Left levels f old (rest_of rest) next
leaf_on levels f rest old now next l k h is parts e =
    let inner = spaced_in (levels - 1) in
    let more = spaced_by inner (rest_of rest) in
    record {
      same = ap (put more) e ∙ put_one (Leaf_tree k) more now ∙ ap (λ x. put (leaf x more) now) parts
          ∙ ap (λ g. put (spaced_by inner g) now) (sym (whole rest (Leaf_tree l) is)) ∙ h.same;
      groups = ap length e ∙ length-put now (one_leaf k) ∙ h.groups;
    }

pub group_on : (levels : ℕ) (f rest inside : Forest) (d : Delimiter) (old now opened mid next : GroupStack)
    → Left levels f old rest now
    → first rest ≡ Some (Group_tree d inside)
    → opened ≡ (record { opening = d.opening; close = d.opening; kind = d.kind }, none) ∷ now
    → mid ≡ put (spaced_in (levels - 1) inside) opened → next ≡ closed d.close mid
    → Left levels f old (rest_of rest) next
group_on levels f rest inside d old now opened mid next h is o m e =
    let inner = spaced_in (levels - 1) in
    let more = spaced_by inner (rest_of rest) in
    let w : next ≡ put (group d (inner inside) none) now = e ∙ ap (closed d.close) (m ∙ ap (put (inner inside)) o) in
    record {
      same = ap (put more) w ∙ put_one (Group_tree d (inner inside)) more now
          ∙ ap (λ g. put (spaced_by inner g) now) (sym (whole rest (Group_tree d inside) is)) ∙ h.same;
      groups = ap length w ∙ length-put now (group d (inner inside) none) ∙ h.groups;
    }

pub all_written : (levels : ℕ) (f rest : Forest) (old now : GroupStack) → Left levels f old rest now → first rest ≡ None
    → now ≡ put (spaced_in levels f) old
all_written levels f rest old now h e =
    put-none now ∙ ap (λ g. put (spaced_by (spaced_in (levels - 1)) g) now) (sym (nothing rest e)) ∙ h.same

-- a group that is opened among some isn't the outermost one
pub is_inside : (f : Forest) (old now opened mid : GroupStack) (x : Delimiter × Forest) → 0 < length old
    → length now ≡ length old → opened ≡ x ∷ now
    → mid ≡ put f opened → 1 < length mid
is_inside f old now opened mid x some groups o m =
    let l = ap length m ∙ length-put opened f ∙ ap length o in
    omega (arith, some, groups, l)
