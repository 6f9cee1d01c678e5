-- What is left to be written, as the trees of another crate are written one after another.
use Rattle.std.proofs.Common.{ℕ, zero, suc, ◌-◌, ◌≡◌, ◌<◌, Bool, false, List, [], ◌∷◌, length, Some, None, Result, Ok}
use Rattle.std.proofs.Common.{Err, refl, ap, sym, ◌∙◌, arith}
use Rattle.std.specs.Prelude.{OnOk}
use Rattle.mbe_tt.specs.Buffers.GroupStack.{GroupStack, put, closed}
use Rattle.mbe_tt.specs.Trees.Leaf.{Leaf}
use Rattle.mbe_tt.specs.Trees.Tree.{Forest, Leaf_tree, Group_tree, none, group, append, first, rest_of, one_leaf}
use Rattle.mbe_tt.specs.declared.span.Span.{Span}
use Rattle.mbe_tt.specs.declared.tt.Delimiter.{Delimiter}
use Rattle.mbe_tt.specs.declared.tt.Spacing.TheVariants.{Alone, Joint}
use Rattle.mbe_tt.proofs.Buffers.Built.{length-put}
use Rattle.mbe_tt.proofs.Buffers.Grown.{put-none}
use Rattle.mbe_tt.proofs.Trees.Firsts.{whole, nothing}
use Rattle.mbe_tt.proofs.Trees.Joined.{append_append}
use Rattle.mbe_session.specs.DollarCrate.{colon, colons, is_dollar, replaced_by, replaced_in, replaced_leaf}

-- what is written of some trees, once the others are, is what is to be written of all
pub record Left (levels : ℕ) (name : List ℕ) (f : Forest) (old : GroupStack) (after : Bool) (rest : Forest)
    (now : GroupStack) : Type 0 where
  pub same : put (replaced_by (replaced_in (levels - 1) name) name after rest) now ≡ put (replaced_in levels name f) old
  pub groups : length now ≡ length old

put_both : (f g : Forest) (b : GroupStack) → put g (put f b) ≡ put (append f g) b
put_both f g [] = refl
put_both f g (o ∷ outer) =
    ap (λ (k : Forest). let x : Delimiter × Forest = (o.0, k) in x ∷ outer) (append_append o.1 f g)

-- a `::` is two leaves
both_colons : (at : Span) (b : GroupStack)
    → put (one_leaf (colon at Alone)) (put (one_leaf (colon at Joint)) b) ≡ put (colons at) b
both_colons at b = put_both (one_leaf (colon at Joint)) (one_leaf (colon at Alone)) b

pub colons_pushed : {X E : Type 0} (r : Result X E) (at : Span) (a b : Leaf) (old mid new : GroupStack)
    → a ≡ colon at Joint → b ≡ colon at Alone → mid ≡ put (one_leaf a) old → OnOk r (new ≡ put (one_leaf b) mid)
    → OnOk r (new ≡ put (colons at) old)
colons_pushed (Ok x) at a b old mid new joint alone one two =
    two ∙ (ap (put (one_leaf b)) one ∙ (ap (λ l. put (one_leaf b) (put (one_leaf l) old)) joint
    ∙ (ap (λ l. put (one_leaf l) (put (one_leaf (colon at Joint)) old)) alone ∙ both_colons at old)))
colons_pushed (Err x) at a b old mid new joint alone one two = two

pub as_they_are : (levels : ℕ) (name : List ℕ) (f : Forest) → levels ≡ 0 → replaced_in levels name f ≡ f
unfolding replaced_in
as_they_are levels name f e = ap (λ n. replaced_in n name f) e

pub begins : (levels : ℕ) (name : List ℕ) (f : Forest) (b : GroupStack) → 0 < levels → Left levels name f b false f b
unfolding replaced_in
begins zero name f b h = absurd (omega (arith, h))
begins (suc n) name f b h =
    let one : suc n - 1 ≡ n = omega arith in
    record { same = ap (λ k. put (replaced_by (replaced_in k name) name false f) b) one; groups = refl }

pub leaf_on : (levels : ℕ) (name : List ℕ) (f rest : Forest) (old now next : GroupStack) (after dollar : Bool)
    (l : Leaf)
    → Left levels name f old after rest now → first rest ≡ Some (Leaf_tree l)
    → next ≡ put (replaced_leaf name after l (rest_of rest)) now → dollar ≡ is_dollar l
    → Left levels name f old dollar (rest_of rest) next
leaf_on levels name f rest old now next after dollar l h is e d =
    let inner = replaced_in (levels - 1) name in
    let written = replaced_leaf name after l (rest_of rest) in
    let more = replaced_by inner name (is_dollar l) (rest_of rest) in
    record {
      same = ap (λ b. put (replaced_by inner name b (rest_of rest)) next) d ∙ (ap (put more) e
          ∙ (put_both written more now
          ∙ (ap (λ g. put (replaced_by inner name after g) now) (sym (whole rest (Leaf_tree l) is)) ∙ h.same)));
      groups = ap length e ∙ length-put now written ∙ h.groups;
    }

pub group_on : (levels : ℕ) (name : List ℕ) (f rest inside : Forest) (d : Delimiter)
    (old now opened mid next : GroupStack) (after : Bool) → Left levels name f old after rest now
    → first rest ≡ Some (Group_tree d inside)
    → opened ≡ (record { opening = d.opening; close = d.opening; kind = d.kind }, none) ∷ now
    → mid ≡ put (replaced_in (levels - 1) name inside) opened → next ≡ closed d.close mid
    → Left levels name f old false (rest_of rest) next
group_on levels name f rest inside d old now opened mid next after h is o m e =
    let inner = replaced_in (levels - 1) name in
    let more = replaced_by inner name false (rest_of rest) in
    let w : next ≡ put (group d (inner inside) none) now = e ∙ ap (closed d.close) (m ∙ ap (put (inner inside)) o) in
    record {
      same = ap (put more) w ∙ (put_both (group d (inner inside) none) more now
          ∙ (ap (λ g. put (replaced_by inner name after g) now) (sym (whole rest (Group_tree d inside) is)) ∙ h.same));
      groups = ap length w ∙ length-put now (group d (inner inside) none) ∙ h.groups;
    }

pub all_written : (levels : ℕ) (name : List ℕ) (f rest : Forest) (old now : GroupStack) (after : Bool)
    → Left levels name f old after rest now → first rest ≡ None → now ≡ put (replaced_in levels name f) old
all_written levels name f rest old now after h e =
    put-none now ∙ (ap (λ g. put (replaced_by (replaced_in (levels - 1) name) name after g) now) (sym (nothing rest e))
    ∙ h.same)

-- a group that is opened among some isn't the outermost one
pub is_inside : (f : Forest) (old now opened mid : GroupStack) (x : Delimiter × Forest) → 0 < length old
    → length now ≡ length old → opened ≡ x ∷ now → mid ≡ put f opened → 1 < length mid
is_inside f old now opened mid x some groups o m =
    let l = ap length m ∙ length-put opened f ∙ ap length o in
    omega (arith, some, groups, l)
