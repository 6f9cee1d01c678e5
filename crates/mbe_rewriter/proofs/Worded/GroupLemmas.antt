-- What of an expansion with groups of fragments is left to be written, one tree after another.
use Rattle.std.proofs.Common.{ℕ, suc, ◌+◌, ◌-◌, ◌≡◌, ◌<◌, Bool, true, false, Some, None, refl, ap, sym, ◌∙◌}
use Rattle.std.proofs.Common.{◌∷◌, arith}
use Rattle.std.specs.Prelude.{if◌then◌else◌}
use Rattle.std.proofs.lemmas.Option.{same_Some}
use Rattle.mbe_tt.specs.Buffers.GroupStack.{GroupStack, put, closed}
use Rattle.mbe_tt.specs.Trees.FragmentGroup.{is_around, is_fragment_group}
use Rattle.mbe_tt.specs.Trees.Leaf.{Leaf}
use Rattle.mbe_tt.specs.Trees.Tree.{Forest, Leaf_tree, Group_tree, none, leaf, group, append, first, rest_of, flat_len}
use Rattle.mbe_tt.specs.declared.fragment_group.FragmentGroup.TheVariants as groups
use Rattle.mbe_tt.specs.declared.span.Span.{Span}
use Rattle.mbe_tt.specs.declared.tt.Delimiter.{Delimiter}
use Rattle.mbe_rewriter.specs.WholeFragments.BuiltinCalls.{begun, ended, grouped}
use Rattle.mbe_rewriter.specs.WholeFragments.FragmentGroups.{inside_only, is_bare, needs_semicolon, open_by, open_fragment}
use Rattle.mbe_rewriter.specs.WholeFragments.FragmentGroups.{open_group, open_in, peeled, plain_span, written_leaf}
use Rattle.mbe_rewriter.specs.WholeFragments.Receivers.{around_fragment, prefix_after, semicolon_if}
use Rattle.mbe_rewriter.specs.declared.whole_fragments.fragment_groups.Opening.{Opening}
use Rattle.mbe_rewriter.specs.declared.whole_fragments.receivers.Surroundings.{Surroundings}
use Rattle.mbe_rewriter.specs.declared.whole_fragments.receivers.TreePrefix.{TreePrefix}
use Rattle.mbe_rewriter.specs.declared.whole_fragments.receivers.TreePrefix.TheVariants as prefix
use Rattle.mbe_tt.proofs.Trees.Firsts.{nothing, whole}
use Rattle.mbe_rewriter.proofs.Worded.ReceiverLemmas.{held_written}
use Rattle.mbe_rewriter.proofs.Worded.WordLemmas.{group_written}
use Rattle.mbe_rewriter.proofs.Worded.WrittenLemmas.{Left, on, passes}

-- ---- groups around all trees

peel_if : (b : Bool) (d : Delimiter) (f g : Forest) → (if b then Some f else None) ≡ Some g
    → (if b then peeled f else group d f none) ≡ peeled g
peel_if true d f g e = ap peeled (same_Some f g e)
peel_if false d f g e = cc

pub peel_on : (f g : Forest) → inside_only f ≡ Some g → peeled f ≡ peeled g
peel_on none g e = cc
peel_on (leaf l rest) g e = cc
peel_on (group d inside none) g e = peel_if (is_fragment_group d) d inside g e
peel_on (group d inside (leaf l rest)) g e = cc
peel_on (group d inside (group x more rest)) g e = cc

stays_if : (b : Bool) (d : Delimiter) (f : Forest) → (if b then Some f else None) ≡ None
    → (if b then peeled f else group d f none) ≡ group d f none
stays_if true d f e = cc
stays_if false d f e = refl

pub peel_end : (f : Forest) → inside_only f ≡ None → peeled f ≡ f
peel_end none e = refl
peel_end (leaf l rest) e = refl
peel_end (group d inside none) e = stays_if (is_fragment_group d) d inside e
peel_end (group d inside (leaf l rest)) e = refl
peel_end (group d inside (group x more rest)) e = refl

less_if : (b : Bool) (f g : Forest) → (if b then Some f else None) ≡ Some g → flat_len g < 2 + flat_len f + 0
less_if true f g e = let same = ap flat_len (same_Some f g e) in omega (arith, same)
less_if false f g e = cc

pub peel_less : (f g : Forest) → inside_only f ≡ Some g → flat_len g < flat_len f
peel_less none g e = cc
peel_less (leaf l rest) g e = cc
peel_less (group d inside none) g e = less_if (is_fragment_group d) inside g e
peel_less (group d inside (leaf l rest)) g e = cc
peel_less (group d inside (group x more rest)) g e = cc

-- ---- a fragment's group

pub fragment_written : (inner : Bool → Surroundings → Forest → Forest) (s : Surroundings) (p : TreePrefix)
    (d around : Delimiter) (f rest : Forest) (bare needed is_path : Bool) (span : Span)
    (now opened mid full next : GroupStack)
    → span ≡ plain_span d.opening → around ≡ around_fragment span → bare ≡ is_bare s p d f rest
    → needed ≡ needs_semicolon s d f rest → is_path ≡ is_around groups.Path d
    → opened ≡ begun bare around now → mid ≡ put (inner is_path s f) opened
    → full ≡ put (semicolon_if needed span) mid → next ≡ ended bare around full
    → next ≡ put (open_fragment inner s p d f rest) now
fragment_written inner s p d around f rest bare needed is_path span now opened mid full next sp a b n i o m u e =
    let held = λ (x y : Bool) (z : Span). append (inner x s f) (semicolon_if y z) in
    let place = plain_span d.opening in
    group_written bare around (held is_path needed span) now opened full next o
    (held_written (inner is_path s f) (semicolon_if needed span) opened mid full m u) e
    ∙ ap (λ x. put (grouped bare x (held is_path needed span)) now) a
    ∙ ap (λ x. put (grouped bare (around_fragment x) (held is_path needed x)) now) sp
    ∙ ap (λ x. put (grouped x (around_fragment place) (held is_path needed place)) now) b
    ∙ ap (λ x. put (grouped (is_bare s p d f rest) (around_fragment place) (held x needed place)) now) i
    ∙ ap (λ x. put (grouped (is_bare s p d f rest) (around_fragment place) (held (is_around groups.Path d) x place))
    now)
    n

-- ---- another group

pub plain_written : (levels : ℕ) (o : Opening) (s within : Surroundings) (d : Delimiter) (f : Forest)
    (now opened mid next : GroupStack) → within ≡ s
    → opened ≡ (record { opening = d.opening; close = d.opening; kind = d.kind }, none) ∷ now
    → mid ≡ put (open_in levels o false within f) opened → next ≡ closed d.close mid
    → next ≡ put (group d (open_in levels o false s f) none) now
plain_written levels o s within d f now opened mid next w h m e =
    group_written false d (open_in levels o false within f) now opened mid next h m e
    ∙ ap (λ x. put (group d (open_in levels o false x f) none) now) w

-- ---- all trees

one_more : (n : ℕ) → 0 < n → n ≡ suc (n - 1)
one_more n h = omega (arith, h)

pub as_they_are : (levels : ℕ) (o : Opening) (is_path : Bool) (s : Surroundings) (f : Forest) → levels ≡ 0
    → open_in levels o is_path s f ≡ f
unfolding open_in
as_they_are levels o is_path s f e = ap (λ n. open_in n o is_path s f) e

-- what is left of an expansion, where its groups are so many deep
abbrev pub left_of : ℕ → Opening → Bool → Surroundings → TreePrefix → Forest → Forest
left_of levels o is_path s p f = open_by (open_in (levels - 1) o) o is_path s p f

open_suc : (n : ℕ) (o : Opening) (is_path : Bool) (s : Surroundings) (f : Forest) → open_in (suc n) o is_path s f
    ≡ open_by (open_in n o) o is_path s prefix.Other f
unfolding open_in
open_suc n o is_path s f = refl

pub all_left : (levels : ℕ) (o : Opening) (is_path : Bool) (s : Surroundings) (f : Forest) → 0 < levels
    → open_in levels o is_path s f ≡ left_of levels o is_path s prefix.Other f
all_left levels o is_path s f h =
    ap (λ n. open_in n o is_path s f) (one_more levels h) ∙ open_suc (levels - 1) o is_path s f

pub none_left : (levels : ℕ) (o : Opening) (is_path : Bool) (s : Surroundings) (p : TreePrefix) (f : Forest)
    → first f ≡ None → left_of levels o is_path s p f ≡ none
none_left levels o is_path s p f e = ap (left_of levels o is_path s p) (nothing f e)

leaf_left : (levels : ℕ) (o : Opening) (is_path : Bool) (s : Surroundings) (p : TreePrefix) (f : Forest) (l : Leaf)
    → first f ≡ Some (Leaf_tree l) → left_of levels o is_path s p f
    ≡ append (written_leaf is_path l (rest_of f)) (left_of levels o is_path s (prefix_after l p) (rest_of f))
leaf_left levels o is_path s p f l e = ap (left_of levels o is_path s p) (whole f (Leaf_tree l) e)

group_left : (levels : ℕ) (o : Opening) (is_path : Bool) (s : Surroundings) (p : TreePrefix) (f inside : Forest)
    (d : Delimiter) → first f ≡ Some (Group_tree d inside) → left_of levels o is_path s p f
    ≡ append (open_group (open_in (levels - 1) o) o s p d inside (rest_of f))
    (left_of levels o is_path s prefix.Other (rest_of f))
group_left levels o is_path s p f inside d e = ap (left_of levels o is_path s p) (whole f (Group_tree d inside) e)

-- a leaf was written
pub leaf_on : (all : Forest) (levels : ℕ) (o : Opening) (is_path : Bool) (s : Surroundings) (p q : TreePrefix)
    (f next ahead : Forest) (l : Leaf) (old now after : GroupStack)
    → Left all old (left_of levels o is_path s p f) now → first f ≡ Some (Leaf_tree l) → next ≡ rest_of f
    → ahead ≡ next → q ≡ prefix_after l p → after ≡ put (written_leaf is_path l ahead) now
    → Left all old (left_of levels o is_path s q next) after
leaf_on all levels o is_path s p q f next ahead l old now after h is e a x k =
    passes all _ (left_of levels o is_path s q next) old after
    (on all (left_of levels o is_path s p f) (written_leaf is_path l (rest_of f))
    (left_of levels o is_path s (prefix_after l p) (rest_of f)) old now after h (leaf_left levels o is_path s p f l is)
    (k ∙ ap (λ g. put (written_leaf is_path l g) now) (a ∙ e)))
    (ap (λ j. left_of levels o is_path s j (rest_of f)) (sym x) ∙ ap (left_of levels o is_path s q) (sym e))

-- a group was written
pub group_on : (all : Forest) (levels : ℕ) (o : Opening) (is_path : Bool) (s : Surroundings) (p : TreePrefix)
    (f next ahead inside : Forest) (d : Delimiter) (old now after : GroupStack)
    → Left all old (left_of levels o is_path s p f) now → first f ≡ Some (Group_tree d inside) → next ≡ rest_of f
    → ahead ≡ next → after ≡ put (open_group (open_in (levels - 1) o) o s p d inside ahead) now
    → Left all old (left_of levels o is_path s prefix.Other next) after
group_on all levels o is_path s p f next ahead inside d old now after h is e a k =
    passes all _ (left_of levels o is_path s prefix.Other next) old after
    (on all (left_of levels o is_path s p f) (open_group (open_in (levels - 1) o) o s p d inside (rest_of f))
    (left_of levels o is_path s prefix.Other (rest_of f)) old now after h
    (group_left levels o is_path s p f inside d is)
    (k ∙ ap (λ g. put (open_group (open_in (levels - 1) o) o s p d inside g) now) (a ∙ e)))
    (ap (left_of levels o is_path s prefix.Other) (sym e))
