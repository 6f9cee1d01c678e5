-- What of an expansion with variables in groups is left to be written, one tree after another.
use Rattle.std.proofs.Common.{ℕ, suc, ◌-◌, ◌≡◌, ◌<◌, Bool, Some, None, refl, ap, sym, ◌∙◌, arith}
use Rattle.mbe_tt.specs.Buffers.GroupStack.{GroupStack, put}
use Rattle.mbe_tt.specs.Trees.Leaf.{Leaf}
use Rattle.mbe_tt.specs.Trees.Tree.{Forest, Leaf_tree, Group_tree, none, append, first, rest_of, one_leaf}
use Rattle.mbe_tt.specs.declared.tt.Delimiter.{Delimiter}
use Rattle.mbe_rewriter.specs.declared.whole_fragments.receivers.Surroundings.{Surroundings}
use Rattle.mbe_rewriter.specs.declared.whole_fragments.receivers.TreePrefix.{TreePrefix}
use Rattle.mbe_rewriter.specs.declared.whole_fragments.receivers.TreePrefix.TheVariants as prefix
use Rattle.mbe_rewriter.specs.WholeFragments.Receivers.{is_unwrapped, parenthesize_receivers_by, final_delimiter}
use Rattle.mbe_rewriter.specs.WholeFragments.Receivers.{parenthesize_receivers_in, needs_semicolon, prefix_after}
use Rattle.mbe_rewriter.specs.WholeFragments.Receivers.{semicolon_if, settled, surroundings_in}
use Rattle.mbe_rewriter.specs.WholeFragments.BuiltinCalls.{grouped}
use Rattle.mbe_tt.proofs.Buffers.Grown.{put-put}
use Rattle.mbe_tt.proofs.Trees.Firsts.{nothing, whole}
use Rattle.mbe_rewriter.proofs.Worded.WrittenLemmas.{Left, on, passes}

one_more : (n : ℕ) → 0 < n → n ≡ suc (n - 1)
one_more n h = omega (arith, h)

pub as_they_are : (levels : ℕ) (s : Surroundings) (f : Forest) → levels ≡ 0 → parenthesize_receivers_in levels s f ≡ f
unfolding parenthesize_receivers_in
as_they_are levels s f e = ap (λ n. parenthesize_receivers_in n s f) e

-- what is left of an expansion, where its groups are so many deep
abbrev pub left_of : ℕ → Surroundings → TreePrefix → Forest → Forest
left_of levels s p f = parenthesize_receivers_by (parenthesize_receivers_in (levels - 1)) s p f

settled_suc : (n : ℕ) (s : Surroundings) (f : Forest) → parenthesize_receivers_in (suc n) s f
    ≡ parenthesize_receivers_by (parenthesize_receivers_in n) s prefix.Other f
unfolding parenthesize_receivers_in
settled_suc n s f = refl

pub all_left : (levels : ℕ) (s : Surroundings) (f : Forest) → 0 < levels
    → parenthesize_receivers_in levels s f ≡ left_of levels s prefix.Other f
all_left levels s f h = ap (λ n. parenthesize_receivers_in n s f) (one_more levels h) ∙ settled_suc (levels - 1) s f

pub none_left : (levels : ℕ) (s : Surroundings) (p : TreePrefix) (f : Forest) → first f ≡ None
    → left_of levels s p f ≡ none
none_left levels s p f e = ap (left_of levels s p) (nothing f e)

pub leaf_left : (levels : ℕ) (s : Surroundings) (p : TreePrefix) (f : Forest) (l : Leaf) → first f ≡ Some (Leaf_tree l)
    → left_of levels s p f ≡ append (one_leaf l) (left_of levels s (prefix_after l p) (rest_of f))
leaf_left levels s p f l e = ap (left_of levels s p) (whole f (Leaf_tree l) e)

-- a group, as it is written before those
abbrev pub settled_group : ℕ → Surroundings → TreePrefix → Delimiter → Forest → Forest → Forest
settled_group levels s p d inside rest =
    settled s p d inside (parenthesize_receivers_in (levels - 1) (surroundings_in s p d.kind) inside) rest

pub group_left : (levels : ℕ) (s : Surroundings) (p : TreePrefix) (f inside : Forest) (d : Delimiter)
    → first f ≡ Some (Group_tree d inside)
    → left_of levels s p f
    ≡ append (settled_group levels s p d inside (rest_of f)) (left_of levels s prefix.Other (rest_of f))
group_left levels s p f inside d e = ap (left_of levels s p) (whole f (Group_tree d inside) e)

-- a leaf was written
pub leaf_on : (whole : Forest) (levels : ℕ) (s : Surroundings) (p q : TreePrefix) (f next : Forest) (l : Leaf)
    (old now after : GroupStack)
    → Left whole old (left_of levels s p f) now → first f ≡ Some (Leaf_tree l) → next ≡ rest_of f
    → q ≡ prefix_after l p → after ≡ put (one_leaf l) now → Left whole old (left_of levels s q next) after
leaf_on whole levels s p q f next l old now after h is e x k =
    passes whole _ (left_of levels s q next) old after
    (on whole (left_of levels s p f) (one_leaf l) (left_of levels s (prefix_after l p) (rest_of f)) old now after h
    (leaf_left levels s p f l is) k)
    (ap (λ j. left_of levels s j (rest_of f)) (sym x) ∙ ap (left_of levels s q) (sym e))

-- what a group holds, with its `;`
pub held_written : (written end : Forest) (opened mid next : GroupStack) → mid ≡ put written opened
    → next ≡ put end mid → next ≡ put (append written end) opened
held_written written end opened mid next m e = e ∙ ap (put end) m ∙ put-put written end opened

-- a group was written
pub group_on : (whole : Forest) (levels : ℕ) (s within : Surroundings) (p : TreePrefix) (bare needed : Bool)
    (f next ahead inside : Forest) (d final : Delimiter) (old now after : GroupStack)
    → Left whole old (left_of levels s p f) now → first f ≡ Some (Group_tree d inside)
    → next ≡ rest_of f → ahead ≡ next → bare ≡ is_unwrapped p d inside ahead
    → needed ≡ needs_semicolon s d inside ahead → within ≡ surroundings_in s p d.kind → final ≡ final_delimiter d
    → after ≡ put (grouped bare final (append (parenthesize_receivers_in (levels - 1) within inside)
    (semicolon_if needed d.opening))) now
    → Left whole old (left_of levels s prefix.Other next) after
group_on whole levels s within p bare needed f next ahead inside d final old now after h is e a o n i w k =
    let there = a ∙ e in
    let held = λ (x : Surroundings) (y : Bool). append (parenthesize_receivers_in (levels - 1) x inside)
    (semicolon_if y d.opening) in
    passes whole _ (left_of levels s prefix.Other next) old after
    (on whole (left_of levels s p f) (settled_group levels s p d inside (rest_of f))
    (left_of levels s prefix.Other (rest_of f)) old now after h (group_left levels s p f inside d is)
    (k ∙ ap (λ x. put (grouped bare x (held within needed)) now) w
    ∙ ap (λ x. put (grouped x (final_delimiter d) (held within needed)) now) (o ∙ ap (is_unwrapped p d inside) there)
    ∙ ap (λ x. put (grouped (is_unwrapped p d inside (rest_of f)) (final_delimiter d) (held x needed)) now) i
    ∙ ap (λ x. put (grouped (is_unwrapped p d inside (rest_of f)) (final_delimiter d)
    (held (surroundings_in s p d.kind) x)) now) (n ∙ ap (needs_semicolon s d inside) there)))
    (ap (left_of levels s prefix.Other) (sym e))
