-- What of an expansion is left to be written, one tree after another.
use Rattle.std.proofs.Common.{ℕ, zero, suc, ◌-◌, ◌≡◌, ◌<◌, Bool, true, false, Some, None, refl, ap, sym, ◌∙◌, arith}
use Rattle.mbe_tt.specs.Buffers.GroupStack.{GroupStack, put, closed}
use Rattle.mbe_tt.specs.Trees.Leaf.{Leaf}
use Rattle.mbe_tt.specs.Trees.Tree.{Forest, Leaf_tree, Group_tree, none, append, first, rest_of, one_leaf}
use Rattle.mbe_tt.specs.declared.tt.Delimiter.{Delimiter}
use Rattle.mbe_rewriter.specs.declared.whole_fragments.builtin_calls.BuiltinPrefix.{BuiltinPrefix}
use Rattle.mbe_rewriter.specs.declared.whole_fragments.builtin_calls.BuiltinPrefix.TheVariants as before
use Rattle.mbe_rewriter.specs.declared.whole_fragments.builtin_calls.Builtins.{Builtins}
use Rattle.mbe_rewriter.specs.declared.whole_fragments.builtin_calls.BuiltinContext.{BuiltinContext}
use Rattle.mbe_rewriter.specs.WholeFragments.BuiltinCalls.{after_leaf, begun, ended, grouped, in_group, is_unwrapped}
use Rattle.mbe_rewriter.specs.WholeFragments.BuiltinCalls.{kept, number_at, trees_skipped, expand_builtins_by}
use Rattle.mbe_rewriter.specs.WholeFragments.BuiltinCalls.{expand_builtins_in}
use Rattle.mbe_tt.proofs.Trees.Firsts.{nothing, whole}
use Rattle.mbe_rewriter.proofs.Worded.WrittenLemmas.{Left, on, passes}

one_more : (n : ℕ) → 0 < n → n ≡ suc (n - 1)
one_more n h = omega (arith, h)

pub as_they_are : (b : Builtins) (levels : ℕ) (m : BuiltinContext) (f : Forest) → levels ≡ 0
    → expand_builtins_in b levels m f ≡ f
unfolding expand_builtins_in
as_they_are b levels m f e = ap (λ n. expand_builtins_in b n m f) e

-- what is left of an expansion, where its groups are so many deep
abbrev pub left_of : Builtins → ℕ → BuiltinContext → ℕ → BuiltinPrefix → Forest → Forest
left_of b levels m n c f = expand_builtins_by (expand_builtins_in b (levels - 1)) b m n c f

worded_suc : (b : Builtins) (n : ℕ) (m : BuiltinContext) (f : Forest)
    → expand_builtins_in b (suc n) m f ≡ expand_builtins_by (expand_builtins_in b n) b m zero before.Other f
unfolding expand_builtins_in
worded_suc b n m f = refl

pub all_left : (b : Builtins) (levels : ℕ) (m : BuiltinContext) (f : Forest) → 0 < levels
    → expand_builtins_in b levels m f ≡ left_of b levels m 0 before.Other f
all_left b levels m f h = ap (λ n. expand_builtins_in b n m f) (one_more levels h) ∙ worded_suc b (levels - 1) m f

pub none_left : (b : Builtins) (levels : ℕ) (m : BuiltinContext) (n : ℕ) (c : BuiltinPrefix) (f : Forest) → first f
    ≡ None
    → left_of b levels m n c f ≡ none
none_left b levels m n c f e = ap (left_of b levels m n c) (nothing f e)

pub leaf_left : (b : Builtins) (levels : ℕ) (m : BuiltinContext) (n : ℕ) (c : BuiltinPrefix) (f : Forest) (l : Leaf)
    → first f ≡ Some (Leaf_tree l) → n ≡ 0
    → left_of b levels m n c f ≡ append (one_leaf (kept l (number_at b m c l (rest_of f))))
    (left_of b levels m (trees_skipped (number_at b m c l (rest_of f))) (after_leaf b c l) (rest_of f))
leaf_left b levels m n c f l e h =
    ap (λ k. left_of b levels m k c f) h ∙ ap (left_of b levels m 0 c) (whole f (Leaf_tree l) e)

pub group_left : (b : Builtins) (levels : ℕ) (m : BuiltinContext) (n : ℕ) (c : BuiltinPrefix) (f held : Forest)
    (d : Delimiter)
    → first f ≡ Some (Group_tree d held) → n ≡ 0
    → left_of b levels m n c f
    ≡ append (grouped (is_unwrapped m d) d (expand_builtins_in b (levels - 1) (in_group m c (is_unwrapped m d)) held))
    (left_of b levels m 0 before.Other (rest_of f))
group_left b levels m n c f held d e h =
    ap (λ k. left_of b levels m k c f) h ∙ ap (left_of b levels m 0 c) (whole f (Group_tree d held) e)

-- a leaf was written
pub leaf_on : (b : Builtins) (whole : Forest) (levels : ℕ) (m : BuiltinContext) (n k : ℕ) (c x : BuiltinPrefix)
    (f next ahead : Forest) (l : Leaf) (old now after : GroupStack) → Left whole old (left_of b levels m n c f) now
    → first f ≡ Some (Leaf_tree l) → n ≡ 0 → next ≡ rest_of f → ahead ≡ next
    → after ≡ put (one_leaf (kept l (number_at b m c l ahead))) now → k ≡ trees_skipped (number_at b m c l ahead)
    → x ≡ after_leaf b c l → Left whole old (left_of b levels m k x next) after
leaf_on b whole levels m n k c x f next ahead l old now after h is no_more e a p q r =
    let there = a ∙ e in
    passes whole _ (left_of b levels m k x next) old after
    (on whole (left_of b levels m n c f) (one_leaf (kept l (number_at b m c l (rest_of f))))
    (left_of b levels m (trees_skipped (number_at b m c l (rest_of f))) (after_leaf b c l) (rest_of f)) old now after h
    (leaf_left b levels m n c f l is no_more)
    (p ∙ ap (λ g. put (one_leaf (kept l (number_at b m c l g))) now) there))
    (ap (λ j. left_of b levels m j (after_leaf b c l) (rest_of f))
    (sym (q ∙ ap (λ g. trees_skipped (number_at b m c l g)) there))
    ∙ ap (λ j. left_of b levels m k j (rest_of f)) (sym r) ∙ ap (left_of b levels m k x) (sym e))

-- a group was written
pub group_on : (b : Builtins) (whole : Forest) (levels : ℕ) (m within : BuiltinContext) (n : ℕ) (c : BuiltinPrefix)
    (bare : Bool)
    (f next held : Forest) (d : Delimiter) (old now after : GroupStack) → Left whole old (left_of b levels m n c f) now
    → first f ≡ Some (Group_tree d held) → n ≡ 0 → next ≡ rest_of f → bare ≡ is_unwrapped m d
    → within ≡ in_group m c bare → after ≡ put (grouped bare d (expand_builtins_in b (levels - 1) within held)) now
    → Left whole old (left_of b levels m n before.Other next) after
group_on b whole levels m within n c bare f next held d old now after h is no_more e o w k =
    passes whole _ (left_of b levels m n before.Other next) old after
    (on whole (left_of b levels m n c f)
    (grouped (is_unwrapped m d) d (expand_builtins_in b (levels - 1) (in_group m c (is_unwrapped m d)) held))
    (left_of b levels m 0 before.Other (rest_of f)) old now after h (group_left b levels m n c f held d is no_more)
    (k ∙ ap (λ x. put (grouped x d (expand_builtins_in b (levels - 1) within held)) now) o
    ∙ ap (λ x. put (grouped (is_unwrapped m d) d (expand_builtins_in b (levels - 1) x held)) now) (w
    ∙ ap (in_group m c) o)))
    (ap (λ j. left_of b levels m j before.Other (rest_of f)) (sym no_more)
    ∙ ap (left_of b levels m n before.Other) (sym e))

-- ---- groups

-- a group, from its beginning to its end
pub group_written : (opened : Bool) (d : Delimiter) (f : Forest) (now begins mid next : GroupStack)
    → begins ≡ begun opened d now → mid ≡ put f begins → next ≡ ended opened d mid
    → next ≡ put (grouped opened d f) now
group_written true d f now begins mid next o m e = e ∙ m ∙ ap (put f) o
group_written false d f now begins mid next o m e = e ∙ ap (closed d.close) (m ∙ ap (put f) o)
