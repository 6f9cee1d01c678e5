-- What of a template and of rules is left to be written, one tree after another.
use Rattle.std.proofs.Common.{ℕ, suc, ◌-◌, ◌≡◌, ◌<◌, Bool, false, List, Option, Some, None, refl, ap, sym, ◌∙◌, arith}
use Rattle.std.specs.Prelude.{is_some}
use Rattle.mbe_tt.specs.Buffers.GroupStack.{GroupStack, put}
use Rattle.mbe_tt.specs.Trees.Leaf.{Leaf}
use Rattle.mbe_tt.specs.Trees.Tree.{Forest, Leaf_tree, Group_tree, none, group, append, first, rest_of, one_leaf}
use Rattle.mbe_tt.specs.declared.tt.Delimiter.{Delimiter}
use Rattle.mbe_rewriter.specs.declared.whole_fragments.variable_parentheses.VariableRole.{VariableRole}
use Rattle.mbe_rewriter.specs.WholeFragments.VariableParentheses.{declares_at, declares, kept, role_after}
use Rattle.mbe_rewriter.specs.WholeFragments.VariableParentheses.{parenthesized_by, parenthesized_in, rule_group}
use Rattle.mbe_rewriter.specs.WholeFragments.VariableParentheses.{pattern_after, rules_by}
use Rattle.mbe_rewriter.specs.WholeFragments.TreeSearch.{any_tree}
use Rattle.mbe_tt.proofs.Trees.Firsts.{nothing, whole}
use Rattle.mbe_rewriter.proofs.Worded.WrittenLemmas.{Left, on, passes}

one_more : (n : ℕ) → 0 < n → n ≡ suc (n - 1)
one_more n h = omega (arith, h)

-- ---- templates

pub as_they_are : (pattern : Forest) (levels : ℕ) (f : Forest) → levels ≡ 0 → parenthesized_in pattern levels f ≡ f
unfolding parenthesized_in
as_they_are pattern levels f e = ap (λ n. parenthesized_in pattern n f) e

-- what is left of a template, where its groups are so many deep
abbrev pub left_of : Forest → ℕ → Bool → Forest → Forest
left_of pattern levels is_written f = parenthesized_by (parenthesized_in pattern (levels - 1)) pattern is_written f

typed_suc : (pattern : Forest) (n : ℕ) (f : Forest)
    → parenthesized_in pattern (suc n) f ≡ parenthesized_by (parenthesized_in pattern n) pattern false f
unfolding parenthesized_in
typed_suc pattern n f = refl

pub all_left : (pattern : Forest) (levels : ℕ) (f : Forest) → 0 < levels
    → parenthesized_in pattern levels f ≡ left_of pattern levels false f
all_left pattern levels f h = ap (λ n. parenthesized_in pattern n f) (one_more levels h)
    ∙ typed_suc pattern (levels - 1) f

pub none_left : (pattern : Forest) (levels : ℕ) (w : Bool) (f : Forest) → first f ≡ None
    → left_of pattern levels w f ≡ none
none_left pattern levels w f e = ap (left_of pattern levels w) (nothing f e)

pub leaf_left : (pattern : Forest) (levels : ℕ) (w : Bool) (f : Forest) (l : Leaf) → first f ≡ Some (Leaf_tree l)
    → w ≡ false → left_of pattern levels w f ≡ append (kept l (role_after pattern l (rest_of f)))
    (left_of pattern levels (is_some (role_after pattern l (rest_of f))) (rest_of f))
leaf_left pattern levels w f l e h =
    ap (λ b. left_of pattern levels b f) h ∙ ap (left_of pattern levels false) (whole f (Leaf_tree l) e)

pub group_left : (pattern : Forest) (levels : ℕ) (w : Bool) (f inside : Forest) (d : Delimiter)
    → first f ≡ Some (Group_tree d inside) → w ≡ false
    → left_of pattern levels w f ≡ append (group d (parenthesized_in pattern (levels - 1) inside) none)
    (left_of pattern levels false (rest_of f))
group_left pattern levels w f inside d e h =
    ap (λ b. left_of pattern levels b f) h ∙ ap (left_of pattern levels false) (whole f (Group_tree d inside) e)

-- a leaf was written, with the one after it if that has a role
pub leaf_on : (pattern whole : Forest) (levels : ℕ) (w v : Bool) (f next ahead : Forest) (l : Leaf)
    (old now after : GroupStack) → Left whole old (left_of pattern levels w f) now → first f ≡ Some (Leaf_tree l)
    → w ≡ false → next ≡ rest_of f → ahead ≡ next → after ≡ put (kept l (role_after pattern l ahead)) now
    → v ≡ is_some (role_after pattern l ahead) → Left whole old (left_of pattern levels v next) after
leaf_on pattern whole levels w v f next ahead l old now after h is no_name e a k x =
    let there = a ∙ e in
    passes whole _ (left_of pattern levels v next) old after
    (on whole (left_of pattern levels w f) (kept l (role_after pattern l (rest_of f)))
    (left_of pattern levels (is_some (role_after pattern l (rest_of f))) (rest_of f)) old now after h
    (leaf_left pattern levels w f l is no_name)
    (k ∙ ap (λ g. put (kept l (role_after pattern l g)) now) there))
    (ap (λ b. left_of pattern levels b (rest_of f)) (sym (x ∙ ap (λ g. is_some (role_after pattern l g)) there))
    ∙ ap (left_of pattern levels v) (sym e))

-- a group was written
pub group_on : (pattern whole : Forest) (levels : ℕ) (w : Bool) (f next inside : Forest) (d : Delimiter)
    (old now after : GroupStack) → Left whole old (left_of pattern levels w f) now
    → first f ≡ Some (Group_tree d inside) → w ≡ false → next ≡ rest_of f
    → after ≡ put (group d (parenthesized_in pattern (levels - 1) inside) none) now
    → Left whole old (left_of pattern levels w next) after
group_on pattern whole levels w f next inside d old now after h is no_name e k =
    passes whole _ (left_of pattern levels w next) old after
    (on whole (left_of pattern levels w f) (group d (parenthesized_in pattern (levels - 1) inside) none)
    (left_of pattern levels false (rest_of f)) old now after h (group_left pattern levels w f inside d is no_name) k)
    (ap (λ b. left_of pattern levels b (rest_of f)) (sym no_name) ∙ ap (left_of pattern levels w) (sym e))

-- ---- rules

pub no_rule_left : (pattern : Option Forest) (f : Forest) → first f ≡ None → rules_by pattern f ≡ none
no_rule_left pattern f e = ap (rules_by pattern) (nothing f e)

pub rule_leaf_left : (pattern : Option Forest) (f : Forest) (l : Leaf) → first f ≡ Some (Leaf_tree l)
    → rules_by pattern f ≡ append (one_leaf l) (rules_by pattern (rest_of f))
rule_leaf_left pattern f l e = ap (rules_by pattern) (whole f (Leaf_tree l) e)

pub rule_group_left : (pattern : Option Forest) (f inside : Forest) (d : Delimiter)
    → first f ≡ Some (Group_tree d inside)
    → rules_by pattern f ≡ append (rule_group pattern d inside) (rules_by (pattern_after pattern inside) (rest_of f))
rule_group_left pattern f inside d e = ap (rules_by pattern) (whole f (Group_tree d inside) e)

pub rule_leaf_on : (whole : Forest) (pattern : Option Forest) (f next : Forest) (l : Leaf) (old now after : GroupStack)
    → Left whole old (rules_by pattern f) now → first f ≡ Some (Leaf_tree l) → next ≡ rest_of f
    → after ≡ put (one_leaf l) now → Left whole old (rules_by pattern next) after
rule_leaf_on whole pattern f next l old now after h is e k =
    passes whole _ (rules_by pattern next) old after
    (on whole (rules_by pattern f) (one_leaf l) (rules_by pattern (rest_of f)) old now after h
    (rule_leaf_left pattern f l is) k) (ap (rules_by pattern) (sym e))

pub rule_group_on : (whole : Forest) (pattern other : Option Forest) (f next inside : Forest) (d : Delimiter)
    (old now after : GroupStack) → Left whole old (rules_by pattern f) now → first f ≡ Some (Group_tree d inside)
    → next ≡ rest_of f → after ≡ put (rule_group pattern d inside) now → pattern_after pattern inside ≡ other
    → Left whole old (rules_by other next) after
rule_group_on whole pattern other f next inside d old now after h is e k o =
    passes whole _ (rules_by other next) old after
    (on whole (rules_by pattern f) (rule_group pattern d inside)
    (rules_by (pattern_after pattern inside) (rest_of f)) old now after h (rule_group_left pattern f inside d is) k)
    (ap (λ p. rules_by p (rest_of f)) o ∙ ap (rules_by other) (sym e))

-- ---- variables of patterns

declares_suc : (n : ℕ) (r : VariableRole) (name : List ℕ) (f : Forest)
    → any_tree (declares_at (declares n r name) r name) f ≡ declares (suc n) r name f
unfolding declares
declares_suc n r name f = refl

declares_zero : (r : VariableRole) (name : List ℕ) (f : Forest) → false ≡ declares 0 r name f
unfolding declares
declares_zero r name f = refl

pub looks_begin : (levels : ℕ) (r : VariableRole) (name : List ℕ) (f : Forest) → 0 < levels
    → any_tree (declares_at (declares (levels - 1) r name) r name) f ≡ declares levels r name f
looks_begin levels r name f some =
    declares_suc (levels - 1) r name f ∙ ap (λ n. declares n r name f) (sym (one_more levels some))

pub looks_nowhere : (levels : ℕ) (r : VariableRole) (name : List ℕ) (f : Forest) → levels ≡ 0
    → false ≡ declares levels r name f
looks_nowhere levels r name f e = declares_zero r name f ∙ ap (λ n. declares n r name f) (sym e)
