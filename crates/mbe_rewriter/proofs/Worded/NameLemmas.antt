-- Trees without the names of macros that are built in stay as they are.
use Rattle.std.proofs.Common.{ℕ, zero, suc, ◌-◌, ◌≡◌, ◌<◌, Bool, true, false, List, Option, None, refl, ap, sym, ◌∙◌}
use Rattle.std.proofs.Common.{arith}
use Rattle.std.specs.Prelude.{◌==◌, ◌||◌, ◌&&◌, codes, if◌then◌else◌}
use Rattle.std.proofs.Math.Bool.{and-false}
use Rattle.mbe_tt.specs.Trees.Leaf.{Leaf, literal, punct, ident, is_text}
use Rattle.mbe_tt.specs.Trees.Tree.{Forest, none, leaf, group}
use Rattle.mbe_rewriter.specs.declared.whole_fragments.builtin_calls.BuiltinPrefix.{BuiltinPrefix}
use Rattle.mbe_rewriter.specs.declared.whole_fragments.builtin_calls.BuiltinPrefix.TheVariants as before
use Rattle.mbe_rewriter.specs.declared.whole_fragments.builtin_calls.Builtins.{Builtins}
use Rattle.mbe_rewriter.specs.declared.whole_fragments.builtin_calls.BuiltinContext.{BuiltinContext}
use Rattle.mbe_rewriter.specs.declared.whole_fragments.builtin_calls.BuiltinContext.TheVariants as inside
use Rattle.mbe_rewriter.specs.WholeFragments.BuiltinNames.{is_builtin_name, tree_has_builtin_name, has_builtin_name}
use Rattle.mbe_rewriter.specs.WholeFragments.TreeSearch.{any_tree}
use Rattle.mbe_rewriter.specs.WholeFragments.BuiltinCalls.{after_bang, after_word, after_leaf, in_group, kept}
use Rattle.mbe_rewriter.specs.WholeFragments.BuiltinCalls.{trees_skipped, number_of, number_at, is_empty_call}
use Rattle.mbe_rewriter.specs.WholeFragments.BuiltinCalls.{may_be_number, expand_builtins_by, expand_builtins_in}

-- ---- the search

names_suc : (n : ℕ) (f : Forest) → any_tree (λ t rest. tree_has_builtin_name (has_builtin_name n) t) f
    ≡ has_builtin_name (suc n) f
unfolding has_builtin_name
names_suc n f = refl

names_zero : (f : Forest) → false ≡ has_builtin_name 0 f
unfolding has_builtin_name
names_zero f = refl

pub names_begin : (levels : ℕ) (f : Forest) → 0 < levels
    → any_tree (λ t rest. tree_has_builtin_name (has_builtin_name (levels - 1)) t) f ≡ has_builtin_name levels f
names_begin levels f some =
    let one : levels ≡ suc (levels - 1) = omega (arith, some) in
    names_suc (levels - 1) f ∙ ap (λ n. has_builtin_name n f) (sym one)

pub names_nowhere : (levels : ℕ) (f : Forest) → levels ≡ 0 → false ≡ has_builtin_name levels f
names_nowhere levels f e = names_zero f ∙ ap (λ n. has_builtin_name n f) (sym e)

-- ---- trees without such a name

neither_left : (a b : Bool) → (a || b) ≡ false → a ≡ false
neither_left true b e = e
neither_left false b e = refl

neither_right : (a b : Bool) → (a || b) ≡ false → b ≡ false
neither_right true b e = cc
neither_right false b e = e

-- what precedes trees of code: no `stringify` or `concat`
abbrev pub plain : BuiltinPrefix → Bool
plain before.Other = true
plain before.Colon = true
plain _ = false

no_number : (b : Builtins) (l : Leaf) → is_builtin_name l ≡ false → number_of b l ≡ None
no_number b (ident i) h =
    let line = is_text i.sym (codes "line") in
    let column = is_text i.sym (codes "column") in
    let string = is_text i.sym (codes "stringify") in
    let places = neither_left (line || column) string (neither_left _ (is_text i.sym (codes "concat")) h) in
    rw (neither_left line column places) (rw (neither_right line column places) refl)
no_number b (punct p) h = refl
no_number b (literal l) h = refl

if_none : (x : Bool) (n : Option ℕ) → n ≡ None → (if x then n else None) ≡ None
if_none true n e = e
if_none false n e = refl

no_number_at : (b : Builtins) (c : BuiltinPrefix) (l : Leaf) (rest : Forest) → is_builtin_name l ≡ false
    → number_at b inside.Code c l rest ≡ None
no_number_at b c l rest h =
    if_none (may_be_number inside.Code c && is_empty_call rest) (number_of b l) (no_number b l h)

plain_if : (x y : Bool) (c : BuiltinPrefix) → plain c ≡ true
    → plain (if x then after_bang c else if y then before.Colon else before.Other) ≡ true
plain_if true y before.Other p = refl
plain_if true y before.Colon p = refl
plain_if true y before.Stringify p = cc
plain_if true y before.StringifyBang p = cc
plain_if true y before.Concat p = cc
plain_if true y before.ConcatBang p = cc
plain_if false true c p = refl
plain_if false false c p = refl

no_word : (b : Builtins) (text : List ℕ) → is_text text (codes "stringify") ≡ false
    → is_text text (codes "concat") ≡ false → after_word b text ≡ before.Other
no_word b text s c = rw s (rw (and-false b.stringify) (rw c (rw (and-false b.concat) refl)))

plain_after : (b : Builtins) (c : BuiltinPrefix) (l : Leaf) → is_builtin_name l ≡ false → plain c ≡ true
    → plain (after_leaf b c l) ≡ true
plain_after b c (ident i) h p =
    let places = is_text i.sym (codes "line") || is_text i.sym (codes "column") in
    let string = is_text i.sym (codes "stringify") in
    let concat = is_text i.sym (codes "concat") in
    ap plain (no_word b i.sym (neither_right places string (neither_left (places || string) concat h))
    (neither_right (places || string) concat h))
plain_after b c (punct q) h p = plain_if (q.char == 33) (q.char == 58) c p
plain_after b c (literal l) h p = refl

in_code : (c : BuiltinPrefix) → plain c ≡ true → in_group inside.Code c false ≡ inside.Code
in_code before.Other p = refl
in_code before.Colon p = refl
in_code before.Stringify p = refl
in_code before.StringifyBang p = cc
in_code before.Concat p = refl
in_code before.ConcatBang p = cc

stay : (inner : BuiltinContext → Forest → Forest) (within : Forest
    → Bool) (b : Builtins) (c : BuiltinPrefix) (f : Forest)
    → ((g : Forest) → within g ≡ false → inner inside.Code g ≡ g)
    → any_tree (λ t rest. tree_has_builtin_name within t) f ≡ false → plain c ≡ true
    → expand_builtins_by inner b inside.Code 0 c f ≡ f
stay inner within b c none i h p = refl
stay inner within b c (leaf l rest) i h p =
    let others = any_tree (λ t more. tree_has_builtin_name within t) rest in
    let here = neither_left (is_builtin_name l) others h in
    let after = plain_after b c l here p in
    ap (λ n. leaf (kept l n) (expand_builtins_by inner b inside.Code (trees_skipped n) (after_leaf b c l) rest))
    (no_number_at b c l rest here)
    ∙ ap (leaf l) (stay inner within b (after_leaf b c l) rest i (neither_right (is_builtin_name l) others h) after)
stay inner within b c (group d held rest) i h p =
    let others = any_tree (λ t more. tree_has_builtin_name within t) rest in
    let written = expand_builtins_by inner b inside.Code 0 before.Other rest in
    ap (λ m. group d (inner m held) written) (in_code c p)
    ∙ ap (λ g. group d g written) (i held (neither_left (within held) others h))
    ∙ ap (group d held) (stay inner within b before.Other rest i (neither_right (within held) others h) refl)

pub unworded : (levels : ℕ) (b : Builtins) (f : Forest) → has_builtin_name levels f ≡ false
    → expand_builtins_in b levels inside.Code f ≡ f
unfolding expand_builtins_in
unworded zero b f h = refl
unworded (suc n) b f h =
    stay (expand_builtins_in b n) (has_builtin_name n) b before.Other f (λ g e. unworded n b g e) (names_suc n f
    ∙ h) refl
