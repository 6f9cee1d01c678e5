-- Opening the groups of fragments leaves none.
use Rattle.std.proofs.Common.{◌≡◌, ℕ, zero, suc, ◌+◌, ◌≤◌, max, Bool, true, false, refl, ap, ◌∙◌, arith}
use Rattle.std.specs.Prelude.{◌||◌, if◌then◌else◌}
use Rattle.mbe_tt.specs.Trees.FragmentGroup.{is_around, is_fragment_group}
use Rattle.mbe_tt.specs.Trees.Leaf.{Leaf, literal, punct, ident, span_of}
use Rattle.mbe_tt.specs.Trees.Top.{Top}
use Rattle.mbe_tt.specs.Trees.Tree.{Forest, none, leaf, group, append}
use Rattle.mbe_tt.specs.declared.fragment_group.FragmentGroup.TheVariants as groups
use Rattle.mbe_tt.specs.declared.span.Span.{Span}
use Rattle.mbe_tt.specs.declared.tt.Delimiter.{Delimiter}
use Rattle.mbe_rewriter.specs.WholeFragments.BuiltinCalls.{grouped}
use Rattle.mbe_rewriter.specs.WholeFragments.FragmentGroups.{colons_if, has_colons, is_bare, is_kept, needs_semicolon}
use Rattle.mbe_rewriter.specs.WholeFragments.FragmentGroups.{open_by, open_fragment, open_group, open_in, peeled}
use Rattle.mbe_rewriter.specs.WholeFragments.FragmentGroups.{plain_span, written_leaf}
use Rattle.mbe_rewriter.specs.WholeFragments.GroupLaws.{ChangesGroupsAlone, LeavesNoGroup, depth_of, has_fragment}
use Rattle.mbe_rewriter.specs.WholeFragments.Receivers.{around_fragment, prefix_after, semicolon_if, surroundings_in}
use Rattle.mbe_rewriter.specs.declared.whole_fragments.fragment_groups.Opening.{Opening}
use Rattle.mbe_rewriter.specs.declared.whole_fragments.fragment_groups.Opening.TheVariants as opening
use Rattle.mbe_rewriter.specs.declared.whole_fragments.receivers.Surroundings.{Surroundings}
use Rattle.mbe_rewriter.specs.declared.whole_fragments.receivers.Surroundings.TheVariants as around
use Rattle.mbe_rewriter.specs.declared.whole_fragments.receivers.TreePrefix.{TreePrefix}
use Rattle.mbe_rewriter.specs.declared.whole_fragments.receivers.TreePrefix.TheVariants as prefix

-- ---- trees with none

others : (a b c e : Bool) → (a || (b || c)) ≡ false → (c ≡ false → e ≡ false) → (a || (b || e)) ≡ false
others true b c e h k = h
others false true c e h k = h
others false false c e h k = k h

around_none : (a b : Bool) → a ≡ false → b ≡ false → (a || (b || false)) ≡ false
around_none true b h k = h
around_none false true h k = k
around_none false false h k = refl

none_appended : (f g : Forest) → has_fragment f ≡ false → has_fragment g ≡ false → has_fragment (append f g) ≡ false
none_appended none g h k = k
none_appended (leaf l rest) g h k = none_appended rest g h k
none_appended (group d inside rest) g h k =
    others (is_fragment_group d) (has_fragment inside) (has_fragment rest) (has_fragment (append rest g)) h
    (λ e. none_appended rest g e k)

flat_has_none : (f : Forest) → depth_of f ≤ 0 → has_fragment f ≡ false
flat_has_none none h = refl
flat_has_none (leaf l rest) h = flat_has_none rest h
flat_has_none (group d inside rest) h = absurd (omega (arith, h))

-- ---- a leaf

colons_none : (b : Bool) (l : Leaf) (s : Span) → has_fragment (leaf l (colons_if b s)) ≡ false
colons_none true l s = refl
colons_none false l s = refl

-- ---- a group

semicolon_none : (b : Bool) (s : Span) → has_fragment (semicolon_if b s) ≡ false
semicolon_none true s = refl
semicolon_none false s = refl

grouped_none : (bare : Bool) (s : Span) (f : Forest) → has_fragment f ≡ false
    → has_fragment (grouped bare (around_fragment s) f) ≡ false
grouped_none true s f h = h
grouped_none false s f h = around_none false (has_fragment f) refl h

peeled_if : (b : Bool) (d : Delimiter) (f : Forest) → depth_of (peeled f) ≤ depth_of f
    → depth_of (if b then peeled f else group d f none) ≤ max (1 + depth_of f) 0
peeled_if true d f h = omega (arith, h)
peeled_if false d f h = omega arith

peeled_depth : (f : Forest) → depth_of (peeled f) ≤ depth_of f
peeled_depth none = omega arith
peeled_depth (leaf l rest) = omega arith
peeled_depth (group d inside none) = peeled_if (is_fragment_group d) d inside (peeled_depth inside)
peeled_depth (group d inside (leaf l rest)) = omega arith
peeled_depth (group d inside (group e more rest)) = omega arith

-- what groups hold has none
abbrev AllNone : (Bool → Surroundings → Forest → Forest) → ℕ → Type 0
AllNone inner n = (q : Bool) (s : Surroundings) (f : Forest) → depth_of f ≤ n → has_fragment (inner q s f) ≡ false

fragment_none : (inner : Bool → Surroundings → Forest → Forest) (n : ℕ) (s : Surroundings) (p : TreePrefix)
    (d : Delimiter) (f rest : Forest) → AllNone inner n → depth_of f ≤ n
    → has_fragment (open_fragment inner s p d f rest) ≡ false
fragment_none inner n s p d f rest i h =
    let place = plain_span d.opening in
    let end = semicolon_if (needs_semicolon s d f rest) place in
    grouped_none (is_bare s p d f rest) place (append (inner (is_around groups.Path d) s f) end)
    (none_appended (inner (is_around groups.Path d) s f) end (i (is_around groups.Path d) s f h)
    (semicolon_none (needs_semicolon s d f rest) place))

group_if : (b : Bool) (d : Delimiter) (opened f : Forest) → is_fragment_group d ≡ b
    → has_fragment opened ≡ false → has_fragment f ≡ false
    → has_fragment (if b then opened else group d f none) ≡ false
group_if true d opened f e h k = h
group_if false d opened f e h k = around_none (is_fragment_group d) (has_fragment f) e k

group_none : (inner : Bool → Surroundings → Forest → Forest) (n : ℕ) (s : Surroundings) (p : TreePrefix)
    (d : Delimiter) (inside rest : Forest) → AllNone inner n → depth_of inside ≤ n
    → has_fragment (open_group inner opening.Everywhere s p d inside rest) ≡ false
group_none inner n s p d inside rest i h =
    let less : depth_of (peeled inside) ≤ n = let q = peeled_depth inside in omega (arith, q, h) in
    let f = inner false (surroundings_in s p d.kind) inside in
    group_if (is_fragment_group d) d (open_fragment inner s p d (peeled inside) rest) f refl
    (fragment_none inner n s p d (peeled inside) rest i less) (i false (surroundings_in s p d.kind) inside h)

-- ---- all trees

none_by : (inner : Bool → Surroundings → Forest → Forest) (n : ℕ) (q : Bool) (s : Surroundings) (p : TreePrefix)
    (f : Forest) → AllNone inner n → depth_of f ≤ suc n
    → has_fragment (open_by inner opening.Everywhere q s p f) ≡ false
none_by inner n q s p none i h = refl
none_by inner n q s p (leaf l rest) i h =
    none_appended (written_leaf q l rest) (open_by inner opening.Everywhere q s (prefix_after l p) rest)
    (colons_none (has_colons q l rest) l (span_of l)) (none_by inner n q s (prefix_after l p) rest i h)
none_by inner n q s p (group d inside rest) i h =
    let within : depth_of inside ≤ n = omega (arith, h) in
    let after : depth_of rest ≤ suc n = omega (arith, h) in
    none_appended (open_group inner opening.Everywhere s p d inside rest)
    (open_by inner opening.Everywhere q s prefix.Other rest) (group_none inner n s p d inside rest i within)
    (none_by inner n q s prefix.Other rest i after)

none_in : (n : ℕ) → AllNone (open_in n opening.Everywhere) n
unfolding open_in
none_in zero = λ q s f h. flat_has_none f h
none_in (suc n) = λ q s f h. none_by (open_in n opening.Everywhere) n q s prefix.Other f (none_in n) h

leaves : (n : ℕ) (f : Forest) → depth_of f ≤ n
    → has_fragment (open_in n opening.Everywhere false around.Statements f) ≡ false
leaves n f h = none_in n false around.Statements f h

pub leaves_no_group : LeavesNoGroup
leaves_no_group f h = leaves 1000 f h

-- ---- trees that stay

first_none : (a b c : Bool) → (a || (b || c)) ≡ false → a ≡ false
first_none true b c h = h
first_none false b c h = refl

second_none : (a b c : Bool) → (a || (b || c)) ≡ false → b ≡ false
second_none true b c h = cc
second_none false true c h = h
second_none false false c h = refl

third_none : (a b c : Bool) → (a || (b || c)) ≡ false → c ≡ false
third_none true b c h = cc
third_none false true c h = cc
third_none false false c h = h

leaf_stays : (l : Leaf) (rest more : Forest) → append (written_leaf false l rest) more ≡ leaf l more
leaf_stays (ident i) rest more = refl
leaf_stays (punct p) rest more = refl
leaf_stays (literal x) rest more = refl

group_stays : (b k : Bool) (d : Delimiter) (opened inside f : Forest) → b ≡ false → f ≡ inside
    → (if b then opened else if k then group d inside none else group d f none) ≡ group d inside none
group_stays true k d opened inside f e same = cc
group_stays false true d opened inside f e same = refl
group_stays false false d opened inside f e same = ap (λ g. group d g none) same

stays_by : (inner : Bool → Surroundings → Forest → Forest) (o : Opening) (s : Surroundings) (p : TreePrefix)
    (f : Forest) → ((r : Surroundings) (g : Forest) → has_fragment g ≡ false → inner false r g ≡ g)
    → has_fragment f ≡ false → open_by inner o false s p f ≡ f
stays_by inner o s p none i h = refl
stays_by inner o s p (leaf l rest) i h =
    leaf_stays l rest (open_by inner o false s (prefix_after l p) rest)
    ∙ ap (leaf l) (stays_by inner o s (prefix_after l p) rest i h)
stays_by inner o s p (group d inside rest) i h =
    let within = surroundings_in s p d.kind in
    let a = first_none (is_fragment_group d) (has_fragment inside) (has_fragment rest) h in
    let b = second_none (is_fragment_group d) (has_fragment inside) (has_fragment rest) h in
    let c = third_none (is_fragment_group d) (has_fragment inside) (has_fragment rest) h in
    ap (λ x. append x (open_by inner o false s prefix.Other rest))
    (group_stays (is_fragment_group d) (is_kept o p d) d (open_fragment inner s p d (peeled inside) rest) inside
    (inner false within inside) a (i within inside b))
    ∙ ap (group d inside) (stays_by inner o s prefix.Other rest i c)

stays_in : (n : ℕ) (o : Opening) (s : Surroundings) (f : Forest) → has_fragment f ≡ false → open_in n o false s f ≡ f
unfolding open_in
stays_in zero o s f h = refl
stays_in (suc n) o s f h = stays_by (open_in n o) o s prefix.Other f (λ r g e. stays_in n o r g e) h

pub changes_groups_alone : ChangesGroupsAlone
changes_groups_alone t h = (
  ap (λ (f : Forest). let x : Top = (t.0, f) in x)
      (stays_in 1000 opening.OutsideArguments around.Statements t.1 h),
  stays_in 1000 opening.Everywhere around.Statements t.1 h,
)
