-- What is left to be written, as the modules of an expansion are written, and put after its call.
use Rattle.std.proofs.Common.{ℕ, zero, suc, ◌-◌, ◌≡◌, ◌<◌, List, [], ◌∷◌, ◌++◌, length, map, Some, None, refl, ap, sym, ◌∙◌}
use Rattle.std.proofs.Common.{arith, ◌+◌, ◌==◌, take, get_or, ne_eqb}
use Rattle.std.proofs.lemmas.List.{map-append, take_more}
use Rattle.std.specs.Prelude.{Option}
use Rattle.mbe_tt.specs.Buffers.GroupStack.{GroupStack, put, closed}
use Rattle.mbe_tt.specs.Trees.Leaf.{Leaf, ident, span_of}
use Rattle.mbe_tt.specs.Trees.Tree.{Forest, Leaf_tree, Group_tree, none, leaf, group, append, first, rest_of, flat_len}
use Rattle.mbe_tt.specs.Trees.Tree.{one_leaf}
use Rattle.mbe_tt.specs.declared.span.Span.{Span}
use Rattle.mbe_tt.specs.declared.tt.Delimiter.{Delimiter}
use Rattle.mbe_tt.proofs.Buffers.Built.{length-put}
use Rattle.mbe_tt.proofs.Buffers.Grown.{put-none, put-put}
use Rattle.mbe_tt.proofs.Trees.Firsts.{whole, nothing}
use Rattle.mbe_tt.proofs.Trees.Joined.{append_append}
use Rattle.mbe_cfg.specs.CfgStrip.{up_to}
use Rattle.mbe_cfg.specs.TreeFront.{Group, attribute_group}
use Rattle.mbe_cfg.specs.Crates.ModuleItems.{Module}
use Rattle.mbe_cfg.specs.Crates.ExpansionModules as spec
use Rattle.mbe_cfg.specs.Crates.ExpansionModules.{at_span, at_span_by, front_step, front_steps, inserted_at, inserted_by}
use Rattle.mbe_cfg.specs.Crates.ExpansionModules.{inserted_in, leaf_at, modules_in, past_attributes, past_group}
use Rattle.mbe_cfg.specs.Crates.ExpansionModules.{trees_if}
use Rattle.mbe_cfg.proofs.FollowLemmas.{one_more, not_closed, module_put}

-- ---- attributes

attributes_suc : (n : ℕ) (f : Forest) → past_attributes (suc n) f ≡ past_group (past_attributes n) f (attribute_group f)
unfolding past_attributes
attributes_suc n f = refl

attributes_none : (n : ℕ) (f : Forest) → n ≡ 0 → past_attributes n f ≡ f
unfolding past_attributes
attributes_none n f e = ap (λ k. past_attributes k f) e

attributes_on : (n : ℕ) (f : Forest) (o : Option Group) → 0 < n → attribute_group f ≡ o
    → past_group (past_attributes (n - 1)) f o ≡ past_attributes n f
attributes_on n f o h e =
    ap (past_group (past_attributes (n - 1)) f) (sym e)
    ∙ (sym (attributes_suc (n - 1) f) ∙ ap (λ k. past_attributes k f) (sym (one_more n h)))

-- one attribute more
pub one_attribute : (n : ℕ) (f : Forest) (g : Group) (out : Forest) → 0 < n → attribute_group f ≡ Some g
    → past_attributes n f ≡ out → past_attributes (n - 1) g.rest ≡ out
one_attribute n f g out h e w = attributes_on n f (Some g) h e ∙ w

-- no attribute is there
pub no_attribute : (n : ℕ) (f out : Forest) → 0 < n → attribute_group f ≡ None → past_attributes n f ≡ out → f ≡ out
no_attribute n f out h e w = attributes_on n f None h e ∙ w

pub all_attributes : (n : ℕ) (f out : Forest) → n ≡ 0 → past_attributes n f ≡ out → f ≡ out
all_attributes n f out e h = sym (attributes_none n f e) ∙ h

-- ---- fronts

-- what is written of some trees, once what is kept of the others is, is what is to be written of all
pub record Going (within : Forest → Forest) (all : ℕ) (f : Forest) (old : GroupStack) (most : ℕ) (rest : Forest)
    (now : GroupStack) : Type 0 where
  pub same : put (front_steps within most rest) now ≡ put (front_steps within all f) old
  pub groups : length now ≡ length old

steps_suc : (within : Forest → Forest) (n : ℕ) (f : Forest)
    → append (front_step within f).kept (front_steps within n (front_step within f).rest) ≡ front_steps within (suc n) f
unfolding front_steps
steps_suc within n f = refl

steps_none : (within : Forest → Forest) (n : ℕ) (f : Forest) → n ≡ 0 → none ≡ front_steps within n f
unfolding front_steps
steps_none within n f e = ap (λ k. front_steps within k f) (sym e)

steps_more : (within : Forest → Forest) (most : ℕ) (f : Forest) → 0 < most
    → append (front_step within f).kept (front_steps within (most - 1) (front_step within f).rest)
    ≡ front_steps within most f
steps_more within most f some =
    steps_suc within (most - 1) f ∙ ap (λ n. front_steps within n f) (sym (one_more most some))

-- one front on
pub front_on : (within : Forest → Forest) (all : ℕ) (f : Forest) (old : GroupStack) (most : ℕ) (rest after : Forest)
    (now next : GroupStack) → 0 < most → Going within all f old most rest now
    → next ≡ put (front_step within rest).kept now → after ≡ (front_step within rest).rest
    → Going within all f old (most - 1) after next
front_on within all f old most rest after now next some h e r =
    let one = front_step within rest in
    let others = front_steps within (most - 1) in
    record {
      same = ap (λ x. put (others x) next) r ∙ (ap (put (others one.rest)) e
          ∙ (put-put one.kept (others one.rest) now
          ∙ (ap (λ x. put x now) (steps_more within most rest some) ∙ h.same)));
      groups = ap length e ∙ length-put now one.kept ∙ h.groups;
    }

-- none is left
pub ended : (within : Forest → Forest) (all : ℕ) (f : Forest) (old : GroupStack) (most : ℕ) (rest : Forest)
    (now : GroupStack) → most ≡ 0 → Going within all f old most rest now → now ≡ put (front_steps within all f) old
ended within all f old most rest now e h =
    put-none now ∙ (ap (λ x. put x now) (steps_none within most rest e) ∙ h.same)

modules_suc : (levels : ℕ) (f : Forest) → front_steps (modules_in levels) (flat_len f) f ≡ modules_in (suc levels) f
unfolding modules_in
modules_suc levels f = refl

pub modules_some : (levels : ℕ) (f : Forest) → 0 < levels
    → front_steps (modules_in (levels - 1)) (flat_len f) f ≡ modules_in levels f
modules_some levels f h = modules_suc (levels - 1) f ∙ ap (λ n. modules_in n f) (sym (one_more levels h))

modules_none : (levels : ℕ) (f : Forest) → levels ≡ 0 → none ≡ modules_in levels f
unfolding modules_in
modules_none levels f e = ap (λ n. modules_in n f) (sym e)

-- where modules are nested too deep, nothing is written
pub nothing_written : (levels : ℕ) (f : Forest) (old : GroupStack) → levels ≡ 0 → old ≡ put (modules_in levels f) old
nothing_written levels f old e = put-none old ∙ ap (λ x. put x old) (modules_none levels f e)

-- a module in braces is written after its attributes
pub inline_written : (within : Forest → Forest) (f item : Forest) (m : Module) (d : Delimiter) (content : Forest)
    (old a b c e n z : GroupStack)
    → a ≡ put (up_to (flat_len item) f) old
    → b ≡ put (one_leaf (ident m.word)) a → c ≡ put (one_leaf (ident m.name)) b → e ≡ (not_closed d, none) ∷ c
    → n ≡ put (within content) e → z ≡ closed d.close n
    → z ≡ put (spec.inline_module within f item m d content) old
inline_written within f item m d content old a b c e n z ha hb hc he hn hz =
    let words = leaf (ident m.word) (leaf (ident m.name) (group d (within content) none)) in
    hz ∙ (ap (closed d.close) (hn ∙ ap (put (within content)) he)
    ∙ (ap (put (group d (within content) none)) (hc ∙ ap (put (one_leaf (ident m.name))) hb)
    ∙ (module_put m d (within content) a
    ∙ (ap (put words) ha ∙ put-put (up_to (flat_len item) f) words old))))

-- ---- trees at a span

pub record SpanLeft (levels : ℕ) (at : Span) (f : Forest) (old : GroupStack) (rest : Forest) (now : GroupStack) : Type 0
  where
    pub same : put (at_span_by (at_span (levels - 1) at) at rest) now ≡ put (at_span levels at f) old
    pub groups : length now ≡ length old

pub span_kept : (levels : ℕ) (at : Span) (f : Forest) → levels ≡ 0 → at_span levels at f ≡ f
unfolding at_span
span_kept levels at f e = ap (λ n. at_span n at f) e

pub span_begins : (levels : ℕ) (at : Span) (f : Forest) (b : GroupStack) → 0 < levels → SpanLeft levels at f b f b
unfolding at_span
span_begins zero at f b h = absurd (omega (arith, h))
span_begins (suc n) at f b h =
    let one : suc n - 1 ≡ n = omega arith in
    record { same = ap (λ k. put (at_span_by (at_span k at) at f) b) one; groups = refl }

pub span_leaf_on : (levels : ℕ) (at : Span) (f rest : Forest) (old now next : GroupStack) (l : Leaf)
    → SpanLeft levels at f old rest now → first rest ≡ Some (Leaf_tree l) → next ≡ put (one_leaf (leaf_at at l)) now
    → SpanLeft levels at f old (rest_of rest) next
span_leaf_on levels at f rest old now next l h is e =
    let inner = at_span (levels - 1) at in
    let more = at_span_by inner at (rest_of rest) in
    record {
      same = ap (put more) e ∙ (put-put (one_leaf (leaf_at at l)) more now
          ∙ (ap (λ g. put (at_span_by inner at g) now) (sym (whole rest (Leaf_tree l) is)) ∙ h.same));
      groups = ap length e ∙ length-put now (one_leaf (leaf_at at l)) ∙ h.groups;
    }

abbrev pub spanned : Span → Delimiter → Delimiter
spanned at d = record { opening = at; close = at; kind = d.kind }

pub span_group_on : (levels : ℕ) (at : Span) (f rest inside : Forest) (d : Delimiter)
    (old now opened mid next : GroupStack) → SpanLeft levels at f old rest now
    → first rest ≡ Some (Group_tree d inside) → opened ≡ (spanned at d, none) ∷ now
    → mid ≡ put (at_span (levels - 1) at inside) opened → next ≡ closed at mid
    → SpanLeft levels at f old (rest_of rest) next
span_group_on levels at f rest inside d old now opened mid next h is o m e =
    let inner = at_span (levels - 1) at in
    let more = at_span_by inner at (rest_of rest) in
    let one = group (spanned at d) (inner inside) none in
    let w : next ≡ put one now = e ∙ ap (closed at) (m ∙ ap (put (inner inside)) o) in
    record {
      same = ap (put more) w ∙ (put-put one more now
          ∙ (ap (λ g. put (at_span_by inner at g) now) (sym (whole rest (Group_tree d inside) is)) ∙ h.same));
      groups = ap length w ∙ length-put now one ∙ h.groups;
    }

pub span_written : (levels : ℕ) (at : Span) (f rest : Forest) (old now : GroupStack)
    → SpanLeft levels at f old rest now → first rest ≡ None → now ≡ put (at_span levels at f) old
span_written levels at f rest old now h e =
    put-none now ∙ (ap (λ g. put (at_span_by (at_span (levels - 1) at) at g) now) (sym (nothing rest e)) ∙ h.same)

-- ---- trees with insertions

pub record InsertionsLeft (levels : ℕ) (is : List spec.Insertion) (f : Forest) (old : GroupStack) (rest : Forest)
    (now : GroupStack) : Type 0 where
  pub same : put (inserted_by (inserted_in (levels - 1) is) is rest) now ≡ put (inserted_in levels is f) old
  pub groups : length now ≡ length old

pub insertions_kept : (levels : ℕ) (is : List spec.Insertion) (f : Forest) → levels ≡ 0 → inserted_in levels is f ≡ f
unfolding inserted_in
insertions_kept levels is f e = ap (λ n. inserted_in n is f) e

pub insertions_begin : (levels : ℕ) (is : List spec.Insertion) (f : Forest) (b : GroupStack) → 0 < levels
    → InsertionsLeft levels is f b f b
unfolding inserted_in
insertions_begin zero is f b h = absurd (omega (arith, h))
insertions_begin (suc n) is f b h =
    let one : suc n - 1 ≡ n = omega arith in
    record { same = ap (λ k. put (inserted_by (inserted_in k is) is f) b) one; groups = refl }

pub insertion_leaf_on : (levels : ℕ) (is : List spec.Insertion) (f rest : Forest) (old now mid next : GroupStack)
    (l : Leaf) → InsertionsLeft levels is f old rest now → first rest ≡ Some (Leaf_tree l)
    → mid ≡ put (one_leaf l) now → next ≡ put (inserted_at is (span_of l).end) mid
    → InsertionsLeft levels is f old (rest_of rest) next
insertion_leaf_on levels is f rest old now mid next l h t m e =
    let inner = inserted_in (levels - 1) is in
    let more = inserted_by inner is (rest_of rest) in
    let added = inserted_at is (span_of l).end in
    let w : next ≡ put (append (one_leaf l) added) now =
    e ∙ ap (put added) m ∙ put-put (one_leaf l) added now in
    record {
      same = ap (put more) e ∙ (put-put added more mid ∙ (ap (put (append added more)) m
          ∙ (put-put (one_leaf l) (append added more) now
          ∙ (ap (λ g. put (inserted_by inner is g) now) (sym (whole rest (Leaf_tree l) t)) ∙ h.same))));
      groups = ap length w ∙ length-put now (append (one_leaf l) added) ∙ h.groups;
    }

pub insertion_group_on : (levels : ℕ) (is : List spec.Insertion) (f rest inside : Forest) (d : Delimiter)
    (old now opened mid left next : GroupStack) → InsertionsLeft levels is f old rest now
    → first rest ≡ Some (Group_tree d inside) → opened ≡ (not_closed d, none) ∷ now
    → mid ≡ put (inserted_in (levels - 1) is inside) opened → left ≡ closed d.close mid
    → next ≡ put (inserted_at is d.close.end) left
    → InsertionsLeft levels is f old (rest_of rest) next
insertion_group_on levels is f rest inside d old now opened mid left next h t o m c e =
    let inner = inserted_in (levels - 1) is in
    let more = inserted_by inner is (rest_of rest) in
    let added = inserted_at is d.close.end in
    let one = group d (inner inside) none in
    let g : left ≡ put one now = c ∙ ap (closed d.close) (m ∙ ap (put (inner inside)) o) in
    let w : next ≡ put (append one added) now = e ∙ ap (put added) g ∙ put-put one added now in
    record {
      same = ap (put more) e ∙ (put-put added more left ∙ (ap (put (append added more)) g
          ∙ (put-put one (append added more) now
          ∙ (ap (λ x. put (inserted_by inner is x) now) (sym (whole rest (Group_tree d inside) t)) ∙ h.same))));
      groups = ap length w ∙ length-put now (append one added) ∙ h.groups;
    }

pub insertions_written : (levels : ℕ) (is : List spec.Insertion) (f rest : Forest) (old now : GroupStack)
    → InsertionsLeft levels is f old rest now → first rest ≡ None → now ≡ put (inserted_in levels is f) old
insertions_written levels is f rest old now h e =
    put-none now ∙ (ap (λ g. put (inserted_by (inserted_in (levels - 1) is) is g) now) (sym (nothing rest e)) ∙ h.same)

append_none : (f : Forest) → append f none ≡ f
append_none none = refl
append_none (leaf l rest) = ap (leaf l) (append_none rest)
append_none (group d inside rest) = ap (group d inside) (append_none rest)

abbrev one_at : spec.Insertion → ℕ → Forest
one_at i end = trees_if (i.end == end) i.trees

inserted_after : (is : List spec.Insertion) (i : spec.Insertion) (end : ℕ)
    → inserted_at (is ++ i ∷ []) end ≡ append (inserted_at is end) (one_at i end)
inserted_after [] i end = append_none (one_at i end)
inserted_after (j ∷ js) i end =
    ap (append (one_at j end)) (inserted_after js i end)
    ∙ sym (append_append (one_at j end) (inserted_at js end) (one_at i end))

-- one insertion more is written
pub inserted_more : {X : Type 0} (see : X → spec.Insertion) (items : List X) (item : X) (i end : ℕ)
    (old now next : GroupStack) → i < length items → item ≡ get_or items i item
    → now ≡ put (inserted_at (map see (take i items)) end) old → next ≡ put (one_at (see item) end) now
    → next ≡ put (inserted_at (map see (take (i + 1) items)) end) old
inserted_more see items item i end old now next h is before e =
    let taken : map see (take (i + 1) items) ≡ map see (take i items) ++ see item ∷ [] =
    ap (map see) (take_more items i item h) ∙ map-append see (take i items) (get_or items i item ∷ [])
    ∙ ap (λ x. map see (take i items) ++ see x ∷ []) (sym is) in
    e ∙ (ap (put (one_at (see item) end)) before
    ∙ (put-put (inserted_at (map see (take i items)) end) (one_at (see item) end) old
    ∙ ap (λ f. put f old) (sym (ap (λ xs. inserted_at xs end) taken
    ∙ inserted_after (map see (take i items)) (see item) end))))

-- a group that is opened among some isn't the outermost one
pub is_inside : (f : Forest) (old now opened mid : GroupStack) (x : Delimiter × Forest) → 0 < length old
    → length now ≡ length old → opened ≡ x ∷ now → mid ≡ put f opened → 1 < length mid
is_inside f old now opened mid x some groups o m =
    let l = ap length m ∙ length-put opened f ∙ ap length o in
    omega (arith, some, groups, l)

-- a group stays open among what is written in it
pub still_open : (old new : GroupStack) (f : Forest) → 0 < length old → new ≡ put f old → 0 < length new
still_open old new f some e = omega (arith, some, ap length e, length-put old f)

-- an insertion for another byte isn't written
pub not_inserted : (at end : ℕ) (f : Forest) (old : GroupStack) → (at ≡ end → ⊥)
    → old ≡ put (trees_if (at == end) f) old
not_inserted at end f old h =
    put-none old ∙ ap (λ b. put (trees_if b f) old) (sym (ne_eqb at end h))

-- where no `include!` is, nothing is written
pub no_include : (f item : Forest) (old : GroupStack) → spec.after_include item ≡ None
    → old ≡ put (spec.include_step f item).kept old
no_include f item old e = put-none old ∙ ap (λ o. put (spec.include_step_by f o).kept old) (sym e)
