-- Where names lead, and how many rounds they allow.
use Rattle.std.proofs.Common.{◌≡◌, ◌≢◌, ℕ, zero, suc, ◌+◌, ◌-◌, ◌<◌, ◌≤◌, Bool, true, false, List, [], ◌∷◌, ◌++◌}
use Rattle.std.proofs.Common.{length, drop, get_or, Option, Some, None, Vec, rules, refl, ap, sym, ◌∙◌, arith}
use Rattle.std.specs.Prelude.{◌==◌, if◌then◌else◌, nat_lt, option_map, option_and_then, slice_get, unwrap_or}
use Rattle.std.specs.Prelude.{filter_map}
use Rattle.std.specs.Option.{option_copied}
use Rattle.std.specs.List.{cons_option}
use Rattle.std.proofs.lemmas.Bool.{eqb-true, eqb-false, ltb-false}
use Rattle.std.proofs.lemmas.List.{drop_more, drop_all}
use Rattle.std.proofs.lemmas.Option.{slice_get_read, slice_get_past}
use denote.Bor.{Bor}
use Rattle.mbe_semantics.specs.declared.fragment_kinds.MetaVarKind.{MetaVarKind}
use Rattle.mbe_semantics.specs.declared.fragment_kinds.RepeatKind.{RepeatKind}
use Rattle.mbe_ops.specs.declared.ops.Separator.{Separator}
use Rattle.mbe_ops.specs.declared.ops.Op as code
use Rattle.mbe_ops.specs.declared.ops.Op.{Repeat, the_lemmas as op_lemmas}
use Rattle.mbe_ops.specs.declared.ops.Op.TheOpen.{MetaTemplate-F}
use Rattle.mbe_ops.specs.declared.expression.UseKind.{UseKind}
use Rattle.mbe_ops.specs.declared.expression.UseKind.TheVariants as wants
use Rattle.mbe_log.specs.declared.fragment.Fragment.{Fragment as Took}
use Rattle.mbe_bindings.specs.declared.bindings.Binding.{Binding, Fragment, Nested, Empty, Missing, the_lemmas}
use Rattle.mbe_semantics.specs.Syntax.Op.{Name, Op, Ops, op, no_ops, repetition, Use, used_name, uses_of, uses_of_op}
use Rattle.mbe_semantics.specs.Bindings.Environment.{Environment, value_of, Value, fragment, list, empty, missing}
use Rattle.mbe_semantics.specs.declared.current_round.CurrentRound.{CurrentRound}
use Rattle.mbe_semantics.specs.Transcription.Rounds.{member, value_count, follow, reach, Path, level_at, value_total}
use Rattle.mbe_semantics.specs.Transcription.Rounds.{totals, Extent, finite, endless, lesser, least_extent, extent_over}
use Rattle.mbe_semantics.specs.Transcription.Rounds.{extent_of, extent_under}
use Rattle.mbe_variables.specs.LookupErrors.{lookup_error, lookup_error_in}
use Rattle.mbe_variables.specs.declared.variable_lookup.LookupError.TheVariants.{NoValue}
use Rattle.mbe_variables.specs.RoundCounts.{shorter, shortest}
use Rattle.mbe_log.specs.FragmentViews.{fragment_seen}
use Rattle.mbe_bindings.specs.BindingViews.{value_seen, values_seen}
use Rattle.mbe_ops.specs.Expressions.{use_seen}
use Rattle.mbe_ops.specs.Views.{op_of, ops_of, separator_seen}

pub seen_copied : {X Y : Type 0} (f : X → Y) (r : Option (Bor X))
    → option_map (λ b. f b.now) r ≡ option_map f (option_copied r)
seen_copied f None = refl
seen_copied f (Some x) = refl

-- ---- each value of the code, as the value that it is

pub view-fragment : {A : Type 0} (x : Took A) → value_seen (Fragment x) ≡ fragment (fragment_seen x)
view-fragment x = search (rules, the_lemmas)

pub view-nested : {A : Type 0} (vs : Vec (Binding A) A) → value_seen (Nested vs) ≡ list (values_seen vs.items)
view-nested vs = search (rules, the_lemmas)

pub view-empty : (A : Type 0) → value_seen {A = A} Empty ≡ empty
view-empty A = search (rules, the_lemmas)

pub view-missing : (A : Type 0) (kind : MetaVarKind) → value_seen {A = A} (Missing kind) ≡ missing kind
view-missing A kind = search (rules, the_lemmas)

pub ruleset value_views = (view-fragment, view-nested, view-empty, view-missing)

pub member_seen : {A : Type 0} (vs : List (Binding A)) (i : ℕ)
    → member (values_seen vs) i ≡ option_map value_seen (slice_get vs i)
member_seen [] i = refl
member_seen (v ∷ vs) zero = refl
member_seen (v ∷ vs) (suc i) = member_seen vs i

pub count_seen : {A : Type 0} (vs : List (Binding A)) → value_count (values_seen vs) ≡ length vs
count_seen [] = refl
count_seen (v ∷ vs) = omega (arith, count_seen vs)

-- ---- one step of a path

module _ {A : Type 0} (vs : List (Binding A)) (l : CurrentRound) (path : Path) where
  pub follow_member : (b : Binding A) → slice_get vs l.index ≡ Some b
      → follow (l ∷ path) (list (values_seen vs)) ≡ follow path (value_seen b)
  follow_member b e = ap (option_and_then (follow path)) (member_seen vs l.index ∙ ap (option_map value_seen) e)

  pub follow_lost : slice_get vs l.index ≡ None → follow (l ∷ path) (list (values_seen vs)) ≡ None
  follow_lost e = ap (option_and_then (follow path)) (member_seen vs l.index ∙ ap (option_map value_seen) e)

  pub lost_member : (b : Binding A) → slice_get vs l.index ≡ Some b
      → lookup_error (l ∷ path) (list (values_seen vs)) ≡ lookup_error path (value_seen b)
  lost_member b e = ap (lookup_error_in (lookup_error path)) (member_seen vs l.index ∙ ap (option_map value_seen) e)

  pub lost_past : slice_get vs l.index ≡ None → lookup_error (l ∷ path) (list (values_seen vs)) ≡ Some NoValue
  lost_past e = ap (lookup_error_in (lookup_error path)) (member_seen vs l.index ∙ ap (option_map value_seen) e)

  pub reach_member : (b : Binding A) → slice_get vs l.index ≡ Some b
      → reach (l ∷ path) (list (values_seen vs)) ≡ reach path (value_seen b)
  reach_member b e = ap (option_and_then (reach path)) (member_seen vs l.index ∙ ap (option_map value_seen) e)

  pub reach_lost : slice_get vs l.index ≡ None → reach (l ∷ path) (list (values_seen vs)) ≡ None
  reach_lost e = ap (option_and_then (reach path)) (member_seen vs l.index ∙ ap (option_map value_seen) e)

module _ {A : Type 0} (path inner : Path) (l : CurrentRound) (b : Binding A) (vs : Vec (Binding A) A)
    (xs : List (Binding A))
    (p : path ≡ l ∷ inner) (q : b ≡ Nested vs) (r : xs ≡ vs.items) where
  found : (v : Binding A) → l.index < length xs → v ≡ get_or xs l.index v → slice_get vs.items l.index ≡ Some v
  found v h e = ap (λ ys. slice_get ys l.index) (sym r) ∙ slice_get_read xs (length xs) l.index v refl h e

  past : length xs ≤ l.index → slice_get vs.items l.index ≡ None
  past h = ap (λ ys. slice_get ys l.index) (sym r) ∙ slice_get_past xs l.index h

  pub follow_on : (v : Binding A) → l.index < length xs → v ≡ get_or xs l.index v
      → follow path (value_seen b) ≡ follow inner (value_seen v)
  follow_on v h e =
      ap (λ x. follow x (value_seen b)) p ∙ (ap (λ x. follow (l ∷ inner) (value_seen x)) q
      ∙ (ap (follow (l ∷ inner)) (view-nested vs) ∙ follow_member vs.items l inner v (found v h e)))

  pub follow_stop : length xs ≤ l.index → follow path (value_seen b) ≡ None
  follow_stop h =
      ap (λ x. follow x (value_seen b)) p ∙ (ap (λ x. follow (l ∷ inner) (value_seen x)) q
      ∙ (ap (follow (l ∷ inner)) (view-nested vs) ∙ follow_lost vs.items l inner (past h)))

  lost_inside : lookup_error path (value_seen b) ≡ lookup_error (l ∷ inner) (list (values_seen vs.items))
  lost_inside =
      ap (λ x. lookup_error x (value_seen b)) p ∙ (ap (λ x. lookup_error (l ∷ inner) (value_seen x)) q
      ∙ ap (lookup_error (l ∷ inner)) (view-nested vs))

  pub lost_on : (v : Binding A) → l.index < length xs → v ≡ get_or xs l.index v
      → lookup_error path (value_seen b) ≡ lookup_error inner (value_seen v)
  lost_on v h e = lost_inside ∙ lost_member vs.items l inner v (found v h e)

  pub lost_stop : length xs ≤ l.index → lookup_error path (value_seen b) ≡ Some NoValue
  lost_stop h = lost_inside ∙ lost_past vs.items l inner (past h)

  pub reach_on : (v : Binding A) → l.index < length xs → v ≡ get_or xs l.index v
      → reach path (value_seen b) ≡ reach inner (value_seen v)
  reach_on v h e =
      ap (λ x. reach x (value_seen b)) p ∙ (ap (λ x. reach (l ∷ inner) (value_seen x)) q
      ∙ (ap (reach (l ∷ inner)) (view-nested vs) ∙ reach_member vs.items l inner v (found v h e)))

  pub reach_stop : length xs ≤ l.index → reach path (value_seen b) ≡ None
  reach_stop h =
      ap (λ x. reach x (value_seen b)) p ∙ (ap (λ x. reach (l ∷ inner) (value_seen x)) q
      ∙ (ap (reach (l ∷ inner)) (view-nested vs) ∙ reach_lost vs.items l inner (past h)))

-- a test that failed
pub not_below : (a b : ℕ) → false ≡ nat_lt a b → b ≤ a
not_below a b e = ltb-false a b (sym e)

-- ---- ops in a slice

pub ops_split : {A : Type 0} (xs : List (code.Op A)) (i : ℕ) (x : code.Op A) → i < length xs → x ≡ get_or xs i x
    → ops_of (drop i xs) ≡ op (op_of x) (ops_of (drop (i + 1) xs))
ops_split xs i x h e = ap ops_of (drop_more xs i x h ∙ ap (λ y. y ∷ drop (i + 1) xs) (sym e))

pub ops_over : {A : Type 0} (xs : List (code.Op A)) (i : ℕ) → length xs ≤ i → ops_of (drop i xs) ≡ no_ops
ops_over xs i h = ap ops_of (drop_all i xs h)

-- ---- levels

near_case : (path : Path) (l : CurrentRound) (depth : ℕ) (d : CurrentRound) → depth < length (l ∷ path)
    → (depth < length path → level_at path depth ≡ Some (get_or path (length path - 1 - depth) d))
    → (b : Bool) → (length path == depth) ≡ b
    → (if b then Some l else level_at path depth) ≡ Some (get_or (l ∷ path) (length (l ∷ path) - 1 - depth) d)
near_case path l depth d h inner true e =
    let n : length (l ∷ path) - 1 - depth ≡ 0 = omega (arith, eqb-true (length path) depth e) in
    rw n refl
near_case path l depth d h inner false e =
    let apart : length path ≢ depth = eqb-false (length path) depth e in
    let inside : depth < length path = omega (arith, apart) in
    let n : length (l ∷ path) - 1 - depth ≡ suc (length path - 1 - depth) = omega (arith, apart) in
    rw n (inner inside)

pub level_near : (path : Path) (depth : ℕ) (d : CurrentRound) → depth < length path
    → level_at path depth ≡ Some (get_or path (length path - 1 - depth) d)
level_near [] depth d h = absurd (omega arith)
level_near (l ∷ path) depth d h = near_case path l depth d h (λ i. level_near path depth d i) (length path == depth)
    refl

no_case : (path : Path) (l : CurrentRound) (depth : ℕ) → length (l ∷ path) ≤ depth → level_at path depth ≡ None
    → (b : Bool)
    → (length path == depth) ≡ b
    → (if b then Some l else level_at path depth) ≡ None
no_case path l depth h inner true e = absurd (omega (arith, eqb-true (length path) depth e))
no_case path l depth h inner false e = inner

pub no_level : (path : Path) (depth : ℕ) → length path ≤ depth → level_at path depth ≡ None
no_level [] depth h = refl
no_level (l ∷ path) depth h = no_case path l depth h (no_level path depth (omega arith)) (length path == depth) refl

-- ---- totals

pub total_step : {A : Type 0} (depth : ℕ) (xs : List (Binding A)) (i : ℕ) (x : Binding A) → i < length xs
    → x ≡ get_or xs i x
    → totals depth (values_seen (drop i xs))
    ≡ value_total depth (value_seen x) + totals depth (values_seen (drop (i + 1) xs))
total_step depth xs i x h e = ap (λ ys. totals depth (values_seen ys))
    (drop_more xs i x h ∙ ap (λ y. y ∷ drop (i + 1) xs) (sym e))

pub total_zero : {A : Type 0} (vs : Vec (Binding A) A) → value_total 0 (value_seen (Nested vs)) ≡ length vs.items
total_zero vs = ap (value_total 0) (view-nested vs) ∙ count_seen vs.items

-- ---- what a list allows

used_is : (use_kind : UseKind) (name : Name) → used_name (use_seen use_kind name) ≡ name
used_is wants.Fragment name = refl
used_is wants.Number name = refl

list_under : {A : Type 0} (env : Environment) (path : Path) (u : Use) (name : Name) (v w : Value)
    (vs : Vec (Binding A) A) (n : ℕ) → used_name u ≡ name → Some v ≡ value_of env name
    → Some w ≡ reach path v → w ≡ value_seen (Nested vs) → n ≡ length vs.items
    → Some (finite n) ≡ extent_under env path u
list_under env path u name v w vs n m a b e h =
    sym (ap (λ x. option_map (extent_of u) (option_and_then (reach path) (value_of env x))) m
    ∙ (ap (λ r. option_map (extent_of u) (option_and_then (reach path) r)) (sym a)
    ∙ (ap (option_map (extent_of u)) (sym b)
    ∙ (ap (λ x. Some (extent_of u x)) (e ∙ view-nested vs)
    ∙ ap (λ k. Some (finite k)) (count_seen vs.items ∙ sym h)))))

pub extent_list : {A : Type 0} (env : Environment) (path : Path) (use_kind : UseKind) (name : Name) (v w : Value)
    (vs : Vec (Binding A) A) (n : ℕ) → Some v ≡ value_of env name
    → Some w ≡ reach path v → w ≡ value_seen (Nested vs) → n ≡ length vs.items
    → Some (finite n) ≡ extent_under env path (use_seen use_kind name)
extent_list env path use_kind name v w vs n a b e h =
    list_under env path (use_seen use_kind name) name v w vs n (used_is use_kind name) a b e h

-- a repetition of the code, whose ops are in sight
pub view-body : {A : Type 0} (t : MetaTemplate-F A (code.Op A) (Unit {0})) (kind : RepeatKind)
    (s : Option (Separator A))
    → op_of {A = A} (Repeat t kind s) ≡ repetition (ops_of t.0.items) (option_map separator_seen s) kind
view-body t kind s = search (rules, op_lemmas)

-- ---- the least of several

lesser_endless : (a : Extent) → lesser a endless ≡ a
lesser_endless endless = refl
lesser_endless (finite n) = refl

lesser_over : (a b d : Extent) → lesser a (lesser b d) ≡ lesser (lesser a b) d
lesser_over endless b d = refl
lesser_over (finite n) endless d = refl
lesser_over (finite n) (finite m) endless = refl
lesser_over (finite n) (finite m) (finite k) = ap finite (omega arith)

pub shorter_over : (a b d : Option Extent) → shorter a (shorter b d) ≡ shorter (shorter a b) d
shorter_over None b d = refl
shorter_over (Some a) None d = refl
shorter_over (Some a) (Some b) None = refl
shorter_over (Some a) (Some b) (Some d) = ap Some (lesser_over a b d)

shorter_none : (a : Option Extent) → shorter a None ≡ a
shorter_none None = refl
shorter_none (Some a) = refl

shortest_both : (es fs : List Extent) → shortest (es ++ fs) ≡ shorter (shortest es) (shortest fs)
shortest_both [] fs = refl
shortest_both (e ∷ es) fs = ap (shorter (Some e)) (shortest_both es fs)
    ∙ shorter_over (Some e) (shortest es) (shortest fs)

cons_both : {X : Type 0} (o : Option X) (xs ys : List X) → cons_option o (xs ++ ys) ≡ cons_option o xs ++ ys
cons_both None xs ys = refl
cons_both (Some x) xs ys = refl

kept_both : (f : Use → Option Extent) (us vs : List Use) → filter_map f (us ++ vs) ≡ filter_map f us ++ filter_map f vs
kept_both f [] vs = refl
kept_both f (u ∷ us) vs = ap (cons_option (f u)) (kept_both f us vs)
    ∙ cons_both (f u) (filter_map f us) (filter_map f vs)

pub shortest_uses : (f : Use → Option Extent) (us vs : List Use)
    → shortest (filter_map f (us ++ vs)) ≡ shorter (shortest (filter_map f us)) (shortest (filter_map f vs))
shortest_uses f us vs = ap shortest (kept_both f us vs) ∙ shortest_both (filter_map f us) (filter_map f vs)

-- what a loop over ops has found is less or no greater than what is left
pub shortest_next : (f : Use → Option Extent) (o : Op) (rest all : Ops) (least own now : Option Extent)
    → shortest (filter_map f (uses_of all)) ≡ shorter least (shortest (filter_map f (uses_of (op o rest))))
    → own ≡ shortest (filter_map f (uses_of_op o)) → now ≡ shorter least own
    → shortest (filter_map f (uses_of all)) ≡ shorter now (shortest (filter_map f (uses_of rest)))
shortest_next f o rest all least own now h w n =
    h ∙ (ap (shorter least) (shortest_uses f (uses_of_op o) (uses_of rest))
    ∙ (shorter_over least (shortest (filter_map f (uses_of_op o))) (shortest (filter_map f (uses_of rest)))
    ∙ ap (λ x. shorter x (shortest (filter_map f (uses_of rest)))) (ap (shorter least) (sym w) ∙ sym n)))

pub shortest_end : (f : Use → Option Extent) (all : Ops) (least : Option Extent)
    → shortest (filter_map f (uses_of all)) ≡ shorter least (shortest (filter_map f (uses_of no_ops)))
    → least ≡ shortest (filter_map f (uses_of all))
shortest_end f all least h = sym (h ∙ shorter_none least)

pub least_of : (es : List Extent) → extent_over es ≡ unwrap_or (shortest es) (finite 0)
least_of [] = refl
least_of (e ∷ es) = go es
  where
    some_least : (d : Extent) (fs : List Extent) → shortest (d ∷ fs) ≡ Some (least_extent (d ∷ fs))
    some_least d [] = ap Some (sym (lesser_endless d))
    some_least d (x ∷ xs) = ap (shorter (Some d)) (some_least x xs)

    go : (fs : List Extent) → least_extent (e ∷ fs) ≡ unwrap_or (shortest (e ∷ fs)) (finite 0)
    go fs = ap (λ o. unwrap_or o (finite 0)) (sym (some_least e fs))
