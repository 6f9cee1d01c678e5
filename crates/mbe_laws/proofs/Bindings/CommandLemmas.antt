-- What a log binds by the commands of a reading is what the reading binds: each round binds the same names, so no list
-- is filled up with empty lists.
use Rattle.std.specs.Prelude.{◌≡◌, ◌⊎◌, ◌≤◌, ℕ, zero, suc, Bool, true, false, if◌then◌else◌, List, [], ◌∷◌, ◌++◌}
use Rattle.std.specs.Prelude.{Option, Some, None, refl}
use Rattle.std.proofs.Common.{arith, ap, sym, subst, ◌∙◌, inl, inr}
use Rattle.std.proofs.lemmas.Option.{none-some}
use Rattle.std.specs.Str.{bytes_eq}
use Rattle.std.proofs.lemmas.Slice.Eq.{bytes_eq-Decides}
use Rattle.mbe_semantics.specs.declared.fragment_kinds.RepeatKind.{RepeatKind}
use Rattle.mbe_semantics.specs.Syntax.Op.{Name, Separator, Op, token, group, variable, repetition, expression, Ops}
use Rattle.mbe_semantics.specs.Syntax.Op.{no_ops, op, names_of, names_of_op}
use Rattle.mbe_semantics.specs.Readings.Item.{Item, matched, bound, grouped, skipped, rounds, Items, no_items, item}
use Rattle.mbe_semantics.specs.Readings.Item.{Rounds, no_rounds, round}
use Rattle.mbe_semantics.specs.Readings.Input.{Input, input_of}
use Rattle.mbe_semantics.specs.Readings.Reading.{Reads, ReadsFirst, ReadsRounds}
use Rattle.mbe_semantics.specs.Matching.Lists.{In}
use Rattle.mbe_semantics.specs.Bindings.Environment.{Value, fragment, list, empty, missing, Values, no_values, value}
use Rattle.mbe_semantics.specs.Bindings.Environment.{Environment, value_of, set_value, add_value, grown, add_round}
use Rattle.mbe_semantics.specs.Bindings.Environment.{skip_names, bind_item, bind, bind_rounds}
use Rattle.mbe_semantics.specs.Transcription.Rounds.{value_count}
use Rattle.mbe_semantics.specs.Bindings.Account.{Command, Commands, no_commands, command, filled, grown_in}
use Rattle.mbe_semantics.specs.Bindings.Account.{add_round_in, round_count, run, run_rounds, skip_commands, write}
use Rattle.mbe_semantics.specs.Bindings.Account.{write_item, rounds_of_items}
use Rattle.mbe_semantics.specs.Laws.Laws.{CommandsBindAlike}

-- ---- look-ups

equal : (a : Name) → bytes_eq a a ≡ true
equal a = (bytes_eq-Decides a a).1 refl

same_or_not : (a b : Name) → (a ≡ b) ⊎ (bytes_eq a b ≡ false)
same_or_not a b = go (bytes_eq a b) refl
  where
    go : (t : Bool) → bytes_eq a b ≡ t → (a ≡ b) ⊎ (bytes_eq a b ≡ false)
    go true e = inl ((bytes_eq-Decides a b).0 e)
    go false e = inr e

no_both : (b : Bool) → b ≡ true → b ≡ false → ⊥
no_both b e f = cc

if_true : {A : Type 0} (b : Bool) (x y : A) → b ≡ true → (if b then x else y) ≡ x
if_true true x y e = refl
if_true false x y e = absurd (no_both false e refl)

if_false : {A : Type 0} (b : Bool) (x y : A) → b ≡ false → (if b then x else y) ≡ y
if_false true x y e = absurd (no_both true refl e)
if_false false x y e = refl

at_name : (env : Environment) (a : Name) (v : Value) → value_of (set_value env a v) a ≡ Some v
at_name [] a v = if_true (bytes_eq a a) (Some v) None (equal a)
at_name (e ∷ env) a v = go (bytes_eq e.0 a) refl (at_name env a v)
  where
    go : (b : Bool) → bytes_eq e.0 a ≡ b → value_of (set_value env a v) a ≡ Some v
        → value_of (if b then (a, v) ∷ env else e ∷ set_value env a v) a ≡ Some v
    go true h k = if_true (bytes_eq a a) (Some v) (value_of env a) (equal a)
    go false h k = if_false (bytes_eq e.0 a) (Some e.1) (value_of (set_value env a v) a) h ∙ k

at_other : (env : Environment) (a b : Name) (v : Value) → bytes_eq a b ≡ false
    → value_of (set_value env a v) b ≡ value_of env b
at_other [] a b v h = if_false (bytes_eq a b) (Some v) None h
at_other (e ∷ env) a b v h = go (bytes_eq e.0 a) refl (at_other env a b v h)
  where
    go : (t : Bool) → bytes_eq e.0 a ≡ t → value_of (set_value env a v) b ≡ value_of env b →
        value_of (if t then (a, v) ∷ env else e ∷ set_value env a v) b ≡ value_of (e ∷ env) b
    go true p k =
        if_false (bytes_eq a b) (Some v) (value_of env b) h
        ∙ sym (if_false (bytes_eq e.0 b) (Some e.1) (value_of env b)
        (ap (λ x. bytes_eq x b) ((bytes_eq-Decides e.0 a).0 p) ∙ h))
    go false p k = ap (λ x. if bytes_eq e.0 b then Some e.1 else x) k

-- ---- lists that are long enough for round k

abbrev Ready : ℕ → Option Value → Type 0
Ready k None = k ≡ 0
Ready k (Some (fragment x)) = Unit {0}
Ready k (Some (list vs)) = k ≤ value_count vs
Ready k (Some empty) = Unit {0}
Ready k (Some (missing kind)) = Unit {0}

ready_first : (o : Option Value) → Ready 0 o
ready_first None = refl
ready_first (Some (fragment x)) = tt
ready_first (Some (list vs)) = omega arith
ready_first (Some empty) = tt
ready_first (Some (missing kind)) = tt

longer : (vs : Values) (v : Value) → value_count (add_value vs v) ≡ suc (value_count vs)
longer no_values v = refl
longer (value w vs) v = let e = longer vs v in omega (arith, e)

no_fill : (k : ℕ) (vs : Values) → k ≤ value_count vs → filled k vs ≡ vs
no_fill zero vs h = refl
no_fill (suc k) no_values h = absurd (omega (arith, h))
no_fill (suc k) (value v vs) h = ap (value v) (no_fill k vs (omega (arith, h)))

same_grown : (k : ℕ) (env : Environment) (a : Name) (v : Value) (o : Option Value) → Ready k o
    → grown_in k env a v o ≡ grown env a v o
same_grown k env a v None h = ap (λ j. set_value env a (list (add_value (filled j no_values) v))) h
same_grown k env a v (Some (fragment x)) h = refl
same_grown k env a v (Some (list vs)) h = ap (λ ws. set_value env a (list (add_value ws v))) (no_fill k vs h)
same_grown k env a v (Some empty) h = refl
same_grown k env a v (Some (missing kind)) h = refl

-- the grown name itself is ready for one round more
grown_at : (k : ℕ) (env : Environment) (a : Name) (v : Value) (o : Option Value) → value_of env a ≡ o → Ready k o
    → Ready (suc k) (value_of (grown env a v o) a)
grown_at k env a v None e h = subst (Ready (suc k)) (sym (at_name env a (list (value v no_values)))) (omega (arith, h))
grown_at k env a v (Some (fragment x)) e h = subst (Ready (suc k)) (sym e) tt
grown_at k env a v (Some (list vs)) e h =
    subst (Ready (suc k)) (sym (at_name env a (list (add_value vs v)))) (let l = longer vs v in omega (arith, h, l))
grown_at k env a v (Some empty) e h = subst (Ready (suc k)) (sym e) tt
grown_at k env a v (Some (missing kind)) e h = subst (Ready (suc k)) (sym e) tt

less_ready : (k : ℕ) (o : Option Value) → Ready (suc k) o → Ready k o
less_ready k None h = absurd (omega (arith, h))
less_ready k (Some (fragment x)) h = tt
less_ready k (Some (list vs)) h = omega (arith, h)
less_ready k (Some empty) h = tt
less_ready k (Some (missing kind)) h = tt

grown_other : (env : Environment) (a b : Name) (v : Value) (o : Option Value) → bytes_eq a b ≡ false
    → value_of (grown env a v o) b ≡ value_of env b
grown_other env a b v None h = at_other env a b (list (value v no_values)) h
grown_other env a b v (Some (fragment x)) h = refl
grown_other env a b v (Some (list vs)) h = at_other env a b (list (add_value vs v)) h
grown_other env a b v (Some empty) h = refl
grown_other env a b v (Some (missing kind)) h = refl

-- a name that is ready stays so
grown_ready : (k : ℕ) (env : Environment) (a b : Name) (v : Value) → Ready k (value_of env b)
    → Ready k (value_of (grown env a v (value_of env a)) b)
grown_ready k env a b v h = go (same_or_not a b)
  where
    go : (a ≡ b) ⊎ (bytes_eq a b ≡ false) → Ready k (value_of (grown env a v (value_of env a)) b)
    go (inl e) = less_ready k _ (subst (λ x. Ready (suc k) (value_of (grown env a v (value_of env a)) x)) e
        (grown_at k env a v (value_of env a) refl (subst (λ x. Ready k (value_of env x)) (sym e) h)))
    go (inr n) = subst (Ready k) (sym (grown_other env a b v (value_of env a) n)) h

round_ready : (k : ℕ) (m env : Environment) (b : Name) → Ready k (value_of env b)
    → Ready k (value_of (add_round m env) b)
round_ready k [] env b h = h
round_ready k (e ∷ m) env b h = round_ready k m (grown env e.0 e.1 (value_of env e.0)) b (grown_ready k env e.0 b e.1 h)

abbrev AllReady : ℕ → Environment → Environment → Type 0
AllReady k env [] = Unit {0}
AllReady k env (e ∷ m) = Ready k (value_of env e.0) × AllReady k env m

all_grown : (k : ℕ) (env : Environment) (a : Name) (v : Value) (m : Environment) → AllReady k env m
    → AllReady k (grown env a v (value_of env a)) m
all_grown k env a v [] h = tt
all_grown k env a v (e ∷ m) h = (grown_ready k env a e.0 v h.0, all_grown k env a v m h.1)

same_round : (k : ℕ) (m env : Environment) → AllReady k env m → add_round_in k m env ≡ add_round m env
same_round k [] env h = refl
same_round k (e ∷ m) env h =
    ap (add_round_in k m) (same_grown k env e.0 e.1 (value_of env e.0) h.0)
    ∙ same_round k m (grown env e.0 e.1 (value_of env e.0)) (all_grown k env e.0 e.1 m h.1)

-- ---- bound names

IsBound : Environment → Name → Type 0
IsBound env n = (v : Value) × (value_of env n ≡ Some v)

set_bound : (env : Environment) (a n : Name) (v : Value) → IsBound env n → IsBound (set_value env a v) n
unfolding IsBound
set_bound env a n v h = go (same_or_not a n)
  where
    go : (a ≡ n) ⊎ (bytes_eq a n ≡ false) → (w : Value) × (value_of (set_value env a v) n ≡ Some w)
    go (inl e) = (v, ap (value_of (set_value env a v)) (sym e) ∙ at_name env a v)
    go (inr d) = (h.0, at_other env a n v d ∙ h.1)

grown_bound : (env : Environment) (a n : Name) (v : Value) (o : Option Value) → IsBound env n
    → IsBound (grown env a v o) n
grown_bound env a n v None h = set_bound env a n (list (value v no_values)) h
grown_bound env a n v (Some (fragment x)) h = h
grown_bound env a n v (Some (list vs)) h = set_bound env a n (list (add_value vs v)) h
grown_bound env a n v (Some empty) h = h
grown_bound env a n v (Some (missing kind)) h = h

grown_itself : (env : Environment) (a : Name) (v : Value) (o : Option Value) → value_of env a ≡ o
    → IsBound (grown env a v o) a
unfolding IsBound
grown_itself env a v None e = (list (value v no_values), at_name env a (list (value v no_values)))
grown_itself env a v (Some (fragment x)) e = (fragment x, e)
grown_itself env a v (Some (list vs)) e = (list (add_value vs v), at_name env a (list (add_value vs v)))
grown_itself env a v (Some empty) e = (empty, e)
grown_itself env a v (Some (missing kind)) e = (missing kind, e)

keep_bound : (m env : Environment) (n : Name) → IsBound env n → IsBound (add_round m env) n
keep_bound [] env n h = h
keep_bound (e ∷ m) env n h = keep_bound m (grown env e.0 e.1 (value_of env e.0)) n
    (grown_bound env e.0 n e.1 (value_of env e.0) h)

tail_bound : (e : Name × Value) (m : Environment) (n : Name) → bytes_eq e.0 n ≡ false → IsBound (e ∷ m) n → IsBound m n
unfolding IsBound
tail_bound e m n d h = (h.0, sym (if_false (bytes_eq e.0 n) (Some e.1) (value_of m n) d) ∙ h.1)

round_bound : (m env : Environment) (n : Name) → IsBound m n → IsBound (add_round m env) n
unfolding IsBound
round_bound [] env n h = absurd (none-some h.0 h.1)
round_bound (e ∷ m) env n h = go (λ d. round_bound m (grown env e.0 e.1 (value_of env e.0)) n (tail_bound e m n d h))
    (same_or_not e.0 n)
  where
    go : (bytes_eq e.0 n ≡ false → IsBound (add_round m (grown env e.0 e.1 (value_of env e.0))) n)
        → (e.0 ≡ n) ⊎ (bytes_eq e.0 n ≡ false) →
        IsBound (add_round m (grown env e.0 e.1 (value_of env e.0))) n
    go f (inl q) = keep_bound m (grown env e.0 e.1 (value_of env e.0)) n
        (subst (IsBound (grown env e.0 e.1 (value_of env e.0))) q (grown_itself env e.0 e.1 (value_of env e.0) refl))
    go f (inr d) = f d

-- a name that the round binds is ready for one round more
next_ready : (k : ℕ) (m env : Environment) (n : Name) → IsBound m n → Ready k (value_of env n)
    → Ready (suc k) (value_of (add_round m env) n)
unfolding IsBound
next_ready k [] env n b h = absurd (none-some b.0 b.1)
next_ready k (e ∷ m) env n b h =
    go (λ d. next_ready k m (grown env e.0 e.1 (value_of env e.0)) n (tail_bound e m n d b)
    (grown_ready k env e.0 n e.1 h)) (same_or_not e.0 n)
  where
    after : Environment
    after = grown env e.0 e.1 (value_of env e.0)

    go : (bytes_eq e.0 n ≡ false → Ready (suc k) (value_of (add_round m (grown env e.0 e.1 (value_of env e.0))) n))
        → (e.0 ≡ n) ⊎ (bytes_eq e.0 n ≡ false) →
        Ready (suc k) (value_of (add_round m (grown env e.0 e.1 (value_of env e.0))) n)
    go f (inl q) = round_ready (suc k) m (grown env e.0 e.1 (value_of env e.0)) n
        (subst (λ x. Ready (suc k) (value_of (grown env e.0 e.1 (value_of env e.0)) x)) q
        (grown_at k env e.0 e.1 (value_of env e.0) refl (subst (λ x. Ready k (value_of env x)) (sym q) h)))
    go f (inr d) = f d

skip_bound : (names : List Name) (env : Environment) (n : Name) → IsBound env n → IsBound (skip_names names env) n
skip_bound [] env n h = h
skip_bound (a ∷ names) env n h = skip_bound names (set_value env a empty) n (set_bound env a n empty h)

skipped_bound : (names : List Name) (env : Environment) (n : Name) → In n names → IsBound (skip_names names env) n
unfolding IsBound
skipped_bound [] env n h = absurd h
skipped_bound (a ∷ names) env n (inl e) =
    skip_bound names (set_value env a empty) n (empty, ap (value_of (set_value env a empty)) e ∙ at_name env a empty)
skipped_bound (a ∷ names) env n (inr h) = skipped_bound names (set_value env a empty) n h

itself : (env : Environment) (a : Name) (v : Value) → IsBound (set_value env a v) a
unfolding IsBound
itself env a v = (v, at_name env a v)

none_left : {A : Type 0} (n : Name) → A ⊎ In n [] → A
none_left n (inl h) = h
none_left n (inr h) = absurd h

mutual
  item_keeps : (x : Item) (env : Environment) (n : Name) → IsBound env n → IsBound (bind_item x env) n
  item_keeps (matched w) env n h = h
  item_keeps (bound name x) env n h = set_bound env name n (fragment x) h
  item_keeps (grouped is) env n h = items_keep is env n h
  item_keeps (skipped names) env n h = skip_bound names env n h
  item_keeps (rounds rs last) env n h = keep_bound (bind last []) (bind_rounds rs env) n (rounds_keep rs env n h)

  items_keep : (is : Items) (env : Environment) (n : Name) → IsBound env n → IsBound (bind is env) n
  items_keep no_items env n h = h
  items_keep (item is x) env n h = item_keeps x (bind is env) n (items_keep is env n h)

  rounds_keep : (rs : Rounds) (env : Environment) (n : Name) → IsBound env n → IsBound (bind_rounds rs env) n
  rounds_keep no_rounds env n h = h
  rounds_keep (round rs is w) env n h = keep_bound (bind is []) (bind_rounds rs env) n (rounds_keep rs env n h)

-- ---- names

in_either : (n : Name) (xs ys : List Name) → In n (xs ++ ys) → In n xs ⊎ In n ys
in_either n [] ys h = inr h
in_either n (x ∷ xs) ys (inl e) = inl (inl e)
in_either n (x ∷ xs) ys (inr h) = go (in_either n xs ys h)
  where
    go : In n xs ⊎ In n ys → In n (x ∷ xs) ⊎ In n ys
    go (inl k) = inl (inr k)
    go (inr k) = inr k

in_left : (n : Name) (xs ys : List Name) → In n xs → In n (xs ++ ys)
in_left n [] ys h = absurd h
in_left n (x ∷ xs) ys (inl e) = inl e
in_left n (x ∷ xs) ys (inr h) = inr (in_left n xs ys h)

in_right : (n : Name) (xs ys : List Name) → In n ys → In n (xs ++ ys)
in_right n [] ys h = h
in_right n (x ∷ xs) ys h = inr (in_right n xs ys h)

-- each name of the environment is one of these
abbrev KeysIn : List Name → Environment → Type 0
KeysIn names [] = Unit {0}
KeysIn names (e ∷ env) = In e.0 names × KeysIn names env

set_keys : (names : List Name) (env : Environment) (a : Name) (v : Value) → In a names → KeysIn names env
    → KeysIn names (set_value env a v)
set_keys names [] a v h k = (h, tt)
set_keys names (e ∷ env) a v h k = go (bytes_eq e.0 a) (set_keys names env a v h k.1)
  where
    go : (b : Bool) → KeysIn names (set_value env a v)
        → KeysIn names (if b then (a, v) ∷ env else e ∷ set_value env a v)
    go true m = (h, k.1)
    go false m = (k.0, m)

grown_keys : (names : List Name) (env : Environment) (a : Name) (v : Value) (o : Option Value) → In a names
    → KeysIn names env → KeysIn names (grown env a v o)
grown_keys names env a v None h k = set_keys names env a (list (value v no_values)) h k
grown_keys names env a v (Some (fragment x)) h k = k
grown_keys names env a v (Some (list vs)) h k = set_keys names env a (list (add_value vs v)) h k
grown_keys names env a v (Some empty) h k = k
grown_keys names env a v (Some (missing kind)) h k = k

round_keys : (names : List Name) (m env : Environment) → KeysIn names m → KeysIn names env
    → KeysIn names (add_round m env)
round_keys names [] env h k = k
round_keys names (e ∷ m) env h k =
    round_keys names m (grown env e.0 e.1 (value_of env e.0)) h.1
    (grown_keys names env e.0 e.1 (value_of env e.0) h.0 k)

skip_keys : (names more : List Name) (env : Environment) → ((n : Name) → In n more → In n names) → KeysIn names env
    → KeysIn names (skip_names more env)
skip_keys names [] env h k = k
skip_keys names (a ∷ more) env h k = skip_keys names more (set_value env a empty) (λ n m. h n (inr m))
    (set_keys names env a empty (h a (inl refl)) k)

module _ (i : Input) where
  -- ---- each name of the ops is bound, and no other

  -- the names of the ops that are left are names of the ops
  later_names : (is : Items) (os : Ops) (p : ℕ) (rest : Ops) (n : Name) → ReadsFirst is i os p rest
      → In n (names_of rest) → In n (names_of os)
  later_names no_items os p rest n r h = subst (λ x. In n (names_of x)) (sym r) h
  later_names (item is x) os p rest n (o, r, s) h =
      later_names is os p (op o rest) n r (in_right n (names_of_op o) (names_of rest) h)

  mutual
    item_binds : (x : Item) (o : Op) (p : ℕ) (env : Environment) (n : Name) → Reads x i o p → In n (names_of_op o)
        → IsBound (bind_item x env) n
    item_binds (matched w) (token t) p env n r h = absurd h
    item_binds (matched w) (group d body) p env n r h = absurd r
    item_binds (matched w) (variable m kind span) p env n r h = absurd r
    item_binds (matched w) (repetition body s k) p env n r h = absurd r
    item_binds (matched w) (expression e) p env n r h = absurd r
    item_binds (bound name x) (variable m kind span) p env n r (inl e) =
        subst (IsBound (set_value env name (fragment x))) (r.0 ∙ sym e) (itself env name (fragment x))
    item_binds (bound name x) (variable m kind span) p env n r (inr h) = absurd h
    item_binds (bound name x) (token t) p env n r h = absurd r
    item_binds (bound name x) (group d body) p env n r h = absurd r
    item_binds (bound name x) (repetition body s k) p env n r h = absurd r
    item_binds (bound name x) (expression e) p env n r h = absurd r
    item_binds (grouped is) (group d body) p env n r h = none_left n (items_bind is body (suc p) no_ops env n r.1 h)
    item_binds (grouped is) (token t) p env n r h = absurd r
    item_binds (grouped is) (variable m kind span) p env n r h = absurd r
    item_binds (grouped is) (repetition body s k) p env n r h = absurd r
    item_binds (grouped is) (expression e) p env n r h = absurd r
    item_binds (skipped names) (repetition body s k) p env n r h = skipped_bound names env n (subst (In n) (sym r.1) h)
    item_binds (skipped names) (token t) p env n r h = absurd r
    item_binds (skipped names) (group d body) p env n r h = absurd r
    item_binds (skipped names) (variable m kind span) p env n r h = absurd r
    item_binds (skipped names) (expression e) p env n r h = absurd r
    item_binds (rounds rs last) (repetition body s k) p env n r h =
        round_bound (bind last []) (bind_rounds rs env) n (none_left n (items_bind last body _ no_ops [] n r.1 h))
    item_binds (rounds rs last) (token t) p env n r h = absurd r
    item_binds (rounds rs last) (group d body) p env n r h = absurd r
    item_binds (rounds rs last) (variable m kind span) p env n r h = absurd r
    item_binds (rounds rs last) (expression e) p env n r h = absurd r

    items_bind : (is : Items) (os : Ops) (p : ℕ) (rest : Ops) (env : Environment) (n : Name) → ReadsFirst is i os p rest
        → In n (names_of os) →
        IsBound (bind is env) n ⊎ In n (names_of rest)
    items_bind no_items os p rest env n r h = inr (subst (λ x. In n (names_of x)) r h)
    items_bind (item is x) os p rest env n (o, r, s) h =
        one_more (item_keeps x (bind is env) n) (λ m. item_binds x o _ (bind is env) n s m)
        (items_bind is os p (op o rest) env n r h)
      where
        one_more : (IsBound (bind is env) n → IsBound (bind_item x (bind is env)) n)
            → (In n (names_of_op o) → IsBound (bind_item x (bind is env)) n) →
            IsBound (bind is env) n ⊎ In n (names_of_op o ++ names_of rest)
            → IsBound (bind_item x (bind is env)) n ⊎ In n (names_of rest)
        one_more f g (inl b) = inl (f b)
        one_more f g (inr m) = by_side (in_either n (names_of_op o) (names_of rest) m)
          where
            by_side : In n (names_of_op o) ⊎ In n (names_of rest)
                → IsBound (bind_item x (bind is env)) n ⊎ In n (names_of rest)
            by_side (inl a) = inl (g a)
            by_side (inr a) = inr a

  mutual
    item_keys : (x : Item) (o : Op) (p : ℕ) (env : Environment) (names : List Name) → Reads x i o p
        → ((n : Name) → In n (names_of_op o) → In n names) →
        KeysIn names env → KeysIn names (bind_item x env)
    item_keys (matched w) o p env names r h k = k
    item_keys (bound name x) (variable m kind span) p env names r h k =
        set_keys names env name (fragment x) (h name (inl r.0)) k
    item_keys (bound name x) (token t) p env names r h k = absurd r
    item_keys (bound name x) (group d body) p env names r h k = absurd r
    item_keys (bound name x) (repetition body s e) p env names r h k = absurd r
    item_keys (bound name x) (expression e) p env names r h k = absurd r
    item_keys (grouped is) (group d body) p env names r h k = items_keys is body (suc p) no_ops env names r.1 h k
    item_keys (grouped is) (token t) p env names r h k = absurd r
    item_keys (grouped is) (variable m kind span) p env names r h k = absurd r
    item_keys (grouped is) (repetition body s e) p env names r h k = absurd r
    item_keys (grouped is) (expression e) p env names r h k = absurd r
    item_keys (skipped more) (repetition body s e) p env names r h k =
        skip_keys names more env (λ n m. h n (subst (In n) r.1 m)) k
    item_keys (skipped more) (token t) p env names r h k = absurd r
    item_keys (skipped more) (group d body) p env names r h k = absurd r
    item_keys (skipped more) (variable m kind span) p env names r h k = absurd r
    item_keys (skipped more) (expression e) p env names r h k = absurd r
    item_keys (rounds rs last) (repetition body s e) p env names r h k =
        round_keys names (bind last []) (bind_rounds rs env) (items_keys last body _ no_ops [] names r.1 h tt)
        (rounds_keys rs body s e p env names r.0 h k)
    item_keys (rounds rs last) (token t) p env names r h k = absurd r
    item_keys (rounds rs last) (group d body) p env names r h k = absurd r
    item_keys (rounds rs last) (variable m kind span) p env names r h k = absurd r
    item_keys (rounds rs last) (expression e) p env names r h k = absurd r

    items_keys : (is : Items) (os : Ops) (p : ℕ) (rest : Ops) (env : Environment) (names : List Name)
        → ReadsFirst is i os p rest →
        ((n : Name) → In n (names_of os) → In n names) → KeysIn names env → KeysIn names (bind is env)
    items_keys no_items os p rest env names r h k = k
    items_keys (item is x) os p rest env names (o, r, s) h k =
        item_keys x o _ (bind is env) names s
        (λ n m. h n (later_names is os p (op o rest) n r (in_left n (names_of_op o) (names_of rest) m)))
        (items_keys is os p (op o rest) env names r h k)

    rounds_keys : (rs : Rounds) (body : Ops) (s : Option Separator) (e : RepeatKind) (p : ℕ) (env : Environment)
        (names : List Name) → ReadsRounds rs i body s e p →
        ((n : Name) → In n (names_of body) → In n names) → KeysIn names env → KeysIn names (bind_rounds rs env)
    rounds_keys no_rounds body s e p env names r h k = k
    rounds_keys (round rs is w) body s e p env names (a, r, q, b) h k =
        round_keys names (bind is []) (bind_rounds rs env) (items_keys is body _ no_ops [] names q h tt)
        (rounds_keys rs body s e p env names r h k)

  -- ---- the commands of a reading

  all_ready : (k : ℕ) (env m : Environment) (names : List Name) → ((n : Name) → In n names → Ready k (value_of env n))
      → KeysIn names m → AllReady k env m
  all_ready k env [] names h q = tt
  all_ready k env (e ∷ m) names h q = (h e.0 q.0, all_ready k env m names h q.1)

  body_keys : (is : Items) (body : Ops) (p : ℕ) → ReadsFirst is i body p no_ops → KeysIn (names_of body) (bind is [])
  body_keys is body p r = items_keys is body p no_ops [] (names_of body) r (λ n h. h) tt

  rounds_ready : (rs : Rounds) (body : Ops) (s : Option Separator) (e : RepeatKind) (p : ℕ) (env : Environment)
      (n : Name) → ReadsRounds rs i body s e p →
      In n (names_of body) → Ready (round_count (rounds_of_items rs)) (value_of (bind_rounds rs env) n)
  rounds_ready no_rounds body s e p env n r h = ready_first (value_of env n)
  rounds_ready (round rs is w) body s e p env n (a, r, q, b) h =
      next_ready (round_count (rounds_of_items rs)) (bind is []) (bind_rounds rs env) n
      (none_left n (items_bind is body _ no_ops [] n q h))
      (rounds_ready rs body s e p env n r h)

  skips : (names : List Name) (cs : Commands) (env : Environment)
      → run (skip_commands names cs) env ≡ skip_names names (run cs env)
  skips [] cs env = refl
  skips (n ∷ names) cs env = skips names (command cs (Command.skips n)) env

  mutual
    item_runs : (x : Item) (o : Op) (p : ℕ) (cs : Commands) (env : Environment) → Reads x i o p
        → run (write_item x cs) env ≡ bind_item x (run cs env)
    item_runs (matched w) o p cs env r = refl
    item_runs (bound name x) o p cs env r = refl
    item_runs (grouped is) (group d body) p cs env r = items_run is body (suc p) no_ops cs env r.1
    item_runs (grouped is) (token t) p cs env r = absurd r
    item_runs (grouped is) (variable m kind span) p cs env r = absurd r
    item_runs (grouped is) (repetition body s k) p cs env r = absurd r
    item_runs (grouped is) (expression e) p cs env r = absurd r
    item_runs (skipped names) o p cs env r = skips names cs env
    item_runs (rounds rs last) (repetition body s k) p cs env r =
        ap (λ m. add_round_in (round_count (rounds_of_items rs)) m (run_rounds (rounds_of_items rs) (run cs env)))
        (items_run last body _ no_ops no_commands [] r.1)
        ∙ ap (add_round_in (round_count (rounds_of_items rs)) (bind last []))
        (rounds_run rs body s k p (run cs env) r.0)
        ∙ same_round (round_count (rounds_of_items rs)) (bind last []) (bind_rounds rs (run cs env))
        (all_ready (round_count (rounds_of_items rs)) (bind_rounds rs (run cs env)) (bind last []) (names_of body)
        (λ n h. rounds_ready rs body s k p (run cs env) n r.0 h) (body_keys last body _ r.1))
    item_runs (rounds rs last) (token t) p cs env r = absurd r
    item_runs (rounds rs last) (group d body) p cs env r = absurd r
    item_runs (rounds rs last) (variable m kind span) p cs env r = absurd r
    item_runs (rounds rs last) (expression e) p cs env r = absurd r

    items_run : (is : Items) (os : Ops) (p : ℕ) (rest : Ops) (cs : Commands) (env : Environment)
        → ReadsFirst is i os p rest → run (write is cs) env ≡ bind is (run cs env)
    items_run no_items os p rest cs env r = refl
    items_run (item is x) os p rest cs env (o, r, s) =
        item_runs x o _ (write is cs) env s ∙ ap (bind_item x) (items_run is os p (op o rest) cs env r)

    rounds_run : (rs : Rounds) (body : Ops) (s : Option Separator) (k : RepeatKind) (p : ℕ) (env : Environment)
        → ReadsRounds rs i body s k p →
        run_rounds (rounds_of_items rs) env ≡ bind_rounds rs env
    rounds_run no_rounds body s k p env r = refl
    rounds_run (round rs is w) body s k p env (a, r, q, b) =
        ap (λ m. add_round_in (round_count (rounds_of_items rs)) m (run_rounds (rounds_of_items rs) env))
        (items_run is body _ no_ops no_commands [] q)
        ∙ ap (add_round_in (round_count (rounds_of_items rs)) (bind is [])) (rounds_run rs body s k p env r)
        ∙ same_round (round_count (rounds_of_items rs)) (bind is []) (bind_rounds rs env)
        (all_ready (round_count (rounds_of_items rs)) (bind_rounds rs env) (bind is []) (names_of body)
        (λ n h. rounds_ready rs body s k p env n r h) (body_keys is body _ q))

pub commands_bind_alike : CommandsBindAlike
commands_bind_alike g pattern argument is r = items_run (input_of g argument) is pattern 0 no_ops no_commands [] r.0
