-- Rounds whose commands bind a name each, no two the same one.
use Rattle.std.specs.Prelude.{◌≡◌, ◌+◌, ℕ, zero, suc, List, [], ◌∷◌, ◌++◌, map, take, drop, slice_get, Some, None, true}
use Rattle.std.specs.Prelude.{false, if◌then◌else◌, refl}
use Rattle.std.proofs.Common.{arith, sym, ap, subst, ◌∙◌, append_assoc}
use Rattle.std.proofs.lemmas.List.{append-nil, map-append}
use Rattle.std.proofs.lemmas.Map.Keys.{IsDistinct-head, IsDistinct-tail, IsDistinct-cons}
use Rattle.std.specs.Str.{bytes_eq}
use Rattle.std.specs.List.{IsDistinct, AllByRecursion}
use Rattle.std.specs.Cmp.Lexicographic.{nat_list_eq_equiv}
use Rattle.indexmap.specs.IndexMap.{set_value_at}
use Rattle.mbe_semantics.specs.declared.list_prefix.ListPrefix.{ListPrefix}
use Rattle.mbe_log.specs.declared.log.Command as code
use Rattle.mbe_bindings.specs.declared.bindings.Binding.{Binding}
use Rattle.mbe_log.specs.Chain.{Chain}
use Rattle.mbe_bindings.specs.FlatEntries.{Flat}
use Rattle.mbe_log.specs.LogEntries.{entry_seen, log_of}
use Rattle.mbe_log.specs.FragmentViews.{fragment_seen}
use Rattle.mbe_bindings.specs.BindingViews.{value_seen}
use Rattle.mbe_bindings.specs.ListGrowth.{grown_value}
use Rattle.mbe_bindings.specs.PlainCommands.{names_of, entry_name, entry_row, entry_rows, BindsNameAt}
use Rattle.mbe_bindings.specs.PlainCommands.{BindDistinctNames}
use Rattle.mbe_bindings.specs.Replay.{BindsRound}
use Rattle.mbe_log.specs.Sound.{GivesCommand}
use Rattle.mbe_semantics.specs.Syntax.Op.{Name}
use Rattle.mbe_semantics.specs.Bindings.Environment.{Environment, Value, fragment, empty, missing, value_of, set_value}
use Rattle.mbe_semantics.specs.Bindings.Account.{Command, Commands, no_commands, command, Log, Gives, add_round_in}
use Rattle.mbe_semantics.specs.Bindings.Account.{grown_in, empty_fragment, run, run_command}
use Rattle.mbe_bindings.proofs.BindingLemmas.{values_of, grown-some}
use Rattle.mbe_log.proofs.SeenLemmas.{take-none}
use Rattle.mbe_bindings.proofs.BuildLemmas.{command_head, end_of, flat_gives}

-- ---- lists

take-next : {X : Type 0} (xs : List X) (k : ℕ) (x : X) → slice_get xs k ≡ Some x → take (suc k) xs ≡ take k xs ++ x ∷ []
take-next [] k x h = cc
take-next (y ∷ xs) zero x h = let e : y ≡ x = cc in ap (λ t. y ∷ t) (take-none xs) ∙ ap (λ z. z ∷ []) e
take-next (y ∷ xs) (suc k) x h = ap (λ t. y ∷ t) (take-next xs k x h)

get-drop : {X : Type 0} (xs : List X) (n k : ℕ) (x : X) → slice_get xs (n + k) ≡ Some x
    → slice_get (drop n xs) k ≡ Some x
get-drop [] zero k x h = let j : 0 + k ≡ k = omega arith in subst (λ i. slice_get [] i ≡ Some x) j h
get-drop (y ∷ xs) zero k x h = let j : 0 + k ≡ k = omega arith in subst (λ i. slice_get (y ∷ xs) i ≡ Some x) j h
get-drop [] (suc n) k x h = cc
get-drop (y ∷ xs) (suc n) k x h =
    let j : suc n + k ≡ suc (n + k) = omega arith in
    get-drop xs n k x (subst (λ i. slice_get (y ∷ xs) i ≡ Some x) j h)

distinct-drop : (n : ℕ) (ks : List Name) → IsDistinct bytes_eq ks → IsDistinct bytes_eq (drop n ks)
distinct-drop zero [] d = d
distinct-drop zero (k ∷ ks) d = d
distinct-drop (suc n) [] d = d
distinct-drop (suc n) (k ∷ ks) d = distinct-drop n ks (IsDistinct-tail bytes_eq k ks d)

none : (ks : List Name) → IsDistinct bytes_eq ks → IsDistinct bytes_eq []
none [] d = d
none (k ∷ ks) d = none ks (IsDistinct-tail bytes_eq k ks d)

all-take : (k : Name) (n : ℕ) (ks : List Name) → AllByRecursion (λ y. bytes_eq k y ≡ false) ks
    → AllByRecursion (λ y. bytes_eq k y ≡ false) (take n ks)
all-take k zero [] a = a
all-take k zero (x ∷ ks) a = tt
all-take k (suc n) [] a = a
all-take k (suc n) (x ∷ ks) a = (a.0, all-take k n ks a.1)

distinct-take : (n : ℕ) (ks : List Name) → IsDistinct bytes_eq ks → IsDistinct bytes_eq (take n ks)
distinct-take zero [] d = d
distinct-take zero (k ∷ ks) d = none ks (IsDistinct-tail bytes_eq k ks d)
distinct-take (suc n) [] d = d
distinct-take (suc n) (k ∷ ks) d =
    IsDistinct-cons bytes_eq k (take n ks) (all-take k n ks (IsDistinct-head bytes_eq k ks d))
    (distinct-take n ks (IsDistinct-tail bytes_eq k ks d))

-- ---- the names that are bound

module _ {A : Type 0} where
  abbrev pub keys_in : List (Name × Binding A) → List Name
  keys_in es = map (λ e. e.0) es

  names-are : (es : List (Name × Binding A)) → keys_in es ≡ names_of (values_of es)
  names-are [] = refl
  names-are (e ∷ es) = ap (λ t. e.0 ∷ t) (names-are es)

  pub names-distinct : (es : List (Name × Binding A)) → IsDistinct bytes_eq (keys_in es)
      → IsDistinct bytes_eq (names_of (values_of es))
  names-distinct es d = subst (IsDistinct bytes_eq) (names-are es) d

  pub name-found : (es : List (Name × Binding A)) (i : ℕ) (name : Name) (x : Binding A)
      → Some (name, x) ≡ slice_get es i → Some name ≡ slice_get (names_of (values_of es)) i
  name-found [] i name x h = cc
  name-found (e ∷ es) zero name x h = let k : e ≡ (name, x) = cc in ap (λ p. Some p.0) (sym k)
  name-found (e ∷ es) (suc i) name x h = name-found es i name x h

  pub name-none : (es : List (Name × Binding A)) (i : ℕ) → None ≡ slice_get es i
      → None ≡ slice_get (names_of (values_of es)) i
  name-none [] i h = refl
  name-none (e ∷ es) zero h = cc
  name-none (e ∷ es) (suc i) h = name-none es i h

-- ---- the names of commands

module _ {A : Type 0} (own : List (code.Command A)) (names : List Name) (start k : ℕ) where
  -- the first k commands bind the names from the start on
  abbrev pub BindSoFar : Type 0
  BindSoFar = map entry_name (take k own) ≡ map Some (take k (drop start names))

  pub bind-step : (x : code.Command A) → slice_get own k ≡ Some x → BindsNameAt x names (start + k) → BindSoFar
      → map entry_name (take (k + 1) own) ≡ map Some (take (k + 1) (drop start names))
  bind-step x h b so_far =
      let j : suc k ≡ k + 1 = omega arith in
      subst (λ n. map entry_name (take n own) ≡ map Some (take n (drop start names))) j (
      ap (map entry_name) (take-next own k x h) ∙ map-append entry_name (take k own) (x ∷ [])
      ∙ ap (λ t. t ++ entry_name x ∷ []) so_far ∙ ap (λ n. map Some (take k (drop start names)) ++ n ∷ []) b.1
      ∙ sym (map-append Some (take k (drop start names)) (b.0 ∷ []))
      ∙ ap (map Some) (sym (take-next (drop start names) k b.0 (get-drop names start k b.0 b.2))))

  pub bind-end : IsDistinct bytes_eq names → BindSoFar → BindDistinctNames (take k own)
  bind-end d so_far =
      (take k (drop start names), so_far, distinct-take k (drop start names) (distinct-drop start names d))

-- ---- what they bind

abbrev BindsAs : {A : Type 0} → code.Command A → Name → Value → Type 0
BindsAs x name v = (entry_row x ≡ (name, v) ∷ []) × ((log : Log) (c : Command) → GivesCommand log (entry_seen x) c
    → (env : Environment) → run_command c env ≡ set_value env name v)

binds-as : {A : Type 0} (x : code.Command A) (name : Name) → entry_name x ≡ Some name → (v : Value) × BindsAs x name v
binds-as (code.TheVariants.Fragment n x) name h =
    let e : n ≡ name = cc in (
      fragment (fragment_seen x),
      (
        ap (λ m. (m, fragment (fragment_seen x)) ∷ []) e,
        λ log c g env. ap (λ d. run_command d env) g ∙ ap (λ m. set_value env m (fragment (fragment_seen x))) e,
      ),
    )
binds-as (code.TheVariants.Optional n) name h =
    let e : n ≡ name = cc in (
      fragment empty_fragment,
      (
        ap (λ m. (m, fragment empty_fragment) ∷ []) e,
        λ log c g env. ap (λ d. run_command d env) g ∙ ap (λ m. set_value env m (fragment empty_fragment)) e,
      ),
    )
binds-as (code.TheVariants.Empty n) name h =
    let e : n ≡ name = cc in (
      empty,
      (
        ap (λ m. (m, empty) ∷ []) e,
        λ log c g env. ap (λ d. run_command d env) g ∙ ap (λ m. set_value env m empty) e,
      ),
    )
binds-as (code.TheVariants.Missing n kind) name h =
    let e : n ≡ name = cc in (
      missing kind,
      (
        ap (λ m. (m, missing kind) ∷ []) e,
        λ log c g env. ap (λ d. run_command d env) g ∙ ap (λ m. set_value env m (missing kind)) e,
      ),
    )
binds-as (code.TheVariants.Nested finished current) name h = cc

-- a name that isn't bound yet goes last
all-middle : (k name : Name) (ks ns : List Name) → AllByRecursion (λ y. bytes_eq k y ≡ false) (ks ++ name ∷ ns)
    → bytes_eq k name ≡ false
all-middle k name [] ns a = a.0
all-middle k name (x ∷ ks) ns a = all-middle k name ks ns a.1

set-new : (env : Environment) (name : Name) (v : Value) (ns : List Name)
    → IsDistinct bytes_eq (names_of env ++ name ∷ ns) → set_value env name v ≡ env ++ (name, v) ∷ []
set-new [] name v ns d = refl
set-new (e ∷ env) name v ns d =
    let differ : bytes_eq e.0 name ≡ false =
    all-middle e.0 name (names_of env) ns (IsDistinct-head bytes_eq e.0 (names_of env ++ name ∷ ns) d) in
    ap (λ b. if b then (name, v) ∷ env else e ∷ set_value env name v) differ
    ∙ ap (λ t. e ∷ t) (set-new env name v ns (IsDistinct-tail bytes_eq e.0 (names_of env ++ name ∷ ns) d))

run-apart : {A : Type 0} (log : Log) (xs : List (code.Command A)) (names : List Name) (ds cs : Commands)
    → map entry_name xs ≡ map Some names → IsDistinct bytes_eq (names_of (run ds []) ++ names)
    → Gives log ds (map entry_seen xs) cs → run cs [] ≡ run ds [] ++ entry_rows xs
run-apart log [] names ds cs e d g = ap (λ t. run t []) (sym (end_of g)) ∙ sym (append-nil (run ds []))
run-apart log (x ∷ xs) [] ds cs e d g = cc
run-apart log (x ∷ xs) (name ∷ names) ds cs e d g =
    let n : entry_name x ≡ Some name = cc in
    let m : map entry_name xs ≡ map Some names = cc in
    let b = binds-as x name n in
    let k = command_head x g in
    let s : run (command ds k.0) [] ≡ run ds [] ++ (name, b.0) ∷ [] =
    b.1.1 log k.0 k.1 (run ds []) ∙ set-new (run ds []) name b.0 names d in
    run-apart log xs names (command ds k.0) cs m
    (subst (IsDistinct bytes_eq) (sym (ap (λ t. names_of t ++ names) s
    ∙ ap (λ t. t ++ names) (map-append (λ e. e.0) (run ds []) ((name, b.0) ∷ []))
    ∙ append_assoc (names_of (run ds [])) (name ∷ []) names)) d) k.2
    ∙ ap (λ t. t ++ entry_rows xs) s ∙ append_assoc (run ds []) ((name, b.0) ∷ []) (entry_rows xs)
    ∙ ap (λ t. run ds [] ++ (t ++ entry_rows xs)) (sym b.1.0)

-- a round whose commands bind a name each
pub bound_rows : {A : Type 0} (C : List (Chain (code.Command A))) (R : List (Chain ListPrefix)) (part : ListPrefix)
    (number : ℕ)
    (before after : Environment) (xs : List (code.Command A)) → Flat C part xs → BindDistinctNames xs
    → after ≡ add_round_in number (entry_rows xs) before → BindsRound C R part number before after
bound_rows C R part number before after xs flat apart s cs p =
    s ∙ ap (λ e. add_round_in number e before) (sym (run-apart (log_of C R) xs apart.0 no_commands cs apart.1 apart.2
    (flat_gives C R flat no_commands cs p)))

-- ---- one after the other

add-rows : (i : ℕ) (a b env : Environment) → add_round_in i (a ++ b) env ≡ add_round_in i b (add_round_in i a env)
add-rows i [] b env = refl
add-rows i (e ∷ a) b env = add-rows i a b (grown_in i env e.0 e.1 (value_of env e.0))

rows-last : {A : Type 0} (xs : List (code.Command A)) (x : code.Command A)
    → entry_rows (xs ++ x ∷ []) ≡ entry_rows xs ++ entry_row x
rows-last [] x = append-nil (entry_row x)
rows-last (y ∷ xs) x = ap (λ t. entry_row y ++ t) (rows-last xs x)
    ∙ sym (append_assoc (entry_row y) (entry_rows xs) (entry_row x))

pub grow-step : {A : Type 0} (own : List (code.Command A)) (i k : ℕ) (x : code.Command A)
    (before env after : Environment) → slice_get own k ≡ Some x
    → env ≡ add_round_in i (entry_rows (take k own)) before → after ≡ add_round_in i (entry_row x) env
    → after ≡ add_round_in i (entry_rows (take (k + 1) own)) before
grow-step own i k x before env after h e s =
    let j : suc k ≡ k + 1 = omega arith in
    subst (λ n. after ≡ add_round_in i (entry_rows (take n own)) before) j (
    s ∙ ap (add_round_in i (entry_row x)) e ∙ sym (add-rows i (entry_rows (take k own)) (entry_row x) before)
    ∙ ap (λ r. add_round_in i r before) (sym (rows-last (take k own) x) ∙ ap entry_rows (sym (take-next own k x h))))

-- ---- one value more at an index

name_is : (a : Name) → bytes_eq a a ≡ true
name_is a = nat_list_eq_equiv.refl a

all-at : (k name : Name) (ks : List Name) (i : ℕ) → AllByRecursion (λ y. bytes_eq k y ≡ false) ks
    → slice_get ks i ≡ Some name → bytes_eq k name ≡ false
all-at k name [] i a h = cc
all-at k name (x ∷ ks) zero a h = let e : x ≡ name = cc in ap (bytes_eq k) (sym e) ∙ a.0
all-at k name (x ∷ ks) (suc i) a h = all-at k name ks i a.1 h

module _ {A : Type 0} where
  abbrev Written : List (Name × Binding A) → ℕ → Name → Binding A → Binding A → Type 0
  Written es i name u w = (value_of (values_of es) name ≡ Some (value_seen u))
      × (values_of (set_value_at es i w) ≡ set_value (values_of es) name (value_seen w))

  written-at : (es : List (Name × Binding A)) (i : ℕ) (name : Name) (u w : Binding A)
      → IsDistinct bytes_eq (names_of (values_of es)) → slice_get (names_of (values_of es)) i ≡ Some name
      → slice_get (map (λ e. e.1) es) i ≡ Some u → Written es i name u w
  written-at [] i name u w d h k = cc
  written-at (e ∷ es) zero name u w d h k =
      let n : e.0 ≡ name = cc in
      let v : e.1 ≡ u = cc in
      let same : bytes_eq e.0 name ≡ true = ap (λ m. bytes_eq m name) n ∙ name_is name in (
        ap (λ b. if b then Some (value_seen e.1) else value_of (values_of es) name) same
            ∙ ap (λ x. Some (value_seen x)) v,
        ap (λ m. (m, value_seen w) ∷ values_of es) n
            ∙ sym (ap (λ b. if b then (name, value_seen w) ∷ values_of es
            else (e.0, value_seen e.1) ∷ set_value (values_of es) name (value_seen w)) same),
      )
  written-at (e ∷ es) (suc i) name u w d h k =
      let differ : bytes_eq e.0 name ≡ false =
      all-at e.0 name (names_of (values_of es)) i (IsDistinct-head bytes_eq e.0 (names_of (values_of es)) d) h in
      let r = written-at es i name u w (IsDistinct-tail bytes_eq e.0 (names_of (values_of es)) d) h k in (
        ap (λ b. if b then Some (value_seen e.1) else value_of (values_of es) name) differ ∙ r.0,
        ap (λ t. (e.0, value_seen e.1) ∷ t) r.1
            ∙ sym (ap (λ b. if b then (name, value_seen w) ∷ values_of es
            else (e.0, value_seen e.1) ∷ set_value (values_of es) name (value_seen w)) differ),
      )

  pub grown-at : (number : ℕ) (es fs : List (Name × Binding A)) (i : ℕ) (name : Name) (v : Value) (u w : Binding A)
      → IsDistinct bytes_eq (keys_in es) → slice_get (names_of (values_of es)) i ≡ Some name
      → slice_get (map (λ e. e.1) es) i ≡ Some u → fs ≡ set_value_at es i w
      → value_seen w ≡ grown_value number v (value_seen u)
      → values_of fs ≡ grown_in number (values_of es) name v (value_of (values_of es) name)
  grown-at number es fs i name v u w d h k f e =
      let r = written-at es i name u w (names-distinct es d) h k in
      ap values_of f ∙ r.1 ∙ ap (set_value (values_of es) name) e
      ∙ grown-some number (values_of es) name v (value_seen u) r.0
      ∙ ap (grown_in number (values_of es) name v) (sym r.0)
