-- What each fragment of a reading has, each value has that the reading binds, and each that a path leads to.
use Rattle.std.specs.Prelude.{◌≡◌, ℕ, zero, suc, Bool, true, false, if◌then◌else◌, List, [], ◌∷◌, Option, Some, None}
use Rattle.std.specs.Prelude.{option_and_then, refl}
use Rattle.std.proofs.Common.{subst}
use Rattle.std.proofs.lemmas.Option.{none-some, same_Some}
use Rattle.std.specs.Str.{bytes_eq}
use Rattle.mbe_semantics.specs.declared.fragment_kinds.MetaVarKind.{MetaVarKind}
use Rattle.mbe_semantics.specs.declared.fragment_kinds.RepeatKind.{RepeatKind}
use Rattle.mbe_semantics.specs.Syntax.Op.{Name, Separator, Op, token, group, variable, repetition, expression, Ops}
use Rattle.mbe_semantics.specs.Syntax.Op.{no_ops, op}
use Rattle.mbe_semantics.specs.Readings.Item.{Fragment, Item, matched, bound, grouped, skipped, rounds, Items, no_items}
use Rattle.mbe_semantics.specs.Readings.Item.{item, Rounds, no_rounds, round}
use Rattle.mbe_semantics.specs.Readings.Input.{Input}
use Rattle.mbe_semantics.specs.Readings.Reading.{Reads, ReadsFirst, ReadsRounds}
use Rattle.mbe_semantics.specs.Bindings.Environment.{Value, fragment, list, empty, missing, Values, no_values, value}
use Rattle.mbe_semantics.specs.Bindings.Environment.{Environment, value_of, set_value, add_value, grown, add_round}
use Rattle.mbe_semantics.specs.Bindings.Environment.{skip_names, bind_item, bind, bind_rounds}
use Rattle.mbe_semantics.specs.Transcription.Rounds.{Path, member, follow, followed}

module _ (P : Fragment → Type 0) where
  abbrev mutual
    pub ItemHas : Item → Type 0
    ItemHas (matched n) = Unit {0}
    ItemHas (bound name x) = P x
    ItemHas (grouped is) = ItemsHave is
    ItemHas (skipped names) = Unit {0}
    ItemHas (rounds rs last) = RoundsHave rs × ItemsHave last

    pub ItemsHave : Items → Type 0
    ItemsHave no_items = Unit {0}
    ItemsHave (item is x) = ItemsHave is × ItemHas x

    pub RoundsHave : Rounds → Type 0
    RoundsHave no_rounds = Unit {0}
    RoundsHave (round rs is w) = RoundsHave rs × ItemsHave is

  abbrev mutual
    pub ValueHas : Value → Type 0
    ValueHas (fragment x) = P x
    ValueHas (list vs) = ValuesHave vs
    ValueHas empty = Unit {0}
    ValueHas (missing kind) = Unit {0}

    pub ValuesHave : Values → Type 0
    ValuesHave no_values = Unit {0}
    ValuesHave (value v vs) = ValueHas v × ValuesHave vs

  abbrev pub EnvironmentHas : Environment → Type 0
  EnvironmentHas [] = Unit {0}
  EnvironmentHas (e ∷ env) = ValueHas e.1 × EnvironmentHas env

  -- ---- the fold

  set_has : (env : Environment) (name : Name) (v : Value) → EnvironmentHas env → ValueHas v
      → EnvironmentHas (set_value env name v)
  set_has [] name v h k = (k, tt)
  set_has (e ∷ env) name v h k = go (bytes_eq e.0 name) (set_has env name v h.1 k)
    where
      go : (b : Bool) → EnvironmentHas (set_value env name v)
          → EnvironmentHas (if b then (name, v) ∷ env else e ∷ set_value env name v)
      go true m = (k, h.1)
      go false m = (h.0, m)

  value_has : (env : Environment) (name : Name) (v : Value) → EnvironmentHas env → value_of env name ≡ Some v
      → ValueHas v
  value_has [] name v h e = absurd (none-some v e)
  value_has (f ∷ env) name v h e = go (bytes_eq f.0 name) (value_has env name v h.1) e
    where
      go : (b : Bool) → (value_of env name ≡ Some v → ValueHas v) → (if b then Some f.1 else value_of env name) ≡ Some v
          → ValueHas v
      go true m q = subst ValueHas (same_Some f.1 v q) h.0
      go false m q = m q

  add_value_has : (vs : Values) (v : Value) → ValuesHave vs → ValueHas v → ValuesHave (add_value vs v)
  add_value_has no_values v h k = (k, tt)
  add_value_has (value w vs) v h k = (h.0, add_value_has vs v h.1 k)

  grown_has : (env : Environment) (name : Name) (v : Value) (o : Option Value) → EnvironmentHas env → ValueHas v →
      ((w : Value) → o ≡ Some w → ValueHas w) → EnvironmentHas (grown env name v o)
  grown_has env name v None h k f = set_has env name (list (value v no_values)) h (k, tt)
  grown_has env name v (Some (list vs)) h k f =
      set_has env name (list (add_value vs v)) h (add_value_has vs v (f (list vs) refl) k)
  grown_has env name v (Some (fragment x)) h k f = h
  grown_has env name v (Some empty) h k f = h
  grown_has env name v (Some (missing kind)) h k f = h

  add_round_has : (more env : Environment) → EnvironmentHas more → EnvironmentHas env
      → EnvironmentHas (add_round more env)
  add_round_has [] env k h = h
  add_round_has (e ∷ more) env k h =
      add_round_has more (grown env e.0 e.1 (value_of env e.0)) k.1
      (grown_has env e.0 e.1 (value_of env e.0) h k.0 (λ w q. value_has env e.0 w h q))

  skip_has : (names : List Name) (env : Environment) → EnvironmentHas env → EnvironmentHas (skip_names names env)
  skip_has [] env h = h
  skip_has (name ∷ names) env h = skip_has names (set_value env name empty) (set_has env name empty h tt)

  mutual
    bind_item_has : (x : Item) (env : Environment) → ItemHas x → EnvironmentHas env → EnvironmentHas (bind_item x env)
    bind_item_has (matched n) env k h = h
    bind_item_has (bound name x) env k h = set_has env name (fragment x) h k
    bind_item_has (grouped is) env k h = bind_has is env k h
    bind_item_has (skipped names) env k h = skip_has names env h
    bind_item_has (rounds rs last) env k h =
        add_round_has (bind last []) (bind_rounds rs env) (bind_has last [] k.1 tt) (bind_rounds_has rs env k.0 h)

    pub bind_has : (is : Items) (env : Environment) → ItemsHave is → EnvironmentHas env → EnvironmentHas (bind is env)
    bind_has no_items env k h = h
    bind_has (item is x) env k h = bind_item_has x (bind is env) k.1 (bind_has is env k.0 h)

    bind_rounds_has : (rs : Rounds) (env : Environment) → RoundsHave rs → EnvironmentHas env
        → EnvironmentHas (bind_rounds rs env)
    bind_rounds_has no_rounds env k h = h
    bind_rounds_has (round rs is w) env k h =
        add_round_has (bind is []) (bind_rounds rs env) (bind_has is [] k.1 tt) (bind_rounds_has rs env k.0 h)

  -- ---- paths

  member_has : (vs : Values) (i : ℕ) (v : Value) → ValuesHave vs → member vs i ≡ Some v → ValueHas v
  member_has no_values i v h e = absurd (none-some v e)
  member_has (value w vs) zero v h e = subst ValueHas (same_Some w v e) h.0
  member_has (value w vs) (suc i) v h e = member_has vs i v h.1 e

  and_then_has : (path : Path) (o : Option Value) (w : Value) → ((v : Value) → o ≡ Some v → ValueHas v) →
      ((v : Value) → ValueHas v → follow path v ≡ Some w → ValueHas w) → option_and_then (follow path) o ≡ Some w
      → ValueHas w
  and_then_has path None w h f e = absurd (none-some w e)
  and_then_has path (Some v) w h f e = f v (h v refl) e

  follow_has : (path : Path) (v w : Value) → ValueHas v → follow path v ≡ Some w → ValueHas w
  follow_has [] v w h e = subst ValueHas (same_Some v w e) h
  follow_has (l ∷ path) (fragment x) w h e = subst ValueHas (same_Some (fragment x) w e) h
  follow_has (l ∷ path) empty w h e = absurd (none-some w e)
  follow_has (l ∷ path) (missing kind) w h e = subst ValueHas (same_Some (missing kind) w e) h
  follow_has (l ∷ path) (list vs) w h e =
      and_then_has path (member vs l.index) w (λ v q. member_has vs l.index v h q) (λ v k q. follow_has path v w k q) e

  pub followed_has : (env : Environment) (path : Path) (name : Name) (w : Value) → EnvironmentHas env
      → followed env path name ≡ Some w → ValueHas w
  followed_has env path name w h e = and_then_has path (value_of env name) w (λ v q. value_has env name v h q)
      (λ v k q. follow_has path v w k q) e

  -- ---- readings

  module _ (i : Input) (takes : (kind : Option MetaVarKind) (p : ℕ) (x : Fragment) → i.fragment_at kind p ≡ Some x
      → P x) where
    mutual
      item_has : (x : Item) (o : Op) (p : ℕ) → Reads x i o p → ItemHas x
      item_has (matched n) o p r = tt
      item_has (skipped names) o p r = tt
      item_has (bound name x) (variable m kind span) p r = takes kind p x r.1
      item_has (bound name x) (token t) p r = absurd r
      item_has (bound name x) (group d body) p r = absurd r
      item_has (bound name x) (repetition body s k) p r = absurd r
      item_has (bound name x) (expression e) p r = absurd r
      item_has (grouped is) (group d body) p r = items_have is body (suc p) no_ops r.1
      item_has (grouped is) (token t) p r = absurd r
      item_has (grouped is) (variable m kind span) p r = absurd r
      item_has (grouped is) (repetition body s k) p r = absurd r
      item_has (grouped is) (expression e) p r = absurd r
      item_has (rounds rs last) (repetition body s k) p r =
          (rounds_have rs body s k p r.0, items_have last body _ no_ops r.1)
      item_has (rounds rs last) (token t) p r = absurd r
      item_has (rounds rs last) (group d body) p r = absurd r
      item_has (rounds rs last) (variable m kind span) p r = absurd r
      item_has (rounds rs last) (expression e) p r = absurd r

      pub items_have : (is : Items) (os : Ops) (p : ℕ) (rest : Ops) → ReadsFirst is i os p rest → ItemsHave is
      items_have no_items os p rest r = tt
      items_have (item is x) os p rest (o, r, s) = (items_have is os p (op o rest) r, item_has x o _ s)

      rounds_have : (rs : Rounds) (body : Ops) (s : Option Separator) (k : RepeatKind) (p : ℕ)
          → ReadsRounds rs i body s k p → RoundsHave rs
      rounds_have no_rounds body s k p r = tt
      rounds_have (round rs is w) body s k p (m, r, q, b) = (rounds_have rs body s k p r, items_have is body _ no_ops q)

    -- the environment of a reading
    pub reading_has : (is : Items) (pat : Ops) → ReadsFirst is i pat 0 no_ops → EnvironmentHas (bind is [])
    reading_has is pat r = bind_has is [] (items_have is pat 0 no_ops r) tt
