-- What a reading binds (as in rust-analyzer). That it is one fold over the items is the project's
-- own choice.
use Rattle.std.specs.Prelude.{ℕ, ◌+◌, if◌then◌else◌, List, [], ◌∷◌, Option, Some, None}
use Rattle.std.specs.Str.{bytes_eq}
use Rattle.mbe_semantics.specs.declared.fragment_kinds.MetaVarKind.{MetaVarKind}
use Rattle.mbe_semantics.specs.Syntax.Op.{Name}
use Rattle.mbe_semantics.specs.Readings.Item.{Fragment, Item, matched, bound, grouped, skipped}
use Rattle.mbe_semantics.specs.Readings.Item.{rounds, Items, no_items, item, Rounds, no_rounds}
use Rattle.mbe_semantics.specs.Readings.Item.{round}

mutual
  -- what a name is bound to
  pub data Value : Type 0 where
    fragment : Fragment → Value
    -- a value for each round
    list : Values → Value
    -- the repetition was skipped
    empty : Value
    -- the variable of a failed match that didn't match
    missing : MetaVarKind → Value

  -- the values of a list, one for each round
  pub data Values : Type 0 where
    no_values : Values
    value : Value → Values → Values

-- An environment has each name once. Only lookup by name matters, not the order.
abbrev pub Environment : Type 0
Environment = List (Name × Value)

-- the name's value, if it is bound
abbrev pub value_of : Environment → Name → Option Value
value_of [] name = None
value_of (e ∷ env) name = if bytes_eq e.0 name then Some e.1 else value_of env name

-- the environment with this value for the name, in place of any earlier value
abbrev pub set_value : Environment → Name → Value → Environment
set_value [] name v = (name, v) ∷ []
set_value (e ∷ env) name v = if bytes_eq e.0 name then (name, v) ∷ env else e ∷ set_value env name v

-- the list with one more value at the end
abbrev pub add_value : Values → Value → Values
add_value no_values v = value v no_values
add_value (value w vs) v = value w (add_value vs v)

-- A name without a value gets a list of one value. A list gets one more value. Any other value
-- stays as it is.
abbrev pub grown : Environment → Name → Value → Option Value → Environment
grown env name v None = set_value env name (list (value v no_values))
grown env name v (Some (list vs)) = set_value env name (list (add_value vs v))
grown env name v (Some (fragment x)) = env
grown env name v (Some empty) = env
grown env name v (Some (missing kind)) = env

-- each name of a round adds a value to its list
abbrev pub add_round : Environment → Environment → Environment
add_round [] env = env
add_round (e ∷ more) env = add_round more (grown env e.0 e.1 (value_of env e.0))

-- each name gets the empty value
abbrev pub skip_names : List Name → Environment → Environment
skip_names [] env = env
skip_names (name ∷ names) env = skip_names names (set_value env name empty)

-- what items bind, from left to right, over earlier bindings
abbrev mutual
  pub bind_item : Item → Environment → Environment
  bind_item (matched n) env = env
  bind_item (bound name x) env = set_value env name (fragment x)
  bind_item (grouped is) env = bind is env
  bind_item (skipped names) env = skip_names names env
  bind_item (rounds rs last) env = add_round (bind last []) (bind_rounds rs env)

  pub bind : Items → Environment → Environment
  bind no_items env = env
  bind (item is x) env = bind_item x (bind is env)

  -- what rounds bind: each round is bound by itself
  pub bind_rounds : Rounds → Environment → Environment
  bind_rounds no_rounds env = env
  bind_rounds (round rs is w) env = add_round (bind is []) (bind_rounds rs env)

-- the environment of a reading
abbrev pub environment_of : Items → Environment
environment_of is = bind is []

-- the number of fragments, skipped and missing values, including those in lists
abbrev mutual
  pub binding_count : Value → ℕ
  binding_count (fragment x) = 1
  binding_count (list vs) = binding_counts vs
  binding_count empty = 1
  binding_count (missing kind) = 1

  pub binding_counts : Values → ℕ
  binding_counts no_values = 0
  binding_counts (value v vs) = binding_count v + binding_counts vs

-- the number of values of all names
abbrev pub binding_total : Environment → ℕ
binding_total [] = 0
binding_total (e ∷ env) = binding_count e.1 + binding_total env

-- No value is missing, not even in a list. This is so after a match that fits.
abbrev mutual
  pub IsWhole : Value → Type 0
  IsWhole (list vs) = AreWhole vs
  IsWhole (missing kind) = ⊥
  IsWhole _ = Unit {0}

  pub AreWhole : Values → Type 0
  AreWhole no_values = Unit {0}
  AreWhole (value v vs) = IsWhole v × AreWhole vs
