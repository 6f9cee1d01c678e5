-- How contracts see the code's bindings, independent of memory.
use Rattle.std.specs.Prelude.{List, [], ◌∷◌, map}
use Rattle.mbe_bindings.specs.declared.bindings.Binding as bound
use Rattle.mbe_bindings.specs.declared.bindings.Binding.{fold-Binding}
use Rattle.mbe_bindings.specs.declared.bindings.Binding.TheOpen.{Binding-F}
use Rattle.mbe_bindings.specs.declared.bindings.Bindings as found
use Rattle.mbe_log.specs.FragmentViews.{fragment_seen}
use Rattle.mbe_semantics.specs.Bindings.Environment.{Environment, Value, fragment, list, empty}
use Rattle.mbe_semantics.specs.Bindings.Environment.{missing, Values, no_values, value}

-- the list as the specification's values
abbrev pub all_values : List Value → Values
all_values [] = no_values
all_values (v ∷ vs) = value v (all_values vs)

-- one level: the values inside are translated already
abbrev pub value_step : {A : Type 0} → Binding-F A Value → Value
value_step (Binding-F.Fragment x) = fragment (fragment_seen x)
value_step (Binding-F.Nested vs) = list (all_values vs.items)
value_step Binding-F.Empty = empty
value_step (Binding-F.Missing kind) = missing kind

-- the value of a binding
abbrev pub value_seen : {A : Type 0} → bound.Binding A → Value
value_seen {A} = fold-Binding A Value value_step

-- the values of a list of bindings
abbrev pub values_seen : {A : Type 0} → List (bound.Binding A) → Values
values_seen vs = all_values (map value_seen vs)

-- the environment of bindings: the names in the order in which they were first bound
abbrev pub env_of : {A : Type 0} → found.Bindings A → Environment
env_of b = map (λ e. (e.0, value_seen e.1)) b.inner.entries
