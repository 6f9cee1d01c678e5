-- Adding a value to the list of a name.
use Rattle.std.specs.Prelude.{ℕ}
use Rattle.mbe_semantics.specs.Syntax.Op.{Name}
use Rattle.mbe_semantics.specs.Bindings.Environment.{Environment, Value, fragment, list, empty}
use Rattle.mbe_semantics.specs.Bindings.Environment.{missing, add_value, value_of}
use Rattle.mbe_semantics.specs.Bindings.Account.{filled, grown_in}

-- adds a value to a list, after an empty list for each round that it lacks; a value that is no list
-- stays
abbrev pub grown_value : ℕ → Value → Value → Value
grown_value number v (list vs) = list (add_value (filled number vs) v)
grown_value number v (fragment x) = fragment x
grown_value number v empty = empty
grown_value number v (missing kind) = missing kind

-- the environment in which the list of that name has one value more
abbrev pub grown : ℕ → Environment → Name → Value → Environment
grown number env name v = grown_in number env name v (value_of env name)
