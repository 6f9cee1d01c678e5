-- Whether each rule that a table names exists in it.
use Rattle.std.specs.Prelude.{ℕ, Bool, true, ◌&&◌, nat_lt, List, length}
use Rattle.std.specs.List.{list_all}
use Rattle.mbe_grammar.specs.declared.tables.node.Node.{Node}
use Rattle.mbe_grammar.specs.declared.tables.node.Node.TheVariants as nodes

-- the rules that a node names are below this index
abbrev pub names_below : ℕ → Node → Bool
names_below end (nodes.Terminal t) = true
names_below end (nodes.Inside kind x) = nat_lt x end
names_below end (nodes.Part x) = nat_lt x end
names_below end (nodes.Then x y) = nat_lt x end && nat_lt y end
names_below end (nodes.Or x y) = nat_lt x end && nat_lt y end
names_below end (nodes.Maybe x) = nat_lt x end
names_below end (nodes.Repeated x) = nat_lt x end
names_below end (nodes.Needed x) = nat_lt x end
names_below end (nodes.Ahead x) = nat_lt x end
names_below end (nodes.NotAhead x) = nat_lt x end

-- each rule that the table names exists
abbrev pub all_defined : List Node → Bool
all_defined table = list_all (names_below (length table)) table
