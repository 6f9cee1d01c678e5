-- Which of the items that are expected where a match stops is a fragment that begins there and has a
-- fault inside.
use Rattle.std.specs.Prelude.{Bool, false, List}
use Rattle.std.specs.List.{list_any}
use Rattle.mbe_tt.specs.Trees.Tree.{Forest}
use Rattle.mbe_tt.specs.Grammars.Grammar.{Grammar}
use Rattle.mbe_semantics.specs.Syntax.Op.{Op, variable}
use Rattle.mbe_semantics.specs.Fragments.FragmentFront.{fails_inside}
use Rattle.mbe_matcher.specs.Expected.{Expected, ending, closing, separating, reading}

-- the op is a variable whose fragment begins there and has a fault inside
abbrev pub op_fails_inside : Grammar → Forest → Op → Bool
op_fails_inside g here (variable name kind span) = fails_inside g kind here
op_fails_inside g here _ = false

-- the item is such a variable
abbrev pub next_fails_inside : Grammar → Forest → Expected → Bool
next_fails_inside g here (reading o) = op_fails_inside g here o
next_fails_inside g here _ = false

-- one of the items is such a variable
abbrev pub any_fails_inside : Grammar → Forest → List Expected → Bool
any_fails_inside g here items = list_any (next_fails_inside g here) items
