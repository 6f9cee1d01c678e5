-- The parts of a reading: an item for each op of the pattern.
use Rattle.std.specs.Prelude.{ℕ, suc, ◌+◌, List}
use Rattle.mbe_tt.specs.Trees.Tree.{Forest, flat_len}
use Rattle.mbe_semantics.specs.Fragments.Kinds.{Style}
use Rattle.mbe_semantics.specs.Syntax.Op.{Name}

-- the token run that a variable matched
pub record Fragment : Type 0 where
  pub trees : Forest
  pub style : Style

-- Lists of items and rounds grow at their end, in the order of reading.
mutual
  -- what an op of the pattern read
  pub data Item : Type 0 where
    -- a token of the pattern, and how many flat tokens it matched
    matched : ℕ → Item
    -- a variable with this name, and its fragment
    bound : Name → Fragment → Item
    grouped : Items → Item
    -- a repetition without rounds, and the names of the variables in it
    skipped : List Name → Item
    -- a repetition with rounds: all rounds but the last, and the last round
    rounds : Rounds → Items → Item

  -- the items of consecutive ops
  pub data Items : Type 0 where
    no_items : Items
    item : Items → Item → Items

  -- Complete rounds. Each has the width of the separator after it, which is 0 without a separator.
  pub data Rounds : Type 0 where
    no_rounds : Rounds
    round : Rounds → Items → ℕ → Rounds

-- the number of flat tokens that were read
abbrev mutual
  pub item_width : Item → ℕ
  item_width (matched n) = n
  item_width (bound name x) = flat_len x.trees
  item_width (grouped is) = suc (suc (items_width is))
  item_width (skipped names) = 0
  item_width (rounds rs last) = rounds_width rs + items_width last

  pub items_width : Items → ℕ
  items_width no_items = 0
  items_width (item is x) = items_width is + item_width x

  pub rounds_width : Rounds → ℕ
  rounds_width no_rounds = 0
  rounds_width (round rs is w) = rounds_width rs + items_width is + w
