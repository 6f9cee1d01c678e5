-- The value that a name has in a round, and how many rounds a repetition of a template has: as many
-- as the shortest list that its names reach. rust-analyzer writes one more round and drops it.
use Rattle.std.specs.Prelude.{ℕ, zero, suc, ◌+◌, min, if◌then◌else◌, ◌==◌, List, [], ◌∷◌, ◌++◌}
use Rattle.std.specs.Prelude.{length, filter_map, Option, Some, None, option_map, option_and_then}
use Rattle.mbe_semantics.specs.declared.fragment_kinds.RepeatKind.{RepeatKind}
use Rattle.mbe_semantics.specs.declared.fragment_kinds.RepeatKind.TheVariants.{ZeroOrOne}
use Rattle.mbe_semantics.specs.declared.current_round.CurrentRound.{CurrentRound}
use Rattle.mbe_semantics.specs.Syntax.Op.{Name, Ops, Use, for_fragment, for_number, used_name}
use Rattle.mbe_semantics.specs.Syntax.Op.{uses_of}
use Rattle.mbe_semantics.specs.Bindings.Environment.{Value, fragment, list, empty, missing, Values}
use Rattle.mbe_semantics.specs.Bindings.Environment.{no_values, value, Environment, value_of}

-- A path: for each repetition around a point of the template, outermost first, its current round
-- and the number of its rounds.
abbrev pub Path : Type 0
Path = List CurrentRound

-- the value in a round
abbrev pub member : Values → ℕ → Option Value
member no_values i = None
member (value v vs) zero = Some v
member (value v vs) (suc i) = member vs i

-- the length of a list
abbrev pub value_count : Values → ℕ
value_count no_values = 0
value_count (value v vs) = 1 + value_count vs

-- The value under a path. A list gives its member at each index of the path. A fragment or a
-- missing value gives itself, even before the end of the path.
abbrev pub follow : Path → Value → Option Value
follow [] v = Some v
follow (l ∷ path) (fragment x) = Some (fragment x)
follow (l ∷ path) empty = None
follow (l ∷ path) (missing kind) = Some (missing kind)
follow (l ∷ path) (list vs) = option_and_then (follow path) (member vs l.index)

-- the value under a path, if each index of the path finds a member of a list
abbrev pub reach : Path → Value → Option Value
reach [] v = Some v
reach (l ∷ path) (fragment x) = None
reach (l ∷ path) empty = None
reach (l ∷ path) (missing kind) = None
reach (l ∷ path) (list vs) = option_and_then (reach path) (member vs l.index)

-- the value that a bound name has under the path
abbrev pub followed : Environment → Path → Name → Option Value
followed env path name = option_and_then (follow path) (value_of env name)

-- the value that a bound name reaches under the path
abbrev pub reached : Environment → Path → Name → Option Value
reached env path name = option_and_then (reach path) (value_of env name)

-- a number of rounds, or endless
pub data Extent : Type 0 where
  finite : ℕ → Extent
  endless : Extent

-- A missing value has no rounds, like one that was skipped, but it doesn't end the counting of
-- `count`.
abbrev pub missing_extent : Use → Extent
missing_extent (for_fragment name) = finite 0
missing_extent (for_number name) = endless

-- The number of rounds that a value gives. For a list it is its length, for a skipped repetition 0,
-- and a fragment is endless.
abbrev pub extent_of : Use → Value → Extent
extent_of u (fragment x) = endless
extent_of u (list vs) = finite (value_count vs)
extent_of u empty = finite 0
extent_of u (missing kind) = missing_extent u

-- the number of rounds that a use of a name gives, if the name reaches the level
abbrev pub extent_under : Environment → Path → Use → Option Extent
extent_under env path u = option_map (extent_of u) (reached env path (used_name u))

-- the smaller of the two; endless is greater than each number
abbrev pub lesser : Extent → Extent → Extent
lesser endless e = e
lesser (finite n) endless = finite n
lesser (finite n) (finite m) = finite (min n m)

-- the least of all
abbrev pub least_extent : List Extent → Extent
least_extent [] = endless
least_extent (e ∷ es) = lesser e (least_extent es)

-- no rounds if no name reaches the level
abbrev pub extent_over : List Extent → Extent
extent_over [] = finite 0
extent_over (e ∷ es) = least_extent (e ∷ es)

-- the rounds of a body under the outer path: the least number that its names give
abbrev pub rounds_of : Environment → Path → Ops → Extent
rounds_of env path body = extent_over (filter_map (extent_under env path) (uses_of body))

-- `?` has at most one round
abbrev pub kept : RepeatKind → Extent → Extent
kept ZeroOrOne endless = finite 1
kept ZeroOrOne (finite n) = finite (min 1 n)
kept repeat e = e

-- the rounds that a repetition of the template emits
abbrev pub kept_rounds : RepeatKind → Environment → Path → Ops → Extent
kept_rounds repeat env path body = kept repeat (rounds_of env path body)

-- the path into round i of n
abbrev pub level : ℕ → ℕ → Path → Path
level i n path = path ++ (record { index = i; rounds = n }) ∷ []

-- the level at this depth, counted outwards from the innermost
abbrev pub level_at : Path → ℕ → Option CurrentRound
level_at [] depth = None
level_at (l ∷ path) depth = if length path == depth then Some l else level_at path depth

-- how many values there are at a depth of lists
abbrev mutual
  pub value_total : ℕ → Value → ℕ
  value_total depth (fragment x) = 1
  value_total depth empty = 0
  value_total depth (missing kind) = 1
  value_total zero (list vs) = value_count vs
  value_total (suc depth) (list vs) = totals depth vs

  pub totals : ℕ → Values → ℕ
  totals depth no_values = 0
  totals depth (value v vs) = value_total depth v + totals depth vs
