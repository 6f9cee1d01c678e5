-- The files of a session.
use Rattle.std.specs.Prelude.{ℕ, Bool, false, nat_lt, Option, Some, None}

-- Whether a file with that root is of one of the session's own crates, whose roots are the first so
-- many files.
abbrev pub is_local : ℕ → Option ℕ → Bool
is_local root_count None = false
is_local root_count (Some root) = nat_lt root root_count
