-- Exit statuses.
use Rattle.std.specs.Prelude.{ℕ, Bool, if◌then◌else◌, ◌==◌, ◌&&◌}

-- The exit status. `is_written` says whether the run wrote all of its output, `has_errors` whether
-- it reported an error.
abbrev pub status_of : Bool → Bool → ℕ
status_of is_written has_errors = if is_written then (if has_errors then 1 else 0) else 2

-- The exit status of a run with so many notes and so many lints.
abbrev pub lint_status : ℕ → ℕ → ℕ
lint_status notes lints = if notes == 0 && lints == 0 then 0 else 1
