-- How many calls a rule expands. A macro is known by the file and the first byte of its name.
use Rattle.std.specs.Prelude.{ℕ, ◌==◌, ◌&&◌, Bool, List, count_by}
use Rattle.mbe_reports.specs.declared.rule_uses.RuleUse.{RuleUse}

-- Whether a use is of the rule of that index, of the macro whose name is there.
abbrev pub is_of : (file start rule : ℕ) → RuleUse → Bool
is_of file start rule one = (one.file == file && one.start == start) && one.rule == rule

-- How many of the uses are of that rule.
abbrev pub count_of : (file start rule : ℕ) → List RuleUse → ℕ
count_of file start rule uses = count_by (is_of file start rule) uses
