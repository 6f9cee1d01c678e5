-- How many calls may still be expanded, and how many tokens their expansions may still write. Each
-- count is one more than what is left, and 0 where more was asked for.
use Rattle.std.specs.Prelude.{◌+◌, ◌-◌, ◌==◌, ◌||◌, ℕ, Bool}
use Rattle.mbe_session.specs.declared.settings.Budget.{Budget}

-- At first, that many calls and tokens are left.
abbrev pub full : ℕ → ℕ → Budget
full calls tokens = record { calls = calls + 1; tokens = tokens + 1 }

-- One call less is left.
abbrev pub with_call_spent : Budget → Budget
with_call_spent b = record b { calls = b.calls - 1 }

-- That many tokens less are left.
abbrev pub with_tokens_spent : ℕ → Budget → Budget
with_tokens_spent n b = record b { tokens = b.tokens - n }

-- More was asked for than was left.
abbrev pub is_spent : Budget → Bool
is_spent b = (b.calls == 0) || (b.tokens == 0)
