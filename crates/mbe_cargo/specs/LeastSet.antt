-- The least set of facts that is closed under rules.
use Rattle.std.specs.Prelude.{◌≡◌, ◌&&◌, ◌⊎◌, ℕ, Bool, true, false, not, List, Contains}
use Rattle.std.specs.Prelude.{slice_get, unwrap_or}
use Rattle.std.specs.List.{list_any}
use Rattle.mbe_cargo.specs.declared.least_set.Rule.{Rule}

-- A fact holds if it is fact 0, or if a rule gives it from two facts that hold.
pub data Holds (rules : List Rule) : ℕ → Type 0 where
  always : Holds rules 0
  by_rule : (r : Rule) → Contains rules r → Holds rules r.first → Holds rules r.second
      → Holds rules r.gives

-- Facts past the end aren't marked.
abbrev pub is_marked : List Bool → ℕ → Bool
is_marked marks fact = unwrap_or (slice_get marks fact) false

abbrev pub AllHold : List Rule → List Bool → Type 0
AllHold rules marks = (n : ℕ) → is_marked marks n ≡ true → Holds rules n

-- The marks are on the facts that hold, and on no other.
pub record IsLeastSet (rules : List Rule) (marks : List Bool) : Type 0 where
  pub holds : AllHold rules marks
  pub marked : (n : ℕ) → Holds rules n → is_marked marks n ≡ true

-- Whether the rule gives a fact that isn't marked from two that are.
abbrev pub adds : List Bool → Rule → Bool
adds marks r = is_marked marks r.first && is_marked marks r.second && not (is_marked marks r.gives)

abbrev pub is_closed : List Rule → List Bool → Bool
is_closed rules marks = is_marked marks 0 && not (list_any (adds marks) rules)

abbrev pub IsBlank : List Bool → Type 0
IsBlank marks = (n : ℕ) → is_marked marks n ≡ false

-- No fact but 0 is marked that wasn't marked before.
abbrev pub FirstMarked : List Bool → List Bool → Type 0
FirstMarked before after =
    (n : ℕ) → is_marked after n ≡ true → (is_marked before n ≡ true) ⊎ (n ≡ 0)

-- A rule marks no fact but its own, and that only if it gives it.
abbrev pub ApplyKeeps : Rule → List Bool → List Bool → Type 0
ApplyKeeps r before after = (n : ℕ) → is_marked after n ≡ true
    → (is_marked before n ≡ true) ⊎ ((n ≡ r.gives) × (adds before r ≡ true))
