-- What a grammar of fragments returns, and the whole trees that hold it. rust-analyzer asks its
-- own parser; here a caller hands in any lawful grammar.
use Rattle.std.specs.Prelude.{◌≡◌, ℕ, ◌≤◌, Bool, false, not, ◌&&◌, ◌==◌, List, length, Option}
use Rattle.std.specs.Prelude.{if◌then◌else◌, Some, None}
use Rattle.mbe_tt.specs.declared.grammar.Dialect.{Dialect}
use Rattle.mbe_tt.specs.declared.grammar.Front.{Front}
use Rattle.mbe_tt.specs.declared.grammar.PrefixEntryPoint.{PrefixEntryPoint}
use Rattle.mbe_tt.specs.declared.grammar.PrefixEntryPoint.TheVariants.{Vis}
use Rattle.mbe_tt.specs.Trees.Tree.{Forest, FlatToken, flat, flat_len, Cut, cut_flat}

-- a grammar: one result for each entry point and list of flat tokens, one for each text, and the
-- dialect that it is made for
pub record Grammar : Type 0 where
  pub parse : PrefixEntryPoint → List FlatToken → Front
  pub is_keyword : List ℕ → Bool
  pub dialect : Dialect

-- it counts at most as many flat tokens as there are, and counts none without a fault only for
-- `Vis`
pub record IsLawful (g : Grammar) : Type 0 where
  pub within : (entry : PrefixEntryPoint) (tokens : List FlatToken)
      → (g.parse entry tokens).count ≤ length tokens
  pub nothing_for_vis : (entry : PrefixEntryPoint) (tokens : List FlatToken) →
      (g.parse entry tokens).fault ≡ false → (g.parse entry tokens).count ≡ 0 → entry ≡ Vis

-- the shortest list of whole trees that holds what the grammar counted
abbrev pub front : Grammar → PrefixEntryPoint → Forest → Cut
front g entry f = cut_flat (g.parse entry (flat f)).count f

-- the grammar reports no fault, and the counted flat tokens are whole trees
abbrev pub is_accepted : Grammar → PrefixEntryPoint → Forest → Bool
is_accepted g entry f = not (g.parse entry (flat f)).fault
    && (flat_len (front g entry f).front == (g.parse entry (flat f)).count)

abbrev pub accepted_front : Grammar → PrefixEntryPoint → Forest → Option Cut
accepted_front g entry f = if is_accepted g entry f then Some (front g entry f) else None
