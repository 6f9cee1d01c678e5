-- What is assumed of an input: only a fragment of kind `vis` may be empty, and nothing extends past
-- the end.
use Rattle.std.specs.Prelude.{ℕ, ◌+◌, ◌≡◌, ◌<◌, ◌≤◌, Option, Some, true}
use Rattle.mbe_semantics.specs.declared.fragment_kinds.MetaVarKind.{MetaVarKind}
use Rattle.mbe_tt.specs.declared.tt.DelimiterKind.{DelimiterKind}
use Rattle.mbe_tt.specs.Trees.Tree.{flat_len}
use Rattle.mbe_semantics.specs.Syntax.Op.{Token, Separator}
use Rattle.mbe_semantics.specs.Readings.Item.{Fragment}
use Rattle.mbe_semantics.specs.Readings.Input.{Input}
use Rattle.mbe_semantics.specs.Syntax.Nullable.{is_vis}

-- the input has n flat tokens
pub record Lawful (i : Input) (n : ℕ) : Type 0 where
  pub token_some : (t : Token) (p w : ℕ) → i.token_at t p ≡ Some w → 0 < w
  pub token_end : (t : Token) (p w : ℕ) → i.token_at t p ≡ Some w → p + w ≤ n
  pub fragment_empty : (kind : Option MetaVarKind) (p : ℕ) (x : Fragment) → i.fragment_at kind p
      ≡ Some x
      → flat_len x.trees ≡ 0 → is_vis kind ≡ true
  pub fragment_end : (kind : Option MetaVarKind) (p : ℕ) (x : Fragment) → i.fragment_at kind p
      ≡ Some x
      → 0 < flat_len x.trees → p + flat_len x.trees ≤ n
  pub separator_some : (s : Separator) (p w : ℕ) → i.separator_at s p ≡ Some w → 0 < w
  pub separator_end : (s : Separator) (p w : ℕ) → i.separator_at s p ≡ Some w → p + w ≤ n
  pub opens_end : (kind : DelimiterKind) (p : ℕ) → i.opens_at kind p ≡ true → p + 1 ≤ n
  pub closes_end : (p : ℕ) → i.closes_at p ≡ true → p + 1 ≤ n
