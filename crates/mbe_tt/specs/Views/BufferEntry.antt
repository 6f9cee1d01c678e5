-- The entries of a buffer, whatever memory holds their texts.
use Rattle.std.specs.Prelude.{◌≡◌, ℕ, refl, ◌⊎◌}
use Rattle.std.proofs.Common.{inl, inr}
use Rattle.std.specs.Coded.{Coded, code_by, coded_ℕ, coded×, coded⊎}
use Rattle.std.specs.Prelude.{Option, Some, None}
use Rattle.mbe_tt.specs.Trees.Leaf.{Leaf as TheLeaf, leaf_code, literal, punct, ident}
use Rattle.mbe_tt.specs.declared.tt.Punct.{Punct}
use Rattle.mbe_tt.specs.declared.tt.Subtree.{Subtree}
use Rattle.mbe_tt.specs.contracts.tt.Subtree as t
use Rattle.std.specs.Coded.{coded_option}

-- a leaf, an opening with the length of its content, or a closing
pub data Entry : Type 0 where
  Leaf : TheLeaf → Entry
  Open : Subtree → ℕ → Entry
  Close : Entry

-- the parts of an entry that are compared
abbrev pub EntryRow : Type 0
EntryRow = Option (TheLeaf ⊎ (Subtree × ℕ))

-- from an entry to its parts, and back
abbrev pub entry_row : Entry → EntryRow
entry_row (Leaf l) = Some (inl l)
entry_row (Open s n) = Some (inr (s, n))
entry_row Close = None

abbrev pub row_entry : EntryRow → Entry
row_entry (Some (inl l)) = Leaf l
row_entry (Some (inr o)) = Open o.0 o.1
row_entry None = Close

pub row_entry-entry_row : (e : Entry) → row_entry (entry_row e) ≡ e
row_entry-entry_row (Leaf l) = refl
row_entry-entry_row (Open s n) = refl
row_entry-entry_row Close = refl

-- the code that decides the equality of entries
abbrev pub entry_code : Coded Entry
entry_code =
    code_by EntryRow (coded_option (coded⊎ leaf_code (coded× t.the_row.coded coded_ℕ))) entry_row
    row_entry
    row_entry-entry_row

-- the punct, if the entry is one
abbrev pub entry_punct : Entry → Option Punct
entry_punct (Leaf (literal l)) = None
entry_punct (Leaf (punct p)) = Some p
entry_punct (Leaf (ident i)) = None
entry_punct (Open s n) = None
entry_punct Close = None
