-- Leaves and entries as clauses see them, whatever memory holds their texts.
use Rattle.std.specs.Prelude.{Bool, List, map}
use Rattle.std.specs.Cmp.{IsEquivalence}
use Rattle.std.proofs.lemmas.Cmp.{on_equiv}
use Rattle.mbe_tt.specs.Laws.CodeEquality.{same, same_equiv}
use Rattle.mbe_tt.specs.Trees.Leaf as spec
use Rattle.mbe_tt.specs.Views.BufferEntry as flat
use Rattle.mbe_tt.specs.Trees.Tree.{Forest, leaves}
use Rattle.mbe_tt.specs.declared.tt.Literal.{Literal}
use Rattle.mbe_tt.specs.declared.tt.Ident.{Ident}
use Rattle.mbe_tt.specs.declared.tt.Leaf.{Leaf}
use Rattle.mbe_tt.specs.declared.tt.Leaf.TheVariants as l
use Rattle.mbe_tt.specs.declared.entry.Entry.{Entry}
use Rattle.mbe_tt.specs.declared.entry.Entry.TheVariants as e

-- a literal, an identifier or a leaf without the memory of its text
abbrev pub literal_of : {A : Type 0} → Literal A → spec.Literal
literal_of x =
    record {
      text_and_suffix = x.text_and_suffix;
      suffix_len = x.suffix_len;
      kind = x.kind;
      span =
          x.span;
    }

abbrev pub ident_of : {A : Type 0} → Ident A → spec.Ident
ident_of x = record { sym = x.sym; is_raw = x.is_raw; span = x.span }

abbrev pub leaf_of : {A : Type 0} → Leaf A → spec.Leaf
leaf_of (l.Literal x) = spec.literal (literal_of x)
leaf_of (l.Punct x) = spec.punct x
leaf_of (l.Ident x) = spec.ident (ident_of x)

-- the forest of these leaves
abbrev pub leaves_of : {A : Type 0} → List (Leaf A) → Forest
leaves_of ls = leaves (map leaf_of ls)

-- an entry, and entries, without their memory
abbrev pub entry_of : {A : Type 0} → Entry A → flat.Entry
entry_of (e.Leaf x) = flat.Leaf (leaf_of x)
entry_of (e.Open s n) = flat.Open s n
entry_of (e.Close n) = flat.Close

abbrev pub entries_of : {A : Type 0} → List (Entry A) → List flat.Entry
entries_of es = map entry_of es

-- equality of identifiers
abbrev pub ident_eq : {A : Type 0} → Ident A → Ident A → Bool
ident_eq x y = same spec.ident_code (ident_of x) (ident_of y)

pub ident_eq_laws : {A : Type 0} → IsEquivalence (ident_eq {A = A})
ident_eq_laws = on_equiv ident_of (same_equiv spec.ident_code)

-- equality of literals
abbrev pub literal_eq : {A : Type 0} → Literal A → Literal A → Bool
literal_eq x y = same spec.literal_code (literal_of x) (literal_of y)

pub literal_eq_laws : {A : Type 0} → IsEquivalence (literal_eq {A = A})
literal_eq_laws = on_equiv literal_of (same_equiv spec.literal_code)

-- equality of leaves
abbrev pub leaf_eq : {A : Type 0} → Leaf A → Leaf A → Bool
leaf_eq x y = same spec.leaf_code (leaf_of x) (leaf_of y)

pub leaf_eq_laws : {A : Type 0} → IsEquivalence (leaf_eq {A = A})
leaf_eq_laws = on_equiv leaf_of (same_equiv spec.leaf_code)

-- equality of entries
abbrev pub entry_eq : {A : Type 0} → Entry A → Entry A → Bool
entry_eq x y = same flat.entry_code (entry_of x) (entry_of y)

pub entry_eq_laws : {A : Type 0} → IsEquivalence (entry_eq {A = A})
entry_eq_laws = on_equiv entry_of (same_equiv flat.entry_code)
