-- Tests of single trees.
use Rattle.std.specs.Prelude.{ℕ, nat_eq, Bool, true, false, not, ◌&&◌, ◌==◌, List, codes}
use Rattle.std.specs.List.{list_any, ends_with}
use Rattle.mbe_tt.specs.Trees.Tree.{Tree, Leaf_tree, Group_tree, is_same_kind}
use Rattle.mbe_tt.specs.Trees.Leaf.{Leaf, Ident, Literal, literal, punct, ident, is_text}
use Rattle.mbe_tt.specs.Trees.Leaf.{is_underscore}
use Rattle.mbe_tt.specs.declared.tt.IdentIsRaw.{IdentIsRaw}
use Rattle.mbe_tt.specs.declared.tt.IdentIsRaw.TheVariants.{No, Yes}
use Rattle.mbe_tt.specs.declared.tt.DelimiterKind.{DelimiterKind}
use Rattle.mbe_tt.specs.declared.tt.LitKind.{LitKind}
use Rattle.mbe_tt.specs.declared.tt.LitKind.TheVariants.{Byte, Char, Integer, Float, Str, StrRaw}
use Rattle.mbe_tt.specs.declared.tt.LitKind.TheVariants.{ByteStr, ByteStrRaw, CStr, CStrRaw, Err}
use Rattle.mbe_tt.specs.declared.fragment_group.FragmentGroup.{FragmentGroup}
use Rattle.mbe_tt.specs.Trees.FragmentGroup.{is_around}
use Rattle.mbe_grammar.specs.Tables.Editions.{edition_of, is_keyword_in}
use Rattle.mbe_grammar.specs.declared.tables.peg_table.RuleTable.{RuleTable}

-- a punct with this char
abbrev pub is_char : ℕ → Leaf → Bool
is_char char (punct p) = p.char == char
is_char char (literal x) = false
is_char char (ident i) = false

-- one of the texts, and not raw
abbrev pub is_word : List (List ℕ) → IdentIsRaw → List ℕ → Bool
is_word texts No sym = list_any (is_text sym) texts
is_word texts Yes sym = false

-- an identifier with one of these texts that isn't raw
abbrev pub is_one_of : List (List ℕ) → Tree → Bool
is_one_of texts (Leaf_tree (ident i)) = is_word texts i.is_raw i.sym
is_one_of texts (Leaf_tree (punct p)) = false
is_one_of texts (Leaf_tree (literal x)) = false
is_one_of texts (Group_tree d inside) = false

-- any identifier
abbrev pub is_identifier : Tree → Bool
is_identifier (Leaf_tree (ident i)) = true
is_identifier (Leaf_tree (punct p)) = false
is_identifier (Leaf_tree (literal x)) = false
is_identifier (Group_tree d inside) = false

-- not raw, and reserved
abbrev pub unless_raw : IdentIsRaw → Bool → Bool
unless_raw No is_reserved = is_reserved
unless_raw Yes is_reserved = false

abbrev pub is_keyword : RuleTable → Ident → Bool
is_keyword table i = unless_raw i.is_raw (is_keyword_in table (edition_of table i.span.ctx) i.sym)

-- any identifier except `_` and keywords
abbrev pub is_name : RuleTable → Tree → Bool
is_name table (Leaf_tree (ident i)) = not (is_underscore i.sym) && not (is_keyword table i)
is_name table (Leaf_tree (punct p)) = false
is_name table (Leaf_tree (literal x)) = false
is_name table (Group_tree d inside) = false

abbrev pub is_literal : Tree → Bool
is_literal (Leaf_tree (ident i)) = false
is_literal (Leaf_tree (punct p)) = false
is_literal (Leaf_tree (literal x)) = true
is_literal (Group_tree d inside) = false

abbrev pub is_float : LitKind → Bool
is_float Float = true
is_float Integer = false
is_float Char = false
is_float Byte = false
is_float Str = false
is_float (StrRaw n) = false
is_float ByteStr = false
is_float (ByteStrRaw n) = false
is_float CStr = false
is_float (CStrRaw n) = false
is_float Err = false

-- a number that ends with a `.`
abbrev pub has_point : Literal → Bool
has_point l = is_float l.kind && ends_with nat_eq l.text_and_suffix (codes ".")

abbrev pub is_pointed : Tree → Bool
is_pointed (Leaf_tree (literal l)) = has_point l
is_pointed (Leaf_tree (ident i)) = false
is_pointed (Leaf_tree (punct p)) = false
is_pointed (Group_tree d inside) = false

abbrev pub is_any : Tree → Bool
is_any t = true

-- a punct with this char, even if it is the first of an operator
abbrev pub is_punct : ℕ → Tree → Bool
is_punct char (Leaf_tree x) = is_char char x
is_punct char (Group_tree d inside) = false

-- a group of one of these kinds
abbrev pub is_group : List DelimiterKind → Tree → Bool
is_group kinds (Leaf_tree x) = false
is_group kinds (Group_tree d inside) = list_any (is_same_kind d.kind) kinds

-- the group of a fragment that holds one of these
abbrev pub is_fragment_of : List FragmentGroup → Tree → Bool
is_fragment_of groups (Leaf_tree x) = false
is_fragment_of groups (Group_tree d inside) = list_any (λ g. is_around g d) groups
