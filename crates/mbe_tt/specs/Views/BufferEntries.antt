-- The entries of a buffer, and the forest that they spell.
use Rattle.std.specs.Prelude.{◌≡◌, List, [], ◌∷◌, ◌++◌, refl}
use Rattle.std.proofs.Common.{ap, sym, ◌∙◌, append_assoc, append-nil}
use Rattle.std.specs.Coded.{Coded, code_by, coded_list, Coded-set}
use Rattle.mbe_tt.specs.declared.tt.Delimiter.{Delimiter}
use Rattle.mbe_tt.specs.Views.BufferEntry.{entry_code}
use Rattle.mbe_tt.specs.Trees.Tree.{Forest, none, leaf, group, append, flat_len}
use Rattle.mbe_tt.specs.declared.tt.Subtree.{Subtree}
use Rattle.mbe_tt.specs.Views.BufferEntry.{Entry}
use Rattle.mbe_tt.specs.Views.BufferEntry.{Leaf, Open, Close}

-- the entries that spell a forest
abbrev pub spell : Forest → List Entry
spell none = []
spell (leaf l rest) = Leaf l ∷ spell rest
spell (group d inside rest) = Open (record { delimiter = d }) (flat_len inside)
    ∷ (spell inside ++ Close ∷ spell rest)

-- What a list of entries stands for, read from its end: the trees up to the end of the innermost
-- group, the same for each group around it, and the groups that are opened and not closed,
-- outermost first, each with its trees up to the next.
pub record ParsedEntries : Type 0 where
  pub level : Forest
  pub around : List Forest
  pub unclosed : List (Delimiter × Forest)

-- an opening before what was read: it makes a group if the group's end was read, and an unclosed
-- group otherwise
abbrev pub open_at : Subtree → Forest → List Forest → List (Delimiter × Forest) → ParsedEntries
open_at s inside [] u = record { level = none; around = []; unclosed = (s.delimiter, inside) ∷ u }
open_at s inside (rest ∷ more) u =
    record { level = group s.delimiter inside rest; around = more; unclosed = u }

-- what the entries stand for
abbrev pub parse_entries : List Entry → ParsedEntries
parse_entries [] = record { level = none; around = []; unclosed = [] }
parse_entries (Leaf l ∷ es) = record (parse_entries es) { level = leaf l (parse_entries es).level }
parse_entries (Open s n ∷ es) =
    open_at s (parse_entries es).level (parse_entries es).around (parse_entries es).unclosed
parse_entries (Close ∷ es) = record {
  level = none;
  around = (parse_entries es).level
      ∷ (parse_entries es).around;
  unclosed = (parse_entries es).unclosed;
}

-- the trees up to the end of the innermost group
abbrev pub forest_of : List Entry → Forest
forest_of es = (parse_entries es).level

-- the entries spell a forest: each opening has its closing and the length of its content
abbrev pub Spelled : List Entry → Type 0
Spelled es = es ≡ spell (forest_of es)

pub append-none : (f : Forest) → append f none ≡ f
append-none none = refl
append-none (leaf l rest) = ap (leaf l) (append-none rest)
append-none (group d inside rest) = ap (group d inside) (append-none rest)

abbrev with_level : ParsedEntries → (Forest → Forest) → ParsedEntries
with_level r f = record r { level = f r.level }

pub read-spell : (f : Forest) (es : List Entry) → parse_entries (spell f ++ es)
    ≡ with_level (parse_entries es) (append f)
read-spell none es = refl
read-spell (leaf l rest) es = ap (λ (r : ParsedEntries). with_level r (leaf l)) (read-spell rest es)
read-spell (group d inside rest) es =
    ap (λ (r : ParsedEntries). open_at (record { delimiter = d }) r.level r.around r.unclosed)
    (ap parse_entries (append_assoc (spell inside) (Close ∷ spell rest) es)
    ∙ read-spell inside (Close ∷ (spell rest ++ es)))
    ∙ (ap (λ (r : ParsedEntries). with_level r (group d (append inside none))) (read-spell rest es)
    ∙ ap (λ (i : Forest). with_level (parse_entries es) (λ f. group d i (append rest f)))
    (append-none inside))

pub forest_of-spell : (f : Forest) → forest_of (spell f) ≡ f
forest_of-spell f =
    ap forest_of (sym (append-nil (spell f)))
    ∙ (ap (λ (r : ParsedEntries). r.level) (read-spell f []) ∙ append-none f)

-- codes of entries and of forests
abbrev pub entries_code : Coded (List Entry)
entries_code = coded_list entry_code

abbrev pub forest_code : Coded Forest
forest_code = code_by (List Entry) entries_code spell forest_of forest_of-spell

pub Spelled-prop : (es : List Entry) → IsProp (Spelled es)
Spelled-prop es = Coded-set entries_code es (spell (forest_of es))
