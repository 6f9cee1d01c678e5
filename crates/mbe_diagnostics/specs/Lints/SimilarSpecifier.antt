-- The name that is most similar to an unknown one, as rustc finds it. A name that differs only in
-- case comes first. Else it is the first name with the fewest edits, if they are few.
use Prim.Native.String.{String}
use Rattle.std.specs.Prelude.{ℕ, Bool, ◌+◌, ◌/◌, max, nat_lt, if◌then◌else◌, codes, chars, List, []}
use Rattle.std.specs.Prelude.{◌∷◌, length, map, Option, Some, None}
use Rattle.std.specs.Option.{option_or}
use Rattle.std.specs.Str.{str_eq_ignore_ascii_case}
use Rattle.strsim.specs.Edits.{osa_table}

-- All specifiers, in the order in which rustc lists them.
abbrev pub names : List String
names =
    "ident" ∷ "block" ∷ "stmt" ∷ "expr" ∷ "pat" ∷ "ty" ∷ "lifetime" ∷ "literal" ∷ "path" ∷ "meta"
    ∷ "tt" ∷ "item"
    ∷ "vis" ∷ "expr_2021" ∷ "pat_param" ∷ []

abbrev pub specifiers : List (List ℕ)
specifiers = map codes names

-- How many edits make one text of the other. An edit inserts, removes or replaces a character, or
-- swaps it with the next one. No character is edited twice.
abbrev pub edits : List ℕ → List ℕ → ℕ
edits one other = (osa_table (chars one) (chars other)).last_row (length (chars other))

-- The smallest number of edits that is too many. As many edits as a third of the bytes are few, and
-- so is one.
abbrev pub edit_limit : List ℕ → ℕ
edit_limit name = max 3 (length name) / 3 + 1

-- The first of those with the fewest edits, if these are fewer than `bound`; else the one that was
-- found before.
abbrev pub fewest : List ℕ → ℕ → Option (List ℕ) → List (List ℕ) → Option (List ℕ)
fewest name bound found [] = found
fewest name bound found (s ∷ ss) =
    if nat_lt (edits name s) bound then fewest name (edits name s) (Some s) ss else fewest name
    bound found ss

-- Whether two texts differ only in case.
unfoldable pub has_same_letters : List ℕ → List ℕ → Bool
has_same_letters one other = str_eq_ignore_ascii_case one other

-- The first one that differs from the name only in case.
abbrev pub find_same_letters : List ℕ → List (List ℕ) → Option (List ℕ)
find_same_letters name [] = None
find_same_letters name (s ∷ ss) =
    if has_same_letters name s then Some s else find_same_letters name ss

-- The name that is most similar, among these.
unfoldable pub similar_name : List ℕ → List (List ℕ) → Option (List ℕ)
similar_name name all =
    option_or (find_same_letters name all) (fewest name (edit_limit name) None all)

abbrev pub similar_specifier : List ℕ → Option (List ℕ)
similar_specifier name = similar_name name specifiers
