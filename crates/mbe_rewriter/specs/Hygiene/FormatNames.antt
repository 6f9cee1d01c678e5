-- The names that a format string mentions: an argument in braces, `{name}`, or a number of
-- characters, `{:name$}`. A name with an escape inside it isn't found. A name after an escaped end
-- of a line isn't found either.
use Rattle.std.specs.Prelude.{ℕ, Bool, false, not, ◌==◌, ◌&&◌, ◌||◌, nat_le, if◌then◌else◌, codes}
use Rattle.std.specs.Prelude.{List, [], ◌∷◌, ◌++◌, length, Option, Some, None, is_some, unwrap_or}
use Rattle.std.specs.List.{position_or_len}
use Rattle.std.specs.Str.{bytes_eq}

-- ---- parts of a text

-- The text after these bytes, if it begins with them.
abbrev pub after_prefix : List ℕ → List ℕ → Option (List ℕ)
after_prefix [] text = Some text
after_prefix (c ∷ cs) [] = None
after_prefix (c ∷ cs) (d ∷ ds) = if d == c then after_prefix cs ds else None

abbrev pub begins_with : List ℕ → List ℕ → Bool
begins_with prefix text = is_some (after_prefix prefix text)

-- The byte may be part of a name.
abbrev pub is_name_byte : ℕ → Bool
is_name_byte c =
    c == 95 || (nat_le 48 c && nat_le c 57
    || (nat_le 65 c && nat_le c 90 || (nat_le 97 c && nat_le c 122
    || nat_le 128 c)))

-- How many such bytes are at the front.
abbrev pub run_len : List ℕ → ℕ
run_len text = position_or_len (λ c. not (is_name_byte c)) text

-- A byte that is no part of a name, and the text after it.
abbrev pub first_byte : List ℕ → Option (ℕ × List ℕ)
first_byte [] = None
first_byte (c ∷ cs) = if is_name_byte c then None else Some (c, cs)

-- ---- what a run of such bytes names

-- The text after an escaped `{`. The run begins after the `\` of the escape.
abbrev pub after_escape : List ℕ → List ℕ
after_escape run =
    unwrap_or (after_prefix (codes "x7b") run) (unwrap_or (after_prefix (codes "x7B") run) [])

-- The run without the `0` that asks for zeros.
abbrev pub after_zero : List ℕ → List ℕ
after_zero run = unwrap_or (after_prefix (codes "0") run) run

-- The name in a run, by the byte before the run.
abbrev pub name_of_run : ℕ → List ℕ → List ℕ
name_of_run before run = if before == 92 then after_escape run else after_zero run

-- A `$` is next, also if it is written as an escape.
abbrev pub is_dollar : List ℕ → Bool
is_dollar after =
    begins_with (codes "$") after
    || (begins_with (codes "\\x24") after || begins_with (codes "\\u{24}") after)

-- A name between these is an argument's, or that of a number of characters.
abbrev pub is_format_name : ℕ → List ℕ → List ℕ → Bool
is_format_name before name after =
    not (length name == 0) && (before == 123 || (before == 92 || is_dollar after))

-- ---- all names

abbrev pub is_found : List (List ℕ) → List ℕ → Bool
is_found [] name = false
is_found (t ∷ ts) name = bytes_eq t name || is_found ts name

abbrev pub with_mention : List (List ℕ) → List ℕ → Bool → List (List ℕ)
with_mention found name is_one = if is_one && not (is_found found name) then found
    ++ (name ∷ []) else found

abbrev pub found_at : List (List ℕ) → ℕ → List ℕ → List ℕ → List (List ℕ)
found_at found before run after =
    with_mention found (name_of_run before run)
    (is_format_name before (name_of_run before run) after)

-- The run is the code of a `{`, as between the braces of `\u{7b}`.
abbrev pub is_brace_code : List ℕ → Bool
is_brace_code run = bytes_eq run (codes "7b") || bytes_eq run (codes "7B")

-- The byte before the next run. An escape that ends there counts as the `{` that it writes.
abbrev pub next_before : List ℕ → ℕ → ℕ
next_before run c = if c == 125 && is_brace_code run then 123 else c

-- The names that were found, and those in the rest of the text. The run so far comes after the byte
-- `before`.
abbrev pub names_from : List (List ℕ) → ℕ → List ℕ → List ℕ → List (List ℕ)
names_from found before run [] = found_at found before run []
names_from found before run (c ∷ cs) =
    if is_name_byte c then names_from found before (run ++ (c ∷ [])) cs
    else names_from (found_at found before run (c ∷ cs)) (next_before run c) [] cs

-- The names that a text mentions, each once.
abbrev pub format_names : List ℕ → List (List ℕ)
format_names text = names_from [] 0 [] text
