-- What the arguments of the program ask for.
use Rattle.std.specs.Prelude.{ℕ, List, [], ◌∷◌, Bool, true, false, Option, Some, None, codes}
use Rattle.std.specs.Prelude.{option_map, if◌then◌else◌, bytes_eq, ◌==◌}
use Rattle.mbe_tt.specs.declared.span.Edition.{Edition}
use Rattle.mbe_tt.specs.declared.span.Edition.TheVariants.{Edition2015, Edition2018, Edition2021}
use Rattle.mbe_tt.specs.declared.span.Edition.TheVariants.{Edition2024}
use Rattle.mbe_program.specs.declared.options.Options.{Options}

-- The edition that an argument names.
abbrev pub edition_of : List ℕ → Option Edition
edition_of year =
    if bytes_eq year (codes "2015") then Some Edition2015
    else if bytes_eq year (codes "2018") then Some Edition2018
    else if bytes_eq year (codes "2021") then Some Edition2021
    else if bytes_eq year (codes "2024") then Some Edition2024
    else None

-- What options hold: whether to lint, the names of both files, and the edition.
abbrev pub Seen : Type 0
Seen = Bool × List ℕ × List ℕ × Edition

abbrev pub seen : Options → Seen
seen o = (o.lint, o.def.now, o.arg.now, o.edition)

-- The name of a file: the definition's for 0, the argument's for any other number.
abbrev pub name_of : Options → ℕ → List ℕ
name_of o file = if file == 0 then o.def.now else o.arg.now

-- Two files, and the edition 2024 or the one that a third argument names.
abbrev pub files_of : Bool → List (List ℕ) → Option Seen
files_of lint [] = None
files_of lint (d ∷ []) = None
files_of lint (d ∷ a ∷ []) = Some (lint, d, a, Edition2024)
files_of lint (d ∷ a ∷ e ∷ []) = option_map (λ edition. (lint, d, a, edition)) (edition_of e)
files_of lint (d ∷ a ∷ e ∷ x ∷ ws) = None

-- What the arguments of the program ask for. A first argument `--lint` is never a file.
abbrev pub options_of : List (List ℕ) → Option Seen
options_of [] = None
options_of (w ∷ ws) =
    if bytes_eq w (codes "--lint") then files_of true ws else files_of false (w ∷ ws)
