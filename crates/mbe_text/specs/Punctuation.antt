-- Puncts and delimiters.
use Rattle.std.specs.Prelude.{ℕ, ◌==◌, not, ◌&&◌, if◌then◌else◌, Option, Some, None, List, [], ◌∷◌}
use Rattle.std.specs.Prelude.{Ok, Err}
use Rattle.mbe_tt.specs.declared.tt.DelimiterKind.TheVariants.{Parenthesis, Brace, Bracket}
use Rattle.mbe_tt.specs.declared.tt.Spacing.{Spacing}
use Rattle.mbe_tt.specs.declared.tt.Spacing.TheVariants.{Alone, Joint}
use Rattle.mbe_text.specs.declared.characters.CharClass.TheVariants as classes
use Rattle.mbe_text.specs.Characters.{begins, has}
use Rattle.mbe_text.specs.LexFaults.{fault_at}
use Rattle.mbe_text.specs.declared.fault_kind.LexFaultKind.TheVariants as fault_kind
use Rattle.mbe_text.specs.Whitespace.{begins_comment}
use Rattle.mbe_text.specs.Shapes.{Shape, ReadResult, punct_of, opening, closing}

-- a punct is joint if another one begins right after it; the `/` of a comment isn't a punct
abbrev pub spacing_before : List ℕ → Spacing
spacing_before rest = if begins classes.Punct rest
    && not (begins_comment rest) then Joint else Alone

-- a delimiter: ( ) [ ] { }
abbrev pub side : ℕ → Option Shape
side c =
    if c == 40 then Some (opening Parenthesis) else if c == 41 then Some (closing Parenthesis)
    else if c == 91 then Some (opening Bracket) else if c == 93 then Some (closing Bracket)
    else if c == 123 then Some (opening Brace) else if c == 125 then Some (closing Brace)
    else None

-- a delimiter, or a punct
abbrev pub read_punctuation : ℕ → List ℕ → ReadResult
read_punctuation total [] = Err (fault_at fault_kind.Start total [])
read_punctuation total (c ∷ rest) = elim (side c) [
  | Some shape ↦ Ok (shape, rest)
  | None ↦ if has classes.Punct c then Ok (punct_of c (spacing_before rest), rest) else Err
      (fault_at fault_kind.Start total (c ∷ rest))
]
