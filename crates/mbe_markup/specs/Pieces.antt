-- JSON text: a mark is written as it is, and any other text as a string.
use Rattle.std.specs.Prelude.{ℕ, ◌++◌, List, [], ◌∷◌}
use Rattle.std.specs.Fmt.{decimal}
use Rattle.std.specs.String.{string_bytes}
use Rattle.mbe_diagnostics.specs.Json.{text_json}
use Rattle.mbe_markup.specs.declared.json.Json.{Json}
use Rattle.mbe_markup.specs.declared.json.Piece.{Piece}
use Rattle.mbe_markup.specs.declared.json.Piece.TheVariants.{Mark, Text, Number}

-- A piece of a JSON text, as it is written.
abbrev pub piece_text : Piece → List ℕ
piece_text (Mark mark) = mark.now
piece_text (Text text) = text_json text.now
piece_text (Number number) = decimal number

-- Pieces, one after another.
abbrev pub pieces_text : List Piece → List ℕ
pieces_text [] = []
pieces_text (p ∷ ps) = piece_text p ++ pieces_text ps

-- The bytes of a JSON text.
abbrev pub json_bytes : Json → List ℕ
json_bytes json = string_bytes json.text
