-- A diagnostic and its children as a JSON object, in the form of rustc's `--error-format=json`.
use Rattle.std.specs.Prelude.{ℕ, List, [], ◌∷◌, ◌++◌, ◌==◌, codes, length, if◌then◌else◌, Bool}
use Rattle.std.specs.Prelude.{true, false, Option, Some, None}
use Rattle.std.specs.Fmt.{decimal}
use Rattle.serde_json.specs.Data.{string}
use Rattle.serde_json.specs.Written.{compact_text}
use Rattle.mbe_diagnostics.specs.declared.diagnostic.Level.{Level}
use Rattle.mbe_diagnostics.specs.declared.diagnostic.Point.{Point}
use Rattle.mbe_diagnostics.specs.declared.diagnostic.Diagnostic.{Diagnostic}
use Rattle.mbe_diagnostics.specs.declared.diagnostic.FilePart.{FilePart}
use Rattle.mbe_diagnostics.specs.Diagnostics.{word, text}

-- A text in quotes, with escapes.
abbrev pub text_json : List ℕ → List ℕ
text_json text = compact_text (string text)

-- A line, and the columns of the part in it, from 1.
abbrev pub line_json : List ℕ → ℕ → ℕ → List ℕ
line_json line start end =
    codes "{\"text\":" ++ (text_json line ++ (codes ",\"highlight_start\":" ++ (decimal start
    ++ (codes ",\"highlight_end\":" ++ (decimal end ++ codes "}")))))

-- The start and the end of a part, in one measure.
unfoldable pub bounds_json : List ℕ → ℕ → ℕ → List ℕ
bounds_json measure start end =
    codes "\"" ++ (measure ++ (codes "_start\":" ++ (decimal start
    ++ (codes ",\"" ++ (measure ++ (codes "_end\":" ++ decimal end))))))

-- Bytes count from 0; lines and columns count from 1.
abbrev pub range_json : Point → Point → List ℕ
range_json start end =
    bounds_json (codes "byte") start.byte end.byte
    ++ (codes "," ++ (bounds_json (codes "line") start.line end.line
    ++ (codes "," ++ bounds_json (codes "column") start.column end.column)))

-- The object of a part of a file.
abbrev pub span_json : FilePart → List ℕ
span_json p =
    codes "{\"file_name\":" ++ (text_json p.file.now ++ (codes "," ++ (range_json p.start p.end
    ++ (codes ",\"is_primary\":true,\"text\":[" ++ (line_json p.line.now p.start.column p.end.column
    ++ codes
    "],\"label\":null,\"suggested_replacement\":null,\"suggestion_applicability\":null,\"expansion\":null}")))))

-- The spans of a diagnostic: one, or none without a file.
abbrev pub spans_json : Option FilePart → List ℕ
spans_json None = []
spans_json (Some p) = span_json p

-- A code has no explanation. An empty code is null.
unfoldable pub code_json : List ℕ → List ℕ
code_json code =
    if length code == 0 then codes "null"
    else codes "{\"code\":" ++ (text_json code ++ codes ",\"explanation\":null}")

-- The members of a diagnostic or a child, up to its children. Code and spans are given as JSON.
unfoldable pub members_json : List ℕ → List ℕ → List ℕ → List ℕ → List ℕ
members_json level message code spans =
    codes "\"message\":" ++ (text_json message ++ (codes ",\"code\":" ++ (code
    ++ (codes ",\"level\":\"" ++ (level ++ (codes "\",\"spans\":[" ++ (spans
    ++ codes "],\"children\":[")))))))

abbrev pub front_json : Diagnostic → List ℕ
front_json d =
    members_json (word d.level) d.message.now (code_json d.code.now) (spans_json d.place)

-- The object of a child. It has no children, and not the text as people read it.
unfoldable pub child_json : Diagnostic → List ℕ
child_json c = codes "{" ++ (front_json c ++ codes "],\"rendered\":null}")

abbrev pub comma : Bool → List ℕ
comma true = []
comma false = codes ","

-- The object of a child, after a comma if it isn't the first one.
abbrev pub listed : Bool → Diagnostic → List ℕ
listed is_first c = comma is_first ++ child_json c

abbrev pub children_json : Bool → List Diagnostic → List ℕ
children_json is_first [] = []
children_json is_first (c ∷ cs) = listed is_first c ++ children_json false cs

-- The object of a diagnostic, from its first members, the objects of its children, and the text as
-- people read it.
unfoldable pub object_json : List ℕ → List ℕ → List ℕ → List ℕ
object_json front children rendered =
    codes "{\"$message_type\":\"diagnostic\"," ++ (front ++ (children
    ++ (codes "],\"rendered\":" ++ (text_json rendered ++ codes "}"))))

abbrev pub json_line : Diagnostic → List Diagnostic → List ℕ
json_line d children =
    object_json (front_json d) (children_json true children) (text d children false)

-- A diagnostic without a code, a span and children.
abbrev pub plain_line : Level → List ℕ → List ℕ
plain_line l message =
    object_json (members_json (word l) message (codes "null") []) []
    (word l ++ (codes ": " ++ (message ++ codes "\n\n")))
