-- The expansion of files, and what is written of it.
use Rattle.std.specs.Prelude.{◌≡◌, ◌⊎◌, ◌==◌, ◌&&◌, ◌+◌, ℕ, Bool, true, false, List, [], ◌∷◌, ◌++◌}
use Rattle.std.specs.Prelude.{length, map, filter, min, Option, Some, None, Result, IsErr}
use Rattle.std.specs.List.{All}
use Rattle.mbe_tt.specs.Trees.Top.{Top}
use Rattle.mbe_rewriter.specs.Splice.{SplicedPart, spliced}
use Rattle.mbe_text.specs.WriterBytes.{Writes}
use Rattle.mbe_session.specs.CallExpansion.{Setting, State}
use Rattle.mbe_session.specs.Collector.{Defines, DefinesExternCrate}
use Rattle.mbe_session.specs.Linker.{linked}
use Rattle.mbe_session.specs.CallReplacements.{IsOfCall, PartsOfFile}
use Rattle.mbe_session.specs.Scopes.{Language, Scope}
use Rattle.mbe_cfg.specs.CrateExports.Exports.{Export, exports_of}
use Rattle.mbe_session.specs.declared.locations.CallPosition.{CallPosition}
use Rattle.mbe_session.specs.CrateTrees.{crate_at, crate_of}
use Rattle.mbe_session.specs.DollarCrate.{replace_dollar_crate}
use Rattle.mbe_session.specs.Locations.{IsLocation}
use Rattle.mbe_session.specs.LineEndings.{original_part, normalized, returns}
use Rattle.mbe_session.specs.Sources.{Source}

-- ---- definitions

-- The macros of a crate are defined. There are none if its root isn't Rust.
abbrev pub DefinesCrate : Language → ℕ → Option Top → Scope → Scope → Type 0
DefinesCrate language levels None s u = u ≡ s
DefinesCrate language levels (Some tree) s u = Defines language levels true tree.1 s u

-- The macros of each crate are defined, in order. The roots are the first so many files.
pub data DefinesCrates (language : Language) (levels : ℕ) (with_modules : Bool) (files : List Source)
    (s : Scope)
    : ℕ → Scope → Type 0 where
  no_definition : DefinesCrates language levels with_modules files s 0 s
  one_crate_more : (n : ℕ) (t u : Scope) → DefinesCrates language levels with_modules files s n t
      → DefinesCrate language levels (crate_at with_modules files n) t u
      → DefinesCrates language levels with_modules files s (n + 1) u

-- The macros of an external crate are defined as macros of the crate `name`, after `$crate` is
-- replaced by the name.
abbrev pub DefinesExtern : Language → ℕ → List ℕ → Option Top → Scope → Scope → Type 0
DefinesExtern language levels name None s u = u ≡ s
DefinesExtern language levels name (Some tree) s u =
    DefinesExternCrate language levels name (replace_dollar_crate name tree).1 s u

-- The macros of the external crates of these names are defined, in order. Their roots are the files
-- from that number on.
pub data DefinesExterns (language : Language) (levels : ℕ) (with_modules : Bool) (files : List Source)
    : ℕ → Scope → List (List ℕ) → Scope → Type 0 where
  no_other : (n : ℕ) (s : Scope) → DefinesExterns language levels with_modules files n s [] s
  one_other : (n : ℕ) (s t u : Scope) (name : List ℕ) (names : List (List ℕ))
      → DefinesExtern language levels name (crate_at with_modules files n) s t
      → DefinesExterns language levels with_modules files (n + 1) t names u
      → DefinesExterns language levels with_modules files n s (name ∷ names) u

-- The re-exports of a crate.
abbrev pub exports_at : List ℕ → Option Top → List Export
exports_at name None = []
exports_at name (Some tree) = exports_of name tree.1

-- The re-exports of the external crates of these names. Their roots are the files from that number
-- on.
abbrev pub exports_from : Bool → List Source → ℕ → List (List ℕ) → List Export
exports_from with_modules files n [] = []
exports_from with_modules files n (name ∷ names) =
    exports_at name (crate_at with_modules files n) ++ exports_from with_modules files (n + 1) names

-- The macros of the external crates are defined, and their re-exports of each other are linked.
abbrev pub LoadsExterns : Language → ℕ → Bool → List Source → ℕ → Scope → List (List ℕ) → Scope
    → Type 0
LoadsExterns language levels with_modules files n s names u =
    (read : Scope) × DefinesExterns language levels with_modules files n s names read
    × (u ≡ linked (length names) (exports_from with_modules files n names) read)

-- ---- parts

-- The replacements for the calls of a crate. There are none if its root isn't Rust. Each is for a
-- call.
abbrev pub CrateParts : Setting → ℕ → Option Top → State → List SplicedPart → State → Type 0
CrateParts e levels None s parts t = (parts ≡ []) × (t ≡ s)
CrateParts e levels (Some tree) s parts t =
    PartsOfFile e levels tree.1 s parts t × All (IsOfCall e tree.1) parts

-- The replacements for the calls of each crate, in order. The roots are the first so many files.
pub data CratesParts (e : Setting) (levels : ℕ) (with_modules : Bool) (files : List Source)
    (s : State)
    : ℕ → List SplicedPart → State → Type 0 where
  no_crate : CratesParts e levels with_modules files s 0 [] s
  one_crate : (n : ℕ) (parts more : List SplicedPart) (t u : State)
      → CratesParts e levels with_modules files s n parts t
      → CrateParts e levels (crate_at with_modules files n) t more u
      → CratesParts e levels with_modules files s (n + 1) (parts ++ more) u

abbrev pub is_in : ℕ → SplicedPart → Bool
is_in number part = part.file == number

-- The replacements in the file of that number.
abbrev pub replacements_in : ℕ → List SplicedPart → List SplicedPart
replacements_in number parts = filter (is_in number) parts

-- ---- the calls at one position

-- Whether a column is the one that is asked for. Any column is, if none is asked for.
abbrev pub is_column : Option ℕ → ℕ → Bool
is_column None column = true
is_column (Some request) column = request == column

abbrev pub is_position : CallPosition → ℕ → ℕ → Bool
is_position position line column = line == position.line && is_column position.column column

-- Whether a byte of a text is at the position.
abbrev pub IsAtPosition : CallPosition → List ℕ → ℕ → Bool → Type 0
IsAtPosition position text at answer =
    (line : ℕ) × (column : ℕ) × (shown : List ℕ)
    × IsLocation text (min at (length text)) line column shown
    × (answer ≡ is_position position line column)

-- The texts of the replacements that begin at the position, in order, with a line feed after each.
pub data ExpansionsAt (position : CallPosition) (text : List ℕ) : List SplicedPart → List ℕ
    → Type 0 where
  no_part : ExpansionsAt position text [] []
  one_there : (parts : List SplicedPart) (part : SplicedPart) (out : List ℕ)
      → ExpansionsAt position text parts out
      → IsAtPosition position text part.start true
      → ExpansionsAt position text (parts ++ part ∷ []) (out ++ (part.text ++ 10 ∷ []))
  one_elsewhere : (parts : List SplicedPart) (part : SplicedPart) (out : List ℕ)
      → ExpansionsAt position text parts out
      → IsAtPosition position text part.start false
      → ExpansionsAt position text (parts ++ part ∷ []) out

-- ---- files

-- The expansion of a file's text by these replacements, which are ranges of the text without
-- carriage returns. With a position it is the expansions of the calls there.
abbrev pub TextExpands : Option CallPosition → List ℕ → List SplicedPart → List ℕ → Type 0
TextExpands None text parts out = out ≡ spliced text (map (original_part (returns text)) parts)
TextExpands (Some position) text parts out = ExpansionsAt position (normalized text) parts out

-- A file that isn't Rust is unchanged.
abbrev pub TreeExpands : Option CallPosition → Option Top → List ℕ → List SplicedPart → List ℕ
    → Type 0
TreeExpands call None text parts out = out ≡ text
TreeExpands call (Some tree) text parts out = TextExpands call text parts out

-- The expansion of the file of that number, by the replacements of all crates.
abbrev pub FileExpands : Option CallPosition → List SplicedPart → ℕ → Source → List ℕ → Type 0
FileExpands call parts number file out =
    TreeExpands call file.tree file.text (replacements_in number parts) out

-- The expansion of the file of that number, if there is such a file.
abbrev pub FileAtExpands : Option CallPosition → List SplicedPart → ℕ → Option Source
    → Option (List ℕ) → Type 0
FileAtExpands call parts number None out = out ≡ None
FileAtExpands call parts number (Some file) None = ⊥
FileAtExpands call parts number (Some file) (Some out) = FileExpands call parts number file out

-- The expansion of each file, in order.
pub data FilesExpand (call : Option CallPosition) (parts : List SplicedPart) : List Source
    → List (List ℕ) → Type 0 where
  no_file : FilesExpand call parts [] []
  one_more : (files : List Source) (outs : List (List ℕ)) (file : Source) (out : List ℕ)
      → FilesExpand call parts files outs → FileExpands call parts (length files) file out
      → FilesExpand call parts (files ++ file ∷ []) (outs ++ out ∷ [])

-- The expansion of a crate's root, by the replacements of that crate.
pub record RootExpands (e : Setting) (levels : ℕ) (call : Option CallPosition) (with_modules : Bool)
    (files : List Source)
    (number : ℕ) (file : Source) (s : State) (out : List ℕ) (t : State) : Type 0 where
  pub parts : List SplicedPart
  pub of_crate : CrateParts e levels (crate_of with_modules files number file) s parts t
  pub expands : FileExpands call parts number file out

-- ---- what is written

-- A text of that kind is written, or a prefix of one if the writer failed. If memory ran out,
-- nothing is written.
abbrev pub WritesOne : {T E : Type 0} → Option (List ℕ) → Option (List ℕ) → Result T E
    → (List ℕ → Type 0) → Type 0
WritesOne before after result Is = (IsErr result × (after ≡ before))
    ⊎ ((bytes : List ℕ) × Is bytes × Writes before after result bytes)
