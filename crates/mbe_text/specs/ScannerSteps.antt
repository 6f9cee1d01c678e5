-- How a scanner moves on, and where a text may have a fault.
use Rattle.std.specs.Prelude.{ℕ, ⊤, ◌≡◌, ◌≤◌, ◌<◌, length}
use Rattle.mbe_text.specs.declared.scanner.Scanner.{Scanner}
use Rattle.mbe_text.specs.declared.lexer.LexError.{LexError}
use Rattle.mbe_text.specs.declared.lexer.LexError.TheVariants.{Fault, OutOfMemory}

-- the scanner is in the same text and dialect, and didn't move backwards
abbrev pub ScansForward : Scanner → Scanner → Type 0
ScansForward old new =
    (new.file ≡ old.file) × (new.total ≡ old.total) × (new.text.now ≡ old.text.now)
    × (length new.rest.now ≤ length old.rest.now)
    × (new.dialect ≡ old.dialect)

-- the scanner consumed something, if anything was left
abbrev pub Advances : Scanner → Scanner → Type 0
Advances old new = 0 < length old.rest.now → length new.rest.now < length old.rest.now

-- a fault begins in a text of that length, or at its end
abbrev pub FaultsWithin : ℕ → LexError → Type 0
FaultsWithin len (Fault fault) = fault.offset ≤ len
FaultsWithin len OutOfMemory = ⊤
