-- Faults of a text.
use Rattle.std.specs.Prelude.{ℕ, List}
use Rattle.mbe_text.specs.declared.scanner.LexFault.{LexFault}
use Rattle.mbe_text.specs.declared.fault_kind.LexFaultKind.{LexFaultKind}
use Rattle.mbe_text.specs.Characters.{offset}

-- the fault of that kind at the byte where this rest begins, in a text of `total` bytes
abbrev pub fault_at : LexFaultKind → ℕ → List ℕ → LexFault
fault_at fault_kind total rest = record { offset = offset total rest; fault_kind = fault_kind }
