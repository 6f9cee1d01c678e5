-- How contracts see the errors of the parser, which have an offset.
use Rattle.std.specs.Prelude.{ℕ, ◌+◌}
use Rattle.mbe_semantics.specs.Syntax.Template.{Fault}
use Rattle.mbe_ops.specs.Errors.ErrorViews.{fault_of}
use Rattle.mbe_ops.specs.declared.errors.error.ReadError as read
use Rattle.mbe_parser.specs.declared.located_fault.LocatedError as code

-- why parsing stopped: out of memory, or a fault at an offset of which P holds
abbrev pub FailsAt : code.LocatedError → (Fault → ℕ → Type 0) → Type 0
FailsAt code.TheVariants.Memory P = Unit {0}
FailsAt (code.TheVariants.Fault x) P = P (fault_of x.fault) x.offset

-- the same error, in trees that have `before` more flat tokens in front
abbrev pub shifted : ℕ → code.LocatedError → code.LocatedError
shifted before code.TheVariants.Memory = code.TheVariants.Memory
shifted before (code.TheVariants.Fault x) =
    code.TheVariants.Fault (record { fault = x.fault; offset = before + x.offset })

-- the error of one op: its fault is at its first token
abbrev pub at_start : read.ReadError → code.LocatedError
at_start read.TheVariants.Memory = code.TheVariants.Memory
at_start (read.TheVariants.Fault fault) =
    code.TheVariants.Fault (record { fault = fault; offset = 0 })
