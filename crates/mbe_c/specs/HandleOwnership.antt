-- What a handle owns: nothing, or a block with a macro that was read. Every C caller must pass
-- handles for which this holds.
use Rattle.std.specs.Prelude.{◌≡◌, ◌≢◌, ℕ, Option, Some, None}
use Rattle.std.specs.Coded.{Coded, coded_option}
use Rattle.std.specs.Box.Ownership.{box_owns}
use Rattle.std.specs.Global.{Global}
use Rattle.std.specs.contracts.alloc.Global as heap
use Rattle.std.specs.contracts.impls.GlobalAllocator.TheImpl.{ghosts}
use Rattle.mbe_program.specs.contracts.replies.kept_macro.KeptMacro as kept
use base.Fml.{Fml, ftrue, fsep, fex}
use denote.RattleType.{RattleType}
use denote.RawPtr.{Ptr}

-- A kept macro, in memory of the C library.
abbrev pub macro_row : RattleType
macro_row = kept.the_row heap.the_row ghosts

abbrev pub HeldMacro : Type 0
HeldMacro = macro_row.Denot

-- The state of a handle that has a macro: the bytes of `mbemacro`, the first lowest.
abbrev pub macro_state : ℕ
macro_state = 8030590355653354093

-- The proposition alone, without memory.
abbrev pub says : Type 0 → Fml
says P = fex P (λ _. ftrue)

-- What a handle owns: the block of its macro, or nothing.
abbrev pub handle_owns : Global → Ptr → ℕ → Option HeldMacro → Fml
handle_owns alloc at state None = says (state ≢ macro_state)
handle_owns alloc at state (Some m) =
    fsep (says (state ≡ macro_state)) (box_owns (ghosts.dealloc_token alloc) macro_row at m)

abbrev pub coded_held : Coded (Option HeldMacro)
coded_held = coded_option macro_row.coded
