-- How many groups a builder has open after a call, for callers that close what they opened.
use Rattle.std.proofs.Common.{◌≡◌, ◌+◌, ◌<◌, [], ◌∷◌, length, ap, arith}
use Rattle.mbe_tt.specs.Buffers.GroupStack.{GroupStack, closed}
use Rattle.mbe_tt.specs.declared.span.Span.{Span}

length-closed : (b : GroupStack) (span : Span) → 1 < length b → length (closed span b) + 1 ≡ length b
length-closed [] span h = absurd (omega arith)
length-closed (g ∷ []) span h = absurd (omega arith)
length-closed (g ∷ (k ∷ outer)) span h = omega arith

pub closed_length : (now b : GroupStack) (span : Span) → now ≡ closed span b → 1 < length b → length now + 1 ≡ length b
closed_length now b span e h = omega (arith, ap length e, length-closed b span h)
