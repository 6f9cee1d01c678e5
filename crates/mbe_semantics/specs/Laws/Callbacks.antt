-- Which spans and contexts the caller's callbacks must accept.
use Rattle.std.specs.Prelude.{◌<◌, ◌^◌}
use Rattle.mbe_tt.specs.declared.span.Span.{Span}
use Rattle.mbe_tt.specs.declared.span.SyntaxContext.{SyntaxContext}

-- the numbers of the span are below 2 ^ 32, as in every span that a program holds
abbrev pub SpanFits : Span → Type 0
SpanFits s = (s.file < 2 ^ 32) × (s.ast < 2 ^ 32) × (s.start < 2 ^ 32) × (s.end < 2 ^ 32)
    × ((s.ctx).0 < 2 ^ 32)

-- the marker accepts every such span
abbrev pub MayMark : (Span → Type 0) → Type 0
MayMark may = (s : Span) → SpanFits s → may s

-- the function for editions accepts every context
abbrev pub MayAsk : (SyntaxContext → Type 0) → Type 0
MayAsk may = (c : SyntaxContext) → c.0 < 2 ^ 32 → may c
