-- How contracts see the fields of an op.
use Rattle.std.specs.Prelude.{ℕ, List, [], ◌∷◌, ◌+◌, ◌%◌, ◌^◌}
use Rattle.mbe_tt.specs.declared.tt.Punct.{Punct}
use Rattle.mbe_tt.specs.declared.span.Span.{Span}
use Rattle.mbe_tt.specs.declared.span.SyntaxContext.{SyntaxContext}
use Rattle.mbe_tt.specs.declared.tt.Delimiter.{Delimiter}
use Rattle.mbe_ops.specs.declared.op_fields.PunctsRepr.{PunctsRepr}
use Rattle.mbe_ops.specs.declared.op_fields.DelimiterRepr.{DelimiterRepr}
use Rattle.mbe_ops.specs.declared.op_fields.DelimiterRepr.TheVariants.{Packed, Boxed}
use Rattle.mbe_ops.specs.declared.op_fields.PunctsRepr.TheVariants.{One, More}

abbrev pub puncts_of : {A : Type 0} → PunctsRepr A → List Punct
puncts_of (One p) = p ∷ []
puncts_of (More ps) = ps.value.items

-- the span of the byte that begins at `start`
abbrev pub byte_at : ℕ → ℕ → SyntaxContext → ℕ → Span
byte_at file ast ctx start =
    record { file = file; ast = ast; start = start; end = (start + 1) % 2 ^ 32; ctx = ctx }

abbrev pub delimiter_of : {A : Type 0} → DelimiterRepr A → Delimiter
delimiter_of (Packed kind file ast ctx opening close) =
    record {
      opening = byte_at file ast ctx opening;
      close = byte_at file ast ctx close;
      kind = kind;
    }
delimiter_of (Boxed d) = d.value
