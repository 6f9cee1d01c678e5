-- The invisible groups that keep fragments whole in rustc's dialect. The syntax context of their
-- spans says what they hold.
use Rattle.std.specs.Prelude.{ℕ, Bool, ◌&&◌, ◌||◌, ◌==◌, nat_le}
use Rattle.mbe_tt.specs.declared.fragment_group.FragmentGroup.{FragmentGroup}
use Rattle.mbe_tt.specs.declared.fragment_group.FragmentGroup.TheVariants as groups
use Rattle.mbe_tt.specs.declared.span.Span.{Span}
use Rattle.mbe_tt.specs.declared.span.SyntaxContext.{SyntaxContext}
use Rattle.mbe_tt.specs.declared.tt.Delimiter.{Delimiter}
use Rattle.mbe_tt.specs.declared.tt.DelimiterKind.TheVariants.{Invisible}
use Rattle.mbe_tt.specs.Trees.Tree.{is_same_kind}

-- the number of the context that says what a group holds
abbrev pub context_number : FragmentGroup → ℕ
context_number groups.Path = 4294967264
context_number groups.Ty = 4294967265
context_number groups.Pat = 4294967266
context_number groups.Stmt = 4294967267
context_number groups.Block = 4294967268
context_number groups.Meta = 4294967269
context_number groups.Item = 4294967270
context_number groups.Vis = 4294967271
context_number groups.Expr = 4294967272
context_number groups.LiteralExpr = 4294967273
context_number groups.Literal = 4294967274

abbrev pub context_of : FragmentGroup → SyntaxContext
context_of g = record { 0 = context_number g }

-- the span, with the context of the group
abbrev pub span_around : FragmentGroup → Span → Span
span_around g span = record span { ctx = context_of g }

-- the delimiter of a group, with that span on both sides
abbrev pub delimiter_of : FragmentGroup → Span → Delimiter
delimiter_of g span =
    record { opening = span_around g span; close = span_around g span; kind = Invisible }

-- the delimiter is that of such a group
abbrev pub is_around : FragmentGroup → Delimiter → Bool
is_around g d = is_same_kind d.kind Invisible && (d.opening.ctx.0 == context_number g)

-- the delimiter is that of a fragment's group
abbrev pub is_fragment_group : Delimiter → Bool
is_fragment_group d = is_same_kind d.kind Invisible && nat_le 4294967264 d.opening.ctx.0

-- the delimiter is that of a literal, or of an expression that is a literal
abbrev pub is_literal_group : Delimiter → Bool
is_literal_group d = is_around groups.Literal d || is_around groups.LiteralExpr d
