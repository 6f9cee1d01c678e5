-- The group that a buffer holds: its delimiter and the trees inside.
use Rattle.std.specs.Coded.{Coded, coded×}
use Rattle.mbe_tt.specs.Trees.Tree.{Forest, none, leaf, group}
use Rattle.mbe_tt.specs.Views.BufferEntries.{forest_code}
use Rattle.mbe_tt.specs.declared.span.Span.{Span}
use Rattle.mbe_tt.specs.declared.tt.Delimiter.{Delimiter}
use Rattle.mbe_tt.specs.declared.tt.DelimiterKind.TheVariants.{Invisible}
use Rattle.mbe_tt.specs.contracts.tt.Delimiter as d

-- the group of a buffer: a delimiter and the trees inside
abbrev pub Top : Type 0
Top = Delimiter × Forest

-- the span of the empty group that stands for a missing group; every buffer has a group
abbrev pub no_span : Span
no_span = record { file = 0; ast = 0; start = 0; end = 0; ctx = record { 0 = 0 } }

-- the first tree, if it is a group; every buffer begins with one
abbrev pub top_of : Forest → Top
top_of none = (record { opening = no_span; close = no_span; kind = Invisible }, none)
top_of (leaf l rest) = (record { opening = no_span; close = no_span; kind = Invisible }, none)
top_of (group k inside rest) = (k, inside)

-- the delimiter
abbrev pub delimiter_of : Top → Delimiter
delimiter_of t = t.0

-- the trees inside
abbrev pub inside : Top → Forest
inside t = t.1

-- the forest of one tree: the group
abbrev pub top_group : Top → Forest
top_group t = group t.0 t.1 none

-- the code that decides the equality of buffers
abbrev pub top_code : Coded Top
top_code = coded× d.the_row.coded forest_code
