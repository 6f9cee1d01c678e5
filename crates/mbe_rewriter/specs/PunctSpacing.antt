-- The trees of an argument, with the operators of the texts that they come from. Two puncts are one
-- operator only if they are adjacent in one text. They are not if a template has one of them before
-- a variable.
use Rattle.std.specs.Prelude.{ℕ, zero, suc, Bool, ◌==◌, ◌&&◌, ◌||◌, if◌then◌else◌, Option, Some}
use Rattle.std.specs.Prelude.{None}
use Rattle.mbe_tt.specs.Trees.Leaf.{Leaf, literal, punct, ident}
use Rattle.mbe_tt.specs.Trees.Tree.{Forest, none, leaf, group, front_punct}
use Rattle.mbe_tt.specs.declared.span.Span.{Span}
use Rattle.mbe_tt.specs.declared.tt.Punct.{Punct}
use Rattle.mbe_tt.specs.declared.tt.Spacing.TheVariants.{Alone}

-- The two are adjacent in one file, or come from one token, as the `::` of a path.
abbrev pub are_adjacent : Span → Span → Bool
are_adjacent last next = last.file == next.file
    && (last.end == next.start || last.start == next.start && last.end == next.end)

-- A punct before another one. The first is joint only if the two are adjacent.
abbrev pub spaced_punct : Punct → Option Punct → Punct
spaced_punct p None = p
spaced_punct p (Some next) =
    if are_adjacent p.span next.span then p else record p { spacing = Alone }

-- A leaf before these trees.
abbrev pub spaced_leaf : Leaf → Forest → Leaf
spaced_leaf (punct p) rest = punct (spaced_punct p (front_punct rest))
spaced_leaf (literal l) rest = literal l
spaced_leaf (ident i) rest = ident i

-- Each leaf before what follows it. The function gives what groups hold.
abbrev pub spaced_by : (Forest → Forest) → Forest → Forest
spaced_by inner none = none
spaced_by inner (leaf l rest) = leaf (spaced_leaf l rest) (spaced_by inner rest)
spaced_by inner (group d inside rest) = group d (inner inside) (spaced_by inner rest)

-- Groups may be nested `levels` deep. Deeper groups are unchanged.
unfoldable pub spaced_in : ℕ → Forest → Forest
spaced_in zero f = f
spaced_in (suc levels) f = spaced_by (spaced_in levels) f

abbrev pub spaced : Forest → Forest
spaced f = spaced_in 1000 f
