-- What the expansion has in place of a variable that a failed match left unbound (rust-analyzer's
-- defaults).
use Rattle.std.specs.Prelude.{codes}
use Rattle.mbe_tt.specs.declared.span.Span.{Span}
use Rattle.mbe_tt.specs.declared.tt.DelimiterKind.TheVariants.{Brace}
use Rattle.mbe_tt.specs.declared.tt.IdentIsRaw.TheVariants as raw
use Rattle.mbe_tt.specs.declared.tt.Spacing.TheVariants.{Alone, Joint}
use Rattle.mbe_tt.specs.Trees.Leaf.{punct, ident}
use Rattle.mbe_tt.specs.Trees.Tree.{Forest, none, leaf, group}
use Rattle.mbe_semantics.specs.declared.fragment_kinds.MetaVarKind.{MetaVarKind}
use Rattle.mbe_semantics.specs.declared.fragment_kinds.Missing.{Missing}
use Rattle.mbe_semantics.specs.declared.fragment_kinds.Missing.TheVariants as defaults
use Rattle.mbe_semantics.specs.Fragments.Kinds.{facts}

-- the identifier `missing`
abbrev pub missing_ident : Span → Forest
missing_ident span =
    leaf (ident (record { sym = codes "missing"; is_raw = raw.No; span = span })) none

-- the trees, with the given span everywhere
abbrev pub missing_trees : Missing → Span → Forest
missing_trees defaults.Nothing span = none
missing_trees defaults.Semicolon span =
    leaf (punct (record { char = 59; spacing = Alone; span = span })) none
missing_trees defaults.Braces span =
    group (record { opening = span; close = span; kind = Brace }) none none
missing_trees defaults.Lifetime span =
    leaf (punct (record { char = 39; spacing = Joint; span = span }))
    (missing_ident span)
missing_trees defaults.Identifier span = missing_ident span

-- what the expansion has in place of a missing fragment of each kind
abbrev pub default_trees : MetaVarKind → Span → Forest
default_trees kind span = missing_trees (facts kind).missing span

-- any span: for a text alone it doesn't matter
abbrev pub no_span : Span
no_span = record { file = 0; ast = 0; start = 0; end = 0; ctx = record { 0 = 0 } }
