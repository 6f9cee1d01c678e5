-- Trees as a sequence of events.
use Rattle.std.specs.Prelude.{List, [], ◌∷◌, ◌++◌}
use Rattle.mbe_tt.specs.Trees.Leaf.{Leaf, literal, punct, ident}
use Rattle.mbe_tt.specs.Trees.Tree.{Forest, none, leaf, group}
use Rattle.mbe_tt.specs.declared.span.Span.{Span}
use Rattle.mbe_tt.specs.declared.tt.DelimiterKind.{DelimiterKind}
use Rattle.mbe_tt.specs.declared.tt.LitKind.{LitKind}
use Rattle.mbe_tt.specs.declared.tt.LitKind.TheVariants as lit
use Rattle.mbe_rewriter.specs.declared.hygiene.scan_state.Region.{Region}
use Rattle.mbe_rewriter.specs.declared.hygiene.scan_state.Region.TheVariants as region
use Rattle.mbe_rewriter.specs.declared.hygiene.scan_state.TokenRole.{TokenRole}
use Rattle.mbe_rewriter.specs.declared.hygiene.scan_state.TokenRole.TheVariants.{Other, Text}
use Rattle.mbe_rewriter.specs.declared.hygiene.scan_state.ScanState.{ScanState}
use Rattle.mbe_rewriter.specs.Hygiene.TokenClasses.{sign_of}
use Rattle.mbe_rewriter.specs.Hygiene.Roles.{role_of, punct_role, group_role, close_role}
use Rattle.mbe_rewriter.specs.Hygiene.ScanState.{after_leaf, after_group, inside_group}

-- A leaf with its role, an opening, or a closing.
pub data TreeEvent : Type 0 where
  token : Leaf → TokenRole → TreeEvent
  opening : DelimiterKind → Span → TokenRole → TreeEvent
  closing : Span → TokenRole → TreeEvent

abbrev pub text_role : Region → TokenRole
text_role region.Opaque = Other
text_role _ = Text

-- A string may name locals in braces.
abbrev pub literal_role : Region → LitKind → TokenRole
literal_role r lit.Str = text_role r
literal_role r (lit.StrRaw n) = text_role r
literal_role r _ = Other

-- The role of a leaf, at that state and before the last trees.
abbrev pub leaf_role : ScanState → Leaf → Forest → TokenRole
leaf_role s (ident i) rest = role_of s i rest
leaf_role s (literal l) rest = literal_role s.region l.kind
leaf_role s (punct p) rest = punct_role s (sign_of p.char) rest

-- The events of these trees, from that state on.
unfoldable pub events : ScanState → Forest → List TreeEvent
events s none = []
events s (leaf l rest) = token l (leaf_role s l rest) ∷ events (after_leaf s l rest) rest
events s (group d inside rest) =
    opening d.kind d.opening (group_role s d.kind) ∷ (events (inside_group s d.kind inside) inside
    ++ closing d.close (close_role s d.kind) ∷ events (after_group s d.kind rest) rest)
