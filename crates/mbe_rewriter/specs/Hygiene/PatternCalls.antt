-- Calls that may be patterns, and the names of their expansions that are used after them.
use Rattle.std.specs.Prelude.{ℕ, Bool, true, false, not, ◌&&◌, ◌||◌, if◌then◌else◌, nat_lt}
use Rattle.std.specs.Prelude.{List, [], ◌∷◌, ◌++◌, Option, Some, None}
use Rattle.std.specs.Str.{bytes_eq}
use Rattle.mbe_tt.specs.Trees.Leaf.{Leaf, literal, punct, ident}
use Rattle.mbe_tt.specs.Trees.Tree.{Forest}
use Rattle.mbe_tt.specs.declared.span.Span.{Span}
use Rattle.mbe_rewriter.specs.declared.hygiene.local_names.UndecidedUse.{UndecidedUse}
use Rattle.mbe_rewriter.specs.declared.hygiene.token_classes.Sign.{Sign}
use Rattle.mbe_rewriter.specs.declared.hygiene.token_classes.Sign.TheVariants as sign
use Rattle.mbe_rewriter.specs.declared.hygiene.scan_state.Region.TheVariants as region
use Rattle.mbe_rewriter.specs.declared.hygiene.scan_state.ScanState.{ScanState}
use Rattle.mbe_rewriter.specs.declared.hygiene.scan_state.TokenRole.{TokenRole}
use Rattle.mbe_rewriter.specs.declared.hygiene.scan_state.TokenRole.TheVariants as role
use Rattle.mbe_rewriter.specs.Hygiene.Lookahead.{front_sign, second_sign, equals_follows}
use Rattle.mbe_rewriter.specs.Hygiene.Lookahead.{colon_follows, in_follows, begins_arm}
use Rattle.mbe_rewriter.specs.Hygiene.LocalNames.{Word, word, words, binds_role}
use Rattle.mbe_rewriter.specs.Hygiene.ScanState.{start}
use Rattle.mbe_rewriter.specs.Hygiene.TreeEvents.{TreeEvent, token, opening, closing, events}

-- ---- which calls may be patterns

abbrev pub is_bar : Option Sign → Bool
is_bar (Some sign.Bar) = true
is_bar _ = false

-- A `|` follows that begins no `||`.
abbrev pub bar_follows : Forest → Bool
bar_follows f = is_bar (front_sign f) && not (is_bar (second_sign f))

-- A pattern may end before these trees: at a `=`, a `:`, a `|` or an `in`, or in an arm of a
-- `match`.
abbrev pub follows_pattern : Forest → Bool
follows_pattern f =
    equals_follows f
    || (colon_follows f || (bar_follows f || (in_follows f || begins_arm f)))

-- ---- the names that a pattern binds

-- Trees that are a pattern.
abbrev pub pattern_start : ScanState
pattern_start = record start { region = region.Pattern }

-- A word of a step binds a name. Contexts up to `mark` belong to earlier calls.
abbrev pub binds_name : TokenRole → Span → ℕ → Bool
binds_name r span mark = binds_role r && nat_lt mark (span.ctx).0

abbrev pub bound_in_leaf : ℕ → Leaf → TokenRole → List Word
bound_in_leaf mark (ident i) r =
    if binds_name r i.span mark then word i.sym i.span r ∷ [] else []
bound_in_leaf mark (literal l) r = []
bound_in_leaf mark (punct p) r = []

abbrev pub bound_in_event : ℕ → TreeEvent → List Word
bound_in_event mark (token l r) = bound_in_leaf mark l r
bound_in_event mark (opening k span r) = []
bound_in_event mark (closing span r) = []

abbrev pub bound_names : ℕ → List TreeEvent → List Word
bound_names mark [] = []
bound_names mark (x ∷ xs) = bound_in_event mark x ++ bound_names mark xs

-- ---- uses after the call

-- The word may be a use of a local.
abbrev pub is_use : TokenRole → Bool
is_use role.Used = true
is_use role.Unsure = true
is_use role.Text = true
is_use role.Inner = true
is_use _ = false

abbrev pub is_use_of : Word → Word → Bool
is_use_of v w = is_use v.role && bytes_eq v.text w.text

-- The span of the first use of a name.
abbrev pub use_in : Word → List Word → Option Span
use_in w [] = None
use_in w (v ∷ vs) = if is_use_of v w then Some v.span else use_in w vs

abbrev pub doubt_at : Span → Option Span → List UndecidedUse
doubt_at bound None = []
doubt_at bound (Some place) = record { bound = bound; place = place } ∷ []

-- The first use of a name, if there is one.
abbrev pub first_use : Word → List Word → List UndecidedUse
first_use w vs = doubt_at w.span (use_in w vs)

abbrev pub first_uses : List Word → List Word → List UndecidedUse
first_uses [] vs = []
first_uses (w ∷ ws) vs = first_use w vs ++ first_uses ws vs

-- The words of trees, and the names that their strings mention.
abbrev pub words_after : Forest → List Word
words_after left = words (record { contexts = []; mark = 0 }) (events start left)

-- Each name that a step binds if the expansion is a pattern, with its first use after the call.
abbrev pub pattern_doubts : ℕ → Forest → Forest → List UndecidedUse
pattern_doubts mark out left =
    if follows_pattern left
    then first_uses (bound_names mark (events pattern_start out)) (words_after left)
    else []
