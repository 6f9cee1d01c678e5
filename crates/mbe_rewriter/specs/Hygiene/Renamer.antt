-- Trees with their locals renamed.
use Rattle.std.specs.Prelude.{ℕ, nat_lt, if◌then◌else◌, List, [], ◌∷◌, length}
use Rattle.mbe_tt.specs.Buffers.GroupStack.{GroupStack, put, closed}
use Rattle.mbe_tt.specs.Trees.Leaf.{Leaf, literal, punct, ident}
use Rattle.mbe_tt.specs.Trees.Top.{Top}
use Rattle.mbe_tt.specs.Trees.Tree.{Forest, none, leaf, group, one_leaf}
use Rattle.mbe_tt.specs.declared.span.Span.{Span}
use Rattle.mbe_rewriter.specs.declared.hygiene.local_names.UndecidedUse.{UndecidedUse}
use Rattle.mbe_rewriter.specs.declared.hygiene.scan_state.TokenRole.{TokenRole}
use Rattle.mbe_rewriter.specs.declared.hygiene.scan_state.ScanState.{ScanState}
use Rattle.mbe_rewriter.specs.Hygiene.LocalNames.{Word, word, words, Naming, namings, new_name}
use Rattle.mbe_rewriter.specs.Hygiene.LocalNames.{undecided, ContextParents}
use Rattle.mbe_rewriter.specs.Hygiene.ScanState.{start, after_leaf, after_group, inside_group}
use Rattle.mbe_rewriter.specs.Hygiene.TreeEvents.{TreeEvent, token, opening, closing, leaf_role}
use Rattle.mbe_rewriter.specs.Hygiene.TreeEvents.{events}

abbrev pub new_name_of : List Naming → List ℕ → Span → TokenRole → List ℕ
new_name_of given text span role = new_name given (word text span role)

-- A word with its new name. Any other leaf is unchanged.
abbrev pub renamed_leaf : List Naming → Leaf → TokenRole → Leaf
renamed_leaf given (ident i) r = ident (record i { sym = new_name_of given i.sym i.span r })
renamed_leaf given (literal l) r = literal l
renamed_leaf given (punct p) r = punct p

-- The trees with these new names, from that state on.
unfoldable pub renamed : List Naming → ScanState → Forest → Forest
renamed given s none = none
renamed given s (leaf l rest) =
    leaf (renamed_leaf given l (leaf_role s l rest)) (renamed given (after_leaf s l rest) rest)
renamed given s (group d inside rest) =
    group d (renamed given (inside_group s d.kind inside) inside)
    (renamed given (after_group s d.kind rest) rest)

-- The words of trees, and the names that their strings mention.
abbrev pub words_in : ContextParents → Forest → List Word
words_in ns f = words ns (events start f)

-- What is renamed in trees that have these names around them.
abbrev pub namings_in : List (List ℕ) → ContextParents → Forest → List Naming
namings_in names ns f = namings (words_in ns f) names

abbrev pub renamed_trees : List (List ℕ) → ContextParents → Forest → Forest
renamed_trees names ns f = renamed (namings_in names ns f) start f

abbrev pub renamed_tree : List (List ℕ) → ContextParents → Top → Top
renamed_tree names ns t = (t.0, renamed_trees names ns t.1)

-- The uses that keep locals from being renamed, where such a local meets another of its name.
abbrev pub undecided_in : List (List ℕ) → ContextParents → Top → List UndecidedUse
undecided_in names ns t = undecided (words_in ns t.1) names

-- ---- the events, as they are written

-- The innermost group is closed, unless it is the outermost one.
abbrev pub closed_inside : Span → GroupStack → GroupStack
closed_inside span b = if nat_lt 1 (length b) then closed span b else b

abbrev pub event_written : List Naming → TreeEvent → GroupStack → GroupStack
event_written given (token l r) b = put (one_leaf (renamed_leaf given l r)) b
event_written given (opening k span r) b =
    (record { opening = span; close = span; kind = k }, none) ∷ b
event_written given (closing span r) b = closed_inside span b

abbrev pub written : List Naming → List TreeEvent → GroupStack → GroupStack
written given [] b = b
written given (x ∷ xs) b = written given xs (event_written given x b)
