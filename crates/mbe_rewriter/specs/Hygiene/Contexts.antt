-- Syntax contexts of the tokens of a step, and the renaming of its locals.
use Rattle.std.specs.Prelude.{ℕ, ◌+◌, Bool, false, ◌==◌, ◌||◌, min, if◌then◌else◌, codes, List, []}
use Rattle.std.specs.Prelude.{◌∷◌, ◌++◌}
use Rattle.mbe_tt.specs.Trees.Leaf.{Leaf, literal, punct, ident, is_text}
use Rattle.mbe_tt.specs.Trees.Top.{Top}
use Rattle.mbe_tt.specs.Trees.Tree.{Forest, none, leaf, group}
use Rattle.mbe_tt.specs.declared.span.Span.{Span}
use Rattle.mbe_rewriter.specs.declared.hygiene.local_names.UndecidedUse.{UndecidedUse}
use Rattle.mbe_rewriter.specs.declared.hygiene.scan_state.TokenRole.{TokenRole}
use Rattle.mbe_rewriter.specs.Hygiene.FormatNames.{format_names}
use Rattle.mbe_rewriter.specs.Hygiene.LocalNames.{is_string_role}
use Rattle.mbe_rewriter.specs.Hygiene.PatternCalls.{pattern_doubts}
use Rattle.mbe_rewriter.specs.Hygiene.Renamer.{renamed_trees, undecided_in}
use Rattle.mbe_rewriter.specs.Hygiene.ScanState.{start}
use Rattle.mbe_rewriter.specs.Hygiene.TreeEvents.{TreeEvent, token, opening, closing, events}

-- ---- contexts of a definition

abbrev pub leaf_context : Leaf → ℕ
leaf_context (ident i) = (i.span.ctx).0
leaf_context (literal l) = (l.span.ctx).0
leaf_context (punct p) = (p.span.ctx).0

abbrev pub contains_number : List ℕ → ℕ → Bool
contains_number [] n = false
contains_number (m ∷ ms) n = m == n || contains_number ms n

abbrev pub with_number : List ℕ → ℕ → List ℕ
with_number found n = if contains_number found n then found else found ++ (n ∷ [])

abbrev pub with_context : List ℕ → TreeEvent → List ℕ
with_context found (token l r) = with_number found (leaf_context l)
with_context found (opening k span r) = found
with_context found (closing span r) = found

abbrev pub contexts_from : List ℕ → List TreeEvent → List ℕ
contexts_from found [] = found
contexts_from found (x ∷ xs) = contexts_from (with_context found x) xs

-- The contexts of the trees' tokens, each once, at any depth.
abbrev pub contexts_in : Forest → List ℕ
contexts_in f = contexts_from [] (events start f)

-- ---- contexts of a step

-- The greatest number of a context stands for all greater ones.
abbrev pub numbered : ℕ → ℕ
numbered n = min n 4294967295

-- The context that tokens of the last one get in a step. The macro has the contexts of the list:
-- the first gets that number, each further one the next number.
abbrev pub step_context : ℕ → List ℕ → ℕ → ℕ
step_context n [] context = context
step_context n (c ∷ cs) context =
    if c == context then n else step_context (numbered (n + 1)) cs context

-- A token's span with its context in a step.
abbrev pub step_span : ℕ → List ℕ → Span → Span
step_span n cs span = record span { ctx = record { 0 = step_context n cs (span.ctx).0 } }

-- ---- names after an expansion

abbrev pub is_let : Leaf → Bool
is_let (ident i) = is_text i.sym (codes "let")
is_let (literal l) = false
is_let (punct p) = false

-- One of these trees is a `let`, so its locals may be seen after the trees.
abbrev pub has_let : Forest → Bool
has_let none = false
has_let (leaf l rest) = is_let l || has_let rest
has_let (group d inside rest) = has_let rest

-- A word, or the names that a string mentions.
abbrev pub leaf_words : Leaf → TokenRole → List (List ℕ)
leaf_words (ident i) r = i.sym ∷ []
leaf_words (literal l) r = if is_string_role r then format_names l.text_and_suffix else []
leaf_words (punct p) r = []

abbrev pub event_words : TreeEvent → List (List ℕ)
event_words (token l r) = leaf_words l r
event_words (opening k span r) = []
event_words (closing span r) = []

abbrev pub words_of : List TreeEvent → List (List ℕ)
words_of [] = []
words_of (x ∷ xs) = event_words x ++ words_of xs

-- The words of trees and the names that their strings mention, at any depth.
abbrev pub words_in : Forest → List (List ℕ)
words_in f = words_of (events start f)

-- The names that an expansion's locals must not get: those after the expansion, if they may see its
-- locals.
abbrev pub reserved_names : Forest → Forest → List (List ℕ)
reserved_names out left = if has_let out then words_in left else []

-- An expansion with its locals renamed apart from others of their names, by the contexts of its
-- steps.
abbrev pub apply_hygiene : List ℕ → ℕ → Forest → Forest → Forest
apply_hygiene contexts mark left out =
    renamed_trees (reserved_names out left) (record { contexts = contexts; mark = numbered mark })
    out

-- The undecided uses of an expansion. Some keep locals from being renamed although other words have
-- their names. The others use names that are the expansion's own if it is a pattern.
abbrev pub undecided_of : List ℕ → ℕ → Forest → Top → List UndecidedUse
undecided_of contexts mark left out =
    undecided_in (reserved_names out.1 left) (record { contexts = contexts; mark = numbered mark })
    out
    ++ pattern_doubts (numbered mark) (apply_hygiene contexts mark left out.1) left
