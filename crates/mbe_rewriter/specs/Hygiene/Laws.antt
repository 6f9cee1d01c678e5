-- What renaming keeps, and what it keeps apart.
use Rattle.std.specs.Prelude.{◌≡◌, ◌↔◌, ℕ, ◌+◌, ◌*◌, ◌^◌, ◌<◌, ◌⊎◌, true, false, List, [], ◌∷◌}
use Rattle.std.specs.Prelude.{◌++◌, length}
use Rattle.mbe_tt.specs.Trees.Leaf.{Leaf, literal, punct, ident}
use Rattle.mbe_tt.specs.Trees.Tree.{Forest, none, leaf, group}
use Rattle.mbe_rewriter.specs.declared.hygiene.local_names.BindingState.TheVariants.{Unbound}
use Rattle.mbe_rewriter.specs.declared.hygiene.local_names.UndecidedUse.{UndecidedUse}
use Rattle.mbe_rewriter.specs.Hygiene.LocalNames.{Word, Naming, is_same, is_same_namespace}
use Rattle.mbe_rewriter.specs.Hygiene.LocalNames.{is_shared, has_undecided_use, locals, new_name}
use Rattle.mbe_rewriter.specs.Hygiene.LocalNames.{ContextParents, is_met, undecided}
use Rattle.mbe_rewriter.specs.Hygiene.Renamer.{new_name_of, words_in, namings_in, renamed_trees}
use Rattle.mbe_rewriter.specs.Hygiene.ScanState.{start}
use Rattle.mbe_rewriter.specs.Hygiene.TreeEvents.{TreeEvent, token, opening, closing, events}

-- ---- trees without the texts of words

abbrev pub leaf_without_word : Leaf → Leaf
leaf_without_word (ident i) = ident (record i { sym = [] })
leaf_without_word (literal l) = literal l
leaf_without_word (punct p) = punct p

-- The trees without the text of each word.
abbrev pub without_words : Forest → Forest
without_words none = none
without_words (leaf l rest) = leaf (leaf_without_word l) (without_words rest)
without_words (group d inside rest) = group d (without_words inside) (without_words rest)

-- Renaming changes nothing but the texts of words: shapes, delimiters, puncts, literals, spans,
-- spacing and `r#` are unchanged.
abbrev pub KeepsShapes : Type 0
KeepsShapes = (names : List (List ℕ)) (ns : ContextParents) (f : Forest)
    → without_words (renamed_trees names ns f) ≡ without_words f

-- ---- the texts of words

abbrev pub leaf_texts : Leaf → List (List ℕ)
leaf_texts (ident i) = i.sym ∷ []
leaf_texts (literal l) = []
leaf_texts (punct p) = []

-- The texts of the trees' words, in order.
abbrev pub texts : Forest → List (List ℕ)
texts none = []
texts (leaf l rest) = leaf_texts l ++ texts rest
texts (group d inside rest) = texts inside ++ texts rest

abbrev pub event_texts : List Naming → TreeEvent → List (List ℕ)
event_texts given (token (ident i) r) = new_name_of given i.sym i.span r ∷ []
event_texts given (token (literal l) r) = []
event_texts given (token (punct p) r) = []
event_texts given (opening k span r) = []
event_texts given (closing span r) = []

-- The new names of the words of steps, in order.
abbrev pub new_texts : List Naming → List TreeEvent → List (List ℕ)
new_texts given [] = []
new_texts given (x ∷ xs) = event_texts given x ++ new_texts given xs

-- Each word has its own new name after renaming. A word that is no local and no label keeps its
-- name.
abbrev pub RenamesEach : Type 0
RenamesEach = (names : List (List ℕ)) (ns : ContextParents) (f : Forest)
    → texts (renamed_trees names ns f) ≡ new_texts (namings_in names ns f) (events start f)

-- ---- one name for one local

-- x is in the list.
abbrev pub IsIn : {A : Type 0} → A → List A → Type 0
IsIn x [] = ⊥
IsIn x (y ∷ ys) = (x ≡ y) ⊎ IsIn x ys

-- A local or a label that a step binds, by its first binding. If its name is shared, each of its
-- uses is decided.
pub record IsDecided (names : List (List ℕ)) (ws : List Word) (b : Word) : Type 0 where
  pub bound : IsIn b (locals ws)
  pub decided : is_shared ws names b ≡ true → has_undecided_use b Unbound ws ≡ false

-- Two words that may be locals, or labels, have one name after renaming exactly if they had one
-- name and one context before. One of the two is such a decided local. (There are fewer words than
-- numbers for new names.)
abbrev pub OneNameEach : Type 0
OneNameEach = (names : List (List ℕ)) (ns : ContextParents) (f : Forest) (b v w : Word)
    → IsDecided names (words_in ns f) b → 2 * length (words_in ns f) + length names < 2 ^ 63
    → IsIn v (words_in ns f) → IsIn w (words_in ns f) → is_same b v ≡ true
    → is_same_namespace v.role w.role ≡ true
    → (new_name (namings_in names ns f) v ≡ new_name (namings_in names ns f) w) ↔ (is_same v w
    ≡ true)

-- Such a local has no name after renaming that is among those around the trees.
abbrev pub NoNameAround : Type 0
NoNameAround = (names : List (List ℕ)) (ns : ContextParents) (f : Forest) (b v : Word)
    → IsDecided names (words_in ns f) b → 2 * length (words_in ns f) + length names < 2 ^ 63
    → is_same b v ≡ true
    → ¬ IsIn (new_name (namings_in names ns f) v) names

-- ---- what becomes of each local

-- One of the local's uses is listed as undecided.
abbrev pub IsListed : List (List ℕ) → List Word → Word → Type 0
IsListed names ws b = (u : UndecidedUse) × IsIn u (undecided ws names) × (u.bound ≡ b.span)

-- Each local of a step is decided, or listed, or no token in its scope has its name in another
-- context.
abbrev pub EachIsSettled : Type 0
EachIsSettled = (names : List (List ℕ)) (ns : ContextParents) (f : Forest) (b : Word)
    → IsIn b (locals (words_in ns f))
    → IsDecided names (words_in ns f) b
    ⊎ (IsListed names (words_in ns f) b ⊎ (is_met names b Unbound (words_in ns f) ≡ false))
