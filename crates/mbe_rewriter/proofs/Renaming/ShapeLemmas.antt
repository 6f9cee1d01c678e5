-- Renamed trees are the trees but for the texts of words, and each word has its new name.
use Rattle.std.proofs.Common.{◌≡◌, List, [], ◌∷◌, ◌++◌, refl, ap, sym, ◌∙◌, append_assoc}
use Rattle.mbe_tt.specs.Trees.Leaf.{Leaf, literal, punct, ident}
use Rattle.mbe_tt.specs.Trees.Tree.{Forest, none, leaf, group}
use Rattle.mbe_rewriter.specs.declared.hygiene.scan_state.TokenRole.{TokenRole}
use Rattle.mbe_rewriter.specs.declared.hygiene.scan_state.ScanState.{ScanState}
use Rattle.mbe_rewriter.specs.Hygiene.Laws.{leaf_without_word, without_words, KeepsShapes, leaf_texts, texts}
use Rattle.mbe_rewriter.specs.Hygiene.Laws.{event_texts, new_texts, RenamesEach}
use Rattle.mbe_rewriter.specs.Hygiene.LocalNames.{Naming}
use Rattle.mbe_rewriter.specs.Hygiene.Renamer.{renamed_leaf, renamed, namings_in}
use Rattle.mbe_rewriter.specs.Hygiene.Roles.{close_role}
use Rattle.mbe_rewriter.specs.Hygiene.ScanState.{start, after_leaf, after_group, inside_group}
use Rattle.mbe_rewriter.specs.Hygiene.TreeEvents.{TreeEvent, token, closing, leaf_role, events}

leaf_kept : (given : List Naming) (l : Leaf) (r : TokenRole)
    → leaf_without_word (renamed_leaf given l r) ≡ leaf_without_word l
leaf_kept given (ident i) r = refl
leaf_kept given (literal l) r = refl
leaf_kept given (punct p) r = refl

shape_kept : (given : List Naming) (f : Forest) (s : ScanState) → without_words (renamed given s f) ≡ without_words f
unfolding renamed
shape_kept given none s = refl
shape_kept given (leaf l rest) s =
    ap (λ x. leaf x (without_words (renamed given (after_leaf s l rest) rest))) (leaf_kept given l (leaf_role s l rest))
    ∙ ap (leaf (leaf_without_word l)) (shape_kept given rest (after_leaf s l rest))
shape_kept given (group d inside rest) s =
    ap (λ x. group d x (without_words (renamed given (after_group s d.kind rest) rest)))
    (shape_kept given inside (inside_group s d.kind inside))
    ∙ ap (group d (without_words inside)) (shape_kept given rest (after_group s d.kind rest))

pub keeps_shapes : KeepsShapes
keeps_shapes names ns f = shape_kept (namings_in names ns f) f start

leaf_named : (given : List Naming) (l : Leaf) (r : TokenRole)
    → leaf_texts (renamed_leaf given l r) ≡ event_texts given (token l r)
leaf_named given (ident i) r = refl
leaf_named given (literal l) r = refl
leaf_named given (punct p) r = refl

new_texts-append : (given : List Naming) (xs ys : List TreeEvent)
    → new_texts given (xs ++ ys) ≡ new_texts given xs ++ new_texts given ys
new_texts-append given [] ys = refl
new_texts-append given (x ∷ xs) ys =
    ap (λ k. event_texts given x ++ k) (new_texts-append given xs ys)
    ∙ sym (append_assoc (event_texts given x) (new_texts given xs) (new_texts given ys))

each_named : (given : List Naming) (f : Forest) (s : ScanState)
    → texts (renamed given s f) ≡ new_texts given (events s f)
unfolding renamed events
each_named given none s = refl
each_named given (leaf l rest) s =
    ap (λ k. k ++ texts (renamed given (after_leaf s l rest) rest)) (leaf_named given l (leaf_role s l rest))
    ∙ ap (λ k. event_texts given (token l (leaf_role s l rest)) ++ k) (each_named given rest (after_leaf s l rest))
each_named given (group d inside rest) s =
    ap (λ k. k ++ texts (renamed given (after_group s d.kind rest) rest))
    (each_named given inside (inside_group s d.kind inside))
    ∙ ap (λ k. new_texts given (events (inside_group s d.kind inside) inside) ++ k)
    (each_named given rest (after_group s d.kind rest))
    ∙ sym (new_texts-append given (events (inside_group s d.kind inside) inside)
    (closing d.close (close_role s d.kind) ∷ events (after_group s d.kind rest) rest))

pub renames_each : RenamesEach
renames_each names ns f = each_named (namings_in names ns f) f start
