-- The trees of a forest's flat tokens are that forest.
use Rattle.std.proofs.Common.{◌≡◌, List, [], ◌∷◌, ◌++◌, refl, sym, ap, ◌∙◌, append_assoc, append-nil}
use Rattle.mbe_tt.specs.Trees.Tree.{Forest, none, leaf, group, append, flat, FlatToken, closing}
use Rattle.mbe_grammar.specs.Tables.FlatTrees.{Levels, open_level, levels, trees_of_flat}

append-none : (f : Forest) → append f none ≡ f
append-none none = refl
append-none (leaf l rest) = ap (leaf l) (append-none rest)
append-none (group d inside rest) = ap (group d inside) (append-none rest)

abbrev following : Forest → Levels → Levels
following f r = record r { level = append f r.level }

levels-flat : (f : Forest) (ts : List FlatToken) → levels (flat f ++ ts) ≡ following f (levels ts)
levels-flat none ts = refl
levels-flat (leaf l rest) ts = ap (λ (r : Levels). record r { level = leaf l r.level }) (levels-flat rest ts)
levels-flat (group d inside rest) ts =
    ap (λ (r : Levels). open_level d r.level r.around)
    (ap levels (append_assoc (flat inside) (closing d ∷ flat rest) ts)
    ∙ levels-flat inside (closing d ∷ (flat rest ++ ts)))
    ∙ (ap (λ (r : Levels). record { level = group d (append inside none) r.level; around = r.around })
    (levels-flat rest ts)
    ∙ ap (λ (i : Forest). record { level = group d i (append rest (levels ts).level); around = (levels ts).around })
    (append-none inside))

pub trees_of_flat-flat : (f : Forest) → trees_of_flat (flat f) ≡ f
trees_of_flat-flat f =
    ap trees_of_flat (sym (append-nil (flat f))) ∙ (ap (λ (r : Levels). r.level) (levels-flat f []) ∙ append-none f)
