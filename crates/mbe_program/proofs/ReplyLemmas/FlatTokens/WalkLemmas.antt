-- One token more of a walk over trees: what is still to be written, and how much that is.
use Rattle.std.proofs.Common.{◌≡◌, ℕ, ◌+◌, List, [], ◌∷◌, reverse, Some, None, refl, ap, sym, ◌∙◌}
use Rattle.mbe_tt.specs.Trees.Leaf.{Leaf}
use Rattle.mbe_tt.specs.Trees.Tree.{Forest, Leaf_tree, Group_tree, first, rest_of, flat_len}
use Rattle.mbe_tt.specs.declared.tt.Delimiter.{Delimiter}
use Rattle.mbe_tt.proofs.Trees.Firsts.{nothing, whole}
use Rattle.mbe_tt.proofs.Trees.Walks.{IsWalk}
use Rattle.mbe_program.specs.Replies.Flat.Encoder.{State, a_leaf, opened, closed, written, written_around}

-- the flat tokens of the groups around: their closings, and what follows
abbrev pub tokens_around : List (Delimiter × Forest) → ℕ
tokens_around [] = 0
tokens_around (g ∷ around) = 1 + flat_len g.1 + tokens_around around

-- ---- steps of the trees at the front

leaf_step : (f : Forest) (l : Leaf) (s : State) → Some (Leaf_tree l) ≡ first f
    → written f s ≡ written (rest_of f) (a_leaf s l)
unfolding written
leaf_step f l s h = ap (λ x. written x s) (whole f (Leaf_tree l) (sym h))

group_step : (f inside : Forest) (d : Delimiter) (s : State) → Some (Group_tree d inside) ≡ first f
    → written f s ≡ written (rest_of f) (closed (written inside (opened s d (flat_len inside))) d)
unfolding written
group_step f inside d s h = ap (λ x. written x s) (whole f (Group_tree d inside) (sym h))

end_step : (f : Forest) (s : State) → None ≡ first f → written f s ≡ s
unfolding written
end_step f s h = ap (λ x. written x s) (nothing f (sym h))

around_cons : (around : List (Delimiter × Forest)) (d : Delimiter) (f : Forest) (s : State)
    → written_around ((d, f) ∷ around) s ≡ written_around around (written f (closed s d))
unfolding written_around
around_cons around d f s = refl

around_none : (s : State) → written_around [] s ≡ s
unfolding written_around
around_none s = refl

pub walk : IsWalk written written_around (λ s d inside. opened s d (flat_len inside)) closed
walk = record {
  group_step = group_step;
  end_step = end_step;
  none_around = around_none;
  one_around = around_cons;
}

pub leaf_on : (items : List (Delimiter × Forest)) (f after : Forest) (l : Leaf) (s next whole : State)
    → after ≡ rest_of f → Some (Leaf_tree l) ≡ first f → next ≡ a_leaf s l
    → written_around (reverse items) (written f s) ≡ whole → written_around (reverse items) (written after next) ≡ whole
leaf_on items f after l s next whole e h n w =
    ap (λ r. written_around (reverse items) (written r next)) e
    ∙ (ap (λ t. written_around (reverse items) (written (rest_of f) t)) n
    ∙ (ap (written_around (reverse items)) (sym (leaf_step f l s h)) ∙ w))
