-- One token more of a walk over trees: what is still to be written, and how much that is.
use Rattle.std.proofs.Common.{◌≡◌, ℕ, zero, suc, ◌+◌, List, [], ◌∷◌, reverse, Option, Some, None, refl, ap, sym, ◌∙◌}
use Rattle.mbe_tt.specs.Trees.Leaf.{Leaf}
use Rattle.mbe_tt.specs.Trees.Tree.{Forest, none, leaf, group, Leaf_tree, Group_tree, first, rest_of, skip, flat_len}
use Rattle.mbe_tt.specs.declared.tt.Delimiter.{Delimiter}
use Rattle.mbe_tt.proofs.Trees.Firsts.{nothing, whole}
use Rattle.mbe_tt.proofs.Trees.Walks.{IsWalk}
use Rattle.mbe_text.specs.RustText.DocComments.{DocComment, more_trees}
use Rattle.mbe_text.specs.RustText.Printer.{PrinterState, with_leaf, with_comment, opened, closed, next_span}
use Rattle.mbe_text.specs.RustText.Printer.{next_comment, written, written_after, written_around}

-- the flat tokens of the groups around: their closings, and what follows
abbrev pub tokens_around : List (Delimiter × Forest) → ℕ
tokens_around [] = 0
tokens_around (g ∷ around) = 1 + flat_len g.1 + tokens_around around

-- ---- steps of the trees at the front

pub leaf_written : (l : Leaf) (rest : Forest) (s : PrinterState) → next_comment s (leaf l rest) ≡ None
    → written (leaf l rest) s ≡ written rest (with_leaf s l (next_span rest))
unfolding written_after
leaf_written l rest s h = rw (written_after, h) refl

pub comment_written : (l : Leaf) (rest : Forest) (s : PrinterState) (c : DocComment) → next_comment s (leaf l rest)
    ≡ Some c
    → written (leaf l rest) s ≡ written_after (more_trees c.is_inner) rest (with_comment s c)
unfolding written_after
comment_written l rest s c h = rw (written_after, h) refl

leaf_step : (f : Forest) (l : Leaf) (s : PrinterState) → Some (Leaf_tree l) ≡ first f → next_comment s f ≡ None
    → written f s ≡ written (rest_of f) (with_leaf s l (next_span (rest_of f)))
leaf_step none l s h n = absurd (cc)
leaf_step (leaf m rest) l s h n =
    let e : m ≡ l = cc in leaf_written m rest s n ∙ ap (λ x. written rest (with_leaf s x (next_span rest))) e
leaf_step (group d inside rest) l s h n = absurd (cc)

group_step : (f inside : Forest) (d : Delimiter) (s : PrinterState) → Some (Group_tree d inside) ≡ first f
    → written f s ≡ written (rest_of f) (closed (written inside (opened s d.kind d.opening)) d.kind d.close)
unfolding written_after
group_step f inside d s h = ap (λ x. written x s) (whole f (Group_tree d inside) (sym h))

end_step : (f : Forest) (s : PrinterState) → None ≡ first f → written f s ≡ s
unfolding written_after
end_step f s h = ap (λ x. written x s) (nothing f (sym h))

-- what is next of trees is what was found at a view of them
pub found : (s : PrinterState) (f view : Forest) (o n : Option DocComment) → view ≡ f → o ≡ next_comment s view → o ≡ n
    → next_comment s f ≡ n
found s f view o n v h e = ap (next_comment s) (sym v) ∙ (sym h ∙ e)

-- trees that are written already are passed
passed : (n : ℕ) (f : Forest) (s : PrinterState) → written_after n f s ≡ written (skip n f) s
unfolding written_after
passed zero f s = refl
passed (suc n) none s = passed n none s
passed (suc n) (leaf l rest) s = passed n rest s
passed (suc n) (group d inside rest) s = passed n rest s

comment_step : (f : Forest) (s : PrinterState) (c : DocComment) → next_comment s f ≡ Some c
    → written f s ≡ written (skip (more_trees c.is_inner) (rest_of f)) (with_comment s c)
comment_step none s c h = absurd (cc)
comment_step (leaf l rest) s c h = comment_written l rest s c h ∙ passed (more_trees c.is_inner) rest (with_comment s c)
comment_step (group d inside rest) s c h = absurd (cc)

-- ---- turns of the walk

pub comment_turn : (around : List (Delimiter × Forest)) (f after : Forest) (c : DocComment)
    (s next whole : PrinterState)
    → next_comment s f ≡ Some c → next ≡ with_comment s c → after ≡ skip (more_trees c.is_inner) (rest_of f)
    → written_around around (written f s) ≡ whole → written_around around (written after next) ≡ whole
comment_turn around f after c s next whole h n e w =
    ap (λ t. written_around around (written after t)) n
    ∙ (ap (λ r. written_around around (written r (with_comment s c))) e
    ∙ (ap (written_around around) (sym (comment_step f s c h)) ∙ w))

pub leaf_on : (items : List (Delimiter × Forest)) (f after : Forest) (l : Leaf) (s next whole : PrinterState)
    → after ≡ rest_of f → Some (Leaf_tree l) ≡ first f → next_comment s f ≡ None → next
    ≡ with_leaf s l (next_span after)
    → written_around (reverse items) (written f s) ≡ whole → written_around (reverse items) (written after next) ≡ whole
leaf_on items f after l s next whole e h c n w =
    ap (λ r. written_around (reverse items) (written r next)) e
    ∙ (ap (λ t. written_around (reverse items) (written (rest_of f) t)) (n ∙ ap (λ r. with_leaf s l (next_span r)) e)
    ∙ (ap (written_around (reverse items)) (sym (leaf_step f l s h c)) ∙ w))

around_cons : (around : List (Delimiter × Forest)) (d : Delimiter) (f : Forest) (s : PrinterState)
    → written_around ((d, f) ∷ around) s ≡ written_around around (written f (closed s d.kind d.close))
unfolding written_around
around_cons around d f s = refl

around_none : (s : PrinterState) → written_around [] s ≡ s
unfolding written_around
around_none s = refl

pub text_walk : IsWalk written written_around (λ s d inside. opened s d.kind d.opening) (λ s d. closed s d.kind d.close)
text_walk = record {
  group_step = group_step;
  end_step = end_step;
  none_around = around_none;
  one_around = around_cons;
}
