use Rattle.std.proofs.Common.{◌≡◌, ◌∙◌, ◌∷◌, ap, length, arith, sym, length-append, Some}
use Rattle.mbe_tt.specs.Trees.Tree.{Forest, Group_tree}
use Rattle.mbe_tt.specs.Views.BufferEntries.{spell}
use Rattle.mbe_tt.specs.Views.BufferEntry.{Leaf, Open}
use Rattle.mbe_tt.specs.Views.LeafViews.{entries_of, entry_of, leaf_of}
use Rattle.mbe_tt.proofs.Buffers.Seen.{length-shown, shown_take}
use Rattle.mbe_tt.proofs.Buffers.Spelled.{spelled, read_back, take_front}
use Rattle.mbe_tt.proofs.Offsets.CursorLemmas.{first_group, leaf_tree}
use Rattle.mbe_tt.proofs.cursor.first_tree.Goals as goal

pub split_at-requires : goal.split_at-requires
split_at-requires g c =
    let here : entries_of c.args.left.now ≡ Open c.in-Open.subtree c.in-Open.len ∷ entries_of c.in_ok-entry.rest.now =
    ap entries_of c.in_ok-entry.ensures.cases.0
    ∙ ap (λ x. entry_of x ∷ entries_of c.in_ok-entry.rest.now) c.in-Open.is in
    let grp = first_group c.requires.0 _ _ _ _ c.requires.1 here in
    omega (
      arith,
      length-shown c.in_ok-entry.rest.now,
      grp.len,
      ap length grp.entries,
      length-append (spell grp.inside) grp.following,
    )

pub invariant_of-result : goal.invariant_of-result
invariant_of-result g c =
    let here : entries_of c.args.left.now ≡ Open c.in-Open.subtree c.in-Open.len ∷ entries_of c.in_ok-entry.rest.now =
    ap entries_of c.in_ok-entry.ensures.cases.0
    ∙ ap (λ x. entry_of x ∷ entries_of c.in_ok-entry.rest.now) c.in-Open.is in
    let grp = first_group c.requires.0 _ _ _ _ c.requires.1 here in
    spelled grp.inside _ ((shown_take _ _ _ c.split_at.ensures.front)
    ∙ take_front _ (spell grp.inside) grp.following _ grp.len grp.entries)

pub returns-in-Leaf : goal.returns-in-Leaf
returns-in-Leaf g c = λ r e.
    let here : entries_of c.args.left.now ≡ Leaf (leaf_of c.in-Leaf.leaf) ∷ entries_of c.in_ok-entry.rest.now =
    ap entries_of c.in_ok-entry.ensures.cases.0
    ∙ ap (λ x. entry_of x ∷ entries_of c.in_ok-entry.rest.now) c.in-Leaf.is in
    sym (leaf_tree r _ _ _ e here)

pub returns-in-Open : goal.returns-in-Open
returns-in-Open g c = λ r e.
    let here : entries_of c.args.left.now ≡ Open c.in-Open.subtree c.in-Open.len ∷ entries_of c.in_ok-entry.rest.now =
    ap entries_of c.in_ok-entry.ensures.cases.0
    ∙ ap (λ x. entry_of x ∷ entries_of c.in_ok-entry.rest.now) c.in-Open.is in
    let grp = first_group r _ _ _ _ e here in
    ap (λ (f : Forest). Some (Group_tree c.in-Open.subtree.delimiter f))
    (read_back grp.inside _ ((shown_take _ _ _ c.split_at.ensures.front)
    ∙ take_front _ (spell grp.inside) grp.following _ grp.len grp.entries))
    ∙ sym grp.is
