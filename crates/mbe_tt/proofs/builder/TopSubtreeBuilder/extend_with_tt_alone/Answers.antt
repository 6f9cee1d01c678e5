use Rattle.std.proofs.Common.{◌≡◌, ◌∙◌, ◌+◌, ◌≤◌, ◌++◌, ◌∷◌, [], List, Some, arith, ap, length, sym, subst}
use Rattle.std.proofs.Common.{length-append, append_assoc}
use Rattle.std.specs.Vec.{vec_capacity}
use Rattle.std.specs.List.{each_same}
use Rattle.std.specs.Prelude.{OnOk}
use Rattle.mbe_tt.specs.Views.BufferEntries.{spell}
use Rattle.mbe_tt.specs.Views.View.{trees}
use Rattle.mbe_tt.specs.Trees.Tree.{Forest, alone}
use Rattle.mbe_tt.specs.Buffers.GroupStack.{put, stack_of}
use Rattle.mbe_tt.specs.Views.BufferEntry.{Entry, Leaf, entry_punct}
use Rattle.mbe_tt.specs.Trees.Leaf.{punct}
use Rattle.mbe_tt.specs.Views.LeafViews.{entries_of, entry_of}
use Rattle.mbe_tt.specs.declared.tt.Punct.{Punct}
use Rattle.mbe_tt.specs.declared.tt.Spacing.TheVariants.{Alone}
use Rattle.mbe_tt.proofs.Buffers.Seen.{length-shown, shown_append}
use Rattle.mbe_tt.proofs.Buffers.Built.{Put, after_put}
use Rattle.mbe_tt.proofs.Offsets.LastTreeLemmas.{none_is, alone_keeps, alone_punct}
use Rattle.mbe_tt.proofs.builder.TopSubtreeBuilder.extend_with_tt_alone.Goals as goal
use Rattle.mbe_tt.proofs.builder.TopSubtreeBuilder.extend_with_tt_alone.Goals.{In-Ok}

-- the trees, the last of them alone, are at the end of what was written
stack_entries : (g : _) (c : In-Ok g) → Put (stack_of (entries_of c.self.inside.entries.items))
    (alone (trees c.args.view)) (entries_of c.push.new.self.items) (vec_capacity c.push.new.self)
    c.self.inside.at c.self.inside.depth
stack_entries g c =
    let room : length (entries_of c.push.new.self.items) + c.self.inside.depth ≤ vec_capacity c.push.new.self =
    omega (
      arith,
      length-shown c.push.new.self.items,
      c.in-Ok.ensures.len,
      c.in-Ok.ensures.capacity,
      c.saturating_add.ensures,
      c.in_ok-reserve.ensures.ok,
      c.in_ok-reserve.ensures.len,
      c.in_ok-extend_from_slice.ensures.len,
      c.in_ok-extend_from_slice.ensures.capacity,
      ap length c.in-Some.ensures.cases.0,
      length-append c.in-Some.front.now (c.in-Some.last.now ∷ []),
    ) in
    let added = c.in_ok-extend_from_slice.ensures.items in
    let whole : spell (trees c.args.view) ≡ entries_of c.in-Some.front.now ++ entry_of c.in-Some.last.now ∷ [] =
    sym c.args.view.spelled ∙ shown_append _ _ _ c.in-Some.ensures.cases.0 in
    let last : entry_punct (entry_of c.in-Some.last.now) ≡ Some c.in-Some-entry_punct.punct =
    sym c.entry_punct.ensures ∙ c.in-Some-entry_punct.is in
    let p : Punct = record c.in-Some-entry_punct.punct { spacing = Alone } in
    let w : entries_of c.push.new.self.items
    ≡ entries_of c.self.inside.entries.items ++ spell (alone (trees c.args.view)) =
    shown_append _ _ _ c.in-Ok.ensures.items
    ∙ (ap (λ (es : List Entry). es ++ Leaf (punct p) ∷ [])
    (shown_append _ _ _ added.1 ∙ ap (λ (es : List Entry). es ++ entries_of added.0)
    (ap entries_of c.in_ok-reserve.ensures.items))
    ∙ (append_assoc (entries_of c.self.inside.entries.items) (entries_of added.0) (Leaf (punct p) ∷ [])
    ∙ ap (λ (es : List Entry). entries_of c.self.inside.entries.items ++ es)
    (ap (λ (es : List Entry). es ++ Leaf (punct p) ∷ []) (ap entries_of (each_same _ _ added.2))
    ∙ alone_punct (trees c.args.view) _ _ _ whole last))) in
    after_put _ _ _ _ _ _ (alone (trees c.args.view)) c.self.invariant w room

pub invariant_of-self-2 : goal.invariant_of-self-2
invariant_of-self-2 g c = (stack_entries g (goal.at.invariant_of-self-2 g c).In-Ok).building

pub returns-clause-ok : goal.returns-clause-ok
returns-clause-ok g c =
    (stack_entries g (goal.at.returns-clause-ok g c).In-Ok).levels ∙ ap (put (alone (trees c.args.view))) c.self.view_is

pub returns-in_default-entry_punct-clause-ok : goal.returns-in_default-entry_punct-clause-ok
returns-in_default-entry_punct-clause-ok g c =
    let whole : spell (trees c.args.view) ≡ entries_of c.in-Some.front.now ++ entry_of c.in-Some.last.now ∷ [] =
    sym c.args.view.spelled ∙ shown_append _ _ _ c.in-Some.ensures.cases.0 in
    let same : alone (trees c.args.view) ≡ trees c.args.view =
    alone_keeps (trees c.args.view) _ _ whole
    (sym c.entry_punct.ensures ∙ none_is c.entry_punct.result c.in_default-entry_punct.not-Some) in
    subst (λ (f : Forest). OnOk c.extend_with_tt-in_default-entry_punct.result
    (c.extend_with_tt-in_default-entry_punct.new.self ≡ put f c.args.self.now)) (sym same)
    c.extend_with_tt-in_default-entry_punct.ensures.ok
