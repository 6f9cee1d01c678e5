use Rattle.std.proofs.Common.{refl, sym, ap, ◌∙◌}
use Rattle.mbe_tt.specs.Trees.Tree.{Forest, front_group, rest_of}
use Rattle.mbe_tt.specs.declared.tt.Delimiter.{Delimiter}
use Rattle.mbe_tt.specs.Views.View.{trees}
use Rattle.mbe_grammar.specs.Tables.SingleTrees.{is_fragment_of}
use Rattle.mbe_grammar.proofs.GroupLemmas.{group_refused, group_taken, no_group}
use Rattle.mbe_grammar.proofs.tables.terminals.fragment.Goals as goal
use Rattle.mbe_grammar.proofs.tables.terminals.fragment.Goals.{in_default-via-in-Ok+else-is_around_one}
use Rattle.mbe_grammar.proofs.tables.terminals.fragment.Goals.{in_default-via-in_default}

pub returns-in-Ok : goal.returns-in-Ok
returns-in-Ok g c =
    let p : Delimiter × Forest = (c.in-Ok.subtree.now.delimiter, c.in-Ok._inside) in
    group_taken (is_fragment_of c.args.groups.now) (trees c.args.tokens) (trees c.remaining.result) p
    (c.in-Ok.ensures.value ∙ ap front_group c.iter-iter.ensures)
    (c.remaining.ensures ∙ c.in-Ok.ensures.rest ∙ ap rest_of c.iter-iter.ensures)
    (sym c.is_around_one.ensures ∙ c.if-is_around_one.true)

pub returns-in_default : goal.returns-in_default
returns-in_default g c =
    elim c.in_default.branch [
      | in_default-via-in-Ok+else-is_around_one w ↦
          let p : Delimiter × Forest = (w.in-Ok.subtree.now.delimiter, w.in-Ok._inside) in
          group_refused (is_fragment_of c.args.groups.now) (trees c.args.tokens) p
          (w.in-Ok.ensures.value ∙ ap front_group c.iter-iter.ensures)
          (sym w.is_around_one.ensures ∙ w.if-is_around_one.false)
      | in_default-via-in_default w ↦
          no_group (is_fragment_of c.args.groups.now) (trees c.args.tokens) (λ l. refl)
          (w.in_default.ensures.value ∙ ap front_group c.iter-iter.ensures)
    ]
