use Rattle.std.proofs.Common.{◌≡◌, ◌∙◌, ap, sym, true, false, rules}
use Rattle.std.specs.Prelude.{◌&&◌}
use Rattle.mbe_tt.specs.Views.View.{trees}
use Rattle.mbe_tt.specs.Buffers.GroupStack.{put}
use Rattle.mbe_semantics.specs.Transcription.FragmentTrees.{path_trees, is_ident, is_before_less}
use Rattle.mbe_variables.proofs.PutLemmas.{put-none}
use Rattle.mbe_variables.proofs.PathLemmas.{path_next, path_end, first_tree, less_after, other_after, ident_then}
use Rattle.mbe_variables.proofs.fragment_writer.write_path.Goals as goal
use Rattle.mbe_variables.proofs.fragment_writer.write_path.Goals.{else-is_ident-via-then-is_ident+else-is_before_less}
use Rattle.mbe_variables.proofs.fragment_writer.write_path.Goals.{else-is_ident-via-else-is_ident}

pub trees-preserved-then-is_before_less : goal.trees-preserved-then-is_before_less
trees-preserved-then-is_before_less g c =
    let t = first_tree c.trees.iter (trees c.in-Some.tree) c.in-Some.ensures.value in
    path_next c.args.call_site c.trees.iter (trees c.in-Some.tree) c.next_as_view.new.self t.0 true _ c.trees.builder
    c.extend_with_tt.new.self c.write_double_colon.new.builder
    c.trees.invariant t.1 c.next_as_view.ensures.rest t.2 c.in_ok-extend_with_tt.ensures.ok
    (less_after t.0 (trees c.in-Some.tree) c.next_as_view.new.self t.2 (sym c.is_ident.ensures ∙ c.if-is_ident.true)
    (sym c.is_before_less.ensures ∙ c.if-is_before_less.true))
    c.in_ok-write_double_colon.ensures

pub trees-preserved : goal.trees-preserved
trees-preserved g c =
    let t = first_tree c.trees.iter (trees c.in-Some.tree) c.in-Some.ensures.value in
    let apart : false ≡ (is_ident (trees c.in-Some.tree) && is_before_less c.next_as_view.new.self) =
    elim c.else-is_ident.branch [
      | else-is_ident-via-then-is_ident+else-is_before_less w ↦ ident_then (is_ident (trees c.in-Some.tree))
          (is_before_less c.next_as_view.new.self)
          (sym w.is_before_less.ensures ∙ w.if-is_before_less.false)
      | else-is_ident-via-else-is_ident w ↦ other_after (is_ident (trees c.in-Some.tree))
          (is_before_less c.next_as_view.new.self) (sym c.is_ident.ensures ∙ w.if-is_ident.false)
    ] in
    path_next c.args.call_site c.trees.iter (trees c.in-Some.tree) c.next_as_view.new.self t.0 false _ c.trees.builder
    c.extend_with_tt.new.self c.extend_with_tt.new.self
    c.trees.invariant t.1 c.next_as_view.ensures.rest t.2 c.in_ok-extend_with_tt.ensures.ok
    (apart ∙ ap (λ f. is_ident f && is_before_less c.next_as_view.new.self) t.2)
    (put-none c.extend_with_tt.new.self)

pub returns-clause-written : goal.returns-clause-written
returns-clause-written g c =
    path_end c.args.call_site c.trees.iter (trees c.args.tree) c.args.builder.now c.trees.builder
    (search rules) (c.trees.invariant ∙ ap (λ f. put (path_trees c.args.call_site f) c.args.builder.now)
    c.iter-iter.ensures)
