use Rattle.std.proofs.Common.{ap, sym, ◌∙◌, map, arith}
use Rattle.mbe_tt.specs.Buffers.GroupStack.{put}
use Rattle.mbe_tt.specs.Trees.Leaf.{ident}
use Rattle.mbe_tt.specs.Trees.Tree.{flat_len, one_leaf}
use Rattle.mbe_tt.specs.Views.LeafViews.{ident_of}
use Rattle.mbe_tt.specs.Views.View.{trees}
use Rattle.mbe_cfg.specs.Crates.ModuleInliner.{inlined}
use Rattle.mbe_cfg.specs.Crates.CrateViews.{inline_context_shown, file_shown, cursor_shown, module_shown}
use Rattle.mbe_cfg.specs.Crates.CrateViews.{unresolved_shown}
use Rattle.mbe_cfg.proofs.FollowLemmas.{all_kept, all_written, file_written, front_on, module_written, not_closed}
use Rattle.mbe_cfg.proofs.FollowLemmas.{no_steps, no_trees}
use Rattle.mbe_cfg.proofs.FollowLemmas.{one_open}
use Rattle.mbe_cfg.proofs.crates.module_inliner.+following.Goals as goal

pub inline_inside-returns-then-levels-eq0 : goal.inline_inside-returns-then-levels-eq0
inline_inside-returns-then-levels-eq0 g t c =
    all_kept c.extend_with_tt.result (map file_shown c.args.files.now) c.args.levels (inline_context_shown c.args.at)
    (trees c.args.tokens) c.args.builder.now c.extend_with_tt.new.self
    (map unresolved_shown c.args.unresolved.now.items)
    c.if-levels-eq0.true c.extend_with_tt.ensures.ok

pub inline_module-close-requires : goal.inline_module-close-requires
inline_module-close-requires g t c =
    one_open c.args.builder.now c.push.new.self c.push-2.new.self c.open.new.self c.inline_inside.new.builder
    _ _ _ (not_closed c.args.delimiter) c.requires.some c.in_ok-push.ensures.ok c.in_ok-push-2.ensures.ok
    c.in_ok-open.ensures.ok c.in_ok-inline_inside.ensures.kept

pub inline_module-returns : goal.inline_module-returns
inline_module-returns g t c = record {
  kept = module_written (module_shown c.args.module) c.args.delimiter
      (inlined (map file_shown c.args.files.now) c.args.levels (inline_context_shown c.args.at)
      (trees c.args.content)).kept
      c.args.builder.now c.push.new.self c.push-2.new.self c.open.new.self c.inline_inside.new.builder
      c.close.new.self
      (c.in_ok-push.ensures.ok
      ∙ ap (λ i. put (one_leaf (ident (ident_of i))) c.args.builder.now) c.in_ok-clone.ensures.cases)
      (c.in_ok-push-2.ensures.ok
      ∙ ap (λ i. put (one_leaf (ident (ident_of i))) c.push.new.self) c.in_ok-clone-2.ensures.cases)
      c.in_ok-open.ensures.ok c.in_ok-inline_inside.ensures.kept c.close.ensures;
  unresolved = c.in_ok-inline_inside.ensures.unresolved;
  is_cursor = c.at_item_start.ensures;
}

pub include_file-returns : goal.include_file-returns
include_file-returns g t c = record {
  kept = file_written _ _ c.args.builder.now _ _ c.in_ok-next.ensures.kept c.in_ok-inline_found_file.ensures.kept;
  unresolved = c.in_ok-inline_found_file.ensures.unresolved;
  is_cursor = c.in_ok-next.ensures.cursor;
}

pub inline_trees-fronts-preserved : goal.inline_trees-fronts-preserved
inline_trees-fronts-preserved g t c =
    front_on (inlined (map file_shown c.args.files.now) c.args.levels) (map file_shown c.args.files.now)
    (inline_context_shown c.args.at) (flat_len (trees c.args.tokens)) (trees c.args.tokens) c.args.builder.now
    (map unresolved_shown c.args.unresolved.now.items) c.fronts.most (cursor_shown c.fronts.cursor)
    (cursor_shown c.in_ok-cursor.cursor) c.fronts.builder c.inline_front.new.builder
    (map unresolved_shown c.fronts.unresolved.items) (map unresolved_shown c.inline_front.new.unresolved.items)
    c.fronts-test.true c.fronts.invariant c.in_ok-cursor.ensures.kept c.in_ok-cursor.ensures.unresolved
    c.in_ok-cursor.ensures.is_cursor

pub inline_trees-returns : goal.inline_trees-returns
inline_trees-returns g t c =
    all_written (map file_shown c.args.files.now) c.args.levels (inline_context_shown c.args.at) (trees c.args.tokens)
    c.args.builder.now (map unresolved_shown c.args.unresolved.now.items) c.fronts.most (cursor_shown c.fronts.cursor)
    c.fronts.builder (map unresolved_shown c.fronts.unresolved.items)
    (no_steps (inlined (map file_shown c.args.files.now) c.args.levels) (map file_shown c.args.files.now)
    (inline_context_shown c.args.at) c.fronts.most (cursor_shown c.fronts.cursor)
    (omega (arith, c.fronts-test.false)))
    c.fronts.invariant

pub inline_trees-returns-then-is_empty : goal.inline_trees-returns-then-is_empty
inline_trees-returns-then-is_empty g t c =
    all_written (map file_shown c.args.files.now) c.args.levels (inline_context_shown c.args.at) (trees c.args.tokens)
    c.args.builder.now (map unresolved_shown c.args.unresolved.now.items) c.fronts.most (cursor_shown c.fronts.cursor)
    c.fronts.builder (map unresolved_shown c.fronts.unresolved.items)
    (no_trees (inlined (map file_shown c.args.files.now) c.args.levels) (map file_shown c.args.files.now)
    (inline_context_shown c.args.at) c.fronts.most (cursor_shown c.fronts.cursor)
    (sym c.if-is_empty.ensures))
    c.fronts.invariant
