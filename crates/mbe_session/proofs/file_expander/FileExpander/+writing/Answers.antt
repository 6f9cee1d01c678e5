use Rattle.std.proofs.Common.{◌≡◌, rules, refl, subst, ◌∙◌}
use Rattle.mbe_tt.specs.Views.Element.{element_tree}
use Rattle.mbe_tt.specs.Views.View.{trees}
use Rattle.mbe_rewriter.specs.Surroundings.{is_standard_macro}
use Rattle.mbe_rewriter.specs.MacroItemViews.{call_shown, macro_definition_shown}
use Rattle.mbe_session.specs.declared.cfg_front.CfgFront.TheVariants as v
use Rattle.mbe_session.specs.NestedExpansion.{ExpandsTo, ChangesTree, Writes}
use Rattle.mbe_session.specs.CfgFront.{EndsInCall}
use Rattle.mbe_session.specs.SessionViews.{cfg_front_shown, setting_of, state_of}
use Rattle.mbe_session.proofs.AdjustmentLemmas.{call_less}
use Rattle.mbe_session.proofs.FrontLemmas.{ahead_less}
use Rattle.mbe_session.proofs.CfgFrontLemmas.{piece_call, piece_definition, piece_disabled, piece_end, piece_is}
use Rattle.mbe_session.proofs.CfgFrontLemmas.{piece_less}
use Rattle.mbe_session.proofs.StepLemmas.{none_done, all_done}
use Rattle.mbe_session.proofs.WriteLemmas.{on_ok, disabled_on, definition_on, tree_on, call_on, same_length}
use Rattle.mbe_session.proofs.WriteLemmas.{changed_left, call_replaced, call_stays, expansion_written, inside_kept}
use Rattle.mbe_session.proofs.WriteLemmas.{kept_written, standard_written, wrapped_bare, wrapped_in}
use Rattle.mbe_session.proofs.file_expander.FileExpander.+writing.Goals as goal

pub write-trees-init : goal.write-trees-init
write-trees-init g t c = (
  none_done (setting_of c.args.self.now) c.args.levels c.args.depth (trees c.args.tokens) (trees c.args.tokens)
      (state_of c.args.self.now)
      (state_of c.args.self.now) c.args.builder.now c.args.builder.now refl refl refl,
  refl,
  refl,
)

pub write-returns-in-End-clause-writes : goal.write-returns-in-End-clause-writes
write-returns-in-End-clause-writes g t c =
    all_done (setting_of c.args.self.now) c.args.levels c.args.depth (trees c.args.tokens) (trees c.trees.rest)
    (state_of c.args.self.now)
    (state_of c.trees.self) c.args.builder.now c.trees.builder c.trees.invariant.0
    (piece_end (setting_of c.trees.self) (trees c.trees.rest)
    (piece_is cfg_front_shown _ v.End _ c.in_ok-piece.ensures c.in-End.is))

pub write-trees-smaller-in-Disabled : goal.write-trees-smaller-in-Disabled
write-trees-smaller-in-Disabled g t c =
    piece_disabled (setting_of c.trees.self) (trees c.trees.rest) (trees c.in-Disabled.after)
    (piece_is cfg_front_shown _ (v.Disabled c.in-Disabled.after) _ c.in_ok-piece.ensures c.in-Disabled.is)

pub write-trees-preserved-in-Disabled : goal.write-trees-preserved-in-Disabled
write-trees-preserved-in-Disabled g t c = (
  disabled_on (setting_of c.args.self.now) (setting_of c.trees.self) c.args.levels c.args.depth (trees c.args.tokens)
      (trees c.trees.rest) (trees c.in-Disabled.after) (state_of c.args.self.now) (state_of c.trees.self)
      c.args.builder.now c.trees.builder c.copy_up_to.new.builder c.trees.invariant.1 c.trees.invariant.0
      (piece_is cfg_front_shown _ (v.Disabled c.in-Disabled.after) _ c.in_ok-piece.ensures c.in-Disabled.is)
      c.in_ok-copy_up_to-in-Disabled.ensures,
  c.trees.invariant.1,
  same_length _ c.trees.builder c.copy_up_to.new.builder c.in_ok-copy_up_to-in-Disabled.ensures ∙ c.trees.invariant.2,
)

pub write-trees-smaller-in-Definition : goal.write-trees-smaller-in-Definition
write-trees-smaller-in-Definition g t c =
    ahead_less (trees c.trees.rest) _
    (piece_definition (setting_of c.trees.self) (trees c.trees.rest) (macro_definition_shown c.in-Definition.defined)
    (piece_is cfg_front_shown _ (v.Definition c.in-Definition.defined) _ c.in_ok-piece.ensures c.in-Definition.is))

pub write-trees-preserved-in-Definition : goal.write-trees-preserved-in-Definition
write-trees-preserved-in-Definition g t c =
    let d = macro_definition_shown c.in-Definition.defined in
    let w = c.in_ok-write_definition-in-Definition.ensures.writes in (
      definition_on (setting_of c.args.self.now) (setting_of c.trees.self) c.args.levels c.args.depth
          (trees c.args.tokens) (trees c.trees.rest) d
          (state_of c.args.self.now) (state_of c.trees.self) (state_of c.write_definition.new.self) c.args.builder.now
          c.trees.builder
          c.write_definition.new.builder c.trees.invariant.1 c.trees.invariant.0
          (piece_is cfg_front_shown _ (v.Definition c.in-Definition.defined) _ c.in_ok-piece.ensures c.in-Definition.is)
          w,
      c.in_ok-write_definition-in-Definition.ensures.setting ∙ c.trees.invariant.1,
      same_length w.0 c.trees.builder c.write_definition.new.builder w.2 ∙ c.trees.invariant.2,
    )

pub write-trees-smaller-in-MacroCall : goal.write-trees-smaller-in-MacroCall
write-trees-smaller-in-MacroCall g t c =
    call_less (trees c.trees.rest) _ (call_shown c.in-MacroCall.call)
    (piece_call (setting_of c.trees.self) (trees c.trees.rest) (call_shown c.in-MacroCall.call)
    (piece_is cfg_front_shown _ (v.MacroCall c.in-MacroCall.call) _ c.in_ok-piece.ensures c.in-MacroCall.is))
    (changed_left _ _ _ _ _ _ _ _ _ _ c.in_ok-rest-in-MacroCall.ensures.writes.1)

pub write-write_definition-requires-clause-ends : goal.write-write_definition-requires-clause-ends
write-write_definition-requires-clause-ends g t c =
    let a = piece_definition (setting_of c.trees.self) (trees c.trees.rest)
    (macro_definition_shown c.in-Definition.defined)
    (piece_is cfg_front_shown _ (v.Definition c.in-Definition.defined) _ c.in_ok-piece.ensures c.in-Definition.is) in
    (a.kept, a.is)

pub write-write_call-requires : goal.write-write_call-requires
write-write_call-requires g t c κs within =
    let ends : EndsInCall (trees c.trees.rest) (call_shown c.in-MacroCall.call) =
    piece_call (setting_of c.trees.self) (trees c.trees.rest) (call_shown c.in-MacroCall.call)
    (piece_is cfg_front_shown _ (v.MacroCall c.in-MacroCall.call) _ c.in_ok-piece.ensures c.in-MacroCall.is) in
    search (rules, ends)

pub write-trees-preserved-in-MacroCall : goal.write-trees-preserved-in-MacroCall
write-trees-preserved-in-MacroCall g t c =
    let w = c.in_ok-rest-in-MacroCall.ensures.writes in (
      call_on (setting_of c.args.self.now) (setting_of c.trees.self) c.args.levels c.args.depth (trees c.args.tokens)
          (trees c.trees.rest) _
          (call_shown c.in-MacroCall.call) (state_of c.args.self.now) (state_of c.trees.self)
          (state_of c.write_call.new.self) c.args.builder.now
          c.trees.builder c.write_call.new.builder c.trees.invariant.1 c.trees.invariant.0
          (piece_is cfg_front_shown _ (v.MacroCall c.in-MacroCall.call) _ c.in_ok-piece.ensures c.in-MacroCall.is) w,
      c.in_ok-rest-in-MacroCall.ensures.setting ∙ c.trees.invariant.1,
      same_length w.0 c.trees.builder c.write_call.new.builder w.2 ∙ c.trees.invariant.2,
    )

pub write-trees-smaller : goal.write-trees-smaller
write-trees-smaller g t c =
    piece_less (setting_of c.trees.self) (trees c.trees.rest) (trees c.in-Tree.after) (element_tree c.in-Tree.tree)
    (piece_is cfg_front_shown _ (v.Tree c.in-Tree.tree c.in-Tree.after) _ c.in_ok-piece.ensures c.in-Tree.is)

pub write-trees-preserved : goal.write-trees-preserved
write-trees-preserved g t c =
    let tree = element_tree c.in-Tree.tree in
    let n = c.in_ok-note_attribute-in-Tree.ensures in
    let by_setting = subst (λ s. Writes
    (ChangesTree (ExpandsTo s c.args.levels c.args.depth) tree (state_of c.note_attribute.new.self))
    c.trees.builder c.write_tree.new.builder (state_of c.write_tree.new.self))
    n.setting c.in_ok-write_tree-in-Tree.ensures.writes in
    let w = subst (λ s. Writes
    (ChangesTree (ExpandsTo (setting_of c.trees.self) c.args.levels c.args.depth) tree s)
    c.trees.builder c.write_tree.new.builder (state_of c.write_tree.new.self))
    n.state by_setting in (
      tree_on (setting_of c.args.self.now) (setting_of c.trees.self) c.args.levels c.args.depth (trees c.args.tokens)
          (trees c.trees.rest)
          (trees c.in-Tree.after) tree (state_of c.args.self.now) (state_of c.trees.self)
          (state_of c.write_tree.new.self) c.args.builder.now
          c.trees.builder c.write_tree.new.builder c.trees.invariant.1 c.trees.invariant.0
          (piece_is cfg_front_shown _ (v.Tree c.in-Tree.tree c.in-Tree.after) _ c.in_ok-piece.ensures c.in-Tree.is) w,
      c.in_ok-write_tree-in-Tree.ensures.setting ∙ (n.setting ∙ c.trees.invariant.1),
      same_length w.0 c.trees.builder c.write_tree.new.builder w.2 ∙ c.trees.invariant.2,
    )

pub write_call-returns-in-Some-clause-writes : goal.write_call-returns-in-Some-clause-writes
write_call-returns-in-Some-clause-writes g t c =
    call_replaced trees c.write_expansion.result (setting_of c.args.self.now) (setting_of c.expansion.new.self)
    c.args.levels c.args.depth
    (trees c.args.tokens) (call_shown c.args.call) c.in-Some.tree _ (state_of c.args.self.now)
    (state_of c.expansion.new.self)
    (state_of c.write_expansion.new.self) c.args.builder.now c.write_expansion.new.builder c.in_ok-tree.ensures.setting
    c.in_ok-tree.ensures.tries c.in-Some.is c.write_expansion.ensures.writes c.write_expansion.ensures.left

pub write_call-returns-in_ok-write_kept-in-None-clause-writes :
    goal.write_call-returns-in_ok-write_kept-in-None-clause-writes
write_call-returns-in_ok-write_kept-in-None-clause-writes g t c =
    call_stays (setting_of c.args.self.now) (setting_of c.expansion.new.self) c.args.levels c.args.depth
    (trees c.args.tokens)
    (call_shown c.args.call) _ (state_of c.args.self.now) (state_of c.expansion.new.self)
    (state_of c.write_kept.new.self) c.args.builder.now
    c.write_kept.new.builder c.in_ok-tree.ensures.setting c.in_ok-tree.ensures.tries c.in-None.is
    c.in_ok-write_kept-in-None.ensures.writes

pub write_expansion-returns-clause-writes : goal.write_expansion-returns-clause-writes
write_expansion-returns-clause-writes g t c =
    expansion_written (ExpandsTo (setting_of c.args.self.now) c.args.levels c.args.depth)
    (call_shown c.args.call).delimiter c.args.tree.now.1
    (trees c.trimmed-part.result) (state_of c.args.self.now) (state_of c.write_wrapped.new.self)
    c.in_ok-adjustment.adjustment.adds_semicolon c.args.builder.now
    c.write_wrapped.new.builder c.end.new.builder (search rules) c.in_ok-write_wrapped.ensures.writes
    c.in_ok-end.ensures

pub write_inside-returns-then-levels-eq0-clause-writes : goal.write_inside-returns-then-levels-eq0-clause-writes
write_inside-returns-then-levels-eq0-clause-writes g t c =
    let same : state_of c.note_too_deep_in.new.self ≡ state_of c.args.self.now = search rules in
    on_ok c.extend_with_tt.result
    (λ copied. inside_kept (setting_of c.args.self.now) c.args.levels c.args.depth (trees c.args.tokens)
    (state_of c.args.self.now)
    (state_of c.note_too_deep_in.new.self) c.args.builder.now c.extend_with_tt.new.self (search rules) copied same)
    c.extend_with_tt.ensures.ok

pub write_kept-returns-then-not-is_standard_macro-clause-writes :
    goal.write_kept-returns-then-not-is_standard_macro-clause-writes
write_kept-returns-then-not-is_standard_macro-clause-writes g t c =
    on_ok c.copy_call.result
    (λ copied. kept_written (ExpandsTo (setting_of c.args.self.now) c.args.levels c.args.depth)
    (is_standard_macro (call_shown c.args.call).name.sym)
    (trees c.args.tokens) (call_shown c.args.call) (state_of c.args.self.now) (state_of c.args.self.now)
    c.args.builder.now
    c.copy_call.new.builder c.requires.ends (search rules) copied refl)
    c.copy_call.ensures

pub write_kept-returns-clause-writes : goal.write_kept-returns-clause-writes
write_kept-returns-clause-writes g t c =
    on_ok c.write_group.result
    (λ w. standard_written (ExpandsTo (setting_of c.args.self.now) c.args.levels c.args.depth)
    (is_standard_macro (call_shown c.args.call).name.sym)
    (trees c.args.tokens) (call_shown c.args.call) (state_of c.args.self.now) (state_of c.write_group.new.self)
    c.args.builder.now
    c.copy_head.new.builder c.write_group.new.builder c.requires.ends (search rules) c.in_ok-copy_head.ensures.copied
    w)
    c.write_group.ensures.writes

pub write_wrapped-returns-in_default-clause-writes : goal.write_wrapped-returns-in_default-clause-writes
write_wrapped-returns-in_default-clause-writes g t c =
    on_ok c.write_inside.result
    (λ w. wrapped_bare (ExpandsTo (setting_of c.args.self.now) c.args.levels c.args.depth) c.args.delimiter
    (trees c.args.tokens)
    (state_of c.args.self.now) (state_of c.write_inside.new.self) c.args.builder.now c.write_inside.new.builder w)
    c.write_inside.ensures.writes

pub write_wrapped-returns-clause-writes : goal.write_wrapped-returns-clause-writes
write_wrapped-returns-clause-writes g t c =
    wrapped_in (ExpandsTo (setting_of c.args.self.now) c.args.levels c.args.depth) c.args.delimiter _ c.args.wrap
    (trees c.args.tokens)
    (state_of c.args.self.now) (state_of c.write_inside-2.new.self) c.args.builder.now c.open.new.self
    c.write_inside-2.new.builder
    c.close.new.self c.requires.wrap c.in-Some.is c.in_ok-open.ensures.ok c.in_ok-write_inside.ensures.writes
    c.close.ensures
