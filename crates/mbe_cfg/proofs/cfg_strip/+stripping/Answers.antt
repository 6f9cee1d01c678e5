use Rattle.std.proofs.Common.{rules, ◌++◌, refl, ap, sym, ◌∙◌, append-nil, arith}
use Rattle.std.proofs.lemmas.Result.{on_ok_weaker}
use Rattle.mbe_tt.specs.Buffers.GroupStack.{put}
use Rattle.std.specs.Prelude.{Option, option_map}
use Rattle.mbe_tt.specs.Trees.Tree.{Forest, flat_len}
use Rattle.mbe_tt.proofs.Buffers.Grown.{put-none}
use Rattle.mbe_tt.specs.Views.Element.{element_tree}
use Rattle.mbe_tt.specs.Views.View.{trees}
use Rattle.mbe_rewriter.specs.MacroItems.{End}
use Rattle.mbe_rewriter.specs.MacroItemViews.{front_item_shown}
use Rattle.mbe_cfg.specs.CfgStrip.{Stripped, stripped, inert_or_tree}
use Rattle.mbe_cfg.proofs.StripLemmas.{on_ok, no_kept, off_kept, front_on, ended, ended_faults, stripped_suc}
use Rattle.mbe_cfg.proofs.EnabledLemmas.{known_on, unknown}
use Rattle.mbe_cfg.proofs.StripLemmas.{no_steps, no_trees, stripped_none}
use Rattle.mbe_cfg.proofs.cfg_strip.+stripping.Goals as goal

pub strip_front-returns-in-End-clause-kept : goal.strip_front-returns-in-End-clause-kept
strip_front-returns-in-End-clause-kept g t c =
    no_kept (stripped c.args.settings.now (g.G.FragmentGrammar.grammar c.args.grammar.now) c.args.levels)
    c.args.settings.now (g.G.FragmentGrammar.grammar c.args.grammar.now) (trees c.args.tokens) End c.args.builder.now
    (sym c.front_of.ensures ∙ ap front_item_shown c.in-End.is) refl

pub strip_front-returns-then-is_front_disabled-clause-kept : goal.strip_front-returns-then-is_front_disabled-clause-kept
strip_front-returns-then-is_front_disabled-clause-kept g t c =
    on_ok c.after_disabled_target.result
    (off_kept (stripped c.args.settings.now (g.G.FragmentGrammar.grammar c.args.grammar.now) c.args.levels)
    c.args.settings.now (g.G.FragmentGrammar.grammar c.args.grammar.now) (trees c.args.tokens) (trees c.in-Tree.rest)
    (element_tree c.in-Tree.tree) c.args.builder.now (sym c.front_of.ensures ∙ ap front_item_shown c.in-Tree.is)
    (sym c.is_front_disabled.ensures ∙ c.if-is_front_disabled.true))

pub strip_other-returns-in-Some-clause-kept : goal.strip_other-returns-in-Some-clause-kept
strip_other-returns-in-Some-clause-kept g t c =
    put-none c.args.builder.now ∙ ap (λ (x : Option Forest). put (inert_or_tree (stripped c.args.settings.now
    (g.G.FragmentGrammar.grammar c.args.grammar.now) c.args.levels) c.args.settings.now (trees c.args.tokens)
    (element_tree c.args.tree) (trees c.args.rest) x).kept c.args.builder.now)
    (sym (ap (option_map trees) c.in-Some.is) ∙ c.after_inert_attribute.ensures)

pub strip_inside-returns-then-levels-eq0-clause-faults : goal.strip_inside-returns-then-levels-eq0-clause-faults
strip_inside-returns-then-levels-eq0-clause-faults g t c =
    on_ok c.extend_with_tt.result
    (sym (append-nil c.args.faults.now.items) ∙ ap (λ (x : Stripped). c.args.faults.now.items ++ x.faults)
    (stripped_none c.args.settings.now (g.G.FragmentGrammar.grammar c.args.grammar.now) c.args.levels
    (trees c.args.tokens) c.if-levels-eq0.true))

pub strip_inside-returns-then-levels-eq0-clause-kept : goal.strip_inside-returns-then-levels-eq0-clause-kept
strip_inside-returns-then-levels-eq0-clause-kept g t c =
    on_ok_weaker c.extend_with_tt.result
    (λ written. written ∙ ap (λ (x : Stripped). put x.kept c.args.builder.now) (stripped_none c.args.settings.now
    (g.G.FragmentGrammar.grammar c.args.grammar.now) c.args.levels (trees c.args.tokens) c.if-levels-eq0.true))
    c.extend_with_tt.ensures.ok

pub strip_trees-fronts-init : goal.strip_trees-fronts-init
strip_trees-fronts-init g t c = (
  search rules,
  unknown c.args.settings.now c.flat_len-known.result (trees c.args.tokens) c.flat_len-known.ensures,
)

pub strip_trees-fronts-preserved : goal.strip_trees-fronts-preserved
strip_trees-fronts-preserved g t c =
    let some = c.fronts-test.true in
    let within = stripped c.args.settings.now (g.G.FragmentGrammar.grammar c.args.grammar.now) c.args.levels in (
      front_on within c.args.settings.now (g.G.FragmentGrammar.grammar c.args.grammar.now)
          (flat_len (trees c.args.tokens)) (trees c.args.tokens) c.args.builder.now c.args.faults.now.items
          c.fronts.left (trees c.fronts.rest) (trees c.in_ok-rest.rest) c.fronts.builder c.strip_front.new.builder
          c.fronts.faults.items c.strip_front.new.faults.items some c.fronts.invariant.0 c.in_ok-rest.ensures.kept
          c.in_ok-rest.ensures.faults c.in_ok-rest.ensures.rest,
      known_on within c.args.settings.now (g.G.FragmentGrammar.grammar c.args.grammar.now) _ _
          (trees c.fronts.rest) (trees c.in_ok-rest.rest) _ c.enabled_to-known.ensures c.is_known_tree-is_known.ensures
          c.in_ok-rest.ensures.rest c.known_after-known.ensures,
    )

pub strip_trees-returns-clause-kept : goal.strip_trees-returns-clause-kept
strip_trees-returns-clause-kept g t c =
    let none_left = c.fronts-test.false in
    ended (stripped c.args.settings.now (g.G.FragmentGrammar.grammar c.args.grammar.now) c.args.levels)
    c.args.settings.now (g.G.FragmentGrammar.grammar c.args.grammar.now) (flat_len (trees c.args.tokens))
    (trees c.args.tokens) c.args.builder.now c.args.faults.now.items c.fronts.left (trees c.fronts.rest)
    c.fronts.builder c.fronts.faults.items
    (no_steps (stripped c.args.settings.now (g.G.FragmentGrammar.grammar c.args.grammar.now) c.args.levels)
    c.args.settings.now (g.G.FragmentGrammar.grammar c.args.grammar.now) c.fronts.left (trees c.fronts.rest)
    (omega (arith, none_left))) c.fronts.invariant.0
    ∙ ap (λ (x : Stripped). put x.kept c.args.builder.now) (stripped_suc c.args.settings.now
    (g.G.FragmentGrammar.grammar c.args.grammar.now) c.args.levels (trees c.args.tokens))

pub strip_trees-returns-clause-faults : goal.strip_trees-returns-clause-faults
strip_trees-returns-clause-faults g t c =
    let none_left = c.fronts-test.false in
    ended_faults (stripped c.args.settings.now (g.G.FragmentGrammar.grammar c.args.grammar.now) c.args.levels)
    c.args.settings.now (g.G.FragmentGrammar.grammar c.args.grammar.now) (flat_len (trees c.args.tokens))
    (trees c.args.tokens) c.args.builder.now c.args.faults.now.items c.fronts.left (trees c.fronts.rest)
    c.fronts.builder c.fronts.faults.items
    (no_steps (stripped c.args.settings.now (g.G.FragmentGrammar.grammar c.args.grammar.now) c.args.levels)
    c.args.settings.now (g.G.FragmentGrammar.grammar c.args.grammar.now) c.fronts.left (trees c.fronts.rest)
    (omega (arith, none_left))) c.fronts.invariant.0
    ∙ ap (λ (x : Stripped). c.args.faults.now.items ++ x.faults) (stripped_suc c.args.settings.now
    (g.G.FragmentGrammar.grammar c.args.grammar.now) c.args.levels (trees c.args.tokens))

pub strip_trees-returns-then-is_empty-clause-kept : goal.strip_trees-returns-then-is_empty-clause-kept
strip_trees-returns-then-is_empty-clause-kept g t c =
    ended (stripped c.args.settings.now (g.G.FragmentGrammar.grammar c.args.grammar.now) c.args.levels)
    c.args.settings.now (g.G.FragmentGrammar.grammar c.args.grammar.now) (flat_len (trees c.args.tokens))
    (trees c.args.tokens) c.args.builder.now c.args.faults.now.items c.fronts.left (trees c.fronts.rest)
    c.fronts.builder c.fronts.faults.items
    (no_trees (stripped c.args.settings.now (g.G.FragmentGrammar.grammar c.args.grammar.now) c.args.levels)
    c.args.settings.now (g.G.FragmentGrammar.grammar c.args.grammar.now) c.fronts.left (trees c.fronts.rest)
    (sym c.if-is_empty.ensures)) c.fronts.invariant.0
    ∙ ap (λ (x : Stripped). put x.kept c.args.builder.now) (stripped_suc c.args.settings.now
    (g.G.FragmentGrammar.grammar c.args.grammar.now) c.args.levels (trees c.args.tokens))

pub strip_trees-returns-then-is_empty-clause-faults : goal.strip_trees-returns-then-is_empty-clause-faults
strip_trees-returns-then-is_empty-clause-faults g t c =
    ended_faults (stripped c.args.settings.now (g.G.FragmentGrammar.grammar c.args.grammar.now) c.args.levels)
    c.args.settings.now (g.G.FragmentGrammar.grammar c.args.grammar.now) (flat_len (trees c.args.tokens))
    (trees c.args.tokens) c.args.builder.now c.args.faults.now.items c.fronts.left (trees c.fronts.rest)
    c.fronts.builder c.fronts.faults.items
    (no_trees (stripped c.args.settings.now (g.G.FragmentGrammar.grammar c.args.grammar.now) c.args.levels)
    c.args.settings.now (g.G.FragmentGrammar.grammar c.args.grammar.now) c.fronts.left (trees c.fronts.rest)
    (sym c.if-is_empty.ensures)) c.fronts.invariant.0
    ∙ ap (λ (x : Stripped). c.args.faults.now.items ++ x.faults) (stripped_suc c.args.settings.now
    (g.G.FragmentGrammar.grammar c.args.grammar.now) c.args.levels (trees c.args.tokens))
