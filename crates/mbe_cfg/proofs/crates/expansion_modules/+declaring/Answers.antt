use Rattle.std.proofs.Common.{ap, ◌∙◌, ◌-◌, arith}
use Rattle.mbe_tt.specs.Buffers.GroupStack.{put}
use Rattle.mbe_tt.specs.Trees.Leaf.{ident}
use Rattle.mbe_tt.specs.Trees.Tree.{flat_len, one_leaf}
use Rattle.mbe_tt.specs.Views.LeafViews.{ident_of}
use Rattle.mbe_tt.specs.Views.View.{trees}
use Rattle.mbe_cfg.specs.Crates.CrateViews.{module_shown}
use Rattle.mbe_cfg.specs.Crates.ExpansionModules.{modules_in}
use Rattle.mbe_cfg.proofs.DeclareLemmas.{ended, front_on, inline_written, modules_some, nothing_written, still_open}
use Rattle.mbe_cfg.proofs.FollowLemmas.{not_closed, one_open}
use Rattle.mbe_cfg.proofs.crates.expansion_modules.+declaring.Goals as goal

pub write_inline-close-requires : goal.write_inline-close-requires
write_inline-close-requires g t c =
    one_open c.copy_up_to.new.builder c.push.new.self c.push-2.new.self c.open.new.self c.write_modules.new.builder
    _ _ _ (not_closed c.args.delimiter)
    (still_open c.args.builder.now c.copy_up_to.new.builder _ c.requires.some c.in_ok-copy_up_to.ensures)
    c.in_ok-push.ensures.ok c.in_ok-push-2.ensures.ok c.in_ok-open.ensures.ok c.in_ok-write_modules.ensures

pub write_inline-returns : goal.write_inline-returns
write_inline-returns g t c =
    inline_written (modules_in c.args.levels) (trees c.args.tokens) (trees c.args.item) (module_shown c.args.module)
    c.args.delimiter (trees c.args.content) c.args.builder.now c.copy_up_to.new.builder c.push.new.self
    c.push-2.new.self c.open.new.self c.write_modules.new.builder c.close.new.self c.in_ok-copy_up_to.ensures
    (c.in_ok-push.ensures.ok
    ∙ ap (λ i. put (one_leaf (ident (ident_of i))) c.copy_up_to.new.builder) c.in_ok-clone.ensures.cases)
    (c.in_ok-push-2.ensures.ok
    ∙ ap (λ i. put (one_leaf (ident (ident_of i))) c.push.new.self) c.in_ok-clone-2.ensures.cases)
    c.in_ok-open.ensures.ok c.in_ok-write_modules.ensures c.close.ensures

pub write_modules-returns-then-levels-eq0 : goal.write_modules-returns-then-levels-eq0
write_modules-returns-then-levels-eq0 g t c =
    nothing_written c.args.levels (trees c.args.tokens) c.args.builder.now c.if-levels-eq0.true

pub write_modules-fronts-preserved : goal.write_modules-fronts-preserved
write_modules-fronts-preserved g t c =
    front_on (modules_in (c.args.levels - 1)) (flat_len (trees c.args.tokens)) (trees c.args.tokens)
    c.args.builder.now c.fronts.most (trees c.fronts.rest) (trees c.in_ok-rest.rest) c.fronts.builder
    c.write_front.new.builder c.fronts-test.true c.fronts.invariant c.in_ok-rest.ensures.kept
    c.in_ok-rest.ensures.rest

pub write_modules-returns : goal.write_modules-returns
write_modules-returns g t c =
    ended (modules_in (c.args.levels - 1)) (flat_len (trees c.args.tokens)) (trees c.args.tokens)
    c.args.builder.now c.fronts.most (trees c.fronts.rest) c.fronts.builder (omega (arith, c.fronts-test.false))
    c.fronts.invariant
    ∙ ap (λ f. put f c.args.builder.now)
    (modules_some c.args.levels (trees c.args.tokens) (omega (arith, c.if-levels-eq0.false)))
