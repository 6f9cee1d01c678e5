use Rattle.std.proofs.Common.{◌≡◌, ◌∙◌, arith, map, refl, subst, sym}
use Rattle.mbe_rewriter.specs.ReplacementViews.{part_of}
use Rattle.mbe_session.specs.SessionViews.{setting_of, state_of}
use Rattle.mbe_session.specs.FileExpansion.{CratesParts}
use Rattle.mbe_session.specs.FileViews.{source_of}
use Rattle.mbe_session.proofs.CrateLemmas.{no_more_crate, one_more_crate}
use Rattle.mbe_session.proofs.crate_expander.crates_replacements.Goals as goal

pub loop-number-init : goal.loop-number-init
loop-number-init c = (
  no_more_crate part_of (setting_of c.args.expander.now) 1000 c.args.with_modules (map source_of c.args.files.now)
      (state_of c.args.expander.now) c.new-parts.result.items c.new-parts.ensures.items,
  refl,
)

pub loop-number-preserved : goal.loop-number-preserved
loop-number-preserved c =
    let adds = c.in_ok-add_crate_replacements.ensures.adds in (
      one_more_crate part_of (setting_of c.args.expander.now) (setting_of c.loop-number.expander) 1000
          c.args.with_modules
          (map source_of c.args.files.now) c.loop-number.number (state_of c.args.expander.now)
          (state_of c.loop-number.expander) (state_of c.add_crate_replacements.new.expander) c.loop-number.parts.items
          c.add_crate_replacements.new.parts.items adds.0 c.loop-number.invariant.0 (sym c.loop-number.invariant.1)
          adds.1 adds.2,
      c.in_ok-add_crate_replacements.ensures.setting ∙ c.loop-number.invariant.1,
    )

pub returns : goal.returns
returns c =
    let all : c.loop-number.number ≡ c.args.root_count = omega arith in
    subst (λ n. CratesParts (setting_of c.args.expander.now) 1000 c.args.with_modules (map source_of c.args.files.now)
    (state_of c.args.expander.now) n (map part_of c.loop-number.parts.items) (state_of c.loop-number.expander)) all
    c.loop-number.invariant.0
