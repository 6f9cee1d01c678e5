use Rattle.std.proofs.Common.{◌≡◌, ◌∙◌, None, Some, sym, ap, arith}
use Rattle.std.specs.Prelude.{slice_get}
use Rattle.std.proofs.lemmas.Option.{slice_get-get_or}
use Rattle.mbe_tt.specs.Views.View.{trees}
use Rattle.mbe_semantics.specs.Syntax.Op.{no_ops}
use Rattle.mbe_semantics.specs.Readings.Input.{input_of}
use Rattle.mbe_threads.specs.declared.thread.Steps.{Steps}
use Rattle.mbe_matcher.specs.Threads.{AreSteps}
use Rattle.mbe_matcher.proofs.Keeping.{keeps_not}
use Rattle.mbe_matcher.proofs.StepLemmas.{as_model, all_read, has_account, has_number, has_within, outside_has_entries}
use Rattle.mbe_matcher.proofs.steps.end_steps.Goals as goal

pub returns-in_default : goal.returns-in_default
returns-in_default g c = λ h e o s.
    let src = c.args.source.now in
    let d : Steps g.row.A.Denot = record {
      first = None;
      second = None;
      next = None;
      done = Some c.args.thread.handle;
    } in
    as_model c.args.log.now c.args.frames.now
    (λ x. AreSteps (input_of h (trees src.whole)) (trees src.whole) src.offset c.args.log.now c.args.log.now
    c.args.frames.now c.args.frames.now x d)
    c.args.thread no_ops o s c.requires.tail
    (λ a up t. record {
      now = all_read (input_of h (trees src.whole)) (trees src.whole) src.offset c.args.log.now c.args.frames.now
          c.args.thread a up t c.in_default.is;
      kept = keeps_not c.args.log.now c.args.frames.now;
    })

pub bounds-frames-open : goal.bounds-frames-open
bounds-frames-open g c = has_within c.args.log.now c.args.frames.now c.args.thread c.in-Some.open c.requires.placed
    c.in-Some.is

pub offset_bounds-frames-open : goal.offset_bounds-frames-open
offset_bounds-frames-open g c =
    let k = has_within c.args.log.now c.args.frames.now c.args.thread c.in-Some.open c.requires.placed c.in-Some.is in
    omega (arith, k)

pub round_steps-requires-clause-account : goal.round_steps-requires-clause-account
round_steps-requires-clause-account g c = has_account c.args.log.now c.args.frames.now c.args.thread c.requires.placed

pub round_steps-requires-clause-outside : goal.round_steps-requires-clause-outside
round_steps-requires-clause-outside g c =
    let k = has_within c.args.log.now c.args.frames.now c.args.thread c.in-Some.open c.requires.placed c.in-Some.is in
    let at : slice_get c.args.frames.now c.in-Some.open ≡ Some c.index-frames-open.result =
    slice_get-get_or c.args.frames.now c.in-Some.open c.index-frames-open.result k
    ∙ ap Some (sym c.index-frames-open.is) in
    outside_has_entries c.args.log.now c.args.frames.now c.args.thread c.in-Some.open c.index-frames-open.result
    c.in-Some-rounds.rounds c.requires.placed c.in-Some.is at c.in-Some-rounds.is

pub round_steps-requires-clause-number : goal.round_steps-requires-clause-number
round_steps-requires-clause-number g c = has_number c.args.log.now c.args.frames.now c.args.thread c.requires.placed

pub closing_steps-requires-clause-number : goal.closing_steps-requires-clause-number
closing_steps-requires-clause-number g c =
    has_number c.args.log.now c.args.frames.now c.args.thread c.requires.placed

pub returns-in-Some-rounds : goal.returns-in-Some-rounds
returns-in-Some-rounds g c = λ h e o s.
    let k = has_within c.args.log.now c.args.frames.now c.args.thread c.in-Some.open c.requires.placed c.in-Some.is in
    let at : slice_get c.args.frames.now c.in-Some.open ≡ Some c.index-frames-open.result =
    slice_get-get_or c.args.frames.now c.in-Some.open c.index-frames-open.result k
    ∙ ap Some (sym c.index-frames-open.is) in
    c.round_steps.ensures h c.args.frames.now e (c.in-Some.open, c.in-Some.is, at, c.in-Some-rounds.is) o s

pub returns : goal.returns
returns g c = λ h e.
    let k = has_within c.args.log.now c.args.frames.now c.args.thread c.in-Some.open c.requires.placed c.in-Some.is in
    let at : slice_get c.args.frames.now c.in-Some.open ≡ Some c.index-frames-open.result =
    slice_get-get_or c.args.frames.now c.in-Some.open c.index-frames-open.result k
    ∙ ap Some (sym c.index-frames-open.is) in
    c.closing_steps.ensures.steps h c.args.log.now c.args.frames.now c.in-Some.open c.in-Some.is at
