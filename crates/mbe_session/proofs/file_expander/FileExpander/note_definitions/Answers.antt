use Rattle.std.proofs.Common.{◌∙◌, ◌≤◌, ◌++◌, refl, ap, map, length, arith}
use Rattle.mbe_session.specs.CallExpansion.{State}
use Rattle.mbe_session.specs.Explanation.{note_seen}
use Rattle.mbe_session.specs.Faults.{fault_at, noted}
use Rattle.mbe_session.specs.SessionViews.{state_of}
use Rattle.mbe_session.proofs.FaultLemmas.{all_said, one_said}
use Rattle.mbe_session.proofs.file_expander.FileExpander.note_definitions.Goals as goal

pub loop-number-init : goal.loop-number-init
loop-number-init g c = (refl, refl, refl)

pub loop-number-preserved : goal.loop-number-preserved
loop-number-preserved g c = (
  one_said (state_of c.args.self.now).scope c.loop-number.number (map note_seen c.loop-number.self.notes.items)
      (map note_seen c.note_definition.new.self.notes.items) _ c.loop-number.invariant.0
      (c.in_ok-note_definition.ensures.notes
      ∙ ap (λ (s : State). map note_seen c.loop-number.self.notes.items
      ++ noted (fault_at s.scope c.loop-number.number))
      c.loop-number.invariant.1),
  c.in_ok-note_definition.ensures.state ∙ c.loop-number.invariant.1,
  c.in_ok-note_definition.ensures.setting ∙ c.loop-number.invariant.2,
)

pub returns-clause-notes : goal.returns-clause-notes
returns-clause-notes g c =
    let past : length (state_of c.args.self.now).scope.definitions ≤ c.loop-number.number =
    omega (arith, c.count-number-end.ensures) in
    all_said (state_of c.args.self.now).scope.definitions c.loop-number.number
    (map note_seen c.loop-number.self.notes.items) _ past c.loop-number.invariant.0
