use Rattle.std.proofs.Common.{◌∙◌, arith, rules}
use Rattle.mbe_tt.specs.Buffers.Offsets.{cursor_trees, IsAtRoot}
use Rattle.mbe_threads.proofs.WholeFronts.{goes_on, placed_after}
use Rattle.mbe_threads.proofs.fragment_front.leave_groups.Goals as goal

pub groups-smaller : goal.groups-smaller
groups-smaller g c =
    let i = c.groups.invariant in
    let n : IsAtRoot c.groups.cursor → ⊥ = search rules in
    let s = goes_on c.groups.cursor c.bump_or_end.new.self (cursor_trees c.args.cursor.now) i.same i.within n
    c.bump_or_end.ensures in
    omega (arith, s.1, s.2)

pub groups-preserved : goal.groups-preserved
groups-preserved g c =
    let i = c.groups.invariant in
    let n : IsAtRoot c.groups.cursor → ⊥ = search rules in
    let s = goes_on c.groups.cursor c.bump_or_end.new.self (cursor_trees c.args.cursor.now) i.same i.within n
    c.bump_or_end.ensures in
    record { same = s.0; within = omega (arith, s.1, s.2); cut = s.3 ∙ i.cut }

pub returns : goal.returns
returns g c =
    let i = c.groups.invariant in
    let r : IsAtRoot c.groups.cursor = search rules in
    placed_after c.groups.cursor c.args.cursor.now (cursor_trees c.args.cursor.now) i.same i.within r i.cut
