use Rattle.std.proofs.Common.{◌∙◌}
use Rattle.mbe_tt.specs.Views.View.{trees}
use Rattle.mbe_threads.proofs.WholeFronts.{counted_within, placed_at, good_counted, bad_counted, after_all_groups}
use Rattle.mbe_threads.proofs.WholeFronts.{crossed_front, left_back}
use Rattle.mbe_threads.proofs.fragment_front.eat_front.Goals as goal
use Rattle.mbe_threads.proofs.fragment_front.eat_front.Goals.{then-not-front, else-not-front}

pub cursor_at-cursor-requires : goal.cursor_at-cursor-requires
cursor_at-cursor-requires g c =
    counted_within (g.G.FragmentGrammar.grammar c.args.grammar.now) c.args.entry_point
    (trees c.remaining-remaining.result) c.in_ok-front.front
    (g.met.G.FragmentGrammar.lawful c.args.grammar.now) c.in_ok-front.ensures

pub leave_groups-requires : goal.leave_groups-requires
leave_groups-requires g c =
    let within = counted_within (g.G.FragmentGrammar.grammar c.args.grammar.now) c.args.entry_point
    (trees c.remaining-remaining.result) c.in_ok-front.front
    (g.met.G.FragmentGrammar.lawful c.args.grammar.now) c.in_ok-front.ensures in
    rw c.cursor_at-cursor.ensures within

pub flat_advance_to-requires-clause-root : goal.flat_advance_to-requires-clause-root
flat_advance_to-requires-clause-root g c =
    let at = placed_at (g.G.FragmentGrammar.grammar c.args.grammar.now) c.args.entry_point c.args.tt_iter.now
    c.in_ok-front.front (trees c.remaining-remaining.result)
    c.remaining-remaining.ensures c.in_ok-front.ensures c.cursor_at-cursor.result c.cursor_at-cursor.ensures
    c.leave_groups.new.cursor c.leave_groups.ensures in
    after_all_groups _ _ c.leave_groups.new.cursor at

pub crossed-requires : goal.crossed-requires
crossed-requires g c =
    let at = placed_at (g.G.FragmentGrammar.grammar c.args.grammar.now) c.args.entry_point c.args.tt_iter.now
    c.in_ok-front.front (trees c.remaining-remaining.result)
    c.remaining-remaining.ensures c.in_ok-front.ensures c.cursor_at-cursor.result c.cursor_at-cursor.ensures
    c.leave_groups.new.cursor c.leave_groups.ensures in
    after_all_groups _ _ c.leave_groups.new.cursor at

pub returns-clause-whole : goal.returns-clause-whole
returns-clause-whole g c =
    let at = placed_at (g.G.FragmentGrammar.grammar c.args.grammar.now) c.args.entry_point c.args.tt_iter.now
    c.in_ok-front.front (trees c.remaining-remaining.result)
    c.remaining-remaining.ensures c.in_ok-front.ensures c.cursor_at-cursor.result c.cursor_at-cursor.ensures
    c.leave_groups.new.cursor c.leave_groups.ensures in
    crossed_front _ _ c.leave_groups.new.cursor at (trees c.crossed.result) c.crossed.ensures.all c.crossed.ensures.len

pub returns-clause-good : goal.returns-clause-good
returns-clause-good g c =
    elim c.if-not-front.branch [
      | then-not-front w ↦
          w.is_accepted-is
          ∙ good_counted (g.G.FragmentGrammar.grammar c.args.grammar.now) c.args.entry_point c.args.tt_iter.now
          c.in_ok-front.front (trees c.remaining-remaining.result)
          c.remaining-remaining.ensures c.in_ok-front.ensures c.cursor_at-cursor.result c.cursor_at-cursor.ensures
          w.is_root-is_accepted.result
          (g.met.G.FragmentGrammar.lawful c.args.grammar.now) w.is_root-is_accepted.ensures w.if-not-front.true
      | else-not-front w ↦
          bad_counted (g.G.FragmentGrammar.grammar c.args.grammar.now) c.args.entry_point c.args.tt_iter.now
          c.in_ok-front.front (trees c.remaining-remaining.result)
          c.remaining-remaining.ensures c.in_ok-front.ensures c.cursor_at-cursor.result c.cursor_at-cursor.ensures
          c.if-not-front.is_accepted w.is_accepted-is w.if-not-front.false
    ]

pub returns-clause-rest : goal.returns-clause-rest
returns-clause-rest g c =
    let at = placed_at (g.G.FragmentGrammar.grammar c.args.grammar.now) c.args.entry_point c.args.tt_iter.now
    c.in_ok-front.front (trees c.remaining-remaining.result)
    c.remaining-remaining.ensures c.in_ok-front.ensures c.cursor_at-cursor.result c.cursor_at-cursor.ensures
    c.leave_groups.new.cursor c.leave_groups.ensures in
    left_back _ _ c.leave_groups.new.cursor at c.flat_advance_to.new.self c.flat_advance_to.ensures
