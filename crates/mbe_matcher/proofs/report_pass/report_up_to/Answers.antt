use Rattle.std.proofs.Common.{◌≡◌, ◌+◌, ◌∙◌, ◌∷◌, ◌++◌, ◌<◌, [], map, reverse, length, get_or, sym, ap, subst, arith}
use Rattle.std.specs.Prelude.{IfSome}
use Rattle.mbe_tt.specs.Trees.Tree.{flat_len, rest_at}
use Rattle.mbe_tt.specs.Views.View.{trees}
use Rattle.mbe_semantics.specs.Matching.States.{state_count}
use Rattle.mbe_semantics.specs.Readings.Input.{input_of}
use Rattle.mbe_log.specs.declared.log.LogSize.{LogSize}
use Rattle.mbe_bindings.specs.LogCompaction.{HasAtMost}
use Rattle.mbe_log.specs.HandleChanges.{KeepsHandles}
use Rattle.mbe_log.proofs.ClientLemmas.{kept-on}
use Rattle.mbe_ops.specs.Views.{ops_of, template_of}
use Rattle.mbe_matcher.specs.declared.report_pass.Visit.TheVariants.{Enter}
use Rattle.mbe_matcher.specs.declared.visited_set.VisitedSet.{VisitedSet}
use Rattle.mbe_threads.specs.declared.thread.TokenStep.{TokenStep}
use Rattle.mbe_matcher.specs.VisitedSet.{AreUnvisitedFrom}
use Rattle.mbe_matcher.specs.Reports.{IsReportOf, IsFullReport}
use Rattle.mbe_threads.specs.Stops.{thread_after}
use Rattle.mbe_matcher.specs.FirstAndLast.{model_notes}
use Rattle.mbe_matcher.specs.ReportPass.{visit_after, FirstFails, AreFirsts, AreLasts, IsFirstStack, IsLastStack}
use Rattle.mbe_matcher.specs.ReportPass.{IsStop}
use Rattle.mbe_matcher.proofs.EndsPass.{PassAt, AtPlace, Goes, pass_begins, pass_still, first_stack, last_stack}
use Rattle.mbe_matcher.proofs.EndsPass.{noted_at_stop, goes_some, goes_by, pass_notes, pass_goes}
use Rattle.mbe_matcher.proofs.report_pass.report_up_to.Goals as goal
use Rattle.mbe_matcher.proofs.report_pass.report_up_to.Goals.{At-loop-source, In_ok-follow_firsts}
use Rattle.mbe_matcher.proofs.report_pass.report_up_to.Goals.{In_ok-follow_lasts, After-finish_offset, Else-source-stop}

pub loop-source-init : goal.loop-source-init
loop-source-init g c =
    let h = g.G.FragmentGrammar.grammar c.args.grammar.now in
    let s = c.new-source.result in
    let pat = template_of c.args.pattern.now in
    let p = c.in_ok-pass.ensures in
    let size : c.in_ok-state_count.state_count ≡ state_count pat =
    subst (λ r. IfSome r (λ n. n ≡ state_count (ops_of c.deref.result.now))) c.in_ok-state_count.ensures.ok_part
    c.count_states.ensures
    ∙ ap (λ l. state_count (ops_of l)) c.deref.ensures.value in
    let one = c.in_ok-push.ensures.items ∙ ap (λ l. l ++ c.again.result ∷ []) c.new-firsts.ensures.items in
    let two = c.in_ok-push-2.ensures.items
    ∙ ap (λ l. l ++ Enter c.in_ok-thread.thread ∷ []) c.new-lasts.ensures.items in
    record {
      comes = pass_begins (input_of h (trees s.whole)) (trees s.whole) pat s.offset c.at_start.new.log
          c.in_ok-pass.pass.frames.items c.push.new.self.items c.push-2.new.self.items
          c.in_ok-pass.pass.report c.in_ok-thread.thread c.again.result c.new-source.ensures.offset one
          c.again.ensures two c.in_ok-thread.ensures.start
          (p.notes c.at_start.new.log (trees s.whole));
      whole = c.new-source.ensures.whole;
      within = omega (arith, c.new-source.ensures.offset);
      first_size = p.first_size ∙ size;
      last_size = p.last_size ∙ size;
      first_unvisited = λ q l. p.first_unvisited q (omega arith);
      last_unvisited = λ q l. p.last_unvisited q (omega arith);
      kept = c.in_ok-thread.ensures.kept;
      start = c.new-room.ensures;
    }

-- ---- at a place

abbrev at_offset : (g : _) (c : At-loop-source g) → AtPlace (g.G.FragmentGrammar.grammar c.args.grammar.now)
    (template_of c.args.pattern.now) (trees c.loop-source.source.whole) c.loop-source.source.offset c.args.stop
    c.loop-source.log c.loop-source.pass.frames.items c.loop-source.firsts.items c.loop-source.lasts.items
    c.loop-source.pass.report
at_offset g c = record {
  lawful = g.met.G.FragmentGrammar.lawful c.args.grammar.now;
  checked = c.requires.checked;
  stops = subst (λ x. IsStop (g.G.FragmentGrammar.grammar c.args.grammar.now) (template_of c.args.pattern.now)
      (trees x) c.args.stop) (sym c.loop-source.invariant.whole) c.requires.stop;
  within = c.loop-source.invariant.within;
  now = c.loop-source.invariant.comes;
}

pub follow_firsts-requires-clause-stack : goal.follow_firsts-requires-clause-stack
follow_firsts-requires-clause-stack g c =
    first_stack (at_offset g (goal.at.follow_firsts-requires-clause-stack g c).At-loop-source)
    c.loop-source.invariant.first_size

-- what comes of the first of each
module _ (g : _) (c : In_ok-follow_firsts g) where
  abbrev stack : IsFirstStack
      (input_of (g.G.FragmentGrammar.grammar c.args.grammar.now) (trees c.loop-source.source.whole))
      c.loop-source.source.offset (length c.loop-source.pass.first_visited.offsets.items) c.loop-source.log
      c.loop-source.pass.frames.items c.loop-source.firsts.items
  stack = first_stack (at_offset g (goal.at.In_ok-follow_firsts g c).At-loop-source)
      c.loop-source.invariant.first_size

  are_firsts : AreFirsts
      (input_of (g.G.FragmentGrammar.grammar c.args.grammar.now) (trees c.loop-source.source.whole))
      c.loop-source.source.offset (template_of c.args.pattern.now) c.loop-source.invariant.comes.os
      c.follow_firsts.new.log c.follow_firsts.new.pass.frames.items
      (rest_at (trees c.loop-source.source.whole) c.loop-source.source.offset)
      c.follow_firsts.new.firsts.token_steps.items c.follow_firsts.new.firsts.ends.items
  are_firsts = c.in_ok-follow_firsts.ensures.firsts stack

  last_size : length c.follow_firsts.new.pass.last_visited.offsets.items ≡ state_count (template_of c.args.pattern.now)
  last_size = ap (λ (m : VisitedSet g.row.A.Denot). length m.offsets.items) c.in_ok-follow_firsts.ensures.other
      ∙ c.loop-source.invariant.last_size

  abbrev stack_of_lasts : IsLastStack
      (input_of (g.G.FragmentGrammar.grammar c.args.grammar.now) (trees c.loop-source.source.whole))
      (rest_at (trees c.loop-source.source.whole) c.loop-source.source.offset) c.loop-source.source.offset
      (length c.follow_firsts.new.pass.last_visited.offsets.items) c.follow_firsts.new.log
      c.follow_firsts.new.pass.frames.items c.loop-source.lasts.items
  stack_of_lasts = last_stack (at_offset g (goal.at.In_ok-follow_firsts g c).At-loop-source) last_size
      c.follow_firsts.new.log c.follow_firsts.new.pass.frames.items c.in_ok-follow_firsts.ensures.kept

pub follow_lasts-requires-clause-stack : goal.follow_lasts-requires-clause-stack
follow_lasts-requires-clause-stack g c =
    stack_of_lasts g (goal.at.follow_lasts-requires-clause-stack g c).In_ok-follow_firsts

pub follow_lasts-requires-clause-unvisited : goal.follow_lasts-requires-clause-unvisited
follow_lasts-requires-clause-unvisited g c =
    subst (λ (m : VisitedSet g.row.A.Denot). AreUnvisitedFrom m.offsets.items c.loop-source.source.offset)
    (sym c.in_ok-follow_firsts.ensures.other) c.loop-source.invariant.last_unvisited

-- what comes of the last of each, and what stays in the log
module _ (g : _) (c : In_ok-follow_lasts g) where
  are_lasts : AreLasts
      (input_of (g.G.FragmentGrammar.grammar c.args.grammar.now) (trees c.loop-source.source.whole))
      c.loop-source.source.offset (template_of c.args.pattern.now) c.loop-source.invariant.comes.ps
      c.follow_lasts.new.log c.follow_lasts.new.pass.frames.items
      (rest_at (trees c.loop-source.source.whole) c.loop-source.source.offset)
      c.follow_lasts.new.lasts.token_steps.items c.follow_lasts.new.lasts.failed
  are_lasts = c.in_ok-follow_lasts.ensures.lasts
      (stack_of_lasts g (goal.at.In_ok-follow_lasts g c).In_ok-follow_firsts)

  kept : KeepsHandles c.args.log.now c.follow_lasts.new.log
  kept = kept-on c.args.log.now c.loop-source.log c.follow_lasts.new.log c.loop-source.invariant.kept
      (kept-on c.loop-source.log c.follow_firsts.new.log c.follow_lasts.new.log
      c.in_ok-follow_firsts.ensures.kept.log c.in_ok-follow_lasts.ensures.kept.log)

-- the place is noted
error_at : (g : _) (c : After-finish_offset g) → IsReportOf c.follow_lasts.new.log (trees c.loop-source.source.whole)
    c.finish_offset.new.self.report []
    (model_notes (input_of (g.G.FragmentGrammar.grammar c.args.grammar.now) (trees c.loop-source.source.whole))
    (template_of c.args.pattern.now) c.loop-source.source.offset c.loop-source.invariant.comes.os
    c.loop-source.invariant.comes.ps c.loop-source.invariant.comes.before)
error_at g c =
    let here = goal.at.After-finish_offset g c in
    let first = here.In_ok-follow_firsts in
    let s = c.loop-source.source in
    let f = trees s.whole in
    let i = input_of (g.G.FragmentGrammar.grammar c.args.grammar.now) f in
    let comes = c.loop-source.invariant.comes in
    pass_notes i f (template_of c.args.pattern.now) s.offset comes.os comes.ps comes.before c.follow_firsts.new.log
    c.follow_lasts.new.log c.follow_firsts.new.pass.frames.items c.follow_lasts.new.pass.frames.items
    c.follow_firsts.new.firsts.token_steps.items c.follow_lasts.new.lasts.token_steps.items
    c.follow_firsts.new.firsts.ends.items c.deref-in-loop-source.result.now c.follow_lasts.new.lasts.failed
    c.follow_firsts.new.pass.report c.follow_lasts.new.pass.report c.finish_offset.new.self.report
    (are_firsts g first) (are_lasts g here.In_ok-follow_lasts) c.in_ok-follow_lasts.ensures.kept
    c.deref-in-loop-source.ensures.value c.in_ok-follow_lasts.ensures.report
    (c.in_ok-follow_firsts.ensures.notes (stack g first) comes.before comes.notes)
    (λ ms us cs fails. c.finish_offset.ensures.notes i c.follow_lasts.new.log ms us cs comes.before
    (subst (λ x. FirstFails i s.offset c.follow_lasts.new.log x us) (sym c.take.ensures.value) fails))

pub returns-then-source-stop-clause-report : goal.returns-then-source-stop-clause-report
returns-then-source-stop-clause-report g c =
    let here = goal.at.returns-then-source-stop-clause-report g c in
    let h = g.G.FragmentGrammar.grammar c.args.grammar.now in
    let s = c.loop-source.source in
    let f = trees s.whole in
    let pat = template_of c.args.pattern.now in
    let comes = c.loop-source.invariant.comes in
    let full : IsFullReport h pat f c.follow_lasts.new.log s.offset c.finish_offset.new.self.report = (
      model_notes (input_of h f) pat s.offset comes.os comes.ps comes.before,
      noted_at_stop (at_offset g here.At-loop-source),
      error_at g here.After-finish_offset,
    ) in
    subst (λ x. IsFullReport h pat (trees x) c.follow_lasts.new.log c.args.stop c.finish_offset.new.self.report)
    c.loop-source.invariant.whole
    (subst (λ q. IsFullReport h pat f c.follow_lasts.new.log q c.finish_offset.new.self.report) c.if-source-stop.true
    full)

pub returns-then-source-stop-clause-kept : goal.returns-then-source-stop-clause-kept
returns-then-source-stop-clause-kept g c =
    kept g (goal.at.returns-then-source-stop-clause-kept g c).In_ok-follow_lasts

-- ---- before the stop

-- the step that was read at the front of those that wait
module _ (g : _) (c : Else-source-stop g) where
  before : c.loop-source.source.offset < c.args.stop
  before =
      let far = c.if-source-stop.false in
      let near = c.loop-source.invariant.within in
      omega (arith, far, near)

  some : 0 < length c.follow_firsts.new.firsts.token_steps.items
  some = goes_some (at_offset g (goal.at.Else-source-stop g c).At-loop-source) before c.follow_firsts.new.log
      c.follow_firsts.new.pass.frames.items c.follow_firsts.new.firsts.token_steps.items
      c.follow_firsts.new.firsts.ends.items (are_firsts g (goal.at.Else-source-stop g c).In_ok-follow_firsts)

  step : (x : TokenStep g.row.A.Denot) → x ≡ get_or c.follow_firsts.new.firsts.token_steps.items 0 x
      → Goes (input_of (g.G.FragmentGrammar.grammar c.args.grammar.now) (trees c.loop-source.source.whole))
      (template_of c.args.pattern.now) (rest_at (trees c.loop-source.source.whole) c.loop-source.source.offset)
      c.loop-source.source.offset (flat_len (trees c.loop-source.source.whole)) c.args.stop
      c.loop-source.invariant.comes.os x
  step = goes_by (at_offset g (goal.at.Else-source-stop g c).At-loop-source) before c.follow_firsts.new.log
      c.follow_firsts.new.pass.frames.items c.follow_firsts.new.firsts.token_steps.items
      c.follow_firsts.new.firsts.ends.items (are_firsts g (goal.at.Else-source-stop g c).In_ok-follow_firsts)

pub index-requires : goal.index-requires
index-requires g c =
    let waits = some g (goal.at.index-requires g c).Else-source-stop in
    omega (arith, waits, c.follow_firsts.new.firsts.token_steps.ok.0)

pub after_step-requires-clause-fits : goal.after_step-requires-clause-fits
after_step-requires-clause-fits g c =
    let fits = (step g (goal.at.after_step-requires-clause-fits g c).Else-source-stop c.index.result.now
    c.index.ensures).fits in
    omega (arith, fits)

pub after_step-requires-clause-left : goal.after_step-requires-clause-left
after_step-requires-clause-left g c =
    (step g (goal.at.after_step-requires-clause-left g c).Else-source-stop c.index.result.now c.index.ensures).left

pub loop-source-smaller : goal.loop-source-smaller
loop-source-smaller g c =
    let t = step g (goal.at.loop-source-smaller g c).Else-source-stop c.index.result.now c.index.ensures in
    let some = t.some in
    let there = c.in_ok-source.ensures.offset in
    let near = t.within in
    omega (arith, some, there, near)

pub loop-source-preserved : goal.loop-source-preserved
loop-source-preserved g c =
    let here = goal.at.loop-source-preserved g c in
    let h = g.G.FragmentGrammar.grammar c.args.grammar.now in
    let s = c.loop-source.source in
    let f = trees s.whole in
    let i = input_of h f in
    let pat = template_of c.args.pattern.now in
    let inv = c.loop-source.invariant in
    let first = c.index.result.now in
    let t = step g here.Else-source-stop first c.index.ensures in
    let there = c.in_ok-source.ensures.offset in
    let some = t.some in
    let near = t.within in
    let tidied = c.in_ok-compact_if_due.ensures in
    let come_firsts = c.in_ok-push_firsts.ensures
    ∙ ap (λ l. l ++ reverse (map thread_after c.follow_lasts.new.lasts.token_steps.items))
    c.in_ok-follow_firsts.ensures.done in
    let come_lasts = c.in_ok-push_lasts.ensures
    ∙ ap (λ l. l ++ reverse (map visit_after c.follow_firsts.new.firsts.token_steps.items))
    c.in_ok-follow_lasts.ensures.done in
    let comes = pass_goes i f pat s.offset c.in_ok-source.source.offset first.width inv.comes.os inv.comes.ps
    inv.comes.before c.follow_firsts.new.log c.follow_lasts.new.log
    c.follow_firsts.new.pass.frames.items c.follow_lasts.new.pass.frames.items
    c.follow_firsts.new.firsts.token_steps.items
    c.follow_lasts.new.lasts.token_steps.items
    c.push_firsts.new.stack.items c.push_lasts.new.stack.items c.finish_offset.new.self.report inv.comes.follows
    c.in_ok-follow_lasts.ensures.kept (are_firsts g here.In_ok-follow_firsts).continues
    (are_lasts g here.In_ok-follow_lasts).continues come_firsts come_lasts t.wide there
    (error_at g here.After-finish_offset) in
    let here_now : PassAt i f pat c.in_ok-source.source.offset c.follow_lasts.new.log
    c.finish_offset.new.self.frames.items
    c.push_firsts.new.stack.items c.push_lasts.new.stack.items c.finish_offset.new.self.report =
    rw c.finish_offset.ensures.frames comes in
    let still = pass_still i f pat c.in_ok-source.source.offset c.follow_lasts.new.log c.compact_if_due.new.log
    c.finish_offset.new.self.frames.items c.compact_if_due.new.self.frames.items c.push_firsts.new.stack.items
    c.compact_if_due.new.firsts.items c.push_lasts.new.stack.items c.compact_if_due.new.lasts.items
    c.finish_offset.new.self.report
    c.compact_if_due.new.self.report tidied.firsts tidied.lasts tidied.report here_now in
    let first_visited = tidied.first_visited ∙ c.finish_offset.ensures.first_visited
    ∙ c.in_ok-follow_lasts.ensures.other in
    let last_visited = tidied.last_visited ∙ c.finish_offset.ensures.last_visited in
    record {
      comes = subst (λ x. PassAt (input_of h (trees x)) (trees x) pat c.in_ok-source.source.offset
          c.compact_if_due.new.log
          c.compact_if_due.new.self.frames.items c.compact_if_due.new.firsts.items c.compact_if_due.new.lasts.items
          c.compact_if_due.new.self.report)
          (sym c.in_ok-source.ensures.whole) still;
      whole = c.in_ok-source.ensures.whole ∙ inv.whole;
      within = omega (arith, there, near);
      first_size = ap (λ (m : VisitedSet g.row.A.Denot). length m.offsets.items) first_visited
          ∙ c.in_ok-follow_firsts.ensures.size
          ∙ inv.first_size;
      last_size = ap (λ (m : VisitedSet g.row.A.Denot). length m.offsets.items) last_visited
          ∙ c.in_ok-follow_lasts.ensures.size ∙ last_size g here.In_ok-follow_firsts;
      first_unvisited =
          λ q l. subst (λ (m : VisitedSet g.row.A.Denot). AreUnvisitedFrom m.offsets.items (s.offset + 1))
          (sym first_visited)
          c.in_ok-follow_firsts.ensures.unvisited q (omega (arith, l, there, some));
      last_unvisited = λ q l. subst (λ (m : VisitedSet g.row.A.Denot). AreUnvisitedFrom m.offsets.items (s.offset + 1))
          (sym last_visited) c.in_ok-follow_lasts.ensures.unvisited q (omega (arith, l, there, some));
      kept = tidied.start c.args.log.now (kept g here.In_ok-follow_lasts) inv.start;
      start = subst (λ (e : LogSize). HasAtMost e c.args.log.now) (sym tidied.extent) inv.start;
    }
