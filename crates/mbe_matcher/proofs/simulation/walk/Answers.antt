use Rattle.std.proofs.Common.{rules, vec_len, ◌≡◌, ◌<◌, ◌∙◌, ◌++◌, ◌∷◌, ℕ, false, Some, None, List, [], map, get_or}
use Rattle.std.proofs.Common.{reverse, length, refl, sym, ap, subst, arith}
use Rattle.std.specs.Prelude.{IfSome, IsSome}
use Rattle.mbe_tt.specs.Views.View.{trees}
use Rattle.mbe_tt.specs.Trees.Tree.{flat_len, tree_count, rest_at}
use Rattle.mbe_semantics.specs.Readings.Input.{input_of}
use Rattle.mbe_semantics.specs.Readings.Verdict.{IsVerdict, unmatched}
use Rattle.mbe_semantics.specs.Bindings.Account.{no_account}
use Rattle.mbe_semantics.specs.Laws.Lawful.{Lawful}
use Rattle.mbe_semantics.specs.Matching.States.{state_count}
use Rattle.mbe_semantics.specs.Matching.Closure.{closure}
use Rattle.mbe_semantics.specs.Matching.ThreadModel.{thread_model, erase}
use Rattle.mbe_semantics.specs.Matching.Frontier.{after_of}
use Rattle.mbe_semantics.proofs.InputLemmas.{lawful_input}
use Rattle.mbe_ops.specs.Views.{template_of}
use Rattle.mbe_log.specs.declared.log.LogSize.{LogSize}
use Rattle.mbe_bindings.specs.LogCompaction.{HasAtMost}
use Rattle.mbe_log.specs.HandleChanges.{KeepsHandles}
use Rattle.mbe_log.proofs.ClientLemmas.{kept-on}
use Rattle.mbe_laws.specs.Loop.StackClosure.{kept, stack_moves}
use Rattle.mbe_matcher.specs.declared.closure.MatchState.{MatchState}
use Rattle.mbe_threads.specs.declared.visit_counts.VisitCounts.{VisitCounts}
use Rattle.mbe_threads.specs.declared.thread.TokenStep.{TokenStep}
use Rattle.mbe_threads.specs.VisitCounts.{NoVisitsFrom}
use Rattle.mbe_matcher.specs.Threads.{open_items}
use Rattle.mbe_matcher.specs.Failures.{Notes, no_notes, noted_at, AreNotes}
use Rattle.mbe_matcher.specs.Reports.{IsReportOf, IsReportAt, MakesFrontier, AdvancesAlone, StepsAlone}
use Rattle.mbe_matcher.specs.MatchResults.{Binds, IsStackOf, states_in}
use Rattle.mbe_threads.specs.Stops.{thread_after, stop_at, verdict_in, reading_in}
use Rattle.mbe_matcher.proofs.Arriving.{came_first, came_stack, came_on, came_cut, came_still, came_next, SettledAt}
use Rattle.mbe_matcher.proofs.Arriving.{Onward, stop_seen, frontier_verdict, frontier_offset, frontier_binds}
use Rattle.mbe_matcher.proofs.Arriving.{frontier_some, frontier_onward}
use Rattle.mbe_matcher.proofs.Alone.{waits_on}
use Rattle.mbe_matcher.proofs.StepLemmas.{below_open, leads_within}
use Rattle.mbe_matcher.proofs.Reporting.{notes_keep}
use Rattle.mbe_matcher.proofs.Whole.{WholeWith, whole_first, whole_sound, whole_notes, whole_after}
use Rattle.mbe_matcher.proofs.simulation.walk.Goals as goal
use Rattle.mbe_matcher.proofs.simulation.walk.Goals.{In_ok-follow_epsilons, In-Some, In-Some-stop_reason}
use Rattle.mbe_matcher.proofs.simulation.walk.Goals.{In_default-stop_reason}

pub at_start-requires : goal.at_start-requires
at_start-requires g c =
    let counted : vec_len c.args.state.now.counts.marks ≡ length c.args.state.now.counts.marks.items = search rules in
    c.len.ensures ∙ (counted ∙ c.requires.fresh.size)

pub offsets-init : goal.offsets-init
offsets-init g c =
    let h = g.G.FragmentGrammar.grammar c.args.grammar.now in
    let s = c.new-source.result in
    let pat = template_of c.args.pattern.now in
    let p = c.in_ok-thread.thread in
    let fresh = c.requires.fresh in
    record {
      comes = (
        came_first h pat (trees s.whole) c.at_start.new.log c.args.state.now.frames.items c.push.new.self.items
            s.offset p c.new-source.ensures.offset
            (c.in_ok-push.ensures.ok ∙ ap (λ l. l ++ p ∷ []) fresh.none) c.in_ok-thread.ensures.start,
        no_notes,
        fresh.notes c.at_start.new.log (trees s.whole),
        λ clean. whole_first (input_of h (trees s.whole)) pat s.offset (thread_model pat no_account [])
            c.new-source.ensures.offset refl,
      );
      whole = c.new-source.ensures.whole;
      no_visits = λ q l. fresh.no_visits q (omega arith);
      size = fresh.size;
      kept = c.in_ok-thread.ensures.kept;
      start = c.new-room.ensures;
    }

-- ---- where an only position goes on

pub step_alone-requires : goal.step_alone-requires
step_alone-requires g c =
    let h = g.G.FragmentGrammar.grammar c.args.grammar.now in
    let inv = c.offsets.invariant in
    let size = states_in c.offsets.state in
    record {
      stack = (
        size,
        subst (IsStackOf h c.offsets.source size c.offsets.log c.offsets.state.frames.items) (sym c.as_slice.ensures)
            (came_stack (g.met.G.FragmentGrammar.lawful c.args.grammar.now) c.requires.checked inv.comes.0
            inv.size),
      );
    }

module _ (g : _) (c : In-Some g) where
  goes : AdvancesAlone (g.G.FragmentGrammar.grammar c.args.grammar.now) c.offsets.source
      (template_of c.args.pattern.now) c.offsets.invariant.comes.0.thread_stack c.step_alone.new.log
      c.step_alone.new.frames.items c.in-Some.next
  goes =
      let h = g.G.FragmentGrammar.grammar c.args.grammar.now in
      let size = states_in c.offsets.state in
      let steps = subst (λ n. IfSome n (StepsAlone h c.offsets.source c.offsets.log c.step_alone.new.log
      c.offsets.state.frames.items c.step_alone.new.frames.items c.as_slice.result.now)) c.in-Some.is
      c.in_ok-alone.ensures.alone in
      subst (λ l. (s : IsStackOf h c.offsets.source size c.offsets.log c.offsets.state.frames.items l)
      → AdvancesAlone h c.offsets.source s.pattern s.thread_stack c.step_alone.new.log c.step_alone.new.frames.items
      c.in-Some.next)
      c.as_slice.ensures (steps size)
      (came_stack (g.met.G.FragmentGrammar.lawful c.args.grammar.now) c.requires.checked c.offsets.invariant.comes.0
      c.offsets.invariant.size)

  gone : SettledAt (g.G.FragmentGrammar.grammar c.args.grammar.now) (template_of c.args.pattern.now)
      (trees c.offsets.source.whole) c.offsets.source.offset c.offsets.invariant.comes.0.thread_stack
      c.step_alone.new.log c.step_alone.new.frames.items (c.in-Some.next ∷ []) []
  gone = record {
    lawful = g.met.G.FragmentGrammar.lawful c.args.grammar.now;
    checked = c.requires.checked;
    comes = c.offsets.invariant.comes.0.comes;
    within = c.offsets.source.within;
    steps = goes.steps;
  }

  on : Onward (g.G.FragmentGrammar.grammar c.args.grammar.now) (template_of c.args.pattern.now)
      (trees c.offsets.source.whole) c.offsets.source.offset c.offsets.invariant.comes.0.thread_stack
      (c.in-Some.next ∷ []) c.in-Some.next
  on = frontier_onward gone (waits_on c.offsets.source.offset (flat_len (trees c.offsets.source.whole))
      c.in-Some.next (subst (λ n. IsSome n → c.offsets.source.offset < flat_len (trees c.offsets.source.whole))
      c.in-Some.is c.in_ok-alone.ensures.within refl)) c.in-Some.next (c.in-Some.next ∷ []) refl refl

pub advance_only-requires : goal.advance_only-requires
advance_only-requires g c =
    let here = (goal.at.advance_only-requires g c).In-Some in
    let n = on g here in
    let fits = n.fits in (
      omega arith,
      (
        omega (arith, fits),
        (
          n.left,
          leads_within c.step_alone.new.log c.step_alone.new.frames.items
              (rest_at (trees c.offsets.source.whole) c.offsets.source.offset) c.in-Some.next _
              (goes g here).steps.continues,
        ),
      ),
    )

pub offsets-smaller-in-Some : goal.offsets-smaller-in-Some
offsets-smaller-in-Some g c =
    let n = on g (goal.at.offsets-smaller-in-Some g c).In-Some in
    let fits = n.fits in
    let some = n.some in
    let at = c.in_ok-source.ensures.offset in
    let same = ap (λ x. flat_len (trees x)) c.in_ok-source.ensures.whole in
    omega (arith, fits, some, at, same)

pub offsets-preserved-in-Some : goal.offsets-preserved-in-Some
offsets-preserved-in-Some g c =
    let here = (goal.at.offsets-preserved-in-Some g c).In-Some in
    let h = g.G.FragmentGrammar.grammar c.args.grammar.now in
    let s = c.offsets.source in
    let i = input_of h (trees s.whole) in
    let pat = template_of c.args.pattern.now in
    let inv = c.offsets.invariant in
    let thread_stack = inv.comes.0.thread_stack in
    let next = c.in-Some.next in
    let n = on g here in
    let some = n.some in
    let at = c.in_ok-source.ensures.offset in
    let right = g.met.G.FragmentGrammar.lawful c.args.grammar.now in
    let lawful = lawful_input h (trees s.whole) right in
    let after = map after_of (stack_moves i (state_count pat) s.offset (reverse thread_stack)) in
    let arrived = c.in_ok-source.ensures.todo in
    record {
      comes = (
        came_cut (open_items next.after.up) c.advance_only.new.frames.items c.in_ok-source.ensures.frames next.after
            arrived (below_open next.after.up)
            (came_next (gone g here) next n (trees c.in_ok-source.source.whole)
            (ap (λ x. trees x) c.in_ok-source.ensures.whole) c.in_ok-source.source.offset at
            c.advance_only.new.todo.items arrived),
        inv.comes.1,
        subst (λ x. IsReportOf c.step_alone.new.log (trees x) c.offsets.state.report [] inv.comes.1)
            (sym c.in_ok-source.ensures.whole)
            (notes_keep c.offsets.log c.step_alone.new.log (trees s.whole) c.offsets.state.report [] inv.comes.1
            c.in_ok-alone.ensures.kept.log inv.comes.2),
        λ clean.
            let was = inv.comes.3 clean in
            let all = (goes g here).all right c.requires.checked was.xs
            (whole_sound _ _ _ lawful c.requires.checked _ _ _ was) was.same in
            subst (λ x. WholeWith (input_of h (trees x)) pat c.in_ok-source.source.offset after inv.comes.1)
            (sym c.in_ok-source.ensures.whole)
            (subst (WholeWith i pat c.in_ok-source.source.offset after) ((goes g here).notes inv.comes.1)
            (whole_after i pat (flat_len (trees s.whole)) lawful c.requires.checked s.offset thread_stack inv.comes.1
            was all
            c.in_ok-source.source.offset next.width n.goes_over n.agrees at)),
      );
      whole = c.in_ok-source.ensures.whole ∙ inv.whole;
      no_visits = λ q l. inv.no_visits q (omega (arith, l, at, some));
      size = inv.size;
      kept = kept-on c.args.log.now c.offsets.log c.step_alone.new.log inv.kept c.in_ok-alone.ensures.kept.log;
      start = inv.start;
    }

-- ---- at a place

pub follow_epsilons-requires : goal.follow_epsilons-requires
follow_epsilons-requires g c =
    let inv = c.offsets.invariant in
    let stack = came_stack (g.met.G.FragmentGrammar.lawful c.args.grammar.now) c.requires.checked
    (came_on c.in_ok-alone.ensures.kept inv.comes.0) inv.size in
    (omega arith, (omega arith, (stack, inv.no_visits)))

-- the state where no position goes on alone
abbrev passed : (g : _) (c : In_ok-follow_epsilons g) → MatchState g.row.A.Denot
passed g c = record {
  frames = c.step_alone.new.frames;
  counts = c.offsets.state.counts;
  report = c.offsets.state.report;
  has_dropped = c.offsets.state.has_dropped;
  followed = c.offsets.state.followed;
}

module _ (g : _) (c : In_ok-follow_epsilons g) where
  -- what is known of the positions, and of what they report
  settles : MakesFrontier (g.G.FragmentGrammar.grammar c.args.grammar.now) c.offsets.source
      (template_of c.args.pattern.now) c.offsets.invariant.comes.0.thread_stack c.step_alone.new.log
      c.follow_epsilons.new.log
      (passed g c) c.follow_epsilons.new.state c.follow_epsilons.new.frontier
  settles = c.in_ok-follow_epsilons.ensures.frontier
      (came_stack (g.met.G.FragmentGrammar.lawful c.args.grammar.now) c.requires.checked
      (came_on c.in_ok-alone.ensures.kept c.offsets.invariant.comes.0) c.offsets.invariant.size)

  frontier : SettledAt (g.G.FragmentGrammar.grammar c.args.grammar.now) (template_of c.args.pattern.now)
      (trees c.offsets.source.whole) c.offsets.source.offset c.offsets.invariant.comes.0.thread_stack
      c.follow_epsilons.new.log c.follow_epsilons.new.state.frames.items
      c.follow_epsilons.new.frontier.token_steps.items
      c.follow_epsilons.new.frontier.ends.items
  frontier = record {
    lawful = g.met.G.FragmentGrammar.lawful c.args.grammar.now;
    checked = c.requires.checked;
    comes = c.offsets.invariant.comes.0.comes;
    within = c.offsets.source.within;
    steps = settles.steps;
  }

  -- what is noted at the place and before it
  abbrev error_at : Notes
  error_at = noted_at (input_of (g.G.FragmentGrammar.grammar c.args.grammar.now) (trees c.offsets.source.whole))
      c.offsets.source.offset
      (kept (input_of (g.G.FragmentGrammar.grammar c.args.grammar.now) (trees c.offsets.source.whole))
      (state_count (template_of c.args.pattern.now)) c.offsets.source.offset
      (reverse c.offsets.invariant.comes.0.thread_stack)) c.offsets.invariant.comes.1

  lawful : Lawful (input_of (g.G.FragmentGrammar.grammar c.args.grammar.now) (trees c.offsets.source.whole))
      (flat_len (trees c.offsets.source.whole))
  lawful = lawful_input (g.G.FragmentGrammar.grammar c.args.grammar.now) (trees c.offsets.source.whole)
      (g.met.G.FragmentGrammar.lawful c.args.grammar.now)

  -- as long as none was dropped, all that is held is followed
  whole : c.follow_epsilons.new.state.has_dropped ≡ false
      → (was : WholeWith (input_of (g.G.FragmentGrammar.grammar c.args.grammar.now) (trees c.offsets.source.whole))
      (template_of c.args.pattern.now) c.offsets.source.offset c.offsets.invariant.comes.0.thread_stack
      c.offsets.invariant.comes.1)
      × (kept (input_of (g.G.FragmentGrammar.grammar c.args.grammar.now) (trees c.offsets.source.whole))
      (state_count (template_of c.args.pattern.now)) c.offsets.source.offset
      (reverse c.offsets.invariant.comes.0.thread_stack)
      ≡ map erase (closure (input_of (g.G.FragmentGrammar.grammar c.args.grammar.now)
      (trees c.offsets.source.whole)) c.offsets.source.offset was.xs))
  whole clean =
      let follows = settles.all clean in
      let was = c.offsets.invariant.comes.3 follows.0 in (
        was,
        follows.1 c.requires.checked was.xs (whole_sound _ _ _ lawful c.requires.checked _ _ _ was) was.same,
      )

  -- nothing is lost
  kept_here : KeepsHandles c.args.log.now c.follow_epsilons.new.log
  kept_here = kept-on c.args.log.now c.step_alone.new.log c.follow_epsilons.new.log
      (kept-on c.args.log.now c.offsets.log c.step_alone.new.log c.offsets.invariant.kept
      c.in_ok-alone.ensures.kept.log)
      c.in_ok-follow_epsilons.ensures.kept.log

  -- nor is what was reported
  reported : IsReportOf c.step_alone.new.log (trees c.offsets.source.whole) c.offsets.state.report []
      c.offsets.invariant.comes.1
  reported = notes_keep c.offsets.log c.step_alone.new.log (trees c.offsets.source.whole) c.offsets.state.report []
      c.offsets.invariant.comes.1 c.in_ok-alone.ensures.kept.log c.offsets.invariant.comes.2

-- it stops there
stops : (g : _) (c : In-Some-stop_reason g) → Some (verdict_in c.in-Some-stop_reason.stop)
    ≡ stop_at c.offsets.source.offset (flat_len (trees c.offsets.source.whole))
    c.follow_epsilons.new.frontier.token_steps.items c.follow_epsilons.new.frontier.ends.items
stops g c = stop_seen (Some (verdict_in c.in-Some-stop_reason.stop)) c.offsets.source.offset
    (flat_len (trees c.offsets.source.whole)) c.deref.result.now
    c.follow_epsilons.new.frontier.token_steps.items c.deref-in-offsets.result.now
    c.follow_epsilons.new.frontier.ends.items
    c.in-Some-stop_reason.ensures.stop c.deref.ensures c.deref-in-offsets.ensures

-- or not
stays : (g : _) (c : In_default-stop_reason g) → None
    ≡ stop_at c.offsets.source.offset (flat_len (trees c.offsets.source.whole))
    c.follow_epsilons.new.frontier.token_steps.items c.follow_epsilons.new.frontier.ends.items
stays g c = stop_seen None c.offsets.source.offset (flat_len (trees c.offsets.source.whole))
    c.deref.result.now c.follow_epsilons.new.frontier.token_steps.items c.deref-in-offsets.result.now
    c.follow_epsilons.new.frontier.ends.items c.in_default-stop_reason.ensures.stop c.deref.ensures
    c.deref-in-offsets.ensures

pub returns-in-Some-stop_reason-clause-verdict : goal.returns-in-Some-stop_reason-clause-verdict
returns-in-Some-stop_reason-clause-verdict g c =
    let here = goal.at.returns-in-Some-stop_reason-clause-verdict g c in
    let v = verdict_in c.in-Some-stop_reason.stop in
    subst (λ x. IsVerdict (g.G.FragmentGrammar.grammar c.args.grammar.now) (template_of c.args.pattern.now) (trees x) v)
    c.offsets.invariant.whole (frontier_verdict (frontier g here.In_ok-follow_epsilons) v
    (stops g here.In-Some-stop_reason))

pub returns-in-Some-stop_reason-clause-unmatched : goal.returns-in-Some-stop_reason-clause-unmatched
returns-in-Some-stop_reason-clause-unmatched g c =
    let here = goal.at.returns-in-Some-stop_reason-clause-unmatched g c in
    let v = verdict_in c.in-Some-stop_reason.stop in
    c.remaining_trees.ensures
    ∙ subst (λ x. tree_count (rest_at (trees c.offsets.source.whole) c.offsets.source.offset) ≡ unmatched (trees x) v)
    c.offsets.invariant.whole
    (ap (λ (n : ℕ). tree_count (rest_at (trees c.offsets.source.whole) n))
    (sym (frontier_offset (frontier g here.In_ok-follow_epsilons) v (stops g here.In-Some-stop_reason))))

pub returns-in-Some-stop_reason-clause-binds : goal.returns-in-Some-stop_reason-clause-binds
returns-in-Some-stop_reason-clause-binds g c =
    let here = goal.at.returns-in-Some-stop_reason-clause-binds g c in
    let only = subst (λ l. IfSome (reading_in c.in-Some-stop_reason.stop) (λ h. l ≡ h ∷ [])) c.deref-in-offsets.ensures
    c.in-Some-stop_reason.ensures.reading in
    subst (λ x. IfSome (reading_in c.in-Some-stop_reason.stop)
    (Binds (g.G.FragmentGrammar.grammar c.args.grammar.now) (template_of c.args.pattern.now) (trees x)
    c.follow_epsilons.new.log)) c.offsets.invariant.whole
    (frontier_binds (frontier g here.In_ok-follow_epsilons) c.in-Some-stop_reason.stop
    (stops g here.In-Some-stop_reason) only)

pub returns-in-Some-stop_reason-clause-kept : goal.returns-in-Some-stop_reason-clause-kept
returns-in-Some-stop_reason-clause-kept g c =
    kept_here g (goal.at.returns-in-Some-stop_reason-clause-kept g c).In_ok-follow_epsilons

pub returns-in-Some-stop_reason-clause-notes : goal.returns-in-Some-stop_reason-clause-notes
returns-in-Some-stop_reason-clause-notes g c =
    let here = goal.at.returns-in-Some-stop_reason-clause-notes g c in
    let h = g.G.FragmentGrammar.grammar c.args.grammar.now in
    let s = c.offsets.source in
    let pat = template_of c.args.pattern.now in
    let inv = c.offsets.invariant in
    let at = here.In_ok-follow_epsilons in
    let stop =
    frontier_offset (frontier g at) (verdict_in c.in-Some-stop_reason.stop) (stops g here.In-Some-stop_reason) in
    subst (λ x. IsReportAt h pat (trees x) c.follow_epsilons.new.log c.in-Some-stop_reason.stop
    c.follow_epsilons.new.state) inv.whole
    (λ clean.
    let all = whole g at clean in (
      error_at g at,
      subst (λ k. AreNotes (input_of h (trees s.whole)) pat k (error_at g at)) (sym stop)
          (whole_notes (input_of h (trees s.whole)) pat (flat_len (trees s.whole)) (lawful g at) c.requires.checked
          s.offset inv.comes.0.thread_stack inv.comes.1 all.0 all.1),
      (settles g at).notes inv.comes.1 (reported g at),
    ))

pub bounds-deref-0 : goal.bounds-deref-0
bounds-deref-0 g c =
    let here = goal.at.bounds-deref-0 g c in
    frontier_some (frontier g here.In_ok-follow_epsilons) (stays g here.In_default-stop_reason)
    c.deref-in-offsets-2.result.now
    c.deref-in-offsets-2.ensures

-- it goes on, with the step at the front of what was read
onward : (g : _) (c : In_default-stop_reason g) (x : TokenStep g.row.A.Denot) (seen : List (TokenStep g.row.A.Denot))
    → seen ≡ c.follow_epsilons.new.frontier.token_steps.items → x ≡ get_or seen 0 x
    → Onward (g.G.FragmentGrammar.grammar c.args.grammar.now) (template_of c.args.pattern.now)
    (trees c.offsets.source.whole) c.offsets.source.offset c.offsets.invariant.comes.0.thread_stack
    c.follow_epsilons.new.frontier.token_steps.items x
onward g c x seen same is =
    frontier_onward (frontier g (goal.at.In_default-stop_reason g c).In_ok-follow_epsilons) (stays g c) x seen same is

pub advance_all-requires : goal.advance_all-requires
advance_all-requires g c =
    let n = onward g (goal.at.advance_all-requires g c).In_default-stop_reason c.index-deref-0.result
    c.deref-in-offsets-2.result.now c.deref-in-offsets-2.ensures c.index-deref-0.is in
    let fits = n.fits in
    (omega arith, (omega (arith, fits), n.left))

pub offsets-smaller : goal.offsets-smaller
offsets-smaller g c =
    let n = onward g (goal.at.offsets-smaller g c).In_default-stop_reason c.index-deref-0.result
    c.deref-in-offsets-2.result.now c.deref-in-offsets-2.ensures c.index-deref-0.is in
    let fits = n.fits in
    let some = n.some in
    let at = c.in_ok-source-2.ensures.offset in
    let same = ap (λ x. flat_len (trees x)) c.in_ok-source-2.ensures.whole in
    omega (arith, fits, some, at, same)

pub offsets-preserved : goal.offsets-preserved
offsets-preserved g c =
    let here = goal.at.offsets-preserved g c in
    let h = g.G.FragmentGrammar.grammar c.args.grammar.now in
    let s = c.offsets.source in
    let i = input_of h (trees s.whole) in
    let pat = template_of c.args.pattern.now in
    let inv = c.offsets.invariant in
    let thread_stack = inv.comes.0.thread_stack in
    let ws = c.follow_epsilons.new.frontier.token_steps.items in
    let step = c.index-deref-0.result in
    let n = onward g here.In_default-stop_reason step c.deref-in-offsets-2.result.now c.deref-in-offsets-2.ensures
    c.index-deref-0.is in
    let some = n.some in
    let at = c.in_ok-source-2.ensures.offset in
    let offset = here.In_ok-follow_epsilons in
    let tidied = c.in_ok-source-2.ensures in
    let push_next = c.follow_epsilons.new.todo.items ++ map thread_after c.deref-in-offsets-3.result.now in
    let arrived : push_next ≡ map thread_after ws =
    ap (λ l. c.follow_epsilons.new.todo.items ++ map thread_after l) c.deref-in-offsets-3.ensures
    ∙ ap (λ l. l ++ map thread_after ws) c.in_ok-follow_epsilons.ensures.done in
    record {
      comes = (
        came_still tidied.threads
            (came_next (frontier g offset) step n (trees c.in_ok-source-2.source.whole)
            (ap (λ x. trees x) c.in_ok-source-2.ensures.whole) c.in_ok-source-2.source.offset at
            push_next arrived),
        error_at g offset,
        subst (λ x. IsReportOf c.advance_all.new.log (trees x) c.advance_all.new.state.report [] (error_at g offset))
            (sym c.in_ok-source-2.ensures.whole)
            (tidied.report (trees s.whole) [] (error_at g offset)
            ((settles g offset).notes inv.comes.1 (reported g offset))),
        λ clean.
            let all = whole g offset (sym tidied.dropped ∙ clean) in
            subst (λ x. WholeWith (input_of h (trees x)) pat c.in_ok-source-2.source.offset
            (map after_of (stack_moves i (state_count pat) s.offset (reverse thread_stack))) (error_at g offset))
            (sym c.in_ok-source-2.ensures.whole)
            (whole_after i pat (flat_len (trees s.whole)) (lawful g offset) c.requires.checked s.offset thread_stack
            inv.comes.1 all.0 all.1 c.in_ok-source-2.source.offset step.width n.goes_over n.agrees at),
      );
      whole = c.in_ok-source-2.ensures.whole ∙ inv.whole;
      no_visits = subst (λ (k : VisitCounts g.row.A.Denot). NoVisitsFrom k.marks.items c.in_ok-source-2.source.offset)
          (sym tidied.counts) (λ q l. c.in_ok-follow_epsilons.ensures.no_visits q (omega (arith, l, at, some)));
      size = ap (λ (k : VisitCounts g.row.A.Denot). length k.marks.items) tidied.counts
          ∙ c.in_ok-follow_epsilons.ensures.size
          ∙ inv.size;
      kept = tidied.start c.args.log.now (kept_here g offset) inv.start;
      start = subst (λ (e : LogSize). HasAtMost e c.args.log.now) (sym tidied.extent) inv.start;
    }
