-- The stack of positions, from place to place.
use Rattle.std.proofs.Common.{ℕ, ◌+◌, ◌≡◌, ◌<◌, ◌≤◌, false, Option, Some, None, List, [], ◌∷◌, map, reverse, take}
use Rattle.std.proofs.Common.{length, get_or, refl, sym, ap, subst, ◌∙◌, arith}
use Rattle.std.specs.Prelude.{IfSome}
use Rattle.mbe_tt.specs.Trees.Tree.{Forest, flat_len, rest_at}
use Rattle.mbe_tt.specs.Grammars.Grammar.{Grammar, IsLawful}
use Rattle.mbe_semantics.specs.Syntax.Op.{Ops}
use Rattle.mbe_semantics.specs.Syntax.Nullable.{Checked}
use Rattle.mbe_semantics.specs.Readings.Input.{input_of}
use Rattle.mbe_semantics.specs.Readings.Verdict.{Verdict, IsVerdict, stop_of}
use Rattle.mbe_semantics.specs.Bindings.Account.{no_account, Log, Handle}
use Rattle.mbe_semantics.specs.Laws.Lawful.{Lawful}
use Rattle.mbe_semantics.specs.Matching.States.{state_count}
use Rattle.mbe_semantics.specs.Matching.ThreadModel.{ThreadModel, thread_model}
use Rattle.mbe_semantics.specs.Matching.Frontier.{ambiguity, after_of, first_width}
use Rattle.mbe_semantics.proofs.InputLemmas.{lawful_input}
use Rattle.mbe_laws.specs.Loop.StackClosure.{stack_moves}
use Rattle.mbe_laws.proofs.Loop.TurnedOffsets.{ComesTo, turned_start}
use Rattle.mbe_threads.specs.declared.stops.Stop.{Stop}
use Rattle.mbe_threads.specs.declared.thread.ThreadFrame.{ThreadFrame}
use Rattle.mbe_threads.specs.declared.thread.Thread.{Thread}
use Rattle.mbe_threads.specs.declared.thread.TokenStep.{TokenStep}
use Rattle.mbe_threads.specs.Remainder.{IsRemainder}
use Rattle.mbe_threads.specs.Stops.{thread_after, stop_at, verdict_in, reading_in}
use Rattle.mbe_matcher.specs.Threads.{Each, Shows, Keeps, IsBelow}
use Rattle.mbe_matcher.specs.Compaction.{ThreadsStay}
use Rattle.mbe_matcher.specs.MatchResults.{IsStack, IsAtStart, IsFrontier, Binds}
use Rattle.mbe_matcher.proofs.Keeping.{each_weaker, shows_keep}
use Rattle.mbe_matcher.proofs.StepLemmas.{only_cut}
use Rattle.mbe_matcher.proofs.MatchEnds.{right_stop, stop_offset, binds_stop, Next, next, shown_after}

-- The stack at a place stands for what comes there.
pub record CameTo {A : Type 0} (g : Grammar) (pattern : Ops) (argument : Forest) (q : ℕ) (log : Log)
    (frames : List (ThreadFrame A)) (todo : List (Thread A)) : Type 0 where
  pub thread_stack : List ThreadModel
  pub shown : Each (Shows log frames) todo thread_stack
  pub comes : (lawful : Lawful (input_of g argument) (flat_len argument)) (checked : Checked pattern)
      → ComesTo (input_of g argument) pattern (flat_len argument) lawful checked q thread_stack

abbrev pub came_first : {A : Type 0} (g : Grammar) (pattern : Ops) (argument : Forest) (log : Log)
    (frames : List (ThreadFrame A)) (todo : List (Thread A)) (q : ℕ) (p : Thread A) → q ≡ 0 → todo ≡ p ∷ []
    → IsAtStart log pattern p → CameTo g pattern argument q log frames todo
came_first g pattern argument log frames todo q p z e start = record {
  thread_stack = thread_model pattern no_account [] ∷ [];
  shown = subst (λ l. Each (Shows log frames) l (thread_model pattern no_account [] ∷ [])) (sym e) (start frames, tt);
  comes = λ lawful checked. subst (λ k. ComesTo (input_of g argument) pattern (flat_len argument) lawful checked k
      (thread_model pattern no_account [] ∷ [])) (sym z)
      (turned_start (input_of g argument) pattern (flat_len argument) lawful checked
      (thread_model pattern no_account [])
      refl);
}

-- what is settled at the place
abbrev pub came_stack : {A : Type 0} {g : Grammar} {pattern : Ops} {argument : Forest} {q size : ℕ} {log : Log}
    {frames : List (ThreadFrame A)} {todo : List (Thread A)} → IsLawful g → Checked pattern
    → CameTo g pattern argument q log frames todo → size ≡ state_count pattern
    → IsStack (input_of g argument) q size log frames todo
came_stack {g = g} {pattern = pattern} {argument = argument} lawful checked came d =
    let c = came.comes (lawful_input g argument lawful) checked in
    record {
      pattern = pattern;
      size_is = sym d;
      partial_readings = c.xs;
      thread_stack = came.thread_stack;
      stack = record { sound = c.mirrors.sound; same = c.same };
      shown = came.shown;
    }

-- it stays so as more is written
abbrev pub came_on : {A : Type 0} {g : Grammar} {pattern : Ops} {argument : Forest} {q : ℕ} {old new : Log}
    {before after : List (ThreadFrame A)} {todo : List (Thread A)} → Keeps old new before after
    → CameTo g pattern argument q old before todo → CameTo g pattern argument q new after todo
came_on {old = old} {new = new} {before = before} {after = after} {todo = todo} kept came = record {
  thread_stack = came.thread_stack;
  shown = each_weaker (Shows old before) (Shows new after) (shows_keep old new before after kept) todo came.thread_stack
      came.shown;
  comes = came.comes;
}

-- and where positions stand for the same in another log, with other open items
abbrev pub came_still : {A : Type 0} {g : Grammar} {pattern : Ops} {argument : Forest} {q : ℕ} {old new : Log}
    {before after : List (ThreadFrame A)} {ps qs : List (Thread A)} → ThreadsStay old new before after ps qs
    → CameTo g pattern argument q old before ps → CameTo g pattern argument q new after qs
came_still stay came = record {
  thread_stack = came.thread_stack;
  shown = stay came.thread_stack came.shown;
  comes = came.comes;
}

-- nor do open items count that no position comes to
abbrev pub came_cut : {A : Type 0} {g : Grammar} {pattern : Ops} {argument : Forest} {q : ℕ} {log : Log}
    {frames : List (ThreadFrame A)} {todo : List (Thread A)} (n : ℕ) (after : List (ThreadFrame A)) → after
    ≡ take n frames
    → (p : Thread A) → todo ≡ p ∷ [] → IsBelow p.up n → CameTo g pattern argument q log frames todo
    → CameTo g pattern argument q log after todo
came_cut {log = log} {frames = frames} {todo = todo} n after cut p only below came = record {
  thread_stack = came.thread_stack;
  shown = subst (λ us. Each (Shows log us) todo came.thread_stack) (sym cut)
      (only_cut log frames n todo p came.thread_stack only below came.shown);
  comes = came.comes;
}

-- What came of the stack at a place.
pub record SettledAt {A : Type 0} (g : Grammar) (pattern : Ops) (argument : Forest) (q : ℕ)
    (thread_stack : List ThreadModel)
    (log : Log) (frames : List (ThreadFrame A)) (ws : List (TokenStep A)) (hs : List Handle) : Type 0 where
  pub lawful : IsLawful g
  pub checked : Checked pattern
  pub comes : (l : Lawful (input_of g argument) (flat_len argument)) (k : Checked pattern)
      → ComesTo (input_of g argument) pattern (flat_len argument) l k q thread_stack
  pub within : q ≤ flat_len argument
  pub steps : IsFrontier (input_of g argument) q pattern thread_stack log frames (rest_at argument q) ws hs

-- How it goes on, with this step first.
pub record Onward {A : Type 0} (g : Grammar) (pattern : Ops) (argument : Forest) (q : ℕ)
    (thread_stack : List ThreadModel)
    (ws : List (TokenStep A)) (first : TokenStep A) : Type 0 where
  pub left : IsRemainder (rest_at argument q) first.width first.beyond
  pub reaches_next : (l : Lawful (input_of g argument) (flat_len argument)) (k : Checked pattern)
      → ComesTo (input_of g argument) pattern (flat_len argument) l k (q + first.width)
      (map after_of (stack_moves (input_of g argument) (state_count pattern) q (reverse thread_stack)))
  pub goes_over : first_width (stack_moves (input_of g argument) (state_count pattern) q (reverse thread_stack))
      ≡ Some first.width
  pub agrees : ambiguity (stack_moves (input_of g argument) (state_count pattern) q (reverse thread_stack)) ≡ false
  pub some : 0 < first.width
  pub fits : q + first.width ≤ flat_len argument

-- what `stopped` saw, of lists that are these
pub stop_seen : {A : Type 0} (o : Option Verdict) (q len : ℕ) (seen ws : List (TokenStep A)) (got hs : List Handle)
    → o ≡ stop_at q len seen got → seen ≡ ws → got ≡ hs → o ≡ stop_at q len ws hs
stop_seen o q len seen ws got hs e f h = e ∙ ap (λ l. stop_at q len l got) f ∙ ap (stop_at q len ws) h

module _ {A : Type 0} {g : Grammar} {pattern : Ops} {argument : Forest} {q : ℕ} {thread_stack : List ThreadModel}
    {log : Log}
    {frames : List (ThreadFrame A)} {ws : List (TokenStep A)} {hs : List Handle}
    (s : SettledAt g pattern argument q thread_stack log frames ws hs) where
  lawful : Lawful (input_of g argument) (flat_len argument)
  lawful = lawful_input g argument s.lawful

  pub frontier_verdict : (v : Verdict) → Some v ≡ stop_at q (flat_len argument) ws hs → IsVerdict g pattern argument v
  frontier_verdict v e =
      right_stop g pattern argument lawful s.checked q thread_stack (s.comes lawful s.checked) s.within log
      frames ws hs s.steps v e

  pub frontier_offset : (v : Verdict) → Some v ≡ stop_at q (flat_len argument) ws hs → stop_of argument v ≡ q
  frontier_offset v e =
      stop_offset g pattern argument lawful s.checked q thread_stack (s.comes lawful s.checked) s.within log
      frames ws hs s.steps v e

  pub frontier_binds : (t : Stop) → Some (verdict_in t) ≡ stop_at q (flat_len argument) ws hs
      → IfSome (reading_in t) (λ h. hs ≡ h ∷ []) → IfSome (reading_in t) (Binds g pattern argument log)
  frontier_binds t e only =
      binds_stop g pattern argument lawful s.checked q thread_stack (s.comes lawful s.checked) s.within
      log frames ws hs s.steps t e only

  module _ (e : None ≡ stop_at q (flat_len argument) ws hs) where
    goes : (l : Lawful (input_of g argument) (flat_len argument)) (k : Checked pattern)
        → Next g pattern argument l k q thread_stack (s.comes l k) s.within log frames ws hs s.steps
    goes l k = next g pattern argument l k q thread_stack (s.comes l k) s.within log frames ws hs s.steps e

    pub frontier_some : (seen : List (TokenStep A)) → seen ≡ ws → 0 < length seen
    frontier_some seen same =
        let n = goes lawful s.checked in
        let some : length seen ≡ length (n.first ∷ n.rest) = ap length (same ∙ n.is) in
        omega (arith, some)

    -- the first step is this one, which was read in the list
    pub frontier_onward : (x : TokenStep A) (seen : List (TokenStep A)) → seen ≡ ws → x ≡ get_or seen 0 x
        → Onward g pattern argument q thread_stack ws x
    frontier_onward x seen same at =
        let n = goes lawful s.checked in
        let is : x ≡ n.first = at ∙ ap (λ l. get_or l 0 x) (same ∙ n.is) in
        subst (Onward g pattern argument q thread_stack ws) (sym is)
        (record {
          left = n.left;
          reaches_next = λ l k.
              let m = goes l k in
              let one : n.first ∷ n.rest ≡ m.first ∷ m.rest = sym n.is ∙ m.is in
              let first : m.first ≡ n.first = cc in
              subst (λ (y : TokenStep A). ComesTo (input_of g argument) pattern (flat_len argument) l k (q + y.width)
              (map after_of (stack_moves (input_of g argument) (state_count pattern) q (reverse thread_stack)))) first
              m.reaches_next;
          goes_over = n.goes_over;
          agrees = n.agrees;
          some = n.some;
          fits = n.fits;
        })

  -- the stack at the next place, in the trees under another name
  abbrev pub came_next : (x : TokenStep A) → Onward g pattern argument q thread_stack ws x → (other : Forest)
      → other ≡ argument → (m : ℕ) → m ≡ q + x.width → (todo : List (Thread A)) → todo ≡ map thread_after ws
      → CameTo g pattern other m log frames todo
  came_next x n other same m at todo arrived = record {
    thread_stack = map after_of (stack_moves (input_of g argument) (state_count pattern) q (reverse thread_stack));
    shown = subst (λ l. Each (Shows log frames) l
        (map after_of (stack_moves (input_of g argument) (state_count pattern) q (reverse thread_stack)))) (sym arrived)
        (shown_after log frames (rest_at argument q) ws
        (stack_moves (input_of g argument) (state_count pattern) q (reverse thread_stack)) s.steps.continues);
    comes = subst (λ f. (l : Lawful (input_of g f) (flat_len f)) (k : Checked pattern)
        → ComesTo (input_of g f) pattern (flat_len f) l k m
        (map after_of (stack_moves (input_of g argument) (state_count pattern) q (reverse thread_stack)))) (sym same)
        (λ l k. subst (λ n. ComesTo (input_of g argument) pattern (flat_len argument) l k n
        (map after_of (stack_moves (input_of g argument) (state_count pattern) q (reverse thread_stack)))) (sym at)
        (n.reaches_next l k));
  }
