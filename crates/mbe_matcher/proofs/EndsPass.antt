-- The second pass, from place to place.
use Rattle.std.proofs.Common.{ℕ, ◌+◌, ◌≡◌, ◌<◌, ◌≤◌, inl, inr, Option, Some, None, List, [], ◌∷◌, ◌++◌, map, reverse}
use Rattle.std.proofs.Common.{length, get_or, refl, sym, ap, subst, ◌∙◌, arith}
use Rattle.std.specs.List.{filter_map}
use Rattle.std.proofs.lemmas.List.{reverse-append}
use Rattle.mbe_tt.specs.Trees.Tree.{Forest, flat_len, rest_at}
use Rattle.mbe_tt.specs.Grammars.Grammar.{Grammar, IsLawful}
use Rattle.mbe_semantics.specs.Syntax.Op.{Ops}
use Rattle.mbe_semantics.specs.Syntax.Nullable.{Checked}
use Rattle.mbe_semantics.specs.Readings.Input.{Input, input_of}
use Rattle.mbe_semantics.specs.Readings.Reading.{PartialReading, EndsAt}
use Rattle.mbe_semantics.specs.Readings.Verdict.{stop_of}
use Rattle.mbe_semantics.specs.Bindings.Account.{Commands, Log, Handle, no_account}
use Rattle.mbe_semantics.specs.Matching.Lists.{In}
use Rattle.mbe_semantics.specs.Matching.States.{state_count}
use Rattle.mbe_semantics.specs.Matching.ThreadModel.{ThreadModel, thread_model, Advance, advance, erase, finished_of}
use Rattle.mbe_semantics.specs.Matching.Frontier.{after_of, first_width}
use Rattle.mbe_matcher.specs.declared.report_pass.FailedThread.{FailedThread}
use Rattle.mbe_matcher.specs.declared.report_pass.Visit as declared
use Rattle.mbe_matcher.specs.declared.report_pass.Visit.TheVariants as variants
use Rattle.mbe_threads.specs.declared.thread.ThreadFrame.{ThreadFrame}
use Rattle.mbe_threads.specs.declared.thread.Thread.{Thread}
use Rattle.mbe_threads.specs.declared.thread.TokenStep.{TokenStep}
use Rattle.mbe_matcher.specs.declared.match_report.MatchReport.{MatchReport}
use Rattle.mbe_matcher.specs.Compaction.{ThreadsStay, VisitsStay, ReportStays}
use Rattle.mbe_matcher.specs.Threads.{Each, Shows, LeadsTo, Holds, Keeps}
use Rattle.mbe_threads.specs.Remainder.{IsRemainder}
use Rattle.mbe_matcher.specs.Failures.{Mismatch, Notes, no_notes, mismatch, noted_with, AreNotes}
use Rattle.mbe_matcher.specs.Reports.{IsReportOf}
use Rattle.mbe_matcher.specs.MatchResults.{IsAtStart}
use Rattle.mbe_threads.specs.Stops.{thread_after}
use Rattle.mbe_matcher.specs.FirstAndLast.{enter, only_first, model_first, model_back, first_moves, back_moves}
use Rattle.mbe_matcher.specs.FirstAndLast.{model_notes, EndsFollow, follow_start, follow_next}
use Rattle.mbe_matcher.specs.ReportPass.{IsHere, VisitShows, IsFirstStack, IsLastStack, AreFirsts, AreLasts, FirstFails}
use Rattle.mbe_matcher.specs.ReportPass.{visit_after, IsStop}
use Rattle.mbe_matcher.proofs.Keeping.{each_weaker, each_append, leads_keep, holds_keep}
use Rattle.mbe_matcher.proofs.KeptEnds.{ReportPass, passes, model_pass}
use Rattle.mbe_matcher.proofs.LastWalk.{visits_keep}
use Rattle.mbe_matcher.proofs.MatchEnds.{same_width, shown_after, first_left}
use Rattle.mbe_matcher.proofs.Reporting.{notes_keep}
use Rattle.mbe_matcher.proofs.StopOffsets.{continues, stop_within}

each_reverse : {X Y : Type 0} (R : X → Y → Type 0) (xs : List X) (ys : List Y) → Each R xs ys
    → Each R (reverse xs) (reverse ys)
each_reverse R [] [] e = tt
each_reverse R [] (y ∷ ys) e = absurd e
each_reverse R (x ∷ xs) [] e = absurd e
each_reverse R (x ∷ xs) (y ∷ ys) e =
    subst (λ l. Each R l (reverse (y ∷ ys))) (sym (reverse-append (x ∷ []) xs))
    (subst (Each R (reverse xs ++ x ∷ [])) (sym (reverse-append (y ∷ []) ys))
    (each_append R (reverse xs) (x ∷ []) (reverse ys) (y ∷ []) (each_reverse R xs ys e.1) (e.0, tt)))

-- the outlines of beginnings that end here
here_of : (i : Input) (pattern : Ops) (q : ℕ) (xs : List PartialReading)
    → ((x : PartialReading) → In x xs → EndsAt i pattern q x)
    → (o : ThreadModel) → In o (map erase xs) → IsHere i pattern q o
here_of i pattern q [] a o m = absurd m
here_of i pattern q (x ∷ xs) a o (inl e) = (x, a x (inl refl), sym e)
here_of i pattern q (x ∷ xs) a o (inr m) = here_of i pattern q xs (λ y h. a y (inr h)) o m

-- The stacks at a place stand for what comes there for each of the two walks.
pub record PassAt {A : Type 0} (i : Input) (argument : Forest) (pattern : Ops) (q : ℕ) (log : Log)
    (frames : List (ThreadFrame A)) (firsts : List (Thread A)) (lasts : List (declared.Visit A))
    (r : MatchReport A) : Type 0 where
  pub os : List ThreadModel
  pub ps : List ThreadModel
  pub before : Notes
  pub follows : EndsFollow i pattern q os ps before
  pub first_shown : Each (Shows log frames) firsts (reverse os)
  pub last_shown : Each (VisitShows i (rest_at argument q) q log frames) lasts (reverse (map enter ps))
  pub notes : IsReportOf log argument r [] before

pub pass_begins : {A : Type 0} (i : Input) (argument : Forest) (pattern : Ops) (q : ℕ) (log : Log)
    (frames : List (ThreadFrame A)) (firsts : List (Thread A)) (lasts : List (declared.Visit A)) (r : MatchReport A)
    (p u : Thread A) → q ≡ 0 → firsts ≡ u ∷ [] → u ≡ p → lasts ≡ variants.Enter p ∷ [] → IsAtStart log pattern p
    → IsReportOf log argument r [] no_notes → PassAt i argument pattern q log frames firsts lasts r
pass_begins i argument pattern q log frames firsts lasts r p u z e same d start notes = record {
  os = thread_model pattern no_account [] ∷ [];
  ps = thread_model pattern no_account [] ∷ [];
  before = no_notes;
  follows =
      subst (λ k. EndsFollow i pattern k (thread_model pattern no_account [] ∷ []) (thread_model pattern no_account []
      ∷ [])
      no_notes) (sym z) follow_start;
  first_shown = subst (λ l. Each (Shows log frames) l (thread_model pattern no_account [] ∷ []))
      (sym (e ∙ ap (λ x. x ∷ []) same)) (start frames, tt);
  last_shown = subst (λ l. Each (VisitShows i (rest_at argument q) q log frames) l
      (enter (thread_model pattern no_account []) ∷ [])) (sym d) (start frames, tt);
  notes = notes;
}

-- so they do in another log, where positions stand for the same
pub pass_still : {A : Type 0} (i : Input) (argument : Forest) (pattern : Ops) (q : ℕ) (old new : Log)
    (before after : List (ThreadFrame A)) (ps qs : List (Thread A)) (us vs : List (declared.Visit A))
    (r s : MatchReport A)
    → ThreadsStay old new before after ps qs → VisitsStay old new before after us vs → ReportStays old new r s
    → PassAt i argument pattern q old before ps us r → PassAt i argument pattern q new after qs vs s
pass_still i argument pattern q old new before after ps qs us vs r s firsts lasts report at = record {
  os = at.os;
  ps = at.ps;
  before = at.before;
  follows = at.follows;
  first_shown = firsts (reverse at.os) at.first_shown;
  last_shown = lasts i (rest_at argument q) q (reverse (map enter at.ps)) at.last_shown;
  notes = report argument [] at.before at.notes;
}

-- ---- what the two walks are given

-- The pass is at a place, up to the stop.
pub record AtPlace {A : Type 0} (g : Grammar) (pattern : Ops) (argument : Forest) (q stop : ℕ) (log : Log)
    (frames : List (ThreadFrame A)) (firsts : List (Thread A)) (lasts : List (declared.Visit A)) (r : MatchReport A)
    : Type 0 where
  pub lawful : IsLawful g
  pub checked : Checked pattern
  pub stops : IsStop g pattern argument stop
  pub within : q ≤ stop
  pub now : PassAt (input_of g argument) argument pattern q log frames firsts lasts r

module _ {A : Type 0} {g : Grammar} {pattern : Ops} {argument : Forest} {q stop : ℕ} {log : Log}
    {frames : List (ThreadFrame A)} {firsts : List (Thread A)} {lasts : List (declared.Visit A)} {r : MatchReport A}
    (p : AtPlace g pattern argument q stop log frames firsts lasts r) where
  within : q ≤ stop_of argument p.stops.0
  within = subst (λ k. q ≤ k) p.stops.2 p.within

  pass : ReportPass g pattern argument p.lawful p.checked q p.now.os p.now.ps p.now.before
  pass = passes g pattern argument p.lawful p.checked p.stops.0 p.stops.1 p.now.follows within

  pub firsts_here : (o : ThreadModel) → In o p.now.os → IsHere (input_of g argument) pattern q o
  firsts_here o m = here_of (input_of g argument) pattern q pass.fs pass.fs_at o (subst (In o) (sym pass.firsts_are) m)

  pub lasts_here : (o : ThreadModel) → In o p.now.ps → IsHere (input_of g argument) pattern q o
  lasts_here o m = here_of (input_of g argument) pattern q pass.bs pass.bs_at o (subst (In o) (sym pass.lasts_are) m)

  abbrev pub first_stack : {size : ℕ} → size ≡ state_count pattern
      → IsFirstStack (input_of g argument) q size log frames firsts
  first_stack d = record {
    pattern = pattern;
    size_is = sym d;
    models = p.now.os;
    here = firsts_here;
    shown = p.now.first_shown;
  }

  -- after the walk over the first of each
  abbrev pub last_stack : {size : ℕ} → size ≡ state_count pattern → (new : Log) (after : List (ThreadFrame A))
      → Keeps log new frames after →
      IsLastStack (input_of g argument) (rest_at argument q) q size new after lasts
  last_stack d new after k = record {
    pattern = pattern;
    size_is = sym d;
    models = p.now.ps;
    are_here = lasts_here;
    shown = each_weaker (VisitShows (input_of g argument) (rest_at argument q) q log frames)
        (VisitShows (input_of g argument) (rest_at argument q) q new after)
        (visits_keep (input_of g argument) (rest_at argument q) q log new frames after k) lasts
        (reverse (map enter p.now.ps)) p.now.last_shown;
  }

  -- at the stop, what is noted is what all beginnings note
  pub noted_at_stop : AreNotes (input_of g argument) pattern q
      (model_notes (input_of g argument) pattern q p.now.os p.now.ps p.now.before)
  noted_at_stop = (model_pass g pattern argument p.lawful p.checked p.stops.0 p.stops.1 q within
      (model_notes (input_of g argument) pattern q p.now.os p.now.ps p.now.before)).1
      (p.now.os, p.now.ps, p.now.before, p.now.follows, refl)

-- ---- how it goes on

module _ {A : Type 0} (log : Log) (frames : List (ThreadFrame A)) (here : Forest) where
  -- the first of the steps, which is this wide
  pub first_step : (ws : List (TokenStep A)) (goes : List Advance) (n : ℕ) → Each (LeadsTo log frames here) ws goes
      → first_width goes ≡ Some n →
      (x : TokenStep A) × (rest : List (TokenStep A)) × (ws ≡ x ∷ rest) × (x.width ≡ n)
      × IsRemainder here x.width x.beyond
  first_step [] goes n e f = let no : Some n ≡ None = sym f ∙ same_width log frames here [] goes e in cc
  first_step (x ∷ rest) goes n e f =
      let wide : Some x.width ≡ Some n = sym (same_width log frames here (x ∷ rest) goes e) ∙ f in
      (x, rest, refl, cc, first_left log frames here x rest goes e)

  entered_after : (i : Input) (there : Forest) (q : ℕ) (ws : List (TokenStep A)) (goes : List Advance)
      → Each (LeadsTo log frames here) ws goes →
      Each (VisitShows i there q log frames) (map visit_after ws) (map enter (map after_of goes))
  entered_after i there q [] [] e = tt
  entered_after i there q [] (a ∷ goes) e = absurd e
  entered_after i there q (w ∷ ws) [] e = absurd e
  entered_after i there q (w ∷ ws) (advance m g o ∷ goes) e = (e.0.after, entered_after i there q ws goes e.1)

-- the first step of those that go on before the stop
pub record Goes {A : Type 0} (i : Input) (pattern : Ops) (here : Forest) (q len stop : ℕ) (os : List ThreadModel)
    (first : TokenStep A) : Type 0 where
  pub wide : first_width (first_moves i (state_count pattern) q os) ≡ Some first.width
  pub left : IsRemainder here first.width first.beyond
  pub some : 0 < first.width
  pub within : q + first.width ≤ stop
  pub fits : q + first.width ≤ len

module _ {A : Type 0} {g : Grammar} {pattern : Ops} {argument : Forest} {q stop : ℕ} {log : Log}
    {frames : List (ThreadFrame A)} {firsts : List (Thread A)} {lasts : List (declared.Visit A)} {r : MatchReport A}
    (p : AtPlace g pattern argument q stop log frames firsts lasts r) (before : q < stop) (new : Log)
    (after : List (ThreadFrame A)) (ws : List (TokenStep A)) (hs : List Handle)
    (f : AreFirsts (input_of g argument) q pattern p.now.os new after (rest_at argument q) ws hs) where
  goes : (x : TokenStep A) × (rest : List (TokenStep A)) × (ws ≡ x ∷ rest)
      × Goes (input_of g argument) pattern (rest_at argument q) q (flat_len argument) stop p.now.os x
  goes =
      let v = p.stops.0 in
      let is = p.stops.1 in
      let same = p.stops.2 in
      let t = continues g pattern argument p.lawful p.checked v is q p.now.os p.now.ps p.now.before p.now.follows
      (subst (λ k. q < k) same before) in
      let x = first_step new after (rest_at argument q) ws
      (first_moves (input_of g argument) (state_count pattern) q p.now.os)
      t.width f.continues t.is in
      let most : stop_of argument v ≤ flat_len argument =
      stop_within g pattern argument p.lawful p.checked v is in
      let within : q + x.0.width ≤ stop = subst (λ k. q + x.0.width ≤ k) (sym same)
      (subst (λ n. q + n ≤ stop_of argument v) (sym x.3) t.within) in (
        x.0,
        x.1,
        x.2,
        record {
          wide = t.is ∙ ap (λ n. Some n) (sym x.3);
          left = x.4;
          some = subst (λ n. 0 < n) (sym x.3) t.some;
          within = within;
          fits = omega (arith, most, within, same);
        },
      )

  pub goes_some : 0 < length ws
  goes_some =
      let some : length ws ≡ length (goes.0 ∷ goes.1) = ap length goes.2 in
      omega (arith, some)

  -- it is this one, which was read in the list
  pub goes_by : (x : TokenStep A) → x ≡ get_or ws 0 x
      → Goes (input_of g argument) pattern (rest_at argument q) q (flat_len argument) stop p.now.os x
  goes_by x at = subst (Goes (input_of g argument) pattern (rest_at argument q) q (flat_len argument) stop p.now.os)
      (sym (at ∙ ap (λ l. get_or l 0 x) goes.2)) goes.3

-- the place is noted
pub pass_notes : {A : Type 0} (i : Input) (argument : Forest) (pattern : Ops) (q : ℕ) (os ps : List ThreadModel)
    (before : Notes) (between log : Log) (middle frames : List (ThreadFrame A))
    (fw lw : List (TokenStep A)) (ends hs : List Handle) (failed : Option (FailedThread A))
    (one two three : MatchReport A)
    → AreFirsts i q pattern os between middle (rest_at argument q) fw ends →
    AreLasts i q pattern ps log frames (rest_at argument q) lw failed → Keeps between log middle frames → hs ≡ ends
    → two ≡ one →
    IsReportOf between argument one (filter_map (mismatch i q) (model_first i (state_count pattern) q os)) before →
    ((ms : List Mismatch) (us : List ThreadModel) (cs : List Commands) → FirstFails i q log failed us
    → Each (Holds log) hs cs
    → IsReportOf log argument two ms before →
    IsReportOf log argument three [] (noted_with (ms ++ only_first (filter_map (mismatch i q) us)) cs before))
    → IsReportOf log argument three [] (model_notes i pattern q os ps before)
pass_notes i argument pattern q os ps before between log middle frames fw lw ends hs failed one two three f l k e same
    error_at offset =
    offset (filter_map (mismatch i q) (model_first i (state_count pattern) q os))
    (model_back i (state_count pattern) q ps)
    (filter_map finished_of (model_first i (state_count pattern) q os)) l.fails
    (subst (λ t. Each (Holds log) t (filter_map finished_of (model_first i (state_count pattern) q os))) (sym e)
    (each_weaker (Holds between) (Holds log) (λ x y h. holds_keep between log middle frames k x y h) ends
    (filter_map finished_of (model_first i (state_count pattern) q os)) f.ended))
    (subst (λ r. IsReportOf log argument r (filter_map (mismatch i q) (model_first i (state_count pattern) q os))
    before)
    (sym same)
    (notes_keep between log argument one (filter_map (mismatch i q) (model_first i (state_count pattern) q os)) before
    k.log
    error_at))

pub pass_goes : {A : Type 0} (i : Input) (argument : Forest) (pattern : Ops) (q m n : ℕ) (os ps : List ThreadModel)
    (before : Notes) (between log : Log) (middle frames : List (ThreadFrame A))
    (firsts lasts : List (TokenStep A)) (stack : List (Thread A)) (visits : List (declared.Visit A)) (r : MatchReport A)
    → EndsFollow i pattern q os ps before → Keeps between log middle frames →
    Each (LeadsTo between middle (rest_at argument q)) firsts (first_moves i (state_count pattern) q os)
    → Each (LeadsTo log frames (rest_at argument q)) lasts (back_moves i (state_count pattern) q ps) →
    stack ≡ reverse (map thread_after lasts) → visits ≡ reverse (map visit_after firsts)
    → first_width (first_moves i (state_count pattern) q os) ≡ Some n → m ≡ q + n →
    IsReportOf log argument r [] (model_notes i pattern q os ps before)
    → PassAt i argument pattern m log frames stack visits r
pass_goes i argument pattern q m n os ps before between log middle frames firsts lasts stack visits r follows k f l e d
    wide at notes = record {
      os = map after_of (back_moves i (state_count pattern) q ps);
      ps = map after_of (first_moves i (state_count pattern) q os);
      before = model_notes i pattern q os ps before;
      follows = follow_next q m n os ps before follows wide at;
      first_shown =
          subst (λ t. Each (Shows log frames) t (reverse (map after_of (back_moves i (state_count pattern) q ps))))
          (sym e)
          (each_reverse (Shows log frames) (map thread_after lasts)
          (map after_of (back_moves i (state_count pattern) q ps))
          (shown_after log frames (rest_at argument q) lasts (back_moves i (state_count pattern) q ps) l));
      last_shown = subst (λ t. Each (VisitShows i (rest_at argument m) m log frames) t
          (reverse (map enter (map after_of (first_moves i (state_count pattern) q os))))) (sym d)
          (each_reverse (VisitShows i (rest_at argument m) m log frames) (map visit_after firsts)
          (map enter (map after_of (first_moves i (state_count pattern) q os)))
          (entered_after log frames (rest_at argument q) i (rest_at argument m) m firsts
          (first_moves i (state_count pattern) q os)
          (each_weaker (LeadsTo between middle (rest_at argument q)) (LeadsTo log frames (rest_at argument q))
          (λ x y h. leads_keep between log middle frames k (rest_at argument q) x y h)
          firsts (first_moves i (state_count pattern) q os) f)));
      notes = notes;
    }
