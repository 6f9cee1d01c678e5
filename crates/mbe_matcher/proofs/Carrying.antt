-- What was made of a log and of open items has what positions, and reports, stand for.
use Rattle.std.proofs.Common.{◌≡◌, ◌∙◌, ◌<◌, ◌++◌, ◌⊎◌, inl, inr, ℕ, List, [], ◌∷◌, Option, Some, None, option_map}
use Rattle.std.proofs.Common.{option_to_list, length, refl, sym, ap, subst, append-nil, length-append, arith}
use Rattle.std.specs.Prelude.{IfSome, slice_get}
use Rattle.std.proofs.lemmas.Option.{none-some, same_Some}
use Rattle.mbe_tt.specs.Trees.Tree.{Forest}
use Rattle.mbe_semantics.specs.Readings.Input.{Input}
use Rattle.mbe_semantics.specs.Bindings.Account.{Log, Handle}
use Rattle.mbe_semantics.specs.Matching.ThreadModel.{ModelFrame, group_frame, thread_model}
use Rattle.mbe_bindings.specs.declared.log_compaction.HandleMap.{HandleMap}
use Rattle.mbe_bindings.specs.LogCompaction.{Maps}
use Rattle.mbe_log.proofs.LogLemmas.{get-last, get-more}
use Rattle.mbe_ops.specs.Views.{ops_of}
use Rattle.mbe_threads.specs.declared.thread.ThreadFrame.{ThreadFrame}
use Rattle.mbe_threads.specs.declared.thread.Thread.{Thread}
use Rattle.mbe_threads.specs.declared.thread.OpenRepetition.{OpenRepetition}
use Rattle.mbe_matcher.specs.declared.compaction.CompactedThreads.{CompactedThreads}
use Rattle.mbe_matcher.specs.declared.report_pass.Visit as declared
use Rattle.mbe_matcher.specs.declared.report_pass.Visit.TheVariants as variants
use Rattle.mbe_matcher.specs.declared.match_report.ReportedThread.{ReportedThread}
use Rattle.mbe_matcher.specs.declared.match_report.MatchReport.{MatchReport}
use Rattle.mbe_matcher.specs.Threads.{Each, Both, IsBelow, AreRounds, frame_in, AreFrames, none_open, group_open}
use Rattle.mbe_matcher.specs.Threads.{repetition_open, Shows, Keeps}
use Rattle.mbe_matcher.specs.ReportPass.{VisitShows}
use Rattle.mbe_matcher.specs.Failures.{Source, failed, ended, source_of}
use Rattle.mbe_matcher.specs.Reports.{IsSource, IsReportOf}
use Rattle.mbe_matcher.specs.FirstAndLast.{Visit, enter, leave}
use Rattle.mbe_matcher.specs.Compaction.{AreHandles, IsNumbered, AreSent, IsCarried, AreCarried, Carries, CarriesThread}
use Rattle.mbe_matcher.specs.Compaction.{CarriesVisit, CarriesReport, ThreadsStay, VisitsStay}
use Rattle.mbe_matcher.proofs.Keeping.{kept_not, edges_keep}
use Rattle.mbe_matcher.proofs.StepLemmas.{none_around, in_group, in_rounds}

-- ---- open items

module _ {A : Type 0} (old new : Log) (before after : List (ThreadFrame A)) (moves : HandleMap A)
    (numbers : List (Option ℕ))
    (handles : AreHandles moves old new) (c : AreCarried old new before after numbers) where
  -- what is around an item is there
  pub carried_around : (u v : Option ℕ) (es : List ModelFrame) → IsNumbered numbers u v → AreFrames old before u es
      → IsBelow v (length after) × AreFrames new after v es
  carried_around None v es e around =
      subst (λ (w : Option ℕ). IsBelow w (length after) × AreFrames new after w es) (sym e)
      (tt, subst (AreFrames new after None) (sym (none_around old before None es around refl)) none_open)
  carried_around (Some n) v es (m, at, e) around =
      subst (λ (w : Option ℕ). IsBelow w (length after) × AreFrames new after w es) (sym e)
      (c.below n m at, c.edges n m at es around)

  grown : (p : ThreadFrame A) → Keeps new new after (after ++ p ∷ [])
  grown p = record { log = kept_not new; frames = (p ∷ [], refl) }

  module _ (n : ℕ) (o p : ThreadFrame A) (at : slice_get before n ≡ Some o) (i : IsCarried moves numbers o p) where
    -- the item that is added is that one
    carried_item : (rs qs : Option (OpenRepetition A)) → o.rounds ≡ rs → p.rounds ≡ qs → Both (AreSent moves) rs qs
        → (es : List ModelFrame) → AreFrames old before (Some n) es
        → AreFrames new (after ++ p ∷ []) (Some (length after)) es
    carried_item None None e f b es edges =
        let g = in_group old before (Some n) es n o edges refl at e in
        let a = carried_around o.up p.up g.up i.up g.around in
        subst (AreFrames new (after ++ p ∷ []) (Some (length after))) (sym g.is)
        (subst (λ x. AreFrames new (after ++ p ∷ []) (Some (length after)) (group_frame (ops_of x.now) ∷ g.up)) i.rest
        (group_open (length after) p g.up (get-last after p) f a.0
        (edges_keep new new after (after ++ p ∷ []) (grown p) a.1)))
    carried_item (Some r) (Some s) e f (k, sent, same) es edges =
        let w = in_rounds old before (Some n) es n o r edges refl at e in
        let a = carried_around o.up p.up w.up i.up w.around in
        let rounds : AreRounds new (record r { outside = k }) (ops_of o.rest.now) w.outside w.up = record {
          account = (handles r.outside k sent).account w.outside w.rounds.account;
          front = w.rounds.front;
        } in
        subst (AreFrames new (after ++ p ∷ []) (Some (length after))) (sym w.is)
        (subst (λ x. AreFrames new (after ++ p ∷ []) (Some (length after))
        (frame_in r (ops_of x.now) w.began w.outside ∷ w.up)) i.rest
        (repetition_open (length after) p (record r { outside = k }) w.began w.outside w.up (get-last after p)
        (f ∙ ap (λ x. Some x) same)
        (subst (λ x. AreRounds new (record r { outside = k }) (ops_of x.now) w.outside w.up) (sym i.rest) rounds) a.0
        (edges_keep new new after (after ++ p ∷ []) (grown p) a.1)))
    carried_item None (Some s) e f b es edges = absurd b
    carried_item (Some r) None e f b es edges = absurd b

  carried_none : AreCarried old new before after (numbers ++ None ∷ [])
  carried_none = record { below = λ n m e. c.below n m (got n m e); edges = λ n m e. c.edges n m (got n m e) }
    where
      was : (n m : ℕ) → (slice_get numbers n ≡ Some (Some m)) ⊎ ((n ≡ length numbers) × (None ≡ Some m))
          → slice_get numbers n ≡ Some (Some m)
      was n m (inl h) = h
      was n m (inr h) = absurd (none-some m h.1)

      got : (n m : ℕ) → slice_get (numbers ++ None ∷ []) n ≡ Some (Some m) → slice_get numbers n ≡ Some (Some m)
      got n m e = was n m (get-more numbers None (Some m) n e)

  carried_some : (o p : ThreadFrame A) → slice_get before (length numbers) ≡ Some o → IsCarried moves numbers o p
      → AreCarried old new before (after ++ p ∷ []) (numbers ++ Some (length after) ∷ [])
  carried_some o p at i = record {
    below = λ n m e. within n m (get-more numbers (Some (length after)) (Some m) n e);
    edges = λ n m e es edges. there n m es (get-more numbers (Some (length after)) (Some m) n e) edges;
  }
    where
      within : (n m : ℕ) → (slice_get numbers n ≡ Some (Some m))
          ⊎ ((n ≡ length numbers) × (Some (length after) ≡ Some m)) → m < length (after ++ p ∷ [])
      within n m (inl h) =
          let less = c.below n m h in
          let more = length-append after (p ∷ []) in
          omega (arith, less, more)
      within n m (inr h) =
          let same = same_Some (length after) m h.1 in
          let more = length-append after (p ∷ []) in
          omega (arith, same, more)

      there : (n m : ℕ) (es : List ModelFrame) → (slice_get numbers n ≡ Some (Some m))
          ⊎ ((n ≡ length numbers) × (Some (length after) ≡ Some m)) → AreFrames old before (Some n) es
          → AreFrames new (after ++ p ∷ []) (Some m) es
      there n m es (inl h) edges =
          edges_keep new new after (after ++ p ∷ []) (grown p) (c.edges n m h es edges)
      there n m es (inr h) edges =
          subst (λ (k : ℕ). AreFrames new (after ++ p ∷ []) (Some k) es) (same_Some (length after) m h.1)
          (carried_item (length numbers) o p at i o.rounds p.rounds refl refl i.rounds es
          (subst (λ (k : ℕ). AreFrames old before (Some k) es) h.0 edges))

  -- one item more was looked at
  pub carried_more : (o : ThreadFrame A) (given : Option (ThreadFrame A)) (longer : List (ThreadFrame A))
      (more : List (Option ℕ))
      → slice_get before (length numbers) ≡ Some o → IfSome given (IsCarried moves numbers o)
      → longer ≡ after ++ option_to_list given
      → more ≡ numbers ++ option_map (λ _. length after) given ∷ [] → AreCarried old new before longer more
  carried_more o None longer more at i e f =
      subst (λ l. AreCarried old new before l more) (sym (e ∙ append-nil after))
      (subst (AreCarried old new before after) (sym f) carried_none)
  carried_more o (Some p) longer more at i e f =
      subst (λ l. AreCarried old new before l more) (sym e)
      (subst (AreCarried old new before (after ++ p ∷ [])) (sym f) (carried_some o p at i))

-- ---- positions

pub thread_carried : {A : Type 0} (m : CompactedThreads A) (p : Thread A) (v : Option ℕ) (k : Handle)
    → IsNumbered m.numbers.items p.up v → Maps m.moves p.handle k
    → CarriesThread m p (record p { up = v; handle = k })
thread_carried m p v k up sent old before c (thread_model rest a es) s = record {
  tail = s.tail;
  number = s.number;
  account = (c.handles p.handle k sent).account a s.account;
  around = (carried_around old m.log before m.frames.items m.moves m.numbers.items c.handles c.items p.up v es up
      s.around).1;
}

-- what holds between the first and the second, and between the first and the third, makes something hold between those
each_through : {X Y : Type 0} (P : X → X → Type 0) (Q R : X → Y → Type 0) → ((x y : X) (z : Y) → P x y → Q x z → R y z)
    → (xs ys : List X) (zs : List Y) → Each P xs ys → Each Q xs zs → Each R ys zs
each_through P Q R h [] [] [] p q = tt
each_through P Q R h [] [] (z ∷ zs) p q = absurd q
each_through P Q R h [] (y ∷ ys) zs p q = absurd p
each_through P Q R h (x ∷ xs) [] zs p q = absurd p
each_through P Q R h (x ∷ xs) (y ∷ ys) [] p q = absurd q
each_through P Q R h (x ∷ xs) (y ∷ ys) (z ∷ zs) p q = (h x y z p.0 q.0, each_through P Q R h xs ys zs p.1 q.1)

pub threads_carried : {A : Type 0} (m : CompactedThreads A) (old : Log) (before : List (ThreadFrame A))
    → Carries old before m
    → (ps qs : List (Thread A)) → Each (CarriesThread m) ps qs
    → ThreadsStay old m.log before m.frames.items ps qs
threads_carried m old before c ps qs each os shown =
    each_through (CarriesThread m) (Shows old before) (Shows m.log m.frames.items)
    (λ p q o h s. h old before c o s) ps qs os each shown

visit_carried : {A : Type 0} (m : CompactedThreads A) (old : Log) (before : List (ThreadFrame A)) → Carries old before m
    → (i : Input) (here : Forest) (q : ℕ) (u v : declared.Visit A) (o : Visit) → CarriesVisit m u v
    → VisitShows i here q old before u o → VisitShows i here q m.log m.frames.items v o
visit_carried m old before c i here q (variants.Enter p) (variants.Enter r) (enter o) h s = h old before c o s
visit_carried m old before c i here q (variants.Enter p) (variants.Enter r) (leave o) h s = absurd s
visit_carried m old before c i here q (variants.Enter p) (variants.Leave l) o h s = absurd h
visit_carried m old before c i here q (variants.Leave l) v o h s = absurd h

pub visits_carried : {A : Type 0} (m : CompactedThreads A) (old : Log) (before : List (ThreadFrame A))
    → Carries old before m
    → (us vs : List (declared.Visit A)) → Each (CarriesVisit m) us vs
    → VisitsStay old m.log before m.frames.items us vs
visits_carried m old before c us vs each i here q os shown =
    each_through (CarriesVisit m) (VisitShows i here q old before) (VisitShows i here q m.log m.frames.items)
    (visit_carried m old before c i here q) us vs os each shown

-- ---- reports

source_carried : {A : Type 0} (old new : Log) (argument : Forest) (moves : HandleMap A) → AreHandles moves old new
    → (l : ReportedThread A) (k : Handle) → Maps moves l.handle k → (s : Source) → IsSource old argument l s
    → IsSource new argument (record l { handle = k }) s
source_carried old new argument moves handles l k sent (failed s) (m, held) =
    (m, (held.0, (handles l.handle k sent).account held.0 held.1, held.2))
source_carried old new argument moves handles l k sent (ended cs) (m, held) =
    (m, (held.0, (handles l.handle k sent).account held.0 held.1, held.2))

last_carried : {A : Type 0} (old new : Log) (argument : Forest) (moves : HandleMap A) → AreHandles moves old new
    → (l : ReportedThread A) (k : Handle) → Maps moves l.handle k → (o : Option Source)
    → Both (IsSource old argument) (Some l) o → Both (IsSource new argument) (Some (record l { handle = k })) o
last_carried old new argument moves handles l k sent None b = absurd b
last_carried old new argument moves handles l k sent (Some s) b =
    source_carried old new argument moves handles l k sent s b

pub report_carried : {A : Type 0} (moves : HandleMap A) (r s : MatchReport A) (l : ReportedThread A) (k : Handle)
    → r.last ≡ Some l
    → Maps moves l.handle k → s ≡ record r { last = Some (record l { handle = k }) } → CarriesReport moves r s
report_carried {A} moves r s l k e sent same old new handles argument ms before is =
    subst (λ (x : MatchReport A). IsReportOf new argument x ms before) (sym same)
    (record {
      first = is.first;
      last = last_carried old new argument moves handles l k sent (source_of ms [] before.last)
          (subst (λ (x : Option (ReportedThread A)). Both (IsSource old argument) x (source_of ms [] before.last)) e
          is.last);
      here = is.here;
    })
