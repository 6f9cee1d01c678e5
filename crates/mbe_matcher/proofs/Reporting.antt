-- What a report stands for, and that it does in a later log.
use Rattle.std.proofs.Common.{◌≡◌, ◌∙◌, ◌++◌, ◌⊎◌, inl, inr, ℕ, Bool, true, false, Option, Some, None, option_to_list}
use Rattle.std.proofs.Common.{List, [], ◌∷◌, refl, sym, ap, subst, append-nil, length, arith}
use Rattle.std.specs.Prelude.{◌||◌, is_some, not, if◌then◌else◌, unwrap_or, slice_get}
use Rattle.std.proofs.lemmas.Option.{none-some}
use Rattle.mbe_tt.specs.Trees.Tree.{Forest, rest_at}
use Rattle.mbe_semantics.specs.Readings.Input.{Input}
use Rattle.mbe_ops.specs.Views.{ops_of}
use Rattle.mbe_semantics.specs.Syntax.Op.{Op, Ops, no_ops, op}
use Rattle.mbe_semantics.specs.Matching.ThreadModel.{ThreadModel, thread_model, epsilons_of, next_of, finished_of}
use Rattle.mbe_semantics.specs.Bindings.Account.{Commands, Log, Handle}
use Rattle.mbe_log.specs.HandleChanges.{KeepsHandles}
use Rattle.mbe_log.proofs.ClientLemmas as client
use Rattle.mbe_matcher.specs.declared.match_report.MatchReport.{MatchReport}
use Rattle.mbe_matcher.specs.declared.match_report.ReportedThread.{ReportedThread}
use Rattle.mbe_matcher.specs.declared.match_report.Mismatch as kept
use Rattle.mbe_threads.specs.declared.thread.ThreadFrame.{ThreadFrame}
use Rattle.mbe_threads.specs.declared.thread.Thread.{Thread}
use Rattle.mbe_threads.specs.declared.thread.Steps.{Steps}
use Rattle.mbe_matcher.specs.Threads.{Each, Both, Shows, LeadsTo, Holds, AreStepsNow}
use Rattle.mbe_matcher.specs.Failures.{Mismatch, Source, failed, ended, Notes, is_any, has_step, or_first, last_of}
use Rattle.mbe_matcher.specs.Failures.{source_of, noted_with, reports_error, mismatch_unless, remaining_ops, bound_by}
use Rattle.mbe_matcher.specs.Reports.{IsLast, IsReport, IsMismatch, IsSource, IsReportOf}
use Rattle.mbe_matcher.proofs.Keeping.{both_weaker}

-- ---- what it stands for

pub or_first_nil : {A : Type 0} (o : Option A) → or_first o [] ≡ o
or_first_nil None = refl
or_first_nil (Some x) = refl

pub first_stays : {X Y : Type 0} (R : X → Y → Type 0) (x : X) (o : Option Y) (ms : List Y) (m : Y) →
    Both R (Some x) (or_first o ms) → Both R (Some x) (or_first o (ms ++ m ∷ []))
first_stays R x None [] m b = absurd b
first_stays R x None (y ∷ ms) m b = b
first_stays R x (Some y) ms m b = b

pub first_reaches : {X Y : Type 0} (R : X → Y → Type 0) (x : X) (o : Option Y) (ms : List Y) (m : Y) →
    Both R None (or_first o ms) → R x m → Both R (Some x) (or_first o (ms ++ m ∷ []))
first_reaches R x None [] m b r = r
first_reaches R x None (y ∷ ms) m b r = absurd b
first_reaches R x (Some y) ms m b r = absurd b

last_snoc : {A : Type 0} (x : A) (xs : List A) (m : A) → last_of x (xs ++ m ∷ []) ≡ m
last_snoc x [] m = refl
last_snoc x (y ∷ ys) m = last_snoc y ys m

pub source_snoc : (ms : List Mismatch) (m : Mismatch) (cs : List Commands) (before : Option Source)
    → source_of (ms ++ m ∷ []) cs before ≡ Some (failed m)
source_snoc [] m cs before = refl
source_snoc (x ∷ xs) m cs before = ap (λ y. Some (failed y)) (last_snoc x xs m)

pub any_snoc : {A : Type 0} (xs : List A) (x : A) → is_any (xs ++ x ∷ []) ≡ true
any_snoc [] x = refl
any_snoc (y ∷ ys) x = refl

-- the first stays, or comes where there was none
pub first_more : {X Y : Type 0} (R : X → Y → Type 0) (old new : Option X) (o : Option Y) (ms : List Y) (m : Y)
    → Both R old (or_first o ms) →
    ((is_some old ≡ false) × ((x : X) × (new ≡ Some x) × R x m)) ⊎ ((is_some old ≡ true) × (new ≡ old))
    → Both R new (or_first o (ms ++ m ∷ []))
first_more R None new o ms m b (inl (e, (x, is, r))) =
    subst (λ n. Both R n (or_first o (ms ++ m ∷ []))) (sym is) (first_reaches R x o ms m b r)
first_more R (Some y) new o ms m b (inl (e, (x, is, r))) = let f : true ≡ false = e in cc
first_more R None new o ms m b (inr (e, is)) = let f : false ≡ true = e in cc
first_more R (Some y) new o ms m b (inr (e, is)) =
    subst (λ n. Both R n (or_first o (ms ++ m ∷ []))) (sym is) (first_stays R y o ms m b)

abbrev pub first_in : {A : Type 0} → MatchReport A → Option (kept.Mismatch A)
first_in r = r.first

-- the first that failed is that, or was there before
abbrev pub First : {A : Type 0} → Forest → MatchReport A → MatchReport A → Mismatch → Type 0
First {A} f old new s =
    ((is_some old.first ≡ false) × ((x : kept.Mismatch A) × (new.first ≡ Some x) × IsMismatch f x s))
    ⊎ ((is_some old.first ≡ true) × (new.first ≡ old.first))

-- a position more failed
pub mismatch_more : {A : Type 0} (log : Log) (f : Forest) (old new : MatchReport A) (m : kept.Mismatch A) (h : Handle)
    (ms : List Mismatch) (s : Mismatch) (before : Notes) →
    IsReportOf log f old ms before → First f old new s →
    new.last ≡ Some (record { handle = h; mismatch = Some m }) → IsMismatch f m s → Holds log h s.bound
    → new.failed_here ≡ true →
    IsReportOf log f new (ms ++ s ∷ []) before
mismatch_more {A} log f old new m h ms s before r from l is closure here = record {
  first = first_more (IsMismatch f) old.first new.first before.first ms s r.first from;
  last = subst (λ o. Both (IsSource log f) o (source_of (ms ++ s ∷ []) [] before.last)) (sym l)
      (subst (λ o. Both (IsSource log f) (Some (record { handle = h; mismatch = Some m })) o)
      (sym (source_snoc ms s [] before.last)) ((m, refl, is), closure));
  here = here ∙ sym (any_snoc ms s);
}

-- none failed more
pub mismatch_none : {A : Type 0} (log : Log) (f : Forest) (r : MatchReport A) (ms : List Mismatch) (o : Option Mismatch)
    (before : Notes) → o ≡ None →
    IsReportOf log f r ms before → IsReportOf log f r (ms ++ option_to_list o) before
mismatch_none log f r ms o before e is =
    subst (λ l. IsReportOf log f r l before) (sym (ap (λ x. ms ++ option_to_list x) e ∙ append-nil ms)) is

-- ---- which positions fail

pub no_ops_mismatch : (b : Bool) (q : ℕ) (o : ThreadModel) → remaining_ops o ≡ no_ops → mismatch_unless b q o ≡ None
no_ops_mismatch b q (thread_model no_ops a up) e = refl
no_ops_mismatch b q (thread_model (op x r) a up) e = let f : op x r ≡ no_ops = e in cc

pub step_mismatch : (q : ℕ) (o : ThreadModel) → mismatch_unless true q o ≡ None
step_mismatch q (thread_model no_ops a up) = refl
step_mismatch q (thread_model (op x r) a up) = refl

-- what fails has no step
pub mismatch_fails : (b : Bool) (q : ℕ) (o : ThreadModel) (m : Mismatch) → mismatch_unless b q o ≡ Some m
    → mismatch_unless false q o ≡ Some m
mismatch_fails true q o m e = let no : None ≡ Some m = sym (step_mismatch q o) ∙ e in cc
mismatch_fails false q o m e = e

pub plain_mismatch : (b : Bool) (q : ℕ) (o : ThreadModel) (x : Op) (r : Ops) → remaining_ops o ≡ op x r
    → reports_error x ≡ false
    → mismatch_unless b q o ≡ None
plain_mismatch true q o x r e n = step_mismatch q o
plain_mismatch false q (thread_model os a up) x r e n =
    ap (λ l. mismatch_unless false q (thread_model l a up)) e
    ∙ ap (λ t. if not t then None else Some (record { op = x; offset = q; bound = a.current })) n

pub noted_mismatch : (q : ℕ) (o : ThreadModel) (x : Op) (r : Ops) → remaining_ops o ≡ op x r → reports_error x ≡ true →
    mismatch_unless false q o ≡ Some (record { op = x; offset = q; bound = bound_by o })
noted_mismatch q (thread_model os a up) x r e n =
    ap (λ l. mismatch_unless false q (thread_model l a up)) e
    ∙ ap (λ t. if not t then None else Some (record { op = x; offset = q; bound = a.current })) n

-- ---- after a place

pub offset_noted : {A : Type 0} (log : Log) (f : Forest) (old new : MatchReport A) (ms : List Mismatch)
    (cs : List Commands)
    (before : Notes) → IsReportOf log f old ms before →
    new.first ≡ old.first → Both (IsSource log f) new.last (source_of ms cs before.last) → new.failed_here ≡ false
    → IsReportOf log f new [] (noted_with ms cs before)
offset_noted log f old new ms cs before r e last here = record {
  first = subst (λ o. Both (IsMismatch f) o (or_first (or_first before.first ms) [])) (sym e)
      (subst (λ o. Both (IsMismatch f) old.first o) (sym (or_first_nil (or_first before.first ms))) r.first);
  last = last;
  here = here;
}

-- the last stays where one failed, or nothing ends
pub last_failed : (ms : List Mismatch) (cs : List Commands) (before : Option Source) → is_any ms ≡ true
    → source_of ms [] before ≡ source_of ms cs before
last_failed [] cs before e = let f : false ≡ true = e in cc
last_failed (m ∷ ms) cs before e = refl

pub none_failed : (A : Type 0) (log : Log) (f : Forest) (ms : List Mismatch) (c : Commands) (cs : List Commands)
    (before : Option Source) (h : Handle) → is_any ms ≡ false → Holds log h c →
    Both (IsSource {A = A} log f) (Some (record { handle = h; mismatch = None })) (source_of ms (c ∷ cs) before)
none_failed A log f [] c cs before h e closure = (refl, closure)
none_failed A log f (m ∷ ms) c cs before h e closure = let g : true ≡ false = e in cc

pub no_item : {A : Type 0} (xs : List A) → length xs ≡ 0 → xs ≡ []
no_item [] e = refl
no_item (x ∷ xs) e = absurd (omega (arith, e))

-- ---- the positions at the pattern's end

pub none_ended : (log : Log) (hs : List Handle) (cs : List Commands) → Each (Holds log) hs cs → None ≡ slice_get hs 0
    → cs ≡ []
none_ended log [] [] e s = refl
none_ended log [] (c ∷ cs) e s = absurd e
none_ended log (h ∷ hs) cs e s = absurd (none-some h s)

pub end_noted : (A : Type 0) (log : Log) (f : Forest) (ms : List Mismatch) (cs : List Commands) (before : Option Source)
    (hs : List Handle) (h k : Handle) → Each (Holds log) hs cs →
    Some h ≡ slice_get hs 0 → k ≡ h → is_any ms ≡ false
    → Both (IsSource {A = A} log f) (Some (record { handle = k; mismatch = None })) (source_of ms cs before)
end_noted A log f ms cs before [] h k e s i n = absurd (none-some h (sym s))
end_noted A log f ms [] before (j ∷ hs) h k e s i n = absurd e
end_noted A log f ms (c ∷ cs) before (j ∷ hs) h k e s i n =
    let same : h ≡ j = ap (λ o. unwrap_or o h) s in
    none_failed A log f ms c cs before k n (subst (λ x. Holds log x c) (sym (i ∙ same)) e.0)

-- ---- in a later log

holds_on : (old new : Log) (h : Handle) (cs : Commands) → KeepsHandles old new → Holds old h cs → Holds new h cs
holds_on old new h cs k (a, i, e) = (a, k.others h a i, e)

source_keeps : {A : Type 0} (old new : Log) (f : Forest) → KeepsHandles old new → (l : ReportedThread A) (s : Source)
    → IsSource old f l s → IsSource new f l s
source_keeps old new f k l (failed s) (m, closure) = (m, holds_on old new l.handle s.bound k closure)
source_keeps old new f k l (ended cs) (m, closure) = (m, holds_on old new l.handle cs k closure)

pub notes_keep : {A : Type 0} (old new : Log) (f : Forest) (r : MatchReport A) (ms : List Mismatch) (before : Notes)
    → KeepsHandles old new → IsReportOf old f r ms before → IsReportOf new f r ms before
notes_keep old new f r ms before k is = record {
  first = is.first;
  last = both_weaker (IsSource old f) (IsSource new f) (source_keeps old new f k) r.last (source_of ms [] before.last)
      is.last;
  here = is.here;
}

-- ---- the position that an outline shows

pub shown_ops : {A : Type 0} (log : Log) (frames : List (ThreadFrame A)) (p : Thread A) (o : ThreadModel)
    → Shows log frames p o
    → ops_of p.tail.now ≡ remaining_ops o
shown_ops log frames p (thread_model rest a up) s = s.tail

pub shown_bound : {A : Type 0} (old new : Log) (frames : List (ThreadFrame A)) (p : Thread A) (o : ThreadModel)
    → KeepsHandles old new
    → Shows old frames p o → Holds new p.handle (bound_by o)
shown_bound old new frames p (thread_model rest a up) k s = (a, k.others p.handle a s.account, refl)

any_same : {X Y : Type 0} (R : X → Y → Type 0) (a b : Option X) (ys : List Y) (more : Bool)
    → Each R (option_to_list a ++ option_to_list b) ys →
    (is_some a || (is_some b || more)) ≡ (is_any ys || more)
any_same R None None [] more h = refl
any_same R None None (y ∷ ys) more h = absurd h
any_same R None (Some x) [] more h = absurd h
any_same R None (Some x) (y ∷ ys) more h = refl
any_same R (Some w) b [] more h = absurd h
any_same R (Some w) b (y ∷ ys) more h = refl

some_same : {X Y : Type 0} (R : X → Y → Type 0) (x : Option X) (y : Option Y) → Both R x y → is_some x ≡ is_some y
some_same R None None b = refl
some_same R (Some x) (Some y) b = refl
some_same R None (Some y) b = absurd b
some_same R (Some x) None b = absurd b

abbrev pub is_step : {A : Type 0} → Steps A → Bool
is_step s = is_some s.first || (is_some s.second || (is_some s.next || is_some s.done))

pub step_same : {A : Type 0} (i : Input) (argument : Forest) (q : ℕ) (log : Log) (frames : List (ThreadFrame A))
    (o : ThreadModel)
    (s : Steps A) → AreStepsNow i argument q log frames o s →
    is_step s ≡ has_step i q o
step_same i argument q log frames o s st =
    any_same (Shows log frames) s.first s.second (epsilons_of i q o) (is_some s.next || is_some s.done) st.epsilons
    ∙ ap (λ b. is_any (epsilons_of i q o) || (b || is_some s.done))
    (some_same (LeadsTo log frames (rest_at argument q)) s.next (next_of i q o) st.next)
    ∙ ap (λ b. is_any (epsilons_of i q o) || (is_some (next_of i q o) || b))
    (some_same (Holds log) s.done (finished_of o) st.done)

-- what a report is of is in the log
pub report_entries : {A : Type 0} (log : Log) (f : Forest) (r : MatchReport A) (ms : List Mismatch) (before : Notes)
    → IsReportOf log f r ms before → IsReport log r
report_entries {A} log f r ms before is = go r.last (source_of ms [] before.last) is.last
  where
    go : (l : Option (ReportedThread A)) (s : Option Source) → Both (IsSource log f) l s → IsLast log l
    go None s b = tt
    go (Some l) None b = absurd b
    go (Some l) (Some (failed m)) b = client.has_entries log l.handle b.1.0 b.1.1
    go (Some l) (Some (ended cs)) b = client.has_entries log l.handle b.1.0 b.1.1
