-- Diagnostics as they are written, and the diagnostics of two lists, one after the other.
use Rattle.std.proofs.Common.{◌≡◌, ◌∙◌, ◌≤◌, ◌+◌, ◌++◌, ℕ, zero, suc, true, false, List, [], ◌∷◌}
use Rattle.std.proofs.Common.{Option, Some, None, arith, refl, sym, ap, subst, append_assoc, length, drop}
use Rattle.std.specs.Prelude.{◌==◌, Bool, IfSome, unwrap_or}
use Rattle.std.proofs.lemmas.Bool.{ne_eqb}
use Rattle.std.proofs.lemmas.List.{append-nil, drop_all}
use Rattle.mbe_diagnostics.specs.Lints.Lint.{Lint}
use Rattle.mbe_diagnostics.specs.declared.diagnostic.Diagnostic.{Diagnostic}
use Rattle.mbe_session.specs.Explanation.{Note}
use Rattle.mbe_session.specs.declared.source_files.SourceFile.{SourceFile}
use Rattle.mbe_session.specs.declared.emitter.MessageFormat.{MessageFormat}
use Rattle.mbe_session.specs.declared.emitter.MessageFormat.TheVariants.{Text}
use Rattle.mbe_session.specs.EmittedNotes.{AreDiagnostics, AreDiagnosticsOf, EmittedIn, EmittedLints, EmittedNotes}
use Rattle.mbe_session.specs.EmittedNotes.{AreLintDiagnostics, EmittedWithLints, all_written, first_written}

-- ---- diagnostics as they are written

written_first : (form : MessageFormat) (is_first : Bool) (ds : List Diagnostic) (n : ℕ)
    → all_written form is_first (drop n ds)
    ≡ first_written form is_first (drop n ds) ++ all_written form false (drop (n + 1) ds)
written_first form is_first [] n =
    ap (all_written form is_first) (drop_all n [] (omega arith))
    ∙ sym (ap (λ xs. first_written form is_first xs ++ all_written form false (drop (n + 1) []))
    (drop_all n [] (omega arith))
    ∙ ap (all_written form false) (drop_all (n + 1) [] (omega arith)))
written_first form is_first (d ∷ ds) zero = refl
written_first form is_first (d ∷ ds) (suc n) =
    let next : suc n + 1 ≡ suc (n + 1) = omega arith in
    written_first form is_first ds n
    ∙ sym (ap (λ k. first_written form is_first (drop n ds) ++ all_written form false (drop k (d ∷ ds))) next)

not_zero : (n : ℕ) → ((n + 1) == 0) ≡ false
not_zero n = ne_eqb (n + 1) 0 (λ e. omega (arith, e))

-- The first of the diagnostics that are left is written.
pub one_written : (form : MessageFormat) (ds : List Diagnostic) (n : ℕ) (now later whole : List ℕ)
    → now ++ all_written form (n == 0) (drop n ds) ≡ whole
    → later ≡ now ++ first_written form (n == 0) (drop n ds)
    → later ++ all_written form ((n + 1) == 0) (drop (n + 1) ds) ≡ whole
one_written form ds n now later whole before pushed =
    let rest = all_written form false (drop (n + 1) ds) in
    ap (λ b. later ++ all_written form b (drop (n + 1) ds)) (not_zero n)
    ∙ (ap (λ t. t ++ rest) pushed
    ∙ (append_assoc now (first_written form (n == 0) (drop n ds)) rest
    ∙ (sym (ap (λ t. now ++ t) (written_first form (n == 0) ds n)) ∙ before)))

pub all_are_written : (form : MessageFormat) (is_first : Bool) (ds : List Diagnostic) (n : ℕ) (now whole : List ℕ)
    → length ds ≤ n → now ++ all_written form is_first (drop n ds) ≡ whole → now ≡ whole
all_are_written form is_first ds n now whole past before =
    sym (ap (λ xs. now ++ all_written form is_first xs) (drop_all n ds past) ∙ append-nil now) ∙ before

pub notes_emitted : {A : Type 0} (form : MessageFormat) (files : List (SourceFile A)) (notes : List Note)
    (start ds given : List Diagnostic) (before after : List ℕ)
    → start ≡ [] → AreDiagnostics files notes start ds → given ≡ ds
    → after ≡ before ++ all_written form true given → EmittedNotes form files notes before after
notes_emitted form files notes start ds given before after s are g pushed = (
  ds,
  subst (λ t. AreDiagnostics files notes t ds) s are,
  pushed ∙ ap (λ xs. before ++ all_written form true xs) g,
)

pub lints_emitted : {A : Type 0} (form : MessageFormat) (files : List (SourceFile A)) (lints : List Lint)
    (start ds given : List Diagnostic) (before after : List ℕ)
    → start ≡ [] → AreLintDiagnostics files lints start ds → given ≡ ds
    → after ≡ before ++ all_written form true given → EmittedLints form files lints before after
lints_emitted form files lints start ds given before after s are g pushed = (
  ds,
  subst (λ t. AreLintDiagnostics files lints t ds) s are,
  pushed ∙ ap (λ xs. before ++ all_written form true xs) g,
)

-- ---- two lists

pub emitted_after : {A : Type 0} (form : Option MessageFormat) (files one two : List (SourceFile A))
    (first others ns os : List Note) (start mid end : List ℕ)
    → one ≡ files → two ≡ files → ns ≡ first → os ≡ others → start ≡ []
    → IfSome form (λ f. EmittedNotes f one ns start mid) → IfSome form (λ f. EmittedNotes f two os mid end)
    → EmittedIn form files first others end
emitted_after None files one two first others ns os start mid end x y n o s a b = tt
emitted_after (Some form) files one two first others ns os start mid end x y n o s a b = (
  mid,
  subst (λ t. EmittedNotes form files first t mid) s
      (subst (λ l. EmittedNotes form files l start mid) n (subst (λ f. EmittedNotes form f ns start mid) x a)),
  subst (λ l. EmittedNotes form files l mid end) o (subst (λ f. EmittedNotes form f os mid end) y b),
)

pub diagnostics_after : {A : Type 0} (files one two : List (SourceFile A)) (first others ns os : List Note)
    (start mid end : List Diagnostic)
    → one ≡ files → two ≡ files → ns ≡ first → os ≡ others → start ≡ []
    → AreDiagnostics one ns start mid → AreDiagnostics two os mid end
    → AreDiagnosticsOf files first others end
diagnostics_after files one two first others ns os start mid end x y n o s a b = (
  mid,
  subst (λ t. AreDiagnostics files first t mid) s
      (subst (λ l. AreDiagnostics files l start mid) n (subst (λ f. AreDiagnostics f ns start mid) x a)),
  subst (λ l. AreDiagnostics files l mid end) o (subst (λ f. AreDiagnostics f os mid end) y b),
)

lints_after : {A : Type 0} (form chosen : MessageFormat) (files two : List (SourceFile A)) (lints ls : List Lint)
    (mid end : List ℕ) → two ≡ files → ls ≡ lints → chosen ≡ form → EmittedLints chosen two ls mid end
    → EmittedLints form files lints mid end
lints_after form chosen files two lints ls mid end y l c b =
    subst (λ c. EmittedLints c files lints mid end) c
    (subst (λ ls. EmittedLints chosen files ls mid end) l (subst (λ f. EmittedLints chosen f ls mid end) y b))

pub emitted_with_lints : {A : Type 0} (form : Option MessageFormat) (chosen : MessageFormat)
    (files one two : List (SourceFile A)) (notes ns : List Note) (lints ls : List Lint) (start mid end : List ℕ)
    → one ≡ files → two ≡ files → ns ≡ notes → ls ≡ lints → start ≡ [] → chosen ≡ unwrap_or form Text
    → IfSome form (λ f. EmittedNotes f one ns start mid) → EmittedLints chosen two ls mid end
    → EmittedWithLints form files notes lints end
emitted_with_lints None chosen files one two notes ns lints ls start mid end x y n l s c a b =
    (mid, lints_after Text chosen files two lints ls mid end y l c b)
emitted_with_lints (Some form) chosen files one two notes ns lints ls start mid end x y n l s c a b = (
  mid,
  subst (λ t. EmittedNotes form files notes t mid) s
      (subst (λ l. EmittedNotes form files l start mid) n (subst (λ f. EmittedNotes form f ns start mid) x a)),
  lints_after form chosen files two lints ls mid end y l c b,
)
