-- What is said of definitions, one after another, and where a macro has no fault.
use Rattle.std.proofs.Common.{◌≡◌, ◌≤◌, ◌+◌, ℕ, zero, suc, true, false, List, [], ◌∷◌, ◌++◌, length, drop, Option, Some}
use Rattle.std.proofs.Common.{None, refl, ap, sym, ◌∙◌, arith, append_assoc}
use Rattle.std.specs.Prelude.{Result, Ok, Err, OnOk, is_some, option_and_then}
use Rattle.std.specs.List.{slice_get}
use Rattle.std.proofs.lemmas.List.{drop_all}
use Rattle.mbe_semantics.specs.Expansion.Macro.{Macro}
use Rattle.mbe_session.specs.Explanation.{Note}
use Rattle.mbe_session.specs.Faults.{all_noted, fault_at, fault_of, is_faulty, noted}
use Rattle.mbe_session.specs.Scopes.{Scope, Definition}

said_by : (ds : List Definition) (n : ℕ)
    → all_noted (drop n ds) ≡ noted (option_and_then fault_of (slice_get ds n)) ++ all_noted (drop (n + 1) ds)
said_by [] n =
    ap all_noted (drop_all n [] (omega arith)) ∙ sym (ap all_noted (drop_all (n + 1) [] (omega arith)))
said_by (d ∷ ds) zero = refl
said_by (d ∷ ds) (suc n) =
    let next : suc n + 1 ≡ suc (n + 1) = omega arith in
    said_by ds n
    ∙ sym (ap (λ k. noted (option_and_then fault_of (slice_get ds n)) ++ all_noted (drop k (d ∷ ds))) next)

pub one_said : (s : Scope) (n : ℕ) (now after_it whole : List Note)
    → now ++ all_noted (drop n s.definitions) ≡ whole → after_it ≡ now ++ noted (fault_at s n)
    → after_it ++ all_noted (drop (n + 1) s.definitions) ≡ whole
one_said s n now after_it whole h e =
    let more = all_noted (drop (n + 1) s.definitions) in
    ap (λ xs. xs ++ more) e
    ∙ (append_assoc now (noted (fault_at s n)) more
    ∙ (sym (ap (λ xs. now ++ xs) (said_by s.definitions n)) ∙ h))

nil_right : {A : Type 0} (xs : List A) → xs ++ [] ≡ xs
nil_right [] = refl
nil_right (x ∷ xs) = ap (λ ys. x ∷ ys) (nil_right xs)

pub all_said : (ds : List Definition) (n : ℕ) (now whole : List Note) → length ds ≤ n
    → now ++ all_noted (drop n ds) ≡ whole → now ≡ whole
all_said ds n now whole past h =
    sym (ap (λ xs. now ++ all_noted xs) (drop_all n ds past) ∙ nil_right now) ∙ h

pub two_noted : {R S : Type 0} (r : Result R S) (old mid new : List Note) (a b : Note) → mid ≡ old ++ a ∷ []
    → OnOk r (new ≡ mid ++ b ∷ []) → OnOk r (new ≡ old ++ a ∷ b ∷ [])
two_noted (Ok x) old mid new a b first second =
    second ∙ (ap (λ xs. xs ++ b ∷ []) first ∙ append_assoc old (a ∷ []) (b ∷ []))
two_noted (Err x) old mid new a b first second = tt

-- a macro without a fault isn't refused
pub sound : {P : Type 0} (o : Option Macro) (m : Macro) → o ≡ Some m → m.err ≡ None → is_faulty o ≡ true → P
sound o m e n h =
    let f : is_faulty o ≡ false = ap is_faulty e ∙ ap is_some n in
    absurd (cc)
