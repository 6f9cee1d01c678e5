-- The lines of verdicts, one rule after another.
use Rattle.std.proofs.Common.{◌≡◌, ◌<◌, ◌≤◌, ◌+◌, ◌∙◌, ℕ, zero, suc, List, [], ◌∷◌, ◌++◌, map, length, take, slice_get}
use Rattle.std.proofs.Common.{slice_index_or, Some, refl, sym, ap, subst, arith, add-one}
use Rattle.std.specs.Prelude.{codes}
use Rattle.std.proofs.lemmas.List.{append_assoc, append-nil, map-append, take_all}
use Rattle.std.proofs.lemmas.Option.{none-some, same_Some}
use Rattle.mbe_tt.specs.Trees.Tree.{Forest}
use Rattle.mbe_tt.specs.Grammars.Grammar.{Grammar}
use Rattle.mbe_semantics.specs.Syntax.Definition.{Rule}
use Rattle.mbe_semantics.specs.Readings.Verdict.{Verdict, IsVerdict}
use Rattle.mbe_matcher.specs.declared.matcher.Verdict as given
use Rattle.mbe.specs.MatchResults.{verdict_seen}
use Rattle.mbe.specs.RuleExplanation.{Explains}
use Rattle.mbe.proofs.ChoiceLemmas.{all_seen}
use Rattle.mbe_program.specs.VerdictLines.{line_of, lines_from}

line_at : (first : ℕ) (vs : List Verdict) (n : ℕ) (v : Verdict) → slice_get vs n ≡ Some v
    → lines_from first (take (suc n) vs) ≡ lines_from first (take n vs) ++ (line_of (first + n) v ++ codes "\n")
line_at first [] n v e = absurd (none-some v e)
line_at first (w ∷ vs) zero v e =
    append-nil (line_of first w ++ codes "\n") ∙ ap (λ (x : Verdict). line_of first x ++ codes "\n") (same_Some w v e)
    ∙ ap (λ (k : ℕ). line_of k v ++ codes "\n") (omega arith)
line_at first (w ∷ vs) (suc n) v e =
    ap (λ (l : List ℕ). (line_of first w ++ codes "\n") ++ l) (line_at (suc first) vs n v e)
    ∙ sym (append_assoc (line_of first w ++ codes "\n") (lines_from (suc first) (take n vs))
    (line_of (suc first + n) v ++ codes "\n"))
    ∙ ap (λ (k : ℕ). ((line_of first w ++ codes "\n") ++ lines_from (suc first) (take n vs))
    ++ (line_of k v ++ codes "\n")) (omega arith)

line_get : (vs : List given.Verdict) (n : ℕ) (other : given.Verdict) → n < length vs
    → slice_get (map verdict_seen vs) n ≡ Some (verdict_seen (slice_index_or vs n other))
line_get [] n other l = absurd (omega (arith, l))
line_get (w ∷ vs) zero other l = refl
line_get (w ∷ vs) (suc n) other l = line_get vs n other (omega (arith, l))

-- the line of one rule more
pub one_line_more : (text more : List ℕ) (vs : List given.Verdict) (n : ℕ) (other : given.Verdict) → n < length vs
    → text ≡ lines_from 0 (take n (map verdict_seen vs))
    → more ≡ line_of n (verdict_seen (slice_index_or vs n other)) ++ codes "\n"
    → text ++ more ≡ lines_from 0 (take (n + 1) (map verdict_seen vs))
one_line_more text more vs n other l h k =
    let seen = map verdict_seen vs in
    let v = verdict_seen (slice_index_or vs n other) in
    let line : lines_from 0 (take (suc n) seen) ≡ lines_from 0 (take n seen) ++ (line_of n v ++ codes "\n") =
    line_at 0 seen n v (line_get vs n other l)
    ∙ ap (λ (k : ℕ). lines_from 0 (take n seen) ++ (line_of k v ++ codes "\n")) (omega arith) in
    rw add-one (ap (λ (t : List ℕ). t ++ more) h ∙ (ap (λ (m : List ℕ). lines_from 0 (take n seen) ++ m) k ∙ sym line))

-- those of all rules
pub all_lines : (text : List ℕ) (vs : List given.Verdict) (n : ℕ) → length vs ≤ n
    → text ≡ lines_from 0 (take n (map verdict_seen vs))
    → text ≡ lines_from 0 (map verdict_seen vs)
all_lines text vs n l h = subst (λ (xs : List Verdict). text ≡ lines_from 0 xs) (all_seen verdict_seen vs n l) h
