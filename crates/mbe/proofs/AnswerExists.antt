-- A call of checked rules has an answer: the rules are tried one after the other, as the program does.
use Rattle.std.specs.Prelude.{◌≡◌, ◌≢◌, ◌<◌, ◌≤◌, ◌+◌, ◌-◌, ◌^◌, ◌⊎◌, ℕ, zero, suc, Bool, true, false, min, List, []}
use Rattle.std.specs.Prelude.{◌∷◌, length, take, slice_get, Option, Some, None, is_some, IfSome, refl}
use Rattle.std.proofs.Common.{ap, sym, subst, ◌∙◌, arith, inl, inr}
use Rattle.std.proofs.lemmas.Bool.{cases_lt, cases_Bool, true≢false}
use Rattle.std.proofs.lemmas.Option.{none-some}
use Rattle.mbe_tt.specs.declared.span.Span.{Span}
use Rattle.mbe_tt.specs.Trees.Tree.{Forest}
use Rattle.mbe_tt.specs.Trees.Top.{Top}
use Rattle.mbe_tt.specs.Grammars.Grammar.{Grammar, IsLawful}
use Rattle.mbe_semantics.specs.declared.macro_call_style.MacroCallStyle.{MacroCallStyle}
use Rattle.mbe_semantics.specs.Syntax.Op.{Ops}
use Rattle.mbe_semantics.specs.Syntax.Definition.{Rule}
use Rattle.mbe_semantics.specs.Syntax.Nullable.{Checked}
use Rattle.mbe_semantics.specs.Readings.Item.{Items}
use Rattle.mbe_semantics.specs.Readings.Input.{input_of}
use Rattle.mbe_semantics.specs.Readings.Ambiguity.{Fits}
use Rattle.mbe_semantics.specs.Readings.Verdict.{Verdict, one_reading, many_readings, ambiguous, stuck, IsVerdict}
use Rattle.mbe_semantics.specs.Readings.Verdict.{stop_of, unmatched}
use Rattle.mbe_semantics.specs.Matching.ThreadModel.{ThreadModel}
use Rattle.mbe_semantics.specs.Bindings.Account.{Commands, run}
use Rattle.mbe_semantics.specs.Bindings.Environment.{Environment, environment_of, binding_total}
use Rattle.mbe_semantics.specs.Transcription.Substitution.{faults}
use Rattle.mbe_semantics.specs.Expansion.Error.{ExpandError, no_matching_rule}
use Rattle.mbe_semantics.specs.Expansion.Commitment.{Commits}
use Rattle.mbe_semantics.specs.Expansion.Expansion.{Applies, FirstThatApplies, FirstThatEnds}
use Rattle.mbe_semantics.specs.Expansion.Macro.{arm_of, empty_tree}
use Rattle.mbe_semantics.specs.Expansion.Recovery.{IsStyledAt, HasStyle}
use Rattle.mbe_laws.proofs.Matching.RunLemmas.{has_one_verdict}
use Rattle.mbe_matcher.specs.Failures.{Notes, Reports}
use Rattle.mbe_semantics.specs.Matching.States.{state_count}
use Rattle.mbe_semantics.specs.Matching.Frontier.{first_width}
use Rattle.mbe_matcher.specs.FirstAndLast.{EndsFollow, follow_start, follow_next, first_moves, AreModelNotes}
use Rattle.mbe_matcher.proofs.Commitments.{commits_or_not}
use Rattle.mbe_matcher.proofs.KeptEnds.{model_pass}
use Rattle.mbe_matcher.proofs.StopOffsets.{continues}
use Rattle.mbe_transcriber.specs.TemplateFaults.{first_fault}
use Rattle.mbe.specs.declared.expander.Nearness.{Nearness}
use Rattle.mbe.specs.ClosestRule.{spans_of, IsMatchFailed, IsFaulty, FailsWith}
use Rattle.mbe.specs.RuleChoice.{AreChecked, is_nearer, IsNearness}
use Rattle.mbe.specs.OneAnswer.{IsAnswer, HasSomeSpan, HasAnswer}
use Rattle.mbe.proofs.ChoiceLemmas.{NoneDecides, first_at, none_contained, none_more, contains_first, applies_first}
use Rattle.mbe.proofs.ChoiceLemmas.{end_at, none_ends, styled_end, same_end}
use Rattle.mbe.proofs.ClosestLemmas.{IsSoFar, so_far_start, so_far_skipped, so_far_first, so_far_kept, so_far_nearer}
use Rattle.mbe.proofs.ClosestLemmas.{nearest, closest, no_style, at_place}
use Rattle.mbe.proofs.TriedLemmas.{unfit, faulty}
use Rattle.mbe.proofs.AnswerOnce.{same_style}
use Rattle.mbe.proofs.FaultsAgree.{first_some}
use Rattle.mbe.proofs.TreeExists.{left_exists, substitution_exists}

-- ---- lists

rule_at : (xs : List Rule) (k : ℕ) → k < length xs → (r : Rule) × (slice_get xs k ≡ Some r)
rule_at [] k l = absurd (omega (arith, l))
rule_at (x ∷ xs) zero l = (x, refl)
rule_at (x ∷ xs) (suc k) l = rule_at xs k (omega (arith, l))

take_all : (xs : List Rule) → take (length xs) xs ≡ xs
take_all [] = refl
take_all (x ∷ xs) = ap (λ (ys : List Rule). x ∷ ys) (take_all xs)

some_of : (o : Option ExpandError) → is_some o ≡ true → (e : ExpandError) × (o ≡ Some e)
some_of None h = absurd (true≢false (sym h))
some_of (Some e) h = (e, refl)

is_one : Verdict → Bool
is_one one_reading = true
is_one many_readings = false
is_one (ambiguous q) = false
is_one (stuck q) = false

other_many : many_readings ≢ one_reading
unfolding is_one
other_many e = true≢false (sym (ap is_one e))

other_ambiguous : (q : ℕ) → ambiguous q ≢ one_reading
unfolding is_one
other_ambiguous q e = true≢false (sym (ap is_one e))

other_stuck : (q : ℕ) → stuck q ≢ one_reading
unfolding is_one
other_stuck q e = true≢false (sym (ap is_one e))

module _ (g : Grammar) (lawful : IsLawful g) (call_site : Span) (input : Top) where
  -- ---- what a match notes

  module _ (pattern : Ops) (checked : Checked pattern) (v : Verdict) (right : IsVerdict g pattern input.1 v) where
    kept_notes : (k q : ℕ) (os ps : List ThreadModel) (before : Notes)
        → EndsFollow (input_of g input.1) pattern q os ps before → stop_of input.1 v ≤ q + k → q ≤ stop_of input.1 v
        → (notes : Notes) × AreModelNotes (input_of g input.1) pattern (stop_of input.1 v) notes
    kept_notes zero q os ps before f far near =
        let same : q ≡ stop_of input.1 v = omega (arith, far, near) in
        (_, (os, ps, before, subst (λ p. EndsFollow (input_of g input.1) pattern p os ps before) same f, refl))
    kept_notes (suc k) q os ps before f far near =
        go (cases_lt q (stop_of input.1 v)) (λ w e within some. kept_notes k (q + w) _ _ _
        (follow_next q (q + w) w os ps before f e refl)
        (omega (arith, far, some)) within)
      where
        go : (q < stop_of input.1 v) ⊎ (stop_of input.1 v ≤ q)
            → ((w : ℕ) → first_width (first_moves (input_of g input.1) (state_count pattern) q os) ≡ Some w
            → q + w ≤ stop_of input.1 v → 0 < w
            → (notes : Notes) × AreModelNotes (input_of g input.1) pattern (stop_of input.1 v) notes)
            → (notes : Notes) × AreModelNotes (input_of g input.1) pattern (stop_of input.1 v) notes
        go (inl l) more =
            let s = continues g pattern input.1 lawful checked v right q os ps before f l in
            more s.width s.is s.within s.some
        go (inr l) more =
            let same : q ≡ stop_of input.1 v = omega (arith, l, near) in
            (_, (os, ps, before, subst (λ p. EndsFollow (input_of g input.1) pattern p os ps before) same f, refl))

    reports_exist : (err : ExpandError) × (bound : Commands) × Reports g pattern input.1 (spans_of input.0) v err bound
    reports_exist =
        let (notes, kept) = kept_notes (stop_of input.1 v) 0 _ _ _ follow_start (omega arith) (omega arith) in (
          _,
          _,
          record {
            notes = notes;
            error_at =
                (model_pass g pattern input.1 lawful checked v right (stop_of input.1 v) (omega arith) notes).1 kept;
            error = refl;
            bindings = refl;
          },
        )

    -- whether the pattern ends the call
    commitment : Commits g pattern input.1 ⊎ (Commits g pattern input.1 → ⊥)
    commitment =
        let found = kept_notes (stop_of input.1 v) 0 _ _ _ follow_start (omega arith) (omega arith) in
        commits_or_not g pattern input.1 lawful checked v right found.1.0 found.1.1 found.1.2 found.1.3

  -- ---- one rule

  -- it doesn't apply, comes that near, and ends the call or not
  abbrev Fails : Rule → Type 0
  Fails r = (Applies g r.style input.1 r → ⊥) × (near : Nearness) × IsNearness g call_site input r near
      × (err : ExpandError) × (env : Environment) × FailsWith g call_site input r err env
      × (Commits g r.reads input.1 ⊎ (Commits g r.reads input.1 → ⊥))

  unfit_fails : (r : Rule) → Checked r.reads → (v : Verdict) → IsVerdict g r.reads input.1 v → v ≢ one_reading → Fails r
  unfit_fails r checked v right many =
      let (err, bound, reports) = reports_exist r.reads checked v right in
      let env : Environment = run bound [] in
      let u : IsMatchFailed g call_site input r err env =
      record { verdict = v; judged = right; unfit = many; commands = bound; reported = reports; bound = refl } in
      let near : Nearness = record { unmatched = unmatched input.1 v; bound = min (binding_total env) (2 ^ 64 - 1) } in
      let both = unfit g call_site input r v right near refl err env many u refl in
      (both.0, near, both.1, err, env, inl u, commitment r.reads checked v right)

  faulty_fails : (r : Rule) → Checked r.reads → (is : Items)
      → IsVerdict g r.reads input.1 one_reading → Fits g r.reads input.1 is
      → faults (environment_of is) [] r.writes ≡ true → Fails r
  faulty_fails r checked is right fits fault =
      let env : Environment = environment_of is in
      let (err, e) = some_of (first_fault call_site env [] r.writes) (first_some call_site env [] r.writes ∙ fault) in
      let f : IsFaulty g call_site input r err env = record { items = is; fits = fits; bound = refl; fault = e } in
      let near : Nearness = record {
        unmatched = unmatched input.1 one_reading;
        bound = min (binding_total env) (2 ^ 64 - 1);
      } in
      let both = faulty g call_site input r one_reading right near refl err env f refl fault in
      (both.0, near, both.1, err, env, inr f, commitment r.reads checked one_reading right)

  outcome : (r : Rule) → Checked r.reads → Applies g r.style input.1 r ⊎ Fails r
  outcome r checked = let (v, right, only) = has_one_verdict g r.reads input.1 lawful checked in go v right
    where
      fitting : (is : Items) → IsVerdict g r.reads input.1 one_reading → Fits g r.reads input.1 is
          → (faults (environment_of is) [] r.writes ≡ true) ⊎ (faults (environment_of is) [] r.writes ≡ false)
          → Applies g r.style input.1 r ⊎ Fails r
      fitting is right fits (inl fault) = inr (faulty_fails r checked is right fits fault)
      fitting is right fits (inr none) = inl (record { styled = refl; items = is; fits = fits; faultless = none })

      go : (v : Verdict) → IsVerdict g r.reads input.1 v → Applies g r.style input.1 r ⊎ Fails r
      go one_reading right = fitting right.1.0 right (right.0, right.1.1)
          (cases_Bool (faults (environment_of right.1.0) [] r.writes))
      go many_readings right = inr (unfit_fails r checked many_readings right other_many)
      go (ambiguous q) right = inr (unfit_fails r checked (ambiguous q) right (other_ambiguous q))
      go (stuck q) right = inr (unfit_fails r checked (stuck q) right (other_stuck q))

  -- ---- all rules

  module _ (style : MacroCallStyle) (rs : List Rule) (all : AreChecked rs) where
    abbrev Found : Type 0
    Found = (n : ℕ) × (r : Rule) × (a : Applies g style input.1 r) × FirstThatApplies g style input.1 rs n r a

    -- the rule that ends the call, and how it fails
    abbrev Ended : Type 0
    Ended = (n : ℕ) × (r : Rule) × FirstThatEnds g style input.1 rs n r × (err : ExpandError) × (env : Environment)
        × FailsWith g call_site input r err env

    -- how the nearest so far fails
    abbrev IsKept : ℕ × Nearness → Type 0
    IsKept b = (r : Rule) × IsStyledAt rs style b.0 r × (err : ExpandError) × (env : Environment)
        × FailsWith g call_site input r err env

    -- none of the first so many applies or ends the call, and of these the nearest is known
    abbrev RuleOutcome : ℕ → Type 0
    RuleOutcome k = NoneDecides g style input.1 (take k rs) × (best : Option (ℕ × Nearness))
        × IsSoFar g call_site input style rs k best × IfSome best IsKept

    own_style : (r : Rule) → r.style ≡ style → Applies g style input.1 r → Applies g r.style input.1 r
    own_style r own a = record { styled = refl; items = a.items; fits = a.fits; faultless = a.faultless }

    nearer : (k : ℕ) (r : Rule) (here : slice_get rs k ≡ Some r) (own : r.style ≡ style)
        → NoneDecides g style input.1 (take k rs) → Fails r → (Commits g r.reads input.1 → ⊥)
        → (best : Option (ℕ × Nearness)) → IsSoFar g call_site input style rs k best → IfSome best IsKept
        → RuleOutcome (k + 1)
    nearer k r here own none (fails, near, is_near, err, env, why, decided) goes_on None far kept = (
      none_more g style input.1 rs k r none here (λ a. fails (own_style r own a)) (λ f. goes_on f.1),
      Some (k, near),
      so_far_first g call_site input style rs k r here near is_near far,
      (r, (here, own), err, env, why),
    )
    nearer k r here own none (fails, near, is_near, err, env, why, decided) goes_on (Some (n, b)) far kept =
        go (cases_Bool (is_nearer near b))
      where
        go : (is_nearer near b ≡ true) ⊎ (is_nearer near b ≡ false) → RuleOutcome (k + 1)
        go (inl t) = (
          none_more g style input.1 rs k r none here (λ a. fails (own_style r own a)) (λ f. goes_on f.1),
          Some (k, near),
          so_far_nearer g call_site input style rs k r here near is_near n b far t,
          (r, (here, own), err, env, why),
        )
        go (inr f) = (
          none_more g style input.1 rs k r none here (λ a. fails (own_style r own a)) (λ f. goes_on f.1),
          Some (n, b),
          so_far_kept g call_site input style rs k r here near is_near n b far f,
          kept,
        )

    step : (k : ℕ) (r : Rule) → slice_get rs k ≡ Some r → RuleOutcome k → Found ⊎ (Ended ⊎ RuleOutcome (k + 1))
    step k r here (none, best, far, kept) = go (same_style r.style style) (outcome r (all k r here))
      where
        decide : r.style ≡ style → (fails : Fails r) → Commits g r.reads input.1 ⊎ (Commits g r.reads input.1 → ⊥)
            → Ended ⊎ RuleOutcome (k + 1)
        decide own fails (inl ends) = inl (
          k,
          r,
          end_at g style input.1 rs k r none here (λ a. fails.0 (own_style r own a)) (own, ends),
          fails.3,
          fails.4,
          fails.5,
        )
        decide own fails (inr goes_on) = inr (nearer k r here own none fails goes_on best far kept)

        go : (r.style ≡ style) ⊎ (r.style ≢ style) → Applies g r.style input.1 r ⊎ Fails r
            → Found ⊎ (Ended ⊎ RuleOutcome (k + 1))
        go (inr other) h = inr (inr (
          none_more g style input.1 rs k r none here (λ a. other a.styled) (λ f. other f.0),
          best,
          so_far_skipped g call_site input style rs k r here best far other,
          kept,
        ))
        go (inl own) (inl a) =
            let b : Applies g style input.1 r =
            record { styled = own; items = a.items; fits = a.fits; faultless = a.faultless } in
            inl (k, r, b, first_at g style input.1 rs k r b none here)
        go (inl own) (inr fails) = inr (decide own fails fails.6)

    search_to : (k : ℕ) → k ≤ length rs → Found ⊎ (Ended ⊎ RuleOutcome k)
    search_to zero l = inr (inr (tt, None, so_far_start g call_site input style rs, tt))
    search_to (suc k) l =
        let (r, here) = rule_at rs k (omega (arith, l)) in
        go r here (search_to k (omega (arith, l)))
      where
        go : (r : Rule) → slice_get rs k ≡ Some r → Found ⊎ (Ended ⊎ RuleOutcome k)
            → Found ⊎ (Ended ⊎ RuleOutcome (suc k))
        go r here (inl found) = inl found
        go r here (inr (inl ended)) = inr (inl ended)
        go r here (inr (inr tried)) =
            subst (λ m. Found ⊎ (Ended ⊎ RuleOutcome m)) (omega arith) (step k r here tried)

    module _ (Marks : Span → Span → Type 0) (some : HasSomeSpan Marks) where
      abbrev Answer : Type 0
      Answer = (out : Forest) × (index : Option ℕ) × (err : Option ExpandError)
          × IsAnswer g Marks rs style input call_site out index err

      expanded : Found → Answer
      expanded (n, r, a, first) =
          let (out, w) = substitution_exists g Marks call_site some (environment_of a.items) r.writes a.faultless in (
            out,
            arm_of n,
            None,
            record {
              expands = record {
                sound = λ e. (n, (r, a, first, w), refl);
                complete = λ quiet s c b. refl;
                recovers = λ quiet e x s. absurd (none-some e x);
                ended = λ m s ends. absurd (applies_first g style input.1 first m s ends);
                no_rule = λ nobody. absurd (nobody (r, contains_first g style input.1 first, a.styled));
              };
              recovers = λ e x s. absurd (none-some e x);
            },
          )

      recovered : RuleOutcome (length rs) → Answer
      recovered (none, None, far, kept) =
          let nobody : HasStyle rs style → ⊥ = no_style g call_site input style rs (length rs) (omega arith) far in (
            empty_tree call_site,
            None,
            Some (record { span = call_site; kind = no_matching_rule }),
            record {
              expands = record {
                sound = λ e. absurd (true≢false e);
                complete = λ quiet s c a. absurd (nobody (s, c, a.styled));
                recovers = λ quiet e x h. absurd (nobody h);
                ended = λ m s ends.
                    let at = styled_end g style input.1 ends in absurd (nobody (s, at_place rs m s at.0, at.1));
                no_rule = λ other. (refl, refl, refl);
              };
              recovers = λ e x h. absurd (nobody h);
            },
          )
      recovered (none, Some (n, near), far, (r, at, err, env, fails)) =
          let (out, left) = left_exists g Marks call_site some env r.writes in
          let near_all = nearest g call_site input style rs (length rs) n near r (omega arith) at far in
          let nobody : NoneDecides g style input.1 rs = subst (NoneDecides g style input.1) (take_all rs) none in (
            out,
            arm_of n,
            Some err,
            record {
              expands = record {
                sound = λ e. absurd (true≢false e);
                complete = λ quiet s c a. absurd (none_contained g style input.1 rs s nobody c a);
                recovers = λ quiet e x h. (n, closest g call_site input style rs n r near_all, refl);
                ended = λ m s ends. absurd (none_ends g style input.1 rs nobody m s ends);
                no_rule = λ other. absurd (other (r, at_place rs n r at.0, at.1));
              };
              recovers = λ e x h. record {
                rule_index = n;
                rule = r;
                answering = inr (none_ends g style input.1 rs nobody, near_all);
                named = refl;
                recovered = record { error = err; env = env; reported = refl; fails = fails; left = left };
              };
            },
          )

      ended : Ended → Answer
      ended (n, r, ends, err, env, fails) =
          let (out, left) = left_exists g Marks call_site some env r.writes in
          let at = styled_end g style input.1 ends in (
            out,
            arm_of n,
            Some err,
            record {
              expands = record {
                sound = λ e. absurd (true≢false e);
                complete = λ quiet s c a. absurd (quiet n r ends);
                recovers = λ quiet e x h. absurd (quiet n r ends);
                ended = λ m s other. (refl, ap arm_of (same_end g style input.1 ends m s other).0);
                no_rule = λ other. absurd (other (r, at_place rs n r at.0, at.1));
              };
              recovers = λ e x h. record {
                rule_index = n;
                rule = r;
                answering = inl ends;
                named = refl;
                recovered = record { error = err; env = env; reported = refl; fails = fails; left = left };
              };
            },
          )

      answered : Found ⊎ (Ended ⊎ RuleOutcome (length rs)) → Answer
      answered (inl found) = expanded found
      answered (inr (inl last)) = ended last
      answered (inr (inr tried)) = recovered tried

pub has_answer : (Marks : Span → Span → Type 0) → HasAnswer Marks
has_answer Marks some g rs style input call_site lawful all =
    answered g lawful call_site input style rs all Marks some
    (search_to g lawful call_site input style rs all (length rs) (omega arith))
