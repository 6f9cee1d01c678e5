-- What the verdict on a rule's pattern and its substitution say of the rule.
use Rattle.std.specs.Prelude.{◌≡◌, ◌≢◌, ◌⊎◌, ◌-◌, ◌^◌, ℕ, true, false, min, [], Option, Some, None}
use Rattle.std.proofs.Common.{ap, sym, subst, ◌∙◌, refl, inl, inr}
use Rattle.std.proofs.lemmas.Bool.{true≢false}
use Rattle.mbe_tt.specs.declared.span.Span.{Span}
use Rattle.mbe_tt.specs.declared.span.DelimSpan.{DelimSpan}
use Rattle.mbe_tt.specs.Trees.Tree.{Forest, tree_count}
use Rattle.mbe_tt.proofs.Offsets.OffsetLemmas.{rest_at-zero}
use Rattle.mbe_tt.specs.Trees.Top.{Top}
use Rattle.mbe_tt.specs.Grammars.Grammar.{Grammar, IsLawful}
use Rattle.mbe_semantics.specs.Syntax.Definition.{Rule}
use Rattle.mbe_semantics.specs.Syntax.Nullable.{Checked}
use Rattle.mbe_semantics.specs.Readings.Item.{Items}
use Rattle.mbe_semantics.specs.Readings.Ambiguity.{Fits}
use Rattle.mbe_semantics.specs.Readings.Verdict.{Verdict, one_reading, many_readings, ambiguous, stuck, IsVerdict}
use Rattle.mbe_semantics.specs.Readings.Verdict.{unmatched}
use Rattle.mbe_semantics.specs.Bindings.Account.{Log, Handle, Account, IsAccount, run, no_commands}
use Rattle.mbe_semantics.specs.Bindings.Environment.{Environment, environment_of, binding_total}
use Rattle.mbe_semantics.specs.Transcription.Substitution.{faults, IsSubstitution}
use Rattle.mbe_semantics.specs.Expansion.Error.{ExpandError}
use Rattle.mbe_semantics.specs.Expansion.Expansion.{Applies}
use Rattle.mbe_matcher.specs.Failures.{Reports}
use Rattle.mbe_matcher.specs.Fronts.{starts_with_wrong_token, first_match_error}
use Rattle.mbe_matcher.proofs.Starts.{otherwise_stuck, otherwise_fails, otherwise_reports}
use Rattle.mbe_matcher.specs.Reports.{IsReported}
use Rattle.mbe.specs.declared.expander.Nearness.{Nearness}
use Rattle.mbe.specs.ClosestRule.{spans_of, IsMatchFailed, IsFaulty, ComesNear}
use Rattle.mbe.specs.RuleChoice.{IsNearness}

-- a pattern that fits has one reading by every right verdict
pub fits_alone : (g : Grammar) (r : Rule) (argument : Forest) (v : Verdict) → IsVerdict g r.reads argument v
    → (is : Items) → Fits g r.reads argument is → v ≡ one_reading
fits_alone g r argument one_reading right is f = refl
fits_alone g r argument many_readings (calm, (js, ks, j, k, differ)) is f =
    absurd (differ (f.1.1 js j ∙ sym (f.1.1 ks k)))
fits_alone g r argument (ambiguous q) (a, least) is f = absurd (f.0 q a)
fits_alone g r argument (stuck q) (calm, nothing, at, most) is f = absurd (nothing is f.1.0)

module _ (g : Grammar) (call_site : Span) (input : Top) (r : Rule) where
  -- what a match returns that fails is what the rule comes to
  pub unfit_of : (v : Verdict) → IsVerdict g r.reads input.1 v → v ≢ one_reading → (argument : Forest)
      → argument ≡ input.1 → (around : DelimSpan) → around ≡ spans_of input.0
      → (log : Log) (h : Handle) (err : ExpandError) → IsReported g r.reads argument around log v err h
      → (env : Environment) → ((a : Account) → IsAccount log h a → env ≡ run a.current [])
      → IsMatchFailed g call_site input r err env
  unfit_of v right many argument same around spans log h err (commands, (a, account, holds), reported) env built =
      record {
        verdict = v;
        judged = right;
        unfit = many;
        commands = commands;
        reported = subst (λ d. Reports g r.reads input.1 d v err commands) spans
            (subst (λ f. Reports g r.reads f around v err commands) same reported);
        bound = built a account ∙ ap (λ cs. run cs []) holds;
      }

  module _ (v : Verdict) (right : IsVerdict g r.reads input.1 v) (near : Nearness)
      (left : near.unmatched ≡ unmatched input.1 v) where
    pub unfit : (err : ExpandError) (env : Environment) → v ≢ one_reading → IsMatchFailed g call_site input r err env
        → near.bound ≡ min (binding_total env) (2 ^ 64 - 1)
        → (Applies g r.style input.1 r → ⊥) × IsNearness g call_site input r near
    unfit err env many u count = (
      λ a. many (fits_alone g r input.1 v right a.items a.fits),
      record { trees = (v, right, left); bindings = (err, env, inl u, count) },
    )

    pub faulty : (err : ExpandError) (env : Environment) → (f : IsFaulty g call_site input r err env)
        → near.bound ≡ min (binding_total env) (2 ^ 64 - 1)
        → faults env [] r.writes ≡ true → (Applies g r.style input.1 r → ⊥) × IsNearness g call_site input r near
    faulty err env f count fault = (
      λ a.
          let same : environment_of a.items ≡ env = ap environment_of (f.fits.1.1 a.items a.fits.1.0) ∙ sym f.bound in
          true≢false (sym (ap (λ e. faults e [] r.writes) same ∙ fault) ∙ a.faultless),
      record { trees = (v, right, left); bindings = (err, env, inr f, count) },
    )

  -- of a rule that fits, what is bound is that of its reading
  pub bound_as_fit : (left bound : ℕ) → ComesNear g call_site input r left bound → (is : Items)
      → Fits g r.reads input.1 is
      → bound ≡ min (binding_total (environment_of is)) (2 ^ 64 - 1)
  bound_as_fit left bound near is fits = go near.bindings
    where
      go : (err : ExpandError) × (env : Environment)
          × (IsMatchFailed g call_site input r err env ⊎ IsFaulty g call_site input r err env)
          × (bound ≡ min (binding_total env) (2 ^ 64 - 1))
          → bound ≡ min (binding_total (environment_of is)) (2 ^ 64 - 1)
      go (err, env, inl u, count) = absurd (u.unfit (fits_alone g r input.1 u.verdict u.judged is fits))
      go (err, env, inr f, count) = count ∙ ap (λ e. min (binding_total e) (2 ^ 64 - 1))
          (f.bound ∙ sym (ap environment_of (f.fits.1.1 is fits.1.0)))

  pub applied : (Marks : Span → Span → Type 0) (out : Forest) (is : Items) → Fits g r.reads input.1 is
      → (env : Environment) → env ≡ environment_of is
      → faults env [] r.writes ≡ false → IsSubstitution g Marks call_site env r.writes out
      → (a : Applies g r.style input.1 r) × IsSubstitution g Marks call_site (environment_of a.items) r.writes out
  applied Marks out is fits env bound faultless written = (
    record {
      styled = refl;
      items = is;
      fits = fits;
      faultless = ap (λ e. faults e [] r.writes) (sym bound)
          ∙ faultless;
    },
    subst (λ e. IsSubstitution g Marks call_site e r.writes out) bound written,
  )

  -- a rule that begins otherwise than the argument comes to nothing: no tree is matched, and nothing is bound
  module _ (law : IsLawful g) (checked : Checked r.reads)
      (other : starts_with_wrong_token g.dialect r.reads input.1 ≡ true) where
    pub recover_other_start : (err : ExpandError) (env : Environment) →
        Reports g r.reads input.1 (spans_of input.0) (stuck 0) err no_commands → env ≡ []
        → IsMatchFailed g call_site input r err env
    recover_other_start err env reported bound = record {
      verdict = stuck 0;
      judged = otherwise_stuck g r.reads input.1 law checked other;
      unfit = λ one. cc;
      commands = no_commands;
      reported = reported;
      bound = bound;
    }

    reported_by : (e : Option ExpandError) → first_match_error g r.reads input.1 (spans_of input.0) ≡ e →
        (err : ExpandError) × Reports g r.reads input.1 (spans_of input.0) (stuck 0) err no_commands
    reported_by None n = absurd (otherwise_fails g r.reads input.1 (spans_of input.0) other n)
    reported_by (Some err) n = (err, otherwise_reports g r.reads input.1 (spans_of input.0) law checked other err n)

    pub unlike_tried : (near : Nearness) → near.unmatched ≡ tree_count input.1 → near.bound ≡ 0 →
        (Applies g r.style input.1 r → ⊥) × IsNearness g call_site input r near
    unlike_tried near left none =
        let it = reported_by (first_match_error g r.reads input.1 (spans_of input.0)) refl in
        unfit (stuck 0) (otherwise_stuck g r.reads input.1 law checked other) near
        (left ∙ ap tree_count (sym (rest_at-zero input.1))) it.0 [] (λ one. cc)
        (recover_other_start it.0 [] it.1 refl) none
