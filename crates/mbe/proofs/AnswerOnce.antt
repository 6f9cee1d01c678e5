-- A call has one answer: of the rules that apply the first, and else the closest, with one error and one tree.
use Rattle.std.specs.Prelude.{◌≡◌, ◌≢◌, ◌⊎◌, ◌-◌, ◌^◌, ◌==◌, ℕ, zero, suc, Bool, true, false, min, List, [], ◌∷◌}
use Rattle.std.specs.Prelude.{slice_get, Contains, Option, Some, None, refl}
use Rattle.std.proofs.Common.{ap, sym, subst, ◌∙◌, arith, inl, inr}
use Rattle.std.proofs.lemmas.Bool.{true≢false}
use Rattle.std.proofs.lemmas.Option.{same_Some}
use Rattle.mbe_tt.specs.declared.span.Span.{Span}
use Rattle.mbe_tt.specs.Trees.Tree.{Forest, flat_len}
use Rattle.mbe_tt.specs.Trees.Top.{Top}
use Rattle.mbe_tt.specs.Grammars.Grammar.{Grammar, IsLawful}
use Rattle.mbe_semantics.specs.declared.macro_call_style.MacroCallStyle.{MacroCallStyle}
use Rattle.mbe_semantics.specs.declared.macro_call_style.MacroCallStyle.TheVariants.{FnLike, Attr, Derive}
use Rattle.mbe_semantics.specs.Syntax.Definition.{Rule}
use Rattle.mbe_semantics.specs.Readings.Input.{input_of}
use Rattle.mbe_semantics.specs.Readings.Verdict.{Verdict, stop_of, unmatched}
use Rattle.mbe_semantics.specs.Bindings.Account.{Commands, run}
use Rattle.mbe_semantics.specs.Bindings.Environment.{Environment, environment_of, binding_total}
use Rattle.mbe_semantics.specs.Expansion.Error.{ExpandError}
use Rattle.mbe_semantics.specs.Expansion.Expansion.{Applies, IsExpansion, NoneEnds}
use Rattle.mbe_semantics.specs.Expansion.Macro.{arm_of}
use Rattle.mbe_semantics.specs.Expansion.Recovery.{HasStyle, IsCloser}
use Rattle.mbe_semantics.specs.Laws.Laws.{HasOneAnswer}
use Rattle.mbe_semantics.proofs.InputLemmas.{lawful_inputs}
use Rattle.mbe_laws.proofs.Matching.RunLemmas.{one_verdict}
use Rattle.mbe_laws.proofs.Expansion.ExpansionLemmas.{one_expansion}
use Rattle.mbe_matcher.specs.Failures.{Notes, AreNotes, Reports, error_of_notes, commands_of_notes}
use Rattle.mbe_transcriber.specs.TemplateFaults.{first_fault}
use Rattle.mbe_transcriber.specs.PartialExpansion.{IsPartialExpansion}
use Rattle.mbe.specs.ClosestRule.{spans_of, IsMatchFailed, IsFaulty, FailsWith, ComesNear, IsNearest, IsRecovered}
use Rattle.mbe.specs.ClosestRule.{IsRecovery, IsAnswering}
use Rattle.mbe.specs.OneAnswer.{OneAnswer}
use Rattle.mbe.proofs.ChoiceLemmas.{contains_first, applies_first, same_end}
use Rattle.mbe.proofs.TriedLemmas.{fits_alone}
use Rattle.mbe.proofs.NotesOnce.{notes_once}
use Rattle.mbe.proofs.LeftOnce.{left_same}

-- ---- styles

is_fn_like : MacroCallStyle → Bool
is_fn_like FnLike = true
is_fn_like Attr = false
is_fn_like Derive = false

is_attr : MacroCallStyle → Bool
is_attr FnLike = false
is_attr Attr = true
is_attr Derive = false

pub same_style : (s t : MacroCallStyle) → (s ≡ t) ⊎ (s ≢ t)
unfolding is_fn_like is_attr
same_style FnLike FnLike = inl refl
same_style FnLike Attr = inr (λ e. true≢false (ap is_fn_like e))
same_style FnLike Derive = inr (λ e. true≢false (ap is_fn_like e))
same_style Attr FnLike = inr (λ e. true≢false (ap is_attr e))
same_style Attr Attr = inl refl
same_style Attr Derive = inr (λ e. true≢false (ap is_attr e))
same_style Derive FnLike = inr (λ e. true≢false (sym (ap is_fn_like e)))
same_style Derive Attr = inr (λ e. true≢false (sym (ap is_attr e)))
same_style Derive Derive = inl refl

-- a list has a rule of the style, or none
has_style : (rs : List Rule) (style : MacroCallStyle) → HasStyle rs style ⊎ (HasStyle rs style → ⊥)
has_style [] style = inr (λ (r, (k, l, e), s). absurd (omega (arith, l)))
has_style (x ∷ rs) style = go (same_style x.style style) (has_style rs style)
  where
    later : HasStyle rs style → HasStyle (x ∷ rs) style
    later (r, (k, l, e), s) = (r, (suc k, omega (arith, l), e), s)

    one : x.style ≢ style → (HasStyle rs style → ⊥) → HasStyle (x ∷ rs) style → ⊥
    one other none (r, (zero, l, e), s) = other (ap (λ (y : Rule). y.style) e ∙ s)
    one other none (r, (suc k, l, e), s) = none (r, (k, omega (arith, l), e), s)

    go : (x.style ≡ style) ⊎ (x.style ≢ style) → HasStyle rs style ⊎ (HasStyle rs style → ⊥)
        → HasStyle (x ∷ rs) style ⊎ (HasStyle (x ∷ rs) style → ⊥)
    go (inl s) h = inl (x, (0, omega arith, refl), s)
    go (inr s) (inl h) = inl (later h)
    go (inr s) (inr h) = inr (one s h)

-- ---- a rule that doesn't apply

module _ (g : Grammar) (lawful : IsLawful g) (call_site : Span) (input : Top) where
  reports_same : (r : Rule) (v w : Verdict) → v ≡ w → (err other : ExpandError) (bound held : Commands)
      → Reports g r.reads input.1 (spans_of input.0) v err bound
      → Reports g r.reads input.1 (spans_of input.0) w other held → (err ≡ other) × (bound ≡ held)
  reports_same r v w same err other bound held a b =
      let at : stop_of input.1 v ≡ stop_of input.1 w = ap (stop_of input.1) same in
      let notes : a.notes ≡ b.notes = notes_once (input_of g input.1) (flat_len input.1)
      (lawful_inputs g input.1 lawful) r.reads (stop_of input.1 w) a.notes b.notes
      (subst (λ q. AreNotes (input_of g input.1) r.reads q a.notes) at a.error_at) b.error_at in (
        a.error ∙ ap (λ q. error_of_notes g input.1 (spans_of input.0) (q == flat_len input.1) a.notes) at
            ∙ ap (error_of_notes g input.1 (spans_of input.0) (stop_of input.1 w == flat_len input.1)) notes
            ∙ sym b.error,
        a.bindings ∙ ap (λ (n : Notes). commands_of_notes g input.1 n.last) notes ∙ sym b.bindings,
      )

  unfit_same : (r : Rule) (err other : ExpandError) (env more : Environment) → IsMatchFailed g call_site input r err env
      → IsMatchFailed g call_site input r other more
      → (err ≡ other) × (env ≡ more)
  unfit_same r err other env more u v =
      let same : u.verdict ≡ v.verdict = one_verdict g r.reads input.1 u.verdict v.verdict u.judged v.judged in
      let reported = reports_same r u.verdict v.verdict same err other u.commands v.commands u.reported v.reported in
      (reported.0, u.bound ∙ ap (λ cs. run cs []) reported.1 ∙ sym v.bound)

  faulty_same : (r : Rule) (err other : ExpandError) (env more : Environment) → IsFaulty g call_site input r err env
      → IsFaulty g call_site input r other more
      → (err ≡ other) × (env ≡ more)
  faulty_same r err other env more f h =
      let same : env ≡ more = f.bound ∙ ap environment_of (h.fits.1.1 f.items f.fits.1.0) ∙ sym h.bound in
      (same_Some err other (sym f.fault ∙ ap (λ e. first_fault call_site e [] r.writes) same ∙ h.fault), same)

  fails_same : (r : Rule) (err other : ExpandError) (env more : Environment) → FailsWith g call_site input r err env
      → FailsWith g call_site input r other more
      → (err ≡ other) × (env ≡ more)
  fails_same r err other env more (inl u) (inl v) = unfit_same r err other env more u v
  fails_same r err other env more (inl u) (inr f) =
      absurd (u.unfit (fits_alone g r input.1 u.verdict u.judged f.items f.fits))
  fails_same r err other env more (inr f) (inl u) =
      absurd (u.unfit (fits_alone g r input.1 u.verdict u.judged f.items f.fits))
  fails_same r err other env more (inr f) (inr h) = faulty_same r err other env more f h

  near_same : (r : Rule) (left bound less held : ℕ) → ComesNear g call_site input r left bound
      → ComesNear g call_site input r less held → (left ≡ less) × (bound ≡ held)
  near_same r left bound less held c d =
      let (v, judged, e) = c.trees in
      let (w, right, k) = d.trees in
      let (err, env, fails, count) = c.bindings in
      let (other, more, breaks, total) = d.bindings in (
        e ∙ ap (unmatched input.1) (one_verdict g r.reads input.1 v w judged right) ∙ sym k,
        count ∙ ap (λ x. min (binding_total x) (2 ^ 64 - 1)) (fails_same r err other env more fails breaks).1
            ∙ sym total,
      )

  -- ---- the closest

  before_both : (left less bound held : ℕ → ℕ) (n m : ℕ) → left n ≡ less n → left m ≡ less m → bound n ≡ held n
      → bound m ≡ held m
      → IsCloser left bound n m → IsCloser less held m n → n ≡ m
  before_both left less bound held n m a b c d (inl l) (inl k) = absurd (omega (arith, a, b, l, k))
  before_both left less bound held n m a b c d (inl l) (inr (e, k)) = absurd (omega (arith, a, b, l, e))
  before_both left less bound held n m a b c d (inr (e, l)) (inl k) = absurd (omega (arith, a, b, e, k))
  before_both left less bound held n m a b c d (inr (e, inl l)) (inr (h, inl k)) = absurd (omega (arith, c, d, l, k))
  before_both left less bound held n m a b c d (inr (e, inl l)) (inr (h, inr (k, o))) =
      absurd (omega (arith, c, d, l, k))
  before_both left less bound held n m a b c d (inr (e, inr (l, p))) (inr (h, inl k)) =
      absurd (omega (arith, c, d, l, k))
  before_both left less bound held n m a b c d (inr (e, inr (l, p))) (inr (h, inr (k, o))) = omega (arith, p, o)

  nearest_same : (style : MacroCallStyle) (rs : List Rule) (n m : ℕ) (r s : Rule)
      → IsNearest g call_site input style rs n r → IsNearest g call_site input style rs m s → (n ≡ m) × (r ≡ s)
  nearest_same style rs n m r s h k =
      let a = near_same r (h.left n) (h.bound n) (k.left n) (k.bound n) (h.near n r h.styled) (k.near n r h.styled) in
      let b = near_same s (h.left m) (h.bound m) (k.left m) (k.bound m) (h.near m s k.styled) (k.near m s k.styled) in
      let same : n ≡ m = before_both h.left k.left h.bound k.bound n m a.0 b.0 a.1 b.1 (h.first m s k.styled)
      (k.first n r h.styled) in
      (same, same_Some r s (sym h.styled.0 ∙ ap (slice_get rs) same ∙ k.styled.0))

  answering_same : (style : MacroCallStyle) (rs : List Rule) (n m : ℕ) (r s : Rule)
      → IsAnswering g call_site input style rs n r → IsAnswering g call_site input style rs m s → (n ≡ m) × (r ≡ s)
  answering_same style rs n m r s (inl h) (inl k) = same_end g style input.1 h m s k
  answering_same style rs n m r s (inl h) (inr (quiet, k)) = absurd (quiet n r h)
  answering_same style rs n m r s (inr (quiet, h)) (inl k) = absurd (quiet m s k)
  answering_same style rs n m r s (inr (_, h)) (inr (_, k)) = nearest_same style rs n m r s h k

  module _ (Marks : Span → Span → Type 0) (fn : HasOneAnswer Marks) where
    recovered_same : (r : Rule) (out other : Forest) (err reported : Option ExpandError)
        → IsRecovered g call_site input Marks r out err
        → IsRecovered g call_site input Marks r other reported → (out ≡ other) × (err ≡ reported)
    recovered_same r out other err reported a b =
        let same = fails_same r a.error b.error a.env b.env a.fails b.fails in (
          left_same g Marks call_site fn b.env r.writes out other
              (subst (λ e. IsPartialExpansion g Marks call_site e r.writes out) same.1 a.left) b.left,
          a.reported ∙ ap Some same.0 ∙ sym b.reported,
        )

    recovery_same : (rs : List Rule) (style : MacroCallStyle) (out other : Forest) (index rule_index : Option ℕ)
        (err reported : Option ExpandError)
        → IsRecovery g call_site input Marks rs style out index err
        → IsRecovery g call_site input Marks rs style other rule_index reported
        → (out ≡ other) × (index ≡ rule_index) × (err ≡ reported)
    recovery_same rs style out other index rule_index err reported a b =
        let same = answering_same style rs a.rule_index b.rule_index a.rule b.rule a.answering b.answering in
        let whole = recovered_same b.rule out other err reported
        (subst (λ r. IsRecovered g call_site input Marks r out err) same.1 a.recovered) b.recovered in
        (whole.0, a.named ∙ ap arm_of same.0 ∙ sym b.named, whole.1)

-- ---- all answers

-- some rule applies, of which there is an expansion, and no rule ends the call
applying : (g : Grammar) (style : MacroCallStyle) (argument : Forest) (Marks : Span → Span → Type 0) (call_site : Span)
    (rs : List Rule) (n : ℕ) (out : Forest)
    → IsExpansion g style argument Marks call_site rs n out → (r : Rule) × Contains rs r × Applies g style argument r
    × NoneEnds g style argument rs
applying g style argument Marks call_site rs n out (r, a, first, w) =
    (r, contains_first g style argument first, a, applies_first g style argument first)

pub one_answer : (Marks : Span → Span → Type 0) → OneAnswer Marks
one_answer Marks fn g rs style input call_site out other index rule_index None None lawful a b =
    let (n, x, i) = a.expands.sound refl in
    let (m, y, j) = b.expands.sound refl in
    let same = one_expansion Marks fn g style input.1 call_site rs n m out other x y in
    (same.1, i ∙ ap arm_of same.0 ∙ sym j, refl)
one_answer Marks fn g rs style input call_site out other index rule_index None (Some e) lawful a b =
    let (n, x, i) = a.expands.sound refl in
    let (r, c, y, quiet) = applying g style input.1 Marks call_site rs n out x in
    absurd (true≢false (b.expands.complete quiet r c y))
one_answer Marks fn g rs style input call_site out other index rule_index (Some e) None lawful a b =
    let (n, x, i) = b.expands.sound refl in
    let (r, c, y, quiet) = applying g style input.1 Marks call_site rs n other x in
    absurd (true≢false (a.expands.complete quiet r c y))
one_answer Marks fn g rs style input call_site out other index rule_index (Some e) (Some f) lawful a b =
    go (has_style rs style)
  where
    go : HasStyle rs style ⊎ (HasStyle rs style → ⊥) → (out ≡ other) × (index ≡ rule_index) × (Some e ≡ Some f)
    go (inl h) = recovery_same g lawful call_site input Marks fn rs style out other index rule_index (Some e) (Some f)
        (a.recovers e refl h) (b.recovers f refl h)
    go (inr h) =
        let (t, n, r) = a.expands.no_rule h in
        let (u, m, s) = b.expands.no_rule h in
        (t ∙ sym u, n ∙ sym m, r ∙ sym s)
