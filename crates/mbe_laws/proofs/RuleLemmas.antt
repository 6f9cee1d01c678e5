-- Rules that apply, and rules that are the closest.
use Rattle.std.specs.Prelude.{◌≡◌, ◌⊎◌, ◌-◌, ◌^◌, ◌&&◌, ◌==◌, not, ℕ, zero, suc, min, if◌then◌else◌, IsTrue, IsFalse}
use Rattle.std.specs.Prelude.{[], ◌∷◌, Option, Some, None, Ok, refl}
use Rattle.std.proofs.Common.{arith, subst, sym, ◌∙◌}
use Rattle.std.proofs.Math.Bool.{false≢true}
use Rattle.std.proofs.lemmas.Option.{none-some, same_Some}
use Rattle.mbe_tt.specs.Trees.Tree.{Forest, none, flat_len, Cut, cut_flat}
use Rattle.mbe_tt.specs.Grammars.Grammar.{Grammar, IsLawful}
use Rattle.mbe_tt.specs.declared.grammar.Dialect.TheVariants.{RustAnalyzer}
use Rattle.mbe_tt.specs.declared.grammar.Front.{Front}
use Rattle.mbe_semantics.specs.declared.macro_call_style.MacroCallStyle.{MacroCallStyle}
use Rattle.mbe_semantics.specs.Syntax.Op.{Ops, has_no_repetition}
use Rattle.mbe_semantics.specs.Syntax.Template as read
use Rattle.mbe_semantics.specs.Syntax.Template.{Template, Fault}
use Rattle.mbe_semantics.specs.Syntax.Definition.{Rule, RuleTrees, AreParts, ended, separated, IsMacroRules}
use Rattle.mbe_semantics.specs.Syntax.Definition.{rule_trees_at, after_separator, with_refusal}
use Rattle.mbe_semantics.specs.Examples.Sample.{Defines, is_2024, open_grammar}
use Rattle.mbe_semantics.specs.Readings.Verdict.{Verdict, IsVerdict, unmatched}
use Rattle.mbe_semantics.specs.Bindings.Environment.{environment_of, binding_total}
use Rattle.mbe_semantics.specs.Transcription.Substitution.{faults}
use Rattle.mbe_semantics.specs.Expansion.Expansion.{Applies, IsFinal}
use Rattle.mbe_semantics.specs.Expansion.Recovery.{IsClosest, IsStyledAt, IsCloser}
use Rattle.mbe_semantics.specs.declared.fragment_kinds.MetaVarKind.{MetaVarKind}
use Rattle.mbe_semantics.specs.Readings.Item.{Fragment, Items}
use Rattle.mbe_semantics.specs.Readings.Ambiguity.{IsReading, Fits}
use Rattle.mbe_semantics.specs.Readings.Input.{fragment_of}
use Rattle.mbe_semantics.specs.Syntax.Nullable.{Checked}
use Rattle.mbe_semantics.specs.Matching.Run.{verdict}
use Rattle.mbe_semantics.proofs.PlainLemmas.{never_ambiguous, one_reading}
use Rattle.mbe_laws.proofs.Matching.RunLemmas.{verdict-right}
use Rattle.mbe_semantics.specs.Readings.Verdict as verdicts

-- what an answer of the grammar cuts from the front
abbrev pub answer_cut : Forest → Front → Option Cut
answer_cut f a = if not a.fault && (flat_len (cut_flat a.count f).front == a.count) then Some (cut_flat a.count f) else
    None

abbrev pub fits_once : (g : Grammar) (pattern : Ops) (argument : Forest) (is : Items)
    → IsTrue (has_no_repetition pattern) →
    IsReading g pattern argument is → Fits g pattern argument is
fits_once g pattern argument is h r =
    ((λ q. never_ambiguous g pattern argument q h), (r, λ others s. one_reading g pattern argument others is h s r))

-- what an answer of the grammar binds in rust-analyzer's dialect
abbrev pub answer_fragment : Option MetaVarKind → Forest → Front → Option Fragment
answer_fragment kind f a = fragment_of RustAnalyzer kind (answer_cut f a)

-- the verdict, by a run
pub by_run : (g : Grammar) (p : Ops) (a : Forest) (v : Verdict) → IsLawful g → Checked p → verdict g p a ≡ v
    → IsVerdict g p a v
by_run g p a v w c e = let P : Verdict → Type 0 = λ x. IsVerdict g p a x in subst P e (verdict-right g p a w c)

-- a reading is the only one where a run says that there is one
pub fits_by_run : (g : Grammar) (p : Ops) (a : Forest) (is : Items) → IsLawful g → Checked p
    → verdict g p a ≡ verdicts.one_reading → IsReading g p a is → Fits g p a is
fits_by_run g p a is w c e r =
    let v : IsVerdict g p a verdicts.one_reading = by_run g p a verdicts.one_reading w c e in
    (v.0, (r, λ js s. v.1.1.1 js s ∙ sym (v.1.1.1 is r)))

abbrev pub applies_once : (g : Grammar) (style : MacroCallStyle) (argument : Forest) (r : Rule) (is : Items)
    → r.style ≡ style →
    IsTrue (has_no_repetition r.reads) → IsReading g r.reads argument is
    → IsFalse (faults (environment_of is) [] r.writes) →
    Applies g style argument r
applies_once g style argument r is s h d f =
    record { styled = s; items = is; fits = fits_once g r.reads argument is h d; faultless = f }

-- the same, where a run says that there is one reading
abbrev pub applies_by_run : (g : Grammar) (style : MacroCallStyle) (argument : Forest) (r : Rule) (is : Items)
    → IsLawful g → Checked r.reads → r.style ≡ style →
    verdict g r.reads argument ≡ verdicts.one_reading → IsReading g r.reads argument is
    → IsFalse (faults (environment_of is) [] r.writes) →
    Applies g style argument r
applies_by_run g style argument r is w c s e d f =
    record { styled = s; items = is; fits = fits_by_run g r.reads argument is w c e d; faultless = f }

-- rust-analyzer goes on after each rule
pub never_final : (g : Grammar) (style : MacroCallStyle) (argument : Forest) (r : Rule)
    → IsFinal (open_grammar g) style argument r → ⊥
never_final g style argument r f = false≢true (f.1).rustc

-- a rule whose only reading faults doesn't apply
pub faulty_once : (g : Grammar) (style : MacroCallStyle) (argument : Forest) (r : Rule) (is : Items)
    → IsTrue (has_no_repetition r.reads) →
    IsReading g r.reads argument is → (IsFalse (faults (environment_of is) [] r.writes) → ⊥)
    → Applies g style argument r → ⊥
faulty_once g style argument r is h d f a =
    f (subst (λ x. IsFalse (faults (environment_of x) [] r.writes))
    (one_reading g r.reads argument a.items is h (a.fits).1.0 d) a.faultless)

-- the only rule of a definition is the closest one
pub closest_alone : (g : Grammar) (style : MacroCallStyle) (argument : Forest) (r : Rule) (v : Verdict) (k : ℕ)
    → r.style ≡ style → IsVerdict g r.reads argument v →
    ((is : Items) → Fits g r.reads argument is → k ≡ min (binding_total (environment_of is)) (2 ^ 64 - 1))
    → IsClosest g style argument (r ∷ []) 0
closest_alone g style argument r v k s w b = record {
  left = λ m. unmatched argument v;
  bound = λ m. k;
  rule = r;
  styled = (refl, s);
  unmatched_trees = left_at;
  bindings = bound_at;
  first = first_at;
}
  where
    left_at : (m : ℕ) (q : Rule) → IsStyledAt (r ∷ []) style m q
        → (u : Verdict) × IsVerdict g q.reads argument u × (unmatched argument v ≡ unmatched argument u)
    left_at zero q p = (v, subst (λ x. IsVerdict g x.reads argument v) (same_Some r q p.0) w, refl)
    left_at (suc m) q p = absurd (none-some q p.0)

    bound_at : (m : ℕ) (q : Rule) (is : Items) → IsStyledAt (r ∷ []) style m q → Fits g q.reads argument is
        → k ≡ min (binding_total (environment_of is)) (2 ^ 64 - 1)
    bound_at zero q is p f =
        subst (λ x. Fits g x.reads argument is → k ≡ min (binding_total (environment_of is)) (2 ^ 64 - 1))
        (same_Some r q p.0) (b is) f
    bound_at (suc m) q is p f = absurd (none-some q p.0)

    first_at : (m : ℕ) (q : Rule) → IsStyledAt (r ∷ []) style m q → IsCloser (λ x. unmatched argument v) (λ x. k) 0 m
    first_at m q p = ◌⊎◌.inr (refl, ◌⊎◌.inr (refl, omega arith))

-- the trees of a rule are read
pub parts : {o : RuleTrees} {r : Rule} → r.style ≡ o.style → Template is_2024 read.pattern o.reads r.reads
    → Template is_2024 read.template o.writes r.writes → AreParts is_2024 o r
parts s p t = record { style = s; reads = p; writes = t }

-- a definition of one rule, of two
pub defines_one : {fault : Option Fault} (f : Forest) (o : RuleTrees) (r : Rule) → rule_trees_at f ≡ Ok o
    → AreParts is_2024 o r → after_separator (59 ∷ []) o.back ≡ Some none → fault ≡ with_refusal (r ∷ []) None
    → IsMacroRules is_2024 f (r ∷ []) fault
defines_one f o r e p b k = (None, separated f none o r [] None e p b ended, k)

pub defines_two : (f rest : Forest) (o x : RuleTrees) (r q : Rule) → rule_trees_at f ≡ Ok o → AreParts is_2024 o r
    → after_separator (59 ∷ []) o.back ≡ Some rest → rule_trees_at rest ≡ Ok x → AreParts is_2024 x q
    → after_separator (59 ∷ []) x.back ≡ Some none → None ≡ with_refusal (r ∷ q ∷ []) None
    → Defines f (r ∷ q ∷ [])
defines_two f rest o x r q e p b i j c k =
    (None, separated f rest o r (q ∷ []) None e p b (separated rest none x q [] None i j c ended), k)
