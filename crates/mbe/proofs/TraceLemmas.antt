-- From a result that `expand` may give to what is written in it.
use Rattle.std.specs.Prelude.{ℕ, refl}
use Rattle.mbe_tt.specs.declared.span.Span.{Span}
use Rattle.mbe_tt.specs.Trees.Tree.{Forest}
use Rattle.mbe_tt.specs.Grammars.Grammar.{Grammar}
use Rattle.mbe_semantics.specs.declared.macro_call_style.MacroCallStyle.{MacroCallStyle}
use Rattle.mbe_semantics.specs.Bindings.Environment.{environment_of}
use Rattle.mbe_semantics.specs.Expansion.Expansion.{IsExpansion}
use Rattle.mbe_laws.proofs.Writing.SpanLemmas.{spans_have_sources, written_in_place}
use Rattle.mbe_laws.proofs.Writing.LawLemmas.{writes_all_rounds}
use Rattle.mbe.specs.SpanSources.{Traced, AnswersAreTraced}

module _ (Marks : Span → Span → Type 0) where
  traced : (g : Grammar) (style : MacroCallStyle) (argument : Forest) (call_site : Span) (n : ℕ) (out : Forest) (rs : _)
      (e : IsExpansion g style argument Marks call_site rs n out)
      → Traced g Marks argument call_site e.0 (e.1).items out
  traced g style argument call_site n out rs e = record {
    written = e.3;
    variables = λ path name kind span x part f s w.
        let k = written_in_place Marks g call_site (e.0).reads argument (e.1).items path name kind span x part
        (e.1).fits.1.0 f s w in
        record { offset = k.0; rest = k.1; found = k.2; written = k.3; spans = k.4 };
    spans = λ span k. spans_have_sources Marks g style argument call_site rs n out e span k;
    stars = λ path body separator k part f l faultless w.
        (writes_all_rounds Marks g call_site (environment_of (e.1).items) path body separator k part f l faultless).1 w;
  }

  pub answers_are_traced : AnswersAreTraced Marks
  answers_are_traced g m style argument call_site out index a =
      let s = a.sound refl in
      (s.0, s.1.0, s.1.1, s.1.2, s.2, traced g style argument call_site s.0 out m.rules s.1)
