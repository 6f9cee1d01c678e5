-- An identifier that is put together.
use Rattle.std.specs.Prelude.{◌≡◌, true, IsFalse, [], ◌∷◌, codes, None, refl}
use Rattle.std.specs.Str.{chars}
use Rattle.std.proofs.Common.{ap, sym, ◌∙◌}
use Rattle.std.proofs.Math.Bool.{false≢true}
use Rattle.unicode_ident.proofs.Computing.{unicode_ident}
use Rattle.mbe_tt.specs.Grammars.Grammar.{Grammar}
use Rattle.mbe_tt.specs.Trees.Leaf.{ident}
use Rattle.mbe_tt.specs.Trees.Tree.{none, leaf}
use Rattle.mbe_tt.specs.declared.tt.LitKind.TheVariants.{Str}
use Rattle.mbe_semantics.specs.declared.macro_call_style.MacroCallStyle.TheVariants.{FnLike}
use Rattle.mbe_semantics.specs.Syntax.Op as ops
use Rattle.mbe_semantics.specs.Syntax.Template.{nothing, token, variable, undated}
use Rattle.mbe_semantics.specs.Syntax.Definition.{Rule}
use Rattle.mbe_semantics.specs.Bindings.Environment.{environment_of}
use Rattle.mbe_semantics.specs.Transcription.Substitution.{faults, rawness}
use Rattle.mbe_semantics.specs.Expansion.Expansion.{Applies, FirstThatApplies, this_one, a_later_one}
use Rattle.mbe_semantics.specs.Examples.Sample.{open_grammar}
use Rattle.mbe_semantics.specs.Examples.Sample.{at, ident_of, taken}
use Rattle.mbe_semantics.specs.Examples.Examples.{ConcatExample, concat_rule, concat_of, foo}
use Rattle.mbe_laws.proofs.RuleLemmas.{applies_once, faulty_once, parts, defines_one}
use Rattle.mbe_semantics.specs.Fragments.Kinds as styles
use Rattle.mbe_semantics.specs.Readings.Item.{Fragment, Item, matched, bound, skipped, rounds, Items, no_items, item}
use Rattle.mbe_semantics.specs.Readings.Item.{no_rounds, round, items_width}
use Rattle.mbe_semantics.specs.Readings.Ambiguity.{IsReading}

abbrev foo_items : Items
foo_items = item no_items (taken (codes "x") styles.stripped foo)

foo_read : (g : Grammar) (e : ops.Element) → IsReading (open_grammar g) (concat_of e).reads foo foo_items
foo_read g e = ((_, refl, (refl, refl)), refl)

foo_faultless : IsFalse (faults (environment_of foo_items) [] concat_rule.writes)
unfolding unicode_ident chars
foo_faultless = refl

abbrev minus : ops.Element
minus = ops.literal_element (record { text_and_suffix = codes "-"; suffix_len = 0; kind = Str; span = at 0 28 31 })

minus_faults : faults (environment_of foo_items) [] (concat_of minus).writes ≡ true
unfolding unicode_ident chars
minus_faults = refl

minus_refused : (g : Grammar) → Applies (open_grammar g) FnLike foo (concat_of minus) → ⊥
minus_refused g = faulty_once (open_grammar g) FnLike foo (concat_of minus) foo_items refl (foo_read g minus)
    (λ e. false≢true (sym e ∙ minus_faults))

pub concat_example : ConcatExample
unfolding unicode_ident chars
concat_example = record {
  defines = defines_one _ _ _ refl
      (parts refl (variable _ _ _ _ _ _ _ refl (undated refl refl) (nothing _ refl))
      (token _ _ _ _ refl (nothing _ refl))) refl refl;
  expands = λ g e. (
    concat_rule,
    applies_once (open_grammar g) FnLike foo concat_rule foo_items refl refl
        (foo_read g (ops.ident_element (ident_of (codes "_bar") (at 0 28 32)))) foo_faultless,
    this_one _ _ _,
    (
      _,
      (
        _,
        _,
        (
          _,
          refl,
          ap (λ b. leaf (ident (record (ident_of (codes "foo_bar") (at 0 17 23)) { is_raw = rawness b }))
              none) (sym e),
        ),
        refl,
        refl,
      ),
      refl,
    ),
  );
  refused = λ g inside e. none_first g 0 e.0 e.1 e.2;
}
  where
    none_first : (g : Grammar) (n : _) (r : Rule) (a : Applies (open_grammar g) FnLike foo r)
        → FirstThatApplies (open_grammar g) FnLike foo (concat_of minus ∷ []) n r a → ⊥
    none_first g _ _ a (this_one _ _ _) = minus_refused g a
    none_first g _ _ a (a_later_one _ _ _ _ _ _ _ _ t _) = elim t [ ]
