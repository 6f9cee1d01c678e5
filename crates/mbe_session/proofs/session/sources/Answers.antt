use Rattle.std.proofs.Common.{rules, ap, length, map, ◌∙◌, ◌+◌, ◌∷◌, [], ℕ, List}
use Rattle.mbe_grammar.specs.declared.tables.peg_table.RuleTable.{RuleTable}
use Rattle.mbe_session.specs.declared.session_options.SessionOptions.{SessionOptions}
use Rattle.mbe_session.specs.declared.source_settings.SourceSettings.{SourceSettings}
use Rattle.std.proofs.lemmas.List.{length-append}
use Rattle.mbe_session.specs.CallTextViews.{call_of}
use Rattle.mbe_session.specs.FileViews.{source_of, text_of}
use Rattle.mbe_session.specs.OptionViews.{conditions_of, own_of}
use Rattle.mbe_session.specs.CrateSettings.{AreFileSettings}
use Rattle.mbe_session.specs.Sources.{source_text}
use Rattle.mbe_session.proofs.SessionLemmas.{no_source, one_more_source, one_more_text, same_text}
use Rattle.mbe_session.proofs.session.sources.Goals as goal

abbrev Reads : {A : Type 0} → RuleTable → SessionOptions A → List ℕ → ℕ → SourceSettings → Type 0
Reads table options roots =
    AreFileSettings table options.edition (conditions_of options) (own_of options roots)

pub loop-number-init : goal.loop-number-init
loop-number-init c = (
  ap (map (λ f. source_text (source_of f))) c.new-files.ensures.items,
  no_source source_of (Reads c.args.grammar c.args.options.now c.args.roots.now) c.new-files.result.items
      c.new-files.ensures.items,
  ap length c.new-files.ensures.items,
)

pub loop-number-preserved : goal.loop-number-preserved
loop-number-preserved c = (
  one_more_text (λ f. source_text (source_of f)) text_of c.loop-number.files.items c.push.new.self.items
      c.in_ok-file.file c.args.texts.now
      c.index-texts-number.result c.loop-number.number c.loop-number-test.true c.index-texts-number.is
      c.in_ok-push.ensures.items
      c.loop-number.invariant.0
      (same_text (source_text (source_of c.in_ok-file.file)) (text_of c.index-texts-number.result)
      (c.in_ok-file.ensures.name ∙ c.as_str-name.ensures.value)
      (c.in_ok-file.ensures.text ∙ c.as_str-text.ensures.value)
      (ap (map call_of) (c.in_ok-file.ensures.calls ∙ c.as_slice-calls.ensures.value))),
  one_more_source source_of (Reads c.args.grammar c.args.options.now c.args.roots.now)
      c.file_settings-source_settings.result
      c.loop-number.files.items c.push.new.self.items c.in_ok-file.file
      c.in-Ok.at c.loop-number.invariant.1
      (search rules) c.in_ok-push.ensures.items (search rules) (search rules),
  ap length c.in_ok-push.ensures.items ∙ length-append c.loop-number.files.items (c.in_ok-file.file ∷ [])
      ∙ ap (λ n. n + 1) c.loop-number.invariant.2,
)
