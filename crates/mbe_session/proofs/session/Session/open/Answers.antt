use Rattle.std.proofs.Common.{◌≡◌, ◌∙◌, [], ap, sym, subst, arith, length, map}
use Rattle.std.proofs.lemmas.Simd.{map-map}
use Rattle.mbe_session.specs.SessionViews.{setting_of, state_of}
use Rattle.mbe_session.specs.Conditions.{IsUnder}
use Rattle.mbe_session.specs.Budgets.{full}
use Rattle.mbe_session.specs.FileViews.{source_of}
use Rattle.mbe_grammar.specs.Tables.Lawful.{grammar_of}
use Rattle.mbe_session.specs.OptionViews.{conditions_of, language_of, names_of}
use Rattle.std.specs.Prelude.{unwrap_or}
use Rattle.std.specs.Option.{option_or}
use Rattle.mbe_session.specs.RecursionLimit.{first_limit}
use Rattle.mbe_session.specs.Sources.{source_text}
use Rattle.mbe_session.proofs.SessionLemmas.{crates_are, others_are}
use Rattle.mbe_session.proofs.session.Session.open.Goals as goal

pub load_externs-requires : goal.load_externs-requires
load_externs-requires c =
    let options = c.args.options.now in
    omega (
      arith,
      c.len-root_count.ensures,
      options.names.ok.0,
      options.externs.ok.0,
      ap length c.as_slice-externs.ensures.value,
    )

pub returns : goal.returns
returns c =
    let files = c.in_ok-files.files.items in
    let at_start = c.new-expander.ensures.setting in
    let before = c.in_ok-load_externs.ensures.setting ∙ at_start in
    let setting = c.in_ok-define_crates.ensures.setting ∙ before in
    let options = c.args.options.now in
    let n : c.len-root_count.result ≡ length options.names.items =
    omega (arith, c.len-root_count.ensures, options.names.ok.0) in
    let dialect = ap (λ t. t.dialect) c.with_dialect-table.ensures in
    let language : record {
      dialect = c.with_dialect-table.result.dialect;
      edition = c.settings-settings.result.edition;
    }
    ≡ language_of options =
    ap (λ d. record { dialect = d; edition = c.settings-settings.result.edition }) dialect
    ∙ ap (λ e. record { dialect = options.dialect; edition = e }) c.settings-settings.ensures.edition in
    let limit : c.first_limit.result ≡ first_limit (length options.names.items) 0 (map source_of files) =
    c.first_limit.ensures
    ∙ ap (λ fs. first_limit c.len-root_count.result 0 (map source_of fs)) c.deref-2.ensures.value
    ∙ ap (λ m. first_limit m 0 (map source_of files)) n in
    record {
      texts_are = map-map source_text source_of files ∙ c.in_ok-files.ensures.texts;
      table = c.rust_rules-grammar.result;
      is_file_table = record {
        is_rust = record {
          nodes = c.rust_rules-grammar.ensures.nodes;
          keywords = c.rust_rules-grammar.ensures.keywords;
          starts = c.rust_rules-grammar.ensures.starts;
          begins = c.rust_rules-grammar.ensures.begins;
          edition_is = c.rust_rules-grammar.ensures.edition;
          closed = c.rust_rules-grammar.ensures.closed;
          no_others = c.rust_rules-grammar.ensures.editions;
        };
        dialect_is = c.rust_rules-grammar.ensures.dialect;
      };
      are_read = c.in_ok-files.ensures.read;
      grammar = ap (λ e. e.grammar) setting ∙ ap grammar_of c.with_dialect-table.ensures;
      conditions = subst (IsUnder (conditions_of options)) (sym (ap (λ e. e.conditions) setting)) c.conditions.ensures;
      language_is = ap (λ e. e.language) setting ∙ language;
      depth_is = ap (λ e. e.depth) setting ∙ c.settings-settings.ensures.depth
          ∙ ap (λ l. unwrap_or (option_or options.depth l) 128) limit;
      known = (state_of c.load_externs.new.expander).scope;
      outside = others_are (setting_of c.new-expander.result).language (language_of options) options.with_modules
          (map source_of c.deref-3.result.now) (map source_of files) c.len-root_count.result
          (length options.names.items)
          (state_of c.new-expander.result).scope (record { definitions = []; visible = []; crates = []; declared = [] })
          (state_of c.load_externs.new.expander).scope (map (λ x. x.name.now) c.as_slice-externs.result.now)
          (names_of options) (ap (λ e. e.language) at_start ∙ language)
          (ap (map source_of) c.deref-3.ensures.value) n (ap (λ s. s.scope) c.new-expander.ensures.state)
          (ap (map (λ x. x.name.now)) c.as_slice-externs.ensures.value) c.in_ok-load_externs.ensures.knows;
      defines = crates_are (setting_of c.load_externs.new.expander).language (language_of options) options.with_modules
          (map source_of c.deref-4.result.now) (map source_of files) c.len-root_count.result
          (length options.names.items)
          (state_of c.load_externs.new.expander).scope (state_of c.define_crates.new.expander).scope
          (ap (λ e. e.language) before ∙ language)
          (ap (map source_of) c.deref-4.ensures.value) n c.in_ok-define_crates.ensures.defines;
      fuel_is = c.in_ok-define_crates.ensures.fuel ∙ c.in_ok-load_externs.ensures.fuel
          ∙ ap (λ s. s.fuel) c.new-expander.ensures.state
          ∙ ap (λ n. full n c.settings-settings.result.max_tokens) c.settings-settings.ensures.fuel
          ∙ ap (full options.fuel) c.settings-settings.ensures.tokens;
      contexts_are = c.in_ok-define_crates.ensures.contexts ∙ c.in_ok-load_externs.ensures.contexts
          ∙ ap (λ s. s.contexts) c.new-expander.ensures.state;
    }
