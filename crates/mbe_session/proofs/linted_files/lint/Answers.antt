use Rattle.std.proofs.Common.{◌≡◌, ◌∙◌, [], ap, sym, subst, map}
use Rattle.std.proofs.lemmas.Simd.{map-map}
use Rattle.mbe_diagnostics.specs.Lints.Lint.{lint_seen}
use Rattle.mbe_session.specs.LintedFiles.{FilesLinted}
use Rattle.mbe_session.specs.FileViews.{source_of}
use Rattle.mbe_session.specs.Sources.{source_text}
use Rattle.mbe_session.proofs.linted_files.lint.Goals as goal

pub returns : goal.returns
returns c =
    let files = c.in_ok-files.files.items in
    let said = map lint_seen c.push_all_lints.new.lints.items in
    let trees : map (λ f. f.tree) c.as_slice.result.now ≡ map (λ f. f.tree) (map source_of files) =
    ap (map (λ f. f.tree)) c.as_slice.ensures.value ∙ sym (map-map (λ f. f.tree) source_of files) in
    record {
      texts_are = map-map source_text source_of files ∙ c.in_ok-files.ensures.texts;
      table = c.rust_rules-grammar.result;
      is_file_table = record {
        is_rust = record {
          nodes = c.rust_rules-grammar.ensures.nodes;
          keywords = c.rust_rules-grammar.ensures.keywords;
          starts = c.rust_rules-grammar.ensures.starts;
          begins = c.rust_rules-grammar.ensures.begins;
          edition_is = c.rust_rules-grammar.ensures.edition;
          closed = c.rust_rules-grammar.ensures.closed;
          no_others = c.rust_rules-grammar.ensures.editions;
        };
        dialect_is = c.rust_rules-grammar.ensures.dialect;
      };
      are_read = c.in_ok-files.ensures.read;
      linted = subst (λ ts. FilesLinted c.args.options.now.edition ts [] said) trees
          (subst (λ before. FilesLinted c.args.options.now.edition (map (λ f. f.tree) c.as_slice.result.now) before
          said)
          (ap (map lint_seen) c.new-lints.ensures.items) c.in_ok-push_all_lints.ensures);
    }
