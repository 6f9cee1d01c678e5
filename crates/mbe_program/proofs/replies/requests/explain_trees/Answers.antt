use Rattle.std.proofs.Common.{refl}
use Rattle.std.proofs.lemmas.Result.{err_from_is_err_and}
use Rattle.mbe_grammar.specs.SampleGrammar.{sample}
use Rattle.mbe_grammar.specs.Tables.Lawful.{grammar_of}
use Rattle.mbe_program.specs.declared.replies.answer.Answer as given
use Rattle.mbe_program.specs.declared.replies.request_codes.GrammarKind.TheVariants as grammars
use Rattle.mbe_program.specs.Replies.Answers.{answer_of}
use Rattle.mbe_program.specs.Replies.Requests.{IsNoMacro, IsNoResult, no_grammar}
use Rattle.mbe_program.proofs.ReplyLemmas.CallLemmas.{err_map, no_result_by, table_read}
use Rattle.mbe_program.proofs.replies.requests.explain_trees.Goals as goal

pub returns-in_err-rules-in-Text-clause-fails : goal.returns-in_err-rules-in-Text-clause-fails
returns-in_err-rules-in-Text-clause-fails g c =
    let p = err_from_is_err_and c.from_residual.result c.from_residual.ensures.1 in
    rw (p.1, p.2) (no_grammar c.in-Text.is c.in_err-rules-in-Text.ensures.fails)

pub returns-in-Sample-clause-fails : goal.returns-in-Sample-clause-fails
returns-in-Sample-clause-fails g c =
    err_map c.explain_by.result (λ a. IsNoMacro c.args.asked.edition c.args.definition.now.1 (answer_of a))
    (λ a. IsNoResult c.args.asked c.args.grammar.now c.args.definition.now (answer_of a))
    (λ a none. no_result_by c.args.asked c.args.grammar.now grammars.Sample sample c.args.definition.now (answer_of a)
    c.in-Sample.is refl none)
    c.explain_by.ensures.refused

pub returns-in-Rust-clause-fails : goal.returns-in-Rust-clause-fails
returns-in-Rust-clause-fails g c =
    let t = c.rust_rules-rules in
    err_map c.explain_by-in-Rust.result (λ a. IsNoMacro c.args.asked.edition c.args.definition.now.1 (answer_of a))
    (λ a. IsNoResult c.args.asked c.args.grammar.now c.args.definition.now (answer_of a))
    (λ a none. no_result_by c.args.asked c.args.grammar.now grammars.Rust (grammar_of t.result) c.args.definition.now
    (answer_of a) c.in-Rust.is (
      t.result,
      record {
        nodes = t.ensures.nodes;
        keywords = t.ensures.keywords;
        starts = t.ensures.starts;
        begins = t.ensures.begins;
        closed = t.ensures.closed;
        its_dialect = t.ensures.dialect;
        its_edition = t.ensures.edition;
        no_others = t.ensures.editions;
      },
      refl,
    ) none) c.explain_by-in-Rust.ensures.refused

pub returns-in_ok-rules-in-Text-clause-fails : goal.returns-in_ok-rules-in-Text-clause-fails
returns-in_ok-rules-in-Text-clause-fails g c =
    let t = c.table-table in
    let rules = c.in_ok-rules-in-Text in
    err_map c.explain_by-in-Text.result (λ a. IsNoMacro c.args.asked.edition c.args.definition.now.1 (answer_of a))
    (λ a. IsNoResult c.args.asked c.args.grammar.now c.args.definition.now (answer_of a))
    (λ a none. no_result_by c.args.asked c.args.grammar.now grammars.Text (grammar_of t.result) c.args.definition.now
    (answer_of a) c.in-Text.is (
      t.result,
      record {
        is_text = rules.ensures.text;
        read = table_read c.args.grammar.now rules.rules.nodes.items rules.rules.keywords.items rules.rules.starts
            t.result
            rules.ensures.read t.ensures.nodes t.ensures.keywords t.ensures.starts;
        its_dialect = t.ensures.dialect;
        its_edition = t.ensures.edition;
        no_others = t.ensures.editions;
      },
      refl,
    ) none) c.explain_by-in-Text.ensures.refused
