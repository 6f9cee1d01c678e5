use Rattle.mbe_program.specs.Replies.Answers.{answer_of}
use Rattle.mbe_program.specs.Replies.ReadMacros.{borrowed}
use Rattle.mbe_program.proofs.ReplyLemmas.ReadLemmas.{by_rust, by_sample, by_text}
use Rattle.mbe_program.proofs.replies.read_macro.BorrowedMacro.expand_trees.Goals as goal

pub returns-in-Sample : goal.returns-in-Sample
returns-in-Sample g c =
    by_sample (borrowed c.args.self.now) c.args.call_site c.args.argument.now (answer_of c.expand_by.result)
    c.in-Sample.is
    c.expand_by.ensures

pub returns-in-Rust : goal.returns-in-Rust
returns-in-Rust g c =
    by_rust (borrowed c.args.self.now) c.in-Rust.table c.args.call_site c.args.argument.now
    (answer_of c.expand_by-in-Rust.result) c.in-Rust.is
    c.expand_by-in-Rust.ensures

pub returns-in-Text : goal.returns-in-Text
returns-in-Text g c =
    let t = c.table-table in
    by_text (borrowed c.args.self.now) c.in-Text.rules t.result c.args.call_site c.args.argument.now
    (answer_of c.expand_by-in-Text.result)
    c.in-Text.is t.ensures.nodes t.ensures.keywords t.ensures.starts t.ensures.dialect t.ensures.edition
    t.ensures.editions
    c.expand_by-in-Text.ensures
