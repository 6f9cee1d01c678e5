use Rattle.std.proofs.Common.{◌≡◌, ℕ, List, subst}
use Rattle.mbe_program.specs.Replies.Answers.{answer_of, IsNoGrammar}
use Rattle.mbe_program.specs.Replies.Requests.{source_of}
use Rattle.mbe_program.specs.Replies.ReadMacros.{AreFragments}
use Rattle.mbe_program.proofs.ReplyLemmas.KeptLemmas.{answers_read, answers_unread, unknown_call}
use Rattle.mbe_program.proofs.replies.kept_macro.KeptMacro.expand.Goals as goal

pub returns-in_default : goal.returns-in_default
returns-in_default g c =
    unknown_call c.args.self.now c.args.call.now (source_of c.args.argument) (answer_of c.empty.result)
    c.in_default.ensures.unknown c.empty.ensures

pub returns-in-Err : goal.returns-in-Err
returns-in-Err g c =
    let a = answer_of c.in-Err.answer in
    let same : c.deref.result.now ≡ c.args.self.now.grammar.items = cc in
    answers_unread c.args.self.now c.args.call.now c.in-Some.asked (source_of c.args.argument) a
    c.in-Some.ensures.known c.in-Err.ensures.asked
    (subst (λ (text : List ℕ). IsNoGrammar text a) same c.in-Err.ensures.fails)

pub returns : goal.returns
returns g c =
    let asked = c.in-Some.asked in
    let fragments = c.in-Ok.fragments in
    let same : c.deref.result.now ≡ c.args.self.now.grammar.items = cc in
    answers_read c.args.self.now c.args.call.now asked fragments (source_of c.args.argument)
    (answer_of c.expand.result) c.in-Some.ensures.known
    (subst (λ (text : List ℕ). AreFragments asked text fragments) same c.in-Ok.ensures.read) c.expand.ensures
