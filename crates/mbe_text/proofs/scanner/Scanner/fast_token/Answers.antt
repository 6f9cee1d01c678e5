use Rattle.std.proofs.Common.{◌∙◌, ap, arith, chars}
use Rattle.mbe_text.specs.Dialect.{read_shape}
use Rattle.mbe_text.specs.Tokens.{lexeme_text}
use Rattle.mbe_text.specs.declared.dialect.Dialect.{Dialect}
use Rattle.mbe_text.proofs.BlanksFirst.{passes_only}
use Rattle.mbe_text.proofs.CommonLemmas.{begins_other}
use Rattle.mbe_text.proofs.DivisionLemmas.{is_next}
use Rattle.mbe_text.proofs.Reading.{spelled_at, text_of_lexeme}
use Rattle.mbe_text.proofs.TailLemmas.{end_of_rest, end_on}
use Rattle.mbe_text.proofs.scanner.Scanner.fast_token.Goals as goal

pub returns-clause-spelled : goal.returns-clause-spelled
returns-clause-spelled c =
    let old = c.args.self.now in
    let text = old.text.now in
    let left = c.after_whitespace-text.result.now in
    let rest = c.in_ok-lexeme.rest.now in
    let within = old.within in
    let whole = old.whole in
    let begin =
    end_on text old.rest.now left (omega (arith, within, whole), old.left) c.after_whitespace-text.ensures.end
    in
    spelled_at text left rest (lexeme_text c.in_ok-lexeme.lexeme) old.total c.file_span-span.result.start
    c.file_span-span.result.end whole begin.1 (end_on text left rest begin c.in_ok-lexeme.ensures.end).1
    (omega (arith, c.offset-start.ensures.bytes, c.file_span-span.ensures.place.1))
    (omega (arith, c.offset-end.ensures.bytes, c.file_span-span.ensures.place.2))
    c.in_ok-lexeme.ensures.reads
    ∙ text_of_lexeme c.file_span-span.result c.in_ok-lexeme.lexeme

pub returns-clause-exact : goal.returns-clause-exact
returns-clause-exact c =
    let old = c.args.self.now in
    let left = chars c.after_whitespace-text.result.now in
    let first = c.in_ok-lexeme.ensures.begins in
    is_next old.dialect old.file old.total (chars old.rest.now) left first.0 first.1 c.in_ok-lexeme.lexeme
    (chars c.in_ok-lexeme.rest.now) c.file_span-span.result _ _
    (passes_only old.dialect old.total (chars old.rest.now) left c.after_whitespace-text.ensures.exact
    (begins_other first.0 47 left first.1 first.2 first.3))
    first.2
    (ap (λ (d : Dialect). read_shape d old.total left) c.in-Sample.is ∙ c.in_ok-lexeme.ensures.exact old.total)
    c.file_span-span.ensures.whole c.offset-start.ensures.exact c.offset-end.ensures.exact

pub invariant_of-self : goal.invariant_of-self
invariant_of-self c =
    let old = c.args.self.now in
    let end = end_on _ _ _
    (end_of_rest _ _ _ old.total old.within old.whole old.left c.after_whitespace-text.ensures.end)
    c.in_ok-lexeme.ensures.end in
    record { within = omega (arith, end.0, old.whole); whole = old.whole; small = old.small; left = end.1 }
