use Rattle.std.proofs.Common.{◌∙◌, ℕ, List, arith, subst, sym, ap, chars}
use Rattle.mbe_text.specs.Rests.{IsRest}
use Rattle.mbe_text.specs.Characters.{offset}
use Rattle.mbe_text.specs.Dialect.{read_shape}
use Rattle.mbe_text.specs.declared.dialect.Dialect.{Dialect}
use Rattle.mbe_text.specs.Tokens.{lexeme_text, bytes_of}
use Rattle.mbe_text.proofs.DivisionLemmas.{is_next}
use Rattle.mbe_text.proofs.Reading.{spelled_at, text_of_lexeme}
use Rattle.mbe_text.proofs.scanner.Scanner.token.Goals as goal

pub returns-clause-spelled : goal.returns-clause-spelled
returns-clause-spelled c = λ sample.
    let text = c.args.self.now.text.now in
    let rest = c.trivia.new.self.rest.now in
    let after = c.lexeme.new.self.rest.now in
    let same = c.in_ok-trivia.ensures.on.2 in
    spelled_at text rest after (lexeme_text c.in_ok-lexeme.lexeme) c.args.self.now.total c.file_span-span.result.start
    c.file_span-span.result.end
    c.args.self.now.whole
    (subst (λ (l : List ℕ). IsRest l rest) same c.trivia.new.self.left)
    (subst (λ (l : List ℕ). IsRest l after) (c.in_ok-lexeme.ensures.on.2 ∙ same) c.lexeme.new.self.left)
    (omega (arith, c.offset-start.ensures, c.in_ok-trivia.ensures.on.1, c.file_span-span.ensures.place.1))
    (omega (
      arith,
      c.offset.ensures,
      c.in_ok-lexeme.ensures.on.1,
      c.in_ok-trivia.ensures.on.1,
      c.file_span-span.ensures.place.2,
    ))
    (c.in_ok-lexeme.ensures.reads (c.in_ok-trivia.ensures.on.4 ∙ sample) c.in-Some.ensures.begins)
    ∙ text_of_lexeme c.file_span-span.result c.in_ok-lexeme.lexeme

pub returns-clause-exact : goal.returns-clause-exact
returns-clause-exact c =
    let old = c.args.self.now in
    let left = chars c.trivia.new.self.rest.now in
    let rest = chars c.lexeme.new.self.rest.now in
    let same = c.in_ok-trivia.ensures.on.1 in
    let first = c.in-Some.ensures.exact in
    is_next old.dialect old.file old.total (chars old.rest.now) left c.in-Some.char first.0 c.in_ok-lexeme.lexeme rest
    c.file_span-span.result _ _
    c.in_ok-trivia.ensures.exact first.1
    (ap (λ (d : Dialect). read_shape d old.total left) (sym c.in_ok-trivia.ensures.on.4)
    ∙ (ap (λ (n : ℕ). read_shape c.trivia.new.self.dialect n left) (sym same)
    ∙ c.in_ok-lexeme.ensures.exact first.0 first.1))
    (c.file_span-span.ensures.whole
    ∙ ap (λ (n : ℕ). bytes_of n c.offset-start.result c.offset.result)
    (c.in_ok-lexeme.ensures.on.0 ∙ c.in_ok-trivia.ensures.on.0))
    (c.offset-start.ensures.exact ∙ ap (λ (n : ℕ). offset n left) same)
    (c.offset.ensures.exact ∙ ap (λ (n : ℕ). offset n rest) (c.in_ok-lexeme.ensures.on.1 ∙ same))
