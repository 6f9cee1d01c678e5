use Rattle.std.proofs.Common.{ℕ, List, ◌++◌, sym, ap, ◌∙◌, chars}
use Rattle.std.specs.Prelude.{encode_utf8}
use Rattle.mbe_tt.specs.Trees.Literals.{opening}
use Rattle.mbe_text.proofs.Reading.{bumped, reads_literal}
use Rattle.mbe_text.proofs.LiteralLemmas.{quoted_read}
use Rattle.mbe_text.proofs.scanner.Scanner.string.Goals as goal

pub returns-clause-reads : goal.returns-clause-reads
returns-clause-reads c = λ b opens closes.
    let quote = encode_utf8 c.args.quote in
    let first = bumped c.bump.result _ _ c.args.quote b.0 c.bump.ensures.whole c.bump.ensures.some b.1 in
    let text = c.in-Some.text.now in
    let rest = c.quoted.new.self.rest.now in
    reads_literal c.literal.result _ text rest _ c.args.kind
    (b.1 ∙ (ap (λ (l : List ℕ). quote ++ l) (sym first ∙ c.in-Some.ensures.whole)
    ∙ (ap (λ (l : List ℕ). l ++ (text ++ (quote ++ rest))) (sym opens)
    ∙ ap (λ (l : List ℕ). opening c.args.kind ++ (text ++ (l ++ rest))) (sym closes))))
    c.literal.ensures.reads

pub returns-clause-exact : goal.returns-clause-exact
returns-clause-exact c =
    quoted_read c.args.self.now.total c.quoted.new.self.total c.args.kind c.args.quote c.in-Some.text.now
    (chars c.args.self.now.rest.now) (chars c.bump.new.self.rest.now) (chars c.quoted.new.self.rest.now)
    (chars c.literal.new.self.rest.now)
    c.literal.result (c.quoted.ensures.on.1 ∙ c.bump.ensures.on.1) c.bump.ensures.rest c.in-Some.ensures.exact.0
    c.in-Some.ensures.exact.1
    c.literal.ensures.exact
