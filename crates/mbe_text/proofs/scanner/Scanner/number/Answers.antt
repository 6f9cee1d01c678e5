use Rattle.std.proofs.Common.{◌≡◌, ◌++◌, arith, chars, subst, List, ℕ}
use Rattle.mbe_text.specs.Rests.{IsRest}
use Rattle.mbe_text.proofs.LiteralLemmas.{number_read, rest_of_rest}
use Rattle.mbe_text.proofs.Reading.{reads_literal}
use Rattle.mbe_text.proofs.scanner.Scanner.number.Goals as goal

-- what is left after the digits is left of the text that begins with them
after_digits : (c : goal.After-literal) → IsRest c.args.self.now.rest.now c.digits-kind.new.self.rest.now
after_digits c =
    let digits = c.digits-kind.ensures in
    let old = c.args.self.now in
    let new = c.digits-kind.new.self in
    let on = digits.on.3 in
    let within = old.within in
    let whole = old.whole in
    rest_of_rest old.text.now old.rest.now new.rest.now old.left
    (subst (λ (t : List ℕ). IsRest t new.rest.now) digits.on.2 new.left) on (omega (arith, within, whole))

pub returns-clause-reads : goal.returns-clause-reads
returns-clause-reads c =
    let digits = c.digits-kind.ensures in
    let old = c.args.self.now in
    let text = c.before-digits.result.now in
    let rest = c.digits-kind.new.self.rest.now in
    let whole : old.rest.now ≡ text ++ rest = c.before-digits.ensures.whole (after_digits c) in
    reads_literal c.literal.result old.rest.now text rest c.literal.new.self.rest.now c.digits-kind.result
    (rw (digits.unquoted.0, digits.unquoted.1) whole) c.literal.ensures.reads

pub returns-clause-exact : goal.returns-clause-exact
returns-clause-exact c =
    let digits = c.digits-kind.ensures in
    let old = c.args.self.now in
    let new = c.digits-kind.new.self in
    number_read old.total new.total c.digits-kind.result c.before-digits.result.now
    (chars old.rest.now) (chars new.rest.now) (chars c.literal.new.self.rest.now) c.literal.result
    digits.on.1 digits.exact digits.rest (c.before-digits.ensures.exact (after_digits c)) c.literal.ensures.exact
