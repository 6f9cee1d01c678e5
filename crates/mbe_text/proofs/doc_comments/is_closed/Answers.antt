use Rattle.std.proofs.Common.{rules, arith, ◌≡◌, ◌∙◌, chars, drop, get_or, ℕ, ◌+◌, ◌-◌, ◌<◌, suc, length, sym, ap}
use Rattle.std.proofs.lemmas.Iterator.{YieldsList-from_chars}
use Rattle.std.proofs.lemmas.Iterator.Consumers.{YieldsList-turn, YieldsList-end}
use Rattle.std.proofs.lemmas.List.{length_push}
use Rattle.mbe_text.specs.RustText.DocComments.{is_closed}
use Rattle.mbe_text.proofs.ClosedLemmas.{step, pushed, returned, opened, closed_early, closed_one, passed, ended}
use Rattle.mbe_text.proofs.ClosedLemmas.{ended_open, chars_short}
use Rattle.mbe_text.proofs.doc_comments.is_closed.Goals as goal
use Rattle.mbe_text.proofs.doc_comments.is_closed.Goals.{In-Some}

-- the character is the next one of the text
next_char : (c : In-Some) → (length c.loop-char.yielded < length (chars c.args.text.now))
    × (c.in-Some.char ≡ get_or (chars c.args.text.now) (length c.loop-char.yielded) c.in-Some.char)
next_char c =
    YieldsList-turn (YieldsList-from_chars c.args.text.now c.utf8.text cc) c.loop-char.yielded _
    c.loop-char.yielded_by _ _ c.in-Some.char c.in-Some.is c.next.ensures.steps

pub returns-then-char-eq13 : goal.returns-then-char-eq13
returns-then-char-eq13 c =
    let cs = chars c.args.text.now in
    let n = length c.loop-char.yielded in
    let turn = next_char (goal.at.returns-then-char-eq13 c).In-Some in
    sym (returned c.loop-char.last c.loop-char.depth c.in-Some.char (drop (n + 1) cs) c.if-char-eq13.true)
    ∙ (sym (step c.loop-char.last c.loop-char.depth n c.in-Some.char cs turn) ∙ c.loop-char.invariant.exact)

pub loop-char-preserved-then-opens_comment : goal.loop-char-preserved-then-opens_comment
loop-char-preserved-then-opens_comment c =
    let cs = chars c.args.text.now in
    let n = length c.loop-char.yielded in
    let turn = next_char (goal.at.loop-char-preserved-then-opens_comment c).In-Some in
    let few = c.loop-char.invariant.few in
    let short = chars_short c.args.text.now c.utf8.text in
    let bound : length c.args.text.now < 18446744073709551615 = search rules in
    let sum : c.saturating_add-depth.result ≡ suc c.loop-char.depth =
    omega (arith, c.saturating_add-depth.ensures, few, short, turn.0, bound) in
    record {
      few = omega (arith, sum, few, length_push c.loop-char.yielded c.in-Some.char);
      exact = pushed 0 c.saturating_add-depth.result cs c.loop-char.yielded c.in-Some.char
          ∙ (ap (λ (d : ℕ). is_closed 0 d (drop (n + 1) cs)) sum
          ∙ (sym (opened c.loop-char.last c.loop-char.depth c.in-Some.char (drop (n + 1) cs) c.if-char-eq13.false
          (sym c.opens_comment.ensures ∙ c.if-opens_comment.true))
          ∙ (sym (step c.loop-char.last c.loop-char.depth n c.in-Some.char cs turn) ∙ c.loop-char.invariant.exact)));
    }

pub returns-then-depth-eq0 : goal.returns-then-depth-eq0
returns-then-depth-eq0 c =
    let cs = chars c.args.text.now in
    let n = length c.loop-char.yielded in
    let turn = next_char (goal.at.returns-then-depth-eq0 c).In-Some in
    sym (closed_early c.loop-char.last c.loop-char.depth c.in-Some.char (drop (n + 1) cs) c.if-char-eq13.false
    (sym c.opens_comment.ensures ∙ c.if-opens_comment.false)
    (sym c.closes_comment.ensures ∙ c.if-closes_comment.true) c.if-depth-eq0.true)
    ∙ (sym (step c.loop-char.last c.loop-char.depth n c.in-Some.char cs turn) ∙ c.loop-char.invariant.exact)

pub loop-char-preserved-then-closes_comment : goal.loop-char-preserved-then-closes_comment
loop-char-preserved-then-closes_comment c =
    let cs = chars c.args.text.now in
    let n = length c.loop-char.yielded in
    let turn = next_char (goal.at.loop-char-preserved-then-closes_comment c).In-Some in
    let few = c.loop-char.invariant.few in
    record {
      few = omega (arith, few, length_push c.loop-char.yielded c.in-Some.char);
      exact = pushed 0 (c.loop-char.depth - 1) cs c.loop-char.yielded c.in-Some.char
          ∙ (sym (closed_one c.loop-char.last c.loop-char.depth c.in-Some.char (drop (n + 1) cs) c.if-char-eq13.false
          (sym c.opens_comment.ensures ∙ c.if-opens_comment.false)
          (sym c.closes_comment.ensures ∙ c.if-closes_comment.true) c.if-depth-eq0.false)
          ∙ (sym (step c.loop-char.last c.loop-char.depth n c.in-Some.char cs turn) ∙ c.loop-char.invariant.exact));
    }

pub loop-char-preserved : goal.loop-char-preserved
loop-char-preserved c =
    let cs = chars c.args.text.now in
    let n = length c.loop-char.yielded in
    let turn = next_char (goal.at.loop-char-preserved c).In-Some in
    let few = c.loop-char.invariant.few in
    record {
      few = omega (arith, few, length_push c.loop-char.yielded c.in-Some.char);
      exact = pushed c.in-Some.char c.loop-char.depth cs c.loop-char.yielded c.in-Some.char
          ∙ (sym (passed c.loop-char.last c.loop-char.depth c.in-Some.char (drop (n + 1) cs) c.if-char-eq13.false
          (sym c.opens_comment.ensures ∙ c.if-opens_comment.false)
          (sym c.closes_comment.ensures ∙ c.if-closes_comment.false))
          ∙ (sym (step c.loop-char.last c.loop-char.depth n c.in-Some.char cs turn) ∙ c.loop-char.invariant.exact));
    }

pub returns-then-depth-eq0-2 : goal.returns-then-depth-eq0-2
returns-then-depth-eq0-2 c =
    let cs = chars c.args.text.now in
    let n = length c.loop-char.yielded in
    let all = YieldsList-from_chars c.args.text.now c.utf8.text cc in
    let at_end = YieldsList-end all c.loop-char.yielded _ c.loop-char.yielded_by _ _ c.in-None.is c.next.ensures.steps
    in
    sym (ended c.loop-char.last c.loop-char.depth n cs (omega (arith, at_end.1)) c.if-depth-eq0-2.true)
    ∙ c.loop-char.invariant.exact

pub returns-else-depth-eq0-2 : goal.returns-else-depth-eq0-2
returns-else-depth-eq0-2 c =
    let cs = chars c.args.text.now in
    let n = length c.loop-char.yielded in
    let all = YieldsList-from_chars c.args.text.now c.utf8.text cc in
    let at_end = YieldsList-end all c.loop-char.yielded _ c.loop-char.yielded_by _ _ c.in-None.is c.next.ensures.steps
    in
    sym (ended_open c.loop-char.last c.loop-char.depth n cs (omega (arith, at_end.1)) c.if-depth-eq0-2.false)
    ∙ c.loop-char.invariant.exact
