use Rattle.std.proofs.Common.{sym, ap, ◌∙◌, arith, ◌≡◌, ℕ, ◌+◌, ◌-◌, ◌<◌, length, rules, chars}
use Rattle.mbe_text.specs.Whitespace.{past_comments}
use Rattle.mbe_text.proofs.CharacterLemmas.{shorter, drop_two}
use Rattle.mbe_text.proofs.BlankLemmas.{comment_opens, comment_closes, comment_goes_on}
use Rattle.mbe_text.proofs.scanner.Scanner.block_comment.Goals as goal

pub chars-preserved-then-completes_pair : goal.chars-preserved-then-completes_pair
chars-preserved-then-completes_pair c =
    let w = c.chars.invariant in
    let one = shorter c.chars.self.rest.now c.bump-in-chars.new.self.rest.now c.in-Some.char c.in-Some.ensures.whole in
    let two = c.completes_pair.ensures.some c.if-completes_pair.true in
    let past = c.bump-then-completes_pair.ensures.past in
    let within = c.bump-2.new.self.within in
    let small = c.bump-2.new.self.small in
    let few = w.few in
    let sum : c.saturating_add-depth.result ≡ c.chars.depth + 1 =
    omega (arith, c.saturating_add-depth.ensures, one, two, within, small, few) in
    let fewer : length c.bump-then-completes_pair.new.self.rest.now < length c.bump-in-chars.new.self.rest.now =
    past (omega (arith, two)) in
    record {
      on = search rules;
      inside = omega (arith, sum);
      few = omega (arith, sum, one, fewer, few);
      exact = ap (λ (n : ℕ). past_comments n (chars c.bump-then-completes_pair.new.self.rest.now)) sum
          ∙ (comment_opens c.chars.depth c.in-Some.char (chars c.chars.self.rest.now)
          (chars c.bump-in-chars.new.self.rest.now) _
          w.inside c.in-Some.ensures.exact (sym c.completes_pair.ensures.exact ∙ c.if-completes_pair.true)
          c.bump-then-completes_pair.ensures.rest ∙ w.exact);
    }

pub chars-preserved : goal.chars-preserved
chars-preserved c =
    let w = c.chars.invariant in
    let one = shorter c.chars.self.rest.now c.bump-in-chars.new.self.rest.now c.in-Some.char c.in-Some.ensures.whole in
    let few = w.few in
    record {
      on = search rules;
      inside = w.inside;
      few = omega (arith, one, few);
      exact = comment_goes_on c.chars.depth c.in-Some.char (chars c.chars.self.rest.now)
          (chars c.bump-in-chars.new.self.rest.now)
          w.inside c.in-Some.ensures.exact (sym c.completes_pair.ensures.exact ∙ c.if-completes_pair.false)
          (sym c.completes_pair-else-completes_pair.ensures.exact ∙ c.if-completes_pair-2.false) ∙ w.exact;
    }

pub chars-preserved-else-depth-eq0 : goal.chars-preserved-else-depth-eq0
chars-preserved-else-depth-eq0 c =
    let w = c.chars.invariant in
    let one = shorter c.chars.self.rest.now c.bump-in-chars.new.self.rest.now c.in-Some.char c.in-Some.ensures.whole in
    let on = c.bump-then-completes_pair-2.ensures.on in
    let few = w.few in
    let less = c.saturating_sub-depth.ensures in
    let none = c.if-depth-eq0.false in
    record {
      on = search rules;
      inside = omega (arith, none);
      few = omega (arith, less, one, on.3, few);
      exact = ap (λ (n : ℕ). past_comments n (chars c.bump-then-completes_pair-2.new.self.rest.now)) less
          ∙ (comment_closes c.chars.depth c.in-Some.char (chars c.chars.self.rest.now)
          (chars c.bump-in-chars.new.self.rest.now) _
          w.inside c.in-Some.ensures.exact (sym c.completes_pair.ensures.exact ∙ c.if-completes_pair.false)
          (sym c.completes_pair-else-completes_pair.ensures.exact
          ∙ c.if-completes_pair-2.true) c.bump-then-completes_pair-2.ensures.rest
          ∙ w.exact);
    }

pub returns-then-depth-eq0-clause-exact : goal.returns-then-depth-eq0-clause-exact
returns-then-depth-eq0-clause-exact c =
    let w = c.chars.invariant in
    let less = c.saturating_sub-depth.ensures in
    let none = c.if-depth-eq0.true in
    let start = drop_two (chars c.args.self.now.rest.now) (chars c.bump.new.self.rest.now)
    (chars c.bump-2.new.self.rest.now)
    c.bump.ensures.rest c.bump-2.ensures.rest in
    let closing : past_comments (c.chars.depth - 1) (chars c.bump-then-completes_pair-2.new.self.rest.now)
    ≡ past_comments c.chars.depth (chars c.chars.self.rest.now) =
    comment_closes c.chars.depth c.in-Some.char (chars c.chars.self.rest.now) (chars c.bump-in-chars.new.self.rest.now)
    _
    w.inside c.in-Some.ensures.exact (sym c.completes_pair.ensures.exact ∙ c.if-completes_pair.false)
    (sym c.completes_pair-else-completes_pair.ensures.exact
    ∙ c.if-completes_pair-2.true) c.bump-then-completes_pair-2.ensures.rest in
    ap (past_comments 1) (sym start) ∙ (sym w.exact ∙ (sym closing
    ∙ ap (λ (n : ℕ). past_comments n (chars c.bump-then-completes_pair-2.new.self.rest.now)) (sym less ∙ none)))
