use Rattle.std.proofs.Common.{◌∙◌, ap, arith}
use Rattle.mbe_tests.proofs.calling.logs.uses.numbers.Goals as goal

pub returns-clause-pushed : goal.returns-clause-pushed
returns-clause-pushed g c =
    let e0 = c.in_ok-handle.ensures.given.ends in
    let e1 = c.in_ok-push_empty.ensures.ok.ends e0 in
    let e2 = c.in_ok-push_optional.ensures.ok.ends e1 in
    let e3 = c.in_ok-push_empty-2.ensures.ok.ends e2 in
    let w1 = c.in_ok-push_empty.ensures.written e0 in
    let w2 = c.in_ok-push_optional.ensures.written e1 in
    let w3 = c.in_ok-push_empty-2.ensures.written e2 in
    let z = c.in_ok-handle.ensures.empty in
    let f = ap (λ p. p.first) w3.1 ∙ ap (λ p. p.first) w2.1 ∙ ap (λ p. p.first) w1.1 ∙ z.1 in
    let a = ap (λ p. p.first) w1.0 in
    let b = ap (λ p. p.first) w2.0 in
    let d = ap (λ p. p.first) w3.0 in
    let n = z.0 in
    let r = c.entries_of-before.ensures.current in
    (omega (arith, a, b, d, n, r), c.entries_of-before.ensures.finished ∙ f)

pub returns-clause-finished : goal.returns-clause-finished
returns-clause-finished g c =
    let e0 = c.in_ok-handle.ensures.given.ends in
    let e1 = c.in_ok-push_empty.ensures.ok.ends e0 in
    let e2 = c.in_ok-push_optional.ensures.ok.ends e1 in
    let e3 = c.in_ok-push_empty-2.ensures.ok.ends e2 in
    let w1 = c.in_ok-push_empty.ensures.written e0 in
    let w2 = c.in_ok-push_optional.ensures.written e1 in
    let w3 = c.in_ok-push_empty-2.ensures.written e2 in
    let z = c.in_ok-handle.ensures.empty in
    let f = ap (λ p. p.first) w3.1 ∙ ap (λ p. p.first) w2.1 ∙ ap (λ p. p.first) w1.1 ∙ z.1 in
    let w4 = c.in_ok-push_default.ensures.written e3 in
    let a = ap (λ p. p.first) w4.1 in
    let r = c.entries_of-after.ensures.finished in
    (c.entries_of-after.ensures.current ∙ w4.0, omega (arith, a, r, f))
