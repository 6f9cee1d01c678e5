use Rattle.std.proofs.Common.{rules, arith, ◌≡◌, ◌++◌, ◌∙◌, ℕ, ◌+◌, ◌<◌, List, chars, drop, length, get_or, sym, ap}
use Rattle.std.specs.String.{string_bytes}
use Rattle.std.proofs.lemmas.Iterator.{YieldsList-from_chars}
use Rattle.std.proofs.lemmas.Iterator.Consumers.{YieldsList-turn, YieldsList-end}
use Rattle.std.proofs.lemmas.List.{append-nil, append_assoc, at_drop_more, at_drop_all, length_push}
use Rattle.mbe_markup.specs.Escapes as spec
use Rattle.mbe_markup.proofs.html.push_escaped.Goals as goal

shown-drop : (cs : List ℕ) (n c : ℕ)
    → (n < length cs) × (c ≡ get_or cs n c)
    → spec.escaped (drop n cs) ≡ spec.escaped_char c ++ spec.escaped (drop (n + 1) cs)
shown-drop cs n c h =
    at_drop_more spec.escaped cs n c h.0
    ∙ ap (λ x. spec.escaped_char x ++ spec.escaped (drop (n + 1) cs)) (sym h.1)

pub loop-char-preserved : goal.loop-char-preserved
loop-char-preserved c =
    let char = c.in-Some.char in
    let yielded = c.loop-char.yielded in
    let all_chars = YieldsList-from_chars c.args.shown.now c.utf8.shown cc in
    let steps = c.next.ensures.steps in
    let at_turn = YieldsList-turn all_chars yielded _ c.loop-char.yielded_by _ _ char c.in-Some.is steps in
    let cs = chars c.args.shown.now in
    let written = string_bytes c.loop-char.text in
    let later = string_bytes c.push_char.new.text in
    let rest = spec.escaped (drop (length yielded + 1) cs) in
    let pushed : later ≡ written ++ spec.escaped_char char = search rules in
    let one_more = ap (λ k. later ++ spec.escaped (drop k cs)) (length_push yielded char) in
    let moved = append_assoc written (spec.escaped_char char) rest in
    let before = ap (λ r. written ++ r) (sym (shown-drop cs (length yielded) char at_turn)) in
    one_more ∙ (ap (λ b. b ++ rest) pushed ∙ (moved ∙ (before ∙ c.loop-char.invariant)))

pub returns : goal.returns
returns c =
    let yielded = c.loop-char.yielded in
    let all_chars = YieldsList-from_chars c.args.shown.now c.utf8.shown cc in
    let at_end = YieldsList-end all_chars yielded _ c.loop-char.yielded_by _ _ c.in-None.is c.next.ensures.steps in
    let cs = chars c.args.shown.now in
    let written = string_bytes c.loop-char.text in
    let none_left = at_drop_all spec.escaped cs (length yielded) (omega (arith, at_end.1)) in
    sym (append-nil written) ∙ (ap (λ r. written ++ r) (sym none_left) ∙ c.loop-char.invariant)
