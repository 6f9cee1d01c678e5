use Rattle.std.proofs.Common.{◌≡◌, get_or, arith, ◌++◌, ◌∙◌, ◌+◌, ◌-◌, ◌<◌, ◌≤◌, chars, drop, length, sym, ap}
use Rattle.std.specs.Prelude.{◌==◌}
use Rattle.std.specs.String.{string_bytes}
use Rattle.std.proofs.lemmas.Iterator.{YieldsList-from_chars}
use Rattle.std.proofs.lemmas.Iterator.Consumers.{YieldsList-turn, YieldsList-end}
use Rattle.std.proofs.lemmas.List.{append-nil, append_assoc, at_drop_all, length_push}
use Rattle.mbe_diagnostics.specs.Excerpt as spec
use Rattle.mbe_diagnostics.proofs.ExcerptLemmas.{passed_over, no_room, one_more}
use Rattle.mbe_diagnostics.proofs.excerpt.excerpt.Goals as goal
use Rattle.mbe_diagnostics.proofs.excerpt.excerpt.Goals.{In-Some}

-- the character is the next one of the text
next_char : (g : _) (c : In-Some g) → (length c.loop-char.yielded < length (chars c.args.text.now))
    × (c.in-Some.char ≡ get_or (chars c.args.text.now) (length c.loop-char.yielded) c.in-Some.char)
next_char g c =
    YieldsList-turn (YieldsList-from_chars c.args.text.now c.utf8.text cc) c.loop-char.yielded _
    c.loop-char.yielded_by _ _ c.in-Some.char c.in-Some.is c.next.ensures.steps

pub loop-char-preserved-then-is_indent : goal.loop-char-preserved-then-is_indent
loop-char-preserved-then-is_indent g c =
    let turn = next_char g (goal.at.loop-char-preserved-then-is_indent g c).In-Some in
    let char = c.in-Some.char in
    let yielded = c.loop-char.yielded in
    let room = c.loop-char.room in
    let start = c.loop-char.at_start in
    let holds = sym c.is_indent.ensures ∙ c.if-is_indent.true in
    ap (λ k. string_bytes c.loop-char.shown ++ spec.excerpt_in room start (drop k (chars c.args.text.now)))
    (length_push yielded char)
    ∙ (ap (λ r. string_bytes c.loop-char.shown ++ r)
    (sym (passed_over room start (chars c.args.text.now) (length yielded) char turn holds))
    ∙ c.loop-char.invariant)

pub returns-then-room-columns : goal.returns-then-room-columns
returns-then-room-columns g c =
    let turn = next_char g (goal.at.returns-then-room-columns g c).In-Some in
    let char = c.in-Some.char in
    let yielded = c.loop-char.yielded in
    let room = c.loop-char.room in
    let stays = sym c.is_indent.ensures ∙ c.if-is_indent.false in
    let test = c.if-room-columns.true in
    let width = c.columns-columns.ensures in
    let full : room < spec.columns char = omega (arith, test, width) in
    c.in_ok-push.ensures.bytes
    ∙ (ap (λ r. string_bytes c.loop-char.shown ++ r)
    (sym (no_room room c.loop-char.at_start (chars c.args.text.now) (length yielded) char turn stays full))
    ∙ c.loop-char.invariant)

pub loop-char-preserved : goal.loop-char-preserved
loop-char-preserved g c =
    let turn = next_char g (goal.at.loop-char-preserved g c).In-Some in
    let char = c.in-Some.char in
    let yielded = c.loop-char.yielded in
    let later = string_bytes c.push_in_line.new.text in
    let room = c.loop-char.room in
    let left = c.loop-char.room - c.columns-columns.result in
    let begins = char == 10 in
    let stays = sym c.is_indent.ensures ∙ c.if-is_indent.false in
    let test = c.if-room-columns.false in
    let width = c.columns-columns.ensures in
    let fits : spec.columns char ≤ room = omega (arith, test, width) in
    let rest = spec.excerpt_in (room - spec.columns char) begins (drop (length yielded + 1) (chars c.args.text.now)) in
    ap (λ k. later ++ spec.excerpt_in left begins (drop k (chars c.args.text.now))) (length_push yielded char)
    ∙ (ap (λ w. later ++ spec.excerpt_in (room - w) begins (drop (length yielded + 1) (chars c.args.text.now))) width
    ∙ (ap (λ b. b ++ rest) c.in_ok-push_in_line.ensures
    ∙ (append_assoc (string_bytes c.loop-char.shown) (spec.in_line char) rest
    ∙ (ap (λ r. string_bytes c.loop-char.shown ++ r)
    (sym (one_more room c.loop-char.at_start (chars c.args.text.now) (length yielded) char turn stays fits))
    ∙ c.loop-char.invariant))))

pub returns : goal.returns
returns g c =
    let yielded = c.loop-char.yielded in
    let all_chars = YieldsList-from_chars c.args.text.now c.utf8.text cc in
    let at_end = YieldsList-end all_chars yielded _ c.loop-char.yielded_by _ _ c.in-None.is c.next.ensures.steps in
    let cs = chars c.args.text.now in
    let shown = string_bytes c.loop-char.shown in
    let rest = spec.excerpt_in c.loop-char.room c.loop-char.at_start in
    let none_left = at_drop_all rest cs (length yielded) (omega (arith, at_end.1)) in
    sym (append-nil shown) ∙ (ap (λ r. shown ++ r) (sym none_left) ∙ c.loop-char.invariant)
