use Rattle.std.proofs.Common.{arith, ◌≡◌, ℕ, min, length, sym, ◌∙◌, ap, subst}
use Rattle.std.specs.String.{string_bytes}
use Rattle.std.proofs.lemmas.Grind.{common_steps}
use Rattle.mbe_session.specs.Locations.{AreBefore, feeds_from}
use Rattle.mbe_session.proofs.PlaceLemmas.{start_cuts, end_cuts, start_le_end, original_parts}
use Rattle.mbe_session.proofs.lines.Lines.location_of.Goals as goal

pub range-requires-clause-start_le_end : goal.range-requires-clause-start_le_end
range-requires-clause-start_le_end g c =
    rw c.start-start.ensures (rw c.end-end.ensures
    (start_le_end c.args.self.now.feeds.items c.min-at.result c.before-before.result _
    (omega (arith, c.min-at.ensures, ap length c.as_str-text.ensures.value)) c.before-before.ensures))

pub range-requires-clause-start_boundary : goal.range-requires-clause-start_boundary
range-requires-clause-start_boundary g c =
    λ _. rw c.start-start.ensures (start_cuts c.as_str-text.result.now c.args.self.now.feeds.items
    c.before-before.result
    (c.args.self.now.table ∙ ap (feeds_from 0)
    (sym c.as_str-text.ensures.value)) c.as_str-text.utf8 c.before-before.ensures.within)

pub range-requires-clause-end_boundary : goal.range-requires-clause-end_boundary
range-requires-clause-end_boundary g c =
    rw c.end-end.ensures (rw (sym c.as_str-text.ensures.value)
    (end_cuts c.as_str-text.result.now c.args.self.now.feeds.items c.before-before.result
    (c.args.self.now.table ∙ ap (feeds_from 0) (sym c.as_str-text.ensures.value))))

pub returns : goal.returns
returns g c =
    let text = string_bytes c.args.self.now.text in
    let at : c.min-at.result ≡ min c.args.offset (length text) =
    grind (arith, c.min-at.ensures, c.as_str-text.ensures.value) in
    let P : ℕ → Type 0 = λ a. AreBefore c.args.self.now.feeds.items a c.before-before.result in
    original_parts text c.args.self.now.feeds.items c.range.result.now (min c.args.offset
    (length text)) c.before-before.result c.start-start.result
    c.end-end.result c.count_chars.result c.args.self.now.table (omega arith)
    (subst P at c.before-before.ensures) c.start-start.ensures c.end-end.ensures
    (grind (arith, common_steps)) (grind (arith, common_steps))
