use Rattle.std.proofs.Common.{◌≡◌, ◌+◌, ap, sym, ◌∙◌, arith, length, length-append, [], ◌∷◌}
use Rattle.mbe_tt.specs.declared.entry.Entry.{Entry}
use Rattle.mbe_tt.proofs.Offsets.EndLemmas.{leaf_ending, group_ending, place_of_invisible, no_place_of_visible}
use Rattle.mbe_tt.proofs.builder.last_invisible.Goals as goal
use Rattle.mbe_tt.proofs.builder.last_invisible.Goals.{in-Invisible, in_default-kind}

pub returns-in_default : goal.returns-in_default
returns-in_default g c = leaf_ending c.args.entries.now c.in_ok-last.front.now c.in_ok-last.last.now c.requires
    c.in_ok-last.ensures.cases.0 c.in_default.not-Close

pub returns-in-Some : goal.returns-in-Some
returns-in-Some g c =
    let sum : c.in-Some.offset + c.in-Some-Open-default.inside + 2 ≡ length c.args.entries.now =
    omega (
      arith,
      c.in-Some.ensures,
      c.saturating_add.ensures,
      c.if-inside-len.true,
      ap length c.in_ok-last.ensures.cases.0,
      length-append c.in_ok-last.front.now (c.in_ok-last.last.now ∷ []),
    ) in
    let here = group_ending c.args.entries.now c.in-Some-Open-default._content.now c.in-Some.offset
    c.in-Some-Open-default.inside
    c.in-Some-Open-default.subtree c.requires (sym c.split_at.ensures.back ∙ (c.in-Some-Open-default.ensures.cases.0
    ∙ ap (λ (x : Entry _). x ∷ c.in-Some-Open-default._content.now) c.in-Some-Open-default.field-0-0-is)) sum in
    elim c.match-subtree.branch [
      | in-Invisible w ↦ w.result-is ∙ (place_of_invisible _ c.in-Some.offset w.in-Invisible.is ∙ sym here)
      | in_default-kind w ↦ w.result-is ∙ (no_place_of_visible _ c.in-Some.offset w.in_default-kind.not-Invisible
          ∙ sym here)
    ]
