use Rattle.std.proofs.Common.{◌≡◌, ◌∙◌, ◌+◌, ◌-◌, ◌++◌, List, ap, length, take, drop, arith, ℕ}
use Rattle.std.specs.Vec.{vec_len}
use Rattle.mbe_tt.specs.Views.BufferEntry.{Entry}
use Rattle.mbe_tt.specs.Views.LeafViews.{entries_of}
use Rattle.mbe_tt.proofs.Buffers.Seen.{shown_take, shown_cut}
use Rattle.mbe_tt.proofs.builder.unwrap_at.Goals as goal

pub returns-clause-items : goal.returns-clause-items
returns-clause-items g c =
    let n : vec_len c.args.entries.now ≡ length c.args.entries.now.items = omega arith in
    shown_cut c.remove-opening.new.self.items c.pop-closing.new.self.items c.args.offset
    c.remove-opening.ensures.by_index.2
    ∙ ap (λ (es : List Entry). take c.args.offset es ++ drop (c.args.offset + 1) es)
    (shown_take (vec_len c.args.entries.now - 1) c.pop-closing.new.self.items c.args.entries.now.items
    c.pop-closing.ensures.rest
    ∙ ap (λ (k : ℕ). take (k - 1) (entries_of c.args.entries.now.items)) n)
