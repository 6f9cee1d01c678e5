use Rattle.std.proofs.Common.{◌≡◌, ◌∙◌, ◌++◌, ◌∷◌, ◌-◌, [], List, ap, ℕ, set, length, arith}
use Rattle.mbe_tt.specs.Views.BufferEntry.{Entry}
use Rattle.mbe_tt.specs.Views.BufferEntry.{Close, Open}
use Rattle.mbe_tt.specs.Views.LeafViews.{entries_of}
use Rattle.mbe_tt.proofs.Buffers.Seen.{shown_append, length-shown}
use Rattle.mbe_tt.proofs.Buffers.Built.{finished}
use Rattle.mbe_tt.proofs.builder.close_at.Goals as goal

pub returns-clause-items : goal.returns-clause-items
returns-clause-items g c = λ before after s n e at.
    let len : c.len.result ≡ length (entries_of c.args.entries.now.items) =
    omega (arith, c.len.ensures, length-shown c.args.entries.now.items) in
    shown_append _ _ _ c.push_reserved.ensures.items
    ∙ (ap (λ (es : List Entry). es ++ Close ∷ []) c.set_entry.ensures.items
    ∙ (ap (λ (m : ℕ). set (entries_of c.args.entries.now.items) c.args.at (Open c.args.subtree (m - c.args.at - 1))
    ++ Close ∷ []) len
    ∙ finished before after _ s c.args.subtree n _ e at))
