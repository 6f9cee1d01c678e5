-- What is left to be written, as trees are written one after another.
use Rattle.std.proofs.Common.{◌≡◌, ◌∷◌, length, refl, ap, sym, ◌∙◌}
use Rattle.mbe_tt.specs.Buffers.GroupStack.{GroupStack, put, closed}
use Rattle.mbe_tt.specs.Trees.Tree.{Forest, none, group, append}
use Rattle.mbe_tt.specs.declared.tt.Delimiter.{Delimiter}
use Rattle.mbe_tt.proofs.Buffers.Built.{length-put}
use Rattle.mbe_tt.proofs.Buffers.Grown.{put-none, put-put}

-- what is written, once the rest is, is what is to be written of all
pub record Left (whole : Forest) (old : GroupStack) (rest : Forest) (now : GroupStack) : Type 0 where
  pub same : put rest now ≡ put whole old
  pub groups : length now ≡ length old

pub begins : (whole rest : Forest) (b : GroupStack) → whole ≡ rest → Left whole b rest b
begins whole rest b e = record { same = ap (λ f. put f b) (sym e); groups = refl }

-- some trees more are written
pub on : (whole rest kept more : Forest) (old now next : GroupStack) → Left whole old rest now → rest ≡ append kept more
    → next ≡ put kept now → Left whole old more next
on whole rest kept more old now next h parts e = record {
  same = ap (put more) e ∙ put-put kept more now ∙ ap (λ f. put f now) (sym parts) ∙ h.same;
  groups = ap length e ∙ length-put now kept ∙ h.groups;
}

-- what is left is that, too
pub passes : (whole rest more : Forest) (old now : GroupStack) → Left whole old rest now → rest ≡ more
    → Left whole old more now
passes whole rest more old now h e =
    record { same = ap (λ f. put f now) (sym e) ∙ h.same; groups = h.groups }

-- nothing is left
pub all_written : (whole rest : Forest) (old now : GroupStack) → Left whole old rest now → rest ≡ none → now
    ≡ put whole old
all_written whole rest old now h e = put-none now ∙ ap (λ f. put f now) (sym e) ∙ h.same

-- ---- groups

-- a group, from its opening to its closing
pub group_written : (d : Delimiter) (f : Forest) (now opened mid next : GroupStack)
    → opened ≡ (record { opening = d.opening; close = d.opening; kind = d.kind }, none) ∷ now
    → mid ≡ put f opened → next ≡ closed d.close mid → next ≡ put (group d f none) now
group_written d f now opened mid next o m e = e ∙ ap (closed d.close) (m ∙ ap (put f) o)
