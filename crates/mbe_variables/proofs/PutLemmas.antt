-- What is put into a builder, tree after tree.
use Rattle.std.specs.Prelude.{◌≡◌, [], ◌∷◌, Result, Ok, Err, OnOk, refl}
use Rattle.std.proofs.Common.{ap, sym, ◌∙◌}
use Rattle.mbe_tt.specs.declared.tt.Delimiter.{Delimiter}
use Rattle.mbe_tt.specs.Trees.Leaf.{Leaf}
use Rattle.mbe_tt.specs.Trees.Tree.{Forest, none, leaf, append, one_leaf}
use Rattle.mbe_tt.specs.Views.BufferEntries.{append-none}
use Rattle.mbe_tt.specs.Buffers.GroupStack.{GroupStack, put}
use Rattle.mbe_tt.proofs.Offsets.OffsetLemmas.{append-assoc}
use Rattle.mbe_variables.specs.FragmentWriter.{Appends}

pub put-none : (b : GroupStack) → b ≡ put none b
put-none [] = refl
put-none (g ∷ outer) = ap (λ (f : Forest). let x : Delimiter × Forest = (g.0, f) in x ∷ outer) (sym (append-none g.1))

pub put-put : (f h : Forest) (b : GroupStack) → put h (put f b) ≡ put (append f h) b
put-put f h [] = refl
put-put f h (g ∷ outer) = ap (λ (k : Forest). let x : Delimiter × Forest = (g.0, k) in x ∷ outer)
    (sym (append-assoc g.1 f h))

pub put_both : (f h : Forest) (old mid new : GroupStack) → mid ≡ put f old → new ≡ put h mid → new
    ≡ put (append f h) old
put_both f h old mid new a b = b ∙ (ap (put h) a ∙ put-put f h old)

pub two_leaves : {T E : Type 0} (r : Result T E) (a b x y : Leaf) (old mid new : GroupStack) → a ≡ x → b ≡ y
    → mid ≡ put (one_leaf a) old
    → OnOk r (new ≡ put (one_leaf b) mid) → OnOk r (new ≡ put (leaf x (leaf y none)) old)
two_leaves (Err e) a b x y old mid new p q m h = tt
two_leaves (Ok v) a b x y old mid new p q m h =
    put_both (one_leaf a) (one_leaf b) old mid new m h ∙ ap (λ l. put (leaf l (leaf b none)) old) p
    ∙ ap (λ l. put (leaf x (leaf l none)) old) q

pub appended : (P : Forest → Type 0) (f : Forest) (old new : GroupStack) → P f → new ≡ put f old → Appends P old new
unfolding Appends
appended P f old new p e = (f, p, e)
