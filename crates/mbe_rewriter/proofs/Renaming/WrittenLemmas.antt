-- The steps of trees, written one after another, are the trees with their new names.
use Rattle.std.proofs.Common.{◌≡◌, ◌<◌, List, [], ◌∷◌, ◌++◌, length, refl, ap, sym, ◌∙◌, append_assoc, append-nil}
use Rattle.std.proofs.Common.{arith}
use Rattle.std.proofs.lemmas.Bool.{lt-ltb}
use Rattle.mbe_tt.proofs.Buffers.Built.{length-put}
use Rattle.mbe_tt.proofs.Buffers.Grown.{put-none, put_one}
use Rattle.mbe_tt.specs.Buffers.GroupStack.{GroupStack, put}
use Rattle.mbe_tt.specs.Trees.Top.{Top}
use Rattle.mbe_tt.specs.Trees.Tree.{Forest, Leaf_tree, Group_tree, none, leaf, group, one_leaf}
use Rattle.mbe_tt.specs.declared.tt.Delimiter.{Delimiter}
use Rattle.mbe_rewriter.specs.declared.hygiene.scan_state.ScanState.{ScanState}
use Rattle.mbe_rewriter.specs.Hygiene.LocalNames.{Naming}
use Rattle.mbe_rewriter.specs.Hygiene.Renamer.{renamed_leaf, renamed, closed_inside, written}
use Rattle.mbe_rewriter.specs.Hygiene.Roles.{close_role}
use Rattle.mbe_rewriter.specs.Hygiene.ScanState.{start, after_leaf, after_group, inside_group}
use Rattle.mbe_rewriter.specs.Hygiene.TreeEvents.{TreeEvent, closing, leaf_role, events}

-- a group that is opened among others is closed
closes : (d : Delimiter) (inside : Forest) (b : GroupStack) → 0 < length b
    → closed_inside d.close ((record { opening = d.opening; close = d.opening; kind = d.kind }, inside) ∷ b)
    ≡ put (group d inside none) b
closes d inside b h =
    let more : 1 < length ((record { opening = d.opening; close = d.opening; kind = d.kind }, inside) ∷ b) =
    omega (arith, h) in
    rw (lt-ltb 1 (length ((record { opening = d.opening; close = d.opening; kind = d.kind }, inside) ∷ b)) more) refl

put_some : (f : Forest) (b : GroupStack) → 0 < length b → 0 < length (put f b)
put_some f b h = let l = length-put b f in omega (arith, h, l)

pub steps_written : (given : List Naming) (f : Forest) (s : ScanState) (b : GroupStack) (more : List TreeEvent)
    → 0 < length b
    → written given (events s f ++ more) b ≡ written given more (put (renamed given s f) b)
unfolding events renamed
steps_written given none s b more h = ap (written given more) (put-none b)
steps_written given (leaf l rest) s b more h =
    let l2 = renamed_leaf given l (leaf_role s l rest) in
    let s2 = after_leaf s l rest in
    steps_written given rest s2 (put (one_leaf l2) b) more (put_some (one_leaf l2) b h)
    ∙ ap (written given more) (put_one (Leaf_tree l2) (renamed given s2 rest) b)
steps_written given (group d inside rest) s b more h =
    let si = inside_group s d.kind inside in
    let sa = after_group s d.kind rest in
    let x : Delimiter × Forest = (record { opening = d.opening; close = d.opening; kind = d.kind }, none) in
    let content = renamed given si inside in
    let others = events sa rest in
    let end = closing d.close (close_role s d.kind) in
    let deep : 0 < length (x ∷ b) = omega (arith, h) in
    ap (λ k. written given k (x ∷ b)) (append_assoc (events si inside) (end ∷ others) more)
    ∙ steps_written given inside si (x ∷ b) (end ∷ (others ++ more)) deep
    ∙ ap (written given (others ++ more)) (closes d content b h)
    ∙ steps_written given rest sa (put (group d content none) b) more (put_some (group d content none) b h)
    ∙ ap (written given more) (put_one (Group_tree d content) (renamed given sa rest) b)

-- all of them, in a builder that has the whole open alone
pub all_written : (given : List Naming) (f : Forest) (s : ScanState) (d : Delimiter)
    → written given (events s f) ((d, none) ∷ []) ≡ (d, renamed given s f) ∷ []
all_written given f s d =
    let b : GroupStack = (d, none) ∷ [] in
    let some : 0 < length b = omega arith in
    ap (λ k. written given k b) (sym (append-nil (events s f))) ∙ steps_written given f s b [] some

-- what a builder holds that had the whole open alone
whole_written : (given : List Naming) (f : Forest) (xs : List TreeEvent) (d : Delimiter) (b after : GroupStack)
    → xs ≡ events start f → b ≡ (d, none) ∷ [] → after ≡ written given xs b → after ≡ (d, renamed given start f) ∷ []
whole_written given f xs d b after x e w =
    w ∙ ap (λ k. written given k b) x ∙ ap (written given (events start f)) e ∙ all_written given f start d

-- the same, where the delimiter was read
pub whole_seen : (f : Forest) (d read : Delimiter) (given : List Naming) (xs : List TreeEvent) (b after : GroupStack)
    → xs ≡ events start f → b ≡ (read, none) ∷ [] → read ≡ d → after ≡ written given xs b
    → after ≡ (d, renamed given start f) ∷ []
whole_seen f d read given xs b after x e r w =
    whole_written given f xs d b after x
    (e ∙ ap (λ (k : Delimiter). let y : Delimiter × Forest = (k, none) in y ∷ []) r) w

-- the only tree that is built
pub built : (t r : Top) (given : List Naming) (after : GroupStack)
    → after ≡ (t.0, renamed given start t.1) ∷ [] → after ≡ r ∷ [] → r ≡ (t.0, renamed given start t.1)
built t r given after w b = cc
