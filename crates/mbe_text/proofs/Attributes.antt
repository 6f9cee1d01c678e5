-- What is added of a lifetime and of a doc comment, one piece after another.
use Rattle.std.proofs.Common.{◌≡◌, ◌<◌, [], ◌∷◌, length, Result, Ok, Err, OnOk, refl, sym, ap, ◌∙◌, arith}
use Rattle.mbe_tt.specs.Buffers.GroupStack.{GroupStack, put, closed}
use Rattle.mbe_tt.specs.Trees.Leaf.{Leaf}
use Rattle.mbe_tt.specs.Trees.Tree.{Forest, none, leaf, group, append, one_leaf}
use Rattle.mbe_tt.specs.declared.span.Span.{Span}
use Rattle.mbe_tt.specs.declared.tt.Delimiter.{Delimiter}
use Rattle.mbe_tt.proofs.Offsets.OffsetLemmas.{append-assoc}
use Rattle.mbe_text.specs.Tokens.{TokenItem, leaf_item, trees_item, open_item, close_item, Adds}
use Rattle.mbe_tt.proofs.Buffers.Built.{length-put}

put_twice : (f h : Forest) (b : GroupStack) → put h (put f b) ≡ put (append f h) b
put_twice f h [] = refl
put_twice f h (g ∷ outer) = ap (λ (x : Forest). let b : GroupStack = (g.0, x) ∷ outer in b) (sym (append-assoc g.1 f h))

-- first some trees are put, and then others
pub puts_both : {T E : Type 0} (r : Result T E) (f h all : Forest) (old mid new : GroupStack) → mid ≡ put f old
    → OnOk r (new ≡ put h mid) → append f h ≡ all → OnOk r (new ≡ put all old)
puts_both (Ok x) f h all old mid new e g same =
    g ∙ (ap (put h) e ∙ (put_twice f h old ∙ ap (λ (x : Forest). put x old) same))
puts_both (Err x) f h all old mid new e g same = g

-- a group of three leaves is open
three_inside : (d : Delimiter) (x y z : Leaf) (old a b c e : GroupStack) → a ≡ (d, none) ∷ old → b ≡ put (one_leaf x) a
    → c ≡ put (one_leaf y) b → e ≡ put (one_leaf z) c → e ≡ (d, leaf x (leaf y (leaf z none))) ∷ old
three_inside d x y z old a b c e p q r s =
    s ∙ ap (put (one_leaf z)) (r ∙ ap (put (one_leaf y)) (q ∙ ap (put (one_leaf x)) p))

pub three_open : (d : Delimiter) (x y z : Leaf) (old a b c e : GroupStack) → a ≡ (d, none) ∷ old → b
    ≡ put (one_leaf x) a
    → c ≡ put (one_leaf y) b → e ≡ put (one_leaf z) c → 0 < length old → 1 < length e
three_open d x y z old a b c e p q r s some =
    omega (arith, ap (λ (l : GroupStack). length l) (three_inside d x y z old a b c e p q r s))

-- and is closed
pub three_closed : (d : Delimiter) (x y z : Leaf) (span : Span) (old a b c e new : GroupStack) → a ≡ (d, none) ∷ old
    → b ≡ put (one_leaf x) a → c ≡ put (one_leaf y) b → e ≡ put (one_leaf z) c → new ≡ closed span e
    → new ≡ put (group (record d { close = span }) (leaf x (leaf y (leaf z none))) none) old
three_closed d x y z span old a b c e new p q r s h =
    h ∙ ap (closed span) (three_inside d x y z old a b c e p q r s)

-- some group is still open after a token
pub adds_some : (x : TokenItem) (old new : GroupStack) → 0 < length old → Adds x old new → 0 < length new
adds_some (leaf_item l) old new h e = omega (arith, ap (λ (b : GroupStack). length b) e, length-put old (one_leaf l))
adds_some (trees_item span trees) old new h e = omega (arith, ap (λ (b : GroupStack). length b) e, length-put old trees)
adds_some (open_item kind span) old new h e = omega (arith, ap (λ (b : GroupStack). length b) e)
adds_some (close_item kind span) [] new h e = absurd (omega arith)
adds_some (close_item kind span) (g ∷ []) new h e = let no = e.0 in cc
adds_some (close_item kind span) (g ∷ (k ∷ outer)) new h e = omega (arith, ap (λ (b : GroupStack). length b) e.1)
