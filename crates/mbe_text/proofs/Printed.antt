-- A tree that is being printed, one flat token after another.
use Rattle.std.proofs.Common.{◌≡◌, ℕ, ◌+◌, ◌<◌, ◌≤◌, min, List, [], ◌++◌, Option, sym, ap, ◌∙◌, arith, append_assoc}
use Rattle.std.proofs.Common.{append-nil, subst}
use Rattle.std.specs.Io.KnownBytes.{Appends}
use Rattle.std.proofs.KnownBytes.{Appends-trans}
use Rattle.mbe_tt.specs.Trees.Tree.{Forest, first, flat_len, rest_at, Tree}
use Rattle.mbe_tt.specs.Buffers.Offsets.{CursorValue, cursor_trees, offset_of, rest_at_cursor}
use Rattle.mbe_text.specs.TreeDump.{lines, first_line, depth_after}
use Rattle.mbe_text.proofs.WriterLemmas.{Fails, fails_then}
use Rattle.mbe_text.proofs.Lines.{Walks, Walked, walked, walks_last}

-- the cursor's place is after n flat tokens of these trees, and the lines before it are written
pub record Printed (f : Forest) (a b : Option (List ℕ)) (v : CursorValue) (n depth : ℕ) : Type 0 where
  pub at : v ≡ (f, n)
  pub done : List ℕ
  pub left : List ℕ
  pub whole : lines 0 f ≡ done ++ left
  pub written : Appends a b done
  pub walks : Walks f n depth left

-- the next flat token
token_at : (f : Forest) (n : ℕ) (v : CursorValue) (t : Option Tree) → v ≡ (f, n) → t ≡ first (rest_at_cursor v)
    → t ≡ first (rest_at f n)
token_at f n v t at e = e ∙ ap (λ (u : CursorValue). first (rest_at_cursor u)) at

pub printed_fits : (f : Forest) (a b : Option (List ℕ)) (v : CursorValue) (n depth : ℕ) (t : Option Tree)
    → Printed f a b v n depth → n < flat_len f
    → t ≡ first (rest_at_cursor v) → depth_after t depth ≤ flat_len f
printed_fits f a b v n depth t p lt e =
    let w : Walked f n depth p.left = walked f n depth p.left lt p.walks in
    let k : depth_after t depth ≡ depth_after (first (rest_at f n)) depth =
    ap (λ (u : Option Tree). depth_after u depth) (token_at f n v t p.at e) in
    omega (arith, w.fits, k)

pub printed_off : (f : Forest) (a b c : Option (List ℕ)) (v : CursorValue) (n depth : ℕ) (t : Option Tree)
    → Printed f a b v n depth → n < flat_len f
    → t ≡ first (rest_at_cursor v) → Fails b c (first_line depth t) → Fails a c (lines 0 f)
printed_off f a b c v n depth t p lt e h =
    let w : Walked f n depth p.left = walked f n depth p.left lt p.walks in
    let k : first_line depth (first (rest_at f n)) ≡ first_line depth t =
    ap (first_line depth) (sym (token_at f n v t p.at e)) in
    fails_then a b c p.done (first_line depth t) w.after (lines 0 f)
    (p.whole ∙ ap (λ (l : List ℕ). p.done ++ l) (w.line ∙ ap (λ (l : List ℕ). l ++ w.after) k)) p.written h

pub printed_on : (f : Forest) (a b c : Option (List ℕ)) (v u : CursorValue) (n depth : ℕ) (t : Option Tree)
    → Printed f a b v n depth → n < flat_len f
    → t ≡ first (rest_at_cursor v) → Appends b c (first_line depth t)
    → u ≡ (cursor_trees v, min (offset_of v + 1) (flat_len (cursor_trees v)))
    → Printed f a c u (n + 1) (depth_after t depth)
printed_on f a b c v u n depth t p lt e h next =
    let w : Walked f n depth p.left = walked f n depth p.left lt p.walks in
    let here : first (rest_at f n) ≡ t = sym (token_at f n v t p.at e) in
    let m : min (n + 1) (flat_len f) ≡ n + 1 = omega arith in
    record {
      at = next
          ∙ (ap (λ (q : CursorValue). let r : CursorValue =
          (cursor_trees q, min (offset_of q + 1) (flat_len (cursor_trees q))) in r)
          p.at
          ∙ ap (λ (k : ℕ). let r : CursorValue = (f, k) in r) m);
      done = p.done ++ first_line depth t;
      left = w.after;
      whole = p.whole ∙ (ap (λ (l : List ℕ). p.done ++ l)
          (w.line ∙ ap (λ (s : Option Tree). first_line depth s ++ w.after) here)
          ∙ sym (append_assoc p.done (first_line depth t) w.after));
      written = Appends-trans a b c p.done (first_line depth t) p.written h;
      walks = subst (λ (s : Option Tree). Walks f (n + 1) (depth_after s depth) w.after) here w.walks;
    }

pub printed_last : (f : Forest) (a b : Option (List ℕ)) (v : CursorValue) (n depth : ℕ) → Printed f a b v n depth
    → n ≡ flat_len f → Appends a b (lines 0 f)
printed_last f a b v n depth p e =
    let none : p.left ≡ [] = walks_last f n depth p.left e p.walks in
    subst (Appends a b) (sym (p.whole ∙ (ap (λ (l : List ℕ). p.done ++ l) none ∙ append-nil p.done))) p.written
