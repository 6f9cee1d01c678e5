-- A place in an argument, and what is left of the groups around it.
use Rattle.std.proofs.Common.{◌≡◌, ℕ, zero, suc, ◌+◌, ◌<◌, ◌≤◌, ◌&&◌, Bool, IsTrue, ◌↔◌, nat_lt, List, [], ◌∷◌, ◌++◌}
use Rattle.std.proofs.Common.{reverse, length, Some, None, refl, sym, ap, ◌∙◌, arith}
use Rattle.std.proofs.lemmas.List.{reverse-append}
use Rattle.std.proofs.lemmas.Bool.{lt-ltb, false_from_ne_true}
use Rattle.std.proofs.lemmas.Option.{none-some}
use Rattle.mbe_tt.specs.Trees.Leaf.{Leaf}
use Rattle.mbe_tt.specs.declared.tt.Delimiter.{Delimiter}
use Rattle.mbe_tt.specs.Trees.Tree.{Forest, none, leaf, group, flat_len, first, rest_of, rest_at, append, Leaf_tree}
use Rattle.mbe_tt.specs.Trees.Tree.{Group_tree}
use Rattle.mbe_tt.specs.Buffers.Offsets.{Rests, rests, step, walk}
use Rattle.mbe_tt.proofs.Offsets.CursorLemmas.{walk-step, rest_at-walk}
use Rattle.mbe_tt.proofs.Offsets.OffsetLemmas.{append-none}
use Rattle.mbe_threads.specs.Remainder.{IsAfter}
use Rattle.mbe_semantics.specs.Readings.Input.{is_none}

-- what is held innermost is what is left at the place
pub here_is : (f : Forest) (n : ℕ) (here : Forest) (around : List Forest) → rests f n ≡ (here, around) → n ≤ flat_len f
    → here ≡ rest_at f n
here_is f n here around e h = ap (λ (r : Forest × List Forest). r.0) (sym e) ∙ rest_at-walk f [] n h

-- one flat token further
one_further : (f : Forest) (n : ℕ) (here : Forest) (around : List Forest) → rests f n ≡ (here, around)
    → rests f (n + 1) ≡ step here around
one_further f n here around e = walk-step n (f, []) ∙ ap (λ (r : Forest × List Forest). step r.0 r.1) e

leaf_step : (here left : Forest) (around : List Forest) (l : Leaf) → Some (Leaf_tree l) ≡ first here
    → left ≡ rest_of here → step here around ≡ (left, around)
leaf_step none left around l e r = absurd (none-some _ (sym e))
leaf_step (leaf k rest) left around l e r = ap (λ (x : Forest). (x, around)) (sym r)
leaf_step (group d inside rest) left around l e r = absurd (cc)

group_step : (here left : Forest) (around : List Forest) (d : Delimiter) (inside : Forest)
    → Some (Group_tree d inside) ≡ first here → left ≡ rest_of here →
    step here around ≡ (inside, left ∷ around)
group_step none left around d inside e r = absurd (none-some _ (sym e))
group_step (leaf k rest) left around d inside e r = absurd (cc)
group_step (group c within rest) left around d inside e r =
    let same : inside ≡ within = cc in
    ap (λ (x : Forest). (x, rest ∷ around)) (sym same) ∙ ap (λ (x : Forest). (inside, x ∷ around)) (sym r)

end_step : (here : Forest) (around : List Forest) (r : Forest) → None ≡ first here
    → step here (r ∷ around) ≡ (r, around)
end_step none around r e = refl
end_step (leaf k rest) around r e = absurd (none-some _ e)
end_step (group d inside rest) around r e = absurd (none-some _ e)

last_step : (here left : Forest) → None ≡ first here → left ≡ rest_of here → step here [] ≡ (left, [])
last_step none left e r = ap (λ (x : Forest). (x, [])) (sym r)
last_step (leaf k rest) left e r = absurd (none-some _ e)
last_step (group d inside rest) left e r = absurd (none-some _ e)

pub no_items : {A : Type 0} (xs : List A) → length xs ≡ 0 → xs ≡ []
no_items [] e = refl
no_items (x ∷ xs) e = absurd (omega arith)

-- after a leaf, an opening and a closing
module _ (f : Forest) (n : ℕ) (here left : Forest) (around : List Forest) (placed : rests f n ≡ (here, reverse around))
    (rest : left ≡ rest_of here) where
  pub after_leaf : (l : Leaf) → Some (Leaf_tree l) ≡ first here → rests f (n + 1) ≡ (left, reverse around)
  after_leaf l e = one_further f n here (reverse around) placed ∙ leaf_step here left (reverse around) l e rest

  pub after_opening : (d : Delimiter) (inside : Forest) (after : List Forest) → Some (Group_tree d inside) ≡ first here
      → after ≡ around ++ left ∷ [] →
      rests f (n + 1) ≡ (inside, reverse after)
  after_opening d inside after e a =
      one_further f n here (reverse around) placed ∙ group_step here left (reverse around) d inside e rest
      ∙ ap (λ (x : List Forest). (inside, x)) (sym (ap reverse a ∙ reverse-append around (left ∷ [])))

  pub after_closing : (frame : Forest) (after : List Forest) → None ≡ first here → around ≡ after ++ frame ∷ []
      → rests f (n + 1) ≡ (frame, reverse after)
  after_closing frame after e a =
      one_further f n here (reverse around) placed ∙ ap (step here) (ap reverse a ∙ reverse-append after (frame ∷ []))
      ∙ end_step here (reverse after) frame e

  pub following_all : (after : List Forest) → None ≡ first here → length around ≡ 0 → length after ≡ 0
      → rests f (n + 1) ≡ (left, reverse after)
  following_all after e a b =
      one_further f n here (reverse around) placed ∙ ap (λ (x : List Forest). step here (reverse x)) (no_items around a)
      ∙ last_step here left e rest
      ∙ ap (λ (x : List Forest). (left, reverse x)) (sym (no_items after b))

-- ---- where a group closes

none_is : (r : Bool) (f : Forest) → IsTrue r ↔ (f ≡ none) → r ≡ is_none f
none_is r none h = h.1 refl
none_is r (leaf l rest) h = false_from_ne_true r (λ t. let e : leaf l rest ≡ none = h.0 t in absurd cc)
none_is r (group d inside rest) h = false_from_ne_true r (λ t. let e : group d inside rest ≡ none = h.0 t in absurd cc)

pub closes_here : (f here : Forest) (n : ℕ) (r : Bool) → here ≡ rest_at f n → n < flat_len f → IsTrue r ↔ (here ≡ none)
    → r ≡ (nat_lt n (flat_len f) && is_none (rest_at f n))
closes_here f here n r e l h =
    none_is r here h ∙ ap is_none e ∙ ap (λ (b : Bool). b && is_none (rest_at f n)) (sym (lt-ltb n (flat_len f) l))

-- ---- after whole trees

walk_past : (front beyond : Forest) (around : List Forest) (n m : ℕ) → n ≡ flat_len front + m
    → walk n (append front beyond, around) ≡ walk m (beyond, around)
walk_past none beyond around n m e = let h : n ≡ m = omega (arith, e) in ap (λ (k : ℕ). walk k (beyond, around)) h
walk_past (leaf l rest) beyond around zero m e = absurd (omega (arith, e))
walk_past (leaf l rest) beyond around (suc n) m e = walk_past rest beyond around n m (omega (arith, e))
walk_past (group d inside rest) beyond around zero m e = absurd (omega (arith, e))
walk_past (group d inside rest) beyond around (suc n) m e =
    ap (λ (f : Forest). walk n (f, append rest beyond ∷ around)) (sym (append-none inside))
    ∙ walk_past inside none (append rest beyond ∷ around) n (suc (flat_len rest + m)) (omega (arith, e))
    ∙ walk_past rest beyond around (flat_len rest + m) m refl

walk_on : (n m k : ℕ) (r : Rests) → k ≡ n + m → walk k r ≡ walk m (walk n r)
walk_on zero m k r e = let h : k ≡ m = omega (arith, e) in ap (λ (x : ℕ). walk x r) h
walk_on (suc n) m zero r e = absurd (omega (arith, e))
walk_on (suc n) m (suc k) r e = walk_on n m k (step r.0 r.1) (omega (arith, e))

pub after_trees : (f : Forest) (n width : ℕ) (here beyond : Forest) (around : List Forest) → rests f n ≡ (here, around)
    → IsAfter here width beyond →
    rests f (n + width) ≡ (beyond, around)
after_trees f n width here beyond around e (front, a, l) =
    walk_on n width (n + width) (f, []) refl ∙ ap (walk width) e ∙ ap (λ (h : Forest). walk width (h, around)) (sym a)
    ∙ walk_past front beyond around width 0 (omega (arith, l))
