-- The lines of a forest, one flat token after another.
use Rattle.std.proofs.Common.{◌≡◌, ℕ, zero, suc, ◌+◌, ◌-◌, ◌<◌, ◌≤◌, List, [], ◌∷◌, ◌++◌, length, drop, refl, sym, ap}
use Rattle.std.proofs.Common.{◌∙◌, arith, append_assoc}
use Rattle.std.specs.Prelude.{codes}
use Rattle.mbe_tt.specs.Trees.Tree.{Forest, none, leaf, group, first, flat_len, rest_at}
use Rattle.mbe_tt.specs.Buffers.Offsets.{Rests, step, rests, spell_rests}
use Rattle.mbe_tt.specs.Views.BufferEntries.{spell}
use Rattle.mbe_tt.proofs.Offsets.CursorLemmas.{walk-step, left_is, rest_at-rests, depth_le}
use Rattle.mbe_tt.proofs.Buffers.Spelled.{length-spell}
use Rattle.mbe_text.specs.TreeDump.{indentation, lines, line, leaf_line, group_line, first_line, depth_after}

-- the lines of the groups around, from the end of the innermost one
abbrev pub lines_around : List Forest → List ℕ
lines_around [] = []
lines_around (rest ∷ around) = lines (length around) rest ++ lines_around around

-- the lines of what is left
abbrev pub lines_left : Rests → List ℕ
lines_left r = lines (length r.1) r.0 ++ lines_around r.1

left_step : (f : Forest) (around : List Forest)
    → lines_left (f, around) ≡ first_line (length around) (first f) ++ lines_left (step f around)
left_step none [] = refl
left_step none (rest ∷ around) = refl
left_step (leaf l rest) around =
    append_assoc (line (length around) (leaf_line l)) (lines (length around) rest) (lines_around around)
left_step (group d inside rest) around =
    append_assoc (line (length around) (group_line d))
    (lines (suc (length around)) inside ++ lines (length around) rest) (lines_around around)
    ∙ ap (λ (l : List ℕ). line (length around) (group_line d) ++ l)
    (append_assoc (lines (suc (length around)) inside) (lines (length around) rest) (lines_around around))

depth_step : (f : Forest) (around : List Forest) → depth_after (first f) (length around) ≡ length (step f around).1
depth_step none [] = omega arith
depth_step none (rest ∷ around) = omega arith
depth_step (leaf l rest) around = refl
depth_step (group d inside rest) around = omega arith

-- the state of a walk: the number of groups around, and the lines that are left
pub record Walks (f : Forest) (n depth : ℕ) (left : List ℕ) : Type 0 where
  pub depth_is : depth ≡ length (rests f n).1
  pub left_is : left ≡ lines_left (rests f n)

-- one flat token more
pub record Walked (f : Forest) (n depth : ℕ) (left : List ℕ) : Type 0 where
  pub fits : depth_after (first (rest_at f n)) depth ≤ flat_len f
  pub after : List ℕ
  pub line : left ≡ first_line depth (first (rest_at f n)) ++ after
  pub walks : Walks f (n + 1) (depth_after (first (rest_at f n)) depth) after

drop_le : {A : Type 0} (n : ℕ) (xs : List A) → length (drop n xs) ≤ length xs
drop_le zero xs = omega arith
drop_le (suc n) [] = omega arith
drop_le (suc n) (x ∷ xs) = omega (arith, drop_le n xs)

pub walked : (f : Forest) (n depth : ℕ) (left : List ℕ) → n < flat_len f → Walks f n depth left → Walked f n depth left
walked f n depth left within w =
    let r : Rests = rests f n in
    let on : rests f (n + 1) ≡ step r.0 r.1 = walk-step n (f, []) in
    let here : r.0 ≡ rest_at f n = rest_at-rests f n (omega arith) in
    let deeper : depth_after (first (rest_at f n)) depth ≡ length (rests f (n + 1)).1 =
    ap (λ (g : Forest). depth_after (first g) depth) (sym here)
    ∙ (ap (depth_after (first r.0)) w.depth_is ∙ (depth_step r.0 r.1 ∙ ap (λ (s : Rests). length s.1) (sym on))) in
    record {
      fits = omega (arith, deeper, depth_le f (n + 1) (spell f) refl, drop_le (n + 1) (spell f), length-spell f);
      after = lines_left (rests f (n + 1));
      line = w.left_is ∙ (left_step r.0 r.1
          ∙ (ap (λ (s : Rests). first_line (length r.1) (first r.0) ++ lines_left s) (sym on)
          ∙ (ap (λ (k : ℕ). first_line k (first r.0) ++ lines_left (rests f (n + 1))) (sym w.depth_is)
          ∙ ap (λ (g : Forest). first_line depth (first g) ++ lines_left (rests f (n + 1))) here)));
      walks = record { depth_is = deeper; left_is = refl };
    }

no_entries : (f : Forest) (around : List Forest) → spell_rests (f, around) ≡ [] → lines_left (f, around) ≡ []
no_entries none [] e = refl
no_entries none (rest ∷ around) e = cc
no_entries (leaf l rest) around e = cc
no_entries (group d inside rest) around e = cc

drop_all : {A : Type 0} (n : ℕ) (xs : List A) → length xs ≡ n → drop n xs ≡ []
drop_all zero [] e = refl
drop_all zero (x ∷ xs) e = absurd (omega arith)
drop_all (suc n) [] e = refl
drop_all (suc n) (x ∷ xs) e = drop_all n xs (omega arith)

-- after the last flat token no line is left
pub walks_last : (f : Forest) (n depth : ℕ) (left : List ℕ) → n ≡ flat_len f → Walks f n depth left → left ≡ []
walks_last f n depth left e w =
    let r : Rests = rests f n in
    w.left_is ∙ no_entries r.0 r.1 (sym (left_is f n (spell f) refl) ∙ drop_all n (spell f) (length-spell f ∙ sym e))

-- the spaces of n groups fewer
pub indentation-next : (depth n : ℕ) → n < depth → indentation (depth - n) ≡ codes "  " ++ indentation (depth - (n + 1))
indentation-next depth n h =
    let e : depth - n ≡ suc (depth - (n + 1)) = omega arith in
    ap indentation e
