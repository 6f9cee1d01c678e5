-- What a builder has once the last tree's content is in its place.
use Rattle.std.proofs.Common.{◌≡◌, ℕ, ◌+◌, ◌-◌, ◌≤◌, ◌<◌, List, [], ◌∷◌, ◌++◌, length, take, drop, refl, ap, sym, ◌∙◌}
use Rattle.std.proofs.Common.{arith, length-append, append_assoc}
use Rattle.std.proofs.Math.Seq.{take-append_seam, drop-append_seam}
use Rattle.mbe_tt.specs.Trees.Tree.{Forest, none, group, append, flat_len, unwrapped}
use Rattle.mbe_tt.specs.Views.BufferEntries.{spell}
use Rattle.mbe_tt.specs.Views.BufferEntry.{Entry, Open, Close}
use Rattle.mbe_tt.specs.Buffers.GroupStack.{GroupStack, stack_entries, innermost_index, stack_of, IsBuilder}
use Rattle.mbe_tt.specs.Buffers.GroupStack.{unwrap_last}
use Rattle.mbe_tt.proofs.Buffers.Spelled.{spell-append, length-spell, take_front}
use Rattle.mbe_tt.proofs.Buffers.Built.{levels_are, is_building}
use Rattle.mbe_tt.proofs.Offsets.LastTreeLemmas.{EndsInvisible}

abbrev with_inside : Forest → GroupStack → GroupStack
with_inside f [] = []
with_inside f (g ∷ outer) = (g.0, f) ∷ outer

-- the innermost group
pub record Innermost (b : GroupStack) (old : List Entry) (offset : ℕ) : Type 0 where
  pub before : List Entry
  pub opening : Entry
  pub inside : Forest
  pub is : old ≡ before ++ opening ∷ spell inside
  pub at : offset ≡ length before
  pub again : (f : Forest) → stack_entries (with_inside f b) ≡ before ++ opening ∷ spell f
  pub unwraps : unwrap_last b ≡ with_inside (unwrapped inside) b
  pub itself : b ≡ with_inside inside b

pub innermost : (b : GroupStack) (old : List Entry) (offset : ℕ) → old ≡ stack_entries b → offset ≡ innermost_index b
    → 0 < length b
    → Innermost b old offset
innermost [] old offset e at some = absurd (omega arith)
innermost (g ∷ outer) old offset e at some =
    record {
      before = stack_entries outer;
      opening = Open (record { delimiter = g.0 }) (innermost_index outer);
      inside = g.1;
      is = e;
      at = at;
      again = λ f. refl;
      unwraps = refl;
      itself = refl;
    }

pub place_fits : (b : GroupStack) (old : List Entry) (offset : ℕ) (m : Innermost b old offset) → offset + 1 ≤ length old
place_fits b old offset m = omega (arith, m.at, ap length m.is, length-append m.before (m.opening ∷ spell m.inside))

pub inside_is : (b : GroupStack) (old : List Entry) (offset : ℕ) (m : Innermost b old offset)
    → drop (offset + 1) old ≡ spell m.inside
inside_is b old offset m =
    let n : offset + 1 ≡ length (m.before ++ m.opening ∷ []) =
    omega (arith, m.at, length-append m.before (m.opening ∷ [])) in
    ap (λ (k : ℕ). drop k old) n
    ∙ (ap (drop (length (m.before ++ m.opening ∷ [])))
    (m.is ∙ sym (append_assoc m.before (m.opening ∷ []) (spell m.inside)))
    ∙ drop-append_seam (m.before ++ m.opening ∷ []) (spell m.inside))

-- the entries around the last group
pub record Around (b : GroupStack) (old : List Entry) (offset n : ℕ) (m : Innermost b old offset)
    (h : EndsInvisible m.inside n) : Type 0 where
  pub front : List Entry
  pub is : old ≡ front ++ Open (record { delimiter = h.delimiter }) (flat_len h.inside) ∷ (spell h.inside ++ Close ∷ [])
  pub at : offset + 1 + n ≡ length front
  pub then : front ++ spell h.inside ≡ stack_entries (unwrap_last b)

pub around : (b : GroupStack) (old : List Entry) (offset n : ℕ) (m : Innermost b old offset)
    (h : EndsInvisible m.inside n)
    → Around b old offset n m h
around b old offset n m h =
    record {
      front = m.before ++ m.opening ∷ spell h.before;
      is = m.is ∙ (ap (λ (f : Forest). m.before ++ m.opening ∷ spell f) h.is
          ∙ (ap (λ (es : List Entry). m.before ++ m.opening ∷ es)
          (spell-append h.before (group h.delimiter h.inside none))
          ∙ sym (append_assoc m.before (m.opening ∷ spell h.before)
          (Open (record { delimiter = h.delimiter }) (flat_len h.inside) ∷ (spell h.inside ++ Close ∷ [])))));
      at = omega (arith, m.at, h.offset, length-spell h.before, length-append m.before (m.opening ∷ spell h.before));
      then = append_assoc m.before (m.opening ∷ spell h.before) (spell h.inside)
          ∙ (ap (λ (es : List Entry). m.before ++ m.opening ∷ es) (sym (spell-append h.before h.inside))
          ∙ (sym (m.again (append h.before h.inside))
          ∙ (ap (λ (f : Forest). stack_entries (with_inside f b)) (sym h.unwrapped_is)
          ∙ ap stack_entries (sym m.unwraps))));
    }

pub group_fits : (b : GroupStack) (old : List Entry) (offset n : ℕ) (m : Innermost b old offset)
    (h : EndsInvisible m.inside n) → offset + 1 + n + 1 < length old
group_fits b old offset n m h =
    let a = around b old offset n m h in
    omega (
      arith,
      a.at,
      ap length a.is,
      length-append a.front (Open (record { delimiter = h.delimiter }) (flat_len h.inside)
          ∷ (spell h.inside ++ Close ∷ [])),
      length-append (spell h.inside) (Close ∷ []),
    )

-- the opening at that place and the closing at the end taken out
abbrev pub taken_out_from : List Entry → ℕ → ℕ → List Entry
taken_out_from es len offset = take offset (take (len - 1) es) ++ drop (offset + 1) (take (len - 1) es)

abbrev pub taken_out : List Entry → ℕ → List Entry
taken_out es offset = taken_out_from es (length es) offset

taken_out-at : (front inside : List Entry) (o : Entry) (old : List Entry) (offset : ℕ)
    → old ≡ front ++ o ∷ (inside ++ Close ∷ []) → offset ≡ length front
    → taken_out old offset ≡ front ++ inside
taken_out-at front inside o old offset e at =
    let short : List Entry = front ++ o ∷ inside in
    let n : length old - 1 ≡ length short =
    omega (
      arith,
      ap length e,
      length-append front (o ∷ (inside ++ Close ∷ [])),
      length-append inside (Close ∷ []),
      length-append front (o ∷ inside),
    ) in
    let t : take (length old - 1) old ≡ short =
    take_front (length old - 1) short (Close ∷ []) old n (e ∙ sym (append_assoc front (o ∷ inside) (Close ∷ []))) in
    let d : offset + 1 ≡ length (front ++ o ∷ []) = omega (arith, length-append front (o ∷ [])) in
    ap (λ (es : List Entry). take offset es ++ drop (offset + 1) es) t
    ∙ (ap (λ (es : List Entry). es ++ drop (offset + 1) short)
    (ap (λ (k : ℕ). take k short) at ∙ take-append_seam front (o ∷ inside))
    ∙ ap (λ (es : List Entry). front ++ es)
    (ap (λ (k : ℕ). drop k short) d
    ∙ (ap (drop (length (front ++ o ∷ []))) (sym (append_assoc front (o ∷ []) inside))
    ∙ drop-append_seam (front ++ o ∷ []) inside)))

pub record IsUnwrapped (b : GroupStack) (es : List Entry) (capacity offset count : ℕ) : Type 0 where
  pub levels : stack_of es ≡ unwrap_last b
  pub building : IsBuilder es capacity offset count

current_same : (b : GroupStack) → innermost_index (unwrap_last b) ≡ innermost_index b
current_same [] = refl
current_same (g ∷ outer) = refl

length_same : (b : GroupStack) → length (unwrap_last b) ≡ length b
length_same [] = refl
length_same (g ∷ outer) = refl

pub after_unwrap : (b : GroupStack) (old new : List Entry) (oldcap newcap offset count n : ℕ)
    (m : Innermost b old offset)
    (h : EndsInvisible m.inside n)
    → stack_of old ≡ b → IsBuilder old oldcap offset count → new ≡ taken_out old (offset + 1 + n) → newcap ≡ oldcap
    → IsUnwrapped b new newcap offset count
after_unwrap b old new oldcap newcap offset count n m h l building e cap =
    let a = around b old offset n m h in
    let w : new ≡ stack_entries (unwrap_last b) =
    e ∙ (taken_out-at a.front (spell h.inside) (Open (record { delimiter = h.delimiter }) (flat_len h.inside)) old
    (offset + 1 + n) a.is a.at ∙ a.then) in
    let shorter : length new ≤ length old =
    omega (
      arith,
      ap length (w ∙ sym a.then),
      ap length a.is,
      length-append a.front (spell h.inside),
      length-append (spell h.inside) (Close ∷ []),
      length-append a.front (Open (record { delimiter = h.delimiter }) (flat_len h.inside)
          ∷ (spell h.inside ++ Close ∷ [])),
    ) in
    record {
      levels = levels_are (unwrap_last b) new w;
      building = is_building (unwrap_last b) new newcap offset count w
          (building.at ∙ (ap innermost_index l ∙ sym (current_same b))) (building.depth ∙ (ap length l
          ∙ sym (length_same b)))
          building.some (omega (arith, building.room));
    }

pub not_unwrapped : (b : GroupStack) (old : List Entry) (offset : ℕ) (m : Innermost b old offset)
    → unwrapped m.inside ≡ m.inside → b ≡ unwrap_last b
not_unwrapped b old offset m e = m.itself ∙ (ap (λ (f : Forest). with_inside f b) (sym e) ∙ sym m.unwraps)
