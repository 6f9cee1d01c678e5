-- What a step of a builder does to its entries.
use Rattle.std.proofs.Common.{◌≡◌, ℕ, ◌+◌, ◌-◌, ◌≤◌, ◌<◌, List, [], ◌∷◌, ◌++◌, length, take, drop, refl, ap, sym, Some}
use Rattle.std.proofs.Common.{◌∙◌, arith, length-append, append_assoc, set}
use Rattle.std.proofs.Math.Seq.{take-append_seam, drop-append_seam, set-append_seam}
use Rattle.mbe_tt.specs.declared.span.Span.{Span}
use Rattle.mbe_tt.specs.declared.tt.Subtree.{Subtree}
use Rattle.mbe_tt.specs.Buffers.OpensAt.{OpensAt}
use Rattle.mbe_tt.specs.Trees.Top.{top_of, top_group}
use Rattle.mbe_tt.specs.Trees.Tree.{Forest, none, group}
use Rattle.mbe_tt.specs.Views.BufferEntries.{spell, forest_of}
use Rattle.mbe_tt.specs.Buffers.GroupStack.{GroupStack, innermost_kind, flat_written, put, closed, stack_entries}
use Rattle.mbe_tt.specs.Buffers.GroupStack.{innermost_index, stack_of, levels_of-written, IsBuilder}
use Rattle.mbe_tt.specs.declared.tt.Delimiter.{Delimiter}
use Rattle.mbe_tt.specs.Views.BufferEntry.{Entry}
use Rattle.mbe_tt.specs.Views.BufferEntry.{Open, Close}
use Rattle.mbe_tt.proofs.Buffers.Spelled.{spell-append, length-spell, read_back}

pub levels_are : (b : GroupStack) (es : List Entry) → es ≡ stack_entries b → stack_of es ≡ b
levels_are b es e = ap stack_of e ∙ levels_of-written b

pub is_building : (b : GroupStack) (es : List Entry) (capacity offset count : ℕ) → es ≡ stack_entries b → offset
    ≡ innermost_index b
    → count ≡ length b → 0 < count
    → length es + count ≤ capacity → IsBuilder es capacity offset count
is_building b es capacity offset count e at depth some room =
    let l : b ≡ stack_of es = sym (levels_are b es e) in
    record {
      spelled = e ∙ ap stack_entries l;
      at = at ∙ ap innermost_index l;
      depth = depth
          ∙ ap length l;
      some = some;
      room = room;
    }

pub written-put : (b : GroupStack) (f : Forest) → 0 < length b → stack_entries (put f b) ≡ stack_entries b ++ spell f
written-put [] f h = absurd (omega arith)
written-put (g ∷ outer) f h =
    ap (λ (es : List Entry). stack_entries outer ++ Open (record { delimiter = g.0 }) (innermost_index outer) ∷ es)
    (spell-append g.1 f)
    ∙ sym (append_assoc (stack_entries outer) (Open (record { delimiter = g.0 }) (innermost_index outer)
    ∷ spell g.1) (spell f))

pub current-put : (b : GroupStack) (f : Forest) → innermost_index (put f b) ≡ innermost_index b
current-put [] f = refl
current-put (g ∷ outer) f = refl

pub length-put : (b : GroupStack) (f : Forest) → length (put f b) ≡ length b
length-put [] f = refl
length-put (g ∷ outer) f = refl

-- the builder's entries, once those of a forest are written after them
pub record Put (b : GroupStack) (f : Forest) (es : List Entry) (capacity offset count : ℕ) : Type 0 where
  pub levels : stack_of es ≡ put f b
  pub building : IsBuilder es capacity offset count

pub after_put : (old new : List Entry) (oldcap newcap offset count : ℕ) (f : Forest) → IsBuilder old oldcap offset count
    → new ≡ old ++ spell f
    → length new + count ≤ newcap → Put (stack_of old) f new newcap offset count
after_put old new oldcap newcap offset count f h e room =
    let b : GroupStack = stack_of old in
    let some : 0 < length b = omega (arith, h.some, h.depth) in
    let w : new ≡ stack_entries (put f b) = e ∙ (ap (λ (es : List Entry). es ++ spell f) h.spelled
    ∙ sym (written-put b f some)) in
    record {
      levels = levels_are (put f b) new w;
      building = is_building (put f b) new newcap offset count w (h.at ∙ sym (current-put b f))
          (h.depth ∙ sym (length-put b f)) h.some room;
    }

pub length-written : (b : GroupStack) → 0 < length b → length (stack_entries b) ≡ flat_written b + 1
length-written [] h = absurd (omega arith)
length-written (g ∷ []) h = omega (arith, length-spell g.1)
length-written (g ∷ (k ∷ outer)) h =
    omega (
      arith,
      length-spell g.1,
      length-written (k ∷ outer) (omega arith),
      length-append (stack_entries (k ∷ outer)) (Open (record { delimiter = g.0 }) (innermost_index (k ∷ outer))
          ∷ spell g.1),
    )

-- a new group at the end
pub record Opened (b : GroupStack) (d : Delimiter) (es : List Entry) (capacity offset count : ℕ) : Type 0 where
  pub levels : stack_of es ≡ (d, none) ∷ b
  pub building : IsBuilder es capacity offset count

pub after_open_group : (old new : List Entry) (oldcap newcap offset count : ℕ) (d : Delimiter)
    → IsBuilder old oldcap offset count
    → new ≡ old ++ Open (record { delimiter = d }) offset ∷ [] → length new + (count + 1) ≤ newcap
    → Opened (stack_of old) d new newcap (length old) (count + 1)
after_open_group old new oldcap newcap offset count d h e room =
    let b : GroupStack = stack_of old in
    let w : new ≡ stack_entries ((d, none) ∷ b) =
    e ∙ (ap (λ (es : List Entry). es ++ Open (record { delimiter = d }) offset ∷ []) h.spelled
    ∙ ap (λ (n : ℕ). stack_entries b ++ Open (record { delimiter = d }) n ∷ []) h.at) in
    record {
      levels = levels_are ((d, none) ∷ b) new w;
      building = is_building ((d, none) ∷ b) new newcap (length old) (count + 1) w (ap length h.spelled)
          (omega (arith, h.depth)) (omega arith) room;
    }

-- the entries once an opening has its length and its group is closed
pub finished : (before after old : List Entry) (s sub : Subtree) (n offset : ℕ) → old ≡ before ++ Open s n ∷ after
    → offset ≡ length before
    → set old offset (Open sub (length old - offset - 1)) ++ Close ∷ []
    ≡ before ++ Open sub (length after) ∷ (after ++ Close ∷ [])
finished before after old s sub n offset e at =
    let len : length old - offset - 1 ≡ length after =
    omega (arith, ap length e, length-append before (Open s n ∷ after)) in
    rw (len, e, at, set-append_seam before (Open s n) after (Open sub (length after)))
    (append_assoc before (Open sub (length after) ∷ after) (Close ∷ []))

pub opens_at : (b : GroupStack) (es : List Entry) (offset : ℕ) → es ≡ stack_entries b → offset ≡ innermost_index b
    → 0 < length b
    → (s : Subtree) × (n : ℕ) × OpensAt es offset s n
opens_at [] es offset e at h = absurd (omega arith)
opens_at (g ∷ outer) es offset e at h = (
  record { delimiter = g.0 },
  innermost_index outer,
  record
      { before = stack_entries outer; after = spell g.1; is = e; at = at },
)

back_of : {A : Type 0} (xs us ys vs : List A) → length xs ≡ length ys → xs ++ us ≡ ys ++ vs → us ≡ vs
back_of xs us ys vs h e =
    sym (drop-append_seam xs us) ∙ (ap (drop (length xs)) e
    ∙ (ap (λ (n : ℕ). drop n (ys ++ vs)) h ∙ drop-append_seam ys vs))

-- what is at an opening is what was written there
pub record IsOpening (g : Delimiter × Forest) (outer : GroupStack) (s : Subtree) (n : ℕ) : Type 0 where
  pub subtree : s ≡ record { delimiter = g.0 }
  pub link : n ≡ innermost_index outer

pub opening_is : (g : Delimiter × Forest) (outer : GroupStack) (es : List Entry) (offset : ℕ) (s : Subtree) (n : ℕ)
    → es ≡ stack_entries (g ∷ outer) → offset ≡ length (stack_entries outer)
    → OpensAt es offset s n → IsOpening g outer s n
opening_is g outer es offset s n e at o =
    let back : Open s n ∷ o.after ≡ Open (record { delimiter = g.0 }) (innermost_index outer) ∷ spell g.1 =
    back_of o.before _ (stack_entries outer) _ (sym o.at ∙ at) (sym o.is ∙ e) in
    record { subtree = cc; link = cc }

pub kind_here : (b : GroupStack) (es : List Entry) (offset : ℕ) (s : Subtree) (n : ℕ) → 1 < length b → es
    ≡ stack_entries b
    → offset ≡ innermost_index b → OpensAt es offset s n
    → Some s.delimiter.kind ≡ innermost_kind b
kind_here [] es offset s n h e at o = absurd (omega arith)
kind_here (g ∷ []) es offset s n h e at o = absurd (omega arith)
kind_here (g ∷ (k ∷ outer)) es offset s n h e at o =
    ap (λ (t : Subtree). Some t.delimiter.kind) (opening_is g (k ∷ outer) es offset s n e at o).subtree

-- the clause of `finish`
abbrev pub Finishes : List Entry → ℕ → Subtree → List Entry → Type 0
Finishes old offset sub new =
    (before after : List Entry) (s : Subtree) (n : ℕ) → old ≡ before ++ Open s n ∷ after → offset ≡ length before
    → new ≡ before ++ Open sub (length after) ∷ (after ++ Close ∷ [])

pub record IsClosed (b : GroupStack) (span : Span) (es : List Entry) (capacity offset count : ℕ) : Type 0 where
  pub levels : stack_of es ≡ closed span b
  pub building : IsBuilder es capacity offset count

after_close : (b : GroupStack) (old new : List Entry) (newcap offset count : ℕ) (s : Subtree) (n : ℕ) (span : Span)
    → 1 < length b → old ≡ stack_entries b → offset ≡ innermost_index b
    → count ≡ length b → OpensAt old offset s n
    → Finishes old offset (record { delimiter = record s.delimiter { close = span } }) new
    → length new + (count - 1) ≤ newcap
    → IsClosed b span new newcap n (count - 1)
after_close [] old new newcap offset count s n span h e at depth o f room = absurd (omega arith)
after_close (g ∷ []) old new newcap offset count s n span h e at depth o f room = absurd (omega arith)
after_close (g ∷ (k ∷ outer)) old new newcap offset count s n span h e at depth o f room =
    let is = opening_is g (k ∷ outer) old offset s n e at o in
    let d : Delimiter = record g.0 { close = span } in
    let whole : GroupStack = put (group d g.1 none) (k ∷ outer) in
    let w : new ≡ stack_entries whole =
    f (stack_entries (k ∷ outer)) (spell g.1) (record { delimiter = g.0 }) (innermost_index (k ∷ outer)) e at
    ∙ (ap (λ (t : Subtree). stack_entries (k ∷ outer)
    ++ Open (record { delimiter = record t.delimiter { close = span } }) (length (spell g.1))
    ∷ (spell g.1 ++ Close ∷ [])) is.subtree
    ∙ (ap (λ (m : ℕ). stack_entries (k ∷ outer) ++ Open (record { delimiter = d }) m ∷ (spell g.1 ++ Close ∷ []))
    (length-spell g.1)
    ∙ sym (written-put (k ∷ outer) (group d g.1 none) (omega arith)))) in
    record {
      levels = levels_are whole new w;
      building = is_building whole new newcap n (count - 1) w is.link (omega (arith, depth)) (omega (arith, depth))
          room;
    }

pub record IsBuilt (b : GroupStack) (es : List Entry) : Type 0 where
  pub spelled : es ≡ spell (top_group (top_of (forest_of es)))
  pub is : b ≡ top_of (forest_of es) ∷ []

pub after_build : (b : GroupStack) (old new : List Entry) (s : Subtree) (n : ℕ) → length b ≡ 1 → old ≡ stack_entries b
    → OpensAt old 0 s n → Finishes old 0 s new → IsBuilt b new
after_build [] old new s n h e o f = absurd (omega arith)
after_build (g ∷ []) old new s n h e o f =
    let is = opening_is g [] old 0 s n e refl o in
    let w : new ≡ spell (top_group g) =
    f [] (spell g.1) (record { delimiter = g.0 }) 0 e refl
    ∙ (ap (λ (t : Subtree). Open t (length (spell g.1)) ∷ (spell g.1 ++ Close ∷ [])) is.subtree
    ∙ ap (λ (m : ℕ). Open (record { delimiter = g.0 }) m ∷ (spell g.1 ++ Close ∷ [])) (length-spell g.1)) in
    let t : g ≡ top_of (forest_of new) = ap top_of (sym (read_back (top_group g) new w)) in
    record {
      spelled = w ∙ ap (λ (x : Delimiter × Forest). spell (top_group x)) t;
      is = ap (λ (x : Delimiter × Forest). x ∷ []) t;
    }
after_build (g ∷ (k ∷ outer)) old new s n h e o f = absurd (omega arith)

-- the first flat tokens
pub record IsKept (kept : GroupStack) (es : List Entry) (capacity offset count : ℕ) : Type 0 where
  pub levels : stack_of es ≡ kept
  pub building : IsBuilder es capacity offset count

pub point_fits : (kept : GroupStack) (f : Forest) (old : List Entry) → 0 < length kept → old
    ≡ stack_entries (put f kept)
    → flat_written kept + 1 ≤ length old
point_fits kept f old h e =
    omega (
      arith,
      ap length (e ∙ written-put kept f h),
      length-append (stack_entries kept) (spell f),
      length-written
          kept h,
    )

pub after_restore : (kept : GroupStack) (f : Forest) (old new : List Entry) (oldcap newcap offset count point : ℕ)
    → stack_of old ≡ put f kept → IsBuilder old oldcap offset count
    → flat_written kept ≡ point → new ≡ take (point + 1) old → oldcap ≡ newcap → IsKept kept new newcap offset count
after_restore kept f old new oldcap newcap offset count point l h p e cap =
    let some : 0 < length kept = omega (arith, h.some, h.depth, ap length l, length-put kept f) in
    let was : old ≡ stack_entries kept ++ spell f = h.spelled ∙ (ap stack_entries l ∙ written-put kept f some) in
    let n : point + 1 ≡ length (stack_entries kept) = omega (arith, length-written kept some) in
    let w : new ≡ stack_entries kept = e ∙ (ap (λ (m : ℕ). take m old) n
    ∙ (ap (take (length (stack_entries kept))) was ∙ take-append_seam (stack_entries kept) (spell f))) in
    record {
      levels = levels_are kept new w;
      building = is_building kept new newcap offset count w (h.at ∙ (ap innermost_index l ∙ current-put kept f))
          (h.depth ∙ (ap length l ∙ length-put kept f)) h.some
          (omega (arith, h.room, ap length was, ap length w, length-append (stack_entries kept) (spell f)));
    }

pub opens_at_first : (b : GroupStack) (es : List Entry) → es ≡ stack_entries b → length b ≡ 1
    → (s : Subtree) × (n : ℕ) × OpensAt es 0 s n
opens_at_first [] es e h = absurd (omega arith)
opens_at_first (g ∷ []) es e h = opens_at (g ∷ []) es 0 e refl (omega arith)
opens_at_first (g ∷ (k ∷ outer)) es e h = absurd (omega arith)

finish_len : (old new : List Entry) (offset : ℕ) (s sub : Subtree) (n : ℕ) → OpensAt old offset s n
    → Finishes old offset sub new → length new ≡ length old + 1
finish_len old new offset s sub n o f =
    omega (
      arith,
      ap length (f o.before o.after s n o.is o.at),
      ap length o.is,
      length-append o.before (Open s n ∷ o.after),
      length-append o.before (Open sub (length o.after) ∷ (o.after ++ Close ∷ [])),
      length-append o.after (Close ∷ []),
    )

-- the innermost group is closed, where there is room
pub closed_after : (old new : List Entry) (capacity newcap offset count : ℕ) (s : Subtree) (n : ℕ) (span : Span)
    → 1 < length (stack_of old) → IsBuilder old capacity offset count → OpensAt old offset s n
    → Finishes old offset (record { delimiter = record s.delimiter { close = span } }) new → capacity ≤ newcap
    → IsClosed (stack_of old) span new newcap n (count - 1)
closed_after old new capacity newcap offset count s n span more b o f grown =
    let room : length new + (count - 1) ≤ newcap =
    omega (arith, b.room, b.some, grown, finish_len old new offset s _ n o f) in
    after_close (stack_of old) old new newcap offset count s n span more b.spelled b.at b.depth o f room
