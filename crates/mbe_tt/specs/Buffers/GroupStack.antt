-- What a builder has written: the groups that are open, innermost first, each with its trees so
-- far.
use Rattle.std.specs.Prelude.{◌≡◌, ℕ, ◌+◌, ◌<◌, ◌≤◌, List, [], ◌∷◌, ◌++◌, length, refl, Option}
use Rattle.std.specs.Prelude.{Some, None}
use Rattle.std.proofs.Common.{ap, sym, ◌∙◌, append_assoc, append-nil}
use Rattle.std.specs.Coded.{Coded, code_by}
use Rattle.mbe_tt.specs.Trees.Tree.{Forest, none, group, append, flat_len, unwrapped}
use Rattle.mbe_tt.specs.Views.BufferEntries.{spell, parse_entries, ParsedEntries, open_at}
use Rattle.mbe_tt.specs.Views.BufferEntries.{append-none, read-spell, entries_code}
use Rattle.mbe_tt.specs.declared.span.Span.{Span}
use Rattle.mbe_tt.specs.declared.tt.Delimiter.{Delimiter}
use Rattle.mbe_tt.specs.declared.tt.DelimiterKind.{DelimiterKind}
use Rattle.mbe_tt.specs.Views.BufferEntry.{Entry}
use Rattle.mbe_tt.specs.Views.BufferEntry.{Open}

-- the open groups, innermost first, each with its delimiter and its trees so far
abbrev pub GroupStack : Type 0
GroupStack = List (Delimiter × Forest)

-- the open groups with these trees added to the innermost one
abbrev pub put : Forest → GroupStack → GroupStack
put f [] = []
put f (g ∷ outer) = (g.0, append g.1 f) ∷ outer

-- the open groups with the innermost one's last tree replaced by its content, if that tree is an
-- invisible group
abbrev pub unwrap_last : GroupStack → GroupStack
unwrap_last [] = []
unwrap_last (g ∷ outer) = (g.0, unwrapped g.1) ∷ outer

-- the kind of the innermost open group, unless that is the outermost one
abbrev pub innermost_kind : GroupStack → Option DelimiterKind
innermost_kind [] = None
innermost_kind (g ∷ []) = None
innermost_kind (g ∷ (h ∷ outer)) = Some g.0.kind

-- a closed group, added to the innermost of the groups around it
abbrev pub close_into : Delimiter → Forest → Span → GroupStack → GroupStack
close_into d inside span outer = put (group (record d { close = span }) inside none) outer

-- the open groups after the innermost one is closed
abbrev pub closed : Span → GroupStack → GroupStack
closed span [] = []
closed span (g ∷ outer) = close_into g.0 g.1 span outer

-- the number of flat tokens, without the opening of the outermost group
abbrev pub flat_written : GroupStack → ℕ
flat_written [] = 0
flat_written (g ∷ []) = flat_len g.1
flat_written (g ∷ (h ∷ outer)) = flat_written (h ∷ outer) + 1 + flat_len g.1

-- `kept` is an earlier state of what was written: with that many flat tokens, and with the groups
-- open that are open now
abbrev pub IsEarlier : GroupStack → ℕ → GroupStack → Type 0
IsEarlier now point kept = (since : Forest) × (now ≡ put since kept) × (flat_written kept ≡ point)

-- The entries that a builder holds. An open group's opening has the index of the opening of the
-- group around it.
abbrev mutual
  pub stack_entries : GroupStack → List Entry
  stack_entries [] = []
  stack_entries (g ∷ outer) = stack_entries outer
      ++ Open (record { delimiter = g.0 }) (innermost_index outer) ∷ spell g.1

  pub innermost_index : GroupStack → ℕ
  innermost_index [] = 0
  innermost_index (g ∷ outer) = length (stack_entries outer)

-- the first list in reverse, then the second
abbrev pub reverse_onto : {A : Type 0} → List A → List A → List A
reverse_onto [] ys = ys
reverse_onto (x ∷ xs) ys = reverse_onto xs (x ∷ ys)

-- the open groups that the entries stand for
abbrev pub stack_of : List Entry → GroupStack
stack_of es = reverse_onto (parse_entries es).unclosed []

onto-onto : {A : Type 0} (xs ys zs : List A) → reverse_onto (reverse_onto xs ys) zs
    ≡ reverse_onto ys (xs ++ zs)
onto-onto [] ys zs = refl
onto-onto (x ∷ xs) ys zs = onto-onto xs (x ∷ ys) zs

-- the entries close no group that they didn't open, and stand for no tree outside the unclosed
-- groups
pub record Closes (es : List Entry) : Type 0 where
  pub around : (parse_entries es).around ≡ []
  pub level : (parse_entries es).level ≡ none

read-written : (b : GroupStack) (es : List Entry) → Closes es
    → (parse_entries (stack_entries b ++ es)).unclosed ≡ reverse_onto b (parse_entries es).unclosed
read-written [] es h = refl
read-written (g ∷ outer) es h =
    let tail : List Entry = Open (record { delimiter = g.0 }) (innermost_index outer)
    ∷ (spell g.1 ++ es) in
    let reads : parse_entries tail
    ≡ record { level = none; around = []; unclosed = g ∷ (parse_entries es).unclosed } =
    ap (λ (r : ParsedEntries). open_at (record { delimiter = g.0 }) r.level r.around r.unclosed)
    (read-spell g.1 es)
    ∙ (ap (λ (a : List Forest). open_at (record { delimiter = g.0 })
    (append g.1 (parse_entries es).level) a (parse_entries es).unclosed)
    h.around
    ∙ (ap (λ (f : Forest). let r : ParsedEntries =
    record {
      level = none;
      around = [];
      unclosed = (g.0, append g.1 f)
          ∷ (parse_entries es).unclosed;
    } in r) h.level
    ∙ ap (λ (f : Forest). let r : ParsedEntries =
    record { level = none; around = []; unclosed = (g.0, f) ∷ (parse_entries es).unclosed } in r)
    (append-none g.1))) in
    let closes : Closes tail = record {
      around = ap (λ (r : ParsedEntries). r.around) reads;
      level = ap (λ (r : ParsedEntries). r.level) reads;
    } in
    ap (λ (x : List Entry). (parse_entries x).unclosed)
    (append_assoc (stack_entries outer) (Open (record { delimiter = g.0 }) (innermost_index outer)
    ∷ spell g.1) es)
    ∙ (read-written outer tail closes
    ∙ ap (λ (r : ParsedEntries). reverse_onto outer r.unclosed) reads)

pub levels_of-written : (b : GroupStack) → stack_of (stack_entries b) ≡ b
levels_of-written b =
    ap stack_of (sym (append-nil (stack_entries b)))
    ∙ (ap (λ (u : GroupStack). reverse_onto u [])
    (read-written b [] (record { around = refl; level = refl }))
    ∙ (onto-onto b [] [] ∙ append-nil b))

-- the code that decides the equality of what builders show
abbrev pub stack_code : Coded GroupStack
stack_code = code_by (List Entry) entries_code stack_entries stack_of levels_of-written

-- the invariant of a builder's entries and its two numbers
pub record IsBuilder (entries : List Entry) (capacity offset count : ℕ) : Type 0 where
  pub spelled : entries ≡ stack_entries (stack_of entries)
  pub at : offset ≡ innermost_index (stack_of entries)
  pub depth : count ≡ length (stack_of entries)
  pub some : 0 < count
  pub room : length entries + count ≤ capacity
