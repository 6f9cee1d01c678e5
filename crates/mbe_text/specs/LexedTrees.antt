-- How a text is divided into tokens, and the trees that the tokens make.
use Rattle.std.specs.Prelude.{◌≡◌, ⊤, ℕ, zero, suc, if◌then◌else◌, Bool, true, false, ◌&&◌, is_some}
use Rattle.std.specs.Prelude.{Option, Some, None, List, [], ◌∷◌, length, chars, Result, Ok, Err}
use Rattle.mbe_tt.specs.Buffers.GroupStack.{GroupStack, put, closed, innermost_kind}
use Rattle.mbe_tt.specs.Trees.Top.{Top}
use Rattle.mbe_tt.specs.Trees.Tree.{none, one_leaf, is_same_kind}
use Rattle.mbe_tt.specs.declared.span.Span.{Span}
use Rattle.mbe_tt.specs.declared.tt.DelimiterKind.{DelimiterKind}
use Rattle.mbe_text.specs.declared.dialect.Dialect.{Dialect}
use Rattle.mbe_text.specs.declared.dialect.Dialect.TheVariants.{Sample, Rust}
use Rattle.mbe_text.specs.declared.lexer.LexError.{LexError}
use Rattle.mbe_text.specs.declared.lexer.LexError.TheVariants as errors
use Rattle.mbe_text.specs.declared.scanner.LexFault.{LexFault}
use Rattle.mbe_text.specs.declared.scanner.SourceToken.{SourceToken}
use Rattle.mbe_text.specs.declared.fault_kind.LexFaultKind.TheVariants as fault_kind
use Rattle.mbe_text.specs.Characters.{offset}
use Rattle.mbe_text.specs.LexFaults.{fault_at}
use Rattle.mbe_text.specs.Trivia.{past_trivia, after_preamble}
use Rattle.mbe_text.specs.Shapes.{Shape, item_of}
use Rattle.mbe_text.specs.Dialect.{read_shape}
use Rattle.mbe_text.specs.Tokens.{TokenItem, leaf_item, trees_item, open_item, close_item}
use Rattle.mbe_text.specs.Tokens.{token_item, bytes_of, whole, ended}

-- a token, the text from its first character on, and what is left after it
pub record ScannedToken : Type 0 where
  pub shape : Shape
  pub from : List ℕ
  pub rest : List ℕ

-- what follows white space and comments: the next token, nothing at the end, or the fault
abbrev pub next_token : Dialect → ℕ → List ℕ → Result (Option ScannedToken) LexFault
next_token dialect total cs = elim (past_trivia dialect total (length cs) cs) [
  | Err fault ↦ Err fault
  | Ok [] ↦ Ok None
  | Ok (c ∷ from) ↦ elim (read_shape dialect total (c ∷ from)) [
    | Err fault ↦ Err fault
    | Ok read ↦ Ok (Some (record { shape = read.0; from = c ∷ from; rest = read.1 }))
  ]
]

-- the span of a token, and its item
abbrev pub scanned_span : ℕ → ℕ → ScannedToken → Span
scanned_span file total t = bytes_of file (offset total t.from) (offset total t.rest)

abbrev pub scanned_item : ℕ → ℕ → ScannedToken → TokenItem
scanned_item file total t = item_of (scanned_span file total t) t.shape

-- a call returned that token and left that rest
abbrev pub IsNext : ℕ → ℕ → Result (Option ScannedToken) LexFault
    → Result (Option SourceToken) LexFault → List ℕ → Type 0
IsNext file total next (Ok None) rest = (next ≡ Ok None) × (rest ≡ [])
IsNext file total next (Ok (Some t)) rest =
    (taken : ScannedToken) × (next ≡ Ok (Some taken))
    × (token_item t ≡ scanned_item file total taken) × (rest ≡ taken.rest)
IsNext file total next (Err fault) rest = next ≡ Err fault

-- ---- what the tokens make

-- the innermost open group is of that kind
abbrev pub is_inside : DelimiterKind → Option DelimiterKind → Bool
is_inside kind None = false
is_inside kind (Some inside) = is_same_kind inside kind

-- The open groups after a token, which is a leaf, a delimiter or whole trees. None for a closing
-- that isn't of the innermost group's kind.
abbrev pub after_item : TokenItem → GroupStack → Option GroupStack
after_item (leaf_item l) levels = Some (put (one_leaf l) levels)
after_item (trees_item span trees) levels = Some (put trees levels)
after_item (open_item kind span) levels =
    Some ((record { opening = span; close = span; kind = kind }, none) ∷ levels)
after_item (close_item kind span) levels =
    if is_inside kind (innermost_kind levels) then Some (closed span levels) else None

-- The open groups at the end, or the first fault: text that isn't a token, or a closing that
-- doesn't match. The third number bounds the steps: it is at least the number of bytes.
abbrev pub stack_of : Dialect → ℕ → ℕ → ℕ → GroupStack → List ℕ → Result GroupStack LexFault
stack_of dialect file total zero levels cs = Ok levels
stack_of dialect file total (suc n) levels cs = elim (next_token dialect total cs) [
  | Err fault ↦ Err fault
  | Ok None ↦ Ok levels
  | Ok (Some t) ↦ elim (after_item (scanned_item file total t) levels) [
    | None ↦ Err (fault_at fault_kind.Closing total t.from)
    | Some after ↦ stack_of dialect file total n after t.rest
  ]
]

-- the open groups at the end of a file's text, which is given as bytes
abbrev pub stack_at_end : Dialect → ℕ → List ℕ → Result GroupStack LexFault
stack_at_end dialect file text =
    stack_of dialect file (length text) (length text) (whole file (length text))
    (after_preamble dialect (length text) (chars text))

-- the dialect requires that each group is closed
abbrev pub closes_groups : Dialect → Bool
closes_groups Sample = false
closes_groups (Rust edition) = true

abbrev pub is_unclosed : Dialect → GroupStack → Bool
is_unclosed dialect levels = closes_groups dialect && is_some (innermost_kind levels)

-- the trees of a file's text, or the fault; groups that are open at the end are closed there
abbrev pub lexed_trees : Dialect → ℕ → List ℕ → Result Top LexFault
lexed_trees dialect file text = elim (stack_at_end dialect file text) [
  | Err fault ↦ Err fault
  | Ok levels ↦
      if is_unclosed dialect levels then Err
      (record { offset = length text; fault_kind = fault_kind.Open })
      else Ok (ended (bytes_of file (length text) (length text)) levels)
]

-- the trees, or only the byte offset of the fault
abbrev pub with_fault_offset : Result Top LexFault → Result Top ℕ
with_fault_offset (Ok trees) = Ok trees
with_fault_offset (Err fault) = Err fault.offset

-- the trees of a text of the sample dialect, or the byte offset of the fault
abbrev pub sample_trees : ℕ → List ℕ → Result Top ℕ
sample_trees file text = with_fault_offset (lexed_trees Sample file text)

-- a call returned that result, unless it was out of memory
abbrev pub Lexes : Result Top LexFault → Result Top LexError → Type 0
Lexes lexed (Ok trees) = lexed ≡ Ok trees
Lexes lexed (Err (errors.Fault fault)) = lexed ≡ Err fault
Lexes lexed (Err errors.OutOfMemory) = ⊤
