-- Answers: statuses and parts as numbers, the messages for faults, and the answer to each failure.
use Rattle.std.specs.Prelude.{ℕ, ⊤, ◌≡◌, ◌≤◌, ◌^◌, ◌⊎◌, List, [], length, codes, IsUtf8, Option}
use Rattle.std.specs.Prelude.{None, Err}
use Rattle.std.specs.String.{string_bytes}
use Rattle.mbe_tt.specs.declared.span.Span.{Span}
use Rattle.mbe_text.specs.Tokens.{bytes_of}
use Rattle.mbe_text.specs.declared.scanner.LexFault.{LexFault}
use Rattle.mbe_grammar.specs.declared.peg.peg_error.PegLocation.{PegLocation}
use Rattle.mbe_grammar.specs.declared.peg.peg_error.PegErrorKind.{PegErrorKind}
use Rattle.mbe_grammar.specs.declared.peg.peg_error.PegError.{PegError}
use Rattle.mbe_grammar.specs.declared.peg.peg_error.PegError.TheVariants as rule_faults
use Rattle.mbe_grammar.specs.Peg.Grammar.{read_text}
use Rattle.mbe_semantics.specs.Syntax.Template.{Fault}
use Rattle.mbe_semantics.specs.Expansion.Error.{text_of_fault}
use Rattle.mbe_ops.specs.Errors.ErrorViews.{parse_error_of}
use Rattle.mbe_program.specs.declared.replies.flat.flat_token.FlatToken.{FlatToken}
use Rattle.mbe_program.specs.declared.replies.flat.decoder.FlatError.{FlatError}
use Rattle.mbe_program.specs.declared.replies.flat.decoder.FlatError.TheVariants as flat_errors
use Rattle.mbe_program.specs.declared.replies.flat.decoder.FlatFault.{FlatFault}
use Rattle.mbe_program.specs.declared.replies.flat.decoder.FlatFault.TheVariants as fault_kind
use Rattle.mbe_program.specs.declared.replies.answer.Answer as given
use Rattle.mbe_program.specs.declared.replies.answer.Status.{Status}
use Rattle.mbe_program.specs.declared.replies.answer.Status.TheVariants.{Done, Faulted, Refused}
use Rattle.mbe_program.specs.declared.replies.answer.Status.TheVariants.{Number, Utf8, TooLong}
use Rattle.mbe_program.specs.declared.replies.answer.Status.TheVariants.{NoTokens, NoTrees}
use Rattle.mbe_program.specs.declared.replies.answer.Status.TheVariants.{NoGrammar, OutOfMemory}
use Rattle.mbe_program.specs.declared.replies.answer.Status.TheVariants.{NoRoom, NoMacro, HasMacro}
use Rattle.mbe_program.specs.declared.replies.answer.RequestPart.{RequestPart}
use Rattle.mbe_program.specs.declared.replies.answer.RequestPart.TheVariants as parts
use Rattle.mbe_program.specs.declared.tree_expansion.DefinitionError.{DefinitionError}
use Rattle.mbe_program.specs.declared.tree_expansion.DefinitionError.TheVariants as unread

abbrev pub status_number : Status → ℕ
status_number Done = 0
status_number Faulted = 1
status_number Refused = 2
status_number Number = 3
status_number Utf8 = 4
status_number TooLong = 5
status_number NoTokens = 6
status_number NoTrees = 7
status_number NoGrammar = 8
status_number OutOfMemory = 9
status_number NoRoom = 10
status_number NoMacro = 12
status_number HasMacro = 13

abbrev pub part_number : RequestPart → ℕ
part_number parts.None = 0
part_number parts.Definition = 1
part_number parts.Argument = 2
part_number parts.Grammar = 3

abbrev pub fault_text : FlatFault → List ℕ
fault_text fault_kind.Kind = codes "a token of no kind"
fault_text fault_kind.Sort = codes "a token of no sort"
fault_text fault_kind.Character = codes "a punct that is no char"
fault_text fault_kind.Count = codes "a literal with a number above 255"
fault_text fault_kind.Range = codes "a text that is out of bounds"
fault_text fault_kind.Utf8 = codes "a text that is not UTF-8"
fault_text fault_kind.Closing = codes "a closing without its opening"
fault_text fault_kind.Whole = codes "tokens that are not one group"
fault_text fault_kind.Open = codes "a group that is not closed"

-- ---- answers

-- What an answer holds, in any allocator.
pub record Answer : Type 0 where
  pub status : Status
  pub part : RequestPart
  pub place : ℕ
  pub column : ℕ
  pub rule : Option ℕ
  pub span : Span
  pub tokens : List FlatToken
  pub text : List ℕ
  pub message : List ℕ

abbrev pub answer_of : {A : Type 0} → given.Answer A → Answer
answer_of a = record {
  status = a.status;
  part = a.part;
  place = a.place;
  column = a.column;
  rule = a.rule;
  span = a.span;
  tokens = a.tokens.items;
  text = a.text.items;
  message = string_bytes a.message;
}

-- A status and a part, and nothing else.
abbrev pub empty : Status → RequestPart → Answer
empty status part = record {
  status = status;
  part = part;
  place = 0;
  column = 0;
  rule = None;
  span = bytes_of 0 0 0;
  tokens = [];
  text = [];
  message = [];
}

-- ---- failures

abbrev pub IsOutOfMemory : Answer → Type 0
IsOutOfMemory a = a ≡ empty OutOfMemory a.part

-- The answer satisfies `Is`, or says that memory ran out.
abbrev pub OrOutOfMemory : (Answer → Type 0) → Answer → Type 0
OrOutOfMemory Is a = Is a ⊎ IsOutOfMemory a

-- The text of that part can't be lexed, for that fault. The message is that of `mbe_text` for the
-- fault; it is not specified here.
abbrev pub IsUnlexed : RequestPart → LexFault → Answer → Type 0
IsUnlexed part fault a =
    a ≡ record (empty NoTokens part) { place = fault.offset; message = a.message }

-- The flat tokens of that part aren't trees: the token of that index has that fault.
abbrev pub AreInvalidTokens : RequestPart → ℕ → FlatFault → Answer → Type 0
AreInvalidTokens part index fault_kind a =
    a ≡ record (empty NoTrees part) { place = index; message = fault_text fault_kind }

abbrev pub AreInvalidTokensBy : RequestPart → FlatError → Answer → Type 0
AreInvalidTokensBy part (flat_errors.Fault index fault_kind) a =
    OrOutOfMemory (AreInvalidTokens part index fault_kind) a
AreInvalidTokensBy part flat_errors.OutOfMemory a = IsOutOfMemory a

-- The text of a grammar has a fault at that place. The message is that of `mbe_grammar::peg` for
-- the reason; it is not specified here.
abbrev pub IsInvalidGrammar : PegLocation → Answer → Type 0
IsInvalidGrammar place a = a ≡ record (empty NoGrammar parts.Grammar) {
  place = place.line;
  column = place.column;
  message = a.message;
}

abbrev pub IsInvalidGrammarBy : PegError → Answer → Type 0
IsInvalidGrammarBy (rule_faults.At place reason) a = OrOutOfMemory (IsInvalidGrammar place) a
IsInvalidGrammarBy rule_faults.OutOfMemory a = IsOutOfMemory a

-- The definition has that fault.
abbrev pub IsRefusal : Fault → Answer → Type 0
IsRefusal fault a = a ≡ record (empty Refused parts.Definition) { message = text_of_fault fault }

abbrev pub IsUnreadBy : {A : Type 0} → DefinitionError A → Answer → Type 0
IsUnreadBy (unread.Refused error) a = OrOutOfMemory (IsRefusal (parse_error_of error)) a
IsUnreadBy unread.OutOfMemory a = IsOutOfMemory a

-- The answer says that the bytes of that part are 2^32 or more, or aren't UTF-8.
pub data IsNoText (part : RequestPart) (text : List ℕ) (a : Answer) : Type 0 where
  too_long : 2 ^ 32 ≤ length text → a ≡ empty TooLong part → IsNoText part text a
  not_utf8 : ¬ (IsUtf8 text) → a ≡ empty Utf8 part → IsNoText part text a

-- The answer says why the bytes are not the text of a grammar, or that memory ran out.
pub data IsNoGrammar (text : List ℕ) (a : Answer) : Type 0 where
  no_text_of_grammar : IsNoText parts.Grammar text a → IsNoGrammar text a
  fault_in_grammar : (place : PegLocation) (reason : PegErrorKind) → read_text text
      ≡ Err (rule_faults.At place reason)
      → IsInvalidGrammar place a → IsNoGrammar text a
  no_memory_for_grammar : IsOutOfMemory a → IsNoGrammar text a
