-- What the functions of the transcriber add to the builder.
use Rattle.std.specs.Prelude.{◌≡◌, ℕ, Bool, true, false, List, length, Option, Some, None}
use Rattle.mbe_tt.specs.declared.span.Span.{Span}
use Rattle.mbe_tt.specs.declared.tt.Punct.{Punct}
use Rattle.mbe_tt.specs.Trees.Leaf.{Literal, Ident, literal, ident}
use Rattle.mbe_tt.specs.Grammars.Grammar.{Grammar}
use Rattle.mbe_tt.specs.Trees.Tree.{Forest, one_leaf}
use Rattle.mbe_tt.specs.Buffers.GroupStack.{GroupStack, put}
use Rattle.mbe_semantics.specs.Syntax.Op.{Name, Separator, Op, Ops}
use Rattle.mbe_semantics.specs.Bindings.Environment.{Environment, value_of}
use Rattle.mbe_variables.specs.FragmentWriter.{Appends}
use Rattle.mbe_semantics.specs.Transcription.Rounds.{Path, followed, level}
use Rattle.mbe_semantics.specs.Transcription.Substitution.{AreMarkedPuncts, Writes, Substitutes}
use Rattle.mbe_semantics.specs.Transcription.Substitution.{AreRounds, IsVariable, IsConcat}
use Rattle.mbe_semantics.specs.Transcription.Substitution.{separator_trees, integer}

-- The result of a function that writes: whether it returned a fault, and what it wrote if there is
-- none. The open groups stay open.
pub record Wrote (fault faulty : Bool) (P : Forest → Type 0) (old new : GroupStack) : Type 0 where
  pub reported : fault ≡ faulty
  pub groups : length new ≡ length old
  pub written : faulty ≡ false → Appends P old new

-- the separator if the flag is set, and else nothing
abbrev pub IsSeparated : Option Separator → Bool → GroupStack → GroupStack → Type 0
IsSeparated separator true old new = new ≡ put (separator_trees separator) old
IsSeparated separator false old new = new ≡ old

-- an integer of that number
unfoldable pub IsNumber : ℕ → Span → Forest → Type 0
IsNumber n span out = out ≡ integer n span

-- the joined texts of all elements, or a fault if one of them has no text
abbrev pub IsJoined : List ℕ → Bool → Option (List ℕ) → Type 0
IsJoined text fault None = fault ≡ true
IsJoined text fault (Some joined) = (fault ≡ false) × (text ≡ joined)

-- `Marks s t`: the marker may return t for s
module _ (Marks : Span → Span → Type 0) where
  -- the same literal with a marked span
  unfoldable pub IsMarkedLiteral : Literal → Forest → Type 0
  IsMarkedLiteral l out = (marked : Span) × Marks l.span marked
      × (out ≡ one_leaf (literal (record l { span = marked })))

  -- the same identifier with a marked span
  unfoldable pub IsMarkedIdent : Ident → Forest → Type 0
  IsMarkedIdent i out = (marked : Span) × Marks i.span marked
      × (out ≡ one_leaf (ident (record i { span = marked })))

  -- the puncts, each with a marked span
  unfoldable pub AreMarked : List Punct → Forest → Type 0
  AreMarked ps out = (g : Grammar) (call_site : Span) (env : Environment)
      → AreMarkedPuncts g Marks call_site env ps out

  -- what a variable with that span writes for its binding
  unfoldable pub IsVariableWritten : Span → Environment → Path → Name → Span → Forest → Type 0
  IsVariableWritten call_site env path name span out =
      (g : Grammar) → IsVariable g Marks call_site env name span (value_of env name)
      (followed env path name) out

-- one identifier of that text, with a marked span
unfoldable pub IsConcatWritten : Grammar → (Span → Span → Type 0) → Span → Option (List ℕ) → Forest
    → Type 0
IsConcatWritten g Marks span text out =
    (call_site : Span) (env : Environment) → IsConcat g Marks call_site env span text out

module _ (g : Grammar) (Marks : Span → Span
    → Type 0) (call_site : Span) (env : Environment) (path : Path) where
  -- the op writes these trees in the rounds of the path
  unfoldable pub IsWritten : Op → Forest → Type 0
  IsWritten o out = Writes g Marks call_site env path o out

  -- the ops write these trees in order
  unfoldable pub AreWritten : Ops → Forest → Type 0
  AreWritten os out = Substitutes g Marks call_site env path os out

  -- the first `done` of these rounds, with the separator between two of them
  unfoldable pub AreRoundsWritten : Option Separator → Ops → ℕ → ℕ → Forest → Type 0
  AreRoundsWritten separator body rounds done out =
      AreRounds (separator_trees separator)
      (λ i. Substitutes g Marks call_site env (level i rounds path) body) done out
