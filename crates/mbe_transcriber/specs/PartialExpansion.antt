-- The tree that a template emits, with a fault too (as in rust-analyzer). A part with a fault emits
-- nothing, and everything else is emitted.
use Rattle.std.specs.Prelude.{◌≡◌, ℕ, zero, suc, Bool, if◌then◌else◌, List, [], Option, Some, None}
use Rattle.std.specs.Prelude.{codes, chars}
use Rattle.mbe_tt.specs.declared.span.Span.{Span}
use Rattle.mbe_tt.specs.declared.tt.DelimiterKind.TheVariants.{Invisible}
use Rattle.mbe_tt.specs.Trees.Tree as tree
use Rattle.mbe_tt.specs.Trees.Tree.{Forest, none, append}
use Rattle.mbe_tt.specs.Grammars.Grammar.{Grammar}
use Rattle.mbe_semantics.specs.Syntax.Op as ops
use Rattle.mbe_semantics.specs.Syntax.Op.{Name, Separator, Expression, count, concat, Op, Ops}
use Rattle.mbe_semantics.specs.Syntax.Op.{no_ops, op}
use Rattle.mbe_semantics.specs.Bindings.Environment.{Environment, value_of}
use Rattle.mbe_semantics.specs.Transcription.Rounds.{Path, followed, Extent, finite, endless}
use Rattle.mbe_semantics.specs.Transcription.Rounds.{kept_rounds, level}
use Rattle.mbe_semantics.specs.Transcription.Concat.{are_identifier_chars}
use Rattle.mbe_semantics.specs.Transcription.Substitution.{faults, separator_trees, integer}
use Rattle.mbe_semantics.specs.Transcription.Substitution.{total_of, IsMarked, IsVariable, IsConcat}
use Rattle.mbe_semantics.specs.Transcription.Substitution.{IsExpression}
use Rattle.mbe_transcriber.specs.TemplateFaults.{bound_fault, count_fault, variable_fault, joined}
use Rattle.mbe_variables.specs.LookupErrors.{extent_fault}

-- with a fault nothing is emitted
abbrev pub unless : {F : Type 0} → Option F → (Forest → Type 0) → Forest → Type 0
unless (Some fault) P out = out ≡ none
unless None P out = P out

-- What is emitted before a round: the separator, except before the first round and after a round
-- with a fault.
abbrev pub separator_before : Forest → (ℕ → Bool) → ℕ → Forest
separator_before separator faulty zero = none
separator_before separator faulty (suc n) = if faulty n then none else separator

-- n rounds in order, with or without faults
abbrev pub AreRoundsEmitted : Forest → (ℕ → Bool) → (ℕ → Forest → Type 0) → ℕ → Forest → Type 0
AreRoundsEmitted separator faulty round zero out = out ≡ none
AreRoundsEmitted separator faulty round (suc n) out =
    (before : Forest) × (last : Forest) × AreRoundsEmitted separator faulty round n before
    × round n last
    × (out ≡ append before (append (separator_before separator faulty n) last))

-- endless rounds aren't emitted at all
abbrev pub AreAllRoundsEmitted : Forest → (ℕ → ℕ → Bool) → (ℕ → ℕ → Forest → Type 0) → Extent
    → Forest → Type 0
AreAllRoundsEmitted separator faulty round endless out = out ≡ none
AreAllRoundsEmitted separator faulty round (finite n) out =
    AreRoundsEmitted separator (λ i. faulty i n) (λ i. round i n) n out

-- the identifier that `concat` emits: a text that is no identifier is replaced
abbrev pub concat_name : List ℕ → List ℕ
concat_name text = if are_identifier_chars (chars text) then text else codes "__ra_concat_dummy"

-- `Marks s t`: the marker may return t for s
module _ (g : Grammar) (Marks : Span → Span → Type 0) (call_site : Span) (env : Environment) where
  -- an identifier is joined from the elements that have a text
  abbrev pub EmitsExpression : Path → Expression → Forest → Type 0
  EmitsExpression path (count name depth) out =
      unless (bound_fault name (count_fault name depth path) (value_of env name))
      (λ f. f ≡ integer (total_of depth (followed env path name)) call_site) out
  EmitsExpression path (concat elements span) out =
      IsConcat g Marks call_site env span (Some (concat_name (joined env path elements))) out
  EmitsExpression path e out = IsExpression g Marks call_site env path e out

  -- the op emits these trees in the rounds of the path, with or without a fault
  abbrev mutual
    pub Emits : Path → Op → Forest → Type 0
    Emits path (ops.token t) out = IsMarked g Marks call_site env t out
    Emits path (ops.group d body) out =
        (opening : Span) × (close : Span) × (inside : Forest) × Marks d.opening opening
        × Marks d.close close
        × EmitAll path body inside
        × (out ≡ tree.group (record { opening = opening; close = close; kind = d.kind })
        inside none)
    Emits path (ops.variable name kind span) out =
        unless (variable_fault env path name)
        (IsVariable g Marks call_site env name span (value_of env name) (followed env path name))
        out
    Emits path (ops.repetition body separator repeat) out =
        unless (extent_fault repeat (kept_rounds repeat env path body))
        (AreAllRoundsEmitted (separator_trees separator) (λ i n. faults env (level i n path) body)
        (λ i n. EmitAll (level i n path) body)
        (kept_rounds repeat env path body)) out
    Emits path (ops.expression e) out = EmitsExpression path e out

    -- the ops emit these trees in order
    pub EmitAll : Path → Ops → Forest → Type 0
    EmitAll path no_ops out = out ≡ none
    EmitAll path (op o os) out =
        (first : Forest) × (rest : Forest) × Emits path o first × EmitAll path os rest
        × (out ≡ append first rest)

-- ---- abbreviations for contracts and proofs

module _ (g : Grammar) (Marks : Span → Span
    → Type 0) (call_site : Span) (env : Environment) (path : Path) where
  unfoldable pub IsEmitted : Op → Forest → Type 0
  IsEmitted o out = Emits g Marks call_site env path o out

  unfoldable pub AreEmitted : Ops → Forest → Type 0
  AreEmitted os out = EmitAll g Marks call_site env path os out

  -- the first `done` of these rounds
  unfoldable pub AreRoundsBegun : Option Separator → Ops → ℕ → ℕ → Forest → Type 0
  AreRoundsBegun separator body rounds done out =
      AreRoundsEmitted (separator_trees separator) (λ i. faults env (level i rounds path) body)
      (λ i. EmitAll g Marks call_site env (level i rounds path) body) done out

-- the whole tree: what the ops emit, in an invisible group with the call site as both spans
abbrev pub IsPartialExpansion : Grammar → (Span → Span → Type 0) → Span → Environment → Ops → Forest
    → Type 0
IsPartialExpansion g Marks call_site env writes out =
    (inside : Forest) × EmitAll g Marks call_site env [] writes inside
    × (out ≡ tree.group (record { opening = call_site; close = call_site; kind = Invisible }) inside
    none)
