-- The first fault of a template: its span and its text (as in rust-analyzer).
use Rattle.std.specs.Prelude.{ℕ, zero, suc, ◌^◌, nat_lt, if◌then◌else◌, List, [], ◌∷◌, ◌++◌, Option}
use Rattle.std.specs.Prelude.{Some, None, option_map, option_and_then, codes, chars}
use Rattle.std.specs.Option.{option_or}
use Rattle.mbe_tt.specs.declared.span.Span.{Span}
use Rattle.mbe_semantics.specs.declared.fragment_kinds.RepeatKind.{RepeatKind}
use Rattle.mbe_semantics.specs.declared.fragment_kinds.RepeatKind.TheVariants.{ZeroOrOne, OneOrMore}
use Rattle.mbe_semantics.specs.Syntax.Op as ops
use Rattle.mbe_semantics.specs.Syntax.Op.{Name, Element, variable_element, Expression, ignore}
use Rattle.mbe_semantics.specs.Syntax.Op.{count, concat, Op, Ops, no_ops, op}
use Rattle.mbe_semantics.specs.Bindings.Environment.{Value, fragment, list, empty, missing}
use Rattle.mbe_semantics.specs.Bindings.Environment.{Environment, value_of}
use Rattle.mbe_semantics.specs.Expansion.Error.{ExpandErrorKind, binding_error, unresolved_binding}
use Rattle.mbe_semantics.specs.Expansion.Error.{limit_exceeded, unexpected_token, ExpandError}
use Rattle.mbe_semantics.specs.Transcription.Rounds.{Path, member, follow, Extent, finite, endless}
use Rattle.mbe_semantics.specs.Transcription.Rounds.{kept_rounds, level}
use Rattle.mbe_semantics.specs.Transcription.Concat.{text_of_element, are_identifier_chars}
use Rattle.mbe_semantics.specs.Transcription.Substitution.{total_of}
use Rattle.mbe_variables.specs.LookupErrors.{at, lookup_error, lookup_error_kind, simple_fault}
use Rattle.mbe_variables.specs.LookupErrors.{extent_fault}

-- ---- names

-- a number that doesn't fit 64 bits
abbrev pub number_fault : ℕ → Option ExpandErrorKind
number_fault n = if nat_lt n (2 ^ 64) then None else Some limit_exceeded

-- the fault of a value that is counted
abbrev pub count_fault : Name → ℕ → Path → Value → Option ExpandErrorKind
count_fault name depth path v =
    option_or (option_map (lookup_error_kind name) (lookup_error path v))
    (number_fault (total_of depth (follow path v)))

-- the fault of a name that has to be bound
abbrev pub bound_fault : Name → (Value → Option ExpandErrorKind) → Option Value
    → Option ExpandErrorKind
bound_fault name fault None = Some (unresolved_binding name)
bound_fault name fault (Some v) = fault v

-- ---- the first of several faults

-- the first one that exists
abbrev pub find_first : {A B : Type 0} → (A → Option B) → List A → Option B
find_first f [] = None
find_first f (x ∷ xs) = option_or (f x) (find_first f xs)

-- the first one with a number below n
abbrev pub first_below : {B : Type 0} → (ℕ → Option B) → ℕ → Option B
first_below f zero = None
first_below f (suc n) = option_or (first_below f n) (f n)

-- the first one of all rounds
abbrev pub first_round : {B : Type 0} → (ℕ → ℕ → Option B) → Extent → Option B
first_round f endless = None
first_round f (finite n) = first_below (λ i. f i n) n

-- ---- joined identifiers

-- the fault of an element without a text
abbrev pub text_fault : Option (List ℕ) → Option ExpandErrorKind
text_fault None = Some (binding_error (codes
    "metavariables of `${concat(..)}` must be of type `ident`, `literal` or `tt`"))
text_fault (Some text) = None

-- the text, or the empty text
abbrev pub or_empty : Option (List ℕ) → List ℕ
or_empty None = []
or_empty (Some text) = text

-- the texts that the elements have, joined
abbrev pub joined : Environment → Path → List Element → List ℕ
joined env path [] = []
joined env path (e ∷ es) = or_empty (text_of_element env path e) ++ joined env path es

-- the fault of a text that is no identifier
abbrev pub identifier_fault : List ℕ → Option ExpandErrorKind
identifier_fault text =
    if are_identifier_chars (chars text) then None
    else Some (binding_error (codes "`${concat(..)}` is not generating a valid identifier"))

-- ---- templates

module _ (env : Environment) where
  -- a variable that isn't bound is written as it is, so it has no fault
  abbrev pub variable_fault : Path → Name → Option ExpandErrorKind
  variable_fault path name = option_and_then (simple_fault name path) (value_of env name)

  abbrev pub required_fault : Path → Name → Option ExpandErrorKind
  required_fault path name = bound_fault name (simple_fault name path) (value_of env name)

  abbrev pub element_fault : Path → Element → Option ExpandError
  element_fault path (variable_element i) =
      option_map (at i.span) (option_or (required_fault path i.sym)
      (text_fault (text_of_element env path (variable_element i))))
  element_fault path _ = None

module _ (call_site : Span) (env : Environment) where
  abbrev pub expression_fault : Path → Expression → Option ExpandError
  expression_fault path (ignore name span) = option_map (at span) (required_fault env path name)
  expression_fault path (count name depth) =
      option_map (at call_site) (bound_fault name (count_fault name depth path) (value_of env name))
  expression_fault path (concat elements span) =
      option_or (find_first (element_fault env path) elements)
      (option_map (at span) (identifier_fault (joined env path elements)))
  expression_fault path _ = None

  abbrev mutual
    pub op_fault : Path → Op → Option ExpandError
    op_fault path (ops.group d body) = first_fault path body
    op_fault path (ops.variable name kind span) =
        option_map (at span) (variable_fault env path name)
    op_fault path (ops.repetition body separator repeat) =
        option_or (option_map (at call_site)
        (extent_fault repeat (kept_rounds repeat env path body)))
        (first_round (λ i n. first_fault (level i n path) body) (kept_rounds repeat env path body))
    op_fault path (ops.expression e) = expression_fault path e
    op_fault path (ops.token t) = None

    -- the first fault of the ops in the rounds of the path
    pub first_fault : Path → Ops → Option ExpandError
    first_fault path no_ops = None
    first_fault path (op o os) = option_or (op_fault path o) (first_fault path os)
