-- Faults of a variable in the rounds of a path, and of a number of rounds, with their texts (as in
-- rust-analyzer).
use Rattle.std.specs.Prelude.{zero, nat_lt, if◌then◌else◌, [], ◌∷◌, Option, Some, None, option_map}
use Rattle.std.specs.Prelude.{codes}
use Rattle.std.specs.Option.{option_or}
use Rattle.mbe_tt.specs.declared.span.Span.{Span}
use Rattle.mbe_semantics.specs.declared.fragment_kinds.RepeatKind.{RepeatKind}
use Rattle.mbe_semantics.specs.declared.fragment_kinds.RepeatKind.TheVariants.{ZeroOrOne, OneOrMore}
use Rattle.mbe_semantics.specs.Syntax.Op.{Name}
use Rattle.mbe_semantics.specs.Bindings.Environment.{Value, fragment, list, empty, missing}
use Rattle.mbe_semantics.specs.Expansion.Error.{ExpandErrorKind, limit_exceeded, unexpected_token}
use Rattle.mbe_semantics.specs.Expansion.Error.{ExpandError}
use Rattle.mbe_semantics.specs.Transcription.Rounds.{Path, member, follow, Extent, finite, endless}
use Rattle.mbe_variables.specs.declared.variable_lookup.LookupError.{LookupError}
use Rattle.mbe_variables.specs.declared.variable_lookup.LookupError.TheVariants as lookup_errors
use Rattle.mbe_variables.specs.FaultViews.{about_binding}

-- an error with that span
abbrev pub at : Span → ExpandErrorKind → ExpandError
at s k = record { span = s; kind = k }

-- a list without a value for the round, or else the fault of that value
abbrev pub lookup_error_in : (Value → Option LookupError) → Option Value → Option LookupError
lookup_error_in inner None = Some lookup_errors.NoValue
lookup_error_in inner (Some v) = inner v

-- why a path can't be followed: a repetition was skipped, or a list has no value for its round
abbrev pub lookup_error : Path → Value → Option LookupError
lookup_error [] v = None
lookup_error (l ∷ path) (fragment x) = None
lookup_error (l ∷ path) (missing kind) = None
lookup_error (l ∷ path) empty = Some lookup_errors.Empty
lookup_error (l ∷ path) (list vs) = lookup_error_in (lookup_error path) (member vs l.index)

abbrev pub lookup_error_kind : Name → LookupError → ExpandErrorKind
lookup_error_kind name lookup_errors.Empty = about_binding (codes "could not find empty") name
lookup_error_kind name lookup_errors.NoValue = about_binding (codes "could not find nested") name

-- the fault of a binding that is still a list or a skipped repetition at the end of the path
abbrev pub not_simple : Name → Option Value → Option ExpandErrorKind
not_simple name (Some (list vs)) =
    Some (about_binding (codes "expected simple binding, found nested") name)
not_simple name (Some empty) =
    Some (about_binding (codes "expected simple binding, found empty") name)
not_simple name _ = None

-- the fault of a value that has to be simple in the rounds of the path
abbrev pub simple_fault : Name → Path → Value → Option ExpandErrorKind
simple_fault name path v =
    option_or (option_map (lookup_error_kind name) (lookup_error path v))
    (not_simple name (follow path v))

-- too many rounds, or a `+` without a round
abbrev pub extent_fault : RepeatKind → Extent → Option ExpandErrorKind
extent_fault ZeroOrOne e = None
extent_fault repeat endless = Some limit_exceeded
extent_fault OneOrMore (finite zero) = Some unexpected_token
extent_fault repeat (finite n) = if nat_lt n 65536 then None else Some limit_exceeded
