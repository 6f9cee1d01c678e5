-- The error that reports each fault of a template, with rust-analyzer's text.
use Rattle.std.specs.Prelude.{List, ℕ, ◌++◌, codes}
use Rattle.mbe_variables.specs.declared.transcriber_fault.TranscriberFault as met
use Rattle.mbe_variables.specs.declared.transcriber_fault.TranscriberFaultKind as met_kind
use Rattle.mbe_semantics.specs.Syntax.Op.{Name}
use Rattle.mbe_semantics.specs.Expansion.Error.{ExpandErrorKind, binding_error, unresolved_binding}
use Rattle.mbe_semantics.specs.Expansion.Error.{limit_exceeded, unexpected_token, ExpandError}

-- a text about the binding of that name
abbrev pub about_binding : List ℕ → Name → ExpandErrorKind
about_binding words name = binding_error (words ++ codes " binding `" ++ name ++ codes "`")

abbrev pub kind_of_fault : {A : Type 0} → met_kind.TranscriberFaultKind A → ExpandErrorKind
kind_of_fault (met_kind.TheVariants.Unresolved name) = unresolved_binding name.now
kind_of_fault (met_kind.TheVariants.Nested name) =
    about_binding (codes "expected simple binding, found nested") name.now
kind_of_fault (met_kind.TheVariants.Empty name) =
    about_binding (codes "expected simple binding, found empty") name.now
kind_of_fault (met_kind.TheVariants.EmptyInside name) =
    about_binding (codes "could not find empty") name.now
kind_of_fault (met_kind.TheVariants.NoValue name) =
    about_binding (codes "could not find nested") name.now
kind_of_fault met_kind.TheVariants.NoText =
    binding_error
    (codes "metavariables of `${concat(..)}` must be of type `ident`, `literal` or `tt`")
kind_of_fault met_kind.TheVariants.NoIdentifier =
    binding_error (codes "`${concat(..)}` is not generating a valid identifier")
kind_of_fault met_kind.TheVariants.Limit = limit_exceeded
kind_of_fault met_kind.TheVariants.NoRound = unexpected_token

abbrev pub error_of_fault : {A : Type 0} → met.TranscriberFault A → ExpandError
error_of_fault fault = record { span = fault.span; kind = kind_of_fault fault.kind }
