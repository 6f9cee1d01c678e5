-- How contracts see the code's errors, independent of memory.
use Rattle.std.specs.Prelude.{List, ℕ, codes, Option, option_map}
use Rattle.std.specs.String.{string_bytes}
use Rattle.mbe_ops.specs.declared.errors.error.ParseError as parse
use Rattle.mbe_ops.specs.declared.errors.error.ExpandError as expand
use Rattle.mbe_ops.specs.declared.errors.error.ExpandErrorKind as kinds
use Rattle.mbe_ops.specs.declared.errors.error.CountError as counts
use Rattle.mbe_ops.specs.declared.errors.error.SyntaxFault as reported
use Rattle.mbe_semantics.specs.Syntax.Template.{Fault, unexpected_token, expected, invalid_repeat}
use Rattle.mbe_semantics.specs.Syntax.Template.{empty_repetition}
use Rattle.mbe_semantics.specs.Expansion.Error.{ExpandErrorKind, binding_error, unresolved_binding}
use Rattle.mbe_semantics.specs.Expansion.Error.{leftover_tokens, limit_exceeded, no_matching_rule}
use Rattle.mbe_semantics.specs.Expansion.Error.{unexpected_token as unexpected_input, ExpandError}

abbrev pub parse_error_of : {A : Type 0} → parse.ParseError A → Fault
parse_error_of (parse.TheVariants.UnexpectedToken text) = unexpected_token (string_bytes text)
parse_error_of (parse.TheVariants.Expected text) = expected (string_bytes text)
parse_error_of parse.TheVariants.InvalidRepeat = invalid_repeat
parse_error_of parse.TheVariants.RepetitionEmptyTokenTree = empty_repetition

abbrev pub kind_of : {A : Type 0} → kinds.ExpandErrorKind A → ExpandErrorKind
kind_of (kinds.TheVariants.BindingError text) = binding_error (string_bytes text)
kind_of (kinds.TheVariants.UnresolvedBinding name) = unresolved_binding (string_bytes name)
kind_of kinds.TheVariants.LeftoverTokens = leftover_tokens
kind_of kinds.TheVariants.LimitExceeded = limit_exceeded
kind_of kinds.TheVariants.NoMatchingRule = no_matching_rule
kind_of kinds.TheVariants.UnexpectedToken = unexpected_input

abbrev pub error_of : {A : Type 0} → expand.ExpandError A → ExpandError
error_of e = record { span = e.inner.value.0; kind = kind_of e.inner.value.1 }

abbrev pub errors_of : {A : Type 0} → Option (expand.ExpandError A) → Option ExpandError
errors_of e = option_map error_of e

abbrev pub count_error_text : counts.CountError → List ℕ
count_error_text counts.TheVariants.OutOfBounds = codes "${count} out of bounds"
count_error_text counts.TheVariants.Misplaced = codes "${count} misplaced"

-- the error that reports a fault
abbrev pub fault_of : reported.SyntaxFault → Fault
fault_of reported.TheVariants.ExpectedSubtree = expected (codes "expected subtree")
fault_of reported.TheVariants.ExpectedEquals = expected (codes "expected `=`")
fault_of reported.TheVariants.ExpectedGreater = expected (codes "expected `>`")
fault_of reported.TheVariants.ExpectedParentheses = expected (codes "expected `()`")
fault_of reported.TheVariants.ExpectedSemicolon = expected (codes "expected `;`")
fault_of reported.TheVariants.ExpectedSeparator =
    expected (codes "expected `;` or `,` to delimit rules")
fault_of reported.TheVariants.ExpectedIdent = expected (codes "expected ident")
fault_of reported.TheVariants.ExpectedRepetition =
    expected (codes "expected `$()` repetition or `${}` expression")
fault_of reported.TheVariants.ExpressionInPattern =
    unexpected_token (codes "`${}` metavariable expressions are not allowed in matchers")
fault_of reported.TheVariants.DollarInPattern =
    unexpected_token (codes "`$$` is not allowed on the pattern side")
fault_of reported.TheVariants.MissingSpecifier =
    unexpected_token (codes "missing fragment specifier")
fault_of reported.TheVariants.InvalidExpression =
    unexpected_token (codes "invalid metavariable expression")
fault_of reported.TheVariants.InvalidRepeat = invalid_repeat
