-- The messages of findings, in rustc's words where it has some.
use Rattle.std.specs.Prelude.{ℕ, codes, List, [], ◌∷◌, ◌++◌, Option, Some, None, unwrap_or}
use Rattle.std.specs.Prelude.{Bool, true, false, if◌then◌else◌}
use Rattle.std.specs.Fmt.{decimal}
use Rattle.mbe_tt.specs.declared.span.Span.{Span}
use Rattle.mbe_semantics.specs.declared.fragment_kinds.MetaVarKind.{MetaVarKind}
use Rattle.mbe_semantics.specs.declared.fragment_kinds.FollowSet.{FollowSet}
use Rattle.mbe_semantics.specs.declared.fragment_kinds.FollowSet.TheVariants as sets
use Rattle.mbe_semantics.specs.Fragments.Kinds.{facts}
use Rattle.mbe_semantics.specs.Syntax.Op.{Name, Op, token, group, variable, repetition, expression}
use Rattle.mbe_semantics.specs.Syntax.Op.{Separator}
use Rattle.mbe_rewriter.specs.MacroItems.{MacroDefinition}
use Rattle.mbe_matcher.specs.Expected.{separating as expected_separator, reading as expected_op}
use Rattle.mbe_matcher.specs.Expected.{closing as expected_closing}
use Rattle.mbe_diagnostics.specs.Outcome.{RulePart, part_of, separator_place}
use Rattle.mbe_diagnostics.specs.RuleChecks.Variables.{PatternVariable, VariableUse}
use Rattle.mbe_diagnostics.specs.RuleChecks.FollowCheck.{Follower, reading, separating}
use Rattle.mbe_diagnostics.specs.RuleChecks.FollowCheck.{closing, FollowViolation, needs_pat_param}
use Rattle.mbe_diagnostics.specs.RuleChecks.Findings.{Finding, bound_twice, unknown_specifier}
use Rattle.mbe_diagnostics.specs.RuleChecks.Findings.{separated_optional, unknown_variable}
use Rattle.mbe_diagnostics.specs.RuleChecks.Findings.{never_used, still_repeats, forbidden}
use Rattle.mbe_diagnostics.specs.Lints.Lint.{Lint, error_at, warning_at, note_at, help_at}
use Rattle.mbe_diagnostics.specs.Lints.SimilarSpecifier.{similar_specifier}
use Rattle.mbe_diagnostics.specs.Lints.VariableDisplay.{VariableDisplay, variable_display}
use Rattle.mbe_diagnostics.specs.Lints.VariableDisplay.{variable_text}

-- ---- names and specifiers

unfoldable pub duplicate_text : List ℕ
duplicate_text = codes "duplicate matcher binding"

unfoldable pub earlier_text : List ℕ
earlier_text = codes "previous binding"

abbrev pub duplicate_lints : VariableDisplay → VariableDisplay → List Lint
duplicate_lints first later = error_at later.full_span duplicate_text
    ++ note_at first.full_span earlier_text

unfoldable pub similar_text : Name → List ℕ
similar_text name = codes "a fragment specifier with a similar name exists: `"
    ++ (name ++ codes "`")

abbrev pub similar_lints : Span → Option Name → List Lint
similar_lints place None = []
similar_lints place (Some name) = help_at place (similar_text name)

unfoldable pub valid_text : List ℕ
valid_text =
    codes "valid fragment specifiers are `ident`, `block`, `stmt`, `expr`, `pat`, `ty`, `lifetime`, `literal`, `path`, "
    ++ codes "`meta`, `tt`, `item` and `vis`, along with `expr_2021` and `pat_param` for edition compatibility"

unfoldable pub unknown_text : Name → List ℕ
unknown_text specifier = codes "invalid fragment specifier `" ++ (specifier ++ codes "`")

abbrev pub unknown_lints : VariableDisplay → List Lint
unknown_lints v =
    error_at v.full_span (unknown_text v.specifier)
    ++ (similar_lints v.specifier_span (similar_specifier v.specifier)
    ++ help_at v.specifier_span valid_text)

-- ---- a separator of a repetition with `?`

unfoldable pub separator_text : List ℕ
separator_text = codes "the `?` macro repetition operator does not take a separator"

-- At the separator.
abbrev pub separated_lints : MacroDefinition → Separator → List Lint
separated_lints d s = error_at (unwrap_or (separator_place s) d.name.span) separator_text

-- ---- names that aren't bound, and variables that aren't used

unfoldable pub unbound_text : Name → List ℕ
unbound_text name = codes "unknown macro variable `" ++ (name ++ codes "`")

unfoldable pub similar_variable_text : Name → List ℕ
similar_variable_text name = codes "there's a macro metavariable with a similar name: `$"
    ++ (name ++ codes "`")

abbrev pub similar_variable_lints : Span → Option Name → List Lint
similar_variable_lints place None = []
similar_variable_lints place (Some name) = help_at place (similar_variable_text name)

abbrev pub unbound_lints : Name → Option Name → VariableDisplay → List Lint
unbound_lints name similar at =
    warning_at at.name_span (unbound_text name) ++ similar_variable_lints at.name_span similar

-- At the use.
abbrev pub use_display : MacroDefinition → VariableUse → VariableDisplay
use_display d u = variable_display d (unwrap_or u.place d.name.span) None

unfoldable pub unused_text : Name → List ℕ
unused_text name = codes "unused macro variable: `$" ++ (name ++ codes "`")

unfoldable pub underscore_text : Name → List ℕ
underscore_text name = codes "if this is intentional, prefix it with an underscore: `$_"
    ++ (name ++ codes "`")

abbrev pub unused_lints : Name → VariableDisplay → List Lint
unused_lints name v = warning_at v.full_span (unused_text name)
    ++ help_at v.full_span (underscore_text name)

-- ---- depths

unfoldable pub repeats_text : Name → List ℕ
repeats_text name = codes "variable `" ++ (name ++ codes "` is still repeating at this depth")

unfoldable pub depths_text : ℕ → ℕ → List ℕ
depths_text bound used = codes "bound at depth "
    ++ (decimal bound ++ (codes ", and used at depth " ++ decimal used))

-- A variable, and where it is used.
abbrev pub repeating_lints : Name → ℕ → ℕ → VariableDisplay → VariableDisplay → List Lint
repeating_lints name bound used v at =
    error_at at.name_span (repeats_text name) ++ note_at v.full_span (depths_text bound used)

-- ---- what follows a fragment

-- What may follow a fragment.
abbrev pub allowed_by : FollowSet → List ℕ
allowed_by sets.Anything = codes "anything is allowed there"
allowed_by sets.AfterExpression = codes "allowed there are: `=>`, `,` or `;`"
allowed_by sets.AfterPattern = codes "allowed there are: `=>`, `,`, `=`, `if` or `in`"
allowed_by sets.AfterAlternative = codes "allowed there are: `=>`, `,`, `=`, `|`, `if` or `in`"
allowed_by sets.AfterType =
    codes "allowed there are: `{`, `[`, `=>`, `,`, `>`, `=`, `:`, `;`, `|`, `as` or `where`"
allowed_by sets.AfterVisibility = codes "allowed there are: `,`, an ident or a type"

abbrev pub allowed_text : Option MetaVarKind → List ℕ
allowed_text None = codes "anything is allowed there"
allowed_text (Some kind) = allowed_by (facts kind).follow_set

-- A variable as it is written.
abbrev pub variable_part : Name → VariableDisplay → RulePart
variable_part name v = record { text = variable_text name v.specifier; place = Some v.full_span }

-- What may come next: its text and its span.
abbrev pub op_part : MacroDefinition → Op → RulePart
op_part d (variable name kind place) = variable_part name (variable_display d place kind)
op_part d (token t) = part_of (expected_op (token t))
op_part d (group k body) = part_of (expected_op (group k body))
op_part d (repetition body s k) = part_of (expected_op (repetition body s k))
op_part d (expression e) = part_of (expected_op (expression e))

abbrev pub follower_part : MacroDefinition → Follower → RulePart
follower_part d (reading o) = op_part d o
follower_part d (separating s) = part_of (expected_separator s)
follower_part d closing = part_of expected_closing

-- Whether it follows in each call, or may follow.
abbrev pub followed_text : Bool → List ℕ
followed_text true = codes "is followed by"
followed_text false = codes "may be followed by"

unfoldable pub forbidden_text : Name → Name → Bool → List ℕ → List ℕ
forbidden_text name specifier alone next =
    variable_text name specifier
    ++ (codes " "
    ++ (followed_text alone
    ++ (codes " "
    ++ (next ++ (codes ", which is not allowed for `" ++ (specifier ++ codes "` fragments"))))))

unfoldable pub pat_param_text : Name → List ℕ
pat_param_text name = codes "try a `pat_param` fragment specifier instead: `$"
    ++ (name ++ codes ":pat_param`")

abbrev pub pat_param_lints : FollowViolation → Span → List Lint
pat_param_lints f place = if needs_pat_param f then help_at place (pat_param_text f.name) else []

abbrev pub violation_lints : FollowViolation → VariableDisplay → RulePart → List Lint
violation_lints f v next =
    error_at (unwrap_or next.place v.full_span)
    (forbidden_text f.name v.specifier f.alone next.text)
    ++ (note_at v.full_span (allowed_text f.kind) ++ pat_param_lints f v.full_span)

-- What follows, and the variable, as they are written.
abbrev pub forbidden_lints : MacroDefinition → FollowViolation → List Lint
forbidden_lints d f =
    violation_lints f (variable_display d f.place f.kind) (follower_part d f.next)

-- ---- all findings

abbrev pub bound_display : MacroDefinition → PatternVariable → VariableDisplay
bound_display d b = variable_display d b.place b.kind

abbrev pub finding_lints : MacroDefinition → Finding → List Lint
finding_lints d (bound_twice first later) =
    duplicate_lints (bound_display d first) (bound_display d later)
finding_lints d (unknown_specifier b) = unknown_lints (bound_display d b)
finding_lints d (separated_optional s) = separated_lints d s
finding_lints d (unknown_variable u similar) =
    unbound_lints u.name similar (use_display d u)
finding_lints d (never_used b) = unused_lints b.name (bound_display d b)
finding_lints d (still_repeats b u) =
    repeating_lints b.name b.depth u.depth (bound_display d b)
    (variable_display d (unwrap_or u.place b.place) None)
finding_lints d (forbidden f) = forbidden_lints d f

-- The lints of each finding, in order.
abbrev pub findings_lints : MacroDefinition → List Finding → List Lint
findings_lints d [] = []
findings_lints d (f ∷ fs) = finding_lints d f ++ findings_lints d fs
