-- Errors in a rule, and variables without use. A finding holds for every call.
use Rattle.std.specs.Prelude.{◌==◌, ◌&&◌, ◌||◌, not, Bool, false, nat_lt, if◌then◌else◌, List, []}
use Rattle.std.specs.Prelude.{◌∷◌, ◌++◌, map, option_map, Option, Some, None, is_some}
use Rattle.std.specs.Str.{bytes_eq}
use Rattle.mbe_semantics.specs.declared.fragment_kinds.MetaVarKind.{MetaVarKind}
use Rattle.mbe_semantics.specs.Syntax.Op.{Name, Ops, Separator}
use Rattle.mbe_ops.specs.Views.{separator_seen}
use Rattle.mbe_diagnostics.specs.Lints.SimilarSpecifier.{similar_name}
use Rattle.mbe_diagnostics.specs.RuleChecks.OptionalSeparators.{optional_separators}
use Rattle.mbe_diagnostics.specs.RuleChecks.Words.{has_word, holds_definition}
use Rattle.mbe_diagnostics.specs.RuleChecks.Variables.{PatternVariable, VariableUse, variables_in}
use Rattle.mbe_diagnostics.specs.RuleChecks.Variables.{uses_in, variable_seen, use_seen}
use Rattle.mbe_diagnostics.specs.RuleChecks.FollowCheck.{FollowViolation, forbidden_in}
use Rattle.mbe_diagnostics.specs.RuleChecks.FollowCheck.{violation_seen}
use Rattle.mbe_diagnostics.specs.declared.rule_checks.findings.Finding as code

pub data Finding : Type 0 where
  -- A variable of the pattern, and a later one with the same name.
  bound_twice : PatternVariable → PatternVariable → Finding
  -- A variable whose specifier is unknown.
  unknown_specifier : PatternVariable → Finding
  -- A separator of a repetition with `?`, which has at most one round.
  separated_optional : Separator → Finding
  -- A use of a name that no variable of the pattern has, and the variable's name that is similar.
  unknown_variable : VariableUse → Option Name → Finding
  -- A variable that the template doesn't name, where a mistake is likely.
  never_used : PatternVariable → Finding
  -- A variable, and a use of it in fewer repetitions than it is bound in: it still repeats there.
  still_repeats : PatternVariable → VariableUse → Finding
  -- A fragment, and something that may follow it in the pattern though the language forbids that.
  forbidden : FollowViolation → Finding

-- The first variable of that name.
abbrev pub first_of_name : Name → List PatternVariable → Option PatternVariable
first_of_name name [] = None
first_of_name name (b ∷ bs) = if bytes_eq b.name name then Some b else first_of_name name bs

abbrev pub if_duplicate : Option PatternVariable → PatternVariable → List Finding
if_duplicate None b = []
if_duplicate (Some first) b = bound_twice first b ∷ []

-- Each variable that has the name of an earlier one.
abbrev pub duplicates : List PatternVariable → List PatternVariable → List Finding
duplicates earlier [] = []
duplicates earlier (b ∷ bs) = if_duplicate (first_of_name b.name earlier) b
    ++ duplicates (earlier ++ b ∷ []) bs

abbrev pub if_unknown : Option MetaVarKind → PatternVariable → List Finding
if_unknown None b = unknown_specifier b ∷ []
if_unknown (Some kind) b = []

abbrev pub unknown : List PatternVariable → List Finding
unknown [] = []
unknown (b ∷ bs) = if_unknown b.kind b ++ unknown bs

-- A name that begins with `_` says that the variable isn't used.
abbrev pub begins_with_underscore : Name → Bool
begins_with_underscore [] = false
begins_with_underscore (c ∷ cs) = c == 95

abbrev pub is_named : Name → List VariableUse → Bool
is_named name [] = false
is_named name (u ∷ us) = bytes_eq u.name name || is_named name us

-- ---- variables that the pattern doesn't have

-- The template emits the name, and no variable has it.
abbrev pub is_unbound : List PatternVariable → VariableUse → Bool
is_unbound bound u = is_some u.place && not (is_some (first_of_name u.name bound))

abbrev pub has_unbound : List PatternVariable → List VariableUse → Bool
has_unbound bound [] = false
has_unbound bound (u ∷ us) = is_unbound bound u || has_unbound bound us

abbrev pub names_of_variables : List PatternVariable → List Name
names_of_variables bound = map (λ b. b.name) bound

abbrev pub if_unbound : List PatternVariable → VariableUse → List Finding
if_unbound bound u =
    if is_unbound bound u then unknown_variable u (similar_name u.name (names_of_variables bound))
    ∷ [] else []

abbrev pub unbound : List PatternVariable → List VariableUse → List Finding
unbound bound [] = []
unbound bound (u ∷ us) = if_unbound bound u ++ unbound bound us

-- A definition inside the template has variables of its own.
abbrev pub unbound_unless : Bool → List PatternVariable → List VariableUse → List Finding
unbound_unless holds bound used = if holds then [] else unbound bound used

-- The template may misspell a variable: it has a name that isn't bound.
abbrev pub is_misspelt : Bool → List PatternVariable → List VariableUse → Bool
is_misspelt holds bound used = not holds && has_unbound bound used

-- ---- variables that the template doesn't use

-- The variable's name may be misspelt in the template: the template has a name that isn't bound, or
-- the variable's name without `$`.
abbrev pub is_suspicious : Bool → Ops → Name → Bool
is_suspicious misspelt template name = misspelt || has_word name template

abbrev pub if_unused : Bool → Ops → List VariableUse → PatternVariable → List Finding
if_unused misspelt template used b =
    if begins_with_underscore b.name || is_named b.name used
    || not (is_suspicious misspelt template b.name) then [] else never_used b ∷ []

abbrev pub unused : Bool → Ops → List VariableUse → List PatternVariable → List Finding
unused misspelt template used [] = []
unused misspelt template used (b ∷ bs) =
    if_unused misspelt template used b ++ unused misspelt template used bs

-- ---- depths

abbrev pub if_repeating : Option PatternVariable → VariableUse → List Finding
if_repeating None u = []
if_repeating (Some b) u = if is_some u.place && nat_lt u.depth b.depth then still_repeats b u
    ∷ [] else []

-- Each use that is emitted where its variable still repeats.
abbrev pub repeating : List PatternVariable → List VariableUse → List Finding
repeating bound [] = []
repeating bound (u ∷ us) = if_repeating (first_of_name u.name bound) u ++ repeating bound us

-- All findings of a pattern and a template: by kind, and then in the order of the text.
abbrev pub findings : Ops → Ops → List Finding
findings pattern template =
    let bound = variables_in 0 pattern in
    let used = uses_in 0 template in
    let holds = holds_definition template in
    let misspelt = is_misspelt holds bound used in
    duplicates [] bound
    ++ (unknown bound
    ++ (map separated_optional (optional_separators pattern ++ optional_separators template)
    ++ (unbound_unless holds bound used
    ++ (unused misspelt template used bound
    ++ (repeating bound used ++ map forbidden (forbidden_in [] pattern))))))

-- ---- what the program's values mean

abbrev pub finding_seen : {A : Type 0} → code.Finding A → Finding
finding_seen (code.TheVariants.BoundTwice first second) =
    bound_twice (variable_seen first) (variable_seen second)
finding_seen (code.TheVariants.UnknownSpecifier b) = unknown_specifier (variable_seen b)
finding_seen (code.TheVariants.SeparatedOptional s) = separated_optional (separator_seen s.now)
finding_seen (code.TheVariants.UnknownVariable u similar) =
    unknown_variable (use_seen u) (option_map (λ s. s.now) similar)
finding_seen (code.TheVariants.NeverUsed b) = never_used (variable_seen b)
finding_seen (code.TheVariants.StillRepeats b u) = still_repeats (variable_seen b) (use_seen u)
finding_seen (code.TheVariants.Forbidden f) = forbidden (violation_seen f)
