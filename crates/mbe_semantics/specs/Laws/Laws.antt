-- Laws about patterns, readings, templates, substitution and the log.
use Rattle.std.specs.Prelude.{◌≡◌, ◌⊎◌, ◌<◌, ◌≤◌, ℕ, Bool, true, false, ◌&&◌, List, [], ◌∷◌, ◌++◌}
use Rattle.std.specs.Prelude.{Option, Some, None, IsTrue, IsFalse, map}
use Rattle.mbe_tt.specs.declared.span.Edition.{Edition}
use Rattle.mbe_tt.specs.declared.fragment_group.FragmentGroup.{FragmentGroup}
use Rattle.mbe_tt.specs.declared.span.Span.{Span}
use Rattle.mbe_tt.specs.declared.span.SyntaxContext.{SyntaxContext}
use Rattle.mbe_tt.specs.Trees.Tree.{Forest, append, flat_len, rest_at, alone, strip_invisible}
use Rattle.mbe_tt.specs.Trees.Tree.{spans_of}
use Rattle.mbe_tt.specs.Grammars.Grammar.{Grammar, IsLawful}
use Rattle.mbe_tt.specs.Trees.FragmentGroup.{span_around}
use Rattle.mbe_semantics.specs.Fragments.FragmentFront.{is_rustc}
use Rattle.mbe_semantics.specs.declared.macro_call_style.MacroCallStyle.{MacroCallStyle}
use Rattle.mbe_semantics.specs.declared.fragment_kinds.MetaVarKind.{MetaVarKind}
use Rattle.mbe_semantics.specs.declared.fragment_kinds.RepeatKind.{RepeatKind}
use Rattle.mbe_semantics.specs.declared.fragment_kinds.RepeatKind.TheVariants.{ZeroOrMore}
use Rattle.mbe_semantics.specs.Syntax.Op as ops
use Rattle.mbe_semantics.specs.Syntax.Op.{Name, Token, Separator, Expression, Op, Ops, no_ops, op}
use Rattle.mbe_semantics.specs.Syntax.Op.{has_no_repetition, Use, used_name, uses_of}
use Rattle.mbe_semantics.specs.Syntax.Template.{Mode, Fault, Template, TemplateFault}
use Rattle.mbe_semantics.specs.Syntax.Definition.{Rule, IsMacroRules, IsMacroBody}
use Rattle.mbe_semantics.specs.Syntax.Definition.{IsMacroOfArguments}
use Rattle.mbe_semantics.specs.Fragments.Kinds.{stripped}
use Rattle.mbe_semantics.specs.Readings.Item.{Items, items_width, Fragment}
use Rattle.mbe_semantics.specs.Readings.Input.{input_of}
use Rattle.mbe_semantics.specs.Laws.Lawful.{Lawful}
use Rattle.mbe_semantics.specs.Matching.Lists.{In, Distinct}
use Rattle.mbe_semantics.specs.Matching.Trace.{trace}
use Rattle.mbe_semantics.specs.Matching.Closure.{closure}
use Rattle.mbe_semantics.specs.Syntax.Nullable.{Checked}
use Rattle.mbe_semantics.specs.Matching.Run.{Reaches, verdict}
use Rattle.mbe_semantics.specs.Readings.Reading.{ReadsFirst, PartialReading, partial, offset}
use Rattle.mbe_semantics.specs.Readings.Reading.{IsPartialReading, EndsAt}
use Rattle.mbe_semantics.specs.Readings.Ambiguity.{IsReading, IsAmbiguousAt}
use Rattle.mbe_semantics.specs.Readings.Verdict.{Verdict, IsVerdict}
use Rattle.mbe_semantics.specs.Bindings.Environment.{Value, fragment, Environment, value_of}
use Rattle.mbe_semantics.specs.Bindings.Environment.{environment_of}
use Rattle.mbe_semantics.specs.Transcription.Rounds.{Path, rounds_of, kept_rounds, finite, followed}
use Rattle.mbe_semantics.specs.Transcription.Rounds.{level}
use Rattle.mbe_semantics.specs.Transcription.Substitution.{faults, op_faults, separator_trees}
use Rattle.mbe_semantics.specs.Transcription.Substitution.{AreRounds, Writes, Substitutes}
use Rattle.mbe_semantics.specs.Expansion.Expansion.{IsExpansion}
use Rattle.mbe_semantics.specs.Bindings.Account.{Commands, CommandRounds, Account, Entry}
use Rattle.mbe_semantics.specs.Bindings.Account.{RoundEntry, Log, Order, Handle, HasEntriesOf}
use Rattle.mbe_semantics.specs.Bindings.Account.{Gives, GivesRounds, IsOrdered, IsAccount, run}
use Rattle.mbe_semantics.specs.Bindings.Account.{commands_of}

-- two readings of a pattern without a repetition are equal
abbrev pub OneReading : Type 0
OneReading = (g : Grammar) (pattern : Ops) (argument : Forest) (is others : Items)
    → IsTrue (has_no_repetition pattern)
    →
    IsReading g pattern argument is → IsReading g pattern argument others → is ≡ others

-- a reading of the whole argument is a partial reading that ends at the last offset
abbrev pub ReadingsEnd : Type 0
ReadingsEnd = (g : Grammar) (pattern : Ops) (argument : Forest) (is : Items) →
    IsReading g pattern argument is
    → EndsAt (input_of g argument) pattern (flat_len argument) (partial no_ops is [])

-- a partial reading ends within the argument
abbrev pub PartialReadingsEndInside : Type 0
PartialReadingsEndInside = (g : Grammar) (pattern : Ops) (argument : Forest) (y : PartialReading) →
    IsPartialReading (input_of g argument) pattern y → offset y ≤ flat_len argument

-- a pattern without a repetition has no local ambiguity at any offset
abbrev pub NeverAmbiguous : Type 0
NeverAmbiguous = (g : Grammar) (pattern : Ops) (argument : Forest) (q : ℕ)
    → IsTrue (has_no_repetition pattern) →
    IsAmbiguousAt g pattern argument q → ⊥

-- a checked pattern has exactly one verdict on each argument
abbrev pub HasOneVerdict : Type 0
HasOneVerdict = (g : Grammar) (pattern : Ops) (argument : Forest) → IsLawful g → Checked pattern →
    (v : Verdict) × IsVerdict g pattern argument v
    × ((w : Verdict) → IsVerdict g pattern argument w → w ≡ v)

-- A pattern and an argument have at most one verdict, even if the pattern is refused or the grammar
-- isn't lawful.
abbrev pub OneVerdict : Type 0
OneVerdict = (g : Grammar) (pattern : Ops) (argument : Forest) (v w : Verdict)
    → IsVerdict g pattern argument v
    → IsVerdict g pattern argument w → v ≡ w

-- ---- patterns that are one repetition

-- the ops consume at least one token of the argument, wherever they are read
abbrev pub AlwaysMove : Grammar → Forest → Ops → Type 0
AlwaysMove g argument os = (p : ℕ) (is : Items) → ReadsFirst is (input_of g argument) os p no_ops
    → 0 < items_width is

-- a pattern that is this repetition
abbrev pub one_repetition : Ops → Option Separator → RepeatKind → Ops
one_repetition body s repeat = op (ops.repetition body s repeat) no_ops

-- A pattern that is one repetition, of a body without repetitions, has no local ambiguity at any
-- offset. If the body always consumes a token, the pattern has at most one reading.
pub record ListsFitOnce : Type 0 where
  pub unambiguous : (g : Grammar) (body : Ops) (s : Option Separator) (repeat : RepeatKind)
      (argument : Forest) (q : ℕ)
      → IsTrue (has_no_repetition body) →
      IsAmbiguousAt g (one_repetition body s repeat) argument q → ⊥
  pub only : (g : Grammar) (body : Ops) (s : Option Separator) (repeat : RepeatKind)
      (argument : Forest)
      (is others : Items) → IsTrue (has_no_repetition body) →
      AlwaysMove g argument body → IsReading g (one_repetition body s repeat) argument is
      → IsReading g (one_repetition body s repeat) argument others → is ≡ others

-- ---- patterns of identifiers alone

-- an identifier
abbrev pub is_word : Token → Bool
is_word (ops.ident i) = true
is_word _ = false

-- no separator, or an identifier
abbrev pub is_word_separator : Option Separator → Bool
is_word_separator None = true
is_word_separator (Some (ops.ident_separator i)) = true
is_word_separator (Some _) = false

-- identifiers, groups of these, and repetitions of these between identifiers
abbrev mutual
  pub op_is_words : Op → Bool
  op_is_words (ops.token t) = is_word t
  op_is_words (ops.group d body) = is_words body
  op_is_words (ops.repetition body s repeat) = is_word_separator s && is_words body
  op_is_words _ = false

  pub is_words : Ops → Bool
  is_words no_ops = true
  is_words (op o os) = op_is_words o && is_words os

-- A pattern of identifiers has no local ambiguity at any offset, though it may have many readings.
abbrev pub WordsNeverAmbiguous : Type 0
WordsNeverAmbiguous = (g : Grammar) (pattern : Ops) (argument : Forest) (q : ℕ)
    → IsTrue (is_words pattern) →
    IsAmbiguousAt g pattern argument q → ⊥

-- ---- the law of the matcher

-- an argument and a lawful grammar give a lawful input
abbrev pub LawfulInputs : Type 0
LawfulInputs = (g : Grammar) (argument : Forest) → IsLawful g
    → Lawful (input_of g argument) (flat_len argument)

-- At an offset that a run reaches, the closure is exactly the partial readings that end there, each
-- once.
pub record ClosureIsExact (g : Grammar) (pattern : Ops) (argument : Forest) (q : ℕ)
    (xs : List PartialReading) : Type 0 where
  pub partial_readings : (y : PartialReading) → In y (closure (input_of g argument) q xs)
      → EndsAt (input_of g argument) pattern q y
  pub once : Distinct trace (closure (input_of g argument) q xs)
  pub all : (y : PartialReading) → EndsAt (input_of g argument) pattern q y
      → In y (closure (input_of g argument) q xs)

-- the law of the matcher, for a lawful grammar and a checked pattern
abbrev pub MatcherLaw : Type 0
MatcherLaw = (g : Grammar) (pattern : Ops) (argument : Forest) → IsLawful g → Checked pattern
    → (q : ℕ) (xs : List PartialReading) →
    Reaches (input_of g argument) pattern q xs → ClosureIsExact g pattern argument q xs

-- a run over the offsets returns the verdict
abbrev pub RunsAreRight : Type 0
RunsAreRight = (g : Grammar) (pattern : Ops) (argument : Forest) → IsLawful g → Checked pattern
    → IsVerdict g pattern argument (verdict g pattern argument)

-- ---- templates

-- `HasEdition c e`: the edition of the context c may be e
abbrev pub HasOneEdition : (SyntaxContext → Edition → Type 0) → Type 0
HasOneEdition HasEdition = (c : SyntaxContext) (e d : Edition) → HasEdition c e → HasEdition c d → e
    ≡ d

-- trees that are read as ops have no fault
abbrev pub OpsOrFault : (SyntaxContext → Edition → Type 0) → Type 0
OpsOrFault HasEdition = (mode : Mode) (f : Forest) (os : Ops) (fault : Fault)
    → Template HasEdition mode f os
    → TemplateFault HasEdition mode fault f → ⊥

-- each context has an edition
abbrev pub HasSomeEdition : (SyntaxContext → Edition → Type 0) → Type 0
HasSomeEdition HasEdition = (c : SyntaxContext) → (e : Edition) × HasEdition c e

-- then all trees are read as ops, or have a fault
abbrev pub HasOpsOrFault : (SyntaxContext → Edition → Type 0) → Type 0
HasOpsOrFault HasEdition = HasSomeEdition HasEdition → (mode : Mode) (f : Forest) →
    ((os : Ops) × Template HasEdition mode f os)
    ⊎ ((fault : Fault) × TemplateFault HasEdition mode fault f)

-- if each context has one edition, trees are read as at most one list of ops
abbrev pub OneTemplate : (SyntaxContext → Edition → Type 0) → Type 0
OneTemplate HasEdition = HasOneEdition HasEdition → (mode : Mode) (f : Forest) (os others : Ops) →
    Template HasEdition mode f os → Template HasEdition mode f others → os ≡ others

-- and a definition has one list of rules, and at most one error
pub record OneDefinition (HasEdition : SyntaxContext → Edition → Type 0) : Type 0 where
  pub rules : HasOneEdition HasEdition
      → (f : Forest) (rs others : List Rule) (err other : Option Fault) →
      IsMacroRules HasEdition f rs err → IsMacroRules HasEdition f others other → (rs ≡ others)
      × (err ≡ other)
  pub body : HasOneEdition HasEdition
      → (f : Forest) (rs others : List Rule) (err other : Option Fault) →
      IsMacroBody HasEdition f rs err → IsMacroBody HasEdition f others other → (rs ≡ others)
      × (err ≡ other)
  pub arguments : HasOneEdition HasEdition
      → (arguments body : Forest) (rs others : List Rule) (err other : Option Fault) →
      IsMacroOfArguments HasEdition arguments body rs err
      → IsMacroOfArguments HasEdition arguments body others other
      → (rs ≡ others) × (err ≡ other)

-- ---- rounds

-- the name occurs in the uses
abbrev pub IsUsed : Name → List Use → Type 0
IsUsed name [] = ⊥
IsUsed name (u ∷ uses) = (name ≡ used_name u) ⊎ IsUsed name uses

-- In every round of a repetition, each name of the body has a value if it has one outside.
abbrev pub RoundsHaveValues : Type 0
RoundsHaveValues =
    (env : Environment) (path : Path) (body : Ops) (repeat : RepeatKind) (n i : ℕ) (name : Name)
    (w : Value) →
    kept_rounds repeat env path body ≡ finite n → i < n → IsUsed name (uses_of body)
    → followed env path name ≡ Some w →
    (v : Value) × (followed env (level i n path) name ≡ Some v)

-- ---- hygiene

-- the span is one of the spans
abbrev pub IsSpanIn : Span → List Span → Type 0
IsSpanIn span [] = ⊥
IsSpanIn span (s ∷ spans) = (span ≡ s) ⊎ IsSpanIn span spans

-- The trees that a variable of kind `tt`, `ident`, `literal` or `lifetime` emits are in the
-- argument, or are the content of an invisible group there. Only the spacing of a last punct
-- changes, and no span does.
abbrev pub WrittenInPlace : (Span → Span → Type 0) → Type 0
WrittenInPlace Marks =
    (g : Grammar) (call_site : Span) (pattern : Ops) (argument : Forest) (is : Items) (path : Path)
    (name : Name)
    (kind : Option MetaVarKind) (span : Span) (x : Fragment) (out : Forest)
    → IsReading g pattern argument is →
    followed (environment_of is) path name ≡ Some (fragment x) → x.style ≡ stripped →
    Writes g Marks call_site (environment_of is) path (ops.variable name kind span) out →
    (p : ℕ) × (back : Forest) × (rest_at argument p ≡ append x.trees back)
    × (out ≡ alone (strip_invisible x.trees))
    × (spans_of out ≡ spans_of (strip_invisible x.trees))

-- the spans of a separator
abbrev pub spans_of_separator : Option Separator → List Span
spans_of_separator s = spans_of (separator_trees s)

-- the span of an unbound name
abbrev pub unbound_span : Option Value → Span → List Span
unbound_span None span = span ∷ []
unbound_span (Some v) span = []

-- the spans of separators and of unbound names in a template
abbrev mutual
  pub kept_spans_of_op : Environment → Op → List Span
  kept_spans_of_op env (ops.token t) = []
  kept_spans_of_op env (ops.group d body) = kept_spans env body
  kept_spans_of_op env (ops.variable name kind span) = unbound_span (value_of env name) span
  kept_spans_of_op env (ops.repetition body separator repeat) =
      spans_of_separator separator ++ kept_spans env body
  kept_spans_of_op env (ops.expression e) = []

  pub kept_spans : Environment → Ops → List Span
  kept_spans env no_ops = []
  kept_spans env (op o os) = kept_spans_of_op env o ++ kept_spans env os

-- the spans of a token that the marker maps
abbrev pub spans_of_token : Token → List Span
spans_of_token (ops.literal l) = l.span ∷ []
spans_of_token (ops.ident i) = i.span ∷ []
spans_of_token (ops.puncts ps) = map (λ p. p.span) ps

-- the span of `concat` that the marker maps
abbrev pub spans_of_expression : Expression → List Span
spans_of_expression (ops.concat elements span) = span ∷ []
spans_of_expression _ = []

-- all spans of a template that the marker maps: of tokens, groups, variables and `concat`
abbrev mutual
  pub marked_spans_of_op : Op → List Span
  marked_spans_of_op (ops.token t) = spans_of_token t
  marked_spans_of_op (ops.group d body) = d.opening ∷ (d.close ∷ marked_spans body)
  marked_spans_of_op (ops.variable name kind span) = span ∷ []
  marked_spans_of_op (ops.repetition body separator repeat) = marked_spans body
  marked_spans_of_op (ops.expression e) = spans_of_expression e

  pub marked_spans : Ops → List Span
  marked_spans no_ops = []
  marked_spans (op o os) = marked_spans_of_op o ++ marked_spans os

-- in rustc's dialect, one of these spans with the context of a fragment's group
abbrev pub IsGroupSpan : Grammar → List Span → Span → Type 0
IsGroupSpan g spans span = (is_rustc g.dialect ≡ true)
    × ((s : Span) × (kind : FragmentGroup) × IsSpanIn s spans × (span ≡ span_around kind s))

-- Each span of an expansion has one of these sources: a result of the marker for a span of the
-- template, the call site, a span of a separator or of an unbound name in the template, a span of
-- the argument, or, in rustc's dialect, the span of a fragment's group.
abbrev pub SpansHaveSources : (Span → Span → Type 0) → Type 0
SpansHaveSources Marks =
    (g : Grammar) (style : MacroCallStyle) (argument : Forest) (call_site : Span) (rs : List Rule)
    (n : ℕ)
    (out : Forest) (e : IsExpansion g style argument Marks call_site rs n out) (span : Span)
    → IsSpanIn span (spans_of out) →
    ((s : Span) × IsSpanIn s (marked_spans (e.0).writes) × Marks s span) ⊎ ((span ≡ call_site)
    ⊎ (IsSpanIn span (kept_spans (environment_of (e.1).items) (e.0).writes)
    ⊎ (IsSpanIn span (spans_of argument) ⊎ IsGroupSpan g (marked_spans (e.0).writes) span)))

-- ---- expansions

-- the marker has one result for each span
abbrev pub HasOneAnswer : (Span → Span → Type 0) → Type 0
HasOneAnswer Marks = (s t u : Span) → Marks s t → Marks s u → t ≡ u

-- then an expansion without an error is one tree, by one rule
abbrev pub OneExpansion : (Span → Span → Type 0) → Type 0
OneExpansion Marks = HasOneAnswer Marks
    → (g : Grammar) (style : MacroCallStyle) (argument : Forest) (call_site : Span) (rs : List Rule)
    (n m : ℕ)
    (out other : Forest) →
    IsExpansion g style argument Marks call_site rs n out
    → IsExpansion g style argument Marks call_site rs m other
    → (n ≡ m) × (out ≡ other)

-- A repetition `*` with fewer than 65536 rounds, none of which faults, has no fault and emits all
-- its rounds.
abbrev pub WritesAllRounds : (Span → Span → Type 0) → Type 0
WritesAllRounds Marks =
    (g : Grammar) (call_site : Span) (env : Environment) (path : Path) (body : Ops)
    (separator : Option Separator)
    (n : ℕ) (out : Forest) → rounds_of env path body ≡ finite n → n < 65536 →
    ((i : ℕ) → i < n → IsFalse (faults env (level i n path) body)) →
    IsFalse (op_faults env path (ops.repetition body separator ZeroOrMore))
    × (Writes g Marks call_site env path (ops.repetition body separator ZeroOrMore) out →
    AreRounds (separator_trees separator)
    (λ i. Substitutes g Marks call_site env (level i n path) body) n out)

-- the commands of a reading bind, in a log, the same as the reading does
abbrev pub CommandsBindAlike : Type 0
CommandsBindAlike = (g : Grammar) (pattern : Ops) (argument : Forest) (is : Items)
    → IsReading g pattern argument is →
    run (commands_of is) [] ≡ environment_of is

-- If each entry stands for earlier entries alone, every handle whose entries exist has an account.
abbrev pub EntriesHaveAccounts : Type 0
EntriesHaveAccounts = (log : Log) (order : Order) (h : Handle) → IsOrdered log order
    → HasEntriesOf log h
    → (a : Account) × IsAccount log h a

-- a handle has at most one account
abbrev pub OneAccount : Type 0
OneAccount = (log : Log) (h : Handle) (a b : Account) → IsAccount log h a → IsAccount log h b → a
    ≡ b

-- entries that are added at the end of a list come after what the list gives
pub record EntriesFollow : Type 0 where
  pub commands : (log : Log) (cs middle all : Commands) (es more : List Entry) →
      Gives log cs es middle → Gives log middle more all → Gives log cs (es ++ more) all
  pub rounds : (log : Log) (rs middle all : CommandRounds) (es more : List RoundEntry) →
      GivesRounds log rs es middle → GivesRounds log middle more all
      → GivesRounds log rs (es ++ more) all
