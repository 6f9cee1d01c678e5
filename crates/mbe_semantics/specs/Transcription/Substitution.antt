-- The expansion of a template, and which templates fault (as in rust-analyzer). Spans of the
-- template are marked. Spans of the argument and of separators are kept. Integers have the span of
-- the call site.
use Rattle.std.specs.Prelude.{◌≡◌, ℕ, zero, suc, ◌^◌, Bool, true, false, not, ◌||◌, ◌==◌, nat_lt}
use Rattle.std.specs.Prelude.{nat_le, if◌then◌else◌, List, [], ◌∷◌, Option, Some, None, is_none}
use Rattle.std.specs.Prelude.{decimal}
use Rattle.mbe_tt.specs.declared.span.Span.{Span}
use Rattle.mbe_semantics.specs.declared.fragment_kinds.RepeatKind.{RepeatKind}
use Rattle.mbe_semantics.specs.declared.fragment_kinds.RepeatKind.TheVariants.{ZeroOrOne, OneOrMore}
use Rattle.mbe_semantics.specs.declared.fragment_kinds.RepeatKind.TheVariants.{ZeroOrMore}
use Rattle.mbe_tt.specs.Trees.Leaf.{ident, literal, punct}
use Rattle.mbe_tt.specs.declared.tt.Punct.{Punct}
use Rattle.mbe_tt.specs.declared.tt.LitKind.TheVariants.{Integer}
use Rattle.mbe_tt.specs.declared.tt.IdentIsRaw.{IdentIsRaw}
use Rattle.mbe_tt.specs.declared.tt.IdentIsRaw.TheVariants as raw
use Rattle.mbe_tt.specs.declared.tt.Spacing.TheVariants.{Alone}
use Rattle.mbe_tt.specs.declared.tt.DelimiterKind.TheVariants.{Invisible}
use Rattle.mbe_tt.specs.Trees.Tree as tree
use Rattle.mbe_tt.specs.Trees.Tree.{Forest, none, leaf, append}
use Rattle.mbe_semantics.specs.Syntax.Op as ops
use Rattle.mbe_semantics.specs.Syntax.Op.{Name, Token, Separator, ident_separator}
use Rattle.mbe_semantics.specs.Syntax.Op.{literal_separator, punct_separator, lifetime_separator}
use Rattle.mbe_semantics.specs.Syntax.Op.{Element, Expression, ignore, count, index, len, concat}
use Rattle.mbe_semantics.specs.Syntax.Op.{Op, Ops, no_ops, op}
use Rattle.mbe_tt.specs.Grammars.Grammar.{Grammar}
use Rattle.mbe_semantics.specs.Bindings.Environment.{Value, fragment, missing, Environment}
use Rattle.mbe_semantics.specs.Bindings.Environment.{value_of}
use Rattle.mbe_semantics.specs.Bindings.Missing.{default_trees}
use Rattle.mbe_semantics.specs.declared.current_round.CurrentRound.{CurrentRound}
use Rattle.mbe_semantics.specs.Transcription.Rounds.{Path, followed, Extent, finite, endless}
use Rattle.mbe_semantics.specs.Transcription.Rounds.{kept_rounds, level, level_at, value_total}
use Rattle.mbe_semantics.specs.Transcription.Concat.{concat_text}
use Rattle.mbe_semantics.specs.Transcription.FragmentTrees.{IsFragmentOutput}

-- ---- faults

-- a fragment or a missing value, which a variable needs
abbrev pub is_simple : Option Value → Bool
is_simple (Some (fragment x)) = true
is_simple (Some (missing kind)) = true
is_simple _ = false

-- the number that `count` emits fits 64 bits
abbrev pub is_counted : ℕ → Option Value → Bool
is_counted depth None = false
is_counted depth (Some v) = nat_lt (value_total depth v) (2 ^ 64)

-- an unbound name is emitted as it is, and doesn't fault
abbrev pub variable_faults : Environment → Path → Name → Bool
variable_faults env path name =
    if is_none (value_of env name) then false else not (is_simple (followed env path name))

-- a name without a fragment, a number, or a text for `concat` faults
abbrev pub expression_faults : Environment → Path → Expression → Bool
expression_faults env path (ignore name span) = not (is_simple (followed env path name))
expression_faults env path (count name depth) = not (is_counted depth (followed env path name))
expression_faults env path (index depth) = false
expression_faults env path (len depth) = false
expression_faults env path (concat elements span) = is_none (concat_text env path elements)

-- the repetition has too many rounds, or none where it needs one
abbrev pub extent_faults : RepeatKind → Extent → Bool
extent_faults ZeroOrOne e = false
extent_faults repeat endless = true
extent_faults ZeroOrMore (finite n) = nat_le 65536 n
extent_faults OneOrMore (finite n) = (n == 0) || nat_le 65536 n

-- the test is true for some number below the bound
abbrev pub any_below : (ℕ → Bool) → ℕ → Bool
any_below test zero = false
any_below test (suc n) = any_below test n || test n

-- some of the rounds faults
abbrev pub any_round : (ℕ → ℕ → Bool) → Extent → Bool
any_round test endless = false
any_round test (finite n) = any_below (λ i. test i n) n

abbrev mutual
  pub op_faults : Environment → Path → Op → Bool
  op_faults env path (ops.group d body) = faults env path body
  op_faults env path (ops.variable name kind span) = variable_faults env path name
  op_faults env path (ops.repetition body separator repeat) =
      extent_faults repeat (kept_rounds repeat env path body)
      || any_round (λ i n. faults env (level i n path) body) (kept_rounds repeat env path body)
  op_faults env path (ops.expression e) = expression_faults env path e
  op_faults env path _ = false

  pub faults : Environment → Path → Ops → Bool
  faults env path no_ops = false
  faults env path (op o os) = op_faults env path o || faults env path os

-- ---- substitution

-- puncts as trees
abbrev pub punct_trees : List Punct → Forest
punct_trees [] = none
punct_trees (p ∷ ps) = leaf (punct p) (punct_trees ps)

-- a separator keeps its spans
abbrev pub separator_trees : Option Separator → Forest
separator_trees None = none
separator_trees (Some (ident_separator i)) = leaf (ident i) none
separator_trees (Some (literal_separator l)) = leaf (literal l) none
separator_trees (Some (punct_separator ps)) = punct_trees ps
separator_trees (Some (lifetime_separator p i)) = leaf (punct p) (leaf (ident i) none)

-- `$` and the name, unchanged
abbrev pub unbound_variable : Name → Span → Forest
unbound_variable name span =
    leaf (punct (record { char = 36; spacing = Alone; span = span }))
    (leaf (ident (record { sym = name; is_raw = raw.No; span = span })) none)

-- a decimal number
abbrev pub integer : ℕ → Span → Forest
integer n span =
    leaf (literal (record {
      text_and_suffix = decimal n;
      suffix_len = 0;
      kind = Integer;
      span = span;
    }))
    none

-- the index of a level, 0 where there is none
abbrev pub index_of : Option CurrentRound → ℕ
index_of None = 0
index_of (Some l) = l.index

-- the number of a level's rounds, 0 where there is none
abbrev pub rounds_in : Option CurrentRound → ℕ
rounds_in None = 0
rounds_in (Some l) = l.rounds

-- the number that `count` writes
abbrev pub total_of : ℕ → Option Value → ℕ
total_of depth None = 0
total_of depth (Some v) = value_total depth v

-- an identifier is raw if its text is a keyword
abbrev pub rawness : Bool → IdentIsRaw
rawness true = raw.Yes
rawness false = raw.No

-- n rounds, with the separator between each two
abbrev pub AreRounds : Forest → (ℕ → Forest → Type 0) → ℕ → Forest → Type 0
AreRounds separator round zero out = out ≡ none
AreRounds separator round (suc zero) out = round 0 out
AreRounds separator round (suc (suc n)) out =
    (before : Forest) × (last : Forest) × AreRounds separator round (suc n) before
    × round (suc n) last
    × (out ≡ append before (append separator last))

-- endless rounds are a fault
abbrev pub AreKeptRounds : Forest → (ℕ → ℕ → Forest → Type 0) → Extent → Forest → Type 0
AreKeptRounds separator round endless out = ⊥
AreKeptRounds separator round (finite n) out = AreRounds separator (λ i. round i n) n out

-- `Marks s t`: the marker may return t for s
module _ (g : Grammar) (Marks : Span → Span → Type 0) (call_site : Span) (env : Environment) where
  -- each punct by itself
  abbrev pub AreMarkedPuncts : List Punct → Forest → Type 0
  AreMarkedPuncts [] out = out ≡ none
  AreMarkedPuncts (p ∷ ps) out =
      (marked : Span) × (rest : Forest) × Marks p.span marked × AreMarkedPuncts ps rest
      × (out ≡ leaf (punct (record p { span = marked })) rest)

  -- a token, with a result of the marker for its span
  abbrev pub IsMarked : Token → Forest → Type 0
  IsMarked (ops.literal l) out = (marked : Span) × Marks l.span marked
      × (out ≡ leaf (literal (record l { span = marked })) none)
  IsMarked (ops.ident i) out = (marked : Span) × Marks i.span marked
      × (out ≡ leaf (ident (record i { span = marked })) none)
  IsMarked (ops.puncts ps) out = AreMarkedPuncts ps out

  -- A variable. The arguments are its value, and its value under the path. A value that isn't a
  -- fragment there is a fault.
  abbrev pub IsVariable : Name → Span → Option Value → Option Value → Forest → Type 0
  IsVariable name span None _ out = out ≡ unbound_variable name span
  IsVariable name span (Some v) (Some (fragment x)) out =
      IsFragmentOutput Marks call_site x.style span x.trees out
  IsVariable name span (Some v) (Some (missing kind)) out =
      (marked : Span) × Marks span marked × (out ≡ default_trees kind marked)
  IsVariable name span (Some v) _ out = ⊥

  -- one identifier, with a result of the marker for the span of `concat`
  abbrev pub IsConcat : Span → Option (List ℕ) → Forest → Type 0
  IsConcat span None out = ⊥
  IsConcat span (Some text) out =
      (marked : Span) × Marks span marked
      × (out ≡ leaf
      (ident (record { sym = text; is_raw = rawness (g.is_keyword text); span = marked })) none)

  -- the expansion of a metavariable expression
  abbrev pub IsExpression : Path → Expression → Forest → Type 0
  IsExpression path (ignore name span) out = out ≡ none
  IsExpression path (count name depth) out =
      out ≡ integer (total_of depth (followed env path name)) call_site
  IsExpression path (index depth) out = out ≡ integer (index_of (level_at path depth)) call_site
  IsExpression path (len depth) out = out ≡ integer (rounds_in (level_at path depth)) call_site
  IsExpression path (concat elements span) out = IsConcat span (concat_text env path elements) out

  -- the op emits these trees in the rounds of the path
  abbrev mutual
    pub Writes : Path → Op → Forest → Type 0
    Writes path (ops.token t) out = IsMarked t out
    Writes path (ops.group d body) out =
        (opening : Span) × (close : Span) × (inside : Forest) × Marks d.opening opening
        × Marks d.close close
        × Substitutes path body inside × (out
        ≡ tree.group (record { opening = opening; close = close; kind = d.kind }) inside none)
    Writes path (ops.variable name kind span) out =
        IsVariable name span (value_of env name) (followed env path name) out
    Writes path (ops.repetition body separator repeat) out =
        AreKeptRounds (separator_trees separator) (λ i n. Substitutes (level i n path) body)
        (kept_rounds repeat env path body) out
    Writes path (ops.expression e) out = IsExpression path e out

    -- the ops emit these trees, in order
    pub Substitutes : Path → Ops → Forest → Type 0
    Substitutes path no_ops out = out ≡ none
    Substitutes path (op o os) out =
        (first : Forest) × (rest : Forest) × Writes path o first × Substitutes path os rest
        × (out ≡ append first rest)

  -- the whole expansion: an invisible group that has the call site as both spans
  abbrev pub IsSubstitution : Ops → Forest → Type 0
  IsSubstitution writes out =
      (inside : Forest) × Substitutes [] writes inside
      × (out ≡ tree.group (record { opening = call_site; close = call_site; kind = Invisible })
      inside none)
