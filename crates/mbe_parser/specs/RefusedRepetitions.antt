-- The offset of the first refused repetition: the number of flat tokens before its group. A
-- repetition is refused if it has no separator and its body can match no token.
use Rattle.std.specs.Prelude.{◌≡◌, ◌+◌, ◌&&◌, ℕ, suc, false, true, if◌then◌else◌, List, Option}
use Rattle.std.specs.Prelude.{Some, None, option_map, Ok}
use Rattle.mbe_tt.specs.declared.span.SyntaxContext.{SyntaxContext}
use Rattle.mbe_tt.specs.declared.span.Edition.{Edition}
use Rattle.mbe_tt.specs.declared.span.Span.{Span}
use Rattle.mbe_tt.specs.declared.tt.Delimiter.{Delimiter}
use Rattle.mbe_tt.specs.Trees.Leaf.{Ident}
use Rattle.mbe_tt.specs.Trees.Tree.{Forest, passed}
use Rattle.mbe_semantics.specs.declared.fragment_kinds.RepeatKind.{RepeatKind}
use Rattle.mbe_semantics.specs.Syntax.Op.{Name, Op, Ops, op, repetition, Separator}
use Rattle.mbe_semantics.specs.Syntax.Nullable.{is_nullable, is_unseparated, is_refused_op}
use Rattle.mbe_semantics.specs.Syntax.Nullable.{is_refused}
use Rattle.mbe_semantics.specs.Syntax.Template.{Fault, Mode, empty_repetition, pattern, template}
use Rattle.mbe_semantics.specs.Syntax.Template.{one, typed, opens_group, opens_repetition, head}
use Rattle.mbe_semantics.specs.Syntax.Template.{Template}
use Rattle.mbe_semantics.specs.Syntax.Definition.{Rule, RuleTrees, rule_trees_at, AreParts}
use Rattle.mbe_semantics.specs.Syntax.Definition.{after_separator}
use Rattle.mbe_parser.specs.FaultOffsets.{pattern_offset, RulesFaultAt, OneRuleFaultAt}

module _ (HasEdition : SyntaxContext → Edition → Type 0) where
  -- the first refused repetition in reading order, an outer one before those inside it; its group
  -- is after its `$`
  pub data EmptyAt (mode : Mode) : Forest → ℕ → Type 0 where
    here : (f inside rest : Forest) (separator : Option Separator) (repeat : RepeatKind)
        (body : Ops) →
        head mode f ≡ Ok (opens_repetition separator repeat inside rest)
        → Template HasEdition mode inside body →
        (is_unseparated separator && is_nullable body) ≡ true → EmptyAt mode f 1
    in_group : (f inside rest : Forest) (d : Delimiter) (n : ℕ) →
        head mode f ≡ Ok (opens_group d inside rest) → EmptyAt mode inside n → EmptyAt mode f (1 + n)
    in_repetition : (f inside rest : Forest) (separator : Option Separator) (repeat : RepeatKind)
        (body : Ops) (n : ℕ) →
        head mode f ≡ Ok (opens_repetition separator repeat inside rest)
        → Template HasEdition mode inside body →
        (is_unseparated separator && is_nullable body) ≡ false → EmptyAt mode inside n
        → EmptyAt mode f (2 + n)
    after_token : (f rest : Forest) (o : Op) (n : ℕ) →
        head mode f ≡ Ok (one o rest) → EmptyAt mode rest n → EmptyAt mode f (passed f rest + n)
    after_variable : (f rest : Forest) (name : Name) (span : Span) (specifier : Ident) (n : ℕ) →
        head mode f ≡ Ok (typed name span specifier rest) → EmptyAt mode rest n
        → EmptyAt mode f (passed f rest + n)
    after_group : (f inside rest : Forest) (d : Delimiter) (body : Ops) (n : ℕ) →
        head mode f ≡ Ok (opens_group d inside rest) → Template HasEdition mode inside body →
        is_refused body ≡ false → EmptyAt mode rest n → EmptyAt mode f (passed f rest + n)
    after_repetition : (f inside rest : Forest) (separator : Option Separator) (repeat : RepeatKind)
        (body : Ops)
        (n : ℕ) → head mode f ≡ Ok (opens_repetition separator repeat inside rest) →
        Template HasEdition mode inside body → is_refused_op (repetition body separator repeat)
        ≡ false →
        EmptyAt mode rest n → EmptyAt mode f (passed f rest + n)

  -- the first rule with a refused repetition: the number of rules before it, and the offset
  pub data RulesEmptyAt (separators : List ℕ) : Forest → ℕ → ℕ → Type 0 where
    in_rule : (f : Forest) (o : RuleTrees) (r : Rule) (n : ℕ) → rule_trees_at f ≡ Ok o
        → AreParts HasEdition o r
        → EmptyAt pattern o.reads n → RulesEmptyAt separators f 0 (pattern_offset f o + n)
    separated : (f rest : Forest) (o : RuleTrees) (r : Rule) (rule n : ℕ) → rule_trees_at f ≡ Ok o
        → AreParts HasEdition o r → is_refused r.reads ≡ false → after_separator separators o.back
        ≡ Some rest
        → RulesEmptyAt separators rest rule n
        → RulesEmptyAt separators f (suc rule) (passed f rest + n)

  -- Why the rules are refused, the number of rules before, and the offset.
  pub data RefusedAt (separators : List ℕ) (missing : Fault) (f : Forest) : Fault → ℕ → ℕ
      → Type 0 where
    by_fault : (fault : Fault) (rule n : ℕ)
        → RulesFaultAt HasEdition separators missing fault f rule n
        → RefusedAt separators missing f fault rule n
    by_empty : (rule n : ℕ) → RulesEmptyAt separators f rule n
        → RefusedAt separators missing f empty_repetition rule n

  -- the offset of the first refused repetition of these ops, if they have one
  abbrev pub IsEmptyOffset : Mode → Forest → Ops → Option ℕ → Type 0
  IsEmptyOffset mode f os None = is_refused os ≡ false
  IsEmptyOffset mode f os (Some n) = (is_refused os ≡ true) × EmptyAt mode f n

  -- the same for the rule in front
  abbrev pub IsRuleEmpty : Forest → Rule → Option ℕ → Type 0
  IsRuleEmpty f r None = is_refused r.reads ≡ false
  IsRuleEmpty f r (Some n) = (is_refused r.reads ≡ true)
      × (o : RuleTrees) × (k : ℕ) × (rule_trees_at f ≡ Ok o) × EmptyAt pattern o.reads k
      × (n ≡ pattern_offset f o + k)

  -- why the one rule of a `macro` with arguments is refused, and the offset in the arguments or in
  -- the body
  pub data OneRefusedAt (arguments body : Forest) : Fault → Mode → ℕ → Type 0 where
    by_fault_of : (fault : Fault) (part : Mode) (n : ℕ)
        → OneRuleFaultAt HasEdition arguments body fault part n
        → OneRefusedAt arguments body fault part n
    by_empty_of : (reads writes : Ops) (n : ℕ) → Template HasEdition pattern arguments reads
        → Template HasEdition template body writes → EmptyAt pattern arguments n
        → OneRefusedAt arguments body empty_repetition pattern n

-- ---- one repetition after the other

-- the first refused repetition of a repetition that begins at its `$`; `inside` is that of its body
abbrev pub first_in_repetition : Option Separator → Ops → Option ℕ → Option ℕ
first_in_repetition separator body inside =
    if is_unseparated separator && is_nullable body then Some 1 else option_map (λ n. 2 + n) inside

-- the first of two: the second is in trees that have `before` more flat tokens in front
abbrev pub first_offset : Option ℕ → Option ℕ → ℕ → Option ℕ
first_offset (Some n) next before = Some n
first_offset None next before = option_map (λ n. before + n) next
