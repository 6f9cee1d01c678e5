-- The offset at which a definition is refused: the number of flat tokens before the token that is
-- refused.
use Rattle.std.specs.Prelude.{◌≡◌, ◌≢◌, ◌+◌, ◌-◌, ℕ, suc, List, Option, Some, None, Ok, Err}
use Rattle.mbe_tt.specs.declared.span.SyntaxContext.{SyntaxContext}
use Rattle.mbe_tt.specs.declared.span.Edition.{Edition}
use Rattle.mbe_tt.specs.declared.span.Span.{Span}
use Rattle.mbe_tt.specs.declared.tt.Delimiter.{Delimiter}
use Rattle.mbe_tt.specs.Trees.Leaf.{Ident}
use Rattle.mbe_tt.specs.Trees.Tree.{Forest, none, flat_len, passed}
use Rattle.mbe_semantics.specs.declared.fragment_kinds.RepeatKind.{RepeatKind}
use Rattle.mbe_semantics.specs.Syntax.Op.{Name, Op, Ops, Separator}
use Rattle.mbe_semantics.specs.Syntax.Template.{Mode, pattern, template, Fault, one, typed}
use Rattle.mbe_semantics.specs.Syntax.Template.{opens_group, opens_repetition, head, Template}
use Rattle.mbe_semantics.specs.Syntax.Definition.{Rule, RuleTrees, rule_trees_at, AreParts}
use Rattle.mbe_semantics.specs.Syntax.Definition.{after_separator}
use Rattle.mbe_parser.specs.RuleStops.{stop_in_rule}

-- ---- the trees of a rule

-- the number of flat tokens before the content of a rule's template; its closing and the trees
-- after the rule follow
abbrev pub template_offset : Forest → RuleTrees → ℕ
template_offset f o = passed f o.back - (flat_len o.writes + 1)

-- the number before the content of its pattern; a closing, `=`, `>` and an opening follow
abbrev pub pattern_offset : Forest → RuleTrees → ℕ
pattern_offset f o = template_offset f o - (flat_len o.reads + 4)

-- ---- faults

module _ (HasEdition : SyntaxContext → Edition → Type 0) where
  -- the first fault of the trees in reading order, and its offset: the head there is refused
  pub data TemplateFaultAt (mode : Mode) (fault : Fault) : Forest → ℕ → Type 0 where
    here : (f : Forest) → head mode f ≡ Err fault → TemplateFaultAt mode fault f 0
    in_group : (f inside rest : Forest) (d : Delimiter) (n : ℕ) →
        head mode f ≡ Ok (opens_group d inside rest) → TemplateFaultAt mode fault inside n
        → TemplateFaultAt mode fault f (1 + n)
    in_repetition : (f inside rest : Forest) (separator : Option Separator) (repeat : RepeatKind)
        (n : ℕ) →
        head mode f ≡ Ok (opens_repetition separator repeat inside rest)
        → TemplateFaultAt mode fault inside n
        → TemplateFaultAt mode fault f (2 + n)
    after_token : (f rest : Forest) (o : Op) (n : ℕ) →
        head mode f ≡ Ok (one o rest) → TemplateFaultAt mode fault rest n
        → TemplateFaultAt mode fault f (passed f rest + n)
    after_variable : (f rest : Forest) (name : Name) (span : Span) (specifier : Ident) (n : ℕ) →
        head mode f ≡ Ok (typed name span specifier rest) → TemplateFaultAt mode fault rest n
        → TemplateFaultAt mode fault f (passed f rest + n)
    after_group : (f inside rest : Forest) (d : Delimiter) (body : Ops) (n : ℕ) →
        head mode f ≡ Ok (opens_group d inside rest) → Template HasEdition mode inside body →
        TemplateFaultAt mode fault rest n → TemplateFaultAt mode fault f (passed f rest + n)
    after_repetition : (f inside rest : Forest) (separator : Option Separator) (repeat : RepeatKind)
        (body : Ops)
        (n : ℕ) → head mode f ≡ Ok (opens_repetition separator repeat inside rest) →
        Template HasEdition mode inside body → TemplateFaultAt mode fault rest n
        → TemplateFaultAt mode fault f (passed f rest + n)

  -- the first fault of the rule in front, and its offset
  pub data RuleFaultAt (fault : Fault) (f : Forest) : ℕ → Type 0 where
    in_trees : rule_trees_at f ≡ Err fault → RuleFaultAt fault f (passed f (stop_in_rule f))
    in_pattern : (o : RuleTrees) (n : ℕ) → rule_trees_at f ≡ Ok o
        → TemplateFaultAt pattern fault o.reads n
        → RuleFaultAt fault f (pattern_offset f o + n)
    in_template : (o : RuleTrees) (reads : Ops) (n : ℕ) → rule_trees_at f ≡ Ok o
        → Template HasEdition pattern o.reads reads → TemplateFaultAt template fault o.writes n
        → RuleFaultAt fault f (template_offset f o + n)

  -- the first fault of the rules that these chars separate, the number of rules before it, and its
  -- offset
  pub data RulesFaultAt (separators : List ℕ) (missing fault : Fault) : Forest → ℕ → ℕ
      → Type 0 where
    in_rule : (f : Forest) (n : ℕ) → f ≢ none → RuleFaultAt fault f n
        → RulesFaultAt separators missing fault f 0 n
    unseparated : (f : Forest) (o : RuleTrees) (r : Rule) → rule_trees_at f ≡ Ok o
        → AreParts HasEdition o r
        → after_separator separators o.back ≡ None → missing ≡ fault
        → RulesFaultAt separators missing fault f 1 (passed f o.back)
    separated : (f rest : Forest) (o : RuleTrees) (r : Rule) (rule n : ℕ) → rule_trees_at f ≡ Ok o
        → AreParts HasEdition o r → after_separator separators o.back ≡ Some rest
        → RulesFaultAt separators missing fault rest rule n
        → RulesFaultAt separators missing fault f (suc rule) (passed f rest + n)

  -- the first fault of the one rule of a `macro` with arguments: in the arguments, or else in the
  -- body
  abbrev pub OneRuleFaultAt : Forest → Forest → Fault → Mode → ℕ → Type 0
  OneRuleFaultAt arguments body fault pattern n = TemplateFaultAt pattern fault arguments n
  OneRuleFaultAt arguments body fault template n =
      (reads : Ops) × Template HasEdition pattern arguments reads
      × TemplateFaultAt template fault body n
