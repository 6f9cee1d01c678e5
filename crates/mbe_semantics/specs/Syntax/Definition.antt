-- How trees are read as the rules of a definition, and the definition's error (as in
-- rust-analyzer). That a stray token after a rule is always reported is the project's own choice.
use Rattle.std.specs.Prelude.{◌≡◌, ◌≢◌, ℕ, ◌==◌, if◌then◌else◌, List, [], ◌∷◌, codes, Option, Some}
use Rattle.std.specs.Prelude.{None, Result, Ok, Err}
use Rattle.std.specs.List.{list_any}
use Rattle.mbe_tt.specs.declared.span.SyntaxContext.{SyntaxContext}
use Rattle.mbe_tt.specs.declared.span.Edition.{Edition}
use Rattle.mbe_semantics.specs.declared.macro_call_style.MacroCallStyle.{MacroCallStyle}
use Rattle.mbe_semantics.specs.declared.macro_call_style.MacroCallStyle.TheVariants.{FnLike, Attr}
use Rattle.mbe_semantics.specs.declared.macro_call_style.MacroCallStyle.TheVariants.{Derive}
use Rattle.mbe_tt.specs.Trees.Leaf.{ident, punct}
use Rattle.mbe_tt.specs.Trees.Tree.{Forest, none, leaf, group}
use Rattle.mbe_semantics.specs.Syntax.Op.{Ops}
use Rattle.mbe_semantics.specs.Syntax.Template.{pattern, template, Fault, expected}
use Rattle.mbe_semantics.specs.Syntax.Template.{empty_repetition, Template, TemplateFault}
use Rattle.mbe_tt.specs.Trees.Leaf.{is_text}
use Rattle.mbe_semantics.specs.Syntax.Nullable.{is_refused}

-- a rule: the style of calls that it is for, its pattern and its template
pub record Rule : Type 0 where
  pub style : MacroCallStyle
  pub reads : Ops
  pub writes : Ops

-- the trees of one rule before its pattern and its template are read, and the trees after the rule
pub record RuleTrees : Type 0 where
  pub style : MacroCallStyle
  pub reads : Forest
  pub writes : Forest
  pub back : Forest

-- the second group
abbrev pub template_at : MacroCallStyle → Forest → Forest → Result RuleTrees Fault
template_at style reads (group d inside rest) =
    Ok (record { style = style; reads = reads; writes = inside; back = rest })
template_at style reads _ = Err (expected (codes "expected subtree"))

-- `>`, and the second group
abbrev pub greater_at : MacroCallStyle → Forest → Forest → Result RuleTrees Fault
greater_at style reads (leaf (punct p) rest) =
    if p.char == 62 then template_at style reads rest else Err (expected (codes "expected `>`"))
greater_at style reads _ = Err (expected (codes "expected `>`"))

-- `=`, and what follows
abbrev pub equals_at : MacroCallStyle → Forest → Forest → Result RuleTrees Fault
equals_at style reads (leaf (punct p) rest) =
    if p.char == 61 then greater_at style reads rest else Err (expected (codes "expected `=`"))
equals_at style reads _ = Err (expected (codes "expected `=`"))

-- the first group, and what follows
abbrev pub pattern_at : MacroCallStyle → Forest → Result RuleTrees Fault
pattern_at style (group d inside rest) = equals_at style inside rest
pattern_at style _ = Err (expected (codes "expected subtree"))

-- a group after `attr` or `derive`
abbrev pub styled_group_at : MacroCallStyle → Forest → Result RuleTrees Fault
styled_group_at style (group d inside rest) = pattern_at style rest
styled_group_at style _ = Err (expected (codes "expected `()`"))

-- `attr` or `derive`, or nothing for a function-like call
abbrev pub style_at : Forest → Result RuleTrees Fault
style_at (leaf (ident i) rest) =
    if is_text i.sym (codes "attr") then styled_group_at Attr rest
    else if is_text i.sym (codes "derive") then styled_group_at Derive rest
    else pattern_at FnLike (leaf (ident i) rest)
style_at f = pattern_at FnLike f

-- one rule: `unsafe`, a style, the pattern's group, `=>`, the template's group; or the first fault
abbrev pub rule_trees_at : Forest → Result RuleTrees Fault
rule_trees_at (leaf (ident i) rest) =
    if is_text i.sym (codes "unsafe") then style_at rest else style_at
    (leaf (ident i) rest)
rule_trees_at f = style_at f

-- the trees of the next rules, if a separating char or the end comes next
abbrev pub after_separator : List ℕ → Forest → Option Forest
after_separator chars none = Some none
after_separator chars (leaf (punct p) rest) =
    if list_any (λ c. p.char == c) chars then Some rest else None
after_separator chars _ = None

-- a refused pattern is reported in place of any earlier fault
abbrev pub with_refusal : List Rule → Option Fault → Option Fault
with_refusal rs fault =
    if list_any (λ r. is_refused r.reads) rs then Some empty_repetition else fault

module _ (HasEdition : SyntaxContext → Edition → Type 0) where
  -- the pattern and the template of a rule are read
  pub record AreParts (o : RuleTrees) (r : Rule) : Type 0 where
    pub style : r.style ≡ o.style
    pub reads : Template HasEdition pattern o.reads r.reads
    pub writes : Template HasEdition template o.writes r.writes

  -- the first fault of the pattern or, if it has none, of the template
  pub data PartsFault (o : RuleTrees) (fault : Fault) : Type 0 where
    in_pattern : TemplateFault HasEdition pattern fault o.reads → PartsFault o fault
    in_template : (reads : Ops) → Template HasEdition pattern o.reads reads
        → TemplateFault HasEdition template fault o.writes → PartsFault o fault

  -- The rules up to the first fault, and that fault. One of the chars separates two rules.
  pub data Rules (separators : List ℕ) (missing : Fault) : Forest → List Rule → Option Fault
      → Type 0 where
    ended : Rules separators missing none [] None
    no_rule : (l : Forest) (fault : Fault) → l ≢ none → rule_trees_at l ≡ Err fault
        → Rules separators missing l [] (Some fault)
    faulty_rule : (f : Forest) (o : RuleTrees) (fault : Fault) →
        rule_trees_at f ≡ Ok o → PartsFault o fault → Rules separators missing f [] (Some fault)
    unseparated : (f : Forest) (o : RuleTrees) (r : Rule) →
        rule_trees_at f ≡ Ok o → AreParts o r → after_separator separators o.back ≡ None →
        Rules separators missing f (r ∷ []) (Some missing)
    separated : (f rest : Forest) (o : RuleTrees) (r : Rule) (rs : List Rule) (fault : Option Fault)
        →
        rule_trees_at f ≡ Ok o → AreParts o r → after_separator separators o.back ≡ Some rest →
        Rules separators missing rest rs fault → Rules separators missing f (r ∷ rs) fault

  -- the rules and the fault of `macro_rules`
  abbrev pub IsMacroRules : Forest → List Rule → Option Fault → Type 0
  IsMacroRules f rs fault =
      (first : Option Fault) × Rules (59 ∷ []) (expected (codes "expected `;`")) f rs first
      × (fault ≡ with_refusal rs first)

  -- the rules and the fault of the body of `macro`
  abbrev pub IsMacroBody : Forest → List Rule → Option Fault → Type 0
  IsMacroBody f rs fault =
      (first : Option Fault) × Rules (59 ∷ 44
      ∷ []) (expected (codes "expected `;` or `,` to delimit rules")) f rs first
      × (fault ≡ with_refusal rs first)

  -- the rule and the fault of `macro` with arguments, which are its pattern
  pub data IsMacroOfArguments (arguments body : Forest) : List Rule → Option Fault → Type 0 where
    one_rule : (r : Rule) → AreParts
        (record { style = FnLike; reads = arguments; writes = body; back = none }) r →
        IsMacroOfArguments arguments body (r ∷ []) (with_refusal (r ∷ []) None)
    faulty : (fault : Fault) → PartsFault
        (record { style = FnLike; reads = arguments; writes = body; back = none })
        fault →
        IsMacroOfArguments arguments body [] (Some fault)
