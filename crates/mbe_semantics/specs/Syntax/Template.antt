-- How trees are read as a pattern or a template, and the first fault in them (as in rust-analyzer).
use Rattle.std.specs.Prelude.{◌≡◌, ℕ, not, ◌&&◌, ◌==◌, nat_le, if◌then◌else◌, List, [], ◌∷◌, length}
use Rattle.std.specs.Prelude.{codes, Option, Some, None, option_map, option_and_then, Result, Ok}
use Rattle.std.specs.Prelude.{Err, IsTrue, IsFalse}
use Rattle.mbe_tt.specs.Trees.Leaf.{is_text, is_underscore}
use Rattle.mbe_tt.specs.Trees.Editions.{at_least_2021, at_least_2024}
use Rattle.mbe_tt.specs.declared.span.Span.{Span}
use Rattle.mbe_tt.specs.declared.span.SyntaxContext.{SyntaxContext}
use Rattle.mbe_tt.specs.declared.span.Edition.{Edition}
use Rattle.mbe_semantics.specs.declared.fragment_kinds.ExprKind.TheVariants as exprs
use Rattle.mbe_semantics.specs.declared.fragment_kinds.MetaVarKind.{MetaVarKind}
use Rattle.mbe_semantics.specs.declared.fragment_kinds.MetaVarKind.TheVariants as kinds
use Rattle.mbe_semantics.specs.declared.fragment_kinds.RepeatKind.{RepeatKind}
use Rattle.mbe_semantics.specs.declared.fragment_kinds.RepeatKind.TheVariants as repeats
use Rattle.mbe_tt.specs.Trees.Leaf.{Ident, Leaf, ident, literal, punct}
use Rattle.mbe_tt.specs.declared.tt.IdentIsRaw.TheVariants as raw
use Rattle.mbe_tt.specs.declared.tt.Punct.{Punct}
use Rattle.mbe_tt.specs.declared.tt.Delimiter.{Delimiter}
use Rattle.mbe_tt.specs.declared.tt.DelimiterKind.{DelimiterKind}
use Rattle.mbe_tt.specs.declared.tt.DelimiterKind.TheVariants as delimiters
use Rattle.mbe_tt.specs.Trees.Tree.{Forest, none, leaf, group, cut_trees, is_bool_text}
use Rattle.mbe_tt.specs.Trees.Glue.{glue}
use Rattle.mbe_semantics.specs.Fragments.Kinds.{kind_named, kind_names}
use Rattle.mbe_semantics.specs.Syntax.Op as ops
use Rattle.mbe_semantics.specs.Syntax.Op.{Name, Separator, ident_separator, literal_separator}
use Rattle.mbe_semantics.specs.Syntax.Op.{punct_separator, lifetime_separator, Element}
use Rattle.mbe_semantics.specs.Syntax.Op.{ident_element, literal_element, variable_element}
use Rattle.mbe_semantics.specs.Syntax.Op.{Expression, Op, Ops, no_ops, op}
use Rattle.mbe_tt.specs.Trees.Literals.{has_no_suffix, decimal_value, literal_text}

-- The two sides of a rule. They read some trees differently.
pub data Mode : Type 0 where
  pattern : Mode
  template : Mode

-- what a definition's error says (rust-analyzer's `ParseError`)
pub data Fault : Type 0 where
  unexpected_token : List ℕ → Fault
  expected : List ℕ → Fault
  invalid_repeat : Fault
  empty_repetition : Fault

-- ---- the suffix of a repetition, which is read before its body

-- the leaves before the first `*`, `+` or `?`, which of the three it is, and the trees after it
pub record Suffix : Type 0 where
  pub leaves : List Leaf
  pub repeat : RepeatKind
  pub back : Forest

-- `*`, `+` or `?`
abbrev pub repeat_of : ℕ → Option RepeatKind
repeat_of c =
    if c == 42 then Some repeats.ZeroOrMore
    else if c == 43 then Some repeats.OneOrMore
    else if c == 63 then Some repeats.ZeroOrOne
    else None

-- one leaf more at the front of the suffix
abbrev pub leaf_in_suffix : Leaf → Suffix → Suffix
leaf_in_suffix l s = record s { leaves = l ∷ s.leaves }

-- `*`, `+` and `?` end the suffix. Any other punct is part of the separator.
abbrev pub punct_in_suffix : Punct → Option RepeatKind → Forest → Option Suffix → Option Suffix
punct_in_suffix p (Some repeat) back more =
    Some (record { leaves = []; repeat = repeat; back = back })
punct_in_suffix p None back more = option_map (leaf_in_suffix (punct p)) more

-- none if a group or the end comes before `*`, `+` or `?`
abbrev pub suffix_of : Forest → Option Suffix
suffix_of none = None
suffix_of (group d inside rest) = None
suffix_of (leaf (literal l) rest) = option_map (leaf_in_suffix (literal l)) (suffix_of rest)
suffix_of (leaf (ident i) rest) = option_map (leaf_in_suffix (ident i)) (suffix_of rest)
suffix_of (leaf (punct p) rest) = punct_in_suffix p (repeat_of p.char) rest (suffix_of rest)

-- the leaves, if all of them are puncts
abbrev pub all_puncts : List Leaf → Option (List Punct)
all_puncts [] = Some []
all_puncts (punct p ∷ ls) = option_map (λ ps. p ∷ ps) (all_puncts ls)
all_puncts _ = None

-- a separator has at most three puncts
abbrev pub up_to_three : List Punct → Option Separator
up_to_three ps = if nat_le (length ps) 3 then Some (punct_separator ps) else None

-- The separator that the leaves before `*`, `+` or `?` are. It is none if they aren't one. No
-- leaves are no separator.
abbrev pub separator_of : List Leaf → Option (Option Separator)
separator_of [] = Some None
separator_of (ident i ∷ []) = Some (Some (ident_separator i))
separator_of (literal l ∷ []) = Some (Some (literal_separator l))
separator_of (punct p ∷ ident i ∷ []) =
    if p.char == 39 then Some (Some (lifetime_separator p i)) else None
separator_of ls = option_map Some (option_and_then up_to_three (all_puncts ls))

-- ---- metavariable expressions

-- the value, if nothing follows
abbrev pub if_end : {A : Type 0} → Forest → A → Option A
if_end none x = Some x
if_end (leaf l rest) x = None
if_end (group d inside rest) x = None

-- `$x`, and the trees after it
abbrev pub dollar_name : Forest → Option (Ident × Forest)
dollar_name (leaf (punct p) (leaf (ident i) rest)) =
    if p.char == 36 && not (is_underscore i.sym) then Some (i, rest) else None
dollar_name _ = None

-- the depth, which is 0 if there are no trees
abbrev pub depth_of : Forest → Option ℕ
depth_of none = Some 0
depth_of (leaf (literal l) none) = if has_no_suffix l then decimal_value (literal_text l) else None
depth_of _ = None

-- `, d`, or nothing
abbrev pub depth_after_comma : Forest → Option ℕ
depth_after_comma none = Some 0
depth_after_comma (leaf (punct p) rest) = if p.char == 44 then depth_of rest else None
depth_after_comma _ = None

-- one element more at the front
abbrev pub element_before : Element → Option (List Element) → Option (List Element)
element_before e more = option_map (λ es. e ∷ es) more

-- elements with commas between them; there may be a comma after the last
abbrev mutual
  pub elements_of : Forest → Option (List Element)
  elements_of none = Some []
  elements_of (leaf (literal l) rest) =
      element_before (literal_element l) (elements_after_comma rest)
  elements_of (leaf (ident i) rest) = element_before (ident_element i) (elements_after_comma rest)
  elements_of (leaf (punct p) (leaf (ident i) rest)) =
      if p.char == 36 then element_before (variable_element i) (elements_after_comma rest) else None
  elements_of _ = None

  pub elements_after_comma : Forest → Option (List Element)
  elements_after_comma none = Some []
  elements_after_comma (leaf (punct p) rest) = if p.char == 44 then elements_of rest else None
  elements_after_comma _ = None

-- `concat` needs at least two elements
abbrev pub if_two : Span → List Element → Option Expression
if_two span elements = if nat_le 2 (length elements) then Some (ops.concat elements span) else None

-- the arguments of `ignore`: `$x`
abbrev pub ignore_of : Forest → Option Expression
ignore_of f = option_and_then (λ x. if_end x.1 (ops.ignore (x.0).sym (x.0).span)) (dollar_name f)

-- the arguments of `count`: `$x` or `$x, d`
abbrev pub count_of : Forest → Option Expression
count_of f =
    option_and_then (λ x. option_map (ops.count (x.0).sym) (depth_after_comma x.1)) (dollar_name f)

-- the arguments of `concat`, which is at that span
abbrev pub concat_of : Span → Forest → Option Expression
concat_of span f = option_and_then (if_two span) (elements_of f)

-- `ignore($x)`, `count($x, d)`, `index(d)`, `len(d)` and `concat(e, ..)`
abbrev pub arguments_of : Ident → Forest → Option Expression
arguments_of word inside =
    if is_text word.sym (codes "ignore") then ignore_of inside
    else if is_text word.sym (codes "count") then count_of inside
    else if is_text word.sym (codes "index") then option_map ops.index (depth_of inside)
    else if is_text word.sym (codes "len") then option_map ops.len (depth_of inside)
    else if is_text word.sym (codes "concat") then concat_of word.span inside
    else None

-- The content of `${..}`. The trees after the arguments are ignored.
abbrev pub expression_of : Forest → Option Expression
expression_of (leaf (ident word) (group d inside rest)) =
    expression_if_parenthesis d.kind word inside
  where
    expression_if_parenthesis : DelimiterKind → Ident → Forest → Option Expression
    expression_if_parenthesis delimiters.Parenthesis word inside =
        if is_underscore word.sym then None else arguments_of word inside
    expression_if_parenthesis _ word inside = None
expression_of _ = None

-- ---- the front of a pattern or a template, without the content of a group

-- the part at the front, and the trees inside and after it
pub data Head : Type 0 where
  ended : Head
  -- a complete op
  one : Op → Forest → Head
  -- a variable with its specifier
  typed : Name → Span → Ident → Forest → Head
  opens_group : Delimiter → Forest → Forest → Head
  opens_repetition : Option Separator → RepeatKind → Forest → Forest → Head

-- the fault of a variable in a pattern without `:` and an identifier
abbrev pub missing_specifier : Result Head Fault
missing_specifier = Err (unexpected_token (codes "missing fragment specifier"))

-- `:` and an identifier other than `_`
abbrev pub specifier_at : Name → Span → Forest → Result Head Fault
specifier_at name span (leaf (punct p) (leaf (ident i) rest)) =
    if p.char == 58 && not (is_underscore i.sym) then Ok (typed name span i rest)
    else missing_specifier
specifier_at name span _ = missing_specifier

-- In a pattern a variable has a specifier. In a template it is its name alone.
abbrev pub variable_at : Mode → Name → Span → Forest → Result Head Fault
variable_at pattern name span rest = specifier_at name span rest
variable_at template name span rest = Ok (one (ops.variable name None span) rest)

-- `$$` emits the second `$`, and is allowed in templates only
abbrev pub second_dollar : Mode → Punct → Forest → Result Head Fault
second_dollar pattern p rest =
    Err (unexpected_token (codes "`$$` is not allowed on the pattern side"))
second_dollar template p rest = Ok (one (ops.token (ops.puncts (p ∷ []))) rest)

-- a repetition, if the leaves before `*`, `+` or `?` are a separator
abbrev pub repetition_with : RepeatKind → Forest → Forest → Option (Option Separator)
    → Result Head Fault
repetition_with repeat inside back (Some separator) =
    Ok (opens_repetition separator repeat inside back)
repetition_with repeat inside back None = Err invalid_repeat

-- `$(..)` and its suffix
abbrev pub repetition_at : Forest → Option Suffix → Result Head Fault
repetition_at inside (Some s) = repetition_with s.repeat inside s.back (separator_of s.leaves)
repetition_at inside None = Err invalid_repeat

-- `${..}` is allowed in templates only
abbrev pub expression_at : Mode → Forest → Option Expression → Result Head Fault
expression_at pattern rest e = Err (unexpected_token
    (codes "`${}` metavariable expressions are not allowed in matchers"))
expression_at template rest (Some e) = Ok (one (ops.expression e) rest)
expression_at template rest None = Err (unexpected_token (codes "invalid metavariable expression"))

-- a repetition, a metavariable expression, or a fault
abbrev pub group_after_dollar : Mode → DelimiterKind → Forest → Forest → Result Head Fault
group_after_dollar mode delimiters.Parenthesis inside rest = repetition_at inside (suffix_of rest)
group_after_dollar mode delimiters.Brace inside rest =
    expression_at mode rest (expression_of inside)
group_after_dollar mode _ inside rest =
    Err (expected (codes "expected `$()` repetition or `${}` expression"))

-- `$crate`, with the span of `crate`
abbrev pub dollar_crate : Ident → Op
dollar_crate i = ops.token (ops.ident (record i { sym = codes "$crate"; is_raw = raw.No }))

-- What `$` and the tree after it are. A `$` at the end is a punct.
abbrev pub after_dollar : Mode → Punct → Forest → Result Head Fault
after_dollar mode p none = Ok (one (ops.token (ops.puncts (p ∷ []))) none)
after_dollar mode p (group d inside rest) = group_after_dollar mode d.kind inside rest
after_dollar mode p (leaf (ident i) rest) =
    if is_text i.sym (codes "crate") then Ok (one (dollar_crate i) rest) else variable_at mode i.sym
    i.span rest
after_dollar mode p (leaf (literal l) rest) =
    if is_bool_text l.text_and_suffix
    then variable_at mode l.text_and_suffix l.span rest else Err (expected (codes "expected ident"))
after_dollar mode p (leaf (punct q) rest) =
    if q.char == 36 then second_dollar mode q rest else Err (expected (codes "expected ident"))

-- the puncts that join into one operator
abbrev pub puncts_at : Forest → Head
puncts_at f = one (ops.token (ops.puncts (glue f))) ((cut_trees (length (glue f)) f).back)

-- the part at the front of any trees
abbrev pub head : Mode → Forest → Result Head Fault
head mode none = Ok ended
head mode (group d inside rest) = Ok (opens_group d inside rest)
head mode (leaf (literal l) rest) = Ok (one (ops.token (ops.literal l)) rest)
head mode (leaf (ident i) rest) = Ok (one (ops.token (ops.ident i)) rest)
head mode (leaf (punct p) rest) = if p.char == 36 then after_dollar mode p rest else Ok
    (puncts_at (leaf (punct p) rest))

-- ---- specifiers

-- the kind of `pat` in an edition
abbrev pub pat_kind : Edition → MetaVarKind
pat_kind e = if at_least_2021 e then kinds.Pat else kinds.PatParam

-- the kind of `expr` in an edition
abbrev pub expr_kind : Edition → MetaVarKind
expr_kind e = kinds.Expr (if at_least_2024 e then exprs.Expr else exprs.Expr2021)

module _ (HasEdition : SyntaxContext → Edition → Type 0) where
  -- The specifier means this kind, in an edition that its own context may have. An unknown
  -- specifier has no kind.
  pub data Specifies (specifier : Ident) : Option MetaVarKind → Type 0 where
    dated_pat : (e : Edition) → IsTrue (is_text specifier.sym (codes "pat"))
        → HasEdition (specifier.span).ctx e
        → Specifies specifier (Some (pat_kind e))
    dated_expr : (e : Edition) → IsTrue (is_text specifier.sym (codes "expr"))
        → HasEdition (specifier.span).ctx e
        → Specifies specifier (Some (expr_kind e))
    undated : IsFalse (is_text specifier.sym (codes "pat"))
        → IsFalse (is_text specifier.sym (codes "expr"))
        → Specifies specifier (kind_named kind_names specifier.sym)

  -- the trees are read as these ops
  pub data Template (mode : Mode) : Forest → Ops → Type 0 where
    nothing : (f : Forest) → head mode f ≡ Ok ended → Template mode f no_ops
    token : (f rest : Forest) (o : Op) (os : Ops) →
        head mode f ≡ Ok (one o rest) → Template mode rest os → Template mode f (op o os)
    variable : (f rest : Forest) (name : Name) (span : Span) (specifier : Ident)
        (kind : Option MetaVarKind) (os : Ops)
        →
        head mode f ≡ Ok (typed name span specifier rest) → Specifies specifier kind →
        Template mode rest os → Template mode f (op (ops.variable name kind span) os)
    grouped : (f inside rest : Forest) (d : Delimiter) (body os : Ops) →
        head mode f ≡ Ok (opens_group d inside rest) → Template mode inside body →
        Template mode rest os → Template mode f (op (ops.group d body) os)
    repeated : (f inside rest : Forest) (separator : Option Separator) (repeat : RepeatKind)
        (body os : Ops) →
        head mode f ≡ Ok (opens_repetition separator repeat inside rest) → Template mode inside body
        →
        Template mode rest os → Template mode f (op (ops.repetition body separator repeat) os)

  -- the first fault in the trees, in the order of reading
  pub data TemplateFault (mode : Mode) (fault : Fault) : Forest → Type 0 where
    here : (f : Forest) → head mode f ≡ Err fault → TemplateFault mode fault f
    in_group : (f inside rest : Forest) (d : Delimiter) →
        head mode f ≡ Ok (opens_group d inside rest) → TemplateFault mode fault inside
        → TemplateFault mode fault f
    in_repetition : (f inside rest : Forest) (separator : Option Separator) (repeat : RepeatKind) →
        head mode f ≡ Ok (opens_repetition separator repeat inside rest)
        → TemplateFault mode fault inside
        → TemplateFault mode fault f
    after_token : (f rest : Forest) (o : Op) →
        head mode f ≡ Ok (one o rest) → TemplateFault mode fault rest → TemplateFault mode fault f
    after_variable : (f rest : Forest) (name : Name) (span : Span) (specifier : Ident) →
        head mode f ≡ Ok (typed name span specifier rest) → TemplateFault mode fault rest
        → TemplateFault mode fault f
    following_group : (f inside rest : Forest) (d : Delimiter) (body : Ops) →
        head mode f ≡ Ok (opens_group d inside rest) → Template mode inside body →
        TemplateFault mode fault rest → TemplateFault mode fault f
    after_repetition : (f inside rest : Forest) (separator : Option Separator) (repeat : RepeatKind)
        (body : Ops) →
        head mode f ≡ Ok (opens_repetition separator repeat inside rest) → Template mode inside body
        →
        TemplateFault mode fault rest → TemplateFault mode fault f
