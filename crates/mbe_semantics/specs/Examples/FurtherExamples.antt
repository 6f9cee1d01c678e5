-- More expansions, and definitions with a fault.
use Rattle.std.specs.Prelude.{◌≡◌, ℕ, ◌+◌, List, [], ◌∷◌, codes, length, Some, None}
use Rattle.mbe_tt.specs.declared.tt.DelimiterKind.TheVariants.{Parenthesis, Bracket, Invisible}
use Rattle.mbe_tt.specs.declared.tt.LitKind.{LitKind}
use Rattle.mbe_tt.specs.declared.tt.LitKind.TheVariants.{Integer, Float, Str}
use Rattle.mbe_tt.specs.declared.tt.Spacing.TheVariants.{Alone, Joint}
use Rattle.mbe_tt.specs.Trees.Leaf.{Literal, literal, ident}
use Rattle.mbe_tt.specs.Trees.Tree.{Forest, none, leaf, group}
use Rattle.mbe_tt.specs.Grammars.Grammar.{Grammar, IsLawful, accepted_front}
use Rattle.mbe_tt.specs.declared.span.Span.{Span}
use Rattle.mbe_tt.specs.declared.span.Edition.TheVariants.{Edition2018, Edition2021, Edition2024}
use Rattle.mbe_tt.specs.declared.grammar.PrefixEntryPoint.TheVariants as entries
use Rattle.mbe_semantics.specs.declared.fragment_kinds.ExprKind.TheVariants as exprs
use Rattle.mbe_semantics.specs.declared.macro_call_style.MacroCallStyle.TheVariants.{FnLike}
use Rattle.mbe_semantics.specs.declared.fragment_kinds.MetaVarKind.TheVariants as kinds
use Rattle.mbe_semantics.specs.declared.fragment_kinds.RepeatKind.TheVariants.{ZeroOrMore}
use Rattle.mbe_semantics.specs.declared.fragment_kinds.RepeatKind.TheVariants.{OneOrMore}
use Rattle.mbe_semantics.specs.Syntax.Op as ops
use Rattle.mbe_semantics.specs.Syntax.Op.{Op, Ops, no_ops, op, punct_separator}
use Rattle.mbe_semantics.specs.Fragments.Kinds.{kind_names, kind_named}
use Rattle.mbe_semantics.specs.Syntax.Template.{Fault, expected, unexpected_token, invalid_repeat}
use Rattle.mbe_semantics.specs.Syntax.Template.{empty_repetition, pat_kind, expr_kind}
use Rattle.mbe_semantics.specs.Syntax.Definition.{Rule, IsMacroRules, IsMacroBody}
use Rattle.mbe_semantics.specs.Syntax.Definition.{IsMacroOfArguments}
use Rattle.mbe_semantics.specs.Fragments.FragmentFront.{fragment_front}
use Rattle.mbe_semantics.specs.Fragments.Kinds.{stripped, as_expression}
use Rattle.mbe_semantics.specs.Readings.Verdict.{IsVerdict, stuck}
use Rattle.mbe_semantics.specs.Bindings.Environment.{fragment, list, value, no_values, Environment}
use Rattle.mbe_semantics.specs.Transcription.FragmentTrees.{IsFragmentOutput}
use Rattle.mbe_semantics.specs.Transcription.Substitution.{IsSubstitution}
use Rattle.mbe_semantics.specs.Expansion.Recovery.{IsClosest}
use Rattle.mbe_semantics.specs.Examples.Sample.{is_2024, at, ident_of, punct_of, integer_of}
use Rattle.mbe_semantics.specs.Examples.Sample.{delimiter_of, text_at, number_at, alone_at}
use Rattle.mbe_semantics.specs.Examples.Sample.{joint_at, arrow_at, parens, braces, typed_at}
use Rattle.mbe_semantics.specs.Examples.Sample.{named_at, reads_at, writes_at, ident_at, fn_like}
use Rattle.mbe_semantics.specs.Examples.Sample.{Defines, ExpandsBy}
use Rattle.mbe_semantics.specs.Examples.Sample.{open_grammar}

-- ---- `(-1) => {-1}; (- 2) => {- 2}; (- 3.0) => {- 3.0}; (@$lit:literal) => {$lit}`, with a line
-- break before each rule

abbrev pub three_at : ℕ → Literal
three_at start =
    record {
      text_and_suffix = codes "3.0";
      suffix_len = 0;
      kind = Float;
      span = at 0 start
          (start + 3);
    }

-- the rule of the first line begins at byte 1
abbrev pub sign_definition : Forest
sign_definition =
    group (parens 1 4) (alone_at 0 2 45 (number_at 0 3 (codes "1") none)) (arrow_at 6
    (group (braces 9 12) (alone_at 0 10 45 (number_at 0 11 (codes "1") none)) (alone_at 0 13 59
    (group (parens 15 19) (alone_at 0 16 45 (number_at 0 18 (codes "2") none)) (arrow_at 21
    (group (braces 24 28) (alone_at 0 25 45 (number_at 0 27 (codes "2") none)) (alone_at 0 29 59
    (group (parens 31 37) (alone_at 0 32 45 (leaf (literal (three_at 34)) none)) (arrow_at 39
    (group (braces 42 48) (alone_at 0 43 45 (leaf (literal (three_at 45)) none)) (alone_at 0 49 59
    (group (parens 51 65) (joint_at 0 52 64 (typed_at 53 (codes "lit") (codes "literal") none))
    (arrow_at 67
    (group (braces 70 75) (named_at 71 (codes "lit") none) none))))))))))))))

abbrev pub minus_at : ℕ → Op
minus_at start = ops.token (ops.puncts (punct_of 45 Alone (at 0 start (start + 1)) ∷ []))

abbrev pub literal_op : Literal → Op
literal_op l = ops.token (ops.literal l)

abbrev pub one_rule : Rule
one_rule =
    fn_like (op (minus_at 2) (op (literal_op (integer_of (codes "1") (at 0 3 4))) no_ops))
    (op (minus_at 10) (op (literal_op (integer_of (codes "1") (at 0 11 12))) no_ops))

abbrev pub two_rule : Rule
two_rule =
    fn_like (op (minus_at 16) (op (literal_op (integer_of (codes "2") (at 0 18 19))) no_ops))
    (op (minus_at 25) (op (literal_op (integer_of (codes "2") (at 0 27 28))) no_ops))

abbrev pub three_rule : Rule
three_rule = fn_like (op (minus_at 32) (op (literal_op (three_at 34)) no_ops))
    (op (minus_at 43) (op (literal_op (three_at 45)) no_ops))

abbrev pub any_literal_rule : Rule
any_literal_rule =
    fn_like (op (ops.token (ops.puncts (punct_of 64 Joint (at 0 52 53) ∷ [])))
    (op (reads_at 54 (codes "lit") kinds.Literal) no_ops))
    (op (writes_at 72 (codes "lit")) no_ops)

abbrev pub sign_rules : List Rule
sign_rules = one_rule ∷ two_rule ∷ three_rule ∷ any_literal_rule ∷ []

-- `@-1` and `- 1`
abbrev pub signed_argument : Forest
signed_argument = joint_at 1 0 64 (alone_at 1 1 45 (number_at 1 2 (codes "1") none))

abbrev pub spaced_argument : Forest
spaced_argument = alone_at 1 0 45 (number_at 1 2 (codes "1") none)

pub record SignExample : Type 0 where
  pub defines : Defines sign_definition sign_rules
  -- the sign belongs to the fragment of `$lit`
  pub taken : (g : Grammar) → IsLawful (open_grammar g)
      → ExpandsBy (open_grammar g) sign_rules signed_argument 3 3
      (alone_at 1 1 45 (number_at 1 2 (codes "1") none))
  -- spaces between tokens don't count
  pub spaced : (g : Grammar) → ExpandsBy (open_grammar g) sign_rules spaced_argument 3 0
      (alone_at 0 10 45 (number_at 0 11 (codes "1") none))

-- ---- `($(a)+*) => {}` on `a *`

abbrev pub plus_definition : Forest
plus_definition =
    group (parens 0 7) (alone_at 0 1 36 (group (parens 2 4) (text_at 0 3 (codes "a") none)
    (joint_at 0 5 43 (alone_at 0 6 42 none))))
    (arrow_at 9 (group (braces 12 13) none none))

abbrev pub plus_rule : Rule
plus_rule =
    fn_like (op (ops.repetition (op (ident_at 3 (codes "a")) no_ops) None OneOrMore)
    (op (ops.token (ops.puncts (punct_of 42 Alone (at 0 6 7) ∷ []))) no_ops)) no_ops

abbrev pub star_argument : Forest
star_argument = text_at 1 0 (codes "a") (alone_at 1 2 42 none)

-- The first of `*`, `+` and `?` ends the suffix. The `*` after it is a token of the pattern.
pub record PlusExample : Type 0 where
  pub defines : Defines plus_definition (plus_rule ∷ [])
  pub expands : (g : Grammar) → IsLawful (open_grammar g)
      → ExpandsBy (open_grammar g) (plus_rule ∷ []) star_argument 3 0 none

-- ---- invisible groups

abbrev pub hidden : Forest → Forest → Forest
hidden inside rest = group (delimiter_of Invisible (at 1 0 0) (at 1 1 1)) inside rest

abbrev pub hidden_a : Forest
hidden_a = hidden (text_at 1 0 (codes "a") none) none

abbrev pub tree_rule : Rule
tree_rule =
    fn_like (op (reads_at 2 (codes "x") kinds.Tt) no_ops) (op (writes_at 13 (codes "x")) no_ops)

abbrev pub ident_rule : Rule
ident_rule =
    fn_like (op (reads_at 2 (codes "x") kinds.Ident) no_ops) (op (writes_at 13 (codes "x")) no_ops)

abbrev pub hidden_rule : Rule
hidden_rule = fn_like (op (ops.group (delimiter_of Invisible (at 0 0 0) (at 0 1 1))
    (op (reads_at 2 (codes "x") kinds.Ident) no_ops)) no_ops) (op (writes_at 13 (codes "x")) no_ops)

pub record InvisibleExample : Type 0 where
  -- `$x:tt` matches the group, and emits its content
  pub opened : (g : Grammar) → ExpandsBy (open_grammar g) (tree_rule ∷ []) hidden_a 1 0
      (text_at 1 0 (codes "a") none)
  -- `$x:ident` doesn't match inside the group
  pub closed : (g : Grammar) → IsLawful (open_grammar g)
      → IsVerdict (open_grammar g) ident_rule.reads hidden_a (stuck 0)
  -- a group of the pattern does
  pub entered : (g : Grammar) → ExpandsBy (open_grammar g) (hidden_rule ∷ []) hidden_a 1 0
      (text_at 1 0 (codes "a") none)

-- ---- a name that occurs twice

abbrev pub word_items : ℕ → Ops
word_items start = op (reads_at start (codes "x") kinds.Ident) no_ops

abbrev pub comma_list : ℕ → Op
comma_list start = ops.repetition (word_items start)
    (Some (punct_separator (punct_of 44 Joint (at 0 start start) ∷ []))) ZeroOrMore

abbrev pub semicolon : Op
semicolon = ops.token (ops.puncts (punct_of 59 Alone (at 0 0 1) ∷ []))

-- `($x:ident $($x:ident)*) => {$x}`
abbrev pub one_then_list : Rule
one_then_list = fn_like (op (reads_at 2 (codes "x") kinds.Ident)
    (op (ops.repetition (word_items 13) None ZeroOrMore) no_ops))
    (op (writes_at 29 (codes "x")) no_ops)

-- `($($x:ident)* ; $x:ident) => {$x}`
abbrev pub list_then_one : Rule
list_then_one = fn_like (op (ops.repetition (word_items 4) None ZeroOrMore)
    (op semicolon (op (reads_at 17 (codes "x") kinds.Ident) no_ops)))
    (op (writes_at 31 (codes "x")) no_ops)

-- `($($x:ident),* ; $($x:ident),*) => {$($x)*}`
abbrev pub two_lists : Rule
two_lists = fn_like (op (comma_list 4) (op semicolon (op (comma_list 20) no_ops)))
    (op (ops.repetition (op (writes_at 39 (codes "x")) no_ops) None ZeroOrMore) no_ops)

abbrev pub beside_rule : Rule
beside_rule =
    fn_like (op (reads_at 2 (codes "x") kinds.Ident)
    (op (ops.group (parens 10 19) (op (reads_at 12 (codes "y") kinds.Ident) no_ops)) no_ops))
    (op (writes_at 26 (codes "x")) (op (writes_at 29 (codes "y")) no_ops))

abbrev pub a_at : ℕ → Forest → Forest
a_at start rest = text_at 1 start (codes "a") rest

pub record NamesExample : Type 0 where
  -- on `a b c`: rounds don't change a fragment
  pub stays : (g : Grammar) → IsLawful (open_grammar g) →
      ExpandsBy (open_grammar g) (one_then_list ∷ [])
      (a_at 0 (text_at 1 2 (codes "b") (text_at 1 4 (codes "c") none))) 5 0
      (a_at 0 none)
  -- on `a b ; c`: a later fragment replaces the list
  pub replaces : (g : Grammar) → IsLawful (open_grammar g) →
      ExpandsBy (open_grammar g) (list_then_one ∷ []) (a_at 0
      (text_at 1 2 (codes "b") (alone_at 1 4 59 (text_at 1 6 (codes "c") none)))) 7 0
      (text_at 1 6 (codes "c") none)
  -- on `a ; b, c`: later rounds come after the earlier ones
  pub appended : (g : Grammar) → IsLawful (open_grammar g) →
      ExpandsBy (open_grammar g) (two_lists ∷ []) (a_at 0 (alone_at 1 2 59
      (text_at 1 4 (codes "b") (alone_at 1 5 44 (text_at 1 7 (codes "c") none))))) 8 0
      (a_at 0 (text_at 1 4 (codes "b") (text_at 1 7 (codes "c") none)))
  -- `($x:ident ($y:ident)) => {$x $y}` on `a (b)`: the items of a group bind beside those before it
  pub beside : (g : Grammar) → ExpandsBy (open_grammar g) (beside_rule ∷ [])
      (a_at 0 (group (delimiter_of Parenthesis (at 1 2 3) (at 1 4 5)) (text_at 1 3 (codes "b") none)
      none)) 5 0
      (a_at 0 (text_at 1 3 (codes "b") none))
  -- on `; b`: rounds don't change the empty value of a skipped repetition
  pub skipped : (g : Grammar) → IsLawful (open_grammar g)
      → ExpandsBy (open_grammar g) (two_lists ∷ [])
      (alone_at 1 0 59 (text_at 1 2 (codes "b") none)) 3 0 none

-- ---- `(p $x:tt) => {$($x)*}; ($x:tt $y:tt) => {$($x)*}` on `p q`: both fit, and both fault

abbrev pub rounds_of_x : ℕ → Ops
rounds_of_x start =
    op (ops.repetition (op (writes_at start (codes "x")) no_ops) None ZeroOrMore) no_ops

abbrev pub one_binding : Rule
one_binding =
    fn_like (op (ident_at 1 (codes "p")) (op (reads_at 4 (codes "x") kinds.Tt) no_ops))
    (rounds_of_x 17)

abbrev pub two_bindings : Rule
two_bindings =
    fn_like (op (reads_at 25 (codes "x") kinds.Tt) (op (reads_at 31 (codes "y") kinds.Tt) no_ops))
    (rounds_of_x 44)

abbrev pub pq_argument : Forest
pq_argument = text_at 1 0 (codes "p") (text_at 1 2 (codes "q") none)

pub record MostBindingsExample : Type 0 where
  pub closest : (g : Grammar)
      → IsClosest (open_grammar g) FnLike pq_argument (one_binding ∷ two_bindings ∷ []) 1
  pub only : (g : Grammar)
      → IsClosest (open_grammar g) FnLike pq_argument (one_binding ∷ two_bindings ∷ []) 0 → ⊥

-- ---- `($x:tt) => {$($x)*}; ($y:tt) => {$($y)*}` on `p`: both fit and fault, and bind as much

abbrev pub earlier_rule : Rule
earlier_rule = fn_like (op (reads_at 2 (codes "x") kinds.Tt) no_ops) (rounds_of_x 15)

abbrev pub later_rule : Rule
later_rule = fn_like (op (reads_at 24 (codes "y") kinds.Tt) no_ops)
    (op (ops.repetition (op (writes_at 37 (codes "y")) no_ops) None ZeroOrMore) no_ops)

abbrev pub p_argument : Forest
p_argument = text_at 1 0 (codes "p") none

pub record EarliestExample : Type 0 where
  pub closest : (g : Grammar)
      → IsClosest (open_grammar g) FnLike p_argument (earlier_rule ∷ later_rule ∷ []) 0
  pub only : (g : Grammar)
      → IsClosest (open_grammar g) FnLike p_argument (earlier_rule ∷ later_rule ∷ []) 1 → ⊥

-- ---- a marker that sets a context

abbrev pub in_context : ℕ → Span → Span
in_context n span = record span { ctx = record { 0 = n } }

abbrev pub sets_context : ℕ → Span → Span → Type 0
sets_context n s t = t ≡ in_context n s

abbrev pub two_values : Environment
two_values = (
  codes "x",
  list (value (fragment (record { trees = text_at 1 0 (codes "a") none; style = stripped }))
      (value (fragment (record { trees = text_at 1 2 (codes "b") none; style = stripped }))
      no_values)),
) ∷ []

abbrev pub result_at : ℕ → Forest → Forest
result_at end inside = group (delimiter_of Invisible (at 1 0 end) (at 1 0 end)) inside none

pub record MarkedExample : Type 0 where
  -- `pair ($x)` with one value: a token and a group are marked. The fragment isn't, nor is the
  -- whole.
  pub tokens : (g : Grammar) → IsSubstitution (open_grammar g) (sets_context 7) (at 1 0 3)
      ((codes "x", fragment (record { trees = text_at 1 0 (codes "a") none; style = stripped }))
      ∷ [])
      (op (ident_at 25 (codes "pair"))
      (op (ops.group (parens 30 33) (op (writes_at 32 (codes "x")) no_ops)) no_ops))
      (result_at 3 (leaf (ident (ident_of (codes "pair") (in_context 7 (at 0 25 29))))
      (group (delimiter_of Parenthesis (in_context 7 (at 0 30 31)) (in_context 7 (at 0 33 34)))
      (text_at 1 0 (codes "a") none) none)))
  -- `$(${index()} $x);*`: integers and separators aren't marked
  pub separator : (g : Grammar)
      → IsSubstitution (open_grammar g) (sets_context 7) (at 1 0 3) two_values
      (op (ops.repetition (op (ops.expression (ops.index 0)) (op (writes_at 23 (codes "x")) no_ops))
      (Some (punct_separator (punct_of 59 Joint (at 0 25 26) ∷ []))) ZeroOrMore) no_ops)
      (result_at 3 (leaf (literal (integer_of (codes "0") (at 1 0 3)))
      (text_at 1 0 (codes "a") (joint_at 0 25 59
      (leaf (literal (integer_of (codes "1") (at 1 0 3))) (text_at 1 2 (codes "b") none))))))
  -- `$y`, which is unbound, isn't marked
  pub unbound : (g : Grammar) → IsSubstitution (open_grammar g) (sets_context 7) (at 1 0 0) []
      (op (writes_at 8 (codes "y")) no_ops)
      (result_at 0 (alone_at 0 8 36 (text_at 0 8 (codes "y") none)))
  -- the parentheses of an expression are marked, by the variable's span
  pub parentheses : IsFragmentOutput (sets_context 7) (at 1 0 5) as_expression (at 0 15 16)
      (a_at 0 (text_at 1 2 (codes "b") none))
      (group (delimiter_of Parenthesis (in_context 7 (at 0 15 16)) (in_context 7 (at 0 15 16)))
      (a_at 0 (text_at 1 2 (codes "b") none)) none)

-- ---- specifiers

pub record SpecifierExamples : Type 0 where
  pub old_pat : pat_kind Edition2018 ≡ kinds.PatParam
  pub pat : pat_kind Edition2021 ≡ kinds.Pat
  pub old_expr : expr_kind Edition2021 ≡ kinds.Expr exprs.Expr2021
  pub expr : expr_kind Edition2024 ≡ kinds.Expr exprs.Expr
  pub pat_param : kind_named kind_names (codes "pat_param") ≡ Some kinds.PatParam
  pub expr_2021 : kind_named kind_names (codes "expr_2021") ≡ Some (kinds.Expr exprs.Expr2021)
  pub meta : kind_named kind_names (codes "meta") ≡ Some kinds.Meta
  pub unknown : kind_named kind_names (codes "foo") ≡ None
  -- the entry points with which the grammar is called
  pub asked_pat : (g : Grammar) → fragment_front g (Some kinds.Pat) none
      ≡ accepted_front g entries.PatTop none
  pub asked_pat_param : (g : Grammar) → fragment_front g (Some kinds.PatParam) none
      ≡ accepted_front g entries.Pat none
  pub asked_meta : (g : Grammar) → fragment_front g (Some kinds.Meta) none
      ≡ accepted_front g entries.MetaItem none

-- ---- definitions with a fault

-- `(..) => {}` and `() => {..}`
abbrev pub with_pattern : Forest → Forest
with_pattern inside = group (parens 0 9) inside (arrow_at 11 (group (braces 14 15) none none))

abbrev pub with_template : Forest → Forest
with_template inside = group (parens 0 1) none (arrow_at 3 (group (braces 6 20) inside none))

-- `$` and the tree after it, in a pattern and in a template
abbrev pub dollar_at : ℕ → Forest → Forest
dollar_at start rest = alone_at 0 start 36 rest

-- `${word(..)}`
abbrev pub expression_at : List ℕ → Forest → Forest → Forest
expression_at word arguments more = dollar_at 7
    (group (braces 8 19) (text_at 0 9 word (group (parens 14 18) arguments more)) none)

abbrev pub Refuses : Forest → Fault → Type 0
Refuses definition fault = IsMacroRules is_2024 definition [] (Some fault)

abbrev pub empty_rule : Rule
empty_rule = fn_like no_ops no_ops

abbrev pub literal_at : ℕ → LitKind → ℕ → List ℕ → Forest → Forest
literal_at start kind suffix text rest =
    leaf (literal (record {
      text_and_suffix = text;
      suffix_len = suffix;
      kind = kind;
      span = at 0 start (start + length text);
    })) rest

pub record FaultExamples : Type 0 where
  -- `$x`, `$x:_`
  pub no_specifier : Refuses (with_pattern (named_at 1 (codes "x") none))
      (unexpected_token (codes "missing fragment specifier"))
  pub underscore_specifier : Refuses (with_pattern (typed_at 1 (codes "x") (codes "_") none))
      (unexpected_token (codes "missing fragment specifier"))
  -- `$$`, `${len()}`, `$[a]`, `$1` in a pattern
  pub second_dollar : Refuses (with_pattern (joint_at 0 1 36 (dollar_at 2 none)))
      (unexpected_token (codes "`$$` is not allowed on the pattern side"))
  pub expression : Refuses (with_pattern (expression_at (codes "len") none none))
      (unexpected_token (codes "`${}` metavariable expressions are not allowed in matchers"))
  pub bracket : Refuses (with_pattern (dollar_at 1
      (group (delimiter_of Bracket (at 0 2 3) (at 0 4 5)) (text_at 0 3 (codes "a") none) none)))
      (expected (codes "expected `$()` repetition or `${}` expression"))
  pub number : Refuses (with_pattern (dollar_at 1 (number_at 0 2 (codes "1") none)))
      (expected (codes "expected ident"))
  -- `$(a)`; `$($x)`, whose suffix is read before its body; `$(a);;;;*`; `$(a)b c*`
  pub no_suffix : Refuses (with_pattern (dollar_at 1
      (group (parens 2 4) (text_at 0 3 (codes "a") none) none)))
      invalid_repeat
  pub suffix_first : Refuses (with_pattern (dollar_at 1
      (group (parens 2 5) (named_at 3 (codes "x") none) none)))
      invalid_repeat
  pub four_puncts : Refuses (with_pattern (dollar_at 1
      (group (parens 2 4) (text_at 0 3 (codes "a") none)
      (joint_at 0 5 59 (joint_at 0 6 59
      (joint_at 0 7 59 (joint_at 0 8 59 (alone_at 0 9 42 none)))))))) invalid_repeat
  pub two_words : Refuses (with_pattern (dollar_at 1
      (group (parens 2 4) (text_at 0 3 (codes "a") none)
      (text_at 0 5 (codes "b") (text_at 0 7 (codes "c") (alone_at 0 8 42 none)))))) invalid_repeat
  -- `attr => {}`, `() {}`, `() = {}`
  pub no_style : Refuses (text_at 0 0 (codes "attr") (arrow_at 5 (group (braces 8 9) none none)))
      (expected (codes "expected `()`"))
  pub no_equals : Refuses (group (parens 0 1) none (group (braces 3 4) none none))
      (expected (codes "expected `=`"))
  pub no_greater : Refuses (group (parens 0 1) none
      (alone_at 0 3 61 (group (braces 5 6) none none)))
      (expected (codes "expected `>`"))
  -- `${concat(a)}`, `${len(1u8)}` in a template
  pub one_element : Refuses (with_template (expression_at (codes "concat")
      (text_at 0 16 (codes "a") none) none))
      (unexpected_token (codes "invalid metavariable expression"))
  pub suffixed : Refuses (with_template (expression_at (codes "len")
      (literal_at 13 Integer 2 (codes "1u8") none) none))
      (unexpected_token (codes "invalid metavariable expression"))
  -- `${len("2")}`, `${index() foo}`
  pub text_depth : Defines (with_template (expression_at (codes "len")
      (literal_at 13 Str 0 (codes "2") none) none))
      (fn_like no_ops (op (ops.expression (ops.len 2)) no_ops) ∷ [])
  pub more_in_braces : Defines (with_template (expression_at (codes "index") none
      (text_at 0 16 (codes "foo") none)))
      (fn_like no_ops (op (ops.expression (ops.index 0)) no_ops) ∷ [])
  -- `() => {}; ($x) => {}` keeps the first rule
  pub later : IsMacroRules is_2024 (group (parens 0 1) none
      (arrow_at 3 (group (braces 6 7) none
      (alone_at 0 8 59 (with_pattern (named_at 1 (codes "x") none))))))
      (empty_rule ∷ []) (Some (unexpected_token (codes "missing fragment specifier")))
  -- `($()*) => {} x`: the refused repetition is reported in place of the stray token
  pub over_stray : IsMacroRules is_2024 (group (parens 0 9)
      (dollar_at 1 (group (parens 2 3) none (alone_at 0 4 42 none)))
      (arrow_at 11 (group (braces 14 15) none (text_at 0 17 (codes "x") none))))
      (fn_like (op (ops.repetition no_ops None ZeroOrMore) no_ops) no_ops
      ∷ []) (Some empty_repetition)
  -- the body `() => {}, () => {} x` of a `macro`
  pub body : IsMacroBody is_2024 (group (parens 0 1) none
      (arrow_at 3 (group (braces 6 7) none (alone_at 0 8 44
      (group (parens 10 11) none (arrow_at 13
      (group (braces 16 17) none (text_at 0 19 (codes "x") none))))))))
      (empty_rule ∷ empty_rule ∷ [])
      (Some (expected (codes "expected `;` or `,` to delimit rules")))
  -- a `macro` with the arguments `$x`: the pattern's fault comes before the template's
  pub arguments : IsMacroOfArguments is_2024 (named_at 1 (codes "x") none)
      (dollar_at 7 (number_at 0 8 (codes "1") none)) []
      (Some (unexpected_token (codes "missing fragment specifier")))
