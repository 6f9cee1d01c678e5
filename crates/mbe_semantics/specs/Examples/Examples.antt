-- Whole expansions of small definitions: from the trees of a definition and an argument to the tree
-- of the expansion.
use Rattle.std.specs.Prelude.{◌≡◌, ℕ, false, List, [], ◌∷◌, codes, Some, None, true}
use Rattle.mbe_tt.specs.declared.grammar.PrefixEntryPoint.TheVariants as entries
use Rattle.mbe_tt.specs.declared.tt.DelimiterKind.TheVariants.{Parenthesis}
use Rattle.mbe_tt.specs.declared.tt.IdentIsRaw.TheVariants as raw
use Rattle.mbe_tt.specs.declared.tt.LitKind.TheVariants.{Str}
use Rattle.mbe_tt.specs.declared.tt.Spacing.TheVariants.{Alone, Joint}
use Rattle.mbe_tt.specs.Trees.Leaf.{ident, literal}
use Rattle.mbe_tt.specs.Trees.Tree.{Forest, none, leaf, group, flat, cut}
use Rattle.mbe_tt.specs.declared.span.DelimSpan.{DelimSpan}
use Rattle.mbe_tt.specs.Grammars.Grammar.{Grammar, IsLawful, front}
use Rattle.mbe_semantics.specs.Expansion.Error.{binding_error, front_error, text_of_fault}
use Rattle.mbe_semantics.specs.declared.macro_call_style.MacroCallStyle.TheVariants.{FnLike, Attr}
use Rattle.mbe_semantics.specs.declared.fragment_kinds.MetaVarKind.TheVariants as kinds
use Rattle.mbe_semantics.specs.declared.fragment_kinds.ExprKind.TheVariants as exprs
use Rattle.mbe_semantics.specs.declared.fragment_kinds.RepeatKind.TheVariants.{ZeroOrMore}
use Rattle.mbe_semantics.specs.declared.fragment_kinds.RepeatKind.TheVariants.{OneOrMore}
use Rattle.mbe_semantics.specs.Syntax.Op as ops
use Rattle.mbe_semantics.specs.Syntax.Op.{Op, Ops, no_ops, op, punct_separator}
use Rattle.mbe_semantics.specs.Syntax.Template.{expected, empty_repetition, invalid_repeat}
use Rattle.mbe_semantics.specs.Syntax.Definition.{Rule, IsMacroRules}
use Rattle.mbe_semantics.specs.Fragments.FragmentFront.{fragment_front}
use Rattle.mbe_semantics.specs.Readings.Verdict.{IsVerdict, many_readings, stuck}
use Rattle.mbe_semantics.specs.Expansion.Recovery.{HasStyle, IsClosest}
use Rattle.mbe_semantics.specs.Expansion.Macro.{style_bits}
use Rattle.mbe_semantics.specs.Readings.Item.{Items}
use Rattle.mbe_semantics.specs.Readings.Ambiguity.{IsReading}
use Rattle.mbe_semantics.specs.Examples.Sample.{is_2024, at, punct_of, integer_of, mark}
use Rattle.mbe_semantics.specs.Examples.Sample.{delimiter_of, text_at, number_at, alone_at}
use Rattle.mbe_semantics.specs.Examples.Sample.{joint_at, arrow_at, parens, braces, typed_at}
use Rattle.mbe_semantics.specs.Examples.Sample.{named_at, reads_at, writes_at, ident_at, ident_of}
use Rattle.mbe_semantics.specs.Examples.Sample.{fn_like, Defines, ExpandsBy}
use Rattle.mbe_semantics.specs.Examples.Sample.{open_grammar}

-- ---- `($x:ident) => {$($x)*}; ($x:ident) => {$x}` on `a`

abbrev pub endless_definition : Forest
endless_definition =
    group (parens 0 9) (typed_at 1 (codes "x") (codes "ident") none) (arrow_at 11
    (group (braces 14 21) (alone_at 0 15 36
    (group (parens 16 19) (named_at 17 (codes "x") none) (alone_at 0 20 42 none)))
    (alone_at 0 22 59 (group (parens 24 33) (typed_at 25 (codes "x") (codes "ident") none)
    (arrow_at 35
    (group (braces 38 41) (named_at 39 (codes "x") none) none))))))

abbrev pub endless_rule : Rule
endless_rule = fn_like (op (reads_at 2 (codes "x") kinds.Ident) no_ops)
    (op (ops.repetition (op (writes_at 18 (codes "x")) no_ops) None ZeroOrMore) no_ops)

abbrev pub simple_rule : Rule
simple_rule =
    fn_like (op (reads_at 26 (codes "x") kinds.Ident) no_ops) (op (writes_at 40 (codes "x")) no_ops)

abbrev pub one_a : Forest
one_a = text_at 1 0 (codes "a") none

pub record EndlessExample : Type 0 where
  pub defines : Defines endless_definition (endless_rule ∷ simple_rule ∷ [])
  -- the first rule fits, but its substitution is endless
  pub expands : (g : Grammar)
      → ExpandsBy (open_grammar g) (endless_rule ∷ simple_rule ∷ []) one_a 1 1 one_a
  -- as the only rule it is the closest one, and the result has an error
  pub alone : (g : Grammar) → IsClosest (open_grammar g) FnLike one_a (endless_rule ∷ []) 0
  pub refused : (g : Grammar) (inside : Forest)
      → ExpandsBy (open_grammar g) (endless_rule ∷ []) one_a 1 0 inside
      → ⊥

-- ---- `attr() () => {A}; () => {B}` on nothing

abbrev pub styled_definition : Forest
styled_definition =
    text_at 0 0 (codes "attr") (group (parens 4 5) none
    (group (parens 7 8) none (arrow_at 10 (group (braces 13 15) (text_at 0 14 (codes "A") none)
    (alone_at 0 16 59 (group (parens 18 19) none
    (arrow_at 21 (group (braces 24 26) (text_at 0 25 (codes "B") none) none))))))))

abbrev pub attr_rule : Rule
attr_rule = record { style = Attr; reads = no_ops; writes = op (ident_at 14 (codes "A")) no_ops }

abbrev pub plain_rule : Rule
plain_rule = fn_like no_ops (op (ident_at 25 (codes "B")) no_ops)

pub record StyledExample : Type 0 where
  pub defines : Defines styled_definition (attr_rule ∷ plain_rule ∷ [])
  pub styles : style_bits (attr_rule ∷ plain_rule ∷ []) ≡ 3
  pub expands : (g : Grammar) → ExpandsBy (open_grammar g) (attr_rule ∷ plain_rule
      ∷ []) none 0 1 (text_at 0 25 (codes "B") none)

-- ---- `($p:path) => {$p}` on `Vec<u8>`, by a grammar that matches all of it

abbrev pub path_definition : Forest
path_definition =
    group (parens 0 8) (typed_at 1 (codes "p") (codes "path") none)
    (arrow_at 10 (group (braces 13 16) (named_at 14 (codes "p") none) none))

abbrev pub path_rule : Rule
path_rule =
    fn_like (op (reads_at 2 (codes "p") kinds.Path) no_ops) (op (writes_at 15 (codes "p")) no_ops)

abbrev pub path_argument : Forest
path_argument =
    text_at 1 0 (codes "Vec") (alone_at 1 3 60 (text_at 1 4 (codes "u8") (alone_at 1 6 62 none)))

pub record PathExample : Type 0 where
  pub defines : Defines path_definition (path_rule ∷ [])
  pub expands : (g : Grammar) → g.parse entries.Path (flat path_argument)
      ≡ record { count = 4; fault = false } →
      ExpandsBy (open_grammar g) (path_rule ∷ []) path_argument 7 0
      (text_at 1 0 (codes "Vec") (mark 58 Joint (at 1 0 7)
      (mark 58 Alone (at 1 0 7) (alone_at 1 3 60
      (text_at 1 4 (codes "u8") (alone_at 1 6 62 none))))))

-- ---- `(1) => {}` on `"1"`, and `(foo) => {}` on `r#foo`

abbrev pub literal_definition : Forest
literal_definition =
    group (parens 0 2) (number_at 0 1 (codes "1") none) (arrow_at 4 (group (braces 7 8) none none))

abbrev pub literal_rule : Rule
literal_rule =
    fn_like (op (ops.token (ops.literal (integer_of (codes "1") (at 0 1 2)))) no_ops) no_ops

abbrev pub raw_definition : Forest
raw_definition =
    group (parens 0 4) (text_at 0 1 (codes "foo") none) (arrow_at 6 (group (braces 9 10) none none))

abbrev pub raw_rule : Rule
raw_rule = fn_like (op (ident_at 1 (codes "foo")) no_ops) no_ops

pub record TextExample : Type 0 where
  pub defines_literal : Defines literal_definition (literal_rule ∷ [])
  pub expands_literal : (g : Grammar) →
      ExpandsBy (open_grammar g) (literal_rule ∷ []) (leaf
      (literal (record {
        text_and_suffix = codes "1";
        suffix_len = 0;
        kind = Str;
        span = at 1 0 3;
      })) none) 3 0 none
  pub defines_raw : Defines raw_definition (raw_rule ∷ [])
  pub expands_raw : (g : Grammar) →
      ExpandsBy (open_grammar g) (raw_rule ∷ [])
      (leaf (ident (record { sym = codes "foo"; is_raw = raw.Yes; span = at 1 0 5 })) none)
      5 0 none

-- ---- `() => {$y}` on nothing

abbrev pub unbound_definition : Forest
unbound_definition =
    group (parens 0 1) none (arrow_at 3 (group (braces 6 9) (named_at 7 (codes "y") none) none))

abbrev pub unbound_rule : Rule
unbound_rule = fn_like no_ops (op (writes_at 8 (codes "y")) no_ops)

pub record UnboundExample : Type 0 where
  pub defines : Defines unbound_definition (unbound_rule ∷ [])
  pub expands : (g : Grammar) → ExpandsBy (open_grammar g) (unbound_rule ∷ []) none 0 0
      (alone_at 0 8 36 (text_at 0 8 (codes "y") none))

-- ---- definitions that are refused

abbrev pub empty_rule_trees : Forest → Forest
empty_rule_trees rest = group (parens 0 1) none (arrow_at 3 (group (braces 6 7) none rest))

abbrev pub vis_rounds : Ops
vis_rounds =
    op (ops.repetition (op (ops.repetition (op (reads_at 7 (codes "v") kinds.Vis) no_ops)
    (Some (punct_separator (punct_of 44 Joint (at 0 13 14) ∷ []))) OneOrMore) no_ops) None
    ZeroOrMore) no_ops

abbrev pub vis_rounds_definition : Forest
vis_rounds_definition =
    group (parens 0 18)
    (alone_at 0 1 36 (group (parens 2 16)
    (alone_at 0 4 36 (group (parens 5 12) (typed_at 6 (codes "v") (codes "vis") none)
    (joint_at 0 13 44 (alone_at 0 14 43 none))))
    (alone_at 0 17 42 none)))
    (arrow_at 20 (group (braces 23 24) none none))

pub record RefusedExample : Type 0 where
  -- `() => {} x`
  pub stray : IsMacroRules is_2024 (empty_rule_trees (text_at 0 9 (codes "x") none))
      (fn_like no_ops no_ops ∷ [])
      (Some (expected (codes "expected `;`")))
  -- `($( $($v:vis),+ )*) => {}`
  pub nullable : IsMacroRules is_2024 vis_rounds_definition (fn_like vis_rounds no_ops
      ∷ []) (Some empty_repetition)
  -- `($x:ident) =>`
  pub cut_off : IsMacroRules is_2024
      (group (parens 0 9) (typed_at 1 (codes "x") (codes "ident") none)
      (arrow_at 11 none)) []
      (Some (expected (codes "expected subtree")))
  -- `($(a) => {}`, whose outer group ends with the text
  pub unclosed : IsMacroRules is_2024
      (group (delimiter_of Parenthesis (at 0 0 1) (at 0 11 11))
      (alone_at 0 1 36 (group (parens 2 4) (text_at 0 3 (codes "a") none)
      (arrow_at 6 (group (braces 9 10) none none)))) none)
      [] (Some (expected (codes "expected `=`")))
  -- `() => {};;`: the second `;` begins a rule
  pub doubled : IsMacroRules is_2024 (empty_rule_trees (joint_at 0 8 59 (alone_at 0 9 59 none)))
      (fn_like no_ops no_ops ∷ [])
      (Some (expected (codes "expected subtree")))
  -- `($x) x`: both outer groups come before the pattern
  pub groups_first : IsMacroRules is_2024
      (group (parens 0 3) (named_at 1 (codes "x") none) (text_at 0 5 (codes "x") none)) []
      (Some (expected (codes "expected `=`")))

-- ---- `($x:ident $x:ident) => {$x}` on `a b`

abbrev pub twice_definition : Forest
twice_definition =
    group (parens 0 18) (typed_at 1 (codes "x") (codes "ident")
    (typed_at 10 (codes "x") (codes "ident") none))
    (arrow_at 20 (group (braces 23 26) (named_at 24 (codes "x") none) none))

abbrev pub twice_rule : Rule
twice_rule =
    fn_like (op (reads_at 2 (codes "x") kinds.Ident)
    (op (reads_at 11 (codes "x") kinds.Ident) no_ops))
    (op (writes_at 25 (codes "x")) no_ops)

pub record TwiceExample : Type 0 where
  pub defines : Defines twice_definition (twice_rule ∷ [])
  pub expands : (g : Grammar) →
      ExpandsBy (open_grammar g) (twice_rule ∷ [])
      (text_at 1 0 (codes "a") (text_at 1 2 (codes "b") none)) 3 0
      (text_at 1 2 (codes "b") none)

-- ---- `($a:tt $b:tt) => {$a $b}` on `;+`

abbrev pub puncts_definition : Forest
puncts_definition =
    group (parens 0 12) (typed_at 1 (codes "a") (codes "tt")
    (typed_at 7 (codes "b") (codes "tt") none))
    (arrow_at 14 (group (braces 17 23) (named_at 18 (codes "a") (named_at 21 (codes "b") none))
    none))

abbrev pub puncts_rule : Rule
puncts_rule =
    fn_like (op (reads_at 2 (codes "a") kinds.Tt) (op (reads_at 8 (codes "b") kinds.Tt) no_ops))
    (op (writes_at 19 (codes "a")) (op (writes_at 22 (codes "b")) no_ops))

pub record PunctsExample : Type 0 where
  pub defines : Defines puncts_definition (puncts_rule ∷ [])
  pub expands : (g : Grammar) →
      ExpandsBy (open_grammar g) (puncts_rule ∷ []) (joint_at 1 0 59 (alone_at 1 1 43 none)) 2 0
      (alone_at 1 0 59 (alone_at 1 1 43 none))

-- ---- `($e:expr) => {$e * 2}` on `1 + 2`, by a grammar that matches all of it

abbrev pub double_definition : Forest
double_definition =
    group (parens 0 8) (typed_at 1 (codes "e") (codes "expr") none)
    (arrow_at 10 (group (braces 13 20)
    (named_at 14 (codes "e") (alone_at 0 17 42 (number_at 0 19 (codes "2") none)))
    none))

abbrev pub double_rule : Rule
double_rule =
    fn_like (op (reads_at 2 (codes "e") (kinds.Expr exprs.Expr)) no_ops)
    (op (writes_at 15 (codes "e"))
    (op (ops.token (ops.puncts (punct_of 42 Alone (at 0 17 18) ∷ [])))
    (op (ops.token (ops.literal (integer_of (codes "2") (at 0 19 20)))) no_ops)))

abbrev pub sum_argument : Forest
sum_argument = number_at 1 0 (codes "1") (alone_at 1 2 43 (number_at 1 4 (codes "2") none))

pub record DoubleExample : Type 0 where
  pub defines : Defines double_definition (double_rule ∷ [])
  pub expands : (g : Grammar) → g.parse entries.Expr (flat sum_argument)
      ≡ record { count = 3; fault = false } →
      ExpandsBy (open_grammar g) (double_rule ∷ []) sum_argument 5 0
      (group (delimiter_of Parenthesis (at 0 15 16) (at 0 15 16)) sum_argument
      (alone_at 0 17 42 (number_at 0 19 (codes "2") none)))

-- ---- `($e:expr) => {}` on `r#let`

abbrev pub let_definition : Forest
let_definition = group (parens 0 8) (typed_at 1 (codes "e") (codes "expr") none)
    (arrow_at 10 (group (braces 13 14) none none))

abbrev pub let_rule : Rule
let_rule = fn_like (op (reads_at 2 (codes "e") (kinds.Expr exprs.Expr)) no_ops) no_ops

abbrev pub let_argument : Forest
let_argument = leaf (ident (record { sym = codes "let"; is_raw = raw.Yes; span = at 1 0 5 })) none

pub record LetExample : Type 0 where
  pub defines : Defines let_definition (let_rule ∷ [])
  pub verdict : (g : Grammar) → IsLawful (open_grammar g)
      → IsVerdict (open_grammar g) let_rule.reads let_argument (stuck 0)
  pub closest : (g : Grammar) → IsLawful (open_grammar g)
      → IsClosest (open_grammar g) FnLike let_argument (let_rule ∷ []) 0

-- ---- `($($x:ident),*) => {$($x);*}` on `a, b`

abbrev pub idents_at : ℕ → Ops
idents_at start = op (reads_at start (codes "x") kinds.Ident) no_ops

abbrev pub list_definition : Forest
list_definition =
    group (parens 0 13) (alone_at 0 1 36
    (group (parens 2 11) (typed_at 3 (codes "x") (codes "ident") none)
    (joint_at 0 12 44 (alone_at 0 13 42 none))))
    (arrow_at 16 (group (braces 19 27) (alone_at 0 20 36
    (group (parens 21 24) (named_at 22 (codes "x") none)
    (joint_at 0 25 59 (alone_at 0 26 42 none)))) none))

abbrev pub list_rule : Rule
list_rule =
    fn_like (op (ops.repetition (idents_at 4)
    (Some (punct_separator (punct_of 44 Joint (at 0 12 13) ∷ []))) ZeroOrMore)
    no_ops)
    (op (ops.repetition (op (writes_at 23 (codes "x")) no_ops)
    (Some (punct_separator (punct_of 59 Joint (at 0 25 26) ∷ []))) ZeroOrMore) no_ops)

abbrev pub list_argument : Forest
list_argument = text_at 1 0 (codes "a") (alone_at 1 1 44 (text_at 1 3 (codes "b") none))

pub record ListExample : Type 0 where
  pub defines : Defines list_definition (list_rule ∷ [])
  pub expands : (g : Grammar) → IsLawful (open_grammar g) →
      ExpandsBy (open_grammar g) (list_rule ∷ []) list_argument 4 0
      (text_at 1 0 (codes "a") (joint_at 0 25 59 (text_at 1 3 (codes "b") none)))

-- ---- `($($x:ident)*) => {$(${index()} ${len()} $x)*}` on `a b`

abbrev pub index_definition : Forest
index_definition =
    group (parens 0 13) (alone_at 0 1 36
    (group (parens 2 11) (typed_at 3 (codes "x") (codes "ident") none)
    (alone_at 0 12 42 none)))
    (arrow_at 15 (group (braces 18 45) (alone_at 0 19 36 (group (parens 20 43)
    (alone_at 0 21 36 (group (braces 22 30)
    (text_at 0 23 (codes "index") (group (parens 28 29) none none))
    (alone_at 0 32 36 (group (braces 33 39)
    (text_at 0 34 (codes "len") (group (parens 37 38) none none))
    (named_at 41 (codes "x") none)))))
    (alone_at 0 44 42 none))) none))

abbrev pub index_rule : Rule
index_rule =
    fn_like (op (ops.repetition (idents_at 4) None ZeroOrMore) no_ops)
    (op (ops.repetition (op (ops.expression (ops.index 0))
    (op (ops.expression (ops.len 0)) (op (writes_at 42 (codes "x")) no_ops))) None ZeroOrMore)
    no_ops)

abbrev pub two_words : Forest
two_words = text_at 1 0 (codes "a") (text_at 1 2 (codes "b") none)

-- an integer with the span of the call site
abbrev pub counted : ℕ → List ℕ → Forest → Forest
counted end text rest = leaf (literal (integer_of text (at 1 0 end))) rest

pub record IndexExample : Type 0 where
  pub defines : Defines index_definition (index_rule ∷ [])
  pub expands : (g : Grammar) → IsLawful (open_grammar g)
      → ExpandsBy (open_grammar g) (index_rule ∷ []) two_words 3 0
      (counted 3 (codes "0") (counted 3 (codes "2")
      (text_at 1 0 (codes "a") (counted 3 (codes "1")
      (counted 3 (codes "2") (text_at 1 2 (codes "b") none))))))

-- ---- `($x:foo) => {}; ($($t:tt)*) => {}` on `a`

abbrev pub unknown_definition : Forest
unknown_definition =
    group (parens 0 7) (typed_at 1 (codes "x") (codes "foo") none)
    (arrow_at 9 (group (braces 12 13) none (alone_at 0 14 59
    (group (parens 16 26) (alone_at 0 17 36
    (group (parens 18 24) (typed_at 19 (codes "t") (codes "tt") none) (alone_at 0 25 42 none)))
    (arrow_at 28 (group (braces 31 32) none none))))))

abbrev pub unknown_rule : Rule
unknown_rule = fn_like (op (ops.variable (codes "x") None (at 0 2 3)) no_ops) no_ops

abbrev pub any_rule : Rule
any_rule =
    fn_like (op (ops.repetition (op (reads_at 20 (codes "t") kinds.Tt) no_ops) None ZeroOrMore)
    no_ops) no_ops

pub record UnknownExample : Type 0 where
  pub defines : Defines unknown_definition (unknown_rule ∷ any_rule ∷ [])
  pub expands : (g : Grammar) → IsLawful (open_grammar g)
      → ExpandsBy (open_grammar g) (unknown_rule ∷ any_rule ∷ []) one_a 1 1 none

-- ---- `($($v:vis),*) => {}` on nothing, by a grammar where `vis` may be empty

abbrev pub empty_definition : Forest
empty_definition =
    group (parens 0 12) (alone_at 0 1 36
    (group (parens 2 9) (typed_at 3 (codes "v") (codes "vis") none)
    (joint_at 0 10 44 (alone_at 0 11 42 none))))
    (arrow_at 14 (group (braces 17 18) none none))

abbrev pub empty_body : Ops
empty_body = op (reads_at 4 (codes "v") kinds.Vis) no_ops

abbrev pub empty_rule : Rule
empty_rule =
    fn_like (op (ops.repetition empty_body
    (Some (punct_separator (punct_of 44 Joint (at 0 10 11) ∷ [])))
    ZeroOrMore) no_ops) no_ops

-- it has two readings: no round, and one empty round
pub record EmptyExample : Type 0 where
  pub defines : Defines empty_definition (empty_rule ∷ [])
  pub verdict : (g : Grammar) → IsLawful (open_grammar g) → g.parse entries.Vis []
      ≡ record { count = 0; fault = false }
      → IsVerdict (open_grammar g) empty_rule.reads none many_readings
  pub closest : (g : Grammar) → IsLawful (open_grammar g) → g.parse entries.Vis []
      ≡ record { count = 0; fault = false }
      → IsClosest (open_grammar g) FnLike none (empty_rule ∷ []) 0

-- ---- `($($a:ident)* ; $($b:ident)*) => {$($a $b)*}` on `p q r ; s t`

abbrev pub zip_definition : Forest
zip_definition =
    group (parens 0 28)
    (alone_at 0 1 36 (group (parens 2 11) (typed_at 3 (codes "a") (codes "ident") none)
    (alone_at 0 12 42 (alone_at 0 14 59
    (alone_at 0 16 36 (group (parens 17 26) (typed_at 18 (codes "b") (codes "ident") none)
    (alone_at 0 27 42 none)))))))
    (arrow_at 30 (group (braces 33 43) (alone_at 0 34 36
    (group (parens 35 41) (named_at 36 (codes "a") (named_at 39 (codes "b") none))
    (alone_at 0 42 42 none))) none))

abbrev pub zip_rule : Rule
zip_rule =
    fn_like
    (op (ops.repetition (op (reads_at 4 (codes "a") kinds.Ident) no_ops) None ZeroOrMore)
    (op (ops.token (ops.puncts (punct_of 59 Alone (at 0 14 15) ∷ [])))
    (op (ops.repetition (op (reads_at 19 (codes "b") kinds.Ident) no_ops) None ZeroOrMore) no_ops)))
    (op (ops.repetition (op (writes_at 37 (codes "a")) (op (writes_at 40 (codes "b")) no_ops)) None
    ZeroOrMore) no_ops)

abbrev pub zip_argument : Forest
zip_argument =
    text_at 1 0 (codes "p") (text_at 1 2 (codes "q")
    (text_at 1 4 (codes "r") (alone_at 1 6 59
    (text_at 1 8 (codes "s") (text_at 1 10 (codes "t") none)))))

pub record ZipExample : Type 0 where
  pub items : Items
  pub defines : Defines zip_definition (zip_rule ∷ [])
  pub reads : (g : Grammar) → IsReading (open_grammar g) zip_rule.reads zip_argument items
  pub expands : (g : Grammar) → IsLawful (open_grammar g)
      → ExpandsBy (open_grammar g) (zip_rule ∷ []) zip_argument 11 0
      (text_at 1 0 (codes "p") (text_at 1 8 (codes "s")
      (text_at 1 2 (codes "q") (text_at 1 10 (codes "t") none))))

-- ---- `($($($x:ident)*),*) => {${count($x)} ${count($x, 1)}}` on `a b, c`

abbrev pub count_definition : Forest
count_definition =
    group (parens 0 18)
    (alone_at 0 1 36 (group (parens 2 15)
    (alone_at 0 3 36 (group (parens 4 13) (typed_at 5 (codes "x") (codes "ident") none)
    (alone_at 0 14 42 none)))
    (joint_at 0 16 44 (alone_at 0 17 42 none))))
    (arrow_at 20 (group (braces 23 52)
    (alone_at 0 24 36 (group (braces 25 34)
    (text_at 0 26 (codes "count") (group (parens 31 34) (named_at 32 (codes "x") none) none))
    (alone_at 0 37 36 (group (braces 38 51)
    (text_at 0 39 (codes "count") (group (parens 44 50)
    (named_at 45 (codes "x") (alone_at 0 47 44 (number_at 0 49 (codes "1") none))) none)) none))))
    none))

abbrev pub count_rule : Rule
count_rule =
    fn_like
    (op (ops.repetition (op (ops.repetition (op (reads_at 6 (codes "x") kinds.Ident) no_ops) None
    ZeroOrMore) no_ops)
    (Some (punct_separator (punct_of 44 Joint (at 0 16 17) ∷ []))) ZeroOrMore) no_ops)
    (op (ops.expression (ops.count (codes "x") 0))
    (op (ops.expression (ops.count (codes "x") 1)) no_ops))

abbrev pub count_argument : Forest
count_argument =
    text_at 1 0 (codes "a") (text_at 1 2 (codes "b")
    (alone_at 1 3 44 (text_at 1 5 (codes "c") none)))

pub record CountExample : Type 0 where
  pub items : Items
  pub defines : Defines count_definition (count_rule ∷ [])
  pub reads : (g : Grammar) → IsReading (open_grammar g) count_rule.reads count_argument items
  pub expands : (g : Grammar) → IsLawful (open_grammar g)
      → ExpandsBy (open_grammar g) (count_rule ∷ []) count_argument 6 0
      (counted 6 (codes "2") (counted 6 (codes "3") none))

-- ---- `(a b) => {}; (a c d) => {}` on `a c`

abbrev pub nearest_definition : Forest
nearest_definition =
    group (parens 0 4) (text_at 0 1 (codes "a") (text_at 0 3 (codes "b") none))
    (arrow_at 6 (group (braces 9 10) none (alone_at 0 11 59
    (group (parens 13 19) (text_at 0 14 (codes "a")
    (text_at 0 16 (codes "c") (text_at 0 18 (codes "d") none)))
    (arrow_at 21 (group (braces 24 25) none none))))))

abbrev pub far_rule : Rule
far_rule = fn_like (op (ident_at 1 (codes "a")) (op (ident_at 3 (codes "b")) no_ops)) no_ops

abbrev pub near_rule : Rule
near_rule =
    fn_like (op (ident_at 14 (codes "a"))
    (op (ident_at 16 (codes "c")) (op (ident_at 18 (codes "d")) no_ops)))
    no_ops

abbrev pub near_argument : Forest
near_argument = text_at 1 0 (codes "a") (text_at 1 2 (codes "c") none)

-- the second rule matches further, so it is the closest
pub record NearestExample : Type 0 where
  pub defines : Defines nearest_definition (far_rule ∷ near_rule ∷ [])
  pub far : (g : Grammar) → IsLawful (open_grammar g)
      → IsVerdict (open_grammar g) far_rule.reads near_argument (stuck 1)
  pub near : (g : Grammar) → IsLawful (open_grammar g)
      → IsVerdict (open_grammar g) near_rule.reads near_argument (stuck 2)
  pub closest : (g : Grammar) → IsLawful (open_grammar g)
      → IsClosest (open_grammar g) FnLike near_argument (far_rule ∷ near_rule ∷ []) 1
  pub only : (g : Grammar) → IsLawful (open_grammar g)
      → IsClosest (open_grammar g) FnLike near_argument (far_rule ∷ near_rule ∷ []) 0 → ⊥

-- ---- `($x:ident) => {${concat($x, _bar)}}` on `foo`

abbrev pub concat_definition : Forest
concat_definition =
    group (parens 0 9) (typed_at 1 (codes "x") (codes "ident") none)
    (arrow_at 11 (group (braces 14 34)
    (alone_at 0 15 36 (group (braces 16 33)
    (text_at 0 17 (codes "concat") (group (parens 23 32)
    (named_at 24 (codes "x") (alone_at 0 26 44 (text_at 0 28 (codes "_bar") none))) none)) none))
    none))

abbrev pub concat_of : ops.Element → Rule
concat_of e =
    fn_like (op (reads_at 2 (codes "x") kinds.Ident) no_ops)
    (op (ops.expression (ops.concat (ops.variable_element (ident_of (codes "x") (at 0 25 26)) ∷ e
    ∷ []) (at 0 17 23)))
    no_ops)

abbrev pub concat_rule : Rule
concat_rule = concat_of (ops.ident_element (ident_of (codes "_bar") (at 0 28 32)))

abbrev pub foo : Forest
foo = text_at 1 0 (codes "foo") none

pub record ConcatExample : Type 0 where
  pub defines : Defines concat_definition (concat_rule ∷ [])
  pub expands : (g : Grammar) → g.is_keyword (codes "foo_bar") ≡ false →
      ExpandsBy (open_grammar g) (concat_rule ∷ []) foo 3 0
      (leaf (ident (ident_of (codes "foo_bar") (at 0 17 23))) none)
  -- with `"-"` for `_bar` the joined text isn't an identifier
  pub refused : (g : Grammar) (inside : Forest) →
      ExpandsBy (open_grammar g) (concat_of (ops.literal_element
      (record { text_and_suffix = codes "-"; suffix_len = 0; kind = Str; span = at 0 28 31 }))
      ∷ []) foo 3 0 inside
      → ⊥

-- ---- an expression at `(a b) c`, by a grammar that counts two tokens

abbrev pub front_argument : Forest
front_argument = group (delimiter_of Parenthesis (at 1 0 1) (at 1 4 5))
    (text_at 1 1 (codes "a") (text_at 1 3 (codes "b") none)) (text_at 1 6 (codes "c") none)

-- The front is the whole group, with an error, and `c` is next. A variable doesn't match there.
pub record FrontExample : Type 0 where
  pub taken : (g : Grammar) → g.parse entries.Expr (flat front_argument)
      ≡ record { count = 2; fault = false } →
      front g entries.Expr front_argument
      ≡ cut (group (delimiter_of Parenthesis (at 1 0 1) (at 1 4 5))
      (text_at 1 1 (codes "a") (text_at 1 3 (codes "b") none)) none) (text_at 1 6 (codes "c") none)
  pub reported : (g : Grammar) (around : DelimSpan)
      → g.parse entries.Expr (flat front_argument) ≡ record { count = 2; fault = false } →
      front_error g entries.Expr front_argument around
      ≡ Some (record { span = at 1 0 1; kind = binding_error (codes "expected Expr") })
  pub refused : (g : Grammar) → g.parse entries.Ty (flat front_argument)
      ≡ record { count = 2; fault = false }
      → fragment_front g (Some kinds.Ty) front_argument ≡ None
  -- nor does it if the grammar faults with a count of whole trees
  pub faulty : (g : Grammar) → g.parse entries.Ty (flat front_argument)
      ≡ record { count = 4; fault = true }
      → fragment_front g (Some kinds.Ty) front_argument ≡ None
  pub good : (g : Grammar) → g.parse entries.Ty (flat front_argument)
      ≡ record { count = 4; fault = false }
      → fragment_front g (Some kinds.Ty) front_argument ≡ Some (front g entries.Ty front_argument)

-- ---- no rules

pub record NoRuleExample : Type 0 where
  pub styles : style_bits [] ≡ 1
  pub text : text_of_fault invalid_repeat ≡ codes "invalid repeat"
  pub none_of_style : HasStyle [] FnLike → ⊥
