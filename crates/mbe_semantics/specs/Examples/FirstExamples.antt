-- Small definitions and arguments, as trees, and what the specification says about them.
use Rattle.std.specs.Prelude.{◌≡◌, ◌≢◌, ℕ, true, false, List, [], ◌∷◌, codes, Option, Some, None}
use Rattle.mbe_semantics.specs.declared.fragment_kinds.MetaVarKind.{MetaVarKind}
use Rattle.mbe_semantics.specs.declared.fragment_kinds.MetaVarKind.TheVariants as kinds
use Rattle.mbe_semantics.specs.declared.fragment_kinds.ExprKind.TheVariants as exprs
use Rattle.mbe_semantics.specs.declared.fragment_kinds.RepeatKind.{RepeatKind}
use Rattle.mbe_semantics.specs.declared.macro_call_style.MacroCallStyle.TheVariants.{FnLike}
use Rattle.mbe_semantics.specs.declared.fragment_kinds.RepeatKind.TheVariants.{ZeroOrMore}
use Rattle.mbe_semantics.specs.declared.fragment_kinds.RepeatKind.TheVariants.{ZeroOrOne, OneOrMore}
use Rattle.mbe_tt.specs.Trees.Leaf.{ident, literal}
use Rattle.mbe_tt.specs.declared.tt.LitKind.TheVariants.{Str}
use Rattle.mbe_tt.specs.declared.tt.IdentIsRaw.TheVariants as raw
use Rattle.mbe_tt.specs.declared.tt.Spacing.TheVariants.{Alone, Joint}
use Rattle.mbe_tt.specs.declared.tt.DelimiterKind.TheVariants.{Parenthesis, Brace, Invisible}
use Rattle.mbe_tt.specs.Trees.Tree.{Forest, none, leaf, group, cut}
use Rattle.mbe_semantics.specs.Syntax.Op as ops
use Rattle.mbe_semantics.specs.Syntax.Op.{Name, Op, Ops, no_ops, op, names_of, punct_separator}
use Rattle.mbe_semantics.specs.Syntax.Op.{ident_separator, lifetime_separator}
use Rattle.mbe_semantics.specs.Syntax.Template.{expected}
use Rattle.mbe_semantics.specs.Syntax.Definition.{Rule, IsMacroRules}
use Rattle.mbe_tt.specs.Grammars.Grammar.{Grammar, IsLawful}
use Rattle.mbe_semantics.specs.Fragments.Kinds as fragments
use Rattle.mbe_semantics.specs.Readings.Item.{Items, matched, bound, skipped, rounds, no_items}
use Rattle.mbe_semantics.specs.Readings.Item.{item, no_rounds, round}
use Rattle.mbe_semantics.specs.Readings.Ambiguity.{IsReading, IsAmbiguousAt, Fits}
use Rattle.mbe_semantics.specs.Readings.Verdict.{IsVerdict, ambiguous, many_readings, one_reading}
use Rattle.mbe_semantics.specs.Readings.Verdict.{stuck}
use Rattle.mbe_semantics.specs.Bindings.Environment.{Value, fragment, list, empty, value, no_values}
use Rattle.mbe_semantics.specs.Bindings.Environment.{Environment, environment_of, binding_total}
use Rattle.mbe_semantics.specs.Transcription.Rounds.{finite}
use Rattle.mbe_semantics.specs.Transcription.FragmentTrees.{IsFragmentOutput, path_trees}
use Rattle.mbe_semantics.specs.Syntax.Nullable.{is_refused}
use Rattle.mbe_semantics.specs.Readings.Fit.{token_front}
use Rattle.mbe_tt.specs.Trees.Glue.{glue, chars_of}
use Rattle.mbe_tt.specs.declared.grammar.PrefixEntryPoint.TheVariants.{Vis}
use Rattle.mbe_semantics.specs.Expansion.Expansion.{IsExpansion}
use Rattle.mbe_semantics.specs.Transcription.Substitution.{faults, extent_faults, total_of}
use Rattle.mbe_semantics.specs.Transcription.Substitution.{IsSubstitution}
use Rattle.mbe_semantics.specs.Expansion.Recovery.{IsClosest}
use Rattle.mbe_semantics.specs.Examples.Sample.{is_2024, Defines, ExpandsBy, fn_like, reads_at}
use Rattle.mbe_semantics.specs.Examples.Sample.{ident_at, text_at, alone_at, joint_at, arrow_at}
use Rattle.mbe_semantics.specs.Examples.Sample.{parens, braces, typed_at, at, ident_of, punct_of}
use Rattle.mbe_semantics.specs.Examples.Sample.{integer_of, word, mark, number, delimiter_of}
use Rattle.mbe_semantics.specs.Examples.Sample.{same_span}
use Rattle.mbe_semantics.specs.Examples.Sample.{open_grammar}

-- ---- `($x:ident = $t:tt;) => { pair ($t) $x }` on `a = 1;`

abbrev pub pair_reads : Forest
pair_reads =
    mark 36 Alone (at 0 1 2) (word (codes "x") (at 0 2 3)
    (mark 58 Alone (at 0 3 4) (word (codes "ident") (at 0 4 9)
    (mark 61 Alone (at 0 10 11) (mark 36 Alone (at 0 12 13)
    (word (codes "t") (at 0 13 14) (mark 58 Alone (at 0 14 15) (word (codes "tt") (at 0 15 17)
    (mark 59 Alone (at 0 17 18) none)))))))))

abbrev pub pair_writes : Forest
pair_writes =
    word (codes "pair") (at 0 25 29)
    (group (delimiter_of Parenthesis (at 0 30 31) (at 0 33 34))
    (mark 36 Alone (at 0 31 32) (word (codes "t") (at 0 32 33) none))
    (mark 36 Alone (at 0 35 36) (word (codes "x") (at 0 36 37) none)))

abbrev pub pair_definition : Forest
pair_definition =
    group (delimiter_of Parenthesis (at 0 0 1) (at 0 18 19)) pair_reads
    (mark 61 Joint (at 0 20 21) (mark 62 Alone (at 0 21 22)
    (group (delimiter_of Brace (at 0 23 24) (at 0 38 39)) pair_writes none)))

abbrev pub pair_rule : Rule
pair_rule = record {
  style = FnLike;
  reads =
      op (ops.variable (codes "x") (Some kinds.Ident) (at 0 2 3))
      (op (ops.token (ops.puncts (punct_of 61 Alone (at 0 10 11) ∷ [])))
      (op (ops.variable (codes "t") (Some kinds.Tt) (at 0 13 14))
      (op (ops.token (ops.puncts (punct_of 59 Alone (at 0 17 18) ∷ []))) no_ops)));
  writes =
      op (ops.token (ops.ident (ident_of (codes "pair") (at 0 25 29))))
      (op (ops.group (delimiter_of Parenthesis (at 0 30 31) (at 0 33 34))
      (op (ops.variable (codes "t") None (at 0 32 33)) no_ops))
      (op (ops.variable (codes "x") None (at 0 36 37)) no_ops));
}

abbrev pub pair_argument : Forest
pair_argument = word (codes "a") (at 1 0 1)
    (mark 61 Alone (at 1 2 3) (number (codes "1") (at 1 4 5) (mark 59 Alone (at 1 5 6) none)))

abbrev pub pair_items : Items
pair_items =
    item (item (item (item no_items
    (bound (codes "x") (record {
      trees = word (codes "a") (at 1 0 1) none;
      style =
          fragments.stripped;
    }))) (matched 1))
    (bound (codes "t") (record {
      trees = number (codes "1") (at 1 4 5) none;
      style =
          fragments.stripped;
    }))) (matched 1)

abbrev pub pair_result : Forest
pair_result =
    group (delimiter_of Invisible (at 1 0 6) (at 1 0 6))
    (word (codes "pair") (at 0 25 29) (group (delimiter_of Parenthesis (at 0 30 31) (at 0 33 34))
    (number (codes "1") (at 1 4 5) none)
    (word (codes "a") (at 1 0 1) none)))
    none

pub record PairExample : Type 0 where
  pub parsed : IsMacroRules is_2024 pair_definition (pair_rule ∷ []) None
  pub read : (g : Grammar) → IsReading (open_grammar g) pair_rule.reads pair_argument pair_items
  pub written : (g : Grammar) →
      IsSubstitution (open_grammar g) same_span (at 1 0 6) (environment_of pair_items)
      pair_rule.writes pair_result
  pub expands : (g : Grammar)
      → IsExpansion (open_grammar g) FnLike pair_argument same_span (at 1 0 6) (pair_rule
      ∷ []) 0 pair_result

-- ---- `($($t:ident),* as $ty:ident) => {}` on `as u32`

abbrev pub cast_definition : Forest
cast_definition =
    group (parens 0 27)
    (alone_at 0 1 36 (group (parens 2 11) (typed_at 3 (codes "t") (codes "ident") none)
    (joint_at 0 12 44 (alone_at 0 13 42
    (text_at 0 15 (codes "as") (typed_at 18 (codes "ty") (codes "ident") none))))))
    (arrow_at 29 (group (braces 32 33) none none))

abbrev pub cast_pattern : Ops
cast_pattern =
    op (ops.repetition (op (reads_at 4 (codes "t") kinds.Ident) no_ops)
    (Some (punct_separator (punct_of 44 Joint (at 0 12 13) ∷ []))) ZeroOrMore)
    (op (ident_at 15 (codes "as")) (op (reads_at 19 (codes "ty") kinds.Ident) no_ops))

abbrev pub cast_rule : Rule
cast_rule = fn_like cast_pattern no_ops

abbrev pub cast_argument : Forest
cast_argument = text_at 1 0 (codes "as") (text_at 1 3 (codes "u32") none)

-- `as` is the token. `$t` could match it too, but then no partial reading goes on.
pub record CastExample : Type 0 where
  pub defines : Defines cast_definition (cast_rule ∷ [])
  pub verdict : (g : Grammar) → IsVerdict (open_grammar g) cast_pattern cast_argument (ambiguous 0)
  pub closest : (g : Grammar) → IsClosest (open_grammar g) FnLike cast_argument (cast_rule ∷ []) 0

-- ---- `($(a)? $(a)?) => {}` on `a`

abbrev pub twice_definition : Forest
twice_definition =
    group (parens 0 12)
    (alone_at 0 1 36 (group (parens 2 4) (text_at 0 3 (codes "a") none) (alone_at 0 5 63
    (alone_at 0 7 36 (group (parens 8 10) (text_at 0 9 (codes "a") none)
    (alone_at 0 11 63 none))))))
    (arrow_at 14 (group (braces 17 18) none none))

abbrev pub optional_at : ℕ → Op
optional_at start = ops.repetition (op (ident_at start (codes "a")) no_ops) None ZeroOrOne

abbrev pub twice_pattern : Ops
twice_pattern = op (optional_at 3) (op (optional_at 9) no_ops)

abbrev pub twice_rule : Rule
twice_rule = fn_like twice_pattern no_ops

abbrev pub twice_argument : Forest
twice_argument = text_at 1 0 (codes "a") none

pub record OptionalExample : Type 0 where
  pub defines : Defines twice_definition (twice_rule ∷ [])
  pub one : Items
  pub other : Items
  pub different : one ≢ other
  pub read_one : (g : Grammar) → IsReading (open_grammar g) twice_pattern twice_argument one
  pub read_other : (g : Grammar) → IsReading (open_grammar g) twice_pattern twice_argument other
  pub verdict : (g : Grammar)
      → IsVerdict (open_grammar g) twice_pattern twice_argument many_readings
  pub closest : (g : Grammar) → IsClosest (open_grammar g) FnLike twice_argument (twice_rule ∷ []) 0

-- ---- `($(b $(')?)'a*) => {}` on `b 'a b`

abbrev pub quote_definition : Forest
quote_definition =
    group (parens 0 14)
    (alone_at 0 1 36 (group (parens 2 10)
    (text_at 0 3 (codes "b") (alone_at 0 5 36
    (group (parens 6 8) (alone_at 0 7 39 none) (alone_at 0 9 63 none))))
    (joint_at 0 11 39 (text_at 0 12 (codes "a") (alone_at 0 13 42 none)))))
    (arrow_at 16 (group (braces 19 20) none none))

abbrev pub quote_pattern : Ops
quote_pattern =
    op (ops.repetition
    (op (ident_at 3 (codes "b")) (op (ops.repetition
    (op (ops.token (ops.puncts (punct_of 39 Alone (at 0 7 8) ∷ []))) no_ops) None ZeroOrOne)
    no_ops))
    (Some (lifetime_separator (punct_of 39 Joint (at 0 11 12)) (ident_of (codes "a") (at 0 12 13))))
    ZeroOrMore) no_ops

abbrev pub quote_rule : Rule
quote_rule = fn_like quote_pattern no_ops

abbrev pub quote_argument : Forest
quote_argument =
    text_at 1 0 (codes "b") (joint_at 1 2 39
    (text_at 1 3 (codes "a") (text_at 1 5 (codes "b") none)))

-- After `b` the quote is a token, or the first of the two tokens of the separator.
pub record QuoteExample : Type 0 where
  pub defines : Defines quote_definition (quote_rule ∷ [])
  pub offset : (g : Grammar) → IsAmbiguousAt (open_grammar g) quote_pattern quote_argument 1
  pub verdict : (g : Grammar) → IsLawful (open_grammar g)
      → IsVerdict (open_grammar g) quote_pattern quote_argument (ambiguous 1)
  pub closest : (g : Grammar) → IsLawful (open_grammar g)
      → IsClosest (open_grammar g) FnLike quote_argument (quote_rule ∷ []) 0

-- ---- `($( b $(x)? )x*) => {}` on `b x b`

abbrev pub bx_definition : Forest
bx_definition =
    group (parens 0 15)
    (alone_at 0 1 36 (group (parens 2 12)
    (text_at 0 4 (codes "b") (alone_at 0 6 36
    (group (parens 7 9) (text_at 0 8 (codes "x") none) (alone_at 0 10 63 none))))
    (text_at 0 13 (codes "x") (alone_at 0 14 42 none))))
    (arrow_at 17 (group (braces 20 21) none none))

abbrev pub bx_pattern : Ops
bx_pattern =
    op (ops.repetition
    (op (ident_at 4 (codes "b")) (op (ops.repetition (op (ident_at 8 (codes "x")) no_ops) None
    ZeroOrOne) no_ops))
    (Some (ident_separator (ident_of (codes "x") (at 0 13 14)))) ZeroOrMore) no_ops

abbrev pub bx_rule : Rule
bx_rule = fn_like bx_pattern no_ops

abbrev pub bx_argument : Forest
bx_argument = text_at 1 0 (codes "b") (text_at 1 2 (codes "x") (text_at 1 4 (codes "b") none))

-- `$(x)?` is skipped, and binds nothing
abbrev pub bx_round : Items
bx_round = item (item no_items (matched 1)) (skipped [])

abbrev pub bx_items : Items
bx_items = item no_items (rounds (round no_rounds bx_round 1) bx_round)

pub record RoundsExample : Type 0 where
  pub defines : Defines bx_definition (bx_rule ∷ [])
  pub fits : (g : Grammar) → IsLawful (open_grammar g)
      → Fits (open_grammar g) bx_pattern bx_argument bx_items
  pub expands : (g : Grammar) → IsLawful (open_grammar g)
      → ExpandsBy (open_grammar g) (bx_rule ∷ []) bx_argument 5 0 none

-- ---- the expansions of templates

abbrev pub fragment_of : fragments.Style → Forest → Value
fragment_of style f = fragment (record { trees = f; style = style })

-- a value that is one identifier
abbrev pub one_word : List ℕ → Value
one_word text = fragment_of fragments.stripped (word text (at 1 0 1) none)

abbrev pub two : Value → Value → Value
two v w = list (value v (value w no_values))

abbrev pub plain_variable : List ℕ → Op
plain_variable name = ops.variable name None (at 0 0 1)

abbrev pub star : Ops → Op
star body = ops.repetition body None ZeroOrMore

-- The values: a is a list of three identifiers, b of two, x is one identifier, and n is a list of
-- two lists, of two and one.
abbrev pub some_values : Environment
some_values = (
  codes "a",
  list (value (one_word (codes "p"))
      (value (one_word (codes "q")) (value (one_word (codes "r")) no_values))),
)
    ∷ (codes "b", two (one_word (codes "s")) (one_word (codes "t")))
    ∷ (codes "x", one_word (codes "w"))
    ∷ (
      codes "n",
      two (two (one_word (codes "p")) (one_word (codes "q")))
          (list (value (one_word (codes "r")) no_values)),
    )
    ∷ []

abbrev pub words : List (List ℕ) → Forest
words [] = none
words (text ∷ texts) = word text (at 1 0 1) (words texts)

pub record TemplateExamples : Type 0 where
  -- `$($x)*` is endless, `$($x)?` emits it once, and `$x` doesn't fault
  pub endless : faults some_values [] (op (star (op (plain_variable (codes "x")) no_ops)) no_ops)
      ≡ true
  pub once : faults some_values []
      (op (ops.repetition (op (plain_variable (codes "x")) no_ops) None ZeroOrOne) no_ops)
      ≡ false
  pub faultless : faults some_values [] (op (plain_variable (codes "x")) no_ops) ≡ false
  -- a list where a variable needs one value, and `+` without a name
  pub nested : faults some_values [] (op (plain_variable (codes "a")) no_ops) ≡ true
  pub no_round : faults some_values [] (op (ops.repetition no_ops None OneOrMore) no_ops) ≡ true
  -- `$($a $b)*` has as many rounds as the shorter list
  pub shorter : (g : Grammar) →
      IsSubstitution (open_grammar g) same_span (at 1 0 9) some_values
      (op (star (op (plain_variable (codes "a")) (op (plain_variable (codes "b")) no_ops))) no_ops)
      (group (delimiter_of Invisible (at 1 0 9) (at 1 0 9)) (words (codes "p" ∷ codes "s"
      ∷ codes "q" ∷ codes "t" ∷ []))
      none)
  -- `${count($n)} ${count($n, 1)}`
  pub counts : (g : Grammar) →
      IsSubstitution (open_grammar g) same_span (at 1 0 6) some_values
      (op (ops.expression (ops.count (codes "n") 0))
      (op (ops.expression (ops.count (codes "n") 1)) no_ops))
      (group (delimiter_of Invisible (at 1 0 6) (at 1 0 6))
      (number (codes "2") (at 1 0 6) (number (codes "3") (at 1 0 6) none)) none)
  -- `$(${index()} $b)*`
  pub indexes : (g : Grammar) →
      IsSubstitution (open_grammar g) same_span (at 1 0 3) some_values
      (op (star (op (ops.expression (ops.index 0)) (op (plain_variable (codes "b")) no_ops)))
      no_ops)
      (group (delimiter_of Invisible (at 1 0 3) (at 1 0 3))
      (number (codes "0") (at 1 0 3) (word (codes "s") (at 1 0 1)
      (number (codes "1") (at 1 0 3) (word (codes "t") (at 1 0 1) none)))) none)
  -- `${index(1)}` in one level of rounds
  pub far_index : (g : Grammar) →
      IsSubstitution (open_grammar g) same_span (at 1 0 3) some_values
      (op (star (op (ops.expression (ops.index 1)) (op (plain_variable (codes "b")) no_ops)))
      no_ops)
      (group (delimiter_of Invisible (at 1 0 3) (at 1 0 3))
      (number (codes "0") (at 1 0 3) (word (codes "s") (at 1 0 1)
      (number (codes "0") (at 1 0 3) (word (codes "t") (at 1 0 1) none)))) none)
  -- `$($b)?` emits one of two rounds
  pub first_only : (g : Grammar) →
      IsSubstitution (open_grammar g) same_span (at 1 0 9) some_values
      (op (ops.repetition (op (plain_variable (codes "b")) no_ops) None ZeroOrOne) no_ops)
      (group (delimiter_of Invisible (at 1 0 9) (at 1 0 9)) (words (codes "s" ∷ [])) none)
  -- 65535 rounds are emitted, 65536 are a fault
  pub below_limit : extent_faults ZeroOrMore (finite 65535) ≡ false
  pub limit : extent_faults ZeroOrMore (finite 65536) ≡ true
  -- `${concat(p, $a)}` where `a` is a list; `${ignore($y)}` where `y` is unbound; `${count($e)}`
  -- where `e` was skipped
  pub listed : faults some_values [] (op
      (ops.expression (ops.concat (ops.ident_element (ident_of (codes "p") (at 0 0 1))
      ∷ ops.variable_element (ident_of (codes "a") (at 0 0 1)) ∷ []) (at 0 0 1))) no_ops) ≡ true
  pub ignored : faults some_values []
      (op (ops.expression (ops.ignore (codes "y") (at 0 0 1))) no_ops) ≡ true
  pub none_counted : total_of 0 (Some empty) ≡ 0
  -- three, two, one, and two and one
  pub bindings : binding_total some_values ≡ 9
  -- an unbound name is emitted as it is
  pub unbound : (g : Grammar) →
      IsSubstitution (open_grammar g) same_span (at 1 0 0) []
      (op (ops.variable (codes "y") None (at 0 8 9)) no_ops)
      (group (delimiter_of Invisible (at 1 0 0) (at 1 0 0))
      (mark 36 Alone (at 0 8 9) (word (codes "y") (at 0 8 9) none)) none)
  -- `1 + 2` is emitted in parentheses, `-1` isn't
  pub sum : IsFragmentOutput same_span (at 1 0 5) fragments.as_expression (at 0 15 16)
      (number (codes "1") (at 1 0 1)
      (mark 43 Alone (at 1 2 3) (number (codes "2") (at 1 4 5) none)))
      (group (delimiter_of Parenthesis (at 0 15 16) (at 0 15 16))
      (number (codes "1") (at 1 0 1)
      (mark 43 Alone (at 1 2 3) (number (codes "2") (at 1 4 5) none))) none)
  pub negative : IsFragmentOutput same_span (at 1 0 2) fragments.as_expression (at 0 15 16)
      (mark 45 Alone (at 1 0 1) (number (codes "1") (at 1 1 2) none))
      (mark 45 Alone (at 1 0 1) (number (codes "1") (at 1 1 2) none))
  -- an invisible group around `1 + 2` is removed
  pub opened : IsFragmentOutput same_span (at 1 0 5) fragments.as_expression (at 0 15 16)
      (group (delimiter_of Invisible (at 1 0 0) (at 1 5 5))
      (number (codes "1") (at 1 0 1)
      (mark 43 Alone (at 1 2 3) (number (codes "2") (at 1 4 5) none))) none)
      (group (delimiter_of Parenthesis (at 0 15 16) (at 0 15 16))
      (number (codes "1") (at 1 0 1)
      (mark 43 Alone (at 1 2 3) (number (codes "2") (at 1 4 5) none))) none)
  -- `<T>` gets no `::`, because no identifier comes before the `<`
  pub plain_path : path_trees (at 1 0 3)
      (mark 60 Alone (at 1 0 1) (word (codes "T") (at 1 1 2) (mark 62 Alone (at 1 2 3) none)))
      ≡ mark 60 Alone (at 1 0 1) (word (codes "T") (at 1 1 2) (mark 62 Alone (at 1 2 3) none))
  -- `Vec<u8>` gets a `::`
  pub path : path_trees (at 1 0 7) (word (codes "Vec") (at 1 0 3)
      (mark 60 Alone (at 1 3 4) (word (codes "u8") (at 1 4 6) (mark 62 Alone (at 1 6 7) none))))
      ≡ word (codes "Vec") (at 1 0 3) (mark 58 Joint (at 1 0 7)
      (mark 58 Alone (at 1 0 7) (mark 60 Alone (at 1 3 4)
      (word (codes "u8") (at 1 4 6) (mark 62 Alone (at 1 6 7) none)))))

-- ---- definitions that are refused, and tokens that match

abbrev pub empty_group : Forest → Forest
empty_group rest = group (delimiter_of Parenthesis (at 0 0 1) (at 0 1 2)) none rest

-- `() => {}` and the trees after it
abbrev pub empty_rule_then : Forest → Forest
empty_rule_then rest =
    empty_group (mark 61 Joint (at 0 3 4) (mark 62 Alone (at 0 4 5) (empty_group rest)))

abbrev pub empty_rule : Rule
empty_rule = record { style = FnLike; reads = no_ops; writes = no_ops }

abbrev pub vis_pattern : Ops
vis_pattern =
    op (ops.repetition (op (ops.repetition
    (op (ops.variable (codes "v") (Some kinds.Vis) (at 0 0 1)) no_ops)
    (Some (punct_separator (punct_of 44 Joint (at 0 0 1) ∷ []))) OneOrMore) no_ops) None ZeroOrMore)
    no_ops

pub record DefinitionExamples : Type 0 where
  -- `() => {} x`
  pub stray : IsMacroRules is_2024 (empty_rule_then (word (codes "x") (at 0 9 10) none)) (empty_rule
      ∷ [])
      (Some (expected (codes "expected `;`")))
  -- `($x:ident) =>`, without a template
  pub no_template : IsMacroRules is_2024
      (empty_group (mark 61 Joint (at 0 3 4) (mark 62 Alone (at 0 4 5) none))) []
      (Some (expected (codes "expected subtree")))
  -- `$( $($v:vis),+ )*`
  pub refused : is_refused vis_pattern ≡ true
  -- `1` matches `"1"`, `foo` matches `r#foo`
  pub any_literal : (rest : Forest) →
      token_front (ops.literal (integer_of (codes "1") (at 0 1 2)))
      (leaf (literal (record {
        text_and_suffix = codes "1";
        suffix_len = 0;
        kind = Str;
        span = at 1
            0 3;
      })) none)
      ≡ Some (cut
      (leaf (literal (record {
        text_and_suffix = codes "1";
        suffix_len = 0;
        kind = Str;
        span = at 1
            0 3;
      }))
      none) none)
  pub raw_ident :
      token_front (ops.ident (ident_of (codes "foo") (at 0 1 4)))
      (leaf (ident (record { sym = codes "foo"; is_raw = raw.Yes; span = at 1 0 5 })) none)
      ≡ Some (cut (leaf (ident (record { sym = codes "foo"; is_raw = raw.Yes; span = at 1 0 5 }))
      none) none)
  -- `;+` doesn't join, `..=` does, and the first two puncts of `..+` do
  pub apart : chars_of (glue (mark 59 Joint (at 1 0 1) (mark 43 Alone (at 1 1 2) none))) ≡ codes ";"
  pub together : chars_of (glue (mark 46 Joint (at 1 0 1)
      (mark 46 Joint (at 1 1 2) (mark 61 Alone (at 1 2 3) none))))
      ≡ codes "..="
  pub first_two : chars_of (glue (mark 46 Joint (at 1 0 1)
      (mark 46 Joint (at 1 1 2) (mark 43 Alone (at 1 2 3) none))))
      ≡ codes ".."
  -- the later of two bindings replaces the earlier
  pub twice : environment_of
      (item (item no_items (bound (codes "x")
      (record { trees = words (codes "a" ∷ []); style = fragments.stripped })))
      (bound (codes "x") (record { trees = words (codes "b" ∷ []); style = fragments.stripped })))
      ≡ (codes "x", one_word (codes "b")) ∷ []
  -- a skipped repetition sets each variable of its body, and of the bodies inside
  pub nothing_bound : environment_of (item no_items (skipped (names_of
      (op (ops.variable (codes "x") (Some kinds.Ident) (at 0 2 3))
      (op (ops.repetition (op (ops.variable (codes "y") (Some kinds.Ident) (at 0 2 3)) no_ops) None
      ZeroOrMore)
      no_ops)))))
      ≡ (codes "x", empty) ∷ (codes "y", empty) ∷ []
  -- rounds give a list
  pub lists : environment_of (item no_items
      (rounds (round no_rounds (item no_items
      (bound (codes "x") (record { trees = words (codes "a" ∷ []); style = fragments.stripped })))
      1)
      (item no_items (bound (codes "x")
      (record { trees = words (codes "b" ∷ []); style = fragments.stripped })))))
      ≡ (codes "x", two (one_word (codes "a")) (one_word (codes "b"))) ∷ []
  -- `$($v:vis),*` has two readings of nothing, by a grammar where `vis` may be empty: no round, and
  -- one empty round
  pub empty_rounds : (g : Grammar) → (g.parse Vis []) ≡ record { count = 0; fault = false } →
      IsReading (open_grammar g)
      (op (ops.repetition (op (ops.variable (codes "v") (Some kinds.Vis) (at 0 0 1)) no_ops)
      (Some (punct_separator (punct_of 44 Joint (at 0 0 1) ∷ []))) ZeroOrMore) no_ops)
      none (item no_items (rounds no_rounds
      (item no_items (bound (codes "v") (record { trees = none; style = fragments.plain })))))

-- ---- verdicts

-- `$x:ident`, and tokens
abbrev pub x_variable : Op
x_variable = ops.variable (codes "x") (Some kinds.Ident) (at 0 0 1)

abbrev pub token_of : List ℕ → Op
token_of text = ops.token (ops.ident (ident_of text (at 0 0 1)))

abbrev pub comma : Option ops.Separator
comma = Some (punct_separator (punct_of 44 Joint (at 0 0 1) ∷ []))

abbrev pub in_parentheses : Forest → Forest → Forest
in_parentheses inside rest = group (delimiter_of Parenthesis (at 1 0 1) (at 1 0 1)) inside rest

abbrev pub a_then : Forest → Forest
a_then rest = word (codes "a") (at 1 0 1) rest

abbrev pub comma_then : Forest → Forest
comma_then rest = mark 44 Alone (at 1 0 1) rest

-- `($x:ident)`
abbrev pub group_pattern : Ops
group_pattern =
    op (ops.group (delimiter_of Parenthesis (at 0 0 1) (at 0 0 1)) (op x_variable no_ops)) no_ops

-- `$($x:ident),*`
abbrev pub list_pattern : Ops
list_pattern = op (ops.repetition (op x_variable no_ops) comma ZeroOrMore) no_ops

-- `$x` of this kind
abbrev pub of_kind : MetaVarKind → Op
of_kind kind = ops.variable (codes "x") (Some kind) (at 0 0 1)

-- `$(a)` with this separator
abbrev pub list_between : ops.Separator → RepeatKind → Op
list_between s repeat = ops.repetition (op (token_of (codes "a")) no_ops) (Some s) repeat

abbrev pub quote_then : Forest → Forest
quote_then rest = mark 39 Joint (at 1 0 1) rest

abbrev pub arrow_pattern : Ops
arrow_pattern =
    op (ops.token (ops.puncts (punct_of 61 Joint (at 0 0 1) ∷ punct_of 62 Alone (at 0 1 2) ∷ [])))
    no_ops

pub record VerdictExamples (g : Grammar) : Type 0 where
  -- `($x:ident)` on `(a)`, `()`, `(a a)`, `(a) a` and `{a}`
  pub group_one : IsVerdict (open_grammar g) group_pattern (in_parentheses (a_then none) none)
      one_reading
  pub group_none : IsVerdict (open_grammar g) group_pattern (in_parentheses none none) (stuck 1)
  pub group_two : IsVerdict (open_grammar g) group_pattern
      (in_parentheses (a_then (a_then none)) none) (stuck 2)
  pub group_more : IsVerdict (open_grammar g) group_pattern
      (in_parentheses (a_then none) (a_then none)) (stuck 3)
  pub group_other : IsVerdict (open_grammar g) group_pattern
      (group (delimiter_of Brace (at 1 0 1) (at 1 0 1)) (a_then none) none)
      (stuck 0)
  -- `$($x:ident),*` on nothing, `a, a`, `a,` and `a a`
  pub list_none : IsVerdict (open_grammar g) list_pattern none one_reading
  pub list_two : IsVerdict (open_grammar g) list_pattern (a_then (comma_then (a_then none)))
      one_reading
  pub list_comma : IsVerdict (open_grammar g) list_pattern (a_then (comma_then none)) (stuck 2)
  pub list_missing : IsVerdict (open_grammar g) list_pattern (a_then (a_then none)) (stuck 1)
  -- `$(a)* $x:ident` on `a`, `$(a)* b` on `a a b`, `$(a)* $(a)*` on `a`, `$(a)+` on nothing,
  -- `$(a)?` on `a a`
  pub or_variable : IsVerdict (open_grammar g)
      (op (ops.repetition (op (token_of (codes "a")) no_ops) None
      ZeroOrMore)
      (op x_variable no_ops)) (a_then none) (ambiguous 0)
  pub then_b : IsVerdict (open_grammar g)
      (op (ops.repetition (op (token_of (codes "a")) no_ops) None ZeroOrMore)
      (op (token_of (codes "b")) no_ops)) (a_then (a_then (word (codes "b") (at 1 0 1) none)))
      one_reading
  pub two_lists : IsVerdict (open_grammar g)
      (op (ops.repetition (op (token_of (codes "a")) no_ops) None
      ZeroOrMore)
      (op (ops.repetition (op (token_of (codes "a")) no_ops) None ZeroOrMore) no_ops)) (a_then none)
      many_readings
  pub at_least_one : IsVerdict (open_grammar g)
      (op (ops.repetition (op (token_of (codes "a")) no_ops) None
      OneOrMore) no_ops) none
      (stuck 0)
  pub at_most_one : IsVerdict (open_grammar g)
      (op (ops.repetition (op (token_of (codes "a")) no_ops) None
      ZeroOrOne) no_ops)
      (a_then (a_then none)) (stuck 1)
  -- `$(),*` on nothing and on `,`
  pub empty_body : IsVerdict (open_grammar g) (op (ops.repetition no_ops comma ZeroOrMore) no_ops)
      none
      many_readings
  pub empty_bodies : IsVerdict (open_grammar g) (op (ops.repetition no_ops comma ZeroOrMore) no_ops)
      (comma_then none) one_reading
  -- `$($x:ident)* $x:ident` on `a`: two fragments
  pub two_fragments : IsVerdict (open_grammar g)
      (op (ops.repetition (op x_variable no_ops) None ZeroOrMore) (op x_variable no_ops))
      (a_then none) (ambiguous 0)
  -- `(a b)` on `(a c)`
  pub group_inside : IsVerdict (open_grammar g)
      (op (ops.group (delimiter_of Parenthesis (at 0 0 1) (at 0 0 1))
      (op (token_of (codes "a")) (op (token_of (codes "b")) no_ops))) no_ops)
      (in_parentheses (a_then (word (codes "c") (at 1 0 1) none)) none) (stuck 2)
  -- `$x:expr_2021` on `_` and on `const`: the grammar isn't called
  pub old_underscore : IsVerdict (open_grammar g) (op (of_kind (kinds.Expr exprs.Expr2021)) no_ops)
      (word (codes "_") (at 1 0 1) none)
      (stuck 0)
  pub old_const : IsVerdict (open_grammar g) (op (of_kind (kinds.Expr exprs.Expr2021)) no_ops)
      (word (codes "const") (at 1 0 5) none)
      (stuck 0)
  -- `$x:ident` on `_`, `$x:lifetime` on `'a`, `$x:tt` on `'a` and on `'`, `$x:literal` on `-true`
  pub no_underscore : IsVerdict (open_grammar g) (op x_variable no_ops)
      (word (codes "_") (at 1 0 1) none)
      (stuck 0)
  pub lifetime : IsVerdict (open_grammar g) (op (of_kind kinds.Lifetime) no_ops)
      (quote_then (a_then none))
      one_reading
  pub tree_lifetime : IsVerdict (open_grammar g) (op (of_kind kinds.Tt) no_ops)
      (quote_then (a_then none))
      one_reading
  pub tree_quote : IsVerdict (open_grammar g) (op (of_kind kinds.Tt) no_ops) (quote_then none)
      (stuck 0)
  pub signed_truth : IsVerdict (open_grammar g) (op (of_kind kinds.Literal) no_ops)
      (mark 45 Alone (at 1 0 1) (word (codes "true") (at 1 1 5) none)) one_reading
  -- `$(a)"true"*` on `a true a`, `$(a);;*` on `a;;a`, `$(a),?` on `a,`
  pub truth_separator : IsVerdict (open_grammar g) (op (list_between
      (ops.literal_separator (record {
        text_and_suffix = codes "true";
        suffix_len = 0;
        kind = Str;
        span = at 0 0 1;
      }))
      ZeroOrMore) no_ops)
      (a_then (word (codes "true") (at 1 2 6) (a_then none))) one_reading
  pub never_glued : IsVerdict (open_grammar g) (op (list_between
      (punct_separator (punct_of 59 Joint (at 0 0 1) ∷ punct_of 59 Alone (at 0 1 2) ∷ []))
      ZeroOrMore) no_ops)
      (a_then (mark 59 Joint (at 1 1 2) (mark 59 Alone (at 1 2 3) (a_then none)))) (stuck 1)
  pub one_round : IsVerdict (open_grammar g)
      (op (list_between (punct_separator (punct_of 44 Joint (at 0 0 1)
      ∷ [])) ZeroOrOne) no_ops)
      (a_then (comma_then none)) (stuck 1)
  -- `=>` on `=>` and on `= >`
  pub arrow : IsVerdict (open_grammar g) arrow_pattern
      (mark 61 Joint (at 1 0 1) (mark 62 Alone (at 1 1 2) none))
      one_reading
  pub no_arrow : IsVerdict (open_grammar g) arrow_pattern
      (mark 61 Alone (at 1 0 1) (mark 62 Alone (at 1 2 3) none)) (stuck 0)
