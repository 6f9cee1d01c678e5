-- What a scan knows at a point among tokens: the last token, what the group holds, and which part
-- of a statement or closure the scan is in.
use Rattle.std.specs.Prelude.{Bool, true, false, not, ◌&&◌, ◌||◌, if◌then◌else◌, Option}
use Rattle.mbe_tt.specs.Trees.Leaf.{Leaf, Ident, literal, punct, ident}
use Rattle.mbe_tt.specs.Trees.Tree.{Forest}
use Rattle.mbe_tt.specs.declared.tt.DelimiterKind.{DelimiterKind}
use Rattle.mbe_tt.specs.declared.tt.DelimiterKind.TheVariants as kind
use Rattle.mbe_rewriter.specs.declared.hygiene.token_classes.Sign.{Sign}
use Rattle.mbe_rewriter.specs.declared.hygiene.token_classes.Sign.TheVariants as sign
use Rattle.mbe_rewriter.specs.declared.hygiene.token_classes.WordClass.{WordClass}
use Rattle.mbe_rewriter.specs.declared.hygiene.token_classes.WordClass.TheVariants as sort
use Rattle.mbe_rewriter.specs.declared.hygiene.scan_state.PreviousToken.{PreviousToken}
use Rattle.mbe_rewriter.specs.declared.hygiene.scan_state.PreviousToken.TheVariants as before
use Rattle.mbe_rewriter.specs.declared.hygiene.scan_state.Region.{Region}
use Rattle.mbe_rewriter.specs.declared.hygiene.scan_state.Region.TheVariants as region
use Rattle.mbe_rewriter.specs.declared.hygiene.scan_state.StatementPart.{StatementPart}
use Rattle.mbe_rewriter.specs.declared.hygiene.scan_state.StatementPart.TheVariants as part
use Rattle.mbe_rewriter.specs.declared.hygiene.scan_state.ScanState.{ScanState}
use Rattle.mbe_rewriter.specs.Hygiene.TokenClasses.{sign_of, word_class_of, is_one_of, text_macros}
use Rattle.mbe_rewriter.specs.Hygiene.Lookahead.{front_sign, is_colon, is_equals, has_in}
use Rattle.mbe_rewriter.specs.Hygiene.Lookahead.{bang_follows}
use Rattle.mbe_rewriter.specs.Hygiene.Lookahead.{begins_arm, begins_fields}

-- Trees begin: items, statements or an expression.
abbrev pub start : ScanState
start = record {
  before = before.Start;
  region = region.Code;
  part = part.Whole;
  is_head = false;
  in_let = false;
  in_head_let = false;
  is_late = false;
}

abbrev pub is_dots : PreviousToken → Bool
is_dots before.Dots = true
is_dots _ = false

-- A field begins there.
abbrev pub begins_field : PreviousToken → Bool
begins_field before.Start = true
begins_field before.Mark = true
begins_field _ = false

abbrev pub is_code : Region → Bool
is_code region.Code = true
is_code region.Arguments = true
is_code region.Guard = true
is_code region.Body = true
is_code region.Value = true
is_code _ = false

abbrev pub is_open_by : StatementPart → Region → Bool
is_open_by part.Whole r = is_code r
is_open_by _ r = false

-- The scan is among statements and expressions.
abbrev pub is_open : ScanState → Bool
is_open s = is_open_by s.part s.region

abbrev pub is_pattern_region : Region → Bool
is_pattern_region region.Arm = true
is_pattern_region region.Pattern = true
is_pattern_region region.FieldPatterns = true
is_pattern_region region.FieldPattern = true
is_pattern_region _ = false

-- The scan is in a pattern.
abbrev pub is_pattern : ScanState → StatementPart → Bool
is_pattern s part.LetPattern = true
is_pattern s part.ForPattern = true
is_pattern s part.Parameters = true
is_pattern s part.LetType = false
is_pattern s part.ParameterType = false
is_pattern s part.Whole = is_pattern_region s.region

-- A group is the argument of a macro. What it binds may be bound after it too.
abbrev pub is_argument : PreviousToken → Bool
is_argument before.Bang = true
is_argument before.TextBang = true
is_argument before.Named = true
is_argument _ = false

abbrev pub is_invisible : DelimiterKind → Bool
is_invisible kind.Invisible = true
is_invisible _ = false

-- What a group binds is bound up to its closing. A group in a pattern is no such group.
abbrev pub is_scope : ScanState → DelimiterKind → Bool
is_scope s k = not (is_pattern s s.part) && (not (is_argument s.before) && not (is_invisible k))

abbrev pub is_arm : StatementPart → Region → Bool
is_arm part.Whole region.Arm = true
is_arm _ _ = false

-- ---- after a word

abbrev pub after_keyword : ScanState → PreviousToken → Bool → ScanState
after_keyword s b head = record s { before = b; is_head = head }

abbrev pub after_in : ScanState → StatementPart → ScanState
after_in s part.ForPattern = record s { before = before.Word; part = part.Whole; is_head = true }
after_in s _ = after_keyword s before.Word s.is_head

-- A pattern begins, if it is one, and then its value: that of a statement, or that of an `if`, a
-- `while` or a `for`.
abbrev pub with_pattern : ScanState → StatementPart → Bool → Bool → ScanState
with_pattern s p is_one is_statement = record s {
  before = before.Word;
  part = if is_one then p else s.part;
  in_let = s.in_let || is_one && is_statement;
  in_head_let = s.in_head_let || is_one && not is_statement;
}

abbrev pub after_if : ScanState → ScanState
after_if s = record s {
  before = before.Word;
  region = if is_arm s.part s.region then region.Guard else s.region;
  is_head = true;
}

abbrev pub after_word_class : ScanState → WordClass → Forest → ScanState
after_word_class s sort.Let rest = with_pattern s part.LetPattern (is_open s) (not s.is_head)
after_word_class s sort.For rest = with_pattern s part.ForPattern (is_open s && has_in rest) false
after_word_class s sort.In rest = after_in s s.part
after_word_class s sort.If rest = after_if s
after_word_class s sort.Head rest = after_keyword s before.Word true
after_word_class s sort.Loop rest = after_keyword s before.Word true
after_word_class s sort.Header rest = after_keyword s before.Item true
after_word_class s sort.Item rest = after_keyword s before.Item s.is_head
after_word_class s sort.Jump rest = after_keyword s before.Jump s.is_head
after_word_class s sort.Keyword rest = after_keyword s before.Word s.is_head
after_word_class s sort.Value rest = after_keyword s before.Name s.is_head
after_word_class s sort.Name rest = after_keyword s before.Name s.is_head

-- The name of a macro that takes its argument as text, before its `!`.
abbrev pub is_text_call : Ident → Forest → Bool
is_text_call i rest = is_one_of text_macros i.sym && bang_follows rest

-- A word after a `::`.
abbrev pub after_segment : ScanState → Ident → Forest → ScanState
after_segment s i rest =
    if is_text_call i rest then after_keyword s before.TextMacro s.is_head
    else after_keyword s before.Name s.is_head

-- A word that may be a keyword.
abbrev pub after_front_word : ScanState → Ident → Forest → ScanState
after_front_word s i rest =
    if is_text_call i rest then after_keyword s before.TextMacro s.is_head
    else after_word_class s (word_class_of i) rest

-- A word after a `.`, a `::`, a `$` or a `'` is no keyword.
abbrev pub after_ident : ScanState → PreviousToken → Ident → Forest → ScanState
after_ident s before.Dot i rest = after_keyword s before.Name s.is_head
after_ident s before.Colons i rest = after_segment s i rest
after_ident s before.Dollar i rest = after_keyword s before.Name s.is_head
after_ident s before.Quote i rest = after_keyword s before.Sign s.is_head
after_ident s before.JumpQuote i rest = after_keyword s before.Sign s.is_head
after_ident s before.Bang i rest = after_keyword s before.Named s.is_head
after_ident s _ i rest = after_front_word s i rest

-- ---- after a punct

abbrev pub after_dot : PreviousToken → PreviousToken
after_dot before.Dot = before.Dots
after_dot before.Dots = before.Dots
after_dot _ = before.Dot

abbrev pub after_colon : PreviousToken → PreviousToken
after_colon before.Colon = before.Colons
after_colon _ = before.Colon

abbrev pub after_quote : PreviousToken → PreviousToken
after_quote before.Jump = before.JumpQuote
after_quote _ = before.Quote

abbrev pub after_bang : PreviousToken → Option Sign → PreviousToken
after_bang before.Hash next = before.Hash
after_bang before.TextMacro next = before.TextBang
after_bang before.Name next = if is_equals next then before.Sign else before.Bang
after_bang _ next = before.Sign

abbrev pub after_equals : PreviousToken → PreviousToken
after_equals before.Dots = before.Dots
after_equals _ = before.Equals

abbrev pub after_angle : PreviousToken → PreviousToken
after_angle before.Equals = before.Arrow
after_angle _ = before.Angle

abbrev pub after_bar : PreviousToken → PreviousToken
after_bar before.Name = before.Or
after_bar before.Angle = before.Or
after_bar before.Operand = before.Or
after_bar _ = before.Sign

abbrev pub before_after : PreviousToken → Sign → Option Sign → PreviousToken
before_after b sign.Dot next = after_dot b
before_after b sign.Colon next = after_colon b
before_after b sign.Quote next = after_quote b
before_after b sign.Dollar next = before.Dollar
before_after b sign.Hash next = before.Hash
before_after b sign.Bang next = after_bang b next
before_after b sign.Equals next = after_equals b
before_after b sign.Angle next = after_angle b
before_after b sign.Comma next = before.Mark
before_after b sign.Semicolon next = before.Mark
before_after b sign.Bar next = after_bar b
before_after b sign.Question next = before.Operand
before_after b sign.At next = before.Sign
before_after b sign.Other next = before.Sign

-- A `:` is no part of a `::`.
abbrev pub is_single_colon : PreviousToken → Option Sign → Bool
is_single_colon before.Colon next = false
is_single_colon _ next = not (is_colon next)

-- No operand is before the `|`.
abbrev pub begins_closure : PreviousToken → Bool
begins_closure before.Start = true
begins_closure before.Word = true
begins_closure before.Equals = true
begins_closure before.Arrow = true
begins_closure before.Mark = true
begins_closure before.Sign = true
begins_closure _ = false

-- The pattern of a `let` ends at its `=`, its `;` or its type.
abbrev pub part_after_let : PreviousToken → Sign → Option Sign → StatementPart
part_after_let b sign.Equals next = if is_dots b then part.LetPattern else part.Whole
part_after_let b sign.Semicolon next = part.Whole
part_after_let b sign.Colon next = if is_single_colon b next then part.LetType else part.LetPattern
part_after_let b _ next = part.LetPattern

abbrev pub part_after_let_type : Sign → StatementPart
part_after_let_type sign.Equals = part.Whole
part_after_let_type sign.Semicolon = part.Whole
part_after_let_type _ = part.LetType

abbrev pub part_after_parameters : PreviousToken → Sign → Option Sign → StatementPart
part_after_parameters b sign.Bar next = part.Whole
part_after_parameters b sign.Colon next =
    if is_single_colon b next then part.ParameterType else part.Parameters
part_after_parameters b _ next = part.Parameters

abbrev pub part_after_parameter_type : Sign → StatementPart
part_after_parameter_type sign.Bar = part.Whole
part_after_parameter_type sign.Comma = part.Parameters
part_after_parameter_type _ = part.ParameterType

abbrev pub part_after_whole : ScanState → Sign → StatementPart
part_after_whole s sign.Bar =
    if is_code s.region && begins_closure s.before then part.Parameters else part.Whole
part_after_whole s _ = part.Whole

abbrev pub part_after : ScanState → StatementPart → Sign → Option Sign → StatementPart
part_after s part.Whole sg next = part_after_whole s sg
part_after s part.LetPattern sg next = part_after_let s.before sg next
part_after s part.LetType sg next = part_after_let_type sg
part_after s part.ForPattern sg next = part.ForPattern
part_after s part.Parameters sg next = part_after_parameters s.before sg next
part_after s part.ParameterType sg next = part_after_parameter_type sg

-- A punct ends an `=>`.
abbrev pub ends_arrow : PreviousToken → Sign → Bool
ends_arrow before.Equals sign.Angle = true
ends_arrow _ _ = false

abbrev pub is_semicolon : Sign → Bool
is_semicolon sign.Semicolon = true
is_semicolon _ = false

abbrev pub is_comma : Sign → Bool
is_comma sign.Comma = true
is_comma _ = false

abbrev pub is_colon_alone : PreviousToken → Sign → Option Sign → Bool
is_colon_alone b sign.Colon next = is_single_colon b next
is_colon_alone b _ next = false

-- An arm: its pattern, what follows its `if`, and what follows its `=>`.
abbrev pub arm_region : Region → PreviousToken → Sign → Forest → Region
arm_region region.Body b sg rest =
    if is_comma sg && begins_arm rest then region.Arm else region.Body
arm_region r b sg rest = if ends_arrow b sg then region.Body else r

abbrev pub field_region : PreviousToken → Sign → Option Sign → Region → Region → Region
field_region b sg next r value = if is_colon_alone b sg next then value else r

abbrev pub value_region : Sign → Region → Region → Region
value_region sg r value = if is_comma sg then r else value

abbrev pub whole_region : Region → PreviousToken → Sign → Forest → Region
whole_region region.Arm b sg rest = arm_region region.Arm b sg rest
whole_region region.Guard b sg rest = arm_region region.Guard b sg rest
whole_region region.Body b sg rest = arm_region region.Body b sg rest
whole_region region.Fields b sg rest =
    field_region b sg (front_sign rest) region.Fields region.Value
whole_region region.Value b sg rest = value_region sg region.Fields region.Value
whole_region region.FieldPatterns b sg rest =
    field_region b sg (front_sign rest) region.FieldPatterns region.FieldPattern
whole_region region.FieldPattern b sg rest =
    value_region sg region.FieldPatterns region.FieldPattern
whole_region region.Code b sg rest = region.Code
whole_region region.Arguments b sg rest = region.Arguments
whole_region region.Opaque b sg rest = region.Opaque
whole_region region.Rules b sg rest = region.Rules
whole_region region.Pattern b sg rest = region.Pattern

abbrev pub region_after : ScanState → StatementPart → Sign → Forest → Region
region_after s part.Whole sg rest = whole_region s.region s.before sg rest
region_after s _ sg rest = s.region

abbrev pub head_after : ScanState → Sign → Bool
head_after s sign.Semicolon = false
head_after s sg = s.is_head && not (ends_arrow s.before sg)

abbrev pub after_punct : ScanState → Sign → Forest → ScanState
after_punct s sg rest = record {
  before = before_after s.before sg (front_sign rest);
  region = region_after s s.part sg rest;
  part = part_after s s.part sg (front_sign rest);
  is_head = head_after s sg;
  in_let = s.in_let && not (is_semicolon sg);
  in_head_let = s.in_head_let && not (is_semicolon sg);
  is_late = s.is_late;
}

-- The state after a leaf, before the last trees.
abbrev pub after_leaf : ScanState → Leaf → Forest → ScanState
after_leaf s (ident i) rest = after_ident s s.before i rest
after_leaf s (punct p) rest = after_punct s (sign_of p.char) rest
after_leaf s (literal l) rest = after_keyword s before.Operand s.is_head

-- ---- groups

abbrev pub pattern_group : DelimiterKind → Region
pattern_group kind.Brace = region.FieldPatterns
pattern_group _ = region.Pattern

-- Braces may hold the fields of a struct.
abbrev pub may_have_fields : PreviousToken → Bool → Bool
may_have_fields before.Name head = not head
may_have_fields before.Angle head = not head
may_have_fields _ head = false

-- Braces hold arms of a `match`, fields of a struct, or a block.
abbrev pub braces_region : ScanState → Forest → Region
braces_region s inside =
    if begins_arm inside then region.Arm else (if may_have_fields s.before s.is_head
    && begins_fields inside
    then region.Fields else region.Code)

abbrev pub code_group : ScanState → DelimiterKind → Forest → Region
code_group s kind.Brace inside = braces_region s inside
code_group s _ inside = region.Code

abbrev pub whole_group : ScanState → Region → DelimiterKind → Forest → Region
whole_group s region.Arm k inside = pattern_group k
whole_group s region.Pattern k inside = pattern_group k
whole_group s region.FieldPatterns k inside = pattern_group k
whole_group s region.FieldPattern k inside = pattern_group k
whole_group s region.Opaque k inside = region.Opaque
whole_group s region.Rules k inside = region.Rules
whole_group s _ k inside = code_group s k inside

abbrev pub part_group : ScanState → StatementPart → DelimiterKind → Forest → Region
part_group s part.LetPattern k inside = pattern_group k
part_group s part.ForPattern k inside = pattern_group k
part_group s part.Parameters k inside = pattern_group k
part_group s part.LetType k inside = region.Code
part_group s part.ParameterType k inside = region.Code
part_group s part.Whole k inside = whole_group s s.region k inside

abbrev pub group_after : ScanState → PreviousToken → DelimiterKind → Forest → Region
group_after s before.Hash k inside = region.Opaque
group_after s before.TextBang k inside = region.Opaque
group_after s before.Named k inside = region.Rules
group_after s before.Bang k inside = region.Arguments
group_after s _ k inside = part_group s s.part k inside

-- What a group holds.
abbrev pub region_inside : ScanState → Region → DelimiterKind → Forest → Region
region_inside s region.Opaque k inside = region.Opaque
region_inside s region.Rules k inside = region.Rules
region_inside s _ k inside = group_after s s.before k inside

-- Bindings of a pattern in a group hold only after a value.
abbrev pub late_inside : ScanState → StatementPart → Bool
late_inside s part.LetPattern = true
late_inside s part.ForPattern = true
late_inside s part.Whole = s.is_late
late_inside s _ = false

-- The state at the beginning of a group.
abbrev pub inside_group : ScanState → DelimiterKind → Forest → ScanState
inside_group s k inside = record {
  before = before.Start;
  region = region_inside s s.region k inside;
  part = part.Whole;
  is_head = false;
  in_let = false;
  in_head_let = false;
  is_late = late_inside s s.part;
}

abbrev pub after_brackets : PreviousToken → PreviousToken
after_brackets before.Hash = before.Mark
after_brackets _ = before.Operand

abbrev pub is_brace : DelimiterKind → Bool
is_brace kind.Brace = true
is_brace _ = false

-- Braces hold statements and expressions.
abbrev pub is_body : ScanState → DelimiterKind → Bool
is_body s k = is_brace k && is_open s

-- Braces may be the whole body of an arm, after its `=>`.
abbrev pub may_end_arm : Region → PreviousToken → DelimiterKind → Bool
may_end_arm region.Body before.Arrow k = is_brace k
may_end_arm _ _ k = false

abbrev pub region_after_group : ScanState → DelimiterKind → Forest → Region
region_after_group s k rest =
    if may_end_arm s.region s.before k && begins_arm rest then region.Arm else s.region

-- The state after a group, before the last trees.
abbrev pub after_group : ScanState → DelimiterKind → Forest → ScanState
after_group s k rest = record {
  before = after_brackets s.before;
  region = region_after_group s k rest;
  part = s.part;
  is_head = s.is_head && not (is_body s k);
  in_let = s.in_let;
  in_head_let = s.in_head_let && not (s.is_head && is_body s k);
  is_late = s.is_late;
}
