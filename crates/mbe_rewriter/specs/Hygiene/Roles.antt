-- The roles of words. The state of the scan and the trees after a word decide whether it is a
-- binding of a local, a use of one, a label, or none of these. A word that isn't surely a binding
-- isn't one.
use Rattle.std.specs.Prelude.{Bool, true, false, not, ◌&&◌, ◌||◌, if◌then◌else◌}
use Rattle.mbe_tt.specs.Trees.Leaf.{Ident}
use Rattle.mbe_tt.specs.Trees.Tree.{Forest}
use Rattle.mbe_tt.specs.declared.tt.DelimiterKind.{DelimiterKind}
use Rattle.mbe_rewriter.specs.declared.hygiene.token_classes.Sign.{Sign}
use Rattle.mbe_rewriter.specs.declared.hygiene.token_classes.Sign.TheVariants as sign
use Rattle.mbe_rewriter.specs.declared.hygiene.token_classes.WordClass.{WordClass}
use Rattle.mbe_rewriter.specs.declared.hygiene.token_classes.WordClass.TheVariants as sort
use Rattle.mbe_rewriter.specs.declared.hygiene.scan_state.PreviousToken.{PreviousToken}
use Rattle.mbe_rewriter.specs.declared.hygiene.scan_state.PreviousToken.TheVariants as before
use Rattle.mbe_rewriter.specs.declared.hygiene.scan_state.Region.{Region}
use Rattle.mbe_rewriter.specs.declared.hygiene.scan_state.Region.TheVariants as region
use Rattle.mbe_rewriter.specs.declared.hygiene.scan_state.StatementPart.{StatementPart}
use Rattle.mbe_rewriter.specs.declared.hygiene.scan_state.StatementPart.TheVariants as part
use Rattle.mbe_rewriter.specs.declared.hygiene.scan_state.ScanState.{ScanState}
use Rattle.mbe_rewriter.specs.declared.hygiene.scan_state.TokenRole.{TokenRole}
use Rattle.mbe_rewriter.specs.declared.hygiene.scan_state.TokenRole.TheVariants.{Other, Used, Bound}
use Rattle.mbe_rewriter.specs.declared.hygiene.scan_state.TokenRole.TheVariants.{Late, Shorthand}
use Rattle.mbe_rewriter.specs.declared.hygiene.scan_state.TokenRole.TheVariants.{Unsure, Label}
use Rattle.mbe_rewriter.specs.declared.hygiene.scan_state.TokenRole.TheVariants.{Jump, Text, Inner}
use Rattle.mbe_rewriter.specs.declared.hygiene.scan_state.TokenRole.TheVariants.{InnerLabel, Begin}
use Rattle.mbe_rewriter.specs.declared.hygiene.scan_state.TokenRole.TheVariants.{End, Enter, Body}
use Rattle.mbe_rewriter.specs.declared.hygiene.scan_state.TokenRole.TheVariants.{Leave, Next}
use Rattle.mbe_rewriter.specs.Hygiene.TokenClasses.{word_class_of}
use Rattle.mbe_rewriter.specs.Hygiene.Lookahead.{path_follows, bang_follows, colon_follows}
use Rattle.mbe_rewriter.specs.Hygiene.Lookahead.{equals_follows, comma_or_end_follows, binds_before}
use Rattle.mbe_rewriter.specs.Hygiene.Lookahead.{is_lowercase_name, is_label, has_in, begins_arm}
use Rattle.mbe_rewriter.specs.Hygiene.ScanState.{is_dots, begins_field, is_open, is_body, is_scope}

-- Bound after a value, or at once.
abbrev pub binding_role : Bool → TokenRole
binding_role late = if late then Late else Bound

-- A pattern binds a lowercase name that is no path, no constructor and no end of a range.
abbrev pub pattern_role : PreviousToken → Bool → Ident → Forest → TokenRole
pattern_role b late i rest =
    if is_lowercase_name i.sym && (binds_before rest
    && not (is_dots b)) then binding_role late else Used

-- A field's name before its `:`. Alone, it is the name of a local too.
abbrev pub field_role : PreviousToken → Forest → TokenRole
field_role b rest =
    if colon_follows rest then Other else (if begins_field b
    && comma_or_end_follows rest then Unsure else Used)

-- A field's name before its `:`. Alone, it binds a local of that name.
abbrev pub field_pattern_role : Forest → TokenRole
field_pattern_role rest = if colon_follows rest then Other else Shorthand

-- A macro may use `name: ..` and `name = ..` for its own names.
abbrev pub argument_role : Forest → TokenRole
argument_role rest = if colon_follows rest || equals_follows rest then Unsure else Used

-- A word before a `:` may be a parameter of a function.
abbrev pub code_role : Forest → TokenRole
code_role rest = if colon_follows rest then Unsure else Used

abbrev pub region_role : ScanState → Region → Ident → Forest → TokenRole
region_role s region.Arm i rest = pattern_role s.before s.is_late i rest
region_role s region.Pattern i rest = pattern_role s.before s.is_late i rest
region_role s region.FieldPattern i rest = pattern_role s.before s.is_late i rest
region_role s region.FieldPatterns i rest = field_pattern_role rest
region_role s region.Fields i rest = field_role s.before rest
region_role s region.Arguments i rest = argument_role rest
region_role s region.Code i rest = code_role rest
region_role s region.Guard i rest = code_role rest
region_role s region.Body i rest = code_role rest
region_role s region.Value i rest = code_role rest
region_role s region.Rules i rest = Used
region_role s region.Opaque i rest = Other

abbrev pub part_role_by : ScanState → StatementPart → Ident → Forest → TokenRole
part_role_by s part.LetPattern i rest = pattern_role s.before true i rest
part_role_by s part.ForPattern i rest = pattern_role s.before true i rest
part_role_by s part.Parameters i rest = pattern_role s.before false i rest
part_role_by s part.LetType i rest = Other
part_role_by s part.ParameterType i rest = Other
part_role_by s part.Whole i rest = region_role s s.region i rest

abbrev pub part_role : ScanState → Ident → Forest → TokenRole
part_role s i rest = part_role_by s s.part i rest

-- A part of a path, or the name of a macro, is no local.
abbrev pub alone_role : ScanState → Ident → Forest → TokenRole
alone_role s i rest = if path_follows rest || bang_follows rest then Other else part_role s i rest

abbrev pub label_role : Forest → TokenRole
label_role rest = if is_label rest then Label else Other

-- A word after a `.` is a field or a method. After a `::` it is a part of a path, after a `$` a
-- macro's variable, and after a keyword such as `fn` an item.
abbrev pub role_after : ScanState → PreviousToken → Ident → Forest → TokenRole
role_after s before.Quote i rest = label_role rest
role_after s before.JumpQuote i rest = Jump
role_after s before.Dot i rest = Other
role_after s before.Colons i rest = Other
role_after s before.Dollar i rest = Other
role_after s before.Item i rest = Other
role_after s before.Bang i rest = Other
role_after s _ i rest = alone_role s i rest

abbrev pub name_role : ScanState → Ident → Forest → TokenRole
name_role s i rest = role_after s s.before i rest

abbrev pub begin_role : Bool → TokenRole
begin_role is_one = if is_one then Begin else Other

abbrev pub end_role : Bool → TokenRole
end_role is_one = if is_one then End else Other

-- The scan is in the expression of an arm.
abbrev pub is_arm_body : StatementPart → Region → Bool
is_arm_body part.Whole region.Body = true
is_arm_body _ _ = false

abbrev pub comma_role : ScanState → Forest → TokenRole
comma_role s rest = if is_arm_body s.part s.region && begins_arm rest then Next else Other

-- A `;` may end the value of a `let`, and a `,` an arm.
abbrev pub punct_role : ScanState → Sign → Forest → TokenRole
punct_role s sign.Semicolon rest = end_role s.in_let
punct_role s sign.Comma rest = comma_role s rest
punct_role s _ rest = Other

abbrev pub enter_role : Bool → TokenRole
enter_role is_one = if is_one then Enter else Other

abbrev pub body_role : Bool → TokenRole
body_role is_one = if is_one then Body else End

-- Braces may end the value of an `if let`, a `while let` or a `for`.
abbrev pub group_role : ScanState → DelimiterKind → TokenRole
group_role s k =
    if s.in_head_let && (s.is_head && is_body s k) then body_role (is_scope s k)
    else enter_role (is_scope s k)

-- The role of the closing of a group, by the state before the group.
abbrev pub close_role : ScanState → DelimiterKind → TokenRole
close_role s k = if is_scope s k then Leave else Other

abbrev pub role_by : ScanState → WordClass → Ident → Forest → TokenRole
role_by s sort.Name i rest = name_role s i rest
role_by s sort.Let i rest = begin_role (is_open s)
role_by s sort.For i rest = begin_role (is_open s && has_in rest)
role_by s _ i rest = Other

-- The role that a word of a macro's rules, or of a step of that macro, has for the step that wrote
-- the macro.
abbrev pub inner_role : TokenRole → TokenRole
inner_role Used = Inner
inner_role Unsure = Inner
inner_role Inner = Inner
inner_role Jump = InnerLabel
inner_role InnerLabel = InnerLabel
inner_role Text = Inner
inner_role _ = Other

abbrev pub role_in : Region → TokenRole → TokenRole
role_in region.Opaque r = Other
role_in region.Rules r = inner_role r
role_in _ r = r

-- The role of a word, at that state and before the last trees.
abbrev pub role_of : ScanState → Ident → Forest → TokenRole
role_of s i rest = role_in s.region (role_by s (word_class_of i) i rest)
