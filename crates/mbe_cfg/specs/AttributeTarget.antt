-- The end of what attributes are on. An item ends where the grammar says, an arm of a `match` after
-- its expression, and a statement after what the grammar parses as one. Anything else, such as a
-- field or a parameter, ends after the next comma.
use Rattle.std.specs.Prelude.{Bool, true, false, ◌||◌, if◌then◌else◌, Option, Some, None}
use Rattle.std.specs.Prelude.{option_and_then, unwrap_or, is_some}
use Rattle.mbe_tt.specs.Grammars.Grammar.{Grammar, front, is_accepted}
use Rattle.mbe_tt.specs.Trees.Tree.{Forest, none, leaf, group}
use Rattle.mbe_tt.specs.declared.grammar.PrefixEntryPoint.{PrefixEntryPoint}
use Rattle.mbe_tt.specs.declared.grammar.PrefixEntryPoint.TheVariants.{Item, Stmt, Expr}
use Rattle.mbe_tt.specs.declared.tt.DelimiterKind.TheVariants.{Brace}
use Rattle.mbe_cfg.specs.TreeFront.{Group, after_char, after_next_comma, group_at, is_empty}

-- The trees after the fragment of that kind at the front, if the grammar finds one.
abbrev pub after_fragment : Grammar → PrefixEntryPoint → Forest → Option Forest
after_fragment g entry f = if is_accepted g entry f then Some (front g entry f).back else None

abbrev pub after_comma : Forest → Forest
after_comma f = unwrap_or (after_char 44 f) f

-- The trees after a `;` or a `,`.
abbrev pub after_mark : Forest → Forest
after_mark f = unwrap_or (after_char 59 f) (after_comma f)

abbrev pub is_end : Forest → Bool
is_end f = is_empty f || (is_some (after_char 59 f) || is_some (after_char 44 f))

-- ---- arms

abbrev pub after_arrow : Forest → Option Forest
after_arrow f = option_and_then (after_char 62) (after_char 61 f)

abbrev pub or_later : Option Forest → Bool → Option Forest → Option Forest
or_later later true here = None
or_later later false None = later
or_later later false (Some body) = Some body

-- The trees after the next `=>`, if it comes before any `,` and `;`.
abbrev pub after_next_arrow : Forest → Option Forest
after_next_arrow none = None
after_next_arrow (leaf l rest) =
    or_later (after_next_arrow rest) (is_end (leaf l rest)) (after_arrow (leaf l rest))
after_next_arrow (group d inside rest) =
    or_later (after_next_arrow rest) (is_end (group d inside rest))
    (after_arrow (group d inside rest))

abbrev pub after_expression : Forest → Option Forest → Forest
after_expression f None = after_next_comma f
after_expression f (Some rest) = after_comma rest

abbrev pub after_braces : Grammar → Forest → Option Group → Forest
after_braces g f None = after_expression f (after_fragment g Expr f)
after_braces g f (Some braces) = after_comma braces.rest

-- The trees after the body of an arm and its comma. The body is braces or an expression.
abbrev pub after_body : Grammar → Forest → Forest
after_body g f = after_braces g f (group_at Brace f)

-- ---- statements

-- A field's name, before a `:`, is no statement.
abbrev pub after_parsed_statement : Forest → Forest → Forest
after_parsed_statement f rest =
    if is_some (after_char 58 rest) then after_next_comma f else after_mark rest

abbrev pub statement_or_part : Forest → Option Forest → Forest
statement_or_part f None = after_next_comma f
statement_or_part f (Some rest) = after_parsed_statement f rest

abbrev pub after_statement : Grammar → Forest → Forest
after_statement g f = statement_or_part f (after_fragment g Stmt f)

-- ---- all of these

abbrev pub arm_or_statement : Grammar → Forest → Option Forest → Forest
arm_or_statement g f None = after_statement g f
arm_or_statement g f (Some body) = after_body g body

abbrev pub after_other : Grammar → Forest → Forest
after_other g f = arm_or_statement g f (after_next_arrow f)

abbrev pub item_or_other : Grammar → Forest → Option Forest → Forest
item_or_other g f None = after_other g f
item_or_other g f (Some rest) = rest

-- The trees after the attributes at the front and what they are on.
abbrev pub after_attribute_target : Grammar → Forest → Forest
after_attribute_target g f = item_or_other g f (after_fragment g Item f)
