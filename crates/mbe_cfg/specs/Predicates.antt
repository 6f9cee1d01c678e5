-- Whether a predicate holds, as the Reference defines it. `true` holds and `false` doesn't. A name,
-- or a name with a value, holds if it is set. `all` holds if all its predicates do, `any` if one of
-- them does, and `not` if its one predicate doesn't.
use Rattle.std.specs.Prelude.{ℕ, zero, suc, Bool, true, false, not, ◌==◌, ◌&&◌, ◌||◌, nat_lt}
use Rattle.std.specs.Prelude.{if◌then◌else◌}
use Rattle.std.specs.Prelude.{List, codes, Option, Some, None, Result, Ok, Err}
use Rattle.std.specs.List.{list_any}
use Rattle.mbe_tt.specs.Trees.Leaf.{Leaf, Ident, Literal, literal, punct, ident, is_text}
use Rattle.mbe_tt.specs.Trees.Tree.{Forest, none, leaf, group, rest_of, front_ident, flat_len}
use Rattle.mbe_tt.specs.declared.span.Span.{Span}
use Rattle.mbe_tt.specs.declared.tt.IdentIsRaw.{IdentIsRaw}
use Rattle.mbe_tt.specs.declared.tt.IdentIsRaw.TheVariants.{No, Yes}
use Rattle.mbe_tt.specs.declared.tt.LitKind.{LitKind}
use Rattle.mbe_tt.specs.declared.tt.LitKind.TheVariants as k
use Rattle.mbe_tt.specs.declared.tt.DelimiterKind.TheVariants.{Parenthesis}
use Rattle.mbe_cfg.specs.declared.cfg_fault.CfgFault.{CfgFault}
use Rattle.mbe_cfg.specs.declared.cfg_fault.CfgFaultKind.TheVariants as w
use Rattle.mbe_cfg.specs.declared.predicate.PredicateOperator.{PredicateOperator}
use Rattle.mbe_cfg.specs.declared.predicate.PredicateOperator.TheVariants as o
use Rattle.mbe_cfg.specs.declared.predicate.TheConstants.{DEPTH}
use Rattle.mbe_cfg.specs.declared.cfg_options.CfgOptions.{CfgOptions}
use Rattle.mbe_cfg.specs.CfgOptions.{is_set}
use Rattle.mbe_cfg.specs.CfgFaults.{fails}
use Rattle.mbe_cfg.specs.TreeFront.{Group, start_span, is_empty, after_char, group_at}

-- Whether the predicate or the attributes at the front hold, and the trees after them.
pub record PredicateValue : Type 0 where
  pub holds : Bool
  pub rest : Forest

abbrev pub ValueResult : Type 0
ValueResult = Result PredicateValue CfgFault

abbrev pub gives : Bool → Forest → ValueResult
gives holds rest = Ok (record { holds = holds; rest = rest })

-- ---- words

-- The meaning of a name before parentheses.
abbrev pub operator_of : List ℕ → PredicateOperator
operator_of name =
    if is_text name (codes "all") then o.All
    else if is_text name (codes "any") then o.Any
    else if is_text name (codes "not") then o.Not
    else if is_text name (codes "version") || is_text name (codes "target") then o.Unstable
    else o.Unknown

abbrev pub constant_of_word : List ℕ → Option Bool
constant_of_word name =
    if is_text name (codes "true") then Some true
    else if is_text name (codes "false") then Some false
    else None

-- A raw identifier is a name.
abbrev pub constant : IdentIsRaw → List ℕ → Option Bool
constant Yes name = None
constant No name = constant_of_word name

-- ---- a name, and a name with a value

abbrev pub has_escape : List ℕ → Bool
has_escape text = list_any (λ b. b == 92) text

abbrev pub text_of_kind : Literal → LitKind → Result (List ℕ) CfgFault
text_of_kind l k.Str =
    if has_escape l.text_and_suffix then fails w.Escape l.span else Ok l.text_and_suffix
text_of_kind l (k.StrRaw n) = Ok l.text_and_suffix
text_of_kind l _ = fails w.NoString l.span

-- The text of a string as it is written, if it means that text.
abbrev pub plain_text : Literal → Result (List ℕ) CfgFault
plain_text l = if nat_lt 0 l.suffix_len then fails w.Suffix l.span else text_of_kind l l.kind

abbrev pub text_of_leaf : Leaf → Result (List ℕ) CfgFault
text_of_leaf (literal l) = plain_text l
text_of_leaf (punct p) = fails w.NoString p.span
text_of_leaf (ident i) = fails w.NoString i.span

-- The text of the string at the front.
abbrev pub text_at : Span → Forest → Result (List ℕ) CfgFault
text_at close none = fails w.NoString close
text_at close (leaf l rest) = text_of_leaf l
text_at close (group d inside rest) = fails w.NoString d.opening

abbrev pub after_one : Forest → Forest
after_one f = rest_of f

abbrev pub has_value : CfgOptions → List ℕ → Forest → Result (List ℕ) CfgFault → ValueResult
has_value s name f (Ok value) = gives (is_set s name (Some value)) (after_one f)
has_value s name f (Err fault) = Err fault

abbrev pub name_with_value : CfgOptions → Span → List ℕ → Forest → ValueResult
name_with_value s close name f = has_value s name f (text_at close f)

abbrev pub alone : CfgOptions → Ident → Forest → Option Forest → ValueResult
alone s name f None = gives (is_set s name.sym None) f
alone s name f (Some more) = fails w.Path name.span

abbrev pub with_value : CfgOptions → Span → Ident → Forest → Option Forest → ValueResult
with_value s close name f None = alone s name f (after_char 58 f)
with_value s close name f (Some value) = name_with_value s close name.sym value

-- A name, with the value that may follow it.
abbrev pub name_alone : CfgOptions → Span → Ident → Forest → ValueResult
name_alone s close name f = with_value s close name f (after_char 61 f)

-- ---- lists

-- The trees after the comma at the front, or no trees at the end.
abbrev pub after_comma : Span → Forest → Option Forest → Result Forest CfgFault
after_comma close f None = fails w.NoComma (start_span close f)
after_comma close f (Some rest) = Ok rest

abbrev pub after_separator : Span → Forest → Result Forest CfgFault
after_separator close f = if is_empty f then Ok f else after_comma close f (after_char 44 f)

-- Both, or one of the two.
abbrev pub combined : Bool → Bool → Bool → Bool
combined every a b = if every then a && b else a || b

abbrev pub item_before : Bool → Bool → Bool → Result Forest CfgFault → ValueResult
item_before every so_far holds (Ok rest) = gives (combined every so_far holds) rest
item_before every so_far holds (Err fault) = Err fault

abbrev pub item_of : Bool → Span → Bool → ValueResult → ValueResult
item_of every close so_far (Ok t) = item_before every so_far t.holds (after_separator close t.rest)
item_of every close so_far (Err fault) = Err fault

-- What holds so far with the predicate at the front, and the trees after that predicate and its
-- comma.
abbrev pub item : (Forest → ValueResult) → Bool → Span → Bool → Forest → ValueResult
item inner every close so_far f = item_of every close so_far (inner f)

abbrev pub go_on : (Bool → Forest → Result Bool CfgFault) → ValueResult → Result Bool CfgFault
go_on more (Ok t) = more t.holds t.rest
go_on more (Err fault) = Err fault

-- What holds so far with the predicates of a list, which are at most `n`.
unfoldable pub items : (Forest → ValueResult) → Bool → Span → ℕ → Bool → Forest
    → Result Bool CfgFault
items inner every close zero so_far f = Ok so_far
items inner every close (suc n) so_far f =
    if is_empty f then Ok so_far else go_on (items inner every close n)
    (item inner every close so_far f)

abbrev pub ended : Span → Bool → Result Forest CfgFault → Result Bool CfgFault
ended close holds (Ok rest) =
    if is_empty rest then Ok holds else fails w.NotOne (start_span close rest)
ended close holds (Err fault) = Err fault

abbrev pub one_of : Span → ValueResult → Result Bool CfgFault
one_of close (Ok t) = ended close t.holds (after_separator close t.rest)
one_of close (Err fault) = Err fault

-- The one predicate in these trees. Only a comma may follow it.
abbrev pub one : (Forest → ValueResult) → Span → Forest → Result Bool CfgFault
one inner close f = if is_empty f then fails w.NotOne close else one_of close (inner f)

-- ---- predicates

-- The result with the trees after the group.
abbrev pub before : Forest → Result Bool CfgFault → ValueResult
before rest (Ok holds) = gives holds rest
before rest (Err fault) = Err fault

abbrev pub negated : Result Bool CfgFault → Result Bool CfgFault
negated (Ok holds) = Ok (not holds)
negated (Err fault) = Err fault

abbrev pub operator_result : (Span → Forest → ValueResult) → Ident → Group → PredicateOperator
    → ValueResult
operator_result inner name g o.All =
    before g.rest (items (inner g.close) true g.close (flat_len g.inside) true g.inside)
operator_result inner name g o.Any =
    before g.rest (items (inner g.close) false g.close (flat_len g.inside) false g.inside)
operator_result inner name g o.Not = before g.rest (negated (one (inner g.close) g.close g.inside))
operator_result inner name g o.Unstable = fails w.Unstable name.span
operator_result inner name g o.Unknown = fails w.Invalid name.span

abbrev pub operator_predicate : (Span → Forest → ValueResult) → Ident → Group → ValueResult
operator_predicate inner name g = operator_result inner name g (operator_of name.sym)

abbrev pub result_with_group : CfgOptions → (Span → Forest → ValueResult) → Span → Ident → Forest
    → Option Group → ValueResult
result_with_group s inner close name f None = name_alone s close name f
result_with_group s inner close name f (Some g) = operator_predicate inner name g

abbrev pub result_with_constant : CfgOptions → (Span → Forest → ValueResult) → Span → Ident → Forest
    → Option Bool → ValueResult
result_with_constant s inner close name f None =
    result_with_group s inner close name f (group_at Parenthesis f)
result_with_constant s inner close name f (Some holds) = gives holds f

-- The predicate that begins with that name: a constant, an operator with its list, or a name.
abbrev pub named_predicate : CfgOptions → (Span → Forest → ValueResult) → Span → Ident → Forest
    → ValueResult
named_predicate s inner close name f =
    result_with_constant s inner close name f (constant name.is_raw name.sym)

abbrev pub result_with_name : CfgOptions → (Span → Forest → ValueResult) → Span → Forest
    → Option Ident → ValueResult
result_with_name s inner close f None = fails w.NoName (start_span close f)
result_with_name s inner close f (Some name) = named_predicate s inner close name (rest_of f)

-- The predicate at the front. Predicates may be nested `n` deep.
unfoldable pub predicate : CfgOptions → ℕ → Span → Forest → ValueResult
predicate s zero close f = fails w.TooDeep (start_span close f)
predicate s (suc n) close f = result_with_name s (predicate s n) close f (front_ident f)

-- Whether the predicate in the parentheses of a `cfg` holds.
abbrev pub holds : CfgOptions → Span → Forest → Result Bool CfgFault
holds s close f = one (predicate s DEPTH close) close f
