-- Whether an item's attributes let it be compiled: each of its `cfg`s holds, also those that a
-- `cfg_attr` adds whose predicate holds.
use Rattle.std.specs.Prelude.{ℕ, zero, suc, Bool, true, ◌&&◌, ◌||◌, if◌then◌else◌, List, codes}
use Rattle.std.specs.Prelude.{Option, Some, None, Result, Ok, Err}
use Rattle.mbe_tt.specs.Trees.Leaf.{Ident, is_text}
use Rattle.mbe_tt.specs.Trees.Tree.{Forest, rest_of, front_ident, flat_len}
use Rattle.mbe_tt.specs.declared.span.Span.{Span}
use Rattle.mbe_tt.specs.declared.tt.DelimiterKind.TheVariants.{Parenthesis}
use Rattle.mbe_cfg.specs.declared.attributes.AttributeKind.{AttributeKind}
use Rattle.mbe_cfg.specs.declared.attributes.AttributeKind.TheVariants as o
use Rattle.mbe_cfg.specs.declared.cfg_fault.CfgFault.{CfgFault}
use Rattle.mbe_cfg.specs.declared.cfg_fault.CfgFaultKind.TheVariants as w
use Rattle.mbe_cfg.specs.declared.predicate.TheConstants.{DEPTH}
use Rattle.mbe_cfg.specs.declared.cfg_options.CfgOptions.{CfgOptions}
use Rattle.mbe_cfg.specs.CrateExports.Exports.{begins_path}
use Rattle.mbe_cfg.specs.CfgFaults.{fails}
use Rattle.mbe_cfg.specs.TreeFront.{Group, start_span, is_empty, after_char, group_at}
use Rattle.mbe_cfg.specs.TreeFront.{attribute_group, after_next_comma}
use Rattle.mbe_cfg.specs.Predicates.{ValueResult, gives, predicate, holds}

abbrev pub attribute_kind_of : List ℕ → AttributeKind
attribute_kind_of name =
    if is_text name (codes "cfg") then o.PlainCfg
    else if is_text name (codes "cfg_attr") then o.CfgAttr
    else if is_text name (codes "test") || is_text name (codes "bench") then o.Test else o.Other

-- Without tests, rustc drops what `#[test]` is on. A name that begins a longer path belongs to
-- another attribute.
abbrev pub is_compiled : CfgOptions → Forest → Bool
is_compiled s rest = s.test || begins_path rest

-- The parentheses after the name at that span.
abbrev pub or_malformed : Span → Option Group → Result Group CfgFault
or_malformed at None = fails w.Malformed at
or_malformed at (Some g) = Ok g

abbrev pub argument : Span → Forest → Result Group CfgFault
argument at f = or_malformed at (group_at Parenthesis f)

abbrev pub cfg_of : CfgOptions → Result Group CfgFault → Result Bool CfgFault
cfg_of s (Ok g) = holds s g.close g.inside
cfg_of s (Err fault) = Err fault

-- The `cfg` whose parentheses are at the front.
abbrev pub cfg : CfgOptions → Span → Forest → Result Bool CfgFault
cfg s at f = cfg_of s (argument at f)

abbrev pub added : Span → Bool → Forest → Option Forest → ValueResult
added close holds f None = fails w.NoComma (start_span close f)
added close holds f (Some rest) = gives holds rest

abbrev pub condition_of : Span → ValueResult → ValueResult
condition_of close (Ok t) = added close t.holds t.rest (after_char 44 t.rest)
condition_of close (Err fault) = Err fault

-- Whether the predicate of a `cfg_attr` holds, and the attributes that the `cfg_attr` then adds.
abbrev pub condition : CfgOptions → Span → Forest → ValueResult
condition s close f = condition_of close (predicate s DEPTH close f)

abbrev pub all_so_far : (Bool → Forest → Result Bool CfgFault) → Bool → Forest
    → Result Bool CfgFault → Result Bool CfgFault
all_so_far more so_far f (Ok one) = more (so_far && one) (after_next_comma f)
all_so_far more so_far f (Err fault) = Err fault

-- At most `n` attributes. Commas separate them.
unfoldable pub metas : (Forest → Result Bool CfgFault) → ℕ → Bool → Forest → Result Bool CfgFault
metas inner zero so_far f = Ok so_far
metas inner (suc n) so_far f =
    if is_empty f then Ok so_far else all_so_far (metas inner n) so_far f (inner f)

abbrev pub added_if : (Span → Forest → Result Bool CfgFault) → Span → ValueResult
    → Result Bool CfgFault
added_if inner close (Ok t) =
    if t.holds then metas (inner close) (flat_len t.rest) true t.rest else Ok true
added_if inner close (Err fault) = Err fault

abbrev pub cfg_attr_of : CfgOptions → (Span → Forest → Result Bool CfgFault) → Result Group CfgFault
    → Result Bool CfgFault
cfg_attr_of s inner (Ok g) = added_if inner g.close (condition s g.close g.inside)
cfg_attr_of s inner (Err fault) = Err fault

-- The `cfg_attr` whose parentheses are at the front.
abbrev pub cfg_attr : CfgOptions → (Span → Forest → Result Bool CfgFault) → Span → Forest
    → Result Bool CfgFault
cfg_attr s inner at f = cfg_attr_of s inner (argument at f)

abbrev pub attribute_of_kind : CfgOptions → (Span → Forest → Result Bool CfgFault) → Span → Forest
    → AttributeKind → Result Bool CfgFault
attribute_of_kind s inner at f o.PlainCfg = cfg s at f
attribute_of_kind s inner at f o.CfgAttr = cfg_attr s inner at f
attribute_of_kind s inner at f o.Test = Ok (is_compiled s f)
attribute_of_kind s inner at f o.Other = Ok true

abbrev pub attribute_with_name : CfgOptions → (Span → Forest → Result Bool CfgFault) → Forest
    → Option Ident → Result Bool CfgFault
attribute_with_name s inner f None = Ok true
attribute_with_name s inner f (Some name) =
    attribute_of_kind s inner name.span (rest_of f) (attribute_kind_of name.sym)

-- An attribute without its `#` and brackets. Attributes may be nested `n` deep.
unfoldable pub attribute : CfgOptions → ℕ → Span → Forest → Result Bool CfgFault
attribute s zero close f = fails w.TooDeep (start_span close f)
attribute s (suc n) close f = attribute_with_name s (attribute s n) f (front_ident f)

abbrev pub next_one : (Bool → Forest → ValueResult) → Bool → Forest → Result Bool CfgFault
    → ValueResult
next_one more so_far f (Ok one) = more (so_far && one) f
next_one more so_far f (Err fault) = Err fault

abbrev pub go_on : (Span → Forest → Result Bool CfgFault) → (Bool → Forest → ValueResult) → Bool
    → Forest → Option Group → ValueResult
go_on inner more so_far f None = gives so_far f
go_on inner more so_far f (Some g) = next_one more so_far g.rest (inner g.close g.inside)

-- At most `n` attributes at the front, and the trees after them.
unfoldable pub attributes : CfgOptions → ℕ → Bool → Forest → ValueResult
attributes s zero so_far f = gives so_far f
attributes s (suc n) so_far f =
    go_on (attribute s DEPTH) (attributes s n) so_far f (attribute_group f)
