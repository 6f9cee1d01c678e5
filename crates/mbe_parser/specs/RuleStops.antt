-- The trees that are left where the trees of a rule are refused.
use Rattle.std.specs.Prelude.{◌==◌, ◌||◌, ℕ, Bool, true, false, if◌then◌else◌, codes}
use Rattle.mbe_tt.specs.Trees.Leaf.{punct}
use Rattle.mbe_tt.specs.Trees.Tree.{Forest, leaf, group, rest_of}
use Rattle.mbe_parser.specs.RuleResults.{begins_with_ident}

-- whether a punct of that char is in front
abbrev pub begins_with_punct : ℕ → Forest → Bool
begins_with_punct c (leaf (punct p) rest) = p.char == c
begins_with_punct c _ = false

-- whether a group is in front
abbrev pub is_group : Forest → Bool
is_group (group d inside rest) = true
is_group _ = false

-- the trees that are left where a tree is expected and then others; all trees, if the first isn't
-- there
abbrev pub after_expected : (Forest → Bool) → (Forest → Forest) → Forest → Forest
after_expected is_there others f = if is_there f then others (rest_of f) else f

-- the trees that are left where a rule is refused before its pattern and its template are parsed: a
-- group, `=`, `>` and a group are expected
abbrev pub stop_at_greater : Forest → Forest
stop_at_greater = after_expected (begins_with_punct 62) (λ f. f)

abbrev pub stop_at_equals : Forest → Forest
stop_at_equals = after_expected (begins_with_punct 61) stop_at_greater

abbrev pub stop_at_pattern : Forest → Forest
stop_at_pattern = after_expected is_group stop_at_equals

-- the same after `attr` and `derive`, where a group comes first
abbrev pub stop_at_style : Forest → Forest
stop_at_style f =
    if begins_with_ident (codes "attr") f
    || begins_with_ident (codes "derive") f then after_expected is_group stop_at_pattern
    (rest_of f)
    else stop_at_pattern f

-- the same after `unsafe`
abbrev pub stop_in_rule : Forest → Forest
stop_in_rule f = stop_at_style (if begins_with_ident (codes "unsafe") f then rest_of f else f)
