-- The trees of an external crate with `$crate` replaced by `::` and the crate's name.
use Rattle.std.specs.Prelude.{ℕ, zero, suc, Bool, false, ◌==◌, ◌&&◌, if◌then◌else◌, codes, List}
use Rattle.mbe_tt.specs.Trees.Leaf.{Leaf, literal, punct, ident, is_text, span_of}
use Rattle.mbe_tt.specs.Trees.Top.{Top}
use Rattle.mbe_tt.specs.Trees.Tree.{Forest, none, leaf, group, append, one_leaf}
use Rattle.mbe_tt.specs.declared.span.Span.{Span}
use Rattle.mbe_tt.specs.declared.tt.IdentIsRaw.TheVariants.{No}
use Rattle.mbe_tt.specs.declared.tt.Spacing.{Spacing}
use Rattle.mbe_tt.specs.declared.tt.Spacing.TheVariants.{Alone, Joint}

abbrev pub is_dollar : Leaf → Bool
is_dollar (punct p) = p.char == 36
is_dollar (literal l) = false
is_dollar (ident i) = false

abbrev pub is_crate : Leaf → Bool
is_crate (ident i) = is_text i.sym (codes "crate")
is_crate (punct p) = false
is_crate (literal l) = false

-- `crate` at the front
abbrev pub begins_crate : Forest → Bool
begins_crate none = false
begins_crate (leaf l rest) = is_crate l
begins_crate (group d inside rest) = false

-- `$crate` at the front
abbrev pub begins_dollar_crate : Forest → Bool
begins_dollar_crate none = false
begins_dollar_crate (leaf l rest) = is_dollar l && begins_crate rest
begins_dollar_crate (group d inside rest) = false

-- A `:` at that span.
abbrev pub colon : Span → Spacing → Leaf
colon at spacing = punct (record { char = 58; spacing = spacing; span = at })

-- A `::` at that span.
abbrev pub colons : Span → Forest
colons at = leaf (colon at Joint) (one_leaf (colon at Alone))

-- The crate's name as an identifier at that span.
abbrev pub crate_name_at : List ℕ → Span → Leaf
crate_name_at name at = ident (record { sym = name; is_raw = No; span = at })

-- A leaf. A punct gets spacing `Alone`, so that the `::` after it doesn't join it.
abbrev pub alone : Leaf → Leaf
alone (punct p) = punct (record p { spacing = Alone })
alone (literal l) = literal l
alone (ident i) = ident i

-- A leaf before the trees `rest`. `after` says whether a `$` precedes it. In `$crate` the `$`
-- becomes `::`, and `crate` becomes the name.
abbrev pub replaced_leaf : List ℕ → Bool → Leaf → Forest → Forest
replaced_leaf name after l rest =
    if after && is_crate l then one_leaf (crate_name_at name (span_of l))
    else if is_dollar l && begins_crate rest then colons (span_of l)
    else if begins_dollar_crate rest then one_leaf (alone l)
    else one_leaf l

-- Trees with each leaf replaced so, and the content of each group by the function `inner`.
abbrev pub replaced_by : (Forest → Forest) → List ℕ → Bool → Forest → Forest
replaced_by inner name after none = none
replaced_by inner name after (leaf l rest) =
    append (replaced_leaf name after l rest) (replaced_by inner name (is_dollar l) rest)
replaced_by inner name after (group d inside rest) =
    group d (inner inside) (replaced_by inner name false rest)

-- Trees replaced down to so many nested groups. Groups below are unchanged.
unfoldable pub replaced_in : ℕ → List ℕ → Forest → Forest
replaced_in zero name f = f
replaced_in (suc levels) name f = replaced_by (replaced_in levels name) name false f

-- The trees of the crate `name`, replaced down to 1000 nested groups.
abbrev pub replace_dollar_crate : List ℕ → Top → Top
replace_dollar_crate name tree = (tree.0, replaced_in 1000 name tree.1)
