-- Lookahead: tests on the trees after a token.
use Rattle.std.specs.Prelude.{ℕ, Bool, true, false, not, ◌&&◌, ◌||◌, ◌==◌, nat_le, if◌then◌else◌}
use Rattle.std.specs.Prelude.{List, [], ◌∷◌, Option, Some, None, option_map, unwrap_or}
use Rattle.mbe_tt.specs.Trees.Leaf.{Leaf, Ident, literal, punct, ident}
use Rattle.mbe_tt.specs.Trees.Tree.{Forest, Tree, Leaf_tree, Group_tree, none, leaf, group, rest_of}
use Rattle.mbe_tt.specs.Trees.Tree.{front_punct, any_ident}
use Rattle.mbe_tt.specs.declared.tt.DelimiterKind.{DelimiterKind}
use Rattle.mbe_tt.specs.declared.tt.DelimiterKind.TheVariants.{Brace}
use Rattle.mbe_rewriter.specs.declared.hygiene.token_classes.Sign.{Sign}
use Rattle.mbe_rewriter.specs.declared.hygiene.token_classes.Sign.TheVariants as sign
use Rattle.mbe_rewriter.specs.declared.hygiene.token_classes.WordClass.{WordClass}
use Rattle.mbe_rewriter.specs.declared.hygiene.token_classes.WordClass.TheVariants as sort
use Rattle.mbe_rewriter.specs.Hygiene.TokenClasses.{sign_of, word_class_of}

-- ---- puncts

abbrev pub front_sign : Forest → Option Sign
front_sign f = option_map (λ p. sign_of p.char) (front_punct f)

abbrev pub after_first : Forest → Forest
after_first = rest_of

abbrev pub second_sign : Forest → Option Sign
second_sign f = front_sign (rest_of f)

abbrev pub is_colon : Option Sign → Bool
is_colon (Some sign.Colon) = true
is_colon _ = false

abbrev pub is_equals : Option Sign → Bool
is_equals (Some sign.Equals) = true
is_equals _ = false

abbrev pub is_angle : Option Sign → Bool
is_angle (Some sign.Angle) = true
is_angle _ = false

abbrev pub is_bang : Option Sign → Bool
is_bang (Some sign.Bang) = true
is_bang _ = false

abbrev pub is_comma : Option Sign → Bool
is_comma (Some sign.Comma) = true
is_comma _ = false

-- A `:` follows that begins no `::`.
abbrev pub colon_follows : Forest → Bool
colon_follows f = is_colon (front_sign f) && not (is_colon (second_sign f))

-- A `::` follows.
abbrev pub path_follows : Forest → Bool
path_follows f = is_colon (front_sign f) && is_colon (second_sign f)

-- A `!` follows that begins no `!=`.
abbrev pub bang_follows : Forest → Bool
bang_follows f = is_bang (front_sign f) && not (is_equals (second_sign f))

-- A `=` follows that begins no `==` and no `=>`.
abbrev pub equals_follows : Forest → Bool
equals_follows f = is_equals (front_sign f)
    && (not (is_equals (second_sign f)) && not (is_angle (second_sign f)))

abbrev pub is_empty : Forest → Bool
is_empty none = true
is_empty (leaf l rest) = false
is_empty (group d inside rest) = false

abbrev pub comma_or_end_follows : Forest → Bool
comma_or_end_follows f = is_empty f || is_comma (front_sign f)

-- ---- words

abbrev pub front_word_class : Forest → Option WordClass
front_word_class f = option_map word_class_of (any_ident f)

abbrev pub is_name : Option WordClass → Bool
is_name (Some sort.Name) = true
is_name _ = false

-- The fields of a struct begin with a name and then a `,`, a `:`, or nothing.
abbrev pub begins_fields : Forest → Bool
begins_fields f = is_name (front_word_class f)
    && (comma_or_end_follows (rest_of f) || colon_follows (rest_of f))

abbrev pub ends_pattern : Option WordClass → Bool
ends_pattern (Some sort.If) = true
ends_pattern (Some sort.In) = true
ends_pattern _ = false

abbrev pub may_follow_binding : Option Sign → Bool
may_follow_binding (Some sign.Comma) = true
may_follow_binding (Some sign.Bar) = true
may_follow_binding (Some sign.At) = true
may_follow_binding (Some sign.Semicolon) = true
may_follow_binding (Some sign.Equals) = true
may_follow_binding _ = false

-- These trees may follow a name that a pattern binds.
abbrev pub binds_before : Forest → Bool
binds_before f =
    is_empty f || (may_follow_binding (front_sign f)
    || (colon_follows f || ends_pattern (front_word_class f)))

abbrev pub is_low_byte : ℕ → Bool
is_low_byte c = c == 95 || nat_le 97 c && nat_le c 122

-- The name begins with a lowercase letter or a `_`. Other names may be constants.
abbrev pub is_lowercase_name : List ℕ → Bool
is_lowercase_name [] = false
is_lowercase_name (c ∷ cs) = is_low_byte c

-- ---- labels

abbrev pub is_in : Option WordClass → Bool
is_in (Some sort.In) = true
is_in _ = false

-- An `in` follows.
abbrev pub in_follows : Forest → Bool
in_follows f = is_in (front_word_class f)

abbrev pub begins_loop : Option WordClass → Bool
begins_loop (Some sort.Loop) = true
begins_loop (Some sort.For) = true
begins_loop _ = false

abbrev pub is_brace : DelimiterKind → Bool
is_brace Brace = true
is_brace _ = false

abbrev pub is_braces : Tree → Bool
is_braces (Leaf_tree l) = false
is_braces (Group_tree d inside) = is_brace d.kind

abbrev pub braces_follow : Forest → Bool
braces_follow none = false
braces_follow (leaf l rest) = false
braces_follow (group d inside rest) = is_brace d.kind

-- A `:` follows, and then a loop or a block.
abbrev pub is_label : Forest → Bool
is_label f = colon_follows f && (begins_loop (front_word_class (rest_of f))
    || braces_follow (rest_of f))

-- ---- arms of a `match`

-- A punct shows that an arm begins before it, or that none does.
abbrev pub punct_shows_arm : Sign → Forest → Option Bool
punct_shows_arm sign.Comma rest = Some false
punct_shows_arm sign.Semicolon rest = Some false
punct_shows_arm sign.Equals rest = if is_angle (front_sign rest) then Some true else None
punct_shows_arm _ rest = None

abbrev pub leaf_shows_arm : Leaf → Forest → Option Bool
leaf_shows_arm (punct p) rest = punct_shows_arm (sign_of p.char) rest
leaf_shows_arm (literal l) rest = None
leaf_shows_arm (ident i) rest = None

abbrev pub shows_arm : Tree → Forest → Option Bool
shows_arm (Leaf_tree l) rest = leaf_shows_arm l rest
shows_arm (Group_tree d inside) rest = None

-- An `=>` comes before any `,` or `;` of the group.
abbrev pub begins_arm : Forest → Bool
begins_arm none = false
begins_arm (leaf l rest) = unwrap_or (leaf_shows_arm l rest) (begins_arm rest)
begins_arm (group d inside rest) = begins_arm rest

-- ---- `for .. in`

abbrev pub word_class_shows_in : WordClass → Option Bool
word_class_shows_in sort.In = Some true
word_class_shows_in _ = None

abbrev pub ident_word_class : Ident → WordClass
ident_word_class = word_class_of

abbrev pub sign_shows_in : Sign → Option Bool
sign_shows_in sign.Semicolon = Some false
sign_shows_in _ = None

abbrev pub kind_shows_in : DelimiterKind → Option Bool
kind_shows_in Brace = Some false
kind_shows_in _ = None

abbrev pub leaf_shows_in : Leaf → Option Bool
leaf_shows_in (punct p) = sign_shows_in (sign_of p.char)
leaf_shows_in (literal l) = None
leaf_shows_in (ident i) = word_class_shows_in (word_class_of i)

abbrev pub shows_in : Tree → Option Bool
shows_in (Leaf_tree l) = leaf_shows_in l
shows_in (Group_tree d inside) = kind_shows_in d.kind

-- An `in` comes before any `;` or braces of the group.
abbrev pub has_in : Forest → Bool
has_in none = false
has_in (leaf l rest) = unwrap_or (leaf_shows_in l) (has_in rest)
has_in (group d inside rest) = unwrap_or (kind_shows_in d.kind) (has_in rest)
