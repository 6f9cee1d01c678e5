-- The macros that a `use` imports: paths find them, as they find other items. And modules, and the
-- names that a `use` declares.
use Rattle.std.specs.Prelude.{ℕ, zero, suc, Bool, true, false, not, ◌==◌, ◌&&◌, ◌||◌}
use Rattle.std.specs.Prelude.{if◌then◌else◌, codes, List, [], ◌∷◌, ◌++◌, unwrap_or}
use Rattle.std.specs.Prelude.{Option, Some, None, is_some, option_map, option_and_then}
use Rattle.std.specs.Str.{bytes_eq}
use Rattle.mbe_tt.specs.Trees.Leaf.{Leaf, Ident, literal, punct, ident, is_text}
use Rattle.mbe_tt.specs.Trees.Tree.{Forest, none, leaf, group, rest_of, front_ident, front_group}
use Rattle.mbe_tt.specs.declared.tt.DelimiterKind.{DelimiterKind}
use Rattle.mbe_tt.specs.declared.tt.DelimiterKind.TheVariants.{Parenthesis, Brace, Bracket}
use Rattle.mbe_tt.specs.declared.tt.DelimiterKind.TheVariants.{Invisible}
use Rattle.mbe_cfg.specs.CrateExports.Exports.{after_word, begins_path, ends_use, is_some_name}
use Rattle.mbe_cfg.specs.CrateExports.Exports.{new_name}
use Rattle.mbe_session.specs.Scopes.{DeclaredName}

-- ---- modules

-- A module: its name, its content, and the trees after it.
pub record ModuleItem : Type 0 where
  pub name : Ident
  pub inside : Forest
  pub rest : Forest

abbrev pub module_in : DelimiterKind → ModuleItem → Option ModuleItem
module_in Brace m = Some m
module_in Parenthesis m = None
module_in Bracket m = None
module_in Invisible m = None

abbrev pub module_with_name : Ident → Forest → Option ModuleItem
module_with_name name f =
    option_and_then (λ g. module_in g.0.kind
    (record { name = name; inside = g.1; rest = rest_of f })) (front_group f)

-- The module `mod name { .. }` at the front.
abbrev pub module_at : Forest → Option ModuleItem
module_at f =
    option_and_then (λ g. option_and_then (λ i. module_with_name i (rest_of g)) (front_ident g))
    (after_word (codes "mod") f)

-- ---- imports

-- A `use` gives another name to what is before the trees.
abbrev pub is_renamed : Forest → Bool
is_renamed f = is_some (after_word (codes "as") f)

-- A path of a `use` ends before the trees, and keeps its last name.
abbrev pub ends_path : Forest → Bool
ends_path f = not (begins_path f) && not (is_renamed f)

-- A leaf that is the name, doesn't begin a longer path, and gets no other name.
abbrev pub is_name_leaf : List ℕ → Leaf → Forest → Bool
is_name_leaf name (ident i) rest = bytes_eq i.sym name && ends_path rest
is_name_leaf name (punct p) rest = false
is_name_leaf name (literal l) rest = false

abbrev pub is_name : List ℕ → Forest → Bool
is_name name none = false
is_name name (leaf l rest) = is_name_leaf name l rest
is_name name (group d inside rest) = false

-- The name is somewhere among these trees.
unfoldable pub has_name : List ℕ → Forest → Bool
has_name name none = false
has_name name (leaf l rest) = is_name_leaf name l rest || has_name name rest
has_name name (group d inside rest) = has_name name rest

-- What follows the `use`: the name, or a group with it.
abbrev pub is_tree_of : List ℕ → Forest → Bool
is_tree_of name none = false
is_tree_of name (leaf l rest) = is_name_leaf name l rest
is_tree_of name (group d inside rest) = has_name name inside

abbrev pub is_use_leaf : List ℕ → Leaf → Forest → Bool
is_use_leaf name (ident i) rest = is_text i.sym (codes "use") && is_tree_of name rest
is_use_leaf name (punct p) rest = false
is_use_leaf name (literal l) rest = false

abbrev pub is_use : List ℕ → Forest → Bool
is_use name none = false
is_use name (leaf l rest) = is_use_leaf name l rest
is_use name (group d inside rest) = false

-- The name of the `macro_rules!` definition at the front.
abbrev pub rules_name_at : Forest → Option (List ℕ)
rules_name_at f =
    option_and_then (λ g. option_map (λ i. i.sym) (front_ident (rest_of g)))
    (after_word (codes "macro_rules") f)

abbrev pub is_rules_of : List ℕ → Forest → Bool
is_rules_of name f = is_some_name name (rules_name_at f)

-- A `use` among these trees imports the name: `use name;` or `use {name, other};`. A `use` after
-- another definition of that name imports that one.
unfoldable pub is_imported_in : List ℕ → Forest → Bool
is_imported_in name none = false
is_imported_in name (leaf l rest) =
    is_use_leaf name l rest || (not (is_rules_of name (leaf l rest)) && is_imported_in name rest)
is_imported_in name (group d inside rest) = is_imported_in name rest

-- ---- what a `use` declares

-- The path of a `use` before a point: its first name, none at the start, and whether an `as`
-- precedes the point.
pub record UsedPath : Type 0 where
  pub first : Option (List ℕ)
  pub follows_as : Bool

abbrev pub empty_path : UsedPath
empty_path = record { first = None; follows_as = false }

abbrev pub one_declared : List ℕ → List ℕ → List DeclaredName
one_declared first name = record { first = first; name = name } ∷ []

-- A path of several names declares the last one, unless it gets another name.
abbrev pub last_name : Option (List ℕ) → List ℕ → Forest → List DeclaredName
last_name None name rest = []
last_name (Some first) name rest = if is_renamed rest then [] else one_declared first name

-- What a name declares: itself after an `as`, or if it ends its path.
abbrev pub declared_by : UsedPath → List ℕ → Forest → List DeclaredName
declared_by p name rest =
    if is_text name (codes "as") then []
    else if p.follows_as then one_declared (codes "") name
    else if begins_path rest then [] else last_name p.first name rest

-- The path after that name.
abbrev pub path_after : UsedPath → List ℕ → Forest → UsedPath
path_after p name rest =
    if is_text name (codes "as") then record p { follows_as = true }
    else if p.follows_as then p
    else if begins_path rest then record p { first = Some (unwrap_or p.first name) } else p

-- What a leaf declares. A `*` is a name.
abbrev pub declared_at : UsedPath → Leaf → Forest → List DeclaredName
declared_at p (ident i) rest = declared_by p i.sym rest
declared_at p (punct q) rest =
    if q.char == 42 then one_declared (unwrap_or p.first (codes "")) (codes "*") else []
declared_at p (literal l) rest = []

-- The path after a leaf. After a comma, it is again the path at which the group began.
abbrev pub next_path : UsedPath → UsedPath → Leaf → Forest → UsedPath
next_path start p (ident i) rest = path_after p i.sym rest
next_path start p (punct q) rest = if q.char == 44 then start else p
next_path start p (literal l) rest = p

-- One tree after another, up to a `;`. The function gives what groups declare.
abbrev pub names_by : (UsedPath → Forest → List DeclaredName) → UsedPath → UsedPath → Forest
    → List DeclaredName
names_by inner start p none = []
names_by inner start p (leaf l rest) =
    if ends_use l then []
    else declared_at p l rest ++ names_by inner start (next_path start p l rest) rest
names_by inner start p (group d inside rest) = inner p inside ++ names_by inner start p rest

-- The names that paths declare, which go on from a path. Groups may be nested that deep.
unfoldable pub used_names : ℕ → UsedPath → Forest → List DeclaredName
used_names zero p f = []
used_names (suc levels) p f = names_by (used_names levels) p p f

abbrev pub is_less : Leaf → Bool
is_less (punct p) = p.char == 60
is_less (ident i) = false
is_less (literal l) = false

-- A `<` is at the front: the `use` is a bound of a type, and declares nothing.
abbrev pub begins_generics : Forest → Bool
begins_generics none = false
begins_generics (leaf l rest) = is_less l
begins_generics (group d inside rest) = false

abbrev pub names_after_use : Option Forest → List DeclaredName
names_after_use None = []
names_after_use (Some f) = if begins_generics f then [] else used_names 1000 empty_path f

-- The new name in `name as other` at the front.
abbrev pub other_name : Forest → Option (List ℕ)
other_name f = option_and_then (λ i. new_name (rest_of f)) (front_ident f)

-- The name that the `extern crate name as other;` at the front gives its crate.
abbrev pub renamed_crate : Forest → Option (List ℕ)
renamed_crate f =
    option_and_then other_name
    (option_and_then (after_word (codes "crate")) (after_word (codes "extern") f))

abbrev pub names_of_crate : Option (List ℕ) → List DeclaredName
names_of_crate None = []
names_of_crate (Some name) = one_declared (codes "") name

-- The names that the `use` or the `extern crate` at the front declares.
abbrev pub names_of_use : Forest → List DeclaredName
names_of_use f =
    names_of_crate (renamed_crate f) ++ names_after_use (after_word (codes "use") f)
