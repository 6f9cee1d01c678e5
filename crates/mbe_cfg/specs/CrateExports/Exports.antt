-- What a crate exports from other crates, by the `pub use`s of its root.
use Rattle.std.specs.Prelude.{ℕ, zero, suc, Bool, true, false, ◌==◌, ◌-◌, if◌then◌else◌, codes}
use Rattle.std.specs.Prelude.{List, [], ◌∷◌, ◌++◌, Option, Some, None, option_map, option_and_then}
use Rattle.std.specs.Prelude.{unwrap_or}
use Rattle.std.specs.Str.{bytes_eq}
use Rattle.mbe_tt.specs.Trees.Leaf.{Leaf, Ident, literal, punct, ident}
use Rattle.mbe_tt.specs.Trees.Tree.{Forest, none, leaf, group, front_ident, rest_of}

-- What is exported from another crate: all that it offers, or its macro of the first name, under
-- the second name.
pub data ExportedMacros : Type 0 where
  All : ExportedMacros
  One : List ℕ → List ℕ → ExportedMacros

-- An export: the crate that exports, the crate that it comes from, and what is exported.
pub record Export : Type 0 where
  pub by : List ℕ
  pub from : List ℕ
  pub exported_macros : ExportedMacros

-- ---- words

-- The name at the front.
abbrev pub name_at : Forest → Option (List ℕ)
name_at f = option_map (λ i. i.sym) (front_ident f)

abbrev pub after_first : Forest → Forest
after_first f = rest_of f

-- The trees after that word.
abbrev pub after_word : List ℕ → Forest → Option Forest
after_word word f =
    option_and_then (λ i. if bytes_eq i.sym word then Some (rest_of f) else None) (front_ident f)

-- The name after an `as` at the front.
abbrev pub new_name : Forest → Option (List ℕ)
new_name f = option_and_then name_at (after_word (codes "as") f)

abbrev pub is_some_name : List ℕ → Option (List ℕ) → Bool
is_some_name name None = false
is_some_name name (Some other) = bytes_eq other name

-- An `as` and that name are at the front.
abbrev pub is_renamed : List ℕ → Forest → Bool
is_renamed name f = is_some_name name (new_name f)

-- ---- crates

-- The name at the front, if an `as` and that other name follow it.
abbrev pub renamed_at : List ℕ → Forest → Option (List ℕ)
renamed_at name f =
    option_and_then (λ found. if is_renamed name (rest_of f) then Some found else None) (name_at f)

-- The crate to which an `extern crate` at the front gives that name.
abbrev pub crate_at : List ℕ → Forest → Option (List ℕ)
crate_at name f =
    option_and_then (renamed_at name)
    (option_and_then (after_word (codes "crate")) (after_word (codes "extern") f))

-- The crate that a name means among the trees of a root: by the first
-- `extern crate other as name;`, or else the crate of that name.
unfoldable pub crate_of : List ℕ → Forest → List ℕ
crate_of name none = name
crate_of name (leaf l rest) = unwrap_or (crate_at name (leaf l rest)) (crate_of name rest)
crate_of name (group d inside rest) = crate_of name rest

-- ---- paths

-- The part of a path before a point: the crate that it begins with, whether more names follow the
-- crate, and how many trees to skip.
pub record UsePath : Type 0 where
  pub from : Option (List ℕ)
  pub has_more_names : Bool
  pub skipped : ℕ

abbrev pub empty_path : UsePath
empty_path = record { from = None; has_more_names = false; skipped = 0 }

abbrev pub with_name_after : Forest → List ℕ → UsePath → Option (List ℕ) → UsePath
with_name_after root name w None =
    record { from = Some (crate_of name root); has_more_names = false; skipped = 0 }
with_name_after root name w (Some crate) = record w { has_more_names = true }

-- One more name, in that root.
abbrev pub with_name : Forest → List ℕ → UsePath → UsePath
with_name root name w = with_name_after root name w w.from

-- A `:` is at the front.
abbrev pub is_colon : Leaf → Bool
is_colon (punct p) = p.char == 58
is_colon (ident i) = false
is_colon (literal l) = false

abbrev pub begins_path : Forest → Bool
begins_path none = false
begins_path (leaf l rest) = is_colon l
begins_path (group d inside rest) = false

-- An `as` and the name after it are skipped.
abbrev pub before_as : UsePath → Option Forest → UsePath
before_as w None = w
before_as w (Some rest) = record w { skipped = 2 }

abbrev pub after_ident : Forest → UsePath → Ident → Forest → UsePath
after_ident root w i rest =
    if begins_path rest then with_name root i.sym w else before_as w (after_word (codes "as") rest)

-- After a comma, a path begins as its group does.
abbrev pub after_leaf : Forest → UsePath → UsePath → Leaf → Forest → UsePath
after_leaf root start w (ident i) rest = after_ident root w i rest
after_leaf root start w (punct p) rest = if p.char == 44 then start else w
after_leaf root start w (literal l) rest = w

abbrev pub next : Forest → UsePath → UsePath → Leaf → Forest → UsePath
next root start w l rest =
    if w.skipped == 0 then after_leaf root start w l rest else record w { skipped = w.skipped - 1 }

-- ---- what paths name

-- The crate's macro, if the path begins with a crate.
abbrev pub one_of : List ℕ → Option (List ℕ) → List ℕ → List ℕ → List Export
one_of by None name other = []
one_of by (Some crate) name other =
    record { by = by; from = crate; exported_macros = One name other } ∷ []

abbrev pub all_from : List ℕ → Bool → Option (List ℕ) → List Export
all_from by has_more_names None = []
all_from by true (Some crate) = []
all_from by false (Some crate) = record { by = by; from = crate; exported_macros = All } ∷ []

-- All of the crate, if the path is the crate alone.
abbrev pub all_of : List ℕ → UsePath → List Export
all_of by w = all_from by w.has_more_names w.from

-- The last name of a path. An `as` may give it another name.
abbrev pub of_ident : List ℕ → UsePath → Ident → Forest → List Export
of_ident by w i rest =
    if begins_path rest then [] else one_of by w.from i.sym (unwrap_or (new_name rest) i.sym)

abbrev pub of_leaf : List ℕ → UsePath → Leaf → Forest → List Export
of_leaf by w (ident i) rest = of_ident by w i rest
of_leaf by w (punct p) rest = if p.char == 42 then all_of by w else []
of_leaf by w (literal l) rest = []

abbrev pub exported : List ℕ → UsePath → Leaf → Forest → List Export
exported by w l rest = if w.skipped == 0 then of_leaf by w l rest else []

-- A `;` ends a `use`.
abbrev pub ends_use : Leaf → Bool
ends_use (punct p) = p.char == 59
ends_use (ident i) = false
ends_use (literal l) = false

-- One tree after another. The function gives what groups hold.
abbrev pub uses_by : (UsePath → Forest → List Export) → List ℕ → Forest → UsePath → UsePath → Forest
    → List Export
uses_by inner by root start w none = []
uses_by inner by root start w (leaf l rest) =
    if ends_use l then []
    else exported by w l rest ++ uses_by inner by root start (next root start w l rest) rest
uses_by inner by root start w (group d inside rest) =
    inner w inside ++ uses_by inner by root start w rest

-- What the paths among these trees name in that root. Each path begins with `start`. Groups may be
-- nested `levels` deep.
unfoldable pub uses_in : ℕ → List ℕ → Forest → UsePath → Forest → List Export
uses_in zero by root start f = []
uses_in (suc levels) by root start f = uses_by (uses_in levels by root) by root start start f

-- ---- roots

abbrev pub used_after : List ℕ → Forest → Option Forest → List Export
used_after by root None = []
used_after by root (Some f) = uses_in 1000 by root empty_path f

-- What a `pub use` at the front names.
abbrev pub exports_at : List ℕ → Forest → Forest → List Export
exports_at by root f =
    used_after by root (option_and_then (after_word (codes "use")) (after_word (codes "pub") f))

unfoldable pub exports_in : List ℕ → Forest → Forest → List Export
exports_in by root none = []
exports_in by root (leaf l rest) = exports_at by root (leaf l rest) ++ exports_in by root rest
exports_in by root (group d inside rest) = exports_in by root rest

-- What the crate of that name exports, by the `pub use`s among its root's trees.
abbrev pub exports_of : List ℕ → Forest → List Export
exports_of by root = exports_in by root root
