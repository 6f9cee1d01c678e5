-- Modules and `include!`s at the front of trees, and the `#[path]` before them.
use Rattle.std.specs.Prelude.{ℕ, zero, suc, Bool, true, false, ◌==◌, nat_lt, if◌then◌else◌, codes}
use Rattle.std.specs.Prelude.{List, Option, Some, None}
use Rattle.std.specs.Prelude.{option_and_then, option_map}
use Rattle.std.specs.List.{list_any}
use Rattle.std.specs.Option.{option_or}
use Rattle.mbe_tt.specs.Trees.Leaf.{Leaf, Ident, Literal, literal, punct, ident, is_text}
use Rattle.mbe_tt.specs.Trees.Tree.{Forest, rest_of, Tree, Leaf_tree, Group_tree, front_punct}
use Rattle.mbe_tt.specs.Trees.Tree.{front_ident, front_group, front_literal, first, flat_len}
use Rattle.mbe_cfg.specs.TreeFront.{after_char, after_next_comma, is_empty}
use Rattle.mbe_tt.specs.declared.span.Span.{Span}
use Rattle.mbe_tt.specs.declared.tt.Delimiter.{Delimiter}
use Rattle.mbe_tt.specs.declared.tt.DelimiterKind.{DelimiterKind}
use Rattle.mbe_tt.specs.declared.tt.DelimiterKind.TheVariants.{Brace, Bracket, Parenthesis}
use Rattle.mbe_tt.specs.declared.tt.DelimiterKind.TheVariants.{Invisible}
use Rattle.mbe_tt.specs.declared.tt.IdentIsRaw.{IdentIsRaw}
use Rattle.mbe_tt.specs.declared.tt.IdentIsRaw.TheVariants.{No, Yes}
use Rattle.mbe_tt.specs.declared.tt.LitKind.{LitKind}
use Rattle.mbe_tt.specs.declared.tt.LitKind.TheVariants as k

-- ---- modules

-- A module's content: a `;` if it is in a file, or braces.
pub data ModuleBody : Type 0 where
  Outside : Span → ModuleBody
  Braces : Delimiter → Forest → ModuleBody

-- `mod name` with its content, and the trees after it.
pub record Module : Type 0 where
  pub word : Ident
  pub name : Ident
  pub body : ModuleBody
  pub rest : Forest

abbrev pub is_mod_keyword : IdentIsRaw → List ℕ → Bool
is_mod_keyword Yes sym = false
is_mod_keyword No sym = is_text sym (codes "mod")

abbrev pub outside : Ident → Ident → Forest → Option Module
outside word name f =
    option_and_then
    (λ p. if p.char == 59 then Some
    (record { word = word; name = name; body = Outside p.span; rest = rest_of f })
    else None)
    (front_punct f)

abbrev pub is_brace : DelimiterKind → Bool
is_brace Brace = true
is_brace Bracket = false
is_brace Parenthesis = false
is_brace Invisible = false

abbrev pub inside : Ident → Ident → Forest → Option Module
inside word name f =
    option_and_then
    (λ g. if is_brace g.0.kind then Some
    (record { word = word; name = name; body = Braces g.0 g.1; rest = rest_of f })
    else None)
    (front_group f)

-- The module of that name, by the trees after the name.
abbrev pub module_with : Ident → Ident → Forest → Option Module
module_with word name f = option_or (outside word name f) (inside word name f)

abbrev pub named : Ident → Forest → Option Module
named word f = option_and_then (λ name. module_with word name (rest_of f)) (front_ident f)

-- The module at the front, if one is there.
abbrev pub module_of : Forest → Option Module
module_of f =
    option_and_then (λ word. if is_mod_keyword word.is_raw word.sym then named word (rest_of f)
    else None) (front_ident f)

-- ---- `#[path = ".."]`

abbrev pub has_escape : List ℕ → Bool
has_escape text = list_any (λ b. b == 92) text

abbrev pub text_of_kind : List ℕ → LitKind → Option (List ℕ)
text_of_kind text k.Str = if has_escape text then None else Some text
text_of_kind text (k.StrRaw n) = Some text
text_of_kind text _ = None

-- The text of a string as it is written, if it means that text.
abbrev pub plain_text : Literal → Option (List ℕ)
plain_text l = if nat_lt 0 l.suffix_len then None else text_of_kind l.text_and_suffix l.kind

abbrev pub leaf_text : Leaf → Option (List ℕ)
leaf_text (literal l) = plain_text l
leaf_text (punct p) = None
leaf_text (ident i) = None

abbrev pub of_brackets : DelimiterKind → Forest → Option Forest
of_brackets Bracket content = Some content
of_brackets Brace content = None
of_brackets Parenthesis content = None
of_brackets Invisible content = None

-- The content of the brackets at the front.
abbrev pub bracket_content : Forest → Option Forest
bracket_content f = option_and_then (λ g. of_brackets g.0.kind g.1) (front_group f)

-- The text after a `=`.
abbrev pub value : Forest → Option (List ℕ)
value f = option_and_then leaf_text (option_and_then front_literal (after_char 61 f))

-- The text of `path = ".."` at the front.
abbrev pub path_value : Forest → Option (List ℕ)
path_value f =
    option_and_then (λ i. if is_text i.sym (codes "path") then value (rest_of f) else None)
    (front_ident f)

-- The text of the first `path = ".."` after a comma, among at most `n` commas.
unfoldable pub first_added_path : ℕ → Forest → Option (List ℕ)
first_added_path zero f = None
first_added_path (suc n) f =
    option_or (path_value (after_next_comma f)) (first_added_path n (after_next_comma f))

-- A `cfg_attr` adds what is after its first comma. Its predicate holds: others have been stripped.
abbrev pub added_in : Forest → Option (List ℕ)
added_in f = option_and_then (λ g. first_added_path (flat_len g.1) g.1) (front_group f)

abbrev pub path_of_cfg_attr : Forest → Option (List ℕ)
path_of_cfg_attr f =
    option_and_then (λ i. if is_text i.sym (codes "cfg_attr") then added_in (rest_of f) else None)
    (front_ident f)

-- The text of `path = ".."` in the brackets of an attribute, or of the first one that a `cfg_attr`
-- there adds.
abbrev pub path_in : Forest → Option (List ℕ)
path_in f = option_or (path_value f) (path_of_cfg_attr f)

-- The text of the `#[path = ".."]` at the front, if one is there.
abbrev pub path_at : Forest → Option (List ℕ)
path_at f = option_and_then path_in (option_and_then bracket_content (after_char 35 f))

-- Attributes before a `;` or braces no longer count after it.
abbrev pub ends_item : Tree → Bool
ends_item (Leaf_tree (punct p)) = p.char == 59
ends_item (Leaf_tree (literal l)) = false
ends_item (Leaf_tree (ident i)) = false
ends_item (Group_tree d inside) = is_brace d.kind

-- The text of the first `#[path = ".."]` before an item, after one more tree.
abbrev pub path_after : Option (List ℕ) → Forest → Option (List ℕ)
path_after path f = option_or path (path_at f)

-- ---- `include!("..")`

-- The file that an `include!` names, and the span of the text that names it.
pub record Included : Type 0 where
  pub at : Span
  pub path : List ℕ

abbrev pub text_of : Leaf → Option Included
text_of (literal l) = option_map (λ t. record { at = l.span; path = t }) (plain_text l)
text_of (punct p) = None
text_of (ident i) = None

-- There is no tree, or a comma alone.
abbrev pub is_end_by : Forest → Option Forest → Bool
is_end_by f None = is_empty f
is_end_by f (Some rest) = is_empty rest

abbrev pub is_end : Forest → Bool
is_end f = is_end_by f (after_char 44 f)

-- The text of a string, if no more than a comma follows it.
abbrev pub only_text : Forest → Option Included
only_text f =
    option_and_then (λ l. if is_end (rest_of f) then text_of l else None) (front_literal f)

-- The text in the group after a `!`.
abbrev pub text_in_call : Forest → Option Included
text_in_call f =
    option_and_then (λ g. only_text g.1) (option_and_then front_group (after_char 33 f))

-- The text of the `include!("..")` at the front, if one is there.
abbrev pub include_at : Forest → Option Included
include_at f =
    option_and_then (λ i. if is_text i.sym (codes "include") then text_in_call (rest_of f)
    else None) (front_ident f)

abbrev pub are_brackets : DelimiterKind → Bool
are_brackets Bracket = true
are_brackets Brace = false
are_brackets Parenthesis = false
are_brackets Invisible = false

abbrev pub is_brackets : Tree → Bool
is_brackets (Leaf_tree l) = false
is_brackets (Group_tree d inside) = are_brackets d.kind

-- An item may continue with `include!` after an attribute.
abbrev pub include_after : Option Included → Tree → Forest → Option Included
include_after included t rest = option_or included (if is_brackets t then include_at rest else None)

-- ---- what is left

-- The trees that are left, the `#[path]` before them, and the `include!` whose end is still to
-- come.
pub record ModuleCursor : Type 0 where
  pub rest : Forest
  pub path : Option (List ℕ)
  pub included : Option Included

-- What is left where an item may begin.
abbrev pub at_item_start : Forest → ModuleCursor
at_item_start f = record { rest = f; path = None; included = include_at f }

-- What is left after the first tree.
abbrev pub after : ModuleCursor → Tree → Forest → ModuleCursor
after l t rest =
    if ends_item t then at_item_start rest
    else record {
      rest = rest;
      path = path_after l.path l.rest;
      included = include_after l.included
          t rest;
    }

-- The `include!` that the first tree ends, if it ends one.
abbrev pub finished_include : ModuleCursor → Option Included
finished_include l = option_and_then (λ t. if ends_item t then l.included else None) (first l.rest)
