-- The limit of nested expansions that files set, each by its last `#![recursion_limit = "N"]`.
use Rattle.std.specs.Prelude.{ℕ, zero, suc, ◌+◌, ◌^◌, ◌&&◌, nat_lt, if◌then◌else◌}
use Rattle.std.specs.Prelude.{List, length, codes}
use Rattle.std.specs.Prelude.{Option, Some, None, option_and_then}
use Rattle.std.specs.List.{slice_get}
use Rattle.std.specs.Option.{option_or}
use Rattle.std.specs.Str.{all_ascii_digits}
use Rattle.std.specs.Str.Parse.{digits_value, without_leading_plus}
use Rattle.mbe_tt.specs.Trees.Leaf.{Leaf, literal, punct, ident}
use Rattle.mbe_tt.specs.Trees.Tree.{Forest, none, leaf, group, front_literal}
use Rattle.mbe_tt.specs.declared.tt.DelimiterKind.TheVariants.{Bracket}
use Rattle.mbe_tt.specs.declared.tt.LitKind.{LitKind}
use Rattle.mbe_tt.specs.declared.tt.LitKind.TheVariants as k
use Rattle.mbe_cfg.specs.CrateExports.Exports.{after_word}
use Rattle.mbe_cfg.specs.TreeFront.{after_char, group_at}
use Rattle.mbe_session.specs.Sources.{Source}

-- The number below 2 ^ 32 that decimal digits denote. A plus sign may precede them.
abbrev pub number_of : List ℕ → Option ℕ
number_of text =
    if nat_lt 0 (length (without_leading_plus text)) && all_ascii_digits (without_leading_plus text)
    && nat_lt (digits_value 10 (without_leading_plus text)) (2 ^ 32)
    then Some (digits_value 10 (without_leading_plus text)) else None

-- The number that a string is, as it is written.
abbrev pub number_of_kind : List ℕ → LitKind → Option ℕ
number_of_kind text k.Str = number_of text
number_of_kind text (k.StrRaw n) = number_of text
number_of_kind text _ = None

abbrev pub number_in : Leaf → Option ℕ
number_in (literal l) = number_of_kind l.text_and_suffix l.kind
number_in (punct p) = None
number_in (ident i) = None

-- `N` of `recursion_limit = "N"` at the front.
abbrev pub limit_inside : Forest → Option ℕ
limit_inside f =
    option_and_then number_in
    (option_and_then front_literal
    (option_and_then (after_char 61) (after_word (codes "recursion_limit") f)))

-- `N` of `#![recursion_limit = "N"]` at the front.
abbrev pub limit_at : Forest → Option ℕ
limit_at f =
    option_and_then (λ brackets. limit_inside brackets.inside)
    (option_and_then (group_at Bracket) (option_and_then (after_char 33) (after_char 35 f)))

-- `N` of the last `#![recursion_limit = "N"]` among trees.
unfoldable pub recursion_limit : Forest → Option ℕ
recursion_limit none = None
recursion_limit (leaf l rest) = option_or (recursion_limit rest) (limit_at (leaf l rest))
recursion_limit (group d inside rest) = recursion_limit rest

-- The limit that a file sets. A file that isn't Rust sets none.
abbrev pub limit_of : Source → Option ℕ
limit_of s = option_and_then (λ tree. recursion_limit tree.1) s.tree

-- The limit that the file of that index sets.
abbrev pub limit_at_index : ℕ → List Source → Option ℕ
limit_at_index index files = option_and_then limit_of (slice_get files index)

-- The limit of the first file that sets one, among that many files from an index on.
unfoldable pub first_limit : ℕ → ℕ → List Source → Option ℕ
first_limit zero index files = None
first_limit (suc count) index files =
    option_or (limit_at_index index files) (first_limit count (index + 1) files)
