-- Tests on the first trees.
use Rattle.std.specs.Prelude.{ℕ, Bool, false, not, ◌&&◌, ◌==◌, List}
use Rattle.mbe_tt.specs.Trees.Leaf.{Leaf, literal, punct, ident, is_text}
use Rattle.mbe_tt.specs.Trees.Tree.{Forest, none, leaf, group, rest_of}

abbrev pub is_char_leaf : ℕ → Leaf → Bool
is_char_leaf char (punct p) = p.char == char
is_char_leaf char (ident i) = false
is_char_leaf char (literal l) = false

abbrev pub is_char : ℕ → Forest → Bool
is_char char none = false
is_char char (leaf l rest) = is_char_leaf char l
is_char char (group d inside rest) = false

abbrev pub is_word_leaf : List ℕ → Leaf → Bool
is_word_leaf word (ident i) = is_text i.sym word
is_word_leaf word (punct p) = false
is_word_leaf word (literal l) = false

abbrev pub is_word : List ℕ → Forest → Bool
is_word word none = false
is_word word (leaf l rest) = is_word_leaf word l
is_word word (group d inside rest) = false

-- A `.` is at the front that doesn't begin `..`, `...` or `..=`.
abbrev pub is_single_dot : Forest → Bool
is_single_dot f = is_char 46 f && not (is_char 46 (rest_of f))
