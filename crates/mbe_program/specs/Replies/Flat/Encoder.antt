-- Encoding: token trees as flat tokens and a text, by a fold over the trees in order. Each text
-- follows those before it.
use Rattle.std.specs.Prelude.{ℕ, List, [], ◌∷◌, ◌++◌, length}
use Rattle.mbe_tt.specs.declared.tt.Delimiter.{Delimiter}
use Rattle.mbe_tt.specs.declared.span.Span.{Span}
use Rattle.mbe_tt.specs.declared.tt.DelimiterKind.{DelimiterKind}
use Rattle.mbe_tt.specs.Trees.Leaf.{Leaf, literal, punct, ident}
use Rattle.mbe_tt.specs.Trees.Tree.{Forest, none, leaf, group, flat_len}
use Rattle.mbe_program.specs.declared.replies.flat.flat_token.FlatToken.{FlatToken}
use Rattle.mbe_program.specs.Replies.Flat.TokenCodes.{flat_span, literal_sort, hashes}
use Rattle.mbe_program.specs.Replies.Flat.TokenCodes.{delimiter_sort, spacing_sort, raw_sort}

-- The text of a leaf. A punct has none, since its char is a number.
abbrev pub leaf_text : Leaf → List ℕ
leaf_text (ident i) = i.sym
leaf_text (literal l) = l.text_and_suffix
leaf_text (punct p) = []

-- A token with only its kind, its sort and its span.
abbrev pub plain_token : ℕ → ℕ → Span → FlatToken
plain_token kind sort span = record {
  kind = kind;
  sort = sort;
  character = 0;
  hashes = 0;
  suffix_len = 0;
  span = flat_span span;
  offset = 0;
  len = 0;
}

-- A leaf, whose text begins at that byte.
abbrev pub leaf_token : ℕ → Leaf → FlatToken
leaf_token offset (ident i) =
    record (plain_token 1 (raw_sort i.is_raw) i.span) { offset = offset; len = length i.sym }
leaf_token offset (punct p) =
    record (plain_token 2 (spacing_sort p.spacing) p.span) { character = p.char }
leaf_token offset (literal l) = record (plain_token 3 (literal_sort l.kind) l.span) {
  hashes = hashes l.kind;
  suffix_len = l.suffix_len;
  offset = offset;
  len = length l.text_and_suffix;
}

-- An opening, with so many flat tokens inside.
abbrev pub opening_token : DelimiterKind → Span → ℕ → FlatToken
opening_token kind span len = record (plain_token 4 (delimiter_sort kind) span) { len = len }

abbrev pub closing_token : DelimiterKind → Span → FlatToken
closing_token kind span = plain_token 5 (delimiter_sort kind) span

-- What was written.
pub record State : Type 0 where
  pub tokens : List FlatToken
  pub text : List ℕ

abbrev pub start : State
start = record { tokens = []; text = [] }

abbrev pub a_leaf : State → Leaf → State
a_leaf s l = record {
  tokens = s.tokens ++ (leaf_token (length s.text) l ∷ []);
  text = s.text
      ++ leaf_text l;
}

abbrev pub opened : State → Delimiter → ℕ → State
opened s d len = record {
  tokens = s.tokens
      ++ (opening_token d.kind d.opening len ∷ []);
  text = s.text;
}

abbrev pub closed : State → Delimiter → State
closed s d = record { tokens = s.tokens ++ (closing_token d.kind d.close ∷ []); text = s.text }

-- The state with these trees written.
unfoldable pub written : Forest → State → State
written none s = s
written (leaf l rest) s = written rest (a_leaf s l)
written (group d inside rest) s =
    written rest (closed (written inside (opened s d (flat_len inside))) d)

-- The state after the rest of each open group is written: the closing, and the trees that follow
-- the group, from the innermost group outwards.
unfoldable pub written_around : List (Delimiter × Forest) → State → State
written_around [] s = s
written_around (g ∷ around) s = written_around around (written g.1 (closed s g.0))

-- The flat form of these trees.
abbrev pub flat_form : Forest → State
flat_form f = written f start
