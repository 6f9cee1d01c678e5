-- Decoding: the trees of flat tokens, whose texts are bytes of a text beside them.
use Rattle.std.specs.Prelude.{◌≡◌, ℕ, ◌+◌, ◌<◌, ◌≤◌, List, [], ◌∷◌, ◌++◌, length, take, drop, Some}
use Rattle.mbe_tt.specs.Trees.Leaf.{Leaf, literal, punct, ident}
use Rattle.mbe_tt.specs.Trees.Tree.{none, one_leaf}
use Rattle.mbe_tt.specs.Trees.Top.{Top}
use Rattle.mbe_tt.specs.Buffers.GroupStack.{GroupStack, put, closed, innermost_kind}
use Rattle.mbe_tt.specs.declared.tt.Delimiter.{Delimiter}
use Rattle.mbe_tt.specs.declared.tt.DelimiterKind.{DelimiterKind}
use Rattle.mbe_program.specs.declared.replies.flat.flat_token.FlatToken.{FlatToken}
use Rattle.mbe_program.specs.Replies.Flat.TokenCodes.{span_of, literal_of, delimiter_of, spacing_of}
use Rattle.mbe_program.specs.Replies.Flat.TokenCodes.{raw_of}

-- The token's text is within `text`, and is `s`.
abbrev pub HasText : List ℕ → FlatToken → List ℕ → Type 0
HasText text t s = (t.offset + t.len ≤ length text) × (s ≡ take t.len (drop t.offset text))

-- The token decodes to this leaf.
abbrev pub Decodes : List ℕ → FlatToken → Leaf → Type 0
Decodes text t (ident i) = (t.kind ≡ 1) × (raw_of t.sort ≡ Some i.is_raw) × HasText text t i.sym
    × (i.span ≡ span_of t.span)
Decodes text t (punct p) = (t.kind ≡ 2) × (spacing_of t.sort ≡ Some p.spacing)
    × (p.char ≡ t.character)
    × (p.span ≡ span_of t.span)
Decodes text t (literal l) =
    (t.kind ≡ 3) × (literal_of t.sort t.hashes ≡ Some l.kind) × (l.suffix_len ≡ t.suffix_len)
    × HasText text t l.text_and_suffix
    × (l.span ≡ span_of t.span)

-- The token adds a leaf.
abbrev pub AddsLeaf : List ℕ → FlatToken → GroupStack → GroupStack → Type 0
AddsLeaf text t old new = (l : Leaf) × Decodes text t l × (new ≡ put (one_leaf l) old)

-- The token opens a group.
abbrev pub Opens : FlatToken → GroupStack → GroupStack → Type 0
Opens t old new = (kind : DelimiterKind) × (delimiter_of t.sort ≡ Some kind)
    × (new ≡ (record { opening = span_of t.span; close = span_of t.span; kind = kind }, none) ∷ old)

-- The token closes the innermost group, which has that delimiter, and which isn't the outer group.
abbrev pub Closes : FlatToken → GroupStack → GroupStack → Type 0
Closes t old new = (kind : DelimiterKind) × (delimiter_of t.sort ≡ Some kind)
    × (innermost_kind old ≡ Some kind)
    × (new ≡ closed (span_of t.span) old)

-- How a token changes the open groups.
pub record Adds (text : List ℕ) (t : FlatToken) (old new : GroupStack) : Type 0 where
  pub known : (0 < t.kind) × (t.kind < 6)
  pub leaf : t.kind < 4 → AddsLeaf text t old new
  pub opening : t.kind ≡ 4 → Opens t old new
  pub closing : t.kind ≡ 5 → Closes t old new

-- How tokens change the open groups, one after another.
abbrev pub AddAll : List ℕ → List FlatToken → GroupStack → GroupStack → Type 0
AddAll text [] old new = new ≡ old
AddAll text (t ∷ ts) old new = (middle : GroupStack) × Adds text t old middle
    × AddAll text ts middle new

-- The tokens decode to this group: its opening, what is inside, and its closing.
pub record AreTrees (text : List ℕ) (tokens : List FlatToken) (tree : Top) : Type 0 where
  pub first : FlatToken
  pub middle : List FlatToken
  pub last : FlatToken
  pub whole : Delimiter
  pub all : tokens ≡ first ∷ (middle ++ (last ∷ []))
  pub opens : (first.kind ≡ 4) × (delimiter_of first.sort ≡ Some whole.kind)
      × (whole.opening ≡ span_of first.span)
  pub closes : (last.kind ≡ 5) × (delimiter_of last.sort ≡ Some whole.kind)
      × (whole.close ≡ span_of last.span)
  pub inside : AddAll text middle ((whole, none) ∷ []) (tree ∷ [])
