-- Why flat tokens aren't trees: the first token that can't be added, and what is wrong with it.
use Rattle.std.specs.Prelude.{◌≡◌, ⊤, ◌⊎◌, ℕ, zero, suc, ◌+◌, ◌<◌, ◌≤◌, ◌==◌, if◌then◌else◌}
use Rattle.std.specs.Prelude.{Bool, false, List, [], ◌∷◌, ◌++◌, length, take, drop, Some, None, is_some}
use Rattle.std.specs.Prelude.{IsUtf8}
use Rattle.std.specs.Char.{IsScalar}
use Rattle.mbe_tt.specs.Trees.Tree.{none}
use Rattle.mbe_tt.specs.Buffers.GroupStack.{GroupStack, innermost_kind}
use Rattle.mbe_tt.specs.declared.tt.Delimiter.{Delimiter}
use Rattle.mbe_tt.specs.declared.tt.DelimiterKind.{DelimiterKind}
use Rattle.mbe_program.specs.declared.replies.flat.flat_token.FlatToken.{FlatToken}
use Rattle.mbe_program.specs.declared.replies.flat.decoder.FlatError.{FlatError}
use Rattle.mbe_program.specs.declared.replies.flat.decoder.FlatError.TheVariants as errors
use Rattle.mbe_program.specs.declared.replies.flat.decoder.FlatFault.{FlatFault}
use Rattle.mbe_program.specs.declared.replies.flat.decoder.FlatFault.TheVariants.{Kind, Sort, Character, Count, Range, Utf8, Closing, Whole, Open}
use Rattle.mbe_program.specs.declared.replies.flat.decoder.Refusal.{Refusal}
use Rattle.mbe_program.specs.declared.replies.flat.decoder.Refusal.TheVariants as refusals
use Rattle.mbe_program.specs.Replies.Flat.TokenCodes.{span_of, literal_of, delimiter_of, spacing_of}
use Rattle.mbe_program.specs.Replies.Flat.TokenCodes.{raw_of}
use Rattle.mbe_program.specs.Replies.Flat.Decoder.{Adds, AddAll}

-- ---- one token

-- The kind is one of the five.
abbrev pub IsKnown : FlatToken → Type 0
IsKnown t = (0 < t.kind) × (t.kind < 6)

-- The token is neither an opening nor a closing.
abbrev pub IsNoDelimiter : FlatToken → Type 0
IsNoDelimiter t = (t.kind < 4) ⊎ (5 < t.kind)

-- Whether the sort has a meaning for the kind.
abbrev pub has_sort : FlatToken → Bool
has_sort t =
    if t.kind == 1 then is_some (raw_of t.sort)
    else if t.kind == 2 then is_some (spacing_of t.sort)
    else if t.kind == 3 then is_some (literal_of t.sort t.hashes)
    else is_some (delimiter_of t.sort)

-- An identifier or a literal, whose text is beside the tokens.
abbrev pub HasOwnText : FlatToken → Type 0
HasOwnText t = (t.kind ≡ 1) ⊎ (t.kind ≡ 3)

-- The text of a token isn't within the text beside the tokens, or isn't UTF-8.
abbrev pub HasNoText : List ℕ → FlatToken → FlatFault → Type 0
HasNoText text t Range = length text < t.offset + t.len
HasNoText text t Utf8 = (t.offset + t.len ≤ length text)
    × ¬ (IsUtf8 (take t.len (drop t.offset text)))
HasNoText text t f = ⊥

-- A number of the token, or its text, is wrong in that way.
abbrev pub IsWrong : List ℕ → FlatToken → FlatFault → Type 0
IsWrong text t Kind = ¬ (IsKnown t)
IsWrong text t Sort = has_sort t ≡ false
IsWrong text t Character = (t.kind ≡ 2) × ¬ (IsScalar t.character)
IsWrong text t Count = (t.kind ≡ 3) × ((255 < t.hashes) ⊎ (255 < t.suffix_len))
IsWrong text t Range = HasOwnText t × HasNoText text t Range
IsWrong text t Utf8 = HasOwnText t × HasNoText text t Utf8
IsWrong text t f = ⊥

-- The innermost open group has another delimiter, or only the outer group is open.
abbrev pub IsUnopened : FlatToken → GroupStack → Type 0
IsUnopened t groups = (kind : DelimiterKind) → delimiter_of t.sort ≡ Some kind
    → ¬ (innermost_kind groups ≡ Some kind)

-- The token can't be added to these open groups.
abbrev pub HasFault : List ℕ → FlatToken → GroupStack → FlatFault → Type 0
HasFault text t groups f = IsWrong text t f
    ⊎ ((f ≡ Closing) × (t.kind ≡ 5) × IsUnopened t groups)

-- The token is refused for what is wrong with it, whatever is open. Memory may also run out.
abbrev pub IsWrongBy : List ℕ → FlatToken → Refusal → Type 0
IsWrongBy text t (refusals.FlatFault f) = IsWrong text t f
IsWrongBy text t refusals.OutOfMemory = ⊤

-- The token is refused for a fault that it has. Memory may also run out.
abbrev pub IsRefused : List ℕ → FlatToken → GroupStack → Refusal → Type 0
IsRefused text t groups (refusals.FlatFault f) = HasFault text t groups f
IsRefused text t groups refusals.OutOfMemory = ⊤

-- The error for the token at that index.
abbrev pub error_at : ℕ → Refusal → FlatError
error_at index (refusals.FlatFault f) = errors.Fault index f
error_at index refusals.OutOfMemory = errors.OutOfMemory

-- ---- all tokens

-- The token after `n` others is the first with a fault.
abbrev pub IsFirstFault : List ℕ → List FlatToken → GroupStack → ℕ → FlatFault → Type 0
IsFirstFault text [] groups n f = ⊥
IsFirstFault text (t ∷ ts) groups zero f = HasFault text t groups f
IsFirstFault text (t ∷ ts) groups (suc n) f = (next : GroupStack) × Adds text t groups next
    × IsFirstFault text ts next n f

-- The tokens are an opening, others, and a closing with the same delimiter.
pub record Grouped (tokens : List FlatToken) : Type 0 where
  pub first : FlatToken
  pub middle : List FlatToken
  pub last : FlatToken
  pub whole : Delimiter
  pub all : tokens ≡ first ∷ (middle ++ (last ∷ []))
  pub opens : (first.kind ≡ 4) × (delimiter_of first.sort ≡ Some whole.kind)
      × (whole.opening ≡ span_of first.span)
  pub closes : (last.kind ≡ 5) × (delimiter_of last.sort ≡ Some whole.kind)
      × (whole.close ≡ span_of last.span)

-- The first and the last token are no group.
abbrev pub AreNoGroup : FlatToken → FlatToken → Type 0
AreNoGroup first last = (kind : DelimiterKind) → first.kind ≡ 4 → last.kind ≡ 5
    → delimiter_of first.sort ≡ Some kind
    → ¬ (delimiter_of last.sort ≡ Some kind)

-- Inside the group, the fault at that index is the first one, or a group is open at the end.
abbrev pub IsFaultInside : List ℕ → (tokens : List FlatToken) → Grouped tokens → ℕ → FlatFault → Type 0
IsFaultInside text tokens g index f =
    ((n : ℕ) × (index ≡ suc n) × IsFirstFault text g.middle ((g.whole, none) ∷ []) n f)
    ⊎ ((f ≡ Open) × (index ≡ suc (length g.middle)) × ((groups : GroupStack)
    × AddAll text g.middle ((g.whole, none) ∷ []) groups
    × (1 < length groups)))

-- The tokens aren't trees, for that fault of the token at that index.
abbrev pub HasNoTree : List ℕ → List FlatToken → ℕ → FlatFault → Type 0
HasNoTree text tokens index f =
    ((f ≡ Whole) × (index ≡ 0) × ¬ (Grouped tokens))
    ⊎ ((g : Grouped tokens) × IsFaultInside text tokens g index f)

-- The tokens are refused for that reason. Memory may also run out.
abbrev pub AreRefused : List ℕ → List FlatToken → FlatError → Type 0
AreRefused text tokens (errors.Fault index f) = HasNoTree text tokens index f
AreRefused text tokens errors.OutOfMemory = ⊤

-- The tokens after the outer group's opening are refused for that reason.
abbrev pub AreRefusedInside : List ℕ → List FlatToken → GroupStack → FlatError → Type 0
AreRefusedInside text tokens groups (errors.Fault index f) = (n : ℕ) × (index ≡ suc n)
    × IsFirstFault text tokens groups n f
AreRefusedInside text tokens groups errors.OutOfMemory = ⊤
