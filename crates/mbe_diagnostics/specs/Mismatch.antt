-- The token of a call that no rule expected, and the message of rustc for it.
use Rattle.std.specs.Prelude.{ℕ, zero, suc, ◌-◌, ◌==◌, ◌++◌, nat_lt, if◌then◌else◌, is_some, List}
use Rattle.std.specs.Prelude.{[], codes, Option, Some, None}
use Rattle.mbe_tt.specs.declared.tt.Delimiter.{Delimiter}
use Rattle.mbe_tt.specs.declared.tt.DelimiterKind.{DelimiterKind}
use Rattle.mbe_tt.specs.declared.tt.DelimiterKind.TheVariants.{Parenthesis, Brace, Bracket}
use Rattle.mbe_tt.specs.declared.tt.DelimiterKind.TheVariants.{Invisible}
use Rattle.mbe_tt.specs.declared.tt.Punct.{Punct}
use Rattle.mbe_tt.specs.Trees.Glue.{glued}
use Rattle.mbe_tt.specs.Trees.Leaf.{Ident, ident, literal, punct}
use Rattle.mbe_tt.specs.Trees.Literals.{ident_text, literal_output}
use Rattle.mbe_tt.specs.Trees.Tree.{Forest, none, leaf, group, flat_len, Tree, first, Leaf_tree}
use Rattle.mbe_tt.specs.Trees.Tree.{Group_tree, front_ident, rest_of}
use Rattle.mbe_semantics.specs.Expansion.MatchError.{puncts_text}
use Rattle.mbe_diagnostics.specs.Outcome.{opening, quoted}

-- The tokens at an offset of an argument. `around` is the innermost group around the offset, or
-- none outside all groups. The trees are the ones from the offset to the end of that group.
pub record TokenAt : Type 0 where
  pub around : Option Delimiter
  pub rest : Forest

abbrev pub token_at : Option Delimiter → Forest → ℕ → TokenAt
token_at around f zero = record { around = around; rest = f }
token_at around none (suc n) = record { around = around; rest = none }
token_at around (leaf l rest) (suc n) = token_at around rest n
token_at around (group d inside rest) (suc n) =
    if nat_lt (flat_len inside) n then token_at around rest (n - flat_len inside - 1)
    else token_at (Some d) inside n

abbrev pub closing : DelimiterKind → List ℕ
closing Parenthesis = codes "`)`"
closing Brace = codes "`}`"
closing Bracket = codes "`]`"
closing Invisible = codes "the end of an invisible group"

-- The name of a lifetime whose quote is the first tree.
abbrev pub lifetime_by : Option Tree → Forest → Option Ident
lifetime_by (Some (Leaf_tree (punct p))) rest = if p.char == 39 then front_ident rest else None
lifetime_by _ rest = None

abbrev pub lifetime_name : Forest → Option Ident
lifetime_name f = lifetime_by (first f) (rest_of f)

-- A lifetime, the puncts of an operator, or another token.
abbrev pub front_text_by : Option Ident → Option (List Punct) → Option Tree → List ℕ
front_text_by (Some name) puncts t = codes "`'" ++ (ident_text name ++ codes "`")
front_text_by None (Some puncts) t = quoted (puncts_text puncts)
front_text_by None None (Some (Leaf_tree (ident i))) = quoted (ident_text i)
front_text_by None None (Some (Leaf_tree (literal l))) = quoted (literal_output l)
front_text_by None None (Some (Leaf_tree (punct p))) = []
front_text_by None None (Some (Group_tree d inside)) = opening d.kind
front_text_by None None None = []

abbrev pub front_text : Forest → List ℕ
front_text f = front_text_by (lifetime_name f) (glued f) (first f)

abbrev pub end_text : Option Delimiter → List ℕ
end_text None = codes "unexpected end of macro invocation"
end_text (Some d) = codes "no rules expected " ++ closing d.kind

-- The message for the token: rustc's words.
abbrev pub mismatch_text : TokenAt → List ℕ
mismatch_text t = if is_some (first t.rest) then codes "no rules expected " ++ front_text t.rest
    else end_text t.around
