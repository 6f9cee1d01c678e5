-- Puncts that are taken together as one operator of the Rust Reference. The way to find them is
-- the project's own.
use Rattle.std.specs.Prelude.{ℕ, zero, suc, Bool, if◌then◌else◌, List, [], ◌∷◌, map, take, codes}
use Rattle.std.specs.Prelude.{Option, Some, None, option_map, option_and_then}
use Rattle.std.specs.List.{list_any}
use Rattle.std.specs.Str.{bytes_eq}
use Rattle.mbe_tt.specs.Trees.Leaf.{punct}
use Rattle.mbe_tt.specs.declared.tt.Spacing as spacing
use Rattle.mbe_tt.specs.declared.tt.Punct.{Punct}
use Rattle.mbe_tt.specs.Trees.Tree.{Forest, leaf, front_punct}

-- the operators of three chars, and of two
abbrev pub operators : List (List ℕ)
operators =
    codes "..." ∷ codes "..=" ∷ codes "<<=" ∷ codes ">>="
    ∷ codes "-=" ∷ codes "!=" ∷ codes "*=" ∷ codes "/=" ∷ codes "&=" ∷ codes "%=" ∷ codes "^="
    ∷ codes "+="
    ∷ codes "<=" ∷ codes "==" ∷ codes ">=" ∷ codes "|="
    ∷ codes "->" ∷ codes "=>" ∷ codes ">>" ∷ codes "<-" ∷ codes "::" ∷ codes ".." ∷ codes "&&"
    ∷ codes "<<" ∷ codes "||"
    ∷ []

-- whether the chars are such an operator
abbrev pub is_operator : List ℕ → Bool
is_operator chars = list_any (bytes_eq chars) operators

-- the chars of puncts
abbrev pub chars_of : List Punct → List ℕ
chars_of puncts = map (λ p. p.char) puncts

-- the puncts after a punct, if that punct is joint
abbrev pub if_joint : spacing.Spacing → List Punct → List Punct
if_joint spacing.TheVariants.Alone more = []
if_joint spacing.TheVariants.Joint more = more

-- the punct at the front, if the punct before it is joint
abbrev pub joined_punct : spacing.Spacing → Forest → Option Punct
joined_punct spacing.TheVariants.Alone f = None
joined_punct spacing.TheVariants.Joint f = front_punct f

-- the puncts at the front, at most n; all but the last are joint
abbrev pub joined : ℕ → Forest → List Punct
joined zero f = []
joined (suc n) (leaf (punct p) rest) = p ∷ if_joint p.spacing (joined n rest)
joined (suc n) _ = []

-- the punct that makes an operator of three chars with the two puncts before it
abbrev pub third_punct : Punct → Punct → Forest → Option Punct
third_punct a b f =
    option_and_then (λ c. if is_operator (chars_of (a ∷ b ∷ c ∷ [])) then Some c else None)
    (joined_punct b.spacing f)

-- the operator of three chars if there is one, else the operator of two, else a single punct
abbrev pub longest_operator : List Punct → List Punct
longest_operator puncts =
    if is_operator (chars_of puncts) then puncts
    else if is_operator (chars_of (take 2 puncts)) then take 2 puncts
    else take 1 puncts

-- the puncts at the front that are taken together; none if the first tree isn't a punct
abbrev pub glue : Forest → List Punct
glue f = longest_operator (joined 3 f)

-- the puncts at the front that are taken together, if the first tree is a punct
abbrev pub glued : Forest → Option (List Punct)
glued f = option_map (λ _. glue f) (front_punct f)
