-- Which puncts at the front are taken together, by how many are joined there.
use Rattle.std.specs.Prelude.{◌≡◌, ℕ, zero, suc, Bool, true, false, if◌then◌else◌, List, [], ◌∷◌, ◌++◌, length, Option}
use Rattle.std.specs.Prelude.{Some, None, option_map, option_and_then, refl}
use Rattle.std.proofs.Common.{ap, sym, ◌∙◌}
use Rattle.std.proofs.lemmas.Option.{none-some, same_Some}
use Rattle.mbe_tt.specs.declared.tt.Spacing.{Spacing}
use Rattle.mbe_tt.specs.declared.tt.Spacing.TheVariants.{Alone, Joint}
use Rattle.mbe_tt.specs.declared.tt.Punct.{Punct}
use Rattle.mbe_tt.specs.Trees.Leaf.{literal, punct, ident}
use Rattle.mbe_tt.specs.Trees.Tree.{Forest, none, leaf, group, front_punct, rest_of, skip}
use Rattle.mbe_tt.specs.Trees.Glue.{joined, if_joint, joined_punct, third_punct, longest_operator, is_operator}
use Rattle.mbe_tt.specs.Trees.Glue.{chars_of, glue, glued}

no_some : {A : Type 0} {B : Type 0} (x : A) → None ≡ Some x → B
no_some x e = absurd (none-some x e)

some_no : {A : Type 0} {B : Type 0} (x : A) → Some x ≡ None → B
some_no x e = absurd (none-some x (sym e))

-- ---- the joined puncts

nothing_joined : (s : Spacing) → if_joint s [] ≡ []
nothing_joined Alone = refl
nothing_joined Joint = refl

-- after a punct that is joined to none
joined-none : (s : Spacing) (n : ℕ) (f : Forest) → joined_punct s f ≡ None → if_joint s (joined n f) ≡ []
joined-none s zero f e = nothing_joined s
joined-none Alone (suc n) f e = refl
joined-none Joint (suc n) none e = refl
joined-none Joint (suc n) (leaf (literal l) rest) e = refl
joined-none Joint (suc n) (leaf (punct p) rest) e = some_no p e
joined-none Joint (suc n) (leaf (ident i) rest) e = refl
joined-none Joint (suc n) (group d inside rest) e = refl

-- after a punct that is joined to another
joined-some : (s : Spacing) (n : ℕ) (f : Forest) (b : Punct) → joined_punct s f ≡ Some b
    → if_joint s (joined (suc n) f) ≡ b ∷ if_joint b.spacing (joined n (rest_of f))
joined-some Alone n f b e = no_some b e
joined-some Joint n none b e = no_some b e
joined-some Joint n (leaf (literal l) rest) b e = no_some b e
joined-some Joint n (leaf (punct p) rest) b e =
    ap (λ (x : Punct). x ∷ if_joint x.spacing (joined n rest)) (same_Some p b e)
joined-some Joint n (leaf (ident i) rest) b e = no_some b e
joined-some Joint n (group d inside rest) b e = no_some b e

-- ---- the longest operator

abbrev two : Punct → Punct → List Punct
two a b = if is_operator (chars_of (a ∷ b ∷ [])) then a ∷ b ∷ [] else a ∷ []

same_test : {A : Type 0} (t : Bool) (x y : A) → (if t then x else if t then x else y) ≡ (if t then x else y)
same_test true x y = refl
same_test false x y = refl

if_true : {A : Type 0} (t : Bool) (x y : A) → t ≡ true → (if t then x else y) ≡ x
if_true t x y e = ap (λ (s : Bool). if s then x else y) e

-- a third punct, or none, by a test
picked : (t : Bool) (c d : Punct) (xs ys : List Punct) → (if t then Some c else None) ≡ Some d
    → (if t then xs else ys) ≡ xs
picked true c d xs ys e = refl
picked false c d xs ys e = no_some d e

not_picked : (t : Bool) (c : Punct) (xs ys : List Punct) → (if t then Some c else None) ≡ None
    → (if t then xs else ys) ≡ ys
not_picked true c xs ys e = some_no c e
not_picked false c xs ys e = refl

same_picked : (t : Bool) (c d : Punct) → (if t then Some c else None) ≡ Some d → c ≡ d
same_picked true c d e = same_Some c d e
same_picked false c d e = no_some d e

abbrev pick : Punct → Punct → Punct → Option Punct
pick a b c = if is_operator (chars_of (a ∷ b ∷ c ∷ [])) then Some c else None

-- what comes after two joined puncts, where a third makes no operator with them
past_two : (a b : Punct) (f : Forest) (o : Option Punct) → joined_punct b.spacing f ≡ o
    → option_and_then (pick a b) o ≡ None
    → longest_operator (a ∷ b ∷ if_joint b.spacing (joined 1 f)) ≡ two a b
past_two a b f None j e =
    ap (λ (more : List Punct). longest_operator (a ∷ b ∷ more)) (joined-none b.spacing 1 f j)
    ∙ same_test (is_operator (chars_of (a ∷ b ∷ []))) (a ∷ b ∷ []) (a ∷ [])
past_two a b f (Some c) j e =
    ap (λ (more : List Punct). longest_operator (a ∷ b ∷ more))
    (joined-some b.spacing 0 f c j ∙ ap (λ (more : List Punct). c ∷ more) (nothing_joined c.spacing))
    ∙ not_picked (is_operator (chars_of (a ∷ b ∷ c ∷ []))) c (a ∷ b ∷ c ∷ []) (two a b) e

-- and where it does
after_three : (a b d : Punct) (f : Forest) (o : Option Punct) → joined_punct b.spacing f ≡ o
    → option_and_then (pick a b) o ≡ Some d
    → longest_operator (a ∷ b ∷ if_joint b.spacing (joined 1 f)) ≡ a ∷ b ∷ d ∷ []
after_three a b d f None j e = no_some d e
after_three a b d f (Some c) j e =
    ap (λ (more : List Punct). longest_operator (a ∷ b ∷ more))
    (joined-some b.spacing 0 f c j ∙ ap (λ (more : List Punct). c ∷ more) (nothing_joined c.spacing))
    ∙ (picked (is_operator (chars_of (a ∷ b ∷ c ∷ []))) c d (a ∷ b ∷ c ∷ []) (two a b) e
    ∙ ap (λ (x : Punct). a ∷ b ∷ x ∷ []) (same_picked (is_operator (chars_of (a ∷ b ∷ c ∷ []))) c d e))

-- ---- the puncts at the front

-- two puncts and what comes after them
front-two : (f : Forest) (a b : Punct) → front_punct f ≡ Some a → joined_punct a.spacing (rest_of f) ≡ Some b
    → glue f ≡ longest_operator (a ∷ b ∷ if_joint b.spacing (joined 1 (rest_of (rest_of f))))
front-two none a b e j = no_some a e
front-two (leaf (literal l) rest) a b e j = no_some a e
front-two (leaf (punct p) rest) a b e j =
    ap (λ (x : Punct). longest_operator (x ∷ if_joint x.spacing (joined 2 rest))) (same_Some p a e)
    ∙ ap (λ (more : List Punct). longest_operator (a ∷ more)) (joined-some a.spacing 1 rest b j)
front-two (leaf (ident i) rest) a b e j = no_some a e
front-two (group d inside rest) a b e j = no_some a e

-- what the calls read: the trees after the first punct, and those after the second
pub record Front (f ahead beyond : Forest) (a b : Punct) : Type 0 where
  pub first : Some a ≡ front_punct f
  pub second : Some b ≡ joined_punct a.spacing ahead
  pub past_first : ahead ≡ rest_of f
  pub after_second : beyond ≡ rest_of ahead

front : (f ahead beyond : Forest) (a b : Punct) → Front f ahead beyond a b
    → glue f ≡ longest_operator (a ∷ b ∷ if_joint b.spacing (joined 1 beyond))
front f ahead beyond a b h =
    front-two f a b (sym h.first) (sym (h.second ∙ ap (joined_punct a.spacing) h.past_first))
    ∙ ap (λ (r : Forest). longest_operator (a ∷ b ∷ if_joint b.spacing (joined 1 r)))
    (sym (h.after_second ∙ ap rest_of h.past_first))

-- puncts that are taken together, and the trees after them
pub record Glues (f left : Forest) (ps : List Punct) : Type 0 where
  pub value : Some ps ≡ glued f
  pub rest : left ≡ skip (length (glue f)) f

glues : (f left : Forest) (a : Punct) (ps qs : List Punct) → Some a ≡ front_punct f → glue f ≡ ps → qs ≡ ps
    → left ≡ skip (length ps) f → Glues f left qs
glues f left a ps qs e h k r = record {
  value = ap Some (k ∙ sym h) ∙ ap (option_map (λ (_ : Punct). glue f)) e;
  rest = r ∙ sym (ap (λ (xs : List Punct). skip (length xs) f) h);
}

pub three_glued : (f ahead beyond left : Forest) (a b c : Punct) (qs : List Punct) → Front f ahead beyond a b
    → Some c ≡ third_punct a b beyond → left ≡ rest_of beyond → qs ≡ a ∷ b ∷ c ∷ []
    → Glues f left qs
three_glued f ahead beyond left a b c qs h t r k =
    glues f left a (a ∷ b ∷ c ∷ []) qs h.first (front f ahead beyond a b h ∙ after_three a b c beyond _ refl (sym t)) k
    (r ∙ ap rest_of (h.after_second ∙ ap rest_of h.past_first))

two_or_one : (f ahead beyond : Forest) (a b : Punct) (t : Bool) → Front f ahead beyond a b
    → None ≡ third_punct a b beyond
    → t ≡ is_operator (a.char ∷ b.char ∷ []) → glue f ≡ (if t then a ∷ b ∷ [] else a ∷ [])
two_or_one f ahead beyond a b t h n e =
    front f ahead beyond a b h ∙ (past_two a b beyond _ refl (sym n)
    ∙ ap (λ (x : Bool). if x then a ∷ b ∷ [] else a ∷ []) (sym e))

pub two_glued : (f ahead beyond left : Forest) (a b : Punct) (qs : List Punct) (t : Bool) → Front f ahead beyond a b
    → None ≡ third_punct a b beyond
    → t ≡ is_operator (a.char ∷ b.char ∷ []) → t ≡ true → left ≡ beyond → qs ≡ a ∷ b ∷ []
    → Glues f left qs
two_glued f ahead beyond left a b qs t h n e y r k =
    glues f left a (a ∷ b ∷ []) qs h.first
    (two_or_one f ahead beyond a b t h n e ∙ ap (λ (x : Bool). if x then a ∷ b ∷ [] else a ∷ []) y) k
    (r ∙ (h.after_second ∙ ap rest_of h.past_first))

pub one_glued : (f ahead beyond left : Forest) (a b : Punct) (qs : List Punct) (t : Bool) → Front f ahead beyond a b
    → None ≡ third_punct a b beyond
    → t ≡ is_operator (a.char ∷ b.char ∷ []) → t ≡ false → left ≡ ahead → qs ≡ a ∷ []
    → Glues f left qs
one_glued f ahead beyond left a b qs t h n e y r k =
    glues f left a (a ∷ []) qs h.first (two_or_one f ahead beyond a b t h n e
    ∙ ap (λ (x : Bool). if x then a ∷ b ∷ [] else a ∷ []) y) k
    (r ∙ h.past_first)

-- two puncts are pushed after the first
pub pushed_three : (one two three : List Punct) (a b c : Punct) → one ≡ a ∷ [] → two ≡ one ++ b ∷ []
    → three ≡ two ++ c ∷ [] → three ≡ a ∷ b ∷ c ∷ []
pushed_three one two three a b c f g h =
    h ∙ ap (λ (ps : List Punct). ps ++ c ∷ []) (g ∙ ap (λ (ps : List Punct). ps ++ b ∷ []) f)
