-- Which leaves are a separator, and which they are with one leaf more; how a suffix is read so far.
use Rattle.std.specs.Prelude.{◌≡◌, ◌<◌, ◌==◌, Bool, true, false, if◌then◌else◌, List, [], ◌∷◌, ◌++◌, length, map}
use Rattle.std.specs.Prelude.{Option, Some, None, option_map, option_and_then, nat_le, refl}
use Rattle.std.proofs.Common.{ap, sym, ◌∙◌, arith}
use Rattle.std.proofs.lemmas.Option.{none-some, same_Some}
use Rattle.std.proofs.lemmas.Bool.{ne_eqb, lt-leb}
use Rattle.std.proofs.lemmas.List.{append_assoc}
use Rattle.mbe_tt.specs.Trees.Leaf.{Leaf, Ident, Literal, literal, punct, ident}
use Rattle.mbe_tt.specs.Trees.Tree.{Forest, none, leaf, group, Tree, Leaf_tree, Group_tree, first, rest_of}
use Rattle.mbe_tt.specs.declared.tt.Punct.{Punct}
use Rattle.mbe_semantics.specs.Syntax.Op.{Separator, ident_separator, literal_separator, punct_separator}
use Rattle.mbe_semantics.specs.Syntax.Op.{lifetime_separator}
use Rattle.mbe_semantics.specs.Syntax.Template.{Suffix, suffix_of, leaf_in_suffix, separator_of, all_puncts}
use Rattle.mbe_semantics.specs.Syntax.Template.{up_to_three}
use Rattle.mbe_parser.specs.ParserResults.{ExtendsSeparator, NeverExtendsSeparator}

-- ---- the leaves of a separator

abbrev pub leaves_of : Option Separator → List Leaf
leaves_of None = []
leaves_of (Some (ident_separator i)) = ident i ∷ []
leaves_of (Some (literal_separator l)) = literal l ∷ []
leaves_of (Some (punct_separator ps)) = map punct ps
leaves_of (Some (lifetime_separator p i)) = punct p ∷ ident i ∷ []

as_leaves : (before : List Leaf) (s t : Option Separator) → before ≡ leaves_of s → Some s ≡ Some t
    → before ≡ leaves_of t
as_leaves before s t l e = l ∙ ap leaves_of (same_Some s t e)

punct_leaves : (ls : List Leaf) (ps : List Punct) → all_puncts ls ≡ Some ps → ls ≡ map punct ps
punct_leaves [] ps e = ap (map punct) (same_Some [] ps e)
punct_leaves (literal l ∷ ls) ps e = absurd (none-some ps e)
punct_leaves (ident i ∷ ls) ps e = absurd (none-some ps e)
punct_leaves (punct p ∷ ls) ps e = go (all_puncts ls) (punct_leaves ls) e
  where
    go : (o : Option (List Punct)) → ((qs : List Punct) → o ≡ Some qs → ls ≡ map punct qs)
        → option_map (λ qs. p ∷ qs) o ≡ Some ps → punct p ∷ ls ≡ map punct ps
    go None ih q = absurd (none-some ps q)
    go (Some qs) ih q = ap (λ x. punct p ∷ x) (ih qs refl) ∙ ap (map punct) (same_Some (p ∷ qs) ps q)

puncts_of : (ls : List Leaf) (s : Option Separator)
    → option_map Some (option_and_then up_to_three (all_puncts ls)) ≡ Some s → ls ≡ leaves_of s
puncts_of ls s e = go (all_puncts ls) refl e
  where
    few : (ps : List Punct) (b : Bool) → ls ≡ map punct ps
        → option_map Some (if b then Some (punct_separator ps) else None) ≡ Some s → ls ≡ leaves_of s
    few ps true l q = as_leaves ls (Some (punct_separator ps)) s l q
    few ps false l q = absurd (none-some s q)

    go : (o : Option (List Punct)) → all_puncts ls ≡ o → option_map Some (option_and_then up_to_three o) ≡ Some s
        → ls ≡ leaves_of s
    go None a q = absurd (none-some s q)
    go (Some ps) a q = few ps (nat_le (length ps) 3) (punct_leaves ls ps a) q

-- a separator's leaves are known
pub separator_leaves : (before : List Leaf) (s : Option Separator) → separator_of before ≡ Some s → before ≡ leaves_of s
separator_leaves [] s e = as_leaves [] None s refl e
separator_leaves (ident i ∷ []) s e = as_leaves (ident i ∷ []) (Some (ident_separator i)) s refl e
separator_leaves (literal l ∷ []) s e = as_leaves (literal l ∷ []) (Some (literal_separator l)) s refl e
separator_leaves (punct p ∷ ident i ∷ []) s e = go (p.char == 39) e
  where
    go : (b : Bool) → (if b then Some (Some (lifetime_separator p i)) else None) ≡ Some s
        → punct p ∷ ident i ∷ [] ≡ leaves_of s
    go true q = as_leaves (punct p ∷ ident i ∷ []) (Some (lifetime_separator p i)) s refl q
    go false q = absurd (none-some s q)
separator_leaves (ident i ∷ l ∷ ls) s e = absurd (none-some s e)
separator_leaves (literal k ∷ l ∷ ls) s e = absurd (none-some s e)
separator_leaves (punct p ∷ []) s e = puncts_of (punct p ∷ []) s e
separator_leaves (punct p ∷ literal l ∷ ls) s e = absurd (none-some s e)
separator_leaves (punct p ∷ punct q ∷ ls) s e = puncts_of (punct p ∷ punct q ∷ ls) s e
separator_leaves (punct p ∷ ident i ∷ l ∷ ls) s e = absurd (none-some s e)

-- ---- one leaf more

is_extended : (old : Option Separator) (l : Leaf) (new : Separator)
    → separator_of (leaves_of old ++ l ∷ []) ≡ Some (Some new) → ExtendsSeparator old l new
is_extended old l new e = λ before b. ap (λ ls. separator_of (ls ++ l ∷ [])) (separator_leaves before old b) ∙ e

never_extended : (old : Option Separator) (l : Leaf)
    → ((following : List Leaf) → separator_of (leaves_of old ++ l ∷ following) ≡ None) → NeverExtendsSeparator old l
never_extended old l h = λ before following b. ap (λ ls. separator_of (ls ++ l ∷ following))
    (separator_leaves before old b)
    ∙ h following

no_puncts : (l : Leaf) → NeverExtendsSeparator (Some (punct_separator [])) l
no_puncts l before following b =
    absurd (none-some (punct_separator []) (same_Some None _ (ap separator_of (sym (separator_leaves before _ b)) ∙ b)))

-- puncts with another leaf after them
stray : (l : Leaf) → ((following : List Leaf) → all_puncts (l ∷ following) ≡ None)
    → (ps : List Punct) (following : List Leaf)
    → all_puncts (map punct ps ++ l ∷ following) ≡ None
stray l h [] following = h following
stray l h (p ∷ ps) following = ap (option_map (λ qs. p ∷ qs)) (stray l h ps following)

no_separator : (ls : List Leaf) → all_puncts ls ≡ None
    → option_map Some (option_and_then up_to_three (all_puncts ls)) ≡ None
no_separator ls e = ap (λ o. option_map Some (option_and_then up_to_three o)) e

-- a literal is a separator alone
pub literal_alone : (s : Separator) (k : Literal) → NeverExtendsSeparator (Some s) (literal k)
literal_alone (ident_separator i) k = never_extended _ _ (λ following. refl)
literal_alone (literal_separator l) k = never_extended _ _ (λ following. refl)
literal_alone (lifetime_separator p i) k = never_extended _ _ (λ following. refl)
literal_alone (punct_separator []) k = no_puncts (literal k)
literal_alone (punct_separator (p ∷ [])) k = never_extended _ _ (λ following. refl)
literal_alone (punct_separator (p ∷ q ∷ ps)) k =
    never_extended _ _ (λ following. no_separator (map punct (p ∷ q ∷ ps) ++ literal k ∷ following)
    (stray (literal k) (λ more. refl) (p ∷ q ∷ ps) following))

-- an identifier comes after no puncts but a quote
pub no_lifetime : (ps : List Punct) (i : Ident) → ((q : Punct) → ps ≡ q ∷ [] → q.char ≡ 39 → ⊥)
    → NeverExtendsSeparator (Some (punct_separator ps)) (ident i)
no_lifetime [] i n = no_puncts (ident i)
no_lifetime (q ∷ []) i n = never_extended _ _ (λ following. go following (ne_eqb q.char 39 (n q refl)))
  where
    go : (following : List Leaf) → (q.char == 39) ≡ false → separator_of (punct q ∷ ident i ∷ following) ≡ None
    go [] e = ap (λ (b : Bool). if b then Some (Some (lifetime_separator q i)) else None) e
    go (l ∷ ls) e = refl
no_lifetime (q ∷ r ∷ ps) i n =
    never_extended _ _ (λ following. no_separator (map punct (q ∷ r ∷ ps) ++ ident i ∷ following)
    (stray (ident i) (λ more. refl) (q ∷ r ∷ ps) following))

-- three puncts at most separate
pub puncts_more : (ps : List Punct) (p : Punct) → length ps < 3
    → ExtendsSeparator (Some (punct_separator ps)) (punct p) (punct_separator (ps ++ p ∷ []))
puncts_more [] p h = is_extended _ _ _ refl
puncts_more (q ∷ []) p h = is_extended _ _ _ refl
puncts_more (q ∷ r ∷ []) p h = is_extended _ _ _ refl
puncts_more (q ∷ r ∷ s ∷ ps) p h = absurd (omega (arith, h))

pub first_punct : (p : Punct) → ExtendsSeparator None (punct p) (punct_separator (p ∷ []))
first_punct p = is_extended _ _ _ refl

pub four_puncts : (ps : List Punct) (p : Punct) → length ps ≡ 3
    → NeverExtendsSeparator (Some (punct_separator ps)) (punct p)
four_puncts [] p h = absurd (omega (arith, h))
four_puncts (q ∷ []) p h = absurd (omega (arith, h))
four_puncts (q ∷ r ∷ []) p h = absurd (omega (arith, h))
four_puncts (q ∷ r ∷ s ∷ t ∷ ps) p h = absurd (omega (arith, h))
four_puncts (q ∷ r ∷ s ∷ []) p h = never_extended _ _ (λ following. go (all_puncts following))
  where
    many : (ps : List Punct) → nat_le (length (q ∷ r ∷ s ∷ p ∷ ps)) 3 ≡ false
    many ps = lt-leb (length (q ∷ r ∷ s ∷ p ∷ ps)) 3 (omega arith)

    go : (o : Option (List Punct)) →
        option_map Some (option_and_then up_to_three
        (option_map (λ ps. q ∷ ps) (option_map (λ ps. r ∷ ps)
        (option_map (λ ps. s ∷ ps) (option_map (λ ps. p ∷ ps) o))))) ≡ None
    go None = refl
    go (Some ps) = ap (λ (b : Bool). option_map Some (if b then Some (punct_separator (q ∷ r ∷ s ∷ p ∷ ps)) else None))
        (many ps)

-- ---- the suffix after the leaves that were read

-- the leaves before those of the suffix
abbrev pub in_front : List Leaf → Suffix → Suffix
in_front ls s = record s { leaves = ls ++ s.leaves }

-- the leaves that were read, which are the separator so far, and what is left of the suffix
pub record SoFar (f : Forest) (s : Option Separator) (left : Forest) : Type 0 where
  pub before : List Leaf
  pub separator : separator_of before ≡ Some s
  pub suffix : suffix_of f ≡ option_map (in_front before) (suffix_of left)

in_front_again : (ls : List Leaf) (l : Leaf) (o : Option Suffix)
    → option_map (in_front ls) (option_map (leaf_in_suffix l) o) ≡ option_map (in_front (ls ++ l ∷ [])) o
in_front_again ls l None = refl
in_front_again ls l (Some s) =
    ap (λ leaves. Some (record s { leaves = leaves })) (sym (append_assoc ls (l ∷ []) s.leaves))

abbrev leaf_at : Tree → Option Leaf
leaf_at (Leaf_tree l) = Some l
leaf_at (Group_tree d inside) = None

-- one leaf more, which doesn't end the suffix
pub so_far_with : (f : Forest) (s : Option Separator) (left back : Forest) (l : Leaf) (new : Separator) → SoFar f s left
    → first left ≡ Some (Leaf_tree l) → back ≡ rest_of left
    → ((rest : Forest) → suffix_of (leaf l rest) ≡ option_map (leaf_in_suffix l) (suffix_of rest))
    → ExtendsSeparator s l new → SoFar f (Some new) back
so_far_with f s none back l new h e b goes_on extended = absurd (none-some _ e)
so_far_with f s (group d inside rest) back l new h e b goes_on extended =
    absurd (none-some l (ap (λ o. option_and_then leaf_at o) e))
so_far_with f s (leaf k rest) back l new h e b goes_on extended = record {
  before = h.before ++ l ∷ [];
  separator = extended h.before h.separator;
  suffix = h.suffix
      ∙ ap (λ k. option_map (in_front h.before) (suffix_of (leaf k rest)))
      (same_Some k l (ap (λ o. option_and_then leaf_at o) e))
      ∙ ap (option_map (in_front h.before)) (goes_on rest)
      ∙ in_front_again h.before l (suffix_of rest)
      ∙ ap (λ left. option_map (in_front (h.before ++ l ∷ [])) (suffix_of left)) (sym b);
}
