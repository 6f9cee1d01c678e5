-- What an argument and a lawful grammar give is a lawful input.
use Rattle.std.specs.Prelude.{◌≡◌, ◌≤◌, ◌<◌, ◌+◌, ◌-◌, ◌&&◌, ℕ, zero, suc, Bool, true, false, if◌then◌else◌, nat_le}
use Rattle.std.specs.Prelude.{nat_lt, not, Option, Some, None, refl}
use Rattle.std.proofs.Common.{arith, ap, sym, ◌∙◌, leb-false, ltb-true}
use Rattle.std.proofs.lemmas.Option.{none-some, same_Some}
use Rattle.mbe_semantics.specs.declared.fragment_kinds.MetaVarKind.{MetaVarKind}
use Rattle.mbe_tt.specs.declared.grammar.Dialect.{Dialect}
use Rattle.mbe_tt.specs.declared.tt.DelimiterKind.{DelimiterKind}
use Rattle.mbe_tt.specs.Trees.Tree.{Forest, none, leaf, group, flat_len, Cut, rest_at}
use Rattle.mbe_tt.specs.Laws.TreeLaws.{IsCut}
use Rattle.mbe_tt.specs.Grammars.Grammar.{Grammar, IsLawful}
use Rattle.mbe_tt.proofs.Offsets.CutLemmas.{no_true, both_left, both_right, flat_len-append}
use Rattle.mbe_semantics.specs.Syntax.Op.{Token, Separator}
use Rattle.mbe_semantics.specs.Syntax.Nullable.{is_vis}
use Rattle.mbe_semantics.specs.Fragments.Kinds.{style_of}
use Rattle.mbe_semantics.specs.Readings.Item.{Fragment}
use Rattle.mbe_semantics.specs.Fragments.FragmentFront.{fragment_front}
use Rattle.mbe_semantics.specs.Readings.Fit.{token_front_in, separator_front_in}
use Rattle.mbe_semantics.specs.Readings.Input.{length_of, fragment_of, is_opening, is_opening_in, never_opens}
use Rattle.mbe_semantics.specs.Readings.Input.{is_none, input_of}
use Rattle.mbe_semantics.specs.Laws.Lawful.{Lawful}
use Rattle.mbe_semantics.specs.Laws.Laws.{LawfulInputs}
use Rattle.mbe_semantics.proofs.FrontLemmas.{token_cut_in, separator_cut_in, takes_cut}
use Rattle.mbe_semantics.proofs.MoveLemmas.{token_moves_in, separator_moves_in, takes_empty}

-- what is left at a place ends in the argument
pub rest_within : (f : Forest) (p n : ℕ) → 0 < n → n ≤ flat_len (rest_at f p) → p + n ≤ flat_len f
rest_within none p n l h = absurd (omega (arith, l, h))
rest_within (leaf l' rest) zero n l h = omega (arith, h)
rest_within (leaf l' rest) (suc p) n l h = let e = rest_within rest p n l h in omega (arith, e)
rest_within (group d inside rest) zero n l h = omega (arith, h)
rest_within (group d inside rest) (suc p) n l h =
    go (nat_le p (flat_len inside)) refl (λ m. rest_within inside p n l m)
    (λ m. rest_within rest (p - flat_len inside - 1) n l m) h
  where
    go : (b : Bool) → nat_le p (flat_len inside) ≡ b →
        (n ≤ flat_len (rest_at inside p) → p + n ≤ flat_len inside) →
        (n ≤ flat_len (rest_at rest (p - flat_len inside - 1)) → (p - flat_len inside - 1) + n ≤ flat_len rest) →
        n ≤ flat_len (if b then rest_at inside p else rest_at rest (p - flat_len inside - 1))
        → suc p + n ≤ 2 + flat_len inside + flat_len rest
    go true k i r m = let e = i m in omega (arith, e)
    go false k i r m = let e = r m in let b = leb-false p (flat_len inside) k in omega (arith, e, b)

front_within : (f : Forest) (c : Cut) → IsCut f c → flat_len c.front ≤ flat_len f
front_within f c e = let h = flat_len-append c.front c.back in let k = ap flat_len e in omega (arith, h, k)

pub length_from : (o : Option Cut) (w : ℕ) → length_of o ≡ Some w → (c : Cut) × (o ≡ Some c) × (flat_len c.front ≡ w)
length_from None w e = absurd (none-some w e)
length_from (Some c) w e = (c, refl, same_Some (flat_len c.front) w e)

pub fragment_from : (d : Dialect) (kind : Option MetaVarKind) (o : Option Cut) (x : Fragment)
    → fragment_of d kind o ≡ Some x → (c : Cut) × (o ≡ Some c) × (c.front ≡ x.trees)
fragment_from d kind None x e = absurd (none-some x e)
fragment_from d kind (Some c) x e = (
  c,
  refl,
  ap (λ y. y.trees) (same_Some (record { trees = c.front; style = style_of d kind }) x e),
)

-- a fragment is emitted as its kind is
pub fragment_style : (d : Dialect) (kind : Option MetaVarKind) (o : Option Cut) (x : Fragment)
    → fragment_of d kind o ≡ Some x → x.style ≡ style_of d kind
fragment_style d kind None x e = absurd (none-some x e)
fragment_style d kind (Some c) x e =
    sym (ap (λ y. y.style) (same_Some (record { trees = c.front; style = style_of d kind }) x e))

opening_some : (kind : DelimiterKind) (f : Forest) → is_opening kind f ≡ true → 1 ≤ flat_len f
opening_some kind (group d inside rest) e = omega arith
opening_some kind none e = no_true e
opening_some kind (leaf l rest) e = no_true e

module _ (g : Grammar) (argument : Forest) where
  token_some : (t : Token) (p n : ℕ) → length_of (token_front_in g.dialect t (rest_at argument p)) ≡ Some n → 0 < n
  token_some t p n e =
      let r = length_from (token_front_in g.dialect t (rest_at argument p)) n e in
      let m = token_moves_in g.dialect t (rest_at argument p) r.0 r.1 in
      let s = r.2 in
      omega (arith, m, s)

  pub token_end : (t : Token) (p n : ℕ) → length_of (token_front_in g.dialect t (rest_at argument p)) ≡ Some n
      → p + n ≤ flat_len argument
  token_end t p n e =
      let r = length_from (token_front_in g.dialect t (rest_at argument p)) n e in
      let m = front_within (rest_at argument p) r.0 (token_cut_in g.dialect t (rest_at argument p) r.0 r.1) in
      let s = r.2 in
      rest_within argument p n (token_some t p n e) (omega (arith, m, s))

  separator_some : (s : Separator) (p n : ℕ) → length_of (separator_front_in g.dialect s (rest_at argument p)) ≡ Some n
      → 0 < n
  separator_some s p n e =
      let r = length_from (separator_front_in g.dialect s (rest_at argument p)) n e in
      let m = separator_moves_in g.dialect s (rest_at argument p) r.0 r.1 in
      let k = r.2 in
      omega (arith, m, k)

  pub separator_end : (s : Separator) (p n : ℕ)
      → length_of (separator_front_in g.dialect s (rest_at argument p)) ≡ Some n
      → p + n ≤ flat_len argument
  separator_end s p n e =
      let r = length_from (separator_front_in g.dialect s (rest_at argument p)) n e in
      let m = front_within (rest_at argument p) r.0 (separator_cut_in g.dialect s (rest_at argument p) r.0 r.1) in
      let k = r.2 in
      rest_within argument p n (separator_some s p n e) (omega (arith, m, k))

  fragment_empty : IsLawful g → (kind : Option MetaVarKind) (p : ℕ) (x : Fragment)
      → fragment_of g.dialect kind (fragment_front g kind (rest_at argument p)) ≡ Some x → flat_len x.trees ≡ 0
      → is_vis kind
      ≡ true
  fragment_empty w kind p x e z =
      let r = fragment_from g.dialect kind (fragment_front g kind (rest_at argument p)) x e in
      takes_empty g w kind (rest_at argument p) r.0 r.1 (ap flat_len r.2 ∙ z)

  pub fragment_end : (kind : Option MetaVarKind) (p : ℕ) (x : Fragment)
      → fragment_of g.dialect kind (fragment_front g kind (rest_at argument p)) ≡ Some x → 0 < flat_len x.trees
      → p + flat_len x.trees ≤ flat_len argument
  fragment_end kind p x e l =
      let r = fragment_from g.dialect kind (fragment_front g kind (rest_at argument p)) x e in
      let m = front_within (rest_at argument p) r.0 (takes_cut g kind (rest_at argument p) r.0 r.1) in
      let k = ap flat_len r.2 in
      rest_within argument p (flat_len x.trees) l (omega (arith, m, k))

  pub opens_end : (kind : DelimiterKind) (p : ℕ) → is_opening_in g.dialect kind (rest_at argument p) ≡ true
      → p + 1 ≤ flat_len argument
  opens_end kind p e = rest_within argument p 1 (omega arith)
      (opening_some kind (rest_at argument p) (both_right (not (never_opens g.dialect kind)) _ e))

  pub closes_end : (p : ℕ) → (nat_lt p (flat_len argument) && is_none (rest_at argument p)) ≡ true
      → p + 1 ≤ flat_len argument
  closes_end p e = let l = ltb-true p (flat_len argument) (both_left (nat_lt p (flat_len argument)) _ e) in
      omega (arith, l)

  pub lawful_input : IsLawful g → Lawful (input_of g argument) (flat_len argument)
  lawful_input w = record {
    token_some = token_some;
    token_end = token_end;
    fragment_empty = fragment_empty w;
    fragment_end = fragment_end;
    separator_some = separator_some;
    separator_end = separator_end;
    opens_end = opens_end;
    closes_end = closes_end;
  }

pub lawful_inputs : LawfulInputs
lawful_inputs g argument w = lawful_input g argument w
