-- The items that a token or a variable reads.
use Rattle.std.proofs.Common.{ℕ, ◌≡◌, ◌⊎◌, inl, inr, Option, Some, None, refl, subst}
use Rattle.std.proofs.lemmas.Option.{none-some, same_Some}
use Rattle.mbe_semantics.specs.declared.fragment_kinds.MetaVarKind.{MetaVarKind}
use Rattle.mbe_tt.specs.declared.span.Span.{Span}
use Rattle.mbe_semantics.specs.Syntax.Op.{Name, Token, token, variable}
use Rattle.mbe_semantics.specs.Readings.Item.{Fragment, Item, matched, bound}
use Rattle.mbe_semantics.specs.Readings.Input.{Input}
use Rattle.mbe_semantics.specs.Readings.Reading.{Reads}
use Rattle.mbe_semantics.specs.Readings.Steps.{matched_item, bound_item}

pub matched-from : (o : Option ℕ) (x : Item) → matched_item o ≡ Some x → (n : ℕ) × (o ≡ Some n) × (matched n ≡ x)
matched-from None x e = absurd (none-some x e)
matched-from (Some n) x e = (n, refl, same_Some (matched n) x e)

pub bound-from : (name : Name) (o : Option Fragment) (x : Item) → bound_item name o ≡ Some x
    → (v : Fragment) × (o ≡ Some v) × (bound name v ≡ x)
bound-from name None x e = absurd (none-some x e)
bound-from name (Some v) x e = (v, refl, same_Some (bound name v) x e)

pub matched-reads : (i : Input) (t : Token) (p : ℕ) (x : Item) → matched_item (i.token_at t p) ≡ Some x
    → Reads x i (token t) p
matched-reads i t p x e =
    let r : (n : ℕ) × (i.token_at t p ≡ Some n) × (matched n ≡ x) = matched-from (i.token_at t p) x e in
    subst (λ v. Reads v i (token t) p) r.2 r.1

pub bound-reads : (i : Input) (name : Name) (kind : Option MetaVarKind) (span : Span) (p : ℕ) (x : Item)
    → bound_item name (i.fragment_at kind p) ≡ Some x → Reads x i (variable name kind span) p
bound-reads i name kind span p x e =
    let r : (v : Fragment) × (i.fragment_at kind p ≡ Some v) × (bound name v ≡ x) =
    bound-from name (i.fragment_at kind p) x e in
    subst (λ v. Reads v i (variable name kind span) p) r.2 (refl, r.1)

-- the item is one that a token or a variable reads
abbrev pub IsTaken : Item → Type 0
IsTaken x = ((n : ℕ) × (matched n ≡ x)) ⊎ ((name : Name) × (v : Fragment) × (bound name v ≡ x))

pub matched-taken : (o : Option ℕ) (x : Item) → matched_item o ≡ Some x → IsTaken x
matched-taken o x e = let r : (n : ℕ) × (o ≡ Some n) × (matched n ≡ x) = matched-from o x e in inl (r.0, r.2)

pub bound-taken : (name : Name) (o : Option Fragment) (x : Item) → bound_item name o ≡ Some x → IsTaken x
bound-taken name o x e = let r : (v : Fragment) × (o ≡ Some v) × (bound name v ≡ x) =
    bound-from name o x e in inr (name, r.0, r.2)
