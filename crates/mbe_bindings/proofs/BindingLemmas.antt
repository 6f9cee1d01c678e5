-- The map of a match, as an environment.
use Rattle.std.proofs.Common.{◌≡◌, ◌<◌, ◌≤◌, ℕ, zero, suc, Bool, true, false, List, [], ◌∷◌, ◌++◌, length, map, Vec}
use Rattle.std.proofs.Common.{Option, Some, None, if◌then◌else◌, option_map, refl, sym, ap, ◌∙◌, rules, arith}
use Rattle.std.specs.Str.{bytes_eq}
use Rattle.std.specs.Option.{option_copied}
use Rattle.std.proofs.Common.{Bor}
use Rattle.std.specs.Map as maps
use Rattle.std.specs.Map.{lookup}
use Rattle.std.specs.Cmp.Lexicographic.{nat_list_eq_equiv}
use Rattle.std.proofs.lemmas.Slice.Eq.{bytes_eq-Decides}
use Rattle.indexmap.specs.IndexMap.{insert_entry}
use Rattle.mbe_semantics.specs.declared.fragment_kinds.MetaVarKind.{MetaVarKind}
use Rattle.mbe_log.specs.declared.fragment.Fragment.{Fragment}
use Rattle.mbe_bindings.specs.declared.bindings.Binding.{Binding, Fragment as binds, Nested, Empty, Missing, the_lemmas}
use Rattle.mbe_semantics.specs.Syntax.Op.{Name}
use Rattle.mbe_semantics.specs.Bindings.Environment.{Environment, Value, fragment, list, empty, missing, no_values}
use Rattle.mbe_semantics.specs.Bindings.Environment.{value, add_value, value_of, set_value}
use Rattle.mbe_semantics.specs.Bindings.Account.{filled, grown_in}
use Rattle.mbe_log.specs.FragmentViews.{fragment_seen}
use Rattle.mbe_bindings.specs.ListGrowth.{grown_value}
use Rattle.mbe_bindings.specs.BindingViews.{value_seen, all_values}

-- ---- one level of a binding

pub seen-fragment : {A : Type 0} (x : Fragment A) → value_seen (binds x) ≡ fragment (fragment_seen x)
seen-fragment x = search (rules, the_lemmas)

pub seen-nested : {A : Type 0} (vs : Vec (Binding A) A)
    → value_seen (Nested vs) ≡ list (all_values (map value_seen vs.items))
seen-nested vs = search (rules, the_lemmas)

pub seen-empty : (A : Type 0) → value_seen {A = A} Empty ≡ empty
seen-empty A = search (rules, the_lemmas)

pub seen-missing : (A : Type 0) (kind : MetaVarKind) → value_seen {A = A} (Missing kind) ≡ missing kind
seen-missing A kind = search (rules, the_lemmas)

pub ruleset seen = (seen-fragment, seen-nested, seen-empty, seen-missing)

-- ---- names

abbrev pub values_of : {A : Type 0} → List (Name × Binding A) → Environment
values_of es = map (λ e. (e.0, value_seen e.1)) es

symmetric : (a b : Name) → bytes_eq a b ≡ bytes_eq b a
symmetric a b = nat_list_eq_equiv.symm a b

same_name : (a b : Name) → bytes_eq a b ≡ true → a ≡ b
same_name a b = (bytes_eq-Decides a b).0

module _ {A : Type 0} where
  found_if : (b c : Bool) (x : Binding A) (r : Option (Binding A)) (w : Option Value) → b ≡ c
      → option_map value_seen r ≡ w
      → option_map value_seen (if b then Some x else r) ≡ (if c then Some (value_seen x) else w)
  found_if true c x r w e h = rw (← e) refl
  found_if false c x r w e h = rw (← e) h

  pub found_by_name : (es : List (Name × Binding A)) (name : Name)
      → option_map value_seen (lookup (bytes_eq name) es) ≡ value_of (values_of es) name
  found_by_name [] name = refl
  found_by_name (e ∷ es) name = found_if (bytes_eq name e.0) (bytes_eq e.0 name) e.1 _ _ (symmetric name e.0)
      (found_by_name es name)

  pub inserted : (es : List (Name × Binding A)) (name : Name) (x : Binding A) →
      values_of (insert_entry bytes_eq es name x) ≡ set_value (values_of es) name (value_seen x)
  inserted [] name x = refl
  inserted (e ∷ es) name x = go (bytes_eq name e.0) refl (inserted es name x)
    where
      go : (b : Bool) → bytes_eq name e.0 ≡ b
          → values_of (insert_entry bytes_eq es name x) ≡ set_value (values_of es) name (value_seen x) →
          values_of (if b then (e.0, x) ∷ es else e ∷ insert_entry bytes_eq es name x)
          ≡ (if bytes_eq e.0 name then (name, value_seen x) ∷ values_of es else (e.0, value_seen e.1)
          ∷ set_value (values_of es) name (value_seen x))
      go true h k = rw (symmetric e.0 name ∙ h)
          (ap (λ n. (n, value_seen x) ∷ values_of es) (sym (same_name name e.0 h)))
      go false h k = rw (symmetric e.0 name ∙ h) (ap (λ t. (e.0, value_seen e.1) ∷ t) k)

  pub written : (es : List (Name × Binding A)) (name : Name) (u x : Binding A) → lookup (bytes_eq name) es ≡ Some u →
      values_of (maps.set_value (bytes_eq name) es x) ≡ set_value (values_of es) name (value_seen x)
  written [] name u x h = cc
  written (e ∷ es) name u x h = go (bytes_eq name e.0) refl h (λ k. written es name u x k)
    where
      go : (b : Bool) → bytes_eq name e.0 ≡ b → (if b then Some e.1 else lookup (bytes_eq name) es) ≡ Some u →
          (lookup (bytes_eq name) es ≡ Some u
          → values_of (maps.set_value (bytes_eq name) es x) ≡ set_value (values_of es) name (value_seen x)) →
          values_of (if b then (e.0, x) ∷ es else e ∷ maps.set_value (bytes_eq name) es x)
          ≡ (if bytes_eq e.0 name then (name, value_seen x) ∷ values_of es else (e.0, value_seen e.1)
          ∷ set_value (values_of es) name (value_seen x))
      go true h l k = rw (symmetric e.0 name ∙ h)
          (ap (λ n. (n, value_seen x) ∷ values_of es) (sym (same_name name e.0 h)))
      go false h l k = rw (symmetric e.0 name ∙ h) (ap (λ t. (e.0, value_seen e.1) ∷ t) (k l))

-- ---- rounds

-- a name that is bound stays as it is by its own value
same_value : (env : Environment) (name : Name) (v : Value) → value_of env name ≡ Some v → set_value env name v ≡ env
same_value [] name v h = cc
same_value (e ∷ env) name v h = go (bytes_eq e.0 name) refl h (λ k. same_value env name v k)
  where
    go : (b : Bool) → bytes_eq e.0 name ≡ b → (if b then Some e.1 else value_of env name) ≡ Some v
        → (value_of env name ≡ Some v → set_value env name v ≡ env) →
        (if b then (name, v) ∷ env else e ∷ set_value env name v) ≡ e ∷ env
    go true s h k = let n : name ≡ e.0 = sym (same_name e.0 name s) in let w : v ≡ e.1 =
        cc in ap (λ x. (x, v) ∷ env) n ∙ ap (λ x. (e.0, x) ∷ env) w
    go false s h k = ap (λ t. e ∷ t) (k h)

pub grown-some : (number : ℕ) (env : Environment) (name : Name) (v u : Value) → value_of env name ≡ Some u →
    set_value env name (grown_value number v u) ≡ grown_in number env name v (Some u)
grown-some number env name v (list vs) h = refl
grown-some number env name v (fragment x) h = same_value env name (fragment x) h
grown-some number env name v empty h = same_value env name empty h
grown-some number env name v (missing kind) h = same_value env name (missing kind) h

module _ {A : Type 0} where
  all_seen : (xs : List (Binding A)) (x : Binding A)
      → all_values (map value_seen (xs ++ x ∷ [])) ≡ add_value (all_values (map value_seen xs)) (value_seen x)
  all_seen [] x = refl
  all_seen (y ∷ xs) x = ap (value (value_seen y)) (all_seen xs x)

  -- an empty list at the end, where the list is too short
  pub filling : (n : ℕ) (xs start : List (Binding A)) (x : Binding A) → length xs < n → value_seen x ≡ list no_values →
      filled n (all_values (map value_seen xs)) ≡ filled n (all_values (map value_seen start)) →
      filled n (all_values (map value_seen (xs ++ x ∷ []))) ≡ filled n (all_values (map value_seen start))
  filling n xs start x h e i = ap (filled n) (all_seen xs x ∙ ap (add_value (all_values (map value_seen xs))) e)
      ∙ go n xs h ∙ i
    where
      go : (n : ℕ) (xs : List (Binding A)) → length xs < n
          → filled n (add_value (all_values (map value_seen xs)) (list no_values))
          ≡ filled n (all_values (map value_seen xs))
      go zero xs h = absurd (omega (arith, h))
      go (suc n) [] h = refl
      go (suc n) (y ∷ xs) h = ap (value (value_seen y)) (go n xs (omega (arith, h)))

  pub filled_up : (n : ℕ) (xs start : List (Binding A)) (x : Binding A) → n ≤ length xs →
      filled n (all_values (map value_seen xs)) ≡ filled n (all_values (map value_seen start)) →
      all_values (map value_seen (xs ++ x ∷ []))
      ≡ add_value (filled n (all_values (map value_seen start))) (value_seen x)
  filled_up n xs start x h i = all_seen xs x ∙ ap (λ vs. add_value vs (value_seen x)) (sym (go n xs h) ∙ i)
    where
      go : (n : ℕ) (xs : List (Binding A)) → n ≤ length xs
          → filled n (all_values (map value_seen xs)) ≡ all_values (map value_seen xs)
      go zero xs h = refl
      go (suc n) [] h = absurd (omega (arith, h))
      go (suc n) (y ∷ xs) h = ap (value (value_seen y)) (go n xs (omega (arith, h)))

-- ---- what a look-up lends
module _ {A : Type 0} where
  pub copied_seen : (r : Option (Bor (Binding A)))
      → option_map value_seen (option_copied r) ≡ option_map (λ x. value_seen x.now) r
  copied_seen None = refl
  copied_seen (Some x) = refl

-- ---- one value more
module _ {A : Type 0} (number : ℕ) (es : List (Name × Binding A)) (name : Name) (v : Value) where
  pub grown-found : (fs : List (Name × Binding A)) (u w : Binding A) → Some u ≡ lookup (bytes_eq name) es
      → fs ≡ maps.set_value (bytes_eq name) es w →
      value_seen w ≡ grown_value number v (value_seen u)
      → values_of fs ≡ grown_in number (values_of es) name v (value_of (values_of es) name)
  grown-found fs u w h f e =
      let found : value_of (values_of es) name ≡ Some (value_seen u) =
      sym (found_by_name es name) ∙ ap (option_map value_seen) (sym h) in
      ap values_of f ∙ written es name u w (sym h) ∙ ap (set_value (values_of es) name) e
      ∙ grown-some number (values_of es) name v (value_seen u) found
      ∙ ap (grown_in number (values_of es) name v) (sym found)

  pub grown-new : (env : Environment) (vs : Vec (Binding A) A) (w : Binding A) → None ≡ lookup (bytes_eq name) es
      → vs.items ≡ [] →
      value_seen w ≡ grown_value number v (value_seen (Nested vs)) → env ≡ set_value (values_of es) name (value_seen w)
      →
      env ≡ grown_in number (values_of es) name v (value_of (values_of es) name)
  grown-new env vs w h i e k =
      let found : value_of (values_of es) name ≡ None =
      sym (found_by_name es name) ∙ ap (option_map value_seen) (sym h) in
      k ∙ ap (set_value (values_of es) name)
      (e ∙ ap (grown_value number v) (seen-nested vs ∙ ap (λ xs. list (all_values (map value_seen xs))) i))
      ∙ ap (grown_in number (values_of es) name v) (sym found)
