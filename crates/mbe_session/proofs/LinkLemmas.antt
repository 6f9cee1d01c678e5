-- What crates have of others, one export after another.
use Rattle.std.proofs.Common.{◌≡◌, ◌<◌, ◌+◌, ◌-◌, ℕ, suc, Bool, true, false, List, [], ◌∷◌, ◌++◌, length, map, take}
use Rattle.std.proofs.Common.{get_or, refl, ap, sym, ◌∙◌, arith}
use Rattle.std.proofs.lemmas.List.{map-append, take_more}
use Rattle.mbe_cfg.specs.CrateExports.Exports.{Export}
use Rattle.mbe_session.specs.Linker.{all_exported, exported, linked, with_all, with_first, with_number}
use Rattle.mbe_session.specs.Scopes.{Scope}

-- ---- definitions

pub none_first : (crate from : List ℕ) (s : Scope) → s ≡ with_first crate from 0 s
unfolding with_first
none_first crate from s = refl

first_suc : (crate from : List ℕ) (n : ℕ) (s : Scope)
    → with_first crate from (suc n) s ≡ with_number crate from n (with_first crate from n s)
unfolding with_first
first_suc crate from n s = refl

pub first_on : (crate from : List ℕ) (n : ℕ) (s t u : Scope) → t ≡ with_first crate from n s
    → u ≡ with_number crate from n t → u ≡ with_first crate from (n + 1) s
first_on crate from n s t u before e =
    let next : n + 1 ≡ suc n = omega arith in
    e ∙ ap (with_number crate from n) before
    ∙ sym (ap (λ k. with_first crate from k s) next ∙ first_suc crate from n s)

pub all_on : (crate from : List ℕ) (n : ℕ) (s t : Scope) → t ≡ with_first crate from n s → n ≡ length s.definitions
    → t ≡ with_all crate from s
all_on crate from n s t before all = before ∙ ap (λ k. with_first crate from k s) all

-- ---- exports

all_binding_texts : {X : Type 0} (see : X → Export) (items : List X) (item : X) (i : ℕ) → i < length items
    → item ≡ get_or items i item
    → map see (take (i + 1) items) ≡ map see (take i items) ++ see item ∷ []
all_binding_texts see items item i h is =
    ap (map see) (take_more items i item h) ∙ map-append see (take i items) (get_or items i item ∷ [])
    ∙ ap (λ x. map see (take i items) ++ see x ∷ []) (sym is)

one_more_export : (is_all : Bool) (es : List Export) (e : Export) (s : Scope)
    → all_exported is_all (es ++ e ∷ []) s ≡ exported is_all e.by e.from e.exported_macros (all_exported is_all es s)
one_more_export is_all [] e s = refl
one_more_export is_all (x ∷ es) e s = one_more_export is_all es e (exported is_all x.by x.from x.exported_macros s)

pub exported_on : {X : Type 0} (see : X → Export) (is_all : Bool) (items : List X) (item : X) (i : ℕ) (s t u : Scope)
    → i < length items → item ≡ get_or items i item → t ≡ all_exported is_all (map see (take i items)) s
    → u ≡ exported is_all (see item).by (see item).from (see item).exported_macros t
    → u ≡ all_exported is_all (map see (take (i + 1) items)) s
exported_on see is_all items item i s t u h is before e =
    e ∙ ap (exported is_all (see item).by (see item).from (see item).exported_macros) before
    ∙ sym (ap (λ es. all_exported is_all es s) (all_binding_texts see items item i h is)
    ∙ one_more_export is_all (map see (take i items)) (see item) s)

-- ---- rounds

linked_suc : (n : ℕ) (es : List Export) (s : Scope)
    → linked (suc n) es s ≡ linked n es (all_exported true es (all_exported false es s))
unfolding linked
linked_suc n es s = refl

pub round_on : (n : ℕ) (es : List Export) (s t u whole : Scope) → 0 < n → linked n es s ≡ whole
    → t ≡ all_exported false es s → u ≡ all_exported true es t → linked (n - 1) es u ≡ whole
round_on n es s t u whole some before one all =
    let next : n ≡ suc (n - 1) = omega (arith, some) in
    ap (linked (n - 1) es) (all ∙ ap (all_exported true es) one)
    ∙ (sym (ap (λ k. linked k es s) next ∙ linked_suc (n - 1) es s) ∙ before)

pub no_round : (n : ℕ) (es : List Export) (s whole : Scope) → n ≡ 0 → linked n es s ≡ whole → s ≡ whole
unfolding linked
no_round n es s whole none before = sym (ap (λ k. linked k es s) none) ∙ before
