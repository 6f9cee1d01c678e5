-- What a call becomes, by what was found out on the way.
use Rattle.std.proofs.Common.{◌≡◌, ◌<◌, ℕ, true, false, Option, Some, None, ap, sym, subst, ◌∙◌}
use Rattle.std.specs.Prelude.{◌≢◌, option_map, is_some, Result, Ok, Err, IfOk}
use Rattle.mbe_tt.specs.Trees.Top.{Top}
use Rattle.mbe_rewriter.specs.MacroItems.{MacroCall}
use Rattle.mbe_session.specs.CallExpansion.{Setting, State, called_macro, with_fuel_spent, with_step_contexts, with_written, Makes}
use Rattle.mbe_session.specs.CallExpansion.{StaysUnexpanded, too_many, refused, Refuses, by_definition, by_rules}
use Rattle.mbe_session.specs.CallExpansion.{Allows, Applies, Tries}

pub found_as : {X Y : Type 0} (v : X → Y) (o : Option X) (x : X) (found : Option Y) → option_map v o ≡ found
    → o ≡ Some x → found ≡ Some (v x)
found_as v o x found e h = sym e ∙ ap (option_map v) h

pub not_there : {X Y : Type 0} (v : X → Y) (o : Option X) (found : Option Y) → option_map v o ≡ found
    → is_some o ≡ false → found ≡ None
not_there v None found e h = sym e
not_there v (Some x) found e h = absurd (cc)

pub there : {X Y : Type 0} (v : X → Y) (o : Option X) (found : Option Y) → option_map v o ≡ found → is_some o ≡ true
    → found ≢ None
there v None found e h = λ n. absurd (cc)
there v (Some x) found e h = λ n. absurd (cc)

pub stays_too_deep : (e : Setting) (c : MacroCall) (depth levels : ℕ) (s : State) → levels ≡ 0
    → StaysUnexpanded e c depth s levels s
stays_too_deep e c depth levels s h = subst (λ l. StaysUnexpanded e c depth s l s) (sym h) too_many

refuses_before : (e : Setting) (c : MacroCall) (s t : State) → t ≡ with_fuel_spent s → Refuses e c t → Refuses e c s
refuses_before e c s t h (by_definition m n k) = by_definition m (ap (λ x. called_macro x c) (sym h) ∙ n) k
refuses_before e c s t h (by_rules m tree err n k) =
    by_rules m tree err (ap (λ x. called_macro x c) (sym h) ∙ n) (subst (λ x. Makes e x c m tree (Some err)) h k)

tried : (e : Setting) (c : MacroCall) (depth levels : ℕ) (s t u : State) (o : Option Top) → 0 < levels
    → Allows depth s t true
    → Applies e c t u o → Tries e c levels depth s u o
tried e c depth levels s t u None l a h =
    subst (λ x. StaysUnexpanded e c depth s levels x) (sym (h.1 ∙ a.2))
    (refused levels a.0 a.1 (refuses_before e c s t a.2 h.0))
tried e c depth levels s t u (Some tree) l a h = (
  record {
    rules = h.0;
    found = ap (λ x. called_macro x c) (sym a.2) ∙ h.1;
    faultless = h.2;
    makes = subst (λ x. Makes e x c h.0 tree None) a.2 h.3;
    level_left = l;
    depth_left = a.0;
    fuel_left = a.1;
  },
  h.4 ∙ ap (λ x. with_written tree (with_step_contexts c x)) a.2,
)

pub tries_as : {R : Type 0} (e k : Setting) (c : MacroCall) (depth levels : ℕ) (s t u : State)
    (r : Result (Option Top) R)
    → 0 < levels → k ≡ e
    → Allows depth s t true → IfOk r (Applies k c t u) → IfOk r (Tries e c levels depth s u)
tries_as e k c depth levels s t u (Ok o) l h a m =
    tried e c depth levels s t u o l a (subst (λ x. Applies x c t u o) h m)
tries_as e k c depth levels s t u (Err x) l h a m = tt
