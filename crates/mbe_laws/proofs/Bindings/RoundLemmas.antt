-- In a kept round each name of the body leads to a value.
use Rattle.std.specs.Prelude.{◌≡◌, ◌<◌, ◌⊎◌, ℕ, zero, suc, min, List, [], ◌∷◌, ◌++◌, Option, Some, None, option_map}
use Rattle.std.specs.Prelude.{option_and_then, filter_map, refl}
use Rattle.std.proofs.Common.{arith, ap, sym, ◌∙◌, subst}
use Rattle.std.proofs.lemmas.Option.{none-some, same_Some}
use Rattle.std.specs.List.{cons_option}
use Rattle.mbe_semantics.specs.declared.fragment_kinds.RepeatKind.{RepeatKind}
use Rattle.mbe_semantics.specs.declared.fragment_kinds.RepeatKind.TheVariants.{ZeroOrMore, OneOrMore, ZeroOrOne}
use Rattle.mbe_semantics.specs.Syntax.Op.{Name, Use, used_name, uses_of}
use Rattle.mbe_semantics.specs.Bindings.Environment.{Value, fragment, list, empty, missing, Values, no_values, value}
use Rattle.mbe_semantics.specs.Bindings.Environment.{Environment, value_of}
use Rattle.mbe_semantics.specs.declared.current_round.CurrentRound.{CurrentRound}
use Rattle.mbe_semantics.specs.Transcription.Rounds.{Path, member, value_count, follow, reach, reached, Extent, finite}
use Rattle.mbe_semantics.specs.Transcription.Rounds.{endless, extent_of, extent_under, lesser, least_extent}
use Rattle.mbe_semantics.specs.Transcription.Rounds.{extent_over, kept}
use Rattle.mbe_semantics.specs.Laws.Laws.{IsUsed, RoundsHaveValues}

-- after a longer path the value stays, or it is one that each index reached
Longer : Path → CurrentRound → Value → Value → Type 0
Longer path l v w =
    (follow (path ++ l ∷ []) v ≡ Some w) ⊎ ((reach path v ≡ Some w) × (follow (path ++ l ∷ []) v ≡ follow (l ∷ []) w))

under_member : (path : Path) (l : CurrentRound) (w : Value)
    → ((v w : Value) → follow path v ≡ Some w → Longer path l v w)
    → (r : Option Value) →
    option_and_then (follow path) r ≡ Some w →
    (option_and_then (follow (path ++ l ∷ [])) r ≡ Some w)
    ⊎ ((option_and_then (reach path) r ≡ Some w) × (option_and_then (follow (path ++ l ∷ [])) r ≡ follow (l ∷ []) w))
unfolding Longer
under_member path l w ih None e = absurd (none-some w e)
under_member path l w ih (Some u) e = ih u w e

follow_longer : (path : Path) (l : CurrentRound) (v w : Value) → follow path v ≡ Some w → Longer path l v w
unfolding Longer
follow_longer [] l v w e = ◌⊎◌.inr (e, ap (follow (l ∷ [])) (same_Some v w e))
follow_longer (k ∷ path) l (fragment x) w e = ◌⊎◌.inl e
follow_longer (k ∷ path) l (missing kind) w e = ◌⊎◌.inl e
follow_longer (k ∷ path) l empty w e = absurd (none-some w e)
follow_longer (k ∷ path) l (list vs) w e = under_member path l w (follow_longer path l) (member vs k.index) e

abbrev Below : ℕ → Extent → Type 0
Below i endless = Unit {0}
Below i (finite n) = i < n

below_left : (i : ℕ) (a b : Extent) → Below i (lesser a b) → Below i a
below_left i endless b h = tt
below_left i (finite n) endless h = h
below_left i (finite n) (finite m) h = omega (arith, h)

below_right : (i : ℕ) (a b : Extent) → Below i (lesser a b) → Below i b
below_right i endless b h = h
below_right i (finite n) endless h = tt
below_right i (finite n) (finite m) h = omega (arith, h)

abbrev number_of : Extent → ℕ
number_of (finite n) = n
number_of endless = 0

below_kept : (i n : ℕ) (repeat : RepeatKind) (e : Extent) → kept repeat e ≡ finite n → i < n → Below i e
below_kept i n ZeroOrOne endless k h = tt
below_kept i n ZeroOrOne (finite m) k h = let q : min 1 m ≡ n = ap number_of k in omega (arith, q, h)
below_kept i n ZeroOrMore e k h = subst (Below i) (sym k) h
below_kept i n OneOrMore e k h = subst (Below i) (sym k) h

head_below : (i : ℕ) (u : Use) (w : Value) (r : Option Value) (es : List Extent) → r ≡ Some w →
    Below i (least_extent (cons_option (option_map (extent_of u) r) es)) → Below i (extent_of u w)
head_below i u w None es e h = absurd (none-some w e)
head_below i u w (Some v) es e h = subst (λ x. Below i (extent_of u x)) (same_Some v w e)
    (below_left i (extent_of u v) (least_extent es) h)

tail_below : (i : ℕ) (r : Option Extent) (es : List Extent) → Below i (least_extent (cons_option r es))
    → Below i (least_extent es)
tail_below i None es h = h
tail_below i (Some e) es h = below_right i e (least_extent es) h

below_uses : (env : Environment) (path : Path) (i : ℕ) (uses : List Use) (name : Name) (w : Value) → IsUsed name uses
    → reached env path name ≡ Some w →
    Below i (least_extent (filter_map (extent_under env path) uses)) → (u : Use) × Below i (extent_of u w)
below_uses env path i [] name w m e h = absurd m
below_uses env path i (u ∷ uses) name w (◌⊎◌.inl p) e h = (
  u,
  head_below i u w (reached env path (used_name u)) (filter_map (extent_under env path) uses)
      (ap (reached env path) (sym p) ∙ e) h,
)
below_uses env path i (u ∷ uses) name w (◌⊎◌.inr m) e h =
    below_uses env path i uses name w m e
    (tail_below i (extent_under env path u) (filter_map (extent_under env path) uses) h)

below_over : (i : ℕ) (es : List Extent) → Below i (extent_over es) → Below i (least_extent es)
below_over i [] h = tt
below_over i (e ∷ es) h = h

member_below : (vs : Values) (i : ℕ) → i < value_count vs → (v : Value) × (member vs i ≡ Some v)
member_below no_values i h = absurd (omega (arith, h))
member_below (value v vs) zero h = (v, refl)
member_below (value v vs) (suc i) h = member_below vs i (omega (arith, h))

step_below : (l : CurrentRound) (u : Use) (w : Value) → Below l.index (extent_of u w)
    → (v : Value) × (follow (l ∷ []) w ≡ Some v)
step_below l u (fragment x) h = (fragment x, refl)
step_below l u empty h = absurd (omega (arith, h))
step_below l u (missing kind) h = (missing kind, refl)
step_below l u (list vs) h = let p = member_below vs l.index h in (p.0, ap (option_and_then (follow [])) p.1)

has_value : (path : Path) (l : CurrentRound) (w : Value) (r : Option Value) → option_and_then (follow path) r ≡ Some w →
    (option_and_then (reach path) r ≡ Some w → (u : Use) × Below l.index (extent_of u w))
    → (v : Value) × (option_and_then (follow (path ++ l ∷ [])) r ≡ Some v)
unfolding Longer
has_value path l w None e below = absurd (none-some w e)
has_value path l w (Some u) e below = go (follow_longer path l u w e)
  where
    go : Longer path l u w → (v : Value) × (follow (path ++ l ∷ []) u ≡ Some v)
    go (◌⊎◌.inl p) = (w, p)
    go (◌⊎◌.inr p) = let b = below p.0 in let s = step_below l b.0 w b.1 in (s.0, p.1 ∙ s.1)

pub rounds_have_values : RoundsHaveValues
rounds_have_values env path body repeat n i name w k h m e =
    has_value path (record { index = i; rounds = n }) w (value_of env name) e
    (λ r. below_uses env path i (uses_of body) name w m r
    (below_over i (filter_map (extent_under env path) (uses_of body))
    (below_kept i n repeat (extent_over (filter_map (extent_under env path) (uses_of body))) k h)))
