-- What was written so far, and one step more.
use Rattle.std.proofs.Common.{◌≡◌, ℕ, suc, [], ◌∷◌, refl, ap, sym, subst, ◌∙◌}
use Rattle.mbe_tt.specs.Buffers.GroupStack.{GroupStack, put}
use Rattle.mbe_tt.specs.Trees.Tree.{Forest, none, append}
use Rattle.mbe_tt.specs.Views.BufferEntries.{append-none}
use Rattle.mbe_session.specs.NestedExpansion.{ExpandsTo, Step, Steps, ends, goes_on, Writes}
use Rattle.mbe_session.specs.CallExpansion.{Setting, State}
use Rattle.mbe_session.proofs.FrontLemmas.{append_append}

-- these trees were written, and whatever the rest becomes, with them it is what all becomes
pub record Done (e : Setting) (levels depth : ℕ) (f : Forest) (s : State) (before : GroupStack) (rest : Forest)
    (t : State)
    (now : GroupStack)
    : Type 0 where
  pub out : Forest
  pub written : now ≡ put out before
  pub whole : (more : Forest) (u : State) → ExpandsTo e (suc levels) depth rest t more u
      → ExpandsTo e (suc levels) depth f s (append out more) u

put_none : (b : GroupStack) → b ≡ put none b
put_none [] = refl
put_none (g ∷ outer) = ap (λ f. (g.0, f) ∷ outer) (sym (append-none g.1))

pub put_put : (f g : Forest) (b : GroupStack) → put g (put f b) ≡ put (append f g) b
put_put f g [] = refl
put_put f g (k ∷ outer) = ap (λ h. (k.0, h) ∷ outer) (append_append k.1 f g)

pub none_done : (e : Setting) (levels depth : ℕ) (f rest : Forest) (s t : State) (b now : GroupStack) → rest ≡ f → t ≡ s
    → now ≡ b
    → Done e levels depth f s b rest t now
none_done e levels depth f rest s t b now r k n = record {
  out = none;
  written = n ∙ put_none b;
  whole = λ more u h. subst (λ x. ExpandsTo e (suc levels) depth x s more u) r
      (subst (λ x. ExpandsTo e (suc levels) depth rest x more u) k h);
}

step_on : (e : Setting) (levels depth : ℕ) (f out rest more : Forest) (s t u : State)
    → Step e levels depth (ExpandsTo e levels) f s out rest t
    → ExpandsTo e (suc levels) depth rest t more u → ExpandsTo e (suc levels) depth f s (append out more) u
unfolding ExpandsTo
step_on e levels depth f out rest more s t u step h = goes_on f out rest more s t u step h

pub step_done : (e : Setting) (levels depth : ℕ) (f g out rest : Forest) (s t u : State) (b mid now : GroupStack)
    → Done e levels depth f s b g t mid → Step e levels depth (ExpandsTo e levels) g t out rest u → now ≡ put out mid
    → Done e levels depth f s b rest u now
step_done e levels depth f g out rest s t u b mid now d step n = record {
  out = append d.out out;
  written = n ∙ (ap (put out) d.written ∙ put_put d.out out b);
  whole = λ more v h. subst (λ x. ExpandsTo e (suc levels) depth f s x v) (sym (append_append d.out out more))
      (d.whole (append out more) v (step_on e levels depth g out rest more t u v step h));
}

no_step : (e : Setting) (levels depth : ℕ) (f : Forest) (s : State) → f ≡ none
    → ExpandsTo e (suc levels) depth f s none s
unfolding ExpandsTo
no_step e levels depth f s h = subst (λ x. Steps e levels depth (ExpandsTo e levels) x s none s) (sym h) (ends s)

pub all_done : (e : Setting) (levels depth : ℕ) (f rest : Forest) (s t : State) (b now : GroupStack)
    → Done e levels depth f s b rest t now
    → rest ≡ none → Writes (ExpandsTo e (suc levels) depth f s) b now t
all_done e levels depth f rest s t b now d h = (
  d.out,
  subst (λ x. ExpandsTo e (suc levels) depth f s x t) (append-none d.out)
      (d.whole none t (no_step e levels depth rest t h)),
  d.written,
)
