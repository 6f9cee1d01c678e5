-- A word that doesn't concern a local is no doubt of it, and after it the local is as it was.
use Rattle.std.proofs.Common.{◌≡◌, ℕ, false, refl}
use Rattle.std.specs.Prelude.{◌==◌}
use Rattle.std.proofs.Math.Bool.{and-false}
use Rattle.mbe_rewriter.specs.declared.hygiene.local_names.BindingState.{BindingState}
use Rattle.mbe_rewriter.specs.declared.hygiene.local_names.BindingState.TheVariants.{Unbound, Later, Bound}
use Rattle.mbe_rewriter.specs.declared.hygiene.scan_state.TokenRole.{TokenRole}
use Rattle.mbe_rewriter.specs.declared.hygiene.scan_state.TokenRole.TheVariants as roles
use Rattle.mbe_rewriter.specs.Hygiene.LocalNames.{Word, context, is_same, is_same_namespace, is_inner, is_undecided_use}
use Rattle.mbe_rewriter.specs.Hygiene.LocalNames.{is_edge, is_relevant, later, bound, after_word}
use Rattle.mbe_rewriter.proofs.Renaming.SameLemmas.{neither_left, neither_right}

other_context : (w v : Word) → is_relevant w v ≡ false → (context w == context v) ≡ false
other_context w v h = neither_left (context w == context v) (is_edge v.role) h

not_same : (w v : Word) → is_relevant w v ≡ false → is_same w v ≡ false
not_same w v h = rw (other_context w v h) (and-false (is_same_namespace w.role v.role))

pub no_doubt : (w : Word) (p : BindingState) (v : Word) → is_relevant w v ≡ false → is_undecided_use w p v ≡ false
no_doubt w p v h =
    rw (other_context w v h) (rw (and-false (is_same_namespace w.role v.role)) (and-false (is_inner v.role w.role)))

stays_later : (n d : ℕ) (r : TokenRole) → is_edge r ≡ false → later n d false r ≡ Later n d
stays_later n d roles.Other h = refl
stays_later n d roles.Used h = refl
stays_later n d roles.Bound h = refl
stays_later n d roles.Late h = refl
stays_later n d roles.Shorthand h = refl
stays_later n d roles.Unsure h = refl
stays_later n d roles.Label h = refl
stays_later n d roles.Jump h = refl
stays_later n d roles.Text h = refl
stays_later n d roles.Inner h = refl
stays_later n d roles.InnerLabel h = refl
stays_later n d roles.Begin h = cc
stays_later n d roles.End h = cc
stays_later n d roles.Enter h = cc
stays_later n d roles.Body h = cc
stays_later n d roles.Leave h = cc
stays_later n d roles.Next h = cc

stays_bound : (d : ℕ) (r : TokenRole) → is_edge r ≡ false → bound d r ≡ Bound d
stays_bound d roles.Other h = refl
stays_bound d roles.Used h = refl
stays_bound d roles.Bound h = refl
stays_bound d roles.Late h = refl
stays_bound d roles.Shorthand h = refl
stays_bound d roles.Unsure h = refl
stays_bound d roles.Label h = refl
stays_bound d roles.Jump h = refl
stays_bound d roles.Text h = refl
stays_bound d roles.Inner h = refl
stays_bound d roles.InnerLabel h = refl
stays_bound d roles.Begin h = refl
stays_bound d roles.End h = refl
stays_bound d roles.Enter h = cc
stays_bound d roles.Body h = cc
stays_bound d roles.Leave h = cc
stays_bound d roles.Next h = cc

pub as_before : (w : Word) (p : BindingState) (v : Word) → is_relevant w v ≡ false → after_word w p v ≡ p
as_before w Unbound v h = rw (not_same w v h) refl
as_before w (Later n d) v h =
    rw (not_same w v h) (stays_later n d v.role (neither_right (context w == context v) (is_edge v.role) h))
as_before w (Bound d) v h = stays_bound d v.role (neither_right (context w == context v) (is_edge v.role) h)
