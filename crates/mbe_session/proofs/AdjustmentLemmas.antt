-- Trees before a `;`, and after one.
use Rattle.std.proofs.Common.{◌≡◌, ◌≤◌, ◌<◌, Bool, true, false, Option, Some, refl, ap, sym, subst, ◌∙◌}
use Rattle.std.proofs.Common.{arith}
use Rattle.std.specs.Prelude.{IfSome}
use Rattle.std.specs.Bool.{then_some}
use Rattle.std.proofs.lemmas.Bool.{le-leb, lt-leb}
use Rattle.mbe_tt.specs.Trees.Tree.{Forest, none, leaf, group, append, rest_of, front_char, flat_len}
use Rattle.mbe_tt.specs.declared.tt.Delimiter.{Delimiter}
use Rattle.mbe_tt.specs.declared.tt.DelimiterKind.{DelimiterKind}
use Rattle.mbe_rewriter.specs.MacroItems.{MacroCall}
use Rattle.mbe_session.specs.Adjustment.{IsSemicolon, IsTrimmed, but_semicolon, IsRest, what_follows, after_semicolon}
use Rattle.mbe_session.specs.Adjustment.{IsWrap, from_last}
use Rattle.mbe_session.specs.CfgFront.{EndsIn, EndsInCall}
use Rattle.mbe_session.proofs.FrontLemmas.{append_append, flat_append, ahead_less}
use Rattle.mbe_session.proofs.CfgFrontLemmas.{ends_ahead}

pub left_by_semicolon : (f g : Forest) → front_char f ≡ Some 59 → g ≡ rest_of f → IsRest f g
left_by_semicolon f g h e = subst (IsRest f) (sym e) (after_semicolon h)

pub part_before : (f iter part : Forest) (i : (done : Forest) × (f ≡ append done iter)) → part ≡ i.0 → IsSemicolon iter
    → IsTrimmed f part
part_before f iter part i e h = subst (IsTrimmed f) (sym e) (but_semicolon i.0 iter i.1 h)

-- one tree more is done
pub one_on : (f g rest : Forest) → (done : Forest) × (f ≡ append done g) → rest ≡ rest_of g
    → (done : Forest) × (f ≡ append done rest)
one_on f none rest i e = (i.0, i.1 ∙ ap (append i.0) (sym e))
one_on f (leaf l more) rest i e = (
  append i.0 (leaf l none),
  i.1
      ∙ (ap (λ k. append i.0 (leaf l k)) (sym e) ∙ sym (append_append i.0 (leaf l none) rest)),
)
one_on f (group d inside more) rest i e = (
  append i.0 (group d inside none),
  i.1
      ∙ (ap (λ k. append i.0 (group d inside k)) (sym e) ∙ sym (append_append i.0 (group d inside none) rest)),
)

-- more is left after what precedes a group than after the group
more_left : (kept inside rest : Forest) (d : Delimiter) → flat_len rest < flat_len (append kept (group d inside rest))
more_left kept inside rest d = let e = flat_append kept (group d inside rest) in omega (arith, e)

last_group : (kept inside rest : Forest) (d : Delimiter)
    → from_last (flat_len rest) (append kept (group d inside rest)) ≡ group d inside rest
last_group none inside rest d = rw (le-leb (flat_len rest) (flat_len rest) (omega arith)) refl
last_group (leaf l more) inside rest d =
    rw (lt-leb (flat_len (append more (group d inside rest))) (flat_len rest) (more_left more inside rest d))
    (last_group more inside rest d)
last_group (group k held more) inside rest d =
    rw (lt-leb (flat_len (append more (group d inside rest))) (flat_len rest) (more_left more inside rest d))
    (last_group more inside rest d)

-- what precedes the group of a call
pub before_group : (f : Forest) (c : MacroCall) (a : EndsInCall f c) → f ≡ append a.0 (from_last (flat_len c.rest) f)
before_group f c a =
    a.1 ∙ ap (append a.0)
    (sym (ap (from_last (flat_len c.rest)) a.1 ∙ last_group a.0 c.argument c.rest c.delimiter))

pub up_to_group : (f g : Forest) (c : MacroCall) → EndsInCall f c → g ≡ from_last (flat_len c.rest) f → EndsIn f g
up_to_group f g c a e = (a.0, before_group f c a ∙ ap (append a.0) (sym e))

-- trees that are put in something under a condition
then_wrap : (b : Bool) (k : DelimiterKind) → IsWrap k → IfSome (then_some b k) IsWrap
then_wrap true k w = w
then_wrap false k w = tt

pub wrap_if : (b : Bool) (k : DelimiterKind) (o : Option DelimiterKind) → IsWrap k → o ≡ then_some b k → IfSome o IsWrap
wrap_if b k o w h = subst (λ x. IfSome x IsWrap) (sym h) (then_wrap b k w)

-- ---- what is left

rest_no_longer : (f : Forest) → flat_len (rest_of f) ≤ flat_len f
rest_no_longer none = omega arith
rest_no_longer (leaf l rest) = omega arith
rest_no_longer (group d inside rest) = omega arith

left_no_longer : (f g : Forest) → IsRest f g → flat_len g ≤ flat_len f
left_no_longer f g what_follows = omega arith
left_no_longer f g (after_semicolon h) = rest_no_longer f

pub call_less : (f rest : Forest) (c : MacroCall) → EndsInCall f c → IsRest c.rest rest → flat_len rest < flat_len f
call_less f rest c h l = let a = ahead_less f c.rest (ends_ahead f c h) in let b =
    left_no_longer c.rest rest l in omega (arith, a, b)
