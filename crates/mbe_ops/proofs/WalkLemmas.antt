-- A walk has each op once, and an iterator gives a walk.
use Rattle.std.specs.Prelude.{◌≤◌, ℕ, ◌≡◌, List, [], ◌∷◌, ◌++◌, map, Option, Some, None, refl}
use Rattle.std.proofs.Common.{◌⊎◌, inl, inr, Bor, arith, ap, ◌∙◌}
use Rattle.mbe_tt.specs.declared.tt.Delimiter.{Delimiter}
use Rattle.mbe_semantics.specs.Syntax.Op.{Ops, no_ops, op}
use Rattle.std.specs.Iterator.{YieldsFirstBy, Drains}
use Rattle.std.proofs.lemmas.Iterator.{items_from_drains}
use Rattle.std.proofs.lemmas.Iterator.Consumers.{YieldsList-from_first}
use Rattle.mbe_ops.specs.Views.{op_of}
use Rattle.mbe_ops.specs.declared.ops.Op as code
use Rattle.mbe_ops.specs.declared.op_iter.OpDelimited.{OpDelimited}
use Rattle.mbe_ops.specs.declared.op_iter.OpDelimited.TheVariants as found
use Rattle.mbe_ops.specs.declared.op_iter.OpDelimitedIter.{OpDelimitedIter}
use Rattle.mbe_ops.proofs.EqualityLemmas.{ops_weight}
use Rattle.mbe_ops.specs.OpIter.{OpEvent, open_event, op_event, close_event, events_of, op_events, ops_in, event_of}
use Rattle.mbe_ops.specs.OpIter.{events_left, EachOpOnce}

-- of ops between an opening and a closing, or of ops alone
pub ops_before : (os : Ops) (d : Delimiter) → ops_in (events_of os ++ close_event d ∷ []) ≡ os
ops_before no_ops d = refl
ops_before (op o os) d = ap (op o) (ops_before os d)

pub ops_alone : (os : Ops) → ops_in (events_of os) ≡ os
ops_alone no_ops = refl
ops_alone (op o os) = ap (op o) (ops_alone os)

pub ops_of_walk : (around : Option Delimiter) (os : Ops) → ops_in (op_events around os) ≡ os
ops_of_walk None os = ops_alone os
ops_of_walk (Some d) os = ops_before os d

-- all that an iterator gives
given_is : {A : Type 0} (w : OpDelimitedIter A) (around : Option Delimiter) (os : Ops) (given : List (OpDelimited A))
    → events_left w ≡ op_events around os → Drains (YieldsFirstBy event_of events_left) w given
    → map event_of given ≡ op_events around os
given_is w around os given e d =
    items_from_drains given (d.1.0, d.1.1, λ _. (d.0, d.1.2))
    (YieldsList-from_first event_of events_left (op_events around os) e)

pub each_op_once : {A : Type 0} (around : Option Delimiter) (os : Ops)
    → EachOpOnce {A = A} (YieldsFirstBy event_of events_left) around os
each_op_once around os = record {
  all = λ w given e d. given_is w around os given e d;
  once = ops_of_walk around os;
}

-- what is first is an op, or it is an opening or a closing
pub op_first : {A : Type 0} (s : OpDelimited A) (o : Bor (code.Op A)) (left rest : List OpEvent) → left ≡ event_of s
    ∷ rest
    → s ≡ found.Op o
    → ops_in left ≡ op (op_of o.now) (ops_in rest)
op_first s o left rest e f = ap ops_in e ∙ ap (λ x. ops_in (event_of x ∷ rest)) f

pub no_op_first : {A : Type 0} (s : OpDelimited A) (left rest : List OpEvent) → left ≡ event_of s ∷ rest
    → ((d : Delimiter) × (s ≡ found.Open d)) ⊎ ((d : Delimiter) × (s ≡ found.Close d)) → ops_in left ≡ ops_in rest
no_op_first s left rest e (inl (d, f)) = ap ops_in e ∙ ap (λ x. ops_in (event_of x ∷ rest)) f
no_op_first s left rest e (inr (d, f)) = ap ops_in e ∙ ap (λ x. ops_in (event_of x ∷ rest)) f

-- before the first turn
pub ops_at_first : {A : Type 0} (w v : OpDelimitedIter A) (around : Option Delimiter) (os : Ops) → w ≡ v
    → events_left v ≡ op_events around os
    → ops_in (events_left w) ≡ os
ops_at_first w v around os same e = ap (λ x. ops_in (events_left x)) same ∙ (ap ops_in e ∙ ops_of_walk around os)
