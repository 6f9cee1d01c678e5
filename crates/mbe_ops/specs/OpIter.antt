-- The items of an iterator over ops: the ops of a pattern, a template or a repetition's body, or
-- the ops of a group between its opening and its closing.
use Rattle.std.specs.Prelude.{◌≡◌, List, [], ◌∷◌, ◌++◌, map, Option, Some, None}
use Rattle.std.specs.Iterator.{Drains}
use Rattle.mbe_tt.specs.declared.tt.Delimiter.{Delimiter}
use Rattle.mbe_semantics.specs.Syntax.Op.{Op, Ops, no_ops, op}
use Rattle.mbe_ops.specs.Views.{op_of, ops_of}
use Rattle.mbe_ops.specs.declared.op_iter.OpDelimited.{OpDelimited}
use Rattle.mbe_ops.specs.declared.op_iter.OpDelimited.TheVariants as code
use Rattle.mbe_ops.specs.declared.op_iter.OpDelimitedIter.{OpDelimitedIter}

-- an item of the iterator
pub data OpEvent : Type 0 where
  open_event : Delimiter → OpEvent
  op_event : Op → OpEvent
  close_event : Delimiter → OpEvent

-- the ops, each once and in order
abbrev pub events_of : Ops → List OpEvent
events_of no_ops = []
events_of (op o os) = op_event o ∷ events_of os

-- the ops alone, or between the delimiters of a group
abbrev pub op_events : Option Delimiter → Ops → List OpEvent
op_events None os = events_of os
op_events (Some d) os = open_event d ∷ (events_of os ++ close_event d ∷ [])

-- ---- the code's iterator

abbrev pub event_of : {A : Type 0} → OpDelimited A → OpEvent
event_of (code.Open d) = open_event d
event_of (code.Op o) = op_event (op_of o.now)
event_of (code.Close d) = close_event d

-- an opening that is still to come
abbrev pub pending_open : Option Delimiter → List OpEvent → List OpEvent
pending_open None events = events
pending_open (Some d) events = open_event d ∷ events

-- a closing that is still to come
abbrev pub pending_close : Option Delimiter → List OpEvent
pending_close None = []
pending_close (Some d) = close_event d ∷ []

-- the items that an iterator has still to yield
abbrev pub events_left : {A : Type 0} → OpDelimitedIter A → List OpEvent
events_left w = pending_open w.opening (events_of (ops_of w.ops.now) ++ pending_close w.closing)

-- ---- the law

-- the ops among the items
abbrev pub ops_in : List OpEvent → Ops
ops_in [] = no_ops
ops_in (op_event o ∷ events) = op o (ops_in events)
ops_in (open_event d ∷ events) = ops_in events
ops_in (close_event d ∷ events) = ops_in events

-- An iterator over ops yields exactly these items, from its beginning to its end. Each op is among
-- them once, in order.
pub record EachOpOnce {A : Type 0} (Turns : OpDelimitedIter A → Option (OpDelimited A)
    → OpDelimitedIter A → Type 0)
    (around : Option Delimiter) (os : Ops) : Type 0 where
  pub all : (w : OpDelimitedIter A) (given : List (OpDelimited A)) → events_left w
      ≡ op_events around os
      → Drains Turns w given →
      map event_of given ≡ op_events around os
  pub once : ops_in (op_events around os) ≡ os
