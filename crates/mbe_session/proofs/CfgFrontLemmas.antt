-- What precedes the rest of a piece.
use Rattle.std.proofs.Common.{◌≡◌, ◌<◌, ℕ, zero, suc, Bool, true, false, Option, Some, None, refl, ap, sym, ◌∙◌}
use Rattle.std.proofs.Common.{arith}
use Rattle.std.specs.Prelude.{if◌then◌else◌, nat_lt}
use Rattle.std.proofs.lemmas.Bool.{ltb-true}
use Rattle.mbe_tt.specs.Trees.Tree.{Forest, Tree, Leaf_tree, Group_tree, none, leaf, group, append, leaves, first}
use Rattle.mbe_tt.specs.Trees.Tree.{rest_of, first_span, flat_len, front_group}
use Rattle.mbe_tt.specs.declared.span.Span.{Span}
use Rattle.mbe_rewriter.specs.MacroItems.{MacroCall, MacroDefinition, FrontItem, Definition, CallItem, Other, End}
use Rattle.mbe_rewriter.specs.MacroItems.{after_char, front}
use Rattle.mbe_rewriter.specs.AttributedCalls.{is_known_attribute, after_known_attribute, on, past, after_attributes}
use Rattle.mbe_rewriter.specs.AttributedCalls.{takes_attributes_alone, call_at, attributed_call, or_front}
use Rattle.mbe_rewriter.specs.AttributedCalls.{front_item_with_attributes}
use Rattle.mbe_cfg.specs.CfgStrip.{is_disabled, has_fault, after_disabled_target}
use Rattle.mbe_session.specs.CallExpansion.{Setting}
use Rattle.mbe_session.specs.CfgFront.{disabled, definition, call, tree, end, if_fewer, disabled_by, of_front}
use Rattle.mbe_session.specs.CfgFront.{sound_front, unless_disabled, piece, EndsIn, EndsInCall}
use Rattle.mbe_session.proofs.FrontLemmas.{Ahead, append_append, flat_append, then_some, if_some, if_some_of}
use Rattle.mbe_session.proofs.FrontLemmas.{char_ahead, group_ahead, front_definition, front_call, front_tree, front_end}

-- ---- attributes

ends_on : (f g h : Forest) → EndsIn f g → EndsIn g h → EndsIn f h
ends_on f g h a b = (append a.0 b.0, a.1 ∙ (ap (append a.0) b.1 ∙ sym (append_append a.0 b.0 h)))

known_ends : (f rest : Forest) → after_known_attribute f ≡ Some rest → EndsIn f rest
known_ends f rest e =
    let a = then_some _ (after_char 35 f) rest e in
    let b = then_some _ (front_group a.0) rest a.2 in
    let same : rest_of a.0 ≡ rest = if_some (is_known_attribute b.0.0.kind b.0.1) (rest_of a.0) rest b.2 in
    let sign = char_ahead 35 f a.0 a.1 in
    let brackets = group_ahead a.0 b.0.1 b.0.0 b.1 in
    (leaf sign.0 (group b.0.0 b.0.1 none), sign.1 ∙ ap (leaf sign.0) (brackets ∙ ap (group b.0.0 b.0.1) same))

past_more : (n : ℕ) (f : Forest) → ((g : Forest) → EndsIn g (past n g)) → (o : Option Forest) → after_known_attribute f
    ≡ o
    → EndsIn f (on (past n) f o)
past_more n f more None e = (none, refl)
past_more n f more (Some rest) e = ends_on f rest (past n rest) (known_ends f rest e) (more rest)

past_ends : (n : ℕ) (f : Forest) → EndsIn f (past n f)
unfolding past
past_ends zero f = (none, refl)
past_ends (suc n) f = past_more n f (past_ends n) (after_known_attribute f) refl

-- ---- the call that they are on

call_ends : (f : Forest) (c : MacroCall) → front f ≡ CallItem c → EndsInCall f c
call_ends f c e = let a = front_call f c e in (leaves a.kept, a.is)

same_ends : (f : Forest) (k c : MacroCall) → group k.delimiter k.argument k.rest ≡ group c.delimiter c.argument c.rest
    → EndsInCall f k → EndsInCall f c
same_ends f k c e a = (a.0, a.1 ∙ ap (append a.0) e)

call_at_ends : (begin : Span) (f : Forest) (c : MacroCall) (x : FrontItem) → front f ≡ x → call_at begin x ≡ Some c
    → EndsInCall f c
call_at_ends begin f c (CallItem k) e h =
    let moved : MacroCall = record k { begin = begin } in
    let same : moved ≡ c = if_some (takes_attributes_alone k) moved c h in
    same_ends f k c (ap (λ (x : MacroCall). group x.delimiter x.argument x.rest) same) (call_ends f k e)
call_at_ends begin f c (Definition d) e h = absurd (cc)
call_at_ends begin f c (Other t rest) e h = absurd (cc)
call_at_ends begin f c End e h = absurd (cc)

attributed_ends : (f : Forest) (c : MacroCall) → attributed_call f ≡ Some c → EndsInCall f c
attributed_ends f c e =
    let a = then_some _ (first f) c e in
    let b = then_some _ (after_known_attribute f) c a.2 in
    ends_on f (after_attributes f) (group c.delimiter c.argument c.rest) (past_ends (flat_len f) f)
    (call_at_ends (first_span a.0) (after_attributes f) c (front (after_attributes f)) refl b.2)

-- ---- fronts with attributes

by_attributes : (f : Forest) (c : MacroCall) (o : Option MacroCall) → attributed_call f ≡ o → or_front f o ≡ CallItem c
    → EndsInCall f c
by_attributes f c None q e = call_ends f c e
by_attributes f c (Some k) q e = let same : k ≡ c = cc in attributed_ends f c (q ∙ ap Some same)

pub subject_call : (f : Forest) (c : MacroCall) → front_item_with_attributes f ≡ CallItem c → EndsInCall f c
subject_call f c e = by_attributes f c (attributed_call f) refl e

plain_definition : (f : Forest) (d : MacroDefinition) (o : Option MacroCall) → or_front f o ≡ Definition d → front f
    ≡ Definition d
plain_definition f d None e = e
plain_definition f d (Some k) e = absurd (cc)

pub subject_definition : (f : Forest) (d : MacroDefinition) → front_item_with_attributes f ≡ Definition d
    → Ahead f d.rest
subject_definition f d e = front_definition f d (plain_definition f d (attributed_call f) e)

plain_tree : (f rest : Forest) (t : Tree) (o : Option MacroCall) → or_front f o ≡ Other t rest → front f ≡ Other t rest
plain_tree f rest t None e = e
plain_tree f rest t (Some k) e = absurd (cc)

pub subject_tree : (f rest : Forest) (t : Tree) → front_item_with_attributes f ≡ Other t rest
    → f ≡ Rattle.mbe_tt.specs.Trees.Tree.tree t rest
subject_tree f rest t e = front_tree f rest t (plain_tree f rest t (attributed_call f) e)

plain_end : (f : Forest) (o : Option MacroCall) → or_front f o ≡ End → front f ≡ End
plain_end f None e = e
plain_end f (Some k) e = absurd (cc)

pub subject_end : (f : Forest) → front_item_with_attributes f ≡ End → f ≡ none
subject_end f e = front_end f (plain_end f (attributed_call f) e)

-- ---- what is left after a call

pub ends_ahead : (f : Forest) (c : MacroCall) → EndsInCall f c → Ahead f c.rest
ends_ahead f c a = record {
  kept = append a.0 (group c.delimiter c.argument none);
  is = a.1 ∙ sym (append_append a.0 (group c.delimiter c.argument none) c.rest);
  some = let e = flat_append a.0 (group c.delimiter c.argument none) in omega (arith, e);
}

-- ---- pieces

from_definition : (x : FrontItem) (d : MacroDefinition) → of_front x ≡ definition d → x ≡ Definition d
from_definition (Definition k) d e = let same : k ≡ d = cc in ap Definition same
from_definition (CallItem c) d e = absurd (cc)
from_definition (Other t rest) d e = absurd (cc)
from_definition End d e = absurd (cc)

from_call : (x : FrontItem) (c : MacroCall) → of_front x ≡ call c → x ≡ CallItem c
from_call (Definition d) c e = absurd (cc)
from_call (CallItem k) c e = let same : k ≡ c = cc in ap CallItem same
from_call (Other t rest) c e = absurd (cc)
from_call End c e = absurd (cc)

from_end : (x : FrontItem) → of_front x ≡ end → x ≡ End
from_end (Definition d) e = absurd (cc)
from_end (CallItem c) e = absurd (cc)
from_end (Other t rest) e = absurd (cc)
from_end End e = refl

definition_unless : (x : FrontItem) (d : MacroDefinition) (o : Option Forest) → unless_disabled x o ≡ definition d
    → of_front x ≡ definition d
definition_unless x d None e = e
definition_unless x d (Some rest) e = absurd (cc)

sound_definition : (f : Forest) (d : MacroDefinition) (b : Bool) → (if b then front f else front_item_with_attributes f)
    ≡ Definition d
    → Ahead f d.rest
sound_definition f d true e = front_definition f d e
sound_definition f d false e = subject_definition f d e

pub piece_definition : (s : Setting) (f : Forest) (d : MacroDefinition) → piece s f ≡ definition d → Ahead f d.rest
piece_definition s f d e =
    sound_definition f d (has_fault s.conditions f)
    (from_definition (sound_front s.conditions f) d (definition_unless (sound_front s.conditions f) d _ e))

call_unless : (x : FrontItem) (c : MacroCall) (o : Option Forest) → unless_disabled x o ≡ call c → of_front x ≡ call c
call_unless x c None e = e
call_unless x c (Some rest) e = absurd (cc)

sound_call : (f : Forest) (c : MacroCall) (b : Bool) → (if b then front f else front_item_with_attributes f)
    ≡ CallItem c
    → EndsInCall f c
sound_call f c true e = call_ends f c e
sound_call f c false e = subject_call f c e

pub piece_call : (s : Setting) (f : Forest) (c : MacroCall) → piece s f ≡ call c → EndsInCall f c
piece_call s f c e =
    sound_call f c (has_fault s.conditions f)
    (from_call (sound_front s.conditions f) c (call_unless (sound_front s.conditions f) c _ e))

from_tree : (x : FrontItem) (t : Tree) (rest : Forest) → of_front x ≡ tree t rest → x ≡ Other t rest
from_tree (Definition d) t rest e = absurd (cc)
from_tree (CallItem c) t rest e = absurd (cc)
from_tree (Other k more) t rest e = let a : k ≡ t = cc in let b : more ≡ rest =
    cc in ap (λ x. Other x more) a ∙ ap (Other t) b
from_tree End t rest e = absurd (cc)

tree_unless : (x : FrontItem) (rest : Forest) (t : Tree) (o : Option Forest) → unless_disabled x o ≡ tree t rest
    → of_front x ≡ tree t rest
tree_unless x rest t None e = e
tree_unless x rest t (Some more) e = absurd (cc)

-- fewer trees are left after one
tree_less : (t : Tree) (f rest : Forest) → f ≡ Rattle.mbe_tt.specs.Trees.Tree.tree t rest → flat_len rest < flat_len f
tree_less (Leaf_tree l) f rest e = let n = ap flat_len e in omega (arith, n)
tree_less (Group_tree d inside) f rest e = let n = ap flat_len e in omega (arith, n)

pub subject_less : (f rest : Forest) (t : Tree) → front_item_with_attributes f ≡ Other t rest
    → flat_len rest < flat_len f
subject_less f rest t e = tree_less t f rest (subject_tree f rest t e)

sound_less : (f rest : Forest) (t : Tree) (b : Bool) → (if b then front f else front_item_with_attributes f)
    ≡ Other t rest
    → flat_len rest < flat_len f
sound_less f rest t true e = tree_less t f rest (front_tree f rest t e)
sound_less f rest t false e = subject_less f rest t e

pub piece_less : (s : Setting) (f rest : Forest) (t : Tree) → piece s f ≡ tree t rest → flat_len rest < flat_len f
piece_less s f rest t e =
    sound_less f rest t (has_fault s.conditions f)
    (from_tree (sound_front s.conditions f) t rest (tree_unless (sound_front s.conditions f) rest t _ e))

end_unless : (x : FrontItem) (o : Option Forest) → unless_disabled x o ≡ end → of_front x ≡ end
end_unless x None e = e
end_unless x (Some rest) e = absurd (cc)

sound_end : (f : Forest) (b : Bool) → (if b then front f else front_item_with_attributes f) ≡ End → f ≡ none
sound_end f true e = front_end f e
sound_end f false e = subject_end f e

pub piece_end : (s : Setting) (f : Forest) → piece s f ≡ end → f ≡ none
piece_end s f e =
    sound_end f (has_fault s.conditions f)
    (from_end (sound_front s.conditions f) (end_unless (sound_front s.conditions f) _ e))

-- fewer trees are left
fewer : (f more rest : Forest) (b : Bool) → nat_lt (flat_len more) (flat_len f) ≡ b
    → (if b then Some more else None) ≡ Some rest → flat_len rest < flat_len f
fewer f more rest true q e =
    let same : more ≡ rest = cc in
    let less = ltb-true (flat_len more) (flat_len f) q in let n = ap flat_len same in omega (arith, less, n)
fewer f more rest false q e = absurd (cc)

no_disabled : (x : FrontItem) (rest : Forest) → of_front x ≡ disabled rest → ⊥
no_disabled (Definition d) rest e = absurd (cc)
no_disabled (CallItem c) rest e = absurd (cc)
no_disabled (Other t more) rest e = absurd (cc)
no_disabled End rest e = absurd (cc)

fewer_by : (f rest : Forest) (x : FrontItem) (o : Option Forest)
    → ((r : Forest) → o ≡ Some r → flat_len r < flat_len f) → unless_disabled x o ≡ disabled rest
    → flat_len rest < flat_len f
fewer_by f rest x None less e = absurd (no_disabled x rest e)
fewer_by f rest x (Some more) less e = let same : more ≡ rest = cc in less rest (ap Some same)

pub piece_disabled : (s : Setting) (f rest : Forest) → piece s f ≡ disabled rest → flat_len rest < flat_len f
piece_disabled s f rest e =
    fewer_by f rest (sound_front s.conditions f) (disabled_by s.grammar s.conditions f)
    (λ r q. fewer f (after_disabled_target s.grammar f) r
    (nat_lt (flat_len (after_disabled_target s.grammar f)) (flat_len f)) refl
    (if_some_of (is_disabled s.conditions f) (if_fewer f (after_disabled_target s.grammar f)) r q)) e

-- what a call's result shows
pub piece_is : {X P : Type 0} (shown : X → P) (r x : X) (p : P) → shown r ≡ p → r ≡ x → p ≡ shown x
piece_is shown r x p e h = sym e ∙ ap shown h
