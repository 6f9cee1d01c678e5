-- Fronts whose attributes are known to hold.
use Rattle.std.proofs.Common.{ℕ, zero, suc, ◌≡◌, ◌<◌, ◌≤◌, Bool, true, false, Option, Some, None, refl, ap, sym, ◌∙◌, subst, arith}
use Rattle.std.proofs.lemmas.Bool.{false≢true, eqb-true, ltb-true}
use Rattle.std.specs.Prelude.{◌==◌, ◌&&◌, if◌then◌else◌, nat_lt, option_and_then, unwrap_or, Result, Ok, Err}
use Rattle.mbe_tt.specs.Trees.Tree.{Forest, Tree, none, leaf, group, first, rest_of, skip, flat_len, front_punct, front_group}
use Rattle.mbe_tt.specs.Grammars.Grammar.{Grammar}
use Rattle.mbe_tt.specs.Trees.Tree.{is_same_kind}
use Rattle.mbe_tt.specs.declared.tt.Delimiter.{Delimiter}
use Rattle.mbe_tt.specs.declared.tt.DelimiterKind.{DelimiterKind}
use Rattle.mbe_tt.specs.declared.tt.DelimiterKind.TheVariants.{Bracket}
use Rattle.mbe_tt.specs.declared.tt.Punct.{Punct}
use Rattle.mbe_rewriter.specs.MacroItems.{MacroCall, MacroDefinition, FrontItem, Definition, CallItem, Other, End}
use Rattle.mbe_rewriter.specs.MacroItems.{front, front_with, call_front}
use Rattle.mbe_rewriter.specs.MacroItems.{call_of, definition_of, tree_front}
use Rattle.mbe_cfg.specs.declared.cfg_fault.CfgFault.{CfgFault}
use Rattle.mbe_cfg.specs.declared.cfg_options.CfgOptions.{CfgOptions}
use Rattle.mbe_cfg.specs.declared.predicate.TheConstants.{DEPTH}
use Rattle.mbe_cfg.specs.Attributes.{attribute, attributes, go_on, next_one}
use Rattle.mbe_cfg.specs.Predicates.{ValueResult, gives}
use Rattle.mbe_cfg.specs.TreeFront.{Group, after_char, group_at, attribute_group}
use Rattle.mbe_cfg.specs.CfgStrip.{IsEnabledTo, Stripped, after_inert_attribute, holds_in, inert_or_tree, inner_attribute}
use Rattle.mbe_cfg.specs.CfgStrip.{disabled_or_tree, is_disabled, is_disabled_by, is_enabled_by, is_tree, step, step_by, without}

-- ---- the trees after the first ones

rest_shorter : (f : Forest) → flat_len (rest_of f) ≤ flat_len f
rest_shorter none = omega arith
rest_shorter (leaf l rest) = omega arith
rest_shorter (group d inside rest) = omega arith

skip_shorter : (k : ℕ) (f : Forest) → flat_len (skip k f) ≤ flat_len f
skip_shorter zero f = omega arith
skip_shorter (suc k) f = omega (arith, rest_shorter f, skip_shorter k (rest_of f))

-- of all trees, nothing need be known
pub none_known : (s : CfgOptions) (f : Forest) → IsEnabledTo s (flat_len f) f
none_known s f k more = absurd (omega (arith, more, skip_shorter k f))

pub unknown : (s : CfgOptions) (n : ℕ) (f : Forest) → n ≡ flat_len f → IsEnabledTo s n f
unknown s n f e = subst (λ k. IsEnabledTo s k f) (sym e) (none_known s f)

pub rest_known : (s : CfgOptions) (n : ℕ) (f : Forest) → IsEnabledTo s n f → IsEnabledTo s n (rest_of f)
rest_known s n f known k more = known (suc k) more

known_with : (s : CfgOptions) (n : ℕ) (f : Forest) → is_disabled s f ≡ false → IsEnabledTo s n (rest_of f)
    → IsEnabledTo s n f
known_with s n f on known zero more = on
known_with s n f on known (suc k) more = known k more

-- what is known of the front
pub is_on : (s : CfgOptions) (n : ℕ) (f : Forest) → IsEnabledTo s n f → n < flat_len f → false ≡ is_disabled s f
is_on s n f known more = sym (known 0 more)

-- ---- what follows a punct, and a group

if_some : {X : Type 0} (b : Bool) (x y : X) → (if b then Some x else None) ≡ Some y → y ≡ x
if_some true x y e = cc
if_some false x y e = absurd cc

punct_rest : (char : ℕ) (f r : Forest) (p : Option Punct)
    → option_and_then (λ p. if p.char == char then Some (rest_of f) else None) p ≡ Some r → r ≡ rest_of f
punct_rest char f r None e = absurd cc
punct_rest char f r (Some p) e = if_some (p.char == char) (rest_of f) r e

after_char_rest : (char : ℕ) (f r : Forest) → after_char char f ≡ Some r → r ≡ rest_of f
after_char_rest char f r e = punct_rest char f r (front_punct f) e

group_rest : (kind : DelimiterKind) (f : Forest) (g : Group) (x : Option (Delimiter × Forest))
    → option_and_then (λ g. if is_same_kind g.0.kind kind then Some
    (record { close = g.0.close; inside = g.1; rest = rest_of f }) else None) x ≡ Some g → g.rest ≡ rest_of f
group_rest kind f g None e = absurd cc
group_rest kind f g (Some x) e =
    ap (λ (y : Group). y.rest) (if_some (is_same_kind x.0.kind kind)
    (record { close = x.0.close; inside = x.1; rest = rest_of f }) g e)

group_at_rest : (kind : DelimiterKind) (f : Forest) (g : Group) → group_at kind f ≡ Some g → g.rest ≡ rest_of f
group_at_rest kind f g e = group_rest kind f g (front_group f) e

-- a punct has a flat token
after_char_shorter : (char : ℕ) (f r : Forest) → after_char char f ≡ Some r → flat_len r < flat_len f
after_char_shorter char none r e = absurd cc
after_char_shorter char (leaf l rest) r e = omega (arith, ap flat_len (after_char_rest char (leaf l rest) r e))
after_char_shorter char (group d inside rest) r e = absurd cc

-- ---- attributes

abbrev with_bang : Forest → Option Group
with_bang after = group_at Bracket (unwrap_or (after_char 33 after) after)

bang_known : (s : CfgOptions) (n : ℕ) (after : Forest) (m : Option Forest) → m ≡ after_char 33 after
    → IsEnabledTo s n after → IsEnabledTo s n (unwrap_or m after)
bang_known s n after None e known = known
bang_known s n after (Some r) e known =
    subst (IsEnabledTo s n) (sym (after_char_rest 33 after r (sym e))) (rest_known s n after known)

brackets_known : (s : CfgOptions) (n : ℕ) (f : Forest) (g : Group) (a : Option Forest) → a ≡ after_char 35 f
    → option_and_then with_bang a ≡ Some g → IsEnabledTo s n f → IsEnabledTo s n g.rest
brackets_known s n f g None e is known = absurd cc
brackets_known s n f g (Some after) e is known =
    let begun : IsEnabledTo s n after = subst (IsEnabledTo s n) (sym (after_char_rest 35 f after (sym e)))
    (rest_known s n f known) in
    let at = unwrap_or (after_char 33 after) after in
    subst (IsEnabledTo s n) (sym (group_at_rest Bracket at g is))
    (rest_known s n at (bang_known s n after (after_char 33 after) refl begun))

pub attribute_known : (s : CfgOptions) (n : ℕ) (f : Forest) (g : Group) → attribute_group f ≡ Some g
    → IsEnabledTo s n f → IsEnabledTo s n g.rest
attribute_known s n f g e known = brackets_known s n f g (after_char 35 f) refl e known

bang_shorter : (after : Forest) (m : Option Forest) → m ≡ after_char 33 after
    → flat_len (unwrap_or m after) ≤ flat_len after
bang_shorter after None e = omega arith
bang_shorter after (Some r) e = omega (arith, after_char_shorter 33 after r (sym e))

brackets_shorter : (f : Forest) (g : Group) (a : Option Forest) → a ≡ after_char 35 f
    → option_and_then with_bang a ≡ Some g → flat_len g.rest < flat_len f
brackets_shorter f g None e is = absurd cc
brackets_shorter f g (Some after) e is =
    let at = unwrap_or (after_char 33 after) after in
    omega (
      arith,
      after_char_shorter 35 f after (sym e),
      bang_shorter after (after_char 33 after) refl,
      rest_shorter at,
      ap flat_len (group_at_rest Bracket at g is),
    )

attribute_shorter : (f : Forest) (g : Group) → attribute_group f ≡ Some g → flat_len g.rest < flat_len f
attribute_shorter f g e = brackets_shorter f g (after_char 35 f) refl e

-- ---- fronts without an attribute

no_attributes : (s : CfgOptions) (n : ℕ) (f : Forest) → attribute_group f ≡ None → attributes s n true f ≡ gives true f
unfolding attributes
no_attributes s zero f e = refl
no_attributes s (suc n) f e = ap (go_on (attribute s DEPTH) (attributes s n) true f) e

no_hash : (s : CfgOptions) (f : Forest) → after_char 35 f ≡ None → is_disabled s f ≡ false
no_hash s f e =
    let inner : inner_attribute f ≡ None
    = ap (λ a. option_and_then (group_at Bracket) (option_and_then (after_char 33) a)) e in
    let outer : attribute_group f ≡ None = ap (option_and_then with_bang) e in
    ap (λ i. is_disabled_by (is_enabled_by s f i)) inner
    ∙ ap (λ r. is_disabled_by (holds_in r)) (no_attributes s (flat_len f) f outer)

group_no_char : (char : ℕ) (kind : DelimiterKind) (f : Forest) (g : Group) → group_at kind f ≡ Some g
    → after_char char f ≡ None
group_no_char char kind none g e = absurd cc
group_no_char char kind (leaf l rest) g e = absurd cc
group_no_char char kind (group d inside rest) g e = refl

abbrev punct_after : ℕ → Forest → Option Punct → Option Forest
punct_after char f p = option_and_then (λ p. if p.char == char then Some (rest_of f) else None) p

bang_is : (b : Bool) (p : Punct) (f r : Forest) → b ≡ (p.char == 33) → (if b then Some (rest_of f) else None) ≡ Some r
    → punct_after 35 f (Some p) ≡ None
bang_is false p f r is e = absurd cc
bang_is true p f r is e = ap (λ c. if c == 35 then Some (rest_of f) else None) (eqb-true p.char 33 (sym is))

bang_no_hash_by : (f r : Forest) (p : Option Punct) → punct_after 33 f p ≡ Some r → punct_after 35 f p ≡ None
bang_no_hash_by f r None e = refl
bang_no_hash_by f r (Some p) e = bang_is (p.char == 33) p f r refl e

bang_no_hash : (f r : Forest) → after_char 33 f ≡ Some r → after_char 35 f ≡ None
bang_no_hash f r e = bang_no_hash_by f r (front_punct f) e

-- ---- attributes that hold

abbrev value_of : ValueResult → Bool
value_of (Ok v) = v.holds
value_of (Err fault) = false

abbrev back_of : Forest → ValueResult → Forest
back_of f (Ok v) = v.rest
back_of f (Err fault) = f

never_next : (s : CfgOptions) (n : ℕ) (e : Forest)
    → ((f : Forest) → attributes s n false f ≡ gives true e → ⊥)
    → (f : Forest) (r : Result Bool CfgFault) → next_one (attributes s n) false f r ≡ gives true e → ⊥
never_next s n e more f (Ok one) h = more f h
never_next s n e more f (Err fault) h = false≢true (ap value_of h)

never_on : (s : CfgOptions) (n : ℕ) (e : Forest)
    → ((f : Forest) → attributes s n false f ≡ gives true e → ⊥)
    → (f : Forest) (x : Option Group) → go_on (attribute s DEPTH) (attributes s n) false f x ≡ gives true e → ⊥
never_on s n e more f None h = false≢true (ap value_of h)
never_on s n e more f (Some g) h = never_next s n e more g.rest (attribute s DEPTH g.close g.inside) h

-- what fails goes on failing
never : (s : CfgOptions) (n : ℕ) (e f : Forest) → attributes s n false f ≡ gives true e → ⊥
unfolding attributes
never s zero e f h = false≢true (ap value_of h)
never s (suc n) e f h = never_on s n e (never s n e) f (attribute_group f) h

fewer_one : (s : CfgOptions) (m n : ℕ) (e : Forest)
    → ((f : Forest) → attributes s n true f ≡ gives true e → holds_in (attributes s m true f) ≡ Ok true)
    → (f : Forest) (one : Bool) → attributes s n one f ≡ gives true e → holds_in (attributes s m one f) ≡ Ok true
fewer_one s m n e more f true h = more f h
fewer_one s m n e more f false h = absurd (never s n e f h)

fewer_next : (s : CfgOptions) (m n : ℕ) (e : Forest)
    → ((f : Forest) → attributes s n true f ≡ gives true e → holds_in (attributes s m true f) ≡ Ok true)
    → (f : Forest) (r : Result Bool CfgFault) → next_one (attributes s n) true f r ≡ gives true e
    → holds_in (next_one (attributes s m) true f r) ≡ Ok true
fewer_next s m n e more f (Ok one) h = fewer_one s m n e more f one h
fewer_next s m n e more f (Err fault) h = absurd (false≢true (ap value_of h))

fewer_on : (s : CfgOptions) (m n : ℕ) (e : Forest)
    → ((f : Forest) → attributes s n true f ≡ gives true e → holds_in (attributes s m true f) ≡ Ok true)
    → (f : Forest) (x : Option Group) → go_on (attribute s DEPTH) (attributes s n) true f x ≡ gives true e
    → holds_in (go_on (attribute s DEPTH) (attributes s m) true f x) ≡ Ok true
fewer_on s m n e more f None h = refl
fewer_on s m n e more f (Some g) h = fewer_next s m n e more g.rest (attribute s DEPTH g.close g.inside) h

-- where all of some attributes hold, the first ones do
fewer : (s : CfgOptions) (m n : ℕ) (e f : Forest) → m ≤ n → attributes s n true f ≡ gives true e
    → holds_in (attributes s m true f) ≡ Ok true
unfolding attributes
fewer s zero n e f few h = refl
fewer s (suc m) zero e f few h = absurd (omega (arith, few))
fewer s (suc m) (suc n) e f few h =
    fewer_on s m n e (λ x. fewer s m n e x (omega (arith, few))) f (attribute_group f) h

inner_bang : (after : Forest) (m : Option Forest) (g i : Group) → group_at Bracket (unwrap_or m after) ≡ Some g
    → option_and_then (group_at Bracket) m ≡ Some i → i ≡ g
inner_bang after None g i e is = absurd cc
inner_bang after (Some r) g i e is = cc

inner_same : (a : Option Forest) (g i : Group) → option_and_then with_bang a ≡ Some g
    → option_and_then (group_at Bracket) (option_and_then (after_char 33) a) ≡ Some i → i ≡ g
inner_same None g i e is = absurd cc
inner_same (Some after) g i e is = inner_bang after (after_char 33 after) g i e is

front_on_by : (s : CfgOptions) (f : Forest) (g : Group) (i : Option Group) → inner_attribute f ≡ i
    → attribute_group f ≡ Some g → attribute s DEPTH g.close g.inside ≡ Ok true
    → holds_in (attributes s (flat_len f) true f) ≡ Ok true → is_disabled_by (is_enabled_by s f i) ≡ false
front_on_by s f g None is e one all = ap is_disabled_by all
front_on_by s f g (Some i) is e one all =
    ap (λ (x : Group). is_disabled_by (attribute s DEPTH x.close x.inside)) (inner_same (after_char 35 f) g i e is)
    ∙ ap is_disabled_by one

-- the front of attributes that hold
front_on : (s : CfgOptions) (f : Forest) (g : Group) → attribute_group f ≡ Some g
    → attribute s DEPTH g.close g.inside ≡ Ok true → holds_in (attributes s (flat_len f) true f) ≡ Ok true
    → is_disabled s f ≡ false
front_on s f g e one all = front_on_by s f g (inner_attribute f) refl e one all

-- ---- a run of attributes that hold

bang_before : (s : CfgOptions) (n : ℕ) (after : Forest) (g : Group) (m : Option Forest) → m ≡ after_char 33 after
    → group_at Bracket (unwrap_or m after) ≡ Some g → IsEnabledTo s n g.rest → IsEnabledTo s n after
bang_before s n after g None e is known =
    known_with s n after (no_hash s after (group_no_char 35 Bracket after g is))
    (subst (IsEnabledTo s n) (group_at_rest Bracket after g is) known)
bang_before s n after g (Some r) e is known =
    let last : IsEnabledTo s n r = known_with s n r (no_hash s r (group_no_char 35 Bracket r g is))
    (subst (IsEnabledTo s n) (group_at_rest Bracket r g is) known) in
    known_with s n after (no_hash s after (bang_no_hash after r (sym e)))
    (subst (IsEnabledTo s n) (after_char_rest 33 after r (sym e)) last)

attribute_before_by : (s : CfgOptions) (n : ℕ) (f : Forest) (g : Group) (a : Option Forest) → a ≡ after_char 35 f
    → option_and_then with_bang a ≡ Some g → is_disabled s f ≡ false → IsEnabledTo s n g.rest → IsEnabledTo s n f
attribute_before_by s n f g None e is on known = absurd cc
attribute_before_by s n f g (Some after) e is on known =
    known_with s n f on (subst (IsEnabledTo s n) (after_char_rest 35 f after (sym e))
    (bang_before s n after g (after_char 33 after) refl is known))

attribute_before : (s : CfgOptions) (n : ℕ) (f : Forest) (g : Group) → attribute_group f ≡ Some g
    → is_disabled s f ≡ false → IsEnabledTo s n g.rest → IsEnabledTo s n f
attribute_before s n f g e on known = attribute_before_by s n f g (after_char 35 f) refl e on known

no_run : (s : CfgOptions) (f e : Forest) → gives true f ≡ gives true e → IsEnabledTo s (flat_len e) f
no_run s f e h = subst (λ x. IsEnabledTo s (flat_len x) f) (ap (back_of f) h) (none_known s f)

run_one : (s : CfgOptions) (n : ℕ) (e f : Forest) (g : Group)
    → ((x : Forest) → flat_len x ≤ n → attributes s n true x ≡ gives true e → IsEnabledTo s (flat_len e) x)
    → flat_len f ≤ suc n → attributes s (suc n) true f ≡ gives true e → attribute_group f ≡ Some g
    → (r : Result Bool CfgFault) → attribute s DEPTH g.close g.inside ≡ r
    → next_one (attributes s n) true g.rest r ≡ gives true e → IsEnabledTo s (flat_len e) f
run_one s n e f g more few all at (Err fault) is h = absurd (false≢true (ap value_of h))
run_one s n e f g more few all at (Ok false) is h = absurd (never s n e g.rest h)
run_one s n e f g more few all at (Ok true) is h =
    attribute_before s (flat_len e) f g at (front_on s f g at is (fewer s (flat_len f) (suc n) e f few all))
    (more g.rest (omega (arith, few, attribute_shorter f g at)) h)

run_by : (s : CfgOptions) (n : ℕ) (e f : Forest)
    → ((x : Forest) → flat_len x ≤ n → attributes s n true x ≡ gives true e → IsEnabledTo s (flat_len e) x)
    → flat_len f ≤ suc n → attributes s (suc n) true f ≡ gives true e
    → (x : Option Group) → attribute_group f ≡ x
    → go_on (attribute s DEPTH) (attributes s n) true f x ≡ gives true e → IsEnabledTo s (flat_len e) f
run_by s n e f more few all None at h = no_run s f e h
run_by s n e f more few all (Some g) at h =
    run_one s n e f g more few all at (attribute s DEPTH g.close g.inside) refl h

-- down to their end
run_known : (s : CfgOptions) (n : ℕ) (e f : Forest) → flat_len f ≤ n → attributes s n true f ≡ gives true e
    → IsEnabledTo s (flat_len e) f
unfolding attributes
run_known s zero e f few h = no_run s f e h
run_known s (suc n) e f few h = run_by s n e f (run_known s n e) few h (attribute_group f) refl h

pub all_known : (s : CfgOptions) (n : ℕ) (holds : Bool) (e f : Forest)
    → gives holds e ≡ attributes s (flat_len f) true f → holds ≡ true → n ≡ flat_len e → IsEnabledTo s n f
all_known s n holds e f h on is =
    subst (λ k. IsEnabledTo s k f) (sym is)
    (run_known s (flat_len f) e f (omega arith) (sym h ∙ ap (λ b. gives b e) on))

-- ---- after a front

other_rest_by : (f : Forest) (t : Tree) (r : Forest) (x : Option Tree) → tree_front f x ≡ Other t r → r ≡ rest_of f
other_rest_by f t r None e = absurd cc
other_rest_by f t r (Some x) e = cc

other_call_rest : (f : Forest) (t : Tree) (r : Forest) (x : Option MacroCall) → call_front f x ≡ Other t r
    → r ≡ rest_of f
other_call_rest f t r None e = other_rest_by f t r (first f) e
other_call_rest f t r (Some c) e = absurd cc

other_definition_rest : (f : Forest) (t : Tree) (r : Forest) (x : Option MacroDefinition) → front_with f x ≡ Other t r
    → r ≡ rest_of f
other_definition_rest f t r None e = other_call_rest f t r (call_of f) e
other_definition_rest f t r (Some d) e = absurd cc

other_rest : (f : Forest) (t : Tree) (r : Forest) → front f ≡ Other t r → r ≡ rest_of f
other_rest f t r e = other_definition_rest f t r (definition_of f) e

inert_known_by : (s : CfgOptions) (n : ℕ) (f after : Forest) (x : Option Group) → attribute_group f ≡ x
    → option_and_then (without s f) x ≡ Some after → IsEnabledTo s n f → IsEnabledTo s n after
inert_known_by s n f after None at e known = absurd cc
inert_known_by s n f after (Some g) at e known =
    subst (IsEnabledTo s n) (sym (if_some _ g.rest after e)) (attribute_known s n f g at known)

step_known_by : (within : Forest → Stripped) (s : CfgOptions) (n : ℕ) (f rest : Forest) (t : Tree) (x : Option Forest)
    → after_inert_attribute s f ≡ x → rest ≡ rest_of f → IsEnabledTo s n f
    → IsEnabledTo s n (inert_or_tree within s f t rest x).rest
step_known_by within s n f rest t None is e known = subst (IsEnabledTo s n) (sym e) (rest_known s n f known)
step_known_by within s n f rest t (Some after) is e known =
    inert_known_by s n f after (attribute_group f) refl is known

tree_known_by : (within : Forest → Stripped) (s : CfgOptions) (g : Grammar) (n : ℕ) (f : Forest) (x : FrontItem)
    → front f ≡ x → is_tree x ≡ true → is_disabled s f ≡ false → IsEnabledTo s n f
    → IsEnabledTo s n (step_by within s g f x).rest
tree_known_by within s g n f (Other t rest) at is on known =
    subst (λ b. IsEnabledTo s n (disabled_or_tree within s g f t rest b).rest) (sym on)
    (step_known_by within s n f rest t (after_inert_attribute s f) refl (other_rest f t rest at) known)
tree_known_by within s g n f (Definition d) at is on known = absurd (false≢true is)
tree_known_by within s g n f (CallItem c) at is on known = absurd (false≢true is)
tree_known_by within s g n f End at is on known = absurd (false≢true is)

known_by : (within : Forest → Stripped) (s : CfgOptions) (g : Grammar) (n : ℕ) (f : Forest) (less tree : Bool)
    → nat_lt n (flat_len f) ≡ less → is_tree (front f) ≡ tree → IsEnabledTo s n f
    → IsEnabledTo s (if less && tree then n else flat_len (step within s g f).rest) (step within s g f).rest
known_by within s g n f true true more is known =
    tree_known_by within s g n f (front f) refl is (known 0 (ltb-true n (flat_len f) more)) known
known_by within s g n f true false more is known = none_known s (step within s g f).rest
known_by within s g n f false true more is known = none_known s (step within s g f).rest
known_by within s g n f false false more is known = none_known s (step within s g f).rest

-- what is known after a front
pub known_on : (within : Forest → Stripped) (s : CfgOptions) (g : Grammar) (n m : ℕ) (f after : Forest) (b : Bool)
    → IsEnabledTo s n f → b ≡ (nat_lt n (flat_len f) && is_tree (front f)) → after ≡ (step within s g f).rest
    → m ≡ (if b then n else flat_len after) → IsEnabledTo s m after
known_on within s g n m f after b known is e r =
    subst (λ k. IsEnabledTo s k after) (sym (r ∙ ap (λ c. if c then n else flat_len after) is))
    (subst (λ x. IsEnabledTo s (if nat_lt n (flat_len f) && is_tree (front f) then n else flat_len x) x) (sym e)
    (known_by within s g n f (nat_lt n (flat_len f)) (is_tree (front f)) refl refl known))
