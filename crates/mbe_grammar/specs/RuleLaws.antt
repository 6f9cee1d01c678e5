-- How many flat tokens rules leave: at most as many as there were, and fewer if the rule consumes
-- something. These are laws and no definitions. They are in specs because the law of a trait may
-- use nothing else.
use Rattle.std.specs.Prelude.{◌≡◌, ℕ, zero, suc, ◌+◌, ◌-◌, ◌*◌, ◌<◌, ◌≤◌, ◌==◌, Bool, true, false}
use Rattle.std.specs.Prelude.{not, ◌&&◌, ◌||◌, if◌then◌else◌, List, ◌∷◌, length, take, Option, Some}
use Rattle.std.specs.Prelude.{None, Ok, Err}
use Rattle.std.specs.List.{list_any}
use Rattle.std.specs.Str.{bytes_eq}
use Rattle.std.proofs.Common.{arith}
use Rattle.mbe_tt.specs.Trees.Tree.{Forest, none, leaf, group, Tree, Leaf_tree, Group_tree}
use Rattle.mbe_tt.specs.Trees.Tree.{flat_len, skip}
use Rattle.mbe_tt.specs.Trees.Leaf.{Leaf, punct, literal, ident}
use Rattle.mbe_tt.specs.Trees.Glue.{glue, chars_of, if_joint, joined}
use Rattle.mbe_tt.specs.declared.tt.Punct.{Punct}
use Rattle.mbe_grammar.specs.declared.tables.parse_result.ParseFailure.TheVariants.{NoMatch, Fault}
use Rattle.mbe_grammar.specs.Rule.{Rule, one, puncts_of, through, to_closing_angle, part, ◌then◌}
use Rattle.mbe_grammar.specs.Rule.{◌or◌, maybe, repeated, needed, ahead, not_ahead, or_fault}
use Rattle.mbe_grammar.specs.Rule.{in_turn, past_first, after_angle, begins_arrow, meaning}
use Rattle.mbe_grammar.specs.Rule.{taken_within, taken}
use Rattle.mbe_grammar.specs.Tables.Terminals.{ParseResult, or_no_match, after_one, after_operator}
use Rattle.mbe_grammar.specs.Tables.Rule.{◌>>=◌, or_else, require_match, if_match, unless_match}
use Rattle.mbe_grammar.specs.Tables.Rule.{once_more, times}
use Rattle.mbe_grammar.specs.Tables.SingleTrees.{is_char}

-- ---- what is left

-- the difference as a number
abbrev pub count : Bool → ℕ
count true = 1
count false = 0

-- fewer flat tokens are left than there were, or at most as many
abbrev pub Leaves : Bool → Forest → ParseResult → Type 0
Leaves fewer f (Ok g) = count fewer + flat_len g ≤ flat_len f
Leaves fewer f (Err miss) = Unit {0}

pub leaves_weaker : (b : Bool) (f : Forest) (s : ParseResult) → Leaves b f s → Leaves false f s
leaves_weaker true f (Ok g) h = omega arith
leaves_weaker false f (Ok g) h = h
leaves_weaker b f (Err miss) h = tt

leaves_on : (b : Bool) (f g : Forest) (s : ParseResult) → flat_len g ≤ flat_len f → Leaves b g s
    → Leaves b f s
leaves_on b f g (Ok h) le l = omega arith
leaves_on b f g (Err miss) le l = tt

leaves_past : (b : Bool) (f g : Forest) (s : ParseResult) → suc (flat_len g) ≤ flat_len f
    → Leaves b g s → Leaves true f s
leaves_past true f g (Ok h) le l = omega arith
leaves_past false f g (Ok h) le l = omega arith
leaves_past b f g (Err miss) le l = tt

then_leaves : (a b : Bool) (f : Forest) (s : ParseResult) (next : Forest → ParseResult)
    → Leaves a f s
    → ((g : Forest) → Leaves b g (next g)) → Leaves (a || b) f (s >>= next)
then_leaves true b f (Ok g) next h k = leaves_past b f g (next g) (omega arith) (k g)
then_leaves false b f (Ok g) next h k = leaves_on b f g (next g) (omega arith) (k g)
then_leaves a b f (Err miss) next h k = tt

or_leaves : (a b : Bool) (f : Forest) (s t : ParseResult) → Leaves a f s → Leaves b f t
    → Leaves (a && b) f (or_else s t)
or_leaves true true f (Ok g) t h k = h
or_leaves true false f (Ok g) t h k = omega arith
or_leaves false b f (Ok g) t h k = h
or_leaves true b f (Err NoMatch) t h k = k
or_leaves false b f (Err NoMatch) t h k = leaves_weaker b f t k
or_leaves a b f (Err Fault) t h k = tt

maybe_leaves : (a : Bool) (f : Forest) (s : ParseResult) → Leaves a f s
    → Leaves false f (or_else s (Ok f))
maybe_leaves a f (Ok g) h = leaves_weaker a f (Ok g) h
maybe_leaves a f (Err NoMatch) h = omega arith
maybe_leaves a f (Err Fault) h = tt

needed_leaves : (a : Bool) (f : Forest) (s : ParseResult) → Leaves a f s
    → Leaves a f (require_match s)
needed_leaves a f (Ok g) h = h
needed_leaves a f (Err NoMatch) h = tt
needed_leaves a f (Err Fault) h = tt

ahead_leaves : (f : Forest) (s : ParseResult) → Leaves false f (if_match s f)
ahead_leaves f (Ok g) = omega arith
ahead_leaves f (Err miss) = tt

not_ahead_leaves : (f : Forest) (s : ParseResult) → Leaves false f (unless_match s f)
not_ahead_leaves f (Ok g) = tt
not_ahead_leaves f (Err NoMatch) = omega arith
not_ahead_leaves f (Err Fault) = tt

once_more_leaves : (f : Forest) (s : ParseResult) (more : Forest → ParseResult) → Leaves false f s
    → ((g : Forest) → Leaves false g (more g)) → Leaves false f (once_more s more f)
once_more_leaves f (Ok g) more h k = leaves_on false f g (more g) (omega arith) (k g)
once_more_leaves f (Err NoMatch) more h k = omega arith
once_more_leaves f (Err Fault) more h k = tt

times_leaves : (n : ℕ) (r : Forest → ParseResult) → ((g : Forest) → Leaves false g (r g))
    → (f : Forest)
    → Leaves false f (times n r f)
unfolding times
times_leaves zero r k f = omega arith
times_leaves (suc n) r k f = once_more_leaves f (r f) (times n r) (k f) (times_leaves n r k)

pub in_turn_leaves : (r : Forest → ParseResult) → ((g : Forest) → Leaves false g (r g))
    → (f : Forest)
    → Leaves false f (in_turn r f)
unfolding in_turn
in_turn_leaves r k f = times_leaves (suc (flat_len f)) r k f

-- ---- what single trees and puncts leave

if_leaves : (b : Bool) (f g : Forest) → suc (flat_len g) ≤ flat_len f
    → Leaves true f (or_no_match (if b then Some g else None))
if_leaves true f g h = omega arith
if_leaves false f g h = tt

one_leaves : (p : Tree → Bool) (f : Forest) → Leaves true f (or_no_match (after_one p f))
one_leaves p none = tt
one_leaves p (leaf l rest) = if_leaves (p (Leaf_tree l)) (leaf l rest) rest (omega arith)
one_leaves p (group d inside rest) =
    if_leaves (p (Group_tree d inside)) (group d inside rest) rest (omega arith)

first_or_more : (b : Bool) (f rest : Forest) (more : Option Forest)
    → suc (flat_len rest) ≤ flat_len f
    → Leaves true rest (or_fault more) → Leaves true f (or_fault (if b then Some rest else more))
first_or_more true f rest more h k = omega arith
first_or_more false f rest (Some g) h k = omega arith
first_or_more false f rest None h k = tt

through_leaves : (p : Tree → Bool) (f : Forest) → Leaves true f (or_fault (past_first p f))
through_leaves p none = tt
through_leaves p (leaf l rest) = first_or_more (p (Leaf_tree l)) (leaf l rest) rest _ (omega arith)
    (through_leaves p rest)
through_leaves p (group d inside rest) =
    first_or_more (p (Group_tree d inside)) (group d inside rest) rest _ (omega arith)
    (through_leaves p rest)

three_leave : (a b c : Bool) (f : Forest) (x y z w : Option Forest) → Leaves true f (or_fault x)
    → Leaves true f (or_fault y)
    → Leaves true f (or_fault z) → Leaves true f (or_fault w)
    → Leaves true f (or_fault (if a then x else if b then (if c then y else z) else w))
three_leave true b c f x y z w h i j k = h
three_leave false true true f x y z w h i j k = i
three_leave false true false f x y z w h i j k = j
three_leave false false c f x y z w h i j k = k

after_leaves : (f rest : Forest) (x : Option Forest) → suc (flat_len rest) ≤ flat_len f
    → Leaves true rest (or_fault x) → Leaves true f (or_fault x)
after_leaves f rest (Some g) h k = omega arith
after_leaves f rest None h k = tt

angle_leaves : (more : ℕ) (arrow : Bool) (f : Forest)
    → Leaves true f (or_fault (after_angle more arrow f))
angle_leaves more arrow none = tt
angle_leaves more arrow (group d inside rest) =
    after_leaves (group d inside rest) rest (after_angle more false rest) (omega arith)
    (angle_leaves more false rest)
angle_leaves more arrow (leaf l rest) =
    let next =
    λ (m : ℕ) (a : Bool). after_leaves (leaf l rest) rest (after_angle m a rest) (omega arith)
    (angle_leaves m a rest) in
    three_leave (is_char 60 l) (is_char 62 l && not arrow) (more == 0) (leaf l rest) _ (Some rest)
    (after_angle (more - 1) (begins_arrow l) rest) _
    (next (more + 1) (begins_arrow l)) (omega arith) (next (more - 1) (begins_arrow l))
    (next more (begins_arrow l))

skip_shorter : (n : ℕ) (f : Forest) → flat_len (skip n f) ≤ flat_len f
skip_shorter zero f = omega arith
skip_shorter (suc n) none = skip_shorter n none
skip_shorter (suc n) (leaf l rest) = omega (arith, skip_shorter n rest)
skip_shorter (suc n) (group d inside rest) = omega (arith, skip_shorter n rest)

longest_some : (b c : Bool) (p : Punct) (ps : List Punct)
    → 0 < length (if b then p ∷ ps else if c then take 2 (p ∷ ps) else take 1 (p ∷ ps))
longest_some true c p ps = omega arith
longest_some false true p ps = omega arith
longest_some false false p ps = omega arith

skip_some : (n : ℕ) (l : Leaf) (rest : Forest) → 0 < n
    → suc (flat_len (skip n (leaf l rest))) ≤ flat_len (leaf l rest)
skip_some zero l rest h = absurd (omega arith)
skip_some (suc n) l rest h = omega (arith, skip_shorter n rest)

glue_some : (p : Punct) (rest : Forest) → 0 < length (glue (leaf (punct p) rest))
glue_some p rest = longest_some _ _ p (if_joint p.spacing (joined 2 rest))

puncts_leaves : (texts : List (List ℕ)) (f : Forest)
    → Leaves true f (or_no_match (after_operator texts f))
puncts_leaves texts none = tt
puncts_leaves texts (group d inside rest) = tt
puncts_leaves texts (leaf (literal x) rest) = tt
puncts_leaves texts (leaf (ident x) rest) = tt
puncts_leaves texts (leaf (punct p) rest) =
    if_leaves (list_any (bytes_eq (chars_of (glue (leaf (punct p) rest)))) texts)
    (leaf (punct p) rest) _
    (skip_some _ (punct p) rest (glue_some p rest))

-- ---- what rules leave

-- whether a rule consumes something if it matches, by which nonterminals do
abbrev pub is_solid : {P : Type 0} → (P → Bool) → Rule P → Bool
is_solid solid (one p) = true
is_solid solid (puncts_of texts) = true
is_solid solid (through p) = true
is_solid solid to_closing_angle = true
is_solid solid (part x) = solid x
is_solid solid (r then s) = is_solid solid r || is_solid solid s
is_solid solid (r or s) = is_solid solid r && is_solid solid s
is_solid solid (maybe r) = false
is_solid solid (repeated r) = false
is_solid solid (needed r) = is_solid solid r
is_solid solid (ahead r) = false
is_solid solid (not_ahead r) = false

pub meaning_leaves : {P : Type 0} (solid : P → Bool) (parts : P → Forest → ParseResult)
    → ((x : P) (f : Forest) → Leaves (solid x) f (parts x f))
    → (r : Rule P) (f : Forest) → Leaves (is_solid solid r) f (meaning parts r f)
meaning_leaves solid parts h (one p) f = one_leaves p f
meaning_leaves solid parts h (puncts_of texts) f = puncts_leaves texts f
meaning_leaves solid parts h (through p) f = through_leaves p f
meaning_leaves solid parts h to_closing_angle f = angle_leaves 0 false f
meaning_leaves solid parts h (part x) f = h x f
meaning_leaves solid parts h (r then s) f =
    then_leaves (is_solid solid r) (is_solid solid s) f (meaning parts r f) (meaning parts s)
    (meaning_leaves solid parts h r f) (meaning_leaves solid parts h s)
meaning_leaves solid parts h (r or s) f =
    or_leaves (is_solid solid r) (is_solid solid s) f (meaning parts r f) (meaning parts s f)
    (meaning_leaves solid parts h r f) (meaning_leaves solid parts h s f)
meaning_leaves solid parts h (maybe r) f =
    maybe_leaves (is_solid solid r) f (meaning parts r f) (meaning_leaves solid parts h r f)
meaning_leaves solid parts h (repeated r) f =
    in_turn_leaves (meaning parts r) (λ g. leaves_weaker (is_solid solid r) g (meaning parts r g)
    (meaning_leaves solid parts h r g)) f
meaning_leaves solid parts h (needed r) f =
    needed_leaves (is_solid solid r) f (meaning parts r f) (meaning_leaves solid parts h r f)
meaning_leaves solid parts h (ahead r) f = ahead_leaves f (meaning parts r f)
meaning_leaves solid parts h (not_ahead r) f = not_ahead_leaves f (meaning parts r f)

-- whether these nonterminals are the ones that consume something if they match
abbrev pub Solid : {P : Type 0} → (P → Rule P) → (P → Bool) → Type 0
Solid {P = P} rules solid = (x : P) → is_solid solid (rules x) ≡ solid x

pub within_leaves : {P : Type 0} (rules : P → Rule P) (solid : P → Bool) → Solid rules solid
    → (n : ℕ) (x : P) (f : Forest)
    → Leaves (solid x) f (taken_within rules n x f)
unfolding taken_within
within_leaves rules solid h zero x f = tt
within_leaves rules solid h (suc n) x f =
    rw (← h x) (meaning_leaves solid (taken_within rules n) (within_leaves rules solid h n)
    (rules x) f)

pub taken_leaves : {P : Type 0} (rules : P → Rule P) (solid : P → Bool) → Solid rules solid
    → (x : P) (f : Forest)
    → Leaves (solid x) f (taken rules x f)
unfolding taken
taken_leaves rules solid h x f = within_leaves rules solid h (suc (20 * flat_len f + 20)) x f
