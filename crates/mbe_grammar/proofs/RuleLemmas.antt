-- A part takes what its rule says, since deeper calls of parts change nothing, and what a loop over one rule may go by.
use Rattle.std.proofs.Common.{◌≡◌, ℕ, zero, suc, ◌+◌, ◌-◌, ◌*◌, ◌<◌, ◌≤◌, Bool, true, false, ◌&&◌, Option, Some, None}
use Rattle.std.proofs.Common.{Ok, Err, refl, sym, ap, ◌∙◌, subst, arith, ltb-true, zero-add}
use Rattle.std.specs.Prelude.{if◌then◌else◌, nat_lt}
use Rattle.mbe_tt.specs.Trees.Tree.{Forest, flat_len}
use Rattle.mbe_grammar.specs.declared.tables.parse_result.ParseFailure.TheVariants.{NoMatch, Fault}
use Rattle.mbe_grammar.specs.Rule.{Rule, one, puncts_of, through, to_closing_angle, part, ◌then◌, ◌or◌, maybe, repeated}
use Rattle.mbe_grammar.specs.Rule.{needed, ahead, not_ahead, in_turn, meaning, taken_within, taken}
use Rattle.mbe_grammar.specs.Tables.Terminals.{ParseResult, or_no_match}
use Rattle.mbe_grammar.specs.Tables.Rule.{◌>>=◌, or_else, require_match, if_match, unless_match, once_more, times}
use Rattle.mbe_grammar.specs.RuleLaws.{count, Leaves, leaves_weaker, is_solid, Solid, meaning_leaves, within_leaves}
use Rattle.mbe_grammar.specs.RuleLaws.{taken_leaves}

-- ---- parts that call one another

-- whether the parts that a rule begins with stand below a number, where the others stand below another
abbrev pub is_below : {P : Type 0} → (P → Bool) → (P → ℕ) → ℕ → ℕ → Rule P → Bool
is_below solid rank most k (one p) = true
is_below solid rank most k (puncts_of texts) = true
is_below solid rank most k (through p) = true
is_below solid rank most k to_closing_angle = true
is_below solid rank most k (part x) = nat_lt (rank x) k
is_below solid rank most k (r then s) =
    is_below solid rank most k r && is_below solid rank most (if is_solid solid r then most else k) s
is_below solid rank most k (r or s) = is_below solid rank most k r && is_below solid rank most k s
is_below solid rank most k (maybe r) = is_below solid rank most k r
is_below solid rank most k (repeated r) = is_below solid rank most k r
is_below solid rank most k (needed r) = is_below solid rank most k r
is_below solid rank most k (ahead r) = is_below solid rank most k r
is_below solid rank most k (not_ahead r) = is_below solid rank most k r

-- an order of the parts by which each calls lower ones before it takes a flat token
pub record Order {P : Type 0} (rules : P → Rule P) : Type 0 where
  pub solid : P → Bool
  pub rank : P → ℕ
  pub takes_some : Solid rules solid
  pub lower : (x : P) → is_below solid rank 20 (rank x) (rules x) ≡ true
  pub few : (x : P) → rank x ≤ 20

-- ---- deeper calls of parts change nothing

-- Two meanings of the parts agree on calls that count less than n: twenty for each flat token, and the part's rank.
abbrev Agree : {P : Type 0} → (P → ℕ) → (P → Forest → ParseResult) → (P → Forest → ParseResult) → ℕ → Type 0
Agree {P = P} rank c d n = (x : P) (g : Forest) → 20 * flat_len g + rank x < n → c x g ≡ d x g

then_same : (a : Bool) (f : Forest) (s : ParseResult) (k l : Forest → ParseResult) → Leaves a f s
    → ((g : Forest) → count a + flat_len g ≤ flat_len f → k g ≡ l g) → (s >>= k) ≡ (s >>= l)
then_same a f (Ok g) k l h e = e g h
then_same a f (Err miss) k l h e = refl

once_more_same : (f : Forest) (s : ParseResult) (k l : Forest → ParseResult) → Leaves false f s
    → ((g : Forest) → flat_len g ≤ flat_len f → k g ≡ l g)
    → once_more s k f ≡ once_more s l f
once_more_same f (Ok g) k l h e = e g (omega arith)
once_more_same f (Err NoMatch) k l h e = refl
once_more_same f (Err Fault) k l h e = refl

times_same : (n m : ℕ) (r s : Forest → ParseResult) → ((g : Forest) → Leaves false g (s g))
    → ((g : Forest) → flat_len g ≤ m → r g ≡ s g)
    → (f : Forest) → flat_len f ≤ m → times n r f ≡ times n s f
unfolding times
times_same zero m r s h e f le = refl
times_same (suc n) m r s h e f le =
    ap (λ t. once_more t (times n r) f) (e f le)
    ∙ once_more_same f (s f) (times n r) (times n s) (h f) (λ g lg. times_same n m r s h e g (omega arith))

in_turn_same : (r s : Forest → ParseResult) (f : Forest) → ((g : Forest) → Leaves false g (s g))
    → ((g : Forest) → flat_len g ≤ flat_len f → r g ≡ s g)
    → in_turn r f ≡ in_turn s f
unfolding in_turn times
in_turn_same r s f h e = times_same (suc (flat_len f)) (flat_len f) r s h e f (omega arith)

both_true : (a b : Bool) → (a && b) ≡ true → (a ≡ true) × (b ≡ true)
both_true true b h = (refl, h)
both_true false b h = cc

most_or : (a : Bool) (k : ℕ) (f g : Forest) (n : ℕ) → 20 * flat_len f + k ≤ n → count a + flat_len g ≤ flat_len f
    → 20 * flat_len g + (if a then 20 else k) ≤ n
most_or true k f g n le h = omega arith
most_or false k f g n le h = omega arith

agree : {P : Type 0} (solid : P → Bool) (rank : P → ℕ) (c d : P → Forest → ParseResult)
    → ((x : P) (f : Forest) → Leaves (solid x) f (d x f))
    → (n : ℕ) → Agree rank c d n → (r : Rule P) (k : ℕ) (f : Forest) → is_below solid rank 20 k r ≡ true
    → 20 * flat_len f + k ≤ n
    → meaning c r f ≡ meaning d r f
agree solid rank c d l n e (one p) k f b le = refl
agree solid rank c d l n e (puncts_of texts) k f b le = refl
agree solid rank c d l n e (through p) k f b le = refl
agree solid rank c d l n e to_closing_angle k f b le = refl
agree solid rank c d l n e (part x) k f b le = e x f (omega (arith, ltb-true (rank x) k b))
agree solid rank c d l n e (r then s) k f b le =
    let (p, q) = both_true _ _ b in
    ap (λ t. t >>= meaning c s) (agree solid rank c d l n e r k f p le)
    ∙ then_same (is_solid solid r) f (meaning d r f) (meaning c s) (meaning d s) (meaning_leaves solid d l r f)
    (λ g h. agree solid rank c d l n e s _ g q (most_or (is_solid solid r) k f g n le h))
agree solid rank c d l n e (r or s) k f b le =
    let (p, q) = both_true _ _ b in
    ap (λ t. or_else t (meaning c s f)) (agree solid rank c d l n e r k f p le)
    ∙ ap (or_else (meaning d r f)) (agree solid rank c d l n e s k f q le)
agree solid rank c d l n e (maybe r) k f b le = ap (λ t. or_else t (Ok f)) (agree solid rank c d l n e r k f b le)
agree solid rank c d l n e (repeated r) k f b le =
    in_turn_same (meaning c r) (meaning d r) f
    (λ g. leaves_weaker (is_solid solid r) g (meaning d r g) (meaning_leaves solid d l r g))
    (λ g h. agree solid rank c d l n e r k g b (omega arith))
agree solid rank c d l n e (needed r) k f b le = ap require_match (agree solid rank c d l n e r k f b le)
agree solid rank c d l n e (ahead r) k f b le = ap (λ t. if_match t f) (agree solid rank c d l n e r k f b le)
agree solid rank c d l n e (not_ahead r) k f b le = ap (λ t. unless_match t f) (agree solid rank c d l n e r k f b le)

one_deeper : {P : Type 0} {rules : P → Rule P} (o : Order rules) (n : ℕ) (x : P) (f : Forest)
    → 20 * flat_len f + o.rank x < n
    → taken_within rules n x f ≡ taken_within rules (suc n) x f
unfolding taken_within
one_deeper o zero x f h = absurd (omega arith)
one_deeper {rules = rules} o (suc n) x f h =
    agree o.solid o.rank (taken_within rules n) (taken_within rules (suc n))
    (within_leaves rules o.solid o.takes_some (suc n)) n (one_deeper o n) (rules x) (o.rank x) f (o.lower x)
    (omega arith)

deeper : {P : Type 0} {rules : P → Rule P} (o : Order rules) (n d : ℕ) (x : P) (f : Forest)
    → 20 * flat_len f + o.rank x < n
    → taken_within rules n x f ≡ taken_within rules (d + n) x f
deeper o n zero x f h = rw zero-add
deeper {rules = rules} o n (suc d) x f h =
    deeper o n d x f h ∙ (one_deeper o (d + n) x f (omega arith) ∙ ap (λ m. taken_within rules m x f) (omega arith))

deep_enough : {P : Type 0} {rules : P → Rule P} (o : Order rules) (n m : ℕ) (x : P) (f : Forest)
    → 20 * flat_len f + o.rank x < n → n ≤ m
    → taken_within rules n x f ≡ taken_within rules m x f
deep_enough {rules = rules} o n m x f h le = deeper o n (m - n) x f h ∙ ap (λ k. taken_within rules k x f) (omega arith)

as_taken : {P : Type 0} {rules : P → Rule P} (o : Order rules) (n : ℕ) (x : P) (f : Forest)
    → 20 * flat_len f + o.rank x < n
    → taken_within rules n x f ≡ taken rules x f
unfolding taken
as_taken {rules = rules} o n x f h =
    deep_enough o n (n + (20 * flat_len f + 21)) x f h (omega arith)
    ∙ sym (deep_enough o (suc (20 * flat_len f + 20)) (n + (20 * flat_len f + 21)) x f (omega (arith, o.few x))
    (omega arith))

-- a part takes what its rule says, where the parts take what they take
pub taken_by_rule : {P : Type 0} {rules : P → Rule P} (o : Order rules) (x : P) (f : Forest)
    → taken rules x f ≡ meaning (taken rules) (rules x) f
unfolding taken taken_within
taken_by_rule {rules = rules} o x f =
    agree o.solid o.rank (taken_within rules (20 * flat_len f + 20)) (taken rules)
    (taken_leaves rules o.solid o.takes_some) (20 * flat_len f + o.rank x)
    (λ y g h. as_taken o (20 * flat_len f + 20) y g (omega (arith, o.few x))) (rules x) (o.rank x) f (o.lower x)
    (omega arith)

-- ---- what is taken in turn

once_more_shorter : (f : Forest) (s : ParseResult) (k l : Forest → ParseResult) → Leaves true f s
    → ((g : Forest) → flat_len g < flat_len f → k g ≡ l g)
    → once_more s k f ≡ once_more s l f
once_more_shorter f (Ok g) k l h e = e g (omega arith)
once_more_shorter f (Err NoMatch) k l h e = refl
once_more_shorter f (Err Fault) k l h e = refl

times_enough : (n m : ℕ) (r : Forest → ParseResult) → ((g : Forest) → Leaves true g (r g)) → (f : Forest)
    → flat_len f < n
    → flat_len f < m → times n r f ≡ times m r f
unfolding times
times_enough zero m r h f p q = absurd (omega arith)
times_enough (suc n) zero r h f p q = absurd (omega arith)
times_enough (suc n) (suc m) r h f p q =
    once_more_shorter f (r f) (times n r) (times m r) (h f) (λ g lt. times_enough n m r h g (omega arith) (omega arith))

pub no_longer : (f g : Forest) (s : ParseResult) → Leaves false f s → s ≡ Ok g → flat_len g ≤ flat_len f
no_longer f g s h e = let P : ParseResult → Type 0 = λ t. Leaves false f t in let l : Leaves false f (Ok g) =
    subst P e h in omega arith

pub shorter : (f g : Forest) (s : ParseResult) → Leaves true f s → s ≡ Ok g → flat_len g < flat_len f
shorter f g s h e = let P : ParseResult → Type 0 = λ t. Leaves true f t in let l : Leaves true f (Ok g) =
    subst P e h in omega arith

pub in_turn_on : (r : Forest → ParseResult) → ((g : Forest) → Leaves true g (r g)) → (f g : Forest) → r f ≡ Ok g
    → in_turn r f ≡ in_turn r g
unfolding in_turn times
in_turn_on r h f g e =
    ap (λ s. once_more s (times (flat_len f) r) f) e
    ∙ times_enough (flat_len f) (suc (flat_len g)) r h g (shorter f g (r f) (h f) e) (omega arith)

pub in_turn_ends : (r : Forest → ParseResult) (f : Forest) → r f ≡ Err NoMatch → in_turn r f ≡ Ok f
unfolding in_turn times
in_turn_ends r f e = ap (λ s. once_more s (times (flat_len f) r) f) e

pub in_turn_faults : (r : Forest → ParseResult) (f : Forest) → r f ≡ Err Fault → in_turn r f ≡ Err Fault
unfolding in_turn times
in_turn_faults r f e = ap (λ s. once_more s (times (flat_len f) r) f) e

-- where it ends, the rule doesn't stand once more
once_more_done : (f g : Forest) (s : ParseResult) (r more : Forest → ParseResult) → r f ≡ s → Leaves true f s
    → ((h : Forest) → flat_len h < flat_len f → more h ≡ Ok g → r g ≡ Err NoMatch)
    → once_more s more f ≡ Ok g → r g ≡ Err NoMatch
once_more_done f g (Ok h) r more e l k t = k h (omega arith) t
once_more_done f g (Err NoMatch) r more e l k t = cc
once_more_done f g (Err Fault) r more e l k t = cc

times_done : (n : ℕ) (r : Forest → ParseResult) → ((g : Forest) → Leaves true g (r g)) → (f g : Forest) → flat_len f < n
    → times n r f ≡ Ok g → r g ≡ Err NoMatch
unfolding times
times_done zero r h f g lt t = absurd (omega arith)
times_done (suc n) r h f g lt t = once_more_done f g (r f) r (times n r) refl (h f)
    (λ k le. times_done n r h k g (omega arith)) t

pub in_turn_done : (r : Forest → ParseResult) → ((g : Forest) → Leaves true g (r g)) → (f g : Forest) → in_turn r f
    ≡ Ok g
    → r g ≡ Err NoMatch
unfolding in_turn times
in_turn_done r h f g t = times_done (suc (flat_len f)) r h f g (omega arith) t

-- what each step leads to, and holds before the first
once_more_keeps : (P : Forest → Type 0) (f g : Forest) (s : ParseResult) (more : Forest → ParseResult) → P f
    → ((h : Forest) → s ≡ Ok h → P h) → ((h : Forest) → P h → more h ≡ Ok g → P g)
    → once_more s more f ≡ Ok g → P g
once_more_keeps P f g (Ok h) more here step k t = k h (step h refl) t
once_more_keeps P f g (Err NoMatch) more here step k t = let e : f ≡ g = cc in subst P e here
once_more_keeps P f g (Err Fault) more here step k t = cc

times_keeps : (P : Forest → Type 0) (n : ℕ) (r : Forest → ParseResult) → ((f g : Forest) → r f ≡ Ok g → P g)
    → (f g : Forest)
    → P f → times n r f ≡ Ok g → P g
unfolding times
times_keeps P zero r h f g here t = let e : f ≡ g = cc in subst P e here
times_keeps P (suc n) r h f g here t = once_more_keeps P f g (r f) (times n r) here (h f)
    (λ k now. times_keeps P n r h k g now) t

pub in_turn_keeps : (P : Forest → Type 0) (r : Forest → ParseResult) → ((f g : Forest) → r f ≡ Ok g → P g)
    → (f g : Forest)
    → P f → in_turn r f ≡ Ok g → P g
unfolding in_turn times
in_turn_keeps P r h f g here t = times_keeps P (suc (flat_len f)) r h f g here t

-- a repetition always is
once_more_placed : (f : Forest) (s : ParseResult) (more : Forest → ParseResult)
    → ((g : Forest) → require_match (more g) ≡ more g)
    → require_match (once_more s more f) ≡ once_more s more f
once_more_placed f (Ok g) more h = h g
once_more_placed f (Err NoMatch) more h = refl
once_more_placed f (Err Fault) more h = refl

times_stand : (n : ℕ) (r : Forest → ParseResult) (f : Forest) → require_match (times n r f) ≡ times n r f
unfolding times
times_stand zero r f = refl
times_stand (suc n) r f = once_more_placed f (r f) (times n r) (times_stand n r)

pub in_turn_placed : (r : Forest → ParseResult) (f : Forest) → require_match (in_turn r f) ≡ in_turn r f
unfolding in_turn times
in_turn_placed r f = times_stand (suc (flat_len f)) r f

-- ---- rules without a fault

-- whether a rule faults nowhere, if those parts don't
abbrev pub is_calm : {P : Type 0} → (P → Bool) → Rule P → Bool
is_calm calm (one p) = true
is_calm calm (puncts_of texts) = true
is_calm calm (through p) = false
is_calm calm to_closing_angle = false
is_calm calm (part x) = calm x
is_calm calm (r then s) = is_calm calm r && is_calm calm s
is_calm calm (r or s) = is_calm calm r && is_calm calm s
is_calm calm (maybe r) = is_calm calm r
is_calm calm (repeated r) = false
is_calm calm (needed r) = false
is_calm calm (ahead r) = is_calm calm r
is_calm calm (not_ahead r) = is_calm calm r

abbrev Calm : ParseResult → Type 0
Calm s = s ≡ Err Fault → ⊥

miss_calm : (x : Option Forest) → Calm (or_no_match x)
miss_calm None e = cc
miss_calm (Some rest) e = cc

then_calm : (s : ParseResult) (next : Forest → ParseResult) → Calm s → ((g : Forest) → Calm (next g))
    → Calm (s >>= next)
then_calm (Ok g) next h k e = k g e
then_calm (Err miss) next h k e = h e

or_calm : (s t : ParseResult) → Calm s → Calm t → Calm (or_else s t)
or_calm (Ok g) t h k e = h e
or_calm (Err NoMatch) t h k e = k e
or_calm (Err Fault) t h k e = h e

ahead_calm : (f : Forest) (s : ParseResult) → Calm s → Calm (if_match s f)
ahead_calm f (Ok g) h e = cc
ahead_calm f (Err miss) h e = h e

not_ahead_calm : (f : Forest) (s : ParseResult) → Calm s → Calm (unless_match s f)
not_ahead_calm f (Ok g) h e = cc
not_ahead_calm f (Err NoMatch) h e = cc
not_ahead_calm f (Err Fault) h e = h e

pub never_faults : {P : Type 0} (calm : P → Bool) (parts : P → Forest → ParseResult)
    → ((x : P) → calm x ≡ true → (f : Forest) → parts x f ≡ Err Fault → ⊥)
    → (r : Rule P) → is_calm calm r ≡ true → (f : Forest) → meaning parts r f ≡ Err Fault → ⊥
never_faults calm parts h (one p) b f = miss_calm _
never_faults calm parts h (puncts_of texts) b f = miss_calm _
never_faults calm parts h (through p) b f = cc
never_faults calm parts h to_closing_angle b f = cc
never_faults calm parts h (part x) b f = h x b f
never_faults calm parts h (r then s) b f =
    let (p, q) = both_true _ _ b in then_calm (meaning parts r f) (meaning parts s) (never_faults calm parts h r p f)
    (never_faults calm parts h s q)
never_faults calm parts h (r or s) b f =
    let (p, q) = both_true _ _ b in or_calm (meaning parts r f) (meaning parts s f) (never_faults calm parts h r p f)
    (never_faults calm parts h s q f)
never_faults calm parts h (maybe r) b f = or_calm (meaning parts r f) (Ok f) (never_faults calm parts h r b f) (λ e. cc)
never_faults calm parts h (repeated r) b f = cc
never_faults calm parts h (needed r) b f = cc
never_faults calm parts h (ahead r) b f = ahead_calm f (meaning parts r f) (never_faults calm parts h r b f)
never_faults calm parts h (not_ahead r) b f = not_ahead_calm f (meaning parts r f) (never_faults calm parts h r b f)
