-- What is left to be written, as trees are stripped one front after another.
use Rattle.std.proofs.Common.{ℕ, zero, suc, ◌-◌, ◌≡◌, ◌<◌, ◌≤◌, List, ◌++◌, length, Some, refl, ap, sym, ◌∙◌}
use Rattle.std.proofs.Common.{append_assoc, append-nil, arith}
use Rattle.std.proofs.lemmas.Bool.{lt-ltb, le-ltb}
use Rattle.std.specs.Prelude.{true, Option, option_map, Result, Ok, Err, OnOk}
use Rattle.mbe_tt.specs.Buffers.GroupStack.{GroupStack, put}
use Rattle.mbe_tt.specs.Grammars.Grammar.{Grammar}
use Rattle.mbe_tt.specs.Trees.Tree.{Forest, Tree, none, leaf, group, tree, append, first, rest_of, flat_len}
use Rattle.mbe_tt.proofs.Buffers.Built.{length-put}
use Rattle.mbe_tt.proofs.Buffers.Grown.{put-none, put-put}
use Rattle.mbe_rewriter.specs.MacroItems.{FrontItem, front, Other}
use Rattle.mbe_cfg.specs.declared.cfg_options.CfgOptions.{CfgOptions}
use Rattle.mbe_cfg.specs.declared.cfg_fault.CfgFault.{CfgFault}
use Rattle.mbe_cfg.specs.CfgStrip.{Stripped, unchanged, up_to, is_disabled, disabled_or_tree, step_by, step, step_then}
use Rattle.mbe_cfg.specs.CfgStrip.{steps, stripped}
use Rattle.mbe_cfg.specs.TreeFront.{is_empty}

pub one_more : (n : ℕ) → 0 < n → n ≡ suc (n - 1)
one_more n h = omega (arith, h)

-- ---- one front

pub on_ok : {T E P : Type 0} (r : Result T E) → P → OnOk r P
on_ok (Ok x) p = p
on_ok (Err e) p = tt

-- where nothing of a front stays, nothing is written
pub no_kept : (within : Forest → Stripped) (s : CfgOptions) (g : Grammar) (f : Forest) (x : FrontItem)
    (old : GroupStack)
    → front f ≡ x → (step_by within s g f x).kept ≡ none → old ≡ put (step within s g f).kept old
no_kept within s g f x old e nothing =
    put-none old ∙ ap (λ k. put k old) (sym nothing) ∙ ap (λ y. put (step_by within s g f y).kept old) (sym e)

-- nothing of what is off stays
pub off_kept : (within : Forest → Stripped) (s : CfgOptions) (g : Grammar) (f rest : Forest) (t : Tree)
    (old : GroupStack)
    → front f ≡ Other t rest → is_disabled s f ≡ true → old ≡ put (step within s g f).kept old
off_kept within s g f rest t old e off =
    no_kept within s g f (Other t rest) old e (ap (λ b. (disabled_or_tree within s g f t rest b).kept) off)

-- ---- fronts

-- what is written of some trees, once what stays of the others is, is what is to be written of all; and so for faults
pub record ModuleCursor (within : Forest
    → Stripped) (s : CfgOptions) (g : Grammar) (all : ℕ) (f : Forest) (old : GroupStack)
    (before : List CfgFault) (left : ℕ) (rest : Forest) (now : GroupStack) (found : List CfgFault) : Type 0 where
  pub same : put (steps within s g left rest).kept now ≡ put (steps within s g all f).kept old
  pub noted : found ++ (steps within s g left rest).faults ≡ before ++ (steps within s g all f).faults
  pub groups : length now ≡ length old

steps_suc : (within : Forest → Stripped) (s : CfgOptions) (g : Grammar) (n : ℕ) (f : Forest)
    → step_then (step within s g f) (steps within s g n (step within s g f).rest) ≡ steps within s g (suc n) f
unfolding steps
steps_suc within s g n f = refl

steps_none : (within : Forest → Stripped) (s : CfgOptions) (g : Grammar) (f : Forest)
    → unchanged none ≡ steps within s g 0 f
unfolding steps
steps_none within s g f = refl

-- one front more, where some are left
steps_more : (within : Forest → Stripped) (s : CfgOptions) (g : Grammar) (left : ℕ) (rest : Forest) → 0 < left
    → step_then (step within s g rest) (steps within s g (left - 1) (step within s g rest).rest)
    ≡ steps within s g left rest
steps_more within s g left rest some =
    steps_suc within s g (left - 1) rest ∙ ap (λ n. steps within s g n rest) (sym (one_more left some))

-- one front on
pub front_on : (within : Forest → Stripped) (s : CfgOptions) (g : Grammar) (all : ℕ) (f : Forest) (old : GroupStack)
    (before : List CfgFault) (left : ℕ) (rest after : Forest) (now next : GroupStack) (found more : List CfgFault)
    → 0 < left
    → ModuleCursor within s g all f old before left rest now found
    → next ≡ put (step within s g rest).kept now → more ≡ found ++ (step within s g rest).faults
    → after ≡ (step within s g rest).rest
    → ModuleCursor within s g all f old before (left - 1) after next more
front_on within s g all f old before left rest after now next found more some h e m r =
    let one = step within s g rest in
    let others = steps within s g (left - 1) in
    let whole = steps_more within s g left rest some in
    record {
      same = ap (λ x. put (others x).kept next) r ∙ ap (put (others one.rest).kept) e
          ∙ put-put one.kept (others one.rest).kept now ∙ ap (λ x. put x.kept now) whole ∙ h.same;
      noted = ap (λ x. more ++ (others x).faults) r ∙ ap (λ x. x ++ (others one.rest).faults) m
          ∙ append_assoc found one.faults (others one.rest).faults ∙ ap (λ x. found ++ x.faults) whole ∙ h.noted;
      groups = ap length e ∙ length-put now one.kept ∙ h.groups;
    }

-- nothing is left
pub no_steps : (within : Forest → Stripped) (s : CfgOptions) (g : Grammar) (left : ℕ) (rest : Forest) → left ≡ 0
    → unchanged none ≡ steps within s g left rest
no_steps within s g left rest e = steps_none within s g rest ∙ ap (λ n. steps within s g n rest) (sym e)

empty_none : (f : Forest) → is_empty f ≡ true → none ≡ f
empty_none none e = refl
empty_none (leaf l rest) e = cc
empty_none (group d inside rest) e = cc

steps_of_none : (within : Forest → Stripped) (s : CfgOptions) (g : Grammar) (left : ℕ)
    → unchanged none ≡ steps within s g left none
unfolding steps
steps_of_none within s g zero = refl
steps_of_none within s g (suc left) = ap (step_then (step within s g none)) (steps_of_none within s g left)

-- no trees are left
pub no_trees : (within : Forest → Stripped) (s : CfgOptions) (g : Grammar) (left : ℕ) (rest : Forest)
    → is_empty rest ≡ true → unchanged none ≡ steps within s g left rest
no_trees within s g left rest e = steps_of_none within s g left ∙ ap (steps within s g left) (empty_none rest e)

pub ended : (within : Forest → Stripped) (s : CfgOptions) (g : Grammar) (all : ℕ) (f : Forest) (old : GroupStack)
    (before : List CfgFault) (left : ℕ) (rest : Forest) (now : GroupStack) (found : List CfgFault)
    → unchanged none ≡ steps within s g left rest → ModuleCursor within s g all f old before left rest now found
    → now ≡ put (steps within s g all f).kept old
ended within s g all f old before left rest now found e h = put-none now ∙ ap (λ x. put x.kept now) e ∙ h.same

pub ended_faults : (within : Forest → Stripped) (s : CfgOptions) (g : Grammar) (all : ℕ) (f : Forest) (old : GroupStack)
    (before : List CfgFault) (left : ℕ) (rest : Forest) (now : GroupStack) (found : List CfgFault)
    → unchanged none ≡ steps within s g left rest → ModuleCursor within s g all f old before left rest now found
    → found ≡ before ++ (steps within s g all f).faults
ended_faults within s g all f old before left rest now found e h =
    sym (append-nil found) ∙ ap (λ x. found ++ x.faults) e ∙ h.noted

pub stripped_suc : (s : CfgOptions) (g : Grammar) (levels : ℕ) (f : Forest)
    → steps (stripped s g levels) s g (flat_len f) f ≡ stripped s g (suc levels) f
unfolding stripped
stripped_suc s g levels f = refl

stripped_zero : (s : CfgOptions) (g : Grammar) (f : Forest) → unchanged f ≡ stripped s g 0 f
unfolding stripped
stripped_zero s g f = refl

-- too deep
pub stripped_none : (s : CfgOptions) (g : Grammar) (levels : ℕ) (f : Forest) → levels ≡ 0
    → unchanged f ≡ stripped s g levels f
stripped_none s g levels f e = stripped_zero s g f ∙ ap (λ n. stripped s g n f) (sym e)

-- ---- trees that stay as they are

up_to_none : (n : ℕ) (f : Forest) → flat_len f ≤ n → none ≡ up_to n f
up_to_none n none h = refl
up_to_none n (leaf l rest) h = rw (le-ltb n (flat_len (leaf l rest)) h) refl
up_to_none n (group d inside rest) h = rw (le-ltb n (flat_len (group d inside rest)) h) refl

-- what is written of some trees, once the others are, is what is to be written
pub record Copying (n : ℕ) (f : Forest) (old : GroupStack) (rest : Forest) (now : GroupStack) : Type 0 where
  pub same : put (up_to n rest) now ≡ put (up_to n f) old

pub copied : (n : ℕ) (f rest : Forest) (old now : GroupStack) → Copying n f old rest now → flat_len rest ≤ n
    → now ≡ put (up_to n f) old
copied n f rest old now h few = put-none now ∙ ap (λ x. put x now) (up_to_none n rest few) ∙ h.same

-- the first tree of some as a list of one
abbrev pub first_alone : Forest → Option Forest
first_alone f = option_map (λ t. tree t none) (first f)

up_to_more : (n : ℕ) (f view : Forest) → Some view ≡ first_alone f → n < flat_len f
    → append view (up_to n (rest_of f)) ≡ up_to n f
up_to_more n none view e h = cc
up_to_more n (leaf l rest) view e h =
    let same : view ≡ leaf l none = cc in
    ap (λ v. append v (up_to n rest)) same ∙ rw (lt-ltb n (flat_len (leaf l rest)) h) refl
up_to_more n (group d inside rest) view e h =
    let same : view ≡ group d inside none = cc in
    ap (λ v. append v (up_to n rest)) same ∙ rw (lt-ltb n (flat_len (group d inside rest)) h) refl

-- one tree on
pub copied_on : (n : ℕ) (f rest after view : Forest) (old now next : GroupStack) → Copying n f old rest now
    → Some view ≡ first_alone rest → n < flat_len rest → after ≡ rest_of rest → next ≡ put view now
    → Copying n f old after next
copied_on n f rest after view old now next h is more r e = record {
  same = ap (λ x. put (up_to n x) next) r ∙ ap (put (up_to n (rest_of rest))) e
      ∙ put-put view (up_to n (rest_of rest)) now ∙ ap (λ x. put x now) (up_to_more n rest view is more) ∙ h.same;
}
