-- The steps of a position are those of its outline.
use Rattle.std.proofs.Common.{ℕ, zero, suc, ◌+◌, ◌-◌, ◌≡◌, ◌≤◌, ◌<◌, true, false, Option, Some, None, option_map}
use Rattle.std.proofs.Common.{option_to_list, List, [], ◌∷◌, ◌++◌, length, get_or, take, drop, Bor, refl, sym, ap}
use Rattle.std.proofs.Common.{subst, ◌∙◌, arith}
use Rattle.std.specs.Prelude.{slice_get, is_some}
use Rattle.std.specs.Option.{option_copied}
use Rattle.std.proofs.lemmas.Option.{none-some, same_Some, slice_get_within}
use Rattle.mbe_semantics.specs.declared.fragment_kinds.MetaVarKind.{MetaVarKind}
use Rattle.mbe_semantics.specs.declared.fragment_kinds.RepeatKind.{RepeatKind}
use Rattle.mbe_semantics.specs.declared.fragment_kinds.RepeatKind.TheVariants.{ZeroOrMore, OneOrMore, ZeroOrOne}
use Rattle.mbe_tt.specs.declared.grammar.Dialect.{Dialect}
use Rattle.mbe_tt.specs.declared.span.Span.{Span}
use Rattle.mbe_tt.specs.declared.tt.Delimiter.{Delimiter}
use Rattle.mbe_tt.specs.Trees.Tree.{Forest, append, flat_len, rest_at, Cut}
use Rattle.mbe_tt.specs.Views.View.{trees}
use Rattle.mbe_tt.specs.Laws.TreeLaws.{IsCut}
use Rattle.mbe_tt.specs.declared.view.TokenTreesView.{TokenTreesView}
use Rattle.mbe_tt.specs.Grammars.Grammar.{Grammar}
use Rattle.mbe_semantics.specs.Syntax.Op.{Name, Separator, Op, Ops, no_ops, op, token, group, variable, repetition}
use Rattle.mbe_semantics.specs.Syntax.Op.{expression, names_of}
use Rattle.mbe_semantics.specs.Readings.Fit.{separator_front_in, between_front}
use Rattle.mbe_semantics.specs.Fragments.Kinds.{style_of}
use Rattle.mbe_semantics.specs.Readings.Item.{Fragment}
use Rattle.mbe_semantics.specs.Readings.Input.{Input, input_of, length_of, fragment_of}
use Rattle.mbe_semantics.specs.Readings.Steps.{if_none, skip_of, another_round}
use Rattle.mbe_semantics.proofs.InputLemmas.{length_from}
use Rattle.mbe_semantics.proofs.MoveLemmas.{separator_moves_in}
use Rattle.mbe_semantics.specs.Bindings.Account.{Account, no_account, Command, pushed, pushed_default, pushed_nested}
use Rattle.mbe_semantics.specs.Bindings.Account.{Log, Handle, IsAccount, HasEntriesOf}
use Rattle.mbe_semantics.specs.Matching.States.{op_state_count, state_count, frames_after}
use Rattle.mbe_semantics.specs.Matching.ThreadModel.{ModelFrame, group_frame, repetition_frame, ThreadModel}
use Rattle.mbe_semantics.specs.Matching.ThreadModel.{thread_model, Advance, advance, skipped, empty_token, over_advance}
use Rattle.mbe_semantics.specs.Matching.ThreadModel.{empty_bound, bound_advance, if_some_advance, round_advance}
use Rattle.mbe_semantics.specs.Matching.ThreadModel.{when_advance}
use Rattle.mbe_log.specs.HandleChanges.{IsUpdatedHandle}
use Rattle.mbe_log.proofs.ClientLemmas as client
use Rattle.mbe_ops.specs.declared.ops.Op as code
use Rattle.mbe_ops.specs.declared.ops.Separator as between
use Rattle.mbe_ops.specs.Views.{MatchesCut, op_of, ops_of, separator_seen}
use Rattle.mbe_threads.specs.declared.thread.Thread.{Thread}
use Rattle.mbe_threads.specs.declared.thread.ThreadFrame.{ThreadFrame}
use Rattle.mbe_threads.specs.declared.thread.OpenRepetition.{OpenRepetition}
use Rattle.mbe_threads.specs.declared.thread.Steps.{Steps}
use Rattle.mbe_threads.specs.declared.thread.TokenStep.{TokenStep}
use Rattle.mbe_matcher.specs.Fronts.{op_width, if_again}
use Rattle.mbe_matcher.specs.Threads.{Each, Both, AreRounds, frame_in, IsBelow, open_items, AreFrames, none_open}
use Rattle.mbe_matcher.specs.Threads.{group_open, repetition_open, IsModelled, Shows, IsThread, LeadsTo, Holds}
use Rattle.mbe_matcher.specs.Threads.{epsilons_in, AreStepsNow, Keeps, AreSteps, IsPlain, IsAtMostOver, over_steps}
use Rattle.mbe_matcher.specs.Threads.{IsSkip}
use Rattle.mbe_threads.specs.Remainder.{IsRemainder}
use Rattle.mbe_matcher.specs.Rewrites.{IsRewritten}
use Rattle.mbe_matcher.proofs.Keeping.{kept_not, grows_not, each_weaker, shows_keep, edges_keep}

abbrev pub none_steps : {A : Type 0} → Steps A
none_steps = record { first = None; second = None; next = None; done = None }

-- ---- dots

pub some_states : (os : Ops) → 1 ≤ state_count os
some_states no_ops = omega arith
some_states (op o os) = omega arith

plain_states : (o : Op) → IsPlain o → op_state_count o ≡ 0
plain_states (token t) h = refl
plain_states (expression e) h = refl
plain_states (group d b) h = absurd h
plain_states (variable name kind span) h = absurd h
plain_states (repetition b s k) h = absurd h

-- ---- outlines

module _ {A : Type 0} (log : Log) (frames : List (ThreadFrame A)) where
  -- a position whose ops are known
  pub as_model : (P : ThreadModel → Type 0) (p : Thread A) (os : Ops) (o : ThreadModel) → Shows log frames p o
      → ops_of p.tail.now ≡ os →
      ((a : Account) (up : List ModelFrame) → IsModelled log frames p os a up → P (thread_model os a up)) → P o
  as_model P p os (thread_model rest a up) s e f =
      subst (λ x. P (thread_model x a up)) (sym e ∙ s.tail)
      (f a up (subst (λ x. IsModelled log frames p x a up) (sym s.tail ∙ e) s))

  pub has_entries : (p : Thread A) → IsThread log frames p → HasEntriesOf log p.handle
  has_entries p (thread_model rest a up, s) = client.has_entries log p.handle a s.account

  pub has_account : (p : Thread A) → IsThread log frames p → (a : Account) × IsAccount log p.handle a
  has_account p (thread_model rest a up, s) = (a, s.account)

  pub has_number : (p : Thread A) → IsThread log frames p → 1 ≤ p.number
  has_number p (thread_model rest a up, s) = let d = some_states rest in let n = s.number in omega (arith, d, n)

  pub has_more : (p : Thread A) (b rest : Ops) (s : Option Separator) (k : RepeatKind) → IsThread log frames p
      → ops_of p.tail.now ≡ op (repetition b s k) rest →
      1 + state_count b ≤ p.number
  has_more p b rest s k (o, h) e = as_model (λ x. 1 + state_count b ≤ p.number) p (op (repetition b s k) rest) o h e
      (λ a up t. let n = t.number in omega (arith, n))

  -- after an op without dots
  pub placed_past : (p : Thread A) (o : Op) (rest : Ops) (a b : Account) (up : List ModelFrame) (h : Handle)
      (r : Bor (List (code.Op A))) → IsModelled log frames p (op o rest) a up → op_state_count o ≡ 0 →
      ops_of r.now ≡ rest → IsAccount log h b →
      IsModelled log frames (record { tail = r; number = p.number - 1; up = p.up; handle = h }) rest b up
  placed_past p o rest a b up h r s z e i =
      record { tail = e; number = (let n = s.number in omega (arith, n, z)); account = i; around = s.around }

module _ {A : Type 0} (log : Log) (frames : List (ThreadFrame A)) where
  -- after an op that is a token
  pub plain_past : (p : Thread A) (o : Op) (a : Account) (up : List ModelFrame) (r : Bor (List (code.Op A))) → IsPlain o
      → IsModelled log frames p (op o (ops_of r.now)) a up →
      IsModelled log frames (record { tail = r; number = p.number - 1; up = p.up; handle = p.handle }) (ops_of r.now) a
      up
  plain_past p o a up r h s = placed_past log frames p o (ops_of r.now) a a up p.handle r s (plain_states o h) refl
      s.account

-- after a variable
pub variable_past : {A : Type 0} (old new : Log) (frames : List (ThreadFrame A)) (p : Thread A) (name : Name)
    (kind : Option MetaVarKind) (span : Span) (a : Account) (up : List ModelFrame) (x : Fragment)
    (r : Bor (List (code.Op A))) (h : Handle) → IsUpdatedHandle old new p.handle h (pushed (Command.binds name x))
    → IsModelled old frames p (op (variable name kind span) (ops_of r.now)) a up →
    IsModelled new frames (record { tail = r; number = p.number - 1; up = p.up; handle = h }) (ops_of r.now)
    (pushed (Command.binds name x) a) up
variable_past old new frames p name kind span a up x r h c s = record {
  tail = refl;
  number = (let n = s.number in omega (arith, n));
  account = c.account a s.account;
  around = edges_keep old new frames frames (record { log = c.kept; frames = grows_not frames }) s.around;
}

-- ---- over tokens

pub over_some : {A : Type 0} (n : ℕ) (b : Option Forest) (p : Thread A) → (n ≡ 0 → ⊥) →
    (let s : Steps A = record {
      first = None;
      second = None;
      next = Some (record { width = n; beyond = b; after = p });
      done = None;
    } in s) ≡ over_steps n b p
over_some zero b p h = absurd (h refl)
over_some (suc n) b p h = refl

pub over_none : {A : Type 0} (n : ℕ) (b : Option Forest) (p : Thread A) → n ≡ 0 →
    (let s : Steps A = record { first = Some p; second = None; next = None; done = None } in s) ≡ over_steps n b p
over_none zero b p h = refl
over_none (suc n) b p h = absurd (omega arith)

-- with a step over some token, there is no other one
pub over_alone : {A : Type 0} (n : ℕ) (b : Option Forest) (p : Thread A) → IsAtMostOver (over_steps n b p)
over_alone zero b p = tt
over_alone (suc n) b p = refl

module _ {A : Type 0} (argument : Forest) (q : ℕ) (log : Log) (frames : List (ThreadFrame A)) where
  over_epsilon : (n : ℕ) (b : Option Forest) (p : Thread A) (o : ThreadModel) → Shows log frames p o
      → Each (Shows log frames) (epsilons_in (over_steps n b p)) (if_none n o)
  over_epsilon zero b p o h = (h, tt)
  over_epsilon (suc n) b p o h = tt

  over_next : (n : ℕ) (b : Option Forest) (p : Thread A) (o : ThreadModel) → Shows log frames p o
      → IsRemainder (rest_at argument q) n b →
      Both (LeadsTo log frames (rest_at argument q)) (over_steps n b p).next (if_some_advance (is_some b) n o)
  over_next zero b p o h l = tt
  over_next (suc n) b p o h l = record { width_is = refl; fragment_is = refl; left = l; after = h }

  over_done : (n : ℕ) (b : Option Forest) (p : Thread A) → Both (Holds log) (over_steps n b p).done None
  over_done zero b p = tt
  over_done (suc n) b p = tt

  module _ (g : Grammar) where
    pub plain_none : (o : Op) (rest : Ops) (a : Account) (up : List ModelFrame) → IsPlain o
        → None ≡ op_width g.dialect o (rest_at argument q) →
        AreStepsNow (input_of g argument) argument q log frames (thread_model (op o rest) a up) none_steps
    plain_none (token t) rest a up h e = record {
      epsilons = subst (λ w. Each (Shows log frames) [] (empty_token w (thread_model rest a up))) e tt;
      next = subst (λ w. Both (LeadsTo log frames (rest_at argument q)) None (over_advance w (thread_model rest a up)))
          e tt;
      done = tt;
    }
    plain_none (expression x) rest a up h e = record { epsilons = tt; next = tt; done = tt }
    plain_none (group d b) rest a up h e = absurd h
    plain_none (variable name kind span) rest a up h e = absurd h
    plain_none (repetition b s k) rest a up h e = absurd h

    pub plain_over : (o : Op) (rest : Ops) (a : Account) (up : List ModelFrame) (n : ℕ) (p : Thread A) → IsPlain o
        → Some n ≡ op_width g.dialect o (rest_at argument q) →
        Shows log frames p (thread_model rest a up)
        → AreStepsNow (input_of g argument) argument q log frames (thread_model (op o rest) a up) (over_steps n None p)
    plain_over (token t) rest a up n p h e s = record {
      epsilons =
          subst (λ w. Each (Shows log frames) (epsilons_in (over_steps n None p))
          (empty_token w (thread_model rest a up))) e
          (over_epsilon n None p (thread_model rest a up) s);
      next = subst (λ w. Both (LeadsTo log frames (rest_at argument q)) (over_steps n None p).next
          (over_advance w (thread_model rest a up))) e (over_next n None p (thread_model rest a up) s tt);
      done = over_done n None p;
    }
    plain_over (expression x) rest a up n p h e s = absurd (none-some n (sym e))
    plain_over (group d b) rest a up n p h e s = absurd h
    plain_over (variable name kind span) rest a up n p h e s = absurd h
    plain_over (repetition b k j) rest a up n p h e s = absurd h

  module _ (i : Input) where
    pub group_none : (d : Delimiter) (b rest : Ops) (a : Account) (up : List ModelFrame) → i.opens_at d.kind q ≡ false →
        AreStepsNow i argument q log frames (thread_model (op (group d b) rest) a up) none_steps
    group_none d b rest a up e = record {
      epsilons = tt;
      next = subst (λ t. Both (LeadsTo log frames (rest_at argument q)) None
          (when_advance t (advance 1 false (thread_model b a (group_frame rest ∷ up))))) (sym e) tt;
      done = tt;
    }

    pub group_over : (d : Delimiter) (b rest : Ops) (a : Account) (up : List ModelFrame) (p : Thread A)
        → i.opens_at d.kind q ≡ true → Shows log frames p (thread_model b a (group_frame rest ∷ up)) →
        AreStepsNow i argument q log frames (thread_model (op (group d b) rest) a up) (over_steps 1 None p)
    group_over d b rest a up p e s = record {
      epsilons = tt;
      next = subst (λ t. Both (LeadsTo log frames (rest_at argument q)) (over_steps 1 None p).next
          (when_advance t (advance 1 false (thread_model b a (group_frame rest ∷ up))))) (sym e)
          (over_next 1 None p (thread_model b a (group_frame rest ∷ up)) s tt);
      done = tt;
    }

    pub variable_none : (name : Name) (kind : Option MetaVarKind) (span : Span) (rest : Ops) (a : Account)
        (up : List ModelFrame) → None ≡ i.fragment_at kind q →
        AreStepsNow i argument q log frames (thread_model (op (variable name kind span) rest) a up) none_steps
    variable_none name kind span rest a up e = record {
      epsilons = subst (λ x. Each (Shows log frames) [] (empty_bound name x rest a up)) e tt;
      next = subst (λ x. Both (LeadsTo log frames (rest_at argument q)) None (bound_advance name x rest a up)) e tt;
      done = tt;
    }

    pub variable_over : (name : Name) (kind : Option MetaVarKind) (span : Span) (rest : Ops) (a : Account)
        (up : List ModelFrame) (x : Fragment) (n : ℕ) (beyond : Forest) (p : Thread A) →
        Some x ≡ i.fragment_at kind q → n ≡ flat_len x.trees → IsRemainder (rest_at argument q) n (Some beyond) →
        Shows log frames p (thread_model rest (pushed (Command.binds name x) a) up) →
        AreStepsNow i argument q log frames (thread_model (op (variable name kind span) rest) a up)
        (over_steps n (Some beyond) p)
    variable_over name kind span rest a up x n beyond p e w l s = record {
      epsilons = subst (λ y. Each (Shows log frames) (epsilons_in (over_steps n (Some beyond) p))
          (empty_bound name y rest a up)) e
          (subst (λ m. Each (Shows log frames) (epsilons_in (over_steps n (Some beyond) p))
          (if_none m (thread_model rest (pushed (Command.binds name x) a) up))) w
          (over_epsilon n (Some beyond) p (thread_model rest (pushed (Command.binds name x) a) up) s));
      next = subst (λ y. Both (LeadsTo log frames (rest_at argument q)) (over_steps n (Some beyond) p).next
          (bound_advance name y rest a up)) e
          (subst (λ m. Both (LeadsTo log frames (rest_at argument q)) (over_steps n (Some beyond) p).next
          (if_some_advance true m (thread_model rest (pushed (Command.binds name x) a) up))) w
          (over_next n (Some beyond) p (thread_model rest (pushed (Command.binds name x) a) up) s l));
      done = over_done n (Some beyond) p;
    }

-- ---- open items

module _ {A : Type 0} (log : Log) (frames : List (ThreadFrame A)) where
  pub none_around : (u : Option ℕ) (es : List ModelFrame) → AreFrames log frames u es → u ≡ None → es ≡ []
  none_around u es none_open e = refl
  none_around u es (group_open n o up at r below around) e = absurd (none-some n (sym e))
  none_around u es (repetition_open n o r began a up at e rounds below around) k = absurd (none-some n (sym k))

  pub is_within : (u : Option ℕ) (es : List ModelFrame) (n : ℕ) → AreFrames log frames u es → u ≡ Some n
      → n < length frames
  is_within u es n none_open e = absurd (none-some n e)
  is_within u es n (group_open m o up at r below around) e =
      subst (λ k. k < length frames) (same_Some m n e) (slice_get_within frames m o at)
  is_within u es n (repetition_open m o r began a up at k rounds below around) e =
      subst (λ k. k < length frames) (same_Some m n e) (slice_get_within frames m o at)

  same_outer : (m n : ℕ) (o p : ThreadFrame A) → m ≡ n → slice_get frames m ≡ Some o → slice_get frames n ≡ Some p → o
      ≡ p
  same_outer m n o p e f h = same_Some o p (sym f ∙ ap (slice_get frames) e ∙ h)

  pub around_within : (u : Option ℕ) (es : List ModelFrame) → AreFrames log frames u es → IsBelow u (length frames)
  around_within u es none_open = tt
  around_within u es (group_open n o up at r below around) = slice_get_within frames n o at
  around_within u es (repetition_open n o r began a up at e rounds below around) = slice_get_within frames n o at

  -- the one around it is before it
  pub up_below : (u : Option ℕ) (es : List ModelFrame) (n : ℕ) (o : ThreadFrame A) → AreFrames log frames u es → u
      ≡ Some n
      → slice_get frames n ≡ Some o → IsBelow o.up n
  up_below u es n o none_open e at = absurd (none-some n e)
  up_below u es n o (group_open m p up got r below around) e at =
      subst (IsBelow o.up) (same_Some m n e)
      (subst (λ (x : ThreadFrame A). IsBelow x.up m) (same_outer m n p o (same_Some m n e) got at) below)
  up_below u es n o (repetition_open m p r began a up got f rounds below around) e at =
      subst (IsBelow o.up) (same_Some m n e)
      (subst (λ (x : ThreadFrame A). IsBelow x.up m) (same_outer m n p o (same_Some m n e) got at) below)

  -- the innermost open item is a group
  pub record InGroup (o : ThreadFrame A) (es : List ModelFrame) : Type 0 where
    pub up : List ModelFrame
    pub is : es ≡ group_frame (ops_of o.rest.now) ∷ up
    pub around : AreFrames log frames o.up up

  -- the innermost open item is a repetition
  pub record InRounds (o : ThreadFrame A) (r : OpenRepetition A) (es : List ModelFrame) : Type 0 where
    pub up : List ModelFrame
    pub began : ℕ
    pub outside : Account
    pub is : es ≡ frame_in r (ops_of o.rest.now) began outside ∷ up
    pub rounds : AreRounds log r (ops_of o.rest.now) outside up
    pub around : AreFrames log frames o.up up

  pub in_group : (u : Option ℕ) (es : List ModelFrame) (n : ℕ) (o : ThreadFrame A) → AreFrames log frames u es → u
      ≡ Some n
      → slice_get frames n ≡ Some o → o.rounds ≡ None → InGroup o es
  in_group u es n o none_open e at k = absurd (none-some n e)
  in_group u es n o (group_open m p up at r below around) e h k =
      subst (λ x. InGroup x (group_frame (ops_of p.rest.now) ∷ up)) (same_outer m n p o (same_Some m n e) at h)
      (record { up = up; is = refl; around = around })
  in_group u es n o (repetition_open m p r began a up at f rounds below around) e h k =
      absurd (none-some r (sym k ∙ ap (λ (x : ThreadFrame A). x.rounds)
      (sym (same_outer m n p o (same_Some m n e) at h))
      ∙ f))

  pub in_rounds : (u : Option ℕ) (es : List ModelFrame) (n : ℕ) (o : ThreadFrame A) (r : OpenRepetition A)
      → AreFrames log frames u es
      → u ≡ Some n → slice_get frames n ≡ Some o → o.rounds ≡ Some r →
      InRounds o r es
  in_rounds u es n o r none_open e at k = absurd (none-some n e)
  in_rounds u es n o r (group_open m p up at f below around) e h k =
      absurd (none-some r (sym f ∙ ap (λ (x : ThreadFrame A). x.rounds) (same_outer m n p o (same_Some m n e) at h)
      ∙ k))
  in_rounds u es n o r (repetition_open m p s began a up at f rounds below around) e h k =
      let same = same_outer m n p o (same_Some m n e) at h in
      let one = same_Some s r (sym f ∙ ap (λ (x : ThreadFrame A). x.rounds) same ∙ k) in
      subst (λ x. InRounds x r (frame_in s (ops_of p.rest.now) began a ∷ up)) same
      (subst (λ y. InRounds p y (frame_in s (ops_of p.rest.now) began a ∷ up)) one
      (record { up = up; began = began; outside = a; is = refl; rounds = rounds; around = around }))

  pub has_within : (p : Thread A) (n : ℕ) → IsThread log frames p → p.up ≡ Some n → n < length frames
  has_within p n (thread_model rest a up, s) e = is_within p.up up n s.around e

  pub outside_has_entries : (p : Thread A) (n : ℕ) (o : ThreadFrame A) (r : OpenRepetition A) → IsThread log frames p
      → p.up ≡ Some n → slice_get frames n ≡ Some o → o.rounds ≡ Some r → HasEntriesOf log r.outside
  outside_has_entries p n o r (thread_model rest a up, s) e at is =
      let w = in_rounds p.up up n o r s.around e at is in client.has_entries log r.outside w.outside w.rounds.account

-- ---- open items that are given back

got_cut : {X : Type 0} (xs : List X) (n m : ℕ) (x : X) → m < n → slice_get xs m ≡ Some x
    → slice_get (take n xs) m ≡ Some x
got_cut [] n m x l e = absurd (none-some x e)
got_cut (y ∷ xs) zero m x l e = absurd (omega (arith, l))
got_cut (y ∷ xs) (suc n) zero x l e = e
got_cut (y ∷ xs) (suc n) (suc m) x l e = got_cut xs n m x (omega (arith, l)) e

below_on : (u : Option ℕ) (m n : ℕ) → IsBelow u m → m < n → IsBelow u n
below_on None m n b l = tt
below_on (Some k) m n b l = omega (arith, b, l)

-- those that are left go around what is below them
pub edges_cut : {A : Type 0} (log : Log) (frames : List (ThreadFrame A)) (n : ℕ) (u : Option ℕ) (es : List ModelFrame)
    → AreFrames log frames u es → IsBelow u n → AreFrames log (take n frames) u es
edges_cut log frames n u es none_open b = none_open
edges_cut log frames n u es (group_open m o up at r below around) b =
    group_open m o up (got_cut frames n m o b at) r below
    (edges_cut log frames n o.up up around (below_on o.up m n below b))
edges_cut log frames n u es (repetition_open m o r began a up at e rounds below around) b =
    repetition_open m o r began a up (got_cut frames n m o b at) e rounds below
    (edges_cut log frames n o.up up around (below_on o.up m n below b))

pub shows_cut : {A : Type 0} (log : Log) (frames : List (ThreadFrame A)) (n : ℕ) (p : Thread A) (o : ThreadModel)
    → Shows log frames p o → IsBelow p.up n → Shows log (take n frames) p o
shows_cut log frames n p (thread_model rest a up) s b =
    record { tail = s.tail; number = s.number; account = s.account; around = edges_cut log frames n p.up up s.around b }

pub only_cut : {A : Type 0} (log : Log) (frames : List (ThreadFrame A)) (n : ℕ) (todo : List (Thread A)) (p : Thread A)
    (os : List ThreadModel) → todo ≡ p ∷ [] → IsBelow p.up n → Each (Shows log frames) todo os
    → Each (Shows log (take n frames)) todo os
only_cut {A} log frames n todo p os only below h =
    subst (λ l. Each (Shows log (take n frames)) l os) (sym only)
    (go os (subst (λ l. Each (Shows log frames) l os) only h))
  where
    go : (os : List ThreadModel) → Each (Shows log frames) (p ∷ []) os → Each (Shows log (take n frames)) (p ∷ []) os
    go [] h = h
    go (o ∷ []) h = (shows_cut log frames n p o h.0 below, tt)
    go (o ∷ x ∷ os) h = absurd h.1

pub below_open : (u : Option ℕ) → IsBelow u (open_items u)
below_open None = tt
below_open (Some n) = omega arith

-- what waits alone has its open items among the outer ones
pub leads_within : {A : Type 0} (log : Log) (frames : List (ThreadFrame A)) (here : Forest) (w : TokenStep A)
    (moves : List Advance) → Each (LeadsTo log frames here) (w ∷ []) moves → IsBelow w.after.up (length frames)
leads_within log frames here w [] h = absurd h
leads_within log frames here w (advance n b (thread_model rest a up) ∷ moves) h =
    around_within log frames w.after.up up h.0.after.around

-- one outer item more
pub last_outer : {A : Type 0} (frames all : List (ThreadFrame A)) (o : ThreadFrame A) (n : ℕ) → all ≡ frames ++ o ∷ []
    → n ≡ length frames → slice_get all n ≡ Some o
last_outer {A} frames all o n e l = ap (λ xs. slice_get xs n) e ∙ ap (slice_get (frames ++ o ∷ [])) l ∙ go frames
  where
    go : (xs : List (ThreadFrame A)) → slice_get (xs ++ o ∷ []) (length xs) ≡ Some o
    go [] = refl
    go (x ∷ xs) = go xs

-- ---- groups and repetitions that are entered

module _ {A : Type 0} (frames all : List (ThreadFrame A)) (n : ℕ) (at : n ≡ length frames) where
  pub group_entered : (log : Log) (p : Thread A) (d : Delimiter) (rest : Ops) (a : Account) (up : List ModelFrame)
      (body after : Bor (List (code.Op A))) → ops_of after.now ≡ rest →
      IsModelled log frames p (op (group d (ops_of body.now)) rest) a up
      → all ≡ frames ++ record { rounds = None; rest = after; up = p.up } ∷ [] →
      IsModelled log all (record { tail = body; number = p.number - 1; up = Some n; handle = p.handle })
      (ops_of body.now)
      a
      (group_frame rest ∷ up)
  group_entered log p d rest a up body after r s e =
      let o : ThreadFrame A = record { rounds = None; rest = after; up = p.up } in
      record {
        tail = refl;
        number = (let k = s.number in omega (arith, k));
        account = s.account;
        around = subst (λ x. AreFrames log all (Some n) (group_frame x ∷ up)) r
            (group_open n o up (last_outer frames all o n e at) refl
            (subst (IsBelow p.up) (sym at) (around_within log frames p.up up s.around))
            (edges_keep log log frames all (record { log = kept_not log; frames = (o ∷ [], e) }) s.around));
      }

  -- the rounds of a repetition that is entered from this position
  abbrev rounds_from : Bor (List (code.Op A)) → Option (Bor (between.Separator A)) → RepeatKind → Thread A
      → OpenRepetition A
  rounds_from body separator k p =
      record { body = body; separator = separator; kind = k; front = p.number - 1; outside = p.handle }

  pub repetition_entered : (i : Input) (argument : Forest) (q : ℕ) (old new : Log) (p : Thread A) (rest : Ops)
      (a : Account) (up : List ModelFrame)
      (body after : Bor (List (code.Op A))) (separator : Option (Bor (between.Separator A))) (k : RepeatKind)
      (second : Option (Thread A)) (h : Handle) → ops_of after.now ≡ rest →
      IsModelled old frames p (op (repetition (ops_of body.now) (option_map (λ s. separator_seen s.now) separator) k)
      rest)
      a up →
      IsSkip k (ops_of body.now) (ops_of after.now) old new p second → IsAccount new h no_account →
      all ≡ frames ++ record { rounds = Some (rounds_from body separator k p); rest = after; up = p.up } ∷ [] →
      AreSteps i argument q old new frames all
      (thread_model (op (repetition (ops_of body.now) (option_map (λ s. separator_seen s.now) separator) k) rest) a up)
      (record {
        first = Some (record { tail = body; number = p.number - 1; up = Some n; handle = h });
        second = second;
        next = None;
        done = None;
      })
  repetition_entered i argument q old new p rest a up body after separator k second h r s skip account e =
      let round = rounds_from body separator k p in
      let o : ThreadFrame A = record { rounds = Some round; rest = after; up = p.up } in
      let keeps : Keeps old new frames all = record { log = skip.kept; frames = (o ∷ [], e) } in
      let number = s.number in
      let later : Keeps new new frames all = record { log = kept_not new; frames = (o ∷ [], e) } in
      let opened : AreFrames new all (Some n) (frame_in round (ops_of after.now) q a ∷ up) =
      repetition_open n o round q a up (last_outer frames all o n e at) refl
      (record {
        account = keeps.log.others p.handle a s.account;
        front = (let m = ap state_count r in omega (arith, number, m));
      })
      (subst (IsBelow p.up) (sym at) (around_within old frames p.up up s.around))
      (edges_keep old new frames all keeps s.around) in
      let first : Thread A = record { tail = body; number = p.number - 1; up = Some n; handle = h } in
      let into : IsModelled new all first (ops_of body.now) no_account (frame_in round rest q a ∷ up) =
      record {
        tail = refl;
        number = omega (arith, number);
        account = account;
        around = subst (λ x. AreFrames new all (Some n) (frame_in round x q a ∷ up)) r opened;
      } in
      let past = skip.is frames a up s.around s.account (let m = ap state_count r in omega (arith, number, m)) in
      let beyond = each_weaker (Shows new frames) (Shows new all) (shows_keep new new frames all later)
      (option_to_list second) _ past in
      record {
        now = record {
          epsilons = (
            into,
            subst (λ x. Each (Shows new all) (option_to_list second)
                (skip_of k (thread_model x (skipped (names_of (ops_of body.now)) a) up))) r beyond,
          );
          next = tt;
          done = tt;
        };
        kept = keeps;
      }

pub skip_not : {A : Type 0} (k : RepeatKind) (body rest : Ops) (log : Log) (p : Thread A) → k ≡ OneOrMore
    → IsSkip k body rest log log p None
skip_not {A} k body rest log p e = record {
  is = λ frames a up h i n. subst (λ (j : RepeatKind). Each (Shows log frames) []
      (skip_of j (thread_model rest (skipped (names_of body) a) up))) (sym e) tt;
  kept = kept_not log;
}

pub skip_some : {A : Type 0} (k : RepeatKind) (body : Ops) (old new : Log) (p : Thread A)
    (rest : Bor (List (code.Op A))) (n : ℕ) (h : Handle) → (k ≡ OneOrMore → ⊥) → n ≡ state_count body →
    IsRewritten old new p.handle h (skipped (names_of body)) →
    IsSkip k body (ops_of rest.now) old new p
    (Some (record { tail = rest; number = p.number - 1 - n; up = p.up; handle = h }))
skip_some {A} k body old new p rest n h m e w = record {
  is = λ frames a up s i l. go k m frames a up
      (record {
        tail = refl;
        number = omega (arith, e, l);
        account = w.account a i;
        around = edges_keep old new frames frames (record { log = w.kept; frames = grows_not frames }) s;
      });
  kept = w.kept;
}
  where
    go : (j : RepeatKind) → (j ≡ OneOrMore → ⊥) → (frames : List (ThreadFrame A)) (a : Account) (up : List ModelFrame) →
        Shows new frames (record { tail = rest; number = p.number - 1 - n; up = p.up; handle = h })
        (thread_model (ops_of rest.now) (skipped (names_of body) a) up) →
        Each (Shows new frames) (record { tail = rest; number = p.number - 1 - n; up = p.up; handle = h } ∷ [])
        (skip_of j (thread_model (ops_of rest.now) (skipped (names_of body) a) up))
    go ZeroOrMore l frames a up s = (s, tt)
    go OneOrMore l frames a up s = absurd (l refl)
    go ZeroOrOne l frames a up s = (s, tt)

-- ---- the end of a round

module _ {A : Type 0} (g : Grammar) (argument : Forest) (q : ℕ) (log : Log) (frames : List (ThreadFrame A))
    (b rest : Ops)
    (p : ℕ) (a outside : Account) (up : List ModelFrame) (left : Thread A)
    (following : Shows log frames left (thread_model rest (pushed_nested outside a) up)) where
  no_advance : (s : Separator) (w : Option ℕ) → round_advance ZeroOrOne w q b (Some s) rest outside a up ≡ None
  no_advance s None = refl
  no_advance s (Some n) = refl

  abbrev Stops : Option Separator → RepeatKind → Type 0
  Stops s k = AreStepsNow (input_of g argument) argument q log frames
      (thread_model no_ops a (repetition_frame b s k rest p outside ∷ up))
      (record { first = None; second = Some left; next = None; done = None })

  stops_at : (k : RepeatKind) (s : Separator)
      → None ≡ round_advance k (length_of (separator_front_in g.dialect s (rest_at argument q))) q b (Some s) rest
      outside a up
      → Stops (Some s) k
  stops_at k s e = record {
    epsilons = (following, tt);
    next = subst (Both (LeadsTo log frames (rest_at argument q)) None) e tt;
    done = tt;
  }

  pub round_stops : (s : Option Separator) (k : RepeatKind)
      → None ≡ if_again k (length_of (between_front g.dialect s (rest_at argument q))) → Stops s k
  round_stops None ZeroOrMore e = absurd (none-some 0 e)
  round_stops None OneOrMore e = absurd (none-some 0 e)
  round_stops None ZeroOrOne e = record { epsilons = (following, tt); next = tt; done = tt }
  round_stops (Some s) ZeroOrMore e = stops_at ZeroOrMore s
      (ap (λ w. round_advance ZeroOrMore w q b (Some s) rest outside a up) e)
  round_stops (Some s) OneOrMore e = stops_at OneOrMore s
      (ap (λ w. round_advance OneOrMore w q b (Some s) rest outside a up) e)
  round_stops (Some s) ZeroOrOne e = stops_at ZeroOrOne s
      (sym (no_advance s (length_of (separator_front_in g.dialect s (rest_at argument q)))))

  module _ (n : ℕ) (again : Thread A) where
    abbrev Goes : Option Separator → RepeatKind → Type 0
    Goes s k = AreStepsNow (input_of g argument) argument q log frames
        (thread_model no_ops a (repetition_frame b s k rest p outside ∷ up))
        (record {
          first = (over_steps n None again).first;
          second = Some left;
          next = (over_steps n None again).next;
          done = (over_steps n None again).done;
        })

    abbrev Front : Option Separator → RepeatKind → Type 0
    Front s k =
        (began : ℕ) → Shows log frames again
        (thread_model b (pushed_default a) (repetition_frame b s k rest began outside ∷ up))

  at_once : (k : RepeatKind) (n : ℕ) (again : Thread A) → another_round None k ≡ (λ (o : ThreadModel). o ∷ []) → 0 ≡ n
      → Front n again None k → Goes n again None k
  at_once k zero again e z f = record {
    epsilons = subst (λ (h : ThreadModel → List ThreadModel). Each (Shows log frames) (again ∷ left ∷ [])
        (h (thread_model b (pushed_default a) (repetition_frame b None k rest q outside ∷ up))
        ++ (thread_model rest (pushed_nested outside a) up ∷ [])))
        (sym e) (f q, (following, tt));
    next = tt;
    done = tt;
  }
  at_once k (suc n) again e z f = absurd (omega (arith, z))

  wide : (s : Separator) (n : ℕ) → Some n ≡ length_of (separator_front_in g.dialect s (rest_at argument q)) → 1 ≤ n
  wide s n e =
      let r = length_from (separator_front_in g.dialect s (rest_at argument q)) n (sym e) in
      let m = separator_moves_in g.dialect s (rest_at argument q) r.0 r.1 in
      let l = r.2 in
      omega (arith, m, l)

  over_separator : (k : RepeatKind) (s : Separator) (n : ℕ) (again : Thread A)
      → Some n ≡ length_of (separator_front_in g.dialect s (rest_at argument q)) →
      round_advance k (Some n) q b (Some s) rest outside a up
      ≡ Some (advance n false (thread_model b (pushed_default a) (repetition_frame b (Some s) k rest (q + n) outside
      ∷ up))) →
      Front n again (Some s) k → Goes n again (Some s) k
  over_separator k s zero again w e f = absurd (let l = wide s zero w in omega (arith, l))
  over_separator k s (suc n) again w e f = record {
    epsilons = (following, tt);
    next = subst (Both (LeadsTo log frames (rest_at argument q))
        (Some (record { width = suc n; beyond = None; after = again })))
        (sym e ∙ ap (λ x. round_advance k x q b (Some s) rest outside a up) w)
        (record { width_is = refl; fragment_is = refl; left = tt; after = f (q + suc n) });
    done = tt;
  }

  pub round_goes : (s : Option Separator) (k : RepeatKind) (n : ℕ) (again : Thread A)
      → Some n ≡ if_again k (length_of (between_front g.dialect s (rest_at argument q))) → Front n again s k
      → Goes n again s k
  round_goes None ZeroOrMore n again e f = at_once ZeroOrMore n again refl (sym (same_Some n 0 e)) f
  round_goes None OneOrMore n again e f = at_once OneOrMore n again refl (sym (same_Some n 0 e)) f
  round_goes s ZeroOrOne n again e f = absurd (none-some n (sym e))
  round_goes (Some s) ZeroOrMore n again e f = over_separator ZeroOrMore s n again e refl f
  round_goes (Some s) OneOrMore n again e f = over_separator OneOrMore s n again e refl f

-- ---- the end of what is open

module _ {A : Type 0} (i : Input) (argument : Forest) (q : ℕ) (log : Log) (frames : List (ThreadFrame A)) (p : Thread A)
    (a : Account) (es : List ModelFrame) (s : IsModelled log frames p no_ops a es) where
  pub all_read : p.up ≡ None → AreStepsNow i argument q log frames (thread_model no_ops a es)
      (record { first = None; second = None; next = None; done = Some p.handle })
  all_read e = subst (λ x. AreStepsNow i argument q log frames (thread_model no_ops a x)
      (record { first = None; second = None; next = None; done = Some p.handle }))
      (sym (none_around log frames p.up es s.around e))
      (record { epsilons = tt; next = tt; done = (a, s.account, refl) })

  module _ (o : ThreadFrame A) (w : InGroup log frames o es) where
    pub not_closed : i.closes_at q ≡ false → AreStepsNow i argument q log frames (thread_model no_ops a es) none_steps
    not_closed e =
        subst (λ x. AreStepsNow i argument q log frames (thread_model no_ops a x) none_steps) (sym w.is) (record {
          epsilons = tt;
          next = subst (λ t. Both (LeadsTo log frames (rest_at argument q)) None
              (when_advance t (advance 1 false (thread_model (ops_of o.rest.now) a w.up)))) (sym e) tt;
          done = tt;
        })

    left : IsModelled log frames (record { tail = o.rest; number = p.number - 1; up = o.up; handle = p.handle })
        (ops_of o.rest.now) a w.up
    left = record {
      tail = refl;
      number = (let n = ap frames_after w.is in let m = s.number in omega (arith, n, m));
      account = s.account;
      around = w.around;
    }

    pub closed : i.closes_at q ≡ true → AreStepsNow i argument q log frames (thread_model no_ops a es)
        (over_steps 1 None (record { tail = o.rest; number = p.number - 1; up = o.up; handle = p.handle }))
    closed e = subst (λ x. AreStepsNow i argument q log frames (thread_model no_ops a x)
        (over_steps 1 None (record { tail = o.rest; number = p.number - 1; up = o.up; handle = p.handle }))) (sym w.is)
        (record {
          epsilons = tt;
          next = subst (λ t. Both (LeadsTo log frames (rest_at argument q))
              (Some (record {
                width = 1;
                beyond = None;
                after = record { tail = o.rest; number = p.number - 1; up = o.up; handle = p.handle };
              }))
              (when_advance t (advance 1 false (thread_model (ops_of o.rest.now) a w.up)))) (sym e)
              (record { width_is = refl; fragment_is = refl; left = tt; after = left });
          done = tt;
        })

module _ {A : Type 0} (g : Grammar) (argument : Forest) (q : ℕ) (old mid : Log) (frames : List (ThreadFrame A))
    (p : Thread A) (a : Account) (es : List ModelFrame) (frame : ThreadFrame A) (r : OpenRepetition A) (h : Handle)
    (s : IsModelled old frames p no_ops a es) (w : InRounds old frames frame r es)
    (c : IsUpdatedHandle old mid r.outside h (λ x. pushed_nested x a)) where
  abbrev out : Thread A
  out = record { tail = frame.rest; number = p.number - 1; up = frame.up; handle = h }

  abbrev seen : Option Separator
  seen = option_map (λ x. separator_seen x.now) r.separator

  out_of : IsModelled mid frames out (ops_of frame.rest.now) (pushed_nested w.outside a) w.up
  out_of = record {
    tail = refl;
    number = (let n = ap frames_after w.is in let m = s.number in omega (arith, n, m));
    account = c.account w.outside w.rounds.account;
    around = edges_keep old mid frames frames (record { log = c.kept; frames = grows_not frames }) w.around;
  }

  pub round_done : None ≡ if_again r.kind (length_of (between_front g.dialect seen (rest_at argument q))) →
      AreSteps (input_of g argument) argument q old mid frames frames (thread_model no_ops a es)
      (record { first = None; second = Some out; next = None; done = None })
  round_done e = record {
    now = subst (λ x. AreStepsNow (input_of g argument) argument q mid frames (thread_model no_ops a x)
        (record { first = None; second = Some out; next = None; done = None })) (sym w.is)
        (round_stops g argument q mid frames (ops_of r.body.now) (ops_of frame.rest.now) w.began a w.outside w.up out
        out_of seen r.kind e);
    kept = record { log = c.kept; frames = grows_not frames };
  }

  pub round_more : (new : Log) (k : Handle) (n m : ℕ)
      → Some n ≡ if_again r.kind (length_of (between_front g.dialect seen (rest_at argument q)))
      → IsUpdatedHandle mid new p.handle k pushed_default →
      p.up ≡ Some m → slice_get frames m ≡ Some frame → frame.rounds ≡ Some r →
      (let again : Thread A = record { tail = r.body; number = r.front; up = p.up; handle = k } in
      AreSteps (input_of g argument) argument q old new frames frames (thread_model no_ops a es)
      (record {
        first = (over_steps n None again).first;
        second = Some out;
        next = (over_steps n None again).next;
        done = (over_steps n None again).done;
      }))
  round_more new k n m e d u at is =
      let again : Thread A = record { tail = r.body; number = r.front; up = p.up; handle = k } in
      let later : Keeps mid new frames frames = record { log = d.kept; frames = grows_not frames } in
      let all : Keeps old new frames frames =
      record { log = client.kept-on old mid new c.kept d.kept; frames = grows_not frames } in
      let front : (began : ℕ) → Shows new frames again
      (thread_model (ops_of r.body.now) (pushed_default a) (frame_in r (ops_of frame.rest.now) began w.outside
      ∷ w.up)) =
      λ began. record {
        tail = refl;
        number = w.rounds.front;
        account = d.account a (c.kept.others p.handle a s.account);
        around = subst (λ x. AreFrames new frames x (frame_in r (ops_of frame.rest.now) began w.outside ∷ w.up)) (sym u)
            (repetition_open m frame r began w.outside w.up at is
            (record { account = all.log.others r.outside w.outside w.rounds.account; front = w.rounds.front })
            (up_below old frames p.up es m frame s.around u at)
            (edges_keep old new frames frames all w.around));
      } in
      record {
        now = subst (λ x. AreStepsNow (input_of g argument) argument q new frames (thread_model no_ops a x)
            (record {
              first = (over_steps n None again).first;
              second = Some out;
              next = (over_steps n None again).next;
              done = (over_steps n None again).done;
            })) (sym w.is)
            (round_goes g argument q new frames (ops_of r.body.now) (ops_of frame.rest.now) w.began a w.outside w.up out
            (shows_keep mid new frames frames later out
            (thread_model (ops_of frame.rest.now) (pushed_nested w.outside a) w.up) out_of) seen r.kind n again e
            front);
        kept = all;
      }

-- ---- what a variable takes

pub not_taken : (A : Type 0) (d : Dialect) (o : Option Cut) (left : Forest) (kind : Option MetaVarKind)
    → MatchesCut {A = A} None o left
    → None ≡ fragment_of d kind o
not_taken A d None left kind h = refl
not_taken A d (Some c) left kind h = absurd h

pub record Taken {A : Type 0} (d : Dialect) (tree : TokenTreesView A) (o : Option Cut) (left here : Forest)
    (kind : Option MetaVarKind) : Type 0 where
  pub is : Some (record { trees = trees tree; style = style_of d kind }) ≡ fragment_of d kind o
  pub beyond : IsRemainder here (flat_len (trees tree)) (Some left)

pub taken_is : {A : Type 0} (d : Dialect) (tree : TokenTreesView A) (o : Option Cut) (left here : Forest)
    (kind : Option MetaVarKind)
    → ((c : Cut) → o ≡ Some c → IsCut here c) → MatchesCut (Some tree) o left → Taken d tree o left here kind
taken_is d tree None left here kind f h = absurd h
taken_is d tree (Some c) left here kind f h = record {
  is = ap (λ (x : Forest). Some (record { trees = x; style = style_of d kind })) h.0;
  beyond = (c.front, ap (append c.front) h.1 ∙ f c refl, ap flat_len (sym h.0));
}

-- ---- the first of the ops

take_all : {X : Type 0} (xs : List X) → take (length xs) xs ≡ xs
take_all [] = refl
take_all (x ∷ xs) = ap (λ ys. x ∷ ys) (take_all xs)

take_so_many : {X : Type 0} (n : ℕ) (xs : List X) → n ≡ length xs → take n xs ≡ xs
take_so_many n xs e = ap (λ m. take m xs) e ∙ take_all xs

pub first_op : {A : Type 0} (xs : List (code.Op A)) (x : code.Op A) → 1 ≤ length xs → x ≡ get_or xs 0 x
    → ops_of xs ≡ op (op_of x) (ops_of (take (length xs - 1) (drop 1 xs)))
first_op [] x l e = absurd (omega arith)
first_op (y ∷ xs) x l e =
    sym (ap (λ zs. op (op_of x) (ops_of zs)) (take_so_many (length (y ∷ xs) - 1) xs (omega arith))
    ∙ ap (λ z. op (op_of z) (ops_of xs)) e)

pub no_op : {A : Type 0} (xs : List (code.Op A)) → length xs < 1 → ops_of xs ≡ no_ops
no_op [] l = refl
no_op (x ∷ xs) l = absurd (omega arith)

pub separator_same : {A : Type 0} (r : Option (Bor (between.Separator A))) (s : Option (between.Separator A))
    → option_copied r ≡ s →
    option_map (λ t. separator_seen t.now) r ≡ option_map separator_seen s
separator_same None s e = ap (option_map separator_seen) e
separator_same (Some x) s e = ap (option_map separator_seen) e
