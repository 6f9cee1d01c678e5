-- What is written into a builder, by what its parts write.
use Rattle.std.proofs.Common.{◌≡◌, ◌-◌, ℕ, Bool, true, false, ◌∷◌, length, refl, ap, sym, subst, ◌∙◌}
use Rattle.std.specs.Prelude.{if◌then◌else◌, Option, Some, None, Result, Ok, Err, OnOk, IfOk, IfSome}
use Rattle.mbe_tt.specs.Buffers.GroupStack.{GroupStack, put, closed}
use Rattle.mbe_tt.specs.Trees.Tree.{Forest, Tree, none, group, append, one_leaf, flat_len}
use Rattle.mbe_tt.specs.Trees.Top.{Top}
use Rattle.mbe_tt.specs.declared.tt.Delimiter.{Delimiter}
use Rattle.mbe_tt.specs.declared.tt.DelimiterKind.{DelimiterKind}
use Rattle.mbe_tt.specs.declared.tt.DelimiterKind.TheVariants.{Parenthesis, Brace, Bracket, Invisible}
use Rattle.mbe_rewriter.specs.Surroundings.{is_standard_macro}
use Rattle.mbe_rewriter.specs.MacroItems.{MacroCall, MacroDefinition}
use Rattle.mbe_cfg.specs.CfgStrip.{up_to}
use Rattle.mbe_session.specs.NestedExpansion.{Change, ExpandsTo, ChangesGroup, ChangesTree, ChangesWrapped}
use Rattle.mbe_session.specs.NestedExpansion.{ReplacesCall, KeepsDefinition, KeepsCall, ChangesCall, stays, is_replaced}
use Rattle.mbe_session.specs.NestedExpansion.{of_disabled, of_definition, of_tree, of_call, Writes}
use Rattle.mbe_session.specs.CallExpansion.{Setting, State, Tries}
use Rattle.mbe_session.specs.Adjustment.{IsTrimmed, IsWrapped, IsWrap, bare, in_parentheses, in_braces, as_it_is}
use Rattle.mbe_session.specs.Adjustment.{with_semicolon, semicolon, IsRest, what_follows, from_last}
use Rattle.mbe_session.specs.CfgFront.{disabled, definition, call, piece, EndsIn, EndsInCall}
use Rattle.mbe_session.specs.CfgFront as pieces
use Rattle.mbe_session.specs.Scopes.{Scope, IsRead, with_shown}
use Rattle.mbe_session.specs.declared.scope.Visibility.TheVariants.{Text}
use Rattle.mbe_session.proofs.GroupLemmas.{length_put}
use Rattle.mbe_session.proofs.AdjustmentLemmas.{before_group}
use Rattle.mbe_session.proofs.CfgFrontLemmas.{ends_ahead}
use Rattle.mbe_session.proofs.StepLemmas.{Done, step_done, put_put}

pub on_ok : {X R : Type 0} {P Q : Type 0} (r : Result X R) → (P → Q) → OnOk r P → OnOk r Q
on_ok (Ok x) more h = more h
on_ok (Err e) more h = h

-- what a view up to some trees shows
abbrev pub IsUpTo : Forest → Forest → Forest → Type 0
IsUpTo f rest view = (kept : Forest) → f ≡ append kept rest → view ≡ kept

same_state : (u s : State) (scope : Scope) → u.scope ≡ scope → u.fuel ≡ s.fuel → u.contexts ≡ s.contexts
    → u ≡ record s { scope = scope }
same_state u s scope a b c = ap (λ x. let t : State = record u { scope = x } in t) a
    ∙ ap (λ x. let t : State = record { scope = scope; fuel = x; contexts = u.contexts } in t) b
    ∙ ap (λ x. let t : State = record s { scope = scope; contexts = x } in t) c

pub reads_written : (e : Setting) (f view : Forest) (d : MacroDefinition) (s u : State) (read : Scope) (n : ℕ)
    (b now : GroupStack)
    → EndsIn f d.rest
    → IsRead e.language d Text s.scope read → n ≡ length s.scope.definitions → u.scope ≡ with_shown n read
    → u.fuel ≡ s.fuel → u.contexts ≡ s.contexts
    → IsUpTo f d.rest view → now ≡ put view b → Writes (KeepsDefinition e f d s) b now u
reads_written e f view d s u read n b now h r number scope fuel contexts up w = (
  h.0,
  (
    h.1,
    read,
    r,
    same_state u s (with_shown (length s.scope.definitions) read)
        (scope ∙ ap (λ k. with_shown k read) number) fuel contexts,
  ),
  w ∙ ap (λ k. put k b) (up h.0 h.1),
)

-- ---- groups

pub inside_kept : (e : Setting) (levels depth : ℕ) (f : Forest) (s u : State) (b now : GroupStack) → levels ≡ 0
    → now ≡ put f b → u ≡ s
    → Writes (ExpandsTo e levels depth f s) b now u
unfolding ExpandsTo
inside_kept e levels depth f s u b now l w k =
    subst (λ n. Writes (ExpandsTo e n depth f s) b now u) (sym l) (f, (refl, k), w)

pub wrapped_bare : (inner : Change) (d : Delimiter) (f : Forest) (s u : State) (b now : GroupStack)
    → Writes (inner f s) b now u
    → Writes (ChangesWrapped inner d f s) b now u
wrapped_bare inner d f s u b now w = (w.0, (w.0, w.1, bare), w.2)

put_in : (d : Delimiter) (f : Forest) (kind : DelimiterKind) → IsWrap kind
    → IsWrapped d f (group (record d { kind = kind }) f none)
put_in d f Parenthesis h = in_parentheses
put_in d f Brace h = in_braces
put_in d f Bracket h = absurd h
put_in d f Invisible h = absurd h

pub wrapped_in : (inner : Change) (d : Delimiter) (kind : DelimiterKind) (wrap : Option DelimiterKind) (f : Forest)
    (s u : State) (b opened mid now : GroupStack)
    → IfSome wrap IsWrap → wrap ≡ Some kind
    → opened ≡ (record { opening = d.opening; close = d.opening; kind = kind }, none) ∷ b
    → Writes (inner f s) opened mid u
    → now ≡ closed d.close mid → Writes (ChangesWrapped inner d f s) b now u
wrapped_in inner d kind wrap f s u b opened mid now h k o w c = (
  group (record d { kind = kind }) w.0 none,
  (w.0, w.1, put_in d w.0 kind (subst (λ x. IfSome x IsWrap) k h)),
  c
      ∙ ap (closed d.close) (w.2 ∙ ap (put w.0) o),
)

-- ---- calls

pub expansion_written : (inner : Change) (d : Delimiter) (tree part : Forest) (s u : State) (gets : Bool)
    (b mid now : GroupStack) → IsTrimmed tree part
    → Writes (ChangesWrapped inner d part s) b mid u
    → now ≡ (if gets then put (one_leaf (semicolon d.close)) mid else mid)
    → Writes (ReplacesCall inner d tree s) b now u
expansion_written inner d tree part s u false b mid now p w e =
    (w.0, record { part = part; wrapped = w.0; is_part = p; changes = w.1; ended = as_it_is }, e ∙ w.2)
expansion_written inner d tree part s u true b mid now p w e = (
  append w.0 (one_leaf (semicolon d.close)),
  record { part = part; wrapped = w.0; is_part = p; changes = w.1; ended = with_semicolon },
  e ∙ (ap (put (one_leaf (semicolon d.close))) w.2 ∙ put_put w.0 (one_leaf (semicolon d.close)) b),
)

pub kept_written : (inner : Change) (standard : Bool) (f : Forest) (c : MacroCall) (s u : State) (b now : GroupStack)
    → EndsInCall f c → standard ≡ false
    → ((kept : Forest) → f ≡ append kept c.rest → now ≡ put kept b) → u ≡ s
    → Writes (KeepsCall inner standard f c s) b now u
kept_written inner standard f c s u b now h n copied k =
    let a = ends_ahead f c h in
    subst (λ x. Writes (KeepsCall inner x f c s) b now u) (sym n) (a.kept, (a.is, k), copied a.kept a.is)

pub standard_written : (inner : Change) (standard : Bool) (f : Forest) (c : MacroCall) (s u : State)
    (b mid now : GroupStack)
    → EndsInCall f c
    → standard ≡ true
    → ((kept : Forest) → f ≡ append kept (from_last (flat_len c.rest) f) → mid ≡ put kept b)
    → Writes (ChangesGroup inner c.delimiter c.argument s) mid now u → Writes (KeepsCall inner standard f c s) b now u
standard_written inner standard f c s u b mid now h n copied w =
    subst (λ x. Writes (KeepsCall inner x f c s) b now u) (sym n) (
      append h.0 w.0,
      (h.0, w.0, h.1, refl, w.1),
      w.2 ∙ (ap (put w.0) (copied h.0 (before_group f c h)) ∙ put_put h.0 w.0 b),
    )

pub call_stays : (e k : Setting) (levels depth : ℕ) (f : Forest) (c : MacroCall) (o : Option Top) (s t u : State)
    (b now : GroupStack) → k ≡ e
    → Tries e c levels depth s t o → o ≡ None
    → Writes (KeepsCall (ExpandsTo k levels depth) (is_standard_macro c.name.sym) f c t) b now u
    → Writes (λ out. ChangesCall e levels depth (ExpandsTo e levels) f c s out c.rest) b now u
call_stays e k levels depth f c o s t u b now h tried n w = (
  w.0,
  stays w.0 t u (subst (Tries e c levels depth s t) n tried)
      (subst (λ x. KeepsCall (ExpandsTo x levels depth) (is_standard_macro c.name.sym) f c t w.0 u) h w.1),
  w.2,
)

pub call_replaced : {V R : Type 0} (shown : V → Forest) (r : Result V R) (e k : Setting) (levels depth : ℕ) (f : Forest)
    (c : MacroCall) (tree : Top) (o : Option Top)
    (s t u : State) (b now : GroupStack) → k ≡ e → Tries e c levels depth s t o → o ≡ Some tree
    → OnOk r (Writes (ReplacesCall (ExpandsTo k levels (depth - 1)) c.delimiter tree.1 t) b now u)
    → IfOk r (λ v. IsRest c.rest (shown v))
    → IfOk r (λ v. Writes (λ out. ChangesCall e levels depth (ExpandsTo e levels) f c s out (shown v)) b now u)
call_replaced shown (Err x) e k levels depth f c tree o s t u b now h tried n w l = tt
call_replaced shown (Ok v) e k levels depth f c tree o s t u b now h tried n w l =
    let made = subst (Tries e c levels depth s t) n tried in (
      w.0,
      is_replaced tree w.0 (shown v) u made.0
          (subst (λ x. ReplacesCall (ExpandsTo e levels (depth - 1)) c.delimiter tree.1 x w.0 u) made.1
          (subst (λ x. ReplacesCall (ExpandsTo x levels (depth - 1)) c.delimiter tree.1 t w.0 u) h w.1)) l,
      w.2,
    )

pub changed_left : (e : Setting) (levels depth : ℕ) (within : ℕ → Change) (f : Forest) (c : MacroCall) (s u : State)
    (out rest : Forest)
    → ChangesCall e levels depth within f c s out rest u → IsRest c.rest rest
changed_left e levels depth within f c s v all left (stays out t u h k) = what_follows
changed_left e levels depth within f c s v all left (is_replaced tree out rest t r k l) = l

-- ---- steps

-- what is written opens no group
pub same_length : (f : Forest) (b now : GroupStack) → now ≡ put f b → length now ≡ length b
same_length f b now w = ap length w ∙ length_put f b

pub disabled_on : (e k : Setting) (levels depth : ℕ) (f g rest : Forest) (s t : State) (b mid now : GroupStack)
    → k ≡ e
    → Done e levels depth f s b g t mid → piece k g ≡ disabled rest → now ≡ put (up_to (flat_len rest) g) mid
    → Done e levels depth f s b rest t now
disabled_on e k levels depth f g rest s t b mid now h done is w =
    step_done e levels depth f g (up_to (flat_len rest) g) rest s t t b mid now done
    (of_disabled rest (subst (λ x. piece x g ≡ disabled rest) h is)) w

pub definition_on : (e k : Setting) (levels depth : ℕ) (f g : Forest) (d : MacroDefinition) (s t u : State)
    (b mid now : GroupStack)
    → k ≡ e
    → Done e levels depth f s b g t mid → piece k g ≡ definition d → Writes (KeepsDefinition k g d t) mid now u
    → Done e levels depth f s b d.rest u now
definition_on e k levels depth f g d s t u b mid now h done is w =
    step_done e levels depth f g w.0 d.rest s t u b mid now done
    (of_definition d w.0 u (subst (λ x. piece x g ≡ definition d) h is)
    (subst (λ x. KeepsDefinition x g d t w.0 u) h w.1)) w.2

pub tree_on : (e k : Setting) (levels depth : ℕ) (f g rest : Forest) (tree : Tree) (s t u : State)
    (b mid now : GroupStack)
    → k ≡ e
    → Done e levels depth f s b g t mid → piece k g ≡ pieces.tree tree rest
    → Writes (ChangesTree (ExpandsTo k levels depth) tree t) mid now u
    → Done e levels depth f s b rest u now
tree_on e k levels depth f g rest tree s t u b mid now h done is w =
    step_done e levels depth f g w.0 rest s t u b mid now done
    (of_tree tree rest w.0 u (subst (λ x. piece x g ≡ pieces.tree tree rest) h is)
    (subst (λ x. ChangesTree (ExpandsTo x levels depth) tree t w.0 u) h w.1)) w.2

pub call_on : (e k : Setting) (levels depth : ℕ) (f g rest : Forest) (c : MacroCall) (s t u : State)
    (b mid now : GroupStack)
    → k ≡ e
    → Done e levels depth f s b g t mid → piece k g ≡ call c
    → Writes (λ out. ChangesCall k levels depth (ExpandsTo k levels) g c t out rest) mid now u
    → Done e levels depth f s b rest u now
call_on e k levels depth f g rest c s t u b mid now h done is w =
    step_done e levels depth f g w.0 rest s t u b mid now done
    (of_call c rest w.0 u (subst (λ x. piece x g ≡ call c) h is)
    (subst (λ x. ChangesCall x levels depth (ExpandsTo x levels) g c t w.0 rest u) h w.1)) w.2
