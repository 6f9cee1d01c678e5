-- Spots at the end of others.
use Rattle.std.proofs.Common.{◌≡◌, ◌<◌, Option, None, Some, option_map, List, [], ◌∷◌, ◌++◌, map, refl, sym, ◌∙◌, ap}
use Rattle.std.proofs.Common.{append_assoc, arith}
use Rattle.std.specs.Prelude.{unwrap_or}
use Rattle.std.proofs.lemmas.List.{map-append}
use Rattle.mbe_semantics.specs.Syntax.Op.{Op, token, group, variable, repetition, expression, Ops, no_ops, op}
use Rattle.mbe_semantics.specs.Matching.States.{op_state_count}
use Rattle.mbe_ops.proofs.EqualityLemmas.{op_weight, ops_weight}
use Rattle.mbe_matcher.specs.declared.readings.state.PatternState as declared
use Rattle.mbe_matcher.specs.Readings.States.{PatternState, before, inside_of, op_states, states}
use Rattle.mbe_matcher.specs.Readings.Views.{state_seen}

-- one more, and then the others of what it begins
pub pushed-more : {A : Type 0} (old mid : List (declared.PatternState A)) (s : declared.PatternState A)
    (x : PatternState) (rest all : List
    PatternState)
    → mid ≡ old ++ (s ∷ []) → state_seen s ≡ x → all ≡ x ∷ rest
    → map state_seen mid ++ rest ≡ map state_seen old ++ all
pushed-more old mid s x rest all e f g =
    ap (λ l. map state_seen l ++ rest) e ∙ ap (λ l. l ++ rest) (map-append state_seen old (s ∷ []))
    ∙ append_assoc (map state_seen old) (state_seen s ∷ []) rest
    ∙ ap (λ v. map state_seen old ++ (v ∷ rest)) f ∙ ap (λ v. map state_seen old ++ v) (sym g)

-- an op's, and those of the ops after it
pub pushed-op : (mid new whole : List PatternState) (os rest : Ops) (o : Op) (end : PatternState) → os ≡ op o rest
    → new ≡ mid ++ op_states o → mid ++ states os end ≡ whole → new ++ states rest end ≡ whole
pushed-op mid new whole os rest o end e f g =
    ap (λ v. v ++ states rest end) f ∙ append_assoc mid (op_states o) (states rest end)
    ∙ ap (λ v. mid ++ states v end) (sym e) ∙ g

-- those in an op
abbrev pub states_in : Option (Ops × PatternState) → List PatternState
states_in None = []
states_in (Some (os, end)) = states os end

pub op-spots : (o : Op) → op_states o ≡ before o (op_state_count o) ∷ states_in (inside_of o)
op-spots (token t) = refl
op-spots (variable name kind span) = refl
op-spots (expression e) = refl
op-spots (group d b) = refl
op-spots (repetition b s k) = refl

-- the ops in an op weigh less than it
pub inside-lighter : (o : Op) (os : Ops) (end : PatternState) → inside_of o ≡ Some (os, end)
    → ops_weight os < op_weight o
inside-lighter (token t) os end e = let f : None ≡ Some (os, end) = e in cc
inside-lighter (variable name kind span) os end e = let f : None ≡ Some (os, end) = e in cc
inside-lighter (expression e) os end f = let g : None ≡ Some (os, end) = f in cc
inside-lighter (group d b) os end e =
    let same : b ≡ os = ap (λ o. unwrap_or (option_map (λ p. p.0) o) b) e in
    let weight = ap ops_weight same in
    omega arith
inside-lighter (repetition b s k) os end e =
    let same : b ≡ os = ap (λ o. unwrap_or (option_map (λ p. p.0) o) b) e in
    let weight = ap ops_weight same in
    omega arith

-- what is at the end of ops, when none is left
pub pushed-end : {A : Type 0} (mid new : List (declared.PatternState A)) (end : declared.PatternState A)
    (old : List PatternState) (os all :
    Ops) →
    os ≡ no_ops → new ≡ mid ++ (end ∷ [])
    → map state_seen mid ++ states os (state_seen end) ≡ old ++ states all (state_seen end)
    → map state_seen new ≡ old ++ states all (state_seen end)
pushed-end mid new end old os all e f g =
    ap (map state_seen) f ∙ map-append state_seen mid (end ∷ [])
    ∙ ap (λ v. map state_seen mid ++ states v (state_seen end)) (sym e) ∙ g
