-- A pattern without its modes.
use Rattle.std.proofs.Common.{◌≡◌, ℕ, ◌<◌, Bool, List, [], ◌∷◌, map, None, Ok, Err, inl, inr, refl, sym, ap, ◌∙◌}
use Rattle.std.specs.Prelude.{codes}
use Rattle.mbe_tt.specs.Trees.Tree.{Forest, Tree, flat_len}
use Rattle.mbe_tt.specs.declared.tt.DelimiterKind.TheVariants.{Parenthesis, Bracket}
use Rattle.mbe_grammar.specs.declared.tables.parse_result.ParseFailure.TheVariants.{NoMatch, Fault}
use Rattle.mbe_grammar.specs.Rule.{one, part, ◌or◌, meaning}
use Rattle.mbe_grammar.specs.Tables.Terminals.{ParseResult, or_no_match, after_one}
use Rattle.mbe_grammar.specs.Tables.Rule.{◌>>=◌, or_else}
use Rattle.mbe_grammar.specs.Tables.SingleTrees.{is_one_of, is_literal, is_punct, is_group}
use Rattle.mbe_grammar.specs.SampleGrammar.{PegGrammar, word, parenthesis_or_bracket, SignedLiteral, BindingMode}
use Rattle.mbe_grammar.specs.SampleGrammar.{BoundPat, PathPat, Pat, rule_of, takes}
use Rattle.mbe_grammar.specs.Chains.{direct_pattern}
use Rattle.mbe_grammar.proofs.RuleLemmas.{never_faults}
use Rattle.mbe_grammar.proofs.Parts.{takes_by_rule, takes_shorter}
use Rattle.mbe_grammar.proofs.Fronts.{Begins, Apart, one_absent, puncts_absent, signs_apart, words_apart}
use Rattle.mbe_grammar.proofs.Fronts.{sign_is_no_word, sign_is_no_literal, sign_is_no_group, word_is_no_punct}
use Rattle.mbe_grammar.proofs.Fronts.{word_is_no_literal, word_is_no_group, either_of, either_apart, either_left}
use Rattle.mbe_grammar.proofs.Fronts.{either_right, one_placed, then_placed, or_placed}
use Rattle.mbe_grammar.proofs.TypeChains.{is_lifetime, lifetime_calm}

abbrev mode_words : List (List ℕ)
mode_words = map codes ("ref" ∷ "mut" ∷ [])

-- what a binding mode begins with
abbrev begins_mode : Tree → Bool
begins_mode = either_of (is_punct 38) (is_one_of mode_words)

mode_begins : (f g : Forest) → takes BindingMode f ≡ Ok g → Begins begins_mode f
mode_begins f g e =
    elim (or_placed _ _ g (sym (takes_by_rule BindingMode f) ∙ e)) [
      | inl h ↦ either_left (is_punct 38) (is_one_of mode_words) f
          (one_placed (is_punct 38) f _ (then_placed _ _ g h).1)
      | inr h ↦ either_right (is_punct 38) (is_one_of mode_words) f (one_placed (is_one_of mode_words) f g h)
    ]

mode_apart : (q : Tree → Bool) → Apart (is_punct 38) q → Apart (is_one_of mode_words) q → (f : Forest)
    → Begins begins_mode f → after_one q f ≡ None
mode_apart q a b f h = one_absent begins_mode q (either_apart (is_punct 38) (is_one_of mode_words) q a b) f h

signed_absent : (f : Forest) → Begins begins_mode f → takes SignedLiteral f ≡ Err NoMatch
signed_absent f h =
    let no_minus : Apart begins_mode (is_punct 45) =
    either_apart (is_punct 38) (is_one_of mode_words) (is_punct 45) (signs_apart 38 45 refl)
    (word_is_no_punct mode_words 45) in
    takes_by_rule SignedLiteral f
    ∙ (ap (λ x. or_else (or_no_match x) (Ok f) >>= meaning takes (one is_literal))
    (puncts_absent begins_mode 45 [] no_minus f h)
    ∙ ap (or_no_match) (mode_apart is_literal (sign_is_no_literal 38) (word_is_no_literal mode_words) f h))

-- a pattern is that after its mode, or else the mode is a path
pat_on : (f g : Forest) → takes BindingMode f ≡ Ok g → takes Pat f ≡ or_else (takes Pat g) (takes PathPat f)
pat_on f g e =
    let h = mode_begins f g e in
    let no_word = mode_apart (is_one_of (codes "_" ∷ [])) (sign_is_no_word 38 (codes "_" ∷ []))
    (words_apart mode_words (codes "_" ∷ []) refl) f h in
    let no_group = mode_apart (is_group (Parenthesis ∷ Bracket ∷ [])) (sign_is_no_group 38 (Parenthesis ∷ Bracket ∷ []))
    (word_is_no_group mode_words (Parenthesis ∷ Bracket ∷ [])) f h in
    let after_word : PegGrammar = part SignedLiteral or part BoundPat or parenthesis_or_bracket or part PathPat in
    let after_literal : PegGrammar = part BoundPat or parenthesis_or_bracket or part PathPat in
    takes_by_rule Pat f
    ∙ (ap (λ x. or_else (or_no_match x) (meaning takes after_word f)) no_word
    ∙ (ap (λ s. or_else s (meaning takes after_literal f)) (signed_absent f h)
    ∙ (ap (λ s. or_else s (meaning takes (parenthesis_or_bracket or part PathPat) f))
    (takes_by_rule BoundPat f ∙ ap (λ s. s >>= takes Pat) e)
    ∙ ap (λ x. or_else (takes Pat g) (or_else (or_no_match x) (takes PathPat f))) no_group)))

or_regroup : (s t u : ParseResult) → or_else (or_else s t) u ≡ or_else s (or_else t u)
or_regroup (Ok g) t u = refl
or_regroup (Err NoMatch) t u = refl
or_regroup (Err Fault) t u = refl

pub mode_on : (f g : Forest) (other : ParseResult) → takes BindingMode f ≡ Ok g
    → or_else (takes Pat f) other ≡ or_else (takes Pat g) (or_else (takes PathPat f) other)
mode_on f g other e = ap (λ s. or_else s other) (pat_on f g e) ∙ or_regroup (takes Pat g) (takes PathPat f) other

pub mode_end : (f : Forest) → takes BindingMode f ≡ Err NoMatch → takes Pat f ≡ meaning takes direct_pattern f
mode_end f e =
    let bound : takes BoundPat f ≡ Err NoMatch = takes_by_rule BoundPat f ∙ ap (λ s. s >>= takes Pat) e in
    let first = meaning takes (word "_") f in
    let third = meaning takes parenthesis_or_bracket f in
    takes_by_rule Pat f ∙ ap (λ s. or_else first
    (or_else (takes SignedLiteral f) (or_else s (or_else third (takes PathPat f))))) bound

pub mode_shorter : (f g : Forest) → takes BindingMode f ≡ Ok g → flat_len g < flat_len f
mode_shorter f g e = takes_shorter BindingMode f g refl e

pub mode_calm : (f : Forest) → takes BindingMode f ≡ Err Fault → ⊥
mode_calm f e = never_faults is_lifetime takes lifetime_calm (rule_of BindingMode) refl f
    (sym (takes_by_rule BindingMode f) ∙ e)

-- what the code asks for
pub ruleset modes = (mode_on, mode_end, mode_shorter, mode_calm)
