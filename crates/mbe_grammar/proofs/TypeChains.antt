-- A type, as indirections in turn and what they point to.
use Rattle.std.proofs.Common.{◌≡◌, ℕ, zero, suc, ◌<◌, Bool, true, false, List, [], ◌∷◌, None, Ok, Err, inl, inr, refl}
use Rattle.std.proofs.Common.{sym, ap, ◌∙◌, arith, true≢false}
use Rattle.std.specs.Prelude.{◌==◌, codes}
use Rattle.mbe_tt.specs.Trees.Tree.{Forest, Tree, flat_len}
use Rattle.mbe_grammar.specs.declared.tables.parse_result.ParseFailure.TheVariants.{NoMatch, Fault}
use Rattle.mbe_grammar.specs.declared.sample_types.PathStyle.{PathStyle}
use Rattle.mbe_grammar.specs.declared.sample_types.PathStyle.TheVariants.{Plain, Expression}
use Rattle.mbe_tt.specs.declared.tt.DelimiterKind.{DelimiterKind}
use Rattle.mbe_tt.specs.declared.tt.DelimiterKind.TheVariants.{Parenthesis, Bracket}
use Rattle.mbe_grammar.specs.Rule.{one, part, ◌then◌, ◌or◌, maybe, repeated, needed, ahead, meaning, in_turn}
use Rattle.mbe_grammar.specs.Tables.Terminals.{ParseResult, or_no_match, after_one}
use Rattle.mbe_grammar.specs.Tables.Rule.{◌>>=◌, or_else}
use Rattle.mbe_grammar.specs.SingleTrees.{is_name}
use Rattle.mbe_grammar.specs.Tables.SingleTrees.{is_one_of, is_punct, is_group}
use Rattle.mbe_grammar.specs.SampleGrammar.{PegGrammar, word, words, puncts, reference_sign, pointer_sign}
use Rattle.mbe_grammar.specs.SampleGrammar.{parenthesis_or_bracket, Nonterminal, Lifetime, Angle, Turbofish, Colons}
use Rattle.mbe_grammar.specs.SampleGrammar.{Segment, NextSegment, Path, Indirection, Pointee, Ty, rule_of, takes}
use Rattle.mbe_grammar.specs.Chains.{direct_type}
use Rattle.mbe_grammar.proofs.RuleLemmas.{never_faults}
use Rattle.mbe_grammar.proofs.Parts.{takes_by_rule, takes_shorter, turns_on, turns_end}
use Rattle.mbe_grammar.proofs.Fronts.{Begins, Apart, one_absent, puncts_absent, signs_apart, sign_is_no_word}
use Rattle.mbe_grammar.proofs.Fronts.{sign_is_no_name, sign_is_no_group, either_of, either_apart, either_left}
use Rattle.mbe_grammar.proofs.Fronts.{either_right, one_placed, then_placed, or_placed, absent_last}

-- ---- indirections

-- what an indirection begins with
abbrev begins_indirection : Tree → Bool
begins_indirection = either_of (is_punct 38) (is_punct 42)

sign_placed : (char : ℕ) (r : PegGrammar) (f g : Forest)
    → (or_no_match (after_one (is_punct char) f) >>= meaning takes r) ≡ Ok g → Begins (is_punct char) f
sign_placed char r f g e = one_placed (is_punct char) f _
    (then_placed (or_no_match (after_one (is_punct char) f)) (meaning takes r) g e).1

indirection_begins : (f g : Forest) → takes Indirection f ≡ Ok g → Begins begins_indirection f
indirection_begins f g e =
    elim (or_placed (meaning takes reference_sign f) (meaning takes pointer_sign f) g
    (sym (takes_by_rule Indirection f) ∙ e)) [
      | inl h ↦ either_left (is_punct 38) (is_punct 42) f
          (sign_placed 38 (maybe (part Lifetime) then maybe (word "mut")) f g h)
      | inr h ↦ either_right (is_punct 38) (is_punct 42) f (sign_placed 42 (words ("const" ∷ "mut" ∷ [])) f g h)
    ]

apart_from : (char : ℕ) → (38 == char) ≡ false → (42 == char) ≡ false → Apart begins_indirection (is_punct char)
apart_from char a b = either_apart (is_punct 38) (is_punct 42) (is_punct char) (signs_apart 38 char a)
    (signs_apart 42 char b)

-- ---- what isn't there where an indirection is

colons_absent : (f : Forest) → Begins begins_indirection f → takes Colons f ≡ Err NoMatch
colons_absent f h =
    takes_by_rule Colons f
    ∙ ap (λ x. or_no_match x >>= meaning takes (needed (ahead (one is_name or part Angle))))
    (puncts_absent begins_indirection 58 (58 ∷ []) (apart_from 58 refl refl) f h)

segment_absent : (style : PathStyle) (f : Forest) → after_one is_name f ≡ None
    → takes (Segment style) f ≡ Err NoMatch
segment_absent Plain f e =
    takes_by_rule (Segment Plain) f ∙ ap (λ x. or_no_match x >>= meaning takes
    (maybe (maybe (puncts "::") then part Angle))) e
segment_absent Expression f e = takes_by_rule (Segment Expression) f
    ∙ ap (λ x. or_no_match x >>= meaning takes (maybe (part Turbofish))) e

path_absent : (style : PathStyle) (f : Forest) → Begins begins_indirection f → takes (Path style) f ≡ Err NoMatch
path_absent style f h =
    let no_name : Apart begins_indirection is_name =
    either_apart (is_punct 38) (is_punct 42) is_name (sign_is_no_name 38) (sign_is_no_name 42) in
    let after = meaning takes (part (Segment style) then repeated (part (NextSegment style))) in
    takes_by_rule (Path style) f
    ∙ (ap (λ s. or_else s (Ok f) >>= after) (colons_absent f h)
    ∙ ap (λ s. s >>= meaning takes (repeated (part (NextSegment style))))
    (segment_absent style f (one_absent begins_indirection is_name no_name f h)))

word_absent : (texts : List (List ℕ)) (f : Forest) → Begins begins_indirection f
    → after_one (is_one_of texts) f ≡ None
word_absent texts f h =
    one_absent begins_indirection (is_one_of texts)
    (either_apart (is_punct 38) (is_punct 42) (is_one_of texts) (sign_is_no_word 38 texts)
    (sign_is_no_word 42 texts)) f h

group_absent : (kinds : List DelimiterKind) (f : Forest) → Begins begins_indirection f
    → after_one (is_group kinds) f ≡ None
group_absent kinds f h =
    one_absent begins_indirection (is_group kinds)
    (either_apart (is_punct 38) (is_punct 42) (is_group kinds) (sign_is_no_group 38 kinds)
    (sign_is_no_group 42 kinds)) f h

-- ---- types

-- a type is that after its indirection
ty_on : (f g : Forest) → takes Indirection f ≡ Ok g → takes Ty f ≡ takes Ty g
ty_on f g e =
    let h = indirection_begins f g e in
    let pointee : takes Pointee f ≡ takes Ty g = takes_by_rule Pointee f ∙ ap (λ s. s >>= takes Ty) e in
    let after_word : PegGrammar = puncts "!" or parenthesis_or_bracket or part Pointee or part (Path Plain) in
    let after_never : PegGrammar = parenthesis_or_bracket or part Pointee or part (Path Plain) in
    takes_by_rule Ty f
    ∙ (ap (λ x. or_else (or_no_match x) (meaning takes after_word f)) (word_absent (codes "_" ∷ []) f h)
    ∙ (ap (λ x. or_else (or_no_match x) (meaning takes after_never f))
    (puncts_absent begins_indirection 33 [] (apart_from 33 refl refl) f h)
    ∙ (ap (λ x. or_else (or_no_match x) (or_else (takes Pointee f) (takes (Path Plain) f)))
    (group_absent (Parenthesis ∷ Bracket ∷ []) f h)
    ∙ (absent_last (takes Pointee f) (takes (Path Plain) f) (path_absent Plain f h) ∙ pointee))))

-- a type without an indirection
ty_direct : (f : Forest) → takes Indirection f ≡ Err NoMatch → takes Ty f ≡ meaning takes direct_type f
ty_direct f e =
    let pointee : takes Pointee f ≡ Err NoMatch = takes_by_rule Pointee f ∙ ap (λ s. s >>= takes Ty) e in
    let first = meaning takes (word "_") f in
    let second = meaning takes (puncts "!") f in
    let third = meaning takes parenthesis_or_bracket f in
    takes_by_rule Ty f ∙ ap (λ s. or_else first (or_else second (or_else third (or_else s (takes (Path Plain) f)))))
    pointee

abbrev pub is_lifetime : Nonterminal → Bool
is_lifetime Lifetime = true
is_lifetime _ = false

pub lifetime_calm : (x : Nonterminal) → is_lifetime x ≡ true → (f : Forest) → takes x f ≡ Err Fault → ⊥
lifetime_calm Lifetime b f e = never_faults (λ _. false) takes (λ x c g h. true≢false (sym c)) (rule_of Lifetime) refl f
    (sym (takes_by_rule Lifetime f) ∙ e)
lifetime_calm _ b f e = cc

indirection_calm : (f : Forest) → takes Indirection f ≡ Err Fault → ⊥
indirection_calm f e = never_faults is_lifetime takes lifetime_calm (rule_of Indirection) refl f
    (sym (takes_by_rule Indirection f) ∙ e)

ty_by : (f : Forest) (s : ParseResult) → takes Indirection f ≡ s
    → ((g : Forest) → flat_len g < flat_len f
    → takes Ty g ≡ (in_turn (takes Indirection) g >>= meaning takes direct_type))
    → takes Ty f ≡ (in_turn (takes Indirection) f >>= meaning takes direct_type)
ty_by f (Ok g) e h =
    ty_on f g e ∙ (h g (takes_shorter Indirection f g refl e)
    ∙ ap (λ s. s >>= meaning takes direct_type) (sym (turns_on Indirection f g refl e)))
ty_by f (Err NoMatch) e h = ty_direct f e ∙ ap (λ s. s >>= meaning takes direct_type) (sym (turns_end Indirection f e))
ty_by f (Err Fault) e h = absurd (indirection_calm f e)

ty_within : (n : ℕ) (f : Forest) → flat_len f < n
    → takes Ty f ≡ (in_turn (takes Indirection) f >>= meaning takes direct_type)
ty_within zero f lt = absurd (omega arith)
ty_within (suc n) f lt = ty_by f (takes Indirection f) refl (λ g le. ty_within n g (omega arith))

pub ty_is : (f : Forest) → takes Ty f ≡ (in_turn (takes Indirection) f >>= meaning takes direct_type)
ty_is f = ty_within (suc (flat_len f)) f (omega arith)
