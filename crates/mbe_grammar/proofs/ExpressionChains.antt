-- An expression, link by link.
use Rattle.std.proofs.Common.{◌≡◌, ℕ, ◌<◌, Bool, true, false, List, [], ◌∷◌, map, None, Ok, Err, refl, sym, ap, ◌∙◌}
use Rattle.std.proofs.Common.{subst, arith}
use Rattle.std.specs.Prelude.{codes}
use Rattle.mbe_tt.specs.Trees.Tree.{Forest, flat_len}
use Rattle.mbe_grammar.specs.declared.tables.parse_result.ParseFailure.{ParseFailure}
use Rattle.mbe_grammar.specs.declared.tables.parse_result.ParseFailure.TheVariants.{NoMatch, Fault}
use Rattle.mbe_grammar.specs.Rule.{one, part, ◌or◌, meaning, in_turn}
use Rattle.mbe_grammar.specs.Tables.Terminals.{ParseResult, or_no_match, after_one}
use Rattle.mbe_grammar.specs.Tables.Rule.{◌>>=◌, or_else, require_match, if_match, unless_match}
use Rattle.mbe_grammar.specs.RuleLaws.{meaning_leaves}
use Rattle.mbe_grammar.specs.Tables.SingleTrees.{is_one_of, is_literal}
use Rattle.mbe_grammar.specs.SampleGrammar.{PegGrammar, Nonterminal, word, words, brace, any_group, expr_start}
use Rattle.mbe_grammar.specs.SampleGrammar.{Operator, Operation, Expr, Prefix, Unary, Operand, KeywordBlock, JumpWord}
use Rattle.mbe_grammar.specs.SampleGrammar.{JumpValue, Jump, PathExpr, Primary, Post, rule_of, takes}
use Rattle.mbe_grammar.specs.Chains.{jump_to_value, plain_operand}
use Rattle.mbe_grammar.specs.Lawful.{takes_some, takes_leaves}
use Rattle.mbe_grammar.proofs.RuleLemmas.{in_turn_done, in_turn_keeps, in_turn_placed, never_faults, shorter}
use Rattle.mbe_grammar.proofs.Parts.{takes_by_rule, takes_shorter, turns_on, turns_end, turns_fault, turns_no_longer}
use Rattle.mbe_grammar.proofs.Fronts.{are_apart, Begins, one_absent, words_apart, word_is_no_literal, one_placed}
use Rattle.mbe_grammar.proofs.Fronts.{then_placed}
use Rattle.mbe_grammar.proofs.TypeChains.{is_lifetime, lifetime_calm}

-- ---- where an expression ends

turns_done : (x : Nonterminal) (f g : Forest) → takes_some x ≡ true → in_turn (takes x) f ≡ Ok g
    → takes x g ≡ Err NoMatch
turns_done x f g p e = in_turn_done (takes x) (λ h. rw p at (takes_leaves x h)) f g e

stood : (s : ParseResult) (g : Forest) → require_match s ≡ Ok g → s ≡ Ok g
stood (Ok h) g e = e
stood (Err NoMatch) g e = cc
stood (Err Fault) g e = cc

-- no post comes after an operand, an operation or an expression
unary_done : (f g : Forest) → takes Unary f ≡ Ok g → takes Post g ≡ Err NoMatch
unary_done f g e =
    let (start, _, operand) = then_placed (in_turn (takes Prefix) f) (takes Operand) g
    (sym (takes_by_rule Unary f) ∙ e) in
    let (end, _, posts) = then_placed (takes Primary start) (in_turn (takes Post)) g
    (sym (takes_by_rule Operand start) ∙ operand) in
    turns_done Post end g refl posts

operation_done : (f g : Forest) → takes Operation f ≡ Ok g → takes Post g ≡ Err NoMatch
operation_done f g e =
    let (start, _, unary) = then_placed (takes Operator f) (λ h. require_match (takes Unary h)) g
    (sym (takes_by_rule Operation f) ∙ e) in
    unary_done start g (stood (takes Unary start) g unary)

expr_parts : (f g : Forest) → takes Expr f ≡ Ok g
    → (h : Forest) × (takes Unary f ≡ Ok h) × (in_turn (takes Operation) h ≡ Ok g)
expr_parts f g e = then_placed (takes Unary f) (in_turn (takes Operation)) g (sym (takes_by_rule Expr f) ∙ e)

posts_end : (f g : Forest) → takes Expr f ≡ Ok g → in_turn (takes Post) g ≡ Ok g
posts_end f g e =
    let (h, unary, operations) = expr_parts f g e in
    turns_end Post g (in_turn_keeps (λ k. takes Post k ≡ Err NoMatch) (takes Operation) operation_done h g
    (unary_done f h unary) operations)

operations_end : (f g : Forest) → takes Expr f ≡ Ok g → in_turn (takes Operation) g ≡ Ok g
operations_end f g e =
    let (h, _, operations) = expr_parts f g e in
    turns_end Operation g (turns_done Operation h g refl operations)

-- ---- an operator and what follows it

operation_by : (f g : Forest) (u : ParseResult) → takes Unary g ≡ u → takes Operation f ≡ require_match u
    → in_turn (takes Operation) f ≡ require_match (takes Expr g)
operation_by f g (Ok h) unary operation =
    turns_on Operation f h refl operation
    ∙ (sym (in_turn_placed (takes Operation) h)
    ∙ ap require_match (sym (takes_by_rule Expr g ∙ ap (λ s. s >>= in_turn (takes Operation)) unary)))
operation_by f g (Err NoMatch) unary operation =
    turns_fault Operation f operation ∙ ap require_match
    (sym (takes_by_rule Expr g ∙ ap (λ s. s >>= in_turn (takes Operation)) unary))
operation_by f g (Err Fault) unary operation =
    turns_fault Operation f operation ∙ ap require_match
    (sym (takes_by_rule Expr g ∙ ap (λ s. s >>= in_turn (takes Operation)) unary))

operation_after : (f : Forest) (s : ParseResult) → takes Operator f ≡ s
    → takes Operation f ≡ (s >>= λ g. require_match (takes Unary g))
operation_after f s e = takes_by_rule Operation f ∙ ap (λ t. t >>= λ g. require_match (takes Unary g)) e

pub operator_on : (f g : Forest) → takes Operator f ≡ Ok g → in_turn (takes Operation) f ≡ require_match (takes Expr g)
operator_on f g e = operation_by f g (takes Unary g) refl (operation_after f (Ok g) e)

pub operator_absent : (f : Forest) → takes Operator f ≡ Err NoMatch → in_turn (takes Operation) f ≡ Ok f
operator_absent f e = turns_end Operation f (operation_after f (Err NoMatch) e)

pub operator_faults : (f : Forest) → takes Operator f ≡ Err Fault → in_turn (takes Operation) f ≡ Err Fault
operator_faults f e = turns_fault Operation f (operation_after f (Err Fault) e)

pub operator_shorter : (f g : Forest) → takes Operator f ≡ Ok g → flat_len g < flat_len f
operator_shorter f g e = takes_shorter Operator f g refl e

-- ---- jumps

abbrev jumps : List (List ℕ)
jumps = map codes ("break" ∷ "return" ∷ "continue" ∷ [])

jump_begins : (f g : Forest) → takes JumpWord f ≡ Ok g → Begins (is_one_of jumps) f
jump_begins f g e = one_placed (is_one_of jumps) f _ (then_placed _ _ g (sym (takes_by_rule JumpWord f) ∙ e)).1

no_other_word : (others : List (List ℕ)) → are_apart jumps others ≡ true → (f : Forest) → Begins (is_one_of jumps) f
    → after_one (is_one_of others) f ≡ None
no_other_word others apart f h = one_absent (is_one_of jumps) (is_one_of others) (words_apart jumps others apart) f h

keyword_block_absent : (f : Forest) → Begins (is_one_of jumps) f → takes KeywordBlock f ≡ Err NoMatch
keyword_block_absent f h =
    takes_by_rule KeywordBlock f ∙ ap (λ x. or_no_match x >>= meaning takes brace)
    (no_other_word (map codes ("const" ∷ "unsafe" ∷ [])) refl f h)

placed_first : (s t : ParseResult) → or_else (require_match s) t ≡ require_match s
placed_first (Ok g) t = refl
placed_first (Err NoMatch) t = refl
placed_first (Err Fault) t = refl

-- where a jump is, the operand by itself is that
primary_jump : (f g : Forest) (s : ParseResult) → takes JumpWord f ≡ Ok g → takes Jump f ≡ require_match s
    → takes Primary f ≡ require_match s
primary_jump f g s e jump =
    let h = jump_begins f g e in
    let after_block : PegGrammar = part Jump or any_group or part PathExpr in
    let after_literal : PegGrammar = part KeywordBlock or after_block in
    let after_word : PegGrammar = one is_literal or after_literal in
    takes_by_rule Primary f
    ∙ (ap (λ x. unless_match (or_no_match x) f >>= meaning takes (words ("_" ∷ "true" ∷ "false" ∷ []) or after_word))
    (no_other_word (codes "let" ∷ []) refl f h)
    ∙ (ap (λ x. or_else (or_no_match x) (meaning takes after_word f))
    (no_other_word (map codes ("_" ∷ "true" ∷ "false" ∷ [])) refl f h)
    ∙ (ap (λ x. or_else (or_no_match x) (meaning takes after_literal f))
    (one_absent (is_one_of jumps) is_literal (word_is_no_literal jumps) f h)
    ∙ (ap (λ t. or_else t (meaning takes after_block f)) (keyword_block_absent f h)
    ∙ (ap (λ t. or_else t (meaning takes (any_group or part PathExpr) f)) jump ∙ placed_first s _)))))

-- a jump and its value
ahead_parts : (s : ParseResult) (f g : Forest) → if_match s f ≡ Ok g → (f ≡ g) × (if_match s f ≡ Ok f)
ahead_parts (Ok h) f g e = (cc, refl)
ahead_parts (Err miss) f g e = cc

jump_value : (f g : Forest) → takes JumpWord f ≡ Ok g → if_match (meaning takes expr_start g) g ≡ Ok g
    → takes Jump f ≡ require_match (takes Expr g)
jump_value f g word start =
    takes_by_rule Jump f
    ∙ (ap (λ s. s >>= λ h. or_else (takes JumpValue h) (Ok h)) word
    ∙ (ap (λ s. or_else s (Ok g)) (takes_by_rule JumpValue g ∙ ap (λ s. s >>= λ h. require_match (takes Expr h)) start)
    ∙ placed_first (takes Expr g) (Ok g)))

-- nothing is taken after an expression
ends_there : (s : ParseResult) (posts operations : Forest → ParseResult) → ((g : Forest) → s ≡ Ok g → posts g ≡ Ok g)
    → ((g : Forest) → s ≡ Ok g → operations g ≡ Ok g)
    → ((require_match s >>= posts) >>= operations) ≡ require_match s
ends_there (Ok g) posts operations a b = ap (λ t. t >>= operations) (a g refl) ∙ b g refl
ends_there (Err NoMatch) posts operations a b = refl
ends_there (Err Fault) posts operations a b = refl

expr_from : (f : Forest) (s : ParseResult) → in_turn (takes Prefix) f ≡ s
    → takes Expr f ≡ ((s >>= takes Operand) >>= in_turn (takes Operation))
expr_from f s e = takes_by_rule Expr f ∙ ap (λ t. t >>= in_turn (takes Operation))
    (takes_by_rule Unary f ∙ ap (λ t. t >>= takes Operand) e)

pub prefixes_miss : (f : Forest) (miss : ParseFailure) → in_turn (takes Prefix) f ≡ Err miss → takes Expr f ≡ Err miss
prefixes_miss f miss e = expr_from f (Err miss) e

jump_parts : (f g : Forest) → meaning takes jump_to_value f ≡ Ok g
    → (takes JumpWord f ≡ Ok g) × (if_match (meaning takes expr_start g) g ≡ Ok g)
jump_parts f g e =
    let (h, word, start) = then_placed (takes JumpWord f) (λ k. if_match (meaning takes expr_start k) k) g e in
    let (same, placed) = ahead_parts (meaning takes expr_start h) h g start in
    let P : Forest → Type 0 = λ k. (takes JumpWord f ≡ Ok k) × (if_match (meaning takes expr_start k) k ≡ Ok k) in
    subst P same (word, placed)

-- a jump's value is the rest of the whole
pub jump_on : (f start g : Forest) → in_turn (takes Prefix) f ≡ Ok start → meaning takes jump_to_value start ≡ Ok g
    → takes Expr f ≡ require_match (takes Expr g)
jump_on f start g e jump =
    let (word, placed) = jump_parts start g jump in
    let primary : takes Primary start ≡ require_match (takes Expr g) =
    primary_jump start g (takes Expr g) word (jump_value start g word placed) in
    expr_from f (Ok start) e
    ∙ (ap (λ t. t >>= in_turn (takes Operation))
    (takes_by_rule Operand start ∙ ap (λ t. t >>= in_turn (takes Post)) primary)
    ∙ ends_there (takes Expr g) (in_turn (takes Post)) (in_turn (takes Operation)) (posts_end g) (operations_end g))

pub jump_shorter : (f start g : Forest) → in_turn (takes Prefix) f ≡ Ok start → meaning takes jump_to_value start ≡ Ok g
    → flat_len g < flat_len f
jump_shorter f start g e jump =
    omega (arith, turns_no_longer Prefix f start e, takes_shorter JumpWord start g refl (jump_parts start g jump).0)

abbrev is_jump_word : Nonterminal → Bool
is_jump_word JumpWord = true
is_jump_word _ = false

jump_word_calm : (x : Nonterminal) → is_jump_word x ≡ true → (f : Forest) → takes x f ≡ Err Fault → ⊥
jump_word_calm JumpWord b f e = never_faults is_lifetime takes lifetime_calm (rule_of JumpWord) refl f
    (sym (takes_by_rule JumpWord f) ∙ e)
jump_word_calm _ b f e = cc

pub jump_calm : (f : Forest) → meaning takes jump_to_value f ≡ Err Fault → ⊥
jump_calm f e = never_faults is_jump_word takes jump_word_calm jump_to_value refl f e

-- ---- operands that are no jump with a value

value_absent : (s : ParseResult) (start whole : Forest → ParseResult)
    → ((g : Forest) → start g ≡ Err NoMatch → whole g ≡ Ok g)
    → (s >>= start) ≡ Err NoMatch → (s >>= whole) ≡ s
value_absent (Ok g) start whole h e = h g e
value_absent (Err miss) start whole h e = refl

jump_alone : (f : Forest) → meaning takes jump_to_value f ≡ Err NoMatch → takes Jump f ≡ takes JumpWord f
jump_alone f e =
    takes_by_rule Jump f
    ∙ value_absent (takes JumpWord f) (λ g. if_match (meaning takes expr_start g) g)
    (λ g. or_else (takes JumpValue g) (Ok g))
    (λ g absent. ap (λ s. or_else s (Ok g))
    (takes_by_rule JumpValue g ∙ ap (λ s. s >>= λ h. require_match (takes Expr h)) absent)) e

not_ahead_same : (s : ParseResult) (f : Forest) (k l : Forest → ParseResult) → k f ≡ l f
    → (unless_match s f >>= k) ≡ (unless_match s f >>= l)
not_ahead_same (Ok g) f k l e = refl
not_ahead_same (Err NoMatch) f k l e = e
not_ahead_same (Err Fault) f k l e = refl

operand_alone : (f : Forest) → meaning takes jump_to_value f ≡ Err NoMatch
    → takes Operand f ≡ meaning takes plain_operand f
operand_alone f e =
    let before = λ (s : ParseResult). or_else (meaning takes (words ("_" ∷ "true" ∷ "false" ∷ [])) f)
    (or_else (meaning takes (one is_literal) f)
    (or_else (takes KeywordBlock f) (or_else s (meaning takes (any_group or part PathExpr) f)))) in
    takes_by_rule Operand f
    ∙ ap (λ s. s >>= in_turn (takes Post))
    (takes_by_rule Primary f ∙ not_ahead_same (meaning takes (word "let") f) f _ _ (ap before (jump_alone f e)))

expr_of_operand : (f start : Forest) (s : ParseResult) → in_turn (takes Prefix) f ≡ Ok start
    → meaning takes jump_to_value start ≡ Err NoMatch → meaning takes plain_operand start ≡ s
    → takes Expr f ≡ (s >>= in_turn (takes Operation))
expr_of_operand f start s e absent operand =
    expr_from f (Ok start) e ∙ ap (λ t. t >>= in_turn (takes Operation)) (operand_alone start absent ∙ operand)

pub operand_on : (f start g : Forest) → in_turn (takes Prefix) f ≡ Ok start
    → meaning takes jump_to_value start ≡ Err NoMatch → meaning takes plain_operand start ≡ Ok g
    → takes Expr f ≡ in_turn (takes Operation) g
operand_on f start g e absent operand = expr_of_operand f start (Ok g) e absent operand

pub operand_misses : (f start : Forest) (miss : ParseFailure) → in_turn (takes Prefix) f ≡ Ok start
    → meaning takes jump_to_value start ≡ Err NoMatch → meaning takes plain_operand start ≡ Err miss
    → takes Expr f ≡ Err miss
operand_misses f start miss e absent operand = expr_of_operand f start (Err miss) e absent operand

pub operand_shorter : (f start g : Forest) → in_turn (takes Prefix) f ≡ Ok start
    → meaning takes plain_operand start ≡ Ok g → flat_len g < flat_len f
operand_shorter f start g e operand =
    let left = shorter start g (meaning takes plain_operand start)
    (meaning_leaves takes_some takes takes_leaves plain_operand start) operand in
    omega (arith, turns_no_longer Prefix f start e)

-- what the code asks for
pub ruleset operators = (operator_on, operator_absent, operator_faults, operator_shorter)

pub ruleset links = (prefixes_miss, jump_on, jump_shorter, jump_calm, operand_on, operand_misses, operand_shorter)
