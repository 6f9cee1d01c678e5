-- The sample grammar without its recursion: what ends a chain of prefixes, and the links of an
-- expression. The code parses by these rules, in loops.
use Rattle.std.specs.Prelude.{[], ◌∷◌}
use Rattle.mbe_grammar.specs.declared.sample_types.PathStyle.TheVariants.{Plain}
use Rattle.mbe_grammar.specs.Rule.{one, part, ◌then◌, ◌or◌, repeated, ahead, not_ahead}
use Rattle.mbe_grammar.specs.Tables.SingleTrees.{is_literal}
use Rattle.mbe_grammar.specs.SampleGrammar.{PegGrammar, words, word, puncts, parenthesis_or_bracket}
use Rattle.mbe_grammar.specs.SampleGrammar.{any_group, expr_start, Path, SignedLiteral, PathPat}
use Rattle.mbe_grammar.specs.SampleGrammar.{KeywordBlock, JumpWord, PathExpr, Post}

-- a type that doesn't begin with an indirection
abbrev pub direct_type : PegGrammar
direct_type = word "_" or puncts "!" or parenthesis_or_bracket or part (Path Plain)

-- a pattern that doesn't begin with a binding mode
abbrev pub direct_pattern : PegGrammar
direct_pattern = word "_" or part SignedLiteral or parenthesis_or_bracket or part PathPat

-- a jump that has a value, without the value
abbrev pub jump_to_value : PegGrammar
jump_to_value = part JumpWord then ahead expr_start

-- an operand without prefixes and postfixes; for a jump, the jump's word alone
abbrev pub plain_primary : PegGrammar
plain_primary =
    not_ahead (word "let")
    then (words ("_" ∷ "true" ∷ "false"
    ∷ []) or one is_literal or part KeywordBlock or part JumpWord or any_group or
    part PathExpr)

-- an operand that isn't a jump with a value, and its postfixes
abbrev pub plain_operand : PegGrammar
plain_operand = plain_primary then repeated (part Post)
