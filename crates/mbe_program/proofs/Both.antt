-- The trees of both texts, or the first fault.
use Rattle.std.proofs.Common.{◌≡◌, ℕ, List, Ok, refl}
use Rattle.mbe_tt.specs.Trees.Top.{Top}
use Rattle.mbe_text.specs.Tokens.{IsLexed}
use Rattle.mbe_text.specs.LexedTrees.{sample_trees}
use Rattle.mbe_program.specs.declared.program.Outcome.{Outcome}
use Rattle.mbe_program.specs.declared.program.Outcome.TheVariants.{Expanded, Linted, Faulted, Refused, CannotLex}
use Rattle.mbe_program.specs.declared.program.Outcome.TheVariants.{CannotWrite, OutOfMemory}
use Rattle.mbe_program.specs.TextExpansion.{AreTrees, both_trees, IsAtFault, IsUnlexed}

-- both texts have trees
pub trees : (def_text arg_text : List ℕ) (definition argument : Top) → IsLexed 0 def_text definition
    → IsLexed 1 arg_text argument
    → sample_trees 0 def_text ≡ Ok definition → sample_trees 1 arg_text ≡ Ok argument
    → AreTrees def_text arg_text definition argument
trees def_text arg_text definition argument defined given d e =
    record { divided = (rw (both_trees, d, e) refl); defined = defined; given = given }

-- the definition's text is at fault
pub first_fault : {A : Type 0} (def_text arg_text : List ℕ) (outcome : Outcome A)
    → IsAtFault 0 def_text outcome → IsUnlexed def_text arg_text outcome
first_fault def_text arg_text Expanded h = absurd h
first_fault def_text arg_text Linted h = absurd h
first_fault def_text arg_text Faulted h = absurd h
first_fault def_text arg_text (Refused error) h = absurd h
first_fault def_text arg_text (CannotLex file offset) (is, e) = rw (is, both_trees, e) refl
first_fault def_text arg_text CannotWrite h = absurd h
first_fault def_text arg_text OutOfMemory h = tt

-- the argument's text is, and the definition's isn't
pub second_fault : {A : Type 0} (def_text arg_text : List ℕ) (definition : Top) (outcome : Outcome A)
    → sample_trees 0 def_text ≡ Ok definition
    → IsAtFault 1 arg_text outcome → IsUnlexed def_text arg_text outcome
second_fault def_text arg_text definition Expanded d h = absurd h
second_fault def_text arg_text definition Linted d h = absurd h
second_fault def_text arg_text definition Faulted d h = absurd h
second_fault def_text arg_text definition (Refused error) d h = absurd h
second_fault def_text arg_text definition (CannotLex file offset) d (is, e) = rw is (rw (both_trees, d, e) refl)
second_fault def_text arg_text definition CannotWrite d h = absurd h
second_fault def_text arg_text definition OutOfMemory d h = tt
