use Rattle.mbe.specs.MacroViews.{macro_of}
use Rattle.mbe_ops.proofs.EqualityLemmas.{macros_tell, same_itself, same_back, same_through}
use Rattle.mbe.proofs.laws.equal_macros.Goals as goal

pub returns-clause-test : goal.returns-clause-test
returns-clause-test g c = λ x y. macros_tell (macro_of x) (macro_of y)

pub returns-clause-reflexive : goal.returns-clause-reflexive
returns-clause-reflexive g c = same_itself

pub returns-clause-symmetric : goal.returns-clause-symmetric
returns-clause-symmetric g c = same_back

pub returns-clause-transitive : goal.returns-clause-transitive
returns-clause-transitive g c = same_through
