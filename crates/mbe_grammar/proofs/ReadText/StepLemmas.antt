-- What is read after a step.
use Rattle.std.proofs.Common.{◌≡◌, Ok, ap}
use Rattle.mbe_grammar.specs.declared.peg.peg_error.PegError.{PegError}
use Rattle.mbe_grammar.specs.declared.peg.peg_error.PegError.TheVariants.{At, OutOfMemory}
use Rattle.mbe_grammar.specs.Peg.Grammar.{Read, ◌>>=◌}
use Rattle.mbe_grammar.specs.Peg.Views.{Faults}

-- a fault stays the fault
pub faults_on : {A B : Type 0} (fault : PegError) (out : Read A) (next : A → Read B) → Faults fault out
    → Faults fault (out >>= next)
faults_on OutOfMemory out next h = h
faults_on (At location reason) out next h = ap (λ o. o >>= next) h

-- what is read goes on
pub goes_on : {A B : Type 0} (out : Read A) (next : A → Read B) (x : A) → out ≡ Ok x → (out >>= next) ≡ next x
goes_on out next x h = ap (λ o. o >>= next) h

pub ruleset steps = (faults_on, goes_on)
