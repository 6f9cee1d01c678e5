-- How a run ends without an expansion, and what a writer that is flushed holds.
use Rattle.std.proofs.Common.{◌≡◌, ℕ, List, [], ◌++◌, Option, Result, Ok, Err, IsOk, IsErr, subst, sym, ap}
use Rattle.std.proofs.lemmas.Bool.{false≢true}
use Rattle.std.specs.Io.KnownBytes.{Appends, Keeps}
use Rattle.std.proofs.KnownBytes.{Appends-kept}
use Rattle.mbe_tt.specs.declared.span.Edition.{Edition}
use Rattle.mbe_tt.specs.Trees.Tree.{Forest}
use Rattle.mbe_tt.specs.Trees.Top.{Top}
use Rattle.mbe_text.specs.TreeDump.{lines}
use Rattle.mbe_text.specs.WriterBytes.{WritesPrefix, Writes}
use Rattle.mbe_text.proofs.WriterLemmas.{takes_whole}
use Rattle.mbe_program.specs.declared.program.Outcome.{Outcome}
use Rattle.mbe_program.specs.declared.program.Outcome.TheVariants.{Expanded, Linted, Faulted, Refused, CannotLex}
use Rattle.mbe_program.specs.declared.program.Outcome.TheVariants.{CannotWrite, OutOfMemory}
use Rattle.mbe_semantics.specs.Expansion.Error.{ExpandError}
use Rattle.mbe_program.specs.ExpansionText.{head, printed}
use Rattle.mbe_program.specs.TextExpansion.{AreTrees, IsRefused, IsUnexpanded, IsUnlexed, outcome_of}
use Rattle.mbe_program.specs.TreeExpansion.{HasNoMacro}
use Rattle.mbe_program.specs.declared.tree_expansion.DefinitionError.{DefinitionError}
use Rattle.mbe_program.specs.declared.tree_expansion.DefinitionError.TheVariants as unread

-- a text isn't lexed
pub unlexed : {A : Type 0} (edition : Edition) (def_text arg_text : List ℕ) (outcome : Outcome A)
    → IsUnlexed def_text arg_text outcome → IsUnexpanded edition def_text arg_text outcome
unlexed edition def_text arg_text Expanded h = absurd h
unlexed edition def_text arg_text Linted h = absurd h
unlexed edition def_text arg_text Faulted h = absurd h
unlexed edition def_text arg_text (Refused error) h = absurd h
unlexed edition def_text arg_text (CannotLex file offset) h = h
unlexed edition def_text arg_text CannotWrite h = absurd h
unlexed edition def_text arg_text OutOfMemory h = tt

-- the definition is refused
pub refused : {A : Type 0} (edition : Edition) (def_text arg_text : List ℕ) (definition argument : Top)
    (outcome : Outcome A)
    → AreTrees def_text arg_text definition argument → IsRefused edition definition.1 outcome
    → IsUnexpanded edition def_text arg_text outcome
refused edition def_text arg_text definition argument Expanded trees h = absurd h
refused edition def_text arg_text definition argument Linted trees h = absurd h
refused edition def_text arg_text definition argument Faulted trees h = absurd h
refused edition def_text arg_text definition argument (Refused error) trees h = (definition, argument, trees, h)
refused edition def_text arg_text definition argument (CannotLex file offset) trees h = absurd h
refused edition def_text arg_text definition argument CannotWrite trees h = absurd h
refused edition def_text arg_text definition argument OutOfMemory trees h = tt

-- the definition is refused, or there is no memory
pub no_macro : {A : Type 0} (edition : Edition) (definition : Forest) (why : DefinitionError A) (outcome : Outcome A)
    → HasNoMacro edition definition why → outcome ≡ outcome_of why → IsRefused edition definition outcome
no_macro edition definition (unread.Refused error) outcome h is =
    subst (IsRefused edition definition) (sym is) h
no_macro edition definition unread.OutOfMemory outcome h is = subst (IsRefused edition definition) (sym is) tt

-- what was written stays when the writer is flushed, whether that fails or not
pub flushed : {T E : Type 0} (a b c : Option (List ℕ)) (r : Result T E) (xs : List ℕ) → Appends a b xs → Keeps b c
    → Writes a c r xs
flushed a b c (Ok x) xs p q = Appends-kept a b c xs p q
flushed a b c (Err e) xs p q = ([], takes_whole a c xs (Appends-kept a b c xs p q))

-- the text is that of both lines before the trees, and then come those of the trees
printed_whole : (text : List ℕ) (out : Forest) (index : Option ℕ) (err : Option ExpandError) → text ≡ head err index
    → text ++ lines 0 out ≡ printed out index err
printed_whole text out index err e = ap (λ (l : List ℕ). l ++ lines 0 out) e

-- where printing succeeds, all is written
pub printed_all : {T E : Type 0} (a b : Option (List ℕ)) (r : Result T E) (text : List ℕ) (out : Forest)
    (index : Option ℕ) (err : Option ExpandError)
    → text ≡ head err index → IsOk r → Writes a b r (text ++ lines 0 out) → Appends a b (printed out index err)
printed_all a b (Ok x) text out index err e h w = subst (Appends a b) (printed_whole text out index err e) w
printed_all a b (Err x) text out index err e h w = absurd (false≢true h)

-- where it fails, a prefix is
pub printed_some : {T E : Type 0} (a b : Option (List ℕ)) (r : Result T E) (text : List ℕ) (out : Forest)
    (index : Option ℕ) (err : Option ExpandError)
    → text ≡ head err index → IsErr r → Writes a b r (text ++ lines 0 out)
    → (left : List ℕ) × WritesPrefix a b (printed out index err) left
printed_some a b (Ok x) text out index err e h w = absurd (false≢true h)
printed_some a b (Err x) text out index err e h w =
    (w.0, subst (λ (l : List ℕ). WritesPrefix a b l w.0) (printed_whole text out index err e) w.1)
