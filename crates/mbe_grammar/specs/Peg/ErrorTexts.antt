-- The messages for the errors in a grammar's text.
use Rattle.std.specs.Prelude.{ℕ, List, ◌++◌, codes}
use Rattle.std.specs.Fmt.{decimal}
use Rattle.mbe_grammar.specs.declared.peg.peg_error.PegErrorKind.{PegErrorKind}
use Rattle.mbe_grammar.specs.declared.peg.peg_error.PegErrorKind.TheVariants as reasons
use Rattle.mbe_grammar.specs.declared.peg.peg_error.PegError.{PegError}
use Rattle.mbe_grammar.specs.declared.peg.peg_error.PegError.TheVariants as faults

abbrev pub reason_text : PegErrorKind → List ℕ
reason_text reasons.InvalidToken = codes "no word of a grammar begins here"
reason_text reasons.Unclosed = codes "nothing closes this"
reason_text reasons.Empty = codes "an empty text"
reason_text reasons.ExpectedSign = codes "one character and a \"`\" have to follow"
reason_text reasons.Unopened = codes "nothing opens this"
reason_text reasons.ExpectedDefinition = codes "a name and a `=` have to come before this"
reason_text reasons.ExpectedRule = codes "a rule is missing here"
reason_text reasons.NothingToRepeat = codes "no rule is before this"
reason_text reasons.ExpectedKeyword = codes "keywords are words in `\"`"
reason_text (reasons.Unknown name) = codes "no rule is named \"" ++ (name.now ++ codes "\"")
reason_text (reasons.Duplicate name) = codes "a rule before is named \"" ++ (name.now ++ codes "\"")

-- `3:7: no rule is named "type"`: line, column and reason
abbrev pub fault_text : PegError → List ℕ
fault_text (faults.At location reason) =
    decimal location.line ++ (codes ":"
    ++ (decimal location.column ++ (codes ": " ++ reason_text reason)))
fault_text faults.OutOfMemory = codes "out of memory"
