-- What is printed of an expansion.
use Rattle.std.specs.Prelude.{ℕ, List, [], ◌++◌, Option, Some, None, codes}
use Rattle.std.specs.Fmt.{decimal}
use Rattle.mbe_tt.specs.Trees.Tree.{Forest}
use Rattle.mbe_semantics.specs.Expansion.Error.{ExpandError, text_of_kind}
use Rattle.mbe_text.specs.TreeDump.{span_text, lines}

-- The line of an error, if there is one: its message and its span.
abbrev pub error_line : Option ExpandError → List ℕ
error_line None = []
error_line (Some e) = codes "error: "
    ++ (text_of_kind e.kind ++ (codes " at " ++ (span_text e.span ++ codes "\n")))

-- The line of the rule: its index, or `none`.
abbrev pub arm_line : Option ℕ → List ℕ
arm_line None = codes "arm none\n"
arm_line (Some n) = codes "arm " ++ (decimal n ++ codes "\n")

-- the lines before the trees
abbrev pub head : Option ExpandError → Option ℕ → List ℕ
head err index = error_line err ++ arm_line index

-- The line of the error if there is one, the line of the rule, and the lines of the trees.
abbrev pub printed : Forest → Option ℕ → Option ExpandError → List ℕ
printed out index err = head err index ++ lines 0 out
