-- The error that is reported where an op doesn't match, and what it binds then (as in
-- rust-analyzer).
use Rattle.std.specs.Prelude.{List, [], ◌∷◌, ℕ, ◌++◌, ◌==◌, codes, Option, Some, None}
use Rattle.std.specs.Prelude.{if◌then◌else◌}
use Rattle.std.specs.Char.{encode_utf8}
use Rattle.mbe_tt.specs.declared.span.DelimSpan.{DelimSpan}
use Rattle.mbe_tt.specs.declared.tt.Punct.{Punct}
use Rattle.mbe_tt.specs.declared.grammar.Dialect.{Dialect}
use Rattle.mbe_tt.specs.declared.grammar.PrefixEntryPoint.{PrefixEntryPoint}
use Rattle.mbe_tt.specs.Trees.Leaf.{punct as punct_leaf}
use Rattle.mbe_tt.specs.Trees.Literals.{ident_text, literal_output}
use Rattle.mbe_tt.specs.Trees.Tree.{Forest, none, leaf, group}
use Rattle.mbe_tt.specs.Grammars.Grammar.{Grammar, front}
use Rattle.mbe_semantics.specs.declared.fragment_kinds.MetaVarKind.{MetaVarKind}
use Rattle.mbe_semantics.specs.Syntax.Op as ops
use Rattle.mbe_semantics.specs.Syntax.Op.{Name, Op, token, group as group_op, variable, repetition}
use Rattle.mbe_semantics.specs.Syntax.Op.{expression}
use Rattle.mbe_semantics.specs.Fragments.FragmentFront.{is_refused}
use Rattle.mbe_semantics.specs.Fragments.Kinds.{facts, style_of, entry_of, expected_text}
use Rattle.mbe_semantics.specs.Bindings.Account.{Command, binds, misses}
use Rattle.mbe_semantics.specs.Expansion.Error.{ExpandErrorKind, ExpandError, binding_error}
use Rattle.mbe_semantics.specs.Expansion.Error.{no_matching_rule, unexpected_token, front_span}
use Rattle.mbe_semantics.specs.Expansion.Error.{front_error}

-- an error at the first of the trees, or at the end of the group around them
abbrev pub error_at : ExpandErrorKind → Forest → DelimSpan → ExpandError
error_at kind f around = record { span = front_span f around.close; kind = kind }

-- the error where a literal or an identifier is expected
abbrev pub leaf_mismatch : List ℕ → Forest → ExpandErrorKind
leaf_mismatch text (leaf l rest) = unexpected_token
leaf_mismatch text none = binding_error text
leaf_mismatch text (group d inside rest) = binding_error text

-- the error where an operator is expected
abbrev pub puncts_mismatch : List ℕ → Forest → ExpandErrorKind
puncts_mismatch text (leaf (punct_leaf p) rest) =
    if p.char == 39 then unexpected_token else binding_error text
puncts_mismatch text _ = unexpected_token

-- the chars of puncts, joined
abbrev pub puncts_text : List Punct → List ℕ
puncts_text [] = []
puncts_text (p ∷ ps) = encode_utf8 p.char ++ puncts_text ps

abbrev pub front_match_error : Grammar → MetaVarKind → Option PrefixEntryPoint → Forest → DelimSpan
    → Option ExpandError
front_match_error g kind None f around =
    Some (error_at (binding_error (expected_text (facts kind).fragment_parser)) f around)
front_match_error g kind (Some entry) f around = front_error g entry f around

-- the error where a variable of the kind doesn't match
abbrev pub variable_match_error : Grammar → Option MetaVarKind → Forest → DelimSpan
    → Option ExpandError
variable_match_error g None f around = None
variable_match_error g (Some kind) f around =
    if is_refused kind f then Some (error_at no_matching_rule f around)
    else front_match_error g kind (entry_of (facts kind).fragment_parser) f around

-- The error that is reported where the op doesn't match the trees in front. There is none for a
-- group and for a variable with an unknown specifier.
abbrev pub match_error : Grammar → Op → Forest → DelimSpan → Option ExpandError
match_error g (token (ops.literal l)) f around =
    Some (error_at (leaf_mismatch (codes "expected literal: `"
    ++ (literal_output l ++ codes "`")) f) f around)
match_error g (token (ops.ident i)) f around =
    Some (error_at (leaf_mismatch (codes "expected ident: `" ++ (ident_text i ++ codes "`")) f) f
    around)
match_error g (token (ops.puncts ps)) f around =
    Some (error_at (puncts_mismatch (codes "expected punct: `" ++ (puncts_text ps ++ codes "`")) f)
    f around)
match_error g (variable name kind span) f around = variable_match_error g kind f around
match_error g (group_op d b) f around = None
match_error g (repetition b s k) f around = None
match_error g (expression e) f around = None

-- the variable is bound to the trees, or is missing if there are none
abbrev pub bound_if_some : Dialect → Name → MetaVarKind → Forest → Command
bound_if_some dialect name kind none = misses name kind
bound_if_some dialect name kind (leaf l rest) =
    binds name (record { trees = leaf l rest; style = style_of dialect (Some kind) })
bound_if_some dialect name kind (group d inside rest) =
    binds name (record { trees = group d inside rest; style = style_of dialect (Some kind) })

-- what a variable is bound to if the grammar faults its fragment
abbrev pub bad_front : Grammar → Name → MetaVarKind → Option PrefixEntryPoint → Forest → Command
bad_front g name kind None f = misses name kind
bad_front g name kind (Some entry) f =
    bound_if_some g.dialect name kind (front g entry f).front

-- What a variable that doesn't match is bound to in a report: the front that the grammar faults, or
-- the variable is missing.
abbrev pub failed_command : Grammar → Name → MetaVarKind → Forest → Command
failed_command g name kind f =
    if is_refused kind f then misses name kind else bad_front g name kind
    (entry_of (facts kind).fragment_parser) f
