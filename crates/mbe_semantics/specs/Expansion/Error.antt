-- Errors of definitions and expansions, and their texts.
use Rattle.std.specs.Prelude.{List, ℕ, ◌++◌, codes, Option, Some, None, option_map, unwrap_or}
use Rattle.std.specs.Prelude.{if◌then◌else◌}
use Rattle.mbe_tt.specs.declared.span.Span.{Span}
use Rattle.mbe_tt.specs.declared.span.DelimSpan.{DelimSpan}
use Rattle.mbe_tt.specs.declared.grammar.PrefixEntryPoint.{PrefixEntryPoint}
use Rattle.mbe_tt.specs.declared.grammar.PrefixEntryPoint.TheVariants as entries
use Rattle.mbe_tt.specs.Trees.Tree.{Forest, first, first_span}
use Rattle.mbe_tt.specs.Grammars.Grammar.{Grammar, is_accepted}
use Rattle.mbe_semantics.specs.Syntax.Template.{Fault}
use Rattle.mbe_semantics.specs.Syntax.Template as faults

-- what the error of an expansion says
pub data ExpandErrorKind : Type 0 where
  binding_error : List ℕ → ExpandErrorKind
  unresolved_binding : List ℕ → ExpandErrorKind
  leftover_tokens : ExpandErrorKind
  limit_exceeded : ExpandErrorKind
  no_matching_rule : ExpandErrorKind
  unexpected_token : ExpandErrorKind

-- an error, and where it is
pub record ExpandError : Type 0 where
  pub span : Span
  pub kind : ExpandErrorKind

-- the message of a definition's error
abbrev pub text_of_fault : Fault → List ℕ
text_of_fault (faults.unexpected_token text) = text
text_of_fault (faults.expected text) = text
text_of_fault faults.invalid_repeat = codes "invalid repeat"
text_of_fault faults.empty_repetition = codes "empty token tree in repetition"

-- the message of an expansion's error
abbrev pub text_of_kind : ExpandErrorKind → List ℕ
text_of_kind (binding_error text) = text
text_of_kind (unresolved_binding name) = codes "could not find binding " ++ name
text_of_kind leftover_tokens = codes "leftover tokens"
text_of_kind limit_exceeded = codes "Expand exceed limit"
text_of_kind no_matching_rule = codes "no rule matches input tokens"
text_of_kind unexpected_token = codes "unexpected token in input"

-- the name of an entry point in messages
abbrev pub entry_name : PrefixEntryPoint → List ℕ
entry_name entries.Path = codes "Path"
entry_name entries.Expr = codes "Expr"
entry_name entries.Ty = codes "Ty"
entry_name entries.PatTop = codes "PatTop"
entry_name entries.Pat = codes "Pat"
entry_name entries.Stmt = codes "Stmt"
entry_name entries.Block = codes "Block"
entry_name entries.MetaItem = codes "MetaItem"
entry_name entries.Item = codes "Item"
entry_name entries.Vis = codes "Vis"

-- the first span of the trees, or the span `end` if there are no trees
abbrev pub front_span : Forest → Span → Span
front_span f end = unwrap_or (option_map first_span (first f)) end

-- the error for a fragment that the grammar faults, or that ends inside a group
abbrev pub front_error : Grammar → PrefixEntryPoint → Forest → DelimSpan → Option ExpandError
front_error g entry f around =
    if is_accepted g entry f then None
    else Some (record {
      span = front_span f around.close;
      kind = binding_error (codes "expected " ++ entry_name entry);
    })
