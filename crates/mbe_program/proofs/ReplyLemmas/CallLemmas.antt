-- What a call answers, from what its parts do.
use Rattle.std.proofs.Common.{◌≡◌, inl, inr, ℕ, List, map, Result, Ok, Err, IfOk, IfErr, subst, sym}
use Rattle.mbe_tt.specs.declared.span.Edition.{Edition}
use Rattle.mbe_tt.specs.Trees.Top.{Top}
use Rattle.mbe_tt.specs.Trees.Tree.{Forest}
use Rattle.mbe_tt.specs.Grammars.Grammar.{Grammar}
use Rattle.mbe_ops.specs.Errors.ErrorViews.{parse_error_of}
use Rattle.mbe_text.specs.declared.dialect.Dialect.{Dialect}
use Rattle.mbe_text.specs.declared.scanner.LexFault.{LexFault}
use Rattle.mbe_text.specs.declared.lexer.LexError.{LexError}
use Rattle.mbe_text.specs.declared.lexer.LexError.TheVariants as lex_errors
use Rattle.mbe_text.specs.LexedTrees.{Lexes, lexed_trees}
use Rattle.mbe_grammar.specs.declared.tables.node.Keyword.{Keyword}
use Rattle.mbe_grammar.specs.declared.tables.node.Node.{Node}
use Rattle.mbe_grammar.specs.declared.tables.peg_table.RuleTable.{RuleTable}
use Rattle.mbe_grammar.specs.declared.tables.peg_table.EntryRules.{EntryRules}
use Rattle.mbe_grammar.specs.declared.peg.peg_error.PegError.{PegError}
use Rattle.mbe_grammar.specs.declared.peg.peg_error.PegError.TheVariants as rule_faults
use Rattle.mbe_grammar.specs.Peg.Grammar.{read_text}
use Rattle.mbe_grammar.specs.Peg.Views.{Faults, plain_keyword, plain_node, plain_reason}
use Rattle.mbe_program.specs.declared.replies.flat.decoder.FlatError.{FlatError}
use Rattle.mbe_program.specs.declared.replies.flat.decoder.FlatError.TheVariants as flat_errors
use Rattle.mbe_program.specs.declared.replies.request_codes.GrammarKind.{GrammarKind}
use Rattle.mbe_program.specs.declared.tree_expansion.DefinitionError.{DefinitionError}
use Rattle.mbe_program.specs.declared.tree_expansion.DefinitionError.TheVariants as unread
use Rattle.mbe_program.specs.declared.replies.requests.FlatVerdict.{FlatVerdict}
use Rattle.mbe_program.specs.declared.replies.requests.Request.{Request}
use Rattle.mbe_program.specs.declared.replies.requests.RequestSettings.{RequestSettings}
use Rattle.mbe_program.specs.Replies.Answers.{Answer, OrOutOfMemory, IsUnlexed, AreInvalidTokensBy, IsInvalidGrammarBy}
use Rattle.mbe_program.specs.Replies.Answers.{IsUnreadBy, IsNoGrammar, fault_in_grammar, no_memory_for_grammar}
use Rattle.mbe_program.specs.TreeExpansion.{HasNoMacro}
use Rattle.mbe_program.specs.Replies.Flat.TokenFaults.{AreRefused}
use Rattle.mbe_program.specs.Replies.Requests.{AreRequestSettings, AreTreesOf, HasNoTrees, unlexed, invalid_tokens}
use Rattle.mbe_program.specs.Replies.Requests.{no_memory_for_trees, IsNoMacro, refused, no_memory_for_macro, tree_shown}
use Rattle.mbe_program.specs.Replies.Requests.{Converts, converted, no_memory_for_form, Source, Reads, IsGrammar}
use Rattle.mbe_program.specs.Replies.Requests.{table_seen, IsNoResult, no_macro, ExpandsTrees, Expands, ExplainsTrees}
use Rattle.mbe_program.specs.Replies.Requests.{ShowsVerdicts, no_result}

-- ---- failures

pub unlexed_by : (dialect : Dialect) (s : Source) (text : List ℕ) (error : LexError) (fault : LexFault) (a : Answer)
    → s.is_flat ≡ 0
    → text ≡ s.text → error ≡ lex_errors.Fault fault → Lexes (lexed_trees dialect s.file text) (Err error)
    → OrOutOfMemory (IsUnlexed s.part fault) a → HasNoTrees dialect s a
unlexed_by dialect s text error fault a flat same is lexes (inl h) =
    let lexed : Lexes (lexed_trees dialect s.file text) (Err (lex_errors.Fault fault)) =
    subst (λ (e : LexError). Lexes (lexed_trees dialect s.file text) (Err e)) is lexes in
    unlexed flat fault (subst (λ (t : List ℕ). lexed_trees dialect s.file t ≡ Err fault) same lexed) h
unlexed_by dialect s text error fault a flat same is lexes (inr h) = no_memory_for_trees h

pub untreed_by : (dialect : Dialect) (s : Source) (error : FlatError) (a : Answer) → s.is_flat ≡ 1
    → AreRefused s.text s.tokens error → AreInvalidTokensBy s.part error a
    → HasNoTrees dialect s a
untreed_by dialect s (flat_errors.Fault index fault_kind) a flat why (inl h) =
    invalid_tokens flat index fault_kind why h
untreed_by dialect s (flat_errors.Fault index fault_kind) a flat why (inr h) = no_memory_for_trees h
untreed_by dialect s flat_errors.OutOfMemory a flat why h = no_memory_for_trees h

pub ungrammatical_by : (text read : List ℕ) (fault : PegError) (a : Answer) → read ≡ text
    → Faults fault (read_text read)
    → IsInvalidGrammarBy fault a → IsNoGrammar text a
ungrammatical_by text read (rule_faults.At place reason) a same e (inl h) =
    fault_in_grammar place (plain_reason reason)
    (subst (λ (t : List ℕ). Faults (rule_faults.At place reason) (read_text t)) same e) h
ungrammatical_by text read (rule_faults.At place reason) a same e (inr h) = no_memory_for_grammar h
ungrammatical_by text read rule_faults.OutOfMemory a same e h = no_memory_for_grammar h

pub unread_by : {A : Type 0} (edition : Edition) (definition : Forest) (error : DefinitionError A) (a : Answer)
    → HasNoMacro edition definition error
    → IsUnreadBy error a → IsNoMacro edition definition a
unread_by edition definition (unread.Refused error) a (rules, read) (inl h) =
    refused rules (parse_error_of error) read h
unread_by edition definition (unread.Refused error) a read (inr h) = no_memory_for_macro h
unread_by edition definition unread.OutOfMemory a read h = no_memory_for_macro h

-- ---- the grammar that is asked for

-- the table of what was read
pub table_read : (text : List ℕ) (nodes : List Node) (keywords : List Keyword) (starts : EntryRules) (t : RuleTable)
    → read_text text ≡ Ok (record {
      nodes = map plain_node nodes;
      keywords = map plain_keyword keywords;
      starts = starts;
    })
    → t.nodes.now ≡ nodes → t.keywords.now ≡ keywords → t.starts ≡ starts → read_text text ≡ Ok (table_seen t)
table_read text nodes keywords starts t e n k s = rw (n, k, s) e

named_by : (s : RequestSettings) (text : List ℕ) (kind : GrammarKind) (g : Grammar) → s.grammar ≡ kind
    → IsGrammar s.edition text kind g
    → IsGrammar s.edition text s.grammar g
named_by s text kind g is named = subst (λ (k : GrammarKind). IsGrammar s.edition text k g) (sym is) named

pub no_result_by : (s : RequestSettings) (text : List ℕ) (kind : GrammarKind) (g : Grammar) (definition : Top)
    (a : Answer)
    → s.grammar ≡ kind
    → IsGrammar s.edition text kind g → IsNoMacro s.edition definition.1 a → IsNoResult s text definition a
no_result_by s text kind g definition a is named none = no_macro g (named_by s text kind g is named) none

-- ---- results

pub ok_map : {T E : Type 0} (r : Result T E) (P Q : T → Type 0) → ((x : T) → P x → Q x) → IfOk r P → IfOk r Q
ok_map (Ok x) P Q f h = f x h
ok_map (Err e) P Q f h = h

pub err_map : {T E : Type 0} (r : Result T E) (P Q : E → Type 0) → ((e : E) → P e → Q e) → IfErr r P → IfErr r Q
err_map (Ok x) P Q f h = h
err_map (Err e) P Q f h = f e h

-- ---- one input

pub converts_to : (r : Request) (s : Source) (x : RequestSettings) (tree : Top) (a : Answer) → AreRequestSettings r x
    → AreTreesOf x.dialect s tree
    → OrOutOfMemory (λ b. b ≡ tree_shown x.form tree) a → Converts r s a
converts_to r s x tree a asked given (inl h) = converted x asked tree given h
converts_to r s x tree a asked given (inr h) = no_memory_for_form h

-- ---- both inputs

-- what was read
abbrev pub read_both : (r : Request) (definition argument : Source) (s : RequestSettings) → AreRequestSettings r s
    → (rules : Top)
    → AreTreesOf s.dialect definition rules → (trees : Top) → AreTreesOf s.dialect argument trees
    → Reads r definition argument
read_both r definition argument s asked rules defined trees given =
    record { settings = s; asked = asked; rules = rules; defined = defined; trees = trees; given = given }

pub expands_both : (r : Request) (text : List ℕ) (definition argument : Source) (a : Answer) (s : RequestSettings)
    → AreRequestSettings r s
    → (rules : Top) → AreTreesOf s.dialect definition rules → (trees : Top) → AreTreesOf s.dialect argument trees
    → ExpandsTrees s text rules trees a → Expands r text definition argument a
expands_both r text definition argument a s asked rules defined trees given (inl (g, named, shows)) = inl (record {
  reads = read_both r definition argument s asked rules defined trees given;
  grammar = g;
  named = named;
  expansion = shows;
})
expands_both r text definition argument a s asked rules defined trees given (inr none) =
    inr (no_result (read_both r definition argument s asked rules defined trees given) none)

pub explains_both : (r : Request) (text : List ℕ) (definition argument : Source) (found : List FlatVerdict)
    (s : RequestSettings) → AreRequestSettings r s
    → (rules : Top) → AreTreesOf s.dialect definition rules → (trees : Top) → AreTreesOf s.dialect argument trees
    → ExplainsTrees s text rules trees found → ShowsVerdicts r text definition argument found
explains_both r text definition argument found s asked rules defined trees given (g, named, verdicts) = record {
  reads = read_both r definition argument s asked rules defined trees given;
  grammar = g;
  named = named;
  verdicts = verdicts;
}
