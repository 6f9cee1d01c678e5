-- The answer to each request: what it shows, or why there is no result.
use Rattle.std.specs.Prelude.{◌≡◌, ◌<◌, ◌≤◌, ◌^◌, ◌⊎◌, ℕ, true, List, [], length, map, IsUtf8}
use Rattle.std.specs.Prelude.{Option, Some, None, Ok, Err}
use Rattle.mbe_tt.specs.declared.grammar.Dialect.TheVariants.{RustAnalyzer}
use Rattle.mbe_tt.specs.declared.span.Edition.{Edition}
use Rattle.mbe_tt.specs.Trees.Top.{Top, top_group}
use Rattle.mbe_tt.specs.Trees.Tree.{Forest}
use Rattle.mbe_tt.specs.Grammars.Grammar.{Grammar}
use Rattle.mbe_text.specs.declared.dialect.Dialect.{Dialect}
use Rattle.mbe_text.specs.declared.scanner.LexFault.{LexFault}
use Rattle.mbe_text.specs.LexedTrees.{lexed_trees}
use Rattle.mbe_text.specs.TreeDump.{tree_text}
use Rattle.mbe_grammar.specs.SampleGrammar.{sample}
use Rattle.mbe_grammar.specs.declared.tables.peg_table.RuleTable.{RuleTable}
use Rattle.mbe_grammar.specs.Tables.Lawful.{grammar_of}
use Rattle.mbe_grammar.specs.Peg.Grammar.{Table, read_text}
use Rattle.mbe_grammar.specs.Peg.Views.{plain_keyword, plain_node}
use Rattle.mbe_grammar.specs.Rust.Closed.{all_defined}
use Rattle.mbe_grammar.specs.Rust.Keywords.{rows, rust_keywords}
use Rattle.mbe_grammar.specs.Rust.Nodes.{rust_nodes}
use Rattle.mbe_grammar.specs.Rust.Starts.{rust_begin_rules, rust_entry_rules}
use Rattle.mbe_text.specs.RustText.Printer.{text_of}
use Rattle.mbe_semantics.specs.Syntax.Definition.{Rule}
use Rattle.mbe_semantics.specs.Syntax.Template.{Fault}
use Rattle.mbe_semantics.specs.Expansion.Error.{ExpandError, text_of_kind}
use Rattle.mbe_semantics.specs.Expansion.ParsedMacro.{IsParsedRules}
use Rattle.mbe_semantics.specs.Readings.Verdict.{Verdict, one_reading, many_readings, ambiguous}
use Rattle.mbe_semantics.specs.Readings.Verdict.{stuck}
use Rattle.mbe_program.specs.declared.replies.flat.decoder.FlatFault.{FlatFault}
use Rattle.mbe_program.specs.declared.replies.flat.flat_token.FlatToken.{FlatToken}
use Rattle.mbe_program.specs.Replies.Flat.TokenFaults.{HasNoTree}
use Rattle.mbe_program.specs.Replies.Flat.TokenCodes.{span_of}
use Rattle.mbe_program.specs.Replies.Flat.Decoder.{AreTrees}
use Rattle.mbe_program.specs.Replies.Flat.Encoder.{flat_form}
use Rattle.mbe_program.specs.declared.replies.answer.RequestPart.{RequestPart}
use Rattle.mbe_program.specs.declared.replies.answer.RequestPart.TheVariants as parts
use Rattle.mbe_program.specs.declared.replies.answer.Status.TheVariants.{Done, Faulted, Number}
use Rattle.mbe_program.specs.declared.replies.request_codes.TreeForm.{TreeForm}
use Rattle.mbe_program.specs.declared.replies.request_codes.TreeForm.TheVariants as forms
use Rattle.mbe_program.specs.declared.replies.request_codes.GrammarKind.{GrammarKind}
use Rattle.mbe_program.specs.declared.replies.request_codes.GrammarKind.TheVariants as grammars
use Rattle.mbe_program.specs.declared.replies.requests.FlatVerdict.{FlatVerdict}
use Rattle.mbe_program.specs.declared.replies.requests.Input.{Input}
use Rattle.mbe_program.specs.declared.replies.requests.Request.{Request}
use Rattle.mbe_program.specs.declared.replies.requests.RequestSettings.{RequestSettings}
use Rattle.mbe_program.specs.Replies.Answers.{Answer, empty, IsOutOfMemory, IsUnlexed}
use Rattle.mbe_program.specs.Replies.Answers.{AreInvalidTokens, IsRefusal, IsNoText, IsNoGrammar}
use Rattle.mbe_program.specs.Replies.RequestCodes.{edition_of, dialect_of, grammar_of as kind_of}
use Rattle.mbe_program.specs.Replies.RequestCodes.{style_of, form_of}
use Rattle.mbe_program.specs.TreeExpansion.{ExpandsBy, ExplainsBy, IsEdition}

-- ---- what is asked

-- What the numbers of a request stand for.
pub record AreRequestSettings (r : Request) (s : RequestSettings) : Type 0 where
  pub edition : edition_of r.edition ≡ Some s.edition
  pub dialect : dialect_of r.dialect s.edition ≡ Some s.dialect
  pub grammar : kind_of r.grammar ≡ Some s.grammar
  pub style : style_of r.style ≡ Some s.style
  pub form : form_of r.form ≡ Some s.form
  pub site : s.call_site ≡ span_of r.call_site

-- Some number of the request has no meaning.
abbrev pub IsUnknown : Request → Type 0
IsUnknown r = (s : RequestSettings) → ¬ (AreRequestSettings r s)

-- An input: a text, or flat tokens with their text.
pub record Source : Type 0 where
  pub text : List ℕ
  pub tokens : List FlatToken
  pub is_flat : ℕ
  pub part : RequestPart
  pub file : ℕ

abbrev pub source_of : Input → Source
source_of i =
    record {
      text = i.text.now;
      tokens = i.tokens.now;
      is_flat = i.is_flat;
      part = i.part;
      file =
          i.file;
    }

-- The definition of a request, and its argument, or its only input.
abbrev pub definition_of : Request → List ℕ → List FlatToken → Source
definition_of r text tokens =
    record {
      text = text;
      tokens = tokens;
      is_flat = r.definition_is_flat;
      part = parts.Definition;
      file = 0;
    }

abbrev pub argument_of : Request → List ℕ → List FlatToken → Source
argument_of r text tokens =
    record {
      text = text;
      tokens = tokens;
      is_flat = r.argument_is_flat;
      part = parts.Argument;
      file = 1;
    }

-- ---- the trees of an input

-- A text of less than 2^32 bytes.
pub record IsText (text : List ℕ) : Type 0 where
  pub short : length text < 2 ^ 32
  pub utf8 : IsUtf8 text

-- The trees of an input: what the lexer's definition gives for its text, or what its flat tokens
-- decode to.
pub data AreTreesOf (dialect : Dialect) (s : Source) (tree : Top) : Type 0 where
  lexed : s.is_flat ≡ 0 → IsText s.text → lexed_trees dialect s.file s.text ≡ Ok tree
      → AreTreesOf dialect s tree
  said : s.is_flat ≡ 1 → AreTrees s.text s.tokens tree → AreTreesOf dialect s tree

-- An input has no trees, and the answer says why. Its bytes are no text, the text can't be lexed,
-- its flat tokens aren't trees, or it is neither a text nor flat tokens.
pub data HasNoTrees (dialect : Dialect) (s : Source) (a : Answer) : Type 0 where
  no_text_of_input : s.is_flat ≡ 0 → IsNoText s.part s.text a → HasNoTrees dialect s a
  unlexed : s.is_flat ≡ 0 → (fault : LexFault) → lexed_trees dialect s.file s.text ≡ Err fault
      → IsUnlexed s.part fault a
      → HasNoTrees dialect s a
  invalid_tokens : s.is_flat ≡ 1 → (index : ℕ) (fault_kind : FlatFault)
      → HasNoTree s.text s.tokens index fault_kind
      → AreInvalidTokens s.part index fault_kind a → HasNoTrees dialect s a
  neither : 2 ≤ s.is_flat → a ≡ empty Number s.part → HasNoTrees dialect s a
  no_memory_for_trees : IsOutOfMemory a → HasNoTrees dialect s a

-- ---- the grammar of fragments

-- The table of Rust's rules, whose nodes are those of `rust.peg`, in that edition and
-- rust-analyzer's dialect.
pub record IsRustTable (edition : Edition) (t : RuleTable) : Type 0 where
  pub nodes : map plain_node t.nodes.now ≡ rust_nodes
  pub keywords : rows t.keywords.now ≡ rust_keywords
  pub starts : t.starts ≡ rust_entry_rules
  pub begins : t.begins ≡ Some rust_begin_rules
  pub closed : all_defined t.nodes.now ≡ true
  pub its_dialect : t.dialect ≡ RustAnalyzer
  pub its_edition : t.edition ≡ edition
  pub no_others : t.editions.now ≡ []

-- What a table holds, wherever its texts lie.
abbrev pub table_seen : RuleTable → Table
table_seen t = record {
  nodes = map plain_node t.nodes.now;
  keywords = map plain_keyword t.keywords.now;
  starts = t.starts;
}

-- The table of a grammar's text, in that edition and rust-analyzer's dialect.
pub record IsTableOf (edition : Edition) (text : List ℕ) (t : RuleTable) : Type 0 where
  pub is_text : IsText text
  pub read : read_text text ≡ Ok (table_seen t)
  pub its_dialect : t.dialect ≡ RustAnalyzer
  pub its_edition : t.edition ≡ edition
  pub no_others : t.editions.now ≡ []

-- The grammar of that kind. For `Text` it is the grammar of the text.
abbrev pub IsGrammar : Edition → List ℕ → GrammarKind → Grammar → Type 0
IsGrammar edition text grammars.Sample g = g ≡ sample
IsGrammar edition text grammars.Rust g =
    (t : RuleTable) × IsRustTable edition t × (g ≡ grammar_of t)
IsGrammar edition text grammars.Text g =
    (t : RuleTable) × IsTableOf edition text t × (g ≡ grammar_of t)

-- ---- what an answer shows

-- The answer with a tree in that form: flat tokens with their text, lines, or Rust text.
abbrev pub with_tree : TreeForm → Top → Answer → Answer
with_tree forms.Tokens t a = record a {
  tokens = (flat_form (top_group t)).tokens;
  text = (flat_form (top_group t)).text;
}
with_tree forms.Lines t a = record a { text = tree_text t }
with_tree forms.Rust t a = record a { text = text_of 0 t.1 }

-- An answer with a tree alone.
abbrev pub tree_shown : TreeForm → Top → Answer
tree_shown form t = with_tree form t (empty Done parts.None)

-- An answer with an expansion: its tree, its rule, and its error if it has one, by span and
-- message.
abbrev pub expansion_shown : TreeForm → Top → Option ℕ → Option ExpandError → Answer
expansion_shown form t rule None = with_tree form t (record (empty Done parts.None) { rule = rule })
expansion_shown form t rule (Some e) =
    with_tree form t (record (empty Faulted parts.None)
    { rule = rule; span = e.span; message = text_of_kind e.kind })

-- A verdict in numbers.
abbrev pub flat_verdict : Verdict → FlatVerdict
flat_verdict one_reading = record { kind = 0; place = 0 }
flat_verdict many_readings = record { kind = 1; place = 0 }
flat_verdict (ambiguous place) = record { kind = 2; place = place }
flat_verdict (stuck place) = record { kind = 3; place = place }

-- ---- by trees

-- The answer shows the expansion.
pub record IsExpansion (s : RequestSettings) (g : Grammar) (definition argument : Top)
    (a : Answer) : Type 0 where
  pub tree : Top
  pub rule : Option ℕ
  pub err : Option ExpandError
  pub expands : ExpandsBy g s.edition definition.1 s.style argument s.call_site (top_group tree)
      rule err
  pub shown : a ≡ expansion_shown s.form tree rule err

-- One verdict for each rule, in order.
pub record AreVerdictsOf (s : RequestSettings) (g : Grammar) (definition argument : Top)
    (found : List FlatVerdict) : Type 0 where
  pub verdicts : List Verdict
  pub explains : ExplainsBy g s.edition definition.1 argument.1 verdicts
  pub flat : found ≡ map flat_verdict verdicts

-- The definition isn't one, and the answer says why: the grammar of definitions reports that fault
-- in that edition. Or memory ran out.
pub data IsNoMacro (edition : Edition) (definition : Forest) (a : Answer) : Type 0 where
  refused : (rules : List Rule) (fault : Fault)
      → IsParsedRules (IsEdition edition) definition (record { rules = rules; err = Some fault })
      → IsRefusal fault a → IsNoMacro edition definition a
  no_memory_for_macro : IsOutOfMemory a → IsNoMacro edition definition a

-- There is no expansion, and there are no verdicts, of these trees. The answer says why.
pub data IsNoResult (s : RequestSettings) (text : List ℕ) (definition : Top) (a : Answer) : Type 0
  where
    no_grammar : s.grammar ≡ grammars.Text → IsNoGrammar text a → IsNoResult s text definition a
    no_macro : (g : Grammar) → IsGrammar s.edition text s.grammar g
        → IsNoMacro s.edition definition.1 a
        → IsNoResult s text definition a

-- The expansion, or the verdicts, by the grammar of the request.
abbrev pub ExpandsTrees : RequestSettings → List ℕ → Top → Top → Answer → Type 0
ExpandsTrees s text definition argument a =
    ((g : Grammar) × IsGrammar s.edition text s.grammar g × IsExpansion s g definition argument a)
    ⊎ IsNoResult s text definition a

abbrev pub ExplainsTrees : RequestSettings → List ℕ → Top → Top → List FlatVerdict → Type 0
ExplainsTrees s text definition argument found =
    (g : Grammar) × IsGrammar s.edition text s.grammar g
    × AreVerdictsOf s g definition argument found

-- ---- by inputs

-- What a call reads: the settings of a request, and the trees of its inputs.
pub record Reads (r : Request) (definition argument : Source) : Type 0 where
  pub settings : RequestSettings
  pub asked : AreRequestSettings r settings
  pub rules : Top
  pub defined : AreTreesOf settings.dialect definition rules
  pub trees : Top
  pub given : AreTreesOf settings.dialect argument trees

-- There is no expansion, and there are no verdicts. The answer says why: it names the first fault,
-- in the order of reading.
pub data IsNoAnswer (r : Request) (text : List ℕ) (definition argument : Source) (a : Answer) : Type
    0 where
  unknown : IsUnknown r → a ≡ empty Number parts.None → IsNoAnswer r text definition argument a
  no_definition : (s : RequestSettings) → AreRequestSettings r s → HasNoTrees s.dialect definition a
      → IsNoAnswer r text definition argument a
  no_argument : (s : RequestSettings) → AreRequestSettings r s → (rules : Top)
      → AreTreesOf s.dialect definition rules
      → HasNoTrees s.dialect argument a
      → IsNoAnswer r text definition argument a
  no_result : (x : Reads r definition argument) → IsNoResult x.settings text x.rules a
      → IsNoAnswer r text definition argument a

-- The answer shows the expansion of an argument by a definition, by the grammar of the request.
pub record ShowsExpansion (r : Request) (text : List ℕ) (definition argument : Source)
    (a : Answer) : Type 0 where
  pub reads : Reads r definition argument
  pub grammar : Grammar
  pub named : IsGrammar reads.settings.edition text reads.settings.grammar grammar
  pub expansion : IsExpansion reads.settings grammar reads.rules reads.trees a

-- The answer of `expand`.
abbrev pub Expands : Request → List ℕ → Source → Source → Answer → Type 0
Expands r text definition argument a = ShowsExpansion r text definition argument a
    ⊎ IsNoAnswer r text definition argument a

-- The verdicts of a definition's rules on an argument, by the grammar of the request.
pub record ShowsVerdicts (r : Request) (text : List ℕ) (definition argument : Source)
    (found : List FlatVerdict) : Type 0 where
  pub reads : Reads r definition argument
  pub grammar : Grammar
  pub named : IsGrammar reads.settings.edition text reads.settings.grammar grammar
  pub verdicts : AreVerdictsOf reads.settings grammar reads.rules reads.trees found

-- The answer shows the trees of an input, or says why there are none.
pub data Converts (r : Request) (s : Source) (a : Answer) : Type 0 where
  converted : (x : RequestSettings) → AreRequestSettings r x → (tree : Top)
      → AreTreesOf x.dialect s tree → a ≡ tree_shown x.form tree
      → Converts r s a
  unknown_form : IsUnknown r → a ≡ empty Number parts.None → Converts r s a
  no_input : (x : RequestSettings) → AreRequestSettings r x → HasNoTrees x.dialect s a
      → Converts r s a
  no_memory_for_form : IsOutOfMemory a → Converts r s a

-- The definition has no fault, and so many rules.
pub record Defines (r : Request) (s : Source) (count : ℕ) : Type 0 where
  pub settings : RequestSettings
  pub asked : AreRequestSettings r settings
  pub trees : Top
  pub given : AreTreesOf settings.dialect s trees
  pub rules : List Rule
  pub read : IsParsedRules (IsEdition settings.edition) trees.1
      (record { rules = rules; err = None })
  pub counted : count ≡ length rules

-- The definition has a fault, or can't be read, as the answer says.
pub data IsUndefined (r : Request) (s : Source) (a : Answer) : Type 0 where
  unknown_edition : IsUnknown r → a ≡ empty Number parts.None → IsUndefined r s a
  no_trees_of_definition : (x : RequestSettings) → AreRequestSettings r x → HasNoTrees x.dialect s a
      → IsUndefined r s a
  no_rules : (x : RequestSettings) → AreRequestSettings r x → (trees : Top)
      → AreTreesOf x.dialect s trees
      → IsNoMacro x.edition trees.1 a → IsUndefined r s a

-- The bytes are the text of a grammar.
pub record IsGrammarText (text : List ℕ) : Type 0 where
  pub is_text : IsText text
  pub table : Table
  pub read : read_text text ≡ Ok table
