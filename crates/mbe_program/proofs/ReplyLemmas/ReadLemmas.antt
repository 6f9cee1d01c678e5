-- What a macro that was read makes of arguments.
use Rattle.std.proofs.Common.{◌≡◌, inl, inr, List, [], ℕ, Option, None, Result, Ok, Err, subst, sym, refl}
use Rattle.std.specs.Prelude.{IfOk}
use Rattle.mbe_tt.specs.declared.grammar.Dialect.TheVariants.{RustAnalyzer}
use Rattle.mbe_tt.specs.declared.span.Edition.{Edition}
use Rattle.mbe_tt.specs.declared.span.Span.{Span}
use Rattle.mbe_tt.specs.Trees.Top.{Top, top_group}
use Rattle.mbe_tt.specs.Grammars.Grammar.{Grammar}
use Rattle.mbe_grammar.specs.declared.tables.peg_table.RuleTable.{RuleTable}
use Rattle.mbe_grammar.specs.SampleGrammar.{sample}
use Rattle.mbe_grammar.specs.Tables.Lawful.{grammar_of}
use Rattle.mbe_grammar.specs.Peg.Tokens.{borrowed}
use Rattle.mbe_grammar.specs.declared.peg.peg_grammar.PegGrammar.{PegGrammar}
use Rattle.mbe_semantics.specs.Expansion.Error.{ExpandError}
use Rattle.mbe.specs.MacroViews.{macro_of}
use Rattle.mbe.specs.OneAnswer.{IsAnswer}
use Rattle.mbe_program.specs.declared.replies.flat.flat_token.FlatSpan.{FlatSpan}
use Rattle.mbe_program.specs.Replies.Flat.TokenCodes.{span_of}
use Rattle.mbe_program.specs.declared.replies.request_codes.GrammarKind.{GrammarKind}
use Rattle.mbe_program.specs.declared.replies.request_codes.GrammarKind.TheVariants as grammars
use Rattle.mbe_program.specs.declared.replies.requests.Request.{Request}
use Rattle.mbe_program.specs.declared.replies.requests.RequestSettings.{RequestSettings}
use Rattle.mbe_program.specs.declared.replies.read_macro.Fragments.{Fragments}
use Rattle.mbe_program.specs.declared.replies.read_macro.Fragments.TheVariants as fragments
use Rattle.mbe_program.specs.declared.replies.read_macro.ReadMacro.{ReadMacro}
use Rattle.mbe_program.specs.Replies.Answers.{Answer, OrOutOfMemory}
use Rattle.mbe_program.specs.Replies.Requests.{AreRequestSettings, AreTreesOf, HasNoTrees, IsGrammar, IsTableOf}
use Rattle.mbe_program.specs.Replies.Requests.{no_argument, no_macro, no_memory_for_macro, Expands, ExpandsTrees}
use Rattle.mbe_program.specs.Replies.Requests.{Source, expansion_shown}
use Rattle.mbe_program.specs.TreeExpansion.{IsItself}
use Rattle.mbe_program.specs.Replies.ReadMacros.{AreFragments, IsMacroOf, IsExpansionOf, AnswersBy, AnswersTreesBy}
use Rattle.mbe_program.specs.Replies.ReadMacros.{at_site, asked_at}
use Rattle.mbe_program.proofs.ReplyLemmas.CallLemmas.{expands_both, table_read}

-- ---- the answer

-- an answer that shows an expansion, if there is memory for it
pub shown_of : {X E A : Type 0} (see : X → Answer) (r : Result X E) (g : Grammar) (m : ReadMacro A) (argument : Top)
    (site : Span) (tree : Top)
    (rule : Option ℕ) (err : Option ExpandError)
    → IsAnswer g IsItself (macro_of m.read.rules).rules m.asked.style argument site (top_group tree) rule err
    → IfOk r (λ x. see x ≡ expansion_shown m.asked.form tree rule err)
    → IfOk r (λ x. IsExpansionOf g m argument site (see x))
shown_of see (Ok x) g m argument site tree rule err is shown = (tree, rule, err, is, shown)
shown_of see (Err x) g m argument site tree rule err is shown = shown

-- ---- the grammar that was read

named : (s : RequestSettings) (text : List ℕ) (kind : GrammarKind) (g : Grammar) → s.grammar ≡ kind
    → IsGrammar s.edition text kind g
    → IsGrammar s.edition text s.grammar g
named s text kind g e h = subst (λ (k : GrammarKind). IsGrammar s.edition text k g) (sym e) h

-- the table of rules that were read
table_of : {A : Type 0} → Edition → PegGrammar A → RuleTable
table_of edition rules = record {
  nodes = borrowed rules.nodes.items;
  keywords = borrowed rules.keywords.items;
  starts = rules.starts;
  begins = None;
  dialect = RustAnalyzer;
  edition = edition;
  editions = borrowed [];
}

-- there is a grammar where one was read
pub grammar_read : {A : Type 0} (s : RequestSettings) (text : List ℕ) (f : Fragments A) → AreFragments s text f
    → (g : Grammar) × IsGrammar s.edition text s.grammar g
unfolding table_of
grammar_read s text fragments.Sample e = (sample, named s text grammars.Sample sample e refl)
grammar_read s text (fragments.Rust table) (e, h) =
    (grammar_of table, named s text grammars.Rust (grammar_of table) e (table, h, refl))
grammar_read s text (fragments.Text rules) (e, is_text, read) =
    let t = table_of s.edition rules in (
      grammar_of t,
      named s text grammars.Text (grammar_of t) e (
        t,
        record {
          is_text = is_text;
          read = read;
          its_dialect = refl;
          its_edition = refl;
          no_others = refl;
        },
        refl,
      ),
    )

-- ---- trees

-- by the grammar that is asked for
pub expands_trees : {A : Type 0} (m : ReadMacro A) (site : Span) (text : List ℕ) (g : Grammar)
    (definition argument : Top) (a : Answer)
    → IsGrammar m.asked.edition text m.asked.grammar g → IsMacroOf text definition m
    → OrOutOfMemory (IsExpansionOf g m argument site) a
    → ExpandsTrees (at_site m.asked site) text definition argument a
expands_trees m site text g definition argument a named is (inl (tree, rule, err, answers, shown)) = inl (
  g,
  named,
  record {
    tree = tree;
    rule = rule;
    err = err;
    expands = record { rules = (macro_of m.read.rules).rules; read = is.1; answers = answers };
    shown = shown;
  },
)
expands_trees m site text g definition argument a named is (inr none) = inr
    (no_macro g named (no_memory_for_macro none))

pub by_sample : {A : Type 0} (m : ReadMacro A) (site : Span) (argument : Top) (a : Answer)
    → m.fragments ≡ fragments.Sample
    → OrOutOfMemory (IsExpansionOf sample m argument site) a → AnswersTreesBy m argument site a
by_sample m site argument a e h text definition is =
    let found = subst (AreFragments m.asked text) e is.0 in
    expands_trees m site text sample definition argument a (named m.asked text grammars.Sample sample found refl) is h

pub by_rust : {A : Type 0} (m : ReadMacro A) (table : RuleTable) (site : Span) (argument : Top) (a : Answer)
    → m.fragments ≡ fragments.Rust table
    → OrOutOfMemory (IsExpansionOf (grammar_of table) m argument site) a → AnswersTreesBy m argument site a
by_rust m table site argument a e h text definition is =
    let found = subst (AreFragments m.asked text) e is.0 in
    let g = grammar_of table in
    expands_trees m site text g definition argument a
    (named m.asked text grammars.Rust g found.0 (table, found.1, refl)) is h

pub by_text : {A : Type 0} (m : ReadMacro A) (rules : PegGrammar A) (t : RuleTable) (site : Span) (argument : Top)
    (a : Answer)
    → m.fragments ≡ fragments.Text rules → t.nodes.now ≡ rules.nodes.items → t.keywords.now ≡ rules.keywords.items
    → t.starts ≡ rules.starts → t.dialect ≡ RustAnalyzer
    → t.edition ≡ m.asked.edition → t.editions.now ≡ [] → OrOutOfMemory (IsExpansionOf (grammar_of t) m argument site) a
    → AnswersTreesBy m argument site a
by_text m rules t site argument a e nodes keywords starts dialect edition editions h text definition is =
    let found = subst (AreFragments m.asked text) e is.0 in
    let g = grammar_of t in
    let its : IsTableOf m.asked.edition text t = record {
      is_text = found.1;
      read = table_read text rules.nodes.items rules.keywords.items rules.starts t found.2 nodes keywords starts;
      its_dialect = dialect;
      its_edition = edition;
      no_others = editions;
    } in
    expands_trees m site text g definition argument a (named m.asked text grammars.Text g found.0 (t, its, refl)) is h

-- ---- inputs

-- what was asked, of a call at another place
asked_there : (r : Request) (s : RequestSettings) (site : FlatSpan) → AreRequestSettings r s
    → AreRequestSettings (asked_at r site) (at_site s (span_of site))
asked_there r s site h = record {
  edition = h.edition;
  dialect = h.dialect;
  grammar = h.grammar;
  style = h.style;
  form = h.form;
  site = refl;
}

pub expands_argument : {A : Type 0} (m : ReadMacro A) (argument : Source) (site : FlatSpan) (there : Span)
    (trees : Top) (a : Answer)
    → there ≡ span_of site → AreTreesOf m.asked.dialect argument trees → AnswersTreesBy m trees there a
    → AnswersBy m argument site a
expands_argument m argument site there trees a same given expands r text definition (asked, (rules, defined, is)) =
    let expands-there = subst (λ (x : Span). AnswersTreesBy m trees x a) same expands in
    expands_both (asked_at r site) text definition argument a (at_site m.asked (span_of site))
    (asked_there r m.asked site asked) rules defined
    trees given (expands-there text rules is)

pub expands_nothing : {A : Type 0} (m : ReadMacro A) (argument : Source) (site : FlatSpan) (a : Answer)
    → HasNoTrees m.asked.dialect argument a
    → AnswersBy m argument site a
expands_nothing m argument site a none r text definition (asked, (rules, defined, is)) =
    inr (no_argument (at_site m.asked (span_of site)) (asked_there r m.asked site asked) rules defined none)

-- of trees that were read for a request
pub expands_read : {A : Type 0} (r : Request) (text : List ℕ) (definition argument : Source) (a : Answer)
    (s : RequestSettings) → AreRequestSettings r s
    → (rules : Top) → AreTreesOf s.dialect definition rules → (trees : Top) → AreTreesOf s.dialect argument trees
    → (m : ReadMacro A) → m.asked ≡ s → IsMacroOf text rules m → AnswersTreesBy m trees s.call_site a
    → Expands r text definition argument a
expands_read r text definition argument a s asked rules defined trees given m same is answers =
    expands_both r text definition argument a s asked rules defined trees given
    (subst (λ (x : RequestSettings). ExpandsTrees (at_site x s.call_site) text rules trees a) same
    (answers text rules is))
