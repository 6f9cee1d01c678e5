-- The settings by which source files are read.
use Rattle.std.specs.Prelude.{◌≡◌, true, Some, [], map}
use Rattle.mbe_tt.specs.declared.grammar.Dialect.{Dialect}
use Rattle.mbe_tt.specs.declared.grammar.Dialect.TheVariants.{RustAnalyzer}
use Rattle.mbe_tt.specs.declared.span.Edition.{Edition}
use Rattle.mbe_grammar.specs.declared.tables.peg_table.RuleTable.{RuleTable}
use Rattle.mbe_grammar.specs.Peg.Views.{plain_node}
use Rattle.mbe_grammar.specs.Rust.Closed.{all_defined}
use Rattle.mbe_grammar.specs.Rust.Keywords.{rows, rust_keywords}
use Rattle.mbe_grammar.specs.Rust.Nodes.{rust_nodes}
use Rattle.mbe_grammar.specs.Rust.Starts.{rust_begin_rules, rust_entry_rules}
use Rattle.mbe_session.specs.declared.source_settings.SourceSettings.{SourceSettings}
use Rattle.mbe_session.specs.Conditions.{Conditions, IsUnder}

-- The table holds Rust's grammar in that edition: its nodes are those of `rust.peg`, each rule that
-- it names exists, and no syntax context has another edition.
pub record IsRustTable (edition : Edition) (table : RuleTable) : Type 0 where
  pub nodes : map plain_node table.nodes.now ≡ rust_nodes
  pub keywords : rows table.keywords.now ≡ rust_keywords
  pub starts : table.starts ≡ rust_entry_rules
  pub begins : table.begins ≡ Some rust_begin_rules
  pub edition_is : table.edition ≡ edition
  pub closed : all_defined table.nodes.now ≡ true
  pub no_others : table.editions.now ≡ []

-- A table of Rust's grammar by which files are read: it is in rust-analyzer's dialect.
pub record IsFileTable (edition : Edition) (table : RuleTable) : Type 0 where
  pub is_rust : IsRustTable edition table
  pub dialect_is : table.dialect ≡ RustAnalyzer

-- The table with that edition.
abbrev pub in_edition : Edition → RuleTable → RuleTable
in_edition edition table = record table { edition = edition }

-- The table in that dialect.
abbrev pub in_dialect : Dialect → RuleTable → RuleTable
in_dialect dialect table = record table { dialect = dialect }

-- The settings have that edition, the table with that edition, and these conditions for `cfg`.
pub record AreSourceSettings (table : RuleTable) (edition : Edition) (c : Conditions)
    (r : SourceSettings) : Type 0
  where
    pub edition_is : r.edition ≡ edition
    pub grammar_is : r.grammar ≡ in_edition edition table
    pub is_under : IsUnder c r.conditions
