-- Sessions, from the texts of files to what is written of them.
use Rattle.std.specs.Prelude.{◌≡◌, ◌-◌, ℕ, Bool, List, [], map, Option, Some, unwrap_or}
use Rattle.std.specs.List.{slice_get}
use Rattle.std.specs.Option.{option_or}
use Rattle.mbe_grammar.specs.Tables.Lawful.{grammar_of}
use Rattle.mbe_grammar.specs.declared.tables.peg_table.RuleTable.{RuleTable}
use Rattle.mbe_rewriter.specs.Splice.{SplicedPart}
use Rattle.mbe_session.specs.CallExpansion.{Setting, State}
use Rattle.mbe_session.specs.Scopes.{Language, Scope}
use Rattle.mbe_session.specs.declared.locations.CallPosition.{CallPosition}
use Rattle.mbe_session.specs.declared.settings.Budget.{Budget}
use Rattle.mbe_session.specs.declared.session_options.CrateSettings.{CrateSettings}
use Rattle.mbe_session.specs.Conditions.{Conditions, IsUnder}
use Rattle.mbe_session.specs.FileExpansion.{CratesParts, DefinesCrates, FilesExpand, LoadsExterns}
use Rattle.mbe_session.specs.FileExpansion.{RootExpands}
use Rattle.mbe_session.specs.CrateSettings.{AreFileSettings}
use Rattle.mbe_session.specs.RecursionLimit.{first_limit}
use Rattle.mbe_session.specs.SourceSettings.{IsFileTable, in_dialect}
use Rattle.mbe_session.specs.Sources.{Source, Text, AreSources, source_text}

-- The limit of nested groups and calls.
abbrev pub LEVELS : ℕ
LEVELS = 1000

-- An open session. The files are read, each under the settings of its crate, and by one table of
-- Rust's grammar, with the edition of the crate. The expander has the same table in the session's
-- dialect.
--
-- The macros of the external crates of these names are defined, and their re-exports of each other
-- are linked. Their roots are the files after the first `root_count`. Then the macros of the
-- session's own crates are defined, in the order of the crates' trees. Their roots are the first
-- `root_count` files. No call is expanded yet. The limit of nested expansions is the limit of the
-- options, else the limit of the first root that sets one, else 128.
pub record IsOpen (language : Language) (c : Conditions)
    (own : ℕ → Option CrateSettings) (depth : Option ℕ) (fuel : Budget)
    (with_modules : Bool) (root_count : ℕ)
    (extern_names : List (List ℕ)) (texts : List Text) (files : List Source) (e : Setting)
    (s : State) : Type 0 where
  pub texts_are : map source_text files ≡ texts
  pub table : RuleTable
  pub is_file_table : IsFileTable language.edition table
  pub are_read : AreSources (AreFileSettings table language.edition c own) files
  pub grammar : e.grammar ≡ grammar_of (in_dialect language.dialect table)
  pub conditions : IsUnder c e.conditions
  pub language_is : e.language ≡ language
  pub depth_is : e.depth ≡ unwrap_or (option_or depth (first_limit root_count 0 files)) 128
  pub known : Scope
  pub outside : LoadsExterns language 1001 with_modules files root_count
      (record { definitions = []; visible = []; crates = []; declared = [] }) extern_names known
  pub defines : DefinesCrates language 1001 with_modules files known root_count s.scope
  pub fuel_is : s.fuel ≡ fuel
  pub contexts_are : s.contexts ≡ []

-- What is printed: the expansion of the last of the first `root_count` files. The other files are
-- those of modules and of external crates.
pub record IsPrinted (language : Language) (c : Conditions)
    (own : ℕ → Option CrateSettings) (depth : Option ℕ) (fuel : Budget)
    (call : Option CallPosition)
    (with_modules : Bool) (root_count : ℕ) (extern_names : List (List ℕ)) (texts : List Text)
    (out : List ℕ) : Type 0 where
  pub files : List Source
  pub setting : Setting
  pub start : State
  pub end : State
  pub begins : IsOpen language c own depth fuel with_modules root_count extern_names texts files
      setting start
  pub root : Source
  pub is_last : slice_get files (root_count - 1) ≡ Some root
  pub expands : RootExpands setting 1000 call with_modules files (root_count - 1) root start out end

-- What is written: the expansion of each file, by the replacements of the crates whose roots are
-- the first `root_count` files.
pub record AreWritten (language : Language) (c : Conditions)
    (own : ℕ → Option CrateSettings) (depth : Option ℕ) (fuel : Budget)
    (call : Option CallPosition)
    (with_modules : Bool) (root_count : ℕ) (extern_names : List (List ℕ)) (texts : List Text)
    (outs : List (List ℕ)) : Type 0 where
  pub files : List Source
  pub setting : Setting
  pub start : State
  pub end : State
  pub begins : IsOpen language c own depth fuel with_modules root_count extern_names texts files
      setting start
  pub parts : List SplicedPart
  pub of_crates : CratesParts setting 1000 with_modules files start root_count parts end
  pub files_expand : FilesExpand call parts files outs
