-- The rules of the entry points of Rust's grammar, by their names in `rust.peg`.
use Rattle.mbe_grammar.specs.declared.tables.peg_table.EntryRules.{EntryRules}
use Rattle.mbe_grammar.specs.declared.rust.positions.TheConstants.{TYPE_PATH, EXPR_FRAGMENT, TYPE}
use Rattle.mbe_grammar.specs.declared.rust.positions.TheConstants.{PAT_TOP_FRAGMENT, PAT_FRAGMENT}
use Rattle.mbe_grammar.specs.declared.rust.positions.TheConstants.{STMT, BLOCK, META, ITEM, VIS}
use Rattle.mbe_grammar.specs.declared.rust.positions.TheConstants.{BEGIN_PATH, BEGIN_EXPR}
use Rattle.mbe_grammar.specs.declared.rust.positions.TheConstants.{BEGIN_TYPE}
use Rattle.mbe_grammar.specs.declared.rust.positions.TheConstants.{BEGIN_PAT_TOP, BEGIN_PAT}
use Rattle.mbe_grammar.specs.declared.rust.positions.TheConstants.{BEGIN_ANY}
use Rattle.mbe_grammar.specs.declared.rust.positions.TheConstants.{BEGIN_BLOCK, BEGIN_VIS}

abbrev pub rust_entry_rules : EntryRules
rust_entry_rules = record {
  path = TYPE_PATH;
  expr = EXPR_FRAGMENT;
  ty = TYPE;
  pat_top = PAT_TOP_FRAGMENT;
  pat = PAT_FRAGMENT;
  stmt = STMT;
  block = BLOCK;
  meta = META;
  item = ITEM;
  vis = VIS;
}

-- the rules of what a fragment may begin with in rustc
abbrev pub rust_begin_rules : EntryRules
rust_begin_rules = record {
  path = BEGIN_PATH;
  expr = BEGIN_EXPR;
  ty = BEGIN_TYPE;
  pat_top = BEGIN_PAT_TOP;
  pat = BEGIN_PAT;
  stmt = BEGIN_ANY;
  block = BEGIN_BLOCK;
  meta = BEGIN_PATH;
  item = BEGIN_ANY;
  vis = BEGIN_VIS;
}
