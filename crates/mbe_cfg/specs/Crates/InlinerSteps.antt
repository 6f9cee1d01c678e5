-- What is written of trees, and which modules without files are appended.
use Rattle.std.specs.Prelude.{◌≡◌, List, ◌++◌}
use Rattle.mbe_tt.specs.Buffers.GroupStack.{GroupStack, put}
use Rattle.mbe_cfg.specs.Crates.ModuleInliner.{InlinedTrees, Step, UnresolvedFile}
use Rattle.mbe_cfg.specs.Crates.CrateViews.{cursor_shown}
use Rattle.mbe_cfg.specs.declared.crates.module_items.ModuleCursor.{ModuleCursor}

-- What trees become is written. The modules in them without their files are appended.
pub record Writes (becomes : InlinedTrees) (old : GroupStack) (before : List UnresolvedFile)
    (new : GroupStack)
    (after : List UnresolvedFile) : Type 0 where
  pub kept : new ≡ put becomes.kept old
  pub unresolved : after ≡ before ++ becomes.unresolved

-- The same for one front, after which `cursor` is left.
pub record IsStep {A : Type 0} (becomes : Step) (old : GroupStack) (before : List UnresolvedFile)
    (new : GroupStack)
    (after : List UnresolvedFile) (cursor : ModuleCursor A) : Type 0 where
  pub kept : new ≡ put becomes.kept old
  pub unresolved : after ≡ before ++ becomes.unresolved
  pub is_cursor : cursor_shown cursor ≡ becomes.cursor
