use Rattle.std.proofs.Common.{sym}
use Rattle.mbe_tt.specs.Views.View.{trees}
use Rattle.mbe_cfg.proofs.DeclareLemmas.{no_include}
use Rattle.mbe_cfg.proofs.crates.expansion_modules.write_include.Goals as goal

pub returns-in-None-clause-kept : goal.returns-in-None-clause-kept
returns-in-None-clause-kept g c =
    no_include (trees c.args.tokens) (trees c.args.item) c.args.builder.now (sym c.in-None.ensures)
