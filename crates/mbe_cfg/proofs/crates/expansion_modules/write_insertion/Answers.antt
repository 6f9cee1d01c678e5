use Rattle.mbe_cfg.proofs.DeclareLemmas.{not_inserted}
use Rattle.mbe_cfg.proofs.crates.expansion_modules.write_insertion.Goals as goal

pub returns-else-insertion-end : goal.returns-else-insertion-end
returns-else-insertion-end g c =
    not_inserted c.args.insertion.now.end c.args.end c.args.insertion.now.trees.1 c.args.builder.now
    c.if-insertion-end.false
