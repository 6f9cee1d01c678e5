use Rattle.mbe_tt.specs.Views.View.{trees}
use Rattle.mbe_cfg.proofs.EnabledLemmas.{all_known, unknown}
use Rattle.mbe_cfg.proofs.cfg_strip.enabled_to.Goals as goal

pub returns-then-run : goal.returns-then-run
returns-then-run g c =
    all_known c.args.settings.now c.flat_len-then-run.result c.in-Ok.run'.holds (trees c.in-Ok.run'.rest)
    (trees c.args.tokens) c.in-Ok.ensures c.if-run.true c.flat_len-then-run.ensures

pub returns-else-run : goal.returns-else-run
returns-else-run g c =
    unknown c.args.settings.now c.flat_len-else-run.result (trees c.args.tokens) c.flat_len-else-run.ensures

pub returns-in-Err : goal.returns-in-Err
returns-in-Err g c =
    unknown c.args.settings.now c.flat_len-in-Err.result (trees c.args.tokens) c.flat_len-in-Err.ensures
