use Rattle.std.proofs.Common.{◌<◌, map, subst, sym, arith}
use Rattle.mbe_tt.specs.Views.View.{trees}
use Rattle.mbe_cfg.specs.CrateExports.ExportViews.{export_of, use_path_of}
use Rattle.mbe_cfg.proofs.ExportLemmas.{ModuleCursor, begins, no_levels}
use Rattle.mbe_cfg.proofs.exports.use_paths.+add_uses.Goals as goal

pub returns-then-levels-eq0 : goal.returns-then-levels-eq0
returns-then-levels-eq0 g t c =
    no_levels c.args.levels c.args.by.now (trees c.args.root) (use_path_of c.args.start) (trees c.args.tokens)
    (map export_of c.args.exports.now.items) c.if-levels-eq0.true

pub trees-init : goal.trees-init
trees-init g t c =
    let some = c.if-levels-eq0.false in
    let left : 0 < c.args.levels = omega (arith, some) in
    subst (λ f. ModuleCursor c.args.levels c.args.by.now (trees c.args.root) (use_path_of c.args.start)
    (trees c.args.tokens)
    (map export_of c.args.exports.now.items) (use_path_of c.args.start) f (map export_of c.args.exports.now.items))
    (sym c.iter-rest.ensures)
    (begins c.args.levels c.args.by.now (trees c.args.root) (use_path_of c.args.start) (trees c.args.tokens)
    (map export_of c.args.exports.now.items) left)
