use Rattle.std.proofs.Common.{◌<◌, map, subst, sym, arith}
use Rattle.mbe_tt.specs.Views.View.{trees}
use Rattle.mbe_session.specs.SessionViews.{declared_name_of, used_path_of}
use Rattle.mbe_session.proofs.ImportLemmas.{Declaring, begins, no_levels}
use Rattle.mbe_session.proofs.imports.+add_used_names.Goals as goal

pub returns-then-levels-eq0 : goal.returns-then-levels-eq0
returns-then-levels-eq0 g t c =
    no_levels c.args.levels (used_path_of c.args.start) (trees c.args.tokens)
    (map declared_name_of c.args.names.now.items) c.if-levels-eq0.true

pub trees-init : goal.trees-init
trees-init g t c =
    let some = c.if-levels-eq0.false in
    let left : 0 < c.args.levels = omega (arith, some) in
    subst (λ f. Declaring c.args.levels (used_path_of c.args.start) (trees c.args.tokens)
    (map declared_name_of c.args.names.now.items) (used_path_of c.args.start) f
    (map declared_name_of c.args.names.now.items))
    (sym c.iter-rest.ensures)
    (begins c.args.levels (used_path_of c.args.start) (trees c.args.tokens)
    (map declared_name_of c.args.names.now.items) left)
