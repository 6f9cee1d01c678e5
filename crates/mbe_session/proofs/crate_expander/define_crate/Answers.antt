use Rattle.std.proofs.Common.{subst, sym}
use Rattle.std.specs.Prelude.{OnOk}
use Rattle.mbe_session.specs.SessionViews.{setting_of, state_of}
use Rattle.mbe_session.specs.FileExpansion.{DefinesCrate}
use Rattle.mbe_session.specs.FileViews.{source_of}
use Rattle.mbe_session.proofs.CrateLemmas.{no_definitions, no_tree_there, tree_there}
use Rattle.mbe_session.proofs.crate_expander.define_crate.Goals as goal

pub returns-in-Some-clause-defines : goal.returns-in-Some-clause-defines
returns-in-Some-clause-defines c =
    subst (λ tree. OnOk c.define_root.result (DefinesCrate (setting_of c.args.expander.now).language 1001 tree
    (state_of c.args.expander.now).scope (state_of c.define_root.new.expander).scope))
    (sym (tree_there source_of c.args.with_modules c.args.files.now c.args.number c.in-Some.root.now
    c.in-Some.ensures.lookup.3.0 c.in-Some.ensures.lookup.1)) c.define_root.ensures.defines

pub returns-in-None-clause-defines : goal.returns-in-None-clause-defines
returns-in-None-clause-defines c =
    no_definitions _ (setting_of c.args.expander.now).language 1001 (state_of c.args.expander.now).scope
    (no_tree_there source_of c.args.with_modules c.args.files.now c.args.number c.in-None.ensures.lookup.3)
