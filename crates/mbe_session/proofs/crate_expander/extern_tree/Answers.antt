use Rattle.std.proofs.Common.{◌≡◌, subst, sym}
use Rattle.std.specs.Prelude.{IfOk}
use Rattle.mbe_session.specs.FileViews.{source_of}
use Rattle.mbe_session.proofs.CrateLemmas.{no_tree_there, tree_there}
use Rattle.mbe_session.proofs.crate_expander.extern_tree.Goals as goal

pub returns-in-Some : goal.returns-in-Some
returns-in-Some c =
    subst (λ tree. IfOk c.root_tree.result (λ t. t ≡ tree))
    (sym (tree_there source_of c.args.with_modules c.args.files.now c.args.number c.in-Some.root.now
    c.in-Some.ensures.lookup.3.0 c.in-Some.ensures.lookup.1)) c.root_tree.ensures

pub returns-in-None : goal.returns-in-None
returns-in-None c =
    sym (no_tree_there source_of c.args.with_modules c.args.files.now c.args.number c.in-None.ensures.lookup.3)
