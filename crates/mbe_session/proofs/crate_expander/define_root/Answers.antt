use Rattle.std.proofs.Common.{◌∙◌, map, sym}
use Rattle.mbe_session.specs.SessionViews.{setting_of, state_of}
use Rattle.mbe_session.specs.FileViews.{source_of}
use Rattle.mbe_session.proofs.CrateLemmas.{no_definitions, no_tree, own_tree, some_definitions, whole_tree}
use Rattle.mbe_session.proofs.crate_expander.define_root.Goals as goal

pub returns-in_default-clause-defines : goal.returns-in_default-clause-defines
returns-in_default-clause-defines c =
    no_definitions _ (setting_of c.args.expander.now).language 1001 (state_of c.args.expander.now).scope
    (no_tree c.args.with_modules (map source_of c.args.files.now) c.args.number (source_of c.args.root.now)
    c.in_default.not-Some)

pub returns-then-not-is_followed-clause-defines : goal.returns-then-not-is_followed-clause-defines
returns-then-not-is_followed-clause-defines c =
    some_definitions c.define_tree.result _ c.in-Some.tree (setting_of c.args.expander.now).language 1001
    (state_of c.args.expander.now).scope (state_of c.define_tree.new.expander).scope
    (own_tree c.args.with_modules (map source_of c.args.files.now) c.args.number (source_of c.args.root.now)
    c.in-Some.tree c.in-Some.is (sym c.is_followed.ensures ∙ c.if-not-is_followed.true))
    c.define_tree.ensures.defines

pub returns-clause-defines : goal.returns-clause-defines
returns-clause-defines c =
    some_definitions c.define_tree-2.result _ c.in_ok-tree.tree (setting_of c.args.expander.now).language 1001
    (state_of c.args.expander.now).scope (state_of c.define_tree-2.new.expander).scope
    (whole_tree c.args.with_modules (map source_of c.args.files.now) c.args.number (source_of c.args.root.now)
    c.in-Some.tree c.in_ok-tree.tree c.in-Some.is (sym c.is_followed.ensures ∙ c.if-not-is_followed.false)
    c.in_ok-tree.ensures)
    c.define_tree-2.ensures.defines
