use Rattle.std.proofs.Common.{Some, ◌∙◌, ap, map, sym}
use Rattle.mbe_session.specs.FileViews.{source_of}
use Rattle.mbe_session.proofs.CrateLemmas.{no_tree, own_tree, whole_tree}
use Rattle.mbe_session.proofs.crate_expander.root_tree.Goals as goal

pub returns-in_default : goal.returns-in_default
returns-in_default c =
    sym (no_tree c.args.with_modules (map source_of c.args.files.now) c.args.number (source_of c.args.root.now)
    c.in_default.not-Some)

pub returns-then-not-is_followed : goal.returns-then-not-is_followed
returns-then-not-is_followed c =
    ap Some c.in_ok-copied.ensures
    ∙ sym (own_tree c.args.with_modules (map source_of c.args.files.now) c.args.number (source_of c.args.root.now)
    c.in-Some.tree c.in-Some.is (sym c.is_followed.ensures ∙ c.if-not-is_followed.true))

pub returns : goal.returns
returns c =
    sym (whole_tree c.args.with_modules (map source_of c.args.files.now) c.args.number (source_of c.args.root.now)
    c.in-Some.tree c.in_ok-tree.tree c.in-Some.is (sym c.is_followed.ensures ∙ c.if-not-is_followed.false)
    c.in_ok-tree.ensures)
