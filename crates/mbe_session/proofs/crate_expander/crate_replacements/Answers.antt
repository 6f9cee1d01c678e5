use Rattle.std.proofs.Common.{[], ◌≡◌, ◌∙◌, ap, map, sym}
use Rattle.mbe_rewriter.specs.ReplacementViews.{part_of}
use Rattle.mbe_tt.specs.Trees.Top.{Top}
use Rattle.mbe_session.specs.CallReplacements.{NoneCalled}
use Rattle.mbe_session.specs.SessionViews.{setting_of, state_of}
use Rattle.mbe_session.specs.CrateTrees.{crate_of}
use Rattle.mbe_session.specs.FileViews.{source_of}
use Rattle.mbe_session.proofs.CrateLemmas.{always, no_parts, no_tree, own_tree, some_parts, some_unknown, whole_tree}
use Rattle.mbe_session.proofs.crate_expander.crate_replacements.Goals as goal

pub returns-in_default-clause-parts : goal.returns-in_default-clause-parts
returns-in_default-clause-parts c =
    no_parts _ (setting_of c.args.expander.now) 1000 (state_of c.args.expander.now) (map part_of c.new.result.items)
    (no_tree c.args.with_modules (map source_of c.args.files.now) c.args.number (source_of c.args.root.now)
    c.in_default.not-Some) (ap (map part_of) c.new.ensures.items)

pub returns-in_default-clause-unknown : goal.returns-in_default-clause-unknown
returns-in_default-clause-unknown c =
    let Unknown : Top → Type 0 = λ tree. NoneCalled (state_of c.args.expander.now).scope.definitions tree.1
    → map part_of c.new.result.items ≡ [] in
    always (crate_of c.args.with_modules (map source_of c.args.files.now) c.args.number (source_of c.args.root.now))
    Unknown
    (λ tree unknown. ap (map part_of) c.new.ensures.items)

pub returns-then-not-is_followed-clause-parts : goal.returns-then-not-is_followed-clause-parts
returns-then-not-is_followed-clause-parts c =
    some_parts (λ v. map part_of v.items) c.tree_replacements.result _ c.in-Some.tree (setting_of c.args.expander.now)
    1000
    (state_of c.args.expander.now) (state_of c.tree_replacements.new.expander)
    (own_tree c.args.with_modules (map source_of c.args.files.now) c.args.number (source_of c.args.root.now)
    c.in-Some.tree c.in-Some.is (sym c.is_followed.ensures ∙ c.if-not-is_followed.true))
    c.tree_replacements.ensures.parts c.tree_replacements.ensures.each

pub returns-then-not-is_followed-clause-unknown : goal.returns-then-not-is_followed-clause-unknown
returns-then-not-is_followed-clause-unknown c =
    some_unknown (λ v. map part_of v.items) c.tree_replacements.result _ c.in-Some.tree
    (state_of c.args.expander.now).scope.definitions
    (own_tree c.args.with_modules (map source_of c.args.files.now) c.args.number (source_of c.args.root.now)
    c.in-Some.tree c.in-Some.is (sym c.is_followed.ensures ∙ c.if-not-is_followed.true))
    c.tree_replacements.ensures.unknown

pub returns-clause-parts : goal.returns-clause-parts
returns-clause-parts c =
    some_parts (λ v. map part_of v.items) c.tree_replacements-2.result _ c.in_ok-tree.tree
    (setting_of c.args.expander.now) 1000 (state_of c.args.expander.now)
    (state_of c.tree_replacements-2.new.expander)
    (whole_tree c.args.with_modules (map source_of c.args.files.now) c.args.number (source_of c.args.root.now)
    c.in-Some.tree c.in_ok-tree.tree c.in-Some.is (sym c.is_followed.ensures ∙ c.if-not-is_followed.false)
    c.in_ok-tree.ensures)
    c.tree_replacements-2.ensures.parts c.tree_replacements-2.ensures.each

pub returns-clause-unknown : goal.returns-clause-unknown
returns-clause-unknown c =
    some_unknown (λ v. map part_of v.items) c.tree_replacements-2.result _ c.in_ok-tree.tree
    (state_of c.args.expander.now).scope.definitions
    (whole_tree c.args.with_modules (map source_of c.args.files.now) c.args.number (source_of c.args.root.now)
    c.in-Some.tree c.in_ok-tree.tree c.in-Some.is (sym c.is_followed.ensures ∙ c.if-not-is_followed.false)
    c.in_ok-tree.ensures)
    c.tree_replacements-2.ensures.unknown
