use Rattle.std.proofs.Common.{map, refl, subst, sym}
use Rattle.mbe_rewriter.specs.ReplacementViews.{part_of}
use Rattle.mbe_session.specs.SessionViews.{setting_of, state_of}
use Rattle.mbe_session.specs.CrateTrees.{crate_at}
use Rattle.mbe_session.specs.FileExpansion.{CrateParts}
use Rattle.mbe_session.specs.FileViews.{source_of}
use Rattle.mbe_session.proofs.CrateLemmas.{adds_none, adds_these, no_parts, no_tree_there, tree_there}
use Rattle.mbe_session.proofs.crate_expander.add_crate_replacements.Goals as goal

pub returns-in_ok-more-in-Some-clause-adds : goal.returns-in_ok-more-in-Some-clause-adds
returns-in_ok-more-in-Some-clause-adds c =
    let e = setting_of c.args.expander.now in
    let files = map source_of c.args.files.now in
    let more = map part_of c.in_ok-more-in-Some.more.items in
    adds_these part_of c.append.result
    (CrateParts e 1000 (crate_at c.args.with_modules files c.args.number) (state_of c.args.expander.now))
    c.args.parts.now.items c.in_ok-more-in-Some.more.items c.append.new.self.items
    (state_of c.crate_replacements.new.expander)
    (subst (λ tree. CrateParts e 1000 tree (state_of c.args.expander.now) more
    (state_of c.crate_replacements.new.expander))
    (sym (tree_there source_of c.args.with_modules c.args.files.now c.args.number c.in-Some.root.now
    c.in-Some.ensures.lookup.3.0 c.in-Some.ensures.lookup.1)) c.in_ok-more-in-Some.ensures.parts)
    c.append.ensures.items

pub returns-in-None-clause-adds : goal.returns-in-None-clause-adds
returns-in-None-clause-adds c =
    let files = map source_of c.args.files.now in
    let s = state_of c.args.expander.now in
    adds_none (CrateParts (setting_of c.args.expander.now) 1000 (crate_at c.args.with_modules files c.args.number) s)
    (map part_of c.args.parts.now.items) s
    (no_parts _ (setting_of c.args.expander.now) 1000 s _
    (no_tree_there source_of c.args.with_modules c.args.files.now c.args.number c.in-None.ensures.lookup.3) refl)
