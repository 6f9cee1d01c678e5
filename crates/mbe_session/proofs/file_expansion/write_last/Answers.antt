use Rattle.std.proofs.Common.{◌≡◌, ◌-◌, map, refl}
use Rattle.std.specs.List.{slice_get}
use Rattle.mbe_session.specs.SessionViews.{setting_of, state_of}
use Rattle.mbe_session.specs.FileExpansion.{RootExpands, WritesOne}
use Rattle.mbe_session.specs.FileViews.{source_of}
use Rattle.mbe_session.proofs.CrateLemmas.{no_root_there, not_none_there, nothing_anyway, root_there}
use Rattle.mbe_session.proofs.file_expansion.write_last.Goals as goal

pub returns-in-Some-clause-expands : goal.returns-in-Some-clause-expands
returns-in-Some-clause-expands g c =
    let files = map source_of c.args.files.now in
    let contents = g.W.Write.contents in
    root_there source_of c.args.files.now c.saturating_sub-number.result _ c.in-Some.root.now
    (λ n root. WritesOne (contents c.args.out.now) (contents c.write_root.new.out) c.write_root.result
    (λ s. RootExpands (setting_of c.args.expander.now) 1000 c.args.request.call c.args.request.with_modules files n root
    (state_of c.args.expander.now) s (state_of c.write_root.new.expander)))
    c.in-Some.ensures.lookup.3.0 c.in-Some.ensures.lookup.1 c.saturating_sub-number.ensures
    c.write_root.ensures.expands

pub returns-in-Some-clause-nothing : goal.returns-in-Some-clause-nothing
returns-in-Some-clause-nothing g c =
    not_none_there source_of c.args.files.now c.saturating_sub-number.result _ c.in-Some.root.now _
    c.in-Some.ensures.lookup.3.0 c.in-Some.ensures.lookup.1 c.saturating_sub-number.ensures

pub returns-in-None-clause-nothing : goal.returns-in-None-clause-nothing
returns-in-None-clause-nothing g c =
    let closure = g.W.Write.contents c.args.out.now in
    nothing_anyway (slice_get (map source_of c.args.files.now) (c.args.root_count - 1)) (closure ≡ closure) refl

pub returns-in-None-clause-expands : goal.returns-in-None-clause-expands
returns-in-None-clause-expands g c =
    no_root_there source_of c.args.files.now c.saturating_sub-number.result _ _ c.in-None.ensures.lookup.3
    c.saturating_sub-number.ensures
