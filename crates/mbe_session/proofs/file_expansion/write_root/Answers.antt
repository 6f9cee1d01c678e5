use Rattle.std.proofs.Common.{◌≡◌, None, inl, map, refl}
use Rattle.std.specs.String.{string_bytes}
use Rattle.mbe_tt.specs.Trees.Top.{Top}
use Rattle.mbe_session.specs.CallReplacements.{NoneCalled}
use Rattle.mbe_session.specs.SessionViews.{setting_of, state_of}
use Rattle.mbe_session.specs.CrateTrees.{crate_of}
use Rattle.mbe_session.specs.FileExpansion.{RootExpands, WritesOne}
use Rattle.mbe_session.specs.FileViews.{source_of}
use Rattle.mbe_session.proofs.CrateLemmas.{always}
use Rattle.mbe_session.proofs.WriterLemmas.{wrote, wrote_unknown}
use Rattle.mbe_session.proofs.file_expansion.write_root.Goals as goal

pub returns-clause-expands : goal.returns-clause-expands
returns-clause-expands g c =
    wrote _ _ c.write_whole.result (λ s. RootExpands (setting_of c.args.expander.now) 1000 c.args.request.call
    c.args.request.with_modules (map source_of c.args.files.now) c.args.number (source_of c.args.root.now)
    (state_of c.args.expander.now) s (state_of c.root_text.new.expander)) (string_bytes c.in_ok-text.text)
    c.as_bytes.result.now c.in_ok-text.ensures.expands c.as_bytes.ensures.value c.write_whole.ensures

pub returns-clause-unknown : goal.returns-clause-unknown
returns-clause-unknown g c =
    wrote_unknown _ _ c.write_whole.result _ (state_of c.args.expander.now).scope.definitions c.args.request.call
    (string_bytes c.in_ok-text.text) c.as_bytes.result.now c.args.root.now.text.now c.in_ok-text.ensures.unknown
    c.as_bytes.ensures.value c.write_whole.ensures

pub returns-in_err-text-clause-unknown : goal.returns-in_err-text-clause-unknown
returns-in_err-text-clause-unknown g c =
    let closure = g.W.Write.contents c.args.out.now in
    let Unknown : Top → Type 0 = λ tree. c.args.request.call ≡ None
    → NoneCalled (state_of c.args.expander.now).scope.definitions tree.1
    → WritesOne closure closure c.from_residual.result (λ s. s ≡ c.args.root.now.text.now) in
    always (crate_of c.args.request.with_modules (map source_of c.args.files.now) c.args.number
    (source_of c.args.root.now))
    Unknown (λ tree whole unknown. inl (c.from_residual.ensures.0, refl))
