use Rattle.std.proofs.Common.{map, subst}
use Rattle.std.specs.Prelude.{IfOk}
use Rattle.std.specs.String.{string_bytes}
use Rattle.mbe_rewriter.specs.ReplacementViews.{part_of}
use Rattle.mbe_session.specs.SessionViews.{setting_of, state_of}
use Rattle.mbe_session.specs.FileExpansion.{FileExpands}
use Rattle.mbe_session.specs.FileViews.{source_of}
use Rattle.mbe_session.proofs.CrateLemmas.{root_becomes, root_unknown}
use Rattle.mbe_session.proofs.file_expansion.root_text.Goals as goal

pub returns-clause-expands : goal.returns-clause-expands
returns-clause-expands c =
    let root = source_of c.args.root.now in
    root_becomes string_bytes c.file_text.result (setting_of c.args.expander.now) 1000 c.args.request.call
    c.args.request.with_modules (map source_of c.args.files.now) c.args.number root (state_of c.args.expander.now)
    (state_of c.crate_replacements.new.expander) (map part_of c.in_ok-parts.parts.items) c.in_ok-parts.ensures.parts
    (subst (λ ps. IfOk c.file_text.result (λ s. FileExpands c.args.request.call (map part_of ps) c.args.number root
    (string_bytes s))) c.as_slice.ensures.value c.file_text.ensures)

pub returns-clause-unknown : goal.returns-clause-unknown
returns-clause-unknown c =
    let root = source_of c.args.root.now in
    root_unknown string_bytes c.file_text.result _ (state_of c.args.expander.now).scope.definitions c.args.request.call
    (map part_of c.in_ok-parts.parts.items) c.args.number root c.in_ok-parts.ensures.unknown
    (subst (λ ps. IfOk c.file_text.result (λ s. FileExpands c.args.request.call (map part_of ps) c.args.number root
    (string_bytes s))) c.as_slice.ensures.value c.file_text.ensures)
