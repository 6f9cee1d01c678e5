use Rattle.std.proofs.Common.{[], ◌≡◌, ◌∙◌, subst, map}
use Rattle.std.specs.Prelude.{IfOk}
use Rattle.std.specs.List.{All}
use Rattle.mbe_rewriter.specs.ReplacementViews.{part_of}
use Rattle.mbe_session.specs.CallReplacements.{IsOfCall, NoneCalled, PartsOfFile}
use Rattle.mbe_session.specs.SessionViews.{setting_of, state_of}
use Rattle.mbe_session.proofs.crate_expander.tree_replacements.Goals as goal

pub returns-clause-parts : goal.returns-clause-parts
returns-clause-parts c =
    subst (λ f. IfOk c.replacements.result (λ v. PartsOfFile (setting_of c.args.expander.now) 1000 f
    (state_of c.args.expander.now) (map part_of v.items) (state_of c.replacements.new.self)))
    (c.remaining.ensures ∙ c.iter.ensures) c.replacements.ensures.parts

pub returns-clause-each : goal.returns-clause-each
returns-clause-each c =
    subst (λ f. IfOk c.replacements.result
    (λ v. All (IsOfCall (setting_of c.args.expander.now) f) (map part_of v.items)))
    (c.remaining.ensures ∙ c.iter.ensures) c.replacements.ensures.each

pub returns-clause-unknown : goal.returns-clause-unknown
returns-clause-unknown c =
    subst (λ f. IfOk c.replacements.result (λ v.
    NoneCalled (state_of c.args.expander.now).scope.definitions f → map part_of v.items ≡ []))
    (c.remaining.ensures ∙ c.iter.ensures) c.replacements.ensures.unknown
