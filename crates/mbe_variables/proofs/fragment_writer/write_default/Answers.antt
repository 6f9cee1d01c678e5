use Rattle.std.proofs.Common.{◌≡◌, ◌∙◌, ap, subst, sym}
use Rattle.std.specs.Prelude.{OnOk}
use Rattle.mbe_tt.specs.Trees.Leaf.{ident}
use Rattle.mbe_tt.specs.declared.tt.IdentIsRaw.TheVariants.{No}
use Rattle.mbe_tt.specs.Buffers.GroupStack.{put}
use Rattle.mbe_semantics.specs.Bindings.Missing.{missing_trees}
use Rattle.mbe_variables.proofs.PutLemmas.{two_leaves, put-none}
use Rattle.mbe_variables.proofs.fragment_writer.write_default.Goals as goal

pub returns-in-Nothing : goal.returns-in-Nothing
returns-in-Nothing g c = put-none c.args.builder.now
    ∙ ap (λ m. put (missing_trees m c.args.span) c.args.builder.now) (sym c.in-Nothing.is ∙ c.missing.ensures)

pub returns-in_ok-intern-in-Lifetime : goal.returns-in_ok-intern-in-Lifetime
returns-in_ok-intern-in-Lifetime g c =
    let pushed = c.push-in-Lifetime-2 in
    subst (λ m. OnOk pushed.result (pushed.new.self ≡ put (missing_trees m c.args.span) c.args.builder.now))
    (sym c.in-Lifetime.is ∙ c.missing.ensures)
    (two_leaves pushed.result _ _ _ _ c.args.builder.now c.push-in-Lifetime.new.self pushed.new.self
    c.punct-in-Lifetime.ensures
    (c.name.ensures ∙ ap (λ n. ident (record { sym = n; is_raw = No; span = c.args.span }))
    c.in_ok-intern-in-Lifetime.ensures) c.in_ok-push-in-Lifetime.ensures.ok pushed.ensures.ok)
