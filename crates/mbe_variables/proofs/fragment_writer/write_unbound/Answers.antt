use Rattle.std.proofs.Common.{◌≡◌, ◌∙◌, ap, rules}
use Rattle.mbe_tt.specs.Trees.Leaf.{ident}
use Rattle.mbe_tt.specs.declared.tt.IdentIsRaw.TheVariants.{No}
use Rattle.mbe_variables.proofs.PutLemmas.{two_leaves}
use Rattle.mbe_variables.proofs.fragment_writer.write_unbound.Goals as goal

pub returns : goal.returns
returns g c =
    let same : c.in_ok-clone.field-0 ≡ c.args.unbound.now = search rules in
    two_leaves c.push-2.result _ _ _ _ c.args.builder.now c.push.new.self c.push-2.new.self c.punct.ensures
    (c.name.ensures ∙ ap (λ n. ident (record { sym = n; is_raw = No; span = c.args.id })) same) c.in_ok-push.ensures.ok
    c.push-2.ensures.ok
