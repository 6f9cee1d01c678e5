use Rattle.std.proofs.Common.{◌∙◌, ap, sym}
use Rattle.std.specs.Prelude.{option_map}
use Rattle.mbe_log.specs.FragmentViews.{fragment_seen}
use Rattle.mbe_bindings.specs.BindingViews.{env_of, value_seen}
use Rattle.mbe_transcriber.proofs.VariableLemmas.{unbound_wrote, fragment_wrote, missing_wrote}
use Rattle.mbe_transcriber.proofs.transcriber.write_var.Goals as goal

pub returns-in_default-clause-wrote : goal.returns-in_default-clause-wrote
returns-in_default-clause-wrote g c =
    unbound_wrote _ c.args.ctx.now.call_site (env_of c.args.ctx.now.bindings.now) c.args.path.now c.args.name.now
    c.args.id c.args.builder.now c.write_unbound.new.builder
    (sym c.get.ensures ∙ ap (option_map (λ b. value_seen b.now)) c.in_default.is) c.in_ok-write_unbound.ensures

pub returns-in_ok-write_fragment-in-Ok-Fragment-clause-wrote :
    goal.returns-in_ok-write_fragment-in-Ok-Fragment-clause-wrote
returns-in_ok-write_fragment-in-Ok-Fragment-clause-wrote g c =
    let found = rw c.in-Ok-Fragment.field-0-is at c.in-Ok-Fragment.ensures.found in
    fragment_wrote _ c.args.ctx.now.call_site (env_of c.args.ctx.now.bindings.now) c.args.path.now c.args.name.now
    c.args.id (value_seen c.in-Some.binding.now)
    (fragment_seen c.in-Ok-Fragment.fragment.now) c.args.builder.now c.write_fragment.new.builder
    (sym c.get.ensures ∙ ap (option_map (λ b. value_seen b.now)) c.in-Some.is) found
    c.in_ok-write_fragment-in-Ok-Fragment.ensures.written

pub returns-in_ok-write_default-in-Ok-Missing-clause-wrote : goal.returns-in_ok-write_default-in-Ok-Missing-clause-wrote
returns-in_ok-write_default-in-Ok-Missing-clause-wrote g c =
    let found = rw c.in-Ok-Missing.field-0-is at c.in-Ok-Missing.ensures.found in
    missing_wrote _ c.args.ctx.now.call_site (env_of c.args.ctx.now.bindings.now) c.args.path.now c.args.name.now
    c.args.id (value_seen c.in-Some.binding.now)
    c.in-Ok-Missing.kind c.mark.result c.args.builder.now c.write_default.new.builder
    (sym c.get.ensures ∙ ap (option_map (λ b. value_seen b.now)) c.in-Some.is) found c.mark.ensures
    c.in_ok-write_default-in-Ok-Missing.ensures
