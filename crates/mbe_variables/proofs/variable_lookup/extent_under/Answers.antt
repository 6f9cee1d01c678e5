use Rattle.std.proofs.Common.{◌≡◌, length, ap, rules}
use Rattle.mbe_bindings.specs.BindingViews.{value_seen, env_of}
use Rattle.mbe_variables.proofs.FollowLemmas.{extent_list}
use Rattle.mbe_variables.proofs.variable_lookup.extent_under.Goals as goal

pub returns-in-Nested-default : goal.returns-in-Nested-default
returns-in-Nested-default g c =
    let n : c.len.result ≡ length c.in-Nested-default.values.items = search rules in
    extent_list (env_of c.args.bindings.now) c.args.path.now c.args.use_kind c.args.name.now
    (value_seen c.in_ok-get.field-0.now) (value_seen c.in_ok-value.value.now)
    c.in-Nested-default.values c.len.result c.in_ok-get.ensures c.in_ok-value.ensures
    (ap value_seen c.in-Nested-default.is-0) n
