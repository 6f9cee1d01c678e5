use Rattle.mbe.specs.Account.{no_account}
use Rattle.mbe_tests.proofs.calling.bindings.bind_rounds.Goals as goal

pub push_nested-requires-clause-child : goal.push_nested-requires-clause-child
push_nested-requires-clause-child g c =
    c.in_ok-whole.ensures.given.kept.entries c.push_optional.new.handle c.in_ok-push_optional.ensures.ok.entries

pub build-requires : goal.build-requires
build-requires g c =
    let one = c.in_ok-push_fragment.ensures.ok.account no_account c.in_ok-rounds.ensures.account in
    let two = c.in_ok-push_default.ensures.ok.account _ one in
    let three = c.in_ok-push_optional.ensures.ok.account _ two in
    (c.in_ok-push_nested.ensures.ok _ (c.in_ok-whole.ensures.given.kept.others c.push_optional.new.handle _
    three)).entries
