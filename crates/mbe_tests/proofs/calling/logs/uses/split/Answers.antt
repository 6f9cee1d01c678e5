use Rattle.mbe_semantics.specs.Bindings.Account.{Account, Command, no_account, pushed, pushed_nested}
use Rattle.mbe_log.proofs.ClientLemmas.{all_accounts, kept-on}
use Rattle.mbe_tests.proofs.calling.logs.uses.split.Goals as goal

pub push_empty-requires-2 : goal.push_empty-requires-2
push_empty-requires-2 g c = c.in_ok-second.ensures.given.kept.entries c.push_empty.new.handle
    c.in_ok-push_empty.ensures.ok.entries

pub push_optional-requires : goal.push_optional-requires
push_optional-requires g c = c.in_ok-push_empty-2.ensures.ok.kept.entries c.in_ok-second.second
    c.in_ok-second.ensures.given.entries

pub push_nested-requires-clause-child : goal.push_nested-requires-clause-child
push_nested-requires-clause-child g c =
    c.in_ok-outer.ensures.given.kept.entries c.push_optional.new.handle c.in_ok-push_optional.ensures.ok.entries

pub push_empty-requires-3 : goal.push_empty-requires-3
push_empty-requires-3 g c =
    let one : Account = pushed (Command.skips c.args.name.now) no_account in
    let three : Account = pushed (Command.binds_nothing c.args.other.now) one in
    let second4 = c.in_ok-push_empty-2.ensures.ok.kept.others c.in_ok-second.second one
    (c.in_ok-second.ensures.account one (c.in_ok-push_empty.ensures.ok.account no_account
    c.in_ok-first.ensures.account)) in
    let second6 = c.in_ok-outer.ensures.given.kept.others c.push_optional.new.handle three
    (c.in_ok-push_optional.ensures.ok.account one second4) in
    let nested = c.in_ok-push_nested.ensures.ok three second6 in
    nested.kept.entries c.push_optional.new.handle
    (c.in_ok-outer.ensures.given.kept.entries c.push_optional.new.handle c.in_ok-push_optional.ensures.ok.entries)

pub build-requires : goal.build-requires
build-requires g c =
    let one : Account = pushed (Command.skips c.args.name.now) no_account in
    let three : Account = pushed (Command.binds_nothing c.args.other.now) one in
    let second4 = c.in_ok-push_empty-2.ensures.ok.kept.others c.in_ok-second.second one
    (c.in_ok-second.ensures.account one (c.in_ok-push_empty.ensures.ok.account no_account
    c.in_ok-first.ensures.account)) in
    let second6 = c.in_ok-outer.ensures.given.kept.others c.push_optional.new.handle three
    (c.in_ok-push_optional.ensures.ok.account one second4) in
    let nested = c.in_ok-push_nested.ensures.ok three second6 in
    c.in_ok-push_empty-3.ensures.ok.kept.entries c.push_nested.new.parent nested.entries

pub returns-clause-binds : goal.returns-clause-binds
returns-clause-binds g c =
    let one : Account = pushed (Command.skips c.args.name.now) no_account in
    let three : Account = pushed (Command.binds_nothing c.args.other.now) one in
    let second4 = c.in_ok-push_empty-2.ensures.ok.kept.others c.in_ok-second.second one
    (c.in_ok-second.ensures.account one (c.in_ok-push_empty.ensures.ok.account no_account
    c.in_ok-first.ensures.account)) in
    let second6 = c.in_ok-outer.ensures.given.kept.others c.push_optional.new.handle three
    (c.in_ok-push_optional.ensures.ok.account one second4) in
    let nested = c.in_ok-push_nested.ensures.ok three second6 in
    let four : Account = pushed_nested no_account three in
    c.in_ok-bindings.ensures four (c.in_ok-push_empty-3.ensures.ok.kept.others c.push_nested.new.parent four
    (nested.account no_account c.in_ok-outer.ensures.account))

pub returns-clause-others : goal.returns-clause-others
returns-clause-others g c =
    let one : Account = pushed (Command.skips c.args.name.now) no_account in
    let three : Account = pushed (Command.binds_nothing c.args.other.now) one in
    let second4 = c.in_ok-push_empty-2.ensures.ok.kept.others c.in_ok-second.second one
    (c.in_ok-second.ensures.account one (c.in_ok-push_empty.ensures.ok.account no_account
    c.in_ok-first.ensures.account)) in
    let second6 = c.in_ok-outer.ensures.given.kept.others c.push_optional.new.handle three
    (c.in_ok-push_optional.ensures.ok.account one second4) in
    let nested = c.in_ok-push_nested.ensures.ok three second6 in
    let k2 = kept-on c.args.log.now c.alloc.new.self c.push_empty.new.self c.in_ok-first.ensures.given.kept
    c.in_ok-push_empty.ensures.ok.kept in
    let k3 = kept-on c.args.log.now c.push_empty.new.self c.copy.new.self k2 c.in_ok-second.ensures.given.kept in
    let k4 = kept-on c.args.log.now c.copy.new.self c.push_empty-2.new.self k3 c.in_ok-push_empty-2.ensures.ok.kept in
    let k5 = kept-on c.args.log.now c.push_empty-2.new.self c.push_optional.new.self k4
    c.in_ok-push_optional.ensures.ok.kept in
    let k6 = kept-on c.args.log.now c.push_optional.new.self c.alloc-2.new.self k5 c.in_ok-outer.ensures.given.kept in
    let k7 = kept-on c.args.log.now c.alloc-2.new.self c.push_nested.new.self k6 nested.kept in
    let k8 = kept-on c.args.log.now c.push_nested.new.self c.push_empty-3.new.self k7
    c.in_ok-push_empty-3.ensures.ok.kept in
    λ closure a. all_accounts c.args.log.now c.push_empty-3.new.self k8 closure a
