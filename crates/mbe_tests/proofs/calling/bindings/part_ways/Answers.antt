use Rattle.mbe_tests.proofs.calling.bindings.part_ways.Goals as goal

pub push_empty-requires : goal.push_empty-requires
push_empty-requires g c = c.in_ok-two.ensures.given.kept.entries c.in_ok-one.one c.in_ok-one.ensures.given.entries

pub build-requires-2 : goal.build-requires-2
build-requires-2 g c = c.in_ok-push_empty.ensures.ok.kept.entries c.in_ok-two.two c.in_ok-two.ensures.given.entries
