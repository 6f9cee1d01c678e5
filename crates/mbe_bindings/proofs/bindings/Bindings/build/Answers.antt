use Rattle.mbe_bindings.proofs.BuildLemmas.{build-grounded, build-returns}
use Rattle.mbe_bindings.proofs.bindings.Bindings.build.Goals as goal

pub build_part-requires-clause-grounded : goal.build_part-requires-clause-grounded
build_part-requires-clause-grounded g c =
    build-grounded c.lists-alloc.result.commands.now c.lists-alloc.result.rounds.now c.args.log.now
    c.lists-alloc.ensures.seen c.args.handle.now c.handle_parts.result.0 c.handle_parts.ensures.current
    c.lists-alloc.result.nested c.lists-alloc.ensures.sound c.requires

pub returns : goal.returns
returns g c =
    build-returns c.lists-alloc.result.commands.now c.lists-alloc.result.rounds.now c.args.log.now
    c.lists-alloc.ensures.seen c.args.handle.now c.handle_parts.result.0 c.handle_parts.ensures.current
    c.build_part.result c.build_part.ensures
