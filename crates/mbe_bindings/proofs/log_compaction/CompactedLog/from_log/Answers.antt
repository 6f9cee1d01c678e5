use Rattle.std.proofs.Common.{refl}
use Rattle.mbe_bindings.proofs.CompactLemmas.{written_sound, written_moved, written_kept}
use Rattle.mbe_bindings.proofs.log_compaction.CompactedLog.from_log.Goals as goal

pub from_lists-log-requires : goal.from_lists-log-requires
from_lists-log-requires g c =
    written_sound c.lists-alloc.result.commands.now c.lists-alloc.result.rounds.now c.args.extent c.in_ok-moves.moves
    c.in_ok-moves.ensures.commands c.in_ok-moves.ensures.rounds (c.if-not-is_sound.ensures refl)
    c.in_ok-commands.commands.items c.in_ok-rounds.rounds.items c.in_ok-commands.ensures c.in_ok-rounds.ensures
    c.lists-alloc.result.nested c.lists-alloc.ensures.sound

pub returns-clause-moved : goal.returns-clause-moved
returns-clause-moved g c =
    written_moved c.lists-alloc.result.commands.now c.lists-alloc.result.rounds.now c.args.extent c.in_ok-moves.moves
    c.in_ok-moves.ensures.commands c.in_ok-moves.ensures.rounds (c.if-not-is_sound.ensures refl)
    c.in_ok-commands.commands.items c.in_ok-rounds.rounds.items c.in_ok-commands.ensures c.in_ok-rounds.ensures
    c.args.log.now c.from_lists-log.result c.lists-alloc.ensures.seen c.from_lists-log.ensures

pub returns-clause-kept : goal.returns-clause-kept
returns-clause-kept g c =
    written_kept c.lists-alloc.result.commands.now c.lists-alloc.result.rounds.now c.args.extent c.in_ok-moves.moves
    c.in_ok-moves.ensures.commands c.in_ok-moves.ensures.rounds (c.if-not-is_sound.ensures refl)
    c.in_ok-commands.commands.items c.in_ok-rounds.rounds.items c.in_ok-commands.ensures c.in_ok-rounds.ensures
    c.args.log.now c.from_lists-log.result c.lists-alloc.ensures.seen c.from_lists-log.ensures
