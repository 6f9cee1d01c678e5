use Rattle.std.proofs.Common.{◌≡◌, ◌<◌, ◌≤◌, ◌-◌, ◌∙◌, [], ◌∷◌, length, take, refl, ap, sym, subst, arith, rules}
use Rattle.mbe_semantics.specs.Bindings.Account.{Command, no_commands, no_command_rounds, add_round_in, run}
use Rattle.mbe_bindings.specs.FlatEntries.{Flat}
use Rattle.mbe_log.specs.declared.log.Command as code
use Rattle.mbe_bindings.proofs.BindingLemmas.{seen-fragment, seen-empty, seen-missing}
use Rattle.mbe_log.specs.declared.fragment.Fragment.TheVariants.{Empty}
use Rattle.mbe_log.specs.FragmentViews.{fragment_seen}
use Rattle.mbe_bindings.specs.BindingViews.{env_of}
use Rattle.mbe_log.specs.LogEntries.{entry_seen, log_of}
use Rattle.mbe_log.specs.Sound.{GivesCommand}
use Rattle.mbe_bindings.specs.Replay.{IsPartGrounded, IsCommandGrounded, AreRoundsGrounded}
use Rattle.mbe_log.proofs.SeenLemmas.{is_within, is_rounds_within}
use Rattle.mbe_bindings.proofs.StepLemmas.{list_there, own_in_list, same_entry, is_false, bound_apart, bound_alone}
use Rattle.mbe_bindings.proofs.StepLemmas.{bound_pair, grounded_command, built-step, built-end, grounded_round}
use Rattle.mbe_bindings.proofs.StepLemmas.{bound-step, bound-end, written_by, nested_grounded, nested_returns}
use Rattle.mbe_bindings.proofs.RowLemmas.{bound_rows}
use Rattle.mbe_bindings.proofs.replay.+building.Goals as goal

pub build_part-slots-requires-clause-within : goal.build_part-slots-requires-clause-within
build_part-slots-requires-clause-within g t c = is_within c.args.commands.now c.args.rounds.now c.requires.grounded.1

pub build_part-loop-slot-init : goal.build_part-loop-slot-init
build_part-loop-slot-init g t c = λ xs e cs h. (no_commands, h, c.in_ok-bindings.ensures)

pub build_part-bounds-commands-slot : goal.build_part-bounds-commands-slot
build_part-bounds-commands-slot g t c =
    let short : c.loop-slot.slot-index < length c.deref-slot-items.result.now = search rules in
    list_there c.args.commands.now c.args.part c.in_ok-found.found.items c.deref-slot-items.result.now
    c.in_ok-found.ensures c.deref-slot-items.ensures.value
    c.loop-slot.slot-index _ short

pub build_part-own_at-command-requires : goal.build_part-own_at-command-requires
build_part-own_at-command-requires g t c =
    let short : c.loop-slot.slot-index < length c.deref-slot-items.result.now = search rules in
    own_in_list c.args.commands.now c.args.part c.in_ok-found.found.items c.deref-slot-items.result.now
    c.in_ok-found.ensures c.deref-slot-items.ensures.value
    c.loop-slot.slot-index _ c.index-commands-slot.result short c.index-commands-slot.is

pub build_part-bind_command-requires : goal.build_part-bind_command-requires
build_part-bind_command-requires g t c =
    let short : c.loop-slot.slot-index < length c.deref-slot-items.result.now = search rules in
    let grounded : IsCommandGrounded (log_of c.args.commands.now c.args.rounds.now)
    (entry_seen c.own_at-command.result.now) c.args.depth =
    grounded_command c.args.commands.now c.args.rounds.now c.deref-slot-items.result.now c.loop-slot.slot-index
    (env_of c.loop-slot.bindings)
    c.own_at-command.result.now c.loop-slot.invariant
    (same_entry c.args.commands.now c.args.part c.in_ok-found.found.items c.deref-slot-items.result.now
    c.in_ok-found.ensures c.deref-slot-items.ensures.value
    c.loop-slot.slot-index _ c.index-commands-slot.result c.own_at-command.result.now short c.index-commands-slot.is
    c.own_at-command.ensures)
    c.args.part c.in_ok-found.found.items c.args.depth c.in_ok-found.ensures c.deref-slot-items.ensures.value
    c.requires.grounded in
    search (rules, grounded)

pub build_part-loop-slot-preserved : goal.build_part-loop-slot-preserved
build_part-loop-slot-preserved g t c =
    let short : c.loop-slot.slot-index < length c.deref-slot-items.result.now = search rules in
    built-step c.args.commands.now c.args.rounds.now c.deref-slot-items.result.now c.loop-slot.slot-index
    (env_of c.loop-slot.bindings)
    c.own_at-command.result.now c.loop-slot.invariant
    (same_entry c.args.commands.now c.args.part c.in_ok-found.found.items c.deref-slot-items.result.now
    c.in_ok-found.ensures c.deref-slot-items.ensures.value
    c.loop-slot.slot-index _ c.index-commands-slot.result c.own_at-command.result.now short c.index-commands-slot.is
    c.own_at-command.ensures)
    (env_of c.bind_command.new.bindings) c.in_ok-bind_command.ensures

pub build_part-returns : goal.build_part-returns
build_part-returns g t c =
    let long : length c.deref-slot-items.result.now ≤ c.loop-slot.slot-index = search rules in
    built-end c.args.commands.now c.args.rounds.now c.deref-slot-items.result.now c.loop-slot.slot-index
    (env_of c.loop-slot.bindings)
    c.args.part c.in_ok-found.found.items c.loop-slot.invariant c.in_ok-found.ensures c.deref-slot-items.ensures.value
    long

pub bind_rounds-slots-requires-clause-within : goal.bind_rounds-slots-requires-clause-within
bind_rounds-slots-requires-clause-within g t c =
    is_rounds_within c.args.commands.now c.args.rounds.now c.requires.grounded.2

pub bind_rounds-loop-number-init : goal.bind_rounds-loop-number-init
bind_rounds-loop-number-init g t c = λ xs e rs h. (no_command_rounds, h, refl, refl)

pub bind_rounds-bounds-rounds-slot : goal.bind_rounds-bounds-rounds-slot
bind_rounds-bounds-rounds-slot g t c =
    let short : c.loop-number.number < length c.deref-slot-items.result.now = search rules in
    list_there c.args.rounds.now c.args.finished c.in_ok-found.found.items c.deref-slot-items.result.now
    c.in_ok-found.ensures c.deref-slot-items.ensures.value
    c.loop-number.number _ short

pub bind_rounds-own_at-part-requires : goal.bind_rounds-own_at-part-requires
bind_rounds-own_at-part-requires g t c =
    let short : c.loop-number.number < length c.deref-slot-items.result.now = search rules in
    own_in_list c.args.rounds.now c.args.finished c.in_ok-found.found.items c.deref-slot-items.result.now
    c.in_ok-found.ensures c.deref-slot-items.ensures.value
    c.loop-number.number _ c.index-rounds-slot.result short c.index-rounds-slot.is

pub bind_rounds-bind_round-requires : goal.bind_rounds-bind_round-requires
bind_rounds-bind_round-requires g t c =
    let short : c.loop-number.number < length c.deref-slot-items.result.now = search rules in
    let grounded : IsPartGrounded (log_of c.args.commands.now c.args.rounds.now) c.own_at-part.result.now c.args.depth =
    grounded_round c.args.commands.now c.args.rounds.now c.deref-slot-items.result.now c.loop-number.number
    (env_of c.args.bindings.now)
    (env_of c.loop-number.bindings) c.own_at-part.result.now c.loop-number.invariant
    (same_entry c.args.rounds.now c.args.finished c.in_ok-found.found.items c.deref-slot-items.result.now
    c.in_ok-found.ensures c.deref-slot-items.ensures.value
    c.loop-number.number _ c.index-rounds-slot.result c.own_at-part.result.now short c.index-rounds-slot.is
    c.own_at-part.ensures)
    c.args.finished c.args.last c.in_ok-found.found.items c.args.depth c.in_ok-found.ensures
    c.deref-slot-items.ensures.value c.requires.grounded in
    search (rules, grounded)

pub bind_rounds-loop-number-preserved : goal.bind_rounds-loop-number-preserved
bind_rounds-loop-number-preserved g t c =
    let short : c.loop-number.number < length c.deref-slot-items.result.now = search rules in
    bound-step c.args.commands.now c.args.rounds.now c.deref-slot-items.result.now c.loop-number.number
    (env_of c.args.bindings.now)
    (env_of c.loop-number.bindings) c.own_at-part.result.now c.loop-number.invariant
    (same_entry c.args.rounds.now c.args.finished c.in_ok-found.found.items c.deref-slot-items.result.now
    c.in_ok-found.ensures c.deref-slot-items.ensures.value
    c.loop-number.number _ c.index-rounds-slot.result c.own_at-part.result.now short c.index-rounds-slot.is
    c.own_at-part.ensures)
    (env_of c.bind_round.new.bindings) c.in_ok-bind_round.ensures

pub bind_rounds-returns : goal.bind_rounds-returns
bind_rounds-returns g t c =
    let long : length c.deref-slot-items.result.now ≤ c.loop-number.number = search rules in
    let count : c.loop-number.number ≡ length c.in_ok-found.found.items = search rules in
    bound-end c.args.commands.now c.args.rounds.now c.deref-slot-items.result.now c.loop-number.number
    (env_of c.args.bindings.now)
    (env_of c.loop-number.bindings) (env_of c.bind_round-2.new.bindings) c.args.finished c.args.last
    c.in_ok-found.found.items
    c.loop-number.invariant c.in_ok-found.ensures c.deref-slot-items.ensures.value long count
    (λ cs p. c.in_ok-bind_round-2.ensures cs p
    ∙ ap (λ n. add_round_in n (run cs []) (env_of c.loop-number.bindings)) (search rules))

pub build_part-offset_bounds-commands-slot : goal.build_part-offset_bounds-commands-slot
build_part-offset_bounds-commands-slot g t c =
    let short : c.loop-slot.slot-index < length c.deref-slot-items.result.now = search rules in
    let k = list_there c.args.commands.now c.args.part c.in_ok-found.found.items c.deref-slot-items.result.now
    c.in_ok-found.ensures c.deref-slot-items.ensures.value
    c.loop-slot.slot-index (record { list = 0; first = 0 }) short in omega (arith, k)

pub bind_rounds-offset_bounds-rounds-slot : goal.bind_rounds-offset_bounds-rounds-slot
bind_rounds-offset_bounds-rounds-slot g t c =
    let short : c.loop-number.number < length c.deref-slot-items.result.now = search rules in
    let k = list_there c.args.rounds.now c.args.finished c.in_ok-found.found.items c.deref-slot-items.result.now
    c.in_ok-found.ensures c.deref-slot-items.ensures.value
    c.loop-number.number (record { list = 0; first = 0 }) short in omega (arith, k)

pub bind_round-single_entry-requires : goal.bind_round-single_entry-requires
bind_round-single_entry-requires g t c = is_within c.args.commands.now c.args.rounds.now c.requires.grounded.1

pub bind_round-returns-in-Some-Fragment : goal.bind_round-returns-in-Some-Fragment
bind_round-returns-in-Some-Fragment g t c =
    bound_alone c.args.commands.now c.args.rounds.now c.args.part c.args.number (env_of c.args.bindings.now)
    (env_of c.grow_by_fragment.new.bindings)
    c.in-Some-Fragment.name c.in-Some-Fragment.fragment
    (subst (λ e. Flat c.args.commands.now c.args.part (e ∷ [])) c.in-Some-Fragment.field-0-is
    c.in-Some-Fragment.ensures)
    c.in_ok-grow_by_fragment.ensures

pub bind_round-unlinked_entries-requires : goal.bind_round-unlinked_entries-requires
bind_round-unlinked_entries-requires g t c = is_within c.args.commands.now c.args.rounds.now c.requires.grounded.1

pub bind_round-two-requires : goal.bind_round-two-requires
bind_round-two-requires g t c = is_within c.args.commands.now c.args.rounds.now c.requires.grounded.1

pub bind_round-returns : goal.bind_round-returns
bind_round-returns g t c =
    let here = c.in-Some-Fragment-Fragment in
    bound_pair c.args.commands.now c.args.rounds.now c.args.part c.args.number (env_of c.args.bindings.now)
    (env_of c.grow_by_fragment-2.new.bindings) (env_of c.grow_by_fragment-3.new.bindings) here.name here.other here.one
    here.two
    (subst (λ e. Flat c.args.commands.now c.args.part (e ∷ (code.TheVariants.Fragment here.other here.two ∷ [])))
    here.field-0-0-is
    (subst (λ e. Flat c.args.commands.now c.args.part (here.field-0-0.now ∷ (e ∷ []))) here.field-0-1-is here.ensures))
    (is_false _ (sym c.ne.ensures ∙ c.if-ne.true))
    c.in_ok-grow_by_fragment-2.ensures c.in_ok-grow_by_fragment-3.ensures

pub bind_round-returns-2 : goal.bind_round-returns-2
bind_round-returns-2 g t c =
    bound_rows c.args.commands.now c.args.rounds.now c.args.part c.args.number (env_of c.args.bindings.now)
    (env_of c.grow_by_commands.new.bindings) (take c.in-Some.count c.in-Some.list.now.own) c.in-Some.ensures.1
    (c.if-bind_names_from.ensures refl) c.in_ok-grow_by_commands.ensures

pub bind_round-returns-3 : goal.bind_round-returns-3
bind_round-returns-3 g t c =
    bound_apart c.args.commands.now c.args.rounds.now c.args.part c.args.number (env_of c.args.bindings.now)
    (env_of c.add_round.new.self) (env_of c.in_ok-round.round) c.in_ok-round.ensures c.in_ok-add_round.ensures

pub bind_command-returns-in_ok-try_clone-in-Fragment : goal.bind_command-returns-in_ok-try_clone-in-Fragment
bind_command-returns-in_ok-try_clone-in-Fragment g t c =
    written_by c.insert.result (GivesCommand (log_of c.args.commands.now c.args.rounds.now)
    (entry_seen c.args.command.now)) (Command.binds c.in-Fragment.name (fragment_seen c.in-Fragment.fragment))
    (env_of c.args.bindings.now) (env_of c.insert.new.self)
    (rw c.in_ok-try_clone-in-Fragment.ensures.seen at
    (rw (seen-fragment c.in_ok-try_clone-in-Fragment.field-0) at c.insert.ensures.ok))
    (λ d p. subst (λ x. GivesCommand (log_of c.args.commands.now c.args.rounds.now) (entry_seen x) d) c.in-Fragment.is
    p)

pub bind_command-returns-in-Optional : goal.bind_command-returns-in-Optional
bind_command-returns-in-Optional g t c =
    written_by c.insert-in-Optional.result
    (GivesCommand (log_of c.args.commands.now c.args.rounds.now) (entry_seen c.args.command.now))
    (Command.binds_nothing c.in-Optional.name)
    (env_of c.args.bindings.now) (env_of c.insert-in-Optional.new.self)
    (rw (seen-fragment {A = g.row.A.Denot} Empty) at c.insert-in-Optional.ensures.ok)
    (λ d p. subst (λ x. GivesCommand (log_of c.args.commands.now c.args.rounds.now) (entry_seen x) d) c.in-Optional.is
    p)

pub bind_command-returns-in-Empty : goal.bind_command-returns-in-Empty
bind_command-returns-in-Empty g t c =
    written_by c.insert-in-Empty.result (GivesCommand (log_of c.args.commands.now c.args.rounds.now)
    (entry_seen c.args.command.now)) (Command.skips c.in-Empty.name)
    (env_of c.args.bindings.now) (env_of c.insert-in-Empty.new.self)
    (rw (seen-empty g.row.A.Denot) at c.insert-in-Empty.ensures.ok)
    (λ d p. subst (λ x. GivesCommand (log_of c.args.commands.now c.args.rounds.now) (entry_seen x) d) c.in-Empty.is p)

pub bind_command-returns-in-Missing : goal.bind_command-returns-in-Missing
bind_command-returns-in-Missing g t c =
    written_by c.insert-in-Missing.result
    (GivesCommand (log_of c.args.commands.now c.args.rounds.now) (entry_seen c.args.command.now))
    (Command.misses c.in-Missing.name c.in-Missing.kind)
    (env_of c.args.bindings.now) (env_of c.insert-in-Missing.new.self)
    (rw (seen-missing g.row.A.Denot c.in-Missing.kind) at c.insert-in-Missing.ensures.ok)
    (λ d p. subst (λ x. GivesCommand (log_of c.args.commands.now c.args.rounds.now) (entry_seen x) d) c.in-Missing.is p)

pub bind_command-overflow_sub-depth : goal.bind_command-overflow_sub-depth
bind_command-overflow_sub-depth g t c =
    (nested_grounded c.args.commands.now c.args.rounds.now c.args.command.now c.in-Nested.finished c.in-Nested.current
    c.in-Nested.is c.args.depth c.requires.grounded).1

pub bind_command-bind_rounds-requires : goal.bind_command-bind_rounds-requires
bind_command-bind_rounds-requires g t c =
    let inside = nested_grounded c.args.commands.now c.args.rounds.now c.args.command.now c.in-Nested.finished
    c.in-Nested.current c.in-Nested.is c.args.depth c.requires.grounded in
    let grounded : AreRoundsGrounded (log_of c.args.commands.now c.args.rounds.now) c.in-Nested.finished
    c.in-Nested.current (c.args.depth - 1) = inside.0 in
    let deep : 1 ≤ c.args.depth = inside.1 in search (rules, grounded, deep)

pub bind_command-returns-in-Nested : goal.bind_command-returns-in-Nested
bind_command-returns-in-Nested g t c =
    nested_returns c.args.commands.now c.args.rounds.now c.args.command.now c.in-Nested.finished c.in-Nested.current
    c.in-Nested.is c.bind_rounds.result (env_of c.args.bindings.now) (env_of c.bind_rounds.new.bindings)
    c.bind_rounds.ensures

pub build_part-offset_bounds-slot-items-slot-index : goal.build_part-offset_bounds-slot-items-slot-index
build_part-offset_bounds-slot-items-slot-index g t c = let k = c.loop-slot-test.true in omega (arith, k)
