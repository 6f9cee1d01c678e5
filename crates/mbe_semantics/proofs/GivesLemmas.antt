-- What entries give, after what earlier ones give.
use Rattle.std.specs.Prelude.{List, ◌++◌}
use Rattle.mbe_semantics.specs.Bindings.Account.{Commands, CommandRounds, Entry, RoundEntry, Log, Gives, GivesRounds}
use Rattle.mbe_semantics.specs.Bindings.Account.{gives_nothing, gives_binding, gives_empty, gives_skip, gives_missing}
use Rattle.mbe_semantics.specs.Bindings.Account.{gives_nested, gives_link, gives_no_rounds, gives_round}
use Rattle.mbe_semantics.specs.Bindings.Account.{gives_linked_rounds}

-- entries after those that are there
pub follow : (log : Log) {cs middle : Commands} {es : List Entry} → Gives log cs es middle
    → (more : List Entry) (all : Commands) → Gives log middle more all → Gives log cs (es ++ more) all
follow log (gives_nothing cs) more all h = h
follow log (gives_binding cs name x es _ r) more all h =
    gives_binding cs name x (es ++ more) all (follow log r more all h)
follow log (gives_empty cs name es _ r) more all h = gives_empty cs name (es ++ more) all (follow log r more all h)
follow log (gives_skip cs name es _ r) more all h = gives_skip cs name (es ++ more) all (follow log r more all h)
follow log (gives_missing cs name kind es _ r) more all h =
    gives_missing cs name kind (es ++ more) all (follow log r more all h)
follow log (gives_nested cs finished current es rs ds _ p q r) more all h =
    gives_nested cs finished current (es ++ more) rs ds all p q (follow log r more all h)
follow log (gives_link cs p es ds _ q r) more all h = gives_link cs p (es ++ more) ds all q (follow log r more all h)

pub rounds_follow : (log : Log) {rs middle : CommandRounds} {es : List RoundEntry} → GivesRounds log rs es middle
    → (more : List RoundEntry) (all : CommandRounds) → GivesRounds log middle more all
    → GivesRounds log rs (es ++ more) all
rounds_follow log (gives_no_rounds rs) more all h = h
rounds_follow log (gives_round rs p es cs _ q r) more all h =
    gives_round rs p (es ++ more) cs all q (rounds_follow log r more all h)
rounds_follow log (gives_linked_rounds rs p es qs _ q r) more all h =
    gives_linked_rounds rs p (es ++ more) qs all q (rounds_follow log r more all h)
