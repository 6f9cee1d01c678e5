-- For one who holds handles: what each call leaves of them, in one step for any number of them.
use Rattle.std.specs.Prelude.{List, [], ◌∷◌}
use Rattle.std.proofs.Common.{arith, sym, subst}
use Rattle.mbe_semantics.specs.Bindings.Account.{Account, no_commands, no_command_rounds, Log, Handle, IsLive}
use Rattle.mbe_semantics.specs.Bindings.Account.{HasEntriesOf, IsAccount, Gives, GivesRounds, gives_nothing}
use Rattle.mbe_semantics.specs.Bindings.Account.{gives_no_rounds, part_gives, part_gives_rounds, PartGives}
use Rattle.mbe_semantics.specs.Bindings.Account.{PartGivesRounds, Commands, CommandRounds, IsIn}
use Rattle.mbe_semantics.specs.declared.list_prefix.ListPrefix.{ListPrefix}
use Rattle.mbe_log.specs.HandleChanges.{KeepsHandles, IsEmptied}
use Rattle.mbe_log.specs.Accounts.{Every, HandleAccounts, HasAccounts}
use Rattle.mbe_log.proofs.ChainLemmas.{in_range}
use Rattle.mbe_log.proofs.SeenLemmas.{take-none}

pub in_of : (log : Log) {p : ListPrefix} {ds cs : Commands} → PartGives log ds p cs → IsIn log.commands p
in_of log (part_gives ds p cs es i l h) = (es, i, l)

pub in_of_rounds : (log : Log) {p : ListPrefix} {ds rs : CommandRounds} → PartGivesRounds log ds p rs
    → IsIn log.rounds p
in_of_rounds log (part_gives_rounds ds p rs es i l h) = (es, i, l)

-- who has an account has its entries
pub has_entries : (log : Log) (h : Handle) (a : Account) → IsAccount log h a → HasEntriesOf log h
has_entries log h a k = (in_of log k.current, in_of_rounds log k.finished)

-- who has entries is live
pub lists_there : (log : Log) (h : Handle) → HasEntriesOf log h → IsLive log h
lists_there log h i = (
  in_range log.commands h.current.list i.0.0 i.0.1,
  in_range log.rounds h.finished.list i.1.0 i.1.1,
)

-- what holds of each in one way holds of each in another
pub every : {X : Type 0} (P Q : X → Type 0) → ((x : X) → P x → Q x) → (xs : List X) → Every P xs → Every Q xs
every P Q f [] h = tt
every P Q f (x ∷ xs) h = (f x h.0, every P Q f xs h.1)

module _ (old new : Log) (k : KeepsHandles old new) where
  pub all_accounts : (held : HandleAccounts) → HasAccounts old held → HasAccounts new held
  all_accounts held a = every (λ x. IsAccount old x.0 x.1) (λ x. IsAccount new x.0 x.1) (λ x. k.others x.0 x.1) held a

-- one call after another
pub kept-on : (old middle new : Log) → KeepsHandles old middle → KeepsHandles middle new → KeepsHandles old new
kept-on old middle new k l = record {
  stays = λ h a. l.stays h (k.stays h a);
  entries = λ h a. l.entries h (k.entries h a);
  others = λ h a b. l.others h a (k.others h a b);
}

-- ---- the first no entries of a handle's lists

abbrev pub none_of : Handle → Handle
none_of h = record { current = record h.current { first = 0 }; finished = record h.finished { first = 0 } }

pub emptied-none : (h : Handle) → IsEmptied h (none_of h)
emptied-none h = record {
  entries = λ log i. ((i.0.0, i.0.1, omega arith), (i.1.0, i.1.1, omega arith));
  account = λ log i. record {
    current = part_gives no_commands (none_of h).current no_commands i.0.0 i.0.1 (omega arith)
        (subst (λ es. Gives log no_commands es no_commands) (sym (take-none i.0.0)) (gives_nothing no_commands));
    finished = part_gives_rounds no_command_rounds (none_of h).finished no_command_rounds i.1.0 i.1.1 (omega arith)
        (subst (λ es. GivesRounds log no_command_rounds es no_command_rounds) (sym (take-none i.1.0))
        (gives_no_rounds no_command_rounds));
  };
}
