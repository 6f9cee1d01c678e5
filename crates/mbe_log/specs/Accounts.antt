-- What a holder of handles knows of a log.
use Rattle.std.specs.Prelude.{List, [], ◌∷◌}
use Rattle.mbe_semantics.specs.Bindings.Account.{Account, Log, Handle, IsAccount}

abbrev pub Every : {X : Type 0} → (X → Type 0) → List X → Type 0
Every P [] = Unit {0}
Every P (x ∷ xs) = P x × Every P xs

-- handles with their accounts
abbrev pub HandleAccounts : Type 0
HandleAccounts = List (Handle × Account)

-- each handle has its account; the list may have a handle many times
abbrev pub HasAccounts : Log → HandleAccounts → Type 0
HasAccounts log closure = Every (λ x. IsAccount log x.0 x.1) closure
