-- Laws about substitution and about the log.
use Rattle.std.specs.Prelude.{◌≡◌, ◌<◌, ℕ, zero, suc, Bool, true, false, ◌||◌, nat_le, IsFalse, List, take, refl}
use Rattle.std.proofs.Common.{arith, ap, sym, ◌∙◌, subst}
use Rattle.std.proofs.lemmas.Bool.{lt-leb}
use Rattle.std.proofs.lemmas.Option.{same_Some}
use Rattle.mbe_semantics.specs.declared.fragment_kinds.RepeatKind.TheVariants.{ZeroOrMore}
use Rattle.mbe_semantics.specs.Transcription.Rounds.{finite, level}
use Rattle.mbe_semantics.specs.Transcription.Substitution.{faults, extent_faults, any_below, any_round, separator_trees}
use Rattle.mbe_semantics.specs.Transcription.Substitution.{AreKeptRounds, Substitutes}
use Rattle.mbe_semantics.specs.Bindings.Account.{Command, Commands, CommandRounds, command, command_round, Entry}
use Rattle.mbe_semantics.specs.Bindings.Account.{RoundEntry, Log, Gives, GivesRounds, PartGives, PartGivesRounds}
use Rattle.mbe_semantics.specs.Bindings.Account.{gives_nothing, gives_binding, gives_empty, gives_skip, gives_missing}
use Rattle.mbe_semantics.specs.Bindings.Account.{gives_nested, gives_link, gives_no_rounds, gives_round}
use Rattle.mbe_semantics.specs.Bindings.Account.{gives_linked_rounds, part_gives, part_gives_rounds}
use Rattle.mbe_semantics.specs.Laws.Laws.{WritesAllRounds, OneAccount}

none_below : (test : ℕ → Bool) (n : ℕ) → ((i : ℕ) → i < n → IsFalse (test i)) → IsFalse (any_below test n)
none_below test zero h = refl
none_below test (suc n) h = either (any_below test n) (test n) (none_below test n (λ i k. h i (omega (arith, k))))
    (h n (omega arith))
  where
    either : (a b : Bool) → IsFalse a → IsFalse b → IsFalse (a || b)
    either false b p q = q
    either true b p q = p

no_fault : (test : ℕ → ℕ → Bool) (n : ℕ) → n < 65536 → ((i : ℕ) → i < n → IsFalse (test i n)) →
    IsFalse (extent_faults ZeroOrMore (finite n) || any_round test (finite n))
no_fault test n h k = either (nat_le 65536 n) _ (lt-leb 65536 n h) (none_below (λ i. test i n) n k)
  where
    either : (a b : Bool) → IsFalse a → IsFalse b → IsFalse (a || b)
    either false b p q = q
    either true b p q = p

pub writes_all_rounds : (Marks : _) → WritesAllRounds Marks
writes_all_rounds Marks g call_site env path body separator n out e h k = (
  subst (λ x. IsFalse (extent_faults ZeroOrMore x || any_round (λ i m. faults env (level i m path) body) x)) (sym e)
      (no_fault (λ i m. faults env (level i m path) body) n h k),
  λ w. subst (λ x. AreKeptRounds (separator_trees separator)
      (λ i m. Substitutes g Marks call_site env (level i m path) body) x out) e w,
)

mutual
  one_list : (log : Log) {cs : Commands} {es : List Entry} {all : Commands} → Gives log cs es all → (bs : Commands)
      → Gives log cs es bs → all ≡ bs
  one_list log (gives_nothing cs) bs (gives_nothing _) = refl
  one_list log (gives_binding cs name x es all r) bs (gives_binding _ _ _ _ _ s) = one_list log r bs s
  one_list log (gives_empty cs name es all r) bs (gives_empty _ _ _ _ s) = one_list log r bs s
  one_list log (gives_skip cs name es all r) bs (gives_skip _ _ _ _ s) = one_list log r bs s
  one_list log (gives_missing cs name kind es all r) bs (gives_missing _ _ _ _ _ s) = one_list log r bs s
  one_list log (gives_nested cs finished current es rs ds all p q r) bs (gives_nested _ _ _ _ rs' ds' _ p' q' r') =
      one_list log r bs (subst (λ x. Gives log (command cs (Command.nests (command_round x ds))) es bs)
      (sym (one_rounds_part log p rs' p'))
      (subst (λ x. Gives log (command cs (Command.nests (command_round rs' x))) es bs) (sym (one_part log q ds' q'))
      r'))
  one_list log (gives_link cs part es ds all p r) bs (gives_link _ _ _ ds' _ p' r') =
      one_list log r bs (subst (λ x. Gives log x es bs) (sym (one_part log p ds' p')) r')

  one_rounds : (log : Log) {rs : CommandRounds} {es : List RoundEntry} {all : CommandRounds} → GivesRounds log rs es all
      → (bs : CommandRounds) →
      GivesRounds log rs es bs → all ≡ bs
  one_rounds log (gives_no_rounds rs) bs (gives_no_rounds _) = refl
  one_rounds log (gives_round rs part es cs all p r) bs (gives_round _ _ _ cs' _ p' r') =
      one_rounds log r bs (subst (λ x. GivesRounds log (command_round rs x) es bs) (sym (one_part log p cs' p')) r')
  one_rounds log (gives_linked_rounds rs part es qs all p r) bs (gives_linked_rounds _ _ _ qs' _ p' r') =
      one_rounds log r bs (subst (λ x. GivesRounds log x es bs) (sym (one_rounds_part log p qs' p')) r')

  one_part : (log : Log) {cs : Commands} {part : _} {all : Commands} → PartGives log cs part all → (bs : Commands)
      → PartGives log cs part bs → all ≡ bs
  one_part log (part_gives cs part all es e h r) bs (part_gives _ _ _ fs e' h' s) =
      one_list log r bs (subst (λ x. Gives log cs (take part.first x) bs) (same_Some fs es (sym e' ∙ e)) s)

  one_rounds_part : (log : Log) {rs : CommandRounds} {part : _} {all : CommandRounds} → PartGivesRounds log rs part all
      → (bs : CommandRounds) →
      PartGivesRounds log rs part bs → all ≡ bs
  one_rounds_part log (part_gives_rounds rs part all es e h r) bs (part_gives_rounds _ _ _ fs e' h' s) =
      one_rounds log r bs (subst (λ x. GivesRounds log rs (take part.first x) bs) (same_Some fs es (sym e' ∙ e)) s)

pub one_account : OneAccount
one_account log h a b p q =
    ap (λ x. record a { current = x }) (one_part log p.current b.current q.current)
    ∙ ap (λ x. record { finished = x; current = b.current }) (one_rounds_part log p.finished b.finished q.finished)
