-- Names that are skipped one after the other, and dots that are counted.
use Rattle.std.proofs.Common.{◌≡◌, arith, length, List, [], ◌∷◌, ◌++◌, refl, sym, ap, subst, ◌∙◌}
use Rattle.mbe_semantics.specs.Syntax.Op.{Name, Op, Ops, no_ops, op, names_of_op, names_of}
use Rattle.mbe_semantics.specs.Bindings.Account.{Commands, command, Command, Account, Log, Handle, IsAccount}
use Rattle.mbe_semantics.specs.Bindings.Account.{HasEntriesOf, skip_commands}
use Rattle.mbe_semantics.specs.Matching.ThreadModel.{skipped}
use Rattle.mbe_log.specs.HandleChanges.{KeepsHandles}
use Rattle.mbe_log.proofs.ClientLemmas.{kept-on}
use Rattle.mbe_matcher.specs.Rewrites.{IsRewritten}
use Rattle.mbe_matcher.proofs.Keeping.{kept_not}

skip_more : (xs ys : List Name) (cs : Commands) → skip_commands (xs ++ ys) cs ≡ skip_commands ys (skip_commands xs cs)
skip_more [] ys cs = refl
skip_more (x ∷ xs) ys cs = skip_more xs ys (command cs (Command.skips x))

skipped_first : (o : Op) (os : Ops) (a : Account)
    → skipped (names_of (op o os)) a ≡ skipped (names_of os) (skipped (names_of_op o) a)
skipped_first o os a = ap (λ (cs : Commands). record { finished = a.finished; current = cs })
    (skip_more (names_of_op o) (names_of os) a.current)

-- Some of the ops are skipped: whoever skips the others too has skipped all.
pub record SkipsUpTo (old new : Log) (before after : Handle) (all left : Ops) : Type 0 where
  pub entries : HasEntriesOf new after
  pub account : (a : Account) → IsAccount old before a
      → (b : Account) × IsAccount new after b × (skipped (names_of left) b ≡ skipped (names_of all) a)
  pub kept : KeepsHandles old new

pub skips_none : (log : Log) (h : Handle) (all : Ops) → HasEntriesOf log h → SkipsUpTo log log h h all all
skips_none log h all l = record { entries = l; account = λ a i. (a, i, refl); kept = kept_not log }

pub skips_one : (old mid new : Log) (before between after : Handle) (all left rest : Ops) (o : Op) → left ≡ op o rest
    → SkipsUpTo old mid before between all left →
    IsRewritten mid new between after (skipped (names_of_op o)) → SkipsUpTo old new before after all rest
skips_one old mid new before between after all left rest o e s r = record {
  entries = r.entries;
  account = λ a i. go a (s.account a i);
  kept = kept-on old mid new s.kept r.kept;
}
  where
    go : (a : Account) → (b : Account) × IsAccount mid between b
        × (skipped (names_of left) b ≡ skipped (names_of all) a) →
        (b : Account) × IsAccount new after b × (skipped (names_of rest) b ≡ skipped (names_of all) a)
    go a (b, i, h) = (
      skipped (names_of_op o) b,
      r.account b i,
      sym (skipped_first o rest b)
          ∙ ap (λ os. skipped (names_of os) b) (sym e) ∙ h,
    )

pub none_of : {X : Type 0} (xs : List X) → length xs ≡ 0 → xs ≡ []
none_of [] h = refl
none_of (x ∷ xs) h = absurd (omega (arith, h))

-- an op in which nothing is named
pub skips_plain : (old new : Log) (before after : Handle) (all left rest : Ops) (o : Op) → left ≡ op o rest
    → names_of_op o ≡ [] → SkipsUpTo old new before after all left → SkipsUpTo old new before after all rest
skips_plain old new before after all left rest o e none s = record {
  entries = s.entries;
  account = λ a i. go a (s.account a i);
  kept = s.kept;
}
  where
    go : (a : Account) → (b : Account) × IsAccount new after b
        × (skipped (names_of left) b ≡ skipped (names_of all) a) →
        (b : Account) × IsAccount new after b × (skipped (names_of rest) b ≡ skipped (names_of all) a)
    go a (b, i, h) = (
      b,
      i,
      ap (λ ns. skipped (ns ++ names_of rest) b) (sym none) ∙ ap (λ os. skipped (names_of os) b) (sym e) ∙ h,
    )

pub skips_all : (old new : Log) (before after : Handle) (all left : Ops) → left ≡ no_ops
    → SkipsUpTo old new before after all left →
    IsRewritten old new before after (skipped (names_of all))
skips_all old new before after all left e s =
    record { entries = s.entries; account = λ a i. go a (s.account a i); kept = s.kept }
  where
    go : (a : Account) → (b : Account) × IsAccount new after b × (skipped (names_of left) b ≡ skipped (names_of all) a)
        → IsAccount new after (skipped (names_of all) a)
    go a (b, i, h) = subst (IsAccount new after) (ap (λ os. skipped (names_of os) b) (sym e) ∙ h) i
