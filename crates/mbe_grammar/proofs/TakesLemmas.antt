-- What rules take, one level down, and one turn on.
use Rattle.std.proofs.Common.{◌≡◌, ℕ, suc, ◌-◌, ◌<◌, Option, Ok, Err, refl, ap, sym, ◌∙◌, arith}
use Rattle.std.specs.List.{slice_get}
use Rattle.mbe_tt.specs.Trees.Tree.{Forest}
use Rattle.mbe_grammar.specs.declared.tables.node.Node.{Node}
use Rattle.mbe_grammar.specs.declared.tables.parse_result.ParseFailure.TheVariants.{Fault}
use Rattle.mbe_grammar.specs.declared.tables.peg_table.RuleTable.{RuleTable}
use Rattle.mbe_grammar.specs.Tables.Rule.{once_more, times, meaning, takes}
use Rattle.mbe_grammar.specs.Tables.Terminals.{ParseResult}

one_more : (n : ℕ) → 0 < n → n ≡ suc (n - 1)
one_more n h = omega (arith, h)

takes_suc : (table : RuleTable) (n x : ℕ) (f : Forest)
    → takes table (suc n) x f ≡ meaning table (takes table n) (slice_get table.nodes.now x) f
unfolding takes
takes_suc table n x f = refl

-- a step that is what its node means, one level down
pub takes_one_less : (table : RuleTable) (n x : ℕ) (f : Forest) (found : Option Node) (s : ParseResult)
    → 0 < n → found ≡ slice_get table.nodes.now x → s ≡ meaning table (takes table (n - 1)) found f
    → s ≡ takes table n x f
takes_one_less table n x f found s h e m =
    m ∙ (ap (λ r. meaning table (takes table (n - 1)) r f) e
    ∙ (sym (takes_suc table (n - 1) x f) ∙ sym (ap (λ k. takes table k x f) (one_more n h))))

pub takes_none : (table : RuleTable) (n x : ℕ) (f : Forest) → n ≡ 0 → takes table n x f ≡ Err Fault
unfolding takes
takes_none table n x f e = rw e refl

times_suc : (n : ℕ) (r : Forest → ParseResult) (f : Forest) → times (suc n) r f ≡ once_more (r f) (times n r) f
unfolding times
times_suc n r f = refl

pub times_more : (n : ℕ) (r : Forest → ParseResult) (f : Forest) → 0 < n → times n r f
    ≡ once_more (r f) (times (n - 1) r) f
times_more n r f h = ap (λ k. times k r f) (one_more n h) ∙ times_suc (n - 1) r f

-- a turn that fits
pub times_on : (n : ℕ) (r : Forest → ParseResult) (f g : Forest) → 0 < n → Ok g ≡ r f → times n r f ≡ times (n - 1) r g
times_on n r f g h e = times_more n r f h ∙ ap (λ s. once_more s (times (n - 1) r) f) (sym e)
