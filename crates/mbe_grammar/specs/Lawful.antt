-- The sample grammar is lawful. These are laws and no definitions, as in RuleLaws.
use Rattle.std.specs.Prelude.{◌≡◌, ℕ, ◌≤◌, Bool, true, false, length, Ok, Err, refl}
use Rattle.std.proofs.Common.{arith, true≢false}
use Rattle.mbe_tt.specs.Trees.Tree.{Forest, flat_len}
use Rattle.mbe_tt.specs.Grammars.Grammar.{IsLawful}
use Rattle.mbe_tt.specs.declared.grammar.PrefixEntryPoint.{PrefixEntryPoint}
use Rattle.mbe_tt.specs.declared.grammar.PrefixEntryPoint.TheVariants as entries
use Rattle.mbe_grammar.specs.Tables.FlatTrees.{trees_of_flat}
use Rattle.mbe_grammar.specs.Tables.Lawful.{flat_len-trees_of_flat}
use Rattle.mbe_grammar.specs.Tables.Terminals.{ParseResult}
use Rattle.mbe_grammar.specs.SampleGrammar.{Nonterminal, Segment, Vis, rule_of, part_of, takes}
use Rattle.mbe_grammar.specs.SampleGrammar.{front_of, answer, sample}
use Rattle.mbe_grammar.specs.declared.sample_types.PathStyle.TheVariants.{Plain, Expression}
use Rattle.mbe_grammar.specs.RuleLaws.{is_solid, Leaves, taken_leaves}

-- every nonterminal except `Vis` consumes something if it matches
abbrev pub takes_some : Nonterminal → Bool
takes_some Vis = false
takes_some _ = true

pub solid_parts : (x : Nonterminal) → is_solid takes_some (rule_of x) ≡ takes_some x
solid_parts (Segment Plain) = refl
solid_parts (Segment Expression) = refl
solid_parts _ = refl

-- how many flat tokens a nonterminal leaves
pub takes_leaves : (x : Nonterminal) (f : Forest) → Leaves (takes_some x) f (takes x f)
unfolding takes
takes_leaves x f = taken_leaves rule_of takes_some solid_parts x f

count_within : (f : Forest) (s : ParseResult) (n : ℕ) → flat_len f ≤ n → (front_of f s).count ≤ n
count_within f (Ok rest) n h = omega arith
count_within f (Err miss) n h = omega arith

no_nothing : (f : Forest) (s : ParseResult) → Leaves true f s → (front_of f s).fault ≡ false
    → (front_of f s).count ≡ 0 → ⊥
no_nothing f (Ok rest) l e c = omega arith
no_nothing f (Err miss) l e c = true≢false e

vis_alone : (entry : PrefixEntryPoint) (f : Forest) → (answer entry f).fault ≡ false
    → (answer entry f).count ≡ 0
    → entry ≡ entries.Vis
vis_alone entries.Vis f e c = refl
vis_alone entry f e c =
    absurd (no_nothing f (takes (part_of entry) f) (takes_leaves (part_of entry) f) e c)

-- It counts at most as many tokens as there are. Only `vis` may match nothing without a fault.
pub sample_lawful : IsLawful sample
sample_lawful = record {
  within = λ entry tokens. count_within (trees_of_flat tokens)
      (takes (part_of entry) (trees_of_flat tokens))
      (length tokens) (flat_len-trees_of_flat tokens);
  nothing_for_vis = λ entry tokens. vis_alone entry (trees_of_flat tokens);
}
