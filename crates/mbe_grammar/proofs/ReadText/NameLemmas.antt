-- The names of rules after a new one.
use Rattle.std.proofs.Common.{◌≡◌, ℕ, ◌+◌, List, Option, Some, Bor}
use Rattle.std.specs.BTreeMap.{BTreeMap, btree_map_len}
use Rattle.std.specs.BTreeMap as tree
use Rattle.std.specs.Cmp.Lexicographic.{slice_cmp}
use Rattle.std.specs.Ordering.{nat_cmp}
use Rattle.std.proofs.lemmas.Map.Text.{btree_map_updates_str}
use Rattle.mbe_grammar.specs.Peg.Grammar.{RuleNames, with_name}
use Rattle.mbe_grammar.specs.Peg.Views.{names_model}

-- equal numbers of rules, and equal positions of each name
same_names : (n m : ℕ) (f h : List ℕ → Option ℕ) → n ≡ m → ((q : List ℕ) → f q ≡ h q)
    → ◌≡◌ {A = RuleNames} (record { count = n; position = f }) (record { count = m; position = h })
same_names n m f h e p = λ i. record { count = e i; position = λ q. p q i }

pub name_added : (name : List ℕ) (old new : BTreeMap (Bor (List ℕ)) ℕ)
    → tree.UpdatesBy (λ x y. slice_cmp nat_cmp x.now y.now) (λ k. slice_cmp nat_cmp name k.now) old new
    (Some (btree_map_len old))
    → btree_map_len new ≡ btree_map_len old + 1 → names_model new ≡ with_name name (names_model old)
name_added name old new u l =
    same_names _ _ _ _ l (λ q. btree_map_updates_str name old new (Some (btree_map_len old)) u q)
