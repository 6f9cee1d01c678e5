-- The trees after a group at the front, by what is known of the group.
use Rattle.std.proofs.Common.{◌≡◌, Bool, true, false, Some, None, Ok, Err, refl, sym, ap, ◌∙◌}
use Rattle.std.proofs.lemmas.Option.{same_Some}
use Rattle.std.specs.Prelude.{if◌then◌else◌}
use Rattle.mbe_tt.specs.Trees.Leaf.{Leaf}
use Rattle.mbe_tt.specs.Trees.Tree.{Forest, Tree, Leaf_tree, Group_tree, none, leaf, group, front_group, rest_of}
use Rattle.mbe_tt.specs.declared.tt.Delimiter.{Delimiter}
use Rattle.mbe_grammar.specs.Tables.Terminals.{ParseResult, after_one, or_no_match}
use Rattle.mbe_grammar.specs.declared.tables.parse_result.ParseFailure.TheVariants.{NoMatch}

result_if : Bool → Forest → ParseResult
result_if b rest = or_no_match (if b then Some rest else None)

taken_if : (b : Bool) (rest : Forest) → b ≡ true → Ok rest ≡ result_if b rest
unfolding result_if
taken_if b rest e = ap (λ x. or_no_match (if x then Some rest else None)) (sym e)

refused_if : (b : Bool) (rest : Forest) → b ≡ false → Err NoMatch ≡ result_if b rest
unfolding result_if
refused_if b rest e = ap (λ x. or_no_match (if x then Some rest else None)) (sym e)

-- the group and its content
same_group : (p q : Delimiter × Forest) → Some p ≡ Some q → Group_tree p.0 p.1 ≡ Group_tree q.0 q.1
same_group p q same = ap (λ (x : Delimiter × Forest). Group_tree x.0 x.1) (same_Some p q same)

-- a group that passes the test
pub group_taken : (test : Tree → Bool) (f rest : Forest) (p : Delimiter × Forest)
    → Some p ≡ front_group f → rest ≡ rest_of f → test (Group_tree p.0 p.1) ≡ true
    → Ok rest ≡ or_no_match (after_one test f)
unfolding result_if
group_taken test none rest p is r t = cc
group_taken test (leaf l more) rest p is r t = cc
group_taken test (group e held more) rest p is r t =
    let q : Delimiter × Forest = (e, held) in
    ap Ok r ∙ taken_if (test (Group_tree e held)) more (ap test (sym (same_group p q is)) ∙ t)

-- a group that doesn't
pub group_refused : (test : Tree → Bool) (f : Forest) (p : Delimiter × Forest)
    → Some p ≡ front_group f → test (Group_tree p.0 p.1) ≡ false
    → Err NoMatch ≡ or_no_match (after_one test f)
unfolding result_if
group_refused test none p is t = cc
group_refused test (leaf l more) p is t = cc
group_refused test (group e held more) p is t =
    let q : Delimiter × Forest = (e, held) in
    refused_if (test (Group_tree e held)) more (ap test (sym (same_group p q is)) ∙ t)

-- no group, where no leaf passes the test
pub no_group : (test : Tree → Bool) (f : Forest) → ((l : Leaf) → test (Leaf_tree l) ≡ false)
    → None ≡ front_group f → Err NoMatch ≡ or_no_match (after_one test f)
unfolding result_if
no_group test none leaves is = refl
no_group test (leaf l more) leaves is = refused_if (test (Leaf_tree l)) more (leaves l)
no_group test (group e held more) leaves is = cc
