-- A table as a grammar, and the proof that every table is a lawful grammar.
use Rattle.std.specs.Prelude.{◌≡◌, ℕ, ◌+◌, ◌-◌, ◌≤◌, ◌==◌, Bool, true, false, not, ◌&&◌, List, []}
use Rattle.std.specs.Prelude.{◌∷◌, length, Ok, Err, is_ok, refl, min, if◌then◌else◌, Option, Some}
use Rattle.std.specs.Prelude.{None}
use Rattle.std.proofs.Common.{arith, true≢false}
use Rattle.mbe_tt.specs.Trees.Tree.{Forest, flat_len, FlatToken, token, opening, closing}
use Rattle.mbe_tt.specs.Grammars.Grammar.{Grammar, IsLawful}
use Rattle.mbe_tt.specs.declared.tt.Delimiter.{Delimiter}
use Rattle.mbe_tt.specs.declared.grammar.Dialect.{Dialect}
use Rattle.mbe_tt.specs.declared.grammar.Dialect.TheVariants.{RustAnalyzer, Rustc}
use Rattle.mbe_tt.specs.declared.grammar.Front.{Front}
use Rattle.mbe_tt.specs.declared.grammar.PrefixEntryPoint.{PrefixEntryPoint}
use Rattle.mbe_tt.specs.declared.grammar.PrefixEntryPoint.TheVariants as entries
use Rattle.mbe_grammar.specs.Tables.FlatTrees.{open_level, levels, trees_of_flat}
use Rattle.mbe_grammar.specs.Tables.Editions.{is_keyword_in}
use Rattle.mbe_grammar.specs.Tables.Rule.{takes}
use Rattle.mbe_grammar.specs.Tables.Terminals.{ParseResult}
use Rattle.mbe_grammar.specs.declared.tables.peg_table.EntryRules.{EntryRules}
use Rattle.mbe_grammar.specs.declared.tables.peg_table.RuleTable.{RuleTable}
use Rattle.mbe_grammar.specs.declared.tables.peg_table.TheConstants.{DEPTH}

-- the rule of an entry point
abbrev pub entry_rule : EntryRules → PrefixEntryPoint → ℕ
entry_rule s entries.Path = s.path
entry_rule s entries.Expr = s.expr
entry_rule s entries.Ty = s.ty
entry_rule s entries.PatTop = s.pat_top
entry_rule s entries.Pat = s.pat
entry_rule s entries.Stmt = s.stmt
entry_rule s entries.Block = s.block
entry_rule s entries.MetaItem = s.meta
entry_rule s entries.Item = s.item
entry_rule s entries.Vis = s.vis

abbrev pub is_vis : PrefixEntryPoint → Bool
is_vis entries.Vis = true
is_vis _ = false

-- the trees after a fragment
abbrev pub after_fragment : RuleTable → PrefixEntryPoint → Forest → ParseResult
after_fragment t entry f = takes t DEPTH (entry_rule t.starts entry) f

-- How many flat tokens are consumed. A fault has none. Only `vis` may have none without a fault.
abbrev pub front_of : PrefixEntryPoint → Forest → ParseResult → Front
front_of entry f (Ok rest) = record {
  count = flat_len f - flat_len rest;
  fault = (flat_len f - flat_len rest == 0)
      && not (is_vis entry);
}
front_of entry f (Err miss) = record { count = 0; fault = true }

-- in rust-analyzer's dialect
abbrev pub open_answer : RuleTable → PrefixEntryPoint → Forest → Front
open_answer t entry f = front_of entry f (after_fragment t entry f)

-- a fault has one token
abbrev pub with_one : Forest → Front → Front
with_one f x = if x.fault then record { count = min (flat_len f) 1; fault = true } else x

-- a fragment may begin with the first tree
abbrev pub may_begin : Option EntryRules → RuleTable → PrefixEntryPoint → Forest → Bool
may_begin None t entry f = true
may_begin (Some begins) t entry f = is_ok (takes t DEPTH (entry_rule begins entry) f)

-- none, if the fragment doesn't begin
abbrev pub if_begun : Bool → Forest → Front → Front
if_begun true f x = with_one f x
if_begun false f x = record { count = 0; fault = true }

-- in rustc's dialect: a fault has one token where the fragment begins, and else none
abbrev pub committed_answer : RuleTable → PrefixEntryPoint → Forest → Front
committed_answer t entry f =
    if_begun (may_begin t.begins t entry f) f (open_answer t entry f)

abbrev pub answer_in : Dialect → RuleTable → PrefixEntryPoint → Forest → Front
answer_in RustAnalyzer t entry f = open_answer t entry f
answer_in Rustc t entry f = committed_answer t entry f

abbrev pub answer : RuleTable → PrefixEntryPoint → Forest → Front
answer t entry f = answer_in t.dialect t entry f

-- the table as a function of flat tokens
abbrev pub grammar_of : RuleTable → Grammar
grammar_of t = record {
  parse = λ entry tokens. answer t entry (trees_of_flat tokens);
  is_keyword = is_keyword_in t t.edition;
  dialect = t.dialect;
}

-- ---- laws

-- the flat tokens of all levels, and one closing for each
abbrev sizes : List Forest → ℕ
sizes [] = 0
sizes (f ∷ fs) = 1 + flat_len f + sizes fs

opened : (d : Delimiter) (inside : Forest) (around : List Forest)
    → flat_len (open_level d inside around).level + sizes (open_level d inside around).around
    ≤ 1 + flat_len inside + sizes around
opened d inside [] = omega arith
opened d inside (rest ∷ more) = omega arith

within_levels : (ts : List FlatToken)
    → flat_len (levels ts).level + sizes (levels ts).around ≤ length ts
within_levels [] = omega arith
within_levels (token l ∷ ts) = omega (arith, within_levels ts)
within_levels (opening d ∷ ts) =
    omega (arith, within_levels ts, opened d (levels ts).level (levels ts).around)
within_levels (closing d ∷ ts) = omega (arith, within_levels ts)

pub flat_len-trees_of_flat : (ts : List FlatToken) → flat_len (trees_of_flat ts) ≤ length ts
flat_len-trees_of_flat ts = omega (arith, within_levels ts)

count_within : (entry : PrefixEntryPoint) (f : Forest) (s : ParseResult) (n : ℕ) → flat_len f ≤ n
    → (front_of entry f s).count ≤ n
count_within entry f (Ok rest) n h = omega arith
count_within entry f (Err miss) n h = omega arith

nothing : (n : ℕ) → (n == 0) && true ≡ false → n ≡ 0 → ⊥
nothing n e c = true≢false (rw c at e)

no_nothing : (entry : PrefixEntryPoint) (f : Forest) (s : ParseResult) → is_vis entry ≡ false
    → (front_of entry f s).fault ≡ false
    → (front_of entry f s).count ≡ 0 → ⊥
no_nothing entry f (Ok rest) v e c = nothing (flat_len f - flat_len rest) (rw v at e) c
no_nothing entry f (Err miss) v e c = true≢false e

-- the laws of one answer
pub record IsLawfulFront (entry : PrefixEntryPoint) (n : ℕ) (x : Front) : Type 0 where
  pub within : x.count ≤ n
  pub vis : x.fault ≡ false → x.count ≡ 0 → entry ≡ entries.Vis

vis_alone : (entry : PrefixEntryPoint) (f : Forest) (s : ParseResult) → (front_of entry f s).fault
    ≡ false
    → (front_of entry f s).count ≡ 0
    → entry ≡ entries.Vis
vis_alone entries.Vis f s e c = refl
vis_alone entry f s e c = absurd (no_nothing entry f s refl e c)

lawful_open : (t : RuleTable) (entry : PrefixEntryPoint) (f : Forest) (n : ℕ) → flat_len f ≤ n
    → IsLawfulFront entry n (open_answer t entry f)
lawful_open t entry f n h = record {
  within = count_within entry f (after_fragment t entry f) n h;
  vis = vis_alone entry f (after_fragment t entry f);
}

lawful_fault : (entry : PrefixEntryPoint) (n count : ℕ) → count ≤ n
    → IsLawfulFront entry n (record { count = count; fault = true })
lawful_fault entry n count h = record { within = h; vis = λ e c. absurd (true≢false e) }

lawful_with_one : (entry : PrefixEntryPoint) (f : Forest) (n : ℕ) (x : Front) → flat_len f ≤ n
    → IsLawfulFront entry n x → (b : Bool)
    → IsLawfulFront entry n (if b then record { count = min (flat_len f) 1; fault = true } else x)
lawful_with_one entry f n x h k true = lawful_fault entry n (min (flat_len f) 1) (omega arith)
lawful_with_one entry f n x h k false = k

lawful_begun : (entry : PrefixEntryPoint) (f : Forest) (n : ℕ) (x : Front) (b : Bool)
    → flat_len f ≤ n → IsLawfulFront entry n x → IsLawfulFront entry n (if_begun b f x)
lawful_begun entry f n x true h k = lawful_with_one entry f n x h k x.fault
lawful_begun entry f n x false h k = lawful_fault entry n 0 (omega arith)

lawful_answer : (d : Dialect) (t : RuleTable) (entry : PrefixEntryPoint) (f : Forest) (n : ℕ)
    → flat_len f ≤ n → IsLawfulFront entry n (answer_in d t entry f)
lawful_answer RustAnalyzer t entry f n h = lawful_open t entry f n h
lawful_answer Rustc t entry f n h =
    lawful_begun entry f n (open_answer t entry f) (may_begin t.begins t entry f) h
    (lawful_open t entry f n h)

-- Every table counts at most as many tokens as there are. Only `vis` may have none without a fault.
pub lawful_of : (t : RuleTable) → IsLawful (grammar_of t)
lawful_of t = record {
  within = λ entry tokens. (lawful_answer t.dialect t entry (trees_of_flat tokens) (length tokens)
      (flat_len-trees_of_flat tokens)).within;
  nothing_for_vis = λ entry tokens. (lawful_answer t.dialect t entry (trees_of_flat tokens)
      (length tokens) (flat_len-trees_of_flat tokens)).vis;
}
