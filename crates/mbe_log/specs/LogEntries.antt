-- How contracts see the lists of a log, independent of memory.
use Rattle.std.specs.Prelude.{◌≡◌, ◌⊎◌, ℕ, zero, suc, List, [], ◌∷◌, ◌++◌, map, Option, Some, None}
use Rattle.std.specs.Prelude.{refl}
use Rattle.std.proofs.Common.{inl, inr}
use Rattle.std.specs.Coded.{Coded, code_by, coded_ℕ, coded×, coded⊎, coded_list}
use Rattle.mbe_tt.specs.Trees.Tree.{Forest}
use Rattle.mbe_tt.specs.Views.BufferEntries.{forest_code}
use Rattle.mbe_semantics.specs.declared.list_prefix.ListPrefix.{ListPrefix}
use Rattle.mbe_semantics.specs.declared.fragment_kinds.MetaVarKind.{MetaVarKind}
use Rattle.mbe_semantics.specs.contracts.fragment_kinds.MetaVarKind as k
use Rattle.mbe_log.specs.declared.log.Command as code
use Rattle.mbe_log.specs.Chain.{Chain, part_code}
use Rattle.mbe_semantics.specs.Syntax.Op.{Name}
use Rattle.mbe_semantics.specs.Fragments.Kinds.{Style, plain, stripped, as_expression, as_path}
use Rattle.mbe_semantics.specs.Fragments.Kinds.{whole}
use Rattle.mbe_semantics.specs.Readings.Item.{Fragment}
use Rattle.mbe_semantics.specs.Bindings.Account.{Entry, RoundEntry, Log, Handle}
use Rattle.mbe_log.specs.FragmentViews.{fragment_seen}

-- ---- views

abbrev pub entry_seen : {A : Type 0} → code.Command A → Entry
entry_seen (code.TheVariants.Fragment name x) = Entry.binds name (fragment_seen x)
entry_seen (code.TheVariants.Optional name) = Entry.binds_nothing name
entry_seen (code.TheVariants.Empty name) = Entry.skips name
entry_seen (code.TheVariants.Missing name kind) = Entry.misses name kind
entry_seen (code.TheVariants.Nested finished current) = Entry.nests finished current

abbrev pub first_link : Option ListPrefix → List Entry
first_link None = []
first_link (Some p) = Entry.links p ∷ []

abbrev pub first_round_link : Option ListPrefix → List RoundEntry
first_round_link None = []
first_round_link (Some p) = RoundEntry.links p ∷ []

abbrev pub commands_seen : {A : Type 0} → Chain (code.Command A) → List Entry
commands_seen l = first_link l.link ++ map entry_seen l.own

abbrev pub rounds_seen : Chain ListPrefix → List RoundEntry
rounds_seen l = first_round_link l.link ++ map RoundEntry.finishes l.own

abbrev pub log_of : {A : Type 0} → List (Chain (code.Command A)) → List (Chain ListPrefix) → Log
log_of commands rounds =
    record { commands = map commands_seen commands; rounds = map rounds_seen rounds }

-- ---- codes

abbrev pub handle_code : Coded Handle
handle_code =
    code_by (ListPrefix × ListPrefix) (coded× part_code part_code) (λ h. (h.current, h.finished))
    (λ p. record { current = p.0; finished = p.1 }) (λ _. refl)

-- a style as a number, or as the kind that it keeps
abbrev style_row : Style → ℕ ⊎ MetaVarKind
style_row plain = inl 0
style_row stripped = inl 1
style_row as_expression = inl 2
style_row as_path = inl 3
style_row (whole kind) = inr kind

abbrev row_style : ℕ ⊎ MetaVarKind → Style
row_style (inl zero) = plain
row_style (inl (suc zero)) = stripped
row_style (inl (suc (suc zero))) = as_expression
row_style (inl (suc (suc (suc n)))) = as_path
row_style (inr kind) = whole kind

pub style_row_style : (s : Style) → row_style (style_row s) ≡ s
style_row_style plain = refl
style_row_style stripped = refl
style_row_style as_expression = refl
style_row_style as_path = refl
style_row_style (whole kind) = refl

abbrev fragment_code : Coded Fragment
fragment_code =
    code_by (Forest × Style) (coded× forest_code
    (code_by (ℕ ⊎ MetaVarKind) (coded⊎ coded_ℕ k.the_row.coded) style_row row_style
    style_row_style))
    (λ x. (x.trees, x.style)) (λ p. record { trees = p.0; style = p.1 }) (λ _. refl)

abbrev name_code : Coded Name
name_code = coded_list coded_ℕ

abbrev EntryRow : Type 0
EntryRow =
    (Name × Fragment)
    ⊎ (Name ⊎ (Name ⊎ ((Name × MetaVarKind) ⊎ ((ListPrefix × ListPrefix) ⊎ ListPrefix))))

abbrev entry_row : Entry → EntryRow
entry_row (Entry.binds name x) = inl (name, x)
entry_row (Entry.binds_nothing name) = inr (inl name)
entry_row (Entry.skips name) = inr (inr (inl name))
entry_row (Entry.misses name kind) = inr (inr (inr (inl (name, kind))))
entry_row (Entry.nests finished current) = inr (inr (inr (inr (inl (finished, current)))))
entry_row (Entry.links part) = inr (inr (inr (inr (inr part))))

abbrev row_entry : EntryRow → Entry
row_entry (inl p) = Entry.binds p.0 p.1
row_entry (inr (inl name)) = Entry.binds_nothing name
row_entry (inr (inr (inl name))) = Entry.skips name
row_entry (inr (inr (inr (inl p)))) = Entry.misses p.0 p.1
row_entry (inr (inr (inr (inr (inl p))))) = Entry.nests p.0 p.1
row_entry (inr (inr (inr (inr (inr part))))) = Entry.links part

pub row_entry_row : (e : Entry) → row_entry (entry_row e) ≡ e
row_entry_row (Entry.binds name x) = refl
row_entry_row (Entry.binds_nothing name) = refl
row_entry_row (Entry.skips name) = refl
row_entry_row (Entry.misses name kind) = refl
row_entry_row (Entry.nests finished current) = refl
row_entry_row (Entry.links part) = refl

abbrev entry_code : Coded Entry
entry_code =
    code_by EntryRow
    (coded⊎ (coded× name_code fragment_code)
    (coded⊎ name_code (coded⊎ name_code (coded⊎ (coded× name_code k.the_row.coded)
    (coded⊎ (coded× part_code part_code) part_code)))))
    entry_row row_entry row_entry_row

abbrev round_row : RoundEntry → ListPrefix ⊎ ListPrefix
round_row (RoundEntry.finishes part) = inl part
round_row (RoundEntry.links part) = inr part

abbrev row_round : ListPrefix ⊎ ListPrefix → RoundEntry
row_round (inl part) = RoundEntry.finishes part
row_round (inr part) = RoundEntry.links part

pub row_round_row : (e : RoundEntry) → row_round (round_row e) ≡ e
row_round_row (RoundEntry.finishes part) = refl
row_round_row (RoundEntry.links part) = refl

abbrev pub log_code : Coded Log
log_code =
    code_by (List (List Entry) × List (List RoundEntry))
    (coded× (coded_list (coded_list entry_code))
    (coded_list (coded_list (code_by (ListPrefix ⊎ ListPrefix) (coded⊎ part_code part_code)
    round_row row_round
    row_round_row))))
    (λ l. (l.commands, l.rounds)) (λ p. record { commands = p.0; rounds = p.1 }) (λ _. refl)
