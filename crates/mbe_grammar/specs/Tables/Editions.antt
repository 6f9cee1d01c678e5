-- The editions of spans in a table, and the keywords of each edition.
use Rattle.std.specs.Prelude.{ℕ, Bool, ◌&&◌, nat_le, List, Option, Some, None}
use Rattle.std.specs.List.{list_any, slice_get}
use Rattle.std.specs.Str.{bytes_eq}
use Rattle.mbe_tt.specs.declared.span.Edition.{Edition}
use Rattle.mbe_tt.specs.declared.span.Edition.TheVariants.{Edition2015, Edition2018, Edition2021}
use Rattle.mbe_tt.specs.declared.span.Edition.TheVariants.{Edition2024}
use Rattle.mbe_tt.specs.declared.span.SyntaxContext.{SyntaxContext}
use Rattle.mbe_grammar.specs.declared.tables.peg_table.RuleTable.{RuleTable}

abbrev pub year : Edition → ℕ
year Edition2015 = 2015
year Edition2018 = 2018
year Edition2021 = 2021
year Edition2024 = 2024

-- the edition is `since` or a later one
abbrev pub is_since : Edition → Edition → Bool
is_since edition since = nat_le (year since) (year edition)

-- the edition that was found, or the table's own edition
abbrev pub or_own : RuleTable → Option Edition → Edition
or_own table (Some edition) = edition
or_own table None = table.edition

-- the edition of a syntax context: that in the table's list, or the table's own
abbrev pub edition_of : RuleTable → SyntaxContext → Edition
edition_of table context = or_own table (slice_get table.editions.now context.0)

-- the text is a keyword in this edition
abbrev pub is_keyword_in : RuleTable → Edition → List ℕ → Bool
is_keyword_in table edition text =
    list_any (λ k. bytes_eq text k.text.now && is_since edition k.since)
    table.keywords.now
