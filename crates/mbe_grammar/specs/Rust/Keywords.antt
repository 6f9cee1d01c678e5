-- The keywords of Rust, strict and reserved, each with the first edition that has it.
use Rattle.std.specs.Prelude.{ℕ, List, [], ◌∷◌, ◌++◌, map, codes}
use Rattle.mbe_tt.specs.declared.span.Edition.{Edition}
use Rattle.mbe_tt.specs.declared.span.Edition.TheVariants.{Edition2015, Edition2018, Edition2024}
use Rattle.mbe_grammar.specs.declared.tables.node.Keyword.{Keyword}

-- a text, and the first edition in which it is a keyword
abbrev pub Row : Type 0
Row = List ℕ × Edition

abbrev pub since : Edition → List (List ℕ) → List Row
since edition texts = map (λ text. (text, edition)) texts

abbrev pub strict : List (List ℕ)
strict =
    codes "as" ∷ codes "break" ∷ codes "const" ∷ codes "continue" ∷ codes "crate" ∷ codes "else"
    ∷ codes "enum"
    ∷ codes "extern"
    ∷ codes "false" ∷ codes "fn" ∷ codes "for" ∷ codes "if" ∷ codes "impl" ∷ codes "in"
    ∷ codes "let" ∷ codes "loop"
    ∷ codes "match" ∷ codes "mod" ∷ codes "move" ∷ codes "mut" ∷ codes "pub" ∷ codes "ref"
    ∷ codes "return"
    ∷ codes "self"
    ∷ codes "Self" ∷ codes "static" ∷ codes "struct" ∷ codes "super" ∷ codes "trait" ∷ codes "true"
    ∷ codes "type"
    ∷ codes "unsafe"
    ∷ codes "use" ∷ codes "where" ∷ codes "while"
    ∷ []

abbrev pub reserved : List (List ℕ)
reserved =
    codes "abstract" ∷ codes "become" ∷ codes "box" ∷ codes "do" ∷ codes "final" ∷ codes "macro"
    ∷ codes "override"
    ∷ codes "priv"
    ∷ codes "typeof" ∷ codes "unsized" ∷ codes "virtual" ∷ codes "yield"
    ∷ []

abbrev pub rust_keywords : List Row
rust_keywords =
    since Edition2015 (strict ++ reserved)
    ++ since Edition2018 (codes "async" ∷ codes "await" ∷ codes "dyn" ∷ codes "try" ∷ [])
    ++ since Edition2024 (codes "gen" ∷ [])

-- the rows of a table's keywords
abbrev pub rows : List Keyword → List Row
rows keywords = map (λ k. (k.text.now, k.since)) keywords
