-- The text of a symbol, wherever it is kept.
use Rattle.std.specs.Prelude.{List, ℕ, length, ◌≤◌, ◌<◌}
use Rattle.std.specs.Rc.{rc_str_bytes}
use Rattle.mbe_tt.specs.declared.symbol.SymbolRepr.{SymbolRepr}
use Rattle.mbe_tt.specs.declared.symbol.SymbolRepr.TheVariants.{Inlined, Shared}

-- the bytes of a symbol's text
abbrev pub repr_text : {A : Type 0} → SymbolRepr A → List ℕ
repr_text (Inlined word) = word
repr_text (Shared text) = rc_str_bytes text

-- a text is where a text of its length belongs: a short one in the symbol itself
abbrev pub IsCanonical : {A : Type 0} → SymbolRepr A → Type 0
IsCanonical (Inlined word) = length word ≤ 14
IsCanonical (Shared text) = 14 < length (rc_str_bytes text)
