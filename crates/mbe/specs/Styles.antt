-- Sets of styles of macro calls, as their bits (rust-analyzer's numbers).
use Rattle.std.specs.Prelude.{◌≡◌, ◌≢◌, ◌<◌, ◌≤◌, ◌-◌, ◌%◌, ◌^◌, ◌==◌, ℕ, List, [], ◌∷◌, codes}
use Rattle.std.specs.Int.RustNames.{bit_and, bit_or}
use Rattle.bitflags.specs.Sets.{known_bits}
use Rattle.mbe_semantics.specs.declared.macro_call_style.MacroCallStyle.{MacroCallStyle}
use Rattle.mbe_semantics.specs.declared.macro_call_style.MacroCallStyle.TheVariants.{FnLike, Attr}
use Rattle.mbe_semantics.specs.declared.macro_call_style.MacroCallStyle.TheVariants.{Derive}
use Rattle.mbe.specs.declared.macro_call_style.MacroCallStyles.{MacroCallStyles}

-- the one bit of a style
abbrev pub bit_of : MacroCallStyle → ℕ
bit_of FnLike = 1
bit_of Attr = 2
bit_of Derive = 4

-- the bits of a set
abbrev pub bits_of : MacroCallStyles → ℕ
bits_of styles = styles.0

-- the styles by name, with their bits
abbrev pub style_table : List (List ℕ × ℕ)
style_table = (codes "FN_LIKE", 1) ∷ (codes "ATTR", 2) ∷ (codes "DERIVE", 4) ∷ []

-- the bits of all styles are the low three bits of a number
pub record StyleBits : Type 0 where
  pub all : known_bits style_table ≡ 7
  pub low_three : (bits : ℕ) → bit_and bits (known_bits style_table) ≡ bits % 8
  pub known : (bits : ℕ) → bits < 8 → bit_and bits (known_bits style_table) ≡ bits
  pub unknown : (bits : ℕ) → 8 ≤ bits → bit_and bits (known_bits style_table) ≢ bits
  pub is_all : (bits : ℕ) → (bit_or (known_bits style_table) bits == bits) ≡ (bits % 8 == 7)
  pub complement : (bits : ℕ) → bits < 2 ^ 8 → bit_and (2 ^ 8 - 1 - bits) (known_bits style_table)
      ≡ 7 - bits % 8
