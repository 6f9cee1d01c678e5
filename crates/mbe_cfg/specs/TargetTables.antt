-- The options of targets. `tools/rustc/cfg-tables.py` compares them with rustc.
use Prim.Native.String.{String}
use Rattle.std.specs.Prelude.{ℕ, List, [], ◌∷◌, ◌++◌, codes, map, Option, Some, None}

-- A name, and its value if it has one.
abbrev pub Row : Type 0
Row = List ℕ × Option (List ℕ)

abbrev name : String → Row
name text = (codes text, None)

abbrev pair : String → String → Row
pair text value = (codes text, Some (codes value))

-- A name with each of its values.
abbrev pairs : List (String × List String) → List Row
pairs [] = []
pairs (named ∷ more) = map (pair named.0) named.1 ++ pairs more

abbrev table : List String → List (String × List String) → List Row
table names named = map name names ++ pairs named

abbrev pub x86_64_linux : List Row
x86_64_linux =
    table ("debug_assertions" ∷ "unix" ∷ [])
    (("panic", "unwind" ∷ [])
    ∷ ("target_abi", "" ∷ [])
    ∷ ("target_arch", "x86_64" ∷ [])
    ∷ ("target_endian", "little" ∷ [])
    ∷ ("target_env", "gnu" ∷ [])
    ∷ ("target_family", "unix" ∷ [])
    ∷ ("target_feature", "fxsr" ∷ "sse" ∷ "sse2" ∷ [])
    ∷ ("target_has_atomic", "16" ∷ "32" ∷ "64" ∷ "8" ∷ "ptr" ∷ [])
    ∷ ("target_os", "linux" ∷ [])
    ∷ ("target_pointer_width", "64" ∷ [])
    ∷ ("target_vendor", "unknown" ∷ [])
    ∷ [])

abbrev pub x86_64_windows : List Row
x86_64_windows =
    table ("debug_assertions" ∷ "windows" ∷ [])
    (("panic", "unwind" ∷ [])
    ∷ ("target_abi", "" ∷ [])
    ∷ ("target_arch", "x86_64" ∷ [])
    ∷ ("target_endian", "little" ∷ [])
    ∷ ("target_env", "msvc" ∷ [])
    ∷ ("target_family", "windows" ∷ [])
    ∷ ("target_feature", "cmpxchg16b" ∷ "fxsr" ∷ "sse" ∷ "sse2" ∷ "sse3" ∷ [])
    ∷ ("target_has_atomic", "128" ∷ "16" ∷ "32" ∷ "64" ∷ "8" ∷ "ptr" ∷ [])
    ∷ ("target_os", "windows" ∷ [])
    ∷ ("target_pointer_width", "64" ∷ [])
    ∷ ("target_vendor", "pc" ∷ [])
    ∷ [])

abbrev pub x86_64_mac : List Row
x86_64_mac =
    table ("debug_assertions" ∷ "unix" ∷ [])
    (("panic", "unwind" ∷ [])
    ∷ ("target_abi", "" ∷ [])
    ∷ ("target_arch", "x86_64" ∷ [])
    ∷ ("target_endian", "little" ∷ [])
    ∷ ("target_env", "" ∷ [])
    ∷ ("target_family", "unix" ∷ [])
    ∷ ("target_feature", "cmpxchg16b" ∷ "fxsr" ∷ "sse" ∷ "sse2" ∷ "sse3" ∷ "sse4.1" ∷ "ssse3" ∷ [])
    ∷ ("target_has_atomic", "128" ∷ "16" ∷ "32" ∷ "64" ∷ "8" ∷ "ptr" ∷ [])
    ∷ ("target_os", "macos" ∷ [])
    ∷ ("target_pointer_width", "64" ∷ [])
    ∷ ("target_vendor", "apple" ∷ [])
    ∷ [])

abbrev pub aarch64_mac : List Row
aarch64_mac =
    table ("debug_assertions" ∷ "unix" ∷ [])
    (("panic", "unwind" ∷ [])
    ∷ ("target_abi", "" ∷ [])
    ∷ ("target_arch", "aarch64" ∷ [])
    ∷ ("target_endian", "little" ∷ [])
    ∷ ("target_env", "" ∷ [])
    ∷ ("target_family", "unix" ∷ [])
    ∷ (
      "target_feature",
      "aes" ∷ "crc" ∷ "dit" ∷ "dotprod" ∷ "dpb" ∷ "dpb2" ∷ "fcma" ∷ "fhm" ∷ "flagm" ∷
          "fp16" ∷ "frintts" ∷ "jsconv" ∷ "lor" ∷ "lse" ∷ "neon" ∷ "paca" ∷ "pacg" ∷ "pan" ∷ "pmuv3"
          ∷
          "ras" ∷ "rcpc" ∷ "rcpc2" ∷ "rdm" ∷ "sb" ∷ "sha2" ∷ "sha3" ∷ "ssbs" ∷ "vh" ∷ [],
    )
    ∷ ("target_has_atomic", "128" ∷ "16" ∷ "32" ∷ "64" ∷ "8" ∷ "ptr" ∷ [])
    ∷ ("target_os", "macos" ∷ [])
    ∷ ("target_pointer_width", "64" ∷ [])
    ∷ ("target_vendor", "apple" ∷ [])
    ∷ [])

abbrev pub wasm32 : List Row
wasm32 =
    table ("debug_assertions" ∷ [])
    (("panic", "abort" ∷ [])
    ∷ ("target_abi", "" ∷ [])
    ∷ ("target_arch", "wasm32" ∷ [])
    ∷ ("target_endian", "little" ∷ [])
    ∷ ("target_env", "" ∷ [])
    ∷ ("target_family", "wasm" ∷ [])
    ∷ (
      "target_feature",
      "bulk-memory" ∷ "multivalue" ∷ "mutable-globals" ∷ "nontrapping-fptoint" ∷
          "reference-types" ∷ "sign-ext" ∷ [],
    )
    ∷ ("target_has_atomic", "16" ∷ "32" ∷ "64" ∷ "8" ∷ "ptr" ∷ [])
    ∷ ("target_os", "unknown" ∷ [])
    ∷ ("target_pointer_width", "32" ∷ [])
    ∷ ("target_vendor", "unknown" ∷ [])
    ∷ [])
