-- The texts that name values of options.
use Rattle.std.specs.Prelude.{ℕ, List, Option, Some, None, codes, if◌then◌else◌, bytes_eq}
use Rattle.mbe_tt.specs.declared.grammar.Dialect.{Dialect}
use Rattle.mbe_tt.specs.declared.grammar.Dialect.TheVariants.{RustAnalyzer, Rustc}
use Rattle.mbe_tt.specs.declared.span.Edition.{Edition}
use Rattle.mbe_tt.specs.declared.span.Edition.TheVariants.{Edition2015, Edition2018, Edition2021}
use Rattle.mbe_tt.specs.declared.span.Edition.TheVariants.{Edition2024}
use Rattle.mbe_cfg.specs.declared.targets.Target.{Target}
use Rattle.mbe_cfg.specs.declared.targets.Target.TheVariants as t

-- The edition that a text names.
abbrev pub edition_of : List ℕ → Option Edition
edition_of argument =
    if bytes_eq argument (codes "2015") then Some Edition2015
    else if bytes_eq argument (codes "2018") then Some Edition2018
    else if bytes_eq argument (codes "2021") then Some Edition2021
    else if bytes_eq argument (codes "2024") then Some Edition2024
    else None

-- The dialect of that name.
abbrev pub dialect_of : List ℕ → Option Dialect
dialect_of argument =
    if bytes_eq argument (codes "rust-analyzer") then Some RustAnalyzer
    else if bytes_eq argument (codes "rustc") then Some Rustc
    else None

-- The target with that triple.
abbrev pub target_of : List ℕ → Option Target
target_of argument =
    if bytes_eq argument (codes "x86_64-unknown-linux-gnu") then Some t.X86_64Linux
    else if bytes_eq argument (codes "x86_64-pc-windows-msvc") then Some t.X86_64Windows
    else if bytes_eq argument (codes "x86_64-apple-darwin") then Some t.X86_64Mac
    else if bytes_eq argument (codes "aarch64-apple-darwin") then Some t.Aarch64Mac
    else if bytes_eq argument (codes "wasm32-unknown-unknown") then Some t.Wasm32
    else None
