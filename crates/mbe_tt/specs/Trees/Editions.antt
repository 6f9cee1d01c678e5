-- The order of the editions of Rust.
use Rattle.std.specs.Prelude.{Bool, true, false}
use Rattle.mbe_tt.specs.declared.span.Edition.{Edition}
use Rattle.mbe_tt.specs.declared.span.Edition.TheVariants.{Edition2015, Edition2018, Edition2021}
use Rattle.mbe_tt.specs.declared.span.Edition.TheVariants.{Edition2024}

-- the edition is 2021 or later
abbrev pub at_least_2021 : Edition → Bool
at_least_2021 Edition2015 = false
at_least_2021 Edition2018 = false
at_least_2021 Edition2021 = true
at_least_2021 Edition2024 = true

-- the edition is 2024 or later
abbrev pub at_least_2024 : Edition → Bool
at_least_2024 Edition2015 = false
at_least_2024 Edition2018 = false
at_least_2024 Edition2021 = false
at_least_2024 Edition2024 = true
