-- What small lists of commands bind.
use Rattle.std.specs.Prelude.{◌≡◌, ℕ, List, [], ◌∷◌, length, refl}
use Rattle.std.proofs.Common.{arith, ap}
use Rattle.std.specs.Str.{chars}
use Rattle.unicode_ident.proofs.Computing.{unicode_ident}
use Rattle.mbe_semantics.specs.Examples.LogExamples.{LogExamples, DefaultExamples, entries}
use Rattle.mbe_semantics.specs.Bindings.Account.{Entry, HasOneListMore}

four_not : HasOneListMore [] (entries 4 ∷ []) → ⊥
four_not h =
    let l : length (entries 4) ≡ length h.0 = ap (λ x. length (first_of_lists x)) h.2 in
    let m = h.1 in
    omega (arith, l, m)
  where
    first_of_lists : List (List Entry) → List Entry
    first_of_lists [] = []
    first_of_lists (es ∷ more) = es

pub log_examples : LogExamples
log_examples = record {
  three_entries = (_, omega arith, refl);
  four_entries = four_not;
  filled = refl;
  kept = refl;
  replaced = refl;
  following = refl;
  nested = refl;
  alike = refl;
}

pub default_examples : DefaultExamples
unfolding unicode_ident chars
default_examples = record {
  tree = refl;
  visibility = refl;
  type = refl;
  lifetime = refl;
  wanted = refl;
  counted = refl;
  number = refl;
  digit = refl;
  nothing = refl;
  underscore = refl;
}
