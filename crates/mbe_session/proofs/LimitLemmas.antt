-- The numbers that std reads are those of the definition, and the first limit among trees.
use Rattle.std.specs.Prelude.{◌+◌, ◌<◌, zero, suc}
use Rattle.std.specs.Prelude.{◌≡◌, ◌^◌, ℕ, Bool, true, false, if◌then◌else◌, nat_lt, List, length}
use Rattle.std.specs.Prelude.{Option, Some, None, Result, Ok, Err, refl}
use Rattle.std.proofs.Common.{ap, sym, ◌∙◌, arith}
use Rattle.std.proofs.lemmas.Bool.{false≢true}
use Rattle.std.proofs.lemmas.Bool.Decides.{Decides-and, Decides-ltb}
use Rattle.std.proofs.lemmas.Str.Parse.{IsNumeralModel, numerals_by_value, tells_all_ascii_digits}
use Rattle.std.specs.Bool.{Decides}
use Rattle.std.specs.Option.{option_or}
use Rattle.std.specs.Result.{OkIff, result_ok}
use Rattle.std.specs.Str.{all_ascii_digits}
use Rattle.std.specs.Str.Parse.{AllDigits, ParsesUnsigned, digits_value, without_leading_plus}
use Rattle.mbe_tt.specs.Trees.Tree.{Forest, none, leaf, group, first, rest_of}
use Rattle.mbe_tt.proofs.Trees.Firsts.{nothing}
use Rattle.mbe_session.specs.RecursionLimit.{number_of, limit_at, recursion_limit, limit_at_index, first_limit}
use Rattle.mbe_session.specs.Sources.{Source}

-- ---- numbers

read_if : {E : Type 0} {P : Type 0} (r : Result ℕ E) (b : Bool) (v : ℕ) → Decides b P → OkIff r P v
    → result_ok r ≡ (if b then Some v else None)
read_if (Ok n) true v d h = ap Some h.1
read_if (Ok n) false v d h = absurd (false≢true (d.1 h.0))
read_if (Err e) true v d h = absurd (h (d.0 refl))
read_if (Err e) false v d h = refl

digits_model : IsNumeralModel (λ ds. all_ascii_digits ds ≡ true) (digits_value 10)
digits_model = numerals_by_value _ tells_all_ascii_digits

all_digits : (ds : List ℕ) → Decides (all_ascii_digits ds) (AllDigits 10 ds)
all_digits ds = (digits_model.to ds, digits_model.from ds)

pub reads_number : {E : Type 0} (text : List ℕ) (r : Result ℕ E) → ParsesUnsigned 32 10 text r
    → result_ok r ≡ number_of text
reads_number text r h =
    let ds = without_leading_plus text in
    read_if r _ (digits_value 10 ds) (Decides-and _ _ (Decides-and _ _ (Decides-ltb 0 (length ds)) (all_digits ds))
    (Decides-ltb (digits_value 10 ds) (2 ^ 32))) h

-- ---- the last limit

left_none : (a : Option ℕ) → option_or a None ≡ a
left_none None = refl
left_none (Some n) = refl

limit_by : (f : Forest) → recursion_limit f ≡ option_or (recursion_limit (rest_of f)) (limit_at f)
unfolding recursion_limit
limit_by none = refl
limit_by (leaf l rest) = refl
limit_by (group d inside rest) = sym (left_none (recursion_limit rest))

later_first : (a b c : Option ℕ) → option_or a (option_or b c) ≡ option_or (option_or a b) c
later_first None b c = refl
later_first (Some n) b c = refl

-- what is found up to the front, and what is found later
pub limit_further : (f rest : Forest) (found here : Option ℕ) → here ≡ option_or (limit_at f) found → rest ≡ rest_of f
    → option_or (recursion_limit rest) here ≡ option_or (recursion_limit f) found
limit_further f rest found here e is =
    ap (option_or (recursion_limit rest)) e ∙ ap (λ r. option_or (recursion_limit r) (option_or (limit_at f) found)) is
    ∙ later_first (recursion_limit (rest_of f)) (limit_at f) found
    ∙ ap (λ o. option_or o found) (sym (limit_by f))

pub limit_last : (f : Forest) (found here : Option ℕ) → here ≡ option_or (limit_at f) found → None ≡ first f
    → here ≡ option_or (recursion_limit f) found
unfolding recursion_limit
limit_last f found here e none_left =
    e ∙ ap (λ g. option_or (limit_at g) found) (nothing f (sym none_left))
    ∙ sym (ap (λ g. option_or (recursion_limit g) found) (nothing f (sym none_left)))

-- ---- files

pub file_here : (limit count index : ℕ) (files : List Source) → 0 < count → limit_at_index index files ≡ Some limit
    → Some limit ≡ first_limit count index files
unfolding first_limit
file_here limit zero index files some e = absurd (omega (arith, some))
file_here limit (suc count) index files some e = sym (ap (λ o. option_or o (first_limit count (index + 1) files)) e)

pub file_further : (count left index : ℕ) (files : List Source) → count ≡ left + 1 → limit_at_index index files ≡ None
    → first_limit left (index + 1) files ≡ first_limit count index files
unfolding first_limit
file_further zero left index files more e = absurd (omega (arith, more))
file_further (suc count) left index files more e =
    let same : left ≡ count = omega (arith, more) in
    ap (λ k. first_limit k (index + 1) files) same
    ∙ sym (ap (λ o. option_or o (first_limit count (index + 1) files)) e)

pub no_file_left : (count index : ℕ) (files : List Source) → count ≡ 0 → None ≡ first_limit count index files
unfolding first_limit
no_file_left zero index files e = refl
no_file_left (suc count) index files e = absurd (omega (arith, e))
