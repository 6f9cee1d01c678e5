-- The bits of all styles, and what a union of styles has of them.
use Rattle.std.specs.Prelude.{◌≡◌, ◌≢◌, ◌+◌, ◌-◌, ◌%◌, ◌^◌, ◌==◌, ◌||◌, ℕ, Bool, true, false, if◌then◌else◌, List, []}
use Rattle.std.specs.Prelude.{◌∷◌, ◌++◌, refl}
use Rattle.std.specs.List.{list_any}
use Rattle.std.specs.Int.RustNames.{bit_and, bit_or}
use Rattle.std.proofs.Common.{ap, sym, ◌∙◌, arith}
use Rattle.std.proofs.lemmas.Nat.{and_mask, and_comm}
use Rattle.std.specs.Int.Bits.{or_add_and}
use Rattle.std.proofs.lemmas.Bool.Decides.{nat_tests}
use Rattle.bitflags.specs.Sets.{known_bits}
use Rattle.bitflags.proofs.OnLiterals.{bitflags_on_literals}
use Rattle.std.proofs.lemmas.List.Folds.{list_any-append}
use Rattle.mbe_semantics.specs.declared.macro_call_style.MacroCallStyle.{MacroCallStyle}
use Rattle.mbe_semantics.specs.declared.macro_call_style.MacroCallStyle.TheVariants.{FnLike, Attr, Derive}
use Rattle.mbe_semantics.specs.Syntax.Definition.{Rule}
use Rattle.mbe_semantics.specs.Expansion.Macro.{is_fn_like, is_attr, is_derive, style_bits as bits_of_rules}
use Rattle.mbe.specs.Styles.{bit_of, style_table, StyleBits}

known_is_7 : known_bits style_table ≡ 7
unfolding bitflags_on_literals
known_is_7 = refl

known_three : (bits : ℕ) → bit_and bits (known_bits style_table) ≡ bits % 8
known_three bits = ap (bit_and bits) known_is_7 ∙ and_mask bits 3

seven_or : (bits : ℕ) → bit_or 7 bits + bits % 8 ≡ 7 + bits
seven_or bits = let h = and_comm 7 bits ∙ and_mask bits 3 in let k = or_add_and 7 bits in omega arith

same_test : (a b c d : ℕ) → a + c ≡ d + b → (a == b) ≡ (c == d)
same_test a b c d h = grind (arith, nat_tests)

pub style_bits : StyleBits
style_bits = record {
  all = known_is_7;
  low_three = known_three;
  known = λ bits h. let e = known_three bits in omega arith;
  unknown = λ bits h e. let k = known_three bits in omega arith;
  is_all = λ bits. ap (λ n. bit_or n bits == bits) known_is_7
      ∙ same_test (bit_or 7 bits) bits (bits % 8) 7 (seven_or bits);
  complement = λ bits h. let k = known_three (2 ^ 8 - 1 - bits) in omega arith;
}

-- ---- the styles of rules

-- the bits that stand for three tests
abbrev bits_by : Bool → Bool → Bool → ℕ
bits_by f a d = (if f then 1 else 0) + (if a then 2 else 0) + (if d then 4 else 0)

-- the bits of the rules' styles
abbrev pub styles_of : List Rule → ℕ
styles_of rs = bits_by (list_any is_fn_like rs) (list_any is_attr rs) (list_any is_derive rs)

fn_like_more : (f a d : Bool) → bit_or (bits_by f a d) 1
    ≡ bits_by (f || (true || false)) (a || (false || false)) (d || (false || false))
fn_like_more true true true = refl
fn_like_more true true false = refl
fn_like_more true false true = refl
fn_like_more true false false = refl
fn_like_more false true true = refl
fn_like_more false true false = refl
fn_like_more false false true = refl
fn_like_more false false false = refl

attr_more : (f a d : Bool) → bit_or (bits_by f a d) 2
    ≡ bits_by (f || (false || false)) (a || (true || false)) (d || (false || false))
attr_more true true true = refl
attr_more true true false = refl
attr_more true false true = refl
attr_more true false false = refl
attr_more false true true = refl
attr_more false true false = refl
attr_more false false true = refl
attr_more false false false = refl

derive_more : (f a d : Bool) → bit_or (bits_by f a d) 4
    ≡ bits_by (f || (false || false)) (a || (false || false)) (d || (true || false))
derive_more true true true = refl
derive_more true true false = refl
derive_more true false true = refl
derive_more true false false = refl
derive_more false true true = refl
derive_more false true false = refl
derive_more false false true = refl
derive_more false false false = refl

style_more : (f a d : Bool) (r : Rule) (s : MacroCallStyle) → r.style ≡ s
    → bit_or (bits_by f a d) (bit_of s) ≡ bits_by (f || (is_fn_like r || false)) (a || (is_attr r || false))
    (d || (is_derive r || false))
style_more f a d r FnLike e = rw e (fn_like_more f a d)
style_more f a d r Attr e = rw e (attr_more f a d)
style_more f a d r Derive e = rw e (derive_more f a d)

-- one rule more
pub styles_push : (rs : List Rule) (r : Rule) → bit_or (styles_of rs) (bit_of r.style) ≡ styles_of (rs ++ r ∷ [])
styles_push rs r =
    let f = list_any-append is_fn_like rs (r ∷ []) in
    let a = list_any-append is_attr rs (r ∷ []) in
    let d = list_any-append is_derive rs (r ∷ []) in
    style_more (list_any is_fn_like rs) (list_any is_attr rs) (list_any is_derive rs) r r.style refl
    ∙ sym (λ i. bits_by (f i) (a i) (d i))

-- all rules, where there are some
pub styles_whole : (rs : List Rule) → rs ≢ [] → styles_of rs ≡ bits_of_rules rs
styles_whole [] n = absurd (n refl)
styles_whole (r ∷ rs) n = refl
