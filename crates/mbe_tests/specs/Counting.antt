-- A grammar that counts a fixed number of tokens, whatever they are.
use Rattle.std.specs.Prelude.{◌≡◌, ℕ, Bool, true, false, ◌||◌, ◌&&◌, ◌==◌, min, if◌then◌else◌}
use Rattle.std.specs.Prelude.{length, refl}
use Rattle.std.proofs.Common.{arith, ap, sym, ◌∙◌, true≢false}
use Rattle.mbe_tt.specs.declared.grammar.Dialect.TheVariants.{RustAnalyzer}
use Rattle.mbe_tt.specs.Grammars.Grammar.{Grammar, IsLawful}
use Rattle.mbe_tt.specs.declared.grammar.PrefixEntryPoint.{PrefixEntryPoint}
use Rattle.mbe_tt.specs.declared.grammar.PrefixEntryPoint.TheVariants.{Vis}

-- Whether nothing may be counted without a fault.
abbrev pub may_be_empty : PrefixEntryPoint → Bool
may_be_empty Vis = true
may_be_empty _ = false

-- It counts that many tokens, or all if there are fewer.
abbrev pub counting : ℕ → Bool → Grammar
counting count fault = record {
  parse = λ entry tokens. (let n = min count (length tokens) in
      record {
        count = n;
        fault = fault
            || ((n == 0) && (if may_be_empty entry then false else true));
      });
  is_keyword = λ text. false;
  dialect = RustAnalyzer;
}

empty : (fault : Bool) (entry : PrefixEntryPoint) (n : ℕ)
    → (fault || ((n == 0) && (if may_be_empty entry then false else true))) ≡ false → n ≡ 0 → entry
    ≡ Vis
empty true entry n f e = absurd (true≢false f)
empty false Vis n f e = refl
empty false entry n f e = absurd (true≢false (sym (ap (λ (m : ℕ). (m == 0) && true) e) ∙ f))

-- The grammar is lawful.
pub counting_lawful : (count : ℕ) (fault : Bool) → IsLawful (counting count fault)
counting_lawful count fault = record {
  within = λ entry tokens. omega arith;
  nothing_for_vis = λ entry tokens. empty fault entry (min count (length tokens));
}
