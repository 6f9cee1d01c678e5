-- Identifiers that are neither raw nor the front of a literal, and what holds where there is a common token.
use Rattle.std.proofs.Common.{◌≡◌, ℕ, Bool, true, false, ◌&&◌, ◌==◌, if◌then◌else◌, List, [], ◌∷◌, drop, codes, Option}
use Rattle.std.proofs.Common.{Some, None, IfSome, Ok, Err, refl, sym, ap, ◌∙◌, subst}
use Rattle.mbe_tt.specs.declared.tt.IdentIsRaw.TheVariants as raw
use Rattle.mbe_text.specs.declared.characters.CharClass.TheVariants.{IdentStart, IdentContinue}
use Rattle.mbe_text.specs.declared.fault_kind.LexFaultKind.TheVariants as fault_kind
use Rattle.mbe_text.specs.Characters.{begins, begins_with, past, bytes_before}
use Rattle.mbe_text.specs.LexFaults.{fault_at}
use Rattle.mbe_text.specs.Shapes.{ReadResult, identifier}
use Rattle.mbe_text.specs.Identifiers.{past_identifier, begins_literal, begins_raw, read_identifier}

abbrev word_of : ℕ → List ℕ → List ℕ → List ℕ → ReadResult
word_of total cs name rest =
    if begins_literal name rest then Err (fault_at fault_kind.Prefix total cs) else Ok (identifier name raw.No, rest)

word_is : (total : ℕ) (cs : List ℕ) → begins_raw cs ≡ false
    → read_identifier total cs ≡ word_of total cs (bytes_before cs (past_identifier cs)) (past_identifier cs)
word_is total cs e = rw e refl

word_read : (total : ℕ) (cs name rest : List ℕ) → begins_literal name rest ≡ false
    → word_of total cs name rest ≡ Ok (identifier name raw.No, rest)
word_read total cs name rest e = rw e refl

-- an identifier that isn't raw and begins no literal
pub plain_word : (total : ℕ) (cs after rest name : List ℕ) (r l : Bool) → r ≡ begins_with (codes "r#") cs → r ≡ false
    → after ≡ drop 1 cs → rest ≡ past IdentContinue after → name ≡ bytes_before cs rest
    → l ≡ begins_literal name rest → l ≡ false
    → read_identifier total cs ≡ Ok (identifier name raw.No, rest)
plain_word total cs after rest name r l front raw_not first is lifetime_token e f =
    let plain : begins_raw cs ≡ false = ap (λ (b : Bool). b && begins IdentStart (drop 2 cs)) (sym front ∙ raw_not) in
    let end : past_identifier cs ≡ rest = sym (is ∙ ap (past IdentContinue) first) in
    word_is total cs plain
    ∙ (ap (λ (k : List ℕ). word_of total cs (bytes_before cs k) k) end
    ∙ (ap (λ (k : List ℕ). word_of total cs k rest) (sym lifetime_token)
    ∙ word_read total cs name rest (sym e ∙ f)))

-- what begins with another character than that
pub begins_other : (c d : ℕ) (cs rest : List ℕ) → cs ≡ c ∷ rest → (c == d) ≡ false
    → begins_with (d ∷ []) cs ≡ false
begins_other c d cs rest e other = ap (begins_with (d ∷ [])) e ∙ ap (λ (b : Bool). b && true) other

pub any_some : {A P : Type 0} (o : Option A) → P → IfSome o (λ x. P)
any_some None p = tt
any_some (Some x) p = p

pub at_some : {A : Type 0} (P : A → Type 0) (o : Option A) (a : A) → o ≡ Some a → IfSome o P → P a
at_some {A} P o a e h = subst (λ (k : Option A). IfSome k P) e h
