-- What the variables of a rule took, step by step.
use Rattle.std.proofs.Common.{ℕ, suc, ◌≡◌, ◌+◌, ◌<◌, Vec, Some, None, List, [], ◌∷◌, length, map, refl, ap, ◌∙◌, arith}
use Rattle.std.proofs.Common.{◌++◌, Ok, Err, sym, append_assoc}
use Rattle.std.specs.Prelude.{Result, OnOk, is_ok, if◌then◌else◌, codes}
use Rattle.mbe_tt.specs.Trees.Tree.{Forest, none}
use Rattle.mbe_tt.specs.Grammars.Grammar.{Grammar}
use Rattle.mbe_semantics.specs.Syntax.Op.{Ops}
use Rattle.mbe_semantics.specs.Syntax.Definition.{Rule}
use Rattle.mbe_semantics.specs.Bindings.Environment.{Environment, Value, list, Values, no_values, value}
use Rattle.mbe_semantics.specs.Transcription.Rounds.{value_count}
use Rattle.mbe_bindings.specs.declared.bindings.Binding.{Binding, Nested}
use Rattle.mbe_bindings.specs.BindingViews.{value_seen, values_seen}
use Rattle.mbe_bindings.proofs.BindingLemmas.{seen-nested}
use Rattle.mbe.specs.RuleExplanation.{BindsThere, HasPattern}
use Rattle.mbe_diagnostics.specs.RuleChecks.Variables.{variables_in}
use Rattle.mbe_text.specs.RustText.Printer.{text_of, written_after}
use Rattle.mbe_session.specs.BindingText.{BindingText, HasBindingTexts, binding_text_of, value_text, values_text}

-- no tokens have no text
pub nothing_written : text_of 0 none ≡ []
unfolding written_after
nothing_written = refl

-- how many values there are, at any depth: a measure
abbrev mutual
  pub value_size : Value → ℕ
  value_size (list vs) = suc (values_size vs)
  value_size _ = 0

  pub values_size : Values → ℕ
  values_size no_values = 0
  values_size (value v vs) = suc (value_size v + values_size vs)

module _ {A : Type 0} where
  -- a round, and those after it, are less than all
  pub round_smaller : (all rest : List (Binding A)) (x : Binding A) → all ≡ x ∷ rest
      → value_size (value_seen x) < values_size (values_seen all)
  round_smaller all rest x e = let same = ap (λ l. values_size (values_seen l)) e in omega arith

  pub rounds_smaller : (all rest : List (Binding A)) (x : Binding A) → all ≡ x ∷ rest
      → values_size (values_seen rest) < values_size (values_seen all)
  rounds_smaller all rest x e = let same = ap (λ l. values_size (values_seen l)) e in omega arith

  -- rounds are less than what they are the rounds of
  pub nested_smaller : (b : Binding A) (rounds : Vec (Binding A) A) (held : List (Binding A)) → b ≡ Nested rounds
      → held ≡ rounds.items → values_size (values_seen held) < value_size (value_seen b)
  nested_smaller b rounds held e h =
      let one = ap value_size (ap value_seen e ∙ seen-nested rounds) in
      let two = ap (λ l. values_size (values_seen l)) h in
      omega arith

  -- the text of rounds, in parentheses
  pub in_parentheses : {X E : Type 0} (r : Result X E) (b : Binding A) (rounds : Vec (Binding A) A)
      (held : List (Binding A)) (old one two now : List ℕ) → b ≡ Nested rounds → held ≡ rounds.items
      → one ≡ old ++ codes "(" → two ≡ one ++ values_text 16 (values_seen held)
      → now ≡ (if is_ok r then two ++ codes ")" else two) → OnOk r (now ≡ old ++ value_text (value_seen b))
  in_parentheses (Ok x) b rounds held old one two now e h first next last =
      let inside = values_text 16 (values_seen held) in
      last ∙ ap (λ t. t ++ codes ")") (next ∙ ap (λ t. t ++ inside) first)
      ∙ append_assoc (old ++ codes "(") inside (codes ")") ∙ append_assoc old (codes "(") (inside ++ codes ")")
      ∙ ap (λ bs. old ++ (codes "(" ++ (values_text 16 (values_seen bs) ++ codes ")"))) h
      ∙ sym (ap (λ v. old ++ value_text v) (ap value_seen e ∙ seen-nested rounds))
  in_parentheses (Err x) b rounds held old one two now e h first next last = tt

  pub count_seen : (rounds : List (Binding A)) → value_count (values_seen rounds) ≡ length rounds
  count_seen [] = refl
  count_seen (x ∷ rounds) = let rest = count_seen rounds in omega arith

-- ---- what a rule's variables took

pub none_taken : (g : Grammar) (rules : List Rule) (argument : Forest) (index : ℕ) (matched : List BindingText)
    → BindsThere g rules argument index None → matched ≡ [] → HasBindingTexts g rules argument index matched
none_taken g rules argument index matched b e = (None, b.0.reads, b, (b.0, b.1, refl), e)

pub some_taken : (g : Grammar) (rules : List Rule) (argument : Forest) (index : ℕ) (matched : List BindingText)
    (env : Environment) (pattern : Ops) → BindsThere g rules argument index (Some env)
    → HasPattern rules index pattern → matched ≡ map (binding_text_of env) (variables_in 0 pattern)
    → HasBindingTexts g rules argument index matched
some_taken g rules argument index matched env pattern b p e = (Some env, pattern, b, p, e)
