-- Environments that agree on every name fault alike and substitute alike.
use Rattle.std.specs.Prelude.{◌≡◌, ℕ, zero, suc, Bool, false, not, ◌||◌, if◌then◌else◌, List, [], ◌∷◌, ◌++◌, filter_map}
use Rattle.std.specs.Prelude.{Option, Some, None, option_map, option_and_then, is_none, refl}
use Rattle.std.specs.List.{cons_option}
use Rattle.std.proofs.Common.{ap, ◌∙◌, subst}
use Rattle.mbe_tt.specs.declared.span.Span.{Span}
use Rattle.mbe_tt.specs.declared.tt.Punct.{Punct}
use Rattle.mbe_tt.specs.Grammars.Grammar.{Grammar}
use Rattle.mbe_tt.specs.Trees.Tree.{Forest}
use Rattle.mbe_semantics.specs.declared.fragment_kinds.RepeatKind.{RepeatKind}
use Rattle.mbe_semantics.specs.Syntax.Op as ops
use Rattle.mbe_semantics.specs.Syntax.Op.{Name, Token, Element, ident_element, literal_element, variable_element}
use Rattle.mbe_semantics.specs.Syntax.Op.{Expression, ignore, count, index, len, concat, Use, used_name, uses_of, Op}
use Rattle.mbe_semantics.specs.Syntax.Op.{Ops, no_ops, op}
use Rattle.mbe_semantics.specs.Bindings.Environment.{Value, fragment, list, empty, missing, Environment, value_of}
use Rattle.mbe_semantics.specs.Transcription.Rounds.{Path, follow, reach, followed, Extent, finite, endless, extent_of}
use Rattle.mbe_semantics.specs.Transcription.Rounds.{extent_under, extent_over, kept, kept_rounds, level}
use Rattle.mbe_semantics.specs.Transcription.Concat.{text_of_value, text_of_element, joined_text, if_identifier}
use Rattle.mbe_semantics.specs.Transcription.Concat.{concat_text}
use Rattle.mbe_semantics.specs.Transcription.Substitution.{is_simple, is_counted, variable_faults, expression_faults}
use Rattle.mbe_semantics.specs.Transcription.Substitution.{extent_faults, any_below, any_round, op_faults, faults}
use Rattle.mbe_semantics.specs.Transcription.Substitution.{separator_trees, total_of, integer, AreRounds, AreKeptRounds}
use Rattle.mbe_semantics.specs.Transcription.Substitution.{AreMarkedPuncts, IsMarked, IsVariable, IsConcat}
use Rattle.mbe_semantics.specs.Transcription.Substitution.{IsExpression, Writes, Substitutes}

-- ---- rounds of two sorts

any_below-same : (p q : ℕ → Bool) → ((i : ℕ) → p i ≡ q i) → (n : ℕ) → any_below p n ≡ any_below q n
any_below-same p q h zero = refl
any_below-same p q h (suc n) = ap (λ x. x || p n) (any_below-same p q h n) ∙ ap (λ x. any_below q n || x) (h n)

any_round-same : (p q : ℕ → ℕ → Bool) → ((i n : ℕ) → p i n ≡ q i n) → (e : Extent) → any_round p e ≡ any_round q e
any_round-same p q h endless = refl
any_round-same p q h (finite n) = any_below-same (λ i. p i n) (λ i. q i n) (λ i. h i n) n

rounds-weaker : (separator : Forest) (P Q : ℕ → Forest → Type 0) → ((i : ℕ) (f : Forest) → P i f → Q i f)
    → (n : ℕ) (out : Forest)
    → AreRounds separator P n out → AreRounds separator Q n out
rounds-weaker separator P Q h zero out w = w
rounds-weaker separator P Q h (suc zero) out w = h 0 out w
rounds-weaker separator P Q h (suc (suc n)) out w =
    (w.0, w.1, rounds-weaker separator P Q h (suc n) w.0 w.2, h (suc n) w.1 w.3, w.4)

kept-weaker : (separator : Forest) (P Q : ℕ → ℕ → Forest → Type 0) → ((i n : ℕ) (f : Forest) → P i n f → Q i n f)
    → (e : Extent) (out : Forest)
    → AreKeptRounds separator P e out → AreKeptRounds separator Q e out
kept-weaker separator P Q h endless out w = w
kept-weaker separator P Q h (finite n) out w = rounds-weaker separator (λ i. P i n) (λ i. Q i n) (λ i. h i n) n out w

-- every name has the same value in both
module _ (a b : Environment) (same : (name : Name) → value_of a name ≡ value_of b name) where
  followed-same : (path : Path) (name : Name) → followed a path name ≡ followed b path name
  followed-same path name = ap (option_and_then (follow path)) (same name)

  extent-same : (path : Path) (u : Use) → extent_under a path u ≡ extent_under b path u
  extent-same path u = ap (λ r. option_map (extent_of u) (option_and_then (reach path) r)) (same (used_name u))

  extents-same : (path : Path) (us : List Use)
      → filter_map (extent_under a path) us ≡ filter_map (extent_under b path) us
  extents-same path [] = refl
  extents-same path (u ∷ us) =
      ap (λ r. cons_option r (filter_map (extent_under a path) us)) (extent-same path u)
      ∙ ap (cons_option (extent_under b path u)) (extents-same path us)

  pub kept-same : (repeat : RepeatKind) (path : Path) (body : Ops)
      → kept_rounds repeat a path body ≡ kept_rounds repeat b path body
  kept-same repeat path body = ap (λ es. kept repeat (extent_over es)) (extents-same path (uses_of body))

  -- ---- `concat`

  element-same : (path : Path) (e : Element) → text_of_element a path e ≡ text_of_element b path e
  element-same path (ident_element i) = refl
  element-same path (literal_element l) = refl
  element-same path (variable_element i) = ap (option_and_then text_of_value) (followed-same path i.sym)

  joined-same : (path : Path) (es : List Element) → joined_text a path es ≡ joined_text b path es
  joined-same path [] = refl
  joined-same path (e ∷ es) =
      ap (λ r. option_and_then (λ text. option_map (λ more. text ++ more) r) (text_of_element a path e))
      (joined-same path es)
      ∙ ap (option_and_then (λ text. option_map (λ more. text ++ more) (joined_text b path es))) (element-same path e)

  concat-same : (path : Path) (es : List Element) → concat_text a path es ≡ concat_text b path es
  concat-same path es = ap (option_and_then if_identifier) (joined-same path es)

  -- ---- faults

  variable_faults-same : (path : Path) (name : Name) → variable_faults a path name ≡ variable_faults b path name
  variable_faults-same path name = ap (λ r. if is_none r then false else not
      (is_simple (option_and_then (follow path) r))) (same name)

  expression_faults-same : (path : Path) (e : Expression) → expression_faults a path e ≡ expression_faults b path e
  expression_faults-same path (ignore name span) = ap (λ r. not (is_simple r)) (followed-same path name)
  expression_faults-same path (count name depth) = ap (λ r. not (is_counted depth r)) (followed-same path name)
  expression_faults-same path (index depth) = refl
  expression_faults-same path (len depth) = refl
  expression_faults-same path (concat elements span) = ap is_none (concat-same path elements)

  mutual
    pub op_faults-same : (path : Path) (o : Op) → op_faults a path o ≡ op_faults b path o
    op_faults-same path (ops.token t) = refl
    op_faults-same path (ops.group d body) = faults-same path body
    op_faults-same path (ops.variable name kind span) = variable_faults-same path name
    op_faults-same path (ops.repetition body separator repeat) =
        ap (λ e. extent_faults repeat e || any_round (λ i n. faults a (level i n path) body) e)
        (kept-same repeat path body)
        ∙ ap (λ x. extent_faults repeat (kept_rounds repeat b path body) || x)
        (any_round-same (λ i n. faults a (level i n path) body) (λ i n. faults b (level i n path) body)
        (λ i n. faults-same (level i n path) body) (kept_rounds repeat b path body))
    op_faults-same path (ops.expression e) = expression_faults-same path e

    pub faults-same : (path : Path) (os : Ops) → faults a path os ≡ faults b path os
    faults-same path no_ops = refl
    faults-same path (op o os) = ap (λ x. x || faults a path os) (op_faults-same path o)
        ∙ ap (λ x. op_faults b path o || x) (faults-same path os)

  -- ---- substitution

  module _ (g : Grammar) (Marks : Span → Span → Type 0) (site : Span) where
    puncts-same : (ps : List Punct) (out : Forest) → AreMarkedPuncts g Marks site a ps out
        → AreMarkedPuncts g Marks site b ps out
    puncts-same [] out w = w
    puncts-same (p ∷ ps) out w = (w.0, w.1, w.2, puncts-same ps w.1 w.3, w.4)

    marked-same : (t : Token) (out : Forest) → IsMarked g Marks site a t out → IsMarked g Marks site b t out
    marked-same (ops.literal l) out w = w
    marked-same (ops.ident i) out w = w
    marked-same (ops.puncts ps) out w = puncts-same ps out w

    found-same : (name : Name) (span : Span) (v r : Option Value) (out : Forest)
        → IsVariable g Marks site a name span v r out → IsVariable g Marks site b name span v r out
    found-same name span None r out w = w
    found-same name span (Some v) None out w = w
    found-same name span (Some v) (Some (fragment x)) out w = w
    found-same name span (Some v) (Some (list vs)) out w = w
    found-same name span (Some v) (Some empty) out w = w
    found-same name span (Some v) (Some (missing kind)) out w = w

    variable-same : (path : Path) (name : Name) (span : Span) (out : Forest)
        → IsVariable g Marks site a name span (value_of a name) (followed a path name) out
        → IsVariable g Marks site b name span (value_of b name) (followed b path name) out
    variable-same path name span out w =
        subst (λ r. IsVariable g Marks site b name span r (option_and_then (follow path) r) out) (same name)
        (found-same name span (value_of a name) (followed a path name) out w)

    text-same : (span : Span) (r : Option (List ℕ)) (out : Forest) → IsConcat g Marks site a span r out
        → IsConcat g Marks site b span r out
    text-same span None out w = w
    text-same span (Some text) out w = w

    expression-same : (path : Path) (e : Expression) (out : Forest) → IsExpression g Marks site a path e out
        → IsExpression g Marks site b path e out
    expression-same path (ignore name span) out w = w
    expression-same path (count name depth) out w =
        w ∙ ap (λ r. integer (total_of depth r) site) (followed-same path name)
    expression-same path (index depth) out w = w
    expression-same path (len depth) out w = w
    expression-same path (concat elements span) out w =
        subst (λ r. IsConcat g Marks site b span r out) (concat-same path elements)
        (text-same span (concat_text a path elements) out w)

    mutual
      pub Writes-same : (path : Path) (o : Op) (out : Forest) → Writes g Marks site a path o out
          → Writes g Marks site b path o out
      Writes-same path (ops.token t) out w = marked-same t out w
      Writes-same path (ops.group d body) out w = (w.0, w.1, w.2, w.3, w.4, Substitutes-same path body w.2 w.5, w.6)
      Writes-same path (ops.variable name kind span) out w = variable-same path name span out w
      Writes-same path (ops.repetition body separator repeat) out w =
          subst (λ e. AreKeptRounds (separator_trees separator)
          (λ i n. Substitutes g Marks site b (level i n path) body) e out) (kept-same repeat path body)
          (kept-weaker (separator_trees separator) (λ i n. Substitutes g Marks site a (level i n path) body)
          (λ i n. Substitutes g Marks site b (level i n path) body)
          (λ i n f v. Substitutes-same (level i n path) body f v) (kept_rounds repeat a path body) out w)
      Writes-same path (ops.expression e) out w = expression-same path e out w

      pub Substitutes-same : (path : Path) (os : Ops) (out : Forest) → Substitutes g Marks site a path os out
          → Substitutes g Marks site b path os out
      Substitutes-same path no_ops out w = w
      Substitutes-same path (op o os) out w =
          (w.0, w.1, Writes-same path o w.0 w.2, Substitutes-same path os w.1 w.3, w.4)
