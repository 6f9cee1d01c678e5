-- With a marker that returns one span for each, an expansion without an error is one tree, by one rule.
use Rattle.std.specs.Prelude.{◌≡◌, ℕ, zero, suc, Bool, true, false, List, [], ◌∷◌, Option, Some, None, refl}
use Rattle.std.proofs.Common.{ap, sym, subst, ◌∙◌}
use Rattle.mbe_tt.specs.declared.span.Span.{Span}
use Rattle.mbe_tt.specs.declared.tt.Punct.{Punct}
use Rattle.mbe_tt.specs.declared.tt.DelimiterKind.TheVariants.{Invisible}
use Rattle.mbe_tt.specs.Trees.Leaf.{literal, punct, ident}
use Rattle.mbe_tt.specs.Trees.Tree.{Forest, none, leaf, group, append, alone, strip_invisible}
use Rattle.mbe_tt.specs.Grammars.Grammar.{Grammar}
use Rattle.mbe_semantics.specs.declared.macro_call_style.MacroCallStyle.{MacroCallStyle}
use Rattle.mbe_semantics.specs.Syntax.Op as ops
use Rattle.mbe_semantics.specs.Syntax.Op.{Name, Token, Expression, ignore, count, index, len, concat, Op, Ops, no_ops}
use Rattle.mbe_semantics.specs.Syntax.Op.{op}
use Rattle.mbe_semantics.specs.Syntax.Definition.{Rule}
use Rattle.mbe_semantics.specs.Fragments.Kinds.{Style, plain, stripped, as_expression, as_path, whole}
use Rattle.mbe_semantics.specs.Bindings.Missing.{default_trees}
use Rattle.mbe_semantics.specs.Readings.Ambiguity.{Fits}
use Rattle.mbe_semantics.specs.Bindings.Environment.{Value, fragment, list, empty, missing, Environment, value_of}
use Rattle.mbe_semantics.specs.Bindings.Environment.{environment_of}
use Rattle.mbe_semantics.specs.Transcription.Rounds.{Path, Extent, finite, endless, kept_rounds, followed, level}
use Rattle.mbe_semantics.specs.Transcription.Concat.{concat_text}
use Rattle.mbe_semantics.specs.Transcription.FragmentTrees.{needs_parentheses, in_parentheses, IsParenthesized}
use Rattle.mbe_semantics.specs.Transcription.FragmentTrees.{IsFragmentOutput}
use Rattle.mbe_semantics.specs.Transcription.Substitution.{rawness, separator_trees, AreRounds, AreKeptRounds}
use Rattle.mbe_semantics.specs.Transcription.Substitution.{AreMarkedPuncts, IsMarked, IsVariable, IsConcat}
use Rattle.mbe_semantics.specs.Transcription.Substitution.{IsExpression, Writes, Substitutes, IsSubstitution}
use Rattle.mbe_semantics.specs.Expansion.Expansion.{Applies, FirstThatApplies, this_one, a_later_one}
use Rattle.mbe_semantics.specs.Laws.Laws.{HasOneAnswer, OneExpansion}

module _ (g : Grammar) (Marks : Span → Span → Type 0) (call_site : Span) (fn : HasOneAnswer Marks) where
  parenthesized_same : (b : Bool) (span : Span) (f out other : Forest) → IsParenthesized Marks b span f out
      → IsParenthesized Marks b span f other → out ≡ other
  parenthesized_same false span f out other d e = d ∙ sym e
  parenthesized_same true span f out other (s, m, d) (t, n, e) =
      d ∙ ap (λ x. in_parentheses x f) (fn span s t m n) ∙ sym e

  written_same : (style : Style) (span : Span) (f out other : Forest)
      → IsFragmentOutput Marks call_site style span f out
      → IsFragmentOutput Marks call_site style span f other → out ≡ other
  written_same plain span f out other d e = d ∙ sym e
  written_same stripped span f out other d e = d ∙ sym e
  written_same as_path span f out other d e = d ∙ sym e
  written_same (whole kind) span f out other d e = d ∙ sym e
  written_same as_expression span f out other d e =
      parenthesized_same (needs_parentheses (strip_invisible f)) span (alone (strip_invisible f)) out other d e

  module _ (env : Environment) where
    puncts_same : (ps : List Punct) (out other : Forest) → AreMarkedPuncts g Marks call_site env ps out
        → AreMarkedPuncts g Marks call_site env ps other → out ≡ other
    puncts_same [] out other d e = d ∙ sym e
    puncts_same (p ∷ ps) out other (s, rest, m, w, d) (t, more, n, v, e) =
        d ∙ ap (λ x. leaf (punct (record p { span = x })) rest) (fn p.span s t m n)
        ∙ ap (leaf (punct (record p { span = t }))) (puncts_same ps rest more w v) ∙ sym e

    pub token_same : (t : Token) (out other : Forest) → IsMarked g Marks call_site env t out
        → IsMarked g Marks call_site env t other → out ≡ other
    token_same (ops.literal l) out other (s, m, d) (t, n, e) =
        d ∙ ap (λ x. leaf (literal (record l { span = x })) none) (fn l.span s t m n) ∙ sym e
    token_same (ops.ident i) out other (s, m, d) (t, n, e) =
        d ∙ ap (λ x. leaf (ident (record i { span = x })) none) (fn i.span s t m n) ∙ sym e
    token_same (ops.puncts ps) out other w v = puncts_same ps out other w v

    pub variable_same : (name : Name) (span : Span) (v w : Option Value) (out other : Forest)
        → IsVariable g Marks call_site env name span v w out →
        IsVariable g Marks call_site env name span v w other → out ≡ other
    variable_same name span None w out other d e = d ∙ sym e
    variable_same name span (Some v) None out other d e = absurd d
    variable_same name span (Some v) (Some (fragment x)) out other d e = written_same x.style span x.trees out other d e
    variable_same name span (Some v) (Some (missing kind)) out other (s, m, d) (t, n, e) =
        d ∙ ap (default_trees kind) (fn span s t m n) ∙ sym e
    variable_same name span (Some v) (Some (list vs)) out other d e = absurd d
    variable_same name span (Some v) (Some empty) out other d e = absurd d

    pub concat_same : (span : Span) (text : Option (List ℕ)) (out other : Forest)
        → IsConcat g Marks call_site env span text out → IsConcat g Marks call_site env span text other → out ≡ other
    concat_same span None out other d e = absurd d
    concat_same span (Some text) out other (s, m, d) (t, n, e) =
        d ∙ ap (λ x. leaf (ident (record { sym = text; is_raw = rawness (g.is_keyword text); span = x })) none)
        (fn span s t m n) ∙ sym e

    pub expression_same : (path : Path) (x : Expression) (out other : Forest)
        → IsExpression g Marks call_site env path x out → IsExpression g Marks call_site env path x other → out ≡ other
    expression_same path (ignore name span) out other d e = d ∙ sym e
    expression_same path (count name depth) out other d e = d ∙ sym e
    expression_same path (index depth) out other d e = d ∙ sym e
    expression_same path (len depth) out other d e = d ∙ sym e
    expression_same path (concat elements span) out other d e =
        concat_same span (concat_text env path elements) out other d e

    rounds_same : (separator : Forest) (round : ℕ → Forest → Type 0) (n : ℕ) (out other : Forest)
        → ((i : ℕ) (o p : Forest) → round i o → round i p → o ≡ p) →
        AreRounds separator round n out → AreRounds separator round n other → out ≡ other
    rounds_same separator round zero out other f d e = d ∙ sym e
    rounds_same separator round (suc zero) out other f d e = f 0 out other d e
    rounds_same separator round (suc (suc n)) out other f (before, last, rs, r, d) (former, final, qs, q, e) =
        d ∙ ap (λ x. append x (append separator last)) (rounds_same separator round (suc n) before former f rs qs)
        ∙ ap (λ x. append former (append separator x)) (f (suc n) last final r q) ∙ sym e

    kept_same : (separator : Forest) (round : ℕ → ℕ → Forest → Type 0) (x : Extent) (out other : Forest)
        → ((n i : ℕ) (o p : Forest) → round i n o → round i n p → o ≡ p) →
        AreKeptRounds separator round x out → AreKeptRounds separator round x other → out ≡ other
    kept_same separator round endless out other f d e = absurd d
    kept_same separator round (finite n) out other f d e = rounds_same separator (λ i. round i n) n out other (f n) d e

    mutual
      writes_same : (o : Op) (path : Path) (out other : Forest) → Writes g Marks call_site env path o out
          → Writes g Marks call_site env path o other → out ≡ other
      writes_same (ops.token t) path out other d e = token_same t out other d e
      writes_same (ops.group d body) path out other (s, c, inside, m, n, w, e) (s', c', inside', m', n', w', e') =
          e ∙ ap (λ x. group (record { opening = x; close = c; kind = d.kind }) inside none) (fn d.opening s s' m m')
          ∙ ap (λ x. group (record { opening = s'; close = x; kind = d.kind }) inside none) (fn d.close c c' n n')
          ∙ ap (λ x. group (record { opening = s'; close = c'; kind = d.kind }) x none)
          (substitutes_same body path inside inside' w w') ∙ sym e'
      writes_same (ops.variable name kind span) path out other d e =
          variable_same name span (value_of env name) (followed env path name) out other d e
      writes_same (ops.repetition body separator repeat) path out other d e =
          kept_same (separator_trees separator) (λ i n. Substitutes g Marks call_site env (level i n path) body)
          (kept_rounds repeat env path body) out other
          (λ n i o p w v. substitutes_same body (level i n path) o p w v) d e
      writes_same (ops.expression x) path out other d e = expression_same path x out other d e

      substitutes_same : (os : Ops) (path : Path) (out other : Forest) → Substitutes g Marks call_site env path os out
          → Substitutes g Marks call_site env path os other → out ≡ other
      substitutes_same no_ops path out other d e = d ∙ sym e
      substitutes_same (op o os) path out other (first, rest, w, b, d) (former, more, v, c, e) =
          d ∙ ap (λ x. append x rest) (writes_same o path first former w v)
          ∙ ap (append former) (substitutes_same os path rest more b c) ∙ sym e

    substitution_same : (writes : Ops) (out other : Forest) → IsSubstitution g Marks call_site env writes out
        → IsSubstitution g Marks call_site env writes other → out ≡ other
    substitution_same writes out other (inside, w, d) (within, v, e) =
        d ∙ ap (λ x. group (record { opening = call_site; close = call_site; kind = Invisible }) x none)
        (substitutes_same writes [] inside within w v) ∙ sym e

module _ (g : Grammar) (style : MacroCallStyle) (argument : Forest) where
  same_first : {rs : List Rule} {n : ℕ} {r : Rule} {a : Applies g style argument r}
      → FirstThatApplies g style argument rs n r a → (m : ℕ) (s : Rule)
      (b : Applies g style argument s) → FirstThatApplies g style argument rs m s b → (n ≡ m) × (r ≡ s)
  same_first (this_one r rs a) _ _ _ (this_one _ _ b) = (refl, refl)
  same_first (this_one r rs a) _ _ _ (a_later_one _ s _ n m b not_r not_last f e) = absurd (not_r a)
  same_first (a_later_one r s rs n m a not_r not_last f e) _ _ _ (this_one _ _ b) = absurd (not_r b)
  same_first (a_later_one r s rs n m a not_r not_last f e) k _ _ (a_later_one _ t _ i _ b un unlast h d) =
      let p = same_first f i t b h in (e ∙ ap suc p.0 ∙ sym d, p.1)

  same_items : (r s : Rule) → r ≡ s → (a : Applies g style argument r) (b : Applies g style argument s)
      → a.items ≡ b.items
  same_items r s q a b = (b.fits).1.1 a.items (subst (λ x. Fits g x.reads argument a.items) q a.fits).1.0

pub one_expansion : (Marks : Span → Span → Type 0) → OneExpansion Marks
one_expansion Marks fn g style argument call_site rs n m out other (r, a, f, w) (s, b, h, v) =
    let p = same_first g style argument f m s b h in
    let q : r ≡ s = p.1 in
    let i : a.items ≡ b.items = same_items g style argument r s q a b in (
      p.0,
      substitution_same g Marks call_site fn (environment_of b.items) s.writes out other
          (subst (λ x. IsSubstitution g Marks call_site (environment_of b.items) x.writes out) q
          (subst (λ x. IsSubstitution g Marks call_site (environment_of x) r.writes out) i w)) v,
    )
