-- With a marker that returns one span for each, what a template leaves beside a fault is one tree.
use Rattle.std.specs.Prelude.{◌≡◌, ℕ, zero, suc, Bool, [], Option, Some, None}
use Rattle.std.proofs.Common.{ap, sym, ◌∙◌}
use Rattle.mbe_tt.specs.declared.span.Span.{Span}
use Rattle.mbe_tt.specs.declared.tt.DelimiterKind.TheVariants.{Invisible}
use Rattle.mbe_tt.specs.Trees.Tree.{Forest, none, group, append}
use Rattle.mbe_tt.specs.Grammars.Grammar.{Grammar}
use Rattle.mbe_semantics.specs.Syntax.Op as ops
use Rattle.mbe_semantics.specs.Syntax.Op.{Expression, ignore, count, index, len, concat, Op, Ops, no_ops, op}
use Rattle.mbe_semantics.specs.Bindings.Environment.{Environment, value_of}
use Rattle.mbe_semantics.specs.Transcription.Rounds.{Path, Extent, finite, endless, kept_rounds, followed, level}
use Rattle.mbe_semantics.specs.Transcription.Substitution.{faults, separator_trees, integer, total_of, IsVariable}
use Rattle.mbe_semantics.specs.Laws.Laws.{HasOneAnswer}
use Rattle.mbe_laws.proofs.Expansion.ExpansionLemmas.{token_same, variable_same, concat_same, expression_same}
use Rattle.mbe_transcriber.specs.TemplateFaults.{bound_fault, count_fault, variable_fault, joined}
use Rattle.mbe_variables.specs.LookupErrors.{extent_fault}
use Rattle.mbe_transcriber.specs.PartialExpansion.{unless, separator_before, concat_name, AreRoundsEmitted}
use Rattle.mbe_transcriber.specs.PartialExpansion.{AreAllRoundsEmitted, EmitsExpression, Emits, EmitAll}
use Rattle.mbe_transcriber.specs.PartialExpansion.{IsPartialExpansion}

unless_same : {F : Type 0} (o : Option F) (P : Forest → Type 0) (out other : Forest)
    → ((x y : Forest) → P x → P y → x ≡ y) → unless o P out → unless o P other → out ≡ other
unless_same (Some f) P out other h d e = d ∙ sym e
unless_same None P out other h d e = h out other d e

rounds_same : (separator : Forest) (faulty : ℕ → Bool) (round : ℕ → Forest → Type 0) (n : ℕ) (out other : Forest)
    → ((i : ℕ) (o p : Forest) → round i o → round i p → o ≡ p)
    → AreRoundsEmitted separator faulty round n out → AreRoundsEmitted separator faulty round n other → out ≡ other
rounds_same separator faulty round zero out other f d e = d ∙ sym e
rounds_same separator faulty round (suc n) out other f (before, last, rs, r, d) (former, final, qs, q, e) =
    d ∙ ap (λ x. append x (append (separator_before separator faulty n) last))
    (rounds_same separator faulty round n before former f rs qs)
    ∙ ap (λ x. append former (append (separator_before separator faulty n) x)) (f n last final r q) ∙ sym e

all_rounds_same : (separator : Forest) (faulty : ℕ → ℕ → Bool) (round : ℕ → ℕ → Forest → Type 0) (x : Extent)
    (out other : Forest)
    → ((n i : ℕ) (o p : Forest) → round i n o → round i n p → o ≡ p)
    → AreAllRoundsEmitted separator faulty round x out → AreAllRoundsEmitted separator faulty round x other → out
    ≡ other
all_rounds_same separator faulty round endless out other f d e = d ∙ sym e
all_rounds_same separator faulty round (finite n) out other f d e =
    rounds_same separator (λ i. faulty i n) (λ i. round i n) n out other (f n) d e

module _ (g : Grammar) (Marks : Span → Span → Type 0) (call_site : Span) (fn : HasOneAnswer Marks)
    (env : Environment) where
  expression_left_same : (path : Path) (x : Expression) (out other : Forest)
      → EmitsExpression g Marks call_site env path x out
      → EmitsExpression g Marks call_site env path x other → out ≡ other
  expression_left_same path (count name depth) out other d e =
      unless_same (bound_fault name (count_fault name depth path) (value_of env name))
      (λ f. f ≡ integer (total_of depth (followed env path name)) call_site) out other
      (λ x y d e. d ∙ sym e) d e
  expression_left_same path (concat elements span) out other d e =
      concat_same g Marks call_site fn env span (Some (concat_name (joined env path elements))) out other d e
  expression_left_same path (ignore name span) out other d e =
      expression_same g Marks call_site fn env path (ignore name span) out other d e
  expression_left_same path (index depth) out other d e =
      expression_same g Marks call_site fn env path (index depth) out other d e
  expression_left_same path (len depth) out other d e =
      expression_same g Marks call_site fn env path (len depth) out other d e

  mutual
    leaves_same : (o : Op) (path : Path) (out other : Forest) → Emits g Marks call_site env path o out
        → Emits g Marks call_site env path o other → out ≡ other
    leaves_same (ops.token t) path out other d e = token_same g Marks call_site fn env t out other d e
    leaves_same (ops.group d body) path out other (s, c, inside, m, n, w, e) (s', c', inside', m', n', w', e') =
        e ∙ ap (λ x. group (record { opening = x; close = c; kind = d.kind }) inside none) (fn d.opening s s' m m')
        ∙ ap (λ x. group (record { opening = s'; close = x; kind = d.kind }) inside none) (fn d.close c c' n n')
        ∙ ap (λ x. group (record { opening = s'; close = c'; kind = d.kind }) x none)
        (leave_all_same body path inside inside' w w') ∙ sym e'
    leaves_same (ops.variable name kind span) path out other d e =
        unless_same (variable_fault env path name)
        (IsVariable g Marks call_site env name span (value_of env name) (followed env path name)) out other
        (λ x y v w. variable_same g Marks call_site fn env name span (value_of env name) (followed env path name) x y v
        w) d e
    leaves_same (ops.repetition body separator repeat) path out other d e =
        unless_same (extent_fault repeat (kept_rounds repeat env path body))
        (AreAllRoundsEmitted (separator_trees separator) (λ i n. faults env (level i n path) body)
        (λ i n. EmitAll g Marks call_site env (level i n path) body)
        (kept_rounds repeat env path body)) out other
        (λ x y v w. all_rounds_same (separator_trees separator) (λ i n. faults env (level i n path) body)
        (λ i n. EmitAll g Marks call_site env (level i n path) body)
        (kept_rounds repeat env path body) x y (λ n i o p a b. leave_all_same body (level i n path) o p a b) v w) d e
    leaves_same (ops.expression x) path out other d e = expression_left_same path x out other d e

    leave_all_same : (os : Ops) (path : Path) (out other : Forest) → EmitAll g Marks call_site env path os out
        → EmitAll g Marks call_site env path os other → out ≡ other
    leave_all_same no_ops path out other d e = d ∙ sym e
    leave_all_same (op o os) path out other (first, rest, w, b, d) (former, more, v, c, e) =
        d ∙ ap (λ x. append x rest) (leaves_same o path first former w v)
        ∙ ap (append former) (leave_all_same os path rest more b c) ∙ sym e

  pub left_same : (writes : Ops) (out other : Forest) → IsPartialExpansion g Marks call_site env writes out
      → IsPartialExpansion g Marks call_site env writes other → out ≡ other
  left_same writes out other (inside, w, d) (within, v, e) =
      d ∙ ap (λ x. group (record { opening = call_site; close = call_site; kind = Invisible }) x none)
      (leave_all_same writes [] inside within w v) ∙ sym e
