-- What is written with the marks of one marker is written so with those of another that allows them.
use Rattle.std.proofs.Common.{◌≡◌, ℕ, zero, suc, Bool, true, false, List, [], ◌∷◌, Option, Some, None}
use Rattle.mbe_tt.specs.declared.span.Span.{Span}
use Rattle.mbe_tt.specs.declared.tt.Punct.{Punct}
use Rattle.mbe_tt.specs.Trees.Tree.{Forest}
use Rattle.mbe_tt.specs.Grammars.Grammar.{Grammar}
use Rattle.mbe_semantics.specs.declared.macro_call_style.MacroCallStyle.{MacroCallStyle}
use Rattle.mbe_semantics.specs.Syntax.Op as ops
use Rattle.mbe_semantics.specs.Syntax.Op.{Name, Token, Expression, ignore, count, index, len, concat, Op, Ops, no_ops}
use Rattle.mbe_semantics.specs.Syntax.Op.{op}
use Rattle.mbe_semantics.specs.Syntax.Definition.{Rule}
use Rattle.mbe_semantics.specs.Fragments.Kinds.{Style, plain, stripped, as_expression, as_path, whole}
use Rattle.mbe_semantics.specs.Bindings.Environment.{Value, fragment, missing, Environment, environment_of, value_of}
use Rattle.mbe_semantics.specs.Transcription.Rounds.{Path, followed, Extent, finite, endless, kept_rounds, level}
use Rattle.mbe_semantics.specs.Transcription.Concat.{concat_text}
use Rattle.mbe_semantics.specs.Transcription.FragmentTrees.{IsParenthesized, IsFragmentOutput}
use Rattle.mbe_semantics.specs.Transcription.Substitution.{faults, AreRounds, AreKeptRounds, separator_trees}
use Rattle.mbe_semantics.specs.Transcription.Substitution.{AreMarkedPuncts, IsMarked, IsVariable, IsConcat}
use Rattle.mbe_semantics.specs.Transcription.Substitution.{IsExpression, Writes, Substitutes, IsSubstitution}
use Rattle.mbe_semantics.specs.Expansion.Error.{ExpandError}
use Rattle.mbe_semantics.specs.Expansion.Expansion.{IsExpansion}
use Rattle.mbe_semantics.specs.Expansion.Macro.{Expands}
use Rattle.mbe_tt.specs.Trees.Top.{Top}
use Rattle.mbe_transcriber.specs.TemplateFaults.{variable_fault, joined}
use Rattle.mbe_variables.specs.LookupErrors.{extent_fault}
use Rattle.mbe_transcriber.specs.PartialExpansion.{unless, concat_name, AreRoundsEmitted, AreAllRoundsEmitted}
use Rattle.mbe_transcriber.specs.PartialExpansion.{EmitsExpression, Emits, EmitAll, IsPartialExpansion}
use Rattle.mbe.specs.ClosestRule.{Recovers}

-- rounds are written so where each round is
rounds_written : (separator : Forest) (round other : ℕ → Forest → Type 0)
    → ((i : ℕ) (out : Forest) → round i out → other i out)
    → (n : ℕ) (out : Forest) → AreRounds separator round n out → AreRounds separator other n out
rounds_written separator round other each zero out h = h
rounds_written separator round other each (suc zero) out h = each 0 out h
rounds_written separator round other each (suc (suc n)) out (before, last, earlier, here, e) =
    (before, last, rounds_written separator round other each (suc n) before earlier, each (suc n) last here, e)

kept_rounds_written : (separator : Forest) (round other : ℕ → ℕ → Forest → Type 0)
    → ((i n : ℕ) (out : Forest) → round i n out → other i n out)
    → (e : Extent) (out : Forest) → AreKeptRounds separator round e out → AreKeptRounds separator other e out
kept_rounds_written separator round other each endless out h = h
kept_rounds_written separator round other each (finite n) out h =
    rounds_written separator (λ i. round i n) (λ i. other i n) (λ i. each i n) n out h

module _ (g : Grammar) {A B : Span → Span → Type 0} (more : (s t : Span) → A s t → B s t) (call_site : Span) where
  parenthesized : (b : Bool) (span : Span) (f out : Forest) → IsParenthesized A b span f out
      → IsParenthesized B b span f out
  parenthesized false span f out h = h
  parenthesized true span f out (marked, m, e) = (marked, more span marked m, e)

  fragment_written : (style : Style) (span : Span) (f out : Forest) → IsFragmentOutput A call_site style span f out
      → IsFragmentOutput B call_site style span f out
  fragment_written plain span f out h = h
  fragment_written stripped span f out h = h
  fragment_written as_path span f out h = h
  fragment_written (whole kind) span f out h = h
  fragment_written as_expression span f out h = parenthesized _ span _ out h

  module _ (env : Environment) where
    puncts_written : (ps : List Punct) (out : Forest) → AreMarkedPuncts g A call_site env ps out
        → AreMarkedPuncts g B call_site env ps out
    puncts_written [] out h = h
    puncts_written (p ∷ ps) out (marked, rest, m, later, e) =
        (marked, rest, more p.span marked m, puncts_written ps rest later, e)

    token_written : (t : Token) (out : Forest) → IsMarked g A call_site env t out → IsMarked g B call_site env t out
    token_written (ops.literal l) out (marked, m, e) = (marked, more l.span marked m, e)
    token_written (ops.ident i) out (marked, m, e) = (marked, more i.span marked m, e)
    token_written (ops.puncts ps) out h = puncts_written ps out h

    variable_written : (name : Name) (span : Span) (v w : Option Value) (out : Forest)
        → IsVariable g A call_site env name span v w out → IsVariable g B call_site env name span v w out
    variable_written name span None w out h = h
    variable_written name span (Some v) (Some (fragment x)) out h = fragment_written x.style span x.trees out h
    variable_written name span (Some v) (Some (missing kind)) out (marked, m, e) = (marked, more span marked m, e)
    variable_written name span (Some v) w out h = absurd h

    concat_written : (span : Span) (text : Option (List ℕ)) (out : Forest) → IsConcat g A call_site env span text out
        → IsConcat g B call_site env span text out
    concat_written span None out h = h
    concat_written span (Some text) out (marked, m, e) = (marked, more span marked m, e)

    expression_written : (path : Path) (e : Expression) (out : Forest) → IsExpression g A call_site env path e out
        → IsExpression g B call_site env path e out
    expression_written path (ignore name span) out h = h
    expression_written path (count name depth) out h = h
    expression_written path (index depth) out h = h
    expression_written path (len depth) out h = h
    expression_written path (concat elements span) out h = concat_written span (concat_text env path elements) out h

    mutual
      op_written : (path : Path) (o : Op) (out : Forest) → Writes g A call_site env path o out
          → Writes g B call_site env path o out
      op_written path (ops.token t) out h = token_written t out h
      op_written path (ops.group d body) out (opening, close, inside, a, b, h, e) =
          (opening, close, inside, more d.opening opening a, more d.close close b, ops_written path body inside h, e)
      op_written path (ops.variable name kind span) out h =
          variable_written name span (value_of env name) (followed env path name) out h
      op_written path (ops.repetition body separator repeat) out h =
          kept_rounds_written (separator_trees separator) (λ i n. Substitutes g A call_site env (level i n path) body)
          (λ i n. Substitutes g B call_site env (level i n path) body)
          (λ i n. ops_written (level i n path) body) (kept_rounds repeat env path body) out h
      op_written path (ops.expression e) out h = expression_written path e out h

      ops_written : (path : Path) (os : Ops) (out : Forest) → Substitutes g A call_site env path os out
          → Substitutes g B call_site env path os out
      ops_written path no_ops out h = h
      ops_written path (op o os) out (first, rest, a, b, e) =
          (first, rest, op_written path o first a, ops_written path os rest b, e)

    substitution_written : (os : Ops) (out : Forest) → IsSubstitution g A call_site env os out
        → IsSubstitution g B call_site env os out
    substitution_written os out (inside, h, e) = (inside, ops_written [] os inside h, e)

  expansion_written : (rules : List Rule) (style : MacroCallStyle) (argument : Forest) (n : ℕ) (out : Forest)
      → IsExpansion g style argument A call_site rules n out → IsExpansion g style argument B call_site rules n out
  expansion_written rules style argument n out (r, a, first, h) =
      (r, a, first, substitution_written (environment_of a.items) r.writes out h)

  pub expands_so : (rules : List Rule) (style : MacroCallStyle) (argument out : Forest) (i : Option ℕ)
      (err : Option ExpandError)
      → Expands g A rules style argument call_site out i err → Expands g B rules style argument call_site out i err
  expands_so rules style argument out i err h = record {
    sound = λ none. (let (n, made, arm) = h.sound none in (n, expansion_written rules style argument n out made, arm));
    complete = h.complete;
    recovers = h.recovers;
    ended = h.ended;
    no_rule = h.no_rule;
  }

  -- ---- beside a fault

  unless_left : {F : Type 0} (o : Option F) (P Q : Forest → Type 0) → ((out : Forest) → P out → Q out) → (out : Forest)
      → unless o P out → unless o Q out
  unless_left (Some f) P Q each out h = h
  unless_left None P Q each out h = each out h

  rounds_left : (separator : Forest) (faulty : ℕ → Bool) (round other : ℕ → Forest → Type 0)
      → ((i : ℕ) (out : Forest) → round i out → other i out)
      → (n : ℕ) (out : Forest) → AreRoundsEmitted separator faulty round n out
      → AreRoundsEmitted separator faulty other n out
  rounds_left separator faulty round other each zero out h = h
  rounds_left separator faulty round other each (suc n) out (before, last, earlier, here, e) =
      (before, last, rounds_left separator faulty round other each n before earlier, each n last here, e)

  all_rounds_left : (separator : Forest) (faulty : ℕ → ℕ → Bool) (round other : ℕ → ℕ → Forest → Type 0)
      → ((i n : ℕ) (out : Forest) → round i n out → other i n out)
      → (e : Extent) (out : Forest) → AreAllRoundsEmitted separator faulty round e out
      → AreAllRoundsEmitted separator faulty other e out
  all_rounds_left separator faulty round other each endless out h = h
  all_rounds_left separator faulty round other each (finite n) out h =
      rounds_left separator (λ i. faulty i n) (λ i. round i n) (λ i. other i n) (λ i. each i n) n out h

  module _ (env : Environment) where
    expression_left : (path : Path) (e : Expression) (out : Forest) → EmitsExpression g A call_site env path e out
        → EmitsExpression g B call_site env path e out
    expression_left path (count name depth) out h = h
    expression_left path (concat elements span) out h =
        concat_written env span (Some (concat_name (joined env path elements))) out h
    expression_left path (ignore name span) out h = h
    expression_left path (index depth) out h = h
    expression_left path (len depth) out h = h

    mutual
      op_left : (path : Path) (o : Op) (out : Forest) → Emits g A call_site env path o out
          → Emits g B call_site env path o out
      op_left path (ops.token t) out h = token_written env t out h
      op_left path (ops.group d body) out (opening, close, inside, a, b, h, e) =
          (opening, close, inside, more d.opening opening a, more d.close close b, ops_left path body inside h, e)
      op_left path (ops.variable name kind span) out h =
          unless_left (variable_fault env path name)
          (IsVariable g A call_site env name span (value_of env name) (followed env path name))
          (IsVariable g B call_site env name span (value_of env name) (followed env path name))
          (variable_written env name span (value_of env name) (followed env path name)) out h
      op_left path (ops.repetition body separator repeat) out h =
          unless_left (extent_fault repeat (kept_rounds repeat env path body))
          (AreAllRoundsEmitted (separator_trees separator) (λ i n. faults env (level i n path) body)
          (λ i n. EmitAll g A call_site env (level i n path) body)
          (kept_rounds repeat env path body))
          (AreAllRoundsEmitted (separator_trees separator) (λ i n. faults env (level i n path) body)
          (λ i n. EmitAll g B call_site env (level i n path) body)
          (kept_rounds repeat env path body))
          (all_rounds_left (separator_trees separator) (λ i n. faults env (level i n path) body)
          (λ i n. EmitAll g A call_site env (level i n path) body)
          (λ i n. EmitAll g B call_site env (level i n path) body) (λ i n. ops_left (level i n path) body)
          (kept_rounds repeat env path body)) out h
      op_left path (ops.expression e) out h = expression_left path e out h

      ops_left : (path : Path) (os : Ops) (out : Forest) → EmitAll g A call_site env path os out
          → EmitAll g B call_site env path os out
      ops_left path no_ops out h = h
      ops_left path (op o os) out (first, rest, a, b, e) =
          (first, rest, op_left path o first a, ops_left path os rest b, e)

    what_is_left : (os : Ops) (out : Forest) → IsPartialExpansion g A call_site env os out
        → IsPartialExpansion g B call_site env os out
    what_is_left os out (inside, h, e) = (inside, ops_left [] os inside h, e)

  pub recovered_so : (rules : List Rule) (style : MacroCallStyle) (input : Top) (out : Forest) (i : Option ℕ)
      (err : Option ExpandError)
      → Recovers g call_site input A rules style out i err → Recovers g call_site input B rules style out i err
  recovered_so rules style input out i err h = λ e is own.
      let r = h e is own in
      record {
        rule_index = r.rule_index;
        rule = r.rule;
        answering = r.answering;
        named = r.named;
        recovered = record {
          error = r.recovered.error;
          env = r.recovered.env;
          reported = r.recovered.reported;
          fails = r.recovered.fails;
          left = what_is_left r.recovered.env r.rule.writes out r.recovered.left;
        };
      }
