-- With a marker that returns a span for each, a template without a fault writes some tree, and every template leaves
-- one.
use Rattle.std.specs.Prelude.{◌≡◌, ℕ, zero, suc, Bool, true, false, not, is_some, is_none, if◌then◌else◌, List, [], ◌∷◌}
use Rattle.std.specs.Prelude.{Option, Some, None, refl}
use Rattle.std.proofs.Common.{ap, sym, ◌∙◌}
use Rattle.std.proofs.lemmas.Bool.{true≢false, or_parts}
use Rattle.mbe_tt.specs.declared.span.Span.{Span}
use Rattle.mbe_tt.specs.declared.tt.Punct.{Punct}
use Rattle.mbe_tt.specs.declared.tt.DelimiterKind.TheVariants.{Invisible}
use Rattle.mbe_tt.specs.Trees.Leaf.{literal, punct, ident}
use Rattle.mbe_tt.specs.Trees.Tree.{Forest, none, leaf, group, append, alone, strip_invisible}
use Rattle.mbe_tt.specs.Grammars.Grammar.{Grammar}
use Rattle.mbe_semantics.specs.declared.fragment_kinds.RepeatKind.{RepeatKind}
use Rattle.mbe_semantics.specs.declared.fragment_kinds.RepeatKind.TheVariants.{ZeroOrMore, OneOrMore, ZeroOrOne}
use Rattle.mbe_semantics.specs.Syntax.Op as ops
use Rattle.mbe_semantics.specs.Syntax.Op.{Name, Token, Expression, ignore, count, index, len, concat, Op, Ops, no_ops}
use Rattle.mbe_semantics.specs.Syntax.Op.{op}
use Rattle.mbe_semantics.specs.Fragments.Kinds.{Style, plain, stripped, as_expression, as_path, whole}
use Rattle.mbe_semantics.specs.Bindings.Missing.{default_trees}
use Rattle.mbe_semantics.specs.Bindings.Environment.{Value, fragment, list, empty, missing, Environment, value_of}
use Rattle.mbe_semantics.specs.Transcription.Rounds.{Path, Extent, finite, endless, kept, rounds_of, kept_rounds}
use Rattle.mbe_semantics.specs.Transcription.Rounds.{followed, level, level_at}
use Rattle.mbe_semantics.specs.Transcription.Concat.{concat_text}
use Rattle.mbe_semantics.specs.Transcription.FragmentTrees.{path_trees, needs_parentheses, in_parentheses}
use Rattle.mbe_semantics.specs.Transcription.FragmentTrees.{IsParenthesized, IsFragmentOutput, whole_fragment}
use Rattle.mbe_semantics.specs.Transcription.FragmentTrees.{group_for}
use Rattle.mbe_semantics.specs.Transcription.Substitution.{is_simple, expression_faults, extent_faults, any_below}
use Rattle.mbe_semantics.specs.Transcription.Substitution.{any_round, op_faults, faults, rawness, separator_trees}
use Rattle.mbe_semantics.specs.Transcription.Substitution.{unbound_variable, integer, index_of, rounds_in, total_of}
use Rattle.mbe_semantics.specs.Transcription.Substitution.{AreRounds, AreKeptRounds, AreMarkedPuncts, IsMarked}
use Rattle.mbe_semantics.specs.Transcription.Substitution.{IsVariable, IsConcat, IsExpression, Writes, Substitutes}
use Rattle.mbe_semantics.specs.Transcription.Substitution.{IsSubstitution}
use Rattle.mbe_transcriber.specs.TemplateFaults.{bound_fault, count_fault, variable_fault, joined}
use Rattle.mbe_variables.specs.LookupErrors.{extent_fault}
use Rattle.mbe_transcriber.specs.PartialExpansion.{unless, separator_before, concat_name, AreRoundsEmitted}
use Rattle.mbe_transcriber.specs.PartialExpansion.{AreAllRoundsEmitted, EmitsExpression, Emits, EmitAll}
use Rattle.mbe_transcriber.specs.PartialExpansion.{IsPartialExpansion}
use Rattle.mbe.specs.OneAnswer.{HasSomeSpan}
use Rattle.mbe.proofs.FaultsAgree.{variable_some}

abbrev Exists : (Forest → Type 0) → Type 0
Exists P = (out : Forest) × P out

exists_unless : {F : Type 0} (o : Option F) (P : Forest → Type 0) → (o ≡ None → Exists P) → Exists (unless o P)
exists_unless (Some f) P h = (none, refl)
exists_unless None P h = h refl

-- ---- rounds

rounds_left : (separator : Forest) (faulty : ℕ → Bool) (round : ℕ → Forest → Type 0) → ((i : ℕ) → Exists (round i))
    → (n : ℕ) → Exists (AreRoundsEmitted separator faulty round n)
rounds_left separator faulty round each zero = (none, refl)
rounds_left separator faulty round each (suc n) =
    let (before, earlier) = rounds_left separator faulty round each n in
    let (last, here) = each n in
    (append before (append (separator_before separator faulty n) last), (before, last, earlier, here, refl))

all_rounds_left : (separator : Forest) (faulty : ℕ → ℕ → Bool) (round : ℕ → ℕ → Forest → Type 0)
    → ((i n : ℕ) → Exists (round i n)) → (e : Extent)
    → Exists (AreAllRoundsEmitted separator faulty round e)
all_rounds_left separator faulty round each endless = (none, refl)
all_rounds_left separator faulty round each (finite n) =
    rounds_left separator (λ i. faulty i n) (λ i. round i n) (λ i. each i n) n

rounds_written : (separator : Forest) (round : ℕ → Forest → Type 0) (test : ℕ → Bool)
    → ((i : ℕ) → test i ≡ false → Exists (round i)) → (n : ℕ) → any_below test n ≡ false
    → Exists (AreRounds separator round n)
rounds_written separator round test each zero h = (none, refl)
rounds_written separator round test each (suc zero) h = each 0 h
rounds_written separator round test each (suc (suc n)) h =
    let (before, earlier) = rounds_written separator round test each (suc n) (or_parts _ _ h).0 in
    let (last, here) = each (suc n) (or_parts _ _ h).1 in
    (append before (append separator last), (before, last, earlier, here, refl))

kept_written : (separator : Forest) (round : ℕ → ℕ → Forest → Type 0) (test : ℕ → ℕ → Bool) (repeat : RepeatKind)
    → ((i n : ℕ) → test i n ≡ false → Exists (round i n)) → (e : Extent)
    → (e ≡ endless → ⊥) → any_round test e ≡ false → Exists (AreKeptRounds separator round e)
kept_written separator round test repeat each endless ends h = absurd (ends refl)
kept_written separator round test repeat each (finite n) ends h =
    rounds_written separator (λ i. round i n) (λ i. test i n) (λ i. each i n) n h

is_endless : Extent → Bool
is_endless endless = true
is_endless (finite n) = false

one_kept : (x : Extent) → kept ZeroOrOne x ≡ endless → ⊥
unfolding is_endless
one_kept endless e = true≢false (sym (ap is_endless e))
one_kept (finite n) e = true≢false (sym (ap is_endless e))

module _ (g : Grammar) (Marks : Span → Span → Type 0) (call_site : Span) (some : HasSomeSpan Marks) where
  parenthesized : (b : Bool) (span : Span) (f : Forest) → Exists (IsParenthesized Marks b span f)
  parenthesized false span f = (f, refl)
  parenthesized true span f = let (t, m) = some span in (in_parentheses t f, (t, m, refl))

  written : (style : Style) (span : Span) (f : Forest) → Exists (IsFragmentOutput Marks call_site style span f)
  written plain span f = (alone f, refl)
  written stripped span f = (alone (strip_invisible f), refl)
  written as_path span f = (path_trees call_site f, refl)
  written (whole kind) span f = (whole_fragment (group_for kind f) span f, refl)
  written as_expression span f = parenthesized (needs_parentheses (strip_invisible f)) span (alone (strip_invisible f))

  module _ (env : Environment) where
    puncts_written : (ps : List Punct) → Exists (AreMarkedPuncts g Marks call_site env ps)
    puncts_written [] = (none, refl)
    puncts_written (p ∷ ps) =
        let (t, m) = some p.span in
        let (rest, r) = puncts_written ps in
        (leaf (punct (record p { span = t })) rest, (t, rest, m, r, refl))

    token_written : (t : Token) → Exists (IsMarked g Marks call_site env t)
    token_written (ops.literal l) = let (t, m) =
        some l.span in (leaf (literal (record l { span = t })) none, (t, m, refl))
    token_written (ops.ident i) = let (t, m) = some i.span in (leaf (ident (record i { span = t })) none, (t, m, refl))
    token_written (ops.puncts ps) = puncts_written ps

    variable_written : (name : Name) (span : Span) (o w : Option Value) → (is_none o ≡ false → is_simple w ≡ true)
        → Exists (IsVariable g Marks call_site env name span o w)
    variable_written name span None w h = (unbound_variable name span, refl)
    variable_written name span (Some v) (Some (fragment x)) h = written x.style span x.trees
    variable_written name span (Some v) (Some (missing kind)) h = let (t, m) =
        some span in (default_trees kind t, (t, m, refl))
    variable_written name span (Some v) (Some (list vs)) h = absurd (true≢false (sym (h refl)))
    variable_written name span (Some v) (Some empty) h = absurd (true≢false (sym (h refl)))
    variable_written name span (Some v) None h = absurd (true≢false (sym (h refl)))

    -- a variable without a fault leads to one value, if it is bound
    simple_of : (o w : Option Value) → (if is_none o then false else not (is_simple w)) ≡ false → is_none o ≡ false
        → is_simple w ≡ true
    simple_of (Some v) w h e = go (is_simple w) h
      where
        go : (b : Bool) → not b ≡ false → b ≡ true
        go true k = refl
        go false k = absurd (true≢false k)
    simple_of None w h e = absurd (true≢false e)

    concat_written : (span : Span) (text : Option (List ℕ)) → is_none text ≡ false
        → Exists (IsConcat g Marks call_site env span text)
    concat_written span (Some text) h =
        let (t, m) = some span in (
          leaf (ident (record { sym = text; is_raw = rawness (g.is_keyword text); span = t }))
              none,
          (t, m, refl),
        )
    concat_written span None h = absurd (true≢false h)

    -- ---- beside a fault

    expression_left : (path : Path) (e : Expression) → Exists (EmitsExpression g Marks call_site env path e)
    expression_left path (count name depth) =
        exists_unless (bound_fault name (count_fault name depth path) (value_of env name)) _
        (λ n. (integer (total_of depth (followed env path name)) call_site, refl))
    expression_left path (concat elements span) =
        concat_written span (Some (concat_name (joined env path elements))) refl
    expression_left path (ignore name span) = (none, refl)
    expression_left path (index depth) = (integer (index_of (level_at path depth)) call_site, refl)
    expression_left path (len depth) = (integer (rounds_in (level_at path depth)) call_site, refl)

    mutual
      op_left : (o : Op) (path : Path) → Exists (Emits g Marks call_site env path o)
      op_left (ops.token t) path = token_written t
      op_left (ops.group d body) path =
          let (opening, a) = some d.opening in
          let (close, b) = some d.close in
          let (inside, h) = ops_left body path in (
            group (record { opening = opening; close = close; kind = d.kind }) inside none,
            (opening, close, inside, a, b, h, refl),
          )
      op_left (ops.variable name kind span) path =
          exists_unless (variable_fault env path name)
          (IsVariable g Marks call_site env name span (value_of env name) (followed env path name))
          (λ n. variable_written name span (value_of env name) (followed env path name)
          (simple_of (value_of env name) (followed env path name)
          (sym (variable_some name path (value_of env name)) ∙ ap is_some n)))
      op_left (ops.repetition body separator repeat) path =
          exists_unless (extent_fault repeat (kept_rounds repeat env path body)) _
          (λ n. all_rounds_left (separator_trees separator) (λ i n. faults env (level i n path) body)
          (λ i n. EmitAll g Marks call_site env (level i n path) body)
          (λ i n. ops_left body (level i n path)) (kept_rounds repeat env path body))
      op_left (ops.expression e) path = expression_left path e

      ops_left : (os : Ops) (path : Path) → Exists (EmitAll g Marks call_site env path os)
      ops_left no_ops path = (none, refl)
      ops_left (op o os) path =
          let (first, a) = op_left o path in
          let (rest, b) = ops_left os path in
          (append first rest, (first, rest, a, b, refl))

    pub left_exists : (writes : Ops) → Exists (IsPartialExpansion g Marks call_site env writes)
    left_exists writes =
        let (inside, h) = ops_left writes [] in
        (group (record { opening = call_site; close = call_site; kind = Invisible }) inside none, (inside, h, refl))

    -- ---- without a fault

    expression_written : (path : Path) (e : Expression) → expression_faults env path e ≡ false
        → Exists (IsExpression g Marks call_site env path e)
    expression_written path (ignore name span) h = (none, refl)
    expression_written path (count name depth) h = (integer (total_of depth (followed env path name)) call_site, refl)
    expression_written path (index depth) h = (integer (index_of (level_at path depth)) call_site, refl)
    expression_written path (len depth) h = (integer (rounds_in (level_at path depth)) call_site, refl)
    expression_written path (concat elements span) h = concat_written span (concat_text env path elements) h

    -- a repetition with an extent that is no fault has an end
    ends : (repeat : RepeatKind) (path : Path) (body : Ops)
        → extent_faults repeat (kept_rounds repeat env path body) ≡ false → kept_rounds repeat env path body ≡ endless
        → ⊥
    ends ZeroOrOne path body h e = one_kept (rounds_of env path body) e
    ends ZeroOrMore path body h e = true≢false (sym (ap (extent_faults ZeroOrMore) e) ∙ h)
    ends OneOrMore path body h e = true≢false (sym (ap (extent_faults OneOrMore) e) ∙ h)

    mutual
      op_written : (o : Op) (path : Path) → op_faults env path o ≡ false → Exists (Writes g Marks call_site env path o)
      op_written (ops.token t) path h = token_written t
      op_written (ops.group d body) path h =
          let (opening, a) = some d.opening in
          let (close, b) = some d.close in
          let (inside, w) = ops_written body path h in (
            group (record { opening = opening; close = close; kind = d.kind }) inside none,
            (opening, close, inside, a, b, w, refl),
          )
      op_written (ops.variable name kind span) path h =
          variable_written name span (value_of env name) (followed env path name)
          (simple_of (value_of env name) (followed env path name) h)
      op_written (ops.repetition body separator repeat) path h =
          kept_written (separator_trees separator) (λ i n. Substitutes g Marks call_site env (level i n path) body)
          (λ i n. faults env (level i n path) body) repeat
          (λ i n e. ops_written body (level i n path) e) (kept_rounds repeat env path body)
          (ends repeat path body (or_parts _ _ h).0) (or_parts _ _ h).1
      op_written (ops.expression e) path h = expression_written path e h

      ops_written : (os : Ops) (path : Path) → faults env path os ≡ false
          → Exists (Substitutes g Marks call_site env path os)
      ops_written no_ops path h = (none, refl)
      ops_written (op o os) path h =
          let (first, a) = op_written o path (or_parts _ _ h).0 in
          let (rest, b) = ops_written os path (or_parts _ _ h).1 in
          (append first rest, (first, rest, a, b, refl))

    pub substitution_exists : (writes : Ops) → faults env [] writes ≡ false
        → Exists (IsSubstitution g Marks call_site env writes)
    substitution_exists writes h =
        let (inside, w) = ops_written writes [] h in
        (group (record { opening = call_site; close = call_site; kind = Invisible }) inside none, (inside, w, refl))
