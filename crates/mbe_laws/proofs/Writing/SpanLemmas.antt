-- Where the spans of an expansion come from.
use Rattle.std.specs.Prelude.{◌≡◌, ◌⊎◌, ◌==◌, ℕ, zero, suc, Bool, true, false, if◌then◌else◌, nat_le, ◌-◌, List, []}
use Rattle.std.specs.Prelude.{◌∷◌, ◌++◌, Option, Some, None, option_and_then, refl, map}
use Rattle.std.proofs.Common.{subst, sym, ap, ◌∙◌, inl, inr}
use Rattle.std.proofs.lemmas.Option.{none-some}
use Rattle.mbe_tt.specs.declared.span.Span.{Span}
use Rattle.mbe_tt.specs.declared.tt.DelimiterKind.{DelimiterKind}
use Rattle.mbe_tt.specs.declared.tt.DelimiterKind.TheVariants.{Invisible, Parenthesis, Brace, Bracket}
use Rattle.mbe_tt.specs.declared.tt.Punct.{Punct}
use Rattle.mbe_tt.specs.Trees.Leaf.{Leaf, literal, punct, ident, span_of}
use Rattle.mbe_tt.specs.Trees.Tree.{Forest, none, leaf, group, append, rest_at, flat_len, Cut, alone, alone_leaf}
use Rattle.mbe_tt.specs.Trees.Tree.{strip_group, strip_invisible, spans_of}
use Rattle.mbe_tt.specs.Grammars.Grammar.{Grammar}
use Rattle.mbe_semantics.specs.declared.fragment_kinds.MetaVarKind.{MetaVarKind}
use Rattle.mbe_semantics.specs.declared.fragment_kinds.Missing.{Missing}
use Rattle.mbe_semantics.specs.declared.fragment_kinds.Missing.TheVariants as defaults
use Rattle.mbe_semantics.specs.Syntax.Op as ops
use Rattle.mbe_semantics.specs.Syntax.Op.{Name, Token, Separator, Expression, ignore, count, index, len, concat, Op}
use Rattle.mbe_semantics.specs.Syntax.Op.{Ops, no_ops, op}
use Rattle.mbe_semantics.specs.Fragments.Kinds.{facts, Style, plain, stripped, as_expression, as_path, whole}
use Rattle.mbe_semantics.specs.Fragments.Kinds.{style_of}
use Rattle.mbe_semantics.specs.declared.fragment_kinds.MetaVarKind.TheVariants as kinds
use Rattle.mbe_semantics.specs.Readings.Item.{Fragment}
use Rattle.mbe_semantics.specs.Readings.Input.{input_of}
use Rattle.mbe_semantics.specs.Bindings.Missing.{missing_trees, default_trees}
use Rattle.mbe_semantics.specs.Fragments.FragmentFront.{fragment_front, is_rustc}
use Rattle.mbe_semantics.specs.Bindings.Environment.{Value, fragment, list, empty, missing, Environment, value_of}
use Rattle.mbe_semantics.specs.Bindings.Environment.{environment_of}
use Rattle.mbe_semantics.specs.Transcription.Rounds.{Path, Extent, finite, endless, kept_rounds, follow, followed}
use Rattle.mbe_semantics.specs.Transcription.Rounds.{level}
use Rattle.mbe_semantics.specs.Transcription.Concat.{concat_text}
use Rattle.mbe_semantics.specs.Transcription.FragmentTrees.{needs_parentheses, path_trees, double_colon}
use Rattle.mbe_semantics.specs.Transcription.FragmentTrees.{IsParenthesized, IsFragmentOutput, inside_group}
use Rattle.mbe_semantics.specs.Transcription.FragmentTrees.{group_for}
use Rattle.mbe_semantics.specs.Transcription.Substitution.{separator_trees, AreRounds, AreKeptRounds, AreMarkedPuncts}
use Rattle.mbe_semantics.specs.Transcription.Substitution.{IsMarked, IsVariable, IsConcat, IsExpression, Writes}
use Rattle.mbe_semantics.specs.Transcription.Substitution.{Substitutes}
use Rattle.mbe_semantics.specs.Laws.Laws.{IsSpanIn, WrittenInPlace, unbound_span, kept_spans_of_op, kept_spans}
use Rattle.mbe_semantics.specs.Laws.Laws.{spans_of_token, spans_of_expression, marked_spans_of_op, marked_spans}
use Rattle.mbe_semantics.specs.Laws.Laws.{SpansHaveSources, IsGroupSpan}
use Rattle.mbe_tt.specs.declared.fragment_group.FragmentGroup.{FragmentGroup}
use Rattle.mbe_tt.specs.declared.grammar.Dialect.{Dialect}
use Rattle.mbe_tt.specs.declared.grammar.Dialect.TheVariants.{RustAnalyzer, Rustc}
use Rattle.mbe_tt.specs.Trees.FragmentGroup.{is_around, span_around}
use Rattle.mbe_semantics.proofs.FrontLemmas.{takes_cut}
use Rattle.mbe_semantics.proofs.InputLemmas.{fragment_from, fragment_style}
use Rattle.mbe_laws.proofs.Writing.SourceLemmas as sources

-- ---- spans of trees

same_leaf : (l : Leaf) → span_of (alone_leaf l) ≡ span_of l
same_leaf (literal l) = refl
same_leaf (punct p) = refl
same_leaf (ident i) = refl

-- the spacing of a last punct is in no span
same_alone : (f : Forest) → spans_of (alone f) ≡ spans_of f
same_alone none = refl
same_alone (leaf l none) = ap (λ s. s ∷ []) (same_leaf l)
same_alone (leaf l (leaf m rest)) = ap (λ ss. span_of l ∷ ss) (same_alone (leaf m rest))
same_alone (leaf l (group d inside rest)) = ap (λ ss. span_of l ∷ ss) (same_alone (group d inside rest))
same_alone (group d inside none) = refl
same_alone (group d inside (leaf l rest)) =
    ap (λ ss. d.opening ∷ (spans_of inside ++ d.close ∷ ss)) (same_alone (leaf l rest))
same_alone (group d inside (group e more rest)) =
    ap (λ ss. d.opening ∷ (spans_of inside ++ d.close ∷ ss)) (same_alone (group e more rest))

in_left : (s : Span) (xs ys : List Span) → IsSpanIn s xs → IsSpanIn s (xs ++ ys)
in_left s [] ys h = absurd h
in_left s (x ∷ xs) ys (inl e) = inl e
in_left s (x ∷ xs) ys (inr h) = inr (in_left s xs ys h)

in_right : (s : Span) (xs ys : List Span) → IsSpanIn s ys → IsSpanIn s (xs ++ ys)
in_right s [] ys h = h
in_right s (x ∷ xs) ys h = inr (in_right s xs ys h)

in_one : (s : Span) (xs ys : List Span) → IsSpanIn s (xs ++ ys) → IsSpanIn s xs ⊎ IsSpanIn s ys
in_one s [] ys h = inr h
in_one s (x ∷ xs) ys (inl e) = inl (inl e)
in_one s (x ∷ xs) ys (inr h) = go (in_one s xs ys h)
  where
    go : IsSpanIn s xs ⊎ IsSpanIn s ys → IsSpanIn s (x ∷ xs) ⊎ IsSpanIn s ys
    go (inl k) = inl (inr k)
    go (inr k) = inr k

-- each span of the trees
module _ (Q : Span → Type 0) where
  abbrev pub Each : Forest → Type 0
  Each none = Unit {0}
  Each (leaf l rest) = Q (span_of l) × Each rest
  Each (group d inside rest) = Q d.opening × Each inside × Q d.close × Each rest

  each_span : (f : Forest) (s : Span) → Each f → IsSpanIn s (spans_of f) → Q s
  each_span none s h k = absurd k
  each_span (leaf l rest) s h (inl e) = subst Q (sym e) h.0
  each_span (leaf l rest) s h (inr k) = each_span rest s h.1 k
  each_span (group d inside rest) s h (inl e) = subst Q (sym e) h.0
  each_span (group d inside rest) s h (inr k) =
      go (each_span inside s h.1) (each_span rest s h.3) (in_one s (spans_of inside) (d.close ∷ spans_of rest) k)
    where
      go : (IsSpanIn s (spans_of inside) → Q s) → (IsSpanIn s (spans_of rest) → Q s)
          → IsSpanIn s (spans_of inside) ⊎ IsSpanIn s (d.close ∷ spans_of rest) → Q s
      go a b (inl m) = a m
      go a b (inr (inl e)) = subst Q (sym e) h.2
      go a b (inr (inr m)) = b m

  each_of : (f : Forest) → ((s : Span) → IsSpanIn s (spans_of f) → Q s) → Each f
  each_of none h = tt
  each_of (leaf l rest) h = (h (span_of l) (inl refl), each_of rest (λ s k. h s (inr k)))
  each_of (group d inside rest) h = (
    h d.opening (inl refl),
    each_of inside (λ s k. h s (inr (in_left s (spans_of inside) (d.close ∷ spans_of rest) k))),
    h d.close (inr (in_right d.close (spans_of inside) (d.close ∷ spans_of rest) (inl refl))),
    each_of rest (λ s k. h s (inr (in_right s (spans_of inside) (d.close ∷ spans_of rest) (inr k)))),
  )

  each_append : (f g : Forest) → Each f → Each g → Each (append f g)
  each_append none g h k = k
  each_append (leaf l rest) g h k = (h.0, each_append rest g h.1 k)
  each_append (group d inside rest) g h k = (h.0, h.1, h.2, each_append rest g h.3 k)

  each_front : (f g : Forest) → Each (append f g) → Each f
  each_front none g h = tt
  each_front (leaf l rest) g h = (h.0, each_front rest g h.1)
  each_front (group d inside rest) g h = (h.0, h.1, h.2, each_front rest g h.3)

  each_rest : (f : Forest) (p : ℕ) → Each f → Each (rest_at f p)
  each_rest none p h = tt
  each_rest (leaf l rest) zero h = h
  each_rest (leaf l rest) (suc p) h = each_rest rest p h.1
  each_rest (group d inside rest) zero h = h
  each_rest (group d inside rest) (suc p) h =
      go (nat_le p (flat_len inside)) (each_rest inside p h.1) (each_rest rest (p - flat_len inside - 1) h.3)
    where
      go : (b : Bool) → Each (rest_at inside p) → Each (rest_at rest (p - flat_len inside - 1))
          → Each (if b then rest_at inside p else rest_at rest (p - flat_len inside - 1))
      go true a c = a
      go false a c = c

  each_alone : (f : Forest) → Each f → Each (alone f)
  each_alone f h = each_of (alone f) (λ s k. each_span f s h (subst (IsSpanIn s) (same_alone f) k))

  each_strip : (f : Forest) → Each f → Each (strip_invisible f)
  each_strip none h = h
  each_strip (leaf l rest) h = h
  each_strip (group d inside none) h = go d.kind
    where
      go : (k : DelimiterKind) → Each (strip_group d k inside)
      go Invisible = h.1
      go Parenthesis = h
      go Brace = h
      go Bracket = h
  each_strip (group d inside (leaf l rest)) h = h
  each_strip (group d inside (group e more rest)) h = h

  each_path : (s : Span) → Q s → (f : Forest) → Each f → Each (path_trees s f)
  each_path s q none h = tt
  each_path s q (leaf (literal l) rest) h = (h.0, each_path s q rest h.1)
  each_path s q (leaf (punct p) rest) h = (h.0, each_path s q rest h.1)
  each_path s q (leaf (ident i) none) h = h
  each_path s q (leaf (ident i) (leaf (literal l) rest)) h = (h.0, each_path s q (leaf (literal l) rest) h.1)
  each_path s q (leaf (ident i) (leaf (ident j) rest)) h = (h.0, each_path s q (leaf (ident j) rest) h.1)
  each_path s q (leaf (ident i) (group d inside rest)) h = (h.0, each_path s q (group d inside rest) h.1)
  each_path s q (leaf (ident i) (leaf (punct p) rest)) h = (h.0, go (p.char == 60) (each_path s q rest h.1.1))
    where
      go : (b : Bool) → Each (path_trees s rest)
          → Each (if b then double_colon s (leaf (punct p) (path_trees s rest)) else leaf (punct p) (path_trees s rest))
      go true k = (q, (q, (h.1.0, k)))
      go false k = (h.1.0, k)
  each_path s q (group d inside rest) h = (h.0, h.1, h.2, each_path s q rest h.3)

  each_inside : (k : FragmentGroup) (f : Forest) → Each f → Each (inside_group k f)
  each_inside k none h = h
  each_inside k (leaf l rest) h = h
  each_inside k (group d inside none) h = go (is_around k d)
    where
      go : (b : Bool) → Each (if b then inside else group d inside none)
      go true = h.1
      go false = h
  each_inside k (group d inside (leaf l rest)) h = h
  each_inside k (group d inside (group e more rest)) h = h

  each_missing : (missing : Missing) (s : Span) → Q s → Each (missing_trees missing s)
  each_missing defaults.Nothing s q = tt
  each_missing defaults.Semicolon s q = (q, tt)
  each_missing defaults.Braces s q = (q, tt, q, tt)
  each_missing defaults.Lifetime s q = (q, (q, tt))
  each_missing defaults.Identifier s q = (q, tt)

  each_default : (kind : MetaVarKind) (s : Span) → Q s → Each (default_trees kind s)
  each_default kind s q = each_missing (facts kind).missing s q

-- ---- fragments of a reading

-- the trees are in the argument, at some place
InPlace : Forest → Fragment → Type 0
InPlace argument x = (p : ℕ) × (back : Forest) × (rest_at argument p ≡ append x.trees back)

in_offset : (g : Grammar) (argument : Forest) (kind : Option MetaVarKind) (p : ℕ) (x : Fragment)
    → (input_of g argument).fragment_at kind p ≡ Some x → InPlace argument x
unfolding InPlace
in_offset g argument kind p x e =
    let r = fragment_from g.dialect kind (fragment_front g kind (rest_at argument p)) x e in
    let c : Cut = r.0 in
    (p, c.back, sym (takes_cut g kind (rest_at argument p) c r.1) ∙ ap (λ t. append t c.back) r.2)

pub written_in_place : (Marks : Span → Span → Type 0) → WrittenInPlace Marks
unfolding InPlace
written_in_place Marks g call_site pattern argument is path name kind span x out r f s w =
    let h : InPlace argument x = sources.followed_has (InPlace argument) (environment_of is) path name (fragment x)
    (sources.reading_has (InPlace argument) (input_of g argument) (in_offset g argument) is pattern r.0) f in
    let o : out ≡ alone (strip_invisible x.trees) = written (value_of (environment_of is) name) f w in
    (h.0, h.1, h.2, o, ap spans_of o ∙ same_alone (strip_invisible x.trees))
  where
    written : (v : Option Value) → option_and_then (follow path) v ≡ Some (fragment x) →
        IsVariable g Marks call_site (environment_of is) name span v (option_and_then (follow path) v) out
        → out ≡ alone (strip_invisible x.trees)
    written None e k = absurd (none-some (fragment x) e)
    written (Some v) e k =
        subst (λ y. IsFragmentOutput Marks call_site y span x.trees out) s
        (subst (λ u. IsVariable g Marks call_site (environment_of is) name span (Some v) u out) e k)

-- a fragment is emitted whole in rustc's dialect alone
abbrev IsWholeInRustc : Grammar → Fragment → Type 0
IsWholeInRustc g x = (kind : MetaVarKind) → x.style ≡ whole kind → is_rustc g.dialect ≡ true

whole_in_rustc : (d : Dialect) (kind : Option MetaVarKind) (k : MetaVarKind) → style_of d kind ≡ whole k
    → is_rustc d ≡ true
whole_in_rustc Rustc kind k e = refl
whole_in_rustc RustAnalyzer None k e = cc
whole_in_rustc RustAnalyzer (Some kinds.Path) k e = cc
whole_in_rustc RustAnalyzer (Some kinds.Ty) k e = cc
whole_in_rustc RustAnalyzer (Some kinds.Pat) k e = cc
whole_in_rustc RustAnalyzer (Some kinds.PatParam) k e = cc
whole_in_rustc RustAnalyzer (Some kinds.Stmt) k e = cc
whole_in_rustc RustAnalyzer (Some kinds.Block) k e = cc
whole_in_rustc RustAnalyzer (Some kinds.Meta) k e = cc
whole_in_rustc RustAnalyzer (Some kinds.Item) k e = cc
whole_in_rustc RustAnalyzer (Some kinds.Vis) k e = cc
whole_in_rustc RustAnalyzer (Some (kinds.Expr x)) k e = cc
whole_in_rustc RustAnalyzer (Some kinds.Ident) k e = cc
whole_in_rustc RustAnalyzer (Some kinds.Tt) k e = cc
whole_in_rustc RustAnalyzer (Some kinds.Lifetime) k e = cc
whole_in_rustc RustAnalyzer (Some kinds.Literal) k e = cc

-- ---- what a template writes

module _ (g : Grammar) (Marks : Span → Span → Type 0) (call_site : Span) (env : Environment) (Q : Span → Type 0)
    (T : Span → Type 0) (marks : (s t : Span) → T s → Marks s t → Q t) (site : Q call_site)
    (around : is_rustc g.dialect ≡ true → (s : Span) (k : FragmentGroup) → T s → Q (span_around k s))
    (has : sources.EnvironmentHas (λ x. Each Q x.trees × IsWholeInRustc g x) env) where
  puncts_each : (ps : List Punct) (out : Forest) → ((s : Span) → IsSpanIn s (map (λ p. p.span) ps) → T s)
      → AreMarkedPuncts g Marks call_site env ps out → Each Q out
  puncts_each [] out own e = subst (Each Q) (sym e) tt
  puncts_each (p ∷ ps) out own (marked, rest, m, more, e) =
      subst (Each Q) (sym e) (
        marks p.span marked (own p.span (inl refl)) m,
        puncts_each ps rest (λ s k. own s (inr k)) more,
      )

  token_each : (t : Token) (out : Forest) → ((s : Span) → IsSpanIn s (spans_of_token t) → T s)
      → IsMarked g Marks call_site env t out → Each Q out
  token_each (ops.literal l) out own (marked, m, e) =
      subst (Each Q) (sym e) (marks l.span marked (own l.span (inl refl)) m, tt)
  token_each (ops.ident i) out own (marked, m, e) =
      subst (Each Q) (sym e) (marks i.span marked (own i.span (inl refl)) m, tt)
  token_each (ops.puncts ps) out own w = puncts_each ps out own w

  parenthesized_each : (b : Bool) (span : Span) (f out : Forest) → T span → Each Q f
      → IsParenthesized Marks b span f out → Each Q out
  parenthesized_each false span f out own h e = subst (Each Q) (sym e) h
  parenthesized_each true span f out own h (marked, m, e) = let q : Q marked =
      marks span marked own m in subst (Each Q) (sym e) (q, h, q, tt)

  written_each : (style : Style) (span : Span) (f out : Forest) → T span → Each Q f
      → ((kind : MetaVarKind) → style ≡ whole kind → is_rustc g.dialect ≡ true)
      → IsFragmentOutput Marks call_site style span f out → Each Q out
  written_each (whole kind) span f out own h r e =
      let q = around (r kind refl) span (group_for kind f) own in
      subst (Each Q) (sym e) (
        q,
        each_alone Q (inside_group (group_for kind f) f) (each_inside Q (group_for kind f) f h),
        q,
        tt,
      )
  written_each plain span f out own h r e = subst (Each Q) (sym e) (each_alone Q f h)
  written_each stripped span f out own h r e =
      subst (Each Q) (sym e) (each_alone Q (strip_invisible f) (each_strip Q f h))
  written_each as_path span f out own h r e = subst (Each Q) (sym e) (each_path Q call_site site f h)
  written_each as_expression span f out own h r w =
      parenthesized_each (needs_parentheses (strip_invisible f)) span (alone (strip_invisible f)) out own
      (each_alone Q (strip_invisible f) (each_strip Q f h)) w

  variable_each : (name : Name) (span : Span) (v w : Option Value) (out : Forest) → T span
      → ((s : Span) → IsSpanIn s (unbound_span v span) → Q s) →
      ((u : Value) → w ≡ Some u → sources.ValueHas (λ x. Each Q x.trees × IsWholeInRustc g x) u)
      → IsVariable g Marks call_site env name span v w out → Each Q out
  variable_each name span None w out own kept h e = let q : Q span =
      kept span (inl refl) in subst (Each Q) (sym e) (q, (q, tt))
  variable_each name span (Some v) None out own kept h e = absurd e
  variable_each name span (Some v) (Some (fragment x)) out own kept h e =
      let k = h (fragment x) refl in written_each x.style span x.trees out own k.0 k.1 e
  variable_each name span (Some v) (Some (missing kind)) out own kept h (marked, m, e) =
      subst (Each Q) (sym e) (each_default Q kind marked (marks span marked own m))
  variable_each name span (Some v) (Some (list vs)) out own kept h e = absurd e
  variable_each name span (Some v) (Some empty) out own kept h e = absurd e

  concat_each : (span : Span) (text : Option (List ℕ)) (out : Forest) → T span
      → IsConcat g Marks call_site env span text out → Each Q out
  concat_each span None out own e = absurd e
  concat_each span (Some text) out own (marked, m, e) = subst (Each Q) (sym e) (marks span marked own m, tt)

  expression_each : (path : Path) (x : Expression) (out : Forest)
      → ((s : Span) → IsSpanIn s (spans_of_expression x) → T s) → IsExpression g Marks call_site env path x out
      → Each Q out
  expression_each path (ignore name span) out own e = subst (Each Q) (sym e) tt
  expression_each path (count name depth) out own e = subst (Each Q) (sym e) (site, tt)
  expression_each path (index depth) out own e = subst (Each Q) (sym e) (site, tt)
  expression_each path (len depth) out own e = subst (Each Q) (sym e) (site, tt)
  expression_each path (concat elements span) out own w =
      concat_each span (concat_text env path elements) out (own span (inl refl)) w

  rounds_each : (separator : Forest) (round : ℕ → Forest → Type 0) (n : ℕ) (out : Forest) → Each Q separator
      → ((i : ℕ) (o : Forest) → round i o → Each Q o) →
      AreRounds separator round n out → Each Q out
  rounds_each separator round zero out k f e = subst (Each Q) (sym e) tt
  rounds_each separator round (suc zero) out k f r = f 0 out r
  rounds_each separator round (suc (suc n)) out k f (before, last, rs, r, e) =
      subst (Each Q) (sym e) (each_append Q before (append separator last)
      (rounds_each separator round (suc n) before k f rs) (each_append Q separator last k (f (suc n) last r)))

  kept_each : (separator : Forest) (round : ℕ → ℕ → Forest → Type 0) (e : Extent) (out : Forest) → Each Q separator
      → ((n i : ℕ) (o : Forest) → round i n o → Each Q o) →
      AreKeptRounds separator round e out → Each Q out
  kept_each separator round endless out k f r = absurd r
  kept_each separator round (finite n) out k f r = rounds_each separator (λ i. round i n) n out k (f n) r

  mutual
    writes_each : (o : Op) (path : Path) (out : Forest) → ((s : Span) → IsSpanIn s (marked_spans_of_op o) → T s)
        → ((s : Span) → IsSpanIn s (kept_spans_of_op env o) → Q s) → Writes g Marks call_site env path o out
        → Each Q out
    writes_each (ops.token t) path out own kept w = token_each t out own w
    writes_each (ops.group d body) path out own kept (opening, close, inside, m, n, b, e) =
        subst (Each Q) (sym e) (
          marks d.opening opening (own d.opening (inl refl)) m,
          substitutes_each body path inside (λ s k. own s (inr (inr k))) kept b,
          marks d.close close (own d.close (inr (inl refl))) n,
          tt,
        )
    writes_each (ops.variable name kind span) path out own kept w =
        variable_each name span (value_of env name) (followed env path name) out (own span (inl refl)) kept
        (λ u e. sources.followed_has (λ x. Each Q x.trees × IsWholeInRustc g x) env path name u has e) w
    writes_each (ops.repetition body separator repeat) path out own kept w =
        kept_each (separator_trees separator) (λ i n. Substitutes g Marks call_site env (level i n path) body)
        (kept_rounds repeat env path body) out
        (each_of Q (separator_trees separator)
        (λ s k. kept s (in_left s (spans_of (separator_trees separator)) (kept_spans env body) k)))
        (λ n i o r. substitutes_each body (level i n path) o own
        (λ s k. kept s (in_right s (spans_of (separator_trees separator)) (kept_spans env body) k)) r) w
    writes_each (ops.expression x) path out own kept w = expression_each path x out own w

    substitutes_each : (os : Ops) (path : Path) (out : Forest) → ((s : Span) → IsSpanIn s (marked_spans os) → T s)
        → ((s : Span) → IsSpanIn s (kept_spans env os) → Q s) → Substitutes g Marks call_site env path os out
        → Each Q out
    substitutes_each no_ops path out own kept e = subst (Each Q) (sym e) tt
    substitutes_each (op o os) path out own kept (first, rest, w, b, e) =
        subst (Each Q) (sym e) (each_append Q first rest
        (writes_each o path first (λ s k. own s (in_left s (marked_spans_of_op o) (marked_spans os) k))
        (λ s k. kept s (in_left s (kept_spans_of_op env o) (kept_spans env os) k)) w)
        (substitutes_each os path rest (λ s k. own s (in_right s (marked_spans_of_op o) (marked_spans os) k))
        (λ s k. kept s (in_right s (kept_spans_of_op env o) (kept_spans env os) k)) b))

abbrev Source : Grammar → (Span → Span → Type 0) → Span → List Span → List Span → List Span → Span → Type 0
Source g Marks call_site marked kept spans s =
    ((t : Span) × IsSpanIn t marked × Marks t s)
    ⊎ ((s ≡ call_site) ⊎ (IsSpanIn s kept ⊎ (IsSpanIn s spans ⊎ IsGroupSpan g marked s)))

pub spans_have_sources : (Marks : Span → Span → Type 0) → SpansHaveSources Marks
unfolding InPlace
spans_have_sources Marks g style argument call_site rs n out (r, a, first, (inside, b, e)) span k =
    each_span Q out span (subst (Each Q) (sym e) (site, inner, site, tt)) k
  where
    env : Environment
    env = environment_of a.items

    Q : Span → Type 0
    Q = Source g Marks call_site (marked_spans r.writes) (kept_spans env r.writes) (spans_of argument)

    site : Q call_site
    site = inr (inl refl)

    argument_each : Each Q argument
    argument_each = each_of Q argument (λ s h. inr (inr (inr (inl h))))

    taken : (kind : Option MetaVarKind) (p : ℕ) (x : Fragment) → (input_of g argument).fragment_at kind p ≡ Some x
        → Each Q x.trees × IsWholeInRustc g x
    taken kind p x f = let h = in_offset g argument kind p x f in (
      each_front Q x.trees h.1 (subst (Each Q) h.2 (each_rest Q argument h.0 argument_each)),
      λ k q. whole_in_rustc g.dialect kind k
          (sym (fragment_style g.dialect kind (fragment_front g kind (rest_at argument p)) x f) ∙ q),
    )

    has : sources.EnvironmentHas (λ x. Each Q x.trees × IsWholeInRustc g x) env
    has = sources.reading_has (λ x. Each Q x.trees × IsWholeInRustc g x) (input_of g argument) taken a.items r.reads
        (a.fits).1.0.0

    inner : Each Q inside
    inner = substitutes_each g Marks call_site env Q (λ s. IsSpanIn s (marked_spans r.writes))
        (λ s t o m. inl (s, o, m)) site (λ r s k o. inr (inr (inr (inr (r, (s, k, o, refl)))))) has r.writes [] inside
        (λ s h. h) (λ s h. inr (inr (inl h))) b
