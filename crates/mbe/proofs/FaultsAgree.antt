-- A template faults exactly where it has a first fault.
use Rattle.std.specs.Prelude.{◌≡◌, ◌⊎◌, ◌<◌, ◌≤◌, ◌^◌, ◌||◌, ◌++◌, ℕ, zero, suc, Bool, true, false, not, nat_lt, nat_le}
use Rattle.std.specs.Prelude.{if◌then◌else◌, List, [], ◌∷◌, chars, Option, Some, None, is_some, is_none, option_map}
use Rattle.std.specs.Prelude.{option_and_then, refl}
use Rattle.std.specs.Option.{option_or}
use Rattle.std.proofs.Common.{ap, sym, ◌∙◌, arith, inl, inr}
use Rattle.std.proofs.lemmas.Bool.{true≢false, ne_eqb}
use Rattle.std.proofs.lemmas.Bool.Decides.{leb_tells}
use Rattle.mbe_tt.specs.declared.span.Span.{Span}
use Rattle.mbe_semantics.specs.declared.fragment_kinds.RepeatKind.{RepeatKind}
use Rattle.mbe_semantics.specs.declared.fragment_kinds.RepeatKind.TheVariants.{ZeroOrMore, OneOrMore, ZeroOrOne}
use Rattle.mbe_semantics.specs.Syntax.Op as ops
use Rattle.mbe_semantics.specs.Syntax.Op.{Name, Element, ident_element, literal_element, variable_element, Expression}
use Rattle.mbe_semantics.specs.Syntax.Op.{ignore, count, index, len, concat, Op, Ops, no_ops, op}
use Rattle.mbe_semantics.specs.Bindings.Environment.{Value, fragment, list, empty, missing, Environment, value_of}
use Rattle.mbe_semantics.specs.Expansion.Error.{ExpandErrorKind, ExpandError}
use Rattle.mbe_semantics.specs.Transcription.Rounds.{Path, member, follow, followed, Extent, finite, endless}
use Rattle.mbe_semantics.specs.Transcription.Rounds.{kept_rounds, level, value_total}
use Rattle.mbe_semantics.specs.Transcription.Concat.{text_of_value, text_of_element, joined_text, are_identifier_chars}
use Rattle.mbe_semantics.specs.Transcription.Concat.{if_identifier}
use Rattle.mbe_semantics.specs.Transcription.Substitution.{is_simple, is_counted, expression_faults, extent_faults}
use Rattle.mbe_semantics.specs.Transcription.Substitution.{any_below, any_round, op_faults, faults, total_of}
use Rattle.mbe_transcriber.specs.TemplateFaults.{number_fault, count_fault, bound_fault, find_first, first_below}
use Rattle.mbe_transcriber.specs.TemplateFaults.{first_round, text_fault, or_empty, joined, identifier_fault}
use Rattle.mbe_transcriber.specs.TemplateFaults.{variable_fault, required_fault, element_fault, expression_fault}
use Rattle.mbe_transcriber.specs.TemplateFaults.{op_fault, first_fault}
use Rattle.mbe_variables.specs.LookupErrors.{at, lookup_error_in, lookup_error, lookup_error_kind, not_simple}
use Rattle.mbe_variables.specs.LookupErrors.{simple_fault, extent_fault}

-- ---- there is one

some_or : {X : Type 0} (a b : Option X) → is_some (option_or a b) ≡ (is_some a || is_some b)
some_or None b = refl
some_or (Some x) b = refl

some_map : {X Y : Type 0} (f : X → Y) (a : Option X) → is_some (option_map f a) ≡ is_some a
some_map f None = refl
some_map f (Some x) = refl

some_unless : {X : Type 0} (b : Bool) (x : X) → is_some (if b then None else Some x) ≡ not b
some_unless true x = refl
some_unless false x = refl

-- ---- what a path leads to

-- it leads to a value, or is lost
abbrev Leads : {L : Type 0} → Option L → Option Value → Type 0
Leads {L} l v = ((l ≡ None) × (w : Value) × (v ≡ Some w)) ⊎ ((k : L) × (l ≡ Some k) × (v ≡ None))

leads_in : (path : Path) (m : Option Value) → ((w : Value) → Leads (lookup_error path w) (follow path w))
    → Leads (lookup_error_in (lookup_error path) m) (option_and_then (follow path) m)
leads_in path None h = inr (_, refl, refl)
leads_in path (Some w) h = h w

leads : (path : Path) (v : Value) → Leads (lookup_error path v) (follow path v)
leads [] v = inl (refl, v, refl)
leads (l ∷ path) (fragment x) = inl (refl, fragment x, refl)
leads (l ∷ path) (missing kind) = inl (refl, missing kind, refl)
leads (l ∷ path) empty = inr (_, refl, refl)
leads (l ∷ path) (list vs) = leads_in path (member vs l.index) (leads path)

plural_some : (name : Name) (w : Value) → is_some (not_simple name (Some w)) ≡ not (is_simple (Some w))
plural_some name (fragment x) = refl
plural_some name (missing kind) = refl
plural_some name (list vs) = refl
plural_some name empty = refl

simple_some : {L : Type 0} (kind : L → ExpandErrorKind) (name : Name) (l : Option L) (v : Option Value) → Leads l v
    → is_some (option_or (option_map kind l) (not_simple name v)) ≡ not (is_simple v)
simple_some kind name l v (inl (e, w, d)) = rw (e, d) (plural_some name w)
simple_some kind name l v (inr (k, e, d)) = rw (e, d) refl

count_some : {L : Type 0} (kind : L → ExpandErrorKind) (depth : ℕ) (l : Option L) (v : Option Value) → Leads l v
    → is_some (option_or (option_map kind l) (number_fault (total_of depth v))) ≡ not (is_counted depth v)
count_some kind depth l v (inl (e, w, d)) = rw (e, d) (some_unless (nat_lt (value_total depth w) (2 ^ 64)) _)
count_some kind depth l v (inr (k, e, d)) = rw (e, d) refl

pub variable_some : (name : Name) (path : Path) (o : Option Value)
    → is_some (option_and_then (simple_fault name path) o)
    ≡ (if is_none o then false else not (is_simple (option_and_then (follow path) o)))
variable_some name path None = refl
variable_some name path (Some v) =
    simple_some (lookup_error_kind name) name (lookup_error path v) (follow path v) (leads path v)

needed_some : (name : Name) (path : Path) (o : Option Value)
    → is_some (bound_fault name (simple_fault name path) o) ≡ not (is_simple (option_and_then (follow path) o))
needed_some name path None = refl
needed_some name path (Some v) =
    simple_some (lookup_error_kind name) name (lookup_error path v) (follow path v) (leads path v)

counted_some : (name : Name) (depth : ℕ) (path : Path) (o : Option Value)
    → is_some (bound_fault name (count_fault name depth path) o)
    ≡ not (is_counted depth (option_and_then (follow path) o))
counted_some name depth path None = refl
counted_some name depth path (Some v) =
    count_some (lookup_error_kind name) depth (lookup_error path v) (follow path v) (leads path v)

-- ---- identifiers that are joined

-- of an element or several: a text and no fault, or a fault and no text
abbrev Texts : Option ExpandError → Option (List ℕ) → List ℕ → Type 0
Texts fault text all = ((fault ≡ None) × (text ≡ Some all)) ⊎ ((e : ExpandError) × (fault ≡ Some e) × (text ≡ None))

module _ (env : Environment) (path : Path) where
  variable_text : (span : Span) (n : Option ExpandErrorKind) (v : Option Value) → is_some n ≡ not (is_simple v)
      → Texts (option_map (at span) (option_or n (text_fault (option_and_then text_of_value v))))
      (option_and_then text_of_value v) (or_empty (option_and_then text_of_value v))
  variable_text span None (Some (fragment x)) h = go (text_of_value (fragment x))
    where
      go : (t : Option (List ℕ)) → Texts (option_map (at span) (text_fault t)) t (or_empty t)
      go None = inr (_, refl, refl)
      go (Some text) = inl (refl, refl)
  variable_text span None (Some (missing kind)) h = go (text_of_value (missing kind))
    where
      go : (t : Option (List ℕ)) → Texts (option_map (at span) (text_fault t)) t (or_empty t)
      go None = inr (_, refl, refl)
      go (Some text) = inl (refl, refl)
  variable_text span None (Some (list vs)) h = inr (_, refl, refl)
  variable_text span None (Some empty) h = inr (_, refl, refl)
  variable_text span None None h = inr (_, refl, refl)
  variable_text span (Some k) None h = inr (_, refl, refl)
  variable_text span (Some k) (Some (list vs)) h = inr (_, refl, refl)
  variable_text span (Some k) (Some empty) h = inr (_, refl, refl)
  variable_text span (Some k) (Some (fragment x)) h = absurd (true≢false h)
  variable_text span (Some k) (Some (missing kind)) h = absurd (true≢false h)

  element_text : (e : Element) → Texts (element_fault env path e) (text_of_element env path e)
      (or_empty (text_of_element env path e))
  element_text (ident_element i) = inl (refl, refl)
  element_text (literal_element l) = inl (refl, refl)
  element_text (variable_element i) = variable_text i.span (required_fault env path i.sym) (followed env path i.sym)
      (needed_some i.sym path (value_of env i.sym))

  joined_more : (f g : Option ExpandError) (t u : Option (List ℕ)) (a b : List ℕ) → Texts f t a → Texts g u b
      → Texts (option_or f g) (option_and_then (λ text. option_map (λ more. text ++ more) u) t) (a ++ b)
  joined_more f g t u a b (inl (x, y)) (inl (z, w)) = rw (x, y, z, w) (inl (refl, refl))
  joined_more f g t u a b (inl (x, y)) (inr (e, z, w)) = rw (x, y, z, w) (inr (e, refl, refl))
  joined_more f g t u a b (inr (e, x, y)) h = rw (x, y) (inr (e, refl, refl))

  joined_texts : (es : List Element) → Texts (find_first (element_fault env path) es) (joined_text env path es)
      (joined env path es)
  joined_texts [] = inl (refl, refl)
  joined_texts (e ∷ es) = joined_more (element_fault env path e) (find_first (element_fault env path) es)
      (text_of_element env path e) (joined_text env path es)
      (or_empty (text_of_element env path e)) (joined env path es) (element_text e) (joined_texts es)

  concat_some : (span : Span) (f : Option ExpandError) (t : Option (List ℕ)) (all : List ℕ) → Texts f t all
      → is_some (option_or f (option_map (at span) (identifier_fault all))) ≡ is_none (option_and_then if_identifier t)
  concat_some span f t all (inr (e, x, y)) = rw (x, y) refl
  concat_some span f t all (inl (x, y)) = rw (x, y) (go _ (are_identifier_chars (chars all)))
    where
      go : (k : ExpandErrorKind) (b : Bool)
          → is_some (option_map (at span) (if b then None else Some k)) ≡ is_none (if b then Some all else None)
      go k true = refl
      go k false = refl

-- ---- rounds

-- no number below another is as great
not_less : (n k : ℕ) → not (nat_lt n k) ≡ nat_le k n
not_less n k = go (leb_tells k n) (leb_tells (suc n) k)
  where
    go : ((nat_le k n ≡ true) × (k ≤ n)) ⊎ ((nat_le k n ≡ false) × (n < k))
        → ((nat_lt n k ≡ true) × (suc n ≤ k)) ⊎ ((nat_lt n k ≡ false) × (k < suc n))
        → not (nat_lt n k) ≡ nat_le k n
    go (inl (e, l)) (inl (d, m)) = absurd (omega (arith, l, m))
    go (inl (e, l)) (inr (d, m)) = rw (e, d) refl
    go (inr (e, l)) (inl (d, m)) = rw (e, d) refl
    go (inr (e, l)) (inr (d, m)) = absurd (omega (arith, l, m))

extent_some : (repeat : RepeatKind) (e : Extent) → is_some (extent_fault repeat e) ≡ extent_faults repeat e
extent_some ZeroOrOne endless = refl
extent_some ZeroOrOne (finite n) = refl
extent_some ZeroOrMore endless = refl
extent_some OneOrMore endless = refl
extent_some ZeroOrMore (finite n) = some_unless (nat_lt n 65536) _ ∙ not_less n 65536
extent_some OneOrMore (finite zero) = refl
extent_some OneOrMore (finite (suc n)) =
    some_unless (nat_lt (suc n) 65536) _ ∙ not_less (suc n) 65536
    ∙ ap (λ b. b || nat_le 65536 (suc n)) (sym (ne_eqb (suc n) 0 (λ e. omega (arith, e))))

below_some : (f : ℕ → Option ExpandError) (test : ℕ → Bool) → ((i : ℕ) → is_some (f i) ≡ test i) → (n : ℕ)
    → is_some (first_below f n) ≡ any_below test n
below_some f test h zero = refl
below_some f test h (suc n) = some_or (first_below f n) (f n) ∙ ap (λ b. b || is_some (f n)) (below_some f test h n)
    ∙ ap (λ b. any_below test n || b) (h n)

round_some : (f : ℕ → ℕ → Option ExpandError) (test : ℕ → ℕ → Bool) → ((i n : ℕ) → is_some (f i n) ≡ test i n)
    → (e : Extent) → is_some (first_round f e) ≡ any_round test e
round_some f test h endless = refl
round_some f test h (finite n) = below_some (λ i. f i n) (λ i. test i n) (λ i. h i n) n

-- ---- templates

module _ (call_site : Span) (env : Environment) where
  expression_some : (path : Path) (e : Expression)
      → is_some (expression_fault call_site env path e) ≡ expression_faults env path e
  expression_some path (ignore name span) =
      some_map (at span) (required_fault env path name) ∙ needed_some name path (value_of env name)
  expression_some path (count name depth) =
      some_map (at call_site) (bound_fault name (count_fault name depth path) (value_of env name))
      ∙ counted_some name depth path (value_of env name)
  expression_some path (index depth) = refl
  expression_some path (len depth) = refl
  expression_some path (concat elements span) =
      concat_some env path span (find_first (element_fault env path) elements) (joined_text env path elements)
      (joined env path elements) (joined_texts env path elements)

  mutual
    op_some : (path : Path) (o : Op) → is_some (op_fault call_site env path o) ≡ op_faults env path o
    op_some path (ops.token t) = refl
    op_some path (ops.group d body) = first_some path body
    op_some path (ops.variable name kind span) =
        some_map (at span) (variable_fault env path name) ∙ variable_some name path (value_of env name)
    op_some path (ops.repetition body separator repeat) =
        let e = kept_rounds repeat env path body in
        some_or (option_map (at call_site) (extent_fault repeat e))
        (first_round (λ i n. first_fault call_site env (level i n path) body) e)
        ∙ ap (λ b. b || is_some (first_round (λ i n. first_fault call_site env (level i n path) body) e))
        (some_map (at call_site) (extent_fault repeat e) ∙ extent_some repeat e)
        ∙ ap (λ b. extent_faults repeat e || b)
        (round_some (λ i n. first_fault call_site env (level i n path) body)
        (λ i n. faults env (level i n path) body)
        (λ i n. first_some (level i n path) body) e)
    op_some path (ops.expression e) = expression_some path e

    pub first_some : (path : Path) (os : Ops) → is_some (first_fault call_site env path os) ≡ faults env path os
    first_some path no_ops = refl
    first_some path (op o os) =
        some_or (op_fault call_site env path o) (first_fault call_site env path os)
        ∙ ap (λ b. b || is_some (first_fault call_site env path os)) (op_some path o)
        ∙ ap (λ b. op_faults env path o || b) (first_some path os)
