-- What is written part by part, beside a fault too.
use Rattle.std.proofs.Common.{◌≡◌, ℕ, zero, suc, ◌+◌, Bool, true, false, List, [], ◌∷◌, Option, Some, None, refl, ap}
use Rattle.std.proofs.Common.{sym, ◌∙◌, subst, add-one}
use Rattle.std.specs.Prelude.{Result, Ok, Err, IfOk, OnOk, not, is_some, option_map, if◌then◌else◌, chars, codes}
use Rattle.std.specs.Result.{result_and}
use Rattle.mbe_semantics.specs.Transcription.Concat.{are_identifier_chars}
use Rattle.std.proofs.lemmas.Option.{none-some}
use Rattle.mbe_tt.specs.declared.span.Span.{Span}
use Rattle.mbe_tt.specs.declared.tt.Delimiter.{Delimiter}
use Rattle.mbe_tt.specs.declared.tt.DelimiterKind.TheVariants.{Invisible}
use Rattle.mbe_tt.specs.Grammars.Grammar.{Grammar}
use Rattle.mbe_tt.specs.Trees.Tree as tree
use Rattle.mbe_tt.specs.Trees.Tree.{Forest, none, append}
use Rattle.mbe_tt.specs.Trees.Top.{Top, top_group}
use Rattle.mbe_tt.specs.Buffers.GroupStack.{GroupStack, put, closed}
use Rattle.mbe_semantics.specs.declared.fragment_kinds.MetaVarKind.{MetaVarKind}
use Rattle.mbe_semantics.specs.declared.fragment_kinds.RepeatKind.{RepeatKind}
use Rattle.mbe_semantics.specs.Syntax.Op as ops
use Rattle.mbe_semantics.specs.Syntax.Op.{Name, Token, Op, Ops, op, no_ops, Element, Separator}
use Rattle.mbe_semantics.specs.Bindings.Environment.{Environment}
use Rattle.mbe_semantics.specs.Expansion.Error.{ExpandErrorKind, ExpandError}
use Rattle.mbe_semantics.specs.Transcription.Rounds.{Path, level, kept_rounds, finite, Extent}
use Rattle.mbe_semantics.specs.Transcription.Substitution.{separator_trees, faults, op_faults}
use Rattle.mbe_transcriber.specs.TranscriberSteps.{Wrote, IsWritten, IsConcatWritten, IsSeparated}
use Rattle.mbe_variables.specs.FragmentWriter.{Appends}
use Rattle.mbe_transcriber.specs.TemplateFaults.{op_fault, joined}
use Rattle.mbe_variables.specs.LookupErrors.{at, extent_fault}
use Rattle.mbe_transcriber.specs.PartialExpansion.{unless, separator_before, concat_name, AreAllRoundsEmitted, EmitAll}
use Rattle.mbe_transcriber.specs.PartialExpansion.{IsEmitted, AreEmitted, AreRoundsBegun, IsPartialExpansion}
use Rattle.mbe_variables.proofs.PutLemmas.{put-none, put_both}

-- ---- a part that may fault

unless_none : (f : Option ExpandErrorKind) (s : Span) (P : Forest → Type 0) (out : Forest) → None ≡ option_map (at s) f
    → P out → unless f P out
unless_none None s P out e p = p
unless_none (Some k) s P out e p = absurd (none-some _ e)

unless_some : (f : Option ExpandErrorKind) (s : Span) (P : Forest → Type 0) (x : ExpandError)
    → Some x ≡ option_map (at s) f → unless f P none
unless_some None s P x e = absurd (none-some _ (sym e))
unless_some (Some k) s P x e = refl

-- ---- identifiers that are joined

pub name_is : (text all : List ℕ) → text ≡ all → are_identifier_chars (chars text) ≡ true → text ≡ concat_name all
name_is text all e i = sym (ap concat_name (sym e) ∙ ap (λ b. if b then text else codes "__ra_concat_dummy") i)

pub name_replaced : (text all : List ℕ) → text ≡ all → are_identifier_chars (chars text) ≡ false
    → codes "__ra_concat_dummy" ≡ concat_name all
name_replaced text all e i = sym (ap concat_name (sym e) ∙ ap (λ b. if b then text else codes "__ra_concat_dummy") i)

-- ---- calls

pub if_ok_by : {T E : Type 0} {P Q R S : T → Type 0} (r : Result T E) → ((x : T) → P x → Q x → R x → S x) → IfOk r P
    → IfOk r Q → IfOk r R → IfOk r S
if_ok_by (Ok x) f p q s = f x p q s
if_ok_by (Err e) f p q s = tt

-- a call that writes and can't fault, where a fault or none is wanted
pub and_none : {T E F C D : Type 0} (made : Result T E) (all : Result (Option F) E) → all ≡ result_and made (Ok None)
    → (C → D) → OnOk made C
    → IfOk all (λ fault. D)
and_none (Ok x) all e f c = rw e (f c)
and_none (Err x) all e f c = rw e tt

module _ (g : Grammar) (Marks : Span → Span → Type 0) (site : Span) (env : Environment) where
  module _ (p : Path) where
    -- ---- what can't fault

    pub left_token : (t : Token) (f : Bool) (old new : GroupStack)
        → Wrote f false (IsWritten g Marks site env p (ops.token t)) old new
        → Appends (IsEmitted g Marks site env p (ops.token t)) old new
    unfolding Appends IsWritten IsEmitted
    left_token t f old new w = w.written refl

    pub left_index : (depth : ℕ) (f : Bool) (old new : GroupStack)
        → Wrote f false (IsWritten g Marks site env p (ops.expression (ops.index depth))) old new
        → Appends (IsEmitted g Marks site env p (ops.expression (ops.index depth))) old new
    unfolding Appends IsWritten IsEmitted
    left_index depth f old new w = w.written refl

    pub left_len : (depth : ℕ) (f : Bool) (old new : GroupStack)
        → Wrote f false (IsWritten g Marks site env p (ops.expression (ops.len depth))) old new
        → Appends (IsEmitted g Marks site env p (ops.expression (ops.len depth))) old new
    unfolding Appends IsWritten IsEmitted
    left_len depth f old new w = w.written refl

    pub left_ignored : (name : Name) (span : Span) (old : GroupStack)
        → Appends (IsEmitted g Marks site env p (ops.expression (ops.ignore name span))) old old
    unfolding Appends IsEmitted
    left_ignored name span old = (none, refl, put-none old)

    pub left_concat : (elements : List Element) (span : Span) (old new : GroupStack)
        → Appends (IsConcatWritten g Marks span (Some (concat_name (joined env p elements)))) old new
        → Appends (IsEmitted g Marks site env p (ops.expression (ops.concat elements span))) old new
    unfolding Appends IsConcatWritten IsEmitted
    left_concat elements span old new w = (w.0, w.1 site env, w.2)

    -- ---- what may fault

    module _ {X : Type 0} (seen : X → ExpandError) where
      pub left_variable : (fault : Option X) (name : Name) (kind : Option MetaVarKind) (span : Span)
          (old new : GroupStack)
          → Wrote (is_some fault) (op_faults env p (ops.variable name kind span))
          (IsWritten g Marks site env p (ops.variable name kind span)) old new
          → option_map seen fault ≡ op_fault site env p (ops.variable name kind span)
          → (is_some fault ≡ true → new ≡ old)
          → Appends (IsEmitted g Marks site env p (ops.variable name kind span)) old new
      unfolding Appends IsWritten IsEmitted
      left_variable None name kind span old new w e k =
          let v = w.written (sym w.reported) in (v.0, unless_none _ span _ v.0 e v.1, v.2)
      left_variable (Some x) name kind span old new w e k =
          (none, unless_some _ span _ (seen x) e, k refl ∙ put-none old)

      pub left_count : (fault : Option X) (name : Name) (depth : ℕ) (old new : GroupStack)
          → Wrote (is_some fault) (op_faults env p (ops.expression (ops.count name depth)))
          (IsWritten g Marks site env p (ops.expression (ops.count name depth))) old new
          → option_map seen fault ≡ op_fault site env p (ops.expression (ops.count name depth))
          → (is_some fault ≡ true → new ≡ old)
          → Appends (IsEmitted g Marks site env p (ops.expression (ops.count name depth))) old new
      unfolding Appends IsWritten IsEmitted
      left_count None name depth old new w e k =
          let v = w.written (sym w.reported) in (v.0, unless_none _ site _ v.0 e v.1, v.2)
      left_count (Some x) name depth old new w e k = (none, unless_some _ site _ (seen x) e, k refl ∙ put-none old)

    -- ---- groups, and ops one after the other

    pub left_group : (d : Delimiter) (s u : Span) (body : Ops) (old opened mid new : GroupStack) → Marks d.opening s
        → Marks d.close u
        → opened ≡ (record { opening = s; close = s; kind = d.kind }, none) ∷ old
        → Appends (AreEmitted g Marks site env p body) opened mid
        → new ≡ closed u mid → Appends (IsEmitted g Marks site env p (ops.group d body)) old new
    unfolding Appends IsEmitted AreEmitted
    left_group d s u body old opened mid new a b o v e = (
      tree.group (record { opening = s; close = u; kind = d.kind }) v.0 none,
      (s, u, v.0, a, b, v.1, refl),
      e
          ∙ ap (closed u) (v.2 ∙ ap (put v.0) o),
    )

    -- what is written next comes after what was written
    abbrev pub GoesOn : Ops → Ops → GroupStack → GroupStack → Type 0
    GoesOn all rest start now = (last : GroupStack) → Appends (AreEmitted g Marks site env p rest) now last
        → Appends (AreEmitted g Marks site env p all) start last

    pub goes_on_at_first : (all : Ops) (start : GroupStack) → GoesOn all all start start
    goes_on_at_first all start last w = w

    left_more : (o : Op) (os : Ops) (old mid new : GroupStack) → Appends (IsEmitted g Marks site env p o) old mid
        → Appends (AreEmitted g Marks site env p os) mid new → Appends (AreEmitted g Marks site env p (op o os)) old new
    unfolding Appends IsEmitted AreEmitted
    left_more o os old mid new v w = (append v.0 w.0, (v.0, w.0, v.1, w.1, refl), put_both v.0 w.0 old mid new v.2 w.2)

    pub goes_on : (all left : Ops) (o : Op) (rest : Ops) (start now new : GroupStack) → left ≡ op o rest
        → GoesOn all left start now
        → Appends (IsEmitted g Marks site env p o) now new → GoesOn all rest start new
    goes_on all left o rest start now new e h w last v =
        h last (subst (λ x. Appends (AreEmitted g Marks site env p x) now last) (sym e)
        (left_more o rest now new last w v))

    nothing_left : (old : GroupStack) → Appends (AreEmitted g Marks site env p no_ops) old old
    unfolding Appends AreEmitted
    nothing_left old = (none, refl, put-none old)

    pub all_left : (all left : Ops) (start now : GroupStack) → left ≡ no_ops → GoesOn all left start now
        → Appends (AreEmitted g Marks site env p all) start now
    all_left all left start now e h = h now
        (subst (λ x. Appends (AreEmitted g Marks site env p x) now now) (sym e) (nothing_left now))

    -- ---- rounds

    -- a round is done that doesn't fault
    abbrev pub is_parted : Ops → ℕ → ℕ → Bool
    is_parted body rounds zero = false
    is_parted body rounds (suc n) = not (faults env (level n rounds p) body)

    -- what a loop over rounds has written, and whether a separator comes next
    pub record Begun (separator : Option Separator) (body : Ops) (rounds done : ℕ) (separated : Bool)
        (start now : GroupStack) : Type 0 where
      pub parted : separated ≡ is_parted body rounds done
      pub written : Appends (AreRoundsBegun g Marks site env p separator body rounds done) start now

    pub begun_at_first : (separator : Option Separator) (body : Ops) (rounds : ℕ) (start : GroupStack)
        → Begun separator body rounds 0 false start start
    unfolding Appends AreRoundsBegun
    begun_at_first separator body rounds start = record { parted = refl; written = (none, refl, put-none start) }

    parted_by : (separator : Option Separator) (b : Bool) (now mid : GroupStack) → IsSeparated separator (not b) now mid
        → mid ≡ put (if b then none else separator_trees separator) now
    parted_by separator true now mid e = e ∙ put-none now
    parted_by separator false now mid e = e

    part_put : (separator : Option Separator) (body : Ops) (rounds done : ℕ) (now mid : GroupStack)
        → IsSeparated separator (is_parted body rounds done) now mid
        → mid ≡ put (separator_before (separator_trees separator) (λ i. faults env (level i rounds p) body) done) now
    part_put separator body rounds zero now mid e = e ∙ put-none now
    part_put separator body rounds (suc n) now mid e =
        parted_by separator (faults env (level n rounds p) body) now mid e

    one_more : (separator : Option Separator) (body : Ops) (rounds done : ℕ) (start now mid new : GroupStack)
        → Appends (AreRoundsBegun g Marks site env p separator body rounds done) start now
        → mid ≡ put (separator_before (separator_trees separator) (λ i. faults env (level i rounds p) body) done) now
        → Appends (AreEmitted g Marks site env (level done rounds p) body) mid new
        → Appends (AreRoundsBegun g Marks site env p separator body rounds (suc done)) start new
    unfolding Appends AreRoundsBegun AreEmitted
    one_more separator body rounds done start now mid new v e w =
        let between = separator_before (separator_trees separator) (λ i. faults env (level i rounds p) body) done in (
          append v.0 (append between w.0),
          (v.0, w.0, v.1, w.1, refl),
          put_both v.0 (append between w.0) start now new v.2 (put_both between w.0 now mid new e w.2),
        )

    pub begun_more : (separator : Option Separator) (body : Ops) (rounds done : ℕ) (separated f later : Bool)
        (start now mid new : GroupStack) (inner : Path)
        → inner ≡ level done rounds p → f ≡ faults env inner body → later ≡ not f
        → Begun separator body rounds done separated start now → IsSeparated separator separated now mid
        → Appends (AreEmitted g Marks site env inner body) mid new
        → Begun separator body rounds (done + 1) later start new
    begun_more separator body rounds done separated f later start now mid new inner i t l h e w = rw add-one (record {
      parted = l ∙ ap not (t ∙ ap (λ q. faults env q body) i);
      written = one_more separator body rounds done start now mid new h.written
          (part_put separator body rounds done now mid (subst (λ b. IsSeparated separator b now mid) h.parted e))
          (subst (λ q. Appends (AreEmitted g Marks site env q body) mid new) i w);
    })

    pub left_rounds : (separator : Option Separator) (body : Ops) (kind : RepeatKind) (rounds : ℕ) (separated : Bool)
        (start now : GroupStack)
        → kept_rounds kind env p body ≡ finite rounds → None ≡ extent_fault kind (kept_rounds kind env p body)
        → Begun separator body rounds rounds separated start now
        → Appends (IsEmitted g Marks site env p (ops.repetition body separator kind)) start now
    unfolding Appends AreRoundsBegun IsEmitted
    left_rounds separator body kind rounds separated start now k x h =
        let rounds_left : Extent → Forest → Type 0 =
        AreAllRoundsEmitted (separator_trees separator) (λ i n. faults env (level i n p) body)
        (λ i n. EmitAll g Marks site env (level i n p) body) in
        let v = h.written in (
          v.0,
          subst (λ f. unless f (rounds_left (kept_rounds kind env p body)) v.0) x
              (subst (λ e. rounds_left e v.0) (sym k) v.1),
          v.2,
        )

    pub left_no_rounds : (separator : Option Separator) (body : Ops) (kind : RepeatKind) (fault : ExpandErrorKind)
        (old : GroupStack)
        → Some fault ≡ extent_fault kind (kept_rounds kind env p body)
        → Appends (IsEmitted g Marks site env p (ops.repetition body separator kind)) old old
    unfolding Appends IsEmitted
    left_no_rounds separator body kind fault old e =
        let rounds_left : Extent → Forest → Type 0 =
        AreAllRoundsEmitted (separator_trees separator) (λ i n. faults env (level i n p) body)
        (λ i n. EmitAll g Marks site env (level i n p) body) in
        (none, subst (λ f. unless f (rounds_left (kept_rounds kind env p body)) none) e refl, put-none old)

  -- ---- the whole

  pub left_whole : (os : Ops) (start end : GroupStack) (t : Top)
      → start ≡ (record { opening = site; close = site; kind = Invisible }, none) ∷ []
      → Appends (AreEmitted g Marks site env [] os) start end → end ≡ t ∷ []
      → IsPartialExpansion g Marks site env os (top_group t)
  unfolding Appends AreEmitted
  left_whole os start end t s v e =
      let d : Delimiter = record { opening = site; close = site; kind = Invisible } in
      let all : t ∷ [] ≡ (d, v.0) ∷ [] = sym e ∙ (v.2 ∙ ap (put v.0) s) in
      let same : t ≡ (d, v.0) = cc in
      (v.0, v.1, ap top_group same)
