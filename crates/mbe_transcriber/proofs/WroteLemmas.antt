-- What is written part by part: whether there is a fault, and the trees where there is none.
use Rattle.std.proofs.Common.{◌≡◌, ℕ, zero, suc, ◌+◌, Bool, true, false, List, [], ◌∷◌, length, Option, Some, None}
use Rattle.std.proofs.Common.{refl, ap, sym, ◌∙◌, subst, add-one}
use Rattle.std.specs.Result.{result_and}
use Rattle.std.specs.Prelude.{Result, Ok, Err, IfOk, OnOk, not, ◌||◌, is_none, is_some}
use Rattle.mbe_tt.specs.declared.span.Span.{Span}
use Rattle.mbe_tt.specs.declared.tt.Punct.{Punct}
use Rattle.mbe_tt.specs.declared.tt.Delimiter.{Delimiter}
use Rattle.mbe_tt.specs.declared.tt.DelimiterKind.TheVariants.{Invisible}
use Rattle.mbe_tt.specs.declared.tt.IdentIsRaw.{IdentIsRaw}
use Rattle.mbe_tt.specs.Trees.Leaf.{Literal, Ident, literal, ident}
use Rattle.mbe_tt.specs.Grammars.Grammar.{Grammar}
use Rattle.mbe_tt.specs.Trees.Tree as tree
use Rattle.mbe_tt.specs.Trees.Tree.{Forest, none, leaf, append, one_leaf}
use Rattle.mbe_tt.specs.Trees.Top.{Top, top_group}
use Rattle.mbe_tt.specs.Buffers.GroupStack.{GroupStack, put, closed}
use Rattle.mbe_tt.proofs.Buffers.Built.{length-put}
use Rattle.mbe_semantics.specs.declared.fragment_kinds.MetaVarKind.{MetaVarKind}
use Rattle.mbe_semantics.specs.declared.fragment_kinds.RepeatKind.{RepeatKind}
use Rattle.mbe_semantics.specs.Syntax.Op as ops
use Rattle.mbe_semantics.specs.Syntax.Op.{Name, Op, Ops, op, no_ops, Element, Separator}
use Rattle.mbe_semantics.specs.Bindings.Environment.{Environment}
use Rattle.mbe_semantics.specs.Transcription.Rounds.{Path, followed, level, level_at, kept_rounds, finite}
use Rattle.mbe_semantics.specs.Transcription.Concat.{concat_text}
use Rattle.mbe_semantics.specs.Transcription.Substitution.{IsSubstitution, separator_trees, integer, rawness, index_of}
use Rattle.mbe_semantics.specs.Transcription.Substitution.{rounds_in, total_of, is_simple, is_counted, variable_faults}
use Rattle.mbe_semantics.specs.Transcription.Substitution.{extent_faults, op_faults, faults, any_below, any_round}
use Rattle.mbe_semantics.specs.Transcription.Substitution.{AreKeptRounds, Substitutes}
use Rattle.mbe_transcriber.specs.TranscriberSteps.{AreMarked, IsMarkedLiteral, IsMarkedIdent, Wrote, IsNumber}
use Rattle.mbe_transcriber.specs.TranscriberSteps.{IsVariableWritten, IsConcatWritten, IsWritten, AreWritten}
use Rattle.mbe_transcriber.specs.TranscriberSteps.{AreRoundsWritten, IsSeparated}
use Rattle.mbe_variables.specs.FragmentWriter.{Appends}
use Rattle.mbe_variables.proofs.PutLemmas.{appended, put-none, put_both}

-- ---- Booleans

or_first : (a b : Bool) → (a || b) ≡ false → a ≡ false
or_first true b e = absurd cc
or_first false b e = refl

or_second : (a b : Bool) → (a || b) ≡ false → b ≡ false
or_second true b e = absurd cc
or_second false b e = e

or_over : (a b c : Bool) → (a || (b || c)) ≡ ((a || b) || c)
or_over true b c = refl
or_over false b c = refl

or_end : (a : Bool) → (a || false) ≡ a
or_end true = refl
or_end false = refl

-- ---- one part

pub groups_kept : (f : Forest) (old new : GroupStack) → new ≡ put f old → length new ≡ length old
groups_kept f old new e = ap length e ∙ length-put old f

pub appends_groups : (P : Forest → Type 0) (old new : GroupStack) → Appends P old new → length new ≡ length old
unfolding Appends
appends_groups P old new w = groups_kept w.0 old new w.2

closed_groups : (u : Span) (b : GroupStack) (n : ℕ) → length b ≡ suc n → length (closed u b) ≡ n
closed_groups u [] n e = absurd (cc)
closed_groups u (g ∷ outer) n e = length-put outer _ ∙ same_suc (length outer) n e
  where
    same_suc : (a b : ℕ) → suc a ≡ suc b → a ≡ b
    same_suc a b e = cc

-- nothing can fault, and these trees are written
pub wrote_trees : {P : Forest → Type 0} (f : Forest) (old new : GroupStack) → P f → new ≡ put f old
    → Wrote false false P old new
wrote_trees f old new p e = record {
  reported = refl;
  groups = groups_kept f old new e;
  written = λ _. appended _ f old new p e;
}

-- a fault, and nothing is written
pub wrote_fault : {P : Forest → Type 0} (b : Bool) (old : GroupStack) → b ≡ true → Wrote true b P old old
wrote_fault b old e = record {
  reported = sym e;
  groups = refl;
  written = λ h. absurd (let k : true ≡ false = sym e ∙ h in cc);
}

-- the same, said of another thing
pub wrote_as : {P Q : Forest → Type 0} (a b c : Bool) (old new : GroupStack) → b ≡ c → ((out : Forest) → P out → Q out)
    → Wrote a b P old new → Wrote a c Q old new
unfolding Appends
wrote_as a b c old new e k w = record {
  reported = w.reported ∙ e;
  groups = w.groups;
  written = λ h. let v = w.written (e ∙ h) in (v.0, k v.0 v.1, v.2);
}

pub number_wrote : (b : Bool) (n m : ℕ) (site : Span) (old new : GroupStack) → b ≡ true → n ≡ m
    → new ≡ put (integer n site) old → Wrote false (not b) (IsNumber m site) old new
unfolding IsNumber
number_wrote b n m site old new h e w =
    wrote_as false false (not b) old new (sym (ap not h)) (λ out x. x)
    (wrote_trees {P = λ out. out ≡ integer m site} (integer n site) old new (ap (λ k. integer k site) e) w)

pub name_written : (g : Grammar) (Marks : Span → Span → Type 0) (span : Span) (text sym_text : List ℕ)
    (is_raw : IdentIsRaw) (marked : Span) (old new : GroupStack) → sym_text ≡ text
    → is_raw ≡ rawness (g.is_keyword text) → Marks span marked
    → new ≡ put (one_leaf (ident (record { sym = sym_text; is_raw = is_raw; span = marked }))) old
    → Appends (IsConcatWritten g Marks span (Some text)) old new
unfolding IsConcatWritten
name_written g Marks span text sym_text is_raw marked old new s r m e =
    appended _ (one_leaf (ident (record { sym = sym_text; is_raw = is_raw; span = marked }))) old new
    (λ site env. (
      marked,
      m,
      ap (λ t. one_leaf (ident (record { sym = t; is_raw = is_raw; span = marked }))) s
          ∙ ap (λ b. one_leaf (ident (record { sym = text; is_raw = b; span = marked }))) r,
    )) e

pub if_ok_with : {T E : Type 0} {P Q : T → Type 0} (r : Result T E) → ((x : T) → P x → Q x) → IfOk r P → IfOk r Q
if_ok_with (Ok x) f h = f x h
if_ok_with (Err e) f h = tt

-- a call that writes and can't fault, where a fault or none is wanted
pub wrote_and_none : {T E F C : Type 0} {faulty : Bool} {P : Forest → Type 0} {old new : GroupStack} (made : Result T E)
    (all : Result (Option F) E)
    → all ≡ result_and made (Ok None) → (C → Wrote false faulty P old new) → OnOk made C
    → IfOk all (λ fault. Wrote (is_some fault) faulty P old new)
wrote_and_none (Ok x) all e f c = rw e (f c)
wrote_and_none (Err x) all e f c = rw e tt

pub literal_written : (Marks : Span → Span → Type 0) (l m : Literal) (old new : GroupStack) → Marks l.span m.span
    → m ≡ record l { span = m.span }
    → new ≡ put (one_leaf (literal m)) old → Appends (IsMarkedLiteral Marks l) old new
unfolding IsMarkedLiteral
literal_written Marks l m old new h e w =
    appended _ (one_leaf (literal m)) old new (m.span, h, ap (λ x. one_leaf (literal x)) e) w

pub ident_written : (Marks : Span → Span → Type 0) (i m : Ident) (old new : GroupStack) → Marks i.span m.span
    → m ≡ record i { span = m.span }
    → new ≡ put (one_leaf (ident m)) old → Appends (IsMarkedIdent Marks i) old new
unfolding IsMarkedIdent
ident_written Marks i m old new h e w =
    appended _ (one_leaf (ident m)) old new (m.span, h, ap (λ x. one_leaf (ident x)) e) w

pub parted_groups : (separator : Option Separator) (b : Bool) (now mid : GroupStack) → IsSeparated separator b now mid
    → length mid ≡ length now
parted_groups separator true now mid e = groups_kept _ now mid e
parted_groups separator false now mid e = ap length e

module _ (g : Grammar) (Marks : Span → Span → Type 0) (site : Span) (env : Environment) where
  module _ (p : Path) where
    -- ---- tokens and groups

    pub wrote_literal : (l : Literal) (old new : GroupStack) → Appends (IsMarkedLiteral Marks l) old new
        → Wrote false false (IsWritten g Marks site env p (ops.token (ops.literal l))) old new
    unfolding Appends IsMarkedLiteral IsWritten
    wrote_literal l old new w = wrote_trees w.0 old new w.1 w.2

    pub wrote_ident : (i : Ident) (old new : GroupStack) → Appends (IsMarkedIdent Marks i) old new
        → Wrote false false (IsWritten g Marks site env p (ops.token (ops.ident i))) old new
    unfolding Appends IsMarkedIdent IsWritten
    wrote_ident i old new w = wrote_trees w.0 old new w.1 w.2

    pub wrote_puncts : (ps qs : List Punct) (old new : GroupStack) → qs ≡ ps → Appends (AreMarked Marks qs) old new
        → Wrote false false (IsWritten g Marks site env p (ops.token (ops.puncts ps))) old new
    unfolding Appends AreMarked IsWritten
    wrote_puncts ps qs old new same w =
        let v = subst (λ us. Appends (AreMarked Marks us) old new) same w in
        wrote_trees v.0 old new (v.1 g site env) v.2

    pub wrote_group : (d : Delimiter) (s u : Span) (f : Bool) (body : Ops) (old opened mid new : GroupStack)
        → Marks d.opening s → Marks d.close u
        → opened ≡ (record { opening = s; close = s; kind = d.kind }, none) ∷ old
        → Wrote f (faults env p body) (AreWritten g Marks site env p body) opened mid
        → new ≡ closed u mid → Wrote f (faults env p body) (IsWritten g Marks site env p (ops.group d body)) old new
    unfolding Appends IsWritten AreWritten
    wrote_group d s u f body old opened mid new a b o w e = record {
      reported = w.reported;
      groups = ap length e ∙ closed_groups u mid (length old) (w.groups ∙ ap length o);
      written = λ h.
          let v = w.written h in (
            tree.group (record { opening = s; close = u; kind = d.kind }) v.0 none,
            (s, u, v.0, a, b, v.1, refl),
            e
                ∙ ap (closed u) (v.2 ∙ ap (put v.0) o),
          );
    }

    -- ---- ops one after the other

    -- What a loop over ops did: the first fault so far, and that what is written next comes after what was written.
    pub record Sofar (first : Bool) (all rest : Ops) (start now : GroupStack) : Type 0 where
      pub reported : faults env p all ≡ (first || faults env p rest)
      pub groups : length now ≡ length start
      pub written : first ≡ false → (last : GroupStack) → Appends (AreWritten g Marks site env p rest) now last
          → Appends (AreWritten g Marks site env p all) start last

    pub sofar_start : (all : Ops) (start : GroupStack) → Sofar false all all start start
    sofar_start all start = record { reported = refl; groups = refl; written = λ _ last w. w }

    wrote_more : (o : Op) (os : Ops) (old mid new : GroupStack) → Appends (IsWritten g Marks site env p o) old mid
        → Appends (AreWritten g Marks site env p os) mid new
        → Appends (AreWritten g Marks site env p (op o os)) old new
    unfolding Appends IsWritten AreWritten
    wrote_more o os old mid new v w = (append v.0 w.0, (v.0, w.0, v.1, w.1, refl), put_both v.0 w.0 old mid new v.2 w.2)

    pub sofar_next : (first f : Bool) (all : Ops) (o : Op) (rest : Ops) (start now new : GroupStack)
        → Sofar first all (op o rest) start now
        → Wrote f (op_faults env p o) (IsWritten g Marks site env p o) now new → Sofar (first || f) all rest start new
    sofar_next first f all o rest start now new h w = record {
      reported = h.reported ∙ (or_over first (op_faults env p o) (faults env p rest)
          ∙ ap (λ b. (first || b) || faults env p rest) (sym w.reported));
      groups = w.groups ∙ h.groups;
      written = λ e last v.
          h.written (or_first first f e) last
          (wrote_more o rest now new last (w.written (sym w.reported ∙ or_second first f e)) v);
    }

    nothing_written : (old : GroupStack) → Appends (AreWritten g Marks site env p no_ops) old old
    unfolding Appends AreWritten
    nothing_written old = (none, refl, put-none old)

    pub sofar_end : (first : Bool) (all : Ops) (start now : GroupStack) → Sofar first all no_ops start now
        → Wrote first (faults env p all) (AreWritten g Marks site env p all) start now
    sofar_end first all start now h = record {
      reported = sym (h.reported ∙ or_end first);
      groups = h.groups;
      written = λ e. h.written (sym (or_end first) ∙ (sym h.reported ∙ e)) now (nothing_written now);
    }

    pub sofar_step : (first f later : Bool) (all left : Ops) (o : Op) (rest : Ops) (start now new : GroupStack)
        → left ≡ op o rest → later ≡ (first || f)
        → Sofar first all left start now → Wrote f (op_faults env p o) (IsWritten g Marks site env p o) now new
        → Sofar later all rest start new
    sofar_step first f later all left o rest start now new e b h w =
        subst (λ x. Sofar x all rest start new) (sym b)
        (sofar_next first f all o rest start now new (subst (λ x. Sofar first all x start now) e h) w)

    pub sofar_done : (first : Bool) (all left : Ops) (start now : GroupStack) → left ≡ no_ops
        → Sofar first all left start now
        → Wrote first (faults env p all) (AreWritten g Marks site env p all) start now
    sofar_done first all left start now e h =
        sofar_end first all start now (subst (λ x. Sofar first all x start now) e h)

    -- ---- rounds

    -- some round is done
    abbrev pub has_begun : ℕ → Bool
    has_begun zero = false
    has_begun (suc n) = true

    -- What a loop over rounds did. A separator goes before the next where the last one didn't fault.
    pub record Rounded (separator : Option Separator) (body : Ops) (rounds done : ℕ) (first separated : Bool)
        (start now : GroupStack) : Type 0 where
      pub reported : first ≡ any_below (λ i. faults env (level i rounds p) body) done
      pub groups : length now ≡ length start
      pub parted : first ≡ false → separated ≡ has_begun done
      pub written : first ≡ false → Appends (AreRoundsWritten g Marks site env p separator body rounds done) start now

    pub rounded_start : (separator : Option Separator) (body : Ops) (rounds : ℕ) (start : GroupStack)
        → Rounded separator body rounds 0 false false start start
    unfolding Appends AreRoundsWritten
    rounded_start separator body rounds start =
        record { reported = refl; groups = refl; parted = λ _. refl; written = λ _. (none, refl, put-none start) }

    one_more : (separator : Option Separator) (body : Ops) (rounds done : ℕ) (start now mid new : GroupStack)
        → Appends (AreRoundsWritten g Marks site env p separator body rounds done) start now
        → IsSeparated separator (has_begun done) now mid
        → Appends (AreWritten g Marks site env (level done rounds p) body) mid new
        → Appends (AreRoundsWritten g Marks site env p separator body rounds (suc done)) start new
    unfolding Appends AreRoundsWritten AreWritten
    one_more separator body rounds zero start now mid new v e w =
        (w.0, w.1, w.2 ∙ ap (put w.0) (e ∙ (v.2 ∙ (ap (λ f. put f start) v.1 ∙ sym (put-none start)))))
    one_more separator body rounds (suc n) start now mid new v e w = (
      append v.0 (append (separator_trees separator) w.0),
      (v.0, w.0, v.1, w.1, refl),
      put_both v.0 (append (separator_trees separator) w.0) start now new v.2
          (put_both (separator_trees separator) w.0 now mid new e w.2),
    )

    pub rounded_next : (separator : Option Separator) (body : Ops) (rounds done : ℕ) (first separated f : Bool)
        (start now mid new : GroupStack)
        → Rounded separator body rounds done first separated start now → IsSeparated separator separated now mid
        → Wrote f (faults env (level done rounds p) body) (AreWritten g Marks site env (level done rounds p) body) mid
        new
        → Rounded separator body rounds (done + 1) (first || f) (not f) start new
    rounded_next separator body rounds done first separated f start now mid new h e w = rw add-one (record {
      reported = ap (λ b. b || f) h.reported
          ∙ ap (λ b. any_below (λ i. faults env (level i rounds p) body) done || b) w.reported;
      groups = w.groups ∙ (parted_groups separator separated now mid e ∙ h.groups);
      parted = λ k. ap not (or_second first f k);
      written = λ k.
          let before = or_first first f k in
          one_more separator body rounds done start now mid new (h.written before)
          (subst (λ b. IsSeparated separator b now mid) (h.parted before) e)
          (w.written (sym w.reported ∙ or_second first f k));
    })

    pub rounded_step : (separator : Option Separator) (body : Ops) (rounds done : ℕ)
        (first separated f later parted : Bool) (start now mid new : GroupStack) (path : Path) (ops : Ops)
        → path ≡ level done rounds p → ops ≡ body → later ≡ (first || f) → parted ≡ not f
        → Rounded separator body rounds done first separated start now → IsSeparated separator separated now mid
        → Wrote f (faults env path ops) (AreWritten g Marks site env path ops) mid new
        → Rounded separator body rounds (done + 1) later parted start new
    rounded_step separator body rounds done first separated f later parted start now mid new path ops a b l k h e w =
        subst (λ x. Rounded separator body rounds (done + 1) x parted start new) (sym l)
        (subst (λ x. Rounded separator body rounds (done + 1) (first || f) x start new) (sym k)
        (rounded_next separator body rounds done first separated f start now mid new h e
        (subst (λ x. Wrote f (faults env x body) (AreWritten g Marks site env x body) mid new) a
        (subst (λ x. Wrote f (faults env path x) (AreWritten g Marks site env path x) mid new) b w))))

    pub rounded_end : (separator : Option Separator) (body : Ops) (kind : RepeatKind) (rounds : ℕ)
        (first separated : Bool) (start now : GroupStack)
        → kept_rounds kind env p body ≡ finite rounds → extent_faults kind (finite rounds) ≡ false
        → Rounded separator body rounds rounds first separated start now
        → Wrote first (op_faults env p (ops.repetition body separator kind))
        (IsWritten g Marks site env p (ops.repetition body separator kind)) start now
    unfolding AreRoundsWritten IsWritten
    rounded_end separator body kind rounds first separated start now k x h =
        subst (λ e. Wrote first (extent_faults kind e || any_round (λ i n. faults env (level i n p) body) e)
        (λ out. AreKeptRounds (separator_trees separator) (λ i n. Substitutes g Marks site env (level i n p) body) e
        out) start now) (sym k)
        (record {
          reported = h.reported ∙ sym (ap (λ b. b || any_below (λ i. faults env (level i rounds p) body) rounds) x);
          groups = h.groups;
          written = λ e. h.written (h.reported ∙ or_second (extent_faults kind (finite rounds)) _ e);
        })

    pub rounds_refused : (separator : Option Separator) (body : Ops) (kind : RepeatKind) (old : GroupStack)
        → extent_faults kind (kept_rounds kind env p body) ≡ true
        → Wrote true (op_faults env p (ops.repetition body separator kind))
        (IsWritten g Marks site env p (ops.repetition body separator kind)) old old
    rounds_refused separator body kind old e = wrote_fault _ old (rw e refl)

    -- ---- expressions

    pub wrote_variable : (f : Bool) (name : Name) (kind : Option MetaVarKind) (span : Span) (old new : GroupStack)
        → Wrote f (variable_faults env p name) (IsVariableWritten Marks site env p name span) old new
        → Wrote f (op_faults env p (ops.variable name kind span))
        (IsWritten g Marks site env p (ops.variable name kind span)) old new
    unfolding IsVariableWritten IsWritten
    wrote_variable f name kind span old new w = wrote_as f _ _ old new refl (λ out h. h g) w

    pub wrote_index : (depth n : ℕ) (old new : GroupStack) → n ≡ index_of (level_at p depth)
        → new ≡ put (integer n site) old
        → Wrote false false (IsWritten g Marks site env p (ops.expression (ops.index depth))) old new
    unfolding IsWritten
    wrote_index depth n old new h e = wrote_trees (integer n site) old new (ap (λ m. integer m site) h) e

    pub wrote_len : (depth n : ℕ) (old new : GroupStack) → n ≡ rounds_in (level_at p depth) → new
        ≡ put (integer n site) old
        → Wrote false false (IsWritten g Marks site env p (ops.expression (ops.len depth))) old new
    unfolding IsWritten
    wrote_len depth n old new h e = wrote_trees (integer n site) old new (ap (λ m. integer m site) h) e

    pub wrote_count : (f : Bool) (name : Name) (depth : ℕ) (old new : GroupStack)
        → Wrote f (not (is_counted depth (followed env p name))) (IsNumber (total_of depth (followed env p name)) site)
        old new
        → Wrote f (op_faults env p (ops.expression (ops.count name depth)))
        (IsWritten g Marks site env p (ops.expression (ops.count name depth))) old new
    unfolding IsNumber IsWritten
    wrote_count f name depth old new w = wrote_as f _ _ old new refl (λ out h. h) w

    pub wrote_concat : (f : Bool) (elements : List Element) (span : Span) (old new : GroupStack)
        → Wrote f (is_none (concat_text env p elements)) (IsConcatWritten g Marks span (concat_text env p elements)) old
        new
        → Wrote f (op_faults env p (ops.expression (ops.concat elements span)))
        (IsWritten g Marks site env p (ops.expression (ops.concat elements span))) old new
    unfolding IsConcatWritten IsWritten
    wrote_concat f elements span old new w = wrote_as f _ _ old new refl (λ out h. h site env) w

    pub wrote_ignored : (f : Bool) (name : Name) (span : Span) (old : GroupStack)
        → f ≡ not (is_simple (followed env p name))
        → Wrote f (op_faults env p (ops.expression (ops.ignore name span)))
        (IsWritten g Marks site env p (ops.expression (ops.ignore name span))) old old
    unfolding Appends IsWritten
    wrote_ignored f name span old e = record { reported = e; groups = refl; written = λ _. (none, refl, put-none old) }

  -- ---- the whole

  pub wrote_whole : (os : Ops) (f : Bool) (start end : GroupStack) (t : Top)
      → start ≡ (record { opening = site; close = site; kind = Invisible }, none) ∷ []
      → Wrote f (faults env [] os) (AreWritten g Marks site env [] os) start end → end ≡ t ∷ []
      → faults env [] os ≡ false → IsSubstitution g Marks site env os (top_group t)
  unfolding Appends AreWritten
  wrote_whole os f start end t s w e h =
      let v = w.written h in
      let d : Delimiter = record { opening = site; close = site; kind = Invisible } in
      let all : t ∷ [] ≡ (d, v.0) ∷ [] = sym e ∙ (v.2 ∙ ap (put v.0) s) in
      let same : t ≡ (d, v.0) = cc in
      (v.0, v.1, ap top_group same)
