-- Each literal that the lexer makes is read whole, or is a doc comment's.
use Rattle.std.proofs.Common.{◌≡◌, ℕ, ◌==◌, ◌+◌, not, ◌&&◌, if◌then◌else◌, Bool, true, false, List, [], ◌∷◌, ◌++◌, refl}
use Rattle.std.proofs.Common.{sym, ap, ◌∙◌, codes, Option, Some, None, subst}
use Rattle.mbe_tt.specs.Trees.Leaf.{Literal, literal, punct, ident}
use Rattle.mbe_tt.specs.Trees.Tree.{Forest, none, leaf, group, append, one_leaf, FlatToken, token, flat, is_same_kind}
use Rattle.mbe_tt.specs.Trees.Tree as tree
use Rattle.mbe_tt.specs.Trees.Top.{no_span}
use Rattle.mbe_tt.specs.declared.span.Edition.{Edition}
use Rattle.mbe_tt.specs.declared.span.Span.{Span}
use Rattle.mbe_tt.specs.declared.tt.Delimiter.{Delimiter}
use Rattle.mbe_tt.specs.declared.tt.DelimiterKind.TheVariants.{Bracket}
use Rattle.mbe_tt.specs.declared.tt.IdentIsRaw.TheVariants.{No}
use Rattle.mbe_tt.specs.declared.tt.Punct.{Punct}
use Rattle.mbe_tt.specs.declared.tt.Spacing.{Spacing}
use Rattle.mbe_tt.specs.declared.tt.Spacing.TheVariants.{Alone, Joint}
use Rattle.mbe_text.specs.RustText.DocComments.{DocComment, assigned_comment, is_doc_assignment}
use Rattle.mbe_text.specs.RustText.Gaps.{is_joint}
use Rattle.mbe_text.specs.RustText.Printer.{start}
use Rattle.mbe_text.specs.Whitespace.{begins_comment}
use Rattle.mbe_text.specs.Characters.{offset}
use Rattle.mbe_text.specs.LexedTrees.{ScannedToken}
use Rattle.mbe_text.specs.RustTokens.{begins_doc}
use Rattle.mbe_text.specs.Shapes.{Shape, identifier, literal_of, punct_of, lifetime_of, doc_of, opening, closing}
use Rattle.mbe_text.specs.Punctuation.{spacing_before}
use Rattle.mbe_text.specs.Tokens.{bytes_of, punct_leaf, ident_leaf, most_guards}
use Rattle.mbe_text.specs.Laws.Gaps.{is_punct}
use Rattle.mbe_text.specs.Laws.RustTrees.{AreRead, punct_flat, more_tokens, comment_after, skipped, joint_after}
use Rattle.mbe_text.proofs.ReadBack.CommentLemmas.{comment_case, may_be_comment, set_of}
use Rattle.mbe_text.proofs.ReadBack.StepLemmas.{no_doc}
use Rattle.mbe_text.proofs.ReadBack.ShapeLemmas.{Lexed}
use Rattle.mbe_text.proofs.ReadBack.TokenLemmas.{tokens_of, Tokens, last, more, Next, here_of, punct_past, next_cut}
use Rattle.mbe_text.proofs.ReadBack.TokenLemmas.{next_tail, Fits, fits_tail}
use Rattle.mbe_text.proofs.ReadBack.AfterLemmas.{self}
use Rattle.mbe_text.proofs.ReadBack.RustLemmas.{doc_leaf}

no_hash : (joint : Bool) (p : Punct) (ts : List FlatToken) → (p.char == 35) ≡ false → comment_after joint p ts ≡ None
no_hash true p ts h = refl
no_hash false p ts h = rw h refl

-- a comment's tokens are passed, where its literal is read whole
past_setting : (e : Edition) (q : Punct) (l : Literal) (d : Delimiter) (ts : List FlatToken) → q.char ≡ 61
    → AreRead e 0 false (token (punct q) ∷ (token (literal l) ∷ (tree.closing d ∷ ts))) → AreRead e 0 false ts
past_setting e q l d ts h r =
    let us : List FlatToken = token (literal l) ∷ (tree.closing d ∷ ts) in
    let plain = no_hash false q us (ap (λ (x : ℕ). x == 35) h) in
    let read : AreRead e 0 (is_joint q.spacing) us =
    subst (λ (o : Option DocComment). AreRead e (skipped o) (joint_after o q) us) plain r in
    read.1

rest_after_comment : (e : Edition) (p : Punct) (ts : List FlatToken) (c : DocComment) → punct_flat p ts ≡ Some c
    → AreRead e 0 (is_joint p.spacing) ts → AreRead e (more_tokens c.is_inner) false ts
rest_after_comment e p ts c m r =
    comment_case (λ us x. AreRead e 0 (is_joint p.spacing) us → AreRead e (more_tokens x.is_inner) false us) p ts
    (start 0) c
    (λ d hash alone k i q l end us is line are. past_setting e q l end us is.equals are)
    (λ o d hash joint bang alone k i q l end us is line are.
    let next : List FlatToken = tree.opening d ∷ (token (ident i) ∷ (token (punct q) ∷ (token
    (literal l) ∷ (tree.closing end ∷ us)))) in
    let plain = no_hash (is_joint p.spacing) o next (ap (λ (x : ℕ). x == 35) bang) in
    let read : AreRead e 0 (is_joint o.spacing) next =
    subst (λ (y : Option DocComment). AreRead e (skipped y) (joint_after y o) next) plain are in
    past_setting e q l end us is.equals read)
    m r

after_some : (joint : Bool) (o : Option DocComment) (c : DocComment) → (if joint then None else o) ≡ Some c → o ≡ Some c
after_some true o c h = absurd (cc)
after_some false o c h = h

-- a punct, which may begin a comment
punct_read : (e : Edition) (p : Punct) (ts : List FlatToken) (joint : Bool) → AreRead e 0 (is_joint p.spacing) ts
    → AreRead e 0 joint (token (punct p) ∷ ts)
punct_read e p ts joint r = by (comment_after joint p ts) refl
  where
    by : (o : Option DocComment) → comment_after joint p ts ≡ o → AreRead e (skipped o) (joint_after o p) ts
    by None m = r
    by (Some c) m = rest_after_comment e p ts c (after_some joint (punct_flat p ts) c m) r

-- one that does
comment_read : (e : Edition) (p : Punct) (ts : List FlatToken) (c : DocComment) → comment_after false p ts ≡ Some c
    → AreRead e (more_tokens c.is_inner) false ts → AreRead e 0 false (token (punct p) ∷ ts)
comment_read e p ts c m r =
    subst (λ (o : Option DocComment). AreRead e (skipped o) (joint_after o p) ts) (sym m) r

setting_is : (file a b : ℕ) (text : List ℕ)
    → is_doc_assignment (record { sym = codes "doc"; is_raw = No; span = bytes_of file a b })
    (record { char = 61; spacing = Alone; span = bytes_of file a b }) (doc_leaf (bytes_of file a b) text) ≡ true
setting_is file a b text = rw (self (most_guards 0 text), self file, self a, self b) refl

-- a doc comment is written as one
is_set : (file a b : ℕ) (inner : Bool) (text : List ℕ) → may_be_comment inner text ≡ true
    → assigned_comment inner (record { sym = codes "doc"; is_raw = No; span = bytes_of file a b })
    (record { char = 61; spacing = Alone; span = bytes_of file a b }) (doc_leaf (bytes_of file a b) text)
    ≡ Some (set_of inner (doc_leaf (bytes_of file a b) text))
is_set file a b inner text may =
    let c : DocComment = set_of inner (doc_leaf (bytes_of file a b) text) in
    ap (λ (x : Bool). if x && may_be_comment inner text then Some c else None) (setting_is file a b text)
    ∙ ap (λ (x : Bool). if x then Some c else None) may

-- the group of a doc comment, and what follows it
abbrev brackets_of : Span → List ℕ → List FlatToken → List FlatToken
brackets_of span text ts =
    tree.opening (record { opening = span; close = no_span; kind = Bracket }) ∷ (token
    (ident_leaf span (codes "doc") No) ∷ (token (punct_leaf span 61 Alone) ∷ (token
    (literal (doc_leaf span text)) ∷ (tree.closing (record {
      opening = no_span;
      close = no_span;
      kind = Bracket;
    }) ∷ ts))))

doc_are_read : (e : Edition) (file a b : ℕ) (inner : Bool) (text : List ℕ) (ts : List FlatToken)
    → may_be_comment inner text ≡ true → AreRead e 0 false ts
    → AreRead e 0 false (tokens_of (bytes_of file a b) (doc_of text inner) ++ ts)
doc_are_read e file a b true text ts may r =
    let span = bytes_of file a b in
    comment_read e (record { char = 35; spacing = Joint; span = span })
    (token (punct_leaf span 33 Alone) ∷ brackets_of span text ts) (set_of true (doc_leaf span text))
    (is_set file a b true text may) r
doc_are_read e file a b false text ts may r =
    let span = bytes_of file a b in
    comment_read e (record { char = 35; spacing = Alone; span = span }) (brackets_of span text ts)
    (set_of false (doc_leaf span text)) (is_set file a b false text may) r

-- a joint punct is before another one
record JointNext (cs : List ℕ) : Type 0 where
  first : ℕ
  left : List ℕ
  is : cs ≡ first ∷ left
  char : is_punct first ≡ true
  comment : begins_comment (first ∷ left) ≡ false

joint_next : (sp : Spacing) (rest : List ℕ) → sp ≡ spacing_before rest → is_joint sp ≡ true → JointNext rest
joint_next sp [] i j = absurd (let z : true ≡ false = sym j ∙ ap is_joint i in cc)
joint_next sp (c ∷ cs) i j = by (is_punct c) (begins_comment (c ∷ cs)) refl refl
  where
    was : is_joint (if is_punct c && not (begins_comment (c ∷ cs)) then Joint else Alone) ≡ true
    was = sym (ap is_joint i) ∙ j

    by : (a b : Bool) → is_punct c ≡ a → begins_comment (c ∷ cs) ≡ b → JointNext (c ∷ cs)
    by true false p n = record { first = c; left = cs; is = refl; char = p; comment = n }
    by true true p n =
        absurd (let z : false ≡ true = sym (ap (λ (x : Bool). is_joint (if x && not (begins_comment
        (c ∷ cs)) then Joint else Alone)) p ∙ ap (λ (x : Bool). is_joint (if not x then Joint else Alone)) n)
        ∙ was in cc)
    by false b p n =
        absurd (let z : false ≡ true = sym (ap (λ (x : Bool). is_joint (if x && not (begins_comment
        (c ∷ cs)) then Joint else Alone)) p) ∙ was in cc)

-- so no doc comment is right after a joint punct
no_doc_next : (e : Edition) (total : ℕ) (cs : List ℕ) (t : ScannedToken) → JointNext cs → Next e total cs t
    → begins_doc t.from ≡ true → ⊥
no_doc_next e total cs t j x d =
    let y : Next e total (j.first ∷ j.left) t = subst (λ (l : List ℕ). Next e total l t) j.is x in
    let here = here_of e total (j.first ∷ j.left) t (punct_past e total j.first j.left j.char j.comment) y in
    let z : true ≡ false = sym d ∙ (ap begins_doc here.from ∙ no_doc j.first j.left j.comment) in
    absurd (cc)

-- that all tokens after this one are read
abbrev LaterRead : Edition → List ℕ → List FlatToken → Type 0
LaterRead e rest ts = (joint : Bool) → (joint ≡ true → JointNext rest) → AreRead e 0 joint ts

plainly : (e : Edition) (rest : List ℕ) (ts : List FlatToken) → LaterRead e rest ts → AreRead e 0 false ts
plainly e rest ts later = later false (λ z. absurd (cc))

shape_read : (e : Edition) (file a b : ℕ) (from rest : List ℕ) (shape : Shape) (ts : List FlatToken) (joint : Bool)
    → Lexed e shape from rest → LaterRead e rest ts → (joint ≡ true → begins_doc from ≡ true → ⊥)
    → AreRead e 0 joint (tokens_of (bytes_of file a b) shape ++ ts)
shape_read e file a b from rest (identifier name r) ts joint l later n = plainly e rest ts later
shape_read e file a b from rest (literal_of text suffix m kind) ts joint l later n =
    (l.right (bytes_of file a b), plainly e rest ts later)
shape_read e file a b from rest (punct_of c sp) ts joint l later n =
    punct_read e (record { char = c; spacing = sp; span = bytes_of file a b }) ts joint
    (later (is_joint sp) (joint_next sp rest l.spacing))
shape_read e file a b from rest (lifetime_of name r) ts joint l later n =
    let span = bytes_of file a b in
    punct_read e (record { char = 39; spacing = Joint; span = record span { end = span.start + 1 } })
    (token (ident_leaf (record span { start = span.start + 1 }) name r) ∷ ts) joint (plainly e rest ts later)
shape_read e file a b from rest (doc_of text inner) ts true l later n = absurd (n refl l.marks)
shape_read e file a b from rest (doc_of text inner) ts false l later n =
    doc_are_read e file a b inner text ts l.written (plainly e rest ts later)
shape_read e file a b from rest (opening k) ts joint l later n = plainly e rest ts later
shape_read e file a b from rest (closing k) ts joint l later n = plainly e rest ts later

are_read : (e : Edition) (file total : ℕ) (cs : List ℕ) (ts : List FlatToken) → Tokens e file total cs ts
    → Fits total cs → LaterRead e cs ts
are_read e file total _ _ (last cs n) f joint j = tt
are_read e file total _ _ (more cs t us n tokens) f joint j =
    let x = next_cut e total cs t f.right n in
    let rest = fits_tail total cs t.rest (next_tail e total cs t x) f in
    shape_read e file (offset total t.from) (offset total t.rest) t.from t.rest t.shape us joint x.step.lexed
    (are_read e file total t.rest us tokens rest)
    (λ is d. no_doc_next e total cs t (j is) x d)

pub literals_are_read : (e : Edition) (file total : ℕ) (cs : List ℕ) (ts : List FlatToken) → Tokens e file total cs ts
    → Fits total cs → AreRead e 0 false ts
literals_are_read e file total cs ts tokens f = plainly e cs ts (are_read e file total cs ts tokens f)
