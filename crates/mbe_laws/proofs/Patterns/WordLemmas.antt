-- A pattern of words is ambiguous at no place.
use Rattle.std.proofs.Common.{ℕ, zero, suc, ◌≡◌, inl, inr, Option, Some, None, Bool, true, false, List, [], ◌∷◌, refl}
use Rattle.std.proofs.Common.{sym, ◌∙◌, subst}
use Rattle.std.specs.Prelude.{IsTrue, if◌then◌else◌}
use Rattle.std.specs.Str.{bytes_eq}
use Rattle.std.proofs.lemmas.Option.{none-some, same_Some}
use Rattle.mbe_semantics.specs.declared.fragment_kinds.RepeatKind.{RepeatKind}
use Rattle.mbe_semantics.specs.declared.fragment_kinds.RepeatKind.TheVariants.{ZeroOrMore, OneOrMore, ZeroOrOne}
use Rattle.mbe_tt.specs.Trees.Leaf as leaves
use Rattle.mbe_tt.specs.Trees.Tree.{Forest, flat_len, Cut, rest_at}
use Rattle.mbe_tt.specs.Trees.Tree as tree
use Rattle.mbe_tt.specs.Grammars.Grammar.{Grammar}
use Rattle.mbe_tt.proofs.Offsets.CutLemmas.{no_true, both_left, both_right}
use Rattle.mbe_semantics.specs.Syntax.Op as ops
use Rattle.mbe_semantics.specs.Syntax.Op.{Token, Separator, Op, token, group, variable, repetition, expression, Ops}
use Rattle.mbe_semantics.specs.Syntax.Op.{no_ops, op}
use Rattle.mbe_semantics.specs.Readings.Fit.{ident_text_front, unless, token_front_in, separator_front_in}
use Rattle.mbe_semantics.specs.Readings.Fit.{is_other_token, is_other_separator}
use Rattle.mbe_semantics.specs.Readings.Item.{Items, no_items, item, Rounds}
use Rattle.mbe_semantics.specs.Readings.Input.{Input, length_of, input_of}
use Rattle.mbe_semantics.specs.Readings.Reading.{ReadsFirst, Frame, inside, within, PartialReading, partial, body_of}
use Rattle.mbe_semantics.specs.Readings.Reading.{start_of, AreOpen, IsPartialReading}
use Rattle.mbe_semantics.specs.Readings.Steps.{matched_item, Move, move, over_of, when, round_move, separator_move}
use Rattle.mbe_semantics.specs.Readings.Steps.{next}
use Rattle.mbe_semantics.specs.Readings.Ambiguity.{Conflict}
use Rattle.mbe_semantics.specs.Laws.Laws.{is_word, is_word_separator, op_is_words, is_words, WordsNeverAmbiguous}

words_rest : (is : Items) (i : Input) (os : Ops) (p : ℕ) (rest : Ops) → ReadsFirst is i os p rest → IsTrue (is_words os)
    → IsTrue (is_words rest)
words_rest no_items i os p rest h c = subst (λ v. IsTrue (is_words v)) h c
words_rest (item is x) i os p rest h c =
    both_right (op_is_words h.0) (is_words rest) (words_rest is i os p (op h.0 rest) h.1 c)

words_op : (is : Items) (i : Input) (os : Ops) (p : ℕ) (o : Op) (rest : Ops) → ReadsFirst is i os p (op o rest)
    → IsTrue (is_words os) → IsTrue (op_is_words o)
words_op is i os p o rest h c = both_left (op_is_words o) (is_words rest) (words_rest is i os p (op o rest) h c)

words_body : (i : Input) (pat : Ops) (up : List Frame) → AreOpen i pat up → IsTrue (is_words pat)
    → IsTrue (is_words (body_of pat up))
words_body i pat [] h c = c
words_body i pat (inside d b rest js ∷ up) h c =
    words_op js i (body_of pat up) (start_of up) (group d b) rest h.1 (words_body i pat up h.0 c)
words_body i pat (within b s k rest js rs ∷ up) h c =
    both_right (is_word_separator s) (is_words b)
    (words_op js i (body_of pat up) (start_of up) (repetition b s k) rest h.1 (words_body i pat up h.0 c))

-- over one flat token, and by no fragment
IsOne : Option Move → Type 0
IsOne None = Unit {0}
IsOne (Some (move n f y)) = (n ≡ 1) × (f ≡ false)

if_one : (b : Bool) (c : Cut) (n : ℕ) → flat_len c.front ≡ 1 → length_of (if b then Some c else None) ≡ Some n → n ≡ 1
if_one true c n e h = sym (same_Some (flat_len c.front) n h) ∙ e
if_one false c n e h = absurd (none-some n h)

ident_one : (text : _) (f : Forest) (n : ℕ) → length_of (ident_text_front text f) ≡ Some n → n ≡ 1
ident_one text (tree.leaf (leaves.ident i) tree.none) n h = if_one (bytes_eq i.sym text) _ n refl h
ident_one text (tree.leaf (leaves.ident i) (tree.leaf l rest)) n h = if_one (bytes_eq i.sym text) _ n refl h
ident_one text (tree.leaf (leaves.ident i) (tree.group d content rest)) n h = if_one (bytes_eq i.sym text) _ n refl h
ident_one text _ n h = absurd (none-some n h)

unless_one : (b : Bool) (text : _) (f : Forest) (n : ℕ) → length_of (unless b (ident_text_front text f)) ≡ Some n
    → n ≡ 1
unless_one true text f n e = absurd (none-some n e)
unless_one false text f n e = ident_one text f n e

when_one : (b : Bool) (y : PartialReading) → IsOne (when b (move 1 false y))
unfolding IsOne
when_one true y = (refl, refl)
when_one false y = tt

over_one : (w : Option ℕ) (rest : Ops) (is : Items) (up : List Frame) → ((n : ℕ) → w ≡ Some n → n ≡ 1)
    → IsOne (over_of false (matched_item w) rest is up)
unfolding IsOne
over_one None rest is up h = tt
over_one (Some zero) rest is up h = tt
over_one (Some (suc n)) rest is up h = (h (suc n) refl, refl)

round_one : (k : RepeatKind) (w : Option ℕ) (b : Ops) (s : Option Separator) (rest : Ops) (js : Items) (rs : Rounds)
    (up : List Frame) (is : Items) →
    ((n : ℕ) → w ≡ Some n → n ≡ 1) → IsOne (round_move k w b s rest js rs up is)
unfolding IsOne
round_one k None b s rest js rs up is h = tt
round_one ZeroOrMore (Some n) b s rest js rs up is h = (h n refl, refl)
round_one OneOrMore (Some n) b s rest js rs up is h = (h n refl, refl)
round_one ZeroOrOne (Some n) b s rest js rs up is h = tt

separator_one : (g : Grammar) (f : Forest) (q : ℕ) (s : Option Separator) (k : RepeatKind) (b rest : Ops) (js : Items)
    (rs : Rounds) (up : List Frame) (is : Items) →
    IsTrue (is_word_separator s) → IsOne (separator_move (input_of g f) q s k b rest js rs up is)
unfolding IsOne
separator_one g f q None k b rest js rs up is h = tt
separator_one g f q (Some (ops.ident_separator x)) k b rest js rs up is h =
    let s = ops.ident_separator x in
    round_one k (length_of (separator_front_in g.dialect s (rest_at f q))) b (Some s) rest js rs up is
    (λ n e. unless_one (is_other_separator g.dialect s (rest_at f q)) x.sym (rest_at f q) n e)
separator_one g f q (Some _) k b rest js rs up is h = no_true h

token_one : (g : Grammar) (f : Forest) (q : ℕ) (t : Token) (rest : Ops) (is : Items) (up : List Frame)
    → IsTrue (is_word t) → IsOne (over_of false (matched_item ((input_of g f).token_at t q)) rest is up)
token_one g f q (ops.ident x) rest is up h =
    over_one (length_of (token_front_in g.dialect (ops.ident x) (rest_at f q))) rest is up
    (λ n e. unless_one (is_other_token g.dialect (ops.ident x) (rest_at f q)) x.sym (rest_at f q) n e)
token_one g f q _ rest is up h = no_true h

next_one : (g : Grammar) (f : Forest) (pat : Ops) (q : ℕ) (x : PartialReading) → IsPartialReading (input_of g f) pat x
    → IsTrue (is_words pat) → IsOne (next (input_of g f) q x)
unfolding IsOne
next_one g f pat q (partial no_ops is []) h c = tt
next_one g f pat q (partial no_ops is (inside d b rest js ∷ up)) h c = when_one ((input_of g f).closes_at q) _
next_one g f pat q (partial no_ops is (within b s k rest js rs ∷ up)) h c =
    separator_one g f q s k b rest js rs up is
    (both_left (is_word_separator s) (is_words b)
    (words_op js (input_of g f) (body_of pat up) (start_of up) (repetition b s k) rest h.0.1
    (words_body (input_of g f) pat up h.0.0 c)))
next_one g f pat q (partial (op (token t) rest) is up) h c =
    token_one g f q t rest is up (words_op is (input_of g f) (body_of pat up) (start_of up) (token t) rest h.1
    (words_body (input_of g f) pat up h.0 c))
next_one g f pat q (partial (op (variable name kind span) rest) is up) h c =
    no_true (words_op is (input_of g f) (body_of pat up) (start_of up) (variable name kind span) rest h.1
    (words_body (input_of g f) pat up h.0 c))
next_one g f pat q (partial (op (group d b) rest) is up) h c = when_one ((input_of g f).opens_at d.kind q) _
next_one g f pat q (partial (op (repetition b s k) rest) is up) h c = tt
next_one g f pat q (partial (op (expression e) rest) is up) h c = tt

one_of : (m : Option Move) (n : ℕ) (f : Bool) (y : PartialReading) → m ≡ Some (move n f y) → IsOne m → (n ≡ 1)
    × (f ≡ false)
unfolding IsOne
one_of m n f y e h = let P : Option Move → Type 0 = λ v. IsOne v in subst P e h

no_ambiguity : (n m : ℕ) (f g : Bool) → (n ≡ 1) × (f ≡ false) → (m ≡ 1) × (g ≡ false) → Conflict n f m g → ⊥
no_ambiguity n m f g a b (inl e) = no_true (sym a.1 ∙ e)
no_ambiguity n m f g a b (inr (inl e)) = no_true (sym b.1 ∙ e)
no_ambiguity n m f g a b (inr (inr e)) = e (a.0 ∙ sym b.0)

pub words_never_ambiguous : WordsNeverAmbiguous
words_never_ambiguous g pattern argument q c w =
    no_ambiguity w.n w.m w.f w.g
    (one_of (next (input_of g argument) q w.one) w.n w.f w.one_steps.0 w.one_steps.1
    (next_one g argument pattern q w.one w.one_at.0 c))
    (one_of (next (input_of g argument) q w.other) w.m w.g w.other_steps.0 w.other_steps.1
    (next_one g argument pattern q w.other w.other_at.0 c))
    w.ambiguity
