-- What comes first, as a part of a metavariable expression; and std reads the depths that the definition says.
use Rattle.std.specs.Prelude.{◌≡◌, ◌≤◌, ◌-◌, ◌^◌, ◌==◌, ℕ, Bool, true, false, if◌then◌else◌, nat_lt, List, length, Some}
use Rattle.std.specs.Prelude.{None, Result, Ok, Err, refl}
use Rattle.std.proofs.Common.{ap, sym, ◌∙◌, arith, length-drop}
use Rattle.std.proofs.lemmas.Option.{none-some, same_Some}
use Rattle.std.proofs.lemmas.Bool.{eq-eqb, eqb-true, false≢true}
use Rattle.std.proofs.lemmas.Bool.Decides.{Decides-and, Decides-ltb}
use Rattle.std.proofs.lemmas.Str.Parse.{IsNumeralModel, numerals_by_value, tells_all_ascii_digits}
use Rattle.std.specs.Bool.{Decides}
use Rattle.std.specs.Result.{OkIff, result_ok}
use Rattle.std.specs.Str.{all_ascii_digits}
use Rattle.std.specs.Str.Parse.{AllDigits, ParsesUnsigned, digits_value, without_leading_plus}
use Rattle.mbe_tt.specs.Trees.Leaf.{Ident, Literal, literal, punct, ident, is_underscore}
use Rattle.mbe_tt.specs.Trees.Literals.{is_char_boundary, text_len, has_no_suffix, literal_text, literal_suffix}
use Rattle.mbe_tt.specs.Trees.Literals.{decimal_value}
use Rattle.mbe_tt.specs.Trees.Tree.{Forest, none, leaf, group, rest_of, front_char, front_ident, front_group, any_ident}
use Rattle.mbe_tt.specs.declared.tt.Delimiter.{Delimiter}
use Rattle.mbe_tt.specs.declared.tt.DelimiterKind.TheVariants.{Parenthesis}
use Rattle.mbe_semantics.specs.Syntax.Op.{ident_element, literal_element, variable_element}
use Rattle.mbe_parser.proofs.ReaderLemmas.{some_if}
use Rattle.mbe_semantics.specs.Syntax.Template.{expression_of, arguments_of, elements_of, elements_after_comma}
use Rattle.mbe_semantics.specs.Syntax.Template.{element_before}

-- ---- depths

read_if : {E : Type 0} {P : Type 0} (r : Result ℕ E) (b : Bool) (v : ℕ) → Decides b P → OkIff r P v
    → result_ok r ≡ (if b then Some v else None)
read_if (Ok n) true v d h = ap Some h.1
read_if (Ok n) false v d h = absurd (false≢true (d.1 h.0))
read_if (Err e) true v d h = absurd (h (d.0 refl))
read_if (Err e) false v d h = refl

digits_model : IsNumeralModel (λ ds. all_ascii_digits ds ≡ true) (digits_value 10)
digits_model = numerals_by_value _ tells_all_ascii_digits

all_digits : (ds : List ℕ) → Decides (all_ascii_digits ds) (AllDigits 10 ds)
all_digits ds = (digits_model.to ds, digits_model.from ds)

-- std reads of each text what the definition says, and nothing where it says nothing
pub reads_decimal : {E : Type 0} (text : List ℕ) (r : Result ℕ E) → ParsesUnsigned 64 10 text r
    → result_ok r ≡ decimal_value text
reads_decimal text r h =
    let ds = without_leading_plus text in
    read_if r _ (digits_value 10 ds) (Decides-and _ _ (Decides-and _ _ (Decides-ltb 0 (length ds)) (all_digits ds))
    (Decides-ltb (digits_value 10 ds) (2 ^ 64))) h

no_more : (a b : Bool) (n m : ℕ) → m ≤ n → (if a then n else if b then m else n) ≤ n
no_more true b n m h = omega arith
no_more false true n m h = h
no_more false false n m h = omega arith

text_len-le : (text : List ℕ) (n : ℕ) → text_len text n ≤ length text
text_len-le text n =
    no_more (nat_lt (length text) n) (is_char_boundary text (length text - n)) (length text) (length text - n)
    (omega arith)

-- a literal whose suffix is empty has none
without_suffix : (l : Literal) → length (literal_suffix l) ≡ 0 → has_no_suffix l ≡ true
without_suffix l e =
    let n = text_len l.text_and_suffix l.suffix_len in
    let h : length l.text_and_suffix - n ≡ 0 = sym (length-drop n l.text_and_suffix) ∙ e in
    eq-eqb n (length l.text_and_suffix) (omega (arith, h, text_len-le l.text_and_suffix l.suffix_len))

-- the depth that a literal writes
pub reads_depth : {E : Type 0} (l : Literal) (text suffix : List ℕ) (r : Result ℕ E) → text ≡ literal_text l
    → suffix ≡ literal_suffix l
    → true ≡ (length suffix == 0) → ParsesUnsigned 64 10 text r
    → result_ok r ≡ (if has_no_suffix l then decimal_value (literal_text l) else None)
reads_depth l text suffix r t s e h =
    let no_suffix : length (literal_suffix l) ≡ 0 = ap length (sym s) ∙ eqb-true (length suffix) 0 (sym e) in
    rw (without_suffix l no_suffix) (reads_decimal text r h ∙ ap decimal_value t)

-- ---- the word and the arguments

in_parentheses : (f : Forest) (word : Ident) (d : Delimiter) (inside rest : Forest) → d.kind ≡ Parenthesis
    → f ≡ leaf (ident word) (group d inside rest)
    → is_underscore word.sym ≡ false → expression_of f ≡ arguments_of word inside
in_parentheses f word d inside rest k e u = ap expression_of e ∙ rw (k, u) refl

front_word : (f : Forest) (word : Ident) → Some word ≡ front_ident f
    → (f ≡ leaf (ident word) (rest_of f)) × (is_underscore word.sym ≡ false)
front_word none word e = absurd (none-some word (sym e))
front_word (group d inside rest) word e = absurd (none-some word (sym e))
front_word (leaf (literal l) rest) word e = absurd (none-some word (sym e))
front_word (leaf (punct p) rest) word e = absurd (none-some word (sym e))
front_word (leaf (ident i) rest) word e =
    let named = some_if (is_underscore i.sym) i word (sym e) in
    (ap (λ (x : Ident). leaf (ident x) rest) named.1, ap (λ (x : Ident). is_underscore x.sym) (sym named.1) ∙ named.0)

front_arguments : (f inside : Forest) (d : Delimiter) → Some (d, inside) ≡ front_group f
    → f ≡ group d inside (rest_of f)
front_arguments none inside d e = absurd (none-some _ (sym e))
front_arguments (leaf l rest) inside d e = absurd (none-some _ (sym e))
front_arguments (group b content rest) inside d e = ap (λ x. group x.0 x.1 rest) (sym (same_Some _ _ e))

pub call_in_front : (f left inside : Forest) (word : Ident) (d : Delimiter) → Some word ≡ front_ident f
    → left ≡ rest_of f → Some (d, inside) ≡ front_group left
    → d.kind ≡ Parenthesis → expression_of f ≡ arguments_of word inside
call_in_front f left inside word d w l a k =
    let named = front_word f word w in
    in_parentheses f word d inside (rest_of left) k
    (named.0 ∙ ap (leaf (ident word)) (sym l ∙ front_arguments left inside d a)) named.1

-- ---- elements of `concat`

pub literal_in_front : (f left : Forest) (l : Literal) → f ≡ leaf (literal l) left
    → elements_of f ≡ element_before (literal_element l) (elements_after_comma left)
literal_in_front f left l e = ap elements_of e

any_front : (f : Forest) (i : Ident) → Some i ≡ any_ident f → f ≡ leaf (ident i) (rest_of f)
any_front none i e = absurd (none-some i (sym e))
any_front (group d inside rest) i e = absurd (none-some i (sym e))
any_front (leaf (literal l) rest) i e = absurd (none-some i (sym e))
any_front (leaf (punct p) rest) i e = absurd (none-some i (sym e))
any_front (leaf (ident j) rest) i e = ap (λ (x : Ident). leaf (ident x) rest) (sym (same_Some i j e))

pub ident_in_front : (f left : Forest) (i : Ident) → Some i ≡ any_ident f → left ≡ rest_of f
    → elements_of f ≡ element_before (ident_element i) (elements_after_comma left)
ident_in_front f left i e l = ap elements_of (any_front f i e)
    ∙ ap (λ (x : Forest). element_before (ident_element i) (elements_after_comma x)) (sym l)

after_dollar : (f rest : Forest) (i : Ident) → front_char f ≡ Some 36 → rest_of f ≡ leaf (ident i) rest
    → elements_of f ≡ element_before (variable_element i) (elements_after_comma rest)
after_dollar none rest i c e = absurd (none-some 36 c)
after_dollar (group d inside more) rest i c e = absurd (none-some 36 c)
after_dollar (leaf (literal l) more) rest i c e = absurd (none-some 36 c)
after_dollar (leaf (ident j) more) rest i c e = absurd (none-some 36 c)
after_dollar (leaf (punct p) more) rest i c e =
    ap (λ (x : Forest). elements_of (leaf (punct p) x)) e ∙ rw (eq-eqb p.char 36 (same_Some p.char 36 c)) refl

pub variable_in_front : (f following left : Forest) (i : Ident) → front_char f ≡ Some 36 → following ≡ rest_of f
    → Some i ≡ any_ident following → left ≡ rest_of following
    → elements_of f ≡ element_before (variable_element i) (elements_after_comma left)
variable_in_front f following left i c b e l =
    after_dollar f left i c (sym b ∙ (any_front following i e ∙ ap (leaf (ident i)) (sym l)))
