-- The next token of a text, and what the tokens make.
use Rattle.std.proofs.Common.{◌≡◌, ℕ, zero, suc, ◌-◌, ◌<◌, ◌≤◌, true, false, List, [], ◌∷◌, length, Result, Ok, Err}
use Rattle.std.proofs.Common.{Option, Some, None, refl, sym, ap, ◌∙◌, arith, chars}
use Rattle.std.proofs.lemmas.Str.{chars-nil}
use Rattle.mbe_tt.specs.Buffers.GroupStack.{GroupStack, innermost_kind}
use Rattle.mbe_tt.specs.Trees.Top.{Top}
use Rattle.mbe_tt.specs.Trees.Tree.{none, is_same_kind}
use Rattle.mbe_tt.specs.declared.span.Span.{Span}
use Rattle.mbe_tt.specs.declared.tt.Delimiter.{Delimiter}
use Rattle.mbe_tt.specs.declared.tt.DelimiterKind.{DelimiterKind}
use Rattle.mbe_tt.specs.declared.tt.DelimiterKind.TheVariants.{Parenthesis, Brace, Bracket, Invisible}
use Rattle.mbe_text.specs.declared.dialect.Dialect.{Dialect}
use Rattle.mbe_text.specs.declared.lexer.LexError.{LexError}
use Rattle.mbe_text.specs.declared.lexer.LexError.TheVariants as errors
use Rattle.mbe_text.specs.declared.scanner.SourceToken.{SourceToken}
use Rattle.mbe_text.specs.declared.scanner.Lexeme.{Lexeme}
use Rattle.mbe_text.specs.declared.scanner.Lexeme.TheVariants.{Ident, Literal, Punct, Open, Close, Lifetime, Doc}
use Rattle.mbe_text.specs.Characters.{offset}
use Rattle.mbe_text.specs.LexFaults.{fault_at}
use Rattle.mbe_text.specs.Trivia.{past_trivia, after_preamble}
use Rattle.mbe_text.specs.declared.scanner.LexFault.{LexFault}
use Rattle.mbe_text.specs.declared.fault_kind.LexFaultKind.TheVariants as fault_kind
use Rattle.mbe_text.specs.Shapes.{Shape, identifier, literal_of, punct_of, lifetime_of, doc_of, opening, closing}
use Rattle.mbe_text.specs.Shapes.{item_of, shape_of}
use Rattle.mbe_text.specs.LexedTrees.{ScannedToken, next_token, scanned_span, scanned_item, IsNext, is_inside}
use Rattle.mbe_text.specs.LexedTrees.{after_item, is_unclosed, stack_of, stack_at_end, lexed_trees, Lexes}
use Rattle.mbe_text.specs.Dialect.{read_shape}
use Rattle.mbe_text.specs.Tokens.{TokenItem, leaf_item, trees_item, open_item, close_item, closing_fault, bytes_of}
use Rattle.mbe_text.specs.Tokens.{lexeme_item, token_item, item_span, Adds, IsMismatched, FaultsAt, ended}

-- ---- the next token

next_some : (dialect : Dialect) (total : ℕ) (cs left : List ℕ) (c : ℕ) (after : List ℕ) (shape : Shape) (rest : List ℕ)
    → past_trivia dialect total (length cs) cs ≡ Ok left
    → left ≡ c ∷ after → read_shape dialect total left ≡ Ok (shape, rest)
    → next_token dialect total cs ≡ Ok (Some (record { shape = shape; from = c ∷ after; rest = rest }))
next_some dialect total cs left c after shape rest e f g =
    let p : past_trivia dialect total (length cs) cs ≡ Ok (c ∷ after) = e ∙ ap Ok f in
    let q : read_shape dialect total (c ∷ after) ≡ Ok (shape, rest) = ap (read_shape dialect total) (sym f) ∙ g in
    rw (p, next_token, q) refl

item_of_shape : (span : Span) (l : Lexeme) → lexeme_item span l ≡ item_of span (shape_of l)
item_of_shape span (Ident name is_raw) = refl
item_of_shape span (Literal text suffix suffix_len kind) = refl
item_of_shape span (Punct char spacing) = refl
item_of_shape span (Lifetime name is_raw) = refl
item_of_shape span (Doc text is_inner) = refl
item_of_shape span (Open kind) = refl
item_of_shape span (Close kind) = refl

-- what a call returns that reads a token after blanks
pub is_next : (dialect : Dialect) (file total : ℕ) (cs left : List ℕ) (c : ℕ) (after : List ℕ) (l : Lexeme)
    (rest : List ℕ) (span : Span)
    (start end : ℕ)
    → past_trivia dialect total (length cs) cs ≡ Ok left → left ≡ c ∷ after
    → read_shape dialect total left ≡ Ok (shape_of l, rest)
    → span ≡ bytes_of file start end → start ≡ offset total left → end ≡ offset total rest
    → IsNext file total (next_token dialect total cs) (Ok (Some (record { lexeme = l; span = span }))) rest
is_next dialect file total cs left c after l rest span start end e f g is s t =
    let taken : ScannedToken = record { shape = shape_of l; from = c ∷ after; rest = rest } in (
      taken,
      next_some dialect total cs left c after (shape_of l) rest e f g,
      item_of_shape span l ∙ ap (λ (p : Span). item_of p (shape_of l))
          (is ∙ (ap (λ (n : ℕ). bytes_of file n end) (s ∙ ap (offset total) f)
          ∙ ap (λ (n : ℕ). bytes_of file (offset total (c ∷ after)) n) t)),
      refl,
    )

-- ---- one token more of a whole text

-- of the same dialect, and of a text that is as long
asked : {dialect dialect' : Dialect} {total total' : ℕ} (cs : List ℕ) → dialect' ≡ dialect → total' ≡ total
    → next_token dialect total cs ≡ next_token dialect' total' cs
asked {dialect} {dialect'} {total} {total'} cs d n =
    ap (λ (k : Dialect). next_token k total cs) (sym d) ∙ ap (λ (k : ℕ). next_token dialect' k cs) (sym n)

nothing_faults : (dialect : Dialect) (total : ℕ) (fault : LexFault) → next_token dialect total (chars []) ≡ Err fault
    → ⊥
nothing_faults dialect total fault e =
    let n : next_token dialect total (chars []) ≡ Ok None = ap (next_token dialect total) chars-nil ∙ refl in cc

same_kind_self : (k : DelimiterKind) → is_same_kind k k ≡ true
same_kind_self Parenthesis = refl
same_kind_self Brace = refl
same_kind_self Bracket = refl
same_kind_self Invisible = refl

other_kind : (j k : DelimiterKind) → (Some j ≡ Some k → ⊥) → is_same_kind j k ≡ false
other_kind Parenthesis Parenthesis h = absurd (h refl)
other_kind Parenthesis Brace h = refl
other_kind Parenthesis Bracket h = refl
other_kind Parenthesis Invisible h = refl
other_kind Brace Parenthesis h = refl
other_kind Brace Brace h = absurd (h refl)
other_kind Brace Bracket h = refl
other_kind Brace Invisible h = refl
other_kind Bracket Parenthesis h = refl
other_kind Bracket Brace h = refl
other_kind Bracket Bracket h = absurd (h refl)
other_kind Bracket Invisible h = refl
other_kind Invisible Parenthesis h = refl
other_kind Invisible Brace h = refl
other_kind Invisible Bracket h = refl
other_kind Invisible Invisible h = absurd (h refl)

not_inside : (kind : DelimiterKind) (o : Option DelimiterKind) → (o ≡ Some kind → ⊥) → is_inside kind o ≡ false
not_inside kind None h = refl
not_inside kind (Some j) h = other_kind j kind h

added : (x : TokenItem) (old new : GroupStack) → Adds x old new → after_item x old ≡ Some new
added (leaf_item l) old new h = ap Some (sym h)
added (trees_item span trees) old new h = ap Some (sym h)
added (open_item kind span) old new h = ap Some (sym h)
added (close_item kind span) old new h =
    let b : is_inside kind (innermost_kind old) ≡ true = ap (is_inside kind) h.0 ∙ same_kind_self kind in
    rw b (ap Some (sym h.1))

refused : (x : TokenItem) (old : GroupStack) → IsMismatched x old → after_item x old ≡ None
refused (leaf_item l) old h = absurd h
refused (trees_item span trees) old h = absurd h
refused (open_item kind span) old h = absurd h
refused (close_item kind span) old h =
    let b : is_inside kind (innermost_kind old) ≡ false = not_inside kind (innermost_kind old) h in
    rw b refl

span_of_shape : (span : Span) (shape : Shape) → item_span (item_of span shape) ≡ span
span_of_shape span (identifier name is_raw) = refl
span_of_shape span (literal_of text suffix suffix_len kind) = refl
span_of_shape span (punct_of char spacing) = refl
span_of_shape span (lifetime_of name is_raw) = refl
span_of_shape span (doc_of text is_inner) = refl
span_of_shape span (opening kind) = refl
span_of_shape span (closing kind) = refl

-- the tokens so far, of a text of which those bytes are left
pub record Reaches (dialect : Dialect) (file : ℕ) (text left : List ℕ) (levels : GroupStack) : Type 0 where
  pub n : ℕ
  pub fits : length left ≤ n
  pub same : stack_at_end dialect file text ≡ stack_of dialect file (length text) n levels (chars left)

pub reached_first : (dialect : Dialect) (file : ℕ) (text left : List ℕ) (span : Span) (d : Delimiter) (b : GroupStack)
    → b ≡ (d, none) ∷ []
    → d ≡ record { opening = span; close = span; kind = Invisible } → span ≡ bytes_of file 0 (length text)
    → length left ≤ length text → chars left ≡ after_preamble dialect (length text) (chars text)
    → Reaches dialect file text left b
reached_first dialect file text left span d b e opens is fits preamble =
    let delimiter : Span → Delimiter = λ s. record { opening = s; close = s; kind = Invisible } in
    let levels : Delimiter → GroupStack = λ k. (k, none) ∷ [] in
    let n = length text in
    record {
      n = n;
      fits = fits;
      same = ap (λ (b : GroupStack). stack_of dialect file n n b (after_preamble dialect n (chars text)))
          (sym (e ∙ ap levels (opens ∙ ap delimiter is)))
          ∙ ap (λ (cs : List ℕ). stack_of dialect file n n b cs) (sym preamble);
    }

levels_step : (dialect : Dialect) (file total m : ℕ) (b c : GroupStack) (cs : List ℕ) (t : ScannedToken)
    → next_token dialect total cs ≡ Ok (Some t)
    → after_item (scanned_item file total t) b ≡ Some c
    → stack_of dialect file total (suc m) b cs ≡ stack_of dialect file total m c t.rest
levels_step dialect file total m b c cs t e f = rw (e, stack_of, f) refl

levels_astray : (dialect : Dialect) (file total m : ℕ) (b : GroupStack) (cs : List ℕ) (t : ScannedToken)
    → next_token dialect total cs ≡ Ok (Some t)
    → after_item (scanned_item file total t) b ≡ None
    → stack_of dialect file total (suc m) b cs ≡ Err (fault_at fault_kind.Closing total t.from)
levels_astray dialect file total m b cs t e f = rw (e, stack_of, f) refl

levels_fault : (dialect : Dialect) (file total m : ℕ) (b : GroupStack) (cs : List ℕ) (fault : LexFault)
    → next_token dialect total cs ≡ Err fault
    → stack_of dialect file total (suc m) b cs ≡ Err fault
levels_fault dialect file total m b cs fault e = rw (e, stack_of) refl

levels_last : (dialect : Dialect) (file total m : ℕ) (b : GroupStack) (cs : List ℕ) → next_token dialect total cs
    ≡ Ok None
    → stack_of dialect file total m b cs ≡ Ok b
levels_last dialect file total zero b cs e = refl
levels_last dialect file total (suc m) b cs e = rw (e, stack_of) refl

-- what a call took that was asked for the same
taken_there : {dialect dialect' : Dialect} {file file' total total' : ℕ} (cs rest : List ℕ) (t : SourceToken)
    → dialect' ≡ dialect → file' ≡ file → total' ≡ total
    → (next : IsNext file' total' (next_token dialect' total' cs) (Ok (Some t)) rest)
    → (next_token dialect total cs ≡ Ok (Some next.0)) × (token_item t ≡ scanned_item file total next.0)
taken_there {dialect} {dialect'} {file} {file'} {total} {total'} cs rest t same f n next = (
  asked cs same n ∙ next.1,
  next.2 ∙ (ap (λ (k : ℕ). scanned_item k total' next.0) f ∙ ap (λ (k : ℕ). scanned_item file k next.0) n),
)

-- a token, which was added
pub reached_more : (dialect : Dialect) (file : ℕ) (text left left' : List ℕ) (b c : GroupStack) (dialect' : Dialect)
    (file' total' : ℕ) (t : SourceToken)
    → Reaches dialect file text left b → dialect' ≡ dialect → file' ≡ file → total' ≡ length text
    → IsNext file' total' (next_token dialect' total' (chars left)) (Ok (Some t)) (chars left')
    → length left' < length left
    → Adds (token_item t) b c
    → Reaches dialect file text left' c
reached_more dialect file text left left' b c dialect' file' total' t p same f n next shorter adds =
    let total = length text in
    let taken : ScannedToken = next.0 in
    let there = taken_there (chars left) (chars left') t same f n next in
    let after : after_item (scanned_item file total taken) b ≡ Some c =
    ap (λ (x : TokenItem). after_item x b) (sym there.1)
    ∙ added (token_item t) b c adds in
    let fits = p.fits in
    let m : p.n ≡ suc (p.n - 1) = omega (arith, fits, shorter) in
    record {
      n = p.n - 1;
      fits = omega (arith, fits, shorter);
      same = p.same ∙ (ap (λ (k : ℕ). stack_of dialect file total k b (chars left)) m
          ∙ (levels_step dialect file total (p.n - 1) b c (chars left) taken there.0 after
          ∙ ap (λ (l : List ℕ). stack_of dialect file total (p.n - 1) c l) (sym next.3)));
    }

abbrev closing_at : ℕ → Result GroupStack LexFault
closing_at n = let fault : LexFault = record { offset = n; fault_kind = fault_kind.Closing } in Err fault

-- a closing that doesn't fit
pub reached_astray : (dialect : Dialect) (file : ℕ) (text left left' : List ℕ) (b : GroupStack) (dialect' : Dialect)
    (file' total' : ℕ) (t : SourceToken)
    → Reaches dialect file text left b → dialect' ≡ dialect → file' ≡ file → total' ≡ length text
    → IsNext file' total' (next_token dialect' total' (chars left)) (Ok (Some t)) (chars left')
    → length left' < length left
    → IsMismatched (token_item t) b
    → stack_at_end dialect file text ≡ Err (closing_fault (token_item t))
reached_astray dialect file text left left' b dialect' file' total' t p same f n next shorter astray =
    let total = length text in
    let taken : ScannedToken = next.0 in
    let there = taken_there (chars left) (chars left') t same f n next in
    let after : after_item (scanned_item file total taken) b ≡ None =
    ap (λ (x : TokenItem). after_item x b) (sym there.1)
    ∙ refused (token_item t) b astray in
    let fits = p.fits in
    let m : p.n ≡ suc (p.n - 1) = omega (arith, fits, shorter) in
    let start : (item_span (token_item t)).start ≡ offset total taken.from =
    ap (λ (x : TokenItem). (item_span x).start) there.1
    ∙ ap (λ (s : Span). s.start) (span_of_shape (scanned_span file total taken) taken.shape) in
    p.same ∙ (ap (λ (k : ℕ). stack_of dialect file total k b (chars left)) m
    ∙ (levels_astray dialect file total (p.n - 1) b (chars left) taken there.0 after ∙ ap closing_at (sym start)))

-- no token
pub reached_fault : (dialect : Dialect) (file : ℕ) (text left : List ℕ) (b : GroupStack) (dialect' : Dialect)
    (total' : ℕ)
    (fault : LexFault) → Reaches dialect file text left b
    → dialect' ≡ dialect → total' ≡ length text
    → next_token dialect' total' (chars left) ≡ Err fault
    → stack_at_end dialect file text ≡ Err fault
reached_fault dialect file text left b dialect' total' fault p same n next =
    let total = length text in
    let is : next_token dialect total (chars left) ≡ Err fault = asked (chars left) same n ∙ next in
    p.same ∙ fault_of p.n left p.fits is
  where
    fault_of : (m : ℕ) (left : List ℕ) → length left ≤ m → next_token dialect (length text) (chars left) ≡ Err fault
        → stack_of dialect file (length text) m b (chars left) ≡ Err fault
    fault_of zero [] h e = absurd (nothing_faults dialect (length text) fault e)
    fault_of zero (c ∷ cs) h e = absurd (omega arith)
    fault_of (suc m) left h e = levels_fault dialect file (length text) m b (chars left) fault e

-- the end
pub reached_last : (dialect : Dialect) (file : ℕ) (text left : List ℕ) (b : GroupStack) (dialect' : Dialect)
    (total' : ℕ)
    → Reaches dialect file text left b
    → dialect' ≡ dialect → total' ≡ length text
    → next_token dialect' total' (chars left) ≡ Ok None
    → stack_at_end dialect file text ≡ Ok b
reached_last dialect file text left b dialect' total' p same n is =
    p.same ∙ levels_last dialect file (length text) p.n b (chars left) (asked (chars left) same n ∙ is)

pub trees_lexed : (dialect : Dialect) (file : ℕ) (text : List ℕ) (b : GroupStack) (span : Span) (t : Top)
    → stack_at_end dialect file text ≡ Ok b → is_unclosed dialect b ≡ false
    → span ≡ bytes_of file (length text) (length text) → t ≡ ended span b → lexed_trees dialect file text ≡ Ok t
trees_lexed dialect file text b span t e closed is h =
    rw (e, lexed_trees, closed) (ap Ok (sym (h ∙ ap (λ (s : Span). ended s b) is)))

pub trees_unclosed : (dialect : Dialect) (file : ℕ) (text : List ℕ) (b : GroupStack)
    → stack_at_end dialect file text ≡ Ok b
    → is_unclosed dialect b ≡ true → lexed_trees dialect file text
    ≡ Err (record { offset = length text; fault_kind = fault_kind.Open })
trees_unclosed dialect file text b e more = rw (e, lexed_trees, more) refl

pub trees_fault : (dialect : Dialect) (file : ℕ) (text : List ℕ) (fault : LexFault)
    → stack_at_end dialect file text ≡ Err fault → lexed_trees dialect file text ≡ Err fault
trees_fault dialect file text fault e = rw (e, lexed_trees) refl

-- a token isn't added
pub lexes_refused : (lexed : Result Top LexFault) (x : TokenItem) (b : GroupStack) (e : LexError) → FaultsAt x b e
    → (IsMismatched x b → lexed ≡ Err (closing_fault x))
    → Lexes lexed (Err e)
lexes_refused lexed x b (errors.Fault fault) p h = h p.1 ∙ ap Err (sym p.0)
lexes_refused lexed x b errors.OutOfMemory p h = tt
