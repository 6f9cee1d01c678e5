-- What items make, one item more.
use Rattle.std.proofs.Common.{◌≡◌, ℕ, ◌+◌, ◌<◌, ◌≤◌, List, [], ◌∷◌, ◌++◌, length, refl, sym, ap, ◌∙◌, arith, subst}
use Rattle.std.proofs.Common.{Option, Some, IfSome}
use Rattle.std.specs.Prelude.{slice_range}
use Rattle.mbe_tt.specs.Buffers.GroupStack.{GroupStack}
use Rattle.mbe_tt.specs.declared.span.Span.{Span}
use Rattle.mbe_tt.specs.Trees.Tree.{none}
use Rattle.mbe_tt.specs.Trees.Top.{Top}
use Rattle.mbe_tt.specs.declared.tt.Delimiter.{Delimiter}
use Rattle.mbe_tt.specs.declared.tt.DelimiterKind.TheVariants.{Invisible}
use Rattle.mbe_text.specs.declared.scanner.SourceToken.{SourceToken}
use Rattle.mbe_text.specs.declared.scanner.Lexeme.{Lexeme}
use Rattle.mbe_text.specs.declared.scanner.Lexeme.TheVariants.{Ident, Literal, Punct, Open, Close, Lifetime, Doc}
use Rattle.mbe_text.specs.Tokens.{TokenItem, item_span, item_text, token_item, lexeme_item, Adds, Makes, ended}
use Rattle.mbe_text.specs.Tokens.{AreInOrder, AreSpelled, bytes_of, whole, IsLexed}

makes_more : (a b c : GroupStack) (xs : List TokenItem) (x : TokenItem) → Makes a xs b → Adds x b c
    → Makes a (xs ++ x ∷ []) c
makes_more a b c [] x p q = (c, subst (λ (l : GroupStack). Adds x l c) p q, refl)
makes_more a b c (y ∷ ys) x p q = (p.0, p.1, makes_more p.0 b c ys x p.2 q)

in_order_more : (file from to new : ℕ) (xs : List TokenItem) (x : TokenItem) → AreInOrder file from xs to
    → item_span x ≡ bytes_of file (item_span x).start (item_span x).end → to ≤ (item_span x).start
    → (item_span x).start < (item_span x).end → (item_span x).end ≤ new
    → AreInOrder file from (xs ++ x ∷ []) new
in_order_more file from to new [] x p is above some below = (is, omega (arith, p, above), some, below)
in_order_more file from to new (y ∷ ys) x p is above some below =
    (p.0, p.1, p.2, in_order_more file (item_span y).end to new ys x p.3 is above some below)

spelled_more : (text : List ℕ) (xs : List TokenItem) (x : TokenItem) → AreSpelled text xs
    → slice_range text (item_span x).start (item_span x).end ≡ item_text x → AreSpelled text (xs ++ x ∷ [])
spelled_more text [] x p here = (here, p)
spelled_more text (y ∷ ys) x p here = (p.0, spelled_more text ys x p.1 here)

-- an item is where its token is
span_of_lexeme : (span : Span) (l : Lexeme) → item_span (lexeme_item span l) ≡ span
span_of_lexeme span (Ident name is_raw) = refl
span_of_lexeme span (Literal text suffix suffix_len kind) = refl
span_of_lexeme span (Punct char spacing) = refl
span_of_lexeme span (Lifetime name is_raw) = refl
span_of_lexeme span (Doc text is_inner) = refl
span_of_lexeme span (Open kind) = refl
span_of_lexeme span (Close kind) = refl

-- the tokens so far, of a text of which so much is left
pub record Lexed (file : ℕ) (text : List ℕ) (left : ℕ) (builder : GroupStack) : Type 0 where
  pub items : List TokenItem
  pub to : ℕ
  pub at : to + left ≡ length text
  pub in_order : AreInOrder file 0 items to
  pub spelled : AreSpelled text items
  pub made : Makes (whole file (length text)) items builder

-- before the first token
pub lexed_first : (file : ℕ) (text : List ℕ) (left : ℕ) (span : Span) (d : Delimiter) (b : GroupStack) → b ≡ (d, none)
    ∷ []
    → d ≡ record { opening = span; close = span; kind = Invisible } → span ≡ bytes_of file 0 (length text)
    → left ≡ length text
    → Lexed file text left b
lexed_first file text left span d b e opens is all =
    let delimiter : Span → Delimiter = λ s. record { opening = s; close = s; kind = Invisible } in
    let levels : Delimiter → GroupStack = λ k. (k, none) ∷ [] in
    record {
      items = [];
      to = 0;
      at = omega arith;
      in_order = omega arith;
      spelled = tt;
      made = e
          ∙ ap levels (opens ∙ ap delimiter is);
    }

-- one token more
lexed_token : (file : ℕ) (text : List ℕ) (left left' : ℕ) (b c : GroupStack) (t : SourceToken) → Lexed file text left b
    → t.span ≡ bytes_of file t.span.start t.span.end → length text ≤ t.span.start + left → t.span.start < t.span.end
    → t.span.end + left' ≡ length text → slice_range text t.span.start t.span.end ≡ item_text (token_item t)
    → Adds (token_item t) b c → Lexed file text left' c
lexed_token file text left left' b c t p is above some below spelled q =
    let e = span_of_lexeme t.span t.lexeme in
    let s = ap (λ (s : Span). s.start) e in
    let f = ap (λ (s : Span). s.end) e in
    record {
      items = p.items ++ token_item t ∷ [];
      to = t.span.end;
      at = below;
      in_order = in_order_more file 0 p.to t.span.end p.items (token_item t) p.in_order
          (e ∙ (is ∙ ap (λ (s : Span). bytes_of file s.start s.end) (sym e)))
          (let h = p.at in omega (arith, s, above, h)) (omega (arith, s, f, some)) (omega (arith, f));
      spelled = spelled_more text p.items (token_item t) p.spelled
          (ap (λ (s : Span). slice_range text s.start s.end) e ∙ spelled);
      made = makes_more (whole file (length text)) b c p.items (token_item t) p.made q;
    }

pub lexed_more : (file : ℕ) (text : List ℕ) (file' : ℕ) (text' : List ℕ) (total left left' : ℕ) (b c : GroupStack)
    (o : Option SourceToken) (t : SourceToken)
    → Lexed file text left b → file' ≡ file → text' ≡ text → total ≡ length text → o ≡ Some t
    → IfSome o (λ t. t.span ≡ bytes_of file' t.span.start t.span.end) → IfSome o (λ t. total ≤ t.span.start + left)
    → IfSome o (λ t. t.span.start < t.span.end) → IfSome o (λ t. t.span.end + left' ≡ total)
    → IfSome o (λ t. slice_range text' t.span.start t.span.end ≡ item_text (token_item t))
    → Adds (token_item t) b c → Lexed file text left' c
lexed_more file text file' text' total left left' b c o t p same_file same_text same_total e is above some below spelled
    q =
    let is_here : t.span ≡ bytes_of file' t.span.start t.span.end =
    subst (λ (x : Option SourceToken). IfSome x (λ t. t.span ≡ bytes_of file' t.span.start t.span.end)) e is in
    let above_here : total ≤ t.span.start + left =
    subst (λ (x : Option SourceToken). IfSome x (λ t. total ≤ t.span.start + left)) e above in
    let some_here : t.span.start < t.span.end =
    subst (λ (x : Option SourceToken). IfSome x (λ t. t.span.start < t.span.end)) e some in
    let below_here : t.span.end + left' ≡ total =
    subst (λ (x : Option SourceToken). IfSome x (λ t. t.span.end + left' ≡ total)) e below in
    let spelled_here : slice_range text' t.span.start t.span.end ≡ item_text (token_item t) =
    subst (λ (x : Option SourceToken). IfSome x (λ t. slice_range text' t.span.start t.span.end
    ≡ item_text (token_item t))) e
    spelled in
    lexed_token file text left left' b c t p (is_here ∙ ap (λ (n : ℕ). bytes_of n t.span.start t.span.end) same_file)
    (omega (arith, above_here, same_total)) some_here (below_here ∙ same_total)
    (ap (λ (l : List ℕ). slice_range l t.span.start t.span.end) (sym same_text) ∙ spelled_here) q

in_order_up : (file from to new : ℕ) (xs : List TokenItem) → AreInOrder file from xs to → to ≤ new
    → AreInOrder file from xs new
in_order_up file from to new [] p h = omega (arith, p, h)
in_order_up file from to new (x ∷ xs) p h = (p.0, p.1, p.2, in_order_up file (item_span x).end to new xs p.3 h)

-- after the last token
pub lexed_last : (file : ℕ) (text : List ℕ) (left : ℕ) (span : Span) (b : GroupStack) (t : Top) → Lexed file text left b
    → span ≡ bytes_of file (length text) (length text) → t ≡ ended span b → IsLexed file text t
lexed_last file text left span b t p is e =
    let h = p.at in
    record {
      items = p.items;
      in_order = in_order_up file 0 p.to (length text) p.items p.in_order (omega (arith, h));
      spelled = p.spelled;
      levels = b;
      made = p.made;
      closed_at_end = e ∙ ap (λ (s : Span). ended s b) is;
    }
