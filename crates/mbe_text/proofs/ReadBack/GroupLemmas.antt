-- What one token more makes of the groups that are open, as flat tokens.
use Rattle.std.proofs.Common.{◌≡◌, if◌then◌else◌, Bool, true, false, List, [], ◌∷◌, ◌++◌, refl, sym, ap, ◌∙◌, Option}
use Rattle.std.proofs.Common.{Some, None, append_assoc}
use Rattle.mbe_tt.specs.Buffers.GroupStack.{GroupStack, put, closed, innermost_kind}
use Rattle.mbe_tt.specs.Trees.Leaf.{literal}
use Rattle.mbe_tt.specs.Trees.Tree.{Forest, none, leaf, group, append, one_leaf, FlatToken, token, flat, is_same_kind}
use Rattle.mbe_tt.specs.Trees.Tree as tree
use Rattle.mbe_tt.specs.Trees.Top.{no_span}
use Rattle.mbe_tt.specs.declared.span.Span.{Span}
use Rattle.mbe_tt.specs.declared.tt.Delimiter.{Delimiter}
use Rattle.mbe_tt.specs.declared.tt.DelimiterKind.{DelimiterKind}
use Rattle.mbe_tt.specs.declared.tt.DelimiterKind.TheVariants.{Parenthesis, Brace, Bracket, Invisible}
use Rattle.mbe_text.specs.LexedTrees.{after_item, is_inside}
use Rattle.mbe_text.specs.Shapes.{Shape, identifier, literal_of, punct_of, lifetime_of, doc_of, opening, closing}
use Rattle.mbe_text.specs.Shapes.{item_of}
use Rattle.mbe_text.specs.Tokens.{punct_leaf, ident_leaf, lifetime_trees, doc_trees}
use Rattle.mbe_text.proofs.ReadBack.LiteralLemmas.{the_literal}
use Rattle.mbe_text.proofs.ReadBack.TokenLemmas.{hidden, hidden_all, tokens_of}
use Rattle.mbe_text.proofs.ReadBack.HiddenLemmas.{hidden_append}

-- the flat tokens of the groups that are open, without the opening of the outermost
abbrev pub flat_levels : GroupStack → List FlatToken
flat_levels [] = []
flat_levels (g ∷ []) = flat g.1
flat_levels (g ∷ (h ∷ outer)) = flat_levels (h ∷ outer) ++ (tree.opening g.0 ∷ flat g.1)

flat_append : (f g : Forest) → flat (append f g) ≡ flat f ++ flat g
flat_append none g = refl
flat_append (leaf l rest) g = ap (λ (x : List FlatToken). token l ∷ x) (flat_append rest g)
flat_append (group d inside rest) g =
    ap (λ (x : List FlatToken). tree.opening d ∷ (flat inside ++ (tree.closing d ∷ x))) (flat_append rest g)
    ∙ ap (λ (x : List FlatToken). tree.opening d ∷ x)
    (sym (append_assoc (flat inside) (tree.closing d ∷ flat rest) (flat g)))

flat_put : (f : Forest) (g : Delimiter × Forest) (outer : GroupStack)
    → flat_levels (put f (g ∷ outer)) ≡ flat_levels (g ∷ outer) ++ flat f
flat_put f g [] = flat_append g.1 f
flat_put f g (h ∷ outer) =
    ap (λ (x : List FlatToken). flat_levels (h ∷ outer) ++ (tree.opening g.0 ∷ x)) (flat_append g.1 f)
    ∙ sym (append_assoc (flat_levels (h ∷ outer)) (tree.opening g.0 ∷ flat g.1) (flat f))

-- some group is open, and these tokens more
pub record Grows (levels after : GroupStack) (ts : List FlatToken) : Type 0 where
  pub group : Delimiter × Forest
  pub outer : GroupStack
  pub is : after ≡ group ∷ outer
  pub flat_is : hidden_all (flat_levels after) ≡ hidden_all (flat_levels levels) ++ ts

grows_put : (f : Forest) (g : Delimiter × Forest) (outer after : GroupStack) → put f (g ∷ outer) ≡ after
    → Grows (g ∷ outer) after (hidden_all (flat f))
grows_put f g outer after e = record {
  group = (g.0, append g.1 f);
  outer = outer;
  is = sym e;
  flat_is = ap (λ (x : GroupStack). hidden_all (flat_levels x)) (sym e)
      ∙ (ap hidden_all (flat_put f g outer) ∙ hidden_append (flat_levels (g ∷ outer)) (flat f));
}

same_kind_is : (a b : DelimiterKind) → is_same_kind a b ≡ true → a ≡ b
same_kind_is Parenthesis Parenthesis h = refl
same_kind_is Brace Brace h = refl
same_kind_is Bracket Bracket h = refl
same_kind_is Invisible Invisible h = refl
same_kind_is a b h = absurd (cc)

grows_closed : (span : Span) (kind : DelimiterKind) (g h : Delimiter × Forest) (outer after : GroupStack)
    → g.0.kind ≡ kind → closed span (g ∷ (h ∷ outer)) ≡ after
    → Grows (g ∷ (h ∷ outer)) after (tokens_of span (closing kind))
grows_closed span kind g h outer after k e =
    let d : Delimiter = record g.0 { close = span } in
    let one : Forest = group d g.1 none in
    let r = grows_put one h outer after e in
    let end : FlatToken = tree.closing (record { opening = no_span; close = no_span; kind = kind }) in
    let before : List FlatToken = flat_levels (h ∷ outer) in
    let begun : FlatToken = hidden (tree.opening g.0) in
    let ended : hidden (tree.closing d) ≡ end =
    ap (λ (x : DelimiterKind). tree.closing (record { opening = no_span; close = no_span; kind = x })) k in
    let own : hidden_all (flat one) ≡ begun ∷ (hidden_all (flat g.1) ++ (end ∷ [])) =
    ap (λ (x : List FlatToken). begun ∷ x) (hidden_append (flat g.1) (tree.closing d ∷ [])
    ∙ ap (λ (x : FlatToken). hidden_all (flat g.1) ++ (x ∷ [])) ended) in record {
      group = r.group;
      outer = r.outer;
      is = r.is;
      flat_is = r.flat_is
          ∙ (ap (λ (x : List FlatToken). hidden_all before ++ x) own
          ∙ sym (ap (λ (x : List FlatToken). x ++ (end ∷ [])) (hidden_append before (tree.opening g.0 ∷ flat g.1))
          ∙ append_assoc (hidden_all before) (begun ∷ hidden_all (flat g.1)) (end ∷ [])));
    }

abbrev AfterIs : Type 0
AfterIs = Option GroupStack

after_same : (a b : GroupStack) → (let x : AfterIs = Some a in x) ≡ Some b → a ≡ b
after_same a b h = cc

grows_close_at : (span : Span) (kind : DelimiterKind) (g : Delimiter × Forest) (outer after : GroupStack) (b : Bool)
    → is_inside kind (innermost_kind (g ∷ outer)) ≡ b
    → (if is_inside kind (innermost_kind (g ∷ outer)) then Some (closed span (g ∷ outer)) else None) ≡ Some after
    → Grows (g ∷ outer) after (tokens_of span (closing kind))
grows_close_at span kind g outer after false b e =
    absurd (let w : (if is_inside kind (innermost_kind (g ∷ outer)) then Some (closed span (g ∷ outer)) else None)
    ≡ None =
    ap (λ (x : Bool). if x then Some (closed span (g ∷ outer)) else None) b in
    let z : None ≡ Some after = sym w ∙ e in cc)
grows_close_at span kind g [] after true b e = absurd (cc)
grows_close_at span kind g (h ∷ outer) after true b e =
    grows_closed span kind g h outer after (same_kind_is g.0.kind kind b)
    (after_same (closed span (g ∷ (h ∷ outer))) after
    (sym (ap (λ (x : Bool). if x then Some (closed span (g ∷ (h ∷ outer))) else None) b) ∙ e))

pub grows : (span : Span) (shape : Shape) (g : Delimiter × Forest) (outer after : GroupStack)
    → after_item (item_of span shape) (g ∷ outer) ≡ Some after → Grows (g ∷ outer) after (tokens_of span shape)
grows span (identifier name r) g outer after e =
    grows_put (one_leaf (ident_leaf span name r)) g outer after (after_same _ after e)
grows span (literal_of text suffix n kind) g outer after e =
    grows_put (one_leaf (literal (the_literal text suffix n kind span))) g outer after (after_same _ after e)
grows span (punct_of c sp) g outer after e =
    grows_put (one_leaf (punct_leaf span c sp)) g outer after (after_same _ after e)
grows span (lifetime_of name r) g outer after e =
    grows_put (lifetime_trees span name r) g outer after (after_same _ after e)
grows span (doc_of text inner) g outer after e =
    grows_put (doc_trees span text inner) g outer after (after_same _ after e)
grows span (opening k) g outer after e =
    let d : Delimiter = record { opening = span; close = span; kind = k } in
    let same = after_same ((d, none) ∷ (g ∷ outer)) after e in record {
      group = (d, none);
      outer = g ∷ outer;
      is = sym same;
      flat_is = ap (λ (x : GroupStack). hidden_all (flat_levels x)) (sym same)
          ∙ hidden_append (flat_levels (g ∷ outer)) (tree.opening d ∷ []);
    }
grows span (closing k) g outer after e =
    grows_close_at span k g outer after (is_inside k (innermost_kind (g ∷ outer))) refl e
