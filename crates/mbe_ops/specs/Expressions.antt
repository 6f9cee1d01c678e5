-- How contracts see metavariable expressions and their variables, independent of memory.
use Rattle.std.specs.Prelude.{◌≡◌, ◌⊎◌, ℕ, Bool, List, map, option_map, refl}
use Rattle.std.specs.List.{cons_option}
use Rattle.std.specs.Coded.{Coded, code_by, coded_list, coded_ℕ, coded×, coded⊎}
use Rattle.std.specs.Cmp.{IsEquivalence}
use Rattle.std.proofs.Common.{inl, inr}
use Rattle.std.proofs.lemmas.Cmp.{on_equiv}
use Rattle.mbe_tt.specs.Laws.CodeEquality.{same, same_equiv}
use Rattle.mbe_tt.specs.Trees.Leaf.{Literal, Ident, literal_code, ident_code}
use Rattle.mbe_tt.specs.Views.LeafViews.{literal_of, ident_of}
use Rattle.mbe_tt.specs.declared.span.Span.{Span}
use Rattle.mbe_tt.specs.contracts.span.Span as span
use Rattle.mbe_semantics.specs.Syntax.Op as ops
use Rattle.mbe_semantics.specs.Syntax.Op.{Name, Element, Expression, Use, for_fragment, for_number}
use Rattle.mbe_semantics.specs.Syntax.Op.{Mention, mentions_of_elements}
use Rattle.mbe_ops.specs.declared.expression.ConcatMetaVarExprElem as part
use Rattle.mbe_ops.specs.declared.expression.Expression as code
use Rattle.mbe_ops.specs.declared.expression.UseKind as wants
use Rattle.mbe_ops.specs.declared.expression.Mention as found
use Rattle.mbe_ops.specs.declared.expression.Mentions.{Mentions}

abbrev pub element_seen : {A : Type 0} → part.ConcatMetaVarExprElem A → Element
element_seen (part.TheVariants.Ident i) = ops.ident_element (ident_of i)
element_seen (part.TheVariants.Var i) = ops.variable_element (ident_of i)
element_seen (part.TheVariants.Literal l) = ops.literal_element (literal_of l)

abbrev pub elements_seen : {A : Type 0} → List (part.ConcatMetaVarExprElem A) → List Element
elements_seen es = map element_seen es

abbrev pub expression_seen : {A : Type 0} → code.Expression A → Expression
expression_seen (code.TheVariants.Ignore name id) = ops.ignore name id
expression_seen (code.TheVariants.Index depth) = ops.index depth
expression_seen (code.TheVariants.Len depth) = ops.len depth
expression_seen (code.TheVariants.Count name depth) = ops.count name depth
expression_seen (code.TheVariants.Concat span elements) =
    ops.concat (map element_seen elements.items) span

-- ---- the variables of an expression

abbrev pub use_seen : wants.UseKind → Name → Use
use_seen wants.TheVariants.Fragment name = for_fragment name
use_seen wants.TheVariants.Number name = for_number name

abbrev pub mention_seen : {A : Type 0} → found.Mention A → Mention
mention_seen m = record { used = use_seen m.use_kind m.name.now; offset = m.place }

-- the variables that an iterator has still to yield
abbrev pub mentions_left : {A : Type 0} → Mentions A → List Mention
mentions_left m =
    cons_option (option_map mention_seen m.first)
    (mentions_of_elements (elements_seen m.elements.now))

-- ---- codes, which decide equality

abbrev pub ElementRow : Type 0
ElementRow = Ident ⊎ (Literal ⊎ Ident)

abbrev pub element_row : Element → ElementRow
element_row (ops.ident_element i) = inl i
element_row (ops.literal_element l) = inr (inl l)
element_row (ops.variable_element i) = inr (inr i)

abbrev pub row_element : ElementRow → Element
row_element (inl i) = ops.ident_element i
row_element (inr (inl l)) = ops.literal_element l
row_element (inr (inr i)) = ops.variable_element i

pub row_element-element_row : (e : Element) → row_element (element_row e) ≡ e
row_element-element_row (ops.ident_element i) = refl
row_element-element_row (ops.literal_element l) = refl
row_element-element_row (ops.variable_element i) = refl

abbrev pub element_code : Coded Element
element_code =
    code_by ElementRow (coded⊎ ident_code (coded⊎ literal_code ident_code)) element_row row_element
    row_element-element_row

abbrev pub ExpressionRow : Type 0
ExpressionRow = (Name × Span) ⊎ ((Name × ℕ) ⊎ (ℕ ⊎ (ℕ ⊎ (List Element × Span))))

abbrev pub expression_row : Expression → ExpressionRow
expression_row (ops.ignore name s) = inl (name, s)
expression_row (ops.count name depth) = inr (inl (name, depth))
expression_row (ops.index depth) = inr (inr (inl depth))
expression_row (ops.len depth) = inr (inr (inr (inl depth)))
expression_row (ops.concat elements s) = inr (inr (inr (inr (elements, s))))

abbrev pub row_expression : ExpressionRow → Expression
row_expression (inl p) = ops.ignore p.0 p.1
row_expression (inr (inl p)) = ops.count p.0 p.1
row_expression (inr (inr (inl depth))) = ops.index depth
row_expression (inr (inr (inr (inl depth)))) = ops.len depth
row_expression (inr (inr (inr (inr p)))) = ops.concat p.0 p.1

pub row_expression-expression_row : (e : Expression) → row_expression (expression_row e) ≡ e
row_expression-expression_row (ops.ignore name s) = refl
row_expression-expression_row (ops.count name depth) = refl
row_expression-expression_row (ops.index depth) = refl
row_expression-expression_row (ops.len depth) = refl
row_expression-expression_row (ops.concat elements s) = refl

abbrev pub expression_code : Coded Expression
expression_code =
    let names = coded_list coded_ℕ in
    let listed = coded× (coded_list element_code) span.the_row.coded in
    code_by ExpressionRow
    (coded⊎ (coded× names span.the_row.coded)
    (coded⊎ (coded× names coded_ℕ) (coded⊎ coded_ℕ (coded⊎ coded_ℕ listed))))
    expression_row row_expression row_expression-expression_row

-- equality of elements
abbrev pub element_eq : {A : Type 0} → part.ConcatMetaVarExprElem A → part.ConcatMetaVarExprElem A
    → Bool
element_eq x y = same element_code (element_seen x) (element_seen y)

pub element_eq_laws : {A : Type 0} → IsEquivalence (element_eq {A = A})
element_eq_laws = on_equiv element_seen (same_equiv element_code)
