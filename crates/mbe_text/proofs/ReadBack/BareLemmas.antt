-- Trees and open groups without spans.
use Rattle.std.proofs.Common.{◌≡◌, List, [], ◌∷◌, ◌++◌, refl, sym, ap, ◌∙◌, Some, append_assoc, subst}
use Rattle.std.specs.Bool.{⊤}
use Rattle.mbe_tt.specs.Buffers.GroupStack.{GroupStack, put, closed, innermost_kind}
use Rattle.mbe_tt.specs.Trees.Top.{no_span}
use Rattle.mbe_tt.specs.Trees.Tree.{Forest, none, leaf, group, append, one_leaf, FlatToken, token, opening, closing}
use Rattle.mbe_tt.specs.Trees.Tree.{flat}
use Rattle.mbe_tt.specs.declared.span.Span.{Span}
use Rattle.mbe_tt.specs.declared.tt.Delimiter.{Delimiter}
use Rattle.mbe_text.specs.Laws.RoundTrip.{bare, bare_leaf, bare_delimiter}

abbrev pub bare_levels : GroupStack → GroupStack
bare_levels [] = []
bare_levels (g ∷ outer) = (bare_delimiter g.0, bare g.1) ∷ bare_levels outer

bare_append : (f g : Forest) → bare (append f g) ≡ append (bare f) (bare g)
bare_append none g = refl
bare_append (leaf l rest) g = ap (leaf (bare_leaf l)) (bare_append rest g)
bare_append (group d inside rest) g = ap (group (bare_delimiter d) (bare inside)) (bare_append rest g)

pub bare_put : (f : Forest) (levels : GroupStack) → bare_levels (put f levels) ≡ put (bare f) (bare_levels levels)
bare_put f [] = refl
bare_put f (g ∷ outer) = ap (λ (x : Forest). (bare_delimiter g.0, x) ∷ bare_levels outer) (bare_append g.1 f)

pub bare_closed : (span : Span) (levels : GroupStack) → bare_levels (closed span levels) ≡ closed no_span
    (bare_levels levels)
bare_closed span [] = refl
bare_closed span (g ∷ outer) = bare_put (group (record g.0 { close = span }) g.1 none) outer

pub bare_kind : (levels : GroupStack) → innermost_kind (bare_levels levels) ≡ innermost_kind levels
bare_kind [] = refl
bare_kind (g ∷ []) = refl
bare_kind (g ∷ (h ∷ outer)) = refl

-- ---- flat tokens

-- what a token makes of the groups that are open
abbrev pub step : FlatToken → GroupStack → GroupStack
step (token l) levels = put (one_leaf (bare_leaf l)) levels
step (opening d) levels = (bare_delimiter d, none) ∷ levels
step (closing d) levels = closed no_span levels

abbrev pub made : List FlatToken → GroupStack → GroupStack
made [] levels = levels
made (t ∷ ts) levels = made ts (step t levels)

-- each closing is of the innermost group's kind
abbrev pub Fit : List FlatToken → GroupStack → Type 0
Fit [] levels = ⊤
Fit (token l ∷ ts) levels = Fit ts (step (token l) levels)
Fit (opening d ∷ ts) levels = Fit ts (step (opening d) levels)
Fit (closing d ∷ ts) levels = (innermost_kind levels ≡ Some d.kind) × Fit ts (step (closing d) levels)

-- ---- those of trees

append_more : (f g h : Forest) → append (append f g) h ≡ append f (append g h)
append_more none g h = refl
append_more (leaf l rest) g h = ap (leaf l) (append_more rest g h)
append_more (group d inside rest) g h = ap (group d inside) (append_more rest g h)

append_nothing : (f : Forest) → append f none ≡ f
append_nothing none = refl
append_nothing (leaf l rest) = ap (leaf l) (append_nothing rest)
append_nothing (group d inside rest) = ap (group d inside) (append_nothing rest)

pub put_more : (f g : Forest) (levels : GroupStack) → put g (put f levels) ≡ put (append f g) levels
put_more f g [] = refl
put_more f g (k ∷ outer) = ap (λ (x : Forest). (k.0, x) ∷ outer) (append_more k.1 f g)

put_nothing : (levels : GroupStack) → put none levels ≡ levels
put_nothing [] = refl
put_nothing (k ∷ outer) = ap (λ (x : Forest). (k.0, x) ∷ outer) (append_nothing k.1)

pub made_flat : (f : Forest) (ts : List FlatToken) (levels : GroupStack)
    → made (flat f ++ ts) levels ≡ made ts (put (bare f) levels)
made_flat none ts levels = ap (made ts) (sym (put_nothing levels))
made_flat (leaf l rest) ts levels =
    made_flat rest ts (put (one_leaf (bare_leaf l)) levels) ∙ ap (made ts) (put_more (one_leaf (bare_leaf l))
    (bare rest) levels)
made_flat (group d inside rest) ts levels =
    let own : GroupStack = (bare_delimiter d, none) ∷ levels in
    ap (λ (x : List FlatToken). made x own) (append_assoc (flat inside) (closing d ∷ flat rest) ts)
    ∙ (made_flat inside (closing d ∷ (flat rest ++ ts)) own
    ∙ (made_flat rest ts (put (group (bare_delimiter d) (bare inside) none) levels)
    ∙ ap (made ts) (put_more (group (bare_delimiter d) (bare inside) none) (bare rest) levels)))

pub fit_flat : (f : Forest) (ts : List FlatToken) (g : Delimiter × Forest) (outer : GroupStack)
    → Fit ts (put (bare f) (g ∷ outer)) → Fit (flat f ++ ts) (g ∷ outer)
fit_flat none ts g outer h = subst (Fit ts) (put_nothing (g ∷ outer)) h
fit_flat (leaf l rest) ts g outer h =
    fit_flat rest ts (g.0, append g.1 (one_leaf (bare_leaf l))) outer
    (subst (Fit ts) (sym (put_more (one_leaf (bare_leaf l)) (bare rest) (g ∷ outer))) h)
fit_flat (group d inside rest) ts g outer h =
    let own : GroupStack = (bare_delimiter d, none) ∷ (g ∷ outer) in
    let inner : Forest = group (bare_delimiter d) (bare inside) none in
    let later : Fit (flat rest ++ ts) (put inner (g ∷ outer)) =
    fit_flat rest ts (g.0, append g.1 inner) outer (subst (Fit ts) (sym (put_more inner (bare rest) (g ∷ outer))) h) in
    subst (λ (x : List FlatToken). Fit x own) (sym (append_assoc (flat inside) (closing d ∷ flat rest) ts))
    (fit_flat inside (closing d ∷ (flat rest ++ ts)) (bare_delimiter d, none) (g ∷ outer) (refl, later))
