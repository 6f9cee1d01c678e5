-- One tree more of a walk: the steps that are still to be found, and how many tokens that is.
use Rattle.std.proofs.Common.{◌≡◌, ℕ, ◌+◌, List, [], ◌∷◌, ◌++◌, map, reverse, Some, None, refl, ap, sym, ◌∙◌}
use Rattle.std.proofs.Common.{append_assoc, append-nil}
use Rattle.std.proofs.lemmas.List.{map-append, reverse-append}
use Rattle.mbe_tt.specs.Trees.Leaf.{Leaf}
use Rattle.mbe_tt.specs.Trees.Tree.{Forest, none, leaf, group, Leaf_tree, Group_tree, first, rest_of, flat_len}
use Rattle.mbe_tt.specs.declared.span.Span.{Span}
use Rattle.mbe_tt.specs.declared.tt.Delimiter.{Delimiter}
use Rattle.mbe_rewriter.specs.declared.hygiene.scan_state.ScanState.{ScanState}
use Rattle.mbe_rewriter.specs.declared.hygiene.scan_state.TokenRole.{TokenRole}
use Rattle.mbe_rewriter.specs.Hygiene.Roles.{group_role, close_role}
use Rattle.mbe_rewriter.specs.Hygiene.ScanState.{after_leaf, after_group, inside_group}
use Rattle.mbe_rewriter.specs.Hygiene.TreeEvents.{TreeEvent, token, opening, closing, leaf_role, events}

-- a group around: where it closes with that role, the site after it, and the trees after it
abbrev pub OpenGroup : Type 0
OpenGroup = (Span × TokenRole) × ScanState × Forest

-- the steps after the content of each group around, from the innermost
unfoldable pub steps_around : List OpenGroup → List TreeEvent
steps_around [] = []
steps_around (g ∷ open_groups) = closing g.0.0 g.0.1 ∷ (events g.1 g.2 ++ steps_around open_groups)

abbrev pub tokens_around : List OpenGroup → ℕ
tokens_around [] = 0
tokens_around (g ∷ open_groups) = 1 + flat_len g.2 + tokens_around open_groups

leaf_step : (f : Forest) (l : Leaf) (s : ScanState) → Some (Leaf_tree l) ≡ first f
    → events s f ≡ token l (leaf_role s l (rest_of f)) ∷ events (after_leaf s l (rest_of f)) (rest_of f)
unfolding events
leaf_step none l s h = absurd (cc)
leaf_step (leaf m rest) l s h =
    let e : m ≡ l = cc in
    ap (λ (x : Leaf). token x (leaf_role s x rest) ∷ events (after_leaf s x rest) rest) e
leaf_step (group d inside rest) l s h = absurd (cc)

group_step : (f inside : Forest) (d : Delimiter) (s : ScanState) → Some (Group_tree d inside) ≡ first f
    → events s f ≡ opening d.kind d.opening (group_role s d.kind) ∷ (events (inside_group s d.kind inside) inside
    ++ closing d.close (close_role s d.kind) ∷ events (after_group s d.kind (rest_of f)) (rest_of f))
unfolding events
group_step none inside d s h = absurd (cc)
group_step (leaf m rest) inside d s h = absurd (cc)
group_step (group e content rest) inside d s h =
    let same_delimiter : e ≡ d = cc in
    let same_content : content ≡ inside = cc in
    ap (λ (x : Delimiter). opening x.kind x.opening (group_role s x.kind)
    ∷ (events (inside_group s x.kind content) content
    ++ closing x.close (close_role s x.kind) ∷ events (after_group s x.kind rest) rest)) same_delimiter
    ∙ ap (λ (x : Forest). opening d.kind d.opening (group_role s d.kind) ∷ (events (inside_group s d.kind x) x
    ++ closing d.close (close_role s d.kind) ∷ events (after_group s d.kind rest) rest)) same_content

end_step : (f : Forest) (s : ScanState) → None ≡ first f → events s f ≡ []
unfolding events
end_step none s h = refl
end_step (leaf m rest) s h = absurd (cc)
end_step (group e content rest) s h = absurd (cc)

around_cons : (g : OpenGroup) (open_groups : List OpenGroup)
    → steps_around (g ∷ open_groups) ≡ closing g.0.0 g.0.1 ∷ (events g.1 g.2 ++ steps_around open_groups)
unfolding steps_around
around_cons g open_groups = refl

around_nil : steps_around [] ≡ []
unfolding steps_around
around_nil = refl

-- what was found, and what is still to be found
pub record Left (found : List TreeEvent) (s : ScanState) (f : Forest) (items : List OpenGroup)
    (all : List TreeEvent) : Type 0 where
  pub same : found ++ (events s f ++ steps_around (reverse items)) ≡ all

pub begins : (found : List TreeEvent) (items : List OpenGroup) (s t : ScanState) (f g : Forest) → found ≡ [] → items
    ≡ [] → s ≡ t
    → f ≡ g → Left found s f items (events t g)
begins found items s t f g n i w e = record {
  same = ap (λ k. k ++ (events s f ++ steps_around (reverse items))) n
      ∙ ap (λ k. events s f ++ steps_around (reverse k)) i ∙ ap (λ k. events s f ++ k) around_nil
      ∙ append-nil (events s f) ∙ ap (λ (x : ScanState). events x f) w ∙ ap (events t) e;
}

-- one item pushed, as the definitions show it
pub one_shown : {X : Type 0} (show : X → TreeEvent) (xs ys : List X) (x : X) (t : TreeEvent) → ys ≡ xs ++ (x ∷ [])
    → show x ≡ t
    → map show ys ≡ map show xs ++ (t ∷ [])
one_shown show xs ys x t e w =
    ap (map show) e ∙ map-append show xs (x ∷ []) ∙ ap (λ k. map show xs ++ (k ∷ [])) w

-- one step found, of those that were to be found
one_more : (found more : List TreeEvent) (x : TreeEvent) (others : List TreeEvent) → more ≡ found ++ (x ∷ [])
    → more ++ others ≡ found ++ (x ∷ others)
one_more found more x others e = ap (λ k. k ++ others) e ∙ append_assoc found (x ∷ []) others

pub leaf_on : (found more all : List TreeEvent) (s next : ScanState) (f after : Forest) (items : List OpenGroup)
    (l : Leaf)
    → after ≡ rest_of f → Some (Leaf_tree l) ≡ first f → more ≡ found ++ (token l (leaf_role s l after) ∷ [])
    → next ≡ after_leaf s l after → Left found s f items all → Left more next after items all
leaf_on found more all s next f after items l r h m n w =
    let open_groups = steps_around (reverse items) in
    let is = leaf_step f l s h in
    record {
      same = ap (λ t. more ++ (events t after ++ open_groups)) n
          ∙ one_more found more (token l (leaf_role s l after)) (events (after_leaf s l after) after ++ open_groups) m
          ∙ ap (λ (x : Forest). found ++ (token l (leaf_role s l x) ∷ (events (after_leaf s l x) x ++ open_groups))) r
          ∙ ap (λ k. found ++ (k ++ open_groups)) (sym is) ∙ w.same;
    }

pub group_on : (found more all : List TreeEvent) (s here next : ScanState) (f after inside : Forest)
    (items deeper : List OpenGroup)
    (d : Delimiter) → after ≡ rest_of f → Some (Group_tree d inside) ≡ first f
    → more ≡ found ++ (opening d.kind d.opening (group_role s d.kind) ∷ []) → here ≡ after_group s d.kind after
    → deeper ≡ items ++ (((d.close, close_role s d.kind), here, after) ∷ [])
    → next ≡ inside_group s d.kind inside → Left found s f items all → Left more next inside deeper all
group_on found more all s here next f after inside items deeper d r h m a i n w =
    let open_groups = steps_around (reverse items) in
    let begin = opening d.kind d.opening (group_role s d.kind) in
    let content = events (inside_group s d.kind inside) inside in
    let end = closing d.close (close_role s d.kind) in
    let deep : steps_around (reverse deeper) ≡ end ∷ (events here after ++ open_groups) =
    ap (λ k. steps_around (reverse k)) i
    ∙ ap steps_around (reverse-append items (((d.close, close_role s d.kind), here, after) ∷ []))
    ∙ around_cons ((d.close, close_role s d.kind), here, after) (reverse items) in
    let rest : events here after ≡ events (after_group s d.kind (rest_of f)) (rest_of f) =
    ap (λ t. events t after) a ∙ ap (λ (x : Forest). events (after_group s d.kind x) x) r in
    record {
      same = ap (λ t. more ++ (events t inside ++ steps_around (reverse deeper))) n
          ∙ one_more found more begin (content ++ steps_around (reverse deeper)) m
          ∙ ap (λ k. found ++ (begin ∷ (content ++ k))) deep
          ∙ ap (λ k. found ++ (begin ∷ (content ++ (end ∷ (k ++ open_groups))))) rest
          ∙ ap (λ k. found ++ (begin ∷ k)) (sym (append_assoc content
          (end ∷ events (after_group s d.kind (rest_of f)) (rest_of f)) open_groups))
          ∙ ap (λ k. found ++ (k ++ open_groups)) (sym (group_step f inside d s h)) ∙ w.same;
    }

pub pop_on : (found more all : List TreeEvent) (s here : ScanState) (f rest : Forest) (items fewer : List OpenGroup)
    (close : Span) (role : TokenRole)
    → None ≡ first f → more ≡ found ++ (closing close role ∷ []) → items ≡ fewer ++ (((close, role), here, rest) ∷ [])
    → Left found s f items all → Left more here rest fewer all
pop_on found more all s here f rest items fewer close role h m i w =
    let open_groups = steps_around (reverse fewer) in
    let deep : steps_around (reverse items) ≡ closing close role ∷ (events here rest ++ open_groups) =
    ap (λ k. steps_around (reverse k)) i ∙ ap steps_around (reverse-append fewer (((close, role), here, rest) ∷ []))
    ∙ around_cons ((close, role), here, rest) (reverse fewer) in
    record {
      same = one_more found more (closing close role) (events here rest ++ open_groups) m
          ∙ ap (λ k. found ++ k) (sym deep)
          ∙ ap (λ k. found ++ (k ++ steps_around (reverse items))) (sym (end_step f s h)) ∙ w.same;
    }

pub all_done : (found all : List TreeEvent) (s : ScanState) (f : Forest) (items : List OpenGroup) → None ≡ first f
    → items ≡ []
    → Left found s f items all → found ≡ all
all_done found all s f items h i w =
    sym (append-nil found)
    ∙ ap (λ k. found ++ k) (sym (ap (λ k. k ++ steps_around (reverse items)) (end_step f s h)
    ∙ ap (λ k. steps_around (reverse k)) i ∙ around_nil))
    ∙ w.same
