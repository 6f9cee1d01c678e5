-- Flat tokens without the spans of the other side of a group.
use Rattle.std.proofs.Common.{◌≡◌, ℕ, zero, suc, ◌==◌, ◌⊎◌, not, ◌&&◌, if◌then◌else◌, Bool, true, false, List, [], ◌∷◌}
use Rattle.std.proofs.Common.{◌++◌, refl, ap, ◌∙◌, Option, None, subst}
use Rattle.mbe_tt.specs.Trees.Leaf.{Literal, literal, punct, ident}
use Rattle.mbe_tt.specs.Trees.Tree.{Forest, none, leaf, group, append, one_leaf, FlatToken, token, flat, is_same_kind}
use Rattle.mbe_tt.specs.Trees.Tree as tree
use Rattle.mbe_tt.specs.declared.span.Edition.{Edition}
use Rattle.mbe_tt.specs.declared.span.Span.{Span}
use Rattle.mbe_tt.specs.declared.tt.Punct.{Punct}
use Rattle.mbe_tt.specs.declared.tt.Spacing.{Spacing}
use Rattle.mbe_tt.specs.declared.tt.Spacing.TheVariants.{Alone, Joint}
use Rattle.mbe_text.specs.RustText.DocComments.{DocComment, is_bracket}
use Rattle.mbe_text.specs.RustText.Gaps.{are_adjacent, is_adjacent_to_next, is_joint}
use Rattle.mbe_text.specs.Laws.RustTrees.{next_place, may_follow_dot, IsBeforeDot, IsJoined, HasSpacing, IsLifetime}
use Rattle.mbe_text.specs.Laws.RustTrees.{IsSign, AreRust, MayHaveFields, MayPrecedeDots, AreRead, set_flat}
use Rattle.mbe_text.specs.Laws.RustTrees.{brackets_flat, hash_flat, comment_after, skipped, joint_after}
use Rattle.mbe_text.proofs.ReadBack.TokenLemmas.{hidden, hidden_all}

pub hidden_append : (xs ys : List FlatToken) → hidden_all (xs ++ ys) ≡ hidden_all xs ++ hidden_all ys
hidden_append [] ys = refl
hidden_append (x ∷ xs) ys = ap (λ (l : List FlatToken). hidden x ∷ l) (hidden_append xs ys)

hidden_place : (ts : List FlatToken) → next_place (hidden_all ts) ≡ next_place ts
hidden_place [] = refl
hidden_place (token l ∷ ts) = refl
hidden_place (tree.opening d ∷ ts) = refl
hidden_place (tree.closing d ∷ ts) = refl

hidden_goes : (sp : Spacing) (ts : List FlatToken) → may_follow_dot sp (hidden_all ts) ≡ may_follow_dot sp ts
hidden_goes Joint [] = refl
hidden_goes Joint (token (literal l) ∷ ts) = refl
hidden_goes Joint (token (punct p) ∷ ts) = refl
hidden_goes Joint (token (ident i) ∷ ts) = refl
hidden_goes Joint (tree.opening d ∷ ts) = refl
hidden_goes Joint (tree.closing d ∷ ts) = refl
hidden_goes Alone [] = refl
hidden_goes Alone (token (literal l) ∷ ts) = refl
hidden_goes Alone (token (punct p) ∷ ts) = refl
hidden_goes Alone (token (ident i) ∷ ts) = refl
hidden_goes Alone (tree.opening d ∷ ts) = refl
hidden_goes Alone (tree.closing d ∷ ts) = refl

shown_dot : (e : Edition) (l : Literal) (ts : List FlatToken) → IsBeforeDot e l (hidden_all ts) → IsBeforeDot e l ts
shown_dot e l [] h = tt
shown_dot e l (token (literal m) ∷ ts) h = tt
shown_dot e l (token (ident i) ∷ ts) h = tt
shown_dot e l (tree.opening d ∷ ts) h = tt
shown_dot e l (tree.closing d ∷ ts) h = tt
shown_dot e l (token (punct p) ∷ ts) h = λ k.
    let was = ap (λ (x : Option Span). p.char == 46 && (are_adjacent l.span p.span && is_adjacent_to_next p.span x))
    (hidden_place ts) ∙ k in
    subst (λ (b : Bool). MayPrecedeDots e l ⊎ (MayHaveFields e l × (b ≡ true))) (hidden_goes p.spacing ts) (h was)

shown_joined : (e : Edition) (p : Punct) (ts : List FlatToken) → IsJoined e p (hidden_all ts) → IsJoined e p ts
shown_joined e p [] h = h
shown_joined e p (token (literal l) ∷ ts) h = h
shown_joined e p (token (punct q) ∷ ts) h = h
shown_joined e p (token (ident i) ∷ ts) h = h
shown_joined e p (tree.opening d ∷ ts) h = h
shown_joined e p (tree.closing d ∷ ts) h = h

shown_lifetime : (e : Edition) (sp : Spacing) (ts : List FlatToken) → IsLifetime e sp (hidden_all ts)
    → IsLifetime e sp ts
shown_lifetime e Joint [] h = h
shown_lifetime e Joint (token (literal l) ∷ ts) h = h
shown_lifetime e Joint (token (punct q) ∷ ts) h = h
shown_lifetime e Joint (token (ident i) ∷ ts) h = h
shown_lifetime e Joint (tree.opening d ∷ ts) h = h
shown_lifetime e Joint (tree.closing d ∷ ts) h = h
shown_lifetime e Alone [] h = h
shown_lifetime e Alone (token (literal l) ∷ ts) h = h
shown_lifetime e Alone (token (punct q) ∷ ts) h = h
shown_lifetime e Alone (token (ident i) ∷ ts) h = h
shown_lifetime e Alone (tree.opening d ∷ ts) h = h
shown_lifetime e Alone (tree.closing d ∷ ts) h = h

shown_spacing : (e : Edition) (sp : Spacing) (p : Punct) (ts : List FlatToken) → HasSpacing e sp p (hidden_all ts)
    → HasSpacing e sp p ts
shown_spacing e Alone p ts h = tt
shown_spacing e Joint p ts h = shown_joined e p ts h

shown_sign : (b : Bool) (e : Edition) (p : Punct) (ts : List FlatToken) → IsSign b e p (hidden_all ts) → IsSign b e p ts
shown_sign true e p ts h = shown_lifetime e p.spacing ts h
shown_sign false e p ts h = (h.0, shown_spacing e p.spacing p ts h.1)

pub shown : (e : Edition) (ts : List FlatToken) → AreRust e (hidden_all ts) → AreRust e ts
shown e [] h = tt
shown e (token (ident i) ∷ ts) h = (h.0, shown e ts h.1)
shown e (token (literal l) ∷ ts) h = ((h.0.0, shown_dot e l ts h.0.1), shown e ts h.1)
shown e (token (punct p) ∷ ts) h = (shown_sign (p.char == 39) e p ts h.0, shown e ts h.1)
shown e (tree.opening d ∷ ts) h = (h.0, shown e ts h.1)
shown e (tree.closing d ∷ ts) h = (h.0, shown e ts h.1)

hidden_set : (b : Bool) (ts : List FlatToken) → set_flat b (hidden_all ts) ≡ set_flat b ts
hidden_set b [] = refl
hidden_set b (token (literal l) ∷ ts) = refl
hidden_set b (token (punct p) ∷ ts) = refl
hidden_set b (tree.opening d ∷ ts) = refl
hidden_set b (tree.closing d ∷ ts) = refl
hidden_set b (token (ident i) ∷ []) = refl
hidden_set b (token (ident i) ∷ (token (literal l) ∷ ts)) = refl
hidden_set b (token (ident i) ∷ (token (ident j) ∷ ts)) = refl
hidden_set b (token (ident i) ∷ (tree.opening d ∷ ts)) = refl
hidden_set b (token (ident i) ∷ (tree.closing d ∷ ts)) = refl
hidden_set b (token (ident i) ∷ (token (punct q) ∷ [])) = refl
hidden_set b (token (ident i) ∷ (token (punct q) ∷ (token (punct p) ∷ ts))) = refl
hidden_set b (token (ident i) ∷ (token (punct q) ∷ (token (ident j) ∷ ts))) = refl
hidden_set b (token (ident i) ∷ (token (punct q) ∷ (tree.opening d ∷ ts))) = refl
hidden_set b (token (ident i) ∷ (token (punct q) ∷ (tree.closing d ∷ ts))) = refl
hidden_set b (token (ident i) ∷ (token (punct q) ∷ (token (literal l) ∷ []))) = refl
hidden_set b (token (ident i) ∷ (token (punct q) ∷ (token (literal l) ∷ (token (literal m) ∷ ts)))) = refl
hidden_set b (token (ident i) ∷ (token (punct q) ∷ (token (literal l) ∷ (token (punct p) ∷ ts)))) = refl
hidden_set b (token (ident i) ∷ (token (punct q) ∷ (token (literal l) ∷ (token (ident j) ∷ ts)))) = refl
hidden_set b (token (ident i) ∷ (token (punct q) ∷ (token (literal l) ∷ (tree.opening d ∷ ts)))) = refl
hidden_set b (token (ident i) ∷ (token (punct q) ∷ (token (literal l) ∷ (tree.closing d ∷ ts)))) = refl

hidden_brackets : (b : Bool) (ts : List FlatToken) → brackets_flat b (hidden_all ts) ≡ brackets_flat b ts
hidden_brackets b [] = refl
hidden_brackets b (token (literal l) ∷ ts) = refl
hidden_brackets b (token (punct p) ∷ ts) = refl
hidden_brackets b (token (ident i) ∷ ts) = refl
hidden_brackets b (tree.closing d ∷ ts) = refl
hidden_brackets b (tree.opening d ∷ ts) =
    ap (λ (o : Option DocComment). if is_bracket d.kind then o else None) (hidden_set b ts)

hidden_hash : (ts : List FlatToken) → hash_flat (hidden_all ts) ≡ hash_flat ts
hidden_hash [] = refl
hidden_hash (token (literal l) ∷ ts) = refl
hidden_hash (token (ident i) ∷ ts) = refl
hidden_hash (tree.opening d ∷ ts) = refl
hidden_hash (tree.closing d ∷ ts) = refl
hidden_hash (token (punct q) ∷ ts) =
    ap (λ (o : Option DocComment). if q.char == 33
    && not (is_joint q.spacing) then o else None) (hidden_brackets true ts)

hidden_comment : (joint : Bool) (p : Punct) (ts : List FlatToken)
    → comment_after joint p (hidden_all ts) ≡ comment_after joint p ts
hidden_comment true p ts = refl
hidden_comment false p ts =
    ap (λ (o : Option DocComment). if not (p.char == 35) then None else if is_joint p.spacing then o else brackets_flat
    false (hidden_all ts)) (hidden_hash ts)
    ∙ ap (λ (o : Option DocComment). if not (p.char == 35) then None else if is_joint p.spacing then hash_flat ts
    else o)
    (hidden_brackets false ts)

pub shown_read : (e : Edition) (n : ℕ) (joint : Bool) (ts : List FlatToken) → AreRead e n joint (hidden_all ts)
    → AreRead e n joint ts
shown_read e n joint [] h = tt
shown_read e (suc n) joint (t ∷ ts) h = shown_read e n false ts h
shown_read e zero joint (token (ident i) ∷ ts) h = shown_read e 0 false ts h
shown_read e zero joint (token (literal l) ∷ ts) h = (h.0, shown_read e 0 false ts h.1)
shown_read e zero joint (token (punct p) ∷ ts) h =
    let o = comment_after joint p ts in
    shown_read e (skipped o) (joint_after o p) ts
    (subst (λ (x : Option DocComment). AreRead e (skipped x) (joint_after x p) (hidden_all ts))
    (hidden_comment joint p ts)
    h)
shown_read e zero joint (tree.opening d ∷ ts) h = shown_read e 0 false ts h
shown_read e zero joint (tree.closing d ∷ ts) h = shown_read e 0 false ts h
