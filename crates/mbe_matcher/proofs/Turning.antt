-- A list that is popped, while what comes of each is pushed on another.
use Rattle.std.proofs.Common.{◌≡◌, List, [], ◌∷◌, ◌++◌, map, reverse, sym, ap, ◌∙◌, append_assoc, append-nil}
use Rattle.std.proofs.lemmas.List.{reverse-append}

-- what was popped of `all` is at the end of `now`, turned round
pub record Turned {X Y : Type 0} (f : X → Y) (all left : List X) (before now : List Y) : Type 0 where
  pub popped : List X
  pub all_is : all ≡ left ++ popped
  pub now_is : now ≡ before ++ reverse (map f popped)

pub turned_not : {X Y : Type 0} (f : X → Y) (all : List X) (before : List Y) → Turned f all all before before
turned_not f all before = record { popped = []; all_is = sym (append-nil all); now_is = sym (append-nil before) }

pub turned_on : {X Y : Type 0} (f : X → Y) (all left left' : List X) (before now now' : List Y) (x : X)
    → Turned f all left before now → left ≡ left' ++ x ∷ [] → now' ≡ now ++ f x ∷ []
    → Turned f all left' before now'
turned_on f all left left' before now now' x t e d = record {
  popped = x ∷ t.popped;
  all_is = t.all_is ∙ ap (λ l. l ++ t.popped) e ∙ append_assoc left' (x ∷ []) t.popped;
  now_is =
      d ∙ ap (λ l. l ++ f x ∷ []) t.now_is ∙ append_assoc before (reverse (map f t.popped)) (f x ∷ [])
      ∙ ap (λ l. before ++ l) (sym (reverse-append (f x ∷ []) (map f t.popped)));
}

pub turned_all : {X Y : Type 0} (f : X → Y) (all left : List X) (before now : List Y) → Turned f all left before now
    → left ≡ [] → now ≡ before ++ reverse (map f all)
turned_all f all left before now t e =
    t.now_is ∙ ap (λ l. before ++ reverse (map f l)) (sym (t.all_is ∙ ap (λ l. l ++ t.popped) e))
