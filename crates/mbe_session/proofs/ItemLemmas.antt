-- What an element of a list shows.
use Rattle.std.proofs.Common.{◌≡◌, ℕ, Bool, List, [], ◌∷◌, map, length, Option, Some, None, Bor, refl, ap, sym, ◌∙◌}
use Rattle.std.specs.Prelude.{◌||◌, option_map, IfSome, is_some, nat_lt, get_or}
use Rattle.std.specs.List.{list_any, slice_get}
use Rattle.std.proofs.lemmas.Bool.{ltb-true, ltb-false}
use Rattle.std.proofs.lemmas.Option.{slice_get-map, slice_get-get_or, slice_get_past}

pub item_shown : {X Y : Type 0} (v : X → Y) (xs : List X) (i : ℕ) (r : Option (Bor X))
    → is_some r ≡ nat_lt i (length xs)
    → IfSome r (λ x. x.now ≡ get_or xs i x.now) → option_map (λ x. v x.now) r ≡ slice_get (map v xs) i
item_shown v xs i None h k = sym (slice_get-map v xs i
    ∙ ap (option_map v) (slice_get_past xs i (ltb-false i (length xs) (sym h))))
item_shown v xs i (Some x) h k = sym (slice_get-map v xs i
    ∙ ap (option_map v) (slice_get-get_or xs i x.now (ltb-true i (length xs) (sym h)) ∙ ap Some (sym k)))

-- a test of what elements show
pub any_shown : {X Y : Type 0} (v : X → Y) (p : Y → Bool) (xs : List X)
    → list_any (λ x. p (v x)) xs ≡ list_any p (map v xs)
any_shown v p [] = refl
any_shown v p (x ∷ xs) = ap (λ b. p (v x) || b) (any_shown v p xs)
