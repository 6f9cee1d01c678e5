-- Whether an identifier is one of several texts that are borrowed, and not raw.
use Rattle.std.proofs.Common.{◌≡◌, ℕ, Bool, List, [], ◌∷◌, map, refl, ap, sym, Bor}
use Rattle.std.specs.Prelude.{◌||◌}
use Rattle.std.specs.List.{list_any}
use Rattle.std.specs.Str.{bytes_eq}
use Rattle.mbe_tt.specs.declared.tt.IdentIsRaw.{IdentIsRaw}
use Rattle.mbe_tt.specs.declared.tt.IdentIsRaw.TheVariants.{No}
use Rattle.mbe_grammar.specs.Tables.SingleTrees.{is_word}

any_text-map : (text : List ℕ) (texts : List (Bor (List ℕ)))
    → list_any (bytes_eq text) (map (λ t. t.now) texts) ≡ list_any (λ t. bytes_eq text t.now) texts
any_text-map text [] = refl
any_text-map text (t ∷ ts) = ap (λ b. bytes_eq text t.now || b) (any_text-map text ts)

pub plain_of : (texts : List (Bor (List ℕ))) (raw : IdentIsRaw) (text sym_text : List ℕ) (b : Bool)
    → b ≡ list_any (λ t. bytes_eq text t.now) texts → raw ≡ No → text ≡ sym_text
    → b ≡ is_word (map (λ t. t.now) texts) raw sym_text
plain_of texts raw text sym_text b any not_raw same = rw (not_raw, ← same, any) (sym (any_text-map text texts))
