-- A word to the steps that its context was made by: one step more.
use Rattle.std.proofs.Common.{◌≡◌, ℕ, zero, suc, ◌-◌, ◌<◌, ◌≤◌, List, [], ◌∷◌, ◌++◌, refl, ap, sym, subst, ◌∙◌}
use Rattle.std.proofs.Common.{append_assoc, append-nil, arith}
use Rattle.std.proofs.lemmas.Bool.{lt-ltb, le-ltb}
use Rattle.mbe_rewriter.specs.Hygiene.LocalNames.{ContextParents, Word, context_before, inner_word, outer_words}

one_less : (n : ℕ) → 0 < n → n ≡ suc (n - 1)
one_less n h = omega (arith, h)

path_goes_further : (ns : ContextParents) (w : Word) (left n : ℕ) → ns.mark < context_before ns.contexts n
    → outer_words ns w (suc left) n
    ≡ inner_word w (context_before ns.contexts n) ∷ outer_words ns w left (context_before ns.contexts n)
unfolding outer_words
path_goes_further ns w left n h = rw (lt-ltb ns.mark (context_before ns.contexts n) h) refl

stops : (ns : ContextParents) (w : Word) (left n : ℕ) → context_before ns.contexts n ≤ ns.mark
    → outer_words ns w (suc left) n ≡ []
unfolding outer_words
stops ns w left n h = rw (le-ltb ns.mark (context_before ns.contexts n) h) refl

none_left : (ns : ContextParents) (w : Word) (n : ℕ) → outer_words ns w zero n ≡ []
unfolding outer_words
none_left ns w n = refl

pub outer_on : (ns : ContextParents) (w : Word) (left n before : ℕ) (found more all : List Word) → 0 < left
    → before ≡ context_before ns.contexts n → ns.mark < before → more ≡ found ++ (inner_word w before ∷ [])
    → found ++ outer_words ns w left n ≡ all
    → more ++ outer_words ns w (left - 1) before ≡ all
outer_on ns w left n before found more all l b h m e =
    let at : ns.mark < context_before ns.contexts n = subst (λ k. ns.mark < k) b h in
    ap (λ k. k ++ outer_words ns w (left - 1) before) m
    ∙ append_assoc found (inner_word w before ∷ []) (outer_words ns w (left - 1) before)
    ∙ ap (λ k. found ++ (inner_word w k ∷ outer_words ns w (left - 1) k)) b
    ∙ ap (λ k. found ++ k) (sym (path_goes_further ns w (left - 1) n at))
    ∙ ap (λ k. found ++ outer_words ns w k n) (sym (one_less left l)) ∙ e

pub outer_stop : (ns : ContextParents) (w : Word) (left n before : ℕ) (found all : List Word) → 0 < left
    → before ≡ context_before ns.contexts n → before ≤ ns.mark
    → found ++ outer_words ns w left n ≡ all → found ≡ all
outer_stop ns w left n before found all l b h e =
    let at : context_before ns.contexts n ≤ ns.mark = subst (λ k. k ≤ ns.mark) b h in
    sym (append-nil found) ∙ ap (λ k. found ++ k) (sym (stops ns w (left - 1) n at))
    ∙ ap (λ k. found ++ outer_words ns w k n) (sym (one_less left l)) ∙ e

pub outer_all : (ns : ContextParents) (w : Word) (left n : ℕ) (found all : List Word) → left ≤ 0
    → found ++ outer_words ns w left n ≡ all → found ≡ all
outer_all ns w left n found all l e =
    let none : left ≡ zero = omega (arith, l) in
    sym (append-nil found) ∙ ap (λ k. found ++ k) (sym (none_left ns w n))
    ∙ ap (λ k. found ++ outer_words ns w k n) (sym none) ∙ e
