-- White space and comments are passed, and nothing else.
use Rattle.std.proofs.Common.{◌≡◌, ℕ, zero, suc, ◌==◌, ◌≤◌, not, ◌&&◌, ◌||◌, if◌then◌else◌, Bool, true, false, List, []}
use Rattle.std.proofs.Common.{◌∷◌, length, drop, refl, sym, ap, ◌∙◌, arith, codes, Option, Some, None, Result, Ok, Err}
use Rattle.std.proofs.Common.{length-append}
use Rattle.mbe_tt.specs.declared.span.Edition.{Edition}
use Rattle.mbe_text.specs.declared.dialect.Dialect.TheVariants.{Rust}
use Rattle.mbe_text.specs.declared.scanner.LexFault.{LexFault}
use Rattle.mbe_text.specs.declared.fault_kind.LexFaultKind.TheVariants as fault_kind
use Rattle.mbe_text.specs.Whitespace.{begins_comment, past_comments}
use Rattle.mbe_text.specs.Characters.{begins_with, past, is_space}
use Rattle.mbe_text.specs.LexFaults.{fault_at}
use Rattle.mbe_text.specs.RustTokens.{begins_doc}
use Rattle.mbe_text.specs.Trivia.{past_trivia, past_byte_order_mark, past_shebang, after_preamble}
use Rattle.mbe_text.proofs.TailLemmas.{Tail, here, one, on, past_tail}
use Rattle.mbe_text.proofs.ReadBack.ShapeLemmas.{if_ok, drop_tail}

pub tail_shorter : (cs rest : List ℕ) → Tail cs rest → length rest ≤ length cs
tail_shorter cs rest t =
    omega (arith, ap (λ (l : List ℕ). length l) t.is, length-append t.own rest)

some_list : (a b : List ℕ) → (let x : Option (List ℕ) = Some a in x) ≡ Some b → a ≡ b
some_list a b h = cc

tail_same : (cs rest : List ℕ) → cs ≡ rest → Tail cs rest
tail_same cs rest e = record { own = []; is = e }

comments_tail : (depth : ℕ) (cs rest : List ℕ) → past_comments depth cs ≡ Some rest → Tail cs rest
comments_tail zero cs rest h = tail_same cs rest (some_list cs rest h)
comments_tail (suc depth) [] rest h = absurd (cc)
comments_tail (suc depth) (c ∷ []) rest h = absurd (cc)
comments_tail (suc depth) (c ∷ (d ∷ cs)) rest h =
    let P = Tail (c ∷ (d ∷ cs)) rest in
    if_ok P (c == 47 && d == 42) _ _ _ h
    (λ b k. one c (d ∷ cs) rest (one d cs rest (comments_tail (suc (suc depth)) cs rest k)))
    (λ b k. if_ok P (c == 42 && d == 47) _ _ _ k
    (λ b k. one c (d ∷ cs) rest (one d cs rest (comments_tail depth cs rest k)))
    (λ b k. one c (d ∷ cs) rest (comments_tail (suc depth) (d ∷ cs) rest k)))

-- what is left after white space and comments, where that is something; it begins no comment but a doc comment
pub record Blanked (cs : List ℕ) (c : ℕ) (from : List ℕ) : Type 0 where
  pub tail : Tail cs (c ∷ from)
  pub free : begins_doc (c ∷ from) ≡ false → begins_comment (c ∷ from) ≡ false

blanked_here : (cs : List ℕ) (c : ℕ) (from : List ℕ) → (let x : Result (List ℕ) LexFault = Ok cs in x) ≡ Ok (c ∷ from)
    → (begins_doc cs ≡ false → begins_comment cs ≡ false) → Blanked cs c from
blanked_here cs c from h f =
    let same : cs ≡ c ∷ from = cc in record {
      tail = tail_same cs (c ∷ from) same;
      free = λ d. ap begins_comment (sym same) ∙ f (ap begins_doc same ∙ d);
    }

blanked_after : (cs mid : List ℕ) (c : ℕ) (from : List ℕ) → Tail cs mid → Blanked mid c from → Blanked cs c from
blanked_after cs mid c from t b = record { tail = on cs mid (c ∷ from) t b.tail; free = b.free }

-- a block comment that ends
block_ends : (o : Option (List ℕ)) (f : List ℕ → Result (List ℕ) LexFault) (fault : LexFault) (left : List ℕ)
    → (elim o as (λ x. Result (List ℕ) LexFault) [ None ↦ Err fault | Some rest ↦ f rest ]) ≡ Ok left
    → (rest : List ℕ) × (o ≡ Some rest) × (f rest ≡ Ok left)
block_ends None f fault left h = absurd (cc)
block_ends (Some rest) f fault left h = (rest, refl, h)

pub both_false : (a b : Bool) → a ≡ false → b ≡ false → (a || b) ≡ false
both_false true b h k = absurd (cc)
both_false false b h k = k

not_is : (b : Bool) → not b ≡ true → b ≡ false
not_is true h = absurd (cc)
not_is false h = refl

blanked_line : (e : Edition) (total n x : ℕ) (xs mid : List ℕ) (c : ℕ) (from : List ℕ) → length (x ∷ xs) ≤ suc n
    → past_trivia (Rust e) total n mid ≡ Ok (c ∷ from) → Tail (drop 2 (x ∷ xs)) mid
    → (length mid ≤ n → past_trivia (Rust e) total n mid ≡ Ok (c ∷ from) → Blanked mid c from)
    → Blanked (x ∷ xs) c from
blanked_line e total n x xs mid c from le p t go =
    let less = tail_shorter xs (drop 1 xs) (drop_tail 1 xs) in
    let line = tail_shorter (drop 2 (x ∷ xs)) mid t in
    blanked_after (x ∷ xs) mid c from (on (x ∷ xs) (drop 2 (x ∷ xs)) mid (drop_tail 2 (x ∷ xs)) t)
    (go (omega (arith, le, less, line)) p)

pub blanks_cut : (e : Edition) (total n : ℕ) (cs : List ℕ) (c : ℕ) (from : List ℕ) → length cs ≤ n
    → past_trivia (Rust e) total n cs ≡ Ok (c ∷ from) → Blanked cs c from
blanks_cut e total zero [] c from le h = absurd (cc)
blanks_cut e total zero (x ∷ xs) c from le h = absurd (omega (arith, le))
blanks_cut e total (suc n) [] c from le h = absurd (cc)
blanks_cut e total (suc n) (x ∷ xs) c from le h =
    let P = Blanked (x ∷ xs) c from in
    if_ok P (is_space x) _ _ _ h
    (λ b k. blanked_after (x ∷ xs) xs c from (one x xs xs (here xs)) (blanks_cut e total n xs c from
    (omega (arith, le)) k))
    (λ b k. if_ok P (begins_doc (x ∷ xs)) _ _ _ k
    (λ d m. blanked_here (x ∷ xs) c from m (λ o. absurd (let z : true ≡ false = sym d ∙ o in cc)))
    (λ d m. if_ok P (begins_with (codes "//") (x ∷ xs)) _ _ _ m
    (λ l p. blanked_line e total n x xs _ c from le p (search past_tail)
    (λ less q. blanks_cut e total n _ c from less q))
    (λ l p. if_ok P (not (begins_with (codes "/*") (x ∷ xs))) _ _ _ p
    (λ s q. blanked_here (x ∷ xs) c from q (λ o. both_false (begins_with (codes "//") (x ∷ xs))
    (begins_with (codes "/*") (x ∷ xs)) l (not_is (begins_with (codes "/*") (x ∷ xs)) s)))
    (λ s q. let b = block_ends (past_comments 1 (drop 2 (x ∷ xs))) (λ r. past_trivia (Rust e) total n r)
    (fault_at fault_kind.UnterminatedComment total (x ∷ xs)) (c ∷ from) q in
    blanked_line e total n x xs b.0 c from le b.2 (comments_tail 1 (drop 2 (x ∷ xs)) b.0 b.1)
    (λ less r. blanks_cut e total n b.0 c from less r)))))

-- ---- before the first token

tail_if : (b : Bool) (cs x y : List ℕ) → Tail cs x → Tail cs y → Tail cs (if b then x else y)
tail_if true cs x y s t = s
tail_if false cs x y s t = t

mark_tail : (cs : List ℕ) → Tail cs (past_byte_order_mark cs)
mark_tail [] = here []
mark_tail (c ∷ cs) = tail_if (c == 0xFEFF) (c ∷ cs) cs (c ∷ cs) (one c cs cs (here cs)) (here (c ∷ cs))

line_or_all : (k : _) (b d : Bool) (cs : List ℕ) → Tail cs (if b then cs else if d then cs else past k (drop 2 cs))
line_or_all k true d cs = here cs
line_or_all k false true cs = here cs
line_or_all k false false cs = on cs (drop 2 cs) (past k (drop 2 cs)) (drop_tail 2 cs) (past_tail k (drop 2 cs))

shebang_tail : (e : Edition) (total : ℕ) (cs : List ℕ) → Tail cs (past_shebang (Rust e) total cs)
shebang_tail e total cs = search line_or_all

pub head_tail : (e : Edition) (total : ℕ) (cs : List ℕ) → Tail cs (after_preamble (Rust e) total cs)
head_tail e total cs = on _ _ _ (mark_tail cs) (shebang_tail e total (past_byte_order_mark cs))
