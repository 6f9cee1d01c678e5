-- How blanks and comments are passed, one after another.
use Rattle.std.proofs.Common.{◌≡◌, ℕ, zero, suc, ◌+◌, ◌-◌, ◌<◌, ◌≤◌, ◌==◌, ◌&&◌, Bool, true, false, List, [], ◌∷◌}
use Rattle.std.proofs.Common.{length, drop, codes, Option, Some, None, Ok, Err, refl, sym, ap, ◌∙◌, arith, length-drop}
use Rattle.std.proofs.Common.{add-one, if◌then◌else◌}
use Rattle.mbe_text.specs.declared.characters.CharClass.{CharClass}
use Rattle.mbe_text.specs.declared.characters.CharClass.TheVariants.{NotLineFeed}
use Rattle.mbe_text.specs.declared.dialect.Dialect.{Dialect}
use Rattle.mbe_text.specs.declared.fault_kind.LexFaultKind.TheVariants as fault_kind
use Rattle.mbe_text.specs.Characters.{has, begins_with, past, slash}
use Rattle.mbe_text.specs.Whitespace.{whitespace_class, past_comments}
use Rattle.mbe_text.specs.LexFaults.{fault_at}
use Rattle.mbe_text.specs.Trivia.{is_doc, past_trivia}

-- ---- block comments

both : (a b v : Bool) → (a && (b && true)) ≡ v → (a && b) ≡ v
both true true v h = h
both true false v h = h
both false b v h = h

pub comment_opens : (depth c : ℕ) (cs mid after : List ℕ) → 0 < depth → cs ≡ c ∷ mid
    → (c == 47 && begins_with (codes "*") mid) ≡ true
    → after ≡ drop 1 mid → past_comments (depth + 1) after ≡ past_comments depth cs
comment_opens zero c cs mid after h e b a = absurd (omega arith)
comment_opens (suc n) c cs [] after h e b a = absurd (grind arith)
comment_opens (suc n) c cs (d ∷ ds) after h e b a =
    let two : (c == 47 && d == 42) ≡ true = both (c == 47) (d == 42) true b in
    rw (e, a, two, add-one) refl

pub comment_closes : (depth c : ℕ) (cs mid after : List ℕ) → 0 < depth → cs ≡ c ∷ mid
    → (c == 47 && begins_with (codes "*") mid) ≡ false
    → (c == 42 && begins_with (codes "/") mid) ≡ true → after ≡ drop 1 mid
    → past_comments (depth - 1) after ≡ past_comments depth cs
comment_closes zero c cs mid after h e o b a = absurd (omega arith)
comment_closes (suc n) c cs [] after h e o b a = absurd (grind arith)
comment_closes (suc n) c cs (d ∷ ds) after h e o b a =
    let one : (c == 47 && d == 42) ≡ false = both (c == 47) (d == 42) false o in
    let two : (c == 42 && d == 47) ≡ true = both (c == 42) (d == 47) true b in
    let m : suc n - 1 ≡ n = omega arith in
    rw (e, a, one, two, m) refl

pub comment_goes_on : (depth c : ℕ) (cs mid : List ℕ) → 0 < depth → cs ≡ c ∷ mid
    → (c == 47 && begins_with (codes "*") mid) ≡ false
    → (c == 42 && begins_with (codes "/") mid) ≡ false → past_comments depth mid ≡ past_comments depth cs
comment_goes_on zero c cs mid h e o b = absurd (omega arith)
comment_goes_on (suc n) c cs [] h e o b = rw e refl
comment_goes_on (suc n) c cs (d ∷ ds) h e o b =
    let one : (c == 47 && d == 42) ≡ false = both (c == 47) (d == 42) false o in
    let two : (c == 42 && d == 47) ≡ false = both (c == 42) (d == 47) false b in
    rw (e, one, two) refl

-- ---- blanks

-- what is passed from the one on is passed from the other on
pub record Passes (dialect : Dialect) (total : ℕ) (from cs : List ℕ) : Type 0 where
  pub n : ℕ
  pub fits : length cs ≤ n
  pub same : past_trivia dialect total (length from) from ≡ past_trivia dialect total n cs

-- with one to count down for what is left, unless nothing is
pub record Counts (dialect : Dialect) (total : ℕ) (from cs : List ℕ) : Type 0 where
  pub n : ℕ
  pub fits : length cs ≤ suc n
  pub same : past_trivia dialect total (length from) from ≡ past_trivia dialect total (suc n) cs

pub same_both_ways : {A : Type 0} (b : Bool) (x : A) → (if b then x else x) ≡ x
same_both_ways true x = refl
same_both_ways false x = refl

pub blanks_end : (dialect : Dialect) (total n : ℕ) → past_trivia dialect total n [] ≡ Ok []
blanks_end dialect total zero = refl
blanks_end dialect total (suc n) = same_both_ways (is_doc dialect []) (Ok [])

counts : (dialect : Dialect) (total : ℕ) (from cs : List ℕ) → Passes dialect total from cs
    → Counts dialect total from cs
counts dialect total from [] p =
    record {
      n = 0;
      fits = omega arith;
      same = p.same
          ∙ (blanks_end dialect total p.n ∙ sym (blanks_end dialect total 1));
    }
counts dialect total from (c ∷ cs) p =
    let e : p.n ≡ suc (p.n - 1) = let f = p.fits in omega (arith, f) in
    record {
      n = p.n - 1;
      fits = let f = p.fits in omega (arith, f);
      same = p.same
          ∙ ap (λ (k : ℕ). past_trivia dialect total k (c ∷ cs)) e;
    }

pub past_shorter : (k : CharClass) (cs : List ℕ) → length (past k cs) ≤ length cs
past_shorter k [] = omega arith
past_shorter k (c ∷ cs) = elim (has k c) as (λ b. length (if b then past k cs else c ∷ cs) ≤ length (c ∷ cs)) [
  | true ↦ omega (arith, past_shorter k cs)
  | false ↦ omega arith
]

one_of_three : (a b : Bool) (x y z : Option (List ℕ)) (rest : List ℕ) (n : ℕ) → (x ≡ Some rest → length rest ≤ n)
    → (y ≡ Some rest → length rest ≤ n)
    → (z ≡ Some rest → length rest ≤ n) → (if a then x else if b then y else z) ≡ Some rest → length rest ≤ n
one_of_three true b x y z rest n f g h e = f e
one_of_three false true x y z rest n f g h e = g e
one_of_three false false x y z rest n f g h e = h e

pub comments_shorter : (depth : ℕ) (cs rest : List ℕ) → past_comments depth cs ≡ Some rest → length rest ≤ length cs
comments_shorter zero cs rest e = let same : cs ≡ rest = cc in omega (arith, ap (λ (l : List ℕ). length l) same)
comments_shorter (suc depth) [] rest e = cc
comments_shorter (suc depth) (c ∷ []) rest e = cc
comments_shorter (suc depth) (c ∷ (d ∷ cs)) rest e =
    one_of_three (c == 47 && d == 42) (c == 42 && d == 47) _ _ _ rest (length (c ∷ (d ∷ cs)))
    (λ h. omega (arith, comments_shorter (suc (suc depth)) cs rest h))
    (λ h. omega (arith, comments_shorter depth cs rest h))
    (λ h. omega (arith, comments_shorter (suc depth) (d ∷ cs) rest h)) e

-- what a call says of a scanner's dialect, which is still that of the text
pub blank_there : (dialect dialect' : Dialect) (c : ℕ) (r v : Bool) → dialect' ≡ dialect → r
    ≡ has (whitespace_class dialect') c
    → r ≡ v
    → has (whitespace_class dialect) c ≡ v
blank_there dialect dialect' c r v d e is = ap (λ (k : Dialect). has (whitespace_class k) c) (sym d) ∙ (sym e ∙ is)

pub doc_there : (dialect dialect' : Dialect) (cs : List ℕ) (r v : Bool) → dialect' ≡ dialect → r ≡ is_doc dialect' cs
    → r ≡ v
    → is_doc dialect cs ≡ v
doc_there dialect dialect' cs r v d e is = ap (λ (k : Dialect). is_doc k cs) (sym d) ∙ (sym e ∙ is)

-- nothing is left
pub passes_end : (dialect : Dialect) (total : ℕ) (from cs : List ℕ) → Passes dialect total from cs → cs ≡ []
    → past_trivia dialect total (length from) from ≡ Ok cs
passes_end dialect total from cs p e =
    p.same ∙ ap (past_trivia dialect total p.n) e ∙ blanks_end dialect total p.n ∙ ap Ok (sym e)

module _ (dialect : Dialect) (total : ℕ) (from cs mid : List ℕ) (c : ℕ) (p : Passes dialect total from cs)
    (e : cs ≡ c ∷ mid) where
  first : (n : ℕ) → past_trivia dialect total n cs ≡ past_trivia dialect total n (c ∷ mid)
  first n = ap (past_trivia dialect total n) e

  shorter : length cs ≡ suc (length mid)
  shorter = ap (λ (l : List ℕ). length l) e

  doc : (v : Bool) → is_doc dialect cs ≡ v → is_doc dialect (c ∷ mid) ≡ v
  doc v d = ap (is_doc dialect) (sym e) ∙ d

  pub passes_blank : has (whitespace_class dialect) c ≡ true → Passes dialect total from mid
  passes_blank b =
      let q = counts dialect total from cs p in
      record {
        n = q.n;
        fits = let f = q.fits in omega (arith, f, shorter);
        same = q.same ∙ (first (suc q.n) ∙ rw b refl);
      }

  pub passes_other : has (whitespace_class dialect) c ≡ false → (c == slash) ≡ false
      → past_trivia dialect total (length from) from ≡ Ok cs
  passes_other b s =
      let q = counts dialect total from cs p in
      q.same ∙ (first (suc q.n) ∙ (rw (b, s) (same_both_ways (is_doc dialect (c ∷ mid)) (Ok (c ∷ mid)))
      ∙ ap Ok (sym e)))

  pub passes_doc : has (whitespace_class dialect) c ≡ false → is_doc dialect cs ≡ true
      → past_trivia dialect total (length from) from ≡ Ok cs
  passes_doc b d =
      let q = counts dialect total from cs p in
      q.same ∙ (first (suc q.n) ∙ (rw (b, doc true d) refl ∙ ap Ok (sym e)))

  pub passes_line : (after : List ℕ) → has (whitespace_class dialect) c ≡ false → is_doc dialect cs ≡ false
      → (c == slash) ≡ true
      → begins_with (codes "/") mid ≡ true
      → after ≡ past NotLineFeed (drop 2 cs) → Passes dialect total from after
  passes_line after b d s l h =
      let q = counts dialect total from cs p in
      let a : after ≡ past NotLineFeed (drop 1 mid) = h ∙ ap (λ (l : List ℕ). past NotLineFeed (drop 2 l)) e in
      record {
        n = q.n;
        fits = let f = q.fits in omega (
          arith,
          f,
          shorter,
          ap (λ (l : List ℕ). length l) a,
          past_shorter NotLineFeed (drop 1 mid),
          length-drop 1
              mid,
        );
        same = q.same ∙ (first (suc q.n) ∙ rw (b, doc false d, s, l, a) refl);
      }

  pub passes_block : (after : List ℕ) → has (whitespace_class dialect) c ≡ false → is_doc dialect cs ≡ false
      → (c == slash) ≡ true
      → begins_with (codes "/") mid ≡ false
      → begins_with (codes "*") mid ≡ true → past_comments 1 (drop 2 cs) ≡ Some after → Passes dialect total from after
  passes_block after b d s l k h =
      let q = counts dialect total from cs p in
      let a : past_comments 1 (drop 1 mid) ≡ Some after = ap (λ (l : List ℕ). past_comments 1 (drop 2 l)) (sym e) ∙ h in
      record {
        n = q.n;
        fits = let f = q.fits in omega (arith, f, shorter, comments_shorter 1 (drop 1 mid) after a, length-drop 1 mid);
        same = q.same ∙ (first (suc q.n) ∙ rw (b, doc false d, s, l, k, a) refl);
      }

  pub passes_last : has (whitespace_class dialect) c ≡ false → is_doc dialect cs ≡ false → (c == slash) ≡ true
      → begins_with (codes "/") mid ≡ false
      → begins_with (codes "*") mid ≡ false → past_trivia dialect total (length from) from ≡ Ok cs
  passes_last b d s l k =
      let q = counts dialect total from cs p in
      q.same ∙ (first (suc q.n) ∙ (rw (b, doc false d, s, l, k) refl ∙ ap Ok (sym e)))

  pub passes_fault : has (whitespace_class dialect) c ≡ false → is_doc dialect cs ≡ false → (c == slash) ≡ true
      → begins_with (codes "/") mid ≡ false
      → begins_with (codes "*") mid ≡ true → past_comments 1 (drop 2 cs) ≡ None
      → past_trivia dialect total (length from) from ≡ Err (fault_at fault_kind.UnterminatedComment total cs)
  passes_fault b d s l k h =
      let q = counts dialect total from cs p in
      let a : past_comments 1 (drop 1 mid) ≡ None = ap (λ (l : List ℕ). past_comments 1 (drop 2 l)) (sym e) ∙ h in
      q.same ∙ (first (suc q.n) ∙ (rw (b, doc false d, s, l, k, a) refl
      ∙ ap (λ (l : List ℕ). Err (fault_at fault_kind.UnterminatedComment total l)) (sym e)))
