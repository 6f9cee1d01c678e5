-- White space is passed first, and then what is after it.
use Rattle.std.proofs.Common.{◌≡◌, ℕ, zero, suc, ◌≤◌, ◌==◌, Bool, true, false, not, List, [], ◌∷◌, length, drop, codes}
use Rattle.std.proofs.Common.{Option, Some, None, Ok, Err, refl, sym, ap, ◌∙◌, arith, length-drop, if◌then◌else◌}
use Rattle.std.specs.Prelude.{Result}
use Rattle.mbe_text.specs.declared.characters.CharClass.{CharClass}
use Rattle.mbe_text.specs.declared.characters.CharClass.TheVariants.{NotLineFeed}
use Rattle.mbe_text.specs.declared.dialect.Dialect.{Dialect}
use Rattle.mbe_text.specs.declared.scanner.LexFault.{LexFault}
use Rattle.mbe_text.specs.declared.fault_kind.LexFaultKind.TheVariants as fault_kind
use Rattle.mbe_text.specs.Characters.{has, begins, begins_with, past, slash}
use Rattle.mbe_text.specs.Whitespace.{whitespace_class, past_comments}
use Rattle.mbe_text.specs.LexFaults.{fault_at}
use Rattle.mbe_text.specs.Trivia.{is_doc, past_trivia, PassesTrivia}
use Rattle.mbe_text.proofs.CharacterLemmas.{not_first}
use Rattle.mbe_text.proofs.BlankLemmas.{Passes, passes_blank, blanks_end, same_both_ways, past_shorter}
use Rattle.mbe_text.proofs.BlankLemmas.{comments_shorter}

-- the steps of it, where what follows each is the same
same_step : (b d l s : Bool) (o : Option (List ℕ)) (x x' y y' v w e : Result (List ℕ) LexFault)
    (f g : List ℕ → Result (List ℕ) LexFault) → x ≡ x' → y ≡ y'
    → ((rest : List ℕ) → o ≡ Some rest → f rest ≡ g rest)
    → ◌≡◌ {A = Result (List ℕ) LexFault}
    (if b then x else if d then v else if l then y else if s then w
    else elim o as (λ (q : Option (List ℕ)). Result (List ℕ) LexFault) [ None ↦ e | Some rest ↦ f rest ])
    (if b then x' else if d then v else if l then y' else if s then w
    else elim o as (λ (q : Option (List ℕ)). Result (List ℕ) LexFault) [ None ↦ e | Some rest ↦ g rest ])
same_step true d l s o x x' y y' v w e f g p q r = p
same_step false true l s o x x' y y' v w e f g p q r = refl
same_step false false true s o x x' y y' v w e f g p q r = q
same_step false false false true o x x' y y' v w e f g p q r = refl
same_step false false false false None x x' y y' v w e f g p q r = refl
same_step false false false false (Some rest) x x' y y' v w e f g p q r = r rest refl

-- how many characters are counted at most doesn't matter
enough : (dialect : Dialect) (total n m : ℕ) (cs : List ℕ) → length cs ≤ n → length cs ≤ m
    → past_trivia dialect total n cs ≡ past_trivia dialect total m cs
enough dialect total n m [] h k = blanks_end dialect total n ∙ sym (blanks_end dialect total m)
enough dialect total zero m (c ∷ cs) h k = absurd (omega arith)
enough dialect total (suc n) zero (c ∷ cs) h k = absurd (omega arith)
enough dialect total (suc n) (suc m) (c ∷ cs) h k =
    let line : List ℕ = past NotLineFeed (drop 1 cs) in
    let short : length line ≤ length cs = omega (arith, past_shorter NotLineFeed (drop 1 cs), length-drop 1 cs) in
    same_step (has (whitespace_class dialect) c) (is_doc dialect (c ∷ cs)) (begins_with (codes "//") (c ∷ cs))
    (not (begins_with (codes "/*") (c ∷ cs))) (past_comments 1 (drop 1 cs))
    (past_trivia dialect total n cs) (past_trivia dialect total m cs)
    (past_trivia dialect total n line) (past_trivia dialect total m line)
    (Ok (c ∷ cs)) (Ok (c ∷ cs)) (Err (fault_at fault_kind.UnterminatedComment total (c ∷ cs)))
    (past_trivia dialect total n) (past_trivia dialect total m)
    (enough dialect total n m cs (omega (arith, h)) (omega (arith, k)))
    (enough dialect total n m line (omega (arith, short, h)) (omega (arith, short, k)))
    (λ rest r.
    let less : length rest ≤ length cs = omega (arith, comments_shorter 1 (drop 1 cs) rest r, length-drop 1 cs) in
    enough dialect total n m rest (omega (arith, less, h)) (omega (arith, less, k)))

passes_if : (dialect : Dialect) (total : ℕ) (from cs : List ℕ) (c : ℕ) (b : Bool) → has (whitespace_class dialect) c ≡ b
    → Passes dialect total from (c ∷ cs)
    → (Passes dialect total from cs → Passes dialect total from (past (whitespace_class dialect) cs))
    → Passes dialect total from (if b then past (whitespace_class dialect) cs else c ∷ cs)
passes_if dialect total from cs c true e p more = more (passes_blank dialect total from (c ∷ cs) cs c p refl e)
passes_if dialect total from cs c false e p more = p

passes_all : (dialect : Dialect) (total : ℕ) (from cs : List ℕ) → Passes dialect total from cs
    → Passes dialect total from (past (whitespace_class dialect) cs)
passes_all dialect total from [] p = p
passes_all dialect total from (c ∷ cs) p =
    passes_if dialect total from cs c (has (whitespace_class dialect) c) refl p (passes_all dialect total from cs)

blanks_first : (dialect : Dialect) (total : ℕ) (cs : List ℕ)
    → past_trivia dialect total (length (past (whitespace_class dialect) cs)) (past (whitespace_class dialect) cs)
    ≡ past_trivia dialect total (length cs) cs
blanks_first dialect total cs =
    let p : Passes dialect total cs (past (whitespace_class dialect) cs) =
    passes_all dialect total cs cs (record { n = length cs; fits = omega arith; same = refl }) in
    let fits = p.fits in
    enough dialect total (length (past (whitespace_class dialect) cs)) p.n (past (whitespace_class dialect) cs)
    (omega arith) fits
    ∙ sym p.same

pub passes_after : (dialect dialect' : Dialect) (total total' : ℕ) (cs mid rest : List ℕ)
    (result : Result (Unit {0}) LexFault) → dialect' ≡ dialect → total' ≡ total → mid
    ≡ past (whitespace_class dialect) cs
    → PassesTrivia dialect' total' mid result rest → PassesTrivia dialect total cs result rest
passes_after dialect dialect' total total' cs mid rest (Ok u) d t m h =
    sym (blanks_first dialect total cs) ∙ (ap (λ (l : List ℕ). past_trivia dialect total (length l) l) (sym m)
    ∙ (ap (λ (n : ℕ). past_trivia dialect n (length mid) mid) (sym t)
    ∙ (ap (λ (k : Dialect). past_trivia k total' (length mid) mid) (sym d) ∙ h)))
passes_after dialect dialect' total total' cs mid rest (Err fault) d t m h =
    sym (blanks_first dialect total cs) ∙ (ap (λ (l : List ℕ). past_trivia dialect total (length l) l) (sym m)
    ∙ (ap (λ (n : ℕ). past_trivia dialect n (length mid) mid) (sym t)
    ∙ (ap (λ (k : Dialect). past_trivia k total' (length mid) mid) (sym d) ∙ h)))

past_stops_if : (k : CharClass) (c : ℕ) (cs : List ℕ) (b : Bool) → has k c ≡ b → begins k (past k cs) ≡ false
    → begins k (if b then past k cs else c ∷ cs) ≡ false
past_stops_if k c cs true e h = h
past_stops_if k c cs false e h = e

past_stops : (k : CharClass) (cs : List ℕ) → begins k (past k cs) ≡ false
past_stops k [] = refl
past_stops k (c ∷ cs) = past_stops_if k c cs (has k c) refl (past_stops k cs)

no_comment : (dialect : Dialect) (total n : ℕ) (cs : List ℕ) → begins (whitespace_class dialect) cs ≡ false
    → begins_with (slash ∷ []) cs ≡ false → past_trivia dialect total n cs ≡ Ok cs
no_comment dialect total zero cs b s = refl
no_comment dialect total (suc n) [] b s = blanks_end dialect total (suc n)
no_comment dialect total (suc n) (c ∷ cs) b s =
    let other : (c == slash) ≡ false = not_first c slash cs s in
    rw (b, other) (same_both_ways (is_doc dialect (c ∷ cs)) (Ok (c ∷ cs)))

pub passes_only : (dialect : Dialect) (total : ℕ) (cs mid : List ℕ) → mid ≡ past (whitespace_class dialect) cs
    → begins_with (slash ∷ []) mid ≡ false → past_trivia dialect total (length cs) cs ≡ Ok mid
passes_only dialect total cs mid m s =
    let s' : begins_with (slash ∷ []) (past (whitespace_class dialect) cs) ≡ false =
    ap (begins_with (slash ∷ [])) (sym m) ∙ s in
    sym (blanks_first dialect total cs) ∙ (no_comment dialect total (length (past (whitespace_class dialect) cs))
    (past (whitespace_class dialect) cs) (past_stops (whitespace_class dialect) cs) s' ∙ ap Ok (sym m))
