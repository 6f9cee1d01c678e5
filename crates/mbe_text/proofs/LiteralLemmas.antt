-- What calls one after another read.
use Rattle.std.proofs.Common.{◌≡◌, ℕ, List, ◌∷◌, length, drop, Result, Some, refl, sym, ap, ◌∙◌, subst, false, ◌+◌, ◌-◌}
use Rattle.std.proofs.Common.{◌≤◌, arith, drop-drop, add_comm}
use Rattle.mbe_tt.specs.declared.tt.LitKind.{LitKind}
use Rattle.mbe_text.specs.declared.scanner.LexFault.{LexFault}
use Rattle.mbe_text.specs.declared.scanner.Lexeme.{Lexeme}
use Rattle.mbe_text.specs.Characters.{bytes_before}
use Rattle.mbe_text.specs.Rests.{IsRest}
use Rattle.mbe_text.specs.Shapes.{ReadResult, ReadsAs}
use Rattle.mbe_text.specs.SampleLiterals.{read_literal, read_number, past_number, read_quoted, from_quote}

same_read : (a b : ReadResult) (r : Result Lexeme LexFault) (rest : List ℕ) → a ≡ b → ReadsAs a r rest
    → ReadsAs b r rest
same_read a b r rest e g = subst (λ (x : ReadResult). ReadsAs x r rest) e g

same_literal : (total total' : ℕ) (kind kind' : LitKind) (text text' cs cs' : List ℕ) → total ≡ total' → kind ≡ kind'
    → text ≡ text' → cs ≡ cs'
    → read_literal total kind text cs ≡ read_literal total' kind' text' cs'
same_literal total total' kind kind' text text' cs cs' e f g h =
    ap (λ (t : ℕ). read_literal t kind text cs) e ∙ (ap (λ (k : LitKind). read_literal total' k text cs) f
    ∙ (ap (λ (t : List ℕ). read_literal total' kind' t cs) g
    ∙ ap (λ (c : List ℕ). read_literal total' kind' text' c) h))

pub number_read : (total total' : ℕ) (kind : LitKind) (text cs mid rest : List ℕ) (r : Result Lexeme LexFault)
    → total' ≡ total
    → kind ≡ (past_number cs).0 → mid ≡ (past_number cs).1 → text ≡ bytes_before cs mid
    → ReadsAs (read_literal total' kind text mid) r rest → ReadsAs (read_number total cs) r rest
number_read total total' kind text cs mid rest r e k m t g =
    same_read _ _ r rest (same_literal total' total kind _ text _ mid _ e k (t ∙ ap (bytes_before cs) m) m) g

pub quoted_read : (total total' : ℕ) (kind : LitKind) (quote : ℕ) (text cs inside mid rest : List ℕ)
    (r : Result Lexeme LexFault) → total' ≡ total
    → inside ≡ drop 1 cs → from_quote quote false inside ≡ Some (quote ∷ mid) → text ≡ bytes_before inside (quote ∷ mid)
    → ReadsAs (read_literal total' kind text mid) r rest → ReadsAs (read_quoted total kind quote cs) r rest
quoted_read total total' kind quote text cs inside mid rest r e i q t g =
    let found : from_quote quote false (drop 1 cs) ≡ Some (quote ∷ mid) = ap (from_quote quote false) (sym i) ∙ q in
    let same : read_literal total' kind text mid ≡ read_quoted total kind quote cs =
    same_literal total' total kind kind text (bytes_before (drop 1 cs) (quote ∷ mid)) mid mid e refl
    (t ∙ ap (λ (l : List ℕ). bytes_before l (quote ∷ mid)) i) refl ∙ rw (found, read_quoted) refl in
    same_read _ _ r rest same g

-- of two rests of a text the shorter is a rest of the longer
pub rest_of_rest : (text a b : List ℕ) → IsRest text a → IsRest text b → length b ≤ length a → length a ≤ length text
    → IsRest a b
rest_of_rest text a b p q h k =
    let n : (length a - length b) + (length text - length a) ≡ length text - length b = omega arith in
    q ∙ (ap (λ (m : ℕ). drop m text) (sym n ∙ add_comm (length a - length b) (length text - length a))
    ∙ (sym (drop-drop (length a - length b) (length text - length a) text)
    ∙ ap (λ (l : List ℕ). drop (length a - length b) l) (sym p)))
