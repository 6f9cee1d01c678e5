-- The trees of a text are Rust's.
use Rattle.std.proofs.Common.{◌≡◌, ℕ, zero, suc, ◌≤◌, if◌then◌else◌, true, false, List, [], ◌∷◌, ◌++◌, length, refl}
use Rattle.std.proofs.Common.{sym, ap, ◌∙◌, arith, Option, Some, None, Result, Ok, Err, append_assoc, append-nil}
use Rattle.std.proofs.Common.{encode_utf8_all, chars, subst}
use Rattle.std.proofs.Math.Utf8.{scalars}
use Rattle.std.proofs.lemmas.Str.{scalars-chars, encodes-chars, length-le-encodes}
use Rattle.mbe_tt.specs.Buffers.GroupStack.{GroupStack}
use Rattle.mbe_tt.specs.Trees.Tree.{Forest, none, FlatToken, flat}
use Rattle.mbe_tt.specs.Trees.Top.{Top}
use Rattle.mbe_tt.specs.declared.span.Edition.{Edition}
use Rattle.mbe_tt.specs.declared.span.Span.{Span}
use Rattle.mbe_tt.specs.declared.tt.Delimiter.{Delimiter}
use Rattle.mbe_tt.specs.declared.tt.DelimiterKind.TheVariants.{Invisible}
use Rattle.mbe_text.specs.declared.dialect.Dialect.TheVariants.{Rust}
use Rattle.mbe_text.specs.declared.scanner.LexFault.{LexFault}
use Rattle.mbe_text.specs.declared.fault_kind.LexFaultKind.TheVariants as fault_kind
use Rattle.mbe_text.specs.LexedTrees.{ScannedToken, next_token, scanned_span, scanned_item, after_item, stack_of}
use Rattle.mbe_text.specs.LexedTrees.{stack_at_end, is_unclosed, lexed_trees}
use Rattle.mbe_text.specs.LexFaults.{fault_at}
use Rattle.mbe_text.specs.Tokens.{bytes_of, ended}
use Rattle.mbe_text.specs.Trivia.{after_preamble}
use Rattle.mbe_text.specs.Laws.Lexed.{LexedAreRust, TextRoundTrips}
use Rattle.mbe_text.specs.Laws.RustTrees.{AreRust, AreRead}
use Rattle.mbe_text.proofs.ReadBack.BackLemmas.{one_step, trees_round_trip}
use Rattle.mbe_text.proofs.ReadBack.BlankTailLemmas.{tail_shorter, head_tail}
use Rattle.mbe_text.proofs.ReadBack.TokenLemmas.{hidden_all, tokens_of, Tokens, last, more, next_cut, next_tail}
use Rattle.mbe_text.proofs.ReadBack.TokenLemmas.{next_shorter, Fits, fits_tail}
use Rattle.mbe_text.proofs.ReadBack.GroupLemmas.{flat_levels, grows}
use Rattle.mbe_text.proofs.ReadBack.HiddenLemmas.{shown, shown_read}
use Rattle.mbe_text.proofs.ReadBack.LineLemmas.{literals_are_read}
use Rattle.mbe_text.proofs.ReadBack.RustLemmas.{are_rust}

-- its tokens, and the groups that are open at its end
record Made (e : Edition) (file total : ℕ) (levels stack_at_end : GroupStack) (cs : List ℕ) : Type 0 where
  ts : List FlatToken
  tokens : Tokens e file total cs ts
  flat_is : hidden_all (flat_levels stack_at_end) ≡ hidden_all (flat_levels levels) ++ ts

levels_same : (a b : GroupStack) → (let x : Result GroupStack LexFault = Ok a in x) ≡ Ok b → a ≡ b
levels_same a b h = cc

made_none : (e : Edition) (file total : ℕ) (levels at_end : GroupStack) (cs : List ℕ)
    → next_token (Rust e) total cs ≡ Ok None → levels ≡ at_end → Made e file total levels at_end cs
made_none e file total levels at_end cs n same = record {
  ts = [];
  tokens = last cs n;
  flat_is = ap (λ (x : GroupStack). hidden_all (flat_levels x)) (sym same)
      ∙ sym (append-nil (hidden_all (flat_levels levels)));
}

made_more : (e : Edition) (file total : ℕ) (levels after at_end : GroupStack) (cs : List ℕ) (t : ScannedToken)
    → next_token (Rust e) total cs ≡ Ok (Some t)
    → hidden_all (flat_levels after) ≡ hidden_all (flat_levels levels) ++ tokens_of (scanned_span file total t) t.shape
    → Made e file total after at_end t.rest → Made e file total levels at_end cs
made_more e file total levels after at_end cs t n flat m =
    let own = tokens_of (scanned_span file total t) t.shape in record {
      ts = own ++ m.ts;
      tokens = more cs t m.ts n m.tokens;
      flat_is = m.flat_is
          ∙ (ap (λ (x : List FlatToken). x ++ m.ts) flat
          ∙ append_assoc (hidden_all (flat_levels levels)) own m.ts);
    }

levels_fault : (e : Edition) (file total n : ℕ) (levels : GroupStack) (cs : List ℕ) (fault : LexFault)
    → next_token (Rust e) total cs ≡ Err fault → stack_of (Rust e) file total (suc n) levels cs ≡ Err fault
levels_fault e file total n levels cs fault h = rw (stack_of, h) refl

levels_none : (e : Edition) (file total n : ℕ) (levels : GroupStack) (cs : List ℕ) → next_token (Rust e) total cs
    ≡ Ok None
    → stack_of (Rust e) file total (suc n) levels cs ≡ Ok levels
levels_none e file total n levels cs h = rw (stack_of, h) refl

levels_astray : (e : Edition) (file total n : ℕ) (levels : GroupStack) (cs : List ℕ) (t : ScannedToken)
    → next_token (Rust e) total cs ≡ Ok (Some t) → after_item (scanned_item file total t) levels ≡ None
    → stack_of (Rust e) file total (suc n) levels cs ≡ Err (fault_at fault_kind.Closing total t.from)
levels_astray e file total n levels cs t h k = rw (stack_of, h, k) refl

-- what a number of tokens makes
abbrev Makes : Edition → ℕ → ℕ → ℕ → Type 0
Makes e file total n = (g : Delimiter × Forest) (outer at_end : GroupStack) (cs : List ℕ) → length cs ≤ n
    → scalars cs ≡ true → stack_of (Rust e) file total n (g ∷ outer) cs ≡ Ok at_end
    → Made e file total (g ∷ outer) at_end cs

makes_after : (e : Edition) (file total n : ℕ) (g : Delimiter × Forest) (outer at_end : GroupStack) (cs : List ℕ)
    (t : ScannedToken) (after : Option GroupStack) → Makes e file total n → length cs ≤ suc n → scalars cs ≡ true
    → next_token (Rust e) total cs ≡ Ok (Some t) → after_item (scanned_item file total t) (g ∷ outer) ≡ after
    → stack_of (Rust e) file total (suc n) (g ∷ outer) cs ≡ Ok at_end → Made e file total (g ∷ outer) at_end cs
makes_after e file total n g outer at_end cs t None go le u k a h =
    absurd (let z : Err (fault_at fault_kind.Closing total t.from) ≡ Ok at_end =
    sym (levels_astray e file total n (g ∷ outer) cs t k a) ∙ h in cc)
makes_after e file total n g outer at_end cs t (Some after) go le u k a h =
    let x = next_cut e total cs t u k in
    let grown = grows (scanned_span file total t) t.shape g outer after a in
    let right = (fits_tail (length (encode_utf8_all cs)) cs t.rest (next_tail e total cs t x)
    (record { right = u; within = omega arith })).right in
    let was : stack_of (Rust e) file total n (grown.group ∷ grown.outer) t.rest ≡ Ok at_end =
    ap (λ (y : GroupStack). stack_of (Rust e) file total n y t.rest) (sym grown.is)
    ∙ (sym (one_step (Rust e) file total n (g ∷ outer) after cs t k a) ∙ h) in
    let m = go grown.group grown.outer at_end t.rest (omega (arith, le, next_shorter e total cs t x)) right was in
    made_more e file total (g ∷ outer) after at_end cs t k grown.flat_is
    (subst (λ (y : GroupStack). Made e file total y at_end t.rest) (sym grown.is) m)

makes_next : (e : Edition) (file total n : ℕ) (g : Delimiter × Forest) (outer at_end : GroupStack) (cs : List ℕ)
    (next : Result (Option ScannedToken) LexFault) → Makes e file total n → length cs ≤ suc n → scalars cs ≡ true
    → next_token (Rust e) total cs ≡ next
    → stack_of (Rust e) file total (suc n) (g ∷ outer) cs ≡ Ok at_end → Made e file total (g ∷ outer) at_end cs
makes_next e file total n g outer at_end cs (Err fault) go le u k h =
    absurd (let z : Err fault ≡ Ok at_end = sym (levels_fault e file total n (g ∷ outer) cs fault k) ∙ h in cc)
makes_next e file total n g outer at_end cs (Ok None) go le u k h =
    made_none e file total (g ∷ outer) at_end cs k
    (levels_same (g ∷ outer) at_end (sym (levels_none e file total n (g ∷ outer) cs k) ∙ h))
makes_next e file total n g outer at_end cs (Ok (Some t)) go le u k h =
    makes_after e file total n g outer at_end cs t (after_item (scanned_item file total t) (g ∷ outer)) go le u k refl h

makes : (e : Edition) (file total n : ℕ) → Makes e file total n
makes e file total zero g outer at_end [] le u h =
    made_none e file total (g ∷ outer) at_end [] refl (levels_same (g ∷ outer) at_end h)
makes e file total zero g outer at_end (c ∷ cs) le u h = absurd (omega (arith, le))
makes e file total (suc n) g outer at_end cs le u h =
    makes_next e file total n g outer at_end cs (next_token (Rust e) total cs) (makes e file total n) le u refl h

-- the trees of groups of which none is open at the end
abbrev TreesAre : Type 0
TreesAre = Result Top LexFault

top_same : (a b : Top) → (let x : TreesAre = Ok a in x) ≡ Ok b → a ≡ b
top_same a b h = cc

closed_flat : (e : Edition) (end : Span) (fault : LexFault) (levels : GroupStack) (top : Top)
    → (if is_unclosed (Rust e) levels then Err fault else Ok (ended end levels)) ≡ Ok top
    → flat top.1 ≡ flat_levels levels
closed_flat e end fault [] top h = ap (λ (t : Top). flat t.1) (sym (top_same _ top h))
closed_flat e end fault (g ∷ []) top h = ap (λ (t : Top). flat t.1) (sym (top_same (g.0, g.1) top h))
closed_flat e end fault (g ∷ (k ∷ outer)) top h = absurd (cc)

trees_levels : (e : Edition) (file : ℕ) (text : List ℕ) (top : Top) (r : Result GroupStack LexFault)
    → stack_at_end (Rust e) file text ≡ r → lexed_trees (Rust e) file text ≡ Ok top
    → (levels : GroupStack) × (stack_at_end (Rust e) file text ≡ Ok levels) × (flat top.1 ≡ flat_levels levels)
trees_levels e file text top (Err fault) k h =
    absurd (let w : lexed_trees (Rust e) file text ≡ Err fault = rw (lexed_trees, k) refl in
    let z : Err fault ≡ Ok top = sym w ∙ h in cc)
trees_levels e file text top (Ok levels) k h =
    let end = bytes_of file (length text) (length text) in
    let fault : LexFault = record { offset = length text; fault_kind = fault_kind.Open } in
    let w : lexed_trees (Rust e) file text
    ≡ (if is_unclosed (Rust e) levels then Err fault else Ok (ended end levels)) = rw (lexed_trees, k) refl in
    (levels, k, closed_flat e end fault levels top (sym w ∙ h))

pub lexed_are_rust : LexedAreRust
lexed_are_rust e file text top u h =
    let total : ℕ = length text in
    let all : List ℕ = chars text in
    let cs : List ℕ = after_preamble (Rust e) total all in
    let t = head_tail e total all in
    let same = ap (λ (x : List ℕ). length x) (encodes-chars text u) in
    let f : Fits total cs = fits_tail total all cs t (record {
      right = scalars-chars text u;
      within = omega (arith, same);
    }) in
    let l = trees_levels e file text top (stack_at_end (Rust e) file text) refl h in
    let began : Delimiter × Forest =
    (record { opening = bytes_of file 0 total; close = bytes_of file 0 total; kind = Invisible }, none) in
    let m = makes e file total total began [] l.0 cs
    (omega (arith, same, length-le-encodes all, tail_shorter all cs t)) f.right l.1 in
    let flat_is : hidden_all (flat top.1) ≡ m.ts = ap hidden_all l.2 ∙ m.flat_is in (
      shown e (flat top.1) (subst (AreRust e) (sym flat_is) (are_rust e file total cs m.ts m.tokens f)),
      shown_read e 0 false (flat top.1) (subst (AreRead e 0 false) (sym flat_is)
          (literals_are_read e file total cs m.ts m.tokens f)),
    )

pub text_round_trips : TextRoundTrips
text_round_trips e file other depth text top u h =
    trees_round_trip e other depth top.1 (lexed_are_rust e file text top u h)
