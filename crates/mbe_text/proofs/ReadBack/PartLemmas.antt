-- What a reader passed of a text is read by itself.
use Rattle.std.proofs.Common.{◌≡◌, ℕ, if◌then◌else◌, Bool, true, false, List, [], ◌∷◌, ◌++◌, length, refl, sym, ap, ◌∙◌}
use Rattle.std.proofs.Common.{codes, Ok, append_assoc, append-nil, encode_utf8_all}
use Rattle.std.specs.Prelude.{nat_le, bytes_eq}
use Rattle.unicode_ident.specs.Ident.{is_xid_continue}
use Rattle.mbe_tt.specs.declared.tt.LitKind.{LitKind}
use Rattle.mbe_text.specs.declared.fault_kind.LexFaultKind.TheVariants as fault_kind
use Rattle.mbe_text.specs.Characters.{has, begins, past, bytes_before}
use Rattle.mbe_text.specs.RustTokens.{RustTokenResult, literal, past_suffix}
use Rattle.mbe_text.specs.Shapes.{Shape, literal_of}
use Rattle.mbe_text.specs.Identifiers.{past_identifier}
use Rattle.mbe_text.specs.Laws.RustTrees.{is_start}
use Rattle.mbe_text.proofs.ReadBack.StepLemmas.{bytes_front}
use Rattle.mbe_text.proofs.ReadBack.QuoteLemmas.{Parts, picked, left_of, shape_of}

-- ---- characters of one kind

-- what such characters are that come first, and what is left after them
pub record Run (k : _) (cs : List ℕ) : Type 0 where
  pub own : List ℕ
  pub is : cs ≡ own ++ past k cs
  pub all : past k own ≡ []
  pub ends : begins k (past k cs) ≡ false

run_more : (k : _) (c : ℕ) (cs : List ℕ) (b : Bool) → has k c ≡ b → Run k cs → Run k (c ∷ cs)
run_more k c cs true e r =
    let left : past k (c ∷ cs) ≡ past k cs = rw (past, e) refl in
    let own : past k (c ∷ r.own) ≡ past k r.own = rw (past, e) refl in record {
      own = c ∷ r.own;
      is = ap (λ (x : List ℕ). c ∷ x) r.is ∙ ap (λ (x : List ℕ). (c ∷ r.own) ++ x) (sym left);
      all = own ∙ r.all;
      ends = ap (begins k) left ∙ r.ends;
    }
run_more k c cs false e r =
    let left : past k (c ∷ cs) ≡ c ∷ cs = rw (past, e) refl in record {
      own = [];
      is = sym left;
      all = refl;
      ends = ap (begins k) left ∙ e;
    }

pub run : (k : _) (cs : List ℕ) → Run k cs
run k [] = record { own = []; is = refl; all = refl; ends = refl }
run k (c ∷ cs) = run_more k c cs (has k c) refl (run k cs)

-- the same of what goes on with a word
pub record WordRun (cs : List ℕ) : Type 0 where
  pub own : List ℕ
  pub is : cs ≡ own ++ past_identifier (0 ∷ cs)
  pub all : past_identifier (0 ∷ own) ≡ []

abbrev suffix_if : Bool → ℕ → List ℕ → List ℕ
suffix_if b c cs = if b then past_identifier (0 ∷ cs) else c ∷ cs

word_run_more : (c : ℕ) (cs : List ℕ) (b : Bool) → is_xid_continue c ≡ b → WordRun cs → WordRun (c ∷ cs)
word_run_more c cs true e r =
    let left : past_identifier (0 ∷ (c ∷ cs)) ≡ past_identifier (0 ∷ cs) =
    ap (λ (b : Bool). suffix_if b c cs) e in record {
      own = c ∷ r.own;
      is = ap (λ (x : List ℕ). c ∷ x) r.is ∙ ap (λ (x : List ℕ). (c ∷ r.own) ++ x) (sym left);
      all = ap (λ (b : Bool). suffix_if b c r.own) e ∙ r.all;
    }
word_run_more c cs false e r = record {
  own = [];
  is = sym (ap (λ (b : Bool). suffix_if b c cs) e);
  all = refl;
}

pub word_run : (cs : List ℕ) → WordRun cs
word_run [] = record { own = []; is = refl; all = refl }
word_run (c ∷ cs) = word_run_more c cs (is_xid_continue c) refl (word_run cs)

-- ---- suffixes

pub bytes_alone : (own : List ℕ) → bytes_before own [] ≡ encode_utf8_all own
bytes_alone own = ap (λ (x : List ℕ). bytes_before x []) (sym (append-nil own)) ∙ bytes_front own []

-- nothing, or what begins as an identifier does
abbrev pub is_suffix : List ℕ → Bool
is_suffix [] = true
is_suffix (c ∷ cs) = is_start c

record SuffixFound (cs : List ℕ) : Type 0 where
  own : List ℕ
  is : cs ≡ own ++ past_suffix cs
  none : past_suffix own ≡ []
  front : is_suffix own ≡ true
  all : past_identifier own ≡ []

suffix_found_at : (b : Bool) (c : ℕ) (cs : List ℕ) → is_start c ≡ b → SuffixFound (c ∷ cs)
suffix_found_at true c cs e =
    let r = word_run cs in
    let left : past_suffix (c ∷ cs) ≡ past_identifier (0 ∷ cs) = ap (λ (b : Bool). suffix_if b c cs) e in record {
      own = c ∷ r.own;
      is = ap (λ (x : List ℕ). c ∷ x) r.is ∙ ap (λ (x : List ℕ). (c ∷ r.own) ++ x) (sym left);
      none = ap (λ (b : Bool). suffix_if b c r.own) e ∙ r.all;
      front = e;
      all = r.all;
    }
suffix_found_at false c cs e = record {
  own = [];
  is = sym (ap (λ (b : Bool). suffix_if b c cs) e);
  none = refl;
  front = refl;
  all = refl;
}

suffix_found : (cs : List ℕ) → SuffixFound cs
suffix_found [] = record { own = []; is = refl; none = refl; front = refl; all = refl }
suffix_found (c ∷ cs) = suffix_found_at (is_start c) c cs refl

literal_is : (kind : LitKind) (text cs own rest : List ℕ) → past_suffix cs ≡ rest
    → bytes_before cs rest ≡ encode_utf8_all own
    → bytes_eq (encode_utf8_all own) (codes "_") ≡ false → nat_le (length (encode_utf8_all own)) 255 ≡ true
    → literal kind text cs ≡ Ok (literal_of text (encode_utf8_all own) (length (encode_utf8_all own)) kind, rest)
literal_is kind text cs own rest left same low fits = rw (literal, left, same, low, fits) refl

-- a literal's suffix, and that the literal with it alone is the same one
pub record Suffix (kind : LitKind) (text cs rest : List ℕ) (shape : Shape) : Type 0 where
  pub own : List ℕ
  pub is : cs ≡ own ++ rest
  pub alone : literal kind text own ≡ Ok (shape, [])
  pub shaped : shape ≡ literal_of text (encode_utf8_all own) (length (encode_utf8_all own)) kind
  pub front : is_suffix own ≡ true
  pub all : past_identifier own ≡ []

pub literal_cut : (kind : LitKind) (text cs rest : List ℕ) (shape : Shape) → literal kind text cs ≡ Ok (shape, rest)
    → Suffix kind text cs rest shape
literal_cut kind text cs rest shape h =
    let f = suffix_found cs in
    let suffix = bytes_before cs (past_suffix cs) in
    let s = picked (bytes_eq suffix (codes "_")) (nat_le (length suffix) 255) (fault_kind.UnderscoreSuffix, cs)
    (fault_kind.LongSuffix, cs)
    (Ok (literal_of text suffix (length suffix) kind, past_suffix cs)) (shape, rest) h in
    let left : past_suffix cs ≡ rest = ap left_of s.2 in
    let was : literal_of text suffix (length suffix) kind ≡ shape = ap (shape_of shape) s.2 in
    let spelled : suffix ≡ encode_utf8_all f.own =
    ap (λ (x : List ℕ). bytes_before x (past_suffix cs)) f.is ∙ bytes_front f.own (past_suffix cs) in
    let shaped : shape ≡ literal_of text (encode_utf8_all f.own) (length (encode_utf8_all f.own)) kind =
    sym was ∙ ap (λ (x : List ℕ). literal_of text x (length x) kind) spelled in
    let low : bytes_eq (encode_utf8_all f.own) (codes "_") ≡ false =
    ap (λ (x : List ℕ). bytes_eq x (codes "_")) (sym spelled) ∙ s.0 in
    let fits : nat_le (length (encode_utf8_all f.own)) 255 ≡ true =
    ap (λ (x : List ℕ). nat_le (length x) 255) (sym spelled) ∙ s.1 in record {
      own = f.own;
      is = f.is ∙ ap (λ (x : List ℕ). f.own ++ x) left;
      alone = literal_is kind text f.own f.own [] f.none (bytes_alone f.own) low fits
          ∙ ap (λ (x : Shape). Ok (x, [])) (sym shaped);
      shaped = shaped;
      front = f.front;
      all = f.all;
    }

-- ---- what is between quotes

-- a literal in quotes, and that it is read by itself
pub record Own (read : List ℕ → List ℕ → RustTokenResult) (end : List ℕ) (kind : LitKind) (cs rest : List ℕ)
    (shape : Shape)
    : Type 0 where
  pub body : List ℕ
  pub suffix : List ℕ
  pub is : cs ≡ (body ++ (end ++ suffix)) ++ rest
  pub alone : (from : List ℕ) → read from (body ++ (end ++ suffix)) ≡ Ok (shape, [])
  pub at : (from m : List ℕ) → read from (body ++ (end ++ m)) ≡ literal kind (encode_utf8_all body) m
  pub shaped : shape
      ≡ literal_of (encode_utf8_all body) (encode_utf8_all suffix) (length (encode_utf8_all suffix)) kind

pub parts_cut : (read : List ℕ → List ℕ → RustTokenResult) (end : List ℕ) (kind : LitKind) (cs rest : List ℕ)
    (shape : Shape)
    → Parts read end kind cs (shape, rest) → Own read end kind cs rest shape
parts_cut read end kind cs rest shape p =
    let s = literal_cut kind (encode_utf8_all p.body) p.more rest shape p.was in record {
      body = p.body;
      suffix = s.own;
      is = p.is ∙ (ap (λ (x : List ℕ). p.body ++ (end ++ x)) s.is
          ∙ sym (append_assoc p.body (end ++ s.own) rest
          ∙ ap (λ (x : List ℕ). p.body ++ x) (append_assoc end s.own rest)));
      alone = λ from. p.at from s.own ∙ s.alone;
      at = p.at;
      shaped = s.shaped;
    }
