-- What a writer took of several pieces, one after another.
use Rattle.std.proofs.Common.{◌≡◌, ℕ, ◌-◌, List, [], ◌++◌, length, take, drop, Option, Result, Ok, Err, refl, sym, ap}
use Rattle.std.proofs.Common.{◌∙◌, subst, append_assoc, append-nil, take-append-drop}
use Rattle.std.proofs.lemmas.List.{take_rest}
use Rattle.std.specs.Io.KnownBytes.{Appends, Keeps}
use Rattle.std.proofs.KnownBytes.{Appends-nil, Appends-trans, Appends-kept}
use Rattle.mbe_text.specs.WriterBytes.{WritesPrefix, Writes, Holds}

-- a writer failed, and took those in front
abbrev pub Fails : Option (List ℕ) → Option (List ℕ) → List ℕ → Type 0
Fails a b bytes = (left : List ℕ) × WritesPrefix a b bytes left

-- nothing is taken yet
pub takes_none : (a : Option (List ℕ)) (bytes left : List ℕ) → left ≡ bytes → WritesPrefix a a bytes left
takes_none a bytes left e = record { front = []; taken = Appends-nil a; whole = sym e }

-- first of some bytes, and then of those that were left and more
pub takes_then : (a b c : Option (List ℕ)) (xs held ys left : List ℕ) → WritesPrefix a b xs held
    → WritesPrefix b c (held ++ ys) left
    → WritesPrefix a c (xs ++ ys) left
takes_then a b c xs held ys left p q = record {
  front = p.front ++ q.front;
  taken = Appends-trans a b c p.front q.front p.taken q.taken;
  whole = ap (λ (l : List ℕ). l ++ ys) p.whole ∙ (append_assoc p.front held ys
      ∙ (ap (λ (l : List ℕ). p.front ++ l) q.whole ∙ sym (append_assoc p.front q.front left)));
}

-- first of some bytes, and then of those that were left
takes_left : (a b c : Option (List ℕ)) (xs held left : List ℕ) → WritesPrefix a b xs held → WritesPrefix b c held left
    → WritesPrefix a c xs left
takes_left a b c xs held left p q = record {
  front = p.front ++ q.front;
  taken = Appends-trans a b c p.front q.front p.taken q.taken;
  whole = p.whole ∙ (ap (λ (l : List ℕ). p.front ++ l) q.whole ∙ sym (append_assoc p.front q.front left));
}

-- of more bytes the same are taken
pub takes_more : (a b : Option (List ℕ)) (xs left ys : List ℕ) → WritesPrefix a b xs left
    → WritesPrefix a b (xs ++ ys) (left ++ ys)
takes_more a b xs left ys p = record {
  front = p.front;
  taken = p.taken;
  whole = ap (λ (l : List ℕ). l ++ ys) p.whole ∙ append_assoc p.front left ys;
}

takes_same : (a b : Option (List ℕ)) (xs ys left : List ℕ) → xs ≡ ys → WritesPrefix a b xs left
    → WritesPrefix a b ys left
takes_same a b xs ys left e p = subst (λ (l : List ℕ). WritesPrefix a b l left) e p

-- all are taken
takes_all : (a b : Option (List ℕ)) (xs : List ℕ) → WritesPrefix a b xs [] → Appends a b xs
takes_all a b xs p = subst (Appends a b) (sym (p.whole ∙ append-nil p.front)) p.taken

pub takes_whole : (a b : Option (List ℕ)) (xs : List ℕ) → Appends a b xs → WritesPrefix a b xs []
takes_whole a b xs p = record { front = xs; taken = p; whole = sym (append-nil xs) }

-- the writer's bytes stay as they are
pub takes_kept : (a b c : Option (List ℕ)) (xs left : List ℕ) → WritesPrefix a b xs left → Keeps b c
    → WritesPrefix a c xs left
takes_kept a b c xs left p q = record { front = p.front; taken = Appends-kept a b c p.front p.taken q; whole = p.whole }

-- the writer took n bytes of those that were left
pub takes_on : (a b c : Option (List ℕ)) (xs rest : List ℕ) (n : ℕ) → WritesPrefix a b xs rest
    → Appends b c (take n rest)
    → WritesPrefix a c xs (take (length rest - n) (drop n rest))
takes_on a b c xs rest n p q = record {
  front = p.front ++ take n rest;
  taken = Appends-trans a b c p.front (take n rest) p.taken q;
  whole = p.whole ∙ (ap (λ (l : List ℕ). p.front ++ l) (sym (take-append-drop n rest))
      ∙ (sym (append_assoc p.front (take n rest) (drop n rest))
      ∙ ap (λ (l : List ℕ). (p.front ++ take n rest) ++ l) (sym (take_rest rest n))));
}

-- ---- writing one piece after another

-- first some bytes, and then others
pub writes_then : {T E : Type 0} (a b c : Option (List ℕ)) (r : Result T E) (xs ys : List ℕ) → Appends a b xs
    → Writes b c r ys → Writes a c r (xs ++ ys)
writes_then a b c (Ok x) xs ys p q = Appends-trans a b c xs ys p q
writes_then a b c (Err e) xs ys p q = (q.0, takes_then a b c xs [] ys q.0 (takes_whole a b xs p) q.1)

-- where the first fail, the others aren't written
pub fails_more : (a b : Option (List ℕ)) (xs ys all : List ℕ) → all ≡ xs ++ ys → Fails a b xs → Fails a b all
fails_more a b xs ys all e p = (
  p.0 ++ ys,
  takes_same a b (xs ++ ys) all (p.0 ++ ys) (sym e) (takes_more a b xs p.0 ys p.1),
)

-- first some bytes, and then the front of others, and not what is after them
pub fails_then : (a b c : Option (List ℕ)) (xs ys zs all : List ℕ) → all ≡ xs ++ (ys ++ zs) → Appends a b xs
    → Fails b c ys → Fails a c all
fails_then a b c xs ys zs all e p q =
    fails_more a c (xs ++ ys) zs all (e ∙ sym (append_assoc xs ys zs))
    (q.0, takes_then a b c xs [] ys q.0 (takes_whole a b xs p) q.1)

-- ---- a line that grows piece by piece

-- some of all the pieces were added to the line, and the others are left
pub record Grows (a b : Option (List ℕ)) (held all rest : List ℕ) : Type 0 where
  pub added : List ℕ
  pub takes : WritesPrefix a b added held
  pub whole : all ≡ added ++ rest

pub grows_empty : (a : Option (List ℕ)) (held rest : List ℕ) → held ≡ [] → Grows a a held rest rest
grows_empty a held rest e = record {
  added = held;
  takes = takes_none a held held refl;
  whole = ap (λ (l : List ℕ). l ++ rest) (sym e);
}

pub grows_on : (a b c : Option (List ℕ)) (held held' all rest piece rest' : List ℕ) → Grows a b held all rest
    → rest ≡ piece ++ rest'
    → WritesPrefix b c (held ++ piece) held' → Grows a c held' all rest'
grows_on a b c held held' all rest piece rest' g e p = record {
  added = g.added ++ piece;
  takes = takes_then a b c g.added held piece held' g.takes p;
  whole = g.whole ∙ (ap (λ (l : List ℕ). g.added ++ l) e ∙ sym (append_assoc g.added piece rest'));
}

pub grows_off : (a b c : Option (List ℕ)) (held all rest piece rest' : List ℕ) → Grows a b held all rest
    → rest ≡ piece ++ rest'
    → Fails b c (held ++ piece) → Fails a c all
grows_off a b c held all rest piece rest' g e p =
    fails_more a c (g.added ++ piece) rest' all
    (g.whole ∙ (ap (λ (l : List ℕ). g.added ++ l) e ∙ sym (append_assoc g.added piece rest')))
    (p.0, takes_then a b c g.added held piece p.0 g.takes p.1)

pub grows_last : (a b : Option (List ℕ)) (held all rest : List ℕ) → Grows a b held all rest → rest ≡ []
    → WritesPrefix a b all held
grows_last a b held all rest g e =
    takes_same a b g.added all held (sym (g.whole ∙ (ap (λ (l : List ℕ). g.added ++ l) e ∙ append-nil g.added))) g.takes

-- the line is written
pub grows_written : {T E : Type 0} (a b c : Option (List ℕ)) (r : Result T E) (held all : List ℕ)
    → WritesPrefix a b all held
    → Writes b c r held → Writes a c r all
grows_written a b c (Ok x) held all p q = takes_all a c all (takes_left a b c all held [] p (takes_whole b c held q))
grows_written a b c (Err e) held all p q = (q.0, takes_left a b c all held q.0 p q.1)

-- ---- where a call's error is passed on

pub writes_failed : {T E : Type 0} (a b : Option (List ℕ)) (r : Result T E) (e : E) (xs : List ℕ) → r ≡ Err e
    → Fails a b xs → Writes a b r xs
writes_failed {T} {E} a b r e xs is p = subst (λ (s : Result T E). Writes a b s xs) (sym is) p

pub holds_failed : {T E : Type 0} (a b : Option (List ℕ)) (r : Result T E) (e : E) (xs held : List ℕ) → r ≡ Err e
    → Fails a b xs → Holds a b r xs held
holds_failed {T} {E} a b r e xs held is p = subst (λ (s : Result T E). Holds a b s xs held) (sym is) p
