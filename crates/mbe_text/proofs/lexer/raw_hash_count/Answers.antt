use Rattle.std.proofs.Common.{◌≡◌, ℕ, ◌+◌, ◌<◌, max, List, length, drop, get_or, sym, ap, ◌∙◌, arith}
use Rattle.std.proofs.lemmas.List.{at_drop_all, at_drop_more}
use Rattle.mbe_text.specs.Tokens.{guards_after, most_guards}
use Rattle.std.proofs.Common.{◌==◌}
use Rattle.std.specs.List.{list_any}
use Rattle.mbe_text.proofs.DocLemmas.{no_quotes}
use Rattle.mbe_text.proofs.lexer.raw_hash_count.Goals as goal

greater : (most most' now here left total : ℕ) → most' ≡ max most now → here ≡ max now left → max most here ≡ total
    → max most' left ≡ total
greater most most' now here left total m h e = omega arith

-- one byte more
more : (most most' guards now total i byte : ℕ) (text : List ℕ) → i < length text → byte ≡ get_or text i 0
    → now ≡ guards_after guards byte → most' ≡ max most now → max most (most_guards guards (drop i text)) ≡ total
    → max most' (most_guards now (drop (i + 1) text)) ≡ total
more most most' guards now total i byte text h b g m e =
    let is : guards_after guards (get_or text i 0) ≡ now = ap (guards_after guards) (sym b) ∙ sym g in
    greater most most' now _ _ total m
    (at_drop_more (most_guards guards) text i 0 h ∙ ap (λ (k : ℕ). max k (most_guards k (drop (i + 1) text))) is) e

pub bytes-preserved : goal.bytes-preserved
bytes-preserved c =
    let same = c.as_bytes-byte-items.ensures.value in
    more c.bytes.most c.max-most.result c.bytes.guards c.guards_after-guards.result _ c.bytes.byte-index _
    c.args.text.now
    (omega (arith, ap (λ (l : List ℕ). length l) same)) (ap (λ (l : List ℕ). get_or l c.bytes.byte-index 0) same)
    c.guards_after-guards.ensures c.max-most.ensures c.bytes.invariant

pub returns : goal.returns
returns c =
    let same = c.as_bytes-byte-items.ensures.value in
    let none = at_drop_all (most_guards c.bytes.guards) c.args.text.now c.bytes.byte-index
    (omega (arith, ap (λ (l : List ℕ). length l) same)) in
    let all = c.bytes.invariant in
    omega (arith, none, all)

pub returns-then-not-contains : goal.returns-then-not-contains
returns-then-not-contains c =
    sym (no_quotes c.args.text.now (ap (λ (l : List ℕ). list_any (λ (y : ℕ). y == 34) l) (sym c.as_bytes.ensures.value)
    ∙ (sym c.contains.ensures.value ∙ c.if-not-contains.true)))
