use Rattle.std.proofs.Common.{ℕ, List, length, get_or, sym, ap, ◌∙◌, arith}
use Rattle.mbe_text.proofs.CharacterLemmas.{counts_more, stops_there, stops_at_end}
use Rattle.mbe_text.proofs.characters.ascii_count.Goals as goal

pub bytes-preserved : goal.bytes-preserved
bytes-preserved c =
    let same = c.as_bytes-byte-items.ensures.value in
    let at = c.bytes.invariant.at in
    let more = counts_more c.args.class c.args.text.now c.bytes.count _ c.is_ascii_in.result c.utf8.text
    (omega (arith, at, ap (λ (l : List ℕ). length l) same))
    (ap (λ (l : List ℕ). get_or l c.bytes.byte-index 0) same ∙ ap (λ (n : ℕ). get_or c.args.text.now n 0) (sym at))
    c.is_ascii_in.ensures c.if-not-is_ascii_in.false c.bytes.invariant.exact in
    record {
      at = omega (arith, at);
      utf8 = more.0;
      exact = more.1;
    }

pub returns-then-not-is_ascii_in-clause-within : goal.returns-then-not-is_ascii_in-clause-within
returns-then-not-is_ascii_in-clause-within c =
    let same = c.as_bytes-byte-items.ensures.value in
    let at = c.bytes.invariant.at in omega (arith, at, ap (λ (l : List ℕ). length l) same)

pub returns-then-not-is_ascii_in-clause-stops : goal.returns-then-not-is_ascii_in-clause-stops
returns-then-not-is_ascii_in-clause-stops c = λ small.
    let same = c.as_bytes-byte-items.ensures.value in
    let at = c.bytes.invariant.at in
    stops_there c.args.class c.args.text.now c.bytes.count _ c.is_ascii_in.result c.utf8.text
    (omega (arith, at, ap (λ (l : List ℕ). length l) same))
    (ap (λ (l : List ℕ). get_or l c.bytes.byte-index 0) same ∙ ap (λ (n : ℕ). get_or c.args.text.now n 0) (sym at))
    c.is_ascii_in.ensures c.if-not-is_ascii_in.true small

pub returns-clause-within : goal.returns-clause-within
returns-clause-within c =
    let same = c.as_bytes-byte-items.ensures.value in
    let at = c.bytes.invariant.at in omega (arith, at, ap (λ (l : List ℕ). length l) same)

pub returns-clause-stops : goal.returns-clause-stops
returns-clause-stops c = λ _.
    let same = c.as_bytes-byte-items.ensures.value in
    let at = c.bytes.invariant.at in
    stops_at_end c.args.class c.args.text.now c.bytes.count
    (omega (arith, at, ap (λ (l : List ℕ). length l) same))
