use Rattle.std.proofs.Common.{◌≡◌, List, ℕ, ◌++◌, ◌+◌, ◌<◌, length, drop, get_or, ap, add-one, drop-cons, Bor}
use Rattle.std.proofs.lemmas.Result.{err_from_is_err_and}
use Rattle.std.specs.Prelude.{flat_map}
use Rattle.mbe_text.proofs.WriterLemmas.{holds_failed, grows_off, grows_on}
use Rattle.mbe_text.proofs.output.push_all.Goals as goal

-- the bytes of texts
abbrev bytes : List (Bor (List ℕ)) → List ℕ
bytes texts = flat_map (λ t. t.now) texts

bytes-next : (texts : List (Bor (List ℕ))) (i : ℕ) (d : Bor (List ℕ)) → i < length texts
    → bytes (drop i texts) ≡ (get_or texts i d).now ++ bytes (drop (i + 1) texts)
bytes-next texts i d h = rw (add-one) (ap bytes (drop-cons texts i d h))

pub returns-in_err-push : goal.returns-in_err-push
returns-in_err-push g c =
    let p = err_from_is_err_and c.from_residual.result c.from_residual.ensures.1 in
    holds_failed _ _ _ _ _ _ p.1 (grows_off _ _ _ _ _ _ _ (bytes (drop (c.texts.text-index + 1) c.args.texts.now))
    c.texts.invariant (bytes-next c.args.texts.now c.texts.text-index _ c.texts-test.true) c.in_err-push.ensures)

pub texts-preserved : goal.texts-preserved
texts-preserved g c =
    grows_on _ _ _ _ _ _ _ _ _
    c.texts.invariant (bytes-next c.args.texts.now c.texts.text-index _ c.texts-test.true) c.in_ok-push.ensures
