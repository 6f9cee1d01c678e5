use Rattle.std.proofs.Common.{ℕ, List, ◌==◌, sym, ap, ◌∙◌, rules}
use Rattle.std.specs.List.{list_any}
use Rattle.mbe_text.proofs.DocLemmas.{no_return}
use Rattle.mbe_text.proofs.TailLemmas.{end_after}
use Rattle.mbe_text.proofs.rust_tokens.from_carriage_return.Goals as goal

pub returns-then-not-contains-clause-exact : goal.returns-then-not-contains-clause-exact
returns-then-not-contains-clause-exact c =
    no_return c.args.text.now c.utf8.text
    (ap (λ (l : List ℕ). list_any (λ (y : ℕ). y == 13) l) (sym c.as_bytes.ensures.value)
    ∙ (sym c.contains.ensures.value ∙ c.if-not-contains.true))

pub chars-preserved : goal.chars-preserved
chars-preserved c = record {
  utf8 = search rules;
  exact = search rules;
  end = end_after _ _ _ c.chars.invariant.end c.in_ok-char.ensures.shorter c.in_ok-char.ensures.end;
}
