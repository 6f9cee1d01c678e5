use Rattle.std.proofs.Common.{◌≡◌, refl, rules, ap, ◌∙◌, length}
use Rattle.std.specs.Prelude.{[], ◌∷◌}
use Rattle.mbe_tt.specs.Views.LeafViews.{ident_of}
use Rattle.mbe_parser.proofs.SuffixLemmas.{no_lifetime}
use Rattle.mbe_parser.proofs.parser.with_ident.Goals as goal
use Rattle.mbe_parser.proofs.parser.with_ident.Goals.{in_default-via-then-as_slice-lt1}
use Rattle.mbe_parser.proofs.parser.with_ident.Goals.{in_default-via-in-len1+else-quote-eq39}
use Rattle.mbe_parser.proofs.parser.with_ident.Goals.{in_default-via-else-as_slice-lt1+else-this-lt2}

pub returns-in_default-clause-fault : goal.returns-in_default-clause-fault
returns-in_default-clause-fault g c =
    rw (c.in-Some-Puncts.is, c.in-Some-Puncts.field-0-is) (
      refl,
      no_lifetime c.in-Some-Puncts.puncts.items (ident_of c.args.ident.now) (λ q e t.
          let one : c.as_slice.result.now ≡ q ∷ [] = c.as_slice.ensures.value ∙ e in
          let len : length c.as_slice.result.now ≡ 1 = ap length one in
          elim c.in_default.branch [
            | in_default-via-then-as_slice-lt1 w ↦ search rules
            | in_default-via-in-len1+else-quote-eq39 w ↦ (rw one at w.if-quote-eq39.false) t
            | in_default-via-else-as_slice-lt1+else-this-lt2 w ↦ search rules
          ]),
    )
