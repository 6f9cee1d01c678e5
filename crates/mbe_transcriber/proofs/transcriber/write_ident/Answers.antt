use Rattle.std.proofs.Common.{◌≡◌, ap, rules}
use Rattle.mbe_tt.specs.Views.LeafViews.{ident_of}
use Rattle.mbe_variables.proofs.FragmentLemmas.{if_ok}
use Rattle.mbe_transcriber.proofs.WroteLemmas.{ident_written}
use Rattle.mbe_transcriber.proofs.transcriber.write_ident.Goals as goal

pub returns : goal.returns
returns g c =
    let copy : c.in_ok-clone.field-0 ≡ c.args.ident.now.sym = search rules in
    if_ok c.push.result
    (ident_written _ (ident_of c.args.ident.now)
    (record (ident_of c.args.ident.now) { sym = c.in_ok-clone.field-0; span = c.mark.result }) c.args.builder.now
    c.push.new.self
    c.mark.ensures (ap (λ s. record (ident_of c.args.ident.now) { sym = s; span = c.mark.result }) copy))
    c.push.ensures.ok
