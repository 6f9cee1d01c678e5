use Rattle.std.proofs.Common.{◌≡◌, ap, rules}
use Rattle.mbe_tt.specs.Views.LeafViews.{literal_of}
use Rattle.mbe_variables.proofs.FragmentLemmas.{if_ok}
use Rattle.mbe_transcriber.proofs.WroteLemmas.{literal_written}
use Rattle.mbe_transcriber.proofs.transcriber.write_literal.Goals as goal

pub returns : goal.returns
returns g c =
    let copy : c.in_ok-clone.field-0 ≡ c.args.literal.now.text_and_suffix = search rules in
    if_ok c.push.result
    (literal_written _ (literal_of c.args.literal.now)
    (record (literal_of c.args.literal.now) { text_and_suffix = c.in_ok-clone.field-0; span = c.mark.result })
    c.args.builder.now c.push.new.self
    c.mark.ensures (ap (λ s. record (literal_of c.args.literal.now) { text_and_suffix = s; span = c.mark.result })
    copy))
    c.push.ensures.ok
