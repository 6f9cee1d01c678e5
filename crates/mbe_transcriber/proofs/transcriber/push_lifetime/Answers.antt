use Rattle.std.proofs.Common.{◌≡◌, ap, refl, rules}
use Rattle.mbe_tt.specs.Trees.Leaf.{punct, ident}
use Rattle.mbe_tt.specs.Views.LeafViews.{ident_of}
use Rattle.mbe_variables.proofs.PutLemmas.{two_leaves}
use Rattle.mbe_transcriber.proofs.transcriber.push_lifetime.Goals as goal

pub returns : goal.returns
returns g c =
    let copy : c.in_ok-clone.field-0 ≡ c.args.name.now = search rules in
    two_leaves c.push-2.result _ _ (punct c.args.quote) (ident (ident_of c.args.name.now)) c.args.builder.now
    c.push.new.self
    c.push-2.new.self refl (ap (λ i. ident (ident_of i)) copy) c.in_ok-push.ensures.ok c.push-2.ensures.ok
