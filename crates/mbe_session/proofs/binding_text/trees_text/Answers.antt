use Rattle.std.proofs.Common.{◌∙◌, ap, sym}
use Rattle.mbe_log.specs.FragmentViews.{fragment_seen}
use Rattle.mbe_session.specs.BindingText.{trees_text}
use Rattle.mbe_session.proofs.BindingTextLemmas.{nothing_written}
use Rattle.mbe_session.proofs.binding_text.trees_text.Goals as goal

pub returns-in-Empty : goal.returns-in-Empty
returns-in-Empty g c =
    c.new.ensures.bytes ∙ (sym nothing_written ∙ ap (λ f. trees_text (fragment_seen f)) (sym c.in-Empty.is))
