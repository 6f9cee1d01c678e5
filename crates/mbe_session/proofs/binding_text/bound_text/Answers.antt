use Rattle.std.proofs.Common.{◌∙◌, ap, sym}
use Rattle.std.proofs.lemmas.Result.{IfOk-weaker}
use Rattle.mbe_bindings.specs.BindingViews.{value_seen, values_seen}
use Rattle.mbe_bindings.proofs.BindingLemmas.{seen-nested}
use Rattle.mbe_session.specs.BindingText.{bound_text, list_text}
use Rattle.mbe_session.proofs.binding_text.bound_text.Goals as goal

pub returns-in-Nested : goal.returns-in-Nested
returns-in-Nested g c =
    let seen = ap value_seen c.in-Nested.is ∙ seen-nested c.in-Nested.rounds in
    let step = ap (λ l. list_text (values_seen l)) c.deref.ensures.value ∙ sym (ap bound_text seen) in
    IfOk-weaker c.list_text.result _ _ (λ text e. e ∙ step) c.list_text.ensures
