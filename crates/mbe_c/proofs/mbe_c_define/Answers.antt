use Rattle.std.proofs.Common.{◌∙◌, ap, refl}
use Rattle.mbe_c.specs.declared.Reply.{Reply}
use Rattle.mbe_c.specs.Copies.{reply_to, with_rules}
use Rattle.mbe_c.proofs.mbe_c_define.Goals as goal

pub returns-in-Ok-clause-defines : goal.returns-in-Ok-clause-defines
returns-in-Ok-clause-defines c =
    let done = c.reply_of.ensures ∙ ap reply_to c.empty.ensures in
    with_rules c.in-Ok.rules c.in-Ok.ensures.defines (ap (λ (r : Reply). record r { place = c.in-Ok.rules }) done) refl
