use Rattle.mbe_tt.specs.Laws.CodeEquality.{same_by}
use Rattle.mbe_ops.specs.Codes.{key_code, macro_key}
use Rattle.mbe_ops.proofs.EqualityLemmas.{macros_by_key}
use Rattle.mbe.specs.MacroViews.{macro_of}
use Rattle.mbe.proofs.macros.equality.DeclarativeMacroPartialEq.eq.Goals as goal

pub returns : goal.returns
returns g c =
    let one = macro_of c.args.self.now in
    let two = macro_of c.args.other.now in
    let by_key = macros_by_key one two in
    let reported = c.same_macro.ensures in
    same_by key_code (macro_key one) (macro_key two) c.same_macro.result
    (λ h. by_key.1 (reported.0 h), λ h. reported.1 (by_key.0 h))
