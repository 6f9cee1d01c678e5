use Rattle.std.proofs.Common.{map, ap, sym, ◌∙◌}
use Rattle.std.proofs.lemmas.List.{take-map}
use Rattle.mbe_session.specs.Scopes.{Scope}
use Rattle.mbe_session.specs.SessionViews.{declared_name_of, scope_of}
use Rattle.mbe_session.proofs.scope.Scope.forget_declared.Goals as goal

pub returns-clause-left : goal.returns-clause-left
returns-clause-left g c =
    ap (λ ds. let s : Scope = record (scope_of c.args.self.now) { declared = ds } in s)
    (ap (map declared_name_of) c.truncate.ensures.items
    ∙ sym (take-map declared_name_of c.args.count c.args.self.now.declared.items))
