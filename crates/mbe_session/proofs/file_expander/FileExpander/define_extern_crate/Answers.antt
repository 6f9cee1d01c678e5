use Rattle.std.proofs.Common.{ap, length, ◌∙◌}
use Rattle.std.proofs.lemmas.Result.{on_ok_weaker}
use Rattle.mbe_session.specs.Resolution.{with_first_declared}
use Rattle.mbe_session.specs.Scopes.{with_crate}
use Rattle.mbe_session.specs.SessionViews.{scope_of}
use Rattle.mbe_session.proofs.file_expander.FileExpander.define_extern_crate.Goals as goal

pub returns-clause-defines : goal.returns-clause-defines
returns-clause-defines g c =
    let read = scope_of c.define_root.new.self.scope in
    let name = c.args.name.now in
    on_ok_weaker c.close_crate.result
    (λ closed. (
      read,
      c.in_ok-define_root.ensures.defines,
      closed ∙ ap (with_crate name c.count-first.result) c.forget_declared.ensures.left
          ∙ ap (λ first. with_crate name first (with_first_declared c.declared_count-declared.result read))
          c.count-first.ensures
          ∙ ap (λ n. with_crate name (length (scope_of c.args.self.now.scope).definitions) (with_first_declared n read))
          c.declared_count-declared.ensures,
    ))
    c.close_crate.ensures.closed
