use Rattle.std.proofs.Common.{◌∙◌, map, arith}
use Rattle.mbe_cfg.specs.CrateExports.ExportViews.{export_of}
use Rattle.mbe_session.specs.SessionViews.{scope_of}
use Rattle.mbe_session.proofs.LinkLemmas.{no_round, round_on}
use Rattle.mbe_session.proofs.scope.Scope.link.Goals as goal

pub rounds-preserved : goal.rounds-preserved
rounds-preserved g c = (
  round_on c.rounds.left (map export_of c.args.exports.now) (scope_of c.rounds.self)
      (scope_of c.link_exports.new.self) (scope_of c.link_exports-in-rounds.new.self) _ (omega arith)
      c.rounds.invariant.0 c.in_ok-link_exports.ensures.linked c.in_ok-link_exports-2.ensures.linked,
  c.in_ok-link_exports-2.ensures.edition ∙ (c.in_ok-link_exports.ensures.edition ∙ c.rounds.invariant.1),
)

pub returns-clause-linked : goal.returns-clause-linked
returns-clause-linked g c =
    no_round c.rounds.left (map export_of c.args.exports.now) (scope_of c.rounds.self) _ (omega arith)
    c.rounds.invariant.0
