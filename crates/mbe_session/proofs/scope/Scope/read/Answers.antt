use Rattle.std.proofs.Common.{refl, rules}
use Rattle.std.proofs.lemmas.List.{map-append, map_push}
use Rattle.mbe.specs.MacroViews.{macro_of}
use Rattle.mbe_session.proofs.scope.Scope.read.Goals as goal

pub returns-clause-read : goal.returns-clause-read
returns-clause-read g c = record {
  rules = macro_of c.in_ok-rules.rules;
  read = search rules;
  definitions = search (rules, map_push);
  visible = refl;
  crates = refl;
  declared = search (rules, map-append);
}
