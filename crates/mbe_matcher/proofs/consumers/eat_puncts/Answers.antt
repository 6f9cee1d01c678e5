use Rattle.std.proofs.Common.{◌≡◌, rules}
use Rattle.std.specs.Str.{bytes_eq}
use Rattle.mbe_tt.specs.Trees.Glue.{chars_of}
use Rattle.mbe_matcher.proofs.FrontLemmas.{puncts_passed}
use Rattle.mbe_matcher.proofs.consumers.eat_puncts.Goals as goal

pub returns-in-Ok : goal.returns-in-Ok
returns-in-Ok g c =
    let f = c.args.src.now in
    let chars = chars_of c.args.puncts.now in
    let same : c.same_chars.result ≡ bytes_eq (chars_of c.in-Ok.found.items) chars = search rules in
    puncts_passed f _ c.in-Ok.found.items chars c.same_chars.result c.in-Ok.ensures.value c.in-Ok.ensures.rest same
