use denote.Shadow.{shadow}
use denote.Text.{Utf8}
use Rattle.std.proofs.Common.{◌≡◌, length, map, []}
use Rattle.mbe_rewriter.specs.Hygiene.FormatNames as spec
use Rattle.mbe_rewriter.proofs.hygiene.format_names.format_names.Given as goal

abbrev pub invariant-runs : goal.invariant-runs
invariant-runs g l = record {
  text : shadow (Utf8 l.rest);
  names : spec.names_from (map (λ t. t.now) l.found.items) l.before [] l.rest ≡ spec.format_names l.fn.text;
}

abbrev pub decreases-runs : goal.decreases-runs
decreases-runs g l = length l.rest
