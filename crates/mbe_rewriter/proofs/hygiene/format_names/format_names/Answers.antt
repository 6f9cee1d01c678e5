use Rattle.std.proofs.Common.{rules, map, [], ◌∙◌, ap}
use Rattle.mbe_rewriter.specs.Hygiene.FormatNames.{names_from}
use Rattle.mbe_rewriter.proofs.Renaming.MentionLemmas.{names_on, names_end, fewer}
use Rattle.mbe_rewriter.proofs.hygiene.format_names.format_names.Goals as goal

pub runs-preserved : goal.runs-preserved
runs-preserved g c = record {
  text = search rules;
  names =
      ap (λ b. names_from (map (λ t. t.now) c.push_format_name.new.found.items) b [] c.in-Some.more.now)
      c.next_before-before.ensures
      ∙ names_on _ _ c.runs.before c.in-Some.byte c.runs.rest.now c.split_run.result.0.now c.split_run.result.1.now
      c.in-Some.more.now c.split_run.ensures.run c.split_run.ensures.after c.in-Some.ensures
      c.in_ok-push_format_name.ensures
      ∙ c.runs.invariant.names;
}

pub runs-smaller : goal.runs-smaller
runs-smaller g c =
    fewer c.runs.rest.now c.split_run.result.1.now c.in-Some.more.now c.in-Some.byte c.split_run.ensures.after
    c.in-Some.ensures

pub returns-in_default : goal.returns-in_default
returns-in_default g c =
    names_end _ _ c.runs.before c.runs.rest.now c.split_run.result.0.now c.split_run.result.1.now
    c.split_run.ensures.run
    c.split_run.ensures.after c.in_default.ensures c.in_ok-push_format_name.ensures
    ∙ c.runs.invariant.names
