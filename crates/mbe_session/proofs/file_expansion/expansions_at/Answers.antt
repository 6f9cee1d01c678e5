use Rattle.std.proofs.Common.{rules, ap, map, subst, sym, take, ◌∙◌, ◌++◌, ◌∷◌, []}
use Rattle.std.proofs.lemmas.List.{append_assoc}
use Rattle.std.specs.String.{string_bytes}
use Rattle.mbe_rewriter.specs.ReplacementViews.{part_of}
use Rattle.mbe_session.specs.FileExpansion.{ExpansionsAt}
use Rattle.mbe_session.proofs.SessionLemmas.{more_there, none_there, nothing_there}
use Rattle.mbe_session.proofs.file_expansion.expansions_at.Goals as goal
use Rattle.mbe_session.proofs.file_expansion.expansions_at.Goals.{then-is_at+in_ok-push_str+in_ok-push, else-is_at}

pub loop-replacement-init : goal.loop-replacement-init
loop-replacement-init c = nothing_there _ _ _ c.new-found.ensures.bytes

pub loop-replacement-preserved : goal.loop-replacement-preserved
unfolding lib.Utf8.encode
loop-replacement-preserved c = elim c.if-is_at.branch [
  | then-is_at+in_ok-push_str+in_ok-push w ↦ more_there part_of c.args.position (string_bytes c.args.lines.now.text)
      c.args.replacements.now
      c.replacement-item.result c.loop-replacement.replacement-index (string_bytes c.loop-replacement.found)
      (string_bytes c.if-is_at.found)
      c.loop-replacement-test.true c.replacement-item.is c.loop-replacement.invariant (
        c.location_of.result.line,
        c.location_of.result.column,
        c.location_of.result.text.now,
        c.location_of.ensures,
        search rules,
      )
      (ap string_bytes w.found-is ∙ w.in_ok-push.ensures.bytes
      ∙ ap (λ x. x ++ 10 ∷ []) (w.in_ok-push_str.ensures.bytes
      ∙ ap (λ t. string_bytes c.loop-replacement.found ++ t) w.as_str.ensures.value)
      ∙ append_assoc (string_bytes c.loop-replacement.found) (string_bytes c.replacement-item.result.text) (10 ∷ []))
  | else-is_at w ↦ none_there part_of c.args.position (string_bytes c.args.lines.now.text) c.args.replacements.now
      c.replacement-item.result c.loop-replacement.replacement-index (string_bytes c.if-is_at.found)
      c.loop-replacement-test.true c.replacement-item.is
      (subst (ExpansionsAt c.args.position (string_bytes c.args.lines.now.text)
      (map part_of (take c.loop-replacement.replacement-index c.args.replacements.now)))
      (ap string_bytes (sym w.found-is)) c.loop-replacement.invariant) (
        c.location_of.result.line,
        c.location_of.result.column,
        c.location_of.result.text.now,
        c.location_of.ensures,
        search rules,
      )
]
