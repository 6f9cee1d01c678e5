use Rattle.std.proofs.Common.{◌≡◌, ◌∙◌, ◌++◌, rules, true, not, map, sym, subst, ap}
use Rattle.mbe_rewriter.specs.MacroItemViews.{call_shown}
use Rattle.mbe_session.specs.Explanation.{NotesRules, explanation_notes, explanation_seen, note_seen, selects}
use Rattle.mbe_session.specs.SessionViews.{setting_of, state_of}
use Rattle.mbe_session.proofs.file_expander.FileExpander.explain.Goals as goal

pub returns-clause-notes : goal.returns-clause-notes
returns-clause-notes g c =
    let before = map note_seen c.args.self.now.notes.items in
    let after = map note_seen c.note_explanations.new.notes.items in
    let found = map explanation_seen c.in_ok-explanations.explanations.items in
    let is_child = not c.args.is_expanded in
    let on : selects c.args.self.now.settings.explain c.args.call.start c.args.is_expanded ≡ true = search rules in
    let said : after ≡ before ++ explanation_notes (call_shown c.args.call).name.sym is_child found =
    c.in_ok-note_explanations.ensures
    ∙ ap (λ n. before ++ explanation_notes n is_child (map explanation_seen c.as_slice.result.now))
    c.as_str-name.ensures
    ∙ ap (λ xs. before ++ explanation_notes (call_shown c.args.call).name.sym is_child (map explanation_seen xs))
    c.as_slice.ensures.value in
    subst (λ b. NotesRules (setting_of c.args.self.now) (call_shown c.args.call) (state_of c.args.self.now)
    c.args.argument.now is_child b before after) (sym on) (found, c.in_ok-explanations.ensures, said)
