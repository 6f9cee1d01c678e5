use Rattle.std.proofs.Common.{Option, length, option_map, arith, rules, refl, ap}
use Rattle.std.proofs.lemmas.List.{length_push}
use Rattle.std.proofs.lemmas.Iterator.Consumers.{YieldsList-turn, YieldsList-end}
use Rattle.std.proofs.lemmas.Iterator.Splits.{YieldsList-from_lines}
use Rattle.std.specs.Str.Lines.{lines}
use Rattle.mbe_grammar.specs.declared.peg.peg_error.PegErrorKind.{PegErrorKind}
use Rattle.mbe_grammar.specs.Peg.Views.{tokens_model, plain_reason}
use Rattle.mbe_grammar.specs.Peg.Tokens.{tokenize}
use Rattle.mbe_grammar.proofs.ReadText.LineLemmas.{is_right, lines_go_on, lines_stop, lines_end}
use Rattle.mbe_grammar.proofs.peg.peg_lexer.tokenize.Goals as goal
use Rattle.mbe_grammar.proofs.peg.peg_lexer.tokenize.Goals.{in-None, in-Some+in_ok-add_line+then-is_some}

pub loop-line-preserved : goal.loop-line-preserved
loop-line-preserved g c =
    let l = c.loop-line in
    let t = YieldsList-turn (YieldsList-from_lines c.args.text.now cc) l.yielded _ l.yielded_by _ _ c.in-Some.line
    c.in-Some.is c.next.ensures.steps in
    record {
      whole =
          rw (c.saturating_add-number.ensures, length_push l.yielded c.in-Some.line)
          (lines_go_on (tokens_model l.all) (tokens_model c.add_line.new.self) (tokenize c.args.text.now)
          c.add_line.new.self.wrong l.number (lines c.args.text.now) (length l.yielded) c.in-Some.line.now t
          c.in_ok-add_line.ensures refl (search rules) l.invariant.whole);
      right = is_right c.add_line.new.self.wrong (search rules);
    }

pub returns : goal.returns
returns g c =
    let l = c.loop-line in
    elim c.match-next.branch [
      | in-None w ↦
          let t = YieldsList-end (YieldsList-from_lines c.args.text.now cc) l.yielded _ l.yielded_by _ _ w.in-None.is
          c.next.ensures.steps in
          rw w.all-is
          (lines_end (tokens_model l.all) (tokenize c.args.text.now) l.number (lines c.args.text.now)
          (length l.yielded) (omega (arith, t.1))
          (ap (λ (o : Option PegErrorKind). option_map plain_reason o) l.invariant.right) l.invariant.whole)
      | in-Some+in_ok-add_line+then-is_some w ↦
          let t = YieldsList-turn (YieldsList-from_lines c.args.text.now cc) l.yielded _ l.yielded_by _ _
          w.in-Some.line w.in-Some.is c.next.ensures.steps in
          rw w.all-is
          (lines_stop (tokens_model l.all) (tokens_model w.add_line.new.self) (tokenize c.args.text.now)
          w.add_line.new.self.wrong l.number (lines c.args.text.now) (length l.yielded) w.in-Some.line.now t
          w.in_ok-add_line.ensures refl (search rules) l.invariant.whole)
    ]
