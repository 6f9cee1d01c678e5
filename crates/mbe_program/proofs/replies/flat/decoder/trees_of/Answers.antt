use Rattle.std.proofs.Common.{rules, refl, length, ◌+◌}
use Rattle.std.proofs.lemmas.Result.{err_from_is_err_and}
use Rattle.mbe_program.specs.Replies.Flat.TokenFaults.{Grouped}
use Rattle.mbe_program.proofs.ReplyLemmas.FlatTokens.FaultLemmas.{refused_trees, left_open}
use Rattle.mbe_program.proofs.replies.flat.decoder.trees_of.Goals as goal

pub returns : goal.returns
returns g c = record {
  reads = record {
    first = c.in-Some.first.now;
    middle = c.in-Some-split_last.middle.now;
    last = c.in-Some-split_last.last.now;
    whole = c.in-Some-outer_delimiter.delimiter;
    all = search rules;
    opens = c.in-Some-outer_delimiter.ensures.opens;
    closes = c.in-Some-outer_delimiter.ensures.closes;
    inside = search rules;
  };
  fails = search rules;
}

pub returns-in_err-add_all-clause-fails : goal.returns-in_err-add_all-clause-fails
returns-in_err-add_all-clause-fails g c =
    let whole : Grouped c.args.tokens.now = record {
      first = c.in-Some.first.now;
      middle = c.in-Some-split_last.middle.now;
      last = c.in-Some-split_last.last.now;
      whole = c.in-Some-outer_delimiter.delimiter;
      all = search rules;
      opens = c.in-Some-outer_delimiter.ensures.opens;
      closes = c.in-Some-outer_delimiter.ensures.closes;
    } in
    let step = c.from_residual-in_err-add_all in
    let p = err_from_is_err_and step.result step.ensures.1 in
    rw (p.1, p.2) (refused_trees c.args.text.now c.args.tokens.now whole c.in_err-add_all.field-0.0
    (search rules))

pub returns-then-is_some-clause-fails : goal.returns-then-is_some-clause-fails
returns-then-is_some-clause-fails g c =
    let whole : Grouped c.args.tokens.now = record {
      first = c.in-Some.first.now;
      middle = c.in-Some-split_last.middle.now;
      last = c.in-Some-split_last.last.now;
      whole = c.in-Some-outer_delimiter.delimiter;
      all = search rules;
      opens = c.in-Some-outer_delimiter.ensures.opens;
      closes = c.in-Some-outer_delimiter.ensures.closes;
    } in
    left_open c.args.text.now c.args.tokens.now whole c.add_all.new.builder
    (length c.in-Some-split_last.middle.now + 1) refl (search rules) (search rules)
