use Rattle.std.proofs.Common.{rules, ◌∙◌, ◌+◌, ◌-◌, arith, map}
use Rattle.mbe_session.specs.FileViews.{source_of}
use Rattle.mbe_session.proofs.LimitLemmas.{file_here, file_further, no_file_left}
use Rattle.mbe_session.proofs.recursion_limit.first_limit.Goals as goal

pub returns-in-Some : goal.returns-in-Some
returns-in-Some c =
    file_here c.in-Some.limit (c.args.root_count - c.files.index) c.files.index (map source_of c.args.files.now)
    (omega (arith, c.files-test.true)) (search rules) ∙ c.files.invariant.1

pub files-preserved : goal.files-preserved
files-preserved c = (
  omega (arith, c.files-test.true),
  file_further (c.args.root_count - c.files.index) (c.args.root_count - (c.files.index + 1)) c.files.index
      (map source_of c.args.files.now) (omega (arith, c.files-test.true)) (search rules) ∙ c.files.invariant.1,
)

pub returns : goal.returns
returns c =
    no_file_left (c.args.root_count - c.files.index) c.files.index (map source_of c.args.files.now)
    (omega (arith, c.files-test.false)) ∙ c.files.invariant.1
