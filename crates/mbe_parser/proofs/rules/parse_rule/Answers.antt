use Rattle.std.proofs.Common.{◌≡◌, ℕ, ◌≤◌, ◌<◌, ◌+◌, ◌-◌, ap, arith}
use Rattle.mbe_tt.specs.Trees.Tree.{flat_len, passed}
use Rattle.mbe_semantics.specs.Syntax.Template.{pattern, template}
use Rattle.mbe_ops.specs.Errors.ErrorViews.{fault_of}
use Rattle.mbe_ops.specs.Views.{template_of}
use Rattle.mbe_parser.specs.RuleStops.{stop_in_rule}
use Rattle.mbe_parser.specs.RuleResults.{rule_of_parts}
use Rattle.mbe_parser.specs.FaultOffsets.{TemplateFaultAt, RuleFaultAt, in_trees, in_pattern, in_template}
use Rattle.mbe_parser.specs.FaultOffsets.{pattern_offset, template_offset}
use Rattle.mbe_parser.proofs.RuleLemmas.{rule_placed}
use Rattle.mbe_parser.proofs.ReaderLemmas.{fails-weaker, fails-shifted, each_offset, further_offset}
use Rattle.mbe_parser.proofs.EmptyRules.{rule_empty}
use Rattle.mbe_parser.proofs.rules.parse_rule.Goals as goal
use Rattle.mbe_parser.proofs.rules.parse_rule.Goals.{After-flat_len-4}

module _ (g : _) (c : After-flat_len-4 g) where
  -- the lengths are those of the trees
  lens : (c.flat_len-whole.result ≡ flat_len c.args.src.now) × (c.flat_len-2.result ≡ flat_len c.rule_trees.new.src)
      × (c.flat_len-3.result ≡ flat_len c.in-Ok.parts.2) × (c.flat_len-4.result ≡ flat_len c.in-Ok.parts.1)
  lens = (
    omega (arith, c.flat_len-whole.ensures, ap flat_len c.remaining.ensures),
    omega (arith, c.flat_len-2.ensures, ap flat_len c.remaining-2.ensures),
    omega (arith, c.flat_len-3.ensures, ap flat_len c.remaining-3.ensures),
    omega (arith, c.flat_len-4.ensures, ap flat_len c.remaining-4.ensures),
  )

  -- where the pattern's trees are
  abbrev in_pattern_from : ℕ
  in_pattern_from =
      c.flat_len-whole.result - c.flat_len-2.result - (c.flat_len-3.result + 1) - (c.flat_len-4.result + 4)

  -- where the template's trees are
  abbrev in_template_from : ℕ
  in_template_from = c.flat_len-whole.result - c.flat_len-2.result - (c.flat_len-3.result + 1)

  room_in_template : in_template_from + flat_len c.in-Ok.parts.2 ≤ c.flat_len-whole.result
  room_in_template = omega (arith, c.in-Ok.ensures.room, lens)

  room_in_pattern : in_pattern_from + flat_len c.in-Ok.parts.1 ≤ c.flat_len-whole.result
  room_in_pattern = omega (arith, c.in-Ok.ensures.room, lens)

pub returns-in-Err-clause-fault : goal.returns-in-Err-clause-fault
returns-in-Err-clause-fault g c =
    let e : passed c.args.src.now (stop_in_rule c.args.src.now) ≡ c.flat_len-whole.result - c.flat_len.result =
    omega (
      arith,
      ap flat_len c.in-Err.ensures.stop,
      c.flat_len-whole.ensures,
      ap flat_len c.remaining.ensures,
      c.flat_len.ensures,
      ap flat_len c.remaining-in-Err.ensures,
    ) in
    rule_placed _ (fault_of c.in-Err.fault) c.args.src.now _ _ e (in_trees c.in-Err.ensures.trees)

pub shifted-requires : goal.shifted-requires
shifted-requires g c =
    let here = (goal.at.shifted-requires g c).After-flat_len-4 in
    let room = room_in_pattern g here in
    fails-weaker c.in-Err-parse_template.error (λ f n. n ≤ flat_len c.in-Ok.parts.1)
    (λ f n. in_pattern_from g here + n < 18446744073709551616) (λ f n h. omega (arith, h, room))
    c.in-Err-parse_template.ensures.within

pub returns-in-Err-parse_template-clause-fault : goal.returns-in-Err-parse_template-clause-fault
returns-in-Err-parse_template-clause-fault g c =
    let here = (goal.at.returns-in-Err-parse_template-clause-fault g c).After-flat_len-4 in
    let f = c.args.src.now in
    let o = rule_of_parts c.in-Ok.parts c.rule_trees.new.src in
    let e : pattern_offset f o ≡ in_pattern_from g here = omega (arith, lens g here) in
    rw c.shifted.ensures (fails-shifted (in_pattern_from g here) c.in-Err-parse_template.error
    (λ x n. TemplateFaultAt _ pattern x c.in-Ok.parts.1 n) (λ x n. RuleFaultAt _ x f n)
    (λ x n w. rule_placed _ x f _ _ (ap (λ (k : ℕ). k + n) e) (in_pattern o n c.in-Ok.ensures.trees w))
    c.in-Err-parse_template.ensures.fault)

pub returns-in-Err-parse_template-clause-within : goal.returns-in-Err-parse_template-clause-within
returns-in-Err-parse_template-clause-within g c =
    let here = (goal.at.returns-in-Err-parse_template-clause-within g c).After-flat_len-4 in
    let room = room_in_pattern g here in
    let l = lens g here in
    rw c.shifted.ensures (fails-shifted (in_pattern_from g here) c.in-Err-parse_template.error
    (λ x n. n ≤ flat_len c.in-Ok.parts.1) (λ x n. n ≤ flat_len c.args.src.now)
    (λ x n h. omega (arith, h, room, l.0)) c.in-Err-parse_template.ensures.within)

pub shifted-requires-in-Err-parse_template-2 : goal.shifted-requires-in-Err-parse_template-2
shifted-requires-in-Err-parse_template-2 g c =
    let here = (goal.at.shifted-requires-in-Err-parse_template-2 g c).After-flat_len-4 in
    let room = room_in_template g here in
    fails-weaker c.in-Err-parse_template-2.error (λ f n. n ≤ flat_len c.in-Ok.parts.2)
    (λ f n. in_template_from g here + n < 18446744073709551616) (λ f n h. omega (arith, h, room))
    c.in-Err-parse_template-2.ensures.within

pub returns-in-Err-parse_template-2-clause-fault : goal.returns-in-Err-parse_template-2-clause-fault
returns-in-Err-parse_template-2-clause-fault g c =
    let here = (goal.at.returns-in-Err-parse_template-2-clause-fault g c).After-flat_len-4 in
    let f = c.args.src.now in
    let o = rule_of_parts c.in-Ok.parts c.rule_trees.new.src in
    let e : template_offset f o ≡ in_template_from g here = omega (arith, lens g here) in
    rw c.shifted-in-Err-parse_template-2.ensures (fails-shifted (in_template_from g here)
    c.in-Err-parse_template-2.error
    (λ x n. TemplateFaultAt _ template x c.in-Ok.parts.2 n) (λ x n. RuleFaultAt _ x f n)
    (λ x n w. rule_placed _ x f _ _ (ap (λ (k : ℕ). k + n) e)
    (in_template o (template_of c.in-Ok-parse_template.parsed.ops) n c.in-Ok.ensures.trees
    c.in-Ok-parse_template.ensures.ops w))
    c.in-Err-parse_template-2.ensures.fault)

pub returns-in-Err-parse_template-2-clause-within : goal.returns-in-Err-parse_template-2-clause-within
returns-in-Err-parse_template-2-clause-within g c =
    let here = (goal.at.returns-in-Err-parse_template-2-clause-within g c).After-flat_len-4 in
    let room = room_in_template g here in
    let l = lens g here in
    rw c.shifted-in-Err-parse_template-2.ensures (fails-shifted (in_template_from g here)
    c.in-Err-parse_template-2.error
    (λ x n. n ≤ flat_len c.in-Ok.parts.2) (λ x n. n ≤ flat_len c.args.src.now)
    (λ x n h. omega (arith, h, room, l.0)) c.in-Err-parse_template-2.ensures.within)

pub shift_offset-empty-requires : goal.shift_offset-empty-requires
shift_offset-empty-requires g c =
    let here = (goal.at.shift_offset-empty-requires g c).After-flat_len-4 in
    let room = room_in_pattern g here in
    each_offset (λ n. n ≤ flat_len c.in-Ok.parts.1)
    (λ n. in_pattern_from g here + n < 18446744073709551616) c.in-Ok-parse_template.parsed.empty (λ n h. omega
    (arith, h, room))
    c.in-Ok-parse_template.ensures.within_empty

pub returns-in-Ok-parse_template-2-clause-empty : goal.returns-in-Ok-parse_template-2-clause-empty
returns-in-Ok-parse_template-2-clause-empty g c =
    let here = (goal.at.returns-in-Ok-parse_template-2-clause-empty g c).After-flat_len-4 in
    let f = c.args.src.now in
    let o = rule_of_parts c.in-Ok.parts c.rule_trees.new.src in
    let e : in_pattern_from g here ≡ pattern_offset f o = omega (arith, lens g here) in
    rw c.shift_offset-empty.ensures (rule_empty _ f o (record {
      style = c.in-Ok.parts.0;
      reads = template_of c.in-Ok-parse_template.parsed.ops;
      writes = template_of c.in-Ok-parse_template-2.writes.ops;
    }) c.in-Ok-parse_template.parsed.empty _ c.in-Ok.ensures.trees e c.in-Ok-parse_template.ensures.empty)

pub returns-in-Ok-parse_template-2-clause-within_empty : goal.returns-in-Ok-parse_template-2-clause-within_empty
returns-in-Ok-parse_template-2-clause-within_empty g c =
    let here = (goal.at.returns-in-Ok-parse_template-2-clause-within_empty g c).After-flat_len-4 in
    let room = room_in_pattern g here in
    let l = lens g here in
    rw c.shift_offset-empty.ensures (further_offset (λ n. n ≤ flat_len c.in-Ok.parts.1)
    (λ n. n ≤ flat_len c.args.src.now) (in_pattern_from g here) c.in-Ok-parse_template.parsed.empty
    (λ n h. omega (arith, h, room, l.0)) c.in-Ok-parse_template.ensures.within_empty)
