use Rattle.std.proofs.Common.{ap, ◌∙◌, ◌+◌, is_some, if◌then◌else◌, Bool}
use Rattle.std.proofs.Common.{btree_map_len}
use Rattle.mbe_grammar.proofs.ReadText.NameLemmas.{name_added}
use Rattle.mbe_grammar.proofs.peg.rule_names.add_name.Goals as goal

pub returns : goal.returns
returns g c =
    name_added c.args.name.now c.args.names.now c.insert.new.self
    (rw (← c.len-position.ensures.len) c.in_ok-insert.ensures.updates)
    (c.in_ok-insert.ensures.len
    ∙ ap (λ (b : Bool). btree_map_len c.args.names.now + (if b then 0 else 1))
    (ap is_some (c.in_ok-insert.ensures.old ∙ c.requires)))
