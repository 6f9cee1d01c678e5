use Rattle.std.proofs.Common.{rules, arith}
use Rattle.mbe_session.specs.Scopes.{definition_at, is_admitted, is_found}
use Rattle.mbe_session.specs.SessionViews.{crate_filter_shown, scope_of}
use Rattle.mbe_session.proofs.BelowLemmas.{below_on, below_here, below_none, not_searched}
use Rattle.mbe_session.proofs.scope.Scope.last_found.Goals as goal

pub numbers-init : goal.numbers-init
numbers-init g c =
    not_searched (is_admitted (scope_of c.args.self.now) (crate_filter_shown c.args.crate_filter))
    (λ n. is_found c.args.name.now c.args.asked (definition_at (scope_of c.args.self.now) n)) _ _
    c.search_end-left.ensures.within c.search_end-left.ensures.past

pub numbers-preserved : goal.numbers-preserved
numbers-preserved g c = below_on _ c.numbers.left _ (omega arith) c.numbers.invariant (search rules)

pub returns-then-is_eligible : goal.returns-then-is_eligible
returns-then-is_eligible g c = below_here _ c.numbers.left _ (omega arith) c.numbers.invariant (search rules)

pub returns : goal.returns
returns g c = below_none _ c.numbers.left _ (omega arith) c.numbers.invariant
