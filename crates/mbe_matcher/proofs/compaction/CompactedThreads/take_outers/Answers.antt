use Rattle.std.proofs.Common.{◌≡◌, ◌∙◌, ◌∷◌, [], Some, option_map, length, length-append, refl, ap, sym, subst, arith}
use Rattle.std.specs.Prelude.{slice_get}
use Rattle.std.proofs.lemmas.Option.{slice_get_read}
use Rattle.mbe_semantics.specs.Bindings.Account.{Log}
use Rattle.mbe_bindings.specs.declared.log_compaction.HandleMap.{HandleMap}
use Rattle.mbe_matcher.specs.Compaction.{AreHandles, AreCarried}
use Rattle.mbe_matcher.proofs.Carrying.{carried_more}
use Rattle.mbe_matcher.proofs.compaction.CompactedThreads.take_outers.Goals as goal

pub loop-frame-preserved : goal.loop-frame-preserved
loop-frame-preserved g c =
    let was = c.loop-frame.self in
    let now = c.push.new.self in
    let inv = c.loop-frame.invariant in
    let pushed = c.in_ok-push.ensures in
    let frames = c.args.frames.now in
    let item = c.frame-item.result in
    let there = slice_get_read frames (length frames) c.loop-frame.frame-index item refl c.loop-frame-test.true
    c.frame-item.is in
    let at : slice_get frames (length was.numbers.items) ≡ Some item =
    ap (slice_get frames) inv.count ∙ there in
    record {
      log = pushed.log ∙ inv.log;
      moves = pushed.moves ∙ inv.moves;
      count =
          let one = ap length pushed.numbers in
          let more = length-append was.numbers.items (option_map (λ _. length was.frames.items) c.next-next.result
          ∷ []) in
          let count = inv.count in
          omega (arith, one, more, count);
      carried = λ old handles.
          let before : AreHandles was.moves old was.log =
          subst (λ (x : HandleMap g.row.A.Denot). AreHandles x old was.log) pushed.moves
          (subst (λ (x : Log). AreHandles now.moves old x) pushed.log handles) in
          subst (λ (x : Log). AreCarried old x frames now.frames.items now.numbers.items) (sym pushed.log)
          (carried_more old was.log frames was.frames.items was.moves was.numbers.items before
          (inv.carried old before) item c.next-next.result now.frames.items now.numbers.items at c.next-next.ensures
          pushed.frames pushed.numbers);
    }

pub returns-clause-carries : goal.returns-clause-carries
returns-clause-carries g c = λ old handles.
    let m = c.loop-frame.self in
    let inv = c.loop-frame.invariant in
    let here : AreHandles m.moves old m.log =
    subst (λ (x : HandleMap g.row.A.Denot). AreHandles x old m.log) (sym inv.moves)
    (subst (λ (x : Log). AreHandles c.args.self.now.moves old x) (sym inv.log) handles) in
    record { handles = here; items = inv.carried old here }
