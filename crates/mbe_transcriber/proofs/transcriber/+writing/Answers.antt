use Rattle.std.proofs.Common.{◌≡◌, ◌<◌, ◌+◌, ◌-◌, ◌∷◌, vec_len, length-append, ◌++◌, [], ◌∙◌, ap, sym, drop, length}
use Rattle.std.proofs.Common.{refl, rules, arith}
use Rattle.std.specs.Prelude.{is_some, option_map}
use Rattle.mbe_tt.specs.Views.LeafViews.{literal_of, ident_of}
use Rattle.mbe_semantics.specs.Transcription.Rounds.{level, kept}
use Rattle.mbe_semantics.specs.Transcription.Substitution.{extent_faults}
use Rattle.mbe_ops.specs.Views.{op_of, ops_of, separator_seen}
use Rattle.mbe_bindings.specs.BindingViews.{env_of}
use Rattle.mbe_ops.proofs.EqualityLemmas.{op_weight, ops_weight, op_no_heavier}
use Rattle.mbe_ops.proofs.OpViews.{view-repeat, view-var, view-subtree, view-literal, view-punct, view-ident}
use Rattle.mbe_ops.proofs.OpViews.{view-expression}
use Rattle.mbe_variables.proofs.FollowLemmas.{ops_split, ops_over}
use Rattle.mbe_variables.proofs.FollowLemmas.{seen_copied}
use Rattle.mbe_variables.specs.FaultViews.{error_of_fault}
use Rattle.mbe_variables.specs.LookupErrors.{extent_fault}
use Rattle.mbe_transcriber.proofs.FaultLemmas as firsts
use Rattle.mbe_transcriber.proofs.LeftLemmas as lefts
use Rattle.mbe_transcriber.proofs.WroteLemmas as lemmas
use Rattle.mbe_transcriber.proofs.JoinLemmas.{or_either, swapped, popped}
use Rattle.mbe_transcriber.proofs.transcriber.+writing.Goals as goal

pub expand_ops-expand_op-requires : goal.expand_ops-expand_op-requires
expand_ops-expand_op-requires g t c κs within =
    let lighter = op_no_heavier c.args.ops.now c.loop-op.op-index c.op-item.result c.loop-op-test.true c.op-item.is in
    let some : 0 < length c.loop-op.builder = omega (arith, c.requires.some_group, c.loop-op.invariant.wrote.groups) in
    (omega (arith, c.decreases, lighter), (within.0, (within.1.0, (within.1.1, (c.requires.marks, some)))))

pub expand_op-expand_group-requires : goal.expand_op-expand_group-requires
expand_op-expand_group-requires g t c κs within =
    let here = c.in-Subtree in
    let seen = ap op_weight (ap op_of here.is ∙ view-subtree here.tokens here.delimiter) in
    let inside = ap (λ xs. ops_weight (ops_of xs)) c.deref.ensures.value in (
      omega (arith, c.decreases, seen, inside),
      (within.0, (within.1.0, (within.1.1, (c.requires.marks, c.requires.some_group)))),
    )

pub expand_op-expand_repeat-requires : goal.expand_op-expand_repeat-requires
expand_op-expand_repeat-requires g t c κs within =
    let here = c.in-Repeat in
    let seen = ap op_weight (ap op_of here.is ∙ view-repeat here.tokens here.kind here.separator) in
    let inside = ap (λ xs. ops_weight (ops_of xs)) c.deref-in-Repeat.ensures.value in (
      omega (arith, c.decreases, seen, inside),
      (within.0, (within.1.0, (within.1.1, (c.requires.marks, c.requires.some_group)))),
    )

pub expand_op-returns-in-Literal-clause-wrote : goal.expand_op-returns-in-Literal-clause-wrote
expand_op-returns-in-Literal-clause-wrote g t c =
    rw (c.in-Literal.is, view-literal) (lemmas.wrote_and_none c.write_literal.result c.and.result c.and.ensures
    (lemmas.wrote_literal _ _ _ _ _ (literal_of c.in-Literal.literal) c.args.builder.now c.write_literal.new.builder)
    c.write_literal.ensures)

pub expand_op-returns-in-Ident-clause-wrote : goal.expand_op-returns-in-Ident-clause-wrote
expand_op-returns-in-Ident-clause-wrote g t c =
    rw (c.in-Ident.is, view-ident) (lemmas.wrote_and_none c.write_ident.result c.and-in-Ident.result
    c.and-in-Ident.ensures
    (lemmas.wrote_ident _ _ _ _ _ (ident_of c.in-Ident.ident) c.args.builder.now c.write_ident.new.builder)
    c.write_ident.ensures)

pub expand_op-returns-in-Punct-clause-wrote : goal.expand_op-returns-in-Punct-clause-wrote
expand_op-returns-in-Punct-clause-wrote g t c =
    rw (c.in-Punct.is, view-punct) (lemmas.wrote_and_none c.write_puncts.result c.and-in-Punct.result
    c.and-in-Punct.ensures
    (lemmas.wrote_puncts _ _ _ _ _ c.in-Punct.puncts c.as_slice.result.now c.args.builder.now c.write_puncts.new.builder
    c.as_slice.ensures.value)
    c.write_puncts.ensures.written)

pub expand_op-returns-in-Subtree-clause-wrote : goal.expand_op-returns-in-Subtree-clause-wrote
expand_op-returns-in-Subtree-clause-wrote g t c =
    rw (c.in-Subtree.is, view-subtree) (rw (← c.deref.ensures.value, ← c.get.ensures)
    c.expand_group.ensures.wrote)

pub expand_group-returns-clause-wrote : goal.expand_group-returns-clause-wrote
expand_group-returns-clause-wrote g t c =
    lemmas.wrote_group _ _ _ _ _ c.args.delimiter c.mark.result c.mark-2.result _ _ c.args.builder.now c.open.new.self
    c.expand_ops.new.builder c.close.new.self c.mark.ensures c.mark-2.ensures c.in_ok-open.ensures.ok
    c.in_ok-fault.ensures.wrote c.close.ensures

pub expand_op-returns-in-Var-clause-wrote : goal.expand_op-returns-in-Var-clause-wrote
expand_op-returns-in-Var-clause-wrote g t c =
    rw (c.in-Var.is, view-var) (lemmas.if_ok_with c.write_var.result
    (λ f w. lemmas.wrote_variable _ _ _ _ _ (is_some f) c.in-Var.name c.in-Var.kind c.in-Var.id c.args.builder.now
    c.write_var.new.builder w)
    c.write_var.ensures.wrote)

pub expand_op-returns-in-Expression-clause-wrote : goal.expand_op-returns-in-Expression-clause-wrote
expand_op-returns-in-Expression-clause-wrote g t c =
    rw (c.in-Expression.is, view-expression) c.write_expression.ensures.wrote

pub expand_op-returns-in-Expression-clause-left : goal.expand_op-returns-in-Expression-clause-left
expand_op-returns-in-Expression-clause-left g t c =
    rw (c.in-Expression.is, view-expression) c.write_expression.ensures.left

pub expand_ops-loop-op-preserved : goal.expand_ops-loop-op-preserved
expand_ops-loop-op-preserved g t c = record {
  wrote = lemmas.sofar_step _ _ _ _ _ (is_some c.loop-op.first) (is_some c.in_ok-fault.fault)
      (is_some c.or-first.result) (ops_of c.args.ops.now) (ops_of (drop c.loop-op.op-index c.args.ops.now))
      (op_of c.op-item.result) (ops_of (drop (c.loop-op.op-index + 1) c.args.ops.now)) _ _ _
      (ops_split c.args.ops.now c.loop-op.op-index c.op-item.result c.loop-op-test.true c.op-item.is)
      (ap is_some c.or-first.ensures ∙ or_either c.loop-op.first c.in_ok-fault.fault) c.loop-op.invariant.wrote
      c.in_ok-fault.ensures.wrote;
  first = firsts.ops_step error_of_fault c.args.ctx.now.call_site (env_of c.args.ctx.now.bindings.now) c.args.path.now
      (ops_of c.args.ops.now)
      (ops_of (drop c.loop-op.op-index c.args.ops.now)) (ops_of (drop (c.loop-op.op-index + 1) c.args.ops.now))
      (op_of c.op-item.result)
      c.loop-op.first c.in_ok-fault.fault c.or-first.result
      (ops_split c.args.ops.now c.loop-op.op-index c.op-item.result c.loop-op-test.true c.op-item.is) c.or-first.ensures
      c.in_ok-fault.ensures.first
      c.loop-op.invariant.first;
  left = lefts.goes_on _ _ _ _ _ (ops_of c.args.ops.now) (ops_of (drop c.loop-op.op-index c.args.ops.now))
      (op_of c.op-item.result)
      (ops_of (drop (c.loop-op.op-index + 1) c.args.ops.now)) _ _ _
      (ops_split c.args.ops.now c.loop-op.op-index c.op-item.result c.loop-op-test.true c.op-item.is)
      c.loop-op.invariant.left
      c.in_ok-fault.ensures.left;
}

pub expand_ops-returns-clause-wrote : goal.expand_ops-returns-clause-wrote
expand_ops-returns-clause-wrote g t c =
    lemmas.sofar_done _ _ _ _ _ (is_some c.loop-op.first) (ops_of c.args.ops.now)
    (ops_of (drop c.loop-op.op-index c.args.ops.now)) _ _
    (ops_over c.args.ops.now c.loop-op.op-index c.loop-op-test.false) c.loop-op.invariant.wrote

pub expand_repeat-loop-index-init : goal.expand_repeat-loop-index-init
expand_repeat-loop-index-init g t c = record {
  path = c.in_ok-inside.ensures.items_if_clones_equal (λ x y h. search rules);
  rounded = lemmas.rounded_start _ _ _ _ _ (option_map (λ s. separator_seen s.now) c.args.separator)
      (ops_of c.args.body.now) c.in-Ok.rounds c.args.builder.now;
  first = refl;
  left = lefts.begun_at_first _ _ _ _ _ (option_map (λ s. separator_seen s.now) c.args.separator)
      (ops_of c.args.body.now) c.in-Ok.rounds
      c.args.builder.now;
}

pub expand_repeat-expand_ops-requires : goal.expand_repeat-expand_ops-requires
expand_repeat-expand_ops-requires g t c κs within =
    let some : 0 < length c.write_separator_if.new.builder =
    omega (
      arith,
      c.requires.some_group,
      c.in_ok-write_separator_if.ensures.open_groups,
      c.loop-index.invariant.rounded.groups,
    ) in
    (omega (arith, c.decreases), (within.0, (within.1.0, (within.1.1, (c.requires.marks, some)))))

pub expand_op-returns-in-Repeat-clause-wrote : goal.expand_op-returns-in-Repeat-clause-wrote
expand_op-returns-in-Repeat-clause-wrote g t c =
    rw (c.in-Repeat.is, view-repeat, ← c.as_ref.ensures.value)
    (rw (← c.deref-in-Repeat.ensures.value, ← seen_copied separator_seen c.as_ref.result)
    c.expand_repeat.ensures.wrote)

pub expand_repeat-loop-index-preserved : goal.expand_repeat-loop-index-preserved
expand_repeat-loop-index-preserved g t c =
    let seps = option_map (λ s. separator_seen s.now) c.args.separator in
    let pushed : c.push.new.self.items ≡ c.loop-index.inside.items
    ++ (record { index = c.loop-index.index; rounds = c.in-Ok.rounds } ∷ []) = c.in_ok-push.ensures.items in
    let inner : c.deref.result.now ≡ level c.loop-index.index c.in-Ok.rounds c.args.path.now =
    c.deref.ensures.value ∙ (pushed ∙ ap (λ p. level c.loop-index.index c.in-Ok.rounds p)
    c.loop-index.invariant.path) in
    let counted : vec_len c.push.new.self ≡ length c.push.new.self.items = search rules in
    let longer = ap length pushed ∙ length-append c.loop-index.inside.items
    (record { index = c.loop-index.index; rounds = c.in-Ok.rounds } ∷ []) in
    let short : vec_len c.push.new.self - 1 ≡ length c.loop-index.inside.items = omega (arith, counted, longer) in
    record {
      path = popped c.loop-index.inside.items c.push.new.self.items c.pop-level.new.self.items _
          (vec_len c.push.new.self - 1) pushed c.pop-level.ensures.rest short ∙ c.loop-index.invariant.path;
      rounded = lemmas.rounded_step _ _ _ _ _ seps (ops_of c.args.body.now) c.in-Ok.rounds c.loop-index.index
          (is_some c.loop-index.first) c.loop-index.separated
          (is_some c.in_ok-fault.fault) (is_some c.or-first.result) c.is_none-separated.result c.args.builder.now
          c.loop-index.builder c.write_separator_if.new.builder c.expand_ops.new.builder
          c.deref.result.now (ops_of c.args.body.now) inner refl
          (ap is_some c.or-first.ensures ∙ or_either c.loop-index.first c.in_ok-fault.fault)
          (swapped (is_some c.in_ok-fault.fault) c.is_none-separated.result c.is_none-separated.ensures)
          c.loop-index.invariant.rounded c.in_ok-write_separator_if.ensures.parted c.in_ok-fault.ensures.wrote;
      first = firsts.rounds_step error_of_fault c.args.ctx.now.call_site (env_of c.args.ctx.now.bindings.now)
          c.args.path.now (ops_of c.args.body.now)
          c.in-Ok.rounds c.loop-index.index c.loop-index.first c.in_ok-fault.fault c.or-first.result c.deref.result.now
          inner c.or-first.ensures
          c.in_ok-fault.ensures.first c.loop-index.invariant.first;
      left = lefts.begun_more _ _ _ _ _ seps (ops_of c.args.body.now) c.in-Ok.rounds c.loop-index.index
          c.loop-index.separated
          (is_some c.in_ok-fault.fault) c.is_none-separated.result c.args.builder.now c.loop-index.builder
          c.write_separator_if.new.builder
          c.expand_ops.new.builder c.deref.result.now inner c.in_ok-fault.ensures.wrote.reported
          (swapped (is_some c.in_ok-fault.fault) c.is_none-separated.result c.is_none-separated.ensures)
          c.loop-index.invariant.left
          c.in_ok-write_separator_if.ensures.parted c.in_ok-fault.ensures.left;
    }

pub expand_repeat-returns-clause-wrote : goal.expand_repeat-returns-clause-wrote
expand_repeat-returns-clause-wrote g t c =
    let seps = option_map (λ s. separator_seen s.now) c.args.separator in
    let all : c.loop-index.index ≡ c.in-Ok.rounds = omega arith in
    lemmas.rounded_end _ _ _ _ _ seps (ops_of c.args.body.now) c.args.kind c.in-Ok.rounds (is_some c.loop-index.first)
    c.loop-index.separated c.args.builder.now c.loop-index.builder
    (ap (kept c.args.kind) (sym c.rounds_of.ensures) ∙ c.in-Ok.ensures.kept.0) c.in-Ok.ensures.kept.1
    (rw all at c.loop-index.invariant.rounded)

pub expand_op-returns-in-Subtree-clause-first : goal.expand_op-returns-in-Subtree-clause-first
expand_op-returns-in-Subtree-clause-first g t c =
    rw (c.in-Subtree.is, view-subtree) (rw (← c.deref.ensures.value) c.expand_group.ensures.first)

pub expand_op-returns-in-Repeat-clause-first : goal.expand_op-returns-in-Repeat-clause-first
expand_op-returns-in-Repeat-clause-first g t c =
    rw (c.in-Repeat.is, view-repeat) (rw (← c.deref-in-Repeat.ensures.value) c.expand_repeat.ensures.first)

pub expand_repeat-returns-clause-first : goal.expand_repeat-returns-clause-first
expand_repeat-returns-clause-first g t c =
    let seps = option_map (λ s. separator_seen s.now) c.args.separator in
    let all : c.loop-index.index ≡ c.in-Ok.rounds = omega arith in
    firsts.rounds_end error_of_fault c.args.ctx.now.call_site (env_of c.args.ctx.now.bindings.now) c.args.path.now
    (ops_of c.args.body.now) seps
    c.args.kind c.in-Ok.rounds c.loop-index.first
    (ap (kept c.args.kind) (sym c.rounds_of.ensures) ∙ c.in-Ok.ensures.kept.0)
    (c.in-Ok.ensures.fault ∙ ap (λ e. extent_fault c.args.kind (kept c.args.kind e)) c.rounds_of.ensures)
    (rw all at c.loop-index.invariant.first)

pub expand_ops-loop-op-init : goal.expand_ops-loop-op-init
expand_ops-loop-op-init g t c = record {
  wrote = lemmas.sofar_start _ _ _ _ _ (ops_of c.args.ops.now) c.args.builder.now;
  first = refl;
  left = lefts.goes_on_at_first _ _ _ _ _ (ops_of c.args.ops.now) c.args.builder.now;
}

pub expand_op-returns-in-Literal-clause-left : goal.expand_op-returns-in-Literal-clause-left
expand_op-returns-in-Literal-clause-left g t c =
    rw (c.in-Literal.is, view-literal) (lefts.and_none c.write_literal.result c.and.result c.and.ensures
    (λ w. lefts.left_token _ _ _ _ _ _ _ c.args.builder.now c.write_literal.new.builder
    (lemmas.wrote_literal _ _ _ _ _ (literal_of c.in-Literal.literal) c.args.builder.now c.write_literal.new.builder w))
    c.write_literal.ensures)

pub expand_op-returns-in-Ident-clause-left : goal.expand_op-returns-in-Ident-clause-left
expand_op-returns-in-Ident-clause-left g t c =
    rw (c.in-Ident.is, view-ident) (lefts.and_none c.write_ident.result c.and-in-Ident.result c.and-in-Ident.ensures
    (λ w. lefts.left_token _ _ _ _ _ _ _ c.args.builder.now c.write_ident.new.builder
    (lemmas.wrote_ident _ _ _ _ _ (ident_of c.in-Ident.ident) c.args.builder.now c.write_ident.new.builder w))
    c.write_ident.ensures)

pub expand_op-returns-in-Punct-clause-left : goal.expand_op-returns-in-Punct-clause-left
expand_op-returns-in-Punct-clause-left g t c =
    rw (c.in-Punct.is, view-punct) (lefts.and_none c.write_puncts.result c.and-in-Punct.result c.and-in-Punct.ensures
    (λ w. lefts.left_token _ _ _ _ _ _ _ c.args.builder.now c.write_puncts.new.builder
    (lemmas.wrote_puncts _ _ _ _ _ c.in-Punct.puncts c.as_slice.result.now c.args.builder.now c.write_puncts.new.builder
    c.as_slice.ensures.value w))
    c.write_puncts.ensures.written)

pub expand_op-returns-in-Subtree-clause-left : goal.expand_op-returns-in-Subtree-clause-left
expand_op-returns-in-Subtree-clause-left g t c =
    rw (c.in-Subtree.is, view-subtree) (rw (← c.deref.ensures.value, ← c.get.ensures)
    c.expand_group.ensures.left)

pub expand_group-returns-clause-left : goal.expand_group-returns-clause-left
expand_group-returns-clause-left g t c =
    lefts.left_group _ _ _ _ _ c.args.delimiter c.mark.result c.mark-2.result _ c.args.builder.now c.open.new.self
    c.expand_ops.new.builder c.close.new.self c.mark.ensures c.mark-2.ensures c.in_ok-open.ensures.ok
    c.in_ok-fault.ensures.left c.close.ensures

pub expand_op-returns-in-Var-clause-left : goal.expand_op-returns-in-Var-clause-left
expand_op-returns-in-Var-clause-left g t c =
    rw (c.in-Var.is, view-var) (lefts.if_ok_by c.write_var.result
    (λ f w e k. lefts.left_variable _ _ _ _ _ error_of_fault f c.in-Var.name c.in-Var.kind c.in-Var.id
    c.args.builder.now c.write_var.new.builder
    (lemmas.wrote_variable _ _ _ _ _ (is_some f) c.in-Var.name c.in-Var.kind c.in-Var.id c.args.builder.now
    c.write_var.new.builder w) e k)
    c.write_var.ensures.wrote c.write_var.ensures.first c.write_var.ensures.unchanged)

pub expand_op-returns-in-Repeat-clause-left : goal.expand_op-returns-in-Repeat-clause-left
expand_op-returns-in-Repeat-clause-left g t c =
    rw (c.in-Repeat.is, view-repeat, ← c.as_ref.ensures.value)
    (rw (← c.deref-in-Repeat.ensures.value, ← seen_copied separator_seen c.as_ref.result) c.expand_repeat.ensures.left)

pub expand_ops-returns-clause-first : goal.expand_ops-returns-clause-first
expand_ops-returns-clause-first g t c =
    firsts.ops_end error_of_fault c.args.ctx.now.call_site (env_of c.args.ctx.now.bindings.now) c.args.path.now
    (ops_of c.args.ops.now) _ c.loop-op.first (ops_over c.args.ops.now c.loop-op.op-index c.loop-op-test.false)
    c.loop-op.invariant.first

pub expand_ops-returns-clause-left : goal.expand_ops-returns-clause-left
expand_ops-returns-clause-left g t c =
    lefts.all_left _ _ _ _ _ (ops_of c.args.ops.now) (ops_of (drop c.loop-op.op-index c.args.ops.now)) _ _
    (ops_over c.args.ops.now c.loop-op.op-index c.loop-op-test.false) c.loop-op.invariant.left

pub expand_repeat-returns-clause-left : goal.expand_repeat-returns-clause-left
expand_repeat-returns-clause-left g t c =
    let seps = option_map (λ s. separator_seen s.now) c.args.separator in
    let all : c.loop-index.index ≡ c.in-Ok.rounds = omega arith in
    lefts.left_rounds _ _ _ _ _ seps (ops_of c.args.body.now) c.args.kind c.in-Ok.rounds c.loop-index.separated
    c.args.builder.now
    c.loop-index.builder
    (ap (kept c.args.kind) (sym c.rounds_of.ensures) ∙ c.in-Ok.ensures.kept.0)
    (c.in-Ok.ensures.fault ∙ ap (λ e. extent_fault c.args.kind (kept c.args.kind e)) c.rounds_of.ensures)
    (rw all at c.loop-index.invariant.left)

pub expand_repeat-returns-in-Err-clause-wrote : goal.expand_repeat-returns-in-Err-clause-wrote
expand_repeat-returns-in-Err-clause-wrote g t c =
    let seps = option_map (λ s. separator_seen s.now) c.args.separator in
    lemmas.rounds_refused _ _ _ _ _ seps (ops_of c.args.body.now) c.args.kind c.args.builder.now
    (sym (ap (λ e. extent_faults c.args.kind (kept c.args.kind e)) c.rounds_of.ensures) ∙ c.in-Err.ensures.refused)

pub expand_repeat-returns-in-Err-clause-left : goal.expand_repeat-returns-in-Err-clause-left
expand_repeat-returns-in-Err-clause-left g t c =
    let seps = option_map (λ s. separator_seen s.now) c.args.separator in
    lefts.left_no_rounds _ _ _ _ _ seps (ops_of c.args.body.now) c.args.kind _ c.args.builder.now
    (c.in-Err.ensures.fault ∙ ap (λ e. extent_fault c.args.kind (kept c.args.kind e)) c.rounds_of.ensures)
