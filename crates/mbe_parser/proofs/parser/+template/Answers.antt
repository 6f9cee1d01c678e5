use Rattle.std.proofs.Common.{◌≡◌, ◌-◌, ◌+◌, ◌<◌, ◌≤◌, sym, ap, arith, refl, Some, option_map, rules}
use Rattle.std.proofs.lemmas.Result.{err_from_is_err_and}
use Rattle.mbe_tt.specs.Trees.Leaf as leaves
use Rattle.mbe_tt.specs.Trees.Tree.{none, Leaf_tree, Group_tree, first, flat_len, passed}
use Rattle.mbe_tt.specs.declared.tt.DelimiterKind.TheVariants as delimiters
use Rattle.mbe_tt.specs.Views.LeafViews.{literal_of, ident_of, leaf_of}
use Rattle.mbe_semantics.specs.Syntax.Template as grammar
use Rattle.mbe_semantics.specs.Syntax.Template.{suffix_of}
use Rattle.mbe_parser.specs.ParserResults.{mode_of, FaultAtHead}
use Rattle.mbe_parser.specs.FaultOffsets.{TemplateFaultAt}
use Rattle.mbe_ops.specs.declared.ops.Op.TheVariants as ops
use Rattle.mbe_ops.specs.Views.{template_of, ops_of, separator_seen}
use Rattle.mbe_ops.proofs.Fragments.{first_tree}
use Rattle.mbe_ops.proofs.OpViews.{view-template, view-subtree, view-repeat}
use Rattle.mbe_ops.proofs.Fragments.{puncts_longer}
use Rattle.mbe_parser.proofs.ReaderLemmas as lemmas
use Rattle.mbe_parser.proofs.parser.+template.Goals as goal

-- ---- all trees

pub parse_template_within-trees-init : goal.parse_template_within-trees-init
parse_template_within-trees-init g t c = record {
  so_far = lemmas.so_far-start _ (mode_of c.args.mode) c.args.src _ (search rules);
  whole = search rules;
}

pub parse_template_within-trees-preserved-in_ok-push_ident-in-Leaf-Ident :
    goal.parse_template_within-trees-preserved-in_ok-push_ident-in-Leaf-Ident
parse_template_within-trees-preserved-in_ok-push_ident-in-Leaf-Ident g t c =
    let l = c.trees in
    let left = c.push_ident.new.src in
    let front : Some (Leaf_tree (leaves.ident (ident_of c.in-Leaf-Ident.ident))) ≡ first l.src = search rules in
    let at = first_tree l.src left _ front c.push_ident.ensures.rest in
    record {
      so_far = lemmas.so_far-token _ (mode_of c.args.mode) c.args.src l.src left l.ops.items _ _ l.empty
          l.invariant.so_far c.in_ok-reserve.ensures.items (lemmas.token_reads _ (mode_of c.args.mode) l.src left _ _
          _ _
          c.in_ok-push_ident-in-Leaf-Ident.ensures.op at refl refl) (omega (arith, ap flat_len at));
      whole = l.invariant.whole;
    }

pub parse_template_within-trees-smaller-in_ok-push_ident-in-Leaf-Ident :
    goal.parse_template_within-trees-smaller-in_ok-push_ident-in-Leaf-Ident
parse_template_within-trees-smaller-in_ok-push_ident-in-Leaf-Ident g t c =
    let front : Some (Leaf_tree (leaves.ident (ident_of c.in-Leaf-Ident.ident))) ≡ first c.trees.src =
    search rules in
    let at = first_tree c.trees.src c.push_ident.new.src _ front c.push_ident.ensures.rest in
    omega (arith, ap flat_len at)

pub parse_template_within-trees-preserved-in_ok-push_literal-in-Leaf-Literal :
    goal.parse_template_within-trees-preserved-in_ok-push_literal-in-Leaf-Literal
parse_template_within-trees-preserved-in_ok-push_literal-in-Leaf-Literal g t c =
    let l = c.trees in
    let left = c.push_literal.new.src in
    let front : Some (Leaf_tree (leaves.literal (literal_of c.in-Leaf-Literal.literal))) ≡ first l.src = search rules in
    let at = first_tree l.src left _ front c.push_literal.ensures.rest in
    record {
      so_far = lemmas.so_far-token _ (mode_of c.args.mode) c.args.src l.src left l.ops.items _ _ l.empty
          l.invariant.so_far c.in_ok-reserve.ensures.items (lemmas.token_reads _ (mode_of c.args.mode) l.src left _ _
          _ _
          c.in_ok-push_literal-in-Leaf-Literal.ensures.op at refl refl) (omega (arith, ap flat_len at));
      whole = l.invariant.whole;
    }

pub parse_template_within-trees-smaller-in_ok-push_literal-in-Leaf-Literal :
    goal.parse_template_within-trees-smaller-in_ok-push_literal-in-Leaf-Literal
parse_template_within-trees-smaller-in_ok-push_literal-in-Leaf-Literal g t c =
    let front : Some (Leaf_tree (leaves.literal (literal_of c.in-Leaf-Literal.literal))) ≡ first c.trees.src =
    search rules in
    let at = first_tree c.trees.src c.push_literal.new.src _ front c.push_literal.ensures.rest in
    omega (arith, ap flat_len at)

pub parse_template_within-first_offset-empty-requires : goal.parse_template_within-first_offset-empty-requires
parse_template_within-first_offset-empty-requires g t c =
    let far = c.trees.invariant.so_far.shorter in
    lemmas.each_offset (λ n. n ≤ flat_len c.trees.src)
    (λ n. c.flat_len-whole.result - c.flat_len.result + n < 18446744073709551616) c.in-Ok.found
    (λ n h. omega (
      arith,
      h,
      far,
      c.trees.invariant.whole,
      c.flat_len.ensures,
      ap flat_len
          c.remaining-in-trees.ensures,
    ))
    c.in-Ok.ensures.within_empty

pub parse_template_within-trees-preserved-in-Ok : goal.parse_template_within-trees-preserved-in-Ok
parse_template_within-trees-preserved-in-Ok g t c =
    let l = c.trees in
    let far : c.flat_len-whole.result - c.flat_len.result ≡ passed c.args.src l.src =
    omega (arith, l.invariant.whole, c.flat_len.ensures, ap flat_len c.remaining-in-trees.ensures) in
    record {
      so_far = rw c.first_offset-empty.ensures (lemmas.so_far-step _ (mode_of c.args.mode) c.args.src l.src
          c.push_at_punct.new.src l.ops.items _ _ (c.flat_len-whole.result - c.flat_len.result) l.empty c.in-Ok.found
          l.invariant.so_far c.in_ok-reserve.ensures.items c.in-Ok.ensures.op far
          (omega (arith, c.in-Ok.ensures.shorter)) c.in-Ok.ensures.within_empty);
      whole = l.invariant.whole;
    }

pub parse_template_within-shifted-requires : goal.parse_template_within-shifted-requires
parse_template_within-shifted-requires g t c =
    let far = c.trees.invariant.so_far.shorter in
    lemmas.fails-weaker c.in-Err.error (λ x n. n ≤ flat_len c.trees.src)
    (λ x n. c.flat_len-whole.result - c.flat_len.result + n < 18446744073709551616)
    (λ x n h. omega (
      arith,
      h,
      far,
      c.trees.invariant.whole,
      c.flat_len.ensures,
      ap flat_len
          c.remaining-in-trees.ensures,
    ))
    c.in-Err.ensures.within

pub parse_template_within-returns-in-Err-clause-fault : goal.parse_template_within-returns-in-Err-clause-fault
parse_template_within-returns-in-Err-clause-fault g t c =
    let l = c.trees in
    let far : c.flat_len-whole.result - c.flat_len.result ≡ passed c.args.src l.src =
    omega (arith, l.invariant.whole, c.flat_len.ensures, ap flat_len c.remaining-in-trees.ensures) in
    rw c.shifted.ensures (lemmas.later_fault _ (mode_of c.args.mode) c.args.src l.src l.ops.items l.empty
    (c.flat_len-whole.result - c.flat_len.result) c.in-Err.error l.invariant.so_far far c.in-Err.ensures.fault)

pub parse_template_within-returns-in-Err-clause-within : goal.parse_template_within-returns-in-Err-clause-within
parse_template_within-returns-in-Err-clause-within g t c =
    let l = c.trees in
    let far : c.flat_len-whole.result - c.flat_len.result ≡ passed c.args.src l.src =
    omega (arith, l.invariant.whole, c.flat_len.ensures, ap flat_len c.remaining-in-trees.ensures) in
    rw c.shifted.ensures (lemmas.later_within c.args.src l.src (c.flat_len-whole.result - c.flat_len.result)
    c.in-Err.error far l.invariant.so_far.shorter c.in-Err.ensures.within)

pub parse_template_within-first_offset-empty-requires-in-Ok-push_group :
    goal.parse_template_within-first_offset-empty-requires-in-Ok-push_group
parse_template_within-first_offset-empty-requires-in-Ok-push_group g t c =
    let far = c.trees.invariant.so_far.shorter in
    lemmas.each_offset (λ n. n ≤ flat_len c.trees.src)
    (λ n. c.flat_len-whole.result - c.flat_len.result + n < 18446744073709551616) c.in-Ok-push_group.found
    (λ n h. omega (
      arith,
      h,
      far,
      c.trees.invariant.whole,
      c.flat_len.ensures,
      ap flat_len
          c.remaining-in-trees.ensures,
    ))
    c.in-Ok-push_group.ensures.within_empty

pub parse_template_within-trees-preserved : goal.parse_template_within-trees-preserved
parse_template_within-trees-preserved g t c =
    let l = c.trees in
    let far : c.flat_len-whole.result - c.flat_len.result ≡ passed c.args.src l.src =
    omega (arith, l.invariant.whole, c.flat_len.ensures, ap flat_len c.remaining-in-trees.ensures) in
    record {
      so_far = rw c.first_offset-empty-in-Ok-push_group.ensures (lemmas.so_far-step _ (mode_of c.args.mode)
          c.args.src l.src
          c.push_group.new.src l.ops.items _ _ (c.flat_len-whole.result - c.flat_len.result) l.empty
          c.in-Ok-push_group.found
          l.invariant.so_far c.in_ok-reserve.ensures.items c.in-Ok-push_group.ensures.op far
          (omega (arith, c.in-Ok-push_group.ensures.shorter)) c.in-Ok-push_group.ensures.within_empty);
      whole = l.invariant.whole;
    }

pub parse_template_within-shifted-requires-in-Err-push_group : goal.parse_template_within-shifted-requires-in-Err-push_group
parse_template_within-shifted-requires-in-Err-push_group g t c =
    let far = c.trees.invariant.so_far.shorter in
    lemmas.fails-weaker c.in-Err-push_group.error (λ x n. n ≤ flat_len c.trees.src)
    (λ x n. c.flat_len-whole.result - c.flat_len.result + n < 18446744073709551616)
    (λ x n h. omega (
      arith,
      h,
      far,
      c.trees.invariant.whole,
      c.flat_len.ensures,
      ap flat_len
          c.remaining-in-trees.ensures,
    ))
    c.in-Err-push_group.ensures.within

pub parse_template_within-returns-in-Err-push_group-clause-fault : goal.parse_template_within-returns-in-Err-push_group-clause-fault
parse_template_within-returns-in-Err-push_group-clause-fault g t c =
    let l = c.trees in
    let far : c.flat_len-whole.result - c.flat_len.result ≡ passed c.args.src l.src =
    omega (arith, l.invariant.whole, c.flat_len.ensures, ap flat_len c.remaining-in-trees.ensures) in
    rw c.shifted-in-Err-push_group.ensures (lemmas.later_fault _ (mode_of c.args.mode) c.args.src l.src l.ops.items
    l.empty
    (c.flat_len-whole.result - c.flat_len.result) c.in-Err-push_group.error l.invariant.so_far far
    c.in-Err-push_group.ensures.fault)

pub parse_template_within-returns-in-Err-push_group-clause-within : goal.parse_template_within-returns-in-Err-push_group-clause-within
parse_template_within-returns-in-Err-push_group-clause-within g t c =
    let l = c.trees in
    let far : c.flat_len-whole.result - c.flat_len.result ≡ passed c.args.src l.src =
    omega (arith, l.invariant.whole, c.flat_len.ensures, ap flat_len c.remaining-in-trees.ensures) in
    rw c.shifted-in-Err-push_group.ensures (lemmas.later_within c.args.src l.src (c.flat_len-whole.result -
    c.flat_len.result)
    c.in-Err-push_group.error far l.invariant.so_far.shorter c.in-Err-push_group.ensures.within)

pub parse_template_within-returns-clause-ops : goal.parse_template_within-returns-clause-ops
parse_template_within-returns-clause-ops g t c =
    let empty : c.trees.src ≡ none = c.is_empty.ensures.0 (c.trees-test.false) in
    rw (view-template, c.in_ok-shrink_ops.ensures) (lemmas.all_read _ (mode_of c.args.mode) c.args.src c.trees.src
    c.trees.ops.items c.trees.empty c.trees.invariant.so_far empty)

pub parse_template_within-returns-clause-empty : goal.parse_template_within-returns-clause-empty
parse_template_within-returns-clause-empty g t c =
    rw (view-template, c.in_ok-shrink_ops.ensures) (lemmas.all_empty _ (mode_of c.args.mode) c.args.src c.trees.src
    c.trees.ops.items c.trees.empty c.trees.invariant.so_far)

-- ---- a group

pub push_group-parse_template_within-requires : goal.push_group-parse_template_within-requires
push_group-parse_template_within-requires g t c κs within =
    let at = first_tree c.args.src.now c.next-group.new.self _ (sym c.requires.peeked) c.next-group.ensures.rest in
    (omega (arith, ap flat_len at, c.decreases), (within.0, (within.1, c.requires.answers)))

pub push_group-shift_offset-requires : goal.push_group-shift_offset-requires
push_group-shift_offset-requires g t c =
    let at = first_tree c.args.src.now c.next-group.new.self _ (sym c.requires.peeked) c.next-group.ensures.rest in
    lemmas.each_offset (λ n. n ≤ flat_len c.args.inside) (λ n. 1 + n < 18446744073709551616) c.in-Ok.body.empty
    (λ n h. omega (arith, h, ap flat_len at, c.requires.small)) c.in-Ok.ensures.within_empty

pub push_group-returns-in_ok-delimiter-in-Ok-clause-op : goal.push_group-returns-in_ok-delimiter-in-Ok-clause-op
push_group-returns-in_ok-delimiter-in-Ok-clause-op g t c =
    let at = first_tree c.args.src.now c.next-group.new.self _ (sym c.requires.peeked) c.next-group.ensures.rest in (
      ops.Subtree c.in-Ok.body.ops c.in_ok-delimiter-in-Ok.delimiter,
      c.push_reserved.ensures.items,
      rw (view-subtree, c.in_ok-delimiter-in-Ok.ensures, c.shift_offset.ensures)
          (lemmas.group_reads _ (mode_of c.args.mode) c.args.src.now c.args.inside c.next-group.new.self
          c.args.delimiter
          (template_of c.in-Ok.body.ops) c.in-Ok.body.empty at c.in-Ok.ensures.ops c.in-Ok.ensures.empty),
    )

pub push_group-returns-in_ok-delimiter-in-Ok-clause-within_empty : goal.push_group-returns-in_ok-delimiter-in-Ok-clause-within_empty
push_group-returns-in_ok-delimiter-in-Ok-clause-within_empty g t c =
    let at = first_tree c.args.src.now c.next-group.new.self _ (sym c.requires.peeked) c.next-group.ensures.rest in
    rw c.shift_offset.ensures (lemmas.further_offset (λ n. n ≤ flat_len c.args.inside)
    (λ n. n ≤ flat_len c.args.src.now) 1 c.in-Ok.body.empty (λ n h. omega (arith, h, ap flat_len at))
    c.in-Ok.ensures.within_empty)

pub push_group-returns-in_ok-delimiter-in-Ok-clause-shorter : goal.push_group-returns-in_ok-delimiter-in-Ok-clause-shorter
push_group-returns-in_ok-delimiter-in-Ok-clause-shorter g t c =
    let at = first_tree c.args.src.now c.next-group.new.self _ (sym c.requires.peeked) c.next-group.ensures.rest in
    omega (arith, ap flat_len at)

pub push_group-shifted-requires : goal.push_group-shifted-requires
push_group-shifted-requires g t c =
    let at = first_tree c.args.src.now c.next-group.new.self _ (sym c.requires.peeked) c.next-group.ensures.rest in
    lemmas.fails-weaker c.in-Err.error (λ x n. n ≤ flat_len c.args.inside) (λ x n. 1 + n < 18446744073709551616)
    (λ x n h. omega (arith, h, ap flat_len at, c.requires.small)) c.in-Err.ensures.within

pub push_group-returns-in-Err-clause-fault : goal.push_group-returns-in-Err-clause-fault
push_group-returns-in-Err-clause-fault g t c =
    let at = first_tree c.args.src.now c.next-group.new.self _ (sym c.requires.peeked) c.next-group.ensures.rest in
    rw c.shifted.ensures (lemmas.fails-shifted 1 c.in-Err.error
    (λ x n. TemplateFaultAt _ (mode_of c.args.mode) x c.args.inside n)
    (λ x n. TemplateFaultAt _ (mode_of c.args.mode) x c.args.src.now n)
    (λ x n w. lemmas.group_fault _ (mode_of c.args.mode) x c.args.delimiter c.args.src.now c.args.inside
    c.next-group.new.self n at w) c.in-Err.ensures.fault)

pub push_group-returns-in-Err-clause-within : goal.push_group-returns-in-Err-clause-within
push_group-returns-in-Err-clause-within g t c =
    let at = first_tree c.args.src.now c.next-group.new.self _ (sym c.requires.peeked) c.next-group.ensures.rest in
    rw c.shifted.ensures (lemmas.fails-shifted 1 c.in-Err.error (λ x n. n ≤ flat_len c.args.inside)
    (λ x n. n ≤ flat_len c.args.src.now) (λ x n h. omega (arith, h, ap flat_len at)) c.in-Err.ensures.within)

-- ---- puncts

pub push_at_punct-returns-then-punct-eq36-clause-op : goal.push_at_punct-returns-then-punct-eq36-clause-op
push_at_punct-returns-then-punct-eq36-clause-op g t c =
    let at = first_tree c.args.src.now c.next-dollar.new.self _ (sym c.requires.peeked) c.next-dollar.ensures.rest in
    lemmas.head_pushed _ c.push_after_dollar.result _ _ (mode_of c.args.mode) c.args.src.now
    c.push_after_dollar.new.src _
    (lemmas.dollar_head (mode_of c.args.mode) c.args.src.now c.next-dollar.new.self c.args.punct at
    c.if-punct-eq36.true) c.push_after_dollar.ensures.op

pub push_at_punct-returns-then-punct-eq36-clause-within_empty :
    goal.push_at_punct-returns-then-punct-eq36-clause-within_empty
push_at_punct-returns-then-punct-eq36-clause-within_empty g t c =
    let at = first_tree c.args.src.now c.next-dollar.new.self _ (sym c.requires.peeked) c.next-dollar.ensures.rest in
    lemmas.found_within c.push_after_dollar.result (flat_len c.next-dollar.new.self) (flat_len c.args.src.now)
    (omega (arith, ap flat_len at)) c.push_after_dollar.ensures.within_empty

pub push_at_punct-returns-then-punct-eq36-clause-fault : goal.push_at_punct-returns-then-punct-eq36-clause-fault
push_at_punct-returns-then-punct-eq36-clause-fault g t c =
    let at = first_tree c.args.src.now c.next-dollar.new.self _ (sym c.requires.peeked) c.next-dollar.ensures.rest in
    lemmas.head_fault _ c.push_after_dollar.result (mode_of c.args.mode) c.args.src.now _
    (lemmas.dollar_head (mode_of c.args.mode) c.args.src.now c.next-dollar.new.self c.args.punct at
    c.if-punct-eq36.true) c.push_after_dollar.ensures.fault

pub push_at_punct-returns-then-punct-eq36-clause-within : goal.push_at_punct-returns-then-punct-eq36-clause-within
push_at_punct-returns-then-punct-eq36-clause-within g t c =
    let at = first_tree c.args.src.now c.next-dollar.new.self _ (sym c.requires.peeked) c.next-dollar.ensures.rest in
    lemmas.fails_within c.push_after_dollar.result (flat_len c.next-dollar.new.self) (flat_len c.args.src.now)
    (omega (arith, ap flat_len at)) c.push_after_dollar.ensures.within

pub push_at_punct-returns-clause-op : goal.push_at_punct-returns-clause-op
push_at_punct-returns-clause-op g t c =
    let f = c.args.src.now in
    let at = first_tree f _ _ (sym c.requires.peeked) (sym (lemmas.following f)) in
    let no_dollar : c.args.punct.char ≡ 36 → ⊥ = search rules in
    lemmas.puncts_pushed _ (mode_of c.args.mode) f c.push_puncts.new.src _ _
    (lemmas.puncts_head (mode_of c.args.mode) f _ c.args.punct at no_dollar) c.in_ok-push_puncts.ensures.rest
    c.in_ok-push_puncts.ensures.op

pub push_at_punct-returns-clause-shorter : goal.push_at_punct-returns-clause-shorter
push_at_punct-returns-clause-shorter g t c =
    let f = c.args.src.now in
    let at = first_tree f _ _ (sym c.requires.peeked) (sym (lemmas.following f)) in
    puncts_longer f _ c.push_puncts.new.src c.args.punct at c.in_ok-push_puncts.ensures.rest

-- ---- after a `$`

pub push_after_dollar-returns-in-Subtree-clause-op : goal.push_after_dollar-returns-in-Subtree-clause-op
push_after_dollar-returns-in-Subtree-clause-op g t c =
    let front : Some (Group_tree c.in-Subtree.subtree.now.delimiter c.in-Subtree.inside) ≡ first c.args.src.now =
    search rules in
    let at = first_tree c.args.src.now c.next.new.self _ front c.next.ensures.rest in
    lemmas.group_pushed _ (mode_of c.args.mode) c.push_group_after_dollar.result _ _ c.args.dollar
    c.in-Subtree.subtree.now.delimiter c.args.src.now c.in-Subtree.inside c.next.new.self _ at
    c.push_group_after_dollar.ensures.op

pub push_after_dollar-returns-in-Subtree-clause-no_longer : goal.push_after_dollar-returns-in-Subtree-clause-no_longer
push_after_dollar-returns-in-Subtree-clause-no_longer g t c =
    let front : Some (Group_tree c.in-Subtree.subtree.now.delimiter c.in-Subtree.inside) ≡ first c.args.src.now =
    search rules in
    let at = first_tree c.args.src.now c.next.new.self _ front c.next.ensures.rest in
    lemmas.no_longer c.push_group_after_dollar.result (flat_len c.push_group_after_dollar.new.src)
    (flat_len c.next.new.self) (flat_len c.args.src.now) (omega (arith, ap flat_len at))
    c.push_group_after_dollar.ensures.no_longer

pub push_after_dollar-returns-in-Subtree-clause-within_empty :
    goal.push_after_dollar-returns-in-Subtree-clause-within_empty
push_after_dollar-returns-in-Subtree-clause-within_empty g t c =
    let front : Some (Group_tree c.in-Subtree.subtree.now.delimiter c.in-Subtree.inside) ≡ first c.args.src.now =
    search rules in
    let at = first_tree c.args.src.now c.next.new.self _ front c.next.ensures.rest in
    lemmas.found_within c.push_group_after_dollar.result (2 + flat_len c.in-Subtree.inside) (flat_len c.args.src.now)
    (omega (arith, ap flat_len at)) c.push_group_after_dollar.ensures.within_empty

pub push_after_dollar-returns-in-Subtree-clause-within : goal.push_after_dollar-returns-in-Subtree-clause-within
push_after_dollar-returns-in-Subtree-clause-within g t c =
    let front : Some (Group_tree c.in-Subtree.subtree.now.delimiter c.in-Subtree.inside) ≡ first c.args.src.now =
    search rules in
    let at = first_tree c.args.src.now c.next.new.self _ front c.next.ensures.rest in
    lemmas.fails_within c.push_group_after_dollar.result (2 + flat_len c.in-Subtree.inside) (flat_len c.args.src.now)
    (omega (arith, ap flat_len at)) c.push_group_after_dollar.ensures.within

pub push_after_dollar-returns-in_err-push_leaf_after_dollar-in-Leaf-clause-fault :
    goal.push_after_dollar-returns-in_err-push_leaf_after_dollar-in-Leaf-clause-fault
push_after_dollar-returns-in_err-push_leaf_after_dollar-in-Leaf-clause-fault g t c =
    let e = c.in_err-push_leaf_after_dollar-in-Leaf in
    let p = err_from_is_err_and c.from_residual.result c.from_residual.ensures.1 in
    let front : Some (Leaf_tree (leaf_of c.in-Leaf.leaf.now)) ≡ first c.args.src.now = search rules in
    let at = first_tree c.args.src.now c.next.new.self _ front c.next.ensures.rest in
    rw (p.1, p.2) (lemmas.leaf_fault _ (mode_of c.args.mode) e.field-0.0 c.args.dollar c.args.src.now c.next.new.self
    (leaf_of c.in-Leaf.leaf.now) at e.ensures.fault)

pub push_after_dollar-returns-in_err-push_leaf_after_dollar-in-Leaf-clause-within :
    goal.push_after_dollar-returns-in_err-push_leaf_after_dollar-in-Leaf-clause-within
push_after_dollar-returns-in_err-push_leaf_after_dollar-in-Leaf-clause-within g t c =
    let p = err_from_is_err_and c.from_residual.result c.from_residual.ensures.1 in
    rw (p.1, p.2) (lemmas.start_within _ (flat_len c.args.src.now))

pub push_after_dollar-returns-in_ok-push_leaf_after_dollar-in-Leaf-clause-op : goal.push_after_dollar-returns-in_ok-push_leaf_after_dollar-in-Leaf-clause-op
push_after_dollar-returns-in_ok-push_leaf_after_dollar-in-Leaf-clause-op g t c =
    let front : Some (Leaf_tree (leaf_of c.in-Leaf.leaf.now)) ≡ first c.args.src.now = search rules in
    let at = first_tree c.args.src.now c.next.new.self _ front c.next.ensures.rest in
    lemmas.leaf_pushed _ (mode_of c.args.mode) _ _ c.args.dollar c.args.src.now c.next.new.self _
    (leaf_of c.in-Leaf.leaf.now) at c.in_ok-push_leaf_after_dollar-in-Leaf.ensures.op

pub push_group_after_dollar-returns-in_err-op-in-Brace-clause-fault :
    goal.push_group_after_dollar-returns-in_err-op-in-Brace-clause-fault
push_group_after_dollar-returns-in_err-op-in-Brace-clause-fault g t c =
    let e = c.in_err-op-in-Brace in
    let p = err_from_is_err_and c.from_residual-in_err-op-in-Brace.result
    c.from_residual-in_err-op-in-Brace.ensures.1 in
    rw (p.1, p.2, c.in-Brace.is) (lemmas.fails-start e.field-0.0 _
    (FaultAtHead (λ ctx ed. g.E.Fn.post c.args.edition (ctx, tt) ed) (mode_of c.args.mode)
    (grammar.expression_at (mode_of c.args.mode) c.args.src.now (grammar.expression_of c.args.inside)))
    (λ x k. lemmas.err_head _ (mode_of c.args.mode) x _ (k c.args.src.now)) e.ensures.fault)

pub push_group_after_dollar-returns-in_err-op-in-Brace-clause-within :
    goal.push_group_after_dollar-returns-in_err-op-in-Brace-clause-within
push_group_after_dollar-returns-in_err-op-in-Brace-clause-within g t c =
    let p = err_from_is_err_and c.from_residual-in_err-op-in-Brace.result
    c.from_residual-in_err-op-in-Brace.ensures.1 in
    rw (p.1, p.2) (lemmas.start_within _ (2 + flat_len c.args.inside))

pub push_group_after_dollar-returns-in_ok-op-in-Brace-clause-op : goal.push_group_after_dollar-returns-in_ok-op-in-Brace-clause-op
push_group_after_dollar-returns-in_ok-op-in-Brace-clause-op g t c =
    rw c.in-Brace.is (lemmas.expression_pushed _ (mode_of c.args.mode) _ _ c.in_ok-op-in-Brace.op c.args.inside
    c.args.src.now c.push_reserved-in-Brace.ensures.items c.in_ok-op-in-Brace.ensures.op)

pub push_group_after_dollar-returns-in-Bracket-clause-fault : goal.push_group_after_dollar-returns-in-Bracket-clause-fault
push_group_after_dollar-returns-in-Bracket-clause-fault g t c =
    rw (c.at_start.ensures, c.in-Bracket.is)
    (lemmas.err_head (λ ctx ed. g.E.Fn.post c.args.edition (ctx, tt) ed) (mode_of c.args.mode) _
    (grammar.group_after_dollar (mode_of c.args.mode) delimiters.Bracket c.args.inside c.args.src.now) refl)

pub push_group_after_dollar-returns-in-Invisible-clause-fault :
    goal.push_group_after_dollar-returns-in-Invisible-clause-fault
push_group_after_dollar-returns-in-Invisible-clause-fault g t c =
    rw (c.at_start-in-Invisible.ensures, c.in-Invisible.is)
    (lemmas.err_head (λ ctx ed. g.E.Fn.post c.args.edition (ctx, tt) ed) (mode_of c.args.mode) _
    (grammar.group_after_dollar (mode_of c.args.mode) delimiters.Invisible c.args.inside c.args.src.now) refl)

-- ---- a repetition

pub repetition-returns-in_err-separator-clause-fault : goal.repetition-returns-in_err-separator-clause-fault
repetition-returns-in_err-separator-clause-fault g t c =
    let e = c.in_err-separator in
    let p = err_from_is_err_and c.from_residual.result c.from_residual.ensures.1 in
    rw (p.1, p.2) (lemmas.fails-start e.field-0.0 _
    (FaultAtHead _ (mode_of c.args.mode) (grammar.repetition_at c.args.body (suffix_of c.args.src.now)))
    (λ x k. lemmas.err_head _ (mode_of c.args.mode) x _ (k c.args.body)) e.ensures.fault)

pub repetition-returns-in_err-separator-clause-within : goal.repetition-returns-in_err-separator-clause-within
repetition-returns-in_err-separator-clause-within g t c =
    let p = err_from_is_err_and c.from_residual.result c.from_residual.ensures.1 in
    rw (p.1, p.2) (lemmas.start_within _ (2 + flat_len c.args.body))

pub repetition-first_in_repetition-found-requires : goal.repetition-first_in_repetition-found-requires
repetition-first_in_repetition-found-requires g t c =
    lemmas.each_offset (λ n. n ≤ flat_len c.args.body) (λ n. 2 + n < 18446744073709551616) c.in-Ok.parsed.empty
    (λ n h. omega (arith, h, c.requires.small)) c.in-Ok.ensures.within_empty

pub repetition-returns-in_ok-separator-in-Ok-clause-op : goal.repetition-returns-in_ok-separator-in-Ok-clause-op
repetition-returns-in_ok-separator-in-Ok-clause-op g t c =
    let body = template_of c.in-Ok.parsed.ops in
    let found = rw c.deref.ensures.value at c.first_in_repetition-found.ensures in
    rw (c.in_ok-separator.ensures.suffix c.args.body, c.in_ok-separator-in-Ok.ensures, view-repeat, found) (
      (body, c.in-Ok.ensures.ops, refl, refl),
      lemmas.repetition_empty _ (mode_of c.args.mode) _ _ c.args.body c.parse_repeat.new.src body c.in-Ok.parsed.empty
          c.in-Ok.ensures.ops c.in-Ok.ensures.empty,
    )

pub repetition-returns-in_ok-separator-in-Ok-clause-within_empty : goal.repetition-returns-in_ok-separator-in-Ok-clause-within_empty
repetition-returns-in_ok-separator-in-Ok-clause-within_empty g t c =
    rw c.first_in_repetition-found.ensures
    (lemmas.further_first (option_map separator_seen c.in_ok-separator.separator) (ops_of c.deref.result.now)
    c.in-Ok.parsed.empty (flat_len c.args.body) c.in-Ok.ensures.within_empty)

pub repetition-shifted-requires : goal.repetition-shifted-requires
repetition-shifted-requires g t c =
    lemmas.fails-weaker c.in-Err.error (λ x n. n ≤ flat_len c.args.body) (λ x n. 2 + n < 18446744073709551616)
    (λ x n h. omega (arith, h, c.requires.small)) c.in-Err.ensures.within

pub repetition-returns-in-Err-clause-fault : goal.repetition-returns-in-Err-clause-fault
repetition-returns-in-Err-clause-fault g t c =
    rw c.shifted.ensures (lemmas.fails-shifted 2 c.in-Err.error
    (λ x n. TemplateFaultAt _ (mode_of c.args.mode) x c.args.body n)
    (FaultAtHead _ (mode_of c.args.mode) (grammar.repetition_at c.args.body (suffix_of c.args.src.now)))
    (λ x n w. lemmas.repetition_fault _ (mode_of c.args.mode) x _ _ c.args.body c.parse_repeat.new.src n _
    (c.in_ok-separator.ensures.suffix c.args.body) w) c.in-Err.ensures.fault)

pub repetition-returns-in-Err-clause-within : goal.repetition-returns-in-Err-clause-within
repetition-returns-in-Err-clause-within g t c =
    rw c.shifted.ensures (lemmas.fails-shifted 2 c.in-Err.error (λ x n. n ≤ flat_len c.args.body)
    (λ x n. n ≤ 2 + flat_len c.args.body) (λ x n h. omega (arith, h)) c.in-Err.ensures.within)
