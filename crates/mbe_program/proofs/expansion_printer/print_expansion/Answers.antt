use Rattle.std.proofs.Common.{List, ℕ, [], ◌++◌, sym, ap, subst, append-nil}
use Rattle.std.proofs.lemmas.Result.{err_from_is_err_and}
use Rattle.std.specs.Io.KnownBytes.{Appends}
use Rattle.std.proofs.KnownBytes.{Appends-trans}
use Rattle.mbe_text.proofs.WriterLemmas.{writes_failed, fails_more, fails_then}
use Rattle.mbe_text.specs.TreeDump.{tree_text}
use Rattle.mbe_program.proofs.OutcomeLemmas.{flushed}
use Rattle.mbe_program.proofs.expansion_printer.print_expansion.Goals as goal

pub returns-in_err-write_whole : goal.returns-in_err-write_whole
returns-in_err-write_whole g c =
    let p = err_from_is_err_and c.from_residual.result c.from_residual.ensures.1 in
    let tree = tree_text c.args.tree.now in
    writes_failed _ _ _ _ _ p.1 (fails_more _ _ c.as_bytes.result.now tree (c.args.head.now ++ tree)
    (ap (λ (l : List ℕ). l ++ tree) (sym c.as_bytes.ensures.value)) c.in_err-write_whole.ensures)

pub returns-in_err-print_tree : goal.returns-in_err-print_tree
returns-in_err-print_tree g c =
    let p = err_from_is_err_and c.from_residual-in_err-print_tree.result c.from_residual-in_err-print_tree.ensures.1 in
    let tree = tree_text c.args.tree.now in
    let before = g.W.Write.contents c.args.out.now in
    let middle = g.W.Write.contents c.write_whole.new.out in
    let head = subst (λ (l : List ℕ). Appends before middle l) c.as_bytes.ensures.value c.in_ok-write_whole.ensures in
    writes_failed _ _ _ _ _ p.1 (fails_then before middle _ c.args.head.now tree [] (c.args.head.now ++ tree)
    (ap (λ (l : List ℕ). c.args.head.now ++ l) (sym (append-nil tree))) head c.in_err-print_tree.ensures)

pub returns : goal.returns
returns g c =
    let before = g.W.Write.contents c.args.out.now in
    let middle = g.W.Write.contents c.write_whole.new.out in
    let after = g.W.Write.contents c.print_tree.new.out in
    let tree = tree_text c.args.tree.now in
    let head = subst (λ (l : List ℕ). Appends before middle l) c.as_bytes.ensures.value c.in_ok-write_whole.ensures in
    let whole = Appends-trans before middle after c.args.head.now tree head c.in_ok-print_tree.ensures in
    flushed before after _ c.flush.result (c.args.head.now ++ tree) whole c.flush.ensures.bytes
