use Rattle.std.proofs.Common.{[], ◌++◌, codes, refl, sym, append-nil, subst}
use Rattle.std.proofs.lemmas.Result.{err_from_is_err_and}
use Rattle.std.specs.Prelude.{flat_map}
use Rattle.mbe_text.specs.TreeDump.{indentation, line}
use Rattle.mbe_text.specs.WriterBytes.{Writes}
use Rattle.mbe_text.proofs.WriterLemmas.{writes_failed, grows_empty, grows_off, grows_on, grows_last, grows_written}
use Rattle.mbe_text.proofs.output.write_line.Goals as goal

pub returns-in_err-indent : goal.returns-in_err-indent
returns-in_err-indent g c =
    let p = err_from_is_err_and c.from_residual.result c.from_residual.ensures.1 in
    let text = flat_map (λ t. t.now) c.args.texts.now in
    writes_failed _ _ _ _ _ p.1 (grows_off _ _ _ c.new-line.result.items _ _ (indentation c.args.depth)
    (text ++ codes "\n")
    (grows_empty _ _ (line c.args.depth text) c.new-line.ensures) refl c.in_err-indent.ensures)

pub returns-in_err-push_all : goal.returns-in_err-push_all
returns-in_err-push_all g c =
    let p = err_from_is_err_and c.from_residual-in_err-push_all.result c.from_residual-in_err-push_all.ensures.1 in
    let text = flat_map (λ t. t.now) c.args.texts.now in
    let first = grows_on _ _ _ c.new-line.result.items _ _ _ (indentation c.args.depth) (text ++ codes "\n")
    (grows_empty (g.W.Write.contents c.args.out.now) _ (line c.args.depth text) c.new-line.ensures) refl
    c.in_ok-indent.ensures in
    writes_failed _ _ _ _ _ p.1 (grows_off _ _ _ _ _ _ text (codes "\n") first refl c.in_err-push_all.ensures)

pub returns-in_err-push : goal.returns-in_err-push
returns-in_err-push g c =
    let p = err_from_is_err_and c.from_residual-in_err-push.result c.from_residual-in_err-push.ensures.1 in
    let text = flat_map (λ t. t.now) c.args.texts.now in
    let first = grows_on _ _ _ c.new-line.result.items _ _ _ (indentation c.args.depth) (text ++ codes "\n")
    (grows_empty (g.W.Write.contents c.args.out.now) _ (line c.args.depth text) c.new-line.ensures) refl
    c.in_ok-indent.ensures in
    let second = grows_on _ _ _ _ _ _ _ text (codes "\n") first refl c.in_ok-push_all.ensures in
    writes_failed _ _ _ _ _ p.1 (grows_off _ _ _ _ _ _ (codes "\n") [] second (sym (append-nil (codes "\n")))
    c.in_err-push.ensures)

pub returns : goal.returns
returns g c =
    let text = flat_map (λ t. t.now) c.args.texts.now in
    let first = grows_on _ _ _ c.new-line.result.items _ _ _ (indentation c.args.depth) (text ++ codes "\n")
    (grows_empty (g.W.Write.contents c.args.out.now) _ (line c.args.depth text) c.new-line.ensures) refl
    c.in_ok-indent.ensures in
    let second = grows_on _ _ _ _ _ _ _ text (codes "\n") first refl c.in_ok-push_all.ensures in
    let third = grows_on _ _ _ _ _ _ _ (codes "\n") [] second (sym (append-nil (codes "\n"))) c.in_ok-push.ensures in
    grows_written _ _ _ _ _ _ (grows_last _ _ _ _ _ third refl)
    (subst (Writes _ _ _) c.as_slice.ensures.value c.write_whole.ensures)
