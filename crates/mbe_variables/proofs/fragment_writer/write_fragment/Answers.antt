use Rattle.std.proofs.Common.{refl}
use Rattle.mbe_tt.specs.Views.View.{trees}
use Rattle.mbe_tt.specs.Trees.Tree.{alone}
use Rattle.mbe_tt.specs.Trees.Top.{top_group}
use Rattle.mbe_semantics.specs.Transcription.FragmentTrees.{path_trees}
use Rattle.mbe_variables.proofs.FragmentLemmas.{nothing_written, whole_written, tokens_written, path_written, if_ok}
use Rattle.mbe_variables.proofs.WholeLemmas.{whole_appends}
use Rattle.mbe_variables.proofs.fragment_writer.write_fragment.Goals as goal

pub returns-in-Tokens-clause-written : goal.returns-in-Tokens-clause-written
returns-in-Tokens-clause-written g c =
    rw c.in-Tokens.is (if_ok c.extend_with_tt_alone.result
    (tokens_written _ c.args.call_site c.args.id c.in-Tokens.origin (trees c.in-Tokens.tree)
    (alone (trees c.written_tokens.result)) c.args.builder.now c.extend_with_tt_alone.new.self
    c.written_tokens.ensures)
    c.extend_with_tt_alone.ensures.ok)

pub returns-in-Path-clause-written : goal.returns-in-Path-clause-written
returns-in-Path-clause-written g c =
    rw c.in-Path.is (if_ok c.write_path.result
    (path_written (λ s t. g.M.Fn.post c.args.marker (s, tt) t) c.args.call_site c.args.id (trees c.in-Path.tree)
    (path_trees c.args.call_site (trees c.in-Path.tree)) c.args.builder.now c.write_path.new.builder refl)
    c.write_path.ensures.written)

pub returns-in-Empty-clause-written : goal.returns-in-Empty-clause-written
returns-in-Empty-clause-written g c =
    rw c.in-Empty.is (nothing_written (λ s t. g.M.Fn.post c.args.marker (s, tt) t) c.args.call_site c.args.id
    c.args.builder.now)

pub returns-in-TokensOwned-clause-written : goal.returns-in-TokensOwned-clause-written
returns-in-TokensOwned-clause-written g c =
    rw c.in-TokensOwned.is (if_ok c.extend_with_tt_alone-in-TokensOwned.result
    (whole_written (λ s t. g.M.Fn.post c.args.marker (s, tt) t) c.args.call_site c.args.id
    (top_group c.in-TokensOwned.tree) (trees c.view.result) c.args.builder.now
    c.extend_with_tt_alone-in-TokensOwned.new.self c.view.ensures)
    c.extend_with_tt_alone-in-TokensOwned.ensures.ok)

pub returns-in-Whole-clause-written : goal.returns-in-Whole-clause-written
returns-in-Whole-clause-written g c =
    rw c.in-Whole.is (if_ok c.write_whole.result
    (whole_appends (λ s t. g.M.Fn.post c.args.marker (s, tt) t) c.args.call_site c.args.id c.in-Whole.kind
    (trees c.in-Whole.tree) c.args.builder.now c.write_whole.new.builder)
    c.write_whole.ensures.written)
