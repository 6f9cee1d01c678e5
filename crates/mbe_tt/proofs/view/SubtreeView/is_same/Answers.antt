use Rattle.std.proofs.Common.{◌≡◌, ◌∙◌, ap}
use Rattle.mbe_tt.specs.Views.BufferEntries.{forest_code}
use Rattle.mbe_tt.specs.Laws.CodeEquality.{same_tells}
use Rattle.mbe_tt.specs.Trees.Top.{Top, delimiter_of, inside}
use Rattle.mbe_tt.specs.Trees.Tree.{Forest}
use Rattle.mbe_tt.specs.Views.View.{group_of, trees}
use Rattle.mbe_tt.specs.declared.tt.Delimiter.{Delimiter}
use Rattle.mbe_tt.proofs.view.SubtreeView.is_same.Goals as goal

abbrev pair : Delimiter → Forest → Top
pair d f = (d, f)

same_pair : (v w : Top) → delimiter_of v ≡ delimiter_of w → inside v ≡ inside w → v ≡ w
same_pair v w d f = ap (λ (x : Delimiter). pair x v.1) d ∙ ap (pair w.0) f

pub returns-then-same_delimiter : goal.returns-then-same_delimiter
returns-then-same_delimiter g c =
    let inside_is = same_tells forest_code (trees c.args.self.now.inside) (trees c.args.other.now.inside) _
    c.eq.ensures in
    let same = c.same_delimiter.ensures.0 c.if-same_delimiter.true in (
      λ h. same_pair (group_of c.args.self.now) (group_of c.args.other.now) same (inside_is.0 h),
      λ e. inside_is.1 (ap (λ (v : Top). v.1) e),
    )
