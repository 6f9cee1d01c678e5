use Rattle.std.proofs.Common.{◌≡◌, ◌∙◌, sym, ap, subst}
use Rattle.std.specs.Cmp.{tied_itself}
use Rattle.std.specs.Cmp.Lexicographic.{slice_cmp, texts_ties, same_text, nat_list_cmp_total}
use Rattle.std.specs.Ordering.{nat_cmp, is_eq}
use Rattle.std.specs.declared.cmp.Ordering.TheVariants.{Equal}
use Rattle.mbe.proofs.laws.symbols_agree.Goals as goal

pub returns-clause-ordered : goal.returns-clause-ordered
returns-clause-ordered g c = λ x y. (
  λ tied. same_text x y (sym (texts_ties x y ∙ ap is_eq tied)),
  λ same. subst (λ z. slice_cmp nat_cmp x z ≡ Equal) same (tied_itself nat_list_cmp_total x),
)
