use Rattle.mbe_semantics.specs.Fragments.Kinds.{kind_names}
use Rattle.mbe_semantics.proofs.KindLemmas.{kind_named-none}
use Rattle.mbe_semantics.proofs.fragment_kinds.MetaVarKind.from_specifier.Goals as goal

pub returns-in_default : goal.returns-in_default
returns-in_default c =
    let n = c.in_default in
    kind_named-none kind_names _ (
      n.not-path,
      (
        n.not-ty,
        (
          n.not-pat_param,
          (
            n.not-stmt,
            (
              n.not-block,
              (
                n.not-meta,
                (
                  n.not-item,
                  (
                    n.not-vis,
                    (
                      n.not-expr_2021,
                      (
                        n.not-ident,
                        (
                          n.not-tt,
                          (
                            n.not-lifetime,
                            (
                              n.not-literal,
                              tt,
                            ),
                          ),
                        ),
                      ),
                    ),
                  ),
                ),
              ),
            ),
          ),
        ),
      ),
    )
