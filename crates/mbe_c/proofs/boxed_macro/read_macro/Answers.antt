use Rattle.std.proofs.Common.{inl}
use Rattle.mbe_c.proofs.boxed_macro.read_macro.Goals as goal

pub returns-in-Err-clause-fails : goal.returns-in-Err-clause-fails
returns-in-Err-clause-fails c = inl c.in-Err.ensures.fails
