-- What lines hold, in any allocator.
use Rattle.std.specs.Prelude.{ℕ, List}
use Rattle.mbe_session.specs.declared.lines.Lines.{Lines}

-- The line feeds that had a carriage return before them.
abbrev pub returns_of : {A : Type 0} → Lines A → List ℕ
returns_of l = l.returns.items
