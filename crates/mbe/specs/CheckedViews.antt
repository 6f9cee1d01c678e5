-- How contracts see a checked macro: as the macro that it was made of.
use Rattle.mbe.specs.declared.checked_macro.CheckedMacro.{CheckedMacro}
use Rattle.mbe_semantics.specs.Expansion.Macro.{Macro}
use Rattle.mbe.specs.MacroViews.{macro_of}

abbrev pub checked_of : {A : Type 0} → CheckedMacro A → Macro
checked_of m = macro_of m.defined
