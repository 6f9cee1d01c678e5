-- Faults of definitions, and where they are reported. The fault of a file's own definition is
-- reported at the definition. The fault of another crate's definition is reported only at a call
-- that finds it.
use Rattle.std.specs.Prelude.{ℕ, Bool, false, is_some, ◌++◌, codes, if◌then◌else◌, List, [], ◌∷◌}
use Rattle.std.specs.Prelude.{Option, Some, None, option_map, option_and_then}
use Rattle.mbe_tt.specs.declared.span.Span.{Span}
use Rattle.mbe_semantics.specs.Expansion.Error.{text_of_fault}
use Rattle.mbe_semantics.specs.Expansion.Macro.{Macro}
use Rattle.mbe_semantics.specs.Syntax.Template.{Fault}
use Rattle.mbe_rewriter.specs.MacroItems.{MacroCall}
use Rattle.mbe_session.specs.Explanation.{Note, child_at}
use Rattle.mbe_session.specs.Scopes.{Scope, Definition, definition_at, is_extern}
use Rattle.mbe_session.specs.Resolution.{resolve}
use Rattle.mbe_session.specs.declared.notes.Level.TheVariants as level

-- what is wrong with a macro of that name, in words
abbrev pub fault_text : List ℕ → Fault → List ℕ
fault_text name fault = codes "macro `" ++ (name ++ (codes "`: " ++ text_of_fault fault))

-- where a definition is, and what is wrong with it, if anything
abbrev pub fault_of : Definition → Option (Span × List ℕ)
fault_of d = option_map (λ fault. (d.place, fault_text d.name fault)) d.rules.err

abbrev pub fault_at : Scope → ℕ → Option (Span × List ℕ)
fault_at s n = option_and_then fault_of (definition_at s n)

-- whether a macro has a fault
abbrev pub is_faulty : Option Macro → Bool
is_faulty None = false
is_faulty (Some m) = is_some m.err

abbrev pub error_at : Span → List ℕ → Note
error_at place text = record {
  level = level.Error;
  place = place;
  text = text;
  is_child = false;
}

-- ---- the file's own

-- a fault is said where the definition is
abbrev pub noted : Option (Span × List ℕ) → List Note
noted None = []
noted (Some f) = error_at f.0 f.1 ∷ []

-- those of definitions, in order
abbrev pub all_noted : List Definition → List Note
all_noted [] = []
all_noted (d ∷ ds) = noted (fault_of d) ++ all_noted ds

-- ---- those of other crates

-- what is wrong with that definition, if it is another crate's
abbrev pub extern_fault : Scope → ℕ → Option (Span × List ℕ)
extern_fault s n = if is_extern s.crates n then fault_at s n else None

-- The fault of the definition that a call names, if the definition is another crate's.
abbrev pub fault_of_call : Scope → MacroCall → Option (Span × List ℕ)
fault_of_call s c = option_and_then (extern_fault s) (resolve s c)

-- where the macro of that name is defined, as a child
abbrev pub defined_at : Span → List ℕ → Note
defined_at place name = child_at place (codes "`" ++ (name ++ codes "!` is defined here"))

-- it is said at the call, with the place of the definition
abbrev pub refused_at : MacroCall → Option (Span × List ℕ) → List Note
refused_at c None = []
refused_at c (Some f) = error_at c.name.span f.1 ∷ defined_at f.0 c.name.sym ∷ []

abbrev pub refusal : Scope → MacroCall → List Note
refusal s c = refused_at c (fault_of_call s c)
