-- What variables write.
use Rattle.std.proofs.Common.{◌≡◌, Bool, true, false, Option, Some, None, refl, sym, subst}
use Rattle.std.specs.Prelude.{not, is_none, if◌then◌else◌, option_and_then}
use Rattle.mbe_tt.specs.declared.span.Span.{Span}
use Rattle.mbe_tt.specs.Grammars.Grammar.{Grammar}
use Rattle.mbe_tt.specs.Buffers.GroupStack.{GroupStack, put}
use Rattle.mbe_semantics.specs.declared.fragment_kinds.MetaVarKind.{MetaVarKind}
use Rattle.mbe_semantics.specs.Syntax.Op.{Name}
use Rattle.mbe_semantics.specs.Readings.Item.{Fragment}
use Rattle.mbe_semantics.specs.Bindings.Environment.{Environment, Value, fragment, missing, value_of}
use Rattle.mbe_semantics.specs.Bindings.Missing.{default_trees}
use Rattle.mbe_semantics.specs.Transcription.Rounds.{Path, follow}
use Rattle.mbe_semantics.specs.Transcription.FragmentTrees.{IsFragmentOutput}
use Rattle.mbe_semantics.specs.Transcription.Substitution.{IsVariable, unbound_variable, is_simple, variable_faults}
use Rattle.mbe_variables.specs.FragmentWriter.{Appends}
use Rattle.mbe_transcriber.specs.TranscriberSteps.{Wrote, IsVariableWritten}
use Rattle.mbe_transcriber.proofs.WroteLemmas.{wrote_trees, appends_groups}

module _ (Marks : Span → Span → Type 0) (site : Span) (env : Environment) (p : Path) (name : Name) (span : Span) where
  abbrev Of : Bool → GroupStack → GroupStack → Option Value → Type 0
  Of f old new r =
      Wrote f (if is_none r then false else not (is_simple (option_and_then (follow p) r)))
      (λ out. (g : Grammar) → IsVariable g Marks site env name span r (option_and_then (follow p) r) out) old new

  abbrev At : Bool → GroupStack → GroupStack → Value → Option Value → Type 0
  At f old new v s = Wrote f (not (is_simple s))
      (λ out. (g : Grammar) → IsVariable g Marks site env name span (Some v) s out) old new

  pub unbound_wrote : (old new : GroupStack) → value_of env name ≡ None → new ≡ put (unbound_variable name span) old
      → Wrote false (variable_faults env p name) (IsVariableWritten Marks site env p name span) old new
  unfolding IsVariableWritten
  unbound_wrote old new n e = subst (Of false old new) (sym n)
      (wrote_trees (unbound_variable name span) old new (λ g. refl) e)

  pub fragment_wrote : (v : Value) (x : Fragment) (old new : GroupStack) → value_of env name ≡ Some v
      → follow p v ≡ Some (fragment x)
      → Appends (IsFragmentOutput Marks site x.style span x.trees) old new
      → Wrote false (variable_faults env p name) (IsVariableWritten Marks site env p name span) old new
  unfolding IsVariableWritten Appends
  fragment_wrote v x old new n h w =
      subst (Of false old new) (sym n) (subst (At false old new v) (sym h)
      (record { reported = refl; groups = appends_groups _ old new w; written = λ _. (w.0, (λ g. w.1), w.2) }))

  pub missing_wrote : (v : Value) (kind : MetaVarKind) (marked : Span) (old new : GroupStack) → value_of env name
      ≡ Some v
      → follow p v ≡ Some (missing kind)
      → Marks span marked → new ≡ put (default_trees kind marked) old
      → Wrote false (variable_faults env p name) (IsVariableWritten Marks site env p name span) old new
  unfolding IsVariableWritten
  missing_wrote v kind marked old new n h m e =
      subst (Of false old new) (sym n) (subst (At false old new v) (sym h)
      (wrote_trees (default_trees kind marked) old new (λ g. (marked, m, refl)) e))
