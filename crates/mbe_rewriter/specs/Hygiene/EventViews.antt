-- The values of the program in the specification, independent of their allocator.
use Rattle.mbe_tt.specs.Views.LeafViews.{leaf_of}
use Rattle.mbe_rewriter.specs.declared.hygiene.local_names.Naming as code_naming
use Rattle.mbe_rewriter.specs.declared.hygiene.local_names.ContextParents as code_nestings
use Rattle.mbe_rewriter.specs.declared.hygiene.local_names.Word as code_word
use Rattle.mbe_rewriter.specs.declared.hygiene.tree_events.TreeEvent as code
use Rattle.mbe_rewriter.specs.Hygiene.LocalNames.{Word, word, Naming, naming, ContextParents}
use Rattle.mbe_rewriter.specs.Hygiene.TreeEvents.{TreeEvent, token, opening, closing}

abbrev pub event_of : {A : Type 0} → code.TreeEvent A → TreeEvent
event_of (code.TheVariants.Leaf l r) = token (leaf_of l.now) r
event_of (code.TheVariants.Open k span r) = opening k span r
event_of (code.TheVariants.Close span r) = closing span r

abbrev pub word_of : code_word.Word → Word
word_of w = word w.text.now w.span w.role

abbrev pub naming_of : {A : Type 0} → code_naming.Naming A → Naming
naming_of n = naming (word_of n.local) n.name

abbrev pub context_parents_of : code_nestings.ContextParents → ContextParents
context_parents_of n = record { contexts = n.contexts.now; mark = n.mark }
