-- The words of a macro's rules that may define other macros.
use Rattle.std.specs.Prelude.{ℕ, Bool, false, ◌||◌, ◌&&◌, ◌==◌, codes, List, [], ◌∷◌}
use Rattle.mbe_tt.specs.Trees.Leaf.{Leaf, literal, punct, ident, is_text}
use Rattle.mbe_tt.specs.Trees.Tree.{Forest}
use Rattle.mbe_rewriter.specs.declared.defining_words.DefiningWords.{DefiningWords}
use Rattle.mbe_rewriter.specs.Hygiene.ScanState.{start}
use Rattle.mbe_rewriter.specs.Hygiene.TreeEvents.{TreeEvent, token, opening, closing, events}

abbrev pub no_words : DefiningWords
no_words = record {
  has_rules = false;
  has_item = false;
  has_use = false;
  has_macro_use = false;
  has_call = false;
  is_after_mark = false;
}

abbrev pub with_word : List ℕ → DefiningWords → DefiningWords
with_word w d = record {
  has_rules = d.has_rules || is_text w (codes "macro_rules");
  has_item = d.has_item || is_text w (codes "macro");
  has_use = d.has_use || (is_text w (codes "use") || is_text w (codes "macro_export"));
  has_macro_use = d.has_macro_use || is_text w (codes "macro_use");
  has_call = d.has_call;
  is_after_mark = false;
}

-- The words with one more leaf. A `!` may begin a call.
abbrev pub with_leaf : DefiningWords → Leaf → DefiningWords
with_leaf d (ident i) = with_word i.sym d
with_leaf d (punct p) = record d { is_after_mark = p.char == 33 }
with_leaf d (literal l) = record d { is_after_mark = false }

-- A group after a `!` is a call's.
abbrev pub with_group : DefiningWords → DefiningWords
with_group d = record d { has_call = d.has_call || d.is_after_mark; is_after_mark = false }

abbrev pub with_event : DefiningWords → TreeEvent → DefiningWords
with_event d (token l r) = with_leaf d l
with_event d (opening k span r) = with_group d
with_event d (closing span r) = record d { is_after_mark = false }

abbrev pub words_from : DefiningWords → List TreeEvent → DefiningWords
words_from d [] = d
words_from d (x ∷ xs) = words_from (with_event d x) xs

-- The words of these trees, at any depth.
abbrev pub defining_words : Forest → DefiningWords
defining_words f = words_from no_words (events start f)

-- A call may define a macro that paths find, or names after a group with the call.
abbrev pub may_define : DefiningWords → Bool
may_define d = d.has_item || (d.has_rules && (d.has_use || d.has_macro_use))

-- Names after a call, or in its expansion, may mean another macro than the last visible one. The
-- names that a `macro` item calls are those at its definition.
abbrev pub may_shadow : Bool → DefiningWords → Bool
may_shadow is_item d =
    d.has_item || (d.has_rules && d.has_macro_use) || (is_item && d.has_call)
