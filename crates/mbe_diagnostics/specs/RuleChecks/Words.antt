-- Identifiers of a template that aren't variables.
use Rattle.std.specs.Prelude.{Bool, false, ◌||◌, codes}
use Rattle.std.specs.Str.{bytes_eq}
use Rattle.mbe_semantics.specs.Syntax.Op.{Name, Token, literal, ident, puncts, Op, token, group}
use Rattle.mbe_semantics.specs.Syntax.Op.{variable, repetition, expression, Ops, no_ops, op}

abbrev pub is_word : Name → Token → Bool
is_word name (ident i) = bytes_eq i.sym name
is_word name (literal l) = false
is_word name (puncts ps) = false

-- Whether ops have that identifier, at any depth, and not as a variable.
abbrev mutual
  pub has_word_op : Name → Op → Bool
  has_word_op name (token t) = is_word name t
  has_word_op name (group d body) = has_word name body
  has_word_op name (repetition body separator repeat) = has_word name body
  has_word_op name _ = false

  pub has_word : Name → Ops → Bool
  has_word name no_ops = false
  has_word name (op o os) = has_word_op name o || has_word name os

-- Whether the template may define a macro: it has one of the words that begin a definition.
abbrev pub holds_definition : Ops → Bool
holds_definition template =
    has_word (codes "macro_rules") template || has_word (codes "macro") template
