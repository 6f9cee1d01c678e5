-- What is at the front of an iterator.
use Rattle.std.specs.Prelude.{◌≡◌, ℕ, Bool, true, false, ◌&&◌, not, is_some, List, Option, Some}
use Rattle.std.specs.Prelude.{None}
use Rattle.std.specs.Str.{bytes_eq}
use Rattle.mbe_tt.specs.Trees.Leaf.{Leaf, ident, literal, punct}
use Rattle.mbe_tt.specs.Trees.Tree.{Forest, Cut}
use Rattle.mbe_semantics.specs.Syntax.Op.{Op, token, group, variable, repetition, expression, Ops}
use Rattle.mbe_semantics.specs.Syntax.Op.{no_ops, op}
use Rattle.mbe_tt.specs.declared.grammar.Dialect.{Dialect}
use Rattle.mbe_tt.specs.declared.grammar.Dialect.TheVariants.{Rustc}
use Rattle.mbe_semantics.specs.Readings.Fit.{token_front, token_front_in, is_other_token}
use Rattle.mbe_semantics.specs.Readings.Input.{length_of, is_opening_in}
use Rattle.mbe_semantics.specs.Fragments.FragmentFront.{fragment_front}
use Rattle.mbe_tt.specs.Grammars.Grammar.{Grammar}
use Rattle.mbe_tt.specs.declared.span.DelimSpan.{DelimSpan}
use Rattle.mbe_semantics.specs.Expansion.Error.{ExpandError}
use Rattle.mbe_semantics.specs.Expansion.MatchError.{match_error}
use Rattle.mbe_semantics.specs.declared.fragment_kinds.RepeatKind.{RepeatKind}
use Rattle.mbe_semantics.specs.declared.fragment_kinds.RepeatKind.TheVariants.{ZeroOrMore}
use Rattle.mbe_semantics.specs.declared.fragment_kinds.RepeatKind.TheVariants.{OneOrMore, ZeroOrOne}

-- the leaf has this text, as a literal separator compares it
abbrev pub has_text : Leaf → List ℕ → Bool
has_text (literal l) text = bytes_eq l.text_and_suffix text
has_text (ident i) text = bytes_eq i.sym text
has_text (punct p) text = false

-- no other round follows a round of `?`
abbrev pub if_again : {A : Type 0} → RepeatKind → Option A → Option A
if_again ZeroOrMore o = o
if_again OneOrMore o = o
if_again ZeroOrOne o = None

-- how many flat tokens an op consumes that is a token, as rust-analyzer compares it
abbrev pub width_by_text : Op → Forest → Option ℕ
width_by_text (token t) f = length_of (token_front t f)
width_by_text _ f = None

-- the first trees differ from the token in what rustc alone compares
abbrev pub is_other_op : Op → Forest → Bool
is_other_op (token t) f = is_other_token Rustc t f
is_other_op _ f = false

-- how many flat tokens an op consumes that is a token of the dialect
abbrev pub op_width : Dialect → Op → Forest → Option ℕ
op_width d (token t) f = length_of (token_front_in d t f)
op_width d _ f = None

-- the front is there or not; if it is there, this remains after it
abbrev pub HasPassed : Bool → Option Cut → Forest → Type 0
HasPassed true (Some c) left = left ≡ c.back
HasPassed true None left = ⊥
HasPassed false None left = Unit {0}
HasPassed false (Some c) left = ⊥

-- the op doesn't fit the trees in front
abbrev pub Mismatches : Grammar → Op → Forest → Type 0
Mismatches g (token t) f = token_front_in g.dialect t f ≡ None
Mismatches g (variable name kind span) f = fragment_front g kind f ≡ None
Mismatches g (group d b) f = is_opening_in g.dialect d.kind f ≡ false
Mismatches g (repetition b s k) f = ⊥
Mismatches g (expression e) f = ⊥

-- the first of the ops doesn't fit
abbrev pub StartsWithMismatch : Grammar → Ops → Forest → Type 0
StartsWithMismatch g no_ops f = ⊥
StartsWithMismatch g (op o rest) f = Mismatches g o f

-- the op is a token
abbrev pub is_token : Op → Bool
is_token (token t) = true
is_token (variable name kind span) = false
is_token (group d b) = false
is_token (repetition b s k) = false
is_token (expression e) = false

-- the op is a token that isn't in front
abbrev pub is_wrong_token : Dialect → Op → Forest → Bool
is_wrong_token d o f = is_token o && not (is_some (op_width d o f))

-- the pattern begins with a token, and the argument begins with something else
abbrev pub starts_with_wrong_token : Dialect → Ops → Forest → Bool
starts_with_wrong_token d no_ops f = false
starts_with_wrong_token d (op o rest) f = is_wrong_token d o f

-- the error of the first op, which doesn't fit
abbrev pub first_match_error : Grammar → Ops → Forest → DelimSpan → Option ExpandError
first_match_error g no_ops f around = None
first_match_error g (op o rest) f around = match_error g o f around
