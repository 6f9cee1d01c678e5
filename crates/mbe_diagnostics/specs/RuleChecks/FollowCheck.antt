-- What may follow a fragment in a pattern: the Rust Reference's "Follow-set Ambiguity
-- Restrictions", as rustc 1.95 checks them. It doesn't check that the start of a repetition without
-- separator may follow the repetition's own rounds. It doesn't consider that `vis` may match
-- nothing.
use Rattle.std.specs.Prelude.{ℕ, Bool, true, false, not, ◌&&◌, ◌||◌, if◌then◌else◌, List, [], ◌∷◌}
use Rattle.std.specs.Prelude.{◌++◌, map, codes, Option, Some, None, option_to_list}
use Rattle.std.specs.Str.{bytes_eq}
use Rattle.mbe_tt.specs.declared.span.Span.{Span}
use Rattle.mbe_tt.specs.declared.tt.IdentIsRaw.{IdentIsRaw}
use Rattle.mbe_tt.specs.declared.tt.IdentIsRaw.TheVariants as raw
use Rattle.mbe_tt.specs.declared.tt.DelimiterKind.{DelimiterKind}
use Rattle.mbe_tt.specs.declared.tt.DelimiterKind.TheVariants.{Parenthesis, Brace, Bracket}
use Rattle.mbe_tt.specs.Trees.Glue.{chars_of}
use Rattle.mbe_tt.specs.Trees.Tree.{is_bool_text}
use Rattle.mbe_semantics.specs.declared.fragment_kinds.MetaVarKind.{MetaVarKind}
use Rattle.mbe_semantics.specs.declared.fragment_kinds.MetaVarKind.TheVariants as kinds
use Rattle.mbe_semantics.specs.declared.fragment_kinds.FollowSet.{FollowSet}
use Rattle.mbe_semantics.specs.declared.fragment_kinds.FollowSet.TheVariants as sets
use Rattle.mbe_semantics.specs.Fragments.Kinds.{facts}
use Rattle.mbe_semantics.specs.Syntax.Nullable.{may_skip}
use Rattle.mbe_semantics.specs.Syntax.Op.{Name, Separator, ident_separator, literal_separator}
use Rattle.mbe_semantics.specs.Syntax.Op.{punct_separator, lifetime_separator, Token, Op, Ops}
use Rattle.mbe_semantics.specs.Syntax.Op.{no_ops, op, token, group, variable, repetition}
use Rattle.mbe_semantics.specs.Syntax.Op.{expression, literal, ident, puncts}
use Rattle.mbe_ops.specs.Views.{op_of, separator_seen}
use Rattle.mbe_diagnostics.specs.declared.rule_checks.follow_check.Follower as next
use Rattle.mbe_diagnostics.specs.declared.rule_checks.follow_check.TokenClass as token_class
use Rattle.mbe_diagnostics.specs.declared.rule_checks.follow_check.FollowViolation as followed_code

-- What may come next in a pattern: an op, a separator, or the closing delimiter of a group.
pub data Follower : Type 0 where
  reading : Op → Follower
  separating : Separator → Follower
  closing : Follower

-- ---- what ops may begin with

-- A repetition may match nothing if it may have no round.
abbrev mutual
  pub may_be_empty_op : Op → Bool
  may_be_empty_op (repetition body separator repeat) = may_skip repeat (may_be_empty body)
  may_be_empty_op _ = false

  pub may_be_empty : Ops → Bool
  may_be_empty no_ops = true
  may_be_empty (op o os) = may_be_empty_op o && may_be_empty os

abbrev pub separators : Option Separator → List Follower
separators s = map separating (option_to_list s)

-- The items that come next only if what is before them matches nothing.
abbrev pub where_empty : Bool → List Follower → List Follower
where_empty true next = next
where_empty false next = []

-- FIRST of the Reference. A repetition whose body may match nothing may begin with its separator.
abbrev mutual
  pub firsts_of_op : Op → List Follower
  firsts_of_op (token t) = reading (token t) ∷ []
  firsts_of_op (group d body) = reading (group d body) ∷ []
  firsts_of_op (variable name kind span) = reading (variable name kind span) ∷ []
  firsts_of_op (repetition body separator repeat) =
      firsts body ++ where_empty (may_be_empty body) (separators separator)
  firsts_of_op (expression e) = []

  pub firsts : Ops → List Follower
  firsts no_ops = []
  firsts (op o os) = firsts_of_op o ++ where_empty (may_be_empty_op o) (firsts os)

-- What may come first in these ops. If they may match nothing, this includes `after`.
abbrev pub firsts_or : List Follower → Ops → List Follower
firsts_or after os = firsts os ++ where_empty (may_be_empty os) after

-- ---- what each kind of fragment may be followed by

-- What the follow sets tell apart of what comes next.
pub data TokenClass : Type 0 where
  chars_next : List ℕ → TokenClass
  -- An identifier or keyword that isn't raw.
  word_next : Name → TokenClass
  raw_word_next : TokenClass
  literal_next : TokenClass
  lifetime_next : TokenClass
  opening_next : DelimiterKind → TokenClass
  fragment_next : Option MetaVarKind → TokenClass
  -- Neither a token nor a fragment.
  other_next : TokenClass

abbrev pub class_of_ident : Name → IdentIsRaw → TokenClass
class_of_ident name raw.No = word_next name
class_of_ident name raw.Yes = raw_word_next

-- `true` and `false` are keywords
abbrev pub class_of_literal : List ℕ → TokenClass
class_of_literal text = if is_bool_text text then word_next text else literal_next

abbrev pub class_of_token : Token → TokenClass
class_of_token (literal l) = class_of_literal l.text_and_suffix
class_of_token (ident i) = class_of_ident i.sym i.is_raw
class_of_token (puncts ps) = chars_next (chars_of ps)

abbrev pub class_of_op : Op → TokenClass
class_of_op (token t) = class_of_token t
class_of_op (group d body) = opening_next d.kind
class_of_op (variable name kind span) = fragment_next kind
class_of_op (repetition body separator repeat) = other_next
class_of_op (expression e) = other_next

abbrev pub class_of_separator : Separator → TokenClass
class_of_separator (ident_separator i) = class_of_ident i.sym i.is_raw
class_of_separator (literal_separator l) = class_of_literal l.text_and_suffix
class_of_separator (punct_separator ps) = chars_next (chars_of ps)
class_of_separator (lifetime_separator p i) = lifetime_next

abbrev pub class_of : Follower → TokenClass
class_of (reading o) = class_of_op o
class_of (separating s) = class_of_separator s
class_of closing = other_next

-- The closing delimiter may follow every fragment.
abbrev pub closes : Follower → Bool
closes closing = true
closes _ = false

-- Nothing else may come next.
abbrev pub is_one : List Follower → Bool
is_one (n ∷ []) = true
is_one _ = false

-- `=>` or `,`
abbrev pub is_arrow_or_comma : List ℕ → Bool
is_arrow_or_comma chars = bytes_eq chars (codes "=>") || bytes_eq chars (codes ",")

abbrev pub ends_expression : List ℕ → Bool
ends_expression chars = is_arrow_or_comma chars || bytes_eq chars (codes ";")

-- The puncts that may follow a type.
abbrev pub ends_type : List ℕ → Bool
ends_type chars =
    ends_expression chars || bytes_eq chars (codes ">") || bytes_eq chars (codes ">>")
    || bytes_eq chars (codes "=")
    || bytes_eq chars (codes ":") || bytes_eq chars (codes "|")

-- The puncts that a type may begin with.
abbrev pub begins_type : List ℕ → Bool
begins_type chars =
    bytes_eq chars (codes "!") || bytes_eq chars (codes "*") || bytes_eq chars (codes "&")
    || bytes_eq chars (codes "&&")
    || bytes_eq chars (codes "?") || bytes_eq chars (codes "'") || bytes_eq chars (codes "<")
    || bytes_eq chars (codes "<<")
    || bytes_eq chars (codes "::")

-- after `expr` and `stmt`
abbrev pub may_follow_expression : TokenClass → Bool
may_follow_expression (chars_next chars) = ends_expression chars
may_follow_expression _ = false

-- after `pat`
abbrev pub may_follow_pattern : TokenClass → Bool
may_follow_pattern (chars_next chars) = is_arrow_or_comma chars || bytes_eq chars (codes "=")
may_follow_pattern (word_next word) = bytes_eq word (codes "if") || bytes_eq word (codes "in")
may_follow_pattern _ = false

-- after `pat_param`
abbrev pub may_follow_alternative : TokenClass → Bool
may_follow_alternative (chars_next chars) =
    may_follow_pattern (chars_next chars) || bytes_eq chars (codes "|")
may_follow_alternative token_class = may_follow_pattern token_class

abbrev pub is_brace_or_bracket : DelimiterKind → Bool
is_brace_or_bracket Brace = true
is_brace_or_bracket Bracket = true
is_brace_or_bracket _ = false

abbrev pub is_block : Option MetaVarKind → Bool
is_block (Some kinds.Block) = true
is_block _ = false

-- after `ty` and `path`
abbrev pub may_follow_type : TokenClass → Bool
may_follow_type (chars_next chars) = ends_type chars
may_follow_type (word_next word) = bytes_eq word (codes "as") || bytes_eq word (codes "where")
may_follow_type (opening_next kind) = is_brace_or_bracket kind
may_follow_type (fragment_next kind) = is_block kind
may_follow_type _ = false

abbrev pub is_parenthesis_or_bracket : DelimiterKind → Bool
is_parenthesis_or_bracket Parenthesis = true
is_parenthesis_or_bracket Bracket = true
is_parenthesis_or_bracket _ = false

abbrev pub is_ident_ty_or_path : Option MetaVarKind → Bool
is_ident_ty_or_path (Some kinds.Ident) = true
is_ident_ty_or_path (Some kinds.Ty) = true
is_ident_ty_or_path (Some kinds.Path) = true
is_ident_ty_or_path _ = false

-- After `vis`: a comma, an identifier other than `priv`, and what a type may begin with.
abbrev pub may_follow_visibility : TokenClass → Bool
may_follow_visibility (chars_next chars) = bytes_eq chars (codes ",") || begins_type chars
may_follow_visibility (word_next word) = not (bytes_eq word (codes "priv"))
may_follow_visibility raw_word_next = true
may_follow_visibility lifetime_next = true
may_follow_visibility (opening_next kind) = is_parenthesis_or_bracket kind
may_follow_visibility (fragment_next kind) = is_ident_ty_or_path kind
may_follow_visibility _ = false

abbrev pub may_follow_set : FollowSet → TokenClass → Bool
may_follow_set sets.Anything token_class = true
may_follow_set sets.AfterExpression token_class = may_follow_expression token_class
may_follow_set sets.AfterPattern token_class = may_follow_pattern token_class
may_follow_set sets.AfterAlternative token_class = may_follow_alternative token_class
may_follow_set sets.AfterType token_class = may_follow_type token_class
may_follow_set sets.AfterVisibility token_class = may_follow_visibility token_class

-- Anything may follow an unknown kind.
abbrev pub may_follow : Option MetaVarKind → TokenClass → Bool
may_follow None token_class = true
may_follow (Some kind) token_class = may_follow_set (facts kind).follow_set token_class

-- ---- violations of the follow sets

-- A variable of a pattern, something that may come after it, and whether nothing else may.
pub record FollowViolation : Type 0 where
  pub name : Name
  pub kind : Option MetaVarKind
  pub place : Span
  pub next : Follower
  pub alone : Bool

abbrev pub if_forbidden : FollowViolation → List FollowViolation
if_forbidden f =
    if closes f.next || may_follow f.kind (class_of f.next) then [] else f ∷ []

-- Each of these that is forbidden after the fragment.
abbrev pub forbidden_of : Name → Option MetaVarKind → Span → Bool → List Follower
    → List FollowViolation
forbidden_of name kind place alone [] = []
forbidden_of name kind place alone (n ∷ ns) =
    if_forbidden (record { name = name; kind = kind; place = place; next = n; alone = alone })
    ++ forbidden_of name kind place alone ns

-- `pat` matches alternatives. `pat_param` doesn't, so a `|` may follow it.
abbrev pub is_pat : Option MetaVarKind → Bool
is_pat (Some kinds.Pat) = true
is_pat _ = false

abbrev pub is_or : TokenClass → Bool
is_or (chars_next chars) = bytes_eq chars (codes "|")
is_or _ = false

-- Whether `pat_param` is what the pattern needs.
abbrev pub needs_pat_param : FollowViolation → Bool
needs_pat_param f = is_pat f.kind && is_or (class_of f.next)

-- The closing delimiter comes after the ops of a group. A separator may follow the rounds of its
-- repetition.
abbrev mutual
  pub forbidden_in_op : List Follower → Op → List FollowViolation
  forbidden_in_op after (token t) = []
  forbidden_in_op after (group d body) = forbidden_in (closing ∷ []) body
  forbidden_in_op after (variable name kind span) =
      forbidden_of name kind span (is_one after) after
  forbidden_in_op after (repetition body separator repeat) =
      forbidden_in (after ++ separators separator) body
  forbidden_in_op after (expression e) = []

  pub forbidden_in : List Follower → Ops → List FollowViolation
  forbidden_in after no_ops = []
  forbidden_in after (op o os) = forbidden_in_op (firsts_or after os) o ++ forbidden_in after os

-- ---- what the program's values mean

abbrev pub follower_seen : {A : Type 0} → next.Follower A → Follower
follower_seen (next.TheVariants.Op o) = reading (op_of o.now)
follower_seen (next.TheVariants.Separator s) = separating (separator_seen s.now)
follower_seen next.TheVariants.Closing = closing

abbrev pub violation_seen : {A : Type 0} → followed_code.FollowViolation A → FollowViolation
violation_seen f =
    record {
      name = f.name.now;
      kind = f.kind;
      place = f.place;
      next = follower_seen f.next;
      alone =
          f.alone;
    }

abbrev pub class_seen : token_class.TokenClass → TokenClass
class_seen (token_class.TheVariants.Puncts ps) = chars_next (chars_of ps.now)
class_seen (token_class.TheVariants.Word word) = word_next word.now
class_seen token_class.TheVariants.RawWord = raw_word_next
class_seen token_class.TheVariants.Literal = literal_next
class_seen token_class.TheVariants.Lifetime = lifetime_next
class_seen (token_class.TheVariants.Opening kind) = opening_next kind
class_seen (token_class.TheVariants.Fragment kind) = fragment_next kind
class_seen token_class.TheVariants.Other = other_next
