-- A thread: a partial reading with the account of its items in place of the items. This is what the
-- program keeps. An open repetition has the offset where its current round began, and the account
-- outside it.
use Rattle.std.specs.Prelude.{ℕ, zero, suc, ◌+◌, ◌-◌, Option, Some, None, Bool, true, false, List}
use Rattle.std.specs.Prelude.{[], ◌∷◌, ◌++◌}
use Rattle.mbe_semantics.specs.declared.fragment_kinds.RepeatKind.{RepeatKind}
use Rattle.mbe_semantics.specs.declared.fragment_kinds.RepeatKind.TheVariants.{ZeroOrMore}
use Rattle.mbe_semantics.specs.declared.fragment_kinds.RepeatKind.TheVariants.{OneOrMore, ZeroOrOne}
use Rattle.mbe_tt.specs.Trees.Tree.{flat_len}
use Rattle.mbe_semantics.specs.Syntax.Op.{Separator, Op, token, group, variable, repetition}
use Rattle.mbe_semantics.specs.Syntax.Op.{expression, Ops, no_ops, op}
use Rattle.mbe_semantics.specs.Readings.Item.{Fragment, Items, items_width, rounds_width}
use Rattle.mbe_semantics.specs.Readings.Input.{Input}
use Rattle.mbe_semantics.specs.Readings.Reading.{Frame, inside, within, PartialReading, partial}
use Rattle.mbe_semantics.specs.Readings.Reading.{start_of}
use Rattle.mbe_semantics.specs.Readings.Steps.{skip_of, another_round, if_none, Move, move}
use Rattle.mbe_semantics.specs.Bindings.Account.{Commands, no_commands, Account, no_account, binds}
use Rattle.mbe_semantics.specs.Bindings.Account.{pushed, pushed_nested, pushed_default}
use Rattle.mbe_semantics.specs.Bindings.Account.{skip_commands, write, rounds_of_items}
use Rattle.mbe_semantics.specs.Syntax.Op.{Name, names_of}

-- An open group, with the ops after it. Or an open repetition, with the offset where its round
-- began and the account outside.
pub data ModelFrame : Type 0 where
  group_frame : Ops → ModelFrame
  repetition_frame : Ops → Option Separator → RepeatKind → Ops → ℕ → Account → ModelFrame

-- A thread: the ops that are left, the account, and the open groups and repetitions, the innermost
-- first.
pub data ThreadModel : Type 0 where
  thread_model : Ops → Account → List ModelFrame → ThreadModel

-- A step over this many flat tokens. The flag says whether they are a fragment.
pub data Advance : Type 0 where
  advance : ℕ → Bool → ThreadModel → Advance

-- the account after items
abbrev pub written : Items → Account → Account
written is a = record { finished = a.finished; current = write is a.current }

-- the account, with these names skipped
abbrev pub skipped : List Name → Account → Account
skipped names a = record { finished = a.finished; current = skip_commands names a.current }

-- The account at the front of the innermost open group or repetition. A round begins with the
-- earlier rounds alone. A group continues the account outside it.
abbrev pub base_of : List Frame → Account
base_of [] = no_account
base_of (inside d b rest is ∷ up) = written is (base_of up)
base_of (within b s k rest is rs ∷ up) =
    record { finished = rounds_of_items rs; current = no_commands }

-- An open repetition has the account outside it, its complete rounds included.
abbrev pub frames_of : List Frame → List ModelFrame
frames_of [] = []
frames_of (inside d b rest is ∷ up) = group_frame rest ∷ frames_of up
frames_of (within b s k rest is rs ∷ up) =
    repetition_frame b s k rest (start_of up + items_width is + rounds_width rs)
    (written is (base_of up)) ∷ frames_of up

-- the thread of a partial reading
abbrev pub erase : PartialReading → ThreadModel
erase (partial rest is up) = thread_model rest (written is (base_of up)) (frames_of up)

-- the step of a thread for a step of its partial reading
abbrev pub erase_move : Move → Advance
erase_move (move n f y) = advance n f (erase y)

-- a token over no flat token
abbrev pub empty_token : Option ℕ → ThreadModel → List ThreadModel
empty_token None x = []
empty_token (Some n) x = if_none n x

-- a variable over no flat token
abbrev pub empty_bound : Name → Option Fragment → Ops → Account → List ModelFrame → List ThreadModel
empty_bound name None rest e up = []
empty_bound name (Some x) rest e up =
    if_none (flat_len x.trees) (thread_model rest (pushed (binds name x) e) up)

-- the epsilon steps of a thread
abbrev pub epsilons_of : Input → ℕ → ThreadModel → List ThreadModel
epsilons_of i q (thread_model no_ops e []) = []
epsilons_of i q (thread_model no_ops e (group_frame rest ∷ up)) = []
epsilons_of i q (thread_model no_ops e (repetition_frame b s k rest p outer ∷ up)) =
    another_round s k (thread_model b (pushed_default e) (repetition_frame b s k rest q outer ∷ up))
    ++ (thread_model rest (pushed_nested outer e) up ∷ [])
epsilons_of i q (thread_model (op (token t) rest) e up) =
    empty_token (i.token_at t q) (thread_model rest e up)
epsilons_of i q (thread_model (op (variable name kind span) rest) e up) =
    empty_bound name (i.fragment_at kind q) rest e up
epsilons_of i q (thread_model (op (expression x) rest) e up) = []
epsilons_of i q (thread_model (op (group d b) rest) e up) = []
epsilons_of i q (thread_model (op (repetition b s k) rest) e up) =
    thread_model b no_account (repetition_frame b s k rest q e ∷ up)
    ∷ skip_of k (thread_model rest (skipped (names_of b) e) up)

-- at least one flat token is consumed
abbrev pub if_some_advance : Bool → ℕ → ThreadModel → Option Advance
if_some_advance f zero x = None
if_some_advance f (suc n) x = Some (advance (suc n) f x)

-- the step over a token of the pattern
abbrev pub over_advance : Option ℕ → ThreadModel → Option Advance
over_advance None x = None
over_advance (Some n) x = if_some_advance false n x

-- the step over a variable's fragment
abbrev pub bound_advance : Name → Option Fragment → Ops → Account → List ModelFrame → Option Advance
bound_advance name None rest e up = None
bound_advance name (Some x) rest e up =
    if_some_advance true (flat_len x.trees) (thread_model rest (pushed (binds name x) e) up)

-- the step over a separator into another round
abbrev pub round_advance : RepeatKind → Option ℕ → ℕ → Ops → Option Separator → Ops → Account
    → Account → List ModelFrame
    → Option Advance
round_advance k None q b s rest o e up = None
round_advance ZeroOrMore (Some w) q b s rest o e up =
    Some (advance w false (thread_model b (pushed_default e)
    (repetition_frame b s ZeroOrMore rest (q + w) o ∷ up)))
round_advance OneOrMore (Some w) q b s rest o e up =
    Some (advance w false (thread_model b (pushed_default e)
    (repetition_frame b s OneOrMore rest (q + w) o ∷ up)))
round_advance ZeroOrOne (Some w) q b s rest o e up = None

-- the step over a separator, if there is one
abbrev pub separator_advance : Input → ℕ → Option Separator → RepeatKind → Ops → Ops → Account
    → Account → List ModelFrame
    → Option Advance
separator_advance i q None k b rest o e up = None
separator_advance i q (Some s) k b rest o e up =
    round_advance k (i.separator_at s q) q b (Some s) rest o e up

-- the step, if the test is true
abbrev pub when_advance : Bool → Advance → Option Advance
when_advance true a = Some a
when_advance false a = None

-- the step of a thread over tokens
abbrev pub next_of : Input → ℕ → ThreadModel → Option Advance
next_of i q (thread_model no_ops e []) = None
next_of i q (thread_model no_ops e (group_frame rest ∷ up)) =
    when_advance (i.closes_at q) (advance 1 false (thread_model rest e up))
next_of i q (thread_model no_ops e (repetition_frame b s k rest p outer ∷ up)) =
    separator_advance i q s k b rest outer e up
next_of i q (thread_model (op (token t) rest) e up) =
    over_advance (i.token_at t q) (thread_model rest e up)
next_of i q (thread_model (op (variable name kind span) rest) e up) =
    bound_advance name (i.fragment_at kind q) rest e up
next_of i q (thread_model (op (expression x) rest) e up) = None
next_of i q (thread_model (op (group d b) rest) e up) =
    when_advance (i.opens_at d.kind q) (advance 1 false (thread_model b e (group_frame rest ∷ up)))
next_of i q (thread_model (op (repetition b s k) rest) e up) = None

-- the commands of a thread, if it is at the end of the pattern
abbrev pub finished_of : ThreadModel → Option Commands
finished_of (thread_model no_ops e []) = Some e.current
finished_of (thread_model no_ops e (x ∷ up)) = None
finished_of (thread_model (op o rest) e up) = None

abbrev mutual
  pub op_size : Op → ℕ
  op_size (token t) = 1
  op_size (variable name kind span) = 1
  op_size (expression e) = 1
  op_size (group d b) = 1
  op_size (repetition b s k) = 2 + ops_size b

  pub ops_size : Ops → ℕ
  ops_size no_ops = 0
  ops_size (op o os) = op_size o + ops_size os

-- The epsilon steps of one more round. It may begin here if the current round has read a token.
abbrev pub spare : ℕ → ℕ → ℕ
spare zero n = 0
spare (suc u) n = suc n

-- the epsilon steps that remain in the open groups and repetitions
abbrev pub frames_rank : ℕ → List ModelFrame → ℕ
frames_rank q [] = 0
frames_rank q (group_frame rest ∷ up) = 0
frames_rank q (repetition_frame b s k rest p e ∷ up) =
    1 + ops_size rest + spare (q - p) (ops_size b) + frames_rank q up

-- a bound of the epsilon steps of a thread at this offset
abbrev pub rank_of : ℕ → ThreadModel → ℕ
rank_of q (thread_model rest e up) = ops_size rest + frames_rank q up

-- the same bound for a partial reading
abbrev pub rank : ℕ → PartialReading → ℕ
rank q x = rank_of q (erase x)

-- more than any tree of that depth
abbrev pub weight : ℕ → ℕ
weight zero = 1
weight (suc n) = 1 + weight n + weight n
