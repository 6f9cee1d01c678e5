-- Steps of outlines are those of beginnings, and the work that a stack stands for falls.
use Rattle.std.proofs.Common.{ℕ, zero, suc, ◌+◌, ◌≡◌, ◌≤◌, Option, Some, None, Bool, true, false, List, [], ◌∷◌, ◌++◌}
use Rattle.std.proofs.Common.{map, length, refl, ◌∙◌, ap, arith, option_map}
use Rattle.mbe_semantics.specs.declared.fragment_kinds.RepeatKind.{RepeatKind}
use Rattle.mbe_semantics.specs.declared.fragment_kinds.RepeatKind.TheVariants.{ZeroOrMore, OneOrMore, ZeroOrOne}
use Rattle.mbe_tt.specs.Trees.Tree.{flat_len}
use Rattle.mbe_semantics.specs.Syntax.Op.{Name, Separator, token, group, variable, repetition, expression, Ops, no_ops}
use Rattle.mbe_semantics.specs.Syntax.Op.{op, names_of}
use Rattle.mbe_semantics.specs.Readings.Item.{Fragment, Item, matched, bound, skipped, Items, no_items, item, Rounds}
use Rattle.mbe_semantics.specs.Readings.Item.{no_rounds, item_width, items_width, rounds_width}
use Rattle.mbe_semantics.specs.Readings.Input.{Input}
use Rattle.mbe_semantics.specs.Readings.Reading.{Frame, inside, within, PartialReading, partial, start_of, offset}
use Rattle.mbe_semantics.specs.Readings.Steps.{matched_item, bound_item, skip_of, another_round, if_none, empty_item}
use Rattle.mbe_semantics.specs.Readings.Steps.{epsilons, Move, if_some, over_of, when, round_move, separator_move, next}
use Rattle.mbe_semantics.specs.Matching.ThreadModel.{repetition_frame, thread_model, advance, written}
use Rattle.mbe_semantics.specs.Matching.ThreadModel.{skipped as skipped_names, base_of, frames_of, erase, erase_move}
use Rattle.mbe_semantics.specs.Matching.ThreadModel.{empty_token, empty_bound, epsilons_of, if_some_advance}
use Rattle.mbe_semantics.specs.Matching.ThreadModel.{over_advance, bound_advance, round_advance, separator_advance}
use Rattle.mbe_semantics.specs.Matching.ThreadModel.{when_advance, next_of, finished_of}
use Rattle.mbe_semantics.specs.Bindings.Account.{no_commands, no_account, pushed_default, pushed_nested}
use Rattle.mbe_semantics.specs.Bindings.Account.{rounds_of_items, commands_of}
use Rattle.mbe_semantics.specs.Matching.Closure.{completed}

map_if_none : (n : ℕ) (x : PartialReading) → map erase (if_none n x) ≡ if_none n (erase x)
map_if_none zero x = refl
map_if_none (suc n) x = refl

map_if_some : (f : Bool) (n : ℕ) (x : PartialReading) → option_map erase_move (if_some f n x)
    ≡ if_some_advance f n (erase x)
map_if_some f zero x = refl
map_if_some f (suc n) x = refl

map_matched : (w : Option ℕ) (rest : Ops) (is : Items) (up : List Frame)
    → map erase (empty_item (matched_item w) rest is up)
    ≡ empty_token w (thread_model rest (written is (base_of up)) (frames_of up))
map_matched None rest is up = refl
map_matched (Some n) rest is up = map_if_none n (partial rest (item is (matched n)) up)

map_bound : (name : Name) (w : Option Fragment) (rest : Ops) (is : Items) (up : List Frame)
    → map erase (empty_item (bound_item name w) rest is up)
    ≡ empty_bound name w rest (written is (base_of up)) (frames_of up)
map_bound name None rest is up = refl
map_bound name (Some x) rest is up = map_if_none (flat_len x.trees) (partial rest (item is (bound name x)) up)

map_skip : (k : RepeatKind) (x : PartialReading) → map erase (skip_of k x) ≡ skip_of k (erase x)
map_skip ZeroOrMore x = refl
map_skip OneOrMore x = refl
map_skip ZeroOrOne x = refl

map_again : (s : Option Separator) (k : RepeatKind) (x z : PartialReading)
    → map erase (another_round s k x ++ (z ∷ [])) ≡ another_round s k (erase x) ++ (erase z ∷ [])
map_again (Some c) k x z = refl
map_again None ZeroOrMore x z = refl
map_again None OneOrMore x z = refl
map_again None ZeroOrOne x z = refl

pub erase_epsilon : (i : Input) (q : ℕ) (x : PartialReading) → offset x ≡ q → map erase (epsilons i q x)
    ≡ epsilons_of i q (erase x)
erase_epsilon i q (partial no_ops is []) e = refl
erase_epsilon i q (partial no_ops is (inside d b rest js ∷ up)) e = refl
erase_epsilon i q (partial no_ops is (within b s k rest js rs ∷ up)) e =
    let f : start_of up + items_width js + (rounds_width rs + items_width is + 0) ≡ q = omega arith in
    map_again s k _ _
    ∙ ap (λ p. another_round s k (thread_model b (pushed_default
    (written is (record { finished = rounds_of_items rs; current = no_commands })))
    (repetition_frame b s k rest p (written js (base_of up)) ∷ frames_of up))
    ++ (thread_model rest (pushed_nested (written js (base_of up))
    (written is (record { finished = rounds_of_items rs; current = no_commands }))) (frames_of up) ∷ [])) f
erase_epsilon i q (partial (op (token t) rest) is up) e = map_matched (i.token_at t q) rest is up
erase_epsilon i q (partial (op (variable name kind span) rest) is up) e =
    map_bound name (i.fragment_at kind q) rest is up
erase_epsilon i q (partial (op (expression x) rest) is up) e = refl
erase_epsilon i q (partial (op (group d b) rest) is up) e = refl
erase_epsilon i q (partial (op (repetition b s k) rest) is up) e =
    let f : start_of up + items_width is + 0 ≡ q = omega arith in
    ap (λ l. thread_model b no_account (repetition_frame b s k rest (start_of up + items_width is + 0)
    (written is (base_of up))
    ∷ frames_of up) ∷ l) (map_skip k _)
    ∙ ap (λ p. thread_model b no_account (repetition_frame b s k rest p (written is (base_of up)) ∷ frames_of up)
    ∷ skip_of k (thread_model rest (skipped_names (names_of b) (written is (base_of up))) (frames_of up))) f

map_when : (b : Bool) (m : Move) → option_map erase_move (when b m) ≡ when_advance b (erase_move m)
map_when true m = refl
map_when false m = refl

map_over_matched : (w : Option ℕ) (rest : Ops) (is : Items) (up : List Frame)
    → option_map erase_move (over_of false (matched_item w) rest is up)
    ≡ over_advance w (thread_model rest (written is (base_of up)) (frames_of up))
map_over_matched None rest is up = refl
map_over_matched (Some n) rest is up = map_if_some false n (partial rest (item is (matched n)) up)

map_over_bound : (name : Name) (w : Option Fragment) (rest : Ops) (is : Items) (up : List Frame)
    → option_map erase_move (over_of true (bound_item name w) rest is up)
    ≡ bound_advance name w rest (written is (base_of up)) (frames_of up)
map_over_bound name None rest is up = refl
map_over_bound name (Some x) rest is up = map_if_some true (flat_len x.trees) (partial rest (item is (bound name x)) up)

map_round : (k : RepeatKind) (w : Option ℕ) (q : ℕ) (b : Ops) (s : Option Separator) (rest : Ops) (js : Items)
    (rs : Rounds) (up : List Frame) (is : Items) →
    ((n : ℕ) → start_of up + items_width js + (rounds_width rs + items_width is + n) ≡ q + n) →
    option_map erase_move (round_move k w b s rest js rs up is)
    ≡ round_advance k w q b s rest (written js (base_of up))
    (written is (record { finished = rounds_of_items rs; current = no_commands })) (frames_of up)
map_round k None q b s rest js rs up is e = refl
map_round ZeroOrMore (Some n) q b s rest js rs up is e =
    ap (λ p. Some (advance n false (thread_model b
    (pushed_default (written is (record { finished = rounds_of_items rs; current = no_commands })))
    (repetition_frame b s ZeroOrMore rest p (written js (base_of up)) ∷ frames_of up)))) (e n)
map_round OneOrMore (Some n) q b s rest js rs up is e =
    ap (λ p. Some (advance n false (thread_model b
    (pushed_default (written is (record { finished = rounds_of_items rs; current = no_commands })))
    (repetition_frame b s OneOrMore rest p (written js (base_of up)) ∷ frames_of up)))) (e n)
map_round ZeroOrOne (Some n) q b s rest js rs up is e = refl

map_separator : (i : Input) (q : ℕ) (s : Option Separator) (k : RepeatKind) (b rest : Ops) (js : Items) (rs : Rounds)
    (up : List Frame) (is : Items) →
    ((n : ℕ) → start_of up + items_width js + (rounds_width rs + items_width is + n) ≡ q + n) →
    option_map erase_move (separator_move i q s k b rest js rs up is)
    ≡ separator_advance i q s k b rest (written js (base_of up))
    (written is (record { finished = rounds_of_items rs; current = no_commands })) (frames_of up)
map_separator i q None k b rest js rs up is e = refl
map_separator i q (Some c) k b rest js rs up is e = map_round k (i.separator_at c q) q b (Some c) rest js rs up is e

pub erase_next : (i : Input) (q : ℕ) (x : PartialReading) → offset x ≡ q
    → option_map erase_move (next i q x) ≡ next_of i q (erase x)
erase_next i q (partial no_ops is []) e = refl
erase_next i q (partial no_ops is (inside d b rest js ∷ up)) e = map_when (i.closes_at q) _
erase_next i q (partial no_ops is (within b s k rest js rs ∷ up)) e =
    map_separator i q s k b rest js rs up is (λ n. omega arith)
erase_next i q (partial (op (token t) rest) is up) e = map_over_matched (i.token_at t q) rest is up
erase_next i q (partial (op (variable name kind span) rest) is up) e =
    map_over_bound name (i.fragment_at kind q) rest is up
erase_next i q (partial (op (expression x) rest) is up) e = refl
erase_next i q (partial (op (group d b) rest) is up) e = map_when (i.opens_at d.kind q) _
erase_next i q (partial (op (repetition b s k) rest) is up) e = refl

pub erase_finished : (x : PartialReading) → option_map commands_of (completed x) ≡ finished_of (erase x)
erase_finished (partial no_ops is []) = refl
erase_finished (partial no_ops is (inside d b rest js ∷ up)) = refl
erase_finished (partial no_ops is (within b s k rest js rs ∷ up)) = refl
erase_finished (partial (op o rest) is up) = refl

short_empty : (w : Option Item) (rest : Ops) (is : Items) (up : List Frame) → length (empty_item w rest is up) ≤ 2
short_empty None rest is up = omega arith
short_empty (Some x) rest is up = go (item_width x)
  where
    go : (n : ℕ) → length (if_none n (partial rest (item is x) up)) ≤ 2
    go zero = omega arith
    go (suc n) = omega arith

short_again : (s : Option Separator) (k : RepeatKind) (x z : PartialReading)
    → length (another_round s k x ++ (z ∷ [])) ≤ 2
short_again (Some c) k x z = omega arith
short_again None ZeroOrMore x z = omega arith
short_again None OneOrMore x z = omega arith
short_again None ZeroOrOne x z = omega arith

short_skip : (k : RepeatKind) (x z : PartialReading) → length (x ∷ skip_of k z) ≤ 2
short_skip ZeroOrMore x z = omega arith
short_skip OneOrMore x z = omega arith
short_skip ZeroOrOne x z = omega arith

pub epsilon_short : (i : Input) (q : ℕ) (x : PartialReading) → length (epsilons i q x) ≤ 2
epsilon_short i q (partial no_ops is []) = omega arith
epsilon_short i q (partial no_ops is (inside d b rest js ∷ up)) = omega arith
epsilon_short i q (partial no_ops is (within b s k rest js rs ∷ up)) = short_again s k _ _
epsilon_short i q (partial (op (token t) rest) is up) = short_empty (matched_item (i.token_at t q)) rest is up
epsilon_short i q (partial (op (variable name kind span) rest) is up) =
    short_empty (bound_item name (i.fragment_at kind q)) rest is up
epsilon_short i q (partial (op (expression x) rest) is up) = omega arith
epsilon_short i q (partial (op (group d b) rest) is up) = omega arith
epsilon_short i q (partial (op (repetition b s k) rest) is up) =
    short_skip k (partial b no_items (within b s k rest is no_rounds ∷ up))
    (partial rest (item is (skipped (names_of b))) up)
