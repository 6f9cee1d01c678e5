-- Each part of the program's grammar takes what its rule says.
use Rattle.std.proofs.Common.{◌≡◌, ℕ, ◌<◌, ◌≤◌, true, Ok, Err, refl, arith}
use Rattle.mbe_tt.specs.Trees.Tree.{Forest, flat_len}
use Rattle.mbe_grammar.specs.declared.tables.parse_result.ParseFailure.TheVariants.{NoMatch, Fault}
use Rattle.mbe_grammar.specs.declared.sample_types.PathStyle.{PathStyle}
use Rattle.mbe_grammar.specs.declared.sample_types.PathStyle.TheVariants.{Plain, Expression}
use Rattle.mbe_grammar.specs.Rule.{meaning, in_turn}
use Rattle.mbe_grammar.specs.SampleGrammar.{Nonterminal, Lifetime, Angle, Turbofish, Colons, Segment, NextSegment, Path}
use Rattle.mbe_grammar.specs.SampleGrammar.{Indirection, Pointee, Ty, Block, Assignment, Meta, SignedLiteral}
use Rattle.mbe_grammar.specs.SampleGrammar.{BindingMode, BoundPat, PathPat, Pat, Alternative, PatTop, Operator}
use Rattle.mbe_grammar.specs.SampleGrammar.{Operation, Expr, Prefix, Unary, KeywordBlock, JumpWord, JumpValue, Jump}
use Rattle.mbe_grammar.specs.SampleGrammar.{PathExpr, Primary, Operand, Field, Post, Annotation, Let, ItemStmt, Stmt}
use Rattle.mbe_grammar.specs.SampleGrammar.{Item, Vis, rule_of, takes}
use Rattle.mbe_grammar.specs.RuleLaws.{leaves_weaker, in_turn_leaves}
use Rattle.mbe_grammar.specs.Lawful.{takes_some, solid_parts, takes_leaves}
use Rattle.mbe_grammar.proofs.RuleLemmas.{Order, is_below, taken_by_rule, shorter, no_longer, in_turn_on, in_turn_ends}
use Rattle.mbe_grammar.proofs.RuleLemmas.{in_turn_faults}

-- a part calls parts of lower rank before it takes a flat token
abbrev rank : Nonterminal → ℕ
rank (NextSegment style) = 1
rank (Path style) = 1
rank Pointee = 1
rank Ty = 2
rank Meta = 2
rank BoundPat = 1
rank PathPat = 2
rank Pat = 3
rank PatTop = 4
rank Jump = 1
rank PathExpr = 2
rank Primary = 3
rank Post = 1
rank Operand = 4
rank Unary = 5
rank Operation = 1
rank Expr = 6
rank JumpValue = 7
rank Item = 1
rank ItemStmt = 2
rank Stmt = 7
rank _ = 0

lower_first : (x : Nonterminal) → is_below takes_some rank 20 (rank x) (rule_of x) ≡ true
lower_first (Segment Plain) = refl
lower_first (Segment Expression) = refl
lower_first _ = refl

few_ranks : (x : Nonterminal) → rank x ≤ 20
few_ranks (Segment style) = omega arith
few_ranks _ = omega arith

abbrev order : Order rule_of
order = record { solid = takes_some; rank = rank; takes_some = solid_parts; lower = lower_first; few = few_ranks }

-- what a part takes, by its rule
pub takes_by_rule : (x : Nonterminal) (f : Forest) → takes x f ≡ meaning takes (rule_of x) f
unfolding takes
takes_by_rule x f = taken_by_rule order x f

pub takes_no_longer : (x : Nonterminal) (f g : Forest) → takes x f ≡ Ok g → flat_len g ≤ flat_len f
takes_no_longer x f g e = no_longer f g (takes x f) (leaves_weaker (takes_some x) f (takes x f) (takes_leaves x f)) e

pub takes_shorter : (x : Nonterminal) (f g : Forest) → takes_some x ≡ true → takes x f ≡ Ok g → flat_len g < flat_len f
takes_shorter x f g p e = shorter f g (takes x f) (rw p at (takes_leaves x f)) e

pub turns_on : (x : Nonterminal) (f g : Forest) → takes_some x ≡ true → takes x f ≡ Ok g
    → in_turn (takes x) f ≡ in_turn (takes x) g
turns_on x f g p e = in_turn_on (takes x) (λ h. rw p at (takes_leaves x h)) f g e

pub turns_end : (x : Nonterminal) (f : Forest) → takes x f ≡ Err NoMatch → in_turn (takes x) f ≡ Ok f
turns_end x f e = in_turn_ends (takes x) f e

pub turns_fault : (x : Nonterminal) (f : Forest) → takes x f ≡ Err Fault → in_turn (takes x) f ≡ Err Fault
turns_fault x f e = in_turn_faults (takes x) f e

pub turns_no_longer : (x : Nonterminal) (f g : Forest) → in_turn (takes x) f ≡ Ok g → flat_len g ≤ flat_len f
turns_no_longer x f g e = no_longer f g (in_turn (takes x) f)
    (in_turn_leaves (takes x) (λ h. leaves_weaker (takes_some x) h (takes x h) (takes_leaves x h)) f) e

-- what a loop over one part asks for
pub ruleset turns = (turns_on, turns_end, turns_fault, takes_shorter)

-- ---- part by part

pub lifetime_is : (f : Forest) → takes Lifetime f ≡ meaning takes (rule_of Lifetime) f
lifetime_is f = takes_by_rule Lifetime f

pub angle_is : (f : Forest) → takes Angle f ≡ meaning takes (rule_of Angle) f
angle_is f = takes_by_rule Angle f

pub turbofish_is : (f : Forest) → takes Turbofish f ≡ meaning takes (rule_of Turbofish) f
turbofish_is f = takes_by_rule Turbofish f

pub colons_is : (f : Forest) → takes Colons f ≡ meaning takes (rule_of Colons) f
colons_is f = takes_by_rule Colons f

pub segment_is : (style : PathStyle) (f : Forest) → takes (Segment style) f ≡ meaning takes (rule_of (Segment style)) f
segment_is style f = takes_by_rule (Segment style) f

pub next_segment_is : (style : PathStyle) (f : Forest)
    → takes (NextSegment style) f ≡ meaning takes (rule_of (NextSegment style)) f
next_segment_is style f = takes_by_rule (NextSegment style) f

pub path_is : (style : PathStyle) (f : Forest) → takes (Path style) f ≡ meaning takes (rule_of (Path style)) f
path_is style f = takes_by_rule (Path style) f

pub indirection_is : (f : Forest) → takes Indirection f ≡ meaning takes (rule_of Indirection) f
indirection_is f = takes_by_rule Indirection f

pub ty_is : (f : Forest) → takes Ty f ≡ meaning takes (rule_of Ty) f
ty_is f = takes_by_rule Ty f

pub block_is : (f : Forest) → takes Block f ≡ meaning takes (rule_of Block) f
block_is f = takes_by_rule Block f

pub assignment_is : (f : Forest) → takes Assignment f ≡ meaning takes (rule_of Assignment) f
assignment_is f = takes_by_rule Assignment f

pub meta_is : (f : Forest) → takes Meta f ≡ meaning takes (rule_of Meta) f
meta_is f = takes_by_rule Meta f

pub signed_literal_is : (f : Forest) → takes SignedLiteral f ≡ meaning takes (rule_of SignedLiteral) f
signed_literal_is f = takes_by_rule SignedLiteral f

pub binding_mode_is : (f : Forest) → takes BindingMode f ≡ meaning takes (rule_of BindingMode) f
binding_mode_is f = takes_by_rule BindingMode f

pub path_pat_is : (f : Forest) → takes PathPat f ≡ meaning takes (rule_of PathPat) f
path_pat_is f = takes_by_rule PathPat f

pub alternative_is : (f : Forest) → takes Alternative f ≡ meaning takes (rule_of Alternative) f
alternative_is f = takes_by_rule Alternative f

pub pat_top_is : (f : Forest) → takes PatTop f ≡ meaning takes (rule_of PatTop) f
pat_top_is f = takes_by_rule PatTop f

pub prefix_is : (f : Forest) → takes Prefix f ≡ meaning takes (rule_of Prefix) f
prefix_is f = takes_by_rule Prefix f

pub keyword_block_is : (f : Forest) → takes KeywordBlock f ≡ meaning takes (rule_of KeywordBlock) f
keyword_block_is f = takes_by_rule KeywordBlock f

pub jump_word_is : (f : Forest) → takes JumpWord f ≡ meaning takes (rule_of JumpWord) f
jump_word_is f = takes_by_rule JumpWord f

pub path_expr_is : (f : Forest) → takes PathExpr f ≡ meaning takes (rule_of PathExpr) f
path_expr_is f = takes_by_rule PathExpr f

pub field_is : (f : Forest) → takes Field f ≡ meaning takes (rule_of Field) f
field_is f = takes_by_rule Field f

pub post_is : (f : Forest) → takes Post f ≡ meaning takes (rule_of Post) f
post_is f = takes_by_rule Post f

pub annotation_is : (f : Forest) → takes Annotation f ≡ meaning takes (rule_of Annotation) f
annotation_is f = takes_by_rule Annotation f

pub let_is : (f : Forest) → takes Let f ≡ meaning takes (rule_of Let) f
let_is f = takes_by_rule Let f

pub item_stmt_is : (f : Forest) → takes ItemStmt f ≡ meaning takes (rule_of ItemStmt) f
item_stmt_is f = takes_by_rule ItemStmt f

pub stmt_is : (f : Forest) → takes Stmt f ≡ meaning takes (rule_of Stmt) f
stmt_is f = takes_by_rule Stmt f

pub item_is : (f : Forest) → takes Item f ≡ meaning takes (rule_of Item) f
item_is f = takes_by_rule Item f

pub vis_is : (f : Forest) → takes Vis f ≡ meaning takes (rule_of Vis) f
vis_is f = takes_by_rule Vis f

pub operator_is : (f : Forest) → takes Operator f ≡ meaning takes (rule_of Operator) f
operator_is f = takes_by_rule Operator f
