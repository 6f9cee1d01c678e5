-- The identifier that `${concat(..)}` emits (as in rust-analyzer).
use Rattle.std.specs.Prelude.{ℕ, Bool, false, ◌&&◌, ◌||◌, ◌==◌, if◌then◌else◌, List, [], ◌∷◌, ◌++◌}
use Rattle.std.specs.Prelude.{Option, Some, None, option_map, option_and_then, chars}
use Rattle.std.specs.List.{list_all}
use Rattle.unicode_ident.specs.Ident.{is_xid_start, is_xid_continue}
use Rattle.mbe_tt.specs.Trees.Leaf.{ident, literal}
use Rattle.mbe_tt.specs.Trees.Tree.{Forest, none, leaf}
use Rattle.mbe_tt.specs.Trees.Literals.{literal_text}
use Rattle.mbe_semantics.specs.Syntax.Op.{Element, ident_element, literal_element, variable_element}
use Rattle.mbe_semantics.specs.declared.fragment_kinds.MetaVarKind.{MetaVarKind}
use Rattle.mbe_semantics.specs.declared.fragment_kinds.MetaVarKind.TheVariants as kinds
use Rattle.mbe_semantics.specs.Fragments.Kinds.{Style, as_expression, as_path, whole}
use Rattle.mbe_semantics.specs.Bindings.Environment.{Value, fragment, missing, Environment}
use Rattle.mbe_semantics.specs.Bindings.Missing.{default_trees, no_span}
use Rattle.mbe_semantics.specs.Transcription.Rounds.{Path, followed}

-- the text of one identifier or literal
abbrev pub text_of_tree : Forest → Option (List ℕ)
text_of_tree (leaf (ident i) none) = Some i.sym
text_of_tree (leaf (literal l) none) = Some (literal_text l)
text_of_tree _ = None

-- of the fragments that are emitted whole, a literal has a text
abbrev pub text_of_whole : MetaVarKind → Forest → Option (List ℕ)
text_of_whole kinds.Literal f = text_of_tree f
text_of_whole _ f = None

-- expressions and paths have no text
abbrev pub text_in_style : Style → Forest → Option (List ℕ)
text_in_style as_expression f = None
text_in_style as_path f = None
text_in_style (whole kind) f = text_of_whole kind f
text_in_style _ f = text_of_tree f

-- the text of a variable's value
abbrev pub text_of_value : Value → Option (List ℕ)
text_of_value (fragment x) = text_in_style x.style x.trees
text_of_value (missing kind) = text_of_tree (default_trees kind no_span)
text_of_value _ = None

-- the text of one element
abbrev pub text_of_element : Environment → Path → Element → Option (List ℕ)
text_of_element env path (ident_element i) = Some i.sym
text_of_element env path (literal_element l) = Some (literal_text l)
text_of_element env path (variable_element i) =
    option_and_then text_of_value (followed env path i.sym)

-- the texts of all elements, joined; none if a variable has no text
abbrev pub joined_text : Environment → Path → List Element → Option (List ℕ)
joined_text env path [] = Some []
joined_text env path (e ∷ es) =
    option_and_then (λ text. option_map (λ more. text ++ more) (joined_text env path es))
    (text_of_element env path e)

-- an identifier begins with `_` or XID_Start, and XID_Continue follows
abbrev pub are_identifier_chars : List ℕ → Bool
are_identifier_chars [] = false
are_identifier_chars (c ∷ cs) = (is_xid_start c || (c == 95)) && list_all is_xid_continue cs

-- the text, if it is an identifier
abbrev pub if_identifier : List ℕ → Option (List ℕ)
if_identifier text = if are_identifier_chars (chars text) then Some text else None

-- the joined text, if it is an identifier
abbrev pub concat_text : Environment → Path → List Element → Option (List ℕ)
concat_text env path elements = option_and_then if_identifier (joined_text env path elements)
