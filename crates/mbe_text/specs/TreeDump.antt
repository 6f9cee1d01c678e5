-- The printed forms of spans and trees, as bytes.
use Rattle.std.specs.Prelude.{ℕ, zero, suc, ◌+◌, ◌-◌, Option, Some, None, List, [], ◌++◌, codes}
use Rattle.std.specs.Prelude.{encode_utf8}
use Rattle.std.specs.Fmt.{decimal}
use Rattle.mbe_tt.specs.Trees.Leaf.{Leaf, Literal, Ident, literal, punct, ident}
use Rattle.mbe_tt.specs.Trees.Literals.{ident_text}
use Rattle.mbe_tt.specs.Trees.Tree.{Forest, none, leaf, group, Tree, Leaf_tree, Group_tree}
use Rattle.mbe_tt.specs.Trees.Top.{Top, top_group}
use Rattle.mbe_tt.specs.declared.span.Span.{Span}
use Rattle.mbe_tt.specs.declared.tt.Punct.{Punct}
use Rattle.mbe_tt.specs.declared.tt.Delimiter.{Delimiter}
use Rattle.mbe_tt.specs.declared.tt.DelimiterKind.{DelimiterKind}
use Rattle.mbe_tt.specs.declared.tt.DelimiterKind.TheVariants.{Parenthesis, Brace, Bracket}
use Rattle.mbe_tt.specs.declared.tt.DelimiterKind.TheVariants.{Invisible}
use Rattle.mbe_tt.specs.declared.tt.Spacing.{Spacing}
use Rattle.mbe_tt.specs.declared.tt.Spacing.TheVariants.{Alone, Joint}
use Rattle.mbe_tt.specs.declared.tt.LitKind.{LitKind}
use Rattle.mbe_tt.specs.declared.tt.LitKind.TheVariants.{Byte, Char, Integer, Float, Str, StrRaw}
use Rattle.mbe_tt.specs.declared.tt.LitKind.TheVariants.{ByteStr, ByteStrRaw, CStr, CStrRaw, Err}
use Rattle.mbe_text.specs.declared.lexer.LexError.{LexError}
use Rattle.mbe_text.specs.declared.lexer.LexError.TheVariants.{Fault, OutOfMemory}

-- the file, `@`, the first byte, `..` and the byte after the last, all in decimal
abbrev pub span_text : Span → List ℕ
span_text s = decimal s.file ++ (codes "@" ++ (decimal s.start ++ (codes ".." ++ decimal s.end)))

-- the text of a group's delimiters
abbrev pub sign : DelimiterKind → List ℕ
sign Parenthesis = codes "()"
sign Brace = codes "{}"
sign Bracket = codes "[]"
sign Invisible = codes "$$"

-- a punct's spacing
abbrev pub spacing_word : Spacing → List ℕ
spacing_word Alone = codes "alone"
spacing_word Joint = codes "joint"

-- a literal's kind, without the number of its `#`
abbrev pub kind_name : LitKind → List ℕ
kind_name Byte = codes "Byte"
kind_name Char = codes "Char"
kind_name Integer = codes "Integer"
kind_name Float = codes "Float"
kind_name Str = codes "Str"
kind_name (StrRaw n) = codes "StrRaw"
kind_name ByteStr = codes "ByteStr"
kind_name (ByteStrRaw n) = codes "ByteStrRaw"
kind_name CStr = codes "CStr"
kind_name (CStrRaw n) = codes "CStrRaw"
kind_name Err = codes "Err"

-- the line of a leaf: its sort, its text and its span
abbrev pub ident_line : Ident → List ℕ
ident_line i = codes "IDENT   " ++ (ident_text i ++ (codes " " ++ span_text i.span))

abbrev pub punct_line : Punct → List ℕ
punct_line p =
    codes "PUNCH   " ++ (encode_utf8 p.char
    ++ (codes " [" ++ (spacing_word p.spacing ++ (codes "] " ++ span_text p.span))))

abbrev pub literal_line : Literal → List ℕ
literal_line l = codes "LITERAL " ++ (kind_name l.kind
    ++ (codes " " ++ (l.text_and_suffix ++ (codes " " ++ span_text l.span))))

abbrev pub leaf_line : Leaf → List ℕ
leaf_line (ident i) = ident_line i
leaf_line (punct p) = punct_line p
leaf_line (literal l) = literal_line l

-- the line of a group: its delimiters, and the spans of both
abbrev pub group_line : Delimiter → List ℕ
group_line d = codes "SUBTREE " ++ (sign d.kind
    ++ (codes " " ++ (span_text d.opening ++ (codes " " ++ span_text d.close))))

-- two spaces for each group around a line
abbrev pub indentation : ℕ → List ℕ
indentation zero = []
indentation (suc depth) = codes "  " ++ indentation depth

-- a line with that many groups around it
abbrev pub line : ℕ → List ℕ → List ℕ
line depth text = indentation depth ++ (text ++ codes "\n")

-- a line for each tree; the lines of a group's content follow the group's line
abbrev pub lines : ℕ → Forest → List ℕ
lines depth none = []
lines depth (leaf l rest) = line depth (leaf_line l) ++ lines depth rest
lines depth (group d inside rest) =
    line depth (group_line d) ++ (lines (suc depth) inside ++ lines depth rest)

-- the line of the next flat token; without a tree that is a closing, which has no line
abbrev pub first_line : ℕ → Option Tree → List ℕ
first_line depth None = []
first_line depth (Some (Leaf_tree l)) = line depth (leaf_line l)
first_line depth (Some (Group_tree d inside)) = line depth (group_line d)

-- the number of groups around the offset after that flat token
abbrev pub depth_after : Option Tree → ℕ → ℕ
depth_after None depth = depth - 1
depth_after (Some (Leaf_tree l)) depth = depth
depth_after (Some (Group_tree d inside)) depth = depth + 1

-- the message of a lex error
abbrev pub lex_error_text : LexError → List ℕ
lex_error_text (Fault fault) = codes "cannot lex at " ++ decimal fault.offset
lex_error_text OutOfMemory = codes "out of memory"

-- the lines of a whole buffer
abbrev pub tree_text : Top → List ℕ
tree_text t = lines 0 (top_group t)
