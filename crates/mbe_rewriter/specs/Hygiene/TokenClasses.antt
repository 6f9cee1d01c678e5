-- The classes of puncts and words.
use Prim.Native.String.{String}
use Rattle.std.specs.Prelude.{ℕ, Bool, ◌==◌, if◌then◌else◌, codes, List, [], ◌∷◌, map}
use Rattle.std.specs.List.{list_any}
use Rattle.mbe_tt.specs.Trees.Leaf.{Ident, is_text}
use Rattle.mbe_tt.specs.declared.tt.IdentIsRaw.{IdentIsRaw}
use Rattle.mbe_tt.specs.declared.tt.IdentIsRaw.TheVariants as raw
use Rattle.mbe_rewriter.specs.declared.hygiene.token_classes.Sign.{Sign}
use Rattle.mbe_rewriter.specs.declared.hygiene.token_classes.Sign.TheVariants as sign
use Rattle.mbe_rewriter.specs.declared.hygiene.token_classes.WordClass.{WordClass}
use Rattle.mbe_rewriter.specs.declared.hygiene.token_classes.WordClass.TheVariants as sort

-- ---- puncts

abbrev pub rarer_sign : ℕ → Sign
rarer_sign c =
    if c == 39 then sign.Quote else (if c == 36 then sign.Dollar
    else (if c == 35 then sign.Hash else (
    if c == 33 then sign.Bang else (if c == 63 then sign.Question
    else (if c == 64 then sign.At else sign.Other)))))

abbrev pub sign_of : ℕ → Sign
sign_of c =
    if c == 46 then sign.Dot else (if c == 58 then sign.Colon
    else (if c == 61 then sign.Equals else (
    if c == 62 then sign.Angle else (if c == 44 then sign.Comma
    else (if c == 59 then sign.Semicolon else (
    if c == 124 then sign.Bar else rarer_sign c))))))

-- ---- words

-- An expression follows, and then braces that are a block.
abbrev pub heads : List String
heads = "match" ∷ []

-- Such a word that begins a loop.
abbrev pub loops : List String
loops = "loop" ∷ "while" ∷ []

-- The name of an item or a type follows, and then braces that hold no fields.
abbrev pub headers : List String
headers = "fn" ∷ "impl" ∷ "trait" ∷ "mod" ∷ "enum" ∷ []

-- The name of an item follows.
abbrev pub items : List String
items = "const" ∷ "macro" ∷ "static" ∷ "struct" ∷ "type" ∷ "use" ∷ []

-- A label may follow.
abbrev pub jumps : List String
jumps = "break" ∷ "continue" ∷ []

-- Any other keyword that an expression or a pattern may follow.
abbrev pub keywords : List String
keywords =
    "as" ∷ "async" ∷ "await" ∷ "box" ∷ "do" ∷ "dyn" ∷ "else" ∷ "extern" ∷ "move" ∷ "mut" ∷ "pub"
    ∷ "ref" ∷ "return"
    ∷ "unsafe" ∷ "where" ∷ "yield" ∷ []

-- Built-in macros that take their argument as text, or as names of other things than locals.
abbrev pub text_macros : List String
text_macros =
    "cfg" ∷ "compile_error" ∷ "concat" ∷ "concat_bytes" ∷ "env" ∷ "include" ∷ "include_bytes"
    ∷ "include_str" ∷ "offset_of" ∷ "option_env" ∷ "stringify" ∷ []

-- Words that are a value or a type, and no name.
abbrev pub values : List String
values =
    "Self" ∷ "_" ∷ "bool" ∷ "char" ∷ "crate" ∷ "f32" ∷ "f64" ∷ "false" ∷ "i128" ∷ "i16" ∷ "i32"
    ∷ "i64" ∷ "i8"
    ∷ "isize" ∷ "self" ∷ "str" ∷ "super" ∷ "true" ∷ "u128" ∷ "u16" ∷ "u32" ∷ "u64" ∷ "u8" ∷ "usize"
    ∷ []

abbrev pub is_one_of : List String → List ℕ → Bool
is_one_of texts text = list_any (is_text text) (map codes texts)

abbrev pub rarer_word_class : List ℕ → WordClass
rarer_word_class text =
    if is_one_of headers text then sort.Header else (if is_one_of items text then sort.Item else (
    if is_one_of jumps text then sort.Jump else (if is_one_of keywords text then sort.Keyword else (
    if is_one_of values text then sort.Value else sort.Name))))

abbrev pub word_class_of_text : List ℕ → WordClass
word_class_of_text text =
    if is_text text (codes "let") then sort.Let
    else (if is_text text (codes "for") then sort.For else (
    if is_text text (codes "in") then sort.In else (if is_text text (codes "if") then sort.If else (
    if is_one_of heads text then sort.Head
    else (if is_one_of loops text then sort.Loop else rarer_word_class text)))))

abbrev pub sort_by : IdentIsRaw → List ℕ → WordClass
sort_by raw.Yes text = sort.Name
sort_by raw.No text = word_class_of_text text

-- An identifier with `r#` is a name.
abbrev pub word_class_of : Ident → WordClass
word_class_of i = sort_by i.is_raw i.sym
