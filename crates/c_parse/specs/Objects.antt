-- What declarations say: their specifiers and declarators, and the objects that these declare (C11 6.7 and 6.9).
use Rattle.std.specs.Prelude.{List, [], ◌∷◌, Bool, true, false, not, ◌||◌, if◌then◌else◌, Option, Some, None, codes, bytes_eq, ℕ}
use Rattle.std.specs.List.{list_any}
use Rattle.std.specs.Option.{is_some}
use Rattle.c_text.specs.declared.tokens.Dialect.{Dialect}
use Rattle.c_text.specs.declared.tokens.Place.{Place}
use Rattle.c_text.specs.declared.tokens.Token.{Token}
use Rattle.c_tree.specs.declared.types.CType.{CType}
use Rattle.c_tree.specs.declared.types.CType.TheVariants as ctypes
use Rattle.c_tree.specs.Tree.{Tree, Trees, Object, Definition, NoStatements}
use Rattle.c_parse.specs.declared.attribute_names.AttributeName.{AttributeName}
use Rattle.c_parse.specs.declared.attribute_names.AttributeName.TheVariants.{Dropped, Target, Aligned}
use Rattle.c_parse.specs.declared.symbols.Symbol.{Symbol}
use Rattle.c_parse.specs.declared.symbols.Symbol.TheVariants as symbols
use Rattle.c_parse.specs.declared.symbols.TypeWord.TheVariants as types
use Rattle.c_parse.specs.declared.symbols.Word.TheVariants as keywords
use Rattle.c_parse.specs.declared.types.Specifiers.{Specifiers}
use Rattle.c_parse.specs.Symbols.{symbol_of}
use Rattle.c_parse.specs.Types.{base_of, pointer_to}
use Rattle.c_parse.specs.Reading.{◌>>=◌, is_name, specify, no_specifiers}

-- the attributes of GNU C that a unit may have; all but the alignment are dropped
abbrev pub dropped_names : List (List ℕ)
dropped_names =
    codes "always_inline" ∷ codes "__always_inline__" ∷ codes "noinline" ∷ codes "__noinline__" ∷ codes "unused" ∷
    codes "__unused__" ∷ []

abbrev pub target_names : List (List ℕ)
target_names = codes "target" ∷ codes "__target__" ∷ []

abbrev pub aligned_names : List (List ℕ)
aligned_names = codes "aligned" ∷ codes "__aligned__" ∷ []

abbrev pub attribute_named : List ℕ → Option AttributeName
attribute_named text =
    if list_any (bytes_eq text) dropped_names then Some Dropped
    else if list_any (bytes_eq text) target_names then Some Target
    else if list_any (bytes_eq text) aligned_names then Some Aligned
    else None

-- the attribute that a token names
unfoldable pub attribute_of : Dialect → Token → Option AttributeName
attribute_of d t = if is_name (symbol_of d t) then attribute_named t.text else None

-- a word of specifiers that stands alone
abbrev pub is_specifier : Symbol → Bool
is_specifier (symbols.Type w) = true
is_specifier symbols.Const = true
is_specifier (symbols.Word keywords.Static) = true
is_specifier (symbols.Word keywords.Inline) = true
is_specifier _ = false

abbrev pub is_align_as : Symbol → Bool
is_align_as (symbols.Word keywords.AlignAs) = true
is_align_as _ = false

abbrev pub is_attribute : Symbol → Bool
is_attribute (symbols.Word keywords.Attribute) = true
is_attribute _ = false

-- a declaration begins with such a token, and no expression does
abbrev pub begins_declaration : Symbol → Bool
begins_declaration m = is_specifier m || is_align_as m || is_attribute m

abbrev pub is_const : Symbol → Bool
is_const symbols.Const = true
is_const _ = false

abbrev pub is_void : Symbol → Bool
is_void (symbols.Type (types.Whole ctypes.Void)) = true
is_void _ = false

abbrev pub is_equals : Symbol → Bool
is_equals (symbols.Assign None) = true
is_equals _ = false

-- what the specifiers of a declaration say (C11 6.7p1): the words of types and `const`, whether `static` and `inline` are
-- among them, and the alignment
pub record Specification : Type 0 where
  pub words : Specifiers
  pub is_static : Bool
  pub is_inline : Bool
  pub align : Option Tree

abbrev pub nothing_said : Specification
nothing_said = record { words = no_specifiers; is_static = false; is_inline = false; align = None }

-- a word more; `static` stands once at most (C11 6.7.1p2)
abbrev pub word_says : Specification → Symbol → Option Specification
word_says s (symbols.Word keywords.Static) = if s.is_static then None else Some (record s { is_static = true })
word_says s (symbols.Word keywords.Inline) = Some (record s { is_inline = true })
word_says s m = specify s.words m >>= λ w. Some (record s { words = w })

-- an alignment more: an object has one at most
abbrev pub align_once : Option Tree → Tree → Option (Option Tree)
align_once None a = Some (Some a)
align_once (Some b) a = None

-- neither `static` nor `inline`
abbrev pub is_plain : Specification → Bool
is_plain s = not (s.is_static || s.is_inline)

abbrev pub plain : Specification → Option Specification
plain s = if is_plain s then Some s else None

abbrev pub not_inline : Specification → Option Specification
not_inline s = if s.is_inline then None else Some s

-- the brackets behind a name: none, `[ ]`, or those with a length
pub data Extent : Type 0 where
  Single : Extent
  Unbounded : Extent
  Bounded : Tree → Extent

abbrev pub is_array : Extent → Bool
is_array Single = false
is_array _ = true

abbrev pub length_of : Extent → Option Tree
length_of (Bounded n) = Some n
length_of _ = None

-- A declarator (C11 6.7.6): whether it has a `*` and then whether that is const; its name and the name's place; its
-- brackets; and the alignment, be it from specifiers or from attributes behind it.
pub record Declarator : Type 0 where
  pub star : Option Bool
  pub place : Place
  pub name : List ℕ
  pub extent : Extent
  pub align : Option Tree

-- what an object begins with: an expression, or a list of them
pub record Initial : Type 0 where
  pub init : Option Tree
  pub list : Option Trees

abbrev pub no_initial : Initial
no_initial = record { init = None; list = None }

-- an array of what may be pointed to; typing sets the number of its elements
abbrev pub array_of : Option CType → Option CType
array_of (Some (ctypes.Pointer p constant)) = Some (ctypes.Array p 0 constant)
array_of _ = None

-- a type, if there is one, of an object that is const or not
abbrev pub and_const : Option CType → Bool → Option (CType × Bool)
and_const o constant = o >>= λ t. Some (t, constant)

-- The type of an object, and whether the object is const. A `const` among the specifiers is the pointee's where there is a
-- `*`, and the object's and the elements' where there is none. No object has both a `*` and brackets.
abbrev pub object_type : Specifiers → Option Bool → Extent → Option (CType × Bool)
object_type w None Single = and_const (base_of w) w.constant
object_type w (Some constant) Single = and_const (pointer_to (base_of w) w.constant) constant
object_type w None _ = and_const (array_of (pointer_to (base_of w) w.constant)) w.constant
object_type w (Some constant) _ = None

-- the same of a parameter, where an array is a pointer to its elements (C11 6.7.6.3p7)
abbrev pub parameter_type : Specifiers → Option Bool → Extent → Option (CType × Bool)
parameter_type w None Single = and_const (base_of w) w.constant
parameter_type w (Some constant) Single = and_const (pointer_to (base_of w) w.constant) constant
parameter_type w None _ = and_const (pointer_to (base_of w) w.constant) false
parameter_type w (Some constant) _ = None

-- an array without a length has a list of initialisers (C11 6.7.9p22)
abbrev pub has_length : Extent → Option Trees → Bool
has_length Unbounded list = is_some list
has_length _ list = true

-- the object of a declarator with its initialiser
abbrev pub object : Specification → Declarator → Initial → Option Object
object s x begun =
    if has_length x.extent begun.list then
    (object_type s.words x.star x.extent >>= λ t. Some (record { place = x.place; name = x.name; ty = t.0; length = length_of x.extent; constant = t.1; align = x.align; align_first = is_some s.align; init = begun.init; list = begun.list }))
    else None

-- A parameter, which has no alignment (C11 6.7.5p2). The length of an array is kept, as it is judged (6.7.6.3p7).
abbrev pub parameter : Specifiers → Declarator → Option Object
parameter w x =
    if is_some x.align then None
    else (parameter_type w x.star x.extent >>= λ t. Some (record { place = x.place; name = x.name; ty = t.0; length = length_of x.extent; constant = t.1; align = None; align_first = false; init = None; list = None }))

-- an object at file scope that is const has an initialiser
abbrev pub has_value : Object → Bool
has_value o = not o.constant || is_some o.init || is_some o.list

-- an object at file scope, and whether it is `static`
abbrev pub table : Specification → Object → Option (Object × Bool)
table s o = if has_value o then Some (o, s.is_static) else None

-- the heading of a function, which has no alignment (C11 6.7.5p2); the body isn't read yet
abbrev pub heading : Specification → Option Bool → Token → List Object → Option Tree → Option Definition
heading s star name params (Some align) = None
heading s star name params None =
    object_type s.words star Single >>= λ t. Some (record { place = name.place; name = name.text; result = t.0; params = params; is_static = s.is_static; is_inline = s.is_inline; body = NoStatements })
