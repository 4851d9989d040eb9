-- What is known of the objects in scope where an expression stands.
use Rattle.std.specs.Prelude.{ℕ, Bool, true, false, List, Option, Some, None, if◌then◌else◌, is_some}
use Rattle.std.specs.Str.{bytes_eq}
use Rattle.c_tree.specs.declared.types.CType.{CType}
use Rattle.c_tree.specs.Tree.{Object}

-- An object's type in the source, and whether it is always set where it is read: it is a parameter, or is declared with a first value.
pub record Local : Type 0 where
  pub ty : CType
  pub steady : Bool

-- the innermost object of each name
abbrev pub Sees : Type 0
Sees = List ℕ → Option Local

abbrev pub sees_nothing : Sees
sees_nothing x = None

abbrev pub local : CType → Bool → Local
local t steady = record { ty = t; steady = steady }

-- one more object, which hides others of its name (C11 6.2.1p4)
abbrev pub with_local : List ℕ → Local → Sees → Sees
with_local x l sees = λ y. if bytes_eq y x then Some l else sees y

-- an object in its own first value, in whose scope that stands (6.2.1p7), and behind its declarator
abbrev pub beginning : Object → Sees → Sees
beginning d sees = with_local d.name (local d.ty false) sees

abbrev pub declared : Object → Sees → Sees
declared d sees = with_local d.name (local d.ty (is_some d.init)) sees

-- parameters are set
abbrev pub with_parameter : Object → Sees → Sees
with_parameter d sees = with_local d.name (local d.ty true) sees
