-- A small unit that is ready, and so does the same: how what is asked is met. `int f(char x) { while (x) x = x - 1; return x; }`
use Rattle.std.specs.Prelude.{◌≡◌, ℕ, Bool, false, List, [], ◌∷◌, Some, None, codes, pos, refl}
use Rattle.lane_core.specs.declared.number.IntType.TheVariants as int
use Rattle.lane_core.specs.declared.number.Num.{Num}
use Rattle.lane_core.specs.declared.number.BinOp.TheVariants as op
use Rattle.std.proofs.Common.{arith}
use Rattle.std.proofs.lemmas.Int.{ints}
use Rattle.scalar_core.specs.Ranks.{common_of, promoted}
use Rattle.c_text.specs.declared.tokens.Place.{Place}
use Rattle.c_tree.specs.declared.types.CType.{CType}
use Rattle.c_tree.specs.Tree.{Tree, Node, Const, Name, Binary, Assign, Cast, Object, Statements, Run, While, Return, NoStatements, Then, Definition, Function}
use Rattle.intel_table.specs.Rows as intel
use Rattle.neon_table.specs.Rows as neon
use Rattle.written_forms.specs.Seen.{local}
use Rattle.written_forms.specs.Moved.{Plans}
use Rattle.written_forms.specs.ReadyUnits.{ReadyUnit}

abbrev p : Place
p = record { line = 1; col = 1 }

abbrev x : List ℕ
x = codes "x"

abbrev short : CType
short = CType.Int int.Char

abbrev number : CType
number = CType.Int int.Int

abbrev one : Num
one = record { ty = int.Int; value = pos 1; in_range = (omega (arith, ints), omega (arith, ints)) }

abbrev x_value : Tree
x_value = Node p short (Name x)

abbrev widened : Tree
widened = Node p number (Cast number x_value false)

abbrev less : Tree
less = Node p number (Binary op.Sub widened (Node p number (Const one)))

abbrev down : Tree
down = Node p short (Assign None x_value (Node p short (Cast short less false)))

abbrev body : Statements
body = Then (While x_value (Run down)) (Then (Return p (Some widened)) NoStatements)

abbrev parameter : Object
parameter = record { place = p; name = x; ty = short; length = None; constant = false; align = None; align_first = false; init = None; list = None }

abbrev f : Definition
f = record { place = p; name = codes "f"; result = number; params = parameter ∷ []; is_static = false; is_inline = false; body = body }

abbrev no_plans : Plans
no_plans row imm = None

ready : intel.find_of (codes "f") ≡ None → neon.find_of (codes "f") ≡ None → ReadyUnit no_plans [] (Function f ∷ [])
unfolding common_of promoted
ready h k = record {
  helps = λ row imm. false;
  among = λ row imm e. absurd (cc);
  helpers = tt;
  items = (
    record {
      params = (tt, tt);
      body = (
        (tt, ((local short Bool.true, refl, refl), tt), (((local short Bool.true, refl, refl), tt), refl, (refl, tt, (refl, (refl, tt, ((local short Bool.true, refl, refl), tt)), refl)))),
        ((refl, (refl, tt, ((local short Bool.true, refl, refl), tt))), tt),
      );
    },
    record { no_intel = h; no_neon = k; no_helper = refl },
    tt,
  );
}
