-- Forms of shuffles: what each gives, and of which kind its call is. A form's result has 16 bytes; its operands are A, B and the zero vector.
use Rattle.std.specs.Prelude.{◌≡◌, ℕ, ◌+◌, ◌-◌, ◌*◌, ◌/◌, ◌%◌, ◌<◌, ◌≤◌, ◌⊎◌, List, [], ◌∷◌, Bool, true, false, ◌&&◌, ◌==◌, nat_lt, if◌then◌else◌, Option, Some, None}
use Rattle.price_choice.specs.declared.forms.FormKind.{FormKind}
use Rattle.price_choice.specs.declared.forms.FormKind.TheVariants.{Dup, Ext, Rev, Zip, Uzp, Trn, Tbl}
use Rattle.price_choice.specs.declared.forms.Pick.{Pick}
use Rattle.price_choice.specs.declared.forms.Pick.TheVariants as pick
use Rattle.price_choice.specs.declared.forms.Side.{Side}
use Rattle.price_choice.specs.declared.forms.Side.TheVariants as side
use Rattle.price_choice.specs.declared.forms.Form.{Form}
use Rattle.price_choice.specs.declared.forms.Form.TheVariants.{Same, One, Two, Table, TablePair}

-- byte p of an operand
abbrev pub from_side : Side → ℕ → Pick
from_side side.A p = pick.A p
from_side side.B p = pick.B p
from_side side.Zero p = pick.Zero

-- The lane of the operands, one behind the other, that lane k of the result is, for lanes of w bytes: by the pseudocode of Arm's reference for DUP (element), EXT,
-- REV16, REV32 and REV64, ZIP1 and ZIP2, UZP1 and UZP2, TRN1 and TRN2. The number n is the lane of DUP, the count of bytes of EXT, the bytes of a group of REV, and
-- 1 or 2 for the others.
abbrev pub source_lane : FormKind → ℕ → ℕ → ℕ → ℕ
source_lane Dup w n k = n
source_lane Ext w n k = k + n
source_lane Rev w n k = k / (n / w) * (n / w) + (n / w - 1 - k % (n / w))
source_lane Zip w n k = (n - 1) * (16 / w / 2) + k / 2 + k % 2 * (16 / w)
source_lane Uzp w n k = 2 * k + (n - 1)
source_lane Trn w n k = k / 2 * 2 + (n - 1) + k % 2 * (16 / w)
source_lane Tbl w n k = k

-- the byte of the operands that byte i of the result is
abbrev pub source_byte : FormKind → ℕ → ℕ → ℕ → ℕ
source_byte kind w n i = source_lane kind w n (i / w) * w + i % w

abbrev pub byte_of_two : Side → Side → ℕ → Pick
byte_of_two x y p = if nat_lt p 16 then from_side x p else from_side y (p - 16)

-- byte i of what a form gives; a table gives what it is asked for
abbrev pub pick_at : Form → ℕ → Pick
pick_at (Same x) i = from_side x i
pick_at (One kind w n x) i = from_side x (source_byte kind w n i)
pick_at (Two kind w n x y) i = byte_of_two x y (source_byte kind w n i)
pick_at _ i = pick.Zero

abbrev pub same_pick : Pick → Pick → Bool
same_pick (pick.A m) (pick.A n) = m == n
same_pick (pick.B m) (pick.B n) = m == n
same_pick pick.Zero pick.Zero = true
same_pick _ _ = false

-- a byte that a form can give at place i
abbrev pub allowed : Form → ℕ → Pick → Bool
allowed (Table side.A) i (pick.B n) = false
allowed (Table side.B) i (pick.A n) = false
allowed (Table side.Zero) i p = false
allowed (Table x) i p = true
allowed TablePair i p = true
allowed f i p = same_pick p (pick_at f i)

-- the form gives these bytes, from place i on
abbrev pub gives_from : Form → ℕ → List Pick → Bool
gives_from f i [] = true
gives_from f i (p ∷ ps) = allowed f i p && gives_from f (i + 1) ps

abbrev pub gives_of : Form → List Pick → Bool
gives_of f want = gives_from f 0 want

-- the kind, which has a price
abbrev pub kind_of : Form → Option FormKind
kind_of (Same x) = None
kind_of (One kind w n x) = Some kind
kind_of (Two kind w n x y) = Some kind
kind_of (Table x) = Some Tbl
kind_of TablePair = Some Tbl

-- the numbers that calls of the list have: widths of 1, 2, 4 or 8 bytes, and what goes with them
abbrev pub IsListed : FormKind → ℕ → ℕ → Type 0
IsListed Dup w n = ((w ≡ 1) ⊎ (w ≡ 2) ⊎ (w ≡ 4) ⊎ (w ≡ 8)) × (n < 16 / w)
IsListed Ext w n = (w ≡ 1) × (1 ≤ n) × (n ≤ 15)
IsListed Rev w n = ((w ≡ 1) ⊎ (w ≡ 2) ⊎ (w ≡ 4)) × ((n ≡ 2) ⊎ (n ≡ 4) ⊎ (n ≡ 8)) × (w < n)
IsListed Tbl w n = w ≡ 1
IsListed _ w n = ((w ≡ 1) ⊎ (w ≡ 2) ⊎ (w ≡ 4) ⊎ (w ≡ 8)) × ((n ≡ 1) ⊎ (n ≡ 2))

abbrev pub IsUnary : FormKind → Type 0
IsUnary Dup = Unit {0}
IsUnary Rev = Unit {0}
IsUnary _ = ⊥

abbrev pub IsBinary : FormKind → Type 0
IsBinary Ext = Unit {0}
IsBinary Zip = Unit {0}
IsBinary Uzp = Unit {0}
IsBinary Trn = Unit {0}
IsBinary _ = ⊥

-- a form of the list, but for its operands
abbrev pub IsForm : Form → Type 0
IsForm (One kind w n x) = IsUnary kind × IsListed kind w n
IsForm (Two kind w n x y) = IsBinary kind × IsListed kind w n
IsForm f = Unit {0}
