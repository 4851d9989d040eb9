-- The bytes of a selection, and the operands from which they are taken.
use Rattle.std.specs.Prelude.{ℕ, ◌<◌, ◌==◌, List, [], ◌∷◌, map, take, drop, get_or, if◌then◌else◌}
use Rattle.lane_core.specs.Register.{build}
use Rattle.lane_core.specs.declared.table.Arg.{Arg}
use Rattle.lane_core.specs.declared.table.Arg.TheVariants as arg
use Rattle.intel_forms.specs.declared.across.Across.TheVariants.{PermuteQwords}
use Rattle.intel_forms.specs.declared.forms.Form.{Form}
use Rattle.intel_forms.specs.declared.forms.Form.TheVariants as form
use Rattle.price_choice.specs.declared.forms.Pick.{Pick}
use Rattle.price_choice.specs.declared.forms.Pick.TheVariants as pick
use Rattle.price_choice.specs.List.{numbers}

-- a byte of the operands, or zero
abbrev pub byte_picked : List ℕ → List ℕ → Pick → ℕ
byte_picked a b (pick.A k) = get_or a k 0
byte_picked a b (pick.B k) = get_or b k 0
byte_picked a b pick.Zero = 0

-- the register of a selection
unfoldable pub selected : List Pick → List ℕ → List ℕ → List ℕ
selected want a b = build 1 16 (λ i. byte_picked a b (get_or want i pick.Zero))

-- a selection by the pick at each place
abbrev pub picks : (ℕ → Pick) → List Pick
picks f = map f (numbers 0 16)

-- each number is a place in its operand
abbrev pub IsPlace : Pick → Type 0
IsPlace (pick.A k) = k < 16
IsPlace (pick.B k) = k < 16
IsPlace pick.Zero = Unit {0}

-- a block of 16 bytes of a register: the low one is 0
abbrev pub block : ℕ → List ℕ → List ℕ
block half r = if half == 0 then take 16 r else drop 16 r

-- the block of a value: a register of 16 bytes is one
abbrev pub block_of : ℕ → Arg → List ℕ
block_of half (arg.R16 r) = r
block_of half (arg.R32 r) = block half r
block_of half _ = []

-- The operands of a block of a row: the same blocks of its registers. A row that moves quadwords across blocks has the low and the high
-- block of its one register.
abbrev pub first_operand : Form → ℕ → List Arg → List ℕ
first_operand (form.Across PermuteQwords) half (x ∷ _) = block_of 0 x
first_operand _ half (x ∷ _) = block_of half x
first_operand _ half [] = []

-- the register of a row with one is its second operand too, of which no byte is taken
abbrev pub second_operand : Form → ℕ → List Arg → List ℕ
second_operand (form.Across PermuteQwords) half (x ∷ _) = block_of 1 x
second_operand (form.Two size op) half (_ ∷ y ∷ _) = block_of half y
second_operand (form.TwoImm size op) half (_ ∷ y ∷ _) = block_of half y
second_operand _ half (x ∷ _) = block_of half x
second_operand _ half [] = []
