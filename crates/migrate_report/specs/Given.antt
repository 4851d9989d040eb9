-- What the steps of fitting answer.
use Rattle.std.specs.Prelude.{◌≡◌, ℕ, ℤ, pos, neg_ℤ, List, [], ◌∷◌, length, map, replicate, Bool, false, true, if◌then◌else◌, Option, Some, None, option_map, Result, Ok, Err, ◌-◌, ◌^◌}
use Rattle.std.specs.Borrow.{Bor}
use Rattle.c_tree.specs.declared.types.CType.{CType}
use Rattle.c_tree.specs.declared.statements.Declared.{Declared}
use Rattle.c_tree.specs.View.{view_declared}
use Rattle.c_memory.specs.declared.blocks.Block.{Block as MemoryBlock}
use Rattle.c_memory.specs.declared.value.Value.{Value}
use Rattle.migrate_report.specs.declared.fits.FitFail.{FitFail}
use Rattle.migrate_report.specs.declared.fits.FitFail.TheVariants as fail
use Rattle.migrate_report.specs.Items.{Item}
use Rattle.migrate_report.specs.Reading.{at_most}
use Rattle.c_memory.specs.Functions.{types_of}
use Rattle.migrate_report.specs.Fits.{argument, block_with}

-- what a step answers where this is due: it, or that the items don't fit where nothing is; memory may run out in place of both
abbrev pub Gives : {A B : Type 0} → (A → B) → Option B → Result A FitFail → Type 0
Gives f due (Ok x) = due ≡ Some (f x)
Gives f due (Err fail.DontFit) = due ≡ None
Gives f due (Err fail.Memory) = Unit {0}
Gives f due (Err fail.NoFunction) = ⊥

-- what is seen of a value and of the parameters that are left
abbrev pub seen_first : Value × Bor (List Declared) → Value × List CType
seen_first p = (p.0, types_of (map view_declared p.1.now))

-- the argument that an item gives the first of the types, and the other types
abbrev pub first_argument : List MemoryBlock → List CType → Item → Option (Value × List CType)
first_argument memory [] item = None
first_argument memory (t ∷ ts) item = option_map (λ v. (v, ts)) (argument memory t item)

-- the integer that a sign and a number say, where the number is below 2 ^ 64
abbrev pub signed_up_to : Bool → ℕ → Option ℤ
signed_up_to negative n = option_map (λ m. if negative then neg_ℤ (pos m) else pos m) (at_most (2 ^ 64 - 1) n)

abbrev pub unset_block : ℕ → ℕ → MemoryBlock
unset_block align count = block_with align true (replicate count None)

-- the offset, where it is at most the block's length
abbrev pub offset_in : Option MemoryBlock → ℕ → Option ℕ
offset_in None offset = None
offset_in (Some b) offset = at_most (length b.bytes) offset

abbrev pub is_pointer : CType → Bool
is_pointer (CType.Pointer e constant) = true
is_pointer t = false
