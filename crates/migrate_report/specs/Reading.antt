-- What contracts see of the items that the code reads.
use Rattle.std.specs.Prelude.{ℕ, ◌-◌, ℤ, pos, neg_ℤ, List, Bool, nat_le, if◌then◌else◌, Option, Some, None}
use Rattle.std.specs.Borrow.{Bor}
use Rattle.migrate_report.specs.Items.{Item, Block, Space, Integer, Vector, At, Null, value, block_size}
use Rattle.migrate_report.specs.declared.items.Item.{Item as CodeItem}
use Rattle.migrate_report.specs.declared.items.Item.TheVariants as code

abbrev pub signed_value : Bool → List ℕ → ℤ
signed_value negative digits = if negative then neg_ℤ (pos (value digits)) else pos (value digits)

-- the numbers of an item of the code are those that its digits say
abbrev pub view_item : CodeItem → Item
view_item (code.Block align writable hex) = Block align writable hex.now
view_item (code.Space align count) = Space align (value count.now)
view_item (code.Integer negative digits) = Integer (signed_value negative digits.now)
view_item (code.Vector hex) = Vector hex.now
view_item (code.At block offset) = At (value block.now) (value offset.now)
view_item code.Null = Null

-- two slices
abbrev pub both_now : Bor (List ℕ) × Bor (List ℕ) → List ℕ × List ℕ
both_now p = (p.0.now, p.1.now)

-- the number, where it is at most `most`
abbrev pub at_most : ℕ → ℕ → Option ℕ
at_most most n = if nat_le n most then Some n else None

-- the room that is left of `room` bytes when the item's block is taken from it
abbrev pub room_after : ℕ → Option Item → Option ℕ
room_after room None = None
room_after room (Some item) = if nat_le (block_size item) room then Some (room - block_size item) else None
