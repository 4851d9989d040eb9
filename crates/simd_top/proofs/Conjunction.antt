-- Tests that are joined.
use Rattle.std.proofs.Common.{◌≡◌, Bool, true, false, ◌&&◌, refl}

pub split_and : (v w : Bool) → (v && w) ≡ true → (v ≡ true) × (w ≡ true)
split_and true w e = (refl, e)
split_and false w e = absurd (cc)
