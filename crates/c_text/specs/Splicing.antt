-- The same bytes in one pass over the source.
use Rattle.std.specs.Prelude.{ℕ, List, [], ◌∷◌, ◌++◌, Bool, false, ◌&&◌, ◌||◌, ◌==◌, if◌then◌else◌}
use Rattle.c_text.specs.declared.source.Placed.{Placed}
use Rattle.c_text.specs.Source.{at_place, line_behind, col_behind}
use Rattle.c_text.specs.Forms.{starts}

abbrev pub is_line_feed : ℕ → Bool
is_line_feed b = b == 10

-- a line feed, or a carriage return and a line feed
abbrev pub begins_line_end : List ℕ → Bool
begins_line_end [] = false
begins_line_end (b ∷ bs) = (b == 10) || ((b == 13) && starts is_line_feed bs)

-- whether a byte is part of a splice, or the first of the two bytes of a line end
abbrev pub is_left_out : Bool → ℕ → List ℕ → Bool
is_left_out behind b bs = ((b == 13) && starts is_line_feed bs) || (((b == 92) && begins_line_end bs) || (behind && (b == 10)))

-- whether a line end that follows a byte is spliced
abbrev pub splices : Bool → ℕ → List ℕ → Bool
splices behind b bs = if (b == 13) && starts is_line_feed bs then behind else b == 92

abbrev pub kept : Bool → Placed → List Placed
kept left_out c = if left_out then [] else c ∷ []

unfoldable pub shown_from : ℕ → ℕ → Bool → List ℕ → List Placed
shown_from line col behind [] = []
shown_from line col behind (b ∷ bs) =
    kept (is_left_out behind b bs) (at_place line col b) ++ shown_from (line_behind line b) (col_behind col b) (splices behind b bs) bs
