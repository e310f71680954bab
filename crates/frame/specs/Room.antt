-- The rooms of building and of taking back: a room is filled where it is made, so that a small frame takes a small one.
use Rattle.std.specs.Prelude.{ℕ, cond, leb}
use Rattle.sheet.specs.Counts.{most_bits}

abbrev pub tiny_frame : ℕ
tiny_frame = 256

abbrev pub small_frame : ℕ
small_frame = 1024

abbrev pub middle_frame : ℕ
middle_frame = 4096

abbrev pub large_frame : ℕ
large_frame = 16384

abbrev pub huge_frame : ℕ
huge_frame = 32768

-- the room of a frame of n places: the smallest that holds it
unfoldable pub room_of : ℕ → ℕ
room_of n =
    cond (leb n tiny_frame) tiny_frame (cond (leb n small_frame) small_frame (cond (leb n middle_frame) middle_frame (cond (leb n large_frame) large_frame (cond (leb n huge_frame) huge_frame most_bits))))
