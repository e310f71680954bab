-- Step 8: second interleaving, and its undoing.
use Rattle.std.specs.Prelude.{List, ℕ, ◌+◌, ◌*◌, ◌-◌, ◌/◌, ◌%◌, length, get_or}
use Rattle.laws.specs.Tables.{table}
use Rattle.laws.specs.Least.{first}
use Rattle.orders.specs.Orders.{order, turn_of}
use Rattle.interleaving.specs.Columns.{columns, heights}

-- rows of 30 columns, the last maybe short; columns read in the order, absent cells passed over
unfoldable pub second_interleaved : {A : Type 0} → List A → List A
second_interleaved xs = columns 30 order xs

-- of K elements, how many are read before turn t
abbrev pub read_before : ℕ → ℕ → ℕ
read_before K t = heights 30 order K t

-- of K elements, the one at k = 30 r + c goes to r + what is read before column c's turn
unfoldable pub goes_to : ℕ → ℕ → ℕ
goes_to K k = k / 30 + read_before K (turn_of (k % 30))

-- the turn in which index j is read: the least t after which more than j are read
unfoldable pub turn_at : ℕ → ℕ → ℕ
turn_at K j = first (read_before K) j 30 0

-- and what stands there: the element of that turn's column in row j less what is read before
unfoldable pub comes_from : ℕ → ℕ → ℕ
comes_from K j = 30 * (j - read_before K (turn_at K j)) + get_or order (turn_at K j) 0

-- undone: element k is the one that stands where step 8 puts k; z is read nowhere
unfoldable pub second_undone : {A : Type 0} → A → List A → List A
second_undone z ys = table (λ k. get_or ys (goes_to (length ys) k) z) 0 (length ys)
