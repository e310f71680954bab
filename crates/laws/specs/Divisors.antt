-- The greatest common divisor of two numbers, by what it is and not by a way to it.
use Rattle.std.specs.Prelude.{ℕ}
use Rattle.std.specs.Int.{◌∣◌}

-- g divides a and b, and what divides both divides g
abbrev pub Greatest : ℕ → ℕ → ℕ → Type 0
Greatest g a b = (g ∣ a) × (g ∣ b) × ((c : ℕ) → c ∣ a → c ∣ b → c ∣ g)
