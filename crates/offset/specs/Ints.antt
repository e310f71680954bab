-- Quotients downwards and upwards of signed numbers. ℤ is that of lib.IntN: `pos n` is n, `negsuc n` is -(n+1).
use Rattle.std.specs.Prelude.{ℕ, suc, ◌-◌, ◌/◌, ◌%◌, ℤ, pos, negsuc, neg_ℤ}

-- floor(a / b) for b > 0: the greatest whole number not above a / b. -(n+1) / b lies below 0, so it goes down: floor(-7 / 2) = -4
unfoldable pub floor_div : ℤ → ℕ → ℤ
floor_div (pos a) b = pos (a / b)
floor_div (negsuc a) b = negsuc (a / b)

-- floor(a / b) for b of either sign: a / -b = -a / b
unfoldable pub floor_over : ℤ → ℤ → ℤ
floor_over a (pos b) = floor_div a b
floor_over a (negsuc b) = floor_div (neg_ℤ a) (suc b)

-- ceil(a / b) = -floor(-a / b)
unfoldable pub ceil_over : ℤ → ℤ → ℤ
ceil_over a b = neg_ℤ (floor_over (neg_ℤ a) b)

-- a mod n, taken in 0 to n-1
unfoldable pub mod_over : ℤ → ℕ → ℕ
mod_over (pos a) n = a % n
mod_over (negsuc a) n = n - suc (a % n)
