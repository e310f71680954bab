-- That the definitions of specs/ say what their names say: floor and mod by the law of division, gcd as the greatest common divisor.
use Prim.Native.Nat.{ℕ, zero, suc, ◌+◌, ◌*◌, ◌-◌, ◌/◌, ◌%◌, ◌<◌, ◌∣◌}
use mathlib.Core.Path.{◌≡◌, ◌∙◌, ap}
use native.Mathlib.Nat.{div-add-mod', mod-lt, suc-mul, dvd_refl, dvd-zero, dvd-mod_iff}
use native.Mathlib.Omega.{arith}
use lib.IntN.{ℤ, pos, negsuc, neg_ℤ, ◌+ℤ◌, ◌*ℤ◌}
use Rattle.laws.specs.Divisors.{Greatest}
use Rattle.offset.specs.Ints.{floor_div, mod_over}
use Rattle.offset.specs.Offset.{euclid, gcd}
use Rattle.offset.proofs.QuotientLaws.{neg_add}

-- a = floor(a/b) b + a mod b, and a mod b is in 0 to b-1: the two are the whole quotient downwards and its remainder
pub division : (a : ℤ) (b : ℕ) → 0 < b → floor_div a b *ℤ pos b +ℤ pos (mod_over a b) ≡ a
unfolding floor_div mod_over
division (pos a) b h = ap pos (div-add-mod' a b)
division (negsuc a) b h =
    let p : a / b * b + a % b ≡ a = div-add-mod' a b in
    let r : a % b < b = mod-lt a h in
    let m : suc (a / b) * b ≡ a / b * b + b = suc-mul (a / b) b in
    neg_add (suc (a / b) * b) (b - suc (a % b)) (omega arith) ∙ ap (λ (z : ℕ). neg_ℤ (pos z)) (e (suc (a / b) * b - (b - suc (a % b))) a (omega arith))
  where
    e : (x a : ℕ) → x ≡ suc a → x ≡ suc a
    e x a h = h

pub mod_below : (a : ℤ) (b : ℕ) → 0 < b → mod_over a b < b
unfolding mod_over
mod_below (pos a) b h = mod-lt a h
mod_below (negsuc a) b h = omega arith

divides : (k a b : ℕ) → b < k → (euclid k a b ∣ a) × (euclid k a b ∣ b)
unfolding euclid
divides zero a b h = absurd (omega arith)
divides (suc k) a zero h = (dvd_refl a, dvd-zero a)
divides (suc k) a (suc b) h =
    let m : a % suc b < suc b = mod-lt a (omega arith) in
    let w = divides k (suc b) (a % suc b) (omega arith) in
    ((dvd-mod_iff (euclid k (suc b) (a % suc b)) w.0).0 w.1, w.0)

greatest : (k a b c : ℕ) → b < k → c ∣ a → c ∣ b → c ∣ euclid k a b
unfolding euclid
greatest zero a b c h p q = absurd (omega arith)
greatest (suc k) a zero c h p q = p
greatest (suc k) a (suc b) c h p q =
    let m : a % suc b < suc b = mod-lt a (omega arith) in
    greatest k (suc b) (a % suc b) c (omega arith) q ((dvd-mod_iff c q).1 p)

pub gcd-greatest : (a b : ℕ) → Greatest (gcd a b) a b
unfolding gcd
gcd-greatest a b =
    let d = divides (suc b) a b (omega arith) in
    (d.0, d.1, λ c. greatest (suc b) a b c (omega arith))
