-- Laws of a run of bits.
use mathlib.Core.Path.{refl, ap}
use mathlib.Core.List.{List}
use Prim.Native.Nat.{ℕ, ◌+◌, ◌*◌, ◌-◌, ◌≤◌, ◌<◌}
use native.Mathlib.Nat.{suc-mul}
use native.Mathlib.Numerals.{add-one}
use native.Mathlib.Omega.{arith}
use lib.ListN.{length, get_or, set}
use Rattle.laws.proofs.TestLaws.{split}
use Rattle.laws.proofs.WrittenLaws.{write_none, write_one}
use Rattle.pattern.specs.Run.{Copied, Ran, Gone}

-- no bit
pub ran_none : (q : ℕ) (src old : List ℕ) (e k j : ℕ) → 0 < e → Ran q src old old e k j e k j
ran_none q src old e k j h =
    record {
      bits = 0;
      falls = omega arith;
      above = h;
      puts = omega arith;
      reads = omega arith;
      within = λ i l. absurd (omega arith);
      copied = write_none 0 _ old k;
    }

-- to the next bit, with no run behind it
pub gone_none : (step q : ℕ) (src old : List ℕ) (e k j : ℕ) → 0 < e → Gone step q src old old e k j e k (j + step)
unfolding ran_none
gone_none step q src old e k j h = record { run = ran_none q src old e k (j + step) h; beside = λ l. absurd (omega arith) }

-- n bits, for e stands above n falls
pub ran_copied : {q : ℕ} {src old list : List ℕ} {e k j n : ℕ} → Copied src old list j k n → n * q < e → j + n ≤ length src
    → Ran q src old list e k j (e - n * q) (k + n) (j + n)
ran_copied {n = n} w h b =
    record {
      bits = n;
      falls = omega arith;
      above = omega arith;
      puts = refl;
      reads = refl;
      within = λ i l. omega arith;
      copied = w;
    }

-- one more
pub ran_one : {q : ℕ} {src old list : List ℕ} {e k j e' k' j' : ℕ} → Ran q src old list e k j e' k' j' → q < e' → j' < length src → k' < length old
    → Ran q src old (set list k' (get_or src j' 0)) e k j (e' - q) (k' + 1) (j' + 1)
ran_one {q} {src} r h b l =
    let n = r.bits in
    record {
      bits = n + 1;
      falls = omega (arith, ap (λ (x : ℕ). x * q) (add-one n), suc-mul n q, r.falls);
      above = omega arith;
      puts = omega (arith, r.puts);
      reads = omega (arith, r.reads);
      within = λ i l. split n i (λ le. omega (arith, r.reads)) (λ lt. r.within i lt);
      copied = rw r.puts (write_one r.copied (omega (arith, r.puts)) (ap (λ (x : ℕ). get_or src x 0) r.reads));
    }
