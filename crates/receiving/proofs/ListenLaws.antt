-- Laws of listening: the numbers of a channel and of a bit in its segment, and what is heard where the call refuses.
use mathlib.Core.Path.{◌≡◌}
use mathlib.Core.Bool.{Bool, true, false, ◌||◌, cond}
use mathlib.Core.List.{List, [], ◌∷◌, ◌++◌}
use Prim.Native.Nat.{ℕ}
use native.Mathlib.Omega.{arith}
use lib.Ieee.{Float}
use Rattle.counters.specs.Lines.{line, first_of}
use Rattle.counters.specs.Refusals.{refusal_number, refusal_at}
use Rattle.counters.specs.declared.refusal.Refusal.{Refusal}
use Rattle.counters.proofs.RefusalLaws.{refusal_positive}
use Rattle.joining.specs.Range.{first_out}
use Rattle.joining.specs.declared.Heard.{Heard}
use Rattle.joining.specs.declared.Heard.TheVariants.{Nothing}
use Rattle.joining.specs.declared.linking.Link.{Link}
use Rattle.homing.specs.Receiving.{no_link}
use Rattle.looking.specs.Looking.{frame_lines, indexed}
use Rattle.looking.proofs.LookLaws.{Early, early_more, early_frame, given_refused}
use Rattle.receiving.specs.Listening.{HeardAnswer, heard_answer, heard_lines, LinkAnswer, link_answer, link_lines}

-- a line of 10 that asks two things
module _ (a b : Bool) where
  pub ten_first : (r : Refusal) → refusal_number r ≡ cond a 10 0 → refusal_number r ≡ cond (a || b) 10 0
  ten_first r e = by a e
    where
      by : (x : Bool) → refusal_number r ≡ cond x 10 0 → refusal_number r ≡ cond (x || b) 10 0
      by true p = p
      by false p = absurd (omega (arith, p, refusal_positive r))

  pub ten_second : ◌≡◌ {A = ℕ} 0 (cond a 10 0) → {n : ℕ} → n ≡ cond b 10 0 → n ≡ cond (a || b) 10 0
  ten_second z {n} e = by a z
    where
      by : (x : Bool) → ◌≡◌ {A = ℕ} 0 (cond x 10 0) → n ≡ cond (x || b) 10 0
      by true p = absurd (omega arith)
      by false p = e

-- the lines before the look at the values
pub listened : (s : List ℕ) (number : ℕ) (missing : Bool) → Early (frame_lines s number ++ line missing 10 ∷ [])
listened s number missing = early_more missing 10 (early_frame s number) (omega arith) (λ q. omega arith)

-- the answers of a refusal
heard_made : {n m i j : ℕ} {h g : Heard} → n ≡ m → i ≡ j → h ≡ g
    → ◌≡◌ {A = HeardAnswer} (record { number = n; at = i; heard = h }) (record { number = m; at = j; heard = g })
heard_made p q r = rw (p, q, r)

pub heard_refused : (s : List ℕ) (number : ℕ) (frame : List Float) (k b : ℕ) (r : Refusal) → refusal_number r ≡ first_of (heard_lines s number frame k b)
    → refusal_at r ≡ indexed (first_of (heard_lines s number frame k b)) (first_out frame)
    → ◌≡◌ {A = HeardAnswer} (record { number = refusal_number r; at = refusal_at r; heard = Nothing }) (heard_answer s number frame k b)
heard_refused s number frame k b r e i = heard_made e i (given_refused _ _ _ r e)

link_same : {n m i j : ℕ} {h g : Link} → n ≡ m → i ≡ j → h ≡ g
    → ◌≡◌ {A = LinkAnswer} (record { number = n; at = i; link = h }) (record { number = m; at = j; link = g })
link_same p q r = rw (p, q, r)

pub link_refused : (s : List ℕ) (number : ℕ) (frame : List Float) (k : ℕ) (r : Refusal) → refusal_number r ≡ first_of (link_lines s number frame k)
    → refusal_at r ≡ indexed (first_of (link_lines s number frame k)) (first_out frame)
    → ◌≡◌ {A = LinkAnswer} (record { number = refusal_number r; at = refusal_at r; link = no_link }) (link_answer s number frame k)
link_refused s number frame k r e i = link_same e i (given_refused _ _ _ r e)
