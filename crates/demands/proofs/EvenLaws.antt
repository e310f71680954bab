-- A stretch of bits of a channel's segment is even, where copies are those that step 6's text sends.
use mathlib.Core.Path.{◌≡◌, ap, ◌∙◌}
use mathlib.Core.List.{List}
use Prim.Native.Nat.{ℕ, ◌+◌, ◌-◌, ◌≤◌, ◌<◌}
use native.Mathlib.Omega.{arith}
use Rattle.laws.specs.Sums.{sum_from}
use Rattle.laws.proofs.SumLaws.{sum_same}
use Rattle.laws.proofs.RoundLaws.{rounded}
use Rattle.sheet.specs.Fields.{sheet_of}
use Rattle.sheet.specs.Sizes.{size_of}
use Rattle.sheet.specs.Numbers.{read_number}
use Rattle.sheet.specs.declared.Sheet.{Sheet}
use Rattle.matching.specs.Shares.{share_of, change_of}
use Rattle.pattern.specs.Pattern.{copies_of}
use Rattle.pattern.proofs.EvenLaws.{missed_at, beyond_at, dropped-within, added_within}
use Rattle.opening.proofs.OpenLaws.{accepted_in}
use Rattle.frame.specs.Frame.{start_at}
use Rattle.frame.proofs.FrameLaws.{rates}
use Rattle.demands.specs.Words.{asked_n, asked_v, Has, missed, dropped_in, sent_bits, times}
use Rattle.demands.specs.Thinned.{beyond, extra_in, Even}
use Rattle.demands.proofs.AskedLaws.{channel-zero, channel-some, size_is, share_is, sits}
use Rattle.demands.proofs.SentLaws.{sent_times}
use Rattle.demands.proofs.CountLaws.{missed-is, beyond-is}

module _ (s : List ℕ) (frame k : ℕ) (copies : ℕ → ℕ) (same : (m : ℕ) → Has s k m → copies m ≡ times m (sent_bits s frame k)) (n : 0 < asked_n s k) (a L : ℕ)
    (from : 0 < a) (to : a + L ≤ asked_n s k + 1) where
  abbrev sh : Sheet
  sh = sheet_of s

  abbrev i : ℕ
  i = k - 1

  abbrev sent : ℕ → ℕ
  sent m = copies_of (change_of sh i) (size_of sh i) (start_at sh frame i) m

  there : (read_number s ≡ 0) × (0 < k) × (i < sh.channels)
  there = channel-zero s k (channel-some s k n)

  size : asked_n s k ≡ size_of sh i
  size = size_is s there.0 k there.1 there.2

  share : asked_v s k ≡ share_of sh i
  share = share_is s there.0 k there.1 there.2

  as_sent : (j : ℕ) → j < L → copies (a + j) ≡ sent (a - 1 + j)
  as_sent j l =
      let h : Has s k (a + j) = record { channel = channel-some s k n; from = omega arith; to = omega arith } in
      let q : a + j - 1 ≡ a - 1 + j = omega arith in
      same (a + j) h ∙ sent_times s frame k (a + j) (omega arith) (sits s k (a + j) h) ∙ ap sent q

  dropped-sum : dropped_in copies a L ≡ sum_from (missed_at (change_of sh i) (size_of sh i) (start_at sh frame i)) (a - 1) L
  dropped-sum =
      sum_same (λ j. missed (copies (a + j))) (λ j. 1 - sent (a - 1 + j)) L
      (λ j l. missed-is (copies (a + j)) ∙ ap (λ (c : ℕ). 1 - c) (as_sent j l))

  extra-sum : extra_in copies a L ≡ sum_from (beyond_at (change_of sh i) (size_of sh i) (start_at sh frame i)) (a - 1) L
  extra-sum =
      sum_same (λ j. beyond (copies (a + j))) (λ j. sent (a - 1 + j) - 1) L
      (λ j l. beyond-is (copies (a + j)) ∙ ap (λ (c : ℕ). c - 1) (as_sent j l))

  pub even : Even s k copies a L
  even =
      let N = size_of sh i in
      let W = share_of sh i in
      let e = start_at sh frame i in
      let r = rates sh (accepted_in s there.0) frame i in
      let some : 0 < N = omega (arith, n, size) in
      record {
        dropped = rw (dropped-sum, size, share) (rounded (dropped-within N W e (a - 1) (change_of sh i) L some r));
        extra = rw (extra-sum, size, share) (rounded (added_within N W e (a - 1) (change_of sh i) L some r));
      }
