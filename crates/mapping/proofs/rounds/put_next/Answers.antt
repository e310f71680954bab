use Rattle.std.proofs.Common.{ℕ, ◌+◌, refl, ap}
use Rattle.mapping.proofs.rounds.put_next.Goals as goal

pub returns : goal.returns
returns c =
    let h = c.args.h in
    (ap (λ (n : ℕ). record { k = h.k + 1; a = h.b; b = h.c; c = n; wa = h.wb; wb = h.wc; wc = h.wa }) c.wrapping_add_usize.ensures.value, refl)
