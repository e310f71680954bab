use Rattle.std.proofs.Common.{ℕ, ◌-◌, ◌*◌, refl, ap}
use Rattle.mapping.proofs.HandLaws.{handed_starts}
use Rattle.mapping.proofs.rounds.start.Goals as goal

pub returns : goal.returns
returns c =
    let p = c.requires in
    (refl, handed_starts p.0 p.1 p.2 refl (refl, refl) (ap (λ (n : ℕ). 2 * c.args.u - n) c.min.ensures, c.wrapping_sub_usize.ensures.value) (refl, refl))
