use native.Mathlib.Omega.{arith}
use mathlib.Core.Path.{◌≡◌, ap, ap₂}
use Prim.Native.Nat.{ℕ, ◌+◌, ◌*◌, ◌≤◌, ◌<◌}
use Rattle.sheet.specs.Counts.{most_bits}
use Rattle.sheet.specs.Sizes.{slot_capacity, subframes_of, capacity_all}
use Rattle.sheet.specs.declared.Sheet.{Sheet}
use Rattle.opening.proofs.OpenLaws.{capacity_most}
use Rattle.frame.specs.Frame.{slot_start, subframe_start}
use Rattle.frame.proofs.FrameLaws.{share_room}
use Rattle.naming.specs.Name.{read_from}
use Rattle.naming.proofs.Slots.{bit-inside, bit-shared, read_below}
use Rattle.naming.proofs.PlacingLaws.{read_over, read_each}
use Rattle.naming.proofs.placing.read_at.Goals.{After-source_at-2, After-subframe_places-w, After-subframes-all, Start}
use Rattle.naming.proofs.placing.read_at.Goals as goal

-- the sheet, and what is known of the slot's bit
module _ (s : Start) where
  abbrev f : Sheet
  f = s.args.opened.now.fields

  below : read_from f s.args.h s.args.t s.args.k < capacity_all f
  below = read_below f s.args.h s.args.t s.args.k s.requires.0 s.requires.1 s.requires.2

  inside : subframe_start f s.args.h + (slot_start f s.args.t + s.args.k) < capacity_all f
  inside = bit-inside f s.args.h s.args.t s.args.k s.requires.0 s.requires.1 s.requires.2

  shared : s.args.h * slot_capacity f s.args.t + s.args.k < subframes_of f * slot_capacity f s.args.t
  shared = bit-shared f s.args.h s.args.t s.args.k s.requires.0 s.requires.1 s.requires.2

  room : subframes_of f * slot_start f s.args.t + subframes_of f * slot_capacity f s.args.t ≤ most_bits
  room = omega (arith, share_room f s.args.t s.requires.1, capacity_most f s.args.opened.now.accepted)

-- mode 0: the bit's index in the frame
over : (c : After-subframe_places-w)
    → (let a = c.args in
    let sh = a.opened.now.fields in
    a.h * c.subframe_places-w.result + c.slot_start-start.result + a.k ≡ subframe_start sh a.h + (slot_start sh a.t + a.k))
over c = omega (arith, c.slot_start-start.ensures, ap (λ (w : ℕ). c.args.h * w) c.subframe_places-w.ensures)

-- mode 1: where the slot's share begins, its size, and the bit's index in it
module _ (c : After-subframes-all) where
  abbrev sh : Sheet
  sh = c.args.opened.now.fields

  begins : c.subframes-all.result * c.slot_start-start.result ≡ subframes_of sh * slot_start sh c.args.t
  begins = ap₂ ◌*◌ c.subframes-all.ensures.0 c.slot_start-start.ensures

  long : c.subframes-all.result * c.slot_size-c.result ≡ subframes_of sh * slot_capacity sh c.args.t
  long = ap₂ ◌*◌ c.subframes-all.ensures.0 c.slot_size-c.ensures.0

  at : c.args.h * c.slot_size-c.result ≡ c.args.h * slot_capacity sh c.args.t
  at = ap (λ (n : ℕ). c.args.h * n) c.slot_size-c.ensures.0

each : (c : After-source_at-2)
    → (let r = c.subframes-all.result * c.slot_start-start.result + c.source_at-2.result in
    let sh = c.args.opened.now.fields in
    (r ≡ read_from sh c.args.h c.args.t c.args.k) × (r < capacity_all sh))
each c =
    let a = c.args in
    let g = (goal.at-After-source_at-2 c).After-subframes-all in
    let e =
    read_each a.opened.now.fields a.h a.t a.k (λ z. omega arith) (begins g) (long g) (ap (λ (n : ℕ). n + a.k) (at g)) c.source_at-2.ensures.0
    in
    (e, omega (arith, e, below (goal.at-After-source_at-2 c).Start))

pub overflow_add-h : goal.overflow_add-h
overflow_add-h c = omega (arith, over (goal.at.overflow_add-h c).After-subframe_places-w, inside (goal.at.overflow_add-h c).Start)

pub overflow_add-h-then-opened-eq0 : goal.overflow_add-h-then-opened-eq0
overflow_add-h-then-opened-eq0 c =
    let g = goal.at.overflow_add-h-then-opened-eq0 c in
    omega (arith, over g.After-subframe_places-w, inside g.Start)

pub source_at-requires : goal.source_at-requires
source_at-requires c =
    let g = goal.at.source_at-requires c in
    (omega (arith, over g.After-subframe_places-w, inside g.Start), c.capacity-d.ensures.1)

pub returns-then-opened-eq0 : goal.returns-then-opened-eq0
returns-then-opened-eq0 c =
    let a = c.args in
    let g = goal.at.returns-then-opened-eq0 c in
    let e = read_over a.opened.now.fields a.h a.t a.k (omega arith) c.capacity-d.ensures.0 (over g.After-subframe_places-w) c.source_at.ensures.0 in
    (e, omega (arith, e, below g.Start))

pub overflow_mul-result : goal.overflow_mul-result
overflow_mul-result c =
    let g = goal.at.overflow_mul-result c in
    omega (arith, begins g.After-subframes-all, room g.Start)

pub source_at-requires-2 : goal.source_at-requires-2
source_at-requires-2 c =
    let g = goal.at.source_at-requires-2 c in (
      omega (arith, at g.After-subframes-all, long g.After-subframes-all, shared g.Start),
      omega (arith, long g.After-subframes-all, room g.Start),
    )

pub overflow_add-result : goal.overflow_add-result
overflow_add-result c =
    let g = goal.at.overflow_add-result c in
    omega (arith, (each g.After-source_at-2).1, capacity_most (f g.Start) c.args.opened.now.accepted)

pub returns : goal.returns
returns c = each (goal.at.returns c).After-source_at-2
