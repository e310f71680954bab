-- S5: what stands at a place of any frame is what its name says, and so the label that stands there is the name that is calculated.
use mathlib.Core.Path.{◌≡◌, ap, ap₂, ◌∙◌}
use mathlib.Core.List.{List}
use Prim.Native.Nat.{ℕ, suc, ◌-◌, ◌<◌}
use native.Mathlib.Omega.{arith}
use lib.ListN.{length, get_or}
use Rattle.laws.proofs.TableLaws.{table-length, table_get}
use Rattle.sheet.specs.Fields.{sheet_of}
use Rattle.sheet.specs.Sizes.{equalised_of}
use Rattle.sheet.specs.Numbers.{read_number}
use Rattle.sheet.specs.Range.{Accepted}
use Rattle.sheet.specs.declared.Sheet.{Sheet}
use Rattle.opening.proofs.OpenLaws.{accepted_in}
use Rattle.frame.specs.Frame.{multiplexed, frame_of}
use Rattle.frame.proofs.FrameLaws.{length-multiplexed}
use Rattle.naming.specs.Name.{Name, Label, label_at, labels, copy_named, label_frame, index_of, multiplexed_at, name_of, Exists, Inside}
use Rattle.naming.proofs.Multiplexed.{multiplexed-at, name-inside}
use Rattle.naming.proofs.Slots.{index_below, placed_at}

module _ (sh : Sheet) (ok : Accepted sh) (frame subframe slot phch place : ℕ) (there : Exists sh subframe slot phch place)
  where
    -- what stands at a place of any frame is what its name says
    pub stands : {A B : Type 0} (f : A → ℕ → B) (ts : ℕ → List A) → ((i : ℕ) → i < sh.channels → length (ts i) ≡ equalised_of sh i) → (b : B) (z : A)
        → get_or (frame_of f sh frame ts) (index_of sh subframe slot phch place) b
        ≡ f (get_or (ts ((name_of sh frame subframe slot phch place).channel - 1)) ((name_of sh frame subframe slot phch place).bit - 1) z)
        (name_of sh frame subframe slot phch place).copy
    unfolding frame_of name_of
    stands f ts full b z =
        placed_at sh subframe slot phch place there ok (multiplexed f sh frame ts) b (length-multiplexed f sh ok frame ts full)
        ∙ multiplexed-at f sh ok frame ts full (multiplexed_at sh subframe slot phch place) b z (index_below sh subframe slot phch place there)

-- the channel and the bit of a place's name exist
pub named-inside : (sh : Sheet) → Accepted sh → (frame subframe slot phch place : ℕ) → Exists sh subframe slot phch place → Inside sh (name_of sh frame subframe slot phch place)
unfolding name_of
named-inside sh ok frame subframe slot phch place there =
    name-inside sh ok frame (multiplexed_at sh subframe slot phch place) (index_below sh subframe slot phch place there)

pub labels_full : (sh : Sheet) (i : ℕ) → i < sh.channels → length (labels sh i) ≡ equalised_of sh i
unfolding labels
labels_full sh i l = table-length (label_at i) 0 (equalised_of sh i)

-- the name of an existing bit, from its label
label_named : (sh : Sheet) (n : Name) → Inside sh n → (z : Label) → copy_named (get_or (labels sh (n.channel - 1)) (n.bit - 1) z) n.copy ≡ n
unfolding labels
label_named sh n s z =
    let qc : suc (n.channel - 1) ≡ n.channel = omega (arith, s.channel-from) in
    let qb : suc (n.bit - 1) ≡ n.bit = omega (arith, s.bit-from) in
    ap (λ (l : Label). copy_named l n.copy)
    (table_get (label_at (n.channel - 1)) (equalised_of sh (n.channel - 1)) (n.bit - 1) z (omega (arith, s.bit-from, s.bit-to)))
    ∙ ap₂ (λ (c b : ℕ). copy_named (record { channel = c; bit = b }) n.copy) qc qb

-- S5
pub names : (sh : Sheet) → Accepted sh → (frame subframe slot phch place : ℕ) → Exists sh subframe slot phch place → (d : Name)
    → get_or (label_frame sh frame) (index_of sh subframe slot phch place) d ≡ name_of sh frame subframe slot phch place
unfolding label_frame
names sh ok frame subframe slot phch place there d =
    let z : Label = record { channel = 0; bit = 0 } in
    stands sh ok frame subframe slot phch place there copy_named (labels sh) (labels_full sh) d z
    ∙ label_named sh (name_of sh frame subframe slot phch place) (named-inside sh ok frame subframe slot phch place there) z

-- of the bytes of any accepted sheet
pub names_read : (s : List ℕ) → read_number s ≡ 0 → (frame subframe slot phch place : ℕ) → Exists (sheet_of s) subframe slot phch place → (d : Name)
    → get_or (label_frame (sheet_of s) frame) (index_of (sheet_of s) subframe slot phch place) d ≡ name_of (sheet_of s) frame subframe slot phch place
names_read s z = names (sheet_of s) (accepted_in s z)
