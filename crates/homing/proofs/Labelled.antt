-- Every received frame is the frame of labels with each label replaced by a soft value, since no two places of a frame have one name.
use mathlib.Core.Path.{◌≡◌, refl, sym, ap, ap₂, ◌∙◌}
use mathlib.Core.List.{List, [], ◌∷◌, map}
use Prim.Native.Nat.{ℕ, zero, suc, ◌<◌}
use native.Mathlib.Decide.{ℕ_discrete}
use native.Mathlib.Omega.{arith}
use lib.Ieee.{Float, nan}
use lib.ListN.{length, get_or, length-map}
use lib.Seq.{ext_get_or}
use Rattle.laws.proofs.PartLaws.{map_at}
use Rattle.sheet.specs.Sizes.{capacity_all}
use Rattle.sheet.specs.Range.{Accepted}
use Rattle.sheet.specs.declared.Sheet.{Sheet}
use Rattle.frame.proofs.FrameLaws.{length-frame}
use Rattle.naming.specs.Name.{Name, copy_named, labels, label_frame, index_of, name_of, Exists}
use Rattle.naming.proofs.Named.{labels_full, names}
use Rattle.naming.proofs.Places.{index_onto}
use Rattle.naming.proofs.Nowhere.{labels_apart}

-- ---- the value that stands where a name does, in a list of names and one of values

abbrev make : ℕ → ℕ → ℕ → Name
make c b j = record { channel = c; bit = b; copy = j }

alike : (n m : Name) → Dec (n ≡ m)
alike n m = by (ℕ_discrete n.channel m.channel) (ℕ_discrete n.bit m.bit) (ℕ_discrete n.copy m.copy)
  where
    by : Dec (n.channel ≡ m.channel) → Dec (n.bit ≡ m.bit) → Dec (n.copy ≡ m.copy) → Dec (n ≡ m)
    by (yes a) (yes b) (yes c) =
        yes (ap₂ (λ (x : ℕ) (y : ℕ). make x y n.copy) a b ∙ ap (make m.channel m.bit) c)
    by (no a) b c = no (λ e. a (ap (λ (x : Name). x.channel) e))
    by (yes a) (no b) c = no (λ e. b (ap (λ (x : Name). x.bit) e))
    by (yes a) (yes b) (no c) = no (λ e. c (ap (λ (x : Name). x.copy) e))

pick : {P : Type 0} → Dec P → Float → Float → Float
pick (yes p) v w = v
pick (no p) v w = w

looked : List Name → List Float → Name → Float
looked [] vs n = nan
looked (m ∷ ms) [] n = nan
looked (m ∷ ms) (v ∷ vs) n = pick (alike m n) v (looked ms vs n)

looked-at : (ns : List Name) (vs : List Float) (x : ℕ) (d : Name) (z : Float) → length ns ≡ length vs → x < length ns
    → ((y : ℕ) → y < x → get_or ns y d ≡ get_or ns x d → ⊥) → looked ns vs (get_or ns x d) ≡ get_or vs x z
unfolding looked pick
looked-at [] vs x d z e h apart = absurd (omega arith)
looked-at (m ∷ ms) [] x d z e h apart = absurd (omega arith)
looked-at (m ∷ ms) (v ∷ vs) zero d z e h apart = by (alike m m)
  where
    by : (c : Dec (m ≡ m)) → pick c v (looked ms vs m) ≡ v
    by (yes p) = unfold pick in refl
    by (no p) = absurd (p refl)
looked-at (m ∷ ms) (v ∷ vs) (suc x) d z e h apart =
    by (alike m (get_or ms x d)) (looked-at ms vs x d z (omega arith) (omega arith) (λ y l. apart (suc y) (omega arith)))
  where
    by : (c : Dec (m ≡ get_or ms x d)) → looked ms vs (get_or ms x d) ≡ get_or vs x z → pick c v (looked ms vs (get_or ms x d)) ≡ get_or vs x z
    by (yes p) q = absurd (apart 0 (omega arith) p)
    by (no p) q = unfold pick in q

-- ---- the frame

pub length-labels : (sh : Sheet) → Accepted sh → (number : ℕ) → length (label_frame sh number) ≡ capacity_all sh
unfolding label_frame
length-labels sh ok number = length-frame copy_named sh ok number (labels sh) (labels_full sh)

-- each place of D soft values has the value f of its name
pub labelled : (sh : Sheet) → Accepted sh → (number : ℕ) (frame : List Float) → length frame ≡ capacity_all sh
    → (f : Name → Float) × (frame ≡ map f (label_frame sh number))
labelled sh ok number frame full =
    let ns = label_frame sh number in
    let o : Name = record { channel = 0; bit = 0; copy = 0 } in
    let f = looked ns frame in
    let long = length-labels sh ok number in (
      f,
      ext_get_or nan frame (map f ns) (full ∙ sym (length-map ns f ∙ long))
          (λ x h.
          sym
          (map_at f ns x nan o (omega arith)
          ∙ looked-at ns frame x o nan (omega arith) (omega arith)
          (λ y l e. let q : y ≡ x = labels_apart sh ok number y x o (omega arith) (omega arith) e in omega arith))),
    )

-- where the soft value at each place is f of the name that is calculated for it
pub by_names : (sh : Sheet) → Accepted sh → (number : ℕ) (f : Name → Float) (frame : List Float) → length frame ≡ capacity_all sh
    → ((subframe slot phch place : ℕ) → Exists sh subframe slot phch place
    → get_or frame (index_of sh subframe slot phch place) nan ≡ f (name_of sh number subframe slot phch place))
    → frame ≡ map f (label_frame sh number)
by_names sh ok number f frame full at =
    let ns = label_frame sh number in
    let o : Name = record { channel = 0; bit = 0; copy = 0 } in
    let long = length-labels sh ok number in
    ext_get_or nan frame (map f ns) (full ∙ sym (length-map ns f ∙ long))
    (λ x h.
    let a = index_onto sh x (omega arith) in
    ap (λ (k : ℕ). get_or frame k nan) (sym a.index)
    ∙ at a.subframe a.slot a.phch a.place a.there
    ∙ ap f (sym (names sh ok number a.subframe a.slot a.phch a.place a.there o))
    ∙ ap (λ (k : ℕ). f (get_or ns k o)) a.index
    ∙ sym (map_at f ns x nan o (omega arith)))
